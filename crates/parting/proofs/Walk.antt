-- Laws of Walk.antt of specs/.
-- The walk through a text: a loop looks for the next empty line from a place where a line begins; what lies between is the first day of
-- the rest of the text.
-- Assumes nothing.
use Rattle.std.specs.Prelude.{◌≡◌, refl, Bool, false, cond, ◌&&◌, ℕ, suc, ◌+◌, ◌-◌, ◌≤◌, ◌<◌, leb, eqb, length, get_or, take, drop}
use Rattle.std.proofs.Common.{sym, ◌∙◌, add-one, arith, length-drop, drop_of_length-le, take-suc, drop-cons, get_or-drop, le-leb}
use Rattle.std.proofs.Math.Path.{ap, ap₂}
use Rattle.std.proofs.Math.Bool.{true}
use mathlib.Core.List.{List, [], ◌∷◌, ◌++◌, append_assoc, append-nil}
use Rattle.std.proofs.lemmas.Bool.{lt-leb}
use Rattle.parting.specs.Parting.{before, days_from, days}
use Rattle.parting.proofs.Laws.{days_are, days_none, days-count}
use Rattle.parting.specs.Walk.{part, behind, Passed, NextEmpty, CountedTo}

behind-byte : (p : List ℕ) (c : ℕ) (ds : List (List ℕ)) → behind p (before c ds) ≡ behind (p ++ (c ∷ [])) ds
behind-byte p c [] = refl
behind-byte p c (d ∷ ds) = ap (λ (x : List ℕ). x ∷ ds) (sym (append_assoc p (c ∷ []) d))

behind_none : (start : Bool) (s : List ℕ) → behind [] (days_from start s) ≡ days_from start s
behind_none start s = go (days_from start s) (days-count start s)
  where
    go : (ds : List (List ℕ)) {k : ℕ} → length ds ≡ suc k → behind [] ds ≡ ds
    go [] e = absurd (omega arith)
    go (d ∷ ds) e = refl

pub passed_none : (text : List ℕ) (at : ℕ) → at ≤ length text → Passed text at at true
passed_none text at h =
    let z : at - at ≡ 0 = omega arith in
    record { since = omega arith; inside = h; rest = sym (ap (λ k. behind (take k (drop at text)) (days_from true (drop at text))) z ∙ behind_none true (drop at text)) }

module _ {text : List ℕ} {at i : ℕ} {start : Bool} (p : Passed text at i start) (h : i < length text) where
  part-next : part text at (i + 1) ≡ part text at i ++ (get_or text i 0 ∷ [])
  part-next =
      let since = p.since in
      let e : i + 1 - at ≡ suc (i - at) = omega arith in
      let k : at + (i - at) ≡ i = omega arith in
      ap (λ k. take k (drop at text)) e ∙ take-suc (drop at text) (i - at) 0 (omega (arith, length-drop at text))
      ∙ ap (λ (x : ℕ). part text at i ++ (x ∷ [])) (get_or-drop at text (i - at) 0 ∙ ap (λ k. get_or text k 0) k)

  -- the byte at i is no empty line
  pub passed_next : (start && eqb (get_or text i 0) 10) ≡ false → Passed text at (i + 1) (eqb (get_or text i 0) 10)
  unfolding days_from
  passed_next e = record {
    since = omega (arith, p.since);
    inside = omega arith;
    rest = p.rest
        ∙ ap (λ (s : List ℕ). behind (part text at i) (days_from start s)) (drop-cons text i 0 h)
        ∙ ap (λ b. behind (part text at i) (cond b ([] ∷ days_from true (drop (suc i) text)) (before (get_or text i 0) (days_from (eqb (get_or text i 0) 10) (drop (suc i) text))))) e
        ∙ behind-byte (part text at i) (get_or text i 0) (days_from (eqb (get_or text i 0) 10) (drop (suc i) text))
        ∙ ap₂ (λ (q : List ℕ) (k : ℕ). behind q (days_from (eqb (get_or text i 0) 10) (drop k text))) (sym part-next) (sym (add-one i));
  }

  -- it is one
  pub passed_empty : (start && eqb (get_or text i 0) 10) ≡ true → days_from true (drop at text) ≡ part text at i ∷ days_from true (drop (i + 1) text)
  unfolding days_from
  passed_empty e =
      p.rest
      ∙ ap (λ (s : List ℕ). behind (part text at i) (days_from start s)) (drop-cons text i 0 h)
      ∙ ap (λ b. behind (part text at i) (cond b ([] ∷ days_from true (drop (suc i) text)) (before (get_or text i 0) (days_from (eqb (get_or text i 0) 10) (drop (suc i) text))))) e
      ∙ ap₂ (λ (q : List ℕ) (k : ℕ). q ∷ days_from true (drop k text)) (append-nil (part text at i)) (sym (add-one i))

-- the end of the text: the last day
pub passed_end : {text : List ℕ} {at i : ℕ} {start : Bool} → Passed text at i start → length text ≤ i → days_from true (drop at text) ≡ part text at i ∷ []
unfolding days_from
passed_end {text} {at} {i} {start} p h =
    p.rest ∙ ap (λ (s : List ℕ). behind (part text at i) (days_from start s)) (drop_of_length-le text h) ∙ ap (λ (q : List ℕ). q ∷ []) (append-nil (part text at i))

module _ (most : ℕ) (text : List ℕ) where
  pub counted_empty : length text ≤ 0 → true ≡ leb (length (days text)) most
  counted_empty h = sym (le-leb (length (days text)) most (omega (arith, ap length (days_none text h))))

  pub counted_none : 0 < length text → CountedTo most text 0 0
  counted_none h = record { some = h; count = omega (arith, ap length (days_are text h)); inside = omega arith; few = omega arith }

  module _ {at n : ℕ} (c : CountedTo most text at n) where
    -- another day begins here
    pub counted_more : most ≤ n → false ≡ leb (length (days text)) most
    counted_more h = sym (lt-leb (length (days text)) most (omega (arith, c.count, days-count true (drop at text))))

    module _ {end : ℕ} (e : NextEmpty text at end) (h : n < most) where
      pub counted_next : end < length text → CountedTo most text (end + 1) (n + 1)
      counted_next g = record { some = c.some; count = omega (arith, c.count, ap length (e.found g)); inside = omega arith; few = omega arith }

      pub counted_last : length text ≤ end → true ≡ leb (length (days text)) most
      counted_last g = sym (le-leb (length (days text)) most (omega (arith, c.count, ap length (e.ended g))))
