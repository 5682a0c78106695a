-- A names line by the slice's own test, a field by its value and its last byte, and a row as its fields are read one after the other.
use Rattle.std.proofs.Common.{get_or-set_other, length-set, min, ⊎_elim, ◌≡◌, refl, Bool, true, false, List, [], ◌∷◌, ◌++◌, ℕ, zero, suc, ◌+◌, ◌-◌, ◌≤◌, ◌<◌, eqb, length, get_or, take, drop, set, replicate, sym, ap, ◌∙◌, subst, append_assoc, append-nil, arith, length-append, length-drop, length-take, add-one}
use Rattle.std.proofs.lemmas.List.{get_or_past, get_or-take, drop-drop, take_all}
use Rattle.std.proofs.lemmas.Slice.Eq.{starts_is}
use Rattle.std.proofs.lemmas.Bool.Decides.{Decides-eqb}
use Rattle.std.proofs.lemmas.Bool.{false≢true}
use Rattle.std.proofs.Math.Seq.{take-suc-set}
use Rattle.std.proofs.lemmas.Grind.{common_steps}
use Rattle.std.specs.List.{starts_with}
use Rattle.std.specs.Bool.{then_some}
use Rattle.fold.specs.Counting.{le_or_lt}
use Rattle.decimal.specs.Parsed.{Parsed, fail, got, and_then}
use Rattle.decimal.specs.Decimal.{value}
use Rattle.decimal.specs.PlaceLaws.{at_end}
use Rattle.lines.specs.Lines.{names, field, row}
use Rattle.lines.specs.Laws.{names_written, names_read}
use Rattle.lines.specs.Reader.{row_found, RowAt, NamesTo}
use Rattle.lines.specs.ReaderLaws.{byte_end, byte_other, byte_is}

-- ---- a names line

not_there : (word s : List ℕ) → ((r : List ℕ) → s ≡ word ++ r → ⊥) → names word s ≡ fail
not_there word s h = go (names word s) refl
  where
    go : (p : Parsed (Unit {0})) → names word s ≡ p → p ≡ fail
    go fail e = refl
    go (got u r) e = absurd (h r (names_read word s u r e))

pub names_is : (word s : List ℕ) (b : Bool) → b ≡ starts_with eqb s word
    → (b ≡ true → names word s ≡ got tt (drop (length word) s)) × (b ≡ false → names word s ≡ fail)
names_is word s b is =
    let (there, whole) = starts_is Decides-eqb s word b is in (
      (λ e. ap (names word) (there e) ∙ names_written word (drop (length word) s)),
      (λ e. not_there word s λ r f. false≢true (sym e ∙ whole r f)),
    )

same_rest : (t : List ℕ) (at : ℕ) → drop at t ≡ drop (min at (length t)) t
same_rest t at = ⊎_elim (λ h. ap (λ k. drop k t) (omega arith)) (λ h. rw (at_end t at (omega arith), at_end t (min at (length t)) (omega arith)) refl) (le_or_lt at (length t))

pub names_to : (t word : List ℕ) (at start : ℕ) (b : Bool) → start ≡ min at (length t)
    → b ≡ starts_with eqb (take (length t - start) (drop start t)) word
    → NamesTo t (names word (drop at t)) (then_some b (start + length word))
names_to t word at start b is test = subst (λ s. NamesTo t (names word s) (then_some b (start + length word))) (sym place) (go b refl)
  where
    place : drop at t ≡ drop start t
    place = same_rest t at ∙ ap (λ k. drop k t) (sym is)

    whole : take (length t - start) (drop start t) ≡ drop start t
    whole = take_all (length t - start) (drop start t) (omega (arith, length-drop start t))

    said : (b ≡ true → names word (drop start t) ≡ got tt (drop (length word) (drop start t))) × (b ≡ false → names word (drop start t) ≡ fail)
    said = names_is word (drop start t) b (test ∙ ap (λ s. starts_with eqb s word) whole)

    go : (r : Bool) → b ≡ r → NamesTo t (names word (drop start t)) (then_some r (start + length word))
    go true e =
        let read = said.0 e in
        let text = names_read word (drop start t) tt (drop (length word) (drop start t)) read in
        let long : length (drop start t) ≡ length word + length (drop (length word) (drop start t)) = ap length text ∙ length-append word (drop (length word) (drop start t)) in
        record { read = read ∙ ap (got tt) (drop-drop (length word) start t); inside = omega (arith, long, length-drop start t, is) }
    go false e = said.1 e

-- ---- a value and the byte that ends it

pub no_value : (e : ℕ) (s : List ℕ) → value s ≡ fail → field e s ≡ fail
unfolding field
no_value e s f = rw f

module _ (t : List ℕ) (e : ℕ) (s : List ℕ) (v next : ℕ) (read : value s ≡ got v (drop next t)) where
  pub no_byte : length t ≤ next → field e s ≡ fail
  unfolding field
  no_byte h = rw (read, byte_end t next e h)

  pub other_byte : next < length t → (get_or t next 0 ≡ e → ⊥) → field e s ≡ fail
  unfolding field
  other_byte h n = rw (read, byte_other t next e h n)

  pub ended : next < length t → get_or t next 0 ≡ e → field e s ≡ got v (drop (next + 1) t)
  unfolding field
  ended h n = rw (read, byte_is t next e h n)

-- ---- a row, one field after the other

-- n values, none where n is 0
unfoldable pub left : ℕ → List ℕ → Parsed (List ℕ)
left zero s = got [] s
left (suc k) s = row k s

-- those that are read after the values vs
unfoldable pub after : List ℕ → Parsed (List ℕ) → Parsed (List ℕ)
after vs fail = fail
after vs (got ws r) = got (vs ++ ws) r

after_none : (p : Parsed (List ℕ)) → after [] p ≡ p
unfolding after
after_none fail = refl
after_none (got ws r) = refl

after_one : (vs : List ℕ) (v : ℕ) (p : Parsed (List ℕ)) → after vs (after (v ∷ []) p) ≡ after (vs ++ v ∷ []) p
unfolding after
after_one vs v fail = refl
after_one vs v (got ws r) = ap (λ l. got l r) (sym (append_assoc vs (v ∷ []) ws))

-- e is the byte that ends a field behind which k are left
pub record EndsField (k e : ℕ) : Type 0 where
  pub last : k ≡ 0 → e ≡ 10
  pub others : 0 < k → e ≡ 32

left_fails : (k e : ℕ) (s : List ℕ) → EndsField k e → field e s ≡ fail → left (suc k) s ≡ fail
unfolding left row
left_fails zero e s is f = let b : e ≡ 10 = is.last refl in let g : field 10 s ≡ fail = rw b at f in rw g
left_fails (suc k) e s is f = let b : e ≡ 32 = is.others (omega arith) in let g : field 32 s ≡ fail = rw b at f in rw g

left_goes : (k e : ℕ) (s : List ℕ) (v : ℕ) (r : List ℕ) → EndsField k e → field e s ≡ got v r → left (suc k) s ≡ after (v ∷ []) (left k r)
unfolding left row after
left_goes zero e s v r is f = let b : e ≡ 10 = is.last refl in let g : field 10 s ≡ got v r = rw b at f in rw g
left_goes (suc k) e s v r is f = let b : e ≡ 32 = is.others (omega arith) in let g : field 32 s ≡ got v r = rw b at f in rw g (go (row k r))
  where
    go : (p : Parsed (List ℕ)) → and_then p (λ vs q. got (v ∷ vs) q) ≡ after (v ∷ []) p
    go fail = refl
    go (got ws q) = refl

-- i of n values were read, up to the place `next`; the other fields hold 0
pub record RowSoFar (n : ℕ) (t : List ℕ) (s fields : List ℕ) (i next : ℕ) : Type 0 where
  pub goes : row (n - 1) s ≡ after (take i fields) (left (n - i) (drop next t))
  pub zeros : (k : ℕ) → i ≤ k → get_or fields k 0 ≡ 0
  pub size : length fields ≡ 5
  pub inside : 0 < i → next ≤ length t

module _ (n : ℕ) (t : List ℕ) where
  pub row_start : (at : ℕ) → 1 ≤ n → RowSoFar n t (drop at t) (replicate 5 0) 0 at
  unfolding left
  row_start at h = record {
    goes = let e : n - 0 ≡ suc (n - 1) = omega arith in rw e (sym (after_none (row (n - 1) (drop at t))));
    zeros = λ k l. grind (arith, common_steps);
    size = refl;
    inside = λ h. absurd (omega arith);
  }

  module _ {s fields : List ℕ} {i next : ℕ} (g : RowSoFar n t s fields i next) where
    module _ (e : ℕ) (more : i < n) (is : EndsField (n - suc i) e) where
      one : n - i ≡ suc (n - suc i)
      one = omega arith

      pub row_fails : field e (drop next t) ≡ fail → row (n - 1) s ≡ fail
      unfolding after
      row_fails f = g.goes ∙ rw (one, left_fails (n - suc i) e (drop next t) is f)

      pub row_next : (v to : ℕ) → field e (drop next t) ≡ got v (drop to t) → to ≤ length t → n ≤ 5 → RowSoFar n t s (set fields i v) (i + 1) to
      row_next v to f h few = record {
        goes = g.goes ∙ rw (one, left_goes (n - suc i) e (drop next t) v (drop to t) is f) (after_one (take i fields) v (left (n - suc i) (drop to t)) ∙ rw (add-one, take-suc-set fields i v (omega (arith, g.size))) refl);
        zeros = λ k l. get_or-set_other fields i k v 0 (omega arith) ∙ g.zeros k (omega arith);
        size = length-set fields i v ∙ g.size;
        inside = λ p. h;
      }

    same_field : (k : ℕ) → get_or fields k 0 ≡ get_or (take i fields) k 0
    same_field k =
        ⊎_elim
        (λ h. g.zeros k h ∙ sym (get_or_past (take i fields) k 0 (omega (arith, length-take {A = ℕ}))))
        (λ h. sym (get_or-take i fields k 0 h)) (le_or_lt i k)

    pub row_end : i ≡ n → 1 ≤ n → (line : ℕ) → RowAt t (row_found line (row (n - 1) s)) (get_or fields 0 0) (get_or fields 1 0) (get_or fields 2 0) (get_or fields 3 0) (get_or fields 4 0) next
    unfolding left after
    row_end e some line =
        let none : n - i ≡ 0 = omega arith in
        let read : row (n - 1) s ≡ got (take i fields) (drop next t) = g.goes ∙ rw none (ap (λ l. got l (drop next t)) (append-nil (take i fields))) in
        record {
          values = take i fields;
          is = ap (row_found line) read;
          inside = g.inside (omega arith);
          first = same_field 0;
          second = same_field 1;
          third = same_field 2;
          fourth = same_field 3;
          fifth = same_field 4;
        }
