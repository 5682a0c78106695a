-- Positions: where a number stands among rising ones, which position a train had before another left or came, and what is past the trains.
-- Assumes nothing.
use Rattle.std.specs.Prelude.{◌≡◌, not, List, ◌⊎◌, T, ltb, eqb, length, get_or}
use Rattle.std.proofs.Common.{sym, inl, inr, eq-or-lt_of_le, arith, ltb→lt, lt→ltb, leb→le, le→leb, lt-ltb, le-ltb, eq-eqb, ne_eqb}
use Rattle.std.proofs.Math.Path.{subst}
use Rattle.std.proofs.Math.Logic.{⊎_elim}
use Prim.Native.Nat.{ℕ, suc, ◌-◌, ◌≤◌, ◌<◌}
use Rattle.std.proofs.Math.Dec.{leb, eqb→eq}
use Rattle.std.proofs.Math.ListN.{get_or-eq_default}
use Rattle.fold.specs.Test.{of_true, both, both_of, not_of}
use Rattle.fold.specs.Fold.{lowest_le, lowest-passes, lowest-before}
use Rattle.fold.specs.Counting.{le_or_lt}
use Rattle.model.specs.Model.{Yard}
use Rattle.day.specs.declared.Limits.{Limits}
use Rattle.rolling.specs.Rolling.{place_of, is_listed, source_without, source_with}
use Rattle.day.specs.SoundDay.{SoundDay, number_at, rises}

-- ---- the position that a train had

pub without_before : (p i : ℕ) → i < p → source_without p i ≡ i
unfolding source_without
without_before p i h = rw (lt-ltb i p h)

pub without_after : (p i : ℕ) → p ≤ i → source_without p i ≡ suc i
unfolding source_without
without_after p i h = rw (le-ltb i p h)

pub with_before : (n p i : ℕ) → i < p → source_with n p i ≡ i
unfolding source_with
with_before n p i h = rw (lt-ltb i p h)

pub with_here : (n p i : ℕ) → i ≡ p → source_with n p i ≡ n
unfolding source_with
with_here n p i e = rw (le-ltb i p (omega arith), eq-eqb i p e)

pub with_after : (n p i : ℕ) → p < i → source_with n p i ≡ i - 1
unfolding source_with
with_after n p i h = rw (le-ltb i p (omega arith), ne_eqb i p (λ e. omega arith))

-- i stands before p, at p, or after it
pub before_or : (i p : ℕ) → (i < p) ⊎ ((i ≡ p) ⊎ (p < i))
before_or i p =
    ⊎_elim (λ (h : p ≤ i). inr (⊎_elim (λ (e : p ≡ i). inl (sym e)) (λ (k : p < i). inr k) (eq-or-lt_of_le h))) (λ (h : i < p). inl h) (le_or_lt p i)

-- ---- where a number stands

module _ (y : Yard) (x : ℕ) where
  pub place_le : place_of y x ≤ y.trains
  unfolding place_of
  place_le = lowest_le y.trains λ i. leb x (number_at y i)

  -- the numbers before it are lower
  pub place_before : (i : ℕ) → i < place_of y x → number_at y i < x
  unfolding place_of
  place_before i h =
      ⊎_elim (λ (k : x ≤ number_at y i). absurd (lowest-before y.trains (λ i. leb x (number_at y i)) i h (le→leb x (number_at y i) k))) (λ (k : number_at y i < x). k) (le_or_lt x (number_at y i))

  pub listed_there : T (is_listed y x) → (place_of y x < y.trains) × (number_at y (place_of y x) ≡ x)
  unfolding is_listed
  listed_there t =
      let (a, b) = both_of (ltb (place_of y x) y.trains) (eqb (number_at y (place_of y x)) x) t in
      (ltb→lt _ _ a, eqb→eq _ _ b)

  -- a number that is not listed is lower than those from its place on
  pub place_after : (l : Limits) → SoundDay l y → T (not (is_listed y x)) → (i : ℕ) → place_of y x ≤ i → i < y.trains → x < number_at y i
  unfolding is_listed
  place_after l s t i h k =
      let p : ℕ = place_of y x in
      let low : x ≤ number_at y p = unfold place_of in (leb→le x (number_at y p) (lowest-passes y.trains (λ i. leb x (number_at y i)) (omega arith))) in
      let other : number_at y p ≡ x → ⊥ = λ e.
      not_of (is_listed y x) t (both (ltb p y.trains) (eqb (number_at y p) x) (lt→ltb p y.trains (omega arith)) (of_true (eq-eqb (number_at y p) x e))) in
      ⊎_elim (λ (e : p ≡ i). subst (λ j. x < number_at y j) e (⊎_elim (λ (q : x ≡ number_at y p). absurd (other (sym q))) (λ (q : x < number_at y p). q) (eq-or-lt_of_le low)))
      (λ (m : p < i). let r = rises l y s p i m k in omega arith) (eq-or-lt_of_le h)

-- ---- columns of a day

-- 0 past the trains, also behind the list
pub zeros_past : (c : List ℕ) {w m : ℕ} → length c ≡ w → ((i : ℕ) → m ≤ i → i < w → get_or c i 0 ≡ 0) → (i : ℕ) → m ≤ i → get_or c i 0 ≡ 0
zeros_past c {w} long zeros i h =
    ⊎_elim (λ (k : w ≤ i). get_or-eq_default c 0 (omega arith)) (λ (k : i < w). zeros i h k) (le_or_lt w i)
