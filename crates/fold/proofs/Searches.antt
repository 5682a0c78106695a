-- The place that `xs[..n].iter().position(f)` gives is the lowest index below n that passes.
-- Assumes nothing.
use Rattle.std.specs.Prelude.{◌≡◌, Bool, true, false, cond, List, Option, None, Some, MatchOption, ℕ, ◌≤◌, ◌<◌, length, get_or, take}
use Rattle.std.proofs.Common.{sym, ap, ◌∙◌, arith, ⊎_elim, lt-ltb, le-ltb, length-take-le}
use Rattle.std.proofs.lemmas.List.{get_or-take}
use Rattle.std.proofs.lemmas.List.Sums.{position_or_len_is}
use Rattle.std.proofs.lemmas.Iterator.{YieldsList-from_slice}
use Rattle.std.proofs.lemmas.Iterator.Search.{position_from_yields_List}
use Rattle.std.proofs.iter.Yields.{fronts}
use Rattle.std.specs.Fn.{Called}
use Rattle.std.specs.Iterator.{YieldsThen}
use Rattle.std.specs.List.{position, position_or_len, FoldsTo}
use Rattle.std.specs.Slice.Iter.{iter_rest}
use Rattle.std.specs.declared.slice.Iter.{Iter}
use denote.Param.Members.{Mut}
use denote.Ref.{Bor}
use Rattle.std.specs.Option.{unwrap_or}
use Rattle.fold.specs.Test.{is_true, is_false}
use Rattle.fold.specs.Counting.{le_or_lt}
use Rattle.fold.specs.Fold.{lowest, lowest_le, lowest-before, lowest-passes}
use Rattle.fold.specs.Sums.{lowest_ext}

module _ {X : Type 0} (p : X → Bool) (d : X) where
  at_lowest : (xs : List X) → position_or_len p xs ≡ lowest (length xs) λ i. p (get_or xs i d)
  at_lowest xs =
      let test : ℕ → Bool = λ i. p (get_or xs i d) in
      position_or_len_is p xs (lowest (length xs) test) d (lowest_le (length xs) test) (λ k h. is_false (test k) (lowest-before (length xs) test k h))
      (λ h. is_true (test (lowest (length xs) test)) (lowest-passes (length xs) test h))

  or_length : (xs : List X) → unwrap_or (position p xs) (length xs) ≡ position_or_len p xs
  or_length xs =
      let at = position_or_len p xs in
      let most : at ≤ length xs = omega (arith, at_lowest xs, lowest_le (length xs) (λ i. p (get_or xs i d))) in
      ⊎_elim (λ (h : length xs ≤ at). ap (λ b. unwrap_or (cond b (Some at) None) (length xs)) (le-ltb at (length xs) h) ∙ omega arith)
      (λ (h : at < length xs). ap (λ b. unwrap_or (cond b (Some at) None) (length xs)) (lt-ltb at (length xs) h)) (le_or_lt (length xs) at)

  pub first_position : (xs : List X) (n : ℕ) → n ≤ length xs → unwrap_or (position p (take n xs)) n ≡ lowest n λ i. p (get_or xs i d)
  first_position xs n h =
      let long : length (take n xs) ≡ n = length-take-le n xs h in
      ap (unwrap_or (position p (take n xs))) (sym long) ∙ or_length (take n xs) ∙ at_lowest (take n xs)
      ∙ ap (λ m. lowest m λ i. p (get_or (take n xs) i d)) long ∙ lowest_ext n (λ i. p (get_or (take n xs) i d)) (λ i. p (get_or xs i d)) (λ i l. ap p (get_or-take n xs i d l))

  module _ {F : Type 0} (g : Mut F (Bor X × Unit {0}) Bool) (f : F) (gives : (x : Bor X) (b : Bool) (q : F) → Called g f (x, tt) b q → (q ≡ f) × (b ≡ p x.now))
      (s u : Iter X) (xs : List X) (n : ℕ) (enough : n ≤ length xs) (rest : iter_rest s ≡ take n xs) where
    pub place_in_front : (r : Option ℕ)
        → (zs : List (Bor X)) × (o : Option (Bor X)) × (j : F) × YieldsThen fronts s zs o u × FoldsTo (λ p x q. Called g p (x, tt) false q) f zs j
        × MatchOption o (r ≡ None) (λ x. (r ≡ Some (length zs)) × ((h : F) × Called g j (x, tt) true h))
        → unwrap_or r n ≡ lowest n λ i. p (get_or xs i d)
    place_in_front r ran = ap (λ r. unwrap_or r n) (position_from_yields_List p u f r ran (YieldsList-from_slice (take n xs) rest) gives) ∙ first_position xs n enough
