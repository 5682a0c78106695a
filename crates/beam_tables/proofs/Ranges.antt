-- What `any` finds over a range: an index below its end that passes.
-- Assumes nothing.
use Rattle.std.specs.Prelude.{◌≡◌, refl, Bool, ◌||◌, List, ℕ, zero, suc, ◌≤◌, length, get_or, take}
use Rattle.std.specs.List.{list_any, range_with_len}
use Rattle.std.proofs.Common.{sym, ap, ◌∙◌, add-one, arith}
use Rattle.std.proofs.Math.Seq.{take_all}
use Rattle.std.proofs.lemmas.List.Folds.{list_any_more}
use Rattle.std.proofs.lemmas.List.FromFn.{length-range_with_len, get_or-range_with_len}
use Rattle.fold.specs.Fold.{some}
use Rattle.fold.specs.Sums.{some_ext}

any_front : (p : ℕ → Bool) (xs : List ℕ) (n : ℕ) → n ≤ length xs → list_any p (take n xs) ≡ some n (λ k. p (get_or xs k 0))
unfolding some
any_front p xs zero h = refl
any_front p xs (suc n) h =
    ap (λ m. list_any p (take m xs)) (sym (add-one n)) ∙ list_any_more p xs n 0 h ∙ ap (λ b. b || p (get_or xs n 0)) (any_front p xs n (omega arith))

pub any_range : (p : ℕ → Bool) (n : ℕ) → list_any p (range_with_len 0 n) ≡ some n p
any_range p n =
    let xs = range_with_len 0 n in
    let long = length-range_with_len 0 n in
    sym (ap (list_any p) (take_all n xs (omega (arith, long)))) ∙ any_front p xs n (omega (arith, long))
    ∙ some_ext n (λ k. p (get_or xs k 0)) p (λ k l. ap p (get_or-range_with_len 0 n k 0 l ∙ omega arith))
