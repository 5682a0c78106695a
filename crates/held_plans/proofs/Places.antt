-- What `position` finds among the first plans of an array is the lowest place that passes.
-- Assumes nothing.
use Rattle.std.specs.Prelude.{◌≡◌, refl, Bool, true, false, List, cond, ℕ, ◌≤◌, ltb, Some, None, length, take}
use Rattle.std.proofs.Common.{sym, ap, ◌∙◌, arith, get_or-take, length-take-le}
use Rattle.std.specs.List.{position, position_or_len}
use Rattle.std.specs.Option.{unwrap_or}
use Rattle.std.proofs.lemmas.List.Recursion.{is_position_or_len}
use Rattle.fold.specs.Fold.{lowest, lowest_le}
use Rattle.fold.specs.Sums.{lowest_ext}
use Rattle.held_plans.specs.declared.HeldPlan.{HeldPlan}
use Rattle.held_plans.specs.Words.{no_plan, plan_at}

lowest_is : (p : HeldPlan → Bool) (a : List HeldPlan) → lowest (length a) (λ k. p (plan_at a k)) ≡ position_or_len p a
unfolding lowest
lowest_is p a = is_position_or_len (λ b. lowest (length b) (λ k. p (plan_at b k))) p refl (λ x b. ap (cond (p x) 0) (omega arith)) a

or_end : (n m : ℕ) (b : Bool) → ltb m n ≡ b → m ≤ n → unwrap_or (cond b (Some m) None) n ≡ m
or_end n m true e l = refl
or_end n m false e l = grind arith

pub place_is : (p : HeldPlan → Bool) (a : List HeldPlan) (n : ℕ) → n ≤ length a → unwrap_or (position p (take n a)) n ≡ lowest n (λ k. p (plan_at a k))
place_is p a n h =
    let long : length (take n a) ≡ n = length-take-le n a h in
    let all : lowest n (λ k. p (plan_at (take n a) k)) ≡ position_or_len p (take n a) = ap (λ m. lowest m (λ k. p (plan_at (take n a) k))) (sym long) ∙ lowest_is p (take n a) in
    ap (λ m. unwrap_or (cond (ltb (position_or_len p (take n a)) m) (Some (position_or_len p (take n a))) None) n) long
    ∙ or_end n (position_or_len p (take n a)) (ltb (position_or_len p (take n a)) n) refl (omega (arith, all, lowest_le n (λ k. p (plan_at (take n a) k))))
    ∙ sym all
    ∙ lowest_ext n (λ k. p (plan_at (take n a) k)) (λ k. p (plan_at a k)) (λ k l. ap p (get_or-take n a k no_plan l))
