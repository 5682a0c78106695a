-- A complete result of either procedure, one that leaves no train without a slot, fits a sound day. The procedures do not look at groups, so
-- it is allowed where it keeps them.
-- Assumes nothing.
use Rattle.std.specs.Prelude.{◌≡◌, List, ℕ, ◌<◌, T}
use Rattle.std.proofs.Common.{subst, sym}
use Rattle.fold.specs.Fold.{lowest-before}
use Rattle.model.specs.Model.{Yard, fitting}
use Rattle.day.specs.Sound.{sound}
use Rattle.day.specs.SoundLaws.{sound_is}
use Rattle.day.specs.declared.Limits.{Limits}
use Rattle.procedures.specs.Procedures.{waits, left_over, first_come, myopic}
use Rattle.procedures.specs.Underway.{Underway, complete_fits, first_underway, myopic_underway}

module _ (l : Limits) (y : Yard) (s : T (sound l y)) where
  from_underway : (row : List ℕ) → Underway y row → left_over y.trains row ≡ y.trains → T (fitting y row)
  from_underway row u none =
      let windows = (sound_is l y s).windows in
      complete_fits y row (λ i h. ((windows i h).0, (windows i h).2)) u
      (λ i h. lowest-before y.trains (waits row) i (subst (λ k. i < k) (sym none) h))

  pub first_fits : left_over y.trains (first_come y) ≡ y.trains → T (fitting y (first_come y))
  first_fits = from_underway (first_come y) (first_underway y)

  pub myopic_fits : left_over y.trains (myopic y) ≡ y.trains → T (fitting y (myopic y))
  myopic_fits = from_underway (myopic y) (myopic_underway y)
