-- What holds of every sound long day: it has no groups, so its allowed rows are the paper's; and the greatest numbers of a row, at
-- most 21,058,754,760 for the cost, which needs 64 bits. (That windows lie in the slots and that a train has no boxes for itself is
-- said by `Sound`, day's SoundLaws.antt, for any limits.)
-- Assumes nothing.
use Rattle.std.specs.Prelude.{◌≡◌, refl, List, ℕ, ◌≤◌, ◌<◌, T, replicate}
use Rattle.std.proofs.Common.{sym, ◌∙◌, ⊎_elim, arith, ext_get_or}
use Rattle.std.proofs.lemmas.List.{length-replicate, get_or-replicate}
use Rattle.fold.specs.Counting.{le_or_lt}
use Rattle.model.specs.Model.{Yard, weighed, cost, fitting, allowed}
use Rattle.model.specs.Groups.{NoGroups}
use Rattle.model.proofs.Groups.{without_groups}
use Rattle.day.specs.Sound.{sound}
use Rattle.day.specs.SoundLaws.{sound_is}
use Rattle.day.specs.SoundDay.{sound_day}
use Rattle.day.specs.Most.{most_boxes, most_cost, sound-cost}
use Rattle.long_day.specs.LongDay.{long_limits}

-- ---- no groups

module _ (y : Yard) (s : T (sound long_limits y)) where
  pub long_no_groups : NoGroups y
  long_no_groups i h = omega (arith, (sound_is long_limits y s).groups i h)

  -- so the column of a sound record is the zeros of `long_yard`
  pub long_groups : y.groups ≡ replicate 36 0
  long_groups =
      let long = (sound_is long_limits y s).shape.groups in
      ext_get_or 0 y.groups (replicate 36 0) (long ∙ sym (length-replicate {A = ℕ} 36 0)) λ i h.
      ⊎_elim (λ (k : y.trains ≤ i). (sound_day long_limits y s).ungrouped i k (omega arith)) (λ (k : i < y.trains). long_no_groups i k) (le_or_lt y.trains i)
      ∙ sym (get_or-replicate 36 i 0 0 (omega arith))

  -- A long day's allowed rows are the paper's: a slot for each train, in its window, and room in each slot. Long days and `allowed` meet
  -- here and nowhere else: order 13 of document 02, which gives returning trains a track, leaves long days with this counting.
  pub long_allowed : (row : List ℕ) → allowed y row ≡ fitting y row
  long_allowed row = without_groups y row long_no_groups

-- ---- the greatest numbers

pub long_most_boxes : most_boxes long_limits ≡ 321300
unfolding most_boxes
long_most_boxes = refl

pub long_most-cost : most_cost long_limits ≡ 21058754760
unfolding most_cost most_boxes weighed
long_most-cost = refl

pub long_cost-most : (y : Yard) (row : List ℕ) → T (sound long_limits y) → cost y row ≤ 21058754760
unfolding cost
long_cost-most y row t = omega (arith, sound-cost long_limits y row (sound_is long_limits y t), long_most-cost)
