-- A lent day as plain data, and that its columns and its table are as long as its limits say.
-- Assumes nothing.
use Rattle.std.specs.Prelude.{◌≡◌, ◌*◌, length}
use Rattle.model.specs.Model.{Yard}
use Rattle.day.specs.Sound.{day_from}
use Rattle.day.specs.declared.Parts.{Parts}

abbrev pub part_yard : Parts → Yard
part_yard p = day_from p.head p.numbers.now p.first.now p.last.now p.groups.now p.limits.trains p.boxes.now

pub record IsShaped (p : Parts) : Type 0 where
  pub numbers : length p.numbers.now ≡ p.limits.trains
  pub first : length p.first.now ≡ p.limits.trains
  pub last : length p.last.now ≡ p.limits.trains
  pub groups : length p.groups.now ≡ p.limits.trains
  pub boxes : length p.boxes.now ≡ p.limits.trains * p.limits.trains
