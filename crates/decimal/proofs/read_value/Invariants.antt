-- What the value at the place is, is told by the digits from `i` on of those that follow the first, after those of `value`.
use Rattle.std.proofs.Common.{◌≡◌, ◌≤◌, drop}
use Rattle.decimal.specs.Decimal.{value, more}
use Rattle.decimal.proofs.read_value.Given as goal

abbrev pub invariant-loop-i : goal.invariant-loop-i
invariant-loop-i l = (value (drop l.at l.text) ≡ more l.value (drop l.i l.c-items)) × (l.value ≤ 99999)
