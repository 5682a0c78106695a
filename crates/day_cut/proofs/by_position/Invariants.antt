-- `day_cut::by_position` meets its contract. The loop's invariant: the positions passed are filled by what the closure computes.
use Rattle.std.proofs.Common.{◌≡◌, ◌≤◌, ◌<◌, ℕ}
use Rattle.fold.specs.Column.{column}
use Rattle.day_cut.proofs.by_position.Given as goal

abbrev pub invariant-loop-i : goal.invariant-loop-i
invariant-loop-i g l =
    (l.i ≤ l.fn.n) × ((h : ℕ → ℕ) → ((i r : ℕ) → i < l.fn.n → goal.F-post g l.fn.slot i r → r ≡ h i) → l.slots ≡ column 12 l.i h)
