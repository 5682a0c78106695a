-- What one choice offers: the value v of what it leaves and its contribution x; inf where it may not be made, or where what it leaves
-- has no schedule.
-- Assumes nothing.
use Rattle.std.specs.Prelude.{◌≡◌, refl, Bool, true, false, cond, ◌&&◌, ℕ, ◌+◌, ◌≤◌, ◌<◌, T, ltb}
use Rattle.std.proofs.Common.{ap, ⊎_elim, arith, lt-ltb, le-ltb}
use Rattle.fold.specs.Counting.{le_or_lt}

abbrev pub offer : ℕ → Bool → ℕ → ℕ → ℕ
offer inf may v x = cond (may && ltb v inf) (v + x) inf
