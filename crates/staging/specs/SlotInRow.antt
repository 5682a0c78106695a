-- A slot costs no more than a row (`slot_in_row`): wherever r remains and s is served there is a row in which just that happens, with the
-- trains that are gone in its first slot, s in its second and what s leaves in its third. So what bounds the cost of all rows bounds the
-- contribution of each slot, and what its split moves cost alone (`split_in_row`).
-- Assumes nothing.
use Rattle.std.specs.Prelude.{◌≡◌, refl, true, List, [], ◌∷◌, ℕ, ◌-◌, ◌*◌, ◌≤◌}
use Rattle.std.proofs.Common.{sym, ap, ◌∙◌, subst, arith}
use Rattle.sets.specs.Subset.{Sub, sub_refl, sub-rest}
use Rattle.sets.specs.Rest.{full, sub-full}
use Rattle.model.specs.Model.{Yard, received, cost}
use Rattle.optimum.specs.Schedules.{Test, Schedule, value}
use Rattle.optimum.specs.Rows.{Row, row_of}
use Rattle.optimum.proofs.Rows.{row-value, sets_row, schedule_row}
use Rattle.staging.specs.Tables.{from_outside, slot_cost}

-- any set may be served
abbrev pub any : Test
any t r s = true

-- of n trains: those that are gone where r remains, then s, then the others
abbrev pub three_sets : ℕ → ℕ → ℕ → List ℕ
three_sets n r s = (full n - r) ∷ s ∷ (r - s) ∷ []

-- the row in which s is served in slot 2, where r remains
abbrev pub row_around : ℕ → ℕ → ℕ → List ℕ
row_around n r s = row_of n (three_sets n r s)
