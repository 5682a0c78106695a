-- Laws of SlotInRow.antt of specs/.
-- A slot costs no more than a row (`slot_in_row`): wherever r remains and s is served there is a row in which just that happens, with the
-- trains that are gone in its first slot, s in its second and what s leaves in its third. So what bounds the cost of all rows bounds the
-- contribution of each slot, and what its split moves cost alone (`split_in_row`).
-- Assumes nothing.
use Rattle.std.specs.Prelude.{◌≡◌, refl, true, List, [], ◌∷◌, ℕ, ◌-◌, ◌*◌, ◌≤◌}
use Rattle.std.proofs.Common.{sym, ap, ◌∙◌, subst, arith}
use Rattle.sets.specs.Subset.{Sub, sub_refl, sub-rest}
use Rattle.sets.specs.Rest.{full, sub-full}
use Rattle.model.specs.Model.{Yard, received, cost}
use Rattle.optimum.specs.Schedules.{Test, Schedule, value}
use Rattle.optimum.specs.Rows.{Row, row_of}
use Rattle.optimum.proofs.Rows.{row-value, sets_row, schedule_row}
use Rattle.staging.specs.Tables.{from_outside, slot_cost}
use Rattle.staging.proofs.CostBySlot.{worth-cost}
use Rattle.staging.specs.SlotInRow.{any, three_sets, row_around}

three_served : (n r s : ℕ) → r ≤ full n → Sub s r → Schedule any 1 (full n) (three_sets n r s)
three_served n r s l hs =
    let remain : r ≡ full n - (full n - r) = omega arith in (
      sub-rest r (full n) (sub-full n r l),
      tt,
      subst (λ x. Schedule any 2 x (s ∷ (r - s) ∷ [])) remain (hs, tt, (sub_refl (r - s), tt, omega arith)),
    )

pub slot_in_row : (y : Yard) (t r s : ℕ) → r ≤ full y.trains → Sub s r → slot_cost y t r s ≤ cost y (row_around y.trains r s)
slot_in_row y t r s l hs =
    let n : ℕ = y.trains in
    let served : Schedule any 1 (full n) (three_sets n r s) = three_served n r s l hs in
    let row : Row any n 3 (row_around n r s) = schedule_row any n (three_sets n r s) served 3 refl in
    let whole : value (slot_cost y) 1 (full n) (three_sets n r s) ≡ cost y (row_around n r s) =
    ap (value (slot_cost y) 1 (full n)) (sym (sets_row any n (three_sets n r s) served 3 refl))
    ∙ row-value row (slot_cost y)
    ∙ worth-cost y 3 (row_around n r s) row.staged in
    let remain : full n - (full n - r) ≡ r = omega arith in
    omega (arith, whole, ap (λ x. slot_cost y 2 x s) remain)

-- what its split moves cost alone
pub split_in_row : (y : Yard) (s : ℕ) → s ≤ full y.trains → y.split * from_outside y.trains (received y) s ≤ cost y (row_around y.trains s s)
split_in_row y s l = omega (arith, slot_in_row y 1 s s l (sub_refl s))
