-- The two counts of a set from the tables, and that a slot costs less than 2 ^ 32.
-- Assumes nothing.
use Rattle.std.specs.Prelude.{◌≡◌, cond, ℕ, ◌-◌, ◌*◌, ◌^◌, ◌≤◌, ◌<◌, ltb}
use Rattle.std.proofs.Common.{sym, ap, ◌∙◌, mul-le-mul, arith, pow_pos}
use Rattle.std.specs.Int.Bits.{bit_and}
use Rattle.std.specs.Int.Count.{ones}
use Rattle.fold.specs.Fold.{bit, sum}
use Rattle.fold.specs.Sums.{sum_ext}
use Rattle.sets.specs.Mask.{has}
use Rattle.sets.specs.Members.{sum_over}
use Rattle.sets.specs.Rest.{full}
use Rattle.optimum.specs.Workspace.{at}
use Rattle.staging.specs.Tables.{needing, from_outside}
use Rattle.beam.specs.SlotCosts.{suppliers_of}
use Rattle.beam.proofs.SlotCosts.{outside_members, late-members}
use Rattle.set_costs.specs.Sets.{over_le}
use Rattle.beam_tables.specs.Given.{received}
use Rattle.candidates.specs.declared.DayTables.{DayTables}
use Rattle.candidates.specs.Given.{Tables}

over_ext : (n s : ℕ) (f g : ℕ → ℕ) → ((i : ℕ) → i < n → f i ≡ g i) → sum_over n s f ≡ sum_over n s g
unfolding sum_over
over_ext n s f g e = sum_ext n (λ i. cond (has s i) (f i) 0) (λ i. cond (has s i) (g i) 0) (λ i l. ap (λ x. cond (has s i) x 0) (e i l))

pub below_pow : (n s : ℕ) → s ≤ full n → s < 2 ^ n
below_pow n s h = omega (arith, pow_pos n)

module _ {d : DayTables} (t : Tables d) where
  abbrev n : ℕ
  n = d.boxes.trains

  abbrev a : ℕ → ℕ → ℕ
  a = received d.boxes

  pub late_is : (s m : ℕ) → s < 2 ^ n → m < 2 ^ n
      → sum_over n s (λ i. bit (ltb 0 (bit_and m (at d.suppliers.now i)))) ≡ ones (bit_and s (needing n a m))
  late_is s m f g =
      over_ext n s (λ i. bit (ltb 0 (bit_and m (at d.suppliers.now i)))) (λ i. bit (ltb 0 (bit_and m (suppliers_of n a i))))
      (λ i l. ap (λ x. bit (ltb 0 (bit_and m x))) (t.suppliers_is i l))
      ∙ sym (late-members n a s m f g)

  pub outside_is : (s : ℕ) → sum_over n s (λ i. at d.incoming.now i - sum_over n s (a i)) ≡ from_outside n a s
  outside_is s =
      over_ext n s (λ i. at d.incoming.now i - sum_over n s (a i)) (λ i. sum n (a i) - sum_over n s (a i))
      (λ i l. ap (λ x. x - sum_over n s (a i)) (t.incoming_is i l))
      ∙ sym (outside_members n a s)

  -- what a train receives from s is a part of what it receives
  pub parts : (s i : ℕ) → i < n → (sum_over n s (a i) ≤ at d.incoming.now i) × (at d.incoming.now i ≤ 9180)
  parts s i l = (omega (arith, over_le n s (a i), t.incoming_is i l), t.incoming_low i l)

  -- both products, and a slot's price
  pub light : (late out : ℕ) → late ≤ 4 → out ≤ 36720 → (d.sizes.revisit * late ≤ 262140) × (d.sizes.split * out ≤ 2406445200)
  light late out f g = (mul-le-mul t.light_revisit f, mul-le-mul t.light_split g)
