-- What the first overbooked interval says of a day whose windows lie in its slots: there is none, and some row fits; or there is one, and no
-- row is allowed. On a day without groups a row that fits is allowed.
-- Assumes nothing.
use Rattle.std.specs.Prelude.{◌≡◌, refl, List, ℕ, T}
use Rattle.std.proofs.Common.{sym, subst}
use Rattle.std.proofs.Math.Option.{Option, none, some}
use Rattle.model.specs.Model.{Yard, fitting, overbooked, FirstOverbooked, SomeRow, NoRow}
use Rattle.model.specs.Groups.{NoGroups}
use Rattle.model.proofs.Groups.{without_groups}
use Rattle.model.specs.Overbooked.{Interval, first_overbooked, SaysFirst}
use Rattle.model.proofs.Overbooked.{first_says}
use Rattle.feasibility.specs.Bound.{Windows, Spacious}
use Rattle.feasibility.proofs.NoRow.{no_row_lem}
use Rattle.feasibility.proofs.RowExists.{row_exists}

module _ (y : Yard) where
  pub none_spacious : first_overbooked y ≡ none → Spacious y
  none_spacious e = subst (SaysFirst y) e (first_says y)

  pub spacious_none : Spacious y → first_overbooked y ≡ none
  spacious_none spacious = go (first_overbooked y) (first_says y)
    where
      go : (o : Option Interval) → SaysFirst y o → o ≡ none
      go none f = refl
      go (some w) f = absurd (spacious w.first w.last f.is_over)

  pub some_over : (w : Interval) → first_overbooked y ≡ some w → T (overbooked y w.first w.last)
  some_over w e = let f : FirstOverbooked y w.first w.last = subst (SaysFirst y) e (first_says y) in f.is_over

  pub none_fitting : Windows y → first_overbooked y ≡ none → (row : List ℕ) × T (fitting y row)
  none_fitting windows e = row_exists y windows (none_spacious e)

  pub none_row : Windows y → NoGroups y → first_overbooked y ≡ none → SomeRow y
  none_row windows ungrouped e = let (row, f) = none_fitting windows e in (row, subst T (sym (without_groups y row ungrouped)) f)

  pub some_no_row : (w : Interval) → first_overbooked y ≡ some w → NoRow y
  some_no_row w e = no_row_lem y w.first w.last (some_over w e)

  -- where no row is allowed on a day without groups an interval is overbooked
  pub no_row_over : Windows y → NoGroups y → NoRow y → (w : Interval) × (first_overbooked y ≡ some w)
  no_row_over windows ungrouped nowhere = go (first_overbooked y) refl
    where
      go : (o : Option Interval) → first_overbooked y ≡ o → (w : Interval) × (first_overbooked y ≡ some w)
      go none e = let (row, ok) = none_row windows ungrouped e in absurd (nowhere row ok)
      go (some w) e = (w, e)
