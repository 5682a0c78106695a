-- What the search is given, and what it gives: beam's row and its number of full slots.
-- Assumes nothing.
use Rattle.std.specs.Prelude.{◌≡◌, List, ℕ, ◌+◌, ◌≤◌, ◌<◌, length, take}
use Rattle.std.proofs.Common.{◌∙◌, arith, Bor}
use Rattle.std.proofs.Math.Option.{none, some}
use Rattle.fold.specs.Fold.{sum}
use Rattle.sets.specs.Rest.{full}
use Rattle.model.specs.Overbooked.{first_overbooked}
use Rattle.optimum.specs.Workspace.{Kept}
use Rattle.feasibility.specs.Bound.{Windows}
use Rattle.feasibility.proofs.RowOrNone.{none_spacious}
use Rattle.tables.specs.Filled.{Filled}
use Rattle.beam.specs.Beam.{beam_row, full_slots}
use Rattle.beam.specs.SlotCosts.{suppliers_of}
use Rattle.beam_tables.specs.declared.DayTrains.{DayTrains}
use Rattle.beam_tables.specs.Given.{AreTrains, received}
use Rattle.beam_tables.specs.Entries.{ending_by, ends_by_is}
use Rattle.candidates.specs.declared.Sizes.{Sizes}
use Rattle.held_plans.specs.declared.HeldPlan.{HeldPlan}
use Rattle.candidates.specs.declared.DayTables.{DayTables}
use Rattle.candidates.specs.Given.{Tables, yard_of}
use Rattle.set_serving.specs.Serving.{Right}
use Rattle.beam_search.specs.Slots.{Labels, trains_of, day_in, SearchFinds}
use Rattle.plan_rows.specs.Row.{slot_at, row-found}

-- the limits of a long day, with the greatest width, and room for its trains
pub record Sized (z : Sizes) (d : DayTrains) (row : List ℕ) : Type 0 where
  pub trains : AreTrains d
  pub all_is : z.all ≡ full d.boxes.trains
  pub few_tracks : z.tracks ≤ 4
  pub few_slots : z.slots ≤ 12
  pub light_revisit : z.revisit ≤ 65535
  pub light_split : z.split ≤ 65535
  pub some_width : 1 ≤ z.width
  pub few_width : z.width ≤ 64
  pub row_long : d.boxes.trains ≤ length row

-- on every day of these windows, sizes and boxes, whatever its trains' numbers and groups, whose windows lie in its slots and that overbooks no interval
pub record Searched (z : Sizes) (d : DayTrains) (row row' : List ℕ) (full-slots : ℕ) : Type 0 where
  pub behind : Kept d.boxes.trains row row'
  pub found : (labels : Labels) → Windows (yard_of z (trains_of labels d.first.now d.last.now) d.boxes) → first_overbooked (yard_of z (trains_of labels d.first.now d.last.now) d.boxes) ≡ none
      → (beam_row (yard_of z (trains_of labels d.first.now d.last.now) d.boxes) z.width ≡ some (take d.boxes.trains row')) × (full-slots ≡ full_slots (yard_of z (trains_of labels d.first.now d.last.now) d.boxes) z.width)

-- what is filled and found of the tables of that day
module _ (z : Sizes) (d : DayTrains) (suppliers incoming ends : Bor (List ℕ)) where
  abbrev f : DayTables
  f = record { sizes = z; boxes = d.boxes; suppliers = suppliers; incoming = incoming; ends = ends }

  abbrev n : ℕ
  n = d.boxes.trains

  abbrev a : ℕ → ℕ → ℕ
  a = received d.boxes

  module _ {row : List ℕ} (s : Sized z d row) where
    pub tables_filled : {a₀ b₀ : List ℕ} → Filled (suppliers_of n a) n a₀ suppliers.now → Filled (λ i. sum n (a i)) n b₀ incoming.now
        → ((i : ℕ) → i < n → sum n (a i) ≤ 9180) → length a₀ ≡ 36 → length b₀ ≡ 36 → Tables f
    tables_filled fa fb low la lb = record {
      given = s.trains.given;
      all_is = s.all_is;
      few_tracks = s.few_tracks;
      few_slots = s.few_slots;
      light_revisit = s.light_revisit;
      light_split = s.light_split;
      suppliers_long = omega (arith, s.trains.given.few, fa.kept.long);
      incoming_long = omega (arith, s.trains.given.few, fb.kept.long);
      suppliers_is = fa.all;
      incoming_is = fb.all;
      incoming_low = λ i l. omega (arith, fb.all i l, low i l);
    }

    pub searched : {ends₀ row' : List ℕ} {w : HeldPlan} (full-slots : ℕ) → Filled (ending_by n d.last.now) (z.slots + 1) ends₀ ends.now
        → SearchFinds f d.first.now d.last.now w full-slots → Filled (λ i. slot_at w i z.slots) n row row' → Searched z d row row' full-slots
    searched {ends₀} {row'} {w} full-slots fe finds fr = record {
      behind = fr.kept;
      found = λ labels windows e.
          let y = day_in f labels d.first.now d.last.now in
          let right : Right f (trains_of labels d.first.now d.last.now) = record {
            ends_is = λ b l. fe.all b (omega arith) ∙ ends_by_is y b;
            spacious = none_spacious y e;
          } in
          let g = finds labels right windows in (
            row-found y z.width w row' s.few_slots g.plan (omega (arith, s.row_long, fr.kept.long)) fr.all,
            g.full,
          );
    }
