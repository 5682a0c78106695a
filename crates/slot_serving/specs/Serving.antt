-- What serving a plan and a slot does to the plans gathered, for every day whose numbers, boxes and tables are those given.
-- Assumes nothing.
use Rattle.std.specs.Prelude.{◌≡◌, ℕ, suc, ltb, length}
use Rattle.model.specs.Model.{Yard}
use Rattle.staging.specs.Tables.{open_in}
use Rattle.beam.specs.Beam.{remained, kept}
use Rattle.beam.specs.HeldWords.{Holds}
use Rattle.held_plans.specs.declared.Held.{Held}
use Rattle.held_plans.specs.declared.HeldPlan.{HeldPlan}
use Rattle.held_plans.specs.Words.{words}
use Rattle.gathering.specs.Gathering.{Gathers, Before, Passed}
use Rattle.candidates.specs.declared.DayTables.{DayTables}
use Rattle.candidates.specs.Given.{Trains, yard_in}
use Rattle.set_serving.specs.Serving.{Right, PlanAt}

-- all sets of the plan w; `ready` are the trains whose windows hold the slot
abbrev pub ServesPlan : DayTables → HeldPlan → ℕ → ℕ → Held → Held → Type 0
ServesPlan f w t ready h h' =
    (d : Trains) (k : ℕ) → Right f d → PlanAt (yard_in f d) f.sizes.width t k w → ready ≡ open_in f.boxes.trains d.first d.last (suc t)
    → Gathers (yard_in f d) f.sizes.width t (Before k) h
    → Gathers (yard_in f d) f.sizes.width t (Before (suc k)) h'

-- its sets above s
abbrev pub ServesAbove : DayTables → HeldPlan → ℕ → ℕ → ℕ → Held → Held → Type 0
ServesAbove f w t ready s h h' =
    (d : Trains) (k : ℕ) → Right f d → PlanAt (yard_in f d) f.sizes.width t k w → ready ≡ open_in f.boxes.trains d.first d.last (suc t)
    → Gathers (yard_in f d) f.sizes.width t (Before k) h
    → Gathers (yard_in f d) f.sizes.width t (Passed k s) h'

-- the plans kept after slot t are held
pub record HoldsKept (y : Yard) (width t : ℕ) (h : Held) : Type 0 where
  pub many : h.count ≡ length (kept y width t)
  pub holds : Holds y (words h.plans) (kept y width t)

-- all plans kept after slot t: those kept after the next, and whether more remained
abbrev pub ServesSlot : DayTables → ℕ → ℕ → Held → Held → Type 0
ServesSlot f t ready h h' =
    (d : Trains) → Right f d → ready ≡ open_in f.boxes.trains d.first d.last (suc t) → HoldsKept (yard_in f d) f.sizes.width t h
    → HoldsKept (yard_in f d) f.sizes.width (suc t) h' × (h'.dropped ≡ ltb f.sizes.width (length (remained (yard_in f d) f.sizes.width (suc t))))

-- the plans before place k
abbrev pub ServesBefore : DayTables → ℕ → ℕ → ℕ → Held → Held → Type 0
ServesBefore f t ready k h h' =
    (d : Trains) → Right f d → ready ≡ open_in f.boxes.trains d.first d.last (suc t) → HoldsKept (yard_in f d) f.sizes.width t h
    → Gathers (yard_in f d) f.sizes.width t (Before k) h'
