-- How the parts of planning a long day come to its answer: each of the answers that the code gives.
-- Assumes nothing.
use Rattle.std.specs.Prelude.{◌≡◌, true, false, List, [], ◌∷◌, ℕ, ◌≤◌, T, leb, length, take, drop}
use Rattle.std.proofs.Common.{sym, ap, ◌∙◌}
use Rattle.std.proofs.Math.Option.{some}
use Rattle.model.specs.Model.{Yard, outcome, bound_inside}
use Rattle.model.specs.Overbooked.{Interval, first_overbooked}
use Rattle.day.specs.Answer.{Answer, gives, refuses}
use Rattle.day.specs.Sound.{sound}
use Rattle.day.specs.declared.Limits.{Limits}
use Rattle.feasibility.specs.Bound.{Windows}
use Rattle.planning.specs.Planning.{placed}
use Rattle.planning.proofs.Laws.{placed_front}
use Rattle.beam.specs.Beam.{full_slots, beam_row}
use Rattle.beam.specs.LowerFigure.{lower_figure}
use Rattle.beam.proofs.Shortcuts.{beam_none}
use Rattle.long_day.specs.LongDay.{long_limits}
use Rattle.long_planning.specs.LongPlanning.{LongOutcome, is_width, found_answer, long_planned, long_row_after}

-- ---- a sound day, a width and a row that pass the checks

pub record Searchable (y : Yard) (width : ℕ) (row : List ℕ) : Type 0 where
  pub is_sound : T (sound long_limits y)
  pub some_width_lem : 1 ≤ width
  pub few_width_lem : width ≤ 64
  pub long : y.trains ≤ length row

pub record Decided (y : Yard) (width : ℕ) (row₀ : List ℕ) (said : Answer LongOutcome) (row : List ℕ) : Type 0 where
  pub says : said ≡ found_answer y width (beam_row y width)
  pub row_is : row ≡ placed (beam_row y width) row₀

-- ---- the call

pub record Left (l : Limits) (y : Yard) (width : ℕ) (row₀ : List ℕ) (said : Answer LongOutcome) (row : List ℕ) : Type 0 where
  pub says : said ≡ long_planned l y width (length row₀)
  pub row_is : row ≡ long_row_after l y width row₀
