-- Laws of Laws.antt of specs/.
-- How the parts of planning a long day come to its answer: each of the answers that the code gives.
-- Assumes nothing.
use Rattle.std.specs.Prelude.{◌≡◌, true, false, List, [], ◌∷◌, ℕ, ◌≤◌, T, leb, length, take, drop}
use Rattle.std.proofs.Common.{sym, ap, ◌∙◌}
use Rattle.std.proofs.Math.Option.{some}
use Rattle.model.specs.Model.{Yard, outcome, bound_inside}
use Rattle.model.specs.Overbooked.{Interval, first_overbooked}
use Rattle.day.specs.Answer.{Answer, gives, refuses}
use Rattle.day.specs.Sound.{sound}
use Rattle.day.specs.declared.Limits.{Limits}
use Rattle.feasibility.specs.Bound.{Windows}
use Rattle.planning.specs.Planning.{placed}
use Rattle.planning.proofs.Laws.{placed_front}
use Rattle.beam.specs.Beam.{full_slots, beam_row}
use Rattle.beam.specs.LowerFigure.{lower_figure}
use Rattle.beam.proofs.Shortcuts.{beam_none}
use Rattle.long_day.specs.LongDay.{long_limits}
use Rattle.long_planning.specs.LongPlanning.{LongOutcome, is_width, found_answer, long_planned, long_row_after}
use Rattle.long_planning.specs.Laws.{Searchable, Decided, Left}

module _ (y : Yard) (width : ℕ) where
  -- an overbooked interval: the search finds no row
  pub says_nine : (w : Interval) (row : List ℕ) → Windows y → 1 ≤ width → first_overbooked y ≡ some w
      → Decided y width row (refuses 9 (w.first ∷ w.last ∷ bound_inside y w.first w.last ∷ [])) row
  says_nine w row windows wide e = let n = beam_none y width windows wide w e in record { says = rw (n, e); row_is = rw n }

  -- its row stands in the first n bytes
  pub says_plan : (row₀ row : List ℕ) (o : LongOutcome) → beam_row y width ≡ some (take y.trains row) → drop y.trains row ≡ drop y.trains row₀
      → y.trains ≤ length row → o ≡ record { row = outcome y (take y.trains row); full = full_slots y width; lower = lower_figure y }
      → Decided y width row₀ (gives o) row
  says_plan row₀ row o b d long e =
      record { says = ap gives e ∙ sym (ap (found_answer y width) b); row_is = placed_front y.trains (beam_row y width) row₀ row b d long }

module _ (l : Limits) (y : Yard) (width : ℕ) (row : List ℕ) where
  pub left_unsound : sound l y ≡ false → Left l y width row (refuses 8 (0 ∷ [])) row
  unfolding long_planned long_row_after
  left_unsound s = record { says = simp s; row_is = simp s }

  pub left_width : sound l y ≡ true → is_width width ≡ false → Left l y width row (refuses 21 (0 ∷ [])) row
  unfolding long_planned long_row_after
  left_width s e = record { says = rw (s, e); row_is = rw (s, e) }

  pub left_short : sound l y ≡ true → is_width width ≡ true → leb y.trains (length row) ≡ false → Left l y width row (refuses 10 (0 ∷ [])) row
  unfolding long_planned long_row_after
  left_short s e h = record { says = rw (s, e, h); row_is = rw (s, e, h) }

  pub left_decided : {said : Answer LongOutcome} {row' : List ℕ} → sound l y ≡ true → is_width width ≡ true → leb y.trains (length row) ≡ true
      → Decided y width row said row' → Left l y width row said row'
  unfolding long_planned long_row_after
  left_decided s e h d = record { says = rw (s, e, h) d.says; row_is = rw (s, e, h) d.row_is }
