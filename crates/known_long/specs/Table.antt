-- Long days with known plans (order 9 of document 02), as one table, and the one theorem that every line holds:
--     every-line : (l : Line) → List.Memᴰ l table → Holds l
-- What a line says is `Holds` of Lines.antt. Rows, full slots and lower figures come from a program that was written from the papers and has
-- not seen these definitions.
-- Assumes nothing.
use Rattle.std.specs.Prelude.{true, false, T, replicate}
use mathlib.Core.List.{List, [], ◌∷◌, Memᴰ}
use Rattle.std.specs.Int.Count.{ones}
use Rattle.fold.specs.Test.{same_list}
use Rattle.fold.specs.Table.{all_pass, all_hold}
use Rattle.fold.specs.Fold
use Rattle.fold.specs.Fold.{sum, count, each, lowest}
use Rattle.fold.specs.Listed.{listed}
use Rattle.sets.specs.Mask.{has, mask}
use Rattle.model.specs.Model.{cost, fitting, grouped, apart, kept, allowed, by_key, slot_total, by_sets, precedes, late_supplier, revisiting, revisits, split_boxes, splits_to, splits, direct_boxes, direct_to, direct, weighed, in_slots, in_window, load, roomy, slot_mask, lower, bound, exceeds, overbooked, in_time}
use Rattle.model.specs.Rows.{all_rows}
use Rattle.model.specs.Order.{pick}
use Rattle.model.specs.BestOf.{best_of}
use Rattle.model.specs.Overbooked.{first_overbooked, overbooked_from, overbooked_first, overbooked_last}
use Rattle.day.specs.Answer.{gives}
use Rattle.day.specs.Sound.{within, head_ranges, train_ranges, move_ranges, shaped, sound, number_before, train_sound, unused, position_sound, group_sound, pair_sound, receiver_sound}
use Rattle.counting.specs.Counting.{figures}
use Rattle.staging.specs.Tables.{open_in, needing, from_outside}
use Rattle.known_days.specs.Days.{move}
use Rattle.known_days.specs.Lines.{same_outcome, same_answer, is_row}
use Rattle.merging.specs.Merging.{matched, without, insert, add, merged}
use Rattle.beam.specs.Beam
use Rattle.beam.specs.Beam.{rest, cost_so_far, revisits_so_far, slots_so_far, set_in, slot_in, row_of, earlier, comes_before, remainder, discarded, fits_slot, may_serve, passing, extensions, successors, remained, full_slots, beam_row}
use Rattle.beam.specs.LowerFigure.{largest, surely_revisits, surely_split, lower_figure}
use Rattle.long_day.specs.LongDay.{long_limits}
use Rattle.long_planning.specs.LongPlanning.{long_planned}
use Rattle.known_long.specs.Days.{long_day, open_long, paper_long}
use Rattle.known_long.specs.Lines.{Line, finds, best, plans, widths, in_limits, found, Holds, same_test, same_long, passes, line_holds}

-- ---- the table

unfoldable pub table : List Line
unfolding long_day open_long paper_long
table =
    -- ties at the cut go by order 5 literally: of plans that cost the same the one that has served fewer trains is kept, so with one plan kept the
    -- train waits for slot 2; with two kept it does not. Exactly as many plans as the width are not more, and what is discarded does not count
    finds (open_long 1 1 2 1 1 []) 1 (2 ∷ []) (figures 0 0 0 0) 1 0
    ∷ finds (open_long 1 1 2 1 1 []) 2 (1 ∷ []) (figures 0 0 0 0) 0 0
    ∷ finds (open_long 1 1 1 1 1 []) 1 (1 ∷ []) (figures 0 0 0 0) 0 0
    -- more width may cost more: cost 0 at width 1, 1 at width 2, 0 at width 3; a day without full slots has its best row
    ∷ finds (open_long 4 2 3 0 1 (move 4 3 1 ∷ [])) 1 (3 ∷ 3 ∷ 2 ∷ 2 ∷ []) (figures 0 0 1 0) 2 0
    ∷ finds (open_long 4 2 3 0 1 (move 4 3 1 ∷ [])) 2 (3 ∷ 2 ∷ 1 ∷ 3 ∷ []) (figures 0 1 0 1) 2 0
    ∷ finds (open_long 4 2 3 0 1 (move 4 3 1 ∷ [])) 3 (2 ∷ 1 ∷ 3 ∷ 3 ∷ []) (figures 0 0 1 0) 2 0
    ∷ finds (open_long 4 2 3 0 1 (move 4 3 1 ∷ [])) 64 (2 ∷ 2 ∷ 1 ∷ 1 ∷ []) (figures 0 0 1 0) 0 0
    ∷ best (open_long 4 2 3 0 1 (move 4 3 1 ∷ [])) (2 ∷ 2 ∷ 1 ∷ 1 ∷ []) (figures 0 0 1 0)
    -- the source's example at widths 1 to 64, and with weights 0, where nothing but the order decides
    ∷ finds (paper_long 1 1) 1 (2 ∷ 1 ∷ 2 ∷ 1 ∷ []) (figures 1 7 9 8) 1 4
    ∷ finds (paper_long 1 1) 2 (2 ∷ 1 ∷ 2 ∷ 1 ∷ []) (figures 1 7 9 8) 1 4
    ∷ finds (paper_long 1 1) 4 (2 ∷ 1 ∷ 2 ∷ 1 ∷ []) (figures 1 7 9 8) 1 4
    ∷ finds (paper_long 1 1) 5 (2 ∷ 1 ∷ 2 ∷ 1 ∷ []) (figures 1 7 9 8) 1 4
    ∷ finds (paper_long 1 1) 64 (2 ∷ 1 ∷ 2 ∷ 1 ∷ []) (figures 1 7 9 8) 0 4
    ∷ finds (paper_long 0 0) 1 (2 ∷ 1 ∷ 2 ∷ 1 ∷ []) (figures 1 7 9 0) 1 0
    ∷ finds (paper_long 0 0) 2 (2 ∷ 1 ∷ 2 ∷ 1 ∷ []) (figures 1 7 9 0) 1 0
    ∷ finds (paper_long 0 0) 3 (2 ∷ 1 ∷ 2 ∷ 1 ∷ []) (figures 1 7 9 0) 1 0
    ∷ finds (paper_long 0 0) 64 (2 ∷ 1 ∷ 2 ∷ 1 ∷ []) (figures 1 7 9 0) 0 0
    -- days drawn so that each of a list of mistakes in the search or in the lower figure gives another answer on three of them (docs/TESTING.md)
    ∷ finds (open_long 3 2 4 0 1 (move 1 3 1 ∷ move 3 1 3 ∷ move 3 2 3 ∷ [])) 4 (3 ∷ 1 ∷ 3 ∷ []) (figures 0 3 4 3) 3 3
    ∷ finds (long_day 4 3 3 1 2 (2 ∷ 1 ∷ 1 ∷ 1 ∷ []) (3 ∷ 2 ∷ 2 ∷ 1 ∷ []) (move 2 1 1 ∷ move 2 4 2 ∷ move 3 1 2 ∷ move 3 2 1 ∷ move 3 4 1 ∷ move 4 1 3 ∷ move 4 2 2 ∷ [])) 3 (2 ∷ 1 ∷ 2 ∷ 1 ∷ []) (figures 2 6 6 14) 1 3
    ∷ finds (long_day 4 2 4 5 2 (2 ∷ 1 ∷ 4 ∷ 3 ∷ []) (3 ∷ 4 ∷ 4 ∷ 4 ∷ []) (move 1 3 2 ∷ move 1 4 1 ∷ move 2 1 3 ∷ move 2 3 1 ∷ move 2 4 3 ∷ move 3 4 3 ∷ [])) 3 (3 ∷ 3 ∷ 4 ∷ 4 ∷ []) (figures 2 7 6 24) 1 15
    ∷ finds (long_day 4 3 4 5 0 (3 ∷ 1 ∷ 3 ∷ 2 ∷ []) (4 ∷ 3 ∷ 4 ∷ 2 ∷ []) (move 1 3 1 ∷ move 2 3 3 ∷ move 2 4 2 ∷ move 3 1 2 ∷ move 3 2 3 ∷ move 3 4 1 ∷ move 4 1 3 ∷ move 4 2 3 ∷ move 4 3 3 ∷ [])) 4 (3 ∷ 3 ∷ 3 ∷ 2 ∷ []) (figures 1 12 9 5) 0 5
    ∷ finds (open_long 4 3 4 0 1 (move 1 2 2 ∷ move 1 4 1 ∷ move 2 1 2 ∷ move 2 3 3 ∷ move 2 4 2 ∷ move 3 2 2 ∷ move 3 4 2 ∷ move 4 1 1 ∷ move 4 2 3 ∷ move 4 3 3 ∷ [])) 3 (1 ∷ 4 ∷ 4 ∷ 4 ∷ []) (figures 1 6 15 6) 3 3
    ∷ finds (open_long 2 1 3 0 2 (move 2 1 1 ∷ [])) 2 (1 ∷ 2 ∷ []) (figures 0 1 0 2) 2 2
    ∷ finds (long_day 2 1 4 5 2 (replicate 2 2) (3 ∷ 4 ∷ []) (move 1 2 1 ∷ move 2 1 3 ∷ [])) 3 (3 ∷ 2 ∷ []) (figures 1 4 0 13) 0 8
    ∷ finds (long_day 3 3 2 1 2 (2 ∷ 2 ∷ 1 ∷ []) (2 ∷ 2 ∷ 1 ∷ []) (move 1 3 3 ∷ move 2 1 3 ∷ move 3 1 2 ∷ move 3 2 2 ∷ [])) 3 (2 ∷ 2 ∷ 1 ∷ []) (figures 1 7 3 15) 0 1
    ∷ finds (long_day 3 2 2 5 2 (2 ∷ 2 ∷ 1 ∷ []) (2 ∷ 2 ∷ 1 ∷ []) (move 1 2 2 ∷ move 1 3 1 ∷ move 2 1 2 ∷ move 3 1 3 ∷ move 3 2 3 ∷ [])) 2 (2 ∷ 2 ∷ 1 ∷ []) (figures 1 7 4 19) 0 13
    -- four tracks: the lower figure leaves out three supplies
    ∷ finds (open_long 6 4 2 2 3 (move 1 2 5 ∷ move 1 3 4 ∷ move 1 4 3 ∷ move 1 5 2 ∷ move 1 6 1 ∷ move 2 1 7 ∷ move 6 5 2 ∷ [])) 3 (2 ∷ 2 ∷ 2 ∷ 2 ∷ 1 ∷ 1 ∷ []) (figures 0 3 21 9) 1 9
    -- what the call answers; widths 0 and 65 are refused, 1 and 64 taken
    ∷ plans (paper_long 1 1) 30 4 (gives (found (figures 1 7 9 8) 0 4))
    ∷ widths 0 false
    ∷ widths 1 true
    ∷ widths 64 true
    ∷ widths 65 false
    -- the limits: 36 trains, 4 tracks, 12 slots, weights of 65,535, train numbers of 99,999, 255 boxes, and no more of any
    ∷ in_limits (head_ranges long_limits) (36 ∷ 4 ∷ 12 ∷ 65535 ∷ 65535 ∷ []) true
    ∷ in_limits (head_ranges long_limits) (1 ∷ 1 ∷ 1 ∷ 0 ∷ 0 ∷ []) true
    ∷ in_limits (head_ranges long_limits) (37 ∷ 4 ∷ 12 ∷ 0 ∷ 0 ∷ []) false
    ∷ in_limits (head_ranges long_limits) (36 ∷ 5 ∷ 12 ∷ 0 ∷ 0 ∷ []) false
    ∷ in_limits (head_ranges long_limits) (36 ∷ 4 ∷ 13 ∷ 0 ∷ 0 ∷ []) false
    ∷ in_limits (head_ranges long_limits) (36 ∷ 4 ∷ 12 ∷ 65536 ∷ 0 ∷ []) false
    ∷ in_limits (head_ranges long_limits) (36 ∷ 4 ∷ 12 ∷ 0 ∷ 65536 ∷ []) false
    ∷ in_limits (train_ranges long_limits 12) (99999 ∷ 12 ∷ 12 ∷ []) true
    ∷ in_limits (train_ranges long_limits 12) (100000 ∷ 1 ∷ 1 ∷ []) false
    ∷ in_limits (move_ranges long_limits) (1 ∷ 2 ∷ 255 ∷ []) true
    ∷ in_limits (move_ranges long_limits) (1 ∷ 2 ∷ 256 ∷ []) false
    ∷ []
