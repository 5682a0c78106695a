-- Laws of Table.antt of specs/.
-- Long days with known plans (order 9 of document 02), as one table, and the one theorem that every line holds:
--     every-line : (l : Line) → List.Memᴰ l table → Holds l
-- What a line says is `Holds` of Lines.antt. Rows, full slots and lower figures come from a program that was written from the papers and has
-- not seen these definitions.
-- Assumes nothing.
use Rattle.std.specs.Prelude.{true, false, T, replicate}
use mathlib.Core.List.{List, [], ◌∷◌, Memᴰ}
use Rattle.std.specs.Int.Count.{ones}
use Rattle.fold.specs.Test.{same_list}
use Rattle.fold.specs.Table.{all_pass, all_hold}
use Rattle.fold.specs.Fold
use Rattle.fold.specs.Fold.{sum, count, each, lowest}
use Rattle.fold.specs.Listed.{listed}
use Rattle.sets.specs.Mask.{has, mask}
use Rattle.model.specs.Model.{cost, fitting, grouped, apart, kept, allowed, by_key, slot_total, by_sets, precedes, late_supplier, revisiting, revisits, split_boxes, splits_to, splits, direct_boxes, direct_to, direct, weighed, in_slots, in_window, load, roomy, slot_mask, lower, bound, exceeds, overbooked, in_time}
use Rattle.model.specs.Rows.{all_rows}
use Rattle.model.specs.Order.{pick}
use Rattle.model.specs.BestOf.{best_of}
use Rattle.model.specs.Overbooked.{first_overbooked, overbooked_from, overbooked_first, overbooked_last}
use Rattle.day.specs.Answer.{gives}
use Rattle.day.specs.Sound.{within, head_ranges, train_ranges, move_ranges, shaped, sound, number_before, train_sound, unused, position_sound, group_sound, pair_sound, receiver_sound}
use Rattle.counting.specs.Counting.{figures}
use Rattle.staging.specs.Tables.{open_in, needing, from_outside}
use Rattle.known_days.specs.Days.{move}
use Rattle.known_days.specs.Lines.{same_outcome, same_answer, is_row}
use Rattle.merging.specs.Merging.{matched, without, insert, add, merged}
use Rattle.beam.specs.Beam
use Rattle.beam.specs.Beam.{rest, cost_so_far, revisits_so_far, slots_so_far, set_in, slot_in, row_of, earlier, comes_before, remainder, discarded, fits_slot, may_serve, passing, extensions, successors, remained, full_slots, beam_row}
use Rattle.beam.specs.LowerFigure.{largest, surely_revisits, surely_split, lower_figure}
use Rattle.long_day.specs.LongDay.{long_limits}
use Rattle.long_planning.specs.LongPlanning.{long_planned}
use Rattle.known_long.specs.Days.{long_day, open_long, paper_long}
use Rattle.known_long.specs.Lines.{Line, finds, best, plans, widths, in_limits, found, Holds, same_test, same_long, passes, line_holds}
use Rattle.known_long.specs.Table.{table}

-- ---- every line holds

-- the one computation
computed : T (all_pass passes table)
unfolding all_pass passes same_outcome same_answer same_test same_long same_list is_row table sum count each Fold.some lowest listed has mask late_supplier revisiting revisits split_boxes splits_to splits direct_boxes direct_to direct weighed cost in_slots in_window load roomy fitting grouped apart kept allowed slot_mask lower slot_total by_sets precedes bound exceeds overbooked all_rows by_key pick best_of overbooked_from overbooked_first overbooked_last first_overbooked within head_ranges train_ranges move_ranges shaped number_before train_sound unused position_sound group_sound pair_sound receiver_sound sound in_time open_in needing from_outside matched without insert add merged rest cost_so_far revisits_so_far slots_so_far set_in slot_in row_of earlier comes_before remainder discarded fits_slot may_serve passing extensions successors remained Beam.kept full_slots beam_row largest surely_revisits surely_split lower_figure long_planned ones
computed = tt

pub every_line : (l : Line) → Memᴰ l table → Holds l
every_line = all_hold passes Holds line_holds table computed
