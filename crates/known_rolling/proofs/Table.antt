-- Laws of Table.antt of specs/.
-- Days that keep moving (order 7 of document 02), call by call, as one table, and the one theorem that every line holds:
--     every-line : (l : Line) → List.Memᴰ l table → Holds l
-- What a line says is `Holds` of Lines.antt. The checker computes one test over the whole table; `line_holds` turns a line's test into its
-- statement. The expected answers are not computed from the definitions: they are those of a program, written from the papers alone, that
-- looks at all rows.
-- Assumes nothing.
use mathlib.Core.List.{List, [], ◌∷◌, Memᴰ}
use Rattle.std.specs.Prelude.{T, replicate}
use Rattle.fold.specs.Test.{same_list}
use Rattle.fold.specs.Table.{all_pass, all_hold}
use Rattle.fold.specs.Listed.{listed}
use Rattle.fold.specs.Column
use Rattle.fold.specs.Column.{filled, table_entry}
use Rattle.fold.specs.Fold
use Rattle.fold.specs.Fold.{sum, count, each, lowest}
use Rattle.sets.specs.Mask.{mask}
use Rattle.model.specs.Model.{cost, fitting, grouped, apart, kept, allowed, by_key, slot_total, by_sets, precedes, late_supplier, revisiting, revisits, split_boxes, splits_to, splits, weighed, in_slots, in_time, in_window, load, roomy, slot_mask, lower, bound, exceeds, overbooked}
use Rattle.model.specs.Rows.{all_rows}
use Rattle.model.specs.Order.{pick}
use Rattle.model.specs.BestOf.{best_of}
use Rattle.model.specs.Overbooked.{first_overbooked, overbooked_from, overbooked_first, overbooked_last}
use Rattle.day.specs.Answer.{gives, refuses}
use Rattle.day.specs.Sound.{within, head_ranges, train_ranges, shaped, sound, number_before, train_sound, unused, position_sound, group_sound, pair_sound, receiver_sound}
use Rattle.rolling.specs.Rolling.{place_of, is_listed, source_without, source_with, cut_first, cut_last, cancel, add, set_boxes, close, state_sound, state_after, begun}
use Rattle.known_days.specs.Days.{padded}
use Rattle.known_days.specs.Lines.{same_answer}
use Rattle.known_rolling.specs.Lines.{standing, asked, says, Line, begins, rolls, answers, Holds, same_head, same_columns, same_state, all_answer, passes, line_holds}
use Rattle.known_rolling.specs.Days.{narrow, joint, convoy, busy, plain, solo, eleven, trio, even, level, pairs, crowded, unmatched, heavy, strict}
use Rattle.known_rolling.specs.Days.{bad_numbers, bad_window, bad_group, bad_boxes, past_group, past_boxes, thirteen, paper, paper_wide, paper_without3, paper_with5, late, seven, halves}
use Rattle.known_rolling.specs.Calls.{narrow_calls, joint_calls, convoy_calls, busy_calls, plain_calls, solo_calls, eleven_calls, trio_calls, even_calls, level_calls, pairs_calls, heavy_calls, parted_calls, past_calls, paper_calls, one_closed_calls, two_closed_calls, all_closed_calls, late_calls, seven_calls, halves_calls}
use Rattle.known_rolling.specs.Table.{table}

-- ---- every line holds

-- the one computation
computed : T (all_pass passes table)
unfolding all_pass passes all_answer same_state same_head same_columns same_answer same_list table padded Fold.some sum count each lowest mask listed filled Column.table table_entry late_supplier revisiting revisits split_boxes splits_to splits weighed cost in_slots in_time in_window load roomy fitting grouped apart kept allowed slot_mask lower slot_total by_sets precedes bound exceeds overbooked all_rows by_key pick best_of overbooked_from overbooked_first overbooked_last first_overbooked within head_ranges train_ranges shaped number_before train_sound unused position_sound group_sound pair_sound receiver_sound sound place_of is_listed source_without source_with cut_first cut_last state_sound state_after begun
computed = tt

pub every_line : (l : Line) → Memᴰ l table → Holds l
every_line = all_hold passes Holds line_holds table computed
