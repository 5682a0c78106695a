-- Laws of Table.antt of specs/.
-- P1 to P13 of document 01, its edges and the refusals 8, 11, 12 and 13, days compared with the procedures of document 02's order 1, days
-- with the wagon sets of its order 4, with ties that its order 5 decides, with direct moves, its order 6, and with the weights of its order 8,
-- as one table, and the one theorem that every line holds:
--     every-line : (l : Line) → List.Memᴰ l table → Holds l
-- What a line says is `Holds` of Lines.antt. The checker computes one test over the whole table; `line_holds` turns a line's test into its
-- statement. "The best plan" speaks of every row, through the enumeration of the model's Rows.antt, which is proved complete.
-- Assumes nothing.
use Rattle.std.specs.Prelude.{true, false, ℕ, T, pos, replicate}
use mathlib.Core.List.{List, [], ◌∷◌, ◌++◌, Memᴰ}
use Rattle.fold.specs.Test.{same_list}
use Rattle.fold.specs.Table.{all_pass, all_hold}
use Rattle.fold.specs.Fold
use Rattle.fold.specs.Fold.{sum, count, each, lowest}
use Rattle.sets.specs.Mask.{mask}
use Rattle.model.specs.Model.{Outcome, cost, fitting, grouped, apart, kept, parted, allowed, by_key, slot_total, by_sets, precedes, late_supplier, revisiting, revisits, split_boxes, splits_to, splits, direct_boxes, direct_to, direct, all_boxes, weighed, in_slots, in_window, load, roomy, slot_mask, lower, bound, exceeds, overbooked, in_time, outside_boxes}
use Rattle.model.specs.Rows.{all_rows}
use Rattle.model.specs.Order.{pick}
use Rattle.model.specs.BestOf.{best_of}
use Rattle.model.specs.Overbooked.{first_overbooked, overbooked_from, overbooked_first, overbooked_last}
use Rattle.day.specs.Answer.{Answer, gives, refuses}
use Rattle.day.specs.Sound.{within, head_ranges, train_ranges, shaped, sound, number_before, train_sound, unused, position_sound, group_sound, pair_sound, receiver_sound}
use Rattle.counting.specs.Counting.{figures}
use Rattle.valuing.specs.Valuing.{valued, strays, overfull}
use Rattle.planning.specs.Planning.{planned}
use Rattle.procedures.specs.Procedures.{track_free, waits, suits, earliest, come_to, first_come, waiting_supplier, priority, select, fill_to, served_to, myopic}
use Rattle.comparing.specs.Comparing.{Comparison, against}
use Rattle.baselines.specs.Baselines.{compared}
use Rattle.known_days.specs.Lines.{Line, values, best, later, refused, unkept, has_sum_weights, fewest, accepted, plans, compares, compares_in, Holds, same_outcome, same_int, same_comparison, same_answer, is_row, is_none, is_interval, no_interval, sum_weights, no_fewer, is_fewest, passes, line_holds}
use Rattle.known_days.specs.Days.{move, day_of, open_day, weightless, from_twelve, paired, one_way, fullest, paper_day, three_boxes, numbered, in_groups}
use Rattle.known_days.specs.Table.{saving, table}

-- ---- every line holds

-- the one computation
computed : T (all_pass passes table)
unfolding all_pass passes same_outcome same_int same_comparison same_answer same_list is_row is_none is_interval no_interval sum_weights no_fewer is_fewest table sum count each Fold.some lowest mask late_supplier revisiting revisits split_boxes splits_to splits direct_boxes direct_to direct all_boxes weighed cost in_slots in_window load roomy fitting grouped apart kept parted allowed slot_mask lower slot_total by_sets precedes bound exceeds overbooked all_rows by_key pick best_of overbooked_from overbooked_first overbooked_last first_overbooked within head_ranges train_ranges shaped number_before train_sound unused position_sound group_sound pair_sound receiver_sound sound strays overfull valued planned in_time track_free waits suits earliest come_to waiting_supplier outside_boxes priority select fill_to served_to against compared
computed = tt

pub every_line : (l : Line) → Memᴰ l table → Holds l
every_line = all_hold passes Holds line_holds table computed
