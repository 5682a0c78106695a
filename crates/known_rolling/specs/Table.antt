-- Days that keep moving (order 7 of document 02), call by call, as one table, and the one theorem that every line holds:
--     every-line : (l : Line) → List.Memᴰ l table → Holds l
-- What a line says is `Holds` of Lines.antt. The checker computes one test over the whole table; `line_holds` turns a line's test into its
-- statement. The expected answers are not computed from the definitions: they are those of a program, written from the papers alone, that
-- looks at all rows.
-- Assumes nothing.
use mathlib.Core.List.{List, [], ◌∷◌, Memᴰ}
use Rattle.std.specs.Prelude.{T, replicate}
use Rattle.fold.specs.Test.{same_list}
use Rattle.fold.specs.Table.{all_pass, all_hold}
use Rattle.fold.specs.Listed.{listed}
use Rattle.fold.specs.Column
use Rattle.fold.specs.Column.{filled, table_entry}
use Rattle.fold.specs.Fold
use Rattle.fold.specs.Fold.{sum, count, each, lowest}
use Rattle.sets.specs.Mask.{mask}
use Rattle.model.specs.Model.{cost, fitting, grouped, apart, kept, allowed, by_key, slot_total, by_sets, precedes, late_supplier, revisiting, revisits, split_boxes, splits_to, splits, weighed, in_slots, in_time, in_window, load, roomy, slot_mask, lower, bound, exceeds, overbooked}
use Rattle.model.specs.Rows.{all_rows}
use Rattle.model.specs.Order.{pick}
use Rattle.model.specs.BestOf.{best_of}
use Rattle.model.specs.Overbooked.{first_overbooked, overbooked_from, overbooked_first, overbooked_last}
use Rattle.day.specs.Answer.{gives, refuses}
use Rattle.day.specs.Sound.{within, head_ranges, train_ranges, shaped, sound, number_before, train_sound, unused, position_sound, group_sound, pair_sound, receiver_sound}
use Rattle.rolling.specs.Rolling.{place_of, is_listed, source_without, source_with, cut_first, cut_last, cancel, add, set_boxes, close, state_sound, state_after, begun}
use Rattle.known_days.specs.Days.{padded}
use Rattle.known_days.specs.Lines.{same_answer}
use Rattle.known_rolling.specs.Lines.{standing, asked, says, Line, begins, rolls, answers, Holds, same_head, same_columns, same_state, all_answer, passes, line_holds}
use Rattle.known_rolling.specs.Days.{narrow, joint, convoy, busy, plain, solo, eleven, trio, even, level, pairs, crowded, unmatched, heavy, strict}
use Rattle.known_rolling.specs.Days.{bad_numbers, bad_window, bad_group, bad_boxes, past_group, past_boxes, thirteen, paper, paper_wide, paper_without3, paper_with5, late, seven, halves}
use Rattle.known_rolling.specs.Calls.{narrow_calls, joint_calls, convoy_calls, busy_calls, plain_calls, solo_calls, eleven_calls, trio_calls, even_calls, level_calls, pairs_calls, heavy_calls, parted_calls, past_calls, paper_calls, one_closed_calls, two_closed_calls, all_closed_calls, late_calls, seven_calls, halves_calls}

-- ---- the table

unfoldable pub table : List Line
table =
    -- lists of calls after a begin; Calls.antt says what each is about
    rolls narrow (1 ∷ 3 ∷ 2 ∷ []) narrow_calls
    ∷ rolls joint (1 ∷ 2 ∷ 2 ∷ []) joint_calls
    ∷ rolls convoy (2 ∷ 3 ∷ 3 ∷ []) convoy_calls
    ∷ rolls busy (1 ∷ 2 ∷ 1 ∷ 2 ∷ []) busy_calls
    ∷ rolls plain (2 ∷ 1 ∷ 1 ∷ []) plain_calls
    ∷ rolls solo (1 ∷ []) solo_calls
    ∷ rolls eleven (replicate 11 1) eleven_calls
    ∷ rolls trio (1 ∷ 2 ∷ 2 ∷ 2 ∷ []) trio_calls
    ∷ rolls even (2 ∷ 1 ∷ []) even_calls
    ∷ rolls level (2 ∷ 2 ∷ 1 ∷ 1 ∷ []) level_calls
    ∷ rolls pairs (2 ∷ 2 ∷ 1 ∷ 1 ∷ []) pairs_calls
    ∷ rolls late (5 ∷ 1 ∷ []) late_calls
    ∷ rolls seven (replicate 7 1) seven_calls
    ∷ rolls halves (1 ∷ 1 ∷ 1 ∷ 2 ∷ 2 ∷ 2 ∷ []) halves_calls
    -- begin: 8, 10, then 9 or 16. Its areas are those of a changing day too, and longer ones suffice
    ∷ begins heavy 4096 32768 (refuses 8 (0 ∷ []))
    ∷ begins heavy 0 0 (refuses 8 (0 ∷ []))
    ∷ begins crowded 4096 32768 (refuses 9 (1 ∷ 2 ∷ 3 ∷ []))
    ∷ begins crowded 4095 32768 (refuses 10 (0 ∷ []))
    ∷ begins unmatched 4096 32768 (refuses 16 (0 ∷ []))
    ∷ begins unmatched 4096 32767 (refuses 10 (0 ∷ []))
    ∷ begins solo 4096 32768 (gives (standing solo 0 (1 ∷ [])))
    ∷ begins solo 4095 32768 (refuses 10 (0 ∷ []))
    ∷ begins solo 4096 32767 (refuses 10 (0 ∷ []))
    ∷ begins solo 2 4 (refuses 10 (0 ∷ []))
    ∷ begins solo 5000 40000 (gives (standing solo 0 (1 ∷ [])))
    -- 8, the plan: a slot outside its window on either side, a train without a slot, a slot with too many, a group parted. Then a slot past the
    -- trains that is not 0, the next and the last one, and a row that has not twelve
    ∷ answers (standing strict 0 (2 ∷ 1 ∷ 1 ∷ [])) (says close (refuses 8 (0 ∷ [])) ∷ [])
    ∷ answers (standing strict 0 (1 ∷ 3 ∷ 3 ∷ [])) (says close (refuses 8 (0 ∷ [])) ∷ [])
    ∷ answers (standing strict 0 (0 ∷ 2 ∷ 2 ∷ [])) (says close (refuses 8 (0 ∷ [])) ∷ [])
    ∷ answers (standing strict 0 (1 ∷ 0 ∷ 0 ∷ [])) (says close (refuses 8 (0 ∷ [])) ∷ [])
    ∷ answers (standing strict 0 (1 ∷ 1 ∷ 1 ∷ [])) (says close (refuses 8 (0 ∷ [])) ∷ [])
    ∷ answers (standing strict 0 (1 ∷ 2 ∷ 1 ∷ [])) (says close (refuses 8 (0 ∷ [])) ∷ [])
    ∷ answers (standing strict 0 (1 ∷ 2 ∷ 2 ∷ 1 ∷ [])) (says close (refuses 8 (0 ∷ [])) ∷ [])
    ∷ answers (standing strict 0 (1 ∷ 2 ∷ 2 ∷ 0 ∷ 0 ∷ 0 ∷ 0 ∷ 0 ∷ 0 ∷ 0 ∷ 0 ∷ 2 ∷ [])) (says close (refuses 8 (0 ∷ [])) ∷ [])
    ∷ answers (record { day = strict; closed = 0; row = 1 ∷ 2 ∷ 2 ∷ 0 ∷ 0 ∷ 0 ∷ 0 ∷ 0 ∷ 0 ∷ 0 ∷ 0 ∷ [] }) (says close (refuses 8 (0 ∷ [])) ∷ [])
    ∷ answers (record { day = strict; closed = 0; row = 1 ∷ 2 ∷ 2 ∷ 0 ∷ 0 ∷ 0 ∷ 0 ∷ 0 ∷ 0 ∷ 0 ∷ 0 ∷ 0 ∷ 0 ∷ [] }) (says close (refuses 8 (0 ∷ [])) ∷ [])
    -- 8, the closed slots: as many as there are is sound, one more is not
    ∷ answers (standing strict 2 (1 ∷ 2 ∷ 2 ∷ [])) (says close (refuses 20 (0 ∷ [])) ∷ [])
    ∷ answers (standing strict 3 (1 ∷ 2 ∷ 2 ∷ [])) (says close (refuses 8 (0 ∷ [])) ∷ [])
    ∷ answers (standing strict 3 (1 ∷ 2 ∷ 2 ∷ [])) (says (asked (set_boxes 10 20 1)) (refuses 8 (0 ∷ [])) ∷ [])
    -- 8, the day: a weight, a train too many, a number that does not rise, a window, a group, boxes to a train itself, a group and boxes where
    -- no train is
    ∷ answers (standing heavy 0 (1 ∷ [])) (says close (refuses 8 (0 ∷ [])) ∷ [])
    ∷ answers (standing thirteen 0 (replicate 12 1)) (says close (refuses 8 (0 ∷ [])) ∷ [])
    ∷ answers (standing bad_numbers 0 (1 ∷ 2 ∷ 2 ∷ [])) (says close (refuses 8 (0 ∷ [])) ∷ [])
    ∷ answers (standing bad_window 0 (1 ∷ 2 ∷ 2 ∷ [])) (says close (refuses 8 (0 ∷ [])) ∷ [])
    ∷ answers (standing bad_group 0 (1 ∷ 2 ∷ 2 ∷ [])) (says close (refuses 8 (0 ∷ [])) ∷ [])
    ∷ answers (standing bad_boxes 0 (1 ∷ 2 ∷ 2 ∷ [])) (says close (refuses 8 (0 ∷ [])) ∷ [])
    ∷ answers (standing past_group 0 (1 ∷ 2 ∷ 2 ∷ [])) (says close (refuses 8 (0 ∷ [])) ∷ [])
    ∷ answers (standing past_boxes 0 (1 ∷ 2 ∷ 2 ∷ [])) (says close (refuses 8 (0 ∷ [])) ∷ [])
    -- 8 before the other checks, in each call
    ∷ answers (standing heavy 2 (1 ∷ [])) heavy_calls
    ∷ answers (standing strict 0 (1 ∷ 2 ∷ 1 ∷ [])) parted_calls
    ∷ answers (standing strict 0 (1 ∷ 2 ∷ 2 ∷ 1 ∷ [])) past_calls
    -- a plan that is allowed and not the best is taken: close keeps it, a change puts the best one in its place, and boxes set to the number that
    -- they have are a change
    ∷ answers (standing paper 0 (1 ∷ 1 ∷ 2 ∷ 2 ∷ [])) paper_calls
    ∷ answers (standing paper_with5 0 (1 ∷ 1 ∷ 2 ∷ 2 ∷ 3 ∷ [])) (says close (gives (standing paper_with5 1 (1 ∷ 1 ∷ 2 ∷ 2 ∷ 3 ∷ []))) ∷ [])
    ∷ answers (standing paper 0 (1 ∷ 1 ∷ 2 ∷ 2 ∷ [])) (says (asked (set_boxes 1 4 1)) (gives (standing paper 0 (2 ∷ 1 ∷ 2 ∷ 1 ∷ []))) ∷ [])
    ∷ answers (standing paper 0 (1 ∷ 1 ∷ 2 ∷ 2 ∷ [])) (says (asked (cancel 3)) (gives (standing paper_without3 0 (2 ∷ 1 ∷ 1 ∷ []))) ∷ [])
    ∷ answers (standing paper 0 (1 ∷ 1 ∷ 2 ∷ 2 ∷ [])) (says (asked (add 5 1 2)) (refuses 9 (1 ∷ 2 ∷ 5 ∷ [])) ∷ [])
    -- served trains stay in any closed slot, the first or the last, and the others go to the best of the open ones
    ∷ answers (standing paper_wide 1 (1 ∷ 3 ∷ 3 ∷ 2 ∷ [])) one_closed_calls
    ∷ answers (standing paper_wide 2 (2 ∷ 3 ∷ 1 ∷ 3 ∷ [])) two_closed_calls
    ∷ answers (standing paper_wide 3 (3 ∷ 1 ∷ 2 ∷ 1 ∷ [])) all_closed_calls
    ∷ []
