-- Texts of several day files with their days and their reports, and what yard-season prints for some of them, as one table, and the one theorem
-- that every line holds:
--     every-line : (l : Line) → List.Memᴰ l table → Holds l
-- What a line says is `Holds` of Lines.antt. The reports come from the test program (tests/days, mode season-expect), which was written from the
-- papers and has not seen these definitions.
-- Assumes nothing.
use mathlib.Core.List.{List, [], ◌∷◌, ◌++◌, Memᴰ}
use Rattle.std.specs.Prelude.{ℕ, T, replicate}
use Rattle.fold.specs.Test.{same_list}
use Rattle.fold.specs.Table.{all_pass, all_hold}
use Rattle.fold.specs.Fold
use Rattle.fold.specs.Fold.{sum, count, each, lowest}
use Rattle.fold.specs.Listed.{listed, joined}
use Rattle.sets.specs.Mask.{mask}
use Rattle.model.specs.Model.{cost, fitting, grouped, apart, kept, allowed, by_key, slot_total, by_sets, precedes, late_supplier, revisiting, revisits, split_boxes, splits_to, splits, direct_boxes, direct_to, direct, all_boxes, weighed, in_slots, in_window, load, roomy, slot_mask, lower, bound, exceeds, overbooked, in_time}
use Rattle.model.specs.Rows.{all_rows}
use Rattle.model.specs.Order.{pick}
use Rattle.model.specs.BestOf.{best_of}
use Rattle.model.specs.Overbooked.{first_overbooked, overbooked_from, overbooked_first, overbooked_last}
use Rattle.day.specs.Sound.{within, head_ranges, train_ranges, move_ranges, group_ranges, shaped, sound, number_before, train_sound, unused, position_sound, group_sound, pair_sound, receiver_sound}
use Rattle.decimal.specs.Decimal.{more, value, digits_within}
use Rattle.lines.specs.Lines.{ascii, byte, names, field, row, row_text, rows_text}
use Rattle.dayfile.specs.Reading
use Rattle.dayfile.specs.Reading.{head_names, train_names, move_names, group_names, moves_end, position, read_trains, read_moves, read_groups, read_file, stored, read_day}
use Rattle.planning.specs.Planning.{planned}
use Rattle.procedures.specs.Procedures.{track_free, waits, suits, earliest, come_to}
use Rattle.comparing.specs.Comparing.{against}
use Rattle.baselines.specs.Baselines.{compared}
use Rattle.refusal_text.specs.RefusalText.{line_names, refusal_text}
use Rattle.known_days.specs.Lines.{same_answer}
use Rattle.known_texts.specs.Texts.{file, with_moves, with_head, with_trains}
use Rattle.parting.specs.Parting.{days_from, joined_files}
use Rattle.day_figures.specs.Figures.{day_answer}
use Rattle.period_report.specs.Report.{total, tally_of, mean}
use Rattle.reporting.specs.Period.{period_report}
use Rattle.report_text.specs.ReportText.{day_names, refusal_names, revisit_names, split_names, direct_names, box_names, saving_names, refusal_rows, report_text}
use Rattle.period_answering.specs.PeriodAnswering.{period_text}
use Rattle.known_reports.specs.Lines.{Line, parts, reports, refused, prints, Holds, same_report, same_lists, passes, line_holds}

-- ---- day files

-- P1; the same with dearer weights
unfoldable pub paper : List ℕ
unfolding file with_head
paper = with_head "4 2 2 1 1\n"

unfoldable pub dear : List ℕ
unfolding file with_head
dear = with_head "4 2 2 3 2\n"

-- refused with 9; with 16; with 2
unfoldable pub three_bound : List ℕ
unfolding file
three_bound = file "3 2 2 1 1\n" "1 1 1\n2 1 1\n3 1 1\n" ""

unfoldable pub unkept : List ℕ
unfolding file with_moves
unkept = with_moves "1 2 9\ngroup train\n1 1\n1 2\n1 4\n"

unfoldable pub misshapen : List ℕ
unfolding file with_trains
misshapen = with_trains "1 01 2\n2 1 2\n3 1 2\n4 1 2\n"

-- planned, and first come leaves a train without a slot; planned, and first come parts a group
unfoldable pub crowded : List ℕ
unfolding file
crowded = file "2 1 2 1 1\n" "1 1 2\n2 1 1\n" "1 2 3\n"

unfoldable pub kept_pair : List ℕ
unfolding file with_moves
kept_pair = with_moves "1 4 1\n3 1 3\n3 4 5\n4 2 6\n4 3 1\ngroup train\n1 1\n1 3\n"

-- one train; three on one track
unfoldable pub single : List ℕ
unfolding file
single = file "1 1 1 1 1\n" "1 1 1\n" ""

unfoldable pub chain : List ℕ
unfolding file
chain = file "3 1 3 1 1\n" "1 1 3\n2 1 3\n3 1 3\n" "1 2 1\n"

-- days planned and refused
unfoldable pub six_days : List ℕ
unfolding joined_files paper three_bound misshapen unkept crowded dear
six_days = joined_files (paper ∷ three_bound ∷ misshapen ∷ unkept ∷ crowded ∷ dear ∷ [])

-- ---- the table

unfoldable pub table : List Line
unfolding paper dear three_bound unkept misshapen crowded kept_pair single chain six_days joined_files file with_moves with_head with_trains
table =
    -- the parting: no day in an empty text; each empty line parts two days, at the ends and in a row too, and belongs to neither; the day before
    -- keeps its last byte, and one without it is one day with the next
    parts [] []
    ∷ parts (ascii "a") (ascii "a" ∷ [])
    ∷ parts (ascii "a\n") (ascii "a\n" ∷ [])
    ∷ parts (ascii "\n") ([] ∷ [] ∷ [])
    ∷ parts (ascii "\n\n") ([] ∷ [] ∷ [] ∷ [])
    ∷ parts (ascii "a\n\nb\n") (ascii "a\n" ∷ ascii "b\n" ∷ [])
    ∷ parts (ascii "\na\n") ([] ∷ ascii "a\n" ∷ [])
    ∷ parts (ascii "a\n\n") (ascii "a\n" ∷ [] ∷ [])
    ∷ parts (ascii "a\n\n\nb") (ascii "a\n" ∷ [] ∷ ascii "b" ∷ [])
    ∷ parts (ascii "a\nb") (ascii "a\nb" ∷ [])
    -- no day; two empty ones
    ∷ reports [] [] (0 ∷ 0 ∷ 0 ∷ 0 ∷ 0 ∷ []) (0 ∷ 0 ∷ 0 ∷ 0 ∷ 0 ∷ 0 ∷ 0 ∷ 0 ∷ [])
    ∷ reports (ascii "\n") ((1 ∷ 2 ∷ []) ∷ []) (0 ∷ 0 ∷ 0 ∷ 0 ∷ 0 ∷ []) (0 ∷ 0 ∷ 0 ∷ 0 ∷ 0 ∷ 0 ∷ 0 ∷ 0 ∷ [])
    -- P1; P1 with dearer weights
    ∷ reports paper ((0 ∷ 1 ∷ []) ∷ []) (1 ∷ 7 ∷ 9 ∷ 16 ∷ 3 ∷ []) (1 ∷ 0 ∷ 7 ∷ 0 ∷ 9 ∷ 0 ∷ 16 ∷ 0 ∷ [])
    ∷ reports dear ((0 ∷ 1 ∷ []) ∷ []) (1 ∷ 7 ∷ 9 ∷ 16 ∷ 6 ∷ []) (1 ∷ 0 ∷ 7 ∷ 0 ∷ 9 ∷ 0 ∷ 16 ∷ 0 ∷ [])
    -- days refused by reading (2) and by planning (9, 16) among days planned; on one of these first come leaves a train without a slot
    ∷ reports six_days ((0 ∷ 3 ∷ []) ∷ (2 ∷ 1 ∷ []) ∷ (9 ∷ 1 ∷ []) ∷ (16 ∷ 1 ∷ []) ∷ []) (2 ∷ 17 ∷ 18 ∷ 35 ∷ 9 ∷ []) (0 ∷ 2 ∷ 5 ∷ 2 ∷ 6 ∷ 0 ∷ 11 ∷ 2 ∷ [])
    -- a day on which first come parts a group, one train alone, and an empty line at the end
    ∷ reports (joined_files (chain ∷ kept_pair ∷ single ∷ []) ++ ascii "\n") ((0 ∷ 3 ∷ []) ∷ (1 ∷ 1 ∷ []) ∷ []) (1 ∷ 8 ∷ 9 ∷ 17 ∷ 1 ∷ []) (0 ∷ 1 ∷ 2 ∷ 2 ∷ 3 ∷ 0 ∷ 5 ∷ 2 ∷ [])
    -- a file without its last byte is one day with the next; an empty line among the moves leaves a whole day before it
    ∷ reports (single ++ paper) ((2 ∷ 1 ∷ []) ∷ []) (0 ∷ 0 ∷ 0 ∷ 0 ∷ 0 ∷ []) (0 ∷ 0 ∷ 0 ∷ 0 ∷ 0 ∷ 0 ∷ 0 ∷ 0 ∷ [])
    ∷ reports (with_moves "1 4 1\n3 1 3\n\n3 4 5\n4 2 6\n4 3 1\n") ((0 ∷ 1 ∷ []) ∷ (1 ∷ 1 ∷ []) ∷ []) (0 ∷ 1 ∷ 3 ∷ 4 ∷ 4 ∷ []) (0 ∷ 0 ∷ 1 ∷ 0 ∷ 3 ∷ 0 ∷ 4 ∷ 0 ∷ [])
    -- 366 days, all of them empty, and 367; 10 before 22, of an empty text too
    ∷ reports (replicate 365 10) ((1 ∷ 366 ∷ []) ∷ []) (0 ∷ 0 ∷ 0 ∷ 0 ∷ 0 ∷ []) (0 ∷ 0 ∷ 0 ∷ 0 ∷ 0 ∷ 0 ∷ 0 ∷ 0 ∷ [])
    ∷ refused (replicate 366 10) 4096 32768 22
    ∷ refused (replicate 366 10) 4095 32768 10
    ∷ refused (replicate 366 10) 4096 32767 10
    ∷ refused [] 4095 32768 10
    ∷ refused [] 4096 32767 10
    -- what is printed: of no day, of the six days above, of too many
    ∷ prints [] (ascii "days planned refused\n0 0 0\nrefusal days\nrevisits mean remainder\n0 0 0\nsplits mean remainder\n0 0 0\ndirect mean remainder\n0 0 0\nboxes mean remainder\n0 0 0\nsavings\n0\n")
    ∷ prints six_days (ascii "days planned refused\n6 3 3\nrefusal days\n2 1\n9 1\n16 1\nrevisits mean remainder\n2 0 2\nsplits mean remainder\n17 5 2\ndirect mean remainder\n18 6 0\nboxes mean remainder\n35 11 2\nsavings\n9\n")
    ∷ prints (replicate 366 10) (ascii "refusal line\n22 0\n")
    ∷ []

-- the one computation
computed : T (all_pass passes table)
unfolding all_pass passes same_answer same_report same_lists same_list table period_report period_text tally_of total mean day_answer days_from report_text day_names refusal_names revisit_names split_names direct_names box_names saving_names refusal_rows read_day read_file read_trains read_moves head_names train_names move_names group_names moves_end read_groups position stored Reading.day_of byte names field row more value within head_ranges train_ranges move_ranges group_ranges lowest listed joined row_text rows_text digits_within sound shaped position_sound group_sound train_sound number_before unused receiver_sound pair_sound each Fold.some sum count late_supplier revisiting revisits split_boxes splits_to splits direct_boxes direct_to direct all_boxes weighed in_time in_window load roomy refusal_text line_names cost in_slots fitting grouped apart kept allowed mask slot_mask lower slot_total by_sets precedes bound exceeds overbooked all_rows by_key pick best_of overbooked_from overbooked_first overbooked_last first_overbooked planned track_free waits suits earliest come_to against compared
computed = tt

pub every_line : (l : Line) → Memᴰ l table → Holds l
every_line = all_hold passes Holds line_holds table computed
