-- Sample texts and what each reads to, what yard-plan prints for some of them, and what writing answers for outputs of some lengths, as one
-- table, and the one theorem that every line holds:
--     every-line : (l : Line) → List.Memᴰ l table → Holds l
-- The checker computes one test over the whole table; `line_holds` turns a line's test into its statement. That an accepted text is
-- written as the same bytes follows from `read_write`.
-- Assumes nothing.
use Rattle.std.specs.Prelude.{◌≡◌, refl, Bool, true, false, cond, ◌&&◌, ℕ, ◌+◌, T, eqb, length, get_or, replicate}
use Rattle.std.proofs.Common.{sym, ap, eqb→eq}
use mathlib.Core.List.{List, [], ◌∷◌, ◌++◌, Memᴰ}
use Prim.Native.String.{String}
use Rattle.fold.specs.Test.{both_of, same_list, same_list_lem}
use Rattle.fold.specs.Fold
use Rattle.fold.specs.Fold.{sum, count, each, lowest}
use Rattle.fold.specs.Table.{all_pass, all_hold}
use Rattle.fold.specs.Listed.{listed, joined}
use Rattle.sets.specs.Mask.{mask}
use Rattle.model.specs.Model.{Yard, late_supplier, revisiting, revisits, split_boxes, splits_to, splits, direct_boxes, direct_to, direct, weighed, cost, in_slots, in_time, in_window, load, roomy, fitting, grouped, apart, kept, parted, allowed, slot_mask, lower, by_key, slot_total, by_sets, precedes, bound, exceeds, overbooked}
use Rattle.model.specs.Rows.{all_rows}
use Rattle.model.specs.Order.{pick}
use Rattle.model.specs.BestOf.{best_of}
use Rattle.model.specs.Overbooked.{first_overbooked, overbooked_from, overbooked_first, overbooked_last}
use Rattle.day.specs.Answer.{Answer, gives, refuses}
use Rattle.day.specs.Sound.{day_limits, yard, within, head_ranges, train_ranges, move_ranges, group_ranges, head_row, shaped, sound, number_before, train_sound, unused, position_sound, group_sound, pair_sound, receiver_sound}
use Rattle.day.specs.declared.Day.{Day}
use Rattle.known_days.specs.Days.{move, day_of, open_day, paper_day, numbered, in_groups, one_way}
use Rattle.known_days.specs.Lines.{same_answer, same_answer_lem}
use Rattle.decimal.specs.Decimal.{more, value, digits_within}
use Rattle.lines.specs.Lines.{ascii, byte, names, field, row, row_text, rows_text}
use Rattle.output.specs.Output.{writes, leaves}
use Rattle.valuing.specs.Valuing.{strays, overfull}
use Rattle.planfile.specs.PlanText.{value_names, slot_names, plan_lines, plan_writes, plan_leaves}
use Rattle.refusal_text.specs.RefusalText.{line_names, interval_names, refusal_text}
use Rattle.answering.specs.Answering.{answer_text, answer_writes}
use Rattle.dayfile.specs.Reading
use Rattle.dayfile.specs.Reading.{head_names, train_names, move_names, group_names, moves_end, position, read_trains, read_moves, read_groups, read_file, stored, read_day}
use Rattle.dayfile.specs.Writing.{file_text, move_rows, member_rows, group_rows, file_of_lem, day_text}
use Rattle.dayfile.specs.Calls.{day_or_zero, day_writes}
use Rattle.dayfile.specs.RoundTrip.{read_write}
use Rattle.dayfile.specs.Size.{day_bytes}

-- ---- what a line says

pub data Line : Type 0 where
  accepted : List ℕ → Day → Line
  accepted_same : List ℕ → Line
  refused : List ℕ → ℕ → ℕ → Line
  prints : List ℕ → List ℕ → Line
  answers : List ℕ → ℕ → Answer ℕ → Line
  writes_day : Day → ℕ → Answer ℕ → Line
  writes_plan : Day → List ℕ → ℕ → Answer ℕ → Line
  leaves_plan : Day → List ℕ → List ℕ → Line

-- a record of zeros
abbrev pub no_day : Day
no_day = record {
  trains = 0;
  tracks = 0;
  slots = 0;
  revisit = 0;
  split = 0;
  numbers = replicate 12 0;
  first = replicate 12 0;
  last = replicate 12 0;
  groups = replicate 12 0;
  boxes = replicate 144 0;
}

abbrev pub Holds : Line → Type 0
-- the text reads to this day, and the day is written as the same bytes
Holds (accepted text d) = (read_day day_limits text ≡ gives (yard d)) × (day_text day_limits (yard d) ≡ text)
-- the same of some day
Holds (accepted_same text) = (y : Yard) × (read_day day_limits text ≡ gives y) × (day_text day_limits y ≡ text)
-- the text is refused with this number and this line, beside a record of zeros
Holds (refused text k line) = (read_day day_limits text ≡ refuses k (line ∷ [])) × (day_or_zero day_limits (read_day day_limits text) ≡ yard no_day)
-- for this text yard-plan prints these bytes
Holds (prints text bytes) = answer_text day_limits text ≡ bytes
-- answering the text into an output of so many bytes gives this answer
Holds (answers text size a) = answer_writes day_limits text size ≡ a
-- writing the day, or the plan of a row, into an output of so many bytes gives this answer
Holds (writes_day d bytes a) = day_writes day_limits (yard d) bytes ≡ a
Holds (writes_plan d row bytes a) = plan_writes day_limits (yard d) row bytes ≡ a
-- writing the plan of a row into an output of as many bytes leaves these
Holds (leaves_plan d row bytes) = plan_leaves day_limits (yard d) row (replicate (length bytes) 0) ≡ bytes

-- ---- texts

-- the rows of the first three sections, each under its names line
unfoldable pub file : String → String → String → List ℕ
unfolding head_names train_names move_names
file head trains moves = head_names ++ ascii head ++ train_names ++ ascii trains ++ move_names ++ ascii moves

-- P1's file with other moves, from line 9 on, and groups behind them; with another row of five, line 2; with other trains, from line 4 on
unfoldable pub with_moves : String → List ℕ
unfolding file
with_moves = file "4 2 2 1 1\n" "1 1 2\n2 1 2\n3 1 2\n4 1 2\n"

unfoldable pub with_head : String → List ℕ
unfolding file
with_head head = file head "1 1 2\n2 1 2\n3 1 2\n4 1 2\n" "1 4 1\n3 1 3\n3 4 5\n4 2 6\n4 3 1\n"

unfoldable pub with_trains : String → List ℕ
unfolding file
with_trains trains = file "4 2 2 1 1\n" trains "1 4 1\n3 1 3\n3 4 5\n4 2 6\n4 3 1\n"

-- the longest file: 12 trains with the numbers 99988 to 99999, a move for each pair, all in a group, every value of the most digits
unfoldable pub full_file : List ℕ
unfolding head_names train_names move_names group_names joined digits_within
full_file =
    let number : ℕ → List ℕ = λ i. digits_within 4 (99988 + i) in
    head_names ++ ascii "12 12 8 65535 65535\n"
    ++ train_names ++ joined 12 (λ i. number i ++ ascii " 8 8\n")
    ++ move_names ++ joined 12 (λ i. joined 12 λ j. cond (eqb i j) [] (number i ++ ascii " " ++ number j ++ ascii " 255\n"))
    ++ group_names ++ joined 12 (λ i. ascii "12 " ++ number i ++ ascii "\n")

-- ---- the table

unfoldable pub table : List Line
unfolding file with_moves with_head with_trains full_file day_of open_day paper_day numbered in_groups one_way
table =
    -- P1
    accepted (ascii "trains tracks slots revisit split\n4 2 2 1 1\ntrain first last\n1 1 2\n2 1 2\n3 1 2\n4 1 2\nto from boxes\n1 4 1\n3 1 3\n3 4 5\n4 2 6\n4 3 1\n") (paper_day 1 1 1)
    -- 01's small inputs of the refusals 1 to 7
    ∷ refused (ascii "trains\n4 2 2 1 1\ntrain first last\n1 1 2\n2 1 2\n3 1 2\n4 1 2\nto from boxes\n1 4 1\n") 1 1
    ∷ refused (with_trains "1 01 2\n2 1 2\n3 1 2\n4 1 2\n") 2 4
    ∷ refused (with_head "13 2 2 1 1\n") 3 2
    ∷ refused (with_trains "3 1 2\n5 1 2\n5 1 2\n6 1 2\n") 4 6
    ∷ refused (with_trains "1 1 2\n2 1 2\n3 1 2\n7 2 1\n") 5 7
    ∷ refused (with_moves "1 4 1\n4 4 1\n") 6 10
    ∷ refused (with_moves "1 4 1\n3 4 5\n3 1 3\n4 2 6\n") 7 11
    -- the other two names lines
    ∷ refused (ascii "trains tracks slots revisit split\n1 2 2 1 1\ntrain last first\n1 1 2\nto from boxes\n") 1 3
    ∷ refused (ascii "trains tracks slots revisit split\n1 2 2 1 1\ntrain first last\n1 1 2\nfrom to boxes\n") 1 5
    -- the limits of the head on both sides: 1 and 12 trains, 0 and 13; 1 and 12 tracks, 0 and 13; 1 and 8 slots, 0 and 9; weights 0 and
    -- 65535, 65536. Train numbers 1 and 99999, 0, and one more than 99999 has six digits; numbers are compared as numbers, 9 before 10000
    ∷ accepted (file "12 12 8 1 1\n" "1 1 8\n2 1 8\n3 1 8\n4 1 8\n5 1 8\n6 1 8\n7 1 8\n8 1 8\n9 1 8\n10 1 8\n11 1 8\n12 1 8\n" "") (open_day 12 12 8 [])
    ∷ refused (file "13 12 8 1 1\n" "1 1 8\n2 1 8\n3 1 8\n4 1 8\n5 1 8\n6 1 8\n7 1 8\n8 1 8\n9 1 8\n10 1 8\n11 1 8\n12 1 8\n13 1 8\n" "") 3 2
    ∷ refused (file "0 2 2 1 1\n" "" "") 3 2
    ∷ refused (with_head "4 13 2 1 1\n") 3 2
    ∷ refused (with_head "4 0 2 1 1\n") 3 2
    ∷ refused (with_head "4 2 9 1 1\n") 3 2
    ∷ refused (with_head "4 2 0 1 1\n") 3 2
    ∷ accepted (with_head "4 2 2 65535 65535\n") (paper_day 65535 65535 1)
    ∷ accepted (with_head "4 2 2 0 0\n") (paper_day 0 0 1)
    ∷ refused (with_head "4 2 2 65536 1\n") 3 2
    ∷ refused (with_head "4 2 2 1 65536\n") 3 2
    ∷ accepted (file "2 1 2 1 1\n" "255 1 2\n256 1 2\n" "") (numbered (255 ∷ 256 ∷ []) [])
    ∷ accepted (file "2 1 2 1 1\n" "65535 1 2\n65536 1 2\n" "65536 65535 7\n") (numbered (65535 ∷ 65536 ∷ []) (move 2 1 7 ∷ []))
    ∷ accepted (file "2 1 2 1 1\n" "1 1 2\n99999 1 2\n" "1 99999 3\n99999 1 4\n") (numbered (1 ∷ 99999 ∷ []) (move 1 2 3 ∷ move 2 1 4 ∷ []))
    ∷ refused (file "2 1 2 1 1\n" "1 1 2\n100000 1 2\n" "") 2 5
    ∷ accepted (file "2 1 2 1 1\n" "9 1 2\n10000 1 2\n" "9 10000 1\n10000 9 1\n") (numbered (9 ∷ 10000 ∷ []) (move 1 2 1 ∷ move 2 1 1 ∷ []))
    ∷ refused (file "2 1 2 1 1\n" "10000 1 2\n9 1 2\n" "") 4 5
    ∷ refused (file "2 1 2 1 1\n" "9 1 2\n10000 1 2\n" "10000 9 1\n9 10000 1\n") 7 8
    ∷ refused (with_trains "0 1 2\n2 1 2\n3 1 2\n4 1 2\n") 3 4
    -- first and last slots: 1 and T, 0 and T + 1
    ∷ accepted (file "1 1 1 0 0\n" "1 1 1\n" "") (day_of 1 1 1 0 0 (1 ∷ []) (1 ∷ []) [])
    ∷ accepted (file "2 1 2 1 1\n" "1 1 1\n2 2 2\n" "") (day_of 2 1 2 1 1 (1 ∷ 2 ∷ []) (1 ∷ 2 ∷ []) [])
    ∷ refused (with_trains "1 0 2\n2 1 2\n3 1 2\n4 1 2\n") 3 4
    ∷ refused (with_trains "1 1 2\n2 3 3\n3 1 2\n4 1 2\n") 3 5
    ∷ refused (with_trains "1 1 2\n2 1 2\n3 1 2\n7 1 0\n") 3 7
    ∷ refused (with_trains "1 1 2\n2 1 3\n3 1 2\n4 1 2\n") 3 5
    -- boxes 1 and 255, 0 and 256; train numbers of moves
    ∷ accepted (file "2 1 2 1 1\n" "1 1 2\n2 1 2\n" "1 2 1\n") (open_day 2 1 2 (move 1 2 1 ∷ []))
    ∷ accepted (file "2 1 2 1 1\n" "1 1 2\n2 1 2\n" "1 2 255\n") (open_day 2 1 2 (move 1 2 255 ∷ []))
    ∷ refused (with_moves "1 2 256\n") 3 9
    ∷ refused (with_moves "1 2 0\n") 3 9
    ∷ refused (with_moves "0 2 1\n") 3 9
    ∷ refused (with_moves "1 0 1\n") 3 9
    ∷ refused (with_moves "1 99999 1\n") 6 9
    ∷ refused (with_moves "1 100000 1\n") 2 9
    ∷ refused (with_moves "100000 1 1\n") 2 9
    -- values: five digits and six, leading zeros
    ∷ refused (with_head "4 2 2 99999 1\n") 3 2
    ∷ refused (with_head "4 2 2 100000 1\n") 2 2
    ∷ refused (with_head "4 2 2 01 1\n") 2 2
    ∷ refused (with_head "4 2 2 00 1\n") 2 2
    -- the text ends: after nothing, in a line, after each kind of line; only after the third names line and after a move is it whole
    ∷ refused [] 1 1
    ∷ refused (ascii "trains tracks slots revisit split") 1 1
    ∷ refused (ascii "trains tracks slots revisit split\n") 2 2
    ∷ refused (ascii "trains tracks slots revisit split\n4 2 2 1 1") 2 2
    ∷ refused (ascii "trains tracks slots revisit split\n4 2 2 1 1\n") 1 3
    ∷ refused (ascii "trains tracks slots revisit split\n4 2 2 1 1\ntrain first last") 1 3
    ∷ refused (ascii "trains tracks slots revisit split\n1 2 2 1 1\ntrain first last\n") 2 4
    ∷ refused (ascii "trains tracks slots revisit split\n1 2 2 1 1\ntrain first last\n1 1 2") 2 4
    ∷ refused (ascii "trains tracks slots revisit split\n1 2 2 1 1\ntrain first last\n1 1 2\n") 1 5
    ∷ refused (ascii "trains tracks slots revisit split\n1 2 2 1 1\ntrain first last\n1 1 2\nto from boxes") 1 5
    ∷ accepted (with_moves "") (open_day 4 2 2 [])
    ∷ refused (with_moves "1 4 1\n3 1 3") 2 10
    ∷ accepted_same (with_moves "1 4 1\n3 1 3\n")
    -- blanks, a byte 13, empty lines, another count of fields, a names line among the moves
    ∷ refused (with_moves "1  4 1\n") 2 9
    ∷ refused (with_moves " 1 4 1\n") 2 9
    ∷ refused (with_moves "1 4 1 \n") 2 9
    ∷ refused (with_moves "1\t4 1\n") 2 9
    ∷ refused (with_moves "1 4 1\r\n") 2 9
    ∷ refused (with_trains "1 1 2\n2 1 2 \n3 1 2\n4 1 2\n") 2 5
    ∷ refused (ascii "trains tracks slots revisit split \n4 2 2 1 1\n") 1 1
    ∷ refused (ascii "trains tracks slots revisit split\r\n4 2 2 1 1\n") 1 1
    ∷ refused (with_head "4 2 2 1 1\r\n") 2 2
    ∷ refused (with_head "4 2 2 1 1\n\n") 1 3
    ∷ refused (with_trains "1 1 2\n\n2 1 2\n3 1 2\n4 1 2\n") 2 5
    ∷ refused (with_trains "1 1 2\n2 1 2\n3 1 2\n4 1 2\n\n") 1 8
    ∷ refused (with_moves "\n") 2 9
    ∷ refused (with_moves "1 4 1\n\n3 1 3\n") 2 10
    ∷ refused (with_moves "1 4 1\n3 1 3\n\n") 2 11
    ∷ refused (with_moves "1 4\n") 2 9
    ∷ refused (with_moves "1 4 1 1\n") 2 9
    ∷ refused (with_moves "1 4 x\n") 2 9
    ∷ refused (with_moves "1 4 -1\n") 2 9
    ∷ refused (with_head "4 2 2 1\n") 2 2
    ∷ refused (with_head "4 2 2 1 1 1\n") 2 2
    ∷ refused (with_moves "1 4 1\nto from boxes\n") 2 10
    -- a row too many, a train too few
    ∷ refused (with_head "4 2 2 1 1\n4 2 2 1 1\n") 1 3
    ∷ refused (with_trains "1 1 2\n2 1 2\n3 1 2\n4 1 2\n5 1 2\n") 1 8
    ∷ refused (with_trains "1 1 2\n2 1 2\n3 1 2\n") 2 7
    -- in one line: the form before the limits, then 3, 4, 5, and 3, 6, 7; of two lines the first
    ∷ refused (with_head "13 2 2 1 x\n") 2 2
    ∷ refused (with_trains "1 1 2\n0 1 x\n3 1 2\n4 1 2\n") 2 5
    ∷ refused (with_trains "1 1 2\n5 1 2\n3 9 1\n7 1 2\n") 3 6
    ∷ refused (with_trains "1 1 2\n5 1 2\n3 1 9\n7 1 2\n") 3 6
    ∷ refused (with_trains "1 1 2\n5 1 2\n6 3 1\n7 1 2\n") 3 6
    ∷ refused (with_trains "1 1 2\n5 1 2\n3 2 1\n7 1 2\n") 4 6
    ∷ refused (with_trains "1 1 2\n5 1 2\n6 2 1\n7 1 2\n") 5 6
    ∷ refused (with_moves "4 3 1\n3 x 0\n") 2 10
    ∷ refused (with_moves "4 3 1\n3 3 0\n") 3 10
    ∷ refused (with_moves "4 3 1\n3 4 0\n") 3 10
    ∷ refused (with_moves "4 3 1\n3 3 1\n") 6 10
    ∷ refused (with_moves "4 3 1\n3 4 1\n") 7 10
    ∷ refused (with_trains "1 1 2\n2 2 1\n2 1 3\n1 01 2\n") 5 5
    -- pairs: the same twice, one supplier after a later one, a train not listed, a train and itself
    ∷ refused (with_moves "1 4 1\n1 4 1\n") 7 10
    ∷ refused (with_moves "1 4 1\n1 3 1\n") 7 10
    ∷ refused (with_moves "1 5 1\n") 6 9
    ∷ refused (with_moves "5 1 1\n") 6 9
    ∷ refused (with_moves "1 1 1\n") 6 9
    ∷ refused (with_moves "5 5 1\n") 6 9
    -- the longest file, and one row more
    ∷ accepted_same full_file
    ∷ refused (full_file ++ ascii "12 99999\n") 15 162
    -- the fourth section: after the moves and after none, group numbers with gaps, trains in none, numbers compared as numbers
    ∷ accepted (with_moves "1 4 1\ngroup train\n1 1\n1 3\n2 2\n") (in_groups (1 ∷ 2 ∷ 1 ∷ []) (open_day 4 2 2 (move 1 4 1 ∷ [])))
    ∷ accepted (with_moves "group train\n5 1\n12 2\n12 4\n") (in_groups (5 ∷ 12 ∷ 0 ∷ 12 ∷ []) (open_day 4 2 2 []))
    ∷ accepted (file "2 1 2 1 1\n" "9 1 2\n10000 1 2\n" "group train\n3 9\n3 10000\n") (in_groups (3 ∷ 3 ∷ []) (numbered (9 ∷ 10000 ∷ []) []))
    -- it needs a row: the absent line is named; its names line is exact, stands after the moves and once, and only its rows follow
    ∷ refused (with_moves "1 4 1\ngroup train\n") 2 11
    ∷ refused (with_moves "group train\n") 2 10
    ∷ refused (with_moves "1 4 1\ngroup train") 2 10
    ∷ refused (with_moves "1 4 1\ngroup trains\n1 1\n") 2 10
    ∷ refused (with_moves "group train \n1 1\n") 2 9
    ∷ refused (with_moves "group train\r\n1 1\n") 2 9
    ∷ refused (ascii "trains tracks slots revisit split\n1 2 2 1 1\ntrain first last\n1 1 2\ngroup train\n1 1\nto from boxes\n") 1 5
    ∷ refused (with_moves "group train\n1 1\ngroup train\n1 2\n") 2 11
    ∷ refused (with_moves "group train\n1 1\n1 4 1\n") 2 11
    ∷ refused (with_moves "group train\n1 1\n\n") 2 11
    ∷ refused (with_moves "group train\n1 1\n1 2") 2 11
    ∷ refused (with_moves "group train\n1 1 1\n") 2 10
    ∷ refused (with_moves "group train\n1\n") 2 10
    ∷ refused (with_moves "1 4\ngroup train\n1 1\n") 2 9
    -- groups 1 and 12, 0 and 13; the form before the limits, these before 15; of two lines the first
    ∷ refused (with_moves "group train\n0 1\n") 3 10
    ∷ refused (with_moves "group train\n13 1\n") 3 10
    ∷ refused (with_moves "group train\n1 0\n") 3 10
    ∷ refused (with_moves "group train\n13 x\n") 2 10
    ∷ refused (with_moves "group train\n13 5\n") 3 10
    ∷ refused (with_moves "group train\n2 1\n0 1\n") 3 11
    ∷ refused (with_moves "group train\n1 5\n0 1\n") 15 10
    ∷ refused (with_moves "group train\n2 1\n1 0\n") 3 11
    ∷ refused (with_moves "group train\n2 1\n1 x\n") 2 11
    -- 15: a train not listed, the same pair twice, a train before the one before, a group before the one before, a train in two groups
    ∷ refused (with_moves "group train\n1 5\n") 15 10
    ∷ refused (with_moves "group train\n1 1\n1 1\n") 15 11
    ∷ refused (with_moves "group train\n1 3\n1 1\n") 15 11
    ∷ refused (with_moves "group train\n2 1\n1 2\n") 15 11
    ∷ refused (with_moves "group train\n1 1\n1 2\n2 1\n") 15 12
    -- what is printed: P1's plan file as 01 has it with order 6's direct moves, that of a day of five trains, the two lines of 9 for P9, the
    -- two lines of a text that is no day file
    ∷ prints (with_head "4 2 2 1 1\n") (ascii "revisits splits direct cost\n1 7 9 8\ntrain slot\n1 2\n2 1\n3 2\n4 1\n")
    ∷ prints (file "5 3 2 1 1\n" "1 1 1\n2 1 1\n3 1 1\n4 2 2\n5 2 2\n" "1 2 3\n1 5 4\n2 1 5\n4 1 2\n5 4 16\n") (ascii "revisits splits direct cost\n1 6 24 7\ntrain slot\n1 1\n2 1\n3 1\n4 2\n5 2\n")
    ∷ prints (file "3 2 2 1 1\n" "1 1 1\n2 1 1\n3 1 1\n" "") (ascii "refusal first last trains\n9 1 1 3\n")
    ∷ prints (with_trains "1 01 2\n2 1 2\n3 1 2\n4 1 2\n") (ascii "refusal line\n2 4\n")
    -- wagon sets printed: P1 with trains 1 and 2 in one, a set of more trains than tracks, a row of a train not listed
    ∷ prints (with_moves "1 4 1\n3 1 3\n3 4 5\n4 2 6\n4 3 1\ngroup train\n1 1\n1 2\n") (ascii "revisits splits direct cost\n1 10 6 11\ntrain slot\n1 1\n2 1\n3 2\n4 2\n")
    ∷ prints (with_moves "group train\n1 1\n1 2\n1 4\n") (ascii "refusal line\n16 0\n")
    ∷ prints (with_moves "group train\n1 5\n") (ascii "refusal line\n15 10\n")
    -- the answer in an output that is just long enough, and one byte short
    ∷ answers (with_head "4 2 2 1 1\n") 63 (gives 63)
    ∷ answers (with_head "4 2 2 1 1\n") 62 (refuses 10 (0 ∷ []))
    -- writing a day into an output that is just long enough, and one byte short; 8 before 10
    ∷ writes_day (paper_day 1 1 1) 129 (gives 129)
    ∷ writes_day (paper_day 1 1 1) 128 (refuses 10 (0 ∷ []))
    ∷ writes_day (paper_day 65536 1 1) 0 (refuses 8 (0 ∷ []))
    ∷ writes_day (in_groups (1 ∷ 0 ∷ 1 ∷ []) (paper_day 1 1 1)) 149 (gives 149)
    ∷ writes_day (in_groups (1 ∷ 0 ∷ 1 ∷ []) (paper_day 1 1 1)) 148 (refuses 10 (0 ∷ []))
    -- the bytes of a plan, of four trains and of eleven
    ∷ leaves_plan (paper_day 1 1 1) (2 ∷ 1 ∷ 2 ∷ 1 ∷ []) (ascii "revisits splits direct cost\n1 7 9 8\ntrain slot\n1 2\n2 1\n3 2\n4 1\n")
    ∷ leaves_plan (open_day 11 11 8 (one_way 11)) (7 ∷ 7 ∷ 7 ∷ 5 ∷ 5 ∷ 5 ∷ 6 ∷ 6 ∷ 6 ∷ 8 ∷ 8 ∷ []) (ascii "revisits splits direct cost\n6 4167 673 4173\ntrain slot\n1 7\n2 7\n3 7\n4 5\n5 5\n6 5\n7 6\n8 6\n9 6\n10 8\n11 8\n")
    -- and their count; 8 before 11 before 12 before 13 before 17 before 10
    ∷ writes_plan (paper_day 1 1 1) (2 ∷ 1 ∷ 2 ∷ 1 ∷ []) 63 (gives 63)
    ∷ writes_plan (paper_day 1 1 1) (2 ∷ 1 ∷ 2 ∷ 1 ∷ []) 62 (refuses 10 (0 ∷ []))
    ∷ writes_plan (paper_day 65536 1 1) [] 0 (refuses 8 (0 ∷ []))
    ∷ writes_plan (paper_day 1 1 1) (0 ∷ 0 ∷ 0 ∷ []) 0 (refuses 11 (0 ∷ []))
    ∷ writes_plan (paper_day 1 1 2) (1 ∷ 1 ∷ 1 ∷ 1 ∷ []) 0 (refuses 12 (4 ∷ []))
    ∷ writes_plan (paper_day 1 1 1) (1 ∷ 2 ∷ 2 ∷ 2 ∷ []) 0 (refuses 13 (2 ∷ []))
    ∷ writes_plan (in_groups (7 ∷ 3 ∷ 7 ∷ 3 ∷ []) (paper_day 1 1 1)) (1 ∷ 2 ∷ 2 ∷ 2 ∷ []) 0 (refuses 13 (2 ∷ []))
    ∷ writes_plan (in_groups (7 ∷ 3 ∷ 7 ∷ 3 ∷ []) (paper_day 1 1 1)) (1 ∷ 1 ∷ 2 ∷ 2 ∷ []) 0 (refuses 17 (3 ∷ []))
    ∷ []
