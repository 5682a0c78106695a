-- Laws of Texts.antt of specs/.
-- Sample texts and what each reads to, what yard-plan prints for some of them, and what writing answers for outputs of some lengths, as one
-- table, and the one theorem that every line holds:
--     every-line : (l : Line) → List.Memᴰ l table → Holds l
-- The checker computes one test over the whole table; `line_holds` turns a line's test into its statement. That an accepted text is
-- written as the same bytes follows from `read_write`.
-- Assumes nothing.
use Rattle.std.specs.Prelude.{◌≡◌, refl, Bool, true, false, cond, ◌&&◌, ℕ, ◌+◌, T, eqb, length, get_or, replicate}
use Rattle.std.proofs.Common.{sym, ap, eqb→eq}
use mathlib.Core.List.{List, [], ◌∷◌, ◌++◌, Memᴰ}
use Prim.Native.String.{String}
use Rattle.fold.specs.Test.{both_of, same_list, same_list_lem}
use Rattle.fold.specs.Fold
use Rattle.fold.specs.Fold.{sum, count, each, lowest}
use Rattle.fold.specs.Table.{all_pass, all_hold}
use Rattle.fold.specs.Listed.{listed, joined}
use Rattle.sets.specs.Mask.{mask}
use Rattle.model.specs.Model.{Yard, late_supplier, revisiting, revisits, split_boxes, splits_to, splits, direct_boxes, direct_to, direct, weighed, cost, in_slots, in_time, in_window, load, roomy, fitting, grouped, apart, kept, parted, allowed, slot_mask, lower, by_key, slot_total, by_sets, precedes, bound, exceeds, overbooked}
use Rattle.model.specs.Rows.{all_rows}
use Rattle.model.specs.Order.{pick}
use Rattle.model.specs.BestOf.{best_of}
use Rattle.model.specs.Overbooked.{first_overbooked, overbooked_from, overbooked_first, overbooked_last}
use Rattle.day.specs.Answer.{Answer, gives, refuses}
use Rattle.day.specs.Sound.{day_limits, yard, within, head_ranges, train_ranges, move_ranges, group_ranges, head_row, shaped, sound, number_before, train_sound, unused, position_sound, group_sound, pair_sound, receiver_sound}
use Rattle.day.specs.declared.Day.{Day}
use Rattle.known_days.specs.Days.{move, day_of, open_day, paper_day, numbered, in_groups, one_way}
use Rattle.known_days.specs.Lines.{same_answer, same_answer_lem}
use Rattle.decimal.specs.Decimal.{more, value, digits_within}
use Rattle.lines.specs.Lines.{ascii, byte, names, field, row, row_text, rows_text}
use Rattle.output.specs.Output.{writes, leaves}
use Rattle.valuing.specs.Valuing.{strays, overfull}
use Rattle.planfile.specs.PlanText.{value_names, slot_names, plan_lines, plan_writes, plan_leaves}
use Rattle.refusal_text.specs.RefusalText.{line_names, interval_names, refusal_text}
use Rattle.answering.specs.Answering.{answer_text, answer_writes}
use Rattle.dayfile.specs.Reading
use Rattle.dayfile.specs.Reading.{head_names, train_names, move_names, group_names, moves_end, position, read_trains, read_moves, read_groups, read_file, stored, read_day}
use Rattle.dayfile.specs.Writing.{file_text, move_rows, member_rows, group_rows, file_of_lem, day_text}
use Rattle.dayfile.specs.Calls.{day_or_zero, day_writes}
use Rattle.dayfile.specs.RoundTrip.{read_write}
use Rattle.dayfile.specs.Size.{day_bytes}
use Rattle.known_texts.specs.Texts.{Line, no_day, Holds, file, with_moves, with_head, with_trains, full_file, table, accepted, accepted_same, refused, prints, answers, writes_day, writes_plan, leaves_plan}

-- ---- the test of a line

same_yard_lem : Yard → Yard → Bool
same_yard_lem y z =
    same_list (head_row y) (head_row z) && same_list y.numbers z.numbers && same_list y.first z.first && same_list y.last z.last
    && same_list y.groups z.groups && eqb y.width z.width && same_list y.boxes z.boxes

is_given_lem : Answer Yard → Bool
is_given_lem (gives y) = true
is_given_lem (refuses k carries) = false

passes : Line → Bool
passes (accepted text d) = same_answer same_yard_lem (read_day day_limits text) (gives (yard d))
passes (accepted_same text) = is_given_lem (read_day day_limits text)
passes (refused text k line) = same_answer same_yard_lem (read_day day_limits text) (refuses k (line ∷ []))
passes (prints text bytes) = same_list (answer_text day_limits text) bytes
passes (answers text size a) = same_answer eqb (answer_writes day_limits text size) a
passes (writes_day d bytes a) = same_answer eqb (day_writes day_limits (yard d) bytes) a
passes (writes_plan d row bytes a) = same_answer eqb (plan_writes day_limits (yard d) row bytes) a
passes (leaves_plan d row bytes) = same_list (plan_leaves day_limits (yard d) row (replicate (length bytes) 0)) bytes

-- the one computation
computed : T (all_pass passes table)
unfolding all_pass passes same_yard_lem is_given_lem same_answer same_list table read_day read_file read_trains read_moves head_names train_names move_names group_names moves_end read_groups position stored Reading.day_of byte names field row more value within head_ranges train_ranges move_ranges group_ranges lowest writes leaves day_text file_of_lem file_text move_rows member_rows group_rows listed joined row_text rows_text digits_within plan_lines value_names slot_names sound shaped position_sound group_sound train_sound number_before unused receiver_sound pair_sound each Fold.some sum count late_supplier revisiting revisits split_boxes splits_to splits direct_boxes direct_to direct weighed in_time in_window load roomy strays overfull answer_text refusal_text line_names interval_names cost in_slots fitting grouped apart kept parted allowed mask slot_mask lower slot_total by_sets precedes bound exceeds overbooked all_rows by_key pick best_of overbooked_from overbooked_first overbooked_last first_overbooked
computed = tt

-- the bound of `accepted_size` (the day file's Size.antt) is reached
pub full_size : length full_file ≡ day_bytes
unfolding full_file
full_size = refl

-- ---- from the test to the statement

same_yard : (y z : Yard) → T (same_yard_lem y z) → y ≡ z
unfolding same_yard_lem
same_yard y z t =
    let h = same_list (head_row y) (head_row z) in
    let n = same_list y.numbers z.numbers in
    let e = same_list y.first z.first in
    let s = same_list y.last z.last in
    let w = eqb y.width z.width in
    let g = same_list y.groups z.groups in
    let (a, boxes) = both_of (h && n && e && s && g && w) (same_list y.boxes z.boxes) t in
    let (m, width) = both_of (h && n && e && s && g) w a in
    let (b, groups) = both_of (h && n && e && s) g m in
    let (c, last) = both_of (h && n && e) s b in
    let (d, first) = both_of (h && n) e c in
    let (head, numbers) = both_of h n d in
    let hs = same_list_lem (head_row y) (head_row z) head in
    let ns = same_list_lem y.numbers z.numbers numbers in
    let es = same_list_lem y.first z.first first in
    let ss = same_list_lem y.last z.last last in
    let gs = same_list_lem y.groups z.groups groups in
    let ws = eqb→eq y.width z.width width in
    let bs = same_list_lem y.boxes z.boxes boxes in
    λ i. record {
      trains = get_or (hs i) 0 0;
      tracks = get_or (hs i) 1 0;
      slots = get_or (hs i) 2 0;
      revisit = get_or (hs i) 3 0;
      split = get_or (hs i) 4 0;
      numbers = ns i;
      first = es i;
      last = ss i;
      groups = gs i;
      width = ws i;
      boxes = bs i;
    }

is_given : (a : Answer Yard) → T (is_given_lem a) → (y : Yard) × (a ≡ gives y)
unfolding is_given_lem
is_given (gives y) t = (y, refl)
is_given (refuses k carries) t = absurd t

line_holds : (l : Line) → T (passes l) → Holds l
unfolding passes
line_holds (accepted text d) t =
    let reads = same_answer_lem same_yard_lem same_yard (read_day day_limits text) (gives (yard d)) t in
    (reads, sym (read_write day_limits text (yard d) reads))
line_holds (accepted_same text) t =
    let (y, reads) = is_given (read_day day_limits text) t in
    (y, reads, sym (read_write day_limits text y reads))
line_holds (refused text k line) t = let e = same_answer_lem same_yard_lem same_yard (read_day day_limits text) (refuses k (line ∷ [])) t in (e, ap (day_or_zero day_limits) e)
line_holds (prints text bytes) t = same_list_lem (answer_text day_limits text) bytes t
line_holds (answers text size a) t = same_answer_lem eqb eqb→eq (answer_writes day_limits text size) a t
line_holds (writes_day d bytes a) t = same_answer_lem eqb eqb→eq (day_writes day_limits (yard d) bytes) a t
line_holds (writes_plan d row bytes a) t = same_answer_lem eqb eqb→eq (plan_writes day_limits (yard d) row bytes) a t
line_holds (leaves_plan d row bytes) t = same_list_lem (plan_leaves day_limits (yard d) row (replicate (length bytes) 0)) bytes t

pub every_line : (l : Line) → Memᴰ l table → Holds l
every_line = all_hold passes Holds line_holds table computed
