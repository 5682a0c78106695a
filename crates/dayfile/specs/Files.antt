-- Rows and text: the text of a file's rows reads to those rows where they keep the rules (file-written), and a text that is accepted is
-- the text of rows that keep them (file-read).
-- Assumes nothing.
use Rattle.std.specs.Prelude.{◌≡◌, List, [], ◌∷◌, ◌++◌, ℕ, ◌+◌, ◌≤◌, T, length, get_or}
use Rattle.std.proofs.Common.{◌∙◌, append_assoc, arith, length-append}
use Rattle.day.specs.Answer.{gives}
use Rattle.day.specs.AnswerLaws.{given_then}
use Rattle.day.specs.Sound.{within, head_ranges}
use Rattle.day.specs.SoundLaws.{within_is}
use Rattle.day.specs.declared.Limits.{Limits}
use Rattle.lines.specs.Lines.{row_text, rows_text}
use Rattle.lines.specs.Laws.{Small}
use Rattle.dayfile.specs.Reading.{head_names, train_names, move_names, head_checks, read_names, read_trains, head_section, train_section, move_section, group_section, File, numbers_of, read_file}
use Rattle.dayfile.specs.LineLaws.{names-line, names-line_read, row_line, row-line_read}
use Rattle.dayfile.specs.Writing.{groups_text, file_text, Short}
use Rattle.dayfile.specs.Sections.{FineTrains, FineMoves, FineGroups, small, trains_written, trains_read, moves_written, moves_read, groups_next, section_written, section_read}

-- ---- a file whose rows keep the rules

pub record Fine (l : Limits) (f : File) : Type 0 where
  pub fields : length f.head ≡ 5
  pub head : T (within (head_ranges l) f.head)
  pub count : length f.trains ≡ get_or f.head 0 0
  pub trains : FineTrains l (get_or f.head 2 0) 0 f.trains
  pub moves : FineMoves l (numbers_of f.trains) (0 ∷ 0 ∷ 0 ∷ []) f.moves
  pub groups : FineGroups l (numbers_of f.trains) [] (0 ∷ 0 ∷ []) f.groups

-- ---- its text

head_small : (l : Limits) → Short l → (head : List ℕ) → length head ≡ 5 → T (within (head_ranges l) head) → Small head
unfolding head_ranges
head_small l short head e t =
    small (head_ranges l) head e (short.trains, (short.tracks, (short.slots, (short.weight, (short.weight, tt))))) (within_is (head_ranges l) head t)

-- the slots of a head that keeps the limits
slots_few : (l : Limits) → Short l → (head : List ℕ) → length head ≡ 5 → T (within (head_ranges l) head) → get_or head 2 0 ≤ 99999
slots_few l short head e t = third head e (head_small l short head e t)
  where
    third : (v : List ℕ) → length v ≡ 5 → Small v → get_or v 2 0 ≤ 99999
    third [] e s = absurd (omega arith)
    third (a ∷ []) e s = absurd (omega arith)
    third (a ∷ b ∷ []) e s = absurd (omega arith)
    third (a ∷ b ∷ c ∷ v) e s = s.1.1.0

pub file_written : (l : Limits) (f : File) → Short l → Fine l f → read_file l (file_text f) ≡ gives f
unfolding read_file file_text
file_written l f short fine =
    let n : ℕ = get_or f.head 0 0 in
    let s5 : List ℕ = groups_text f.groups in
    let s4 : List ℕ = rows_text f.moves ++ s5 in
    let s3 : List ℕ = move_names ++ s4 in
    let s2 : List ℕ = rows_text f.trains ++ s3 in
    let s1 : List ℕ = train_names ++ s2 in
    let t = trains_written l short (get_or f.head 2 0) (slots_few l short f.head fine.fields fine.head) f.trains 0 4 s3 fine.trains in
    let trains : read_trains l (get_or f.head 2 0) n 0 4 s2 ≡ gives (record { rows = f.trains; rest = s3 }) = rw fine.count at t in
    simp append_assoc
    (rw (
      names-line head_names 1 (row_text f.head ++ s1),
      row_line 4 2 (head_checks l) f.head s1 fine.fields (head_small l short f.head fine.fields fine.head) (fine.head, tt),
      names-line train_names 3 s2,
      trains,
      names-line move_names (4 + n) s4,
      moves_written l (numbers_of f.trains) short (length s4) f.moves (0 ∷ 0 ∷ 0 ∷ []) (4 + n + 1) s5
          (groups_next l (numbers_of f.trains) f.groups [] (0 ∷ 0 ∷ []) fine.groups) (omega (arith, length-append (rows_text f.moves) s5)) fine.moves,
      section_written l (numbers_of f.trains) short f.groups (5 + n + length f.moves) fine.groups,
    ))

pub record FileRead (l : Limits) (t : List ℕ) (f : File) : Type 0 where
  pub fine : Fine l f
  pub text : t ≡ file_text f

pub file_read : (l : Limits) (text : List ℕ) (f : File) → read_file l text ≡ gives f → FileRead l text f
unfolding read_file file_text
file_read l text f h =
    given_then (head_section l text) _ h λ head a h.
    given_then (train_section l (get_or head.row 2 0) (get_or head.row 0 0) head.rest) _ h λ trains b h.
    given_then (move_section l (numbers_of trains.rows) (4 + get_or head.row 0 0) trains.rest) _ h λ moves c h.
    given_then (group_section l (numbers_of trains.rows) (5 + get_or head.row 0 0 + length moves.rows) moves.rest) _ h λ groups d h.
    given_then (read_names head_names 1 text) _ a λ s1 e1 e2.
    given_then (read_names train_names 3 head.rest) _ b λ s3 e3 e4.
    given_then (read_names move_names (4 + get_or head.row 0 0) trains.rest) _ c λ s5 e5 e6.
    let r = row-line_read 4 2 (head_checks l) s1 head e2 in
    let t = trains_read l (get_or head.row 2 0) (get_or head.row 0 0) 0 4 s3 trains e4 in
    let m = moves_read l (numbers_of trains.rows) (length s5) (0 ∷ 0 ∷ 0 ∷ []) (4 + get_or head.row 0 0 + 1) s5 moves e6 in
    let g = section_read l (numbers_of trains.rows) (5 + get_or head.row 0 0 + length moves.rows) moves.rest groups d in
    let same : record { head = head.row; trains = trains.rows; moves = moves.rows; groups = groups.rows } ≡ f = cc in
    rw (← same)
    (record {
      fine = record { fields = r.count; head = r.holds.0; count = t.count; trains = t.fine; moves = m.fine; groups = g.fine };
      text =
          names-line_read head_names 1 text s1 e1
          ∙ rw (r.text, names-line_read train_names 3 head.rest s3 e3, t.text, names-line_read move_names (4 + get_or head.row 0 0) trains.rest s5 e5, m.text, g.text)
          (simp append_assoc);
    })
