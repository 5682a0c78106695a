-- Laws of Accepted.antt of specs/.
-- Accepted day files have no empty line, and each of their lines ends: joined with an empty line between and parted, any list of them comes
-- back, and the text has as many days as there were files.
-- Assumes nothing.
use Rattle.std.specs.Prelude.{◌≡◌, Bool, true, false, cond, not, ◌&&◌, List, [], ◌∷◌, ◌++◌, ℕ, zero, suc, ◌+◌, ◌/◌, ◌%◌, T, ltb, length, get_or}
use Rattle.std.proofs.Common.{sym, ap, ◌∙◌, subst, append_assoc, arith, ne_eqb}
use Rattle.fold.specs.Test.{of_true}
use Rattle.model.specs.Model.{Yard}
use Rattle.day.specs.Answer.{gives}
use Rattle.day.specs.AnswerLaws.{given_then}
use Rattle.day.specs.declared.Limits.{Limits}
use Rattle.decimal.specs.Decimal.{digits_within, digits}
use Rattle.lines.specs.Lines.{row_text, rows_text}
use Rattle.dayfile.specs.Reading.{head_names, train_names, move_names, group_names, field1, field2, numbers_of, File, read_file, read_day}
use Rattle.dayfile.specs.Writing.{groups_text, file_text}
use Rattle.dayfile.specs.Files.{Fine, file_read}
use Rattle.dayfile.specs.Sections.{FineTrains, FineMoves, FineGroups}
use Rattle.parting.specs.Parting.{days, joined_files}
use Rattle.parting.specs.Laws.{lined, Whole, AllWhole}
use Rattle.parting.proofs.Laws.{lined_joins, joined-days}
use Rattle.parting.specs.Accepted.{Filled, AllAccepted}

-- ---- a value, a row, rows

-- digits are not the end of a line
lined-digits : (k v : ℕ) (start : Bool) (rest : List ℕ) → lined start (digits_within k v ++ rest) ≡ lined false rest
unfolding lined digits_within
lined-digits zero v start rest = ap (λ b. cond b (not start && lined true rest) (lined false rest)) (ne_eqb (48 + v) 10 (λ e. omega arith))
lined-digits (suc k) v start rest = go (ltb v 10) (lined-digits k (v / 10) start ((48 + v % 10) ∷ rest))
  where
    go : (b : Bool) → lined start (digits_within k (v / 10) ++ (48 + v % 10) ∷ rest) ≡ lined false ((48 + v % 10) ∷ rest)
        → lined start (cond b ((48 + v) ∷ []) (digits_within k (v / 10) ++ (48 + v % 10) ∷ []) ++ rest) ≡ lined false rest
    go true h = ap (λ b. cond b (not start && lined true rest) (lined false rest)) (ne_eqb (48 + v) 10 (λ e. omega arith))
    go false h =
        ap (lined start) (append_assoc (digits_within k (v / 10)) ((48 + v % 10) ∷ []) rest) ∙ h
        ∙ ap (λ b. cond b (not false && lined true rest) (lined false rest)) (ne_eqb (48 + v % 10) 10 (λ e. omega arith))

lined-row : (start : Bool) (v : ℕ) (vs : List ℕ) → lined start (row_text (v ∷ vs)) ≡ true
unfolding row_text lined
lined-row start v [] = lined-digits v v start (10 ∷ [])
lined-row start v (w ∷ vs) =
    ap (lined start) (append_assoc (digits v) (32 ∷ []) (row_text (w ∷ vs))) ∙ lined-digits v v start (32 ∷ row_text (w ∷ vs)) ∙ lined-row false w vs

lined_rows : (rows : List (List ℕ)) → Filled rows → T (lined true (rows_text rows))
unfolding rows_text lined
lined_rows [] h = tt
lined_rows ([] ∷ rows) h = absurd (omega (arith, h.0))
lined_rows ((v ∷ vs) ∷ rows) h = lined_joins true (row_text (v ∷ vs)) (rows_text rows) (of_true (lined-row true v vs)) (lined_rows rows h.1)

-- ---- the rows of a file

module _ (l : Limits) where
  trains_filled : (slots before : ℕ) (rows : List (List ℕ)) → FineTrains l slots before rows → Filled rows
  trains_filled slots before [] f = tt
  trains_filled slots before (r ∷ rows) f = (omega (arith, f.0), trains_filled slots (field1 r) rows f.2)

  moves_filled : (numbers before : List ℕ) (rows : List (List ℕ)) → FineMoves l numbers before rows → Filled rows
  moves_filled numbers before [] f = tt
  moves_filled numbers before (r ∷ rows) f = (omega (arith, f.0), moves_filled numbers r rows f.2)

  groups_filled : (numbers taken before : List ℕ) (rows : List (List ℕ)) → FineGroups l numbers taken before rows → Filled rows
  groups_filled numbers taken before [] f = tt
  groups_filled numbers taken before (r ∷ rows) f = (omega (arith, f.0), groups_filled numbers (field2 r ∷ taken) r rows f.2)

lined_groups : (rows : List (List ℕ)) → Filled rows → T (lined true (groups_text rows))
unfolding group_names lined
lined_groups [] h = tt
lined_groups (r ∷ rows) h = lined_joins true group_names (rows_text (r ∷ rows)) tt (lined_rows (r ∷ rows) h)

-- ---- accepted files

file-whole : (l : Limits) (f : File) → Fine l f → Whole (file_text f)
unfolding file_text head_names train_names move_names lined
file-whole l f fine =
    let trains = lined_rows f.trains (trains_filled l (get_or f.head 2 0) 0 f.trains fine.trains) in
    let moves = lined_rows f.moves (moves_filled l (numbers_of f.trains) (0 ∷ 0 ∷ 0 ∷ []) f.moves fine.moves) in
    let groups = lined_groups f.groups (groups_filled l (numbers_of f.trains) [] (0 ∷ 0 ∷ []) f.groups fine.groups) in
    let s4 : List ℕ = head_names ++ row_text f.head ++ train_names ++ rows_text f.trains ++ move_names ++ rows_text f.moves in
    let s3 : List ℕ = head_names ++ row_text f.head ++ train_names ++ rows_text f.trains ++ move_names in
    let s2 : List ℕ = head_names ++ row_text f.head ++ train_names ++ rows_text f.trains in
    let s1 : List ℕ = head_names ++ row_text f.head ++ train_names in
    record {
      some = omega arith;
      lines = lined_joins true s4 (groups_text f.groups)
          (lined_joins true s3 (rows_text f.moves)
          (lined_joins true s2 move_names
          (lined_joins true s1 (rows_text f.trains)
          (lined_joins true (head_names ++ row_text f.head) train_names (lined_joins true head_names (row_text f.head) tt (head f.head fine.fields)) tt) trains) tt) moves) groups;
    }
  where
    head : (r : List ℕ) → length r ≡ 5 → T (lined true (row_text r))
    head [] e = absurd (omega arith)
    head (v ∷ vs) e = of_true (lined-row true v vs)

pub accepted_whole : (l : Limits) (text : List ℕ) (y : Yard) → read_day l text ≡ gives y → Whole text
unfolding read_day
accepted_whole l text y h =
    given_then (read_file l text) _ h λ f e g.
    let r = file_read l text f e in
    subst Whole (sym r.text) (file-whole l f r.fine)

all_whole : (l : Limits) (files : List (List ℕ)) → AllAccepted l files → AllWhole files
all_whole l [] a = tt
all_whole l (file ∷ files) a = (accepted_whole l file a.0.0 a.0.1, all_whole l files a.1)

-- day files joined with an empty line between are the days of the text
pub accepted_days : (l : Limits) (files : List (List ℕ)) → AllAccepted l files → days (joined_files files) ≡ files
accepted_days l files a = joined-days files (all_whole l files a)
