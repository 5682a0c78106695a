-- Rows read before further rows, rows stored before a further one, a section that stops, and a refusal handed up: what the sections
-- have in common.
-- Assumes nothing.
use Rattle.std.specs.Prelude.{◌≡◌, refl, List, [], ◌∷◌, ◌++◌, ℕ, suc, ◌+◌, ◌≤◌, ◌<◌, length, set, drop, Result, Ok, Err}
use Rattle.std.proofs.Common.{sym, ap, ◌∙◌, append_assoc, arith, length-append, length-drop}
use Rattle.std.specs.Result.{IsErrAnd}
use Rattle.day.specs.Answer.{Answer, gives, refuses, on_given, refusal, Check}
use Rattle.day.specs.declared.Refusal.{Refusal}
use Rattle.lines.specs.Lines.{row_text}
use Rattle.dayfile.specs.Reading.{read_row, Rows, add_row, stored}
use Rattle.dayfile.specs.LineLaws.{row-line_read, row_longer}
use Rattle.day_rows.specs.Steps.{row_rest, RowTo}

-- ---- rows before rows

abbrev pub add_rows : List (List ℕ) → Answer Rows → Answer Rows
add_rows rows answer = on_given answer λ x. gives (record { rows = rows ++ x.rows; rest = x.rest })

pub add_none : (a : Answer Rows) → add_rows [] a ≡ a
add_none (gives x) = refl
add_none (refuses k carried) = refl

pub add_one_more : (rows : List (List ℕ)) (r : List ℕ) (a : Answer Rows) → add_rows rows (add_row r a) ≡ add_rows (rows ++ r ∷ []) a
add_one_more rows r (gives x) = ap (λ (l : List (List ℕ)). gives (record { rows = l; rest = x.rest })) (sym (append_assoc rows (r ∷ []) x.rows))
add_one_more rows r (refuses k carried) = refl

-- ---- a row stored after rows

pub stored_next : (place value : List ℕ → ℕ) (table : List ℕ) (rows : List (List ℕ)) (r : List ℕ)
    → set (stored place value table rows) (place r) (value r) ≡ stored place value table (rows ++ r ∷ [])
unfolding stored
stored_next place value table [] r = refl
stored_next place value table (q ∷ rows) r = stored_next place value (set table (place q) (value q)) rows r

-- ---- a row takes some of the text

pub row_further : (k line : ℕ) (checks : List ℕ → List Check) (p : ℕ) (t : List ℕ) {r : List ℕ} {next : ℕ} → p ≤ length t
    → RowTo t (read_row k line checks (drop p t)) r next → p < next
row_further k line checks p t {r} {next} inside h =
    let w = row-line_read k line checks (drop p t) (row_rest r (drop next t)) h.is in
    let long : length (drop p t) ≡ length (row_text r) + length (drop next t) = ap length w.text ∙ length-append (row_text r) (drop next t) in
    let count : length r ≡ suc k = w.count in
    let longer : 1 ≤ length (row_text r) = row_longer r (omega arith) in
    omega (arith, long, longer, length-drop p t, length-drop next t, h.inside, inside)

-- ---- a section is its names line, then its rows

pub section_stops : {X Z : Type 0} (a : Answer X) (f : X → Answer Z) (x : Refusal) → a ≡ refusal x → on_given a f ≡ refusal x
section_stops a f x e = ap (λ b. on_given b f) e

-- ---- a refusal that a `?` handed up

pub handed_up : {X E : Type 0} (o : Result X E) (e : E) → IsErrAnd o (λ f. f ≡ e) → o ≡ Err e
handed_up (Ok x) e h = absurd h
handed_up (Err f) e h = cc
