-- What a text reads to: the day, or the refusal with its line (document 01, "The day file"; order 4 of 02: the groups). Lines are read downwards, and the first
-- one that breaks a rule decides; in one line its form (1 or 2), then the limits (3), then the other conditions in number order.
-- Over any limits, so that longer days have the same form.
-- Assumes nothing.
use Rattle.std.specs.Prelude.{Bool, true, false, not, cond, ◌&&◌, ◌||◌, List, [], ◌∷◌, ◌++◌, map, ℕ, zero, suc, ◌+◌, ◌-◌, ◌*◌, leb, ltb, eqb, length, get_or, set, replicate}
use Rattle.fold.specs.Fold.{lowest}
use Rattle.model.specs.Model.{Yard}
use Rattle.day.specs.Answer.{Answer, gives, refuses, on_given, Check, must, checked}
use Rattle.day.specs.Sound.{within, head_ranges, train_ranges, move_ranges, group_ranges}
use Rattle.day.specs.declared.Limits.{Limits}
use Rattle.decimal.specs.Parsed.{Parsed, fail, got}
use Rattle.lines.specs.Lines.{ascii, names, row}

-- ---- the names lines

unfoldable pub head_names : List ℕ
head_names = ascii "trains tracks slots revisit split\n"

unfoldable pub train_names : List ℕ
train_names = ascii "train first last\n"

unfoldable pub move_names : List ℕ
move_names = ascii "to from boxes\n"

unfoldable pub group_names : List ℕ
group_names = ascii "group train\n"

-- ---- the fields of a row of two or three: `train first last`, `to from boxes`, `group train`

abbrev pub field1 : List ℕ → ℕ
field1 row = get_or row 0 0

abbrev pub field2 : List ℕ → ℕ
field2 row = get_or row 1 0

abbrev pub field3 : List ℕ → ℕ
field3 row = get_or row 2 0

-- ---- the conditions of a row beside its form, with the refusals in their order

abbrev pub head_checks : Limits → List ℕ → List Check
head_checks l head = must (within (head_ranges l) head) 3 (2 ∷ []) ∷ []

-- T slots; `before` is the train number of the row before, 0 at the first
abbrev pub train_checks : Limits → ℕ → ℕ → ℕ → List ℕ → List Check
train_checks l slots before line train =
    must (within (train_ranges l slots) train) 3 (line ∷ [])
    ∷ must (ltb before (field1 train)) 4 (line ∷ [])
    ∷ must (leb (field2 train) (field3 train)) 5 (line ∷ [])
    ∷ []

-- the position, counted from 0, of a train number among those listed; their count where it is not there
unfoldable pub position : List ℕ → ℕ → ℕ
position numbers x = lowest (length numbers) λ i. eqb (get_or numbers i 0) x

abbrev pub is_listed : List ℕ → ℕ → Bool
is_listed numbers x = ltb (position numbers x) (length numbers)

-- the pair (to, from) of a row comes after that of the row before, by to and then by from
abbrev pub pair_after : List ℕ → List ℕ → Bool
pair_after before move = ltb (field1 before) (field1 move) || (eqb (field1 before) (field1 move) && ltb (field2 before) (field2 move))

-- `before` is the row before, zeros at the first
abbrev pub move_checks : Limits → List ℕ → List ℕ → ℕ → List ℕ → List Check
move_checks l numbers before line move =
    must (within (move_ranges l) move) 3 (line ∷ [])
    ∷ must (is_listed numbers (field1 move) && is_listed numbers (field2 move) && not (eqb (field1 move) (field2 move))) 6 (line ∷ [])
    ∷ must (pair_after before move) 7 (line ∷ [])
    ∷ []

-- order 4 of 02: a listed train that is in no row before (`taken` has the trains of those), the pair (group, train) after that of the row
-- before. `before` is the row before, zeros at the first
abbrev pub group_checks : Limits → List ℕ → List ℕ → List ℕ → ℕ → List ℕ → List Check
group_checks l numbers taken before line member =
    must (within (group_ranges l) member) 3 (line ∷ [])
    ∷ must (is_listed numbers (field2 member) && not (is_listed taken (field2 member)) && pair_after before member) 15 (line ∷ [])
    ∷ []

-- ---- one line, and reading on

-- what was read, or the refusal of the line's form
abbrev pub or_refuse : {X Z : Type 0} → ℕ → ℕ → Parsed X → (X → List ℕ → Answer Z) → Answer Z
or_refuse form line fail f = refuses form (line ∷ [])
or_refuse form line (got x s) f = f x s

-- a names line: the text after it
abbrev pub read_names : List ℕ → ℕ → List ℕ → Answer (List ℕ)
read_names word line s = or_refuse 1 line (names word s) λ u r. gives r

-- the text has ended
abbrev pub is_end : List ℕ → Bool
is_end [] = true
is_end (c ∷ s) = false

-- the text goes on with this names line
abbrev pub is_read : {X : Type 0} → Parsed X → Bool
is_read fail = false
is_read (got x s) = true

-- a row of k + 1 values and the text after it
pub record RowRest : Type 0 where
  pub row : List ℕ
  pub rest : List ℕ

abbrev pub read_row : ℕ → ℕ → (List ℕ → List Check) → List ℕ → Answer RowRest
read_row k line checks s = or_refuse 2 line (row k s) λ r q. checked (checks r) (gives (record { row = r; rest = q }))

-- ---- the sections of rows

-- rows, and the text after them
pub record Rows : Type 0 where
  pub rows : List (List ℕ)
  pub rest : List ℕ

abbrev pub add_row : List ℕ → Answer Rows → Answer Rows
add_row r a = on_given a λ x. gives (record { rows = r ∷ x.rows; rest = x.rest })

-- the rows of n trains
unfoldable pub read_trains : Limits → ℕ → ℕ → ℕ → ℕ → List ℕ → Answer Rows
read_trains l slots zero before line s = gives (record { rows = []; rest = s })
read_trains l slots (suc n) before line s =
    on_given (read_row 2 line (train_checks l slots before line) s) λ train.
    add_row train.row (read_trains l slots n (field1 train.row) (suc line) train.rest)

-- the moves end with the text, or where the limits have groups at exactly the fourth names line
unfoldable pub moves_end : Limits → List ℕ → Bool
moves_end l s = is_end s || (ltb 0 l.groups && is_read (names group_names s))

-- the rows of moves up to their end; a text has at most as many rows as k, its length
unfoldable pub read_moves : Limits → List ℕ → ℕ → List ℕ → ℕ → List ℕ → Answer Rows
read_moves l numbers zero before line s = cond (moves_end l s) (gives (record { rows = []; rest = s })) (refuses 2 (line ∷ []))
read_moves l numbers (suc k) before line s =
    cond (moves_end l s) (gives (record { rows = []; rest = s }))
    (on_given (read_row 2 line (move_checks l numbers before line) s) λ move.
    add_row move.row (read_moves l numbers k move.row (suc line) move.rest))

-- the rows of groups up to the end of the text, of which k is again the length; `taken` has the trains of the rows before
unfoldable pub read_groups : Limits → List ℕ → ℕ → List ℕ → List ℕ → ℕ → List ℕ → Answer Rows
read_groups l numbers zero taken before line s = cond (is_end s) (gives (record { rows = []; rest = [] })) (refuses 2 (line ∷ []))
read_groups l numbers (suc k) taken before line s =
    cond (is_end s) (gives (record { rows = []; rest = [] }))
    (on_given (read_row 1 line (group_checks l numbers taken before line) s) λ member.
    add_row member.row (read_groups l numbers k (field2 member.row ∷ taken) member.row (suc line) member.rest))

-- ---- the file

-- the rows of an accepted file
pub record File : Type 0 where
  pub head : List ℕ
  pub trains : List (List ℕ)
  pub moves : List (List ℕ)
  pub groups : List (List ℕ)

abbrev pub numbers_of : List (List ℕ) → List ℕ
numbers_of trains = map field1 trains

-- the sections: each is its names line, then its row or rows
abbrev pub head_section : Limits → List ℕ → Answer RowRest
head_section l s = on_given (read_names head_names 1 s) λ s. read_row 4 2 (head_checks l) s

abbrev pub train_section : Limits → ℕ → ℕ → List ℕ → Answer Rows
train_section l slots n s = on_given (read_names train_names 3 s) λ s. read_trains l slots n 0 4 s

abbrev pub move_section : Limits → List ℕ → ℕ → List ℕ → Answer Rows
move_section l numbers line s = on_given (read_names move_names line s) λ s. read_moves l numbers (length s) (0 ∷ 0 ∷ 0 ∷ []) (line + 1) s

-- the fourth may be left out; where it stands it has a row
abbrev pub group_section : Limits → List ℕ → ℕ → List ℕ → Answer Rows
group_section l numbers line [] = gives (record { rows = []; rest = [] })
group_section l numbers line (c ∷ s) =
    on_given (read_names group_names line (c ∷ s)) λ s.
    checked (must (not (is_end s)) 2 ((line + 1) ∷ []) ∷ []) (read_groups l numbers (length s) [] (0 ∷ 0 ∷ []) (line + 1) s)

unfoldable pub read_file : Limits → List ℕ → Answer File
read_file l text =
    on_given (head_section l text) λ head.
    on_given (train_section l (get_or head.row 2 0) (get_or head.row 0 0) head.rest) λ trains.
    on_given (move_section l (numbers_of trains.rows) (4 + get_or head.row 0 0) trains.rest) λ moves.
    on_given (group_section l (numbers_of trains.rows) (5 + get_or head.row 0 0 + length moves.rows) moves.rest) λ groups.
    gives (record { head = head.row; trains = trains.rows; moves = moves.rows; groups = groups.rows })

-- ---- the day of a file

abbrev pub padded : ℕ → List ℕ → List ℕ
padded width l = l ++ replicate (width - length l) 0

-- the place of a move's pair in the table of boxes
abbrev pub place_of : List ℕ → ℕ → List ℕ → ℕ
place_of numbers width move = position numbers (field1 move) * width + position numbers (field2 move)

-- rows put into a table, each with its value at its place
unfoldable pub stored : (List ℕ → ℕ) → (List ℕ → ℕ) → List ℕ → List (List ℕ) → List ℕ
stored place value table [] = table
stored place value table (r ∷ rows) = stored place value (set table (place r) (value r)) rows

-- the moves put into a table of boxes
abbrev pub stored_moves : List ℕ → ℕ → List ℕ → List (List ℕ) → List ℕ
stored_moves numbers width = stored (place_of numbers width) field3

-- the groups put into a column
abbrev pub stored_groups : List ℕ → List ℕ → List (List ℕ) → List ℕ
stored_groups numbers = stored (λ member. position numbers (field2 member)) field1

unfoldable pub day_of : Limits → File → Yard
day_of l f = record {
  trains = get_or f.head 0 0;
  tracks = get_or f.head 1 0;
  slots = get_or f.head 2 0;
  revisit = get_or f.head 3 0;
  split = get_or f.head 4 0;
  numbers = padded l.trains (numbers_of f.trains);
  first = padded l.trains (map field2 f.trains);
  last = padded l.trains (map field3 f.trains);
  groups = stored_groups (numbers_of f.trains) (replicate l.trains 0) f.groups;
  width = l.trains;
  boxes = stored_moves (numbers_of f.trains) l.trains (replicate (l.trains * l.trains) 0) f.moves;
}

unfoldable pub read_day : Limits → List ℕ → Answer Yard
read_day l text = on_given (read_file l text) λ f. gives (day_of l f)
