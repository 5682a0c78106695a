-- Reading refuses a text with one of the numbers 1 to 7 or with 15, and one line, counted from 1, for any limits (`read_lined`); where the
-- limits have no groups it is one of 1 to 7 (`read_ungrouped`).
-- Assumes nothing.
use Rattle.std.specs.Prelude.{◌≡◌, refl, Bool, false, cond, ◌⊎◌}
use Rattle.std.proofs.Math.Bool.{true}
use mathlib.Core.List.{List, [], ◌∷◌}
use Rattle.std.proofs.Common.{inl, inr, arith}
use Prim.Native.Nat.{ℕ, zero, suc, ◌+◌, ◌≤◌}
use Rattle.std.proofs.Math.ListN.{length, get_or}
use Rattle.day.specs.Answer.{Answer, gives, refuses, Check, checked}
use Rattle.day.specs.AnswerLaws.{Only, OnlyChecks, only_given, only_checked, given_then}
use Rattle.day.specs.Sound.{within, group_ranges}
use Rattle.day.specs.declared.Limits.{Limits}
use Rattle.decimal.specs.Parsed.{Parsed, fail, got}
use Rattle.lines.specs.Lines.{names, row}
use Rattle.dayfile.specs.Reading.{field1, field2, head_names, train_names, move_names, group_names, head_checks, train_checks, move_checks, group_checks, or_refuse, read_names, is_end, read_row, RowRest, Rows, add_row, read_trains, moves_end, read_moves, read_groups, head_section, train_section, move_section, group_section, numbers_of, read_file, read_day}
use Rattle.dayfile.specs.Sections.{has_row, moves_read}

-- the refusals of a text: 1 to 7 of document 01, and 15 of order 4
abbrev pub PlainRefusal : ℕ → Type 0
PlainRefusal k = (1 ≤ k) × (k ≤ 7)

abbrev pub FileRefusal : ℕ → Type 0
FileRefusal k = PlainRefusal k ⊎ (k ≡ 15)

-- one of them, with a line
abbrev pub AtLine : (ℕ → Type 0) → ℕ → List ℕ → Type 0
AtLine which k carries = which k × ((line : ℕ) × ((1 ≤ line) × (carries ≡ line ∷ [])))

abbrev pub Lined : ℕ → List ℕ → Type 0
Lined = AtLine FileRefusal

-- ---- any of them that are 1 to 7 at least, and where the groups are read 15

module _ (which : ℕ → Type 0) (plain : (k : ℕ) → 1 ≤ k → k ≤ 7 → which k) where
  abbrev Here : ℕ → List ℕ → Type 0
  Here = AtLine which

  module _ (line : ℕ) (counted : 1 ≤ line) where
    at-line : (k : ℕ) → 1 ≤ k → k ≤ 7 → Here k (line ∷ [])
    at-line k a b = (plain k a b, (line, (counted, refl)))

    names-lined : (word s : List ℕ) → Only Here (read_names word line s)
    names-lined word s = go (names word s)
      where
        go : (p : Parsed Unit) → Only Here (or_refuse 1 line p λ u r. gives r)
        go fail = at-line 1 (omega arith) (omega arith)
        go (got u r) = tt

    row-lined : (k : ℕ) (checks : List ℕ → List Check) (s : List ℕ) → ((r : List ℕ) → OnlyChecks Here (checks r)) → Only Here (read_row k line checks s)
    row-lined k checks s h = go (row k s)
      where
        go : (p : Parsed (List ℕ)) → Only {X = RowRest} Here (or_refuse 2 line p λ r q. checked (checks r) (gives (record { row = r; rest = q })))
        go fail = at-line 2 (omega arith) (omega arith)
        go (got r q) = only_checked Here (checks r) (gives (record { row = r; rest = q })) (h r) tt

    trains_checked : (l : Limits) (slots before : ℕ) (r : List ℕ) → OnlyChecks Here (train_checks l slots before line r)
    trains_checked l slots before r = (at-line 3 (omega arith) (omega arith), (at-line 4 (omega arith) (omega arith), (at-line 5 (omega arith) (omega arith), tt)))

    moves_checked : (l : Limits) (numbers before r : List ℕ) → OnlyChecks Here (move_checks l numbers before line r)
    moves_checked l numbers before r = (at-line 3 (omega arith) (omega arith), (at-line 6 (omega arith) (omega arith), (at-line 7 (omega arith) (omega arith), tt)))

    groups_checked : which 15 → (l : Limits) (numbers taken before r : List ℕ) → OnlyChecks Here (group_checks l numbers taken before line r)
    groups_checked fifteen l numbers taken before r = (at-line 3 (omega arith) (omega arith), ((fifteen, (line, (counted, refl))), tt))

  add-lined : (r : List ℕ) (a : Answer Rows) → Only Here a → Only Here (add_row r a)
  add-lined r a h = only_given Here a _ h λ x e. tt

  -- a section that ends here, or goes on
  end_lined : (b : Bool) (x : Rows) (a : Answer Rows) → Only Here a → Only Here (cond b (gives x) a)
  end_lined true x a h = tt
  end_lined false x a h = h

  trains_lined : (l : Limits) (slots n before line : ℕ) (s : List ℕ) → 1 ≤ line → Only Here (read_trains l slots n before line s)
  unfolding read_trains
  trains_lined l slots zero before line s h = tt
  trains_lined l slots (suc n) before line s h =
      only_given Here (read_row 2 line (train_checks l slots before line) s) _
      (row-lined line h 2 (train_checks l slots before line) s (trains_checked line h l slots before))
      λ t e. add-lined t.row (read_trains l slots n (field1 t.row) (suc line) t.rest) (trains_lined l slots n (field1 t.row) (suc line) t.rest (omega arith))

  moves_lined : (l : Limits) (numbers : List ℕ) (k : ℕ) (before : List ℕ) (line : ℕ) (s : List ℕ) → 1 ≤ line → Only Here (read_moves l numbers k before line s)
  unfolding read_moves
  moves_lined l numbers zero before line s h = end_lined (moves_end l s) _ _ (at-line line h 2 (omega arith) (omega arith))
  moves_lined l numbers (suc k) before line s h =
      end_lined (moves_end l s) _ _
      (only_given Here (read_row 2 line (move_checks l numbers before line) s) _
      (row-lined line h 2 (move_checks l numbers before line) s (moves_checked line h l numbers before))
      λ m e. add-lined m.row (read_moves l numbers k m.row (suc line) m.rest) (moves_lined l numbers k m.row (suc line) m.rest (omega arith)))

  groups_lined : which 15 → (l : Limits) (numbers : List ℕ) (k : ℕ) (taken before : List ℕ) (line : ℕ) (s : List ℕ) → 1 ≤ line
      → Only Here (read_groups l numbers k taken before line s)
  unfolding read_groups
  groups_lined fifteen l numbers zero taken before line s h = end_lined (is_end s) _ _ (at-line line h 2 (omega arith) (omega arith))
  groups_lined fifteen l numbers (suc k) taken before line s h =
      end_lined (is_end s) _ _
      (only_given Here (read_row 1 line (group_checks l numbers taken before line) s) _
      (row-lined line h 1 (group_checks l numbers taken before line) s (groups_checked line h fifteen l numbers taken before))
      λ m e.
      add-lined m.row (read_groups l numbers k (field2 m.row ∷ taken) m.row (suc line) m.rest)
      (groups_lined fifteen l numbers k (field2 m.row ∷ taken) m.row (suc line) m.rest (omega arith)))

  -- the sections
  module _ (l : Limits) where
    head_lined : (text : List ℕ) → Only Here (head_section l text)
    head_lined text =
        only_given Here (read_names head_names 1 text) _ (names-lined 1 (omega arith) head_names text)
        λ s e. row-lined 2 (omega arith) 4 (head_checks l) s λ r. (at-line 2 (omega arith) 3 (omega arith) (omega arith), tt)

    train_lined : (slots n : ℕ) (s : List ℕ) → Only Here (train_section l slots n s)
    train_lined slots n s =
        only_given Here (read_names train_names 3 s) _ (names-lined 3 (omega arith) train_names s) λ s e. trains_lined l slots n 0 4 s (omega arith)

    move_lined : (numbers : List ℕ) (line : ℕ) (s : List ℕ) → 1 ≤ line → Only Here (move_section l numbers line s)
    move_lined numbers line s h =
        only_given Here (read_names move_names line s) _ (names-lined line h move_names s)
        λ s e. moves_lined l numbers (length s) (0 ∷ 0 ∷ 0 ∷ []) (line + 1) s (omega arith)

    group_lined : which 15 → (numbers : List ℕ) (line : ℕ) (s : List ℕ) → 1 ≤ line → Only Here (group_section l numbers line s)
    group_lined fifteen numbers line [] h = tt
    group_lined fifteen numbers line (c ∷ s) h =
        only_given Here (read_names group_names line (c ∷ s)) _ (names-lined line h group_names (c ∷ s))
        λ s e. only_checked Here (has_row line s) (read_groups l numbers (length s) [] (0 ∷ 0 ∷ []) (line + 1) s) (at-line (line + 1) (omega arith) 2 (omega arith) (omega arith), tt)
        (groups_lined fifteen l numbers (length s) [] (0 ∷ 0 ∷ []) (line + 1) s (omega arith))

    -- the day, from what can be said of the groups where the moves have ended
    day_lined : ((numbers : List ℕ) (line : ℕ) (s : List ℕ) → 1 ≤ line → moves_end l s ≡ true → Only Here (group_section l numbers line s))
        → (text : List ℕ) → Only Here (read_day l text)
    unfolding read_day read_file
    day_lined groups text =
        only_given Here (read_file l text) _
        (only_given Here (head_section l text) _ (head_lined text)
        λ h e. only_given Here (train_section l (get_or h.row 2 0) (get_or h.row 0 0) h.rest) _ (train_lined (get_or h.row 2 0) (get_or h.row 0 0) h.rest)
        λ t e. only_given Here (move_section l (numbers_of t.rows) (4 + get_or h.row 0 0) t.rest) _ (move_lined (numbers_of t.rows) (4 + get_or h.row 0 0) t.rest (omega arith))
        λ m e. only_given Here (group_section l (numbers_of t.rows) (5 + get_or h.row 0 0 + length m.rows) m.rest) _
        (groups (numbers_of t.rows) (5 + get_or h.row 0 0 + length m.rows) m.rest (omega arith) (ended (numbers_of t.rows) (4 + get_or h.row 0 0) t.rest m e))
        λ g e. tt)
        λ f e. tt
      where
        ended : (numbers : List ℕ) (line : ℕ) (s : List ℕ) (m : Rows) → move_section l numbers line s ≡ gives m → moves_end l m.rest ≡ true
        ended numbers line s m e =
            given_then (read_names move_names line s) _ e λ q f g. (moves_read l numbers (length q) (0 ∷ 0 ∷ 0 ∷ []) (line + 1) q m g).ended

-- ---- the refusals of a text

pub read_lined : (l : Limits) (text : List ℕ) → Only Lined (read_day l text)
read_lined l =
    day_lined FileRefusal (λ k a b. inl (a, b)) l
    λ numbers line s h e. group_lined FileRefusal (λ k a b. inl (a, b)) l (inr refl) numbers line s h

-- the moves end with the text, so no line is read as a group's
pub read_ungrouped : (l : Limits) → l.groups ≡ 0 → (text : List ℕ) → Only (AtLine PlainRefusal) (read_day l text)
unfolding moves_end
read_ungrouped l none = day_lined PlainRefusal (λ k a b. (a, b)) l at_end
  where
    at_end : (numbers : List ℕ) (line : ℕ) (s : List ℕ) → 1 ≤ line → moves_end l s ≡ true → Only (AtLine PlainRefusal) (group_section l numbers line s)
    at_end numbers line [] h e = tt
    at_end numbers line (c ∷ s) h e = absurd (let z : false ≡ true = rw none at e in let q : ◌≡◌ {A = ℕ} 0 1 = cc in omega arith)

-- ---- in a row of a group the limits come first: 3, whatever train it names and wherever its pair stands

pub group_limits : (l : Limits) (numbers taken before : List ℕ) (line : ℕ) (member : List ℕ) (a : Answer RowRest) → within (group_ranges l) member ≡ false
    → checked (group_checks l numbers taken before line member) a ≡ refuses 3 (line ∷ [])
group_limits l numbers taken before line member a e = rw e
