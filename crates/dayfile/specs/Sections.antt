-- The rows of each section and its text: the text of rows that keep the rules reads to those rows, and what a section's text reads to are
-- rows that keep them, whose text it is.
-- Assumes nothing.
use Rattle.std.proofs.Math.Path.{◌≡◌, refl, ap}
use Rattle.std.proofs.Common.{sym, ◌∙◌, le_trans, arith, length-append, lt-ltb}
use Rattle.std.specs.Prelude.{Bool, true, false, cond, not}
use Rattle.std.proofs.Math.Bool.{or-true}
use mathlib.Core.List.{List, [], ◌∷◌, ◌++◌, append_assoc}
use Prim.Native.Nat.{ℕ, zero, suc, ◌+◌, ◌≤◌}
use Rattle.std.proofs.Math.Dec.{T}
use Rattle.std.proofs.Math.ListN.{length}
use Rattle.day.specs.Answer.{Answer, gives, on_given, Check, must, checked}
use Rattle.day.specs.AnswerLaws.{AllHold, checked_gives, given_then}
use Rattle.day.specs.Sound.{Range, within, train_ranges, move_ranges, group_ranges}
use Rattle.day.specs.SoundLaws.{Within, within_is}
use Rattle.day.specs.declared.Limits.{Limits}
use Rattle.lines.specs.Lines.{row_text, rows_text}
use Rattle.lines.specs.Laws.{names_written, Small}
use Rattle.dayfile.specs.Reading.{group_names, field1, field2, train_checks, move_checks, group_checks, read_names, is_end, read_row, Rows, add_row, read_trains, moves_end, read_moves, read_groups, group_section}
use Rattle.dayfile.specs.LineLaws.{names-line, names-line_read, row_line, row-line_read, row_longer, moves_end_lem, moves_row, groups_end, groups_row}
use Rattle.dayfile.specs.Writing.{groups_text, Short}

-- ---- rows that keep the rules

abbrev pub FineTrains : Limits → ℕ → ℕ → List (List ℕ) → Type 0
FineTrains l slots before [] = Unit
FineTrains l slots before (r ∷ rows) = (length r ≡ 3) × AllHold (train_checks l slots before 0 r) × FineTrains l slots (field1 r) rows

abbrev pub FineMoves : Limits → List ℕ → List ℕ → List (List ℕ) → Type 0
FineMoves l numbers before [] = Unit
FineMoves l numbers before (r ∷ rows) = (length r ≡ 3) × AllHold (move_checks l numbers before 0 r) × FineMoves l numbers r rows

abbrev pub FineGroups : Limits → List ℕ → List ℕ → List ℕ → List (List ℕ) → Type 0
FineGroups l numbers taken before [] = Unit
FineGroups l numbers taken before (r ∷ rows) =
    (length r ≡ 2) × AllHold (group_checks l numbers taken before 0 r) × FineGroups l numbers (field2 r ∷ taken) r rows

abbrev pub ShortRanges : List Range → Type 0
ShortRanges [] = Unit
ShortRanges (r ∷ ranges) = (r.greatest ≤ 99999) × ShortRanges ranges

pub small : (ranges : List Range) (values : List ℕ) → length values ≡ length ranges → ShortRanges ranges → Within ranges values → Small values
small [] [] e s w = tt
small [] (v ∷ values) e s w = absurd (omega arith)
small (r ∷ ranges) [] e s w = tt
small (r ∷ ranges) (v ∷ values) e s w = (le_trans w.0.1 s.0, small ranges values (omega arith) s.1 w.1)

-- a further row is a longer text
rows_longer : (r : List ℕ) (rows : List (List ℕ)) → 1 ≤ length r → suc (length (rows_text rows)) ≤ length (rows_text (r ∷ rows))
unfolding rows_text
rows_longer r rows h = omega (arith, row_longer r h, length-append (row_text r) (rows_text rows))

-- ---- the trains

module _ (l : Limits) (short : Short l) (slots : ℕ) (few : slots ≤ 99999) where
  pub trains_written : (rows : List (List ℕ)) (before line : ℕ) (s : List ℕ) → FineTrains l slots before rows
      → read_trains l slots (length rows) before line (rows_text rows ++ s) ≡ gives (record { rows = rows; rest = s })
  unfolding read_trains rows_text train_ranges
  trains_written [] before line s f = refl
  trains_written (r ∷ rows) before line s f =
      let w = small (train_ranges l slots) r f.0 (short.number, (few, (few, tt))) (within_is (train_ranges l slots) r f.1.0) in
      rw (
        append_assoc (row_text r) (rows_text rows) s,
        row_line 2 line (train_checks l slots before line) r (rows_text rows ++ s) f.0 w f.1,
        trains_written rows (field1 r) (suc line) s f.2,
      )

pub record TrainsRead (l : Limits) (slots n before : ℕ) (s : List ℕ) (x : Rows) : Type 0 where
  pub count : length x.rows ≡ n
  pub text : s ≡ rows_text x.rows ++ x.rest
  pub fine : FineTrains l slots before x.rows

pub trains_read : (l : Limits) (slots n before line : ℕ) (s : List ℕ) (x : Rows) → read_trains l slots n before line s ≡ gives x → TrainsRead l slots n before s x
unfolding read_trains rows_text
trains_read l slots zero before line s x h =
    let e : record { rows = []; rest = s } ≡ x = cc in
    rw (← e) (record { count = refl; text = refl; fine = tt })
trains_read l slots (suc n) before line s x h =
    given_then (read_row 2 line (train_checks l slots before line) s) _ h λ r e h.
    given_then (read_trains l slots n (field1 r.row) (suc line) r.rest) _ h λ z k g.
    let w = row-line_read 2 line (train_checks l slots before line) s r e in
    let t = trains_read l slots n (field1 r.row) (suc line) r.rest z k in
    let same : record { rows = r.row ∷ z.rows; rest = z.rest } ≡ x = cc in
    rw (← same)
    (record {
      count = ap suc t.count;
      text = w.text ∙ ap (λ (u : List ℕ). row_text r.row ++ u) t.text ∙ sym (append_assoc (row_text r.row) (rows_text z.rows) z.rest);
      fine = (w.count, w.holds, t.fine);
    })

-- ---- the moves

module _ (l : Limits) (numbers : List ℕ) where
  pub moves_written : Short l → (k : ℕ) (rows : List (List ℕ)) (before : List ℕ) (line : ℕ) (s : List ℕ) → moves_end l s ≡ true → length (rows_text rows) ≤ k
      → FineMoves l numbers before rows → read_moves l numbers k before line (rows_text rows ++ s) ≡ gives (record { rows = rows; rest = s })
  unfolding rows_text move_ranges
  moves_written short k [] before line s e h f = moves_end_lem l numbers k before line s e
  moves_written short zero (r ∷ rows) before line s e h f =
      absurd (omega (arith, rows_longer r rows (omega (arith, f.0))))
  moves_written short (suc k) (r ∷ rows) before line s e h f =
      let w = small (move_ranges l) r f.0 (short.number, (short.number, (short.boxes, tt))) (within_is (move_ranges l) r f.1.0) in
      rw (append_assoc (row_text r) (rows_text rows) s)
      (moves_row l numbers k before line (row_text r ++ (rows_text rows ++ s)) (record { row = r; rest = rows_text rows ++ s })
      (row_line 2 line (move_checks l numbers before line) r (rows_text rows ++ s) f.0 w f.1)
      ∙ ap (add_row r) (moves_written short k rows r (suc line) s e (omega (arith, rows_longer r rows (omega (arith, f.0)))) f.2))

-- what a section gives at its end, or else
ended_or : {X W : Type 0} (b : Bool) (a : X) (c : Answer X) {x : X} → cond b (gives a) c ≡ gives x → (b ≡ true → a ≡ x → W) → (c ≡ gives x → W) → W
ended_or true a c h end on = end refl cc
ended_or false a c h end on = on h

pub record MovesRead (l : Limits) (numbers before s : List ℕ) (x : Rows) : Type 0 where
  pub text : s ≡ rows_text x.rows ++ x.rest
  pub fine : FineMoves l numbers before x.rows
  pub ended : moves_end l x.rest ≡ true

moves_done : (l : Limits) (numbers before s : List ℕ) (x : Rows) → moves_end l s ≡ true → record { rows = []; rest = s } ≡ x → MovesRead l numbers before s x
unfolding rows_text
moves_done l numbers before s x end e = rw (← e) (record { text = refl; fine = tt; ended = end })

pub moves_read : (l : Limits) (numbers : List ℕ) (k : ℕ) (before : List ℕ) (line : ℕ) (s : List ℕ) (x : Rows)
    → read_moves l numbers k before line s ≡ gives x → MovesRead l numbers before s x
unfolding read_moves rows_text
moves_read l numbers zero before line s x h =
    ended_or (moves_end l s) _ _ h (moves_done l numbers before s x) (λ h. absurd (let z : ◌≡◌ {A = ℕ} 0 1 = cc in omega arith))
moves_read l numbers (suc k) before line s x h =
    ended_or (moves_end l s) _ _ h (moves_done l numbers before s x)
    (λ h.
    given_then (read_row 2 line (move_checks l numbers before line) s) _ h λ r e h.
    given_then (read_moves l numbers k r.row (suc line) r.rest) _ h λ z j g.
    let w = row-line_read 2 line (move_checks l numbers before line) s r e in
    let t = moves_read l numbers k r.row (suc line) r.rest z j in
    let same : record { rows = r.row ∷ z.rows; rest = z.rest } ≡ x = cc in
    rw (← same)
    (record {
      text = w.text ∙ ap (λ (u : List ℕ). row_text r.row ++ u) t.text ∙ sym (append_assoc (row_text r.row) (rows_text z.rows) z.rest);
      fine = (w.count, w.holds, t.fine);
      ended = t.ended;
    }))

-- ---- the groups

-- a row's group lies in 1 to the limit
pub some_group : (l : Limits) (r : List ℕ) → length r ≡ 2 → T (within (group_ranges l) r) → (1 ≤ field1 r) × (field1 r ≤ l.groups)
unfolding group_ranges
some_group l [] e t = absurd (omega arith)
some_group l (a ∷ r) e t = (within_is (group_ranges l) (a ∷ r) t).0

-- their section has a row
abbrev pub has_row : ℕ → List ℕ → List Check
has_row line s = must (not (is_end s)) 2 ((line + 1) ∷ []) ∷ []

module _ (l : Limits) (numbers : List ℕ) where
  groups_written : Short l → (k : ℕ) (rows : List (List ℕ)) (taken before : List ℕ) (line : ℕ) → length (rows_text rows) ≤ k
      → FineGroups l numbers taken before rows → read_groups l numbers k taken before line (rows_text rows) ≡ gives (record { rows = rows; rest = [] })
  unfolding rows_text group_ranges
  groups_written short k [] taken before line h f = groups_end l numbers k taken before line
  groups_written short zero (r ∷ rows) taken before line h f =
      absurd (omega (arith, rows_longer r rows (omega (arith, f.0))))
  groups_written short (suc k) (r ∷ rows) taken before line h f =
      let w = small (group_ranges l) r f.0 (short.groups, (short.number, tt)) (within_is (group_ranges l) r f.1.0) in
      groups_row l numbers k taken before line (row_text r ++ rows_text rows) (record { row = r; rest = rows_text rows })
      (row_line 1 line (group_checks l numbers taken before line) r (rows_text rows) f.0 w f.1)
      ∙ ap (add_row r) (groups_written short k rows (field2 r ∷ taken) r (suc line) (omega (arith, rows_longer r rows (omega (arith, f.0)))) f.2)

  record GroupsRead (taken before s : List ℕ) (x : Rows) : Type 0 where
    text : s ≡ rows_text x.rows
    fine : FineGroups l numbers taken before x.rows

  groups_done : (taken before : List ℕ) (x : Rows) → gives (record { rows = []; rest = [] }) ≡ gives x → GroupsRead taken before [] x
  unfolding rows_text
  groups_done taken before x h =
      let e : record { rows = []; rest = [] } ≡ x = cc in
      rw (← e) (record { text = refl; fine = tt })

  groups_read : (k : ℕ) (taken before : List ℕ) (line : ℕ) (s : List ℕ) (x : Rows)
      → read_groups l numbers k taken before line s ≡ gives x → GroupsRead taken before s x
  unfolding read_groups rows_text
  groups_read zero taken before line [] x h = groups_done taken before x h
  groups_read zero taken before line (c ∷ s) x h = absurd (let z : ◌≡◌ {A = ℕ} 0 1 = cc in omega arith)
  groups_read (suc k) taken before line [] x h = groups_done taken before x h
  groups_read (suc k) taken before line (c ∷ s) x h =
      given_then (read_row 1 line (group_checks l numbers taken before line) (c ∷ s)) _ h λ r e h.
      given_then (read_groups l numbers k (field2 r.row ∷ taken) r.row (suc line) r.rest) _ h λ z j g.
      let w = row-line_read 1 line (group_checks l numbers taken before line) (c ∷ s) r e in
      let t = groups_read k (field2 r.row ∷ taken) r.row (suc line) r.rest z j in
      let same : record { rows = r.row ∷ z.rows; rest = z.rest } ≡ x = cc in
      rw (← same) (record { text = w.text ∙ ap (λ (u : List ℕ). row_text r.row ++ u) t.text; fine = (w.count, w.holds, t.fine) })

  -- ---- their section, which is left out where they have no row

  -- where it stands the limits have groups, so the moves end where it begins
  pub groups_next : (rows : List (List ℕ)) (taken before : List ℕ) → FineGroups l numbers taken before rows → moves_end l (groups_text rows) ≡ true
  unfolding moves_end
  groups_next [] taken before f = refl
  groups_next (r ∷ rows) taken before f =
      let (a, b) = some_group l r f.0 f.1.0 in
      rw (lt-ltb 0 l.groups (omega arith), names_written group_names (rows_text (r ∷ rows)), or-true (is_end (group_names ++ rows_text (r ∷ rows))))

  -- what is read after its names line
  abbrev rows_after : ℕ → List ℕ → Answer Rows
  rows_after line s = read_groups l numbers (length s) [] (0 ∷ 0 ∷ []) (line + 1) s

  section_at : (line : ℕ) (s : List ℕ) → group_section l numbers line (group_names ++ s) ≡ checked (has_row line s) (rows_after line s)
  unfolding group_names
  section_at line s = ap (λ (a : Answer (List ℕ)). on_given a λ s. checked (has_row line s) (rows_after line s)) (names-line group_names line s)

  pub section_written : Short l → (rows : List (List ℕ)) (line : ℕ) → FineGroups l numbers [] (0 ∷ 0 ∷ []) rows
      → group_section l numbers line (groups_text rows) ≡ gives (record { rows = rows; rest = [] })
  section_written short [] line f = refl
  section_written short (r ∷ rows) line f =
      let s : List ℕ = rows_text (r ∷ rows) in
      section_at line s
      ∙ rw (longer s (omega (arith, rows_longer r rows (omega (arith, f.0)))))
      (groups_written short (length s) (r ∷ rows) [] (0 ∷ 0 ∷ []) (line + 1) (omega arith) f)
    where
      longer : (s : List ℕ) → 1 ≤ length s → is_end s ≡ false
      longer [] h = absurd (omega arith)
      longer (c ∷ s) h = refl

  pub record SectionRead (s : List ℕ) (x : Rows) : Type 0 where
    pub text : s ≡ groups_text x.rows
    pub fine : FineGroups l numbers [] (0 ∷ 0 ∷ []) x.rows

  pub section_read : (line : ℕ) (s : List ℕ) (x : Rows) → group_section l numbers line s ≡ gives x → SectionRead s x
  unfolding rows_text
  section_read line [] x h =
      let e : record { rows = []; rest = [] } ≡ x = cc in
      rw (← e) (record { text = refl; fine = tt })
  section_read line (c ∷ s) x h =
      given_then (read_names group_names line (c ∷ s)) _ h λ q e h.
      let (a, g) = checked_gives (has_row line q) (rows_after line q) x h in
      let r = groups_read (length q) [] (0 ∷ 0 ∷ []) (line + 1) q x g in
      record { text = names-line_read group_names line (c ∷ s) q e ∙ some x.rows q a.0 r.text; fine = r.fine }
    where
      some : (rows : List (List ℕ)) (q : List ℕ) → T (not (is_end q)) → q ≡ rows_text rows → group_names ++ q ≡ groups_text rows
      some [] [] t e = absurd t
      some [] (c ∷ q) t e = absurd (omega (arith, ap length e))
      some (r ∷ rows) q t e = ap (λ (u : List ℕ). group_names ++ u) e
