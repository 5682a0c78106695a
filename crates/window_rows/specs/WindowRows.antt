-- A train's row with a window that the calendar gives, in a day file with as many slots as the date has used ones (order 11 of document 02: "it
-- gets neither 3 nor 5"), by the checks of the reader itself:
--   slots-accepted           the day may have so many slots;
--   row-checks               of the row's checks those of the train number are left, whatever the number is;
--   never-5, never-3         so it never gets 5, and 3 only where its number is outside the limits;
--   row_read                 a row of values that is read so is accepted where its number is in the limits and above the one before;
--   section-read             the rows of a timetable, trains by rising numbers, written one after the other, are read as they are.
-- Assumes nothing.
use Rattle.std.specs.Prelude.{◌≡◌, Bool, cond, ◌&&◌, ℕ, ◌≤◌, ◌<◌, ltb, length}
use Rattle.std.proofs.Math.Path.{refl, subst}
use Rattle.std.proofs.Common.{sym, ap, ap₂, ◌∙◌, arith, le-leb, lt-ltb}
use Rattle.std.proofs.Math.Bool.{true, false}
use mathlib.Core.List.{List, [], ◌∷◌, ◌++◌, map}
use Rattle.std.proofs.lemmas.List.{length-map}
use Rattle.fold.specs.Test.{of_true}
use Rattle.day.specs.Answer.{Answer, gives, refuses, code, Check, must, checked}
use Rattle.day.specs.Sound.{day_limits, range, between, within, train_ranges}
use Rattle.day.specs.declared.Limits.{Limits}
use Rattle.decimal.specs.Parsed.{got}
use Rattle.lines.specs.Lines.{row, rows_text}
use Rattle.dayfile.specs.Reading.{train_checks, read_row, RowRest, read_trains}
use Rattle.dayfile.specs.Writing.{Short}
use Rattle.dayfile.specs.Sections.{FineTrains, trains_written}
use Rattle.dates.specs.declared.Date.{Date}
use Rattle.opening_hours.specs.declared.Calendar.{Calendar}
use Rattle.opening_hours.specs.declared.Window.{Window}
use Rattle.opening_hours.specs.Calendar.{used_slots, window, window_of}
use Rattle.opening_hours.proofs.Promised.{window-within}

-- a value in its range
in_range : (least greatest x : ℕ) → least ≤ x → x ≤ greatest → between (range least greatest) x ≡ true
in_range least greatest x l h = ap₂ ◌&&◌ (le-leb least x l) (le-leb x greatest h)

-- the checks of a train number: its limits, and that it is above the one before
abbrev pub number_checks : Limits → ℕ → ℕ → ℕ → List Check
number_checks l before line number = must (between (range 1 l.number) number) 3 (line ∷ []) ∷ must (ltb before number) 4 (line ∷ []) ∷ []

module _ (c : Calendar) (d : Date) (arrival departure : ℕ) (w : Window) (e : window_of c d arrival departure ≡ gives w) where
  pub slots_accepted : between (range 1 day_limits.slots) (used_slots c d) ≡ true
  slots_accepted = let b = window-within c d arrival departure w e in in_range 1 8 (used_slots c d) (omega arith) (omega arith)

  module _ (l : Limits) (before line number : ℕ) where
    -- of the ranges that of the number decides
    row_within : within (train_ranges l (used_slots c d)) (number ∷ w.first ∷ w.last ∷ []) ≡ between (range 1 l.number) number
    unfolding within train_ranges
    row_within =
        let b = window-within c d arrival departure w e in
        rw (in_range 1 (used_slots c d) w.first (omega arith) (omega arith), in_range 1 (used_slots c d) w.last (omega arith) (omega arith))
        (and_true (between (range 1 l.number) number))
      where
        and_true : (b : Bool) → (b && true) ≡ b
        and_true true = refl
        and_true false = refl

    pub row_checks_lem : {X : Type 0} (a : Answer X)
        → checked (train_checks l (used_slots c d) before line (number ∷ w.first ∷ w.last ∷ [])) a ≡ checked (number_checks l before line number) a
    row_checks_lem a =
        let b = window-within c d arrival departure w e in
        rw (row_within, le-leb w.first w.last b.1)

    pub never_5 : {X : Type 0} (x : X) → code (checked (train_checks l (used_slots c d) before line (number ∷ w.first ∷ w.last ∷ [])) (gives x)) ≡ 5 → ⊥
    never_5 x q = go (between (range 1 l.number) number) (ltb before number) (sym (ap code (row_checks_lem (gives x))) ∙ q)
      where
        go : (r o : Bool) → code (cond r (cond o (gives x) (refuses 4 (line ∷ []))) (refuses 3 (line ∷ []))) ≡ 5 → ⊥
        go true true z = omega arith
        go true false z = omega arith
        go false o z = omega arith

    module _ (from : 1 ≤ number) (to : number ≤ l.number) where
      number_checks_lem : {X : Type 0} (a : Answer X) → checked (number_checks l before line number) a ≡ cond (ltb before number) a (refuses 4 (line ∷ []))
      number_checks_lem a = rw (in_range 1 l.number number from to)

      pub never_3 : {X : Type 0} (x : X) → code (checked (train_checks l (used_slots c d) before line (number ∷ w.first ∷ w.last ∷ [])) (gives x)) ≡ 3 → ⊥
      never_3 x q = go (ltb before number) (sym (ap code (row_checks_lem (gives x) ∙ number_checks_lem (gives x))) ∙ q)
        where
          go : (o : Bool) → code (cond o (gives x) (refuses 4 (line ∷ []))) ≡ 3 → ⊥
          go true z = omega arith
          go false z = omega arith

      pub row_read : before < number → (s rest : List ℕ) → row 2 s ≡ got (number ∷ w.first ∷ w.last ∷ []) rest
          → read_row 2 line (train_checks l (used_slots c d) before line) s ≡ gives (record { row = number ∷ w.first ∷ w.last ∷ []; rest = rest })
      row_read above s rest read =
          let given : Answer RowRest = gives (record { row = number ∷ w.first ∷ w.last ∷ []; rest = rest }) in
          rw read (row_checks_lem given ∙ number_checks_lem given ∙ ap (λ b. cond b given (refuses 4 (line ∷ []))) (lt-ltb before number above))

-- ---- the trains of a timetable, each with its arrival, its departure and the window that it got

pub record Timed : Type 0 where
  pub number : ℕ
  pub arrival : ℕ
  pub departure : ℕ
  pub first : ℕ
  pub last : ℕ

-- its row in the day file
abbrev pub row_of : Timed → List ℕ
row_of t = t.number ∷ t.first ∷ t.last ∷ []

-- numbers rise from `before` on and keep their limit, and each window is what the calendar gives
abbrev pub Timetable : Calendar → Date → Limits → ℕ → List Timed → Type 0
Timetable c d l before [] = Unit
Timetable c d l before (t ∷ trains) =
    (before < t.number) × (t.number ≤ l.number) × (window_of c d t.arrival t.departure ≡ gives (window t.first t.last)) × Timetable c d l t.number trains

module _ (c : Calendar) (d : Date) (l : Limits) where
  fine : (trains : List Timed) (before : ℕ) → Timetable c d l before trains → FineTrains l (used_slots c d) before (map row_of trains)
  fine [] before f = tt
  fine (t ∷ trains) before f =
      let w = window t.first t.last in
      let limits = row_within c d t.arrival t.departure w f.2 l before 0 t.number ∙ in_range 1 l.number t.number (omega (arith, f.0)) f.1 in
      let ordered = le-leb t.first t.last (window-within c d t.arrival t.departure w f.2).1 in
      (refl, (of_true limits, (of_true (lt-ltb before t.number f.0), (of_true ordered, tt))), fine trains t.number f.3)

  pub section_read : Short l → (trains : List Timed) (before line : ℕ) (s : List ℕ) → Timetable c d l before trains
      → read_trains l (used_slots c d) (length trains) before line (rows_text (map row_of trains) ++ s) ≡ gives (record { rows = map row_of trains; rest = s })
  unfolding read_trains rows_text
  section_read short [] before line s f = refl
  section_read short (t ∷ trains) before line s f =
      let few : used_slots c d ≤ 99999 = omega (arith, (window-within c d t.arrival t.departure (window t.first t.last) f.2).3) in
      subst (λ n. read_trains l (used_slots c d) n before line (rows_text (map row_of (t ∷ trains)) ++ s) ≡ gives (record { rows = map row_of (t ∷ trains); rest = s })) (length-map (t ∷ trains) row_of)
      (trains_written l short (used_slots c d) few (map row_of (t ∷ trains)) before line s (fine (t ∷ trains) before f))
