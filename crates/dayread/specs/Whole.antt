-- The whole text: the sections, once read, give the day; a section that is refused gives the refusal beside zeros.
-- Assumes nothing.
use Rattle.std.specs.Prelude.{◌≡◌, List, [], ◌∷◌, ◌++◌, map, ℕ, zero, suc, ◌+◌, ◌-◌, ◌*◌, ◌≤◌, take, drop, replicate, Result, Ok, Err}
use Rattle.std.proofs.Math.Path.{refl}
use Rattle.std.proofs.Common.{sym, ap, ◌∙◌, arith}
use Rattle.std.proofs.Math.ListN.{length}
use Rattle.std.proofs.lemmas.List.{length-map}
use Rattle.fold.specs.Listed.{take_front}
use Rattle.model.specs.Model.{Yard}
use Rattle.day.specs.Answer.{Answer, gives, refuses, on_given, refusal, judged}
use Rattle.day.specs.AnswerLaws.{given_then}
use Rattle.day.specs.Sound.{day_from, head_ranges, zero_day}
use Rattle.day.specs.SoundLaws.{within_is}
use Rattle.day.specs.declared.Limits.{Limits}
use Rattle.day.specs.declared.Refusal.{Refusal}
use Rattle.day.specs.declared.Head.{Head}
use Rattle.dayfile.specs.Reading.{field1, field2, field3, head_checks, head_names, read_names, read_row, head_section, train_section, move_section, group_section, File, read_file, padded, stored_moves, stored_groups, day_of, read_day}
use Rattle.dayfile.specs.LineLaws.{row-line_read}
use Rattle.dayfile.specs.Calls.{day_or_zero}
use Rattle.day_rows.specs.Steps.{row_rest, RowTo}
use Rattle.day_trains.specs.Trains.{TrainsRead}
use Rattle.day_moves.specs.Moves.{MovesRead}
use Rattle.day_groups.specs.Groups.{GroupsTo, groups_into}

-- ---- what the reading call answers

-- the answer is what reading says, and the day beside it is the one read, or zeros
abbrev pub Reads : Limits → List ℕ → Result Unit Refusal → Yard → Type 0
Reads l t verdict y = (judged verdict y ≡ read_day l t) × (y ≡ day_or_zero l (read_day l t))

-- ---- a text read into columns and a table, for any limits

abbrev pub FileTo : Limits → List ℕ → List ℕ → List ℕ → List ℕ → List ℕ → List ℕ → Result Head Refusal → Type 0
FileTo l t numbers first last groups boxes (Ok h) = read_day l t ≡ gives (day_from h numbers first last groups l.trains boxes)
FileTo l t numbers first last groups boxes (Err x) = read_day l t ≡ refusal x

-- ---- the third section and the fourth, after n trains

-- their rows
pub record Rest : Type 0 where
  pub moves : List (List ℕ)
  pub groups : List (List ℕ)

unfoldable pub rest_sections : Limits → List ℕ → ℕ → List ℕ → Answer Rest
rest_sections l numbers n s =
    on_given (move_section l numbers (4 + n) s) λ moves.
    on_given (group_section l numbers (5 + n + length moves.rows) moves.rest) λ groups.
    gives (record { moves = moves.rows; groups = groups.rows })

-- read into a column and a table that held zeros
pub record RestRead (l : Limits) (numbers : List ℕ) (n : ℕ) (s groups boxes : List ℕ) : Type 0 where
  pub rest : Rest
  pub is : rest_sections l numbers n s ≡ gives rest
  pub groups_are : groups ≡ stored_groups numbers (replicate l.trains 0) rest.groups
  pub boxes_are : boxes ≡ stored_moves numbers l.trains (replicate (l.trains * l.trains) 0) rest.moves

abbrev pub RestTo : Limits → List ℕ → ℕ → List ℕ → List ℕ → List ℕ → Result Unit Refusal → Type 0
RestTo l numbers n s groups boxes (Ok u) = RestRead l numbers n s groups boxes
RestTo l numbers n s groups boxes (Err x) = rest_sections l numbers n s ≡ refusal x

module _ (l : Limits) (numbers : List ℕ) (n : ℕ) (s : List ℕ) where
  pub moves_stop : (x : Refusal) → move_section l numbers (4 + n) s ≡ refusal x → rest_sections l numbers n s ≡ refusal x
  unfolding rest_sections
  moves_stop x e = rw e

  module _ {t boxes : List ℕ} {p k : ℕ} (m : MovesRead numbers l.trains (4 + n + 1) t (move_section l numbers (4 + n) s) (replicate (l.trains * l.trains) 0) boxes p k) where
    -- the fourth names line stands in the line after the last move
    line_after : group_section l numbers (5 + n + length m.rows) (drop p t) ≡ group_section l numbers k (drop p t)
    line_after = let e : 5 + n + length m.rows ≡ k = omega (arith, m.line_is) in ap (λ line. group_section l numbers line (drop p t)) e

    -- so the groups decide
    pub rest_to : {groups₀ : List ℕ} (groups : List ℕ) (r : Result Unit Refusal) → GroupsTo numbers (group_section l numbers k (drop p t)) groups₀ groups r → groups₀ ≡ replicate l.trains 0
        → RestTo l numbers n s groups boxes r
    unfolding rest_sections
    rest_to groups (Ok u) g zeros =
        let z = groups_into _ g zeros in
        record {
          rest = record { moves = m.rows; groups = z.rows };
          is = rw (m.is, line_after ∙ z.is);
          groups_are = z.groups_are;
          boxes_are = m.boxes_are;
        }
    rest_to groups (Err x) e zeros = rw (m.is, line_after ∙ e)

-- two steps from an answer are one step from what the first makes of it
given_after : {X Y Z : Type 0} (a : Answer X) (f : X → Answer Z) (g : X → Answer Y) (h : Y → Answer Z) → ((x : X) → f x ≡ on_given (g x) h)
    → on_given a f ≡ on_given (on_given a g) h
given_after (gives x) f g h e = e x
given_after (refuses k carries) f g h e = refl

-- so what a file is after its trains is decided by those two sections together
module _ (head : List ℕ) (trains : List (List ℕ)) where
  abbrev file_of : Rest → File
  file_of r = record { head = head; trains = trains; moves = r.moves; groups = r.groups }

  rest_then : (l : Limits) (numbers : List ℕ) (n : ℕ) (s : List ℕ)
      → (on_given (move_section l numbers (4 + n) s) λ moves. on_given (group_section l numbers (5 + n + length moves.rows) moves.rest) λ groups. gives (record { head = head; trains = trains; moves = moves.rows; groups = groups.rows }))
      ≡ on_given (rest_sections l numbers n s) λ r. gives (file_of r)
  unfolding rest_sections
  rest_then l numbers n s =
      given_after (move_section l numbers (4 + n) s) _ _ (λ r. gives (file_of r)) λ moves.
      given_after (group_section l numbers (5 + n + length moves.rows) moves.rest) _ _ (λ r. gives (file_of r)) λ groups. refl

-- ---- the first section

pub record HeadLimits (l : Limits) (a c : ℕ) : Type 0 where
  pub trains : a ≤ l.trains
  pub slots : c ≤ l.slots

pub head_limits : (l : Limits) (t s : List ℕ) {a b c d e next : ℕ} → RowTo t (head_section l s) (a ∷ b ∷ c ∷ d ∷ e ∷ []) next → HeadLimits l a c
unfolding head_ranges
head_limits l t s {a} {b} {c} {d} {e} {next} h =
    given_then (read_names head_names 1 s) (read_row 4 2 (head_checks l)) h.is λ q x y.
    let w = row-line_read 4 2 (head_checks l) q (row_rest (a ∷ b ∷ c ∷ d ∷ e ∷ []) (drop next t)) y in
    let (n, (m, (k, u))) = within_is (head_ranges l) (a ∷ b ∷ c ∷ d ∷ e ∷ []) w.holds.0 in
    record { trains = n.1; slots = k.1 }

-- ---- the sections, one after the other

drop-replicate : (n m : ℕ) → drop {A = ℕ} n (replicate m 0) ≡ replicate (m - n) 0
drop-replicate zero m = let e : m ≡ m - 0 = omega arith in ap (λ k. replicate k 0) e
drop-replicate (suc n) zero = let e : 0 ≡ 0 - suc n = omega arith in ap (λ k. replicate k 0) e
drop-replicate (suc n) (suc m) = let e : m - n ≡ suc m - suc n = omega arith in drop-replicate n m ∙ ap (λ k. replicate k 0) e

padded_is : (g : List ℕ → ℕ) (rows : List (List ℕ)) (n width : ℕ) → length rows ≡ n → map g rows ++ drop n (replicate width 0) ≡ padded width (map g rows)
padded_is g rows n width e = ap (λ (r : List ℕ). map g rows ++ r) (drop-replicate n width ∙ ap (λ k. replicate (width - k) 0) (sym (length-map rows g ∙ e)))

module _ (l : Limits) (t : List ℕ) where
  pub head_stops : (x : Refusal) → head_section l t ≡ refusal x → read_day l t ≡ refusal x
  unfolding read_day read_file
  head_stops x e = rw e

  module _ {a b c d e next : ℕ} (h : RowTo t (head_section l t) (a ∷ b ∷ c ∷ d ∷ e ∷ []) next) where
    pub trains_stop : (x : Refusal) → train_section l c a (drop next t) ≡ refusal x → read_day l t ≡ refusal x
    unfolding read_day read_file
    trains_stop x f = rw (h.is, f)

    module _ {numbers first last : List ℕ} {at : ℕ} (g : TrainsRead l c a t (train_section l c a (drop next t)) (replicate l.trains 0) (replicate l.trains 0) (replicate l.trains 0) numbers first last at) where
      numbers_are : take a numbers ≡ map field1 g.rows
      numbers_are = ap (take a) g.numbers_are_lem ∙ take_front (map field1 g.rows) (drop a (replicate l.trains 0)) (length-map g.rows field1 ∙ g.count)

      file_is : read_file l t ≡ on_given (rest_sections l (take a numbers) a (drop at t)) λ r. gives (file_of (a ∷ b ∷ c ∷ d ∷ e ∷ []) g.rows r)
      unfolding read_file
      file_is = rw (h.is, g.is, numbers_are) (rest_then (a ∷ b ∷ c ∷ d ∷ e ∷ []) g.rows l (map field1 g.rows) a (drop at t))

      pub rest_stops : (x : Refusal) → rest_sections l (take a numbers) a (drop at t) ≡ refusal x → read_day l t ≡ refusal x
      unfolding read_day
      rest_stops x f = rw (file_is, f)

      pub day_read : {groups boxes : List ℕ} → RestRead l (take a numbers) a (drop at t) groups boxes
          → read_day l t ≡ gives (record { trains = a; tracks = b; slots = c; revisit = d; split = e; numbers = numbers; first = first; last = last; groups = groups; width = l.trains; boxes = boxes })
      unfolding read_day day_of
      day_read {groups} {boxes} m =
          rw (
            file_is,
            m.is,
            m.groups_are,
            m.boxes_are,
            numbers_are,
            g.numbers_are_lem,
            g.first_is_lem,
            g.last_is_lem,
            padded_is field1 g.rows a l.trains g.count,
            padded_is field2 g.rows a l.trains g.count,
            padded_is field3 g.rows a l.trains g.count,
          )

-- ---- the reading

pub reads_refused : (l : Limits) (t : List ℕ) (x : Refusal) {y : Yard} → read_day l t ≡ refusal x → y ≡ zero_day l → Reads l t (Err x) y
reads_refused l t x {y} e f = (sym e, rw e f)

pub reads_day : (l : Limits) (t : List ℕ) (y : Yard) → read_day l t ≡ gives y → Reads l t (Ok tt) y
reads_day l t y e = (sym e, rw e)
