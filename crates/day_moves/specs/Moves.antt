-- The moves of a day file as the code's loop reads them: what has been read so far, and what is left to read.
-- Assumes nothing.
use Rattle.std.specs.Prelude.{true, false, not, ◌&&◌, ◌≡◌, refl, List, [], ◌∷◌, ◌++◌, ℕ, suc, ◌+◌, ◌-◌, ◌*◌, ◌≤◌, ◌<◌, eqb, set, drop, Result, Ok, Err}
use Rattle.std.proofs.Math.Path.{sym}
use Rattle.std.proofs.Common.{ap, ◌∙◌, append-nil, arith, ltb→lt, length-append, length-drop}
use Rattle.std.proofs.Math.ListN.{length}
use Rattle.fold.specs.Test.{both_of}
use Rattle.day.specs.Answer.{Answer, gives, number, carried, refusal}
use Rattle.day.specs.Sound.{move_ranges}
use Rattle.day.specs.SoundLaws.{within_is}
use Rattle.day.specs.declared.Limits.{Limits}
use Rattle.day.specs.declared.Refusal.{Refusal}
use Rattle.dayfile.specs.Reading.{field3, read_row, Rows, moves_end, read_moves, move_checks, position, is_listed, stored, place_of, stored_moves}
use Rattle.dayfile.specs.LineLaws.{row-line_read, moves_end_lem, moves_row, moves_stop}
use Rattle.day_rows.specs.Steps.{row_rest, RowTo}
use Rattle.day_rows.specs.Joined.{add_rows, add_none, add_one_more, stored_next, row_further}
use Rattle.day_rows.specs.declared.Place.{Place}

-- what a row of a move says: both trains are listed, its boxes keep the limit, and it takes some of the text
pub record MoveRow (l : Limits) (numbers : List ℕ) (a b c p next : ℕ) : Type 0 where
  pub to : position numbers a < length numbers
  pub from : position numbers b < length numbers
  pub boxes : c ≤ l.boxes
  pub further : p < next

pub move_row_lem : (l : Limits) (numbers before : List ℕ) (line p : ℕ) (t : List ℕ) {a b c next : ℕ} → p ≤ length t
    → RowTo t (read_row 2 line (move_checks l numbers before line) (drop p t)) (a ∷ b ∷ c ∷ []) next → MoveRow l numbers a b c p next
unfolding move_ranges
move_row_lem l numbers before line p t {a} {b} {c} {next} inside h =
    let r : List ℕ = a ∷ b ∷ c ∷ [] in
    let w = row-line_read 2 line (move_checks l numbers before line) (drop p t) (row_rest r (drop next t)) h.is in
    let (x, (y, (z, u))) = within_is (move_ranges l) r w.holds.0 in
    let (there, other) = both_of (is_listed numbers a && is_listed numbers b) (not (eqb a b)) w.holds.1.0 in
    let (to, from) = both_of (is_listed numbers a) (is_listed numbers b) there in
    record {
      to = ltb→lt (position numbers a) (length numbers) to;
      from = ltb→lt (position numbers b) (length numbers) from;
      boxes = z.1;
      further = row_further 2 line (move_checks l numbers before line) p t inside h;
    }

-- the rows read so far, and that reading goes on with the others at the place p, in line k, after the pair (to, from)
pub record MovesSoFar (l : Limits) (numbers : List ℕ) (width line start : ℕ) (t boxes₀ boxes : List ℕ) (p k to from : ℕ) : Type 0 where
  pub rows : List (List ℕ)
  pub third : ℕ
  pub fuel : ℕ
  pub goes : read_moves l numbers (length (drop start t)) (0 ∷ 0 ∷ 0 ∷ []) line (drop start t) ≡ add_rows rows (read_moves l numbers fuel (to ∷ from ∷ third ∷ []) k (drop p t))
  pub enough : length (drop p t) ≤ fuel
  pub inside : p ≤ length t
  pub line_is : k ≡ line + length rows
  pub few : length rows + start ≤ p
  pub boxes_are : boxes ≡ stored_moves numbers width boxes₀ rows

-- all moves were read, from the line `line` on; the place p and the line k are those after the last
pub record MovesRead (numbers : List ℕ) (width line : ℕ) (t : List ℕ) (answer : Answer Rows) (boxes₀ boxes : List ℕ) (p k : ℕ) : Type 0 where
  pub rows : List (List ℕ)
  pub is : answer ≡ gives (record { rows = rows; rest = drop p t })
  pub inside : p ≤ length t
  pub line_is : k ≡ line + length rows
  pub few : length rows ≤ p
  pub boxes_are : boxes ≡ stored_moves numbers width boxes₀ rows

abbrev pub MovesTo : List ℕ → ℕ → ℕ → List ℕ → Answer Rows → List ℕ → List ℕ → Result Place Refusal → Type 0
MovesTo numbers width line t answer boxes₀ boxes (Ok m) = MovesRead numbers width line t answer boxes₀ boxes m.at m.line
MovesTo numbers width line t answer boxes₀ boxes (Err x) = answer ≡ refusal x

pub moves_into : {numbers : List ℕ} {width line : ℕ} {t : List ℕ} {answer : Answer Rows} {boxes₀ boxes : List ℕ} {p k : ℕ} (z : List ℕ)
    → MovesRead numbers width line t answer boxes₀ boxes p k → boxes₀ ≡ z → MovesRead numbers width line t answer z boxes p k
moves_into {numbers} {width} z g e = record {
  rows = g.rows;
  is = g.is;
  inside = g.inside;
  line_is = g.line_is;
  few = g.few;
  boxes_are = g.boxes_are ∙ ap (λ (x : List ℕ). stored_moves numbers width x g.rows) e;
}

module _ (l : Limits) (numbers : List ℕ) (width line start : ℕ) (t : List ℕ) where
  pub moves_start : (boxes : List ℕ) → start ≤ length t → MovesSoFar l numbers width line start t boxes boxes start line 0 0
  unfolding stored
  moves_start boxes h = record {
    rows = [];
    third = 0;
    fuel = length (drop start t);
    goes = sym (add_none (read_moves l numbers (length (drop start t)) (0 ∷ 0 ∷ 0 ∷ []) line (drop start t)));
    enough = omega arith;
    inside = h;
    line_is = omega arith;
    few = omega arith;
    boxes_are = refl;
  }

  module _ {boxes₀ boxes : List ℕ} {p k to from : ℕ} (g : MovesSoFar l numbers width line start t boxes₀ boxes p k to from) where
    pub moves_refused : (x : Refusal) → read_row 2 k (move_checks l numbers (to ∷ from ∷ 0 ∷ []) k) (drop p t) ≡ refusal x → moves_end l (drop p t) ≡ false
        → read_moves l numbers (length (drop start t)) (0 ∷ 0 ∷ 0 ∷ []) line (drop start t) ≡ refusal x
    moves_refused x e more = g.goes ∙ ap (add_rows g.rows) (moves_stop l numbers g.fuel (to ∷ from ∷ g.third ∷ []) k (drop p t) (number x) (carried x) g.enough more e)

    pub moves_done : moves_end l (drop p t) ≡ true
        → MovesRead numbers width line t (read_moves l numbers (length (drop start t)) (0 ∷ 0 ∷ 0 ∷ []) line (drop start t)) boxes₀ boxes p k
    moves_done e = record {
      rows = g.rows;
      is =
          g.goes
          ∙ ap (add_rows g.rows) (moves_end_lem l numbers g.fuel (to ∷ from ∷ g.third ∷ []) k (drop p t) e)
          ∙ ap (λ (r : List (List ℕ)). gives (record { rows = r; rest = drop p t })) (append-nil g.rows);
      inside = g.inside;
      line_is = g.line_is;
      few = omega (arith, g.few);
      boxes_are = g.boxes_are;
    }

    pub moves_next : {a b c next : ℕ} → RowTo t (read_row 2 k (move_checks l numbers (to ∷ from ∷ 0 ∷ []) k) (drop p t)) (a ∷ b ∷ c ∷ []) next
        → MovesSoFar l numbers width line start t boxes₀ (set boxes (position numbers a * width + position numbers b) c) next (k + 1) a b
    moves_next {a} {b} {c} {next} h =
        let r : List ℕ = a ∷ b ∷ c ∷ [] in
        let w = move_row_lem l numbers (to ∷ from ∷ 0 ∷ []) k p t g.inside h in
        let far = w.further in
        let left : length (drop p t) ≡ length t - p = length-drop p t in
        let then : length (drop next t) ≡ length t - next = length-drop next t in
        let most = h.inside in
        let enough = g.enough in
        let one : g.fuel ≡ suc (g.fuel - 1) = omega arith in
        let below : suc k ≡ k + 1 = omega arith in
        let count : length (g.rows ++ r ∷ []) ≡ length g.rows + 1 = length-append g.rows (r ∷ []) in
        let line_is = g.line_is in
        let few = g.few in
        record {
          rows = g.rows ++ r ∷ [];
          third = c;
          fuel = g.fuel - 1;
          goes =
              g.goes ∙ ap (λ f. add_rows g.rows (read_moves l numbers f (to ∷ from ∷ g.third ∷ []) k (drop p t))) one
              ∙ ap (add_rows g.rows) (moves_row l numbers (g.fuel - 1) (to ∷ from ∷ g.third ∷ []) k (drop p t) (row_rest r (drop next t)) h.is)
              ∙ add_one_more g.rows r (read_moves l numbers (g.fuel - 1) r (suc k) (drop next t))
              ∙ ap (λ m. add_rows (g.rows ++ r ∷ []) (read_moves l numbers (g.fuel - 1) r m (drop next t))) below;
          enough = omega arith;
          inside = h.inside;
          line_is = omega arith;
          few = omega arith;
          boxes_are = ap (λ (x : List ℕ). set x (place_of numbers width r) c) g.boxes_are ∙ stored_next (place_of numbers width) field3 boxes₀ g.rows r;
        }
