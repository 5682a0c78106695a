-- The trains of a day file as the code's loop reads them: what has been read so far, and what is left to read.
-- Assumes nothing.
use Rattle.std.specs.Prelude.{◌≡◌, refl, List, [], ◌∷◌, ◌++◌, map, length, get_or, set, drop, Result, Ok, Err}
use Rattle.std.proofs.Common.{sym, ap₂, ◌∙◌, append_assoc, append-nil, add-one, length-append, drop-cons}
use Rattle.std.proofs.Math.Path.{ap}
use Prim.Native.Nat.{ℕ, suc, ◌+◌, ◌-◌, ◌≤◌, ◌<◌}
use native.Mathlib.Omega.{arith}
use Rattle.std.proofs.lemmas.List.{length-map, set_at}
use Rattle.day.specs.Answer.{Answer, gives, on_given, refusal}
use Rattle.day.specs.Sound.{train_ranges}
use Rattle.day.specs.SoundLaws.{within_is}
use Rattle.day.specs.declared.Limits.{Limits}
use Rattle.day.specs.declared.Refusal.{Refusal}
use Rattle.dayfile.specs.Reading.{field1, field2, field3, train_checks, RowRest, read_row, Rows, add_row, read_trains}
use Rattle.dayfile.specs.LineLaws.{row-line_read}
use Rattle.day_rows.specs.Steps.{row_rest, RowTo}
use Rattle.day_rows.specs.Joined.{add_rows, add_none, add_one_more}

-- ---- a column of the rows at the front of a list

column-next : (g : List ℕ → ℕ) (rows : List (List ℕ)) (r column : List ℕ) (i : ℕ) → length rows ≡ i → i < length column
    → set (map g rows ++ drop i column) i (g r) ≡ map g (rows ++ r ∷ []) ++ drop (i + 1) column
column-next g rows r column i e h =
    rw (drop-cons column i 0 h, add-one i)
    (set_at (map g rows) (get_or column i 0) (drop (suc i) column) (g r) i (length-map rows g ∙ e)
    ∙ sym (ap (λ (l : List ℕ). l ++ drop (suc i) column) (map_snoc rows) ∙ append_assoc (map g rows) (g r ∷ []) (drop (suc i) column)))
  where
    map_snoc : (rows : List (List ℕ)) → map g (rows ++ r ∷ []) ≡ map g rows ++ g r ∷ []
    map_snoc [] = refl
    map_snoc (q ∷ rows) = ap (λ (l : List ℕ). g q ∷ l) (map_snoc rows)

-- ---- the trains

-- the rows read so far, and that reading goes on with the others at the place p
pub record TrainsSoFar (l : Limits) (slots n : ℕ) (t s numbers₀ first₀ last₀ numbers first last : List ℕ) (i p before : ℕ) : Type 0 where
  pub rows : List (List ℕ)
  pub count : length rows ≡ i
  pub goes : read_trains l slots n 0 4 s ≡ add_rows rows (read_trains l slots (n - i) before (4 + i) (drop p t))
  pub inside : p ≤ length t
  pub numbers_are_lem : numbers ≡ map field1 rows ++ drop i numbers₀
  pub first_is_lem : first ≡ map field2 rows ++ drop i first₀
  pub last_is_lem : last ≡ map field3 rows ++ drop i last₀

-- a train's window lies in the slots
pub train_window : (l : Limits) (slots : ℕ) (t : List ℕ) (line before : ℕ) (s : List ℕ) {a b c next : ℕ} → RowTo t (read_row 2 line (train_checks l slots before line) s) (a ∷ b ∷ c ∷ []) next → (b ≤ slots) × (c ≤ slots)
unfolding train_ranges
train_window l slots t line before s {a} {b} {c} {next} h =
    let w = row-line_read 2 line (train_checks l slots before line) s (row_rest (a ∷ b ∷ c ∷ []) (drop next t)) h.is in
    let (x, (y, (z, u))) = within_is (train_ranges l slots) (a ∷ b ∷ c ∷ []) w.holds.0 in
    (y.1, z.1)

module _ (l : Limits) (slots n : ℕ) (t : List ℕ) where
  pub trains_start : (at : ℕ) (numbers first last : List ℕ) → at ≤ length t → TrainsSoFar l slots n t (drop at t) numbers first last numbers first last 0 at 0
  trains_start at numbers first last h = record {
    rows = [];
    count = refl;
    goes = ap (λ k. read_trains l slots k 0 4 (drop at t)) (omega arith) ∙ sym (add_none (read_trains l slots (n - 0) 0 4 (drop at t))) ∙ ap (λ k. add_rows [] (read_trains l slots (n - 0) 0 k (drop at t))) (omega arith);
    inside = h;
    numbers_are_lem = refl;
    first_is_lem = refl;
    last_is_lem = refl;
  }

  module _ {s numbers₀ first₀ last₀ numbers first last : List ℕ} {i p before : ℕ} (g : TrainsSoFar l slots n t s numbers₀ first₀ last₀ numbers first last i p before) (more : i < n) where
    -- the next row decides
    turn : read_trains l slots n 0 4 s
        ≡ add_rows g.rows (on_given (read_row 2 (4 + i) (train_checks l slots before (4 + i)) (drop p t)) λ train. add_row train.row (read_trains l slots (n - suc i) (field1 train.row) (suc (4 + i)) train.rest))
    unfolding read_trains
    turn =
        let e : n - i ≡ suc (n - suc i) = omega arith in
        g.goes ∙ ap (λ k. add_rows g.rows (read_trains l slots k before (4 + i) (drop p t))) e

    pub trains_refused : (x : Refusal) → read_row 2 (4 + i) (train_checks l slots before (4 + i)) (drop p t) ≡ refusal x → read_trains l slots n 0 4 s ≡ refusal x
    trains_refused x e = turn ∙ rw e

    pub trains_next : {a b c next : ℕ} → RowTo t (read_row 2 (4 + i) (train_checks l slots before (4 + i)) (drop p t)) (a ∷ b ∷ c ∷ []) next
        → i < length numbers₀ → i < length first₀ → i < length last₀
        → TrainsSoFar l slots n t s numbers₀ first₀ last₀ (set numbers i a) (set first i b) (set last i c) (i + 1) next a
    trains_next {a} {b} {c} {next} h hn hf hl =
        let r : List ℕ = a ∷ b ∷ c ∷ [] in
        let left : n - suc i ≡ n - (i + 1) = omega arith in
        let below : suc (4 + i) ≡ 4 + (i + 1) = omega arith in
        record {
          rows = g.rows ++ r ∷ [];
          count = length-append g.rows (r ∷ []) ∙ ap (λ k. k + 1) g.count;
          goes =
              turn
              ∙ ap (λ (x : Answer RowRest). add_rows g.rows (on_given x λ train. add_row train.row (read_trains l slots (n - suc i) (field1 train.row) (suc (4 + i)) train.rest))) h.is
              ∙ add_one_more g.rows r (read_trains l slots (n - suc i) a (suc (4 + i)) (drop next t))
              ∙ ap₂ (λ k m. add_rows (g.rows ++ r ∷ []) (read_trains l slots k a m (drop next t))) left below;
          inside = h.inside;
          numbers_are_lem = ap (λ (x : List ℕ). set x i a) g.numbers_are_lem ∙ column-next field1 g.rows r numbers₀ i g.count hn;
          first_is_lem = ap (λ (x : List ℕ). set x i b) g.first_is_lem ∙ column-next field2 g.rows r first₀ i g.count hf;
          last_is_lem = ap (λ (x : List ℕ). set x i c) g.last_is_lem ∙ column-next field3 g.rows r last₀ i g.count hl;
        }

-- all trains were read
pub record TrainsRead (l : Limits) (slots n : ℕ) (t : List ℕ) (answer : Answer Rows) (numbers₀ first₀ last₀ numbers first last : List ℕ) (next : ℕ) : Type 0 where
  pub rows : List (List ℕ)
  pub is : answer ≡ gives (record { rows = rows; rest = drop next t })
  pub count : length rows ≡ n
  pub inside : next ≤ length t
  pub numbers_are_lem : numbers ≡ map field1 rows ++ drop n numbers₀
  pub first_is_lem : first ≡ map field2 rows ++ drop n first₀
  pub last_is_lem : last ≡ map field3 rows ++ drop n last₀

abbrev pub TrainsTo : Limits → ℕ → ℕ → List ℕ → Answer Rows → List ℕ → List ℕ → List ℕ → List ℕ → List ℕ → List ℕ → Result ℕ Refusal → Type 0
TrainsTo l slots n t answer numbers₀ first₀ last₀ numbers first last (Ok p) = TrainsRead l slots n t answer numbers₀ first₀ last₀ numbers first last p
TrainsTo l slots n t answer numbers₀ first₀ last₀ numbers first last (Err x) = answer ≡ refusal x

-- into columns that held zeros
pub trains_into : {l : Limits} {slots n : ℕ} {t : List ℕ} {answer : Answer Rows} {numbers₀ first₀ last₀ numbers first last : List ℕ} {next : ℕ} (z : List ℕ)
    → TrainsRead l slots n t answer numbers₀ first₀ last₀ numbers first last next → numbers₀ ≡ z → first₀ ≡ z → last₀ ≡ z
    → TrainsRead l slots n t answer z z z numbers first last next
trains_into {n = n} z g a b c = record {
  rows = g.rows;
  is = g.is;
  count = g.count;
  inside = g.inside;
  numbers_are_lem = g.numbers_are_lem ∙ ap (λ (x : List ℕ). map field1 g.rows ++ drop n x) a;
  first_is_lem = g.first_is_lem ∙ ap (λ (x : List ℕ). map field2 g.rows ++ drop n x) b;
  last_is_lem = g.last_is_lem ∙ ap (λ (x : List ℕ). map field3 g.rows ++ drop n x) c;
}

pub trains_end : {l : Limits} {slots n : ℕ} {t s numbers₀ first₀ last₀ numbers first last : List ℕ} {i p before : ℕ}
    → TrainsSoFar l slots n t s numbers₀ first₀ last₀ numbers first last i p before → i ≡ n
    → TrainsRead l slots n t (read_trains l slots n 0 4 s) numbers₀ first₀ last₀ numbers first last p
unfolding read_trains
trains_end {l} {slots} {n} {t} {s} {numbers₀} {first₀} {last₀} {numbers} {first} {last} {i} {p} {before} g e =
    let none : n - i ≡ 0 = omega arith in
    record {
      rows = g.rows;
      is = g.goes ∙ ap (λ k. add_rows g.rows (read_trains l slots k before (4 + i) (drop p t))) none
          ∙ ap (λ (r : List (List ℕ)). gives (record { rows = r; rest = drop p t })) (append-nil g.rows);
      count = g.count ∙ e;
      inside = g.inside;
      numbers_are_lem = rw (← e) g.numbers_are_lem;
      first_is_lem = rw (← e) g.first_is_lem;
      last_is_lem = rw (← e) g.last_is_lem;
    }
