-- What a line of the proved table says, the test that the checker computes for it, and that a line whose test passes holds
-- (`line_holds`).
-- Assumes nothing.
use Rattle.std.specs.Prelude.{◌≡◌, refl, Bool, not, cond, ◌&&◌, ◌||◌, ℕ, ◌≤◌, ℤ, pos, negsuc}
use Rattle.std.proofs.Common.{ap, ap₂, arith, eq-eqb}
use Rattle.std.proofs.Math.Path.{subst₂}
use Rattle.std.proofs.Math.Bool.{true, false}
use Rattle.std.proofs.Math.Logic.{⊎_elim}
use Rattle.std.proofs.Math.Option.{Option, none, some}
use mathlib.Core.List.{List}
use Rattle.std.proofs.Math.Dec.{T, ltb, leb, eqb, ltb→lt, leb→le, eqb→eq}
use Rattle.fold.specs.Test.{is_true, of_true, is_false, both, both_of, either_of, not_of, same_list, same_list_lem}
use Rattle.fold.specs.Table.{all_pass, all_hold}
use Rattle.model.specs.Model.{Yard, boxes_of, Outcome, outcome, cost, allowed, precedes, Best, NoRow, overbooked, FirstOverbooked, bound_inside}
use Rattle.model.specs.Rows.{all_rows}
use Rattle.model.proofs.Rows.{allowed-listed}
use Rattle.model.specs.BestOf.{best_of}
use Rattle.model.proofs.BestOf.{is_best, is_none_lem}
use Rattle.model.specs.Fewest.{SumWeights, Fewest}
use Rattle.model.specs.Overbooked.{Interval, first_overbooked, SaysFirst}
use Rattle.model.proofs.Overbooked.{first_says}
use Rattle.day.specs.Answer.{Answer, gives, refuses}
use Rattle.day.specs.Sound.{day_limits, yard, sound}
use Rattle.day.specs.declared.Day.{Day}
use Rattle.counting.specs.Counting.{same_figures}
use Rattle.valuing.specs.Valuing.{valued}
use Rattle.planning.specs.Planning.{planned}
use Rattle.comparing.specs.Comparing.{Comparison}
use Rattle.baselines.specs.Baselines.{compared}

-- ---- what a line says

pub data Line : Type 0 where
  values : Day → List ℕ → Answer Outcome → Line
  best : Day → List ℕ → Outcome → Line
  later : Day → List ℕ → List ℕ → ℕ → Line
  refused : Day → ℕ → ℕ → ℕ → Line
  unkept : Day → Line
  has_sum_weights : Day → Bool → Line
  fewest : Day → List ℕ → ℕ → ℕ → Line
  accepted : Day → Bool → Line
  plans : Day → ℕ → ℕ → ℕ → Answer Outcome → Line
  compares : (Yard → List ℕ) → Day → List ℕ → Answer Comparison → Line
  compares_in : ℕ → ℕ → (Yard → List ℕ) → Day → Answer Comparison → Line

abbrev pub Holds : Line → Type 0
-- valuing the row gives this answer
Holds (values d row a) = valued day_limits (yard d) row ≡ a
-- the row is the best plan, with this outcome
Holds (best d row o) = Best (yard d) row × (outcome (yard d) row ≡ o)
-- two allowed rows of this cost, of which the second comes later
Holds (later d r s c) =
    T (allowed (yard d) r) × T (allowed (yard d) s) × (cost (yard d) r ≡ c) × (cost (yard d) s ≡ c) × T (precedes (yard d) r s)
-- no row is allowed, and the first overbooked interval is a..b with k trains bound inside
Holds (refused d a b k) = NoRow (yard d) × FirstOverbooked (yard d) a b × (bound_inside (yard d) a b ≡ k)
-- no row is allowed, and no interval is overbooked
Holds (unkept d) = NoRow (yard d) × ((a b : ℕ) → T (overbooked (yard d) a b) → ⊥)
-- the day has the weights of order 8, or not
Holds (has_sum_weights d true) = SumWeights (yard d)
Holds (has_sum_weights d false) = SumWeights (yard d) → ⊥
-- the row has the fewest revisits of all allowed rows, and the fewest split moves of those that share this fewest: so many of each
Holds (fewest d row r s) = Fewest (yard d) row × ((outcome (yard d) row).revisits ≡ r) × ((outcome (yard d) row).splits ≡ s)
-- the record is sound, or not
Holds (accepted d b) = sound day_limits (yard d) ≡ b
-- planning, lent so many words of cost, words of choice and bytes of row, gives this answer
Holds (plans d costs choices bytes a) = planned day_limits (yard d) costs choices bytes ≡ a
-- the procedure gives this row, with slot 0 for a train without one, and comparing it with the best plan gives this answer, where the
-- areas are long enough for every day
Holds (compares procedure d row a) = (procedure (yard d) ≡ row) × (compared day_limits (yard d) (procedure (yard d)) 4096 32768 ≡ a)
-- comparing, lent so many words of cost and of choice, gives this answer
Holds (compares_in costs choices procedure d a) = compared day_limits (yard d) (procedure (yard d)) costs choices ≡ a

-- ---- the test of a line

unfoldable pub same_outcome : Outcome → Outcome → Bool
same_outcome a b = eqb a.revisits b.revisits && eqb a.splits b.splits && eqb a.direct b.direct && eqb a.cost b.cost

unfoldable pub same_int : ℤ → ℤ → Bool
same_int (pos a) (pos b) = eqb a b
same_int (pos a) (negsuc b) = false
same_int (negsuc a) (pos b) = false
same_int (negsuc a) (negsuc b) = eqb a b

unfoldable pub same_comparison : Comparison → Comparison → Bool
same_comparison a b = same_outcome a.outcome b.outcome && same_int a.saving b.saving

unfoldable pub same_answer : {X : Type 0} → (X → X → Bool) → Answer X → Answer X → Bool
same_answer same (gives a) (gives b) = same a b
same_answer same (gives a) (refuses m cs) = false
same_answer same (refuses k bs) (gives b) = false
same_answer same (refuses k bs) (refuses m cs) = eqb k m && same_list bs cs

unfoldable pub is_row : Option (List ℕ) → List ℕ → Bool
is_row none row = false
is_row (some r) row = same_list r row

unfoldable pub is_none : Option (List ℕ) → Bool
is_none none = true
is_none (some r) = false

unfoldable pub is_interval : Option Interval → ℕ → ℕ → Bool
is_interval none a b = false
is_interval (some w) a b = eqb w.first a && eqb w.last b

unfoldable pub no_interval : Option Interval → Bool
no_interval none = true
no_interval (some w) = false

unfoldable pub sum_weights : Yard → Bool
sum_weights y = eqb y.revisit (boxes_of y) && eqb y.split 1

-- another row that is allowed has no fewer revisits, and more of them or no fewer split moves
unfoldable pub no_fewer : Yard → List ℕ → List ℕ → Bool
no_fewer y row other =
    not (allowed y other)
    || (leb (outcome y row).revisits (outcome y other).revisits
    && (ltb (outcome y row).revisits (outcome y other).revisits || leb (outcome y row).splits (outcome y other).splits))

unfoldable pub is_fewest : Yard → List ℕ → Bool
is_fewest y row = allowed y row && all_pass (no_fewer y row) (all_rows y.trains y.slots)

unfoldable pub passes : Line → Bool
passes (values d row a) = same_answer same_outcome (valued day_limits (yard d) row) a
passes (best d row o) = is_row (best_of (yard d)) row && same_outcome (outcome (yard d) row) o
passes (later d r s c) =
    allowed (yard d) r && allowed (yard d) s && eqb (cost (yard d) r) c && eqb (cost (yard d) s) c && precedes (yard d) r s
passes (refused d a b k) = is_none (best_of (yard d)) && is_interval (first_overbooked (yard d)) a b && eqb (bound_inside (yard d) a b) k
passes (unkept d) = is_none (best_of (yard d)) && no_interval (first_overbooked (yard d))
passes (has_sum_weights d b) = cond b (sum_weights (yard d)) (not (sum_weights (yard d)))
passes (fewest d row r s) = is_fewest (yard d) row && eqb (outcome (yard d) row).revisits r && eqb (outcome (yard d) row).splits s
passes (plans d costs choices bytes a) = same_answer same_outcome (planned day_limits (yard d) costs choices bytes) a
passes (accepted d b) = cond b (sound day_limits (yard d)) (not (sound day_limits (yard d)))
passes (compares procedure d row a) =
    same_list (procedure (yard d)) row && same_answer same_comparison (compared day_limits (yard d) (procedure (yard d)) 4096 32768) a
passes (compares_in costs choices procedure d a) = same_answer same_comparison (compared day_limits (yard d) (procedure (yard d)) costs choices) a

-- ---- from the test to the statement

pub same_outcome_lem : (a b : Outcome) → T (same_outcome a b) → a ≡ b
unfolding same_outcome
same_outcome_lem a b t =
    let (q, c) = both_of (eqb a.revisits b.revisits && eqb a.splits b.splits && eqb a.direct b.direct) (eqb a.cost b.cost) t in
    let (p, d) = both_of (eqb a.revisits b.revisits && eqb a.splits b.splits) (eqb a.direct b.direct) q in
    let (r, s) = both_of (eqb a.revisits b.revisits) (eqb a.splits b.splits) p in
    let re = eqb→eq a.revisits b.revisits r in
    let se = eqb→eq a.splits b.splits s in
    let de = eqb→eq a.direct b.direct d in
    let ce = eqb→eq a.cost b.cost c in
    same_figures re se de ce

same_int_lem : (a b : ℤ) → T (same_int a b) → a ≡ b
unfolding same_int
same_int_lem (pos a) (pos b) t = ap pos (eqb→eq a b t)
same_int_lem (pos a) (negsuc b) t = absurd t
same_int_lem (negsuc a) (pos b) t = absurd t
same_int_lem (negsuc a) (negsuc b) t = ap negsuc (eqb→eq a b t)

same_comparison_lem : (a b : Comparison) → T (same_comparison a b) → a ≡ b
unfolding same_comparison
same_comparison_lem a b t =
    let (o, s) = both_of (same_outcome a.outcome b.outcome) (same_int a.saving b.saving) t in
    let oe = same_outcome_lem a.outcome b.outcome o in
    let se = same_int_lem a.saving b.saving s in
    λ i. record { outcome = oe i; saving = se i }

pub same_answer_lem : {X : Type 0} (same : X → X → Bool) → ((a b : X) → T (same a b) → a ≡ b) → (a b : Answer X) → T (same_answer same a b) → a ≡ b
unfolding same_answer
same_answer_lem same is (gives a) (gives b) t = ap gives (is a b t)
same_answer_lem same is (gives a) (refuses m cs) t = absurd t
same_answer_lem same is (refuses k bs) (gives b) t = absurd t
same_answer_lem same is (refuses k bs) (refuses m cs) t =
    let (p, q) = both_of (eqb k m) (same_list bs cs) t in
    ap₂ refuses (eqb→eq k m p) (same_list_lem bs cs q)

pub is_row_lem : (o : Option (List ℕ)) (row : List ℕ) → T (is_row o row) → o ≡ some row
unfolding is_row
is_row_lem none row t = absurd t
is_row_lem (some r) row t = ap some (same_list_lem r row t)

no_row_lem : (o : Option (List ℕ)) → T (is_none o) → o ≡ none
unfolding is_none
no_row_lem none t = refl
no_row_lem (some r) t = absurd t

module _ (d : Day) where
  interval_holds : (o : Option Interval) (a b : ℕ) → SaysFirst (yard d) o → T (is_interval o a b) → FirstOverbooked (yard d) a b
  unfolding is_interval
  interval_holds none a b s t = absurd t
  interval_holds (some w) a b s t =
      let (p, q) = both_of (eqb w.first a) (eqb w.last b) t in
      subst₂ (FirstOverbooked (yard d)) (eqb→eq w.first a p) (eqb→eq w.last b q) s

  later_holds : (r s : List ℕ) (c : ℕ) → T (passes (later d r s c)) → Holds (later d r s c)
  unfolding passes
  later_holds r s c t =
      let y = yard d in
      let (p, before) = both_of (allowed y r && allowed y s && eqb (cost y r) c && eqb (cost y s) c) (precedes y r s) t in
      let (q, second) = both_of (allowed y r && allowed y s && eqb (cost y r) c) (eqb (cost y s) c) p in
      let (u, first) = both_of (allowed y r && allowed y s) (eqb (cost y r) c) q in
      let (a, b) = both_of (allowed y r) (allowed y s) u in
      (a, b, eqb→eq (cost y r) c first, eqb→eq (cost y s) c second, before)

  refused_holds : (a b k : ℕ) → T (passes (refused d a b k)) → Holds (refused d a b k)
  unfolding passes
  refused_holds a b k t =
      let y = yard d in
      let (p, trains) = both_of (is_none (best_of y) && is_interval (first_overbooked y) a b) (eqb (bound_inside y a b) k) t in
      let (q, w) = both_of (is_none (best_of y)) (is_interval (first_overbooked y) a b) p in
      (is_none_lem y (no_row_lem (best_of y) q), interval_holds (first_overbooked y) a b (first_says y) w, eqb→eq (bound_inside y a b) k trains)

  none_over : (o : Option Interval) → SaysFirst (yard d) o → T (no_interval o) → (a b : ℕ) → T (overbooked (yard d) a b) → ⊥
  unfolding no_interval
  none_over none s t = s
  none_over (some w) s t = absurd t

  unkept_holds : T (passes (unkept d)) → Holds (unkept d)
  unfolding passes
  unkept_holds t =
      let y = yard d in
      let (q, w) = both_of (is_none (best_of y)) (no_interval (first_overbooked y)) t in
      (is_none_lem y (no_row_lem (best_of y) q), none_over (first_overbooked y) (first_says y) w)

  sum_weights_hold : (b : Bool) → T (passes (has_sum_weights d b)) → Holds (has_sum_weights d b)
  unfolding passes sum_weights
  sum_weights_hold true t =
      let y = yard d in
      let (v, w) = both_of (eqb y.revisit (boxes_of y)) (eqb y.split 1) t in
      (eqb→eq y.revisit (boxes_of y) v, eqb→eq y.split 1 w)
  sum_weights_hold false t =
      let y = yard d in
      λ h. not_of (sum_weights y) t (both (eqb y.revisit (boxes_of y)) (eqb y.split 1) (of_true (eq-eqb y.revisit (boxes_of y) h.0)) (of_true (eq-eqb y.split 1 h.1)))

  -- what the test of another row says of an allowed one
  no_fewer_lem : (row other : List ℕ) → T (no_fewer (yard d) row other) → T (allowed (yard d) other)
      → ((outcome (yard d) row).revisits ≤ (outcome (yard d) other).revisits)
      × ((outcome (yard d) other).revisits ≡ (outcome (yard d) row).revisits → (outcome (yard d) row).splits ≤ (outcome (yard d) other).splits)
  unfolding no_fewer
  no_fewer_lem row other t a =
      let y = yard d in
      let p = outcome y row in
      let q = outcome y other in
      let more = ltb p.revisits q.revisits in
      let few = leb p.splits q.splits in
      ⊎_elim (λ u. absurd (not_of (allowed y other) u a))
      (λ u.
      let (v, w) = both_of (leb p.revisits q.revisits) (more || few) u in
      (leb→le p.revisits q.revisits v, λ same. ⊎_elim (λ m. absurd (omega (arith, ltb→lt p.revisits q.revisits m))) (λ f. leb→le p.splits q.splits f) (either_of more few w)))
      (either_of (not (allowed y other)) (leb p.revisits q.revisits && (more || few)) t)

  fewest_holds : (row : List ℕ) (r s : ℕ) → T (passes (fewest d row r s)) → Holds (fewest d row r s)
  unfolding passes is_fewest
  fewest_holds row r s t =
      let y = yard d in
      let (u, splits) = both_of (is_fewest y row && eqb (outcome y row).revisits r) (eqb (outcome y row).splits s) t in
      let (v, revisits) = both_of (is_fewest y row) (eqb (outcome y row).revisits r) u in
      let (a, others) = both_of (allowed y row) (all_pass (no_fewer y row) (all_rows y.trains y.slots)) v in
      let against : (other : List ℕ) → T (allowed y other) → T (no_fewer y row other) =
      λ other k. all_hold (no_fewer y row) (λ r. T (no_fewer y row r)) (λ r h. h) (all_rows y.trains y.slots) others other (allowed-listed y other k) in (
        record { is_of_kind = a; revisits = λ other k. (no_fewer_lem row other (against other k) k).0; splits = λ other k. (no_fewer_lem row other (against other k) k).1 },
        eqb→eq (outcome y row).revisits r revisits,
        eqb→eq (outcome y row).splits s splits,
      )

  accepted_holds : (b : Bool) → T (passes (accepted d b)) → Holds (accepted d b)
  unfolding passes
  accepted_holds true t = is_true (sound day_limits (yard d)) t
  accepted_holds false t = is_false (sound day_limits (yard d)) (not_of (sound day_limits (yard d)) t)

pub line_holds : (l : Line) → T (passes l) → Holds l
unfolding passes
line_holds (values d row a) t = same_answer_lem same_outcome same_outcome_lem (valued day_limits (yard d) row) a t
line_holds (best d row o) t =
    let (p, q) = both_of (is_row (best_of (yard d)) row) (same_outcome (outcome (yard d) row) o) t in
    (is_best (yard d) row (is_row_lem (best_of (yard d)) row p), same_outcome_lem (outcome (yard d) row) o q)
line_holds (later d r s c) t = later_holds d r s c t
line_holds (refused d a b k) t = refused_holds d a b k t
line_holds (unkept d) t = unkept_holds d t
line_holds (has_sum_weights d b) t = sum_weights_hold d b t
line_holds (fewest d row r s) t = fewest_holds d row r s t
line_holds (accepted d b) t = accepted_holds d b t
line_holds (plans d costs choices bytes a) t = same_answer_lem same_outcome same_outcome_lem (planned day_limits (yard d) costs choices bytes) a t
line_holds (compares procedure d row a) t =
    let found = compared day_limits (yard d) (procedure (yard d)) 4096 32768 in
    let (p, q) = both_of (same_list (procedure (yard d)) row) (same_answer same_comparison found a) t in
    (same_list_lem (procedure (yard d)) row p, same_answer_lem same_comparison same_comparison_lem found a q)
line_holds (compares_in costs choices procedure d a) t = same_answer_lem same_comparison same_comparison_lem (compared day_limits (yard d) (procedure (yard d)) costs choices) a t
