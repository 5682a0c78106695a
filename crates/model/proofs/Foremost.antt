-- Laws of Foremost.antt of specs/.
-- Order 5 of document 02 in its own words: among plans of equal cost fewer revisits come first, then a smaller sum of slot numbers over all
-- trains, and only then the set-number order. Of the allowed rows of least cost the best plan is just the one that is foremost so
-- (`best_foremost`, `foremost_best`). Neither `precedes` nor the order of a key before an order stands in it. And whatever chose among the
-- cheapest rows before, the plan costs the same (`same_cost`), and where there is one such row it is the plan (`same_plan`).
-- Assumes nothing.
use Rattle.std.specs.Prelude.{◌≡◌, ℕ, suc, ◌≤◌}
use Rattle.std.proofs.Math.Logic.{⊎_elim}
use mathlib.Core.List.{List}
use Rattle.std.proofs.Common.{le_antisymm, arith}
use Rattle.std.proofs.Math.Dec.{T}
use Rattle.model.specs.Model.{Yard, cost, slot_mask, by_key, slot_total, by_sets, precedes, Best}
use Rattle.model.proofs.Order.{key_not, key_cases, lower_not, not_lower}
use Rattle.model.specs.Foremost.{Cheapest, AsCheap, NoFewerRevisits, Foremost, late, total}

module _ (y : Yard) (row : List ℕ) where
  pub best_foremost : Best y row → Foremost y row
  unfolding precedes by_sets slot_total
  best_foremost b =
      record {
        revisits = λ other o. (first other o).0;
        sums = λ other o f. (second other o f).0;
        sets = λ other o f s t l same.
            let (no_less, behind) = second other o f in
            lower_not y.slots (λ t. slot_mask y.trains row (suc t)) (λ t. slot_mask y.trains other (suc t)) (behind (omega arith)) t l same;
      }
    where
      first : (other : List ℕ) → AsCheap y row other → ((late y row) row ≤ (late y row) other) × ((late y row) other ≡ (late y row) row → T (by_key (total y row) (by_sets y) other row) → ⊥)
      first other o = key_not (late y row) (by_key (total y row) (by_sets y)) other row (b.first other o.0 o.1)

      second : (other : List ℕ) → AsCheap y row other → NoFewerRevisits y other row → ((total y row) row ≤ (total y row) other) × ((total y row) other ≡ (total y row) row → T (by_sets y other row) → ⊥)
      second other o f = let l = (first other o).0 in key_not (total y row) (by_sets y) other row ((first other o).1 (omega arith))

  pub foremost_best : Cheapest y row → Foremost y row → Best y row
  unfolding precedes by_sets slot_total
  foremost_best c f =
      record {
        is_allowed = c.0;
        least = c.1;
        first = λ other h e t.
            let o : AsCheap y row other = (h, e) in
            ⊎_elim (λ l. omega (arith, f.revisits other o))
            (λ p.
            let fewer : NoFewerRevisits y other row = omega (arith, p.0) in
            ⊎_elim (λ l. omega (arith, f.sums other o fewer))
            (λ q.
            not_lower y.slots (λ t. slot_mask y.trains row (suc t)) (λ t. slot_mask y.trains other (suc t))
            (f.sets other o fewer (omega (arith, q.0))) q.1)
            (key_cases (total y row) (by_sets y) other row p.1))
            (key_cases (late y row) (by_key (total y row) (by_sets y)) other row t);
      }

-- ---- before order 5

module _ (y : Yard) (row : List ℕ) (c : Cheapest y row) where
  pub same_cost : (now : List ℕ) → Best y now → cost y now ≡ cost y row
  same_cost now b = le_antisymm (b.least row c.0) (c.1 now b.is_allowed)

  pub same_plan : ((other : List ℕ) → AsCheap y row other → other ≡ row) → (now : List ℕ) → Best y now → now ≡ row
  same_plan only now b = only now (b.is_allowed, same_cost now b)
