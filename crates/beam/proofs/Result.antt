-- Laws of Result.antt of specs/.
-- What the search gives (document 02, order 9): a row that fits, or none exactly where none does (`beam_says`); and where no slot was full
-- the best row of all in order 5 (`beam_best`). A whole plan's cost so far is its row's cost (`whole-cost`).
-- Assumes nothing.
use Rattle.std.specs.Prelude.{◌≡◌, length}
use Rattle.std.proofs.Math.Path.{refl}
use Rattle.std.proofs.Common.{sym, ap, ◌∙◌, subst, arith}
use mathlib.Core.List.Memᴰ
use mathlib.Core.List.{List, [], ◌∷◌, Memᴰ}
use Rattle.std.proofs.Math.Option.{Option, none, some}
use Prim.Native.Nat.{ℕ, zero, suc, ◌≤◌}
use Rattle.std.proofs.Math.Dec.{T}
use Rattle.sets.specs.Rest.{full}
use Rattle.model.specs.Model.{Yard, received, revisits, cost, fitting, allowed, precedes, Best}
use Rattle.model.proofs.Order.{key_not}
use Rattle.model.proofs.Rows.{fitting_is}
use Rattle.model.specs.BestOf.{better}
use Rattle.feasibility.specs.Bound.{Windows}
use Rattle.optimum.proofs.Rows.{remaining_none}
use Rattle.merging.proofs.First.{take-some}
use Rattle.beam.specs.Beam.{Plan, rest, cost_so_far, revisits_so_far, row_of, discarded, may_serve, remained, kept, first_row, beam_row}
use Rattle.beam.specs.Paths.{Path}
use Rattle.beam.proofs.Completing.{next-set, whole_fits}
use Rattle.beam.specs.RowPlans.{plan_of}
use Rattle.beam.proofs.RowPlans.{plan_again, plan_rest, start_kept, plan_cost, plan_revisits}
use Rattle.beam.proofs.Successors.{successor_at, start_at, kept_of, remained_merged, remained_path}
use Rattle.beam.specs.Result.{BestFitting, NoneFits, Says}

-- where all rows that fit are allowed, it is the model's best plan
pub best-fitting : (y : Yard) → ((row : List ℕ) → allowed y row ≡ fitting y row) → (row : List ℕ) → BestFitting y row → Best y row
best-fitting y same row b = record {
  is_allowed = subst T (sym (same row)) b.fits;
  least = λ other ok. (key_not (cost y) (precedes y) other row (b.none_better other (subst T (same other) ok))).0;
  first = λ other ok e. (key_not (cost y) (precedes y) other row (b.none_better other (subst T (same other) ok))).1 e;
}

-- ---- a whole plan

module _ (y : Yard) (windows : Windows y) (p : Plan) (h : Path y p) (whole : length p ≡ y.slots) where
  row_ok : T (fitting y (row_of y p))
  row_ok = whole_fits y p h windows whole

  pub whole_plan : plan_of y (row_of y p) y.slots ≡ p
  whole_plan = ap (plan_of y (row_of y p)) (sym whole) ∙ plan_again y p h

  -- its numbers are its row's
  pub whole-cost : cost_so_far y p ≡ cost y (row_of y p)
  whole-cost = ap (cost_so_far y) (sym whole_plan) ∙ plan_cost y (row_of y p) row_ok

  pub whole-revisits : revisits_so_far y p ≡ revisits y.trains (received y) (row_of y p)
  whole-revisits = ap (revisits_so_far y) (sym whole_plan) ∙ plan_revisits y (row_of y p) row_ok

  -- and no train remains
  pub whole-rest : rest y p ≡ 0
  whole-rest =
      ap (rest y) (sym whole_plan) ∙ plan_rest y (row_of y p) row_ok y.slots
      ∙ remaining_none y.trains (row_of y p) y.slots (λ i l. ((fitting_is y (row_of y p) row_ok).slotted i l).1)

-- ---- the search never ends early

module _ (y : Yard) (width : ℕ) (windows : Windows y) (wide : 1 ≤ width) where
  pub some-kept : (T (discarded y 0 (full y.trains)) → ⊥) → (t : ℕ) → t ≤ y.slots → (p : Plan) × Memᴰ p (kept y width t)
  unfolding kept
  some-kept start zero h = take-some width (remained y width 0) [] wide (start_at y width [] refl start)
  some-kept start (suc t) h =
      let (p, at) = some-kept start t (omega arith) in
      let (path, long) = remained_path y width t p (kept_of y width t p at) in
      let (s, may) = next-set y windows p path (omega arith) in
      let next = successor_at y (suc t) (kept y width t) p s at (subst (λ k. T (may_serve y (suc k) (rest y p) s)) long may) in
      let (m, among, stands) = (remained_merged y width t).all (s ∷ p) next in
      take-some width (remained y width (suc t)) m wide among

  pub beam_says : Says y (beam_row y width)
  unfolding beam_row
  beam_says =
      go (kept y width y.slots)
      (λ p at. remained_path y width y.slots p (kept_of y width y.slots p at))
      (λ row ok. some-kept (start_kept y row ok) y.slots (omega arith))
    where
      go : (l : List Plan) → ((p : Plan) → Memᴰ p l → Path y p × (length p ≡ y.slots))
          → ((row : List ℕ) → T (fitting y row) → (p : Plan) × Memᴰ p l) → Says y (first_row y l)
      go [] paths member = λ row ok. Memᴰ.not-nil (member row ok).1
      go (p ∷ l) paths member = let (path, long) = paths p (Memᴰ.head refl) in whole_fits y p path windows long
