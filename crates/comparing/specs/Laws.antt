-- How comparing comes to its answer: a row that leaves a train over, one that parts a group, or neither.
-- Assumes nothing.
use Rattle.std.proofs.Math.Path.{◌≡◌, sym, ap, ap₂, subst}
use Rattle.std.proofs.Common.{◌∙◌, add-one, arith}
use Rattle.std.specs.Prelude.{true, false, List, [], ◌∷◌, ℕ, ◌+◌, ◌^◌, ◌<◌, T, ℤ, ◌-ℤ◌, Ok}
use Rattle.std.proofs.Math.IntN.{pos}
use borrow.Author.Tests.{eq-eqb, ne_eqb}
use Rattle.model.specs.Model.{Yard, Outcome, outcome, cost, kept}
use Rattle.day.specs.Answer.{gives, refuses}
use Rattle.day.specs.Sound.{day_limits, sound}
use Rattle.day.specs.Most.{cost-most}
use Rattle.counting.specs.Counting.{outcome_of}
use Rattle.counting.specs.declared.Value.{Value}
use Rattle.procedures.specs.Procedures.{left_over}
use Rattle.comparing.specs.Comparing.{Comparison, comparison_or_zero, against, Says}
use Rattle.comparing.specs.declared.Baseline.{Baseline}

-- ---- a row against the planned cost

module _ (y : Yard) (row : List ℕ) (best : ℕ) {k : ℕ} (found : k ≡ left_over y.trains row) where
  -- train k + 1 is the first one without a slot
  pub says_left : {b : Baseline} → k < y.trains → Says (refuses 14 ((k + 1) ∷ [])) b → Says (against y row best) b
  unfolding against
  says_left {b} h = subst (λ a. Says a b) (rw (← found, ne_eqb k y.trains (λ q. omega arith), add-one))

  -- every train has one, and a group is parted
  pub says_parted : {b : Baseline} → k ≡ y.trains → kept y.trains y.groups row ≡ false → Says (refuses 14 (0 ∷ [])) b → Says (against y row best) b
  unfolding against
  says_parted {b} h p = subst (λ a. Says a b) (rw (← found, eq-eqb k y.trains h, p))

  -- every train has one, and none is
  pub says_complete : {v : Value} {s : ℤ} → k ≡ y.trains → kept y.trains y.groups row ≡ true → outcome_of v ≡ outcome y row → s ≡ pos v.cost -ℤ pos best
      → Says (against y row best) record { verdict = Ok tt; value = v; saving = s }
  unfolding against cost
  says_complete {v} {s} h p e f =
      let said : against y row best ≡ gives record { outcome = outcome y row; saving = pos (cost y row) -ℤ pos best } = rw (← found, eq-eqb k y.trains h, p) in
      let same : ◌≡◌ {A = Comparison} record { outcome = outcome_of v; saving = s } record { outcome = outcome y row; saving = pos (cost y row) -ℤ pos best } =
      ap₂ (λ (o : Outcome) (z : ℤ). record { outcome = o; saving = z }) e (f ∙ ap (λ (o : Outcome). pos o.cost -ℤ pos best) e) in
      record { says = ap gives same ∙ sym said; beside = same ∙ sym (ap comparison_or_zero said) }

-- no cost of a sound day is too great for `saving_of`
pub cost_fits : (y : Yard) (row : List ℕ) {o : Outcome} → T (sound day_limits y) → o ≡ outcome y row → o.cost < 2 ^ 63
unfolding cost
cost_fits y row {o} s e = omega (arith, cost-most y row s, ap (λ (o : Outcome). o.cost) e)
