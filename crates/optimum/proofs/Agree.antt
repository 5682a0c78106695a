-- Other tests and contributions that agree have the same table. The code's test and contribution read tables of its own; they need to agree
-- with the meant ones only at the stages 1 to m and for sets below N, the contributions only where the test passes.
-- Assumes nothing.
use Rattle.std.specs.Prelude.{◌≡◌, Bool, true, false, List, T}
use Rattle.std.proofs.Math.Path.{refl}
use Rattle.std.proofs.Common.{ap, ap₂, ◌∙◌, ⊎_elim, arith, eq-zero-or-pos, mul-zero, mod-lt, div-lt_iff_lt-mul}
use Prim.Native.Nat.{ℕ, zero, suc, ◌+◌, ◌-◌, ◌*◌, ◌/◌, ◌%◌, ◌≤◌, ◌<◌}
use Rattle.sets.specs.Subset.{Sub}
use Rattle.optimum.proofs.Least.{least_same}
use Rattle.optimum.specs.Offers.{offer}
use Rattle.optimum.specs.Schedules.{Test, Contribution}
use Rattle.optimum.specs.Stages.{candidate, tab, choice}
use Rattle.optimum.proofs.Stages.{tab_least, cell-found}
use Rattle.optimum.specs.Layers.{choice_at, Solved}

-- what may not be chosen offers the same whatever it contributes
offer_agree : (inf : ℕ) (may may' : Bool) (v v' x x' : ℕ) → may ≡ may' → v ≡ v' → (T may' → x ≡ x') → offer inf may v x ≡ offer inf may' v' x'
offer_agree inf may true v v' x x' e f g = ap (λ b. offer inf b v x) e ∙ ap₂ (offer inf true) f (g tt)
offer_agree inf may false v v' x x' e f g = ap (λ b. offer inf b v x) e

module _ (ok ok' : Test) (w w' : Contribution) (inf N m : ℕ)
    (oks : (t r s : ℕ) → 1 ≤ t → t ≤ m → r < N → Sub s r → ok t r s ≡ ok' t r s)
    (ws : (t r s : ℕ) → 1 ≤ t → t ≤ m → r < N → Sub s r → T (ok' t r s) → w t r s ≡ w' t r s) where
  step : (k t r : ℕ) → 1 ≤ t → t ≤ m → r < N → ((x : ℕ) → x ≤ r → tab ok w inf k (suc t) x ≡ tab ok' w' inf k (suc t) x)
      → (tab ok w inf (suc k) t r ≡ tab ok' w' inf (suc k) t r) × (choice ok w inf (suc k) t r ≡ choice ok' w' inf (suc k) t r)
  unfolding tab choice
  step k t r a b l e =
      cell-found ok' w' inf (tab ok' w' inf k (suc t)) t r
      (least_same (candidate ok' w' inf (tab ok' w' inf k (suc t)) t r)
      (λ u hu.
      offer_agree inf (ok t r u) (ok' t r u) (tab ok w inf k (suc t) (r - u)) (tab ok' w' inf k (suc t) (r - u)) (w t r u) (w' t r u)
      (oks t r u a b l hu) (e (r - u) (omega arith)) (ws t r u a b l hu))
      (tab_least ok w inf k t r))

  pub tab_agree : (k t r : ℕ) → 1 ≤ t → t + k ≤ suc m → r < N → tab ok w inf k t r ≡ tab ok' w' inf k t r
  unfolding tab
  tab_agree zero t r a b l = refl
  tab_agree (suc k) t r a b l = (step k t r a (omega arith) l (λ x q. tab_agree k (suc t) x (omega arith) (omega arith) (omega arith))).0

  pub choice_agree : (k t r : ℕ) → 1 ≤ t → t + k ≤ suc m → r < N → choice ok w inf k t r ≡ choice ok' w' inf k t r
  unfolding choice
  choice_agree zero t r a b l = refl
  choice_agree (suc k) t r a b l = (step k t r a (omega arith) l (λ x q. tab_agree k (suc t) x (omega arith) (omega arith) (omega arith))).1

  pub solved_agree : {wanted : ℕ → ℕ → Type 0} {a₀ c₀ a c : List ℕ} → Solved ok w inf wanted N m 0 a₀ c₀ a c → Solved ok' w' inf wanted N m 0 a₀ c₀ a c
  solved_agree h =
      record {
        within = h.within;
        kept = h.kept;
        table = record { holds = λ i l z. h.table.holds i l z ∙ tab_agree (m - 0) 1 i (omega arith) (omega arith) l };
        choices = record { kept = h.choices.kept; done = λ i p q z. h.choices.done i p q z ∙ word i q };
      }
    where
      word : (i : ℕ) → i < m * N → choice_at ok w inf N m i ≡ choice_at ok' w' inf N m i
      word i q =
          let some : 0 < N = ⊎_elim (λ (e : N ≡ 0). absurd (omega (arith, ap (λ x. m * x) e, mul-zero m))) (λ (l : 0 < N). l) (eq-zero-or-pos N) in
          let l : i / N < m = (div-lt_iff_lt-mul some).1 q in
          choice_agree (m - i / N) (suc (i / N)) (i % N) (omega arith) (omega arith) (mod-lt i some)
