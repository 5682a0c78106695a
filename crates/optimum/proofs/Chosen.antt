-- Laws of Chosen.antt of specs/.
-- The row that the choices in a workspace give. `row_in c n m N` is a function of the workspace alone, so that a call over it can promise
-- it; `Leads` says that following the choices passes through the sets of a row. Once the two loops of Layers.antt are through
-- (`Solved`), with all positions wanted at the first stage, the choices lead to the best row (`solved_leads`, `solved_best`), if there is
-- one.
-- Assumes nothing.
use Rattle.std.specs.Prelude.{◌≡◌, leb, length, drop}
use Rattle.std.proofs.Math.Path.{refl, sym, ap, ap₂}
use Rattle.std.proofs.Common.{◌∙◌, subst}
use mathlib.Core.List.{List, [], ◌∷◌}
use Prim.Native.Nat.{ℕ, zero, suc, ◌+◌, ◌-◌, ◌*◌, ◌^◌, ◌≤◌, ◌<◌}
use native.Mathlib.Omega.{arith}
use Rattle.std.proofs.Math.Pow.{pow_pos}
use Rattle.fold.specs.Listed.{listed}
use Rattle.sets.specs.Mask.{mask_lt}
use Rattle.optimum.specs.Workspace.{at}
use Rattle.sets.specs.Rest.{full}
use Rattle.optimum.specs.Schedules.{Test, Contribution}
use Rattle.optimum.specs.Stages.{tab, choice, follow}
use Rattle.optimum.proofs.Stages.{tab_least, choice_lt}
use Rattle.optimum.specs.Layers.{Closed, Solved}
use Rattle.optimum.proofs.Layers.{solved_table, solved_choice}
use Rattle.optimum.specs.Rows.{stage_set, remaining, Row, BestRow, row_of}
use Rattle.optimum.proofs.Rows.{stage_sub, remaining_all, remaining-next}
use Rattle.optimum.specs.Best.{optimum, plan}
use Rattle.optimum.proofs.Best.{plan_row, plan_sets, plan_best}
use Rattle.optimum.specs.Chosen.{follow_in, row_in, Leads}

-- ---- the sets of a row that the choices give: each is the choice for what remains

module _ (ok : Test) (w : Contribution) (inf : ℕ) where
  follow_chosen : (f g : ℕ → ℕ) (k t : ℕ) → ((j : ℕ) → g j - f j ≡ g (suc j)) → listed k f ≡ follow ok w inf k t (g 0)
      → (j : ℕ) → j < k → choice ok w inf (k - j) (t + j) (g j) ≡ f j
  unfolding listed follow
  follow_chosen f g zero t next e j l = absurd (omega arith)
  follow_chosen f g (suc k) t next e zero l =
      let a : suc k - 0 ≡ suc k = omega arith in
      let b : t + 0 ≡ t = omega arith in
      ap₂ (λ x y. choice ok w inf x y (g 0)) a b ∙ sym (ap (λ x. at x 0) e)
  follow_chosen f g (suc k) t next e (suc j) l =
      let a : suc k - suc j ≡ k - j = omega arith in
      let b : t + suc j ≡ suc t + j = omega arith in
      let same : listed k (λ j. f (suc j)) ≡ follow ok w inf k (suc t) (g 1) =
      ap (drop 1) e ∙ ap (λ x. follow ok w inf k (suc t) (g 0 - x)) (sym (ap (λ x. at x 0) e)) ∙ ap (follow ok w inf k (suc t)) (next 0) in
      ap₂ (λ x y. choice ok w inf x y (g (suc j))) a b ∙ follow_chosen (λ j. f (suc j)) (λ j. g (suc j)) k (suc t) (λ j. next (suc j)) same j (omega arith)

  pub plan_choice : (n m : ℕ) → optimum ok w inf n m < inf → (j : ℕ) → j < m
      → choice ok w inf (m - j) (suc j) (remaining n (plan ok w inf n m) (suc j)) ≡ stage_set n (plan ok w inf n m) (suc j)
  plan_choice n m some j l =
      let row = plan ok w inf n m in
      let e : suc j ≡ 1 + j = omega arith in
      let all : full n ≡ remaining n row 1 = sym (remaining_all n row (λ i l. ((plan_row ok w inf n m some).staged i l).0)) in
      ap (λ t. choice ok w inf (m - j) t (remaining n row (suc j))) e
      ∙ follow_chosen (λ j. stage_set n row (suc j)) (λ j. remaining n row (suc j)) m 1 (λ j. remaining-next n row (suc j))
      (plan_sets ok w inf n m some ∙ ap (follow ok w inf m 1) all) j l

-- ---- an allowed row passes through wanted cells

row_wanted : {ok : Test} {wanted : ℕ → ℕ → Type 0} {n m : ℕ} {row : List ℕ} → Row ok n m row → Closed ok wanted → wanted 0 (full n)
    → (j : ℕ) → j ≤ m → wanted j (remaining n row (suc j))
row_wanted {wanted = wanted} {n} {row = row} h closed top zero l = subst (wanted 0) (sym (remaining_all n row (λ i q. (h.staged i q).0))) top
row_wanted {wanted = wanted} {n} {row = row} h closed top (suc j) l =
    subst (wanted (suc j)) (remaining-next n row (suc j))
    (closed j (remaining n row (suc j)) (stage_set n row (suc j)) (row_wanted h closed top j (omega arith)) (stage_sub n row (suc j)) (h.passes j l))

-- ---- behind the loops over stages and sets

module _ {ok : Test} {w : Contribution} {inf m N : ℕ} {wanted : ℕ → ℕ → Type 0} {a₀ c₀ a c : List ℕ} (n : ℕ) (size : N ≡ 2 ^ n)
    (closed : Closed ok wanted) (top : wanted 0 (full n)) (h : Solved ok w inf wanted N m 0 a₀ c₀ a c) where
  -- the value of all positions, as the code reads it
  pub solved_value : at a (N - 1) ≡ optimum ok w inf n m
  solved_value =
      let all : N - 1 ≡ full n = ap (λ x. x - 1) size in
      ap (at a) all ∙ solved_table h (full n) (omega (arith, pow_pos n)) top

  -- from a wanted cell that has a schedule, the choices in the workspace are followed through such cells
  follow_in_lem : (k j r : ℕ) → j + k ≡ m → r < N → wanted j r → tab ok w inf k (suc j) r < inf → follow_in c N k j r ≡ follow ok w inf k (suc j) r
  unfolding follow_in follow
  follow_in_lem zero j r q l z some = refl
  follow_in_lem (suc k) j r q l z some =
      let i : m - j ≡ suc k = omega arith in
      let s = choice ok w inf (suc k) (suc j) r in
      let e : at c (j * N + r) ≡ s = solved_choice h j r (omega arith) l z ∙ ap (λ x. choice ok w inf x (suc j) r) i in
      let next = closed j r s z ((tab_least ok w inf k (suc j) r).within some) (choice_lt ok w inf k (suc j) r some).0 in
      ap₂ (λ (x : ℕ) (y : List ℕ). x ∷ y) e
      (ap (λ x. follow_in c N k (suc j) (r - x)) e ∙ follow_in_lem k (suc j) (r - s) (omega arith) (omega arith) next (choice_lt ok w inf k (suc j) r some).1)

  module _ (some : optimum ok w inf n m < inf) where
    pub row_in_lem : row_in c n m N ≡ plan ok w inf n m
    unfolding row_in
    row_in_lem =
        let all : N - 1 ≡ full n = ap (λ x. x - 1) size in
        ap (row_of n) (ap (follow_in c N m 0) all ∙ follow_in_lem m 0 (full n) (omega arith) (omega (arith, pow_pos n)) top some)

    pub solved_leads : Leads c n m N (row_in c n m N)
    solved_leads =
        subst (Leads c n m N) (sym row_in_lem)
        (record {
          long = (plan_row ok w inf n m some).long;
          staged = (plan_row ok w inf n m some).staged;
          chosen = λ j l.
              let r = remaining n (plan ok w inf n m) (suc j) in
              solved_choice h j r l (omega (arith, mask_lt n λ i. leb (suc j) (at (plan ok w inf n m) i)))
              (row_wanted (plan_row ok w inf n m some) closed top j (omega arith))
              ∙ plan_choice ok w inf n m some j l;
        })

    pub solved_best : BestRow ok w n m (row_in c n m N)
    solved_best = subst (BestRow ok w n m) (sym row_in_lem) (plan_best ok w inf n m some)
