-- Laws of Best.antt of specs/.
-- The best row, from the table. Where the table has a value for all positions, the row of the schedule that the choices give is the best
-- row, and there is no other (`plan_best`, `best_unique`). It has one where an allowed row is worth less than `inf`, since its value is no
-- more than the worth of any allowed row (`optimum_lower`).
-- Assumes nothing.
use Rattle.std.specs.Prelude.{◌≡◌, List, ℕ, suc, ◌≤◌, ◌<◌, length}
use Rattle.std.proofs.Common.{sym, ap, ◌∙◌, arith, le_antisymm}
use Rattle.fold.specs.Listed.{length-listed, listed_at}
use Rattle.optimum.specs.Workspace.{at}
use Rattle.sets.specs.Rest.{full}
use Rattle.optimum.specs.Schedules.{Test, Contribution, value}
use Rattle.optimum.proofs.Schedules.{ahead_ext, ahead_same}
use Rattle.optimum.specs.Stages.{tab, follow, Cheapest}
use Rattle.optimum.proofs.Stages.{tab_cheapest, tab_lower}
use Rattle.optimum.specs.Rows.{stage_set, worth, Row, BestRow, sets_of, row_of}
use Rattle.optimum.proofs.Rows.{row_schedule, row-value, same_sets, row-set, sets_row, schedule_row}
use Rattle.optimum.specs.Best.{optimum, followed, plan}

-- ---- there is one best row

pub best_unique : {ok : Test} {w : Contribution} {n m : ℕ} {row other : List ℕ} → BestRow ok w n m row → BestRow ok w n m other → row ≡ other
best_unique {w = w} {n} {m} {row} {other} a b =
    let e : worth w n m row ≡ worth w n m other = le_antisymm (a.least other b.allowed) (b.least row a.allowed) in
    same_sets a.allowed b.allowed
    (ahead_same m (λ j. stage_set n row (suc j)) (λ j. stage_set n other (suc j)) (a.first other b.allowed (sym e)) (b.first row a.allowed e))

module _ (ok : Test) (w : Contribution) (inf n m : ℕ) where
  long : (row : List ℕ) → length (sets_of n m row) ≡ m
  long row = length-listed m λ j. stage_set n row (suc j)

  pub optimum_lower : (row : List ℕ) → Row ok n m row → (optimum ok w inf n m) ≤ worth w n m row
  optimum_lower row h = omega (arith, tab_lower ok w inf m 1 (full n) (sets_of n m row) (long row) (row_schedule h), row-value h w)

  -- ---- the table has a value

  module _ (some : (optimum ok w inf n m) < inf) where
    cheapest : Cheapest ok w inf m 1 (full n) (optimum ok w inf n m) (followed ok w inf n m)
    cheapest = tab_cheapest ok w inf m 1 (full n) some

    pub plan_row : Row ok n m (plan ok w inf n m)
    plan_row = schedule_row ok n (followed ok w inf n m) cheapest.allowed m cheapest.long

    pub plan_sets : sets_of n m (plan ok w inf n m) ≡ (followed ok w inf n m)
    plan_sets = sets_row ok n (followed ok w inf n m) cheapest.allowed m cheapest.long

    pub plan_worth : worth w n m (plan ok w inf n m) ≡ (optimum ok w inf n m)
    plan_worth = sym (row-value plan_row w) ∙ ap (value w 1 (full n)) plan_sets ∙ cheapest.valued

    pub plan_best : BestRow ok w n m (plan ok w inf n m)
    plan_best =
        record {
          allowed = plan_row;
          least = λ other h. omega (arith, plan_worth, optimum_lower other h);
          first = λ other h e.
              ahead_ext m (at (followed ok w inf n m)) (at (sets_of n m other)) (λ j. stage_set n (plan ok w inf n m) (suc j)) (λ j. stage_set n other (suc j))
              (λ j l. sym (row-set ok n (followed ok w inf n m) cheapest.allowed j (omega (arith, cheapest.long))))
              (λ j l. listed_at m (λ j. stage_set n other (suc j)) 0 j l)
              (cheapest.first (sets_of n m other) (long other) (row_schedule h) (row-value h w ∙ e ∙ plan_worth));
        }
