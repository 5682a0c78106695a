-- How the calls come to their answers: what planning answers, and a row at the front of 12 bytes.
-- Assumes nothing.
use Rattle.std.specs.Prelude.{◌≡◌, refl, List, ◌∷◌, ◌++◌, ℕ, zero, suc, ◌≤◌, length, take, drop, replicate}
use Rattle.std.proofs.Common.{sym, ap, ◌∙◌, arith, length-append}
use Rattle.model.specs.Model.{Yard, Outcome}
use Rattle.day.specs.Answer.{gives, refuses}
use Rattle.day.specs.declared.Limits.{Limits}
use Rattle.fold.specs.Listed.{take_front}
use Rattle.planning.specs.Planning.{planned}
use Rattle.comparing.specs.Comparing.{against}
use Rattle.comparing.specs.Comparing.{Says}
use Rattle.comparing.specs.declared.Baseline.{Baseline}
use Rattle.baselines.specs.Baselines.{compared}

-- ---- the answer, from planning's

pub compared-planned : (l : Limits) (y : Yard) (row : List ℕ) (costs choices : ℕ) {o : Outcome} → planned l y costs choices y.trains ≡ gives o
    → compared l y row costs choices ≡ against y row o.cost
unfolding compared
compared-planned l y row costs choices e = rw e

module _ (l : Limits) (y : Yard) (row : List ℕ) (costs choices : ℕ) {b : Baseline} where
  pub says_against : {o : Outcome} → planned l y costs choices y.trains ≡ gives o → Says (against y row o.cost) b → Says (compared l y row costs choices) b
  unfolding compared
  says_against e s = rw e s

  pub says_refused : {k : ℕ} {carries : List ℕ} → planned l y costs choices y.trains ≡ refuses k carries → Says (refuses k carries) b → Says (compared l y row costs choices) b
  unfolding compared
  says_refused e s = rw e s

-- ---- a procedure's row at the front of a local one of 12 bytes

abbrev pub zeros : List ℕ
zeros = replicate 12 0

pub zeros_front : (n : ℕ) → n ≤ 12 → take n zeros ≡ replicate n 0
zeros_front n h = go n 12 h
  where
    go : (n m : ℕ) → n ≤ m → take {A = ℕ} n (replicate m 0) ≡ replicate n 0
    go zero m h = refl
    go (suc n) zero h = absurd (omega arith)
    go (suc n) (suc m) h = ap (λ (l : List ℕ). 0 ∷ l) (go n m (omega arith))

module _ (n : ℕ) (row : List ℕ) (long : length row ≡ n) where
  pub front_long : n ≡ length (take n (row ++ drop n zeros))
  front_long = sym (ap length (take_front row (drop n zeros) long) ∙ long)

  pub front_fits : n ≤ length (row ++ drop n zeros)
  front_fits = omega (arith, length-append row (drop n zeros), long)
