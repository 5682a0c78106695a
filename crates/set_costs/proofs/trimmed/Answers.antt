use mathlib.Core.Path.{◌≡◌, ap}
use mathlib.Core.Logic.{⊎_elim}
use Prim.Native.Nat.{◌<◌}
use native.Mathlib.Nat.{eq-zero-or-pos}
use native.Mathlib.Omega.{arith}
use lib.Count.{ones, ones-le}
use Rattle.sets.specs.FewOnes.{fewer_ones}
use Rattle.set_costs.specs.Sets.{trimmed_next}
use Rattle.set_costs.proofs.trimmed.Goals as goal

pub loop-count-preserved : goal.loop-count-preserved
loop-count-preserved c =
    let l = c.loop-count in
    -- the empty set is not too large
    let some : 0 < l.w = ⊎_elim (λ (z : l.w ≡ 0). absurd (omega (arith, ap ones z, ones-le 0 0 (omega arith)))) (λ p. p) (eq-zero-or-pos l.w) in
    (trimmed_next l.invariant.0 (omega arith), omega (arith, fewer_ones l.w some, l.invariant.1))
