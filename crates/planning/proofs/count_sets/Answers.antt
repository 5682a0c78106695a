-- `planning::count_sets` meets its contract. A shift of 1 by n ≤ 12 places.
use mathlib.Core.Path.{◌∙◌}
use Prim.Native.Nat.{◌^◌, ◌≤◌}
use native.Mathlib.Nat.{one-mul, pow-le-pow_right}
use native.Mathlib.Omega.{arith}
use lib.Dec.{lit<, lit≤}
use lib.Pow.{shl_exact}
use Rattle.planning.proofs.count_sets.Goals as goal

pub returns : goal.returns
returns c =
    let e = shl_exact {a = 1} 1 c.args.n 64 (lit< tt) (omega arith) ∙ one-mul (2 ^ c.args.n) in
    let most : 2 ^ c.args.n ≤ 2 ^ 12 = pow-le-pow_right (lit≤ tt) c.requires in
    (e, omega (arith, e, most))
