use Rattle.std.proofs.Common.{◌≤◌, ◌<◌, ◌*◌, ◌^◌, sym, subst, arith, pow_mono}
use Rattle.staging.specs.Tables.{from_outside}
use Rattle.tables.specs.Given.{boxes_of}
use Rattle.tables.specs.Filled.{Filled, filled_end}
use Rattle.prices.proofs.fill_price.Goals as goal
use Rattle.prices.proofs.fill_price.Goals.{After-fill_outside}

-- the split moves of the `size` sets
moves : (c : After-fill_outside) → let s = c.args.supplies.now in
    Filled (from_outside s.trains (boxes_of s)) c.args.size c.args.price.now c.fill_outside.new.price
moves c = let all = c.requires.1 in filled_end _ c.fill_outside.ensures (omega arith) (omega arith)

pub set_prices-requires : goal.set_prices-requires
set_prices-requires c =
    let a = c.args in
    let m = moves (goal.at.set_prices-requires c).After-fill_outside in
    let few : a.size ≤ 4096 = omega (arith, c.requires.1, pow_mono {i = a.supplies.now.trains} {j = 12} c.requires.0.few) in
    (few, omega (arith, m.kept.long), λ x l. subst (λ k. a.split * k < 2 ^ 32) (sym (m.all x l)) (c.requires.3 x l))
