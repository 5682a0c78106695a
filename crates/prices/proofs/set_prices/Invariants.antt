-- `prices::set_prices` meets its contract. The loop's invariant: the sets passed have their prices, the others their split moves.
use Rattle.optimum.specs.Workspace.{at}
use Rattle.prices.specs.Entries.{price_of}
use Rattle.tables.specs.Filled.{Filled}
use Rattle.prices.proofs.set_prices.Given as goal

abbrev pub invariant-loop-s : goal.invariant-loop-s
invariant-loop-s l = Filled (λ s. price_of l.tracks l.split s (at l.initial.word-items s)) l.s l.initial.word-items l.word-items
