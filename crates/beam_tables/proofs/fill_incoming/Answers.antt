-- `beam_tables::fill_incoming` meets its contract: each word is what the closure gives.
use borrow.Author.Rules.{rules}
use Rattle.beam_tables.proofs.fill_incoming.Goals as goal

pub returns : goal.returns
returns c =
    (record { kept = c.fill.ensures.0; all = λ i l. let h = c.fill.ensures.1 i l in search rules }, λ i l. let h = c.fill.ensures.1 i l in search rules)
