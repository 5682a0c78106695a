-- Where rows may end and the text goes on, its line decides.
use Rattle.std.proofs.Common.{◌≡◌, rules}
use Rattle.lines.specs.ReaderLaws.{goes_on}
use Rattle.lines.specs.declared.Due.TheVariants.{RowOrEnd, RowNamesOrEnd, PairOrEnd}
use Rattle.lines.proofs.read_line.Goals as goal

pub returns-in-RowOrEnd : goal.returns-in-RowOrEnd
returns-in-RowOrEnd c = let e : c.args.due ≡ RowOrEnd = search rules in rw (e, goes_on _ _ _ c.if-text-at.false) (search rules)

pub returns-in-Some : goal.returns-in-Some
returns-in-Some c =
    let e : c.args.due ≡ RowNamesOrEnd = search rules in
    rw (e, goes_on _ _ _ c.if-text-at.false, c.in-Some.ensures.read) (search rules)

pub returns-in-None : goal.returns-in-None
returns-in-None c = let e : c.args.due ≡ RowNamesOrEnd = search rules in rw (e, goes_on _ _ _ c.if-text-at.false, c.in-None.ensures) (search rules)

pub returns-in-PairOrEnd : goal.returns-in-PairOrEnd
returns-in-PairOrEnd c = let e : c.args.due ≡ PairOrEnd = search rules in rw (e, goes_on _ _ _ c.if-text-at.false) (search rules)
