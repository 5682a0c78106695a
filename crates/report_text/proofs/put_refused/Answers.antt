-- `report_text::put_refused` meets its contract. By the two cases of the test that no day was refused under the number.
-- where the function began, from the place past the test; that place, from the one where the counter is read again
use mathlib.Core.Path.{refl}
use Rattle.report_text.specs.Laws.{refusal_none, refusal-some}
use borrow.Author.Rules.{rules}
use Rattle.report_text.proofs.put_refused.Goals as goal

pub returns-then-days-k-eq0 : goal.returns-then-days-k-eq0
returns-then-days-k-eq0 c = rw (refusal_none _ _ c.if-days-k-eq0.true) (record { next = search rules; list = refl })

pub put_row-requires : goal.put_row-requires
put_row-requires c = rw (refusal-some _ _ c.if-days-k-eq0.false) at c.requires.i_in_bounds

pub returns : goal.returns
returns c =
    rw (refusal-some _ _ c.if-days-k-eq0.false) c.put_row.ensures
