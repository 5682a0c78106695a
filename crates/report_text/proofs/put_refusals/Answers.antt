use mathlib.Core.Path.{refl}
use native.Mathlib.Omega.{arith}
use Rattle.fold.specs.Listed.{joined}
use Rattle.decimal.specs.PlaceLaws.{put_text}
use Rattle.output.specs.Laws.{put_none, put_more, put_end, names_fit, row_fits}
use Rattle.report_text.specs.ReportText.{refusal_names, refusal_count}
use Rattle.report_text.specs.Laws.{refusal_line}
use borrow.Author.Rules.{rules}
use Rattle.report_text.proofs.put_refusals.Goals as goal

pub put_bytes-next-requires : goal.put_bytes-next-requires
unfolding refusal_names
put_bytes-next-requires c =
    omega (arith, names_fit refusal_names (joined refusal_count (refusal_line c.args.days.now)), c.requires.1)

pub loop-i-init : goal.loop-i-init
loop-i-init c = (search rules, refl, put_none _)

pub put_refused-next-requires : goal.put_refused-next-requires
unfolding refusal_names
put_refused-next-requires c =
    let h = c.loop-i-test.true in
    let f = row_fits refusal_names (refusal_line c.args.days.now) c.loop-i.i refusal_count h in record {
      i_lt_refusal_count = (h, c.requires.0);
      i_in_bounds = omega (arith, f, c.requires.1, c.put_bytes-next.ensures.next, c.put_bytes-next.auto.out, c.loop-i.invariant.2.next, c.loop-i.invariant.1);
    }

pub loop-i-preserved : goal.loop-i-preserved
loop-i-preserved c =
    (search rules, search rules, put_more _ _ c.loop-i.invariant.2 c.put_refused-next.ensures)

pub returns : goal.returns
unfolding refusal_names
returns c =
    put_text c.put_bytes-next.ensures (put_end _ _ _ c.loop-i.invariant.0 c.loop-i-test.false c.loop-i.invariant.2)
