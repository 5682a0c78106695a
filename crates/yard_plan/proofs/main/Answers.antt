-- The count of bytes is no more than the reply has.
use Rattle.std.proofs.Common.{◌≤◌, length, arith, sym}
use lib.Seq.{length-take-le}
use Rattle.output.specs.Laws.{count_fits}
use Rattle.yard_plan.proofs.main.Goals as goal

pub slice_bounds-reply-end : goal.slice_bounds-reply-end
slice_bounds-reply-end c = omega (arith, count_fits _ _ _ _ c.in-Ok.ensures.result_value, c.answer_text.auto.out)

pub slice_bounds-write_all-end : goal.slice_bounds-write_all-end
slice_bounds-write_all-end c =
    let short : c.in-Ok.count ≤ length c.answer_text.new.out = omega (arith, count_fits _ _ _ _ c.in-Ok.ensures.result_value, c.answer_text.auto.out) in
    sym (length-take-le _ _ short)
