-- `period_answering::answer_period` meets its contract. The answer fits the buffer, whose front is written.
use mathlib.Core.Path.{◌≡◌, ◌∙◌}
use Prim.Native.Nat.{◌≤◌}
use native.Mathlib.Omega.{arith}
use lib.ListN.{length, take}
use Rattle.output.specs.Laws.{put_count, put_front}
use Rattle.report_text.specs.Size.{report_bytes}
use Rattle.period_answering.specs.PeriodAnswering.{period_text}
use Rattle.period_answering.proofs.answer_period.Goals as goal

pub returns : goal.returns
returns c =
    let fits : length (period_text c.args.text.now) ≤ report_bytes = omega (arith, put_count c.put_period-count.ensures.0, c.put_period-count.ensures.1) in
    let front : take c.put_period-count.result c.put_period-count.new.out ≡ period_text c.args.text.now = put_front c.put_period-count.ensures.0 fits in record {
      result_value = c.write_text.ensures.result_value ∙ rw front;
      out_after = c.write_text.ensures.out_after ∙ rw front;
      text_len_bound = fits;
    }
