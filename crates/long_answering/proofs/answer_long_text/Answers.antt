-- `long_answering::answer_long_text` meets its contract. The answer fits the buffer, whose front is written.
use mathlib.Core.Path.{◌≡◌, ◌∙◌}
use Prim.Native.Nat.{◌≤◌}
use native.Mathlib.Omega.{arith}
use lib.ListN.{length, take}
use Rattle.output.specs.Laws.{put_count, put_front}
use Rattle.long_planfile.specs.Size.{long_plan_bytes}
use Rattle.long_answering.specs.LongAnswering.{long_answer_text}
use Rattle.long_answering.proofs.answer_long_text.Goals as goal

pub returns : goal.returns
returns c =
    let put = c.put_long_answer-count in
    let fits : length (long_answer_text c.args.text.now) ≤ long_plan_bytes = omega (arith, put_count put.ensures.0, put.ensures.1) in
    let front : take put.result put.new.out ≡ long_answer_text c.args.text.now = put_front put.ensures.0 fits in
    record {
      result_value = c.write_text.ensures.result_value ∙ rw front;
      out_after = c.write_text.ensures.out_after ∙ rw front;
      text_len_bound = fits;
    }
