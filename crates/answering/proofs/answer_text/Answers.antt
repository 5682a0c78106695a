-- `answering::answer_text` meets its contract. The answer fits the buffer, whose front is written.
use mathlib.Core.Path.{◌≡◌, ◌∙◌}
use Prim.Native.Nat.{◌≤◌}
use native.Mathlib.Omega.{arith}
use lib.ListN.{length, take}
use Rattle.day.specs.Sound.{day_limits}
use Rattle.output.specs.Laws.{put_count, put_front}
use Rattle.planfile.specs.Size.{plan_bytes}
use Rattle.answering.specs.Answering.{answer_text}
use Rattle.answering.proofs.answer_text.Goals as goal

pub returns : goal.returns
returns c =
    let fits : length (answer_text day_limits c.args.text.now) ≤ plan_bytes = omega (arith, put_count c.put_answer-count.ensures.0, c.put_answer-count.ensures.1) in
    let front : take c.put_answer-count.result c.put_answer-count.new.out ≡ answer_text day_limits c.args.text.now = put_front c.put_answer-count.ensures.0 fits in record {
      result_value = c.write_text.ensures.result_value ∙ rw front;
      out_after = c.write_text.ensures.out_after ∙ rw front;
      text_len_bound = fits;
    }
