-- `output::write_text` meets its contract. By whether the text fits.
use Rattle.output.specs.Laws.{says_short, says_whole}
use Rattle.output.proofs.write_text.Goals as goal

pub returns-then-out-text : goal.returns-then-out-text
returns-then-out-text c = let s = says_short _ _ c.if-out-text.true in record { result_value = s.0; out_after = s.1 }

pub returns : goal.returns
returns c =
    let s = says_whole _ _ c.if-out-text.false c.put_bytes.ensures in
    record { result_value = s.0; out_after = s.1 }
