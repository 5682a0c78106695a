use Rattle.std.proofs.Common.{sym, ◌∙◌, arith, ltb-true, ltb-false}
use Rattle.std.proofs.lemmas.List.{get_or_read}
use Rattle.lines.proofs.Fields.{no_value, no_byte, other_byte, ended}
use Rattle.lines.proofs.read_field.Goals as goal

pub returns-in_err-value : goal.returns-in_err-value
returns-in_err-value c = rw c.from_residual.ensures (no_value _ _ c.in_err-value.ensures)

pub returns-in_err-get : goal.returns-in_err-get
returns-in_err-get c =
    rw c.from_residual-in_err-get.ensures (no_byte c.args.text.now _ _ _ _ c.in_ok-value.ensures.read (ltb-false _ _ (sym c.in_err-get.ensures.lookup.0)))

pub returns-then-branch-end : goal.returns-then-branch-end
returns-then-branch-end c =
    let found = c.in_ok-get.ensures.lookup in
    let inside = ltb-true _ _ (sym found.0) in
    other_byte c.args.text.now _ _ _ _ c.in_ok-value.ensures.read inside (λ e. c.if-branch-end.true (get_or_read _ _ _ inside found.1 0 ∙ e))

pub returns : goal.returns
returns c =
    let found = c.in_ok-get.ensures.lookup in
    let inside = ltb-true _ _ (sym found.0) in
    record {
      read = ended c.args.text.now _ _ _ _ c.in_ok-value.ensures.read inside (sym (get_or_read _ _ _ inside found.1 0) ∙ c.if-branch-end.false);
      inside = omega (arith, inside);
    }
