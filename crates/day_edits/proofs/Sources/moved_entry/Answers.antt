-- `Sources::moved_entry` meets its contract.
use Rattle.std.proofs.Common.{sym}
use Rattle.fold.specs.Column.{entry_in, entry_row_past, entry_column_past}
use Rattle.day_edits.proofs.Sources.moved_entry.Goals as goal
use Rattle.day_edits.proofs.Sources.moved_entry.Goals.{else-i-self-via-then-i-self+else-j-self, else-i-self-via-else-i-self}

pub returns-then-j-self : goal.returns-then-j-self
returns-then-j-self c = sym (entry_in 12 _ _ _ c.if-i-self.true c.if-j-self.true)

pub returns-else-i-self : goal.returns-else-i-self
returns-else-i-self c =
    elim c.else-i-self.branch [
      | else-i-self-via-then-i-self+else-j-self w ↦ sym (entry_column_past 12 _ _ _ w.if-i-self.true w.if-j-self.false)
      | else-i-self-via-else-i-self w ↦ sym (entry_row_past 12 _ _ _ w.if-i-self.false)
    ]
