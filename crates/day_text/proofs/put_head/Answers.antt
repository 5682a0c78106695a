-- The names line, and the row after it.
use mathlib.Core.List.{[], ◌∷◌}
use native.Mathlib.Omega.{arith}
use lib.ListN.{length-append}
use Rattle.decimal.specs.PlaceLaws.{put_text}
use Rattle.lines.specs.Lines.{row_text}
use Rattle.dayfile.specs.Reading.{head_names}
use Rattle.day_text.proofs.put_head.Goals as goal

pub put_bytes-next-requires : goal.put_bytes-next-requires
unfolding head_names
put_bytes-next-requires c =
    let s = c.args.head in
    omega (arith, length-append head_names (row_text (s.trains ∷ s.tracks ∷ s.slots ∷ s.revisit ∷ s.split ∷ [])))

pub put_row-requires : goal.put_row-requires
unfolding head_names
put_row-requires c =
    let h = c.args.head in
    rw (c.from.ensures, c.from-2.ensures, c.from-3.ensures, c.from-4.ensures)
    (omega (arith, length-append head_names (row_text (h.trains ∷ h.tracks ∷ h.slots ∷ h.revisit ∷ h.split ∷ [])), c.put_bytes-next.ensures.next))

pub returns : goal.returns
unfolding head_names
returns c = put_text c.put_bytes-next.ensures (rw (c.from.ensures, c.from-2.ensures, c.from-3.ensures, c.from-4.ensures) at c.put_row.ensures)
