use Rattle.std.proofs.Common.{arith, rules, ap, length}
use Rattle.decimal.specs.PlaceLaws.{put_text}
use Rattle.output.proofs.Stored.{row_none, row_alone, row_first, row_first-length}
use Rattle.output.proofs.+put_row.Goals as goal

pub put_field-requires : goal.put_field-requires
put_field-requires t c = omega (arith, ap length (row_alone _ c.in-len1.len_at_least c.in-len1.len_below), c.requires)

pub put_field-next-requires : goal.put_field-next-requires
put_field-next-requires t c = omega (arith, row_first-length _ c.in-len1-up.len_at_least, c.requires)

pub put_row-requires : goal.put_row-requires
put_row-requires t c =
    (search rules, omega (arith, row_first-length _ c.in-len1-up.len_at_least, c.requires, c.put_field-next.ensures.next))

pub returns-in-empty : goal.returns-in-empty
returns-in-empty t c = rw (row_none _ c.in-empty.len_below) (search rules)

pub returns-in-len1 : goal.returns-in-len1
returns-in-len1 t c = rw (row_alone _ c.in-len1.len_at_least c.in-len1.len_below) (search rules)

pub returns-in-len1-up : goal.returns-in-len1-up
returns-in-len1-up t c = rw (row_first _ c.in-len1-up.len_at_least) (put_text c.put_field-next.ensures c.put_row.ensures)
