-- The tables over sets as the code has them, slices behind one struct, and the lists that they lend.
-- Assumes nothing.
use Rattle.staging.specs.Tables.{Tables, tables_of}
use Rattle.cells.specs.declared.SetTables.{SetTables}

abbrev pub lent : SetTables → Tables
lent t = tables_of t.need.now t.late.now t.price.now t.count.now t.opens.now
