-- The parts of a sound record are its sound day.
use Rattle.std.proofs.Common.{rules}
use Rattle.day_text.specs.Laws.{writable}
use Rattle.daywrite.proofs.put_day.Goals as goal

pub put_file-requires : goal.put_file-requires
put_file-requires c =
    let p = c.parts.ensures in
    record { writable = writable _ (rw (p.day, p.limits) c.requires.0); room = rw (p.day, p.limits) c.requires.1 }
