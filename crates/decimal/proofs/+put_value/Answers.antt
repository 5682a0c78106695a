-- One store for a value below 10, else the digits of its tenth and one store more.
use Rattle.std.proofs.Common.{arith}
use Rattle.decimal.specs.Laws.{digits_one, digits_more, length_one, length_more}
use Rattle.decimal.specs.PlaceLaws.{put_one, put_byte}
use Rattle.decimal.proofs.+put_value.Goals as goal

pub bounds-out-at : goal.bounds-out-at
bounds-out-at t c = omega (arith, length_one c.args.v c.if-v-lt10.true)

pub returns-then-v-lt10 : goal.returns-then-v-lt10
returns-then-v-lt10 t c = rw (digits_one c.args.v c.if-v-lt10.true) (put_one _)

pub put_value-p-requires : goal.put_value-p-requires
put_value-p-requires t c = omega (arith, length_more c.args.v c.if-v-lt10.false)

pub bounds-out-p : goal.bounds-out-p
bounds-out-p t c = omega (arith, length_more c.args.v c.if-v-lt10.false)

pub overflow_add-result-2 : goal.overflow_add-result-2
overflow_add-result-2 t c = omega (arith, length_more c.args.v c.if-v-lt10.false)

pub returns : goal.returns
returns t c = rw (digits_more c.args.v c.if-v-lt10.false) (put_byte _ c.put_value-p.ensures)
