-- The version of the C interface, and what `yard_answer` and `yard_long_answer` tell besides what they write. The other C functions return
-- and leave what the calls behind them do: 0 where something is given, else the refusal's number, with its values beside it.
-- Assumes nothing.
use Rattle.std.specs.Prelude.{ℕ}
use Rattle.day.specs.Answer.{Answer, gives, refuses}

-- YARD_VERSION of include/yard.h: it changes when a size or the meaning of a number does
abbrev pub version : ℕ
version = 3

-- ---- the answer to a text: the count of bytes, 0 with a refusal

abbrev pub count : Answer ℕ → ℕ
count (gives k) = k
count (refuses k carries) = 0
