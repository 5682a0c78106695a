-- What yard-long prints for a text (order 9 of document 02): what yard-plan would print (answering's Answering.antt), at the limits of long
-- days and with the row that the beam search finds at width 30. This file is what a reader must believe of the program.
-- Assumes nothing.
use Rattle.std.specs.Prelude.{List, [], ℕ, length}
use Rattle.std.proofs.Math.Option.{Option}
use Rattle.model.specs.Model.{Yard}
use Rattle.day.specs.Answer.{Answer}
use Rattle.output.specs.Output.{writes, leaves}
use Rattle.output.specs.Laws.{Filled, filled}
use Rattle.dayfile.specs.Reading.{read_day}
use Rattle.answering.specs.Answering.{found_reply}
use Rattle.beam.specs.Beam.{beam_row}
use Rattle.long_day.specs.LongDay.{long_limits}

-- order 9: yard-long plans at width 30
abbrev pub long_width : ℕ
long_width = 30

abbrev pub long_row : Yard → Option (List ℕ)
long_row y = beam_row y long_width

unfoldable pub long_answer_text : List ℕ → List ℕ
long_answer_text text = found_reply long_row (read_day long_limits text)

-- ---- the call: the answer is written into the output, with no check before

abbrev pub long_answer_writes : List ℕ → ℕ → Answer ℕ
long_answer_writes text size = writes [] (long_answer_text text) size

abbrev pub long_answer_leaves : List ℕ → List ℕ → List ℕ
long_answer_leaves text out = leaves [] (long_answer_text text) out

pub long_answer-filled : (text out : List ℕ) → Filled (long_answer_text text) out (long_answer_writes text (length out)) (long_answer_leaves text out)
long_answer-filled text out = filled [] (long_answer_text text) out
