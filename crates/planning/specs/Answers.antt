-- What follows from planning's answer alone: where both checks hold it is the best plan, 9 or 16, and 4,096 and 32,768 words suffice for
-- every sound day; a plan is the best row of a sound day; its refusals are 8, 10, 9 and 16; and a row of as many bytes as a day may have
-- trains is as good as one of n.
-- Assumes nothing.
use Rattle.std.specs.Prelude.{◌≡◌, Bool, ◌&&◌, List, [], ◌∷◌, ◌⊎◌, ℕ, ◌^◌, ◌≤◌, ◌<◌, length}
use Rattle.std.proofs.Math.Path.{refl, sym, ap}
use Rattle.std.proofs.Common.{◌∙◌, subst, ⊎_elim, mul-le-mul, arith, leb→le, le→leb, pow_mono, le-leb}
use Rattle.std.proofs.Math.Bool.{true, false, cond}
use Rattle.std.proofs.Math.Logic.{inl, inr}
use Rattle.std.proofs.Math.Option.{Option, none, some}
use Rattle.std.proofs.Math.Dec.{T, leb}
use Rattle.fold.specs.Test.{is_true, of_true, is_false, both, both_of}
use Rattle.model.specs.Model.{Yard, Outcome, outcome, Best}
use Rattle.model.specs.Moves.{AllMoved}
use Rattle.model.proofs.Moves.{all_moved}
use Rattle.model.specs.BestOf.{best_of}
use Rattle.model.proofs.BestOf.{is_best}
use Rattle.model.specs.Overbooked.{Interval, first_overbooked}
use Rattle.day.specs.Answer.{gives, refuses, on_given, code}
use Rattle.day.specs.AnswerLaws.{gives_same, checked_holds, checked_gives, Only}
use Rattle.day.specs.Sound.{day_limits, sound}
use Rattle.day.specs.SoundLaws.{sound_is}
use Rattle.day.specs.declared.Limits.{Limits}
use Rattle.planning.specs.Planning.{cost_words, choice_words, cost_area, choice_area, areas_suffice, suffices, no_row, NoRowRefusal, best_answer, plan_checks, planned, begins, placed, row_after}

-- ---- a plan

pub record FromBest (l : Limits) (y : Yard) (o : Outcome) : Type 0 where
  pub is_sound : T (sound l y)
  pub row : List ℕ
  pub best : Best y row
  pub numbers : o ≡ outcome y row
