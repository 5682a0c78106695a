-- How the planning call's parts come to its answer: each of the answers that the code gives.
-- Assumes nothing.
use Rattle.std.specs.Prelude.{◌≡◌, Bool, false, ◌&&◌, List, [], ◌∷◌, ◌++◌, ℕ, ◌*◌, ◌^◌, ◌≤◌, length, take, drop}
use Rattle.std.proofs.Math.Path.{refl, ap₂, subst}
use Rattle.std.proofs.Common.{sym, ap, ◌∙◌, take-append-drop, length-take-le}
use Rattle.std.proofs.Math.Bool.{true}
use Rattle.std.proofs.Math.Option.{Option, none, some}
use Rattle.model.specs.Model.{Yard, Outcome, outcome, bound_inside, NoRow}
use Rattle.model.specs.BestOf.{best_of}
use Rattle.model.proofs.BestOf.{none_is}
use Rattle.model.specs.Overbooked.{Interval, first_overbooked}
use Rattle.day.specs.Answer.{Answer, gives, refuses}
use Rattle.day.specs.Sound.{sound}
use Rattle.day.specs.declared.Limits.{Limits}
use Rattle.feasibility.proofs.RowOrNone.{some_no_row}
use Rattle.planning.specs.Planning.{cost_words, choice_words, best_answer, suffices, planned, begins, placed, row_after, open_words, Stays}

-- a sound day with areas that suffice: the best plan, 9 or 16
pub record Decided (y : Yard) (size : ℕ) (cost₀ choice₀ row₀ : List ℕ) (said : Answer Outcome) (cost choice row : List ℕ) : Type 0 where
  pub says : said ≡ best_answer y (best_of y)
  pub row_is : row ≡ placed (best_of y) row₀
  pub costs : Stays size cost₀ cost
  pub choices : Stays (y.slots * size) choice₀ choice

-- what the call leaves: the answer, the row, and all words of the areas but those that are open
pub record Left (l : Limits) (y : Yard) (cost₀ choice₀ row₀ : List ℕ) (said : Answer Outcome) (cost choice row : List ℕ) : Type 0 where
  pub says : said ≡ planned l y (length cost₀) (length choice₀) (length row₀)
  pub row_is : row ≡ row_after l y (length cost₀) (length choice₀) row₀
  pub costs : Stays (open_words (begins l y (length cost₀) (length choice₀) (length row₀)) (cost_words y)) cost₀ cost
  pub choices : Stays (open_words (begins l y (length cost₀) (length choice₀) (length row₀)) (choice_words y)) choice₀ choice
