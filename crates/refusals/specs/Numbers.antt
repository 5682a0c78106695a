-- A refusal as the code tells it: its number and the values that it carries, 0 where there are fewer than three.
-- Assumes nothing.
use Rattle.std.specs.Prelude.{◌≡◌, refl, Bool, true, false, cond, List, [], ◌∷◌, ℕ, suc, ◌≤◌, eqb, get_or, Result, Ok, Err}
use Rattle.std.proofs.Common.{ap, ◌∙◌, arith}
use Rattle.day.specs.Answer.{number, carried, judged, code}
use Rattle.refusals.specs.declared.Numbered.{Numbered}
use Rattle.day.specs.declared.Refusal.{Refusal}
use Rattle.day.specs.declared.Refusal.TheVariants.{NamesLine, RowForm, OutOfLimits, NumberOrder, WindowOrder, UnknownTrain, PairOrder, Unsound, Overbooked, TooShort, RowLength, OutsideWindow, SlotOverfull, WithoutSlot, GroupRow, NoAllowedRow, GroupParted, TrainUnavailable, TrainNotAddable, NoOpenSlot, WidthOutOfRange, TooManyDays, CalendarOutOfRange, NoWindow}

pub record Tells (k : ℕ) (carries : List ℕ) (r : Numbered) : Type 0 where
  pub number : r.number ≡ k
  pub first : r.first ≡ get_or carries 0 0
  pub second : r.second ≡ get_or carries 1 0
  pub third : r.third ≡ get_or carries 2 0

-- 9 carries three values, every other refusal one
abbrev pub values : ℕ → List ℕ → List ℕ
values k carries = cond (eqb k 9) (get_or carries 0 0 ∷ get_or carries 1 0 ∷ get_or carries 2 0 ∷ []) (get_or carries 0 0 ∷ [])

pub carried-values : (r : Refusal) → carried r ≡ values (number r) (carried r)
carried-values (NamesLine line) = refl
carried-values (RowForm line) = refl
carried-values (OutOfLimits line) = refl
carried-values (NumberOrder line) = refl
carried-values (WindowOrder line) = refl
carried-values (UnknownTrain line) = refl
carried-values (PairOrder line) = refl
carried-values Unsound = refl
carried-values (Overbooked first last trains) = refl
carried-values TooShort = refl
carried-values RowLength = refl
carried-values (OutsideWindow position) = refl
carried-values (SlotOverfull slot) = refl
carried-values (WithoutSlot position) = refl
carried-values (GroupRow line) = refl
carried-values NoAllowedRow = refl
carried-values (GroupParted group) = refl
carried-values TrainUnavailable = refl
carried-values TrainNotAddable = refl
carried-values NoOpenSlot = refl
carried-values WidthOutOfRange = refl
carried-values TooManyDays = refl
carried-values CalendarOutOfRange = refl
carried-values NoWindow = refl

-- so none carries a fourth, and none behind that
pub no_more : (r : Refusal) (i : ℕ) → get_or (carried r) (suc (suc (suc i))) 0 ≡ 0
no_more r i = ap (λ l. get_or l (suc (suc (suc i))) 0) (carried-values r) ∙ go (eqb (number r) 9)
  where
    go : (b : Bool) → get_or (cond b (get_or (carried r) 0 0 ∷ get_or (carried r) 1 0 ∷ get_or (carried r) 2 0 ∷ []) (get_or (carried r) 0 0 ∷ [])) (suc (suc (suc i))) 0 ≡ 0
    go true = refl
    go false = refl

-- document 02 counts the refusals up to 26
pub number-most : (r : Refusal) → number r ≤ 26
number-most (NamesLine line) = omega arith
number-most (RowForm line) = omega arith
number-most (OutOfLimits line) = omega arith
number-most (NumberOrder line) = omega arith
number-most (WindowOrder line) = omega arith
number-most (UnknownTrain line) = omega arith
number-most (PairOrder line) = omega arith
number-most Unsound = omega arith
number-most (Overbooked first last trains) = omega arith
number-most TooShort = omega arith
number-most RowLength = omega arith
number-most (OutsideWindow position) = omega arith
number-most (SlotOverfull slot) = omega arith
number-most (WithoutSlot position) = omega arith
number-most (GroupRow line) = omega arith
number-most NoAllowedRow = omega arith
number-most (GroupParted group) = omega arith
number-most TrainUnavailable = omega arith
number-most TrainNotAddable = omega arith
number-most NoOpenSlot = omega arith
number-most WidthOutOfRange = omega arith
number-most TooManyDays = omega arith
number-most CalendarOutOfRange = omega arith
number-most NoWindow = omega arith

-- ---- the number of a verdict: that of its refusal, 0 where it is accepted

abbrev pub verdict_number : Result Unit Refusal → ℕ
verdict_number (Ok u) = 0
verdict_number (Err r) = number r

-- so it is the number of the answer that the verdict makes, whatever stands beside it
pub judged-number : {X : Type 0} (v : Result Unit Refusal) (x : X) → verdict_number v ≡ code (judged v x)
judged-number (Ok u) x = refl
judged-number (Err r) x = refl
