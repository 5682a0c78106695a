-- What a call answers, in the numbers of documents 01 and 02: what it gives, or the number of a refusal with the values that it carries.
-- Every enum of an answer is mapped to this, and the promises speak of it.
-- Assumes nothing.
use Rattle.std.specs.Prelude.{Bool, true, cond, ◌&&◌, List, [], ◌∷◌, ℕ, Result, Ok, Err}
use Rattle.day.specs.declared.Refusal.{Refusal}
use Rattle.day.specs.declared.Refusal.TheVariants.{NamesLine, RowForm, OutOfLimits, NumberOrder, WindowOrder, UnknownTrain, PairOrder, Unsound, Overbooked, TooShort, RowLength, OutsideWindow, SlotOverfull, WithoutSlot, GroupRow, NoAllowedRow, GroupParted, TrainUnavailable, TrainNotAddable, NoOpenSlot, WidthOutOfRange, TooManyDays, CalendarOutOfRange, NoWindow}

pub data Answer (X : Type 0) : Type 0 where
  gives : X → Answer X
  refuses : ℕ → List ℕ → Answer X

-- the number of a refusal: 1 to 13 in 01's table, 14 to 24 in document 02
abbrev pub number : Refusal → ℕ
number (NamesLine line) = 1
number (RowForm line) = 2
number (OutOfLimits line) = 3
number (NumberOrder line) = 4
number (WindowOrder line) = 5
number (UnknownTrain line) = 6
number (PairOrder line) = 7
number Unsound = 8
number (Overbooked first last trains) = 9
number TooShort = 10
number RowLength = 11
number (OutsideWindow position) = 12
number (SlotOverfull slot) = 13
number (WithoutSlot position) = 14
number (GroupRow line) = 15
number NoAllowedRow = 16
number (GroupParted group) = 17
number TrainUnavailable = 18
number TrainNotAddable = 19
number NoOpenSlot = 20
number WidthOutOfRange = 21
number TooManyDays = 22
number CalendarOutOfRange = 23
number NoWindow = 24

-- what it carries
abbrev pub carried : Refusal → List ℕ
carried (NamesLine line) = line ∷ []
carried (RowForm line) = line ∷ []
carried (OutOfLimits line) = line ∷ []
carried (NumberOrder line) = line ∷ []
carried (WindowOrder line) = line ∷ []
carried (UnknownTrain line) = line ∷ []
carried (PairOrder line) = line ∷ []
carried Unsound = 0 ∷ []
carried (Overbooked first last trains) = first ∷ last ∷ trains ∷ []
carried TooShort = 0 ∷ []
carried RowLength = 0 ∷ []
carried (OutsideWindow position) = position ∷ []
carried (SlotOverfull slot) = slot ∷ []
carried (WithoutSlot position) = position ∷ []
carried (GroupRow line) = line ∷ []
carried NoAllowedRow = 0 ∷ []
carried (GroupParted group) = group ∷ []
carried TrainUnavailable = 0 ∷ []
carried TrainNotAddable = 0 ∷ []
carried NoOpenSlot = 0 ∷ []
carried WidthOutOfRange = 0 ∷ []
carried TooManyDays = 0 ∷ []
carried CalendarOutOfRange = 0 ∷ []
carried NoWindow = 0 ∷ []

abbrev pub refusal : {X : Type 0} → Refusal → Answer X
refusal r = refuses (number r) (carried r)

-- what a call's result answers, told by what its value is
abbrev pub answered : {X Y : Type 0} → (X → Y) → Result X Refusal → Answer Y
answered told (Ok x) = gives (told x)
answered told (Err r) = refusal r

-- what stands beside a verdict, where it is accepted
abbrev pub judged : {X : Type 0} → Result Unit Refusal → X → Answer X
judged verdict x = answered (λ u. x) verdict

-- the number of an answer, 0 where something is given
abbrev pub code : {X : Type 0} → Answer X → ℕ
code (gives x) = 0
code (refuses k carries) = k

-- the answer that follows from what is given; a refusal is handed on
abbrev pub on_given : {X Y : Type 0} → Answer X → (X → Answer Y) → Answer Y
on_given (gives x) f = f x
on_given (refuses k carries) f = refuses k carries

-- what follows from what is given, or what was there before
abbrev pub where_given : {X Y : Type 0} → Answer X → Y → (X → Y) → Y
where_given (gives x) before f = f x
where_given (refuses k carries) before f = before

-- ---- checks, in the order in which a call makes them

-- what must hold, and the refusal that is given where it does not
pub data Check : Type 0 where
  must : Bool → ℕ → List ℕ → Check

-- the refusal of the first check that fails, else the answer
abbrev pub checked : {X : Type 0} → List Check → Answer X → Answer X
checked [] answer = answer
checked (must holds k carries ∷ checks) answer = cond holds (checked checks answer) (refuses k carries)

-- whether none of them fails
abbrev pub holding : List Check → Bool
holding [] = true
holding (must holds k carries ∷ checks) = holds && holding checks
