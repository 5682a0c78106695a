-- What a line of the proved table says, the test that the checker computes for it, and that a line whose test passes holds
-- (`line_holds`). A line follows a day that keeps moving call by call, with the whole state after each call, or the refusal.
-- Assumes nothing.
use Rattle.std.specs.Prelude.{◌≡◌, refl, Bool, true, ◌&&◌, List, [], ◌∷◌, ℕ, T, eqb}
use Rattle.std.proofs.Common.{ap, ◌∙◌, eqb→eq}
use Rattle.fold.specs.Test.{both_of, same_list, same_list_lem}
use Rattle.model.specs.Model.{Yard}
use Rattle.day.specs.Answer.{Answer, gives}
use Rattle.day.specs.Sound.{day_limits}
use Rattle.rolling.specs.Rolling.{State, Change, Call, change, state_after, begun, or_before, states}
use Rattle.known_days.specs.Days.{padded}
use Rattle.known_days.specs.Lines.{same_answer, same_answer_lem}

-- ---- what a line says

-- a state of a day, its closed slots and the slots of its trains; past them the row has 0
abbrev pub standing : Yard → ℕ → List ℕ → State
standing y closed plan = record { day = y; closed = closed; row = padded plan }

-- a change that is lent areas of 4,096 and 32,768 words, just enough for a changing day
abbrev pub asked : Change → Call
asked c = change c 4096 32768

-- a call, and what it answers
pub data Step : Type 0 where
  says : Call → Answer State → Step

pub data Line : Type 0 where
  begins : Yard → ℕ → ℕ → Answer State → Line
  rolls : Yard → List ℕ → List Step → Line
  answers : State → List Step → Line

-- from state s each call of a list answers so. The next one finds the state that is given, or s again where this one is refused
abbrev pub Answers : State → List Step → Type 0
Answers s [] = Unit
Answers s (says call a ∷ steps) = (state_after day_limits s call ≡ a) × Answers (or_before s a) steps

abbrev pub Holds : Line → Type 0
-- beginning the day, lent so many words of cost and of choice, gives this answer
Holds (begins y costs choices a) = begun day_limits y costs choices ≡ a
-- beginning the day, in areas that are just long enough, gives it with no closed slot and this plan, and the calls after it answer so
Holds (rolls y plan steps) = (begun day_limits y 4096 32768 ≡ gives (standing y 0 plan)) × Answers (standing y 0 plan) steps
-- on this state, which no call need have given, the calls answer so
Holds (answers s steps) = Answers s steps

-- ---- the test of a line

unfoldable pub same_head : Yard → Yard → Bool
same_head a b =
    eqb a.trains b.trains && eqb a.tracks b.tracks && eqb a.slots b.slots && eqb a.revisit b.revisit
    && eqb a.split b.split && eqb a.width b.width

unfoldable pub same_columns : Yard → Yard → Bool
same_columns a b =
    same_list a.numbers b.numbers && same_list a.first b.first && same_list a.last b.last && same_list a.groups b.groups
    && same_list a.boxes b.boxes

unfoldable pub same_state : State → State → Bool
same_state a b =
    same_head a.day b.day && same_columns a.day b.day && eqb a.closed b.closed && same_list a.row b.row

unfoldable pub all_answer : State → List Step → Bool
all_answer s [] = true
all_answer s (says call a ∷ steps) = same_answer same_state (state_after day_limits s call) a && all_answer (or_before s a) steps

unfoldable pub passes : Line → Bool
passes (begins y costs choices a) = same_answer same_state (begun day_limits y costs choices) a
passes (rolls y plan steps) =
    same_answer same_state (begun day_limits y 4096 32768) (gives (standing y 0 plan)) && all_answer (standing y 0 plan) steps
passes (answers s steps) = all_answer s steps

-- ---- from the test to the statement

same_day : (a b : Yard) → T (same_head a b) → T (same_columns a b) → a ≡ b
unfolding same_head same_columns
same_day a b h c =
    let trains = eqb a.trains b.trains in
    let tracks = eqb a.tracks b.tracks in
    let slots = eqb a.slots b.slots in
    let revisit = eqb a.revisit b.revisit in
    let split = eqb a.split b.split in
    let numbers = same_list a.numbers b.numbers in
    let first = same_list a.first b.first in
    let last = same_list a.last b.last in
    let groups = same_list a.groups b.groups in
    let (h4, wide) = both_of (trains && tracks && slots && revisit && split) (eqb a.width b.width) h in
    let (h3, w2) = both_of (trains && tracks && slots && revisit) split h4 in
    let (h2, w1) = both_of (trains && tracks && slots) revisit h3 in
    let (h1, t) = both_of (trains && tracks) slots h2 in
    let (n, g) = both_of trains tracks h1 in
    let (c3, boxed) = both_of (numbers && first && last && groups) (same_list a.boxes b.boxes) c in
    let (c2, sets) = both_of (numbers && first && last) groups c3 in
    let (c1, lasts) = both_of (numbers && first) last c2 in
    let (numbered, firsts) = both_of numbers first c1 in
    let trainsE = eqb→eq a.trains b.trains n in
    let tracksE = eqb→eq a.tracks b.tracks g in
    let slotsE = eqb→eq a.slots b.slots t in
    let revisitE = eqb→eq a.revisit b.revisit w1 in
    let splitE = eqb→eq a.split b.split w2 in
    let widthE = eqb→eq a.width b.width wide in
    let numbersE = same_list_lem a.numbers b.numbers numbered in
    let firstE = same_list_lem a.first b.first firsts in
    let lastE = same_list_lem a.last b.last lasts in
    let groupsE = same_list_lem a.groups b.groups sets in
    let boxesE = same_list_lem a.boxes b.boxes boxed in
    λ i. record {
      trains = trainsE i;
      tracks = tracksE i;
      slots = slotsE i;
      revisit = revisitE i;
      split = splitE i;
      numbers = numbersE i;
      first = firstE i;
      last = lastE i;
      groups = groupsE i;
      width = widthE i;
      boxes = boxesE i;
    }

same_state_lem : (a b : State) → T (same_state a b) → a ≡ b
unfolding same_state
same_state_lem a b t =
    let heads = same_head a.day b.day in
    let columns = same_columns a.day b.day in
    let (p, row) = both_of (heads && columns && eqb a.closed b.closed) (same_list a.row b.row) t in
    let (q, closed) = both_of (heads && columns) (eqb a.closed b.closed) p in
    let (h, c) = both_of heads columns q in
    let dayE = same_day a.day b.day h c in
    let closedE = eqb→eq a.closed b.closed closed in
    let rowE = same_list_lem a.row b.row row in
    λ i. record { day = dayE i; closed = closedE i; row = rowE i }

all_answer_lem : (s : State) (steps : List Step) → T (all_answer s steps) → Answers s steps
unfolding all_answer
all_answer_lem s [] t = tt
all_answer_lem s (says call a ∷ steps) t =
    let (here, rest) = both_of (same_answer same_state (state_after day_limits s call) a) (all_answer (or_before s a) steps) t in
    (same_answer_lem same_state same_state_lem (state_after day_limits s call) a here, all_answer_lem (or_before s a) steps rest)

pub line_holds : (l : Line) → T (passes l) → Holds l
unfolding passes
line_holds (begins y costs choices a) t = same_answer_lem same_state same_state_lem (begun day_limits y costs choices) a t
line_holds (rolls y plan steps) t =
    let s = standing y 0 plan in
    let (b, rest) = both_of (same_answer same_state (begun day_limits y 4096 32768) (gives s)) (all_answer s steps) t in
    (same_answer_lem same_state same_state_lem (begun day_limits y 4096 32768) (gives s) b, all_answer_lem s steps rest)
line_holds (answers s steps) t = all_answer_lem s steps t

-- ---- the whole list at once: the state that the calls lead to is that of the definition `states`

abbrev pub calls_of : List Step → List Call
calls_of [] = []
calls_of (says call a ∷ steps) = call ∷ calls_of steps

abbrev pub last_of : State → List Step → State
last_of s [] = s
last_of s (says call a ∷ steps) = last_of (or_before s a) steps

pub answers-states : (s : State) (steps : List Step) → Answers s steps → states day_limits s (calls_of steps) ≡ last_of s steps
answers-states s [] h = refl
answers-states s (says call a ∷ steps) h =
    ap (λ (x : Answer State). states day_limits (or_before s x) (calls_of steps)) h.0 ∙ answers-states (or_before s a) steps h.1
