-- A day that keeps moving (order 7 of document 02): the plain account, the changes of a day, the day that is left to planning, and what
-- each call answers. This file is what a reader must believe; over plain data and any limits.
-- Positions count from 0, slots from 1. Lists by position have a place for each train that the limits allow, and 0 past the day's trains.
-- Assumes nothing.
use Rattle.std.specs.Prelude.{◌≡◌, Bool, not, cond, ◌&&◌, ◌||◌, List, [], ◌∷◌, ℕ, suc, ◌+◌, ◌-◌, ◌*◌, ◌≤◌, ◌<◌, max, T, ltb, leb, eqb, length, get_or, take, set, replicate}
use Rattle.fold.specs.Fold.{each, lowest}
use Rattle.model.specs.Model.{Yard, received, first_slot, last_slot, slot_of, cost, allowed, precedes}
use Rattle.model.specs.BestOf.{best_of}
use Rattle.day.specs.Answer.{Answer, gives, on_given, where_given, Check, must, checked, holding}
use Rattle.day.specs.Sound.{range, between, within, train_ranges, sound}
use Rattle.day.specs.declared.Limits.{Limits}
use Rattle.planning.specs.Planning.{areas_suffice, best_row}
use Rattle.fold.specs.Column.{column, table}

-- ---- the account and the state

-- the plain account: the day as edited, the number of closed slots, and by position the slot of each served train, 0 of the others
pub record Account : Type 0 where
  pub day : Yard
  pub closed : ℕ
  pub served : List ℕ

-- what a call is handed and gives back: the day as edited, the number of closed slots, and by position the planned slots
pub record State : Type 0 where
  pub day : Yard
  pub closed : ℕ
  pub row : List ℕ

-- the plan: the slots of the day's trains
abbrev pub plan_of : State → List ℕ
plan_of s = take s.day.trains s.row

-- a train is served when its planned slot is closed
abbrev pub served_slot : ℕ → ℕ → ℕ
served_slot closed slot = cond (leb slot closed) slot 0

abbrev pub account_of : State → Account
account_of s = record {
  day = s.day;
  closed = s.closed;
  served = column s.day.width s.day.trains λ i. served_slot s.closed (slot_of s.row i);
}

-- the state of an account with this plan
abbrev pub state_of : Account → List ℕ → State
state_of a plan = record { day = a.day; closed = a.closed; row = column a.day.width a.day.trains (slot_of plan) }

-- ---- trains by their numbers

-- the first position whose train number is not below x: where x stands, or would stand, among the rising numbers
unfoldable pub place_of : Yard → ℕ → ℕ
place_of y x = lowest y.trains λ i. leb x (get_or y.numbers i 0)

-- x is the number of one of the day's trains
unfoldable pub is_listed : Yard → ℕ → Bool
is_listed y x = ltb (place_of y x) y.trains && eqb (get_or y.numbers (place_of y x) 0) x

-- ---- a day with its trains at other positions

-- the column whose position i holds what the position `source i` held, for m trains
abbrev pub moved : ℕ → ℕ → (ℕ → ℕ) → List ℕ → List ℕ
moved w m source l = column w m λ i. get_or l (source i) 0

-- the day of m trains whose position i holds the train of position `source i`, with its window, its group and its boxes
abbrev pub rearranged : ℕ → (ℕ → ℕ) → Yard → Yard
rearranged m source y = record {
  trains = m;
  tracks = y.tracks;
  slots = y.slots;
  revisit = y.revisit;
  split = y.split;
  numbers = moved y.width m source y.numbers;
  first = moved y.width m source y.first;
  last = moved y.width m source y.last;
  groups = moved y.width m source y.groups;
  width = y.width;
  boxes = table y.width m λ i j. received y (source i) (source j);
}

-- without position p: the later trains move down by one
unfoldable pub source_without : ℕ → ℕ → ℕ
source_without p i = cond (ltb i p) i (suc i)

-- with room at position p: the later trains move up by one, and p takes position n, which holds no train
unfoldable pub source_with : ℕ → ℕ → ℕ → ℕ
source_with n p i = cond (ltb i p) i (cond (eqb i p) n (i - 1))

-- ---- the changes of a day

abbrev pub without_train : ℕ → Yard → Yard
without_train p y = rearranged (y.trains - 1) (source_without p) y

-- a train's number and window, put to position p
abbrev pub put_train : ℕ → ℕ → ℕ → ℕ → Yard → Yard
put_train p number first last y = record {
  trains = y.trains;
  tracks = y.tracks;
  slots = y.slots;
  revisit = y.revisit;
  split = y.split;
  numbers = set y.numbers p number;
  first = set y.first p first;
  last = set y.last p last;
  groups = y.groups;
  width = y.width;
  boxes = y.boxes;
}

-- a new train, in no group and without boxes
abbrev pub with_train : ℕ → ℕ → ℕ → ℕ → Yard → Yard
with_train p number first last y = put_train p number first last (rearranged (suc y.trains) (source_with y.trains p) y)

-- the boxes that position i receives from position j
abbrev pub with_boxes : ℕ → ℕ → ℕ → Yard → Yard
with_boxes i j boxes y = record {
  trains = y.trains;
  tracks = y.tracks;
  slots = y.slots;
  revisit = y.revisit;
  split = y.split;
  numbers = y.numbers;
  first = y.first;
  last = y.last;
  groups = y.groups;
  width = y.width;
  boxes = set y.boxes (i * y.width + j) boxes;
}

-- ---- the changes of the account. Trains are named by their numbers

pub data Change : Type 0 where
  cancel : ℕ → Change
  -- number, first, last
  add : ℕ → ℕ → ℕ → Change
  -- to, from, boxes
  set_boxes : ℕ → ℕ → ℕ → Change

abbrev pub edited : Account → Change → Account
edited a (cancel x) =
    let y = a.day in
    let source = source_without (place_of y x) in
    record { day = without_train (place_of y x) y; closed = a.closed; served = moved y.width (y.trains - 1) source a.served }
edited a (add x first last) =
    let y = a.day in
    let source = source_with y.trains (place_of y x) in
    record { day = with_train (place_of y x) x first last y; closed = a.closed; served = moved y.width (suc y.trains) source a.served }
edited a (set_boxes to from boxes) =
    let y = a.day in
    record { day = with_boxes (place_of y to) (place_of y from) boxes y; closed = a.closed; served = a.served }

-- close serves the trains that the plan has in the first open slot
abbrev pub closed_by : List ℕ → Account → Account
closed_by plan a = record {
  day = a.day;
  closed = suc a.closed;
  served = column a.day.width a.day.trains λ i. cond (eqb (slot_of plan i) (suc a.closed)) (suc a.closed) (slot_of a.served i);
}

-- ---- what is left to planning

-- a served train is bound to its slot, and the other windows are cut to the open slots
unfoldable pub cut_first : Account → ℕ → ℕ
cut_first a i = cond (eqb (slot_of a.served i) 0) (max (first_slot a.day i) (suc a.closed)) (slot_of a.served i)

unfoldable pub cut_last : Account → ℕ → ℕ
cut_last a i = cond (eqb (slot_of a.served i) 0) (last_slot a.day i) (slot_of a.served i)

abbrev pub cut : Account → Yard
cut a =
    let y = a.day in
    record {
      trains = y.trains;
      tracks = y.tracks;
      slots = y.slots;
      revisit = y.revisit;
      split = y.split;
      numbers = y.numbers;
      first = column y.width y.trains (cut_first a);
      last = column y.width y.trains (cut_last a);
      groups = y.groups;
      width = y.width;
      boxes = y.boxes;
    }

-- a row that keeps served trains where they were and puts all others into open slots
pub record Keeps (a : Account) (row : List ℕ) : Type 0 where
  pub served : (i : ℕ) → i < a.day.trains → 1 ≤ slot_of a.served i → slot_of row i ≡ slot_of a.served i
  pub waiting : (i : ℕ) → i < a.day.trains → slot_of a.served i ≡ 0 → a.closed < slot_of row i

-- an allowed row that does so: what planning may choose from
abbrev pub KeptRow : Account → List ℕ → Type 0
KeptRow a row = T (allowed a.day row) × Keeps a row

-- order 7: the best of these
pub record BestKept (a : Account) (row : List ℕ) : Type 0 where
  pub is_allowed : T (allowed a.day row)
  pub keeps : Keeps a row
  pub least : (other : List ℕ) → T (allowed a.day other) → Keeps a other → cost a.day row ≤ cost a.day other
  pub first : (other : List ℕ) → T (allowed a.day other) → Keeps a other → cost a.day other ≡ cost a.day row → T (precedes a.day other row) → ⊥

-- the best plan, or 9 with the first overbooked interval, or 16: what planning answers
abbrev pub best_plan : Yard → Answer (List ℕ)
best_plan y = best_row y (best_of y)

-- ---- the checks of a call, in their order, after 8

pub data Call : Type 0 where
  close : Call
  -- with the lengths of the two areas that are lent
  change : Change → ℕ → ℕ → Call

abbrev pub number_in : Limits → ℕ → Bool
number_in l = between (range 1 l.number)

-- 3 a field outside its limits; 18 a train that is not listed or, in cancel, is served or the only one; 19 an added number that is listed, or
-- a thirteenth train; 5 a window that is not in order, or begins in a closed slot; 6 boxes from a train to itself
abbrev pub change_checks : Limits → Account → Change → List Check
change_checks l a (cancel x) =
    must (number_in l x) 3 (0 ∷ [])
    ∷ must (is_listed a.day x && eqb (slot_of a.served (place_of a.day x)) 0 && ltb 1 a.day.trains) 18 (0 ∷ [])
    ∷ []
change_checks l a (add x first last) =
    must (within (train_ranges l a.day.slots) (x ∷ first ∷ last ∷ [])) 3 (0 ∷ [])
    ∷ must (not (is_listed a.day x) && ltb a.day.trains l.trains) 19 (0 ∷ [])
    ∷ must (leb first last && ltb a.closed first) 5 (0 ∷ [])
    ∷ []
change_checks l a (set_boxes to from boxes) =
    must (number_in l to && number_in l from && leb boxes l.boxes) 3 (0 ∷ [])
    ∷ must (is_listed a.day to && is_listed a.day from) 18 (0 ∷ [])
    ∷ must (not (eqb to from)) 6 (0 ∷ [])
    ∷ []

-- 20 no slot is open; 10 an area is too short, before a change's own
abbrev pub call_checks : Limits → Account → Call → List Check
call_checks l a close = must (ltb a.closed a.day.slots) 20 (0 ∷ []) ∷ []
call_checks l a (change c costs choices) = must (areas_suffice costs choices) 10 (0 ∷ []) ∷ change_checks l a c

-- ---- what a call makes of the account; a change that leaves no row is refused

abbrev pub account_made : Account → Call → Answer Account
account_made a close = on_given (best_plan (cut a)) λ plan. gives (closed_by plan a)
account_made a (change c costs choices) = on_given (best_plan (cut (edited a c))) λ plan. gives (edited a c)

abbrev pub account_after : Limits → Account → Call → Answer Account
account_after l a call = checked (call_checks l a call) (account_made a call)

-- ---- what a call answers

-- what 8 asks: a sound day, not more closed slots than there are, an allowed plan, and 0 past it (in as many places as a record has)
unfoldable pub state_sound : Limits → State → Bool
state_sound l s =
    sound l s.day && leb s.closed s.day.slots && eqb (length s.row) l.trains
    && allowed s.day (plan_of s) && each l.trains λ i. ltb i s.day.trains || eqb (slot_of s.row i) 0

-- close keeps the plan; a change plans anew what is left
abbrev pub state_made : State → Call → Answer State
state_made s close = gives (record { day = s.day; closed = suc s.closed; row = s.row })
state_made s (change c costs choices) = let a = edited (account_of s) c in on_given (best_plan (cut a)) λ plan. gives (state_of a plan)

abbrev pub state_checks : Limits → State → Call → List Check
state_checks l s call = must (state_sound l s) 8 (0 ∷ []) ∷ call_checks l (account_of s) call

unfoldable pub state_after : Limits → State → Call → Answer State
state_after l s call = checked (state_checks l s call) (state_made s call)

-- begin plans the day with every slot open
abbrev pub begun_account : Yard → Account
begun_account y = record { day = y; closed = 0; served = replicate y.width 0 }

abbrev pub begun_checks : Limits → Yard → ℕ → ℕ → List Check
begun_checks l y costs choices = must (sound l y) 8 (0 ∷ []) ∷ must (areas_suffice costs choices) 10 (0 ∷ []) ∷ []

unfoldable pub begun : Limits → Yard → ℕ → ℕ → Answer State
begun l y costs choices = checked (begun_checks l y costs choices) (on_given (best_plan y) λ plan. gives (state_of (begun_account y) plan))

-- ---- whether planning begins: no check fails. Where one does, no word of the two areas changes

abbrev pub state_begins : Limits → State → Call → Bool
state_begins l s call = holding (state_checks l s call)

abbrev pub begun_begins : Limits → Yard → ℕ → ℕ → Bool
begun_begins l y costs choices = holding (begun_checks l y costs choices)

-- ---- a list of calls: a refused one leaves things as before

abbrev pub or_before : {X : Type 0} → X → Answer X → X
or_before x a = where_given a x λ z. z

abbrev pub states : Limits → State → List Call → State
states l s [] = s
states l s (call ∷ calls) = states l (or_before s (state_after l s call)) calls

abbrev pub accounts : Limits → Account → List Call → Account
accounts l a [] = a
accounts l a (call ∷ calls) = accounts l (or_before a (account_after l a call)) calls
