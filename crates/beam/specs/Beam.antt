-- The beam search of document 02, order 9 (source 000, section 4.3), as definitions that compute. This file is what a reader must believe.
-- A partial plan is the list of the sets that the slots served, the latest slot first: with t sets it serves the slots 1 to t. All else
-- that the search looks at is a function of it.
-- Assumes nothing.
use Rattle.std.specs.Prelude.{Bool, true, false, not, cond, ◌&&◌, ◌||◌, List, [], ◌∷◌, ◌++◌, map, ℕ, zero, suc, ◌+◌, ◌-◌, ◌*◌, max, ltb, leb, eqb, length, take}
use Rattle.std.proofs.Math.Option.{Option, none, some}
use Rattle.std.specs.Int.Count.{ones}
use Rattle.fold.specs.Fold
use Rattle.fold.specs.Fold.{count}
use Rattle.fold.specs.Listed.{listed}
use Rattle.sets.specs.Mask.{has}
use Rattle.sets.specs.Subset.{subset}
use Rattle.sets.specs.Rest.{full}
use Rattle.model.specs.Model.{Yard, first_slot, last_slot, lower, by_key}
use Rattle.model.specs.Overbooked.{Interval, first_overbooked}
use Rattle.staging.specs.Tables.{open_in, late_trains, slot_cost}
use Rattle.merging.specs.Merging.{merged}

abbrev pub Plan : Type 0
Plan = List ℕ

-- ---- what a partial plan leaves, and what it costs

-- the trains that remain
unfoldable pub rest : Yard → Plan → ℕ
rest y [] = full y.trains
rest y (s ∷ p) = rest y p - s

-- equation (10) for each slot: w1 for a train with a supplier that remains, w2 for the boxes from outside the slot
unfoldable pub cost_so_far : Yard → Plan → ℕ
cost_so_far y [] = 0
cost_so_far y (s ∷ p) = cost_so_far y p + slot_cost y (suc (length p)) (rest y p) s

unfoldable pub revisits_so_far : Yard → Plan → ℕ
revisits_so_far y [] = 0
revisits_so_far y (s ∷ p) = revisits_so_far y p + late_trains y (rest y p) s

-- the sum of the slots of the trains that are served
unfoldable pub slots_so_far : Plan → ℕ
slots_so_far [] = 0
slots_so_far (s ∷ p) = slots_so_far p + suc (length p) * ones s

-- the set number of slot j + 1: 0 for a slot to come
unfoldable pub set_in : Plan → ℕ → ℕ
set_in [] j = 0
set_in (s ∷ p) j = cond (eqb j (length p)) s (set_in p j)

-- the slot of train i: 0 where it remains
unfoldable pub slot_in : Plan → ℕ → ℕ
slot_in [] i = 0
slot_in (s ∷ p) i = cond (has s i) (suc (length p)) (slot_in p i)

unfoldable pub row_of : Yard → Plan → List ℕ
row_of y p = listed y.trains (slot_in p)

-- ---- order 5, on partial plans

-- p has the larger set number at the lowest slot where their set numbers differ
unfoldable pub earlier : Yard → Plan → Plan → Bool
earlier y p q = lower y.slots (set_in q) (set_in p)

-- p comes before q: it costs less; at equal cost it has fewer revisits, then the smaller sum of slots, then the larger set number
unfoldable pub comes_before : Yard → Plan → Plan → Bool
comes_before y = by_key (cost_so_far y) (by_key (revisits_so_far y) (by_key slots_so_far (earlier y)))

-- ---- discards

-- the trains r that remain after slot t, with their windows cut to the slots that remain. A train that is served begins in slot 0 here, so
-- it is bound inside no interval
unfoldable pub remainder : Yard → ℕ → ℕ → Yard
remainder y t r =
    record {
      trains = y.trains;
      tracks = y.tracks;
      slots = y.slots;
      revisit = y.revisit;
      split = y.split;
      numbers = y.numbers;
      first = listed y.trains λ i. cond (has r i) (max (suc t) (first_slot y i)) 0;
      last = y.last;
      groups = y.groups;
      width = y.width;
      boxes = y.boxes;
    }

abbrev pub found : Option Interval → Bool
found none = false
found (some w) = true

-- where r remains after slot t: the last slot of one of its trains has passed, or they overbook an interval
unfoldable pub discarded : Yard → ℕ → ℕ → Bool
discarded y t r = (Fold.some y.trains λ i. has r i && leb (last_slot y i) t) || found (first_overbooked (remainder y t r))

-- ---- one slot more

-- the trains of s fit into slot t: their windows hold it (12), and they are no more than the tracks (3)
unfoldable pub fits_slot : Yard → ℕ → ℕ → Bool
fits_slot y t s = subset s (open_in y.trains y.first y.last t) && leb (ones s) y.tracks

-- s is served in slot t where r remains: trains that remain and fit into the slot, and what they leave is not discarded
unfoldable pub may_serve : Yard → ℕ → ℕ → ℕ → Bool
may_serve y t r s = subset s r && fits_slot y t s && not (discarded y t (r - s))

-- the numbers below k that pass, the largest first
unfoldable pub passing : ℕ → (ℕ → Bool) → List ℕ
passing zero p = []
passing (suc k) p = cond (p k) (k ∷ passing k p) (passing k p)

-- a partial plan with each set that slot t may serve; a set of trains that remain is no larger a number than they
unfoldable pub extensions : Yard → ℕ → Plan → List Plan
extensions y t p = map (λ s. s ∷ p) (passing (suc (rest y p)) (may_serve y t (rest y p)))

unfoldable pub successors : Yard → ℕ → List Plan → List Plan
successors y t [] = []
successors y t (p ∷ l) = extensions y t p ++ successors y t l

-- ---- the search

-- the merged partial plans after slot t, in order. Before the first slot there is one, that serves nobody, unless it is discarded
unfoldable pub remained : Yard → ℕ → ℕ → List Plan
remained y width zero = cond (discarded y 0 (full y.trains)) [] ([] ∷ [])
remained y width (suc t) = merged (rest y) (comes_before y) (successors y (suc t) (take width (remained y width t)))

-- those that are kept: the cheapest, up to the width
unfoldable pub kept : Yard → ℕ → ℕ → List Plan
kept y width t = take width (remained y width t)

-- the number of slots after which more merged partial plans than the width remained
unfoldable pub full_slots : Yard → ℕ → ℕ
full_slots y width = count y.slots λ t. ltb width (length (remained y width (suc t)))

-- the row of the first plan that is kept after the last slot, if there is one
abbrev pub first_row : Yard → List Plan → Option (List ℕ)
first_row y [] = none
first_row y (p ∷ l) = some (row_of y p)

unfoldable pub beam_row : Yard → ℕ → Option (List ℕ)
beam_row y width = first_row y (kept y width y.slots)
