-- The published model (source 000, section 3.1 and equation (12), as document 01 reads them): what a row of slots costs, which rows
-- are allowed, which of two rows of equal cost comes first, and what the best plan is. This file is what a reader must believe.
-- It speaks of plain data, numbers and lists, so that records of any size have one model. Bridge.antt joins it to the equations.
-- Position k of the papers is the index k - 1 here; slots count from 1. A row is the list of the positions' slots.
-- Assumes nothing.
use Rattle.std.specs.Prelude.{◌≡◌, Bool, not, cond, ◌&&◌, ◌||◌, List, ℕ, suc, ◌+◌, ◌-◌, ◌*◌, ◌≤◌, T, ltb, leb, eqb, length, get_or}
use Rattle.fold.specs.Fold.{sum, count, some, each}
use Rattle.sets.specs.Mask.{mask}

-- ---- a day as plain data

pub record Yard : Type 0 where
  -- n trains, G tracks, T slots; the weights w1 of a revisit and w2 of a split move
  pub trains : ℕ
  pub tracks : ℕ
  pub slots : ℕ
  pub revisit : ℕ
  pub split : ℕ
  -- by position: train numbers, first slots e, last slots l, and (order 4 of 02) the group, 0 for a train in none
  pub numbers : List ℕ
  pub first : List ℕ
  pub last : List ℕ
  pub groups : List ℕ
  -- A, row after row, each `width` long
  pub width : ℕ
  pub boxes : List ℕ

-- the entry (i, j) of a table that is stored row after row
abbrev pub cell : ℕ → List ℕ → ℕ → ℕ → ℕ
cell width table i j = get_or table (i * width + j) 0

-- A(i, j): the boxes that train i receives from train j
abbrev pub received : Yard → ℕ → ℕ → ℕ
received y = cell y.width y.boxes

-- e, l and the slot that a row gives to position i
abbrev pub first_slot : Yard → ℕ → ℕ
first_slot y i = get_or y.first i 0

abbrev pub last_slot : Yard → ℕ → ℕ
last_slot y i = get_or y.last i 0

abbrev pub slot_of : List ℕ → ℕ → ℕ
slot_of row i = get_or row i 0

-- the group of position i
abbrev pub group_of : List ℕ → ℕ → ℕ
group_of groups i = get_or groups i 0

-- ---- the counts, of n trains with boxes a. Revisits and split moves are equation (1)'s sums at the least y and z that (4) and (5) allow

-- j is a supplier of i, one of L_i: A(i, j) is above 0
abbrev pub supplies : (ℕ → ℕ → ℕ) → ℕ → ℕ → Bool
supplies a i j = ltb 0 (a i j)

-- a supplier with a later slot
unfoldable pub late_supplier : (ℕ → ℕ → ℕ) → List ℕ → ℕ → ℕ → Bool
late_supplier a row i j = supplies a i j && ltb (slot_of row i) (slot_of row j)

-- y_i: train i revisits where at least one supplier has a later slot, (4)
unfoldable pub revisiting : ℕ → (ℕ → ℕ → ℕ) → List ℕ → ℕ → Bool
revisiting n a row i = some n (late_supplier a row i)

unfoldable pub revisits : ℕ → (ℕ → ℕ → ℕ) → List ℕ → ℕ
revisits n a row = count n (revisiting n a row)

-- the boxes of i from j, where j is not in slot t
unfoldable pub outside_boxes : (ℕ → ℕ → ℕ) → List ℕ → ℕ → ℕ → ℕ → ℕ
outside_boxes a row t i j = cond (eqb t (slot_of row j)) 0 (a i j)

-- z_ij A(i, j): the boxes of i from j, where their slots differ, (5)
unfoldable pub split_boxes : (ℕ → ℕ → ℕ) → List ℕ → ℕ → ℕ → ℕ
split_boxes a row i j = cond (eqb (slot_of row i) (slot_of row j)) 0 (a i j)

-- the split moves of the boxes that train i receives; of all boxes
unfoldable pub splits_to : ℕ → (ℕ → ℕ → ℕ) → List ℕ → ℕ → ℕ
splits_to n a row i = sum n (split_boxes a row i)

unfoldable pub splits : ℕ → (ℕ → ℕ → ℕ) → List ℕ → ℕ
splits n a row = sum n (splits_to n a row)

-- order 6 of 02, direct moves: the boxes of i from j, where they are in the same slot
unfoldable pub direct_boxes : (ℕ → ℕ → ℕ) → List ℕ → ℕ → ℕ → ℕ
direct_boxes a row i j = cond (eqb (slot_of row i) (slot_of row j)) (a i j) 0

-- the direct moves of the boxes that train i receives; of all boxes
unfoldable pub direct_to : ℕ → (ℕ → ℕ → ℕ) → List ℕ → ℕ → ℕ
direct_to n a row i = sum n (direct_boxes a row i)

unfoldable pub direct : ℕ → (ℕ → ℕ → ℕ) → List ℕ → ℕ
direct n a row = sum n (direct_to n a row)

-- all boxes
unfoldable pub all_boxes : ℕ → (ℕ → ℕ → ℕ) → ℕ
all_boxes n a = sum n λ i. sum n (a i)

abbrev pub boxes_of : Yard → ℕ
boxes_of y = all_boxes y.trains (received y)

-- ---- the cost, equation (1)

unfoldable pub weighed : ℕ → ℕ → ℕ → ℕ → ℕ
weighed w1 w2 revisits splits = w1 * revisits + w2 * splits

-- outcomes are revisits, splits, direct, cost: 01's, and order 6's direct moves, which have no part in the cost
pub record Outcome : Type 0 where
  pub revisits : ℕ
  pub splits : ℕ
  pub direct : ℕ
  pub cost : ℕ

-- of a row of n trains with boxes a, weighed by w1 and w2
abbrev pub row_outcome : ℕ → ℕ → ℕ → (ℕ → ℕ → ℕ) → List ℕ → Outcome
row_outcome w1 w2 n a row = record {
  revisits = revisits n a row;
  splits = splits n a row;
  direct = direct n a row;
  cost = weighed w1 w2 (revisits n a row) (splits n a row);
}

abbrev pub outcome : Yard → List ℕ → Outcome
outcome y = row_outcome y.revisit y.split y.trains (received y)

unfoldable pub cost : Yard → List ℕ → ℕ
cost y row = (outcome y row).cost

-- ---- allowed rows

-- position i has one of the slots 1 to T, (2)
unfoldable pub in_slots : ℕ → List ℕ → ℕ → Bool
in_slots slots row i = leb 1 (slot_of row i) && leb (slot_of row i) slots

-- the window of train i holds slot t: e ≤ t ≤ l
unfoldable pub in_time : List ℕ → List ℕ → ℕ → ℕ → Bool
in_time first last i t = leb (get_or first i 0) t && leb t (get_or last i 0)

-- the window of position i holds its slot, (12)
unfoldable pub in_window : List ℕ → List ℕ → List ℕ → ℕ → Bool
in_window first last row i = in_time first last i (slot_of row i)

-- the number of trains in slot t, the left side of (3)
unfoldable pub load : ℕ → List ℕ → ℕ → ℕ
load n row t = count n λ i. eqb (slot_of row i) t

-- no more trains than tracks in slot t, (3)
unfoldable pub roomy : ℕ → ℕ → List ℕ → ℕ → Bool
roomy n tracks row t = leb (load n row t) tracks

-- the published conditions: a slot for each position, (2); each in its window, (12); and room in each slot, (3). What speaks of the paper's
-- program or of overbooked intervals cites these.
unfoldable pub fitting : Yard → List ℕ → Bool
fitting y row =
    eqb (length row) y.trains
    && each y.trains (in_slots y.slots row)
    && each y.trains (in_window y.first y.last row)
    && each y.slots λ t. roomy y.trains y.tracks row (suc t)

-- positions i and j are members of one group
unfoldable pub grouped : List ℕ → ℕ → ℕ → Bool
grouped groups i j = ltb 0 (group_of groups i) && eqb (group_of groups i) (group_of groups j)

-- two members of one group have different slots
unfoldable pub apart : List ℕ → List ℕ → ℕ → ℕ → Bool
apart groups row i j = grouped groups i j && not (eqb (slot_of row i) (slot_of row j))

-- order 4 of 02: all members of a group share one slot
unfoldable pub kept : ℕ → List ℕ → List ℕ → Bool
kept n groups row = each n λ i. each n λ j. not (apart groups row i j)

-- group g is parted: two of its members have different slots
unfoldable pub parted : ℕ → List ℕ → List ℕ → ℕ → Bool
parted n groups row g = some n λ i. eqb (group_of groups i) g && some n (apart groups row i)

-- the rows that planning chooses from: those that fit and keep the groups
unfoldable pub allowed : Yard → List ℕ → Bool
allowed y row = fitting y row && kept y.trains y.groups row

-- ---- the order of rows of equal cost

-- the set number of slot t (01): 2 ^ (k - 1) for each train position k in it
unfoldable pub slot_mask : ℕ → List ℕ → ℕ → ℕ
slot_mask n row t = mask n λ i. eqb (slot_of row i) t

-- at the lowest index below k where f and g differ, f is the smaller
unfoldable pub lower : ℕ → (ℕ → ℕ) → (ℕ → ℕ) → Bool
lower k f g = some k λ t. ltb (f t) (g t) && each t λ u. eqb (f u) (g u)

-- a key before an order: the smaller key, or equal keys and before in the order
unfoldable pub by_key : {X : Type 0} → (X → ℕ) → (X → X → Bool) → X → X → Bool
by_key key before r s = ltb (key r) (key s) || (eqb (key r) (key s) && before r s)

-- the sum of slot numbers over all trains
unfoldable pub slot_total : ℕ → List ℕ → ℕ
slot_total n row = sum n (slot_of row)

-- 01's order: r has the larger set number at the lowest slot where the set numbers of r and s differ
unfoldable pub by_sets : Yard → List ℕ → List ℕ → Bool
by_sets y r s = lower y.slots (λ t. slot_mask y.trains s (suc t)) (λ t. slot_mask y.trains r (suc t))

-- r comes before s (order 5 of 02): fewer revisits, then a smaller sum of slot numbers, and only then 01's order
unfoldable pub precedes : Yard → List ℕ → List ℕ → Bool
precedes y = by_key (revisits y.trains (received y)) (by_key (slot_total y.trains) (by_sets y))

-- the best plan: allowed, no allowed row is cheaper, and none of equal cost comes before it
pub record Best (y : Yard) (row : List ℕ) : Type 0 where
  pub is_allowed : T (allowed y row)
  pub least : (other : List ℕ) → T (allowed y other) → cost y row ≤ cost y other
  pub first : (other : List ℕ) → T (allowed y other) → cost y other ≡ cost y row → T (precedes y other row) → ⊥

-- some row is allowed; none is
abbrev pub SomeRow : Yard → Type 0
SomeRow y = (row : List ℕ) × T (allowed y row)

abbrev pub NoRow : Yard → Type 0
NoRow y = (row : List ℕ) → T (allowed y row) → ⊥

-- ---- overbooked intervals (01: stretches)

-- the number of trains bound inside a..b: a ≤ e and l ≤ b
unfoldable pub bound : ℕ → List ℕ → List ℕ → ℕ → ℕ → ℕ
bound n first last a b = count n λ i. leb a (get_or first i 0) && leb (get_or last i 0) b

abbrev pub bound_inside : Yard → ℕ → ℕ → ℕ
bound_inside y = bound y.trains y.first y.last

-- more than G × (b - a + 1) trains are bound inside a..b
unfoldable pub exceeds : Yard → ℕ → ℕ → Bool
exceeds y a b = ltb (y.tracks * (b - a + 1)) (bound_inside y a b)

-- a..b is an overbooked interval of the day: 1 ≤ a ≤ b ≤ T, and it exceeds the tracks
unfoldable pub overbooked : Yard → ℕ → ℕ → Bool
overbooked y a b = leb 1 a && leb a b && leb b y.slots && exceeds y a b

-- the interval that refusal 9 names: of all overbooked ones the smallest first slot, and for it the smallest last slot
pub record FirstOverbooked (y : Yard) (a b : ℕ) : Type 0 where
  pub is_over : T (overbooked y a b)
  pub smallest_first : (a' b' : ℕ) → T (overbooked y a' b') → a ≤ a'
  pub smallest_last : (b' : ℕ) → T (overbooked y a b') → b ≤ b'
