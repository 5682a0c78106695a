-- The published program itself: the integer program TYSP of source 000, objective (1) under (2) to (6), with the windows of (12). Order 4
-- of document 02 adds an equation of its own, order 6 a count.
-- Variables as in Table 1: x_it, y_i (here v, since y is the day) and z_ij. Bridge.antt joins it to Model.antt.
-- Assumes nothing.
use Rattle.std.specs.Prelude.{◌≡◌, not, cond, List, ℕ, suc, ◌+◌, ◌-◌, ◌*◌, ◌≤◌, ◌<◌, eqb}
use Rattle.fold.specs.Fold.{bit, sum}
use Rattle.model.specs.Model.{Yard, received, first_slot, last_slot, slot_of, group_of, supplies, revisiting}

-- ---- the program

-- M = T - 1
abbrev pub big_m : Yard → ℕ
big_m y = y.slots - 1

-- the sum of x_it t over the slots t = 1 .. T: the slot that x gives to train i
unfoldable pub slot_in : ℕ → (ℕ → ℕ → ℕ) → ℕ → ℕ
slot_in slots x i = sum slots λ t. x i (suc t) * suc t

-- the distance of two numbers
abbrev pub distance : ℕ → ℕ → ℕ
distance a b = (a - b) + (b - a)

-- j is one of L_i: train i receives boxes from train j
abbrev pub Supplies : Yard → ℕ → ℕ → Type 0
Supplies y i j = (j < y.trains) × (0 < received y i j)

pub record Feasible (y : Yard) (x : ℕ → ℕ → ℕ) (v : ℕ → ℕ) (z : ℕ → ℕ → ℕ) : Type 0 where
  pub eq2 : (i : ℕ) → i < y.trains → sum y.slots (λ t. x i (suc t)) ≡ 1
  pub eq3 : (t : ℕ) → t < y.slots → sum y.trains (λ i. x i (suc t)) ≤ y.tracks
  pub eq4 : (i j : ℕ) → i < y.trains → Supplies y i j → slot_in y.slots x j ≤ slot_in y.slots x i + v i * big_m y
  pub eq5 : (i j : ℕ) → i < y.trains → Supplies y i j → distance (slot_in y.slots x i) (slot_in y.slots x j) ≤ z i j * big_m y
  pub eq6x : (i t : ℕ) → i < y.trains → t < y.slots → x i (suc t) ≤ 1
  pub eq6y : (i : ℕ) → i < y.trains → v i ≤ 1
  pub eq6z : (i j : ℕ) → i < y.trains → Supplies y i j → z i j ≤ 1
  pub eq12 : (i : ℕ) → i < y.trains → (first_slot y i ≤ slot_in y.slots x i) × (slot_in y.slots x i ≤ last_slot y i)

-- with wagon sets. Order 4, which is not the source's: members of one group (0 is none) have the same x, slot by slot
pub record FeasibleInGroups (y : Yard) (x : ℕ → ℕ → ℕ) (v : ℕ → ℕ) (z : ℕ → ℕ → ℕ) : Type 0 where
  pub published : Feasible y x v z
  pub order4 : (i j t : ℕ) → i < y.trains → j < y.trains → 0 < group_of y.groups i → group_of y.groups i ≡ group_of y.groups j
      → t < y.slots → x i (suc t) ≡ x j (suc t)

-- (1), with the inner sum over j in L_i
unfoldable pub objective : Yard → (ℕ → ℕ) → (ℕ → ℕ → ℕ) → ℕ
objective y v z =
    y.revisit * sum y.trains v
    + y.split * sum y.trains λ i. sum y.trains λ j. cond (supplies (received y) i j) (z i j * received y i j) 0

-- section 3.1: the weight of a revisit that brings the two objectives in lexicographic order, where that of a split move is 1: the sum of
-- A(i, j) over the trains i and the j in L_i
unfoldable pub suggested_weight : Yard → ℕ
suggested_weight y = sum y.trains λ i. sum y.trains λ j. cond (supplies (received y) i j) (received y i j) 0

-- order 6 of 02 in the source's variables: the boxes between trains of one slot, slot by slot, the sum of x_it x_jt A(i, j)
unfoldable pub boxes_together : Yard → (ℕ → ℕ → ℕ) → ℕ
boxes_together y x = sum y.slots λ t. sum y.trains λ i. sum y.trains λ j. x i (suc t) * (x j (suc t) * received y i j)

-- ---- a row as a point of the program

-- x_it: 1 where train i has slot t
abbrev pub chosen : List ℕ → ℕ → ℕ → ℕ
chosen row i t = bit (eqb (slot_of row i) t)

-- the least y and z
abbrev pub least_y : Yard → List ℕ → ℕ → ℕ
least_y y row i = bit (revisiting y.trains (received y) row i)

abbrev pub least_z : List ℕ → ℕ → ℕ → ℕ
least_z row i j = bit (not (eqb (slot_of row i) (slot_of row j)))
