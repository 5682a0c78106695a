-- The model as staged choices: at slot t, where the set r of trains remains, the set s is served. Which sets may be served, and what one
-- costs: equation (1) by slots. With the tables over sets that the code fills.
-- Assumes nothing.
use Rattle.std.specs.Prelude.{Bool, not, cond, ◌&&◌, List, ℕ, ◌+◌, ◌-◌, ◌*◌, ◌^◌, leb, ltb, get_or}
use Rattle.std.specs.Int.Bits.{bit_and}
use Rattle.std.specs.Int.Count.{ones}
use Rattle.fold.specs.Fold.{sum, some, each}
use Rattle.sets.specs.Mask.{has, mask}
use Rattle.sets.specs.Subset.{subset}
use Rattle.model.specs.Model.{Yard, received, supplies, in_time, grouped}
use Rattle.optimum.specs.Schedules.{Test, Contribution}
use Rattle.optimum.specs.Keys.{pack}

-- ---- of n trains that receive a i j boxes from each other

-- the trains with a supplier in m
unfoldable pub needing : ℕ → (ℕ → ℕ → ℕ) → ℕ → ℕ
needing n a m = mask n λ i. some n λ j. has m j && supplies a i j

-- the boxes that the trains of s receive from trains outside s
unfoldable pub from_outside : ℕ → (ℕ → ℕ → ℕ) → ℕ → ℕ
from_outside n a s = sum n λ i. cond (has s i) (sum n λ j. cond (has s j) 0 (a i j)) 0

-- the boxes that the trains of s receive from each other
unfoldable pub from_inside : ℕ → (ℕ → ℕ → ℕ) → ℕ → ℕ
from_inside n a s = sum n λ i. cond (has s i) (sum n λ j. cond (has s j) (a i j) 0) 0

-- the trains whose windows hold slot t
unfoldable pub open_in : ℕ → List ℕ → List ℕ → ℕ → ℕ
open_in n first last t = mask n λ i. in_time first last i t

-- s has of each group all members or none: where i is in s and j of the same group, j is in s
unfoldable pub together : ℕ → List ℕ → ℕ → Bool
together n groups s = each n λ i. each n λ j. not (grouped groups i j && has s i && not (has s j))

-- ---- the stages of a day

-- s may be served in slot t: its windows hold t (12), it has at most one train to a track (3), and parts no group (order 4 of 02)
unfoldable pub servable : Yard → Test
servable y t r s =
    subset s (open_in y.trains y.first y.last t) && leb (ones s) y.tracks && together y.trains y.groups s

-- the trains of s whose suppliers are served later revisit, (4); the boxes that s receives from outside are split, (5)
abbrev pub late_trains : Yard → ℕ → ℕ → ℕ
late_trains y r s = ones (bit_and s (needing y.trains (received y) (r - s)))

abbrev pub slot_cost : Yard → Contribution
slot_cost y t r s = y.revisit * late_trains y r s + y.split * from_outside y.trains (received y) s

-- what a slot contributes in which s is served (order 6 of 02): its cost, and beside it its direct moves, the boxes that s receives from
-- within. They decide nothing, so planning's tables hold none of them: they are counted for the row that is returned.
pub record Share : Type 0 where
  pub cost : ℕ
  pub direct : ℕ

abbrev pub slot_share : Yard → ℕ → ℕ → ℕ → Share
slot_share y t r s = record { cost = slot_cost y t r s; direct = from_inside y.trains (received y) s }

-- the trains that remain before the slot: summed over the slots, the sum of slot numbers over all trains
abbrev pub waiting : Contribution
waiting t r s = ones r

-- what revisits, and what sums of slot numbers, stay below: with 12 trains and 8 slots they are at most 12 and 96
abbrev pub revisits_below : ℕ
revisits_below = 16

abbrev pub sums_below : ℕ
sums_below = 128

-- what a key stays below, of a slot and of a row: a cost of 32 bits stands above 11 bits
abbrev pub keys_below : ℕ
keys_below = 2 ^ 43

-- the key of a plan, slot by slot: planning makes the sum least. The cost stands above the revisits, and these above the sum of slot
-- numbers (order 5 of 02)
abbrev pub stage_key : Yard → Contribution
stage_key y = pack sums_below (pack revisits_below (slot_cost y) (λ t. late_trains y)) waiting

-- ---- the same from tables

pub record Tables : Type 0 where
  -- of each set: the trains with a supplier in it; what its revisits cost; what its split moves cost, or `barred` where it may not be served;
  -- how many trains it has
  pub need : List ℕ
  pub late : List ℕ
  pub price : List ℕ
  pub count : List ℕ
  -- of each slot: the trains that may be served in it
  pub opens : List ℕ

abbrev pub tables_of : List ℕ → List ℕ → List ℕ → List ℕ → List ℕ → Tables
tables_of need late price count opens = record { need = need; late = late; price = price; count = count; opens = opens }

abbrev pub barred : ℕ
barred = 4294967295

-- the key of what cannot be served
abbrev pub no_cost : ℕ
no_cost = 18446744073709551615

unfoldable pub from_tables : Tables → Test
from_tables x t r s = ltb (get_or x.price s 0) barred && subset s (get_or x.opens (t - 1) 0)

-- the trains of s that revisit where `rest` remains: those with a supplier in it, from the table `need`
abbrev pub late_set : List ℕ → ℕ → ℕ → ℕ
late_set need rest s = bit_and s (get_or need rest 0)

-- what a slot costs in which s is served and `rest` remains
abbrev pub slot_sum : Tables → ℕ → ℕ → ℕ
slot_sum x rest s = get_or x.late (late_set x.need rest s) 0 + get_or x.price s 0

-- a unit of cost and a revisit, in a key
abbrev pub cost_unit : ℕ
cost_unit = revisits_below * sums_below

abbrev pub revisit_unit : ℕ
revisit_unit = sums_below

-- what s adds to the key there: its cost and its revisits
abbrev pub set_key : Tables → ℕ → ℕ → ℕ
set_key x rest s = slot_sum x rest s * cost_unit + get_or x.count (late_set x.need rest s) 0 * revisit_unit

abbrev pub cost_from_tables : Tables → Contribution
cost_from_tables x t r s = slot_sum x (r - s) s

abbrev pub set_key_from_tables : Tables → Contribution
set_key_from_tables x t r s = set_key x (r - s) s

-- and with it the trains that wait, which every set of the cell adds alike
unfoldable pub key_from_tables : Tables → Contribution
key_from_tables x t r s = set_key_from_tables x t r s + get_or x.count r 0
