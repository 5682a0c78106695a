-- What the functions over tables are given: tables that reach as far as the sets and slots asked for, and entries so small that what a slot
-- costs fits 32 bits and its key 43, so that every sum over slots fits 64 and stays below `no_cost`. And the cells that they find.
-- Assumes nothing.
use Rattle.std.specs.Prelude.{List, ℕ, suc, ◌-◌, ◌*◌, ◌^◌, ◌≤◌, ◌<◌, T, length}
use Rattle.std.proofs.Common.{arith}
use Rattle.sets.specs.Subset.{Sub}
use Rattle.optimum.specs.Workspace.{at}
use Rattle.optimum.specs.Least.{Cell}
use Rattle.optimum.specs.Stages.{cell, tab, choice}
use Rattle.staging.specs.Tables.{Tables, keys_below, barred, no_cost, from_tables, cost_from_tables, key_from_tables}

-- tables for the sets below `size` and for the first `slots` slots
pub record Given (size slots : ℕ) (x : Tables) : Type 0 where
  pub sets : (0 < size) × (size ≤ 4096)
  pub stages : (0 < slots) × (slots ≤ 8)
  pub needs : size ≤ length x.need
  pub lates : size ≤ length x.late
  pub prices : size ≤ length x.price
  pub counts : size ≤ length x.count
  pub opened : slots ≤ length x.opens
  -- a set has at most 12 trains
  pub few : (m : ℕ) → m < size → at x.count m ≤ 12
  -- what a slot costs in which a set is served that is not barred
  pub fits : (t r s : ℕ) → r < size → Sub s r → at x.price s < barred → cost_from_tables x t r s < 2 ^ 32

-- values that a cell of slot j + 1 reads where r remains: of what its choices leave, none, or what at most 8 slots come to
pub record Rests (x : Tables) (cost : List ℕ) (j r : ℕ) : Type 0 where
  pub long : r < length cost
  pub low : (s : ℕ) → Sub s r → T (from_tables x (suc j) r s) → at cost (r - s) < no_cost → at cost (r - s) ≤ 8 * keys_below

-- the cell of stage j + 1, where r remains and `cost` holds the values of the next stage
abbrev pub cell_from : Tables → List ℕ → ℕ → ℕ → Cell
cell_from x cost j r = cell (from_tables x) (key_from_tables x) no_cost (at cost) (suc j) r

-- the cell of stage j + 1, where r remains and no stage is left behind it
abbrev pub last_from : Tables → ℕ → ℕ → Cell
last_from x j r =
    record {
      value = tab (from_tables x) (key_from_tables x) no_cost 1 (suc j) r;
      set = choice (from_tables x) (key_from_tables x) no_cost 1 (suc j) r;
    }

-- what is given for more sets and slots is given for fewer
pub given_less : {size slots : ℕ} {x : Tables} (m j : ℕ) → Given size slots x → (0 < m) × (m ≤ size) → (0 < j) × (j ≤ slots) → Given m j x
given_less m j g a b =
    record {
      sets = (a.0, omega (arith, g.sets));
      stages = (b.0, omega (arith, g.stages));
      needs = omega (arith, g.needs);
      lates = omega (arith, g.lates);
      prices = omega (arith, g.prices);
      counts = omega (arith, g.counts);
      opened = omega (arith, g.opened);
      few = λ m l. g.few m (omega arith);
      fits = λ t r s l. g.fits t r s (omega arith);
    }
