-- The slots of one date, from the minutes at which the yard opens and closes and from the slot length (order 11 of document 02): where each
-- begins and ends, how many are used, and which a train may take between its arrival and its departure. Slots count from 1.
-- Assumes nothing.
use Rattle.std.specs.Prelude.{Bool, cond, ◌&&◌, ℕ, zero, suc, ◌+◌, ◌-◌, ◌*◌, ltb, leb}
use Rattle.fold.specs.Fold.{count, lowest}

-- "Slots follow each other from opening"
abbrev pub slot_start : ℕ → ℕ → ℕ → ℕ
slot_start opens length k = opens + (k - 1) * length

abbrev pub slot_end : ℕ → ℕ → ℕ → ℕ
slot_end opens length k = opens + k * length

-- slot k is there: the yard closes after it opens, and the slot ends at closing or before
abbrev pub has_slot : ℕ → ℕ → ℕ → ℕ → Bool
has_slot opens closes length k = ltb opens closes && leb (slot_end opens length k) closes

-- "at most eight are used": of the first eight slots those that are there
unfoldable pub slots_between : ℕ → ℕ → ℕ → ℕ
slots_between opens closes length = count 8 λ j. has_slot opens closes length (suc j)

-- ---- of the slots 1 to n

-- the earliest that passes; n + 1 where none does
unfoldable pub earliest_slot : ℕ → (ℕ → Bool) → ℕ
earliest_slot n p = suc (lowest n λ j. p (suc j))

-- the latest that passes; 0 where none does
unfoldable pub latest_slot : ℕ → (ℕ → Bool) → ℕ
latest_slot zero p = 0
latest_slot (suc k) p = cond (p (suc k)) (suc k) (latest_slot k p)

-- ---- a train's slots

abbrev pub starts_in_time : ℕ → ℕ → ℕ → ℕ → Bool
starts_in_time opens length arrival k = leb arrival (slot_start opens length k)

abbrev pub ends_in_time : ℕ → ℕ → ℕ → ℕ → Bool
ends_in_time opens length departure k = leb (slot_end opens length k) departure

-- "First is the earliest slot starting at or after arrival"
unfoldable pub first_slot : ℕ → ℕ → ℕ → ℕ → ℕ
first_slot opens length used arrival = earliest_slot used (starts_in_time opens length arrival)

-- "last is the latest ending at or before departure"
unfoldable pub last_slot : ℕ → ℕ → ℕ → ℕ → ℕ
last_slot opens length used departure = latest_slot used (ends_in_time opens length departure)
