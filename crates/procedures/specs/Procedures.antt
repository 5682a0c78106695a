-- The two procedures that planning is measured against (order 1 of document 02): first come, first served, and the myopic start procedure
-- of source 000, section 4.2, with equation (11). Executable, over plain data. A row under way has slot 0 where a train has none yet.
-- Assumes nothing.
use Rattle.std.specs.Prelude.{Bool, cond, ◌&&◌, ◌||◌, List, ℕ, zero, suc, leb, ltb, eqb, set, replicate}
use Rattle.fold.specs.Fold.{bit, sum, some, lowest}
use Rattle.model.specs.Model.{Yard, received, slot_of, supplies, load, weighed, in_time, outside_boxes}

-- ---- trains and slots

-- a track of slot t is free
unfoldable pub track_free : ℕ → ℕ → List ℕ → ℕ → Bool
track_free n tracks row t = ltb (load n row t) tracks

-- train i has no slot yet
unfoldable pub waits : List ℕ → ℕ → Bool
waits row i = eqb (slot_of row i) 0

-- the lowest position without a slot, counted from 0; n where there is none
abbrev pub left_over : ℕ → List ℕ → ℕ
left_over n row = lowest n (waits row)

-- ---- first come: n trains in file order, each the earliest slot in its window with a track free

-- slot t + 1 is one for train i
unfoldable pub suits : ℕ → ℕ → List ℕ → List ℕ → List ℕ → ℕ → ℕ → Bool
suits n tracks first last row i t = in_time first last i (suc t) && track_free n tracks row (suc t)

module _ (n tracks slots : ℕ) (first last : List ℕ) where
  -- the earliest, counted from 0; the number of slots where there is none
  unfoldable pub earliest : List ℕ → ℕ → ℕ
  earliest row i = lowest slots (suits n tracks first last row i)

  abbrev pub take_earliest : ℕ → List ℕ → List ℕ
  take_earliest i row = cond (ltb (earliest row i) slots) (set row i (suc (earliest row i))) row

  -- the first k trains have come
  unfoldable pub come_to : ℕ → List ℕ
  come_to zero = replicate n 0
  come_to (suc k) = take_earliest k (come_to k)

abbrev pub first_come : Yard → List ℕ
first_come y = come_to y.trains y.tracks y.slots y.first y.last y.trains

-- ---- myopic: slot after slot and track after track, the train that raises the objective least

-- a supplier that waits still
unfoldable pub waiting_supplier : (ℕ → ℕ → ℕ) → List ℕ → ℕ → ℕ → Bool
waiting_supplier a row i j = supplies a i j && waits row j

module _ (n revisit split : ℕ) (a : ℕ → ℕ → ℕ) where
  -- what train i would add in slot t, (11): a revisit where one of its suppliers waits still, and its boxes from all suppliers outside
  -- the slot, in earlier slots too
  unfoldable pub priority : List ℕ → ℕ → ℕ → ℕ
  priority row t i = weighed revisit split (bit (some n (waiting_supplier a row i))) (sum n (outside_boxes a row t i))

  module _ (first last : List ℕ) where
    -- of the waiting trains below k whose window holds slot t the lowest one of least priority; n where there is none
    unfoldable pub select : List ℕ → ℕ → ℕ → ℕ
    select row t zero = n
    select row t (suc k) =
        cond (waits row k && in_time first last k t && (leb n (select row t k) || ltb (priority row t k) (priority row t (select row t k))))
        k (select row t k)

    -- it gets the slot; where there is none the row stays
    abbrev pub serve_next : ℕ → List ℕ → List ℕ
    serve_next t row = cond (ltb (select row t n) n) (set row (select row t n) t) row

    -- the first g tracks of slot t are filled
    unfoldable pub fill_to : ℕ → List ℕ → ℕ → List ℕ
    fill_to t row zero = row
    fill_to t row (suc g) = serve_next t (fill_to t row g)

    -- the first t slots are filled, each with as many trains as there are tracks, or as may be chosen
    unfoldable pub served_to : ℕ → ℕ → List ℕ
    served_to tracks zero = replicate n 0
    served_to tracks (suc t) = fill_to (suc t) (served_to tracks t) tracks

abbrev pub myopic : Yard → List ℕ
myopic y = served_to y.trains y.revisit y.split (received y) y.first y.last y.tracks y.slots
