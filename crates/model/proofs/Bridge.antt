-- Laws of Bridge.antt of specs/.
-- The bridge to the paper's own form, the integer program of Program.antt. Its points (x, y, z) and the fitting rows of Model.antt belong together:
--     feasible-row     each feasible point gives a fitting row, with the same slots, that costs at most the objective
--     row-feasible     each fitting row, with the least y and z, is a feasible point whose objective is the row's cost
--     least-y, least-z for a fitting row, (4) holds exactly where y_i is at least ours, (5) exactly where z_ij is at least ours
-- With order 4's equation they belong to the allowed rows:
--     feasible-allowed, allowed-feasible   the same two of allowed rows
--     best-optimal     so the best plan's cost is the least objective of the program
-- The direct moves of a fitting row are the program's boxes between trains of one slot (`row-direct`).
-- Assumes nothing.
use Rattle.std.specs.Prelude.{◌≡◌, refl, Bool, true, false, not, cond, List, ◌↔◌, ◌≢◌, T, ltb, eqb}
use Rattle.std.proofs.Math.Path.{sym, ap}
use Rattle.std.proofs.Common.{◌∙◌, ⊎_elim, add-le-add, le_refl, le_trans, mul-le-mul_left, mul-le-mul_right, one-mul, zero-mul, arith, lt→ltb, eq-eqb, eqb-true, lt-ltb, ne_eqb}
use Prim.Native.Nat.{ℕ, zero, suc, ◌+◌, ◌*◌, ◌≤◌, ◌<◌, zero-le, suc-le-suc}
use Rattle.std.proofs.Math.Dec.{ltb→lt, not_T}
use Rattle.fold.specs.Test.{eqb_sym, of_true, of_false, both, both_of, not_of}
use Rattle.fold.specs.Fold.{bit, sum, count, some_at, some_of}
use Rattle.fold.specs.Sums.{sum_ext, sum_le, sum_only, sum_one, sum_swap}
use Rattle.fold.specs.Listed.{listed, length-listed, listed_at}
use Rattle.fold.specs.Counting.{same_or, le_or_lt, bit_le}
use Rattle.model.specs.Model.{Yard, received, slot_of, late_supplier, revisiting, revisits, split_boxes, splits_to, splits, direct_boxes, direct_to, direct, weighed, cost, load, fitting, kept, allowed, Best}
use Rattle.model.specs.Program.{big_m, slot_in, distance, Supplies, Feasible, FeasibleInGroups, objective, boxes_together, chosen, least_y, least_z}
use Rattle.model.specs.Rows.{Fitting}
use Rattle.model.proofs.Rows.{fitting_is, is_fitting, allowed_fits, allowed_keeps, fits_allowed}
use Rattle.model.proofs.Groups.{grouped_of, grouped_by, kept_of, kept_by}
use Rattle.model.specs.Bridge.{moved}

-- ---- numbers and tests

-- the number of a test is the least w that is positive where the test passes
bit_least : (b : Bool) (w : ℕ) → (T b → 0 < w) ↔ (bit b ≤ w)
bit_least true w = (λ h. h tt, λ h t. h)
bit_least false w = (λ h. zero-le, λ h t. absurd t)

-- where a lies below b and w m makes up the difference, w is positive
multiple_pos : (w m a b : ℕ) → b ≤ a + w * m → a < b → 0 < w
multiple_pos zero m a b h l = absurd (omega (arith, zero-mul m))
multiple_pos (suc w) m a b h l = suc-le-suc zero-le

-- a positive multiple of m is at least m
le_multiple : (w m : ℕ) → 0 < w → m ≤ w * m
le_multiple w m h = omega (arith, one-mul m, mul-le-mul_right {m = 1} {n = w} m h)

-- ---- sums over the slots

-- just one of the slots 1 to m is s
sum-chosen : (m s : ℕ) → 1 ≤ s → s ≤ m → sum m (λ t. bit (eqb s (suc t))) ≡ 1
sum-chosen m s a b = sum_ext m (λ t. bit (eqb s (suc t))) (λ t. cond (eqb s (suc t)) 1 0) (λ t h. term (eqb s (suc t))) ∙ sum_only m s 1 a b
  where
    term : (e : Bool) → bit e ≡ cond e 1 0
    term true = refl
    term false = refl

-- the sum of x_it t is s where x_it is 1 at t = s only
sum-chosen-slot : (m s : ℕ) → 1 ≤ s → s ≤ m → sum m (λ t. bit (eqb s (suc t)) * suc t) ≡ s
sum-chosen-slot m s a b =
    sum_ext m (λ t. bit (eqb s (suc t)) * suc t) (λ t. cond (eqb s (suc t)) s 0) (λ t h. term t (eqb s (suc t)) refl) ∙ sum_only m s s a b
  where
    term : (t : ℕ) (e : Bool) → eqb s (suc t) ≡ e → bit e * suc t ≡ cond e s 0
    term t true q = one-mul (suc t) ∙ sym (eqb-true s (suc t) q)
    term t false q = zero-mul (suc t)

-- the slot that x gives to train i, where it gives just one
slot_given : (m : ℕ) (x : ℕ → ℕ → ℕ) (i : ℕ) → ((t : ℕ) → t < m → x i (suc t) ≤ 1) → sum m (λ t. x i (suc t)) ≡ 1
    → (1 ≤ slot_in m x i) × (slot_in m x i ≤ m) × ((t : ℕ) → t < m → x i (suc t) ≡ bit (eqb (slot_in m x i) (suc t)))
unfolding slot_in
slot_given m x i b e =
    let (s, p, q, g) = sum_one m (λ t. x i (suc t)) b e in
    let same = sum_ext m (λ t. x i (suc t) * suc t) (λ t. bit (eqb s (suc t)) * suc t) (λ t h. ap (λ k. k * suc t) (g t h)) in
    rw (same ∙ sum-chosen-slot m s p q) (p, q, g)

-- with z_ij from a test of equal slots, it is the model's term
moved-bit : (e : Bool) (a : ℕ) → moved (bit (not e)) a ≡ cond e 0 a
moved-bit true zero = refl
moved-bit false zero = refl
moved-bit true (suc a) = rw (lt-ltb 0 (suc a) (omega arith)) (zero-mul (suc a))
moved-bit false (suc a) = rw (lt-ltb 0 (suc a) (omega arith)) (one-mul (suc a))

bit_times : (e : Bool) (a : ℕ) → bit e * a ≡ cond e a 0
bit_times true a = one-mul a
bit_times false a = zero-mul a

-- it grows with z_ij
moved_le : (u w a : ℕ) → (0 < a → u ≤ w) → moved u a ≤ moved w a
moved_le u w zero h = zero-le
moved_le u w (suc a) h = rw (lt-ltb 0 (suc a) (omega arith)) (mul-le-mul_right (suc a) (h (omega arith)))

-- the objective grows with y and z
objective_le : (y : Yard) (v v' : ℕ → ℕ) (z z' : ℕ → ℕ → ℕ) → ((i : ℕ) → i < y.trains → v i ≤ v' i)
    → ((i j : ℕ) → i < y.trains → Supplies y i j → z i j ≤ z' i j) → objective y v z ≤ objective y v' z'
unfolding objective
objective_le y v v' z z' a b =
    add-le-add (mul-le-mul_left y.revisit (sum_le y.trains v v' a))
    (mul-le-mul_left y.split (sum_le y.trains (λ i. sum y.trains (to z i)) (λ i. sum y.trains (to z' i))
    (λ i h. sum_le y.trains (to z i) (to z' i) (λ j l. moved_le (z i j) (z' i j) (received y i j) (λ p. b i j h (l, p))))))
  where
    to : (ℕ → ℕ → ℕ) → ℕ → ℕ → ℕ
    to z i j = moved (z i j) (received y i j)

-- ---- the theorems

-- a train revisits exactly where it has a late supplier
module _ (n : ℕ) (a : ℕ → ℕ → ℕ) (row : List ℕ) (i : ℕ) where
  revisiting_of : T (revisiting n a row i) → (j : ℕ) × (j < n) × (0 < a i j) × (slot_of row i < slot_of row j)
  unfolding revisiting late_supplier
  revisiting_of t =
      let (j, l, late) = some_of n (late_supplier a row i) t in
      let (p, q) = both_of (ltb 0 (a i j)) (ltb (slot_of row i) (slot_of row j)) late in
      (j, l, ltb→lt 0 (a i j) p, ltb→lt (slot_of row i) (slot_of row j) q)

  revisiting-at : (j : ℕ) → j < n → 0 < a i j → slot_of row i < slot_of row j → T (revisiting n a row i)
  unfolding revisiting late_supplier
  revisiting-at j l p q =
      some_at n (late_supplier a row i) j l
      (both (ltb 0 (a i j)) (ltb (slot_of row i) (slot_of row j)) (lt→ltb 0 (a i j) p) (lt→ltb (slot_of row i) (slot_of row j) q))

module _ (y : Yard) (row : List ℕ) (ok : T (fitting y row)) where
  -- what the test of the row says
  is : Fitting y row
  is = fitting_is y row ok

  -- (4) for train i holds exactly where y_i is at least ours
  pub least_y_lem : (i w : ℕ) → i < y.trains
      → ((j : ℕ) → Supplies y i j → slot_of row j ≤ slot_of row i + w * big_m y) ↔ (least_y y row i ≤ w)
  least_y_lem i w h =
      let least = bit_least (revisiting y.trains (received y) row i) w in (
        λ all. least.0 (λ t.
            let (j, l, p, q) = revisiting_of y.trains (received y) row i t in
            multiple_pos w (big_m y) (slot_of row i) (slot_of row j) (all j (l, p)) q),
        λ e j s. ⊎_elim (λ l. omega arith)
            (λ l.
            let pos = least.1 e (revisiting-at y.trains (received y) row i j s.0 s.1 l) in
            omega (arith, is.slotted i h, is.slotted j s.0, le_multiple w (big_m y) pos))
            (le_or_lt (slot_of row j) (slot_of row i)),
      )

  -- (5) for trains i and j in L_i holds exactly where z_ij is at least ours
  pub least_z_lem : (i j w : ℕ) → i < y.trains → Supplies y i j
      → (distance (slot_of row i) (slot_of row j) ≤ w * big_m y) ↔ (least_z row i j ≤ w)
  least_z_lem i j w h s =
      let same = eqb (slot_of row i) (slot_of row j) in
      let least = bit_least (not same) w in (
        λ l. least.0 (λ t.
            let apart : slot_of row i ≢ slot_of row j = λ e. not_of same t (of_true (eq-eqb (slot_of row i) (slot_of row j) e)) in
            multiple_pos w (big_m y) 0 (distance (slot_of row i) (slot_of row j)) (omega arith) (omega arith)),
        λ l. ⊎_elim (λ e. omega arith)
            (λ e.
            let pos = least.1 l (not_T same (of_false (ne_eqb (slot_of row i) (slot_of row j) e))) in
            omega (arith, is.slotted i h, is.slotted j s.0, le_multiple w (big_m y) pos))
            (same_or (slot_of row i) (slot_of row j)),
      )

  -- the program's slots of a row are its own
  slot-chosen : (i : ℕ) → i < y.trains → slot_in y.slots (chosen row) i ≡ slot_of row i
  unfolding slot_in
  slot-chosen i h = let (a, b) = is.slotted i h in sum-chosen-slot y.slots (slot_of row i) a b

  -- a fitting row with the least y and z is feasible, and the objective is its cost
  pub row_feasible : Feasible y (chosen row) (least_y y row) (least_z row)
  unfolding load count
  row_feasible = record {
    eq2 = λ i h. let (a, b) = is.slotted i h in sum-chosen y.slots (slot_of row i) a b;
    eq3 = is.room;
    eq4 = λ i j h s. rw (slot-chosen i h, slot-chosen j s.0) ((least_y_lem i (least_y y row i) h).1 (le_refl (least_y y row i)) j s);
    eq5 = λ i j h s. rw (slot-chosen i h, slot-chosen j s.0) ((least_z_lem i j (least_z row i j) h s).1 (le_refl (least_z row i j)));
    eq6x = λ i t h l. bit_le (eqb (slot_of row i) (suc t));
    eq6y = λ i h. bit_le (revisiting y.trains (received y) row i);
    eq6z = λ i j h s. bit_le (not (eqb (slot_of row i) (slot_of row j)));
    eq12 = λ i h. rw (slot-chosen i h) (is.windowed i h);
  }

  pub row-objective : objective y (least_y y row) (least_z row) ≡ cost y row
  unfolding objective cost weighed revisits count splits splits_to split_boxes
  row-objective =
      let split : ℕ → ℕ → ℕ = λ i j. moved (least_z row i j) (received y i j) in
      ap (λ k. y.revisit * revisits y.trains (received y) row + y.split * k)
      (sum_ext y.trains (λ i. sum y.trains (split i)) (splits_to y.trains (received y) row)
      (λ i h. sum_ext y.trains (split i) (split_boxes (received y) row i) (λ j l. moved-bit (eqb (slot_of row i) (slot_of row j)) (received y i j))))

  -- the direct moves are the program's: the boxes between trains of one slot
  pub row-direct : direct y.trains (received y) row ≡ boxes_together y (chosen row)
  unfolding direct direct_to direct_boxes boxes_together
  row-direct =
      sum_ext n (direct_to n a row) (λ i. sum slots λ t. sum n λ j. both i j t)
      (λ i h.
      sum_ext n (direct_boxes a row i) (λ j. sum slots (both i j)) (λ j l. sym (pair i j h))
      ∙ sum_swap n slots (both i))
      ∙ sum_swap n slots (λ i t. sum n λ j. both i j t)
    where
      n : ℕ
      n = y.trains

      slots : ℕ
      slots = y.slots

      a : ℕ → ℕ → ℕ
      a = received y

      both : ℕ → ℕ → ℕ → ℕ
      both i j t = chosen row i (suc t) * (chosen row j (suc t) * a i j)

      -- at the slot of i the term of j counts, at the others none
      term : (i j t : ℕ) (e : Bool) → eqb (slot_of row i) (suc t) ≡ e
          → bit e * (bit (eqb (slot_of row j) (suc t)) * a i j) ≡ cond e (cond (eqb (slot_of row i) (slot_of row j)) (a i j) 0) 0
      term i j t true q =
          one-mul (bit (eqb (slot_of row j) (suc t)) * a i j)
          ∙ ap (λ s. bit (eqb (slot_of row j) s) * a i j) (sym (eqb-true (slot_of row i) (suc t) q))
          ∙ ap (λ b. bit b * a i j) (eqb_sym (slot_of row j) (slot_of row i))
          ∙ bit_times (eqb (slot_of row i) (slot_of row j)) (a i j)
      term i j t false q = zero-mul (bit (eqb (slot_of row j) (suc t)) * a i j)

      pair : (i j : ℕ) → i < n → sum slots (both i j) ≡ direct_boxes a row i j
      pair i j h =
          let (low, high) = is.slotted i h in
          sum_ext slots (both i j) (λ t. cond (eqb (slot_of row i) (suc t)) (direct_boxes a row i j) 0) (λ t l. term i j t (eqb (slot_of row i) (suc t)) refl)
          ∙ sum_only slots (slot_of row i) (direct_boxes a row i j) low high

-- ---- the row of a point

-- the row of the slots that x gives
made : Yard → (ℕ → ℕ → ℕ) → List ℕ
made y x = listed y.trains (slot_in y.slots x)

made-slot : (y : Yard) (x : ℕ → ℕ → ℕ) (i : ℕ) → i < y.trains → slot_in y.slots x i ≡ slot_of (made y x) i
unfolding made
made-slot y x i h = sym (listed_at y.trains (slot_in y.slots x) 0 i h)

module _ (y : Yard) (x : ℕ → ℕ → ℕ) (v : ℕ → ℕ) (z : ℕ → ℕ → ℕ) (f : Feasible y x v z) where
  -- its slots are those of x, in 1..T
  made_given : (i : ℕ) → i < y.trains
      → (1 ≤ slot_of (made y x) i) × (slot_of (made y x) i ≤ y.slots) × ((t : ℕ) → t < y.slots → x i (suc t) ≡ chosen (made y x) i (suc t))
  made_given i h = rw (made-slot y x i h) at (slot_given y.slots x i (λ t. f.eq6x i t h) (f.eq2 i h))

  -- so it fits
  made_fits : T (fitting y (made y x))
  unfolding made load count
  made_fits = is_fitting y (made y x) (record {
    long = length-listed y.trains (slot_in y.slots x);
    slotted = λ i h. let (a, b, c) = made_given i h in (a, b);
    windowed = λ i h. rw (made-slot y x i h) at (f.eq12 i h);
    room = λ t l. rw (sum_ext y.trains (λ i. x i (suc t)) (λ i. chosen (made y x) i (suc t)) (λ i h. (made_given i h).2 t l)) at (f.eq3 t l);
  })

  -- the program's y and z are no less than its own
  made-cost : cost y (made y x) ≤ objective y v z
  made-cost =
      rw (← row-objective y (made y x) made_fits)
      (objective_le y (least_y y (made y x)) v (least_z (made y x)) z
      (λ i h. (least_y_lem y (made y x) made_fits i (v i) h).0 (λ j s. rw (made-slot y x i h, made-slot y x j s.0) at (f.eq4 i j h s)))
      (λ i j h s. (least_z_lem y (made y x) made_fits i j (z i j) h s).0 (rw (made-slot y x i h, made-slot y x j s.0) at (f.eq5 i j h s))))

-- a feasible point gives a fitting row with the same slots that costs at most the objective
pub feasible_row : (y : Yard) (x : ℕ → ℕ → ℕ) (v : ℕ → ℕ) (z : ℕ → ℕ → ℕ) → Feasible y x v z
    → (row : List ℕ) × T (fitting y row)
    × ((i t : ℕ) → i < y.trains → t < y.slots → x i (suc t) ≡ chosen row i (suc t))
    × (cost y row ≤ objective y v z)
feasible_row y x v z f = (made y x, made_fits y x v z f, λ i t h. (made_given y x v z f i h).2 t, made-cost y x v z f)

-- ---- with wagon sets

-- equal x, slot by slot, are equal slots
made_keeps : (y : Yard) (x : ℕ → ℕ → ℕ) (v : ℕ → ℕ) (z : ℕ → ℕ → ℕ) → FeasibleInGroups y x v z → T (kept y.trains y.groups (made y x))
unfolding slot_in
made_keeps y x v z f =
    kept_by y.trains y.groups (made y x)
    (λ i j h l g.
    sym (made-slot y x i h)
    ∙ sum_ext y.slots (λ t. x i (suc t) * suc t) (λ t. x j (suc t) * suc t) (λ t b. let (some, same) = grouped_of y.groups i j g in ap (λ k. k * suc t) (f.order4 i j t h l some same b))
    ∙ made-slot y x j l)

-- a feasible point gives an allowed row with the same slots that costs at most the objective
pub feasible_allowed : (y : Yard) (x : ℕ → ℕ → ℕ) (v : ℕ → ℕ) (z : ℕ → ℕ → ℕ) → FeasibleInGroups y x v z
    → (row : List ℕ) × T (allowed y row)
    × ((i t : ℕ) → i < y.trains → t < y.slots → x i (suc t) ≡ chosen row i (suc t))
    × (cost y row ≤ objective y v z)
feasible_allowed y x v z f =
    let p = f.published in
    (made y x, fits_allowed y (made y x) (made_fits y x v z p) (made_keeps y x v z f), λ i t h. (made_given y x v z p i h).2 t, made-cost y x v z p)

-- an allowed row with the least y and z is feasible (and `row-objective`: the objective is its cost)
pub allowed_feasible : (y : Yard) (row : List ℕ) → T (allowed y row) → FeasibleInGroups y (chosen row) (least_y y row) (least_z row)
allowed_feasible y row ok = record {
  published = row_feasible y row (allowed_fits y row ok);
  order4 = λ i j t h l some same b.
      ap (λ s. bit (eqb s (suc t))) (kept_of y.trains y.groups row (allowed_keeps y row ok) i j h l (grouped_by y.groups i j some same));
}

-- no feasible point has a smaller objective than the best plan's cost
pub best_optimal : (y : Yard) (row : List ℕ) → Best y row → (x : ℕ → ℕ → ℕ) (v : ℕ → ℕ) (z : ℕ → ℕ → ℕ) → FeasibleInGroups y x v z
    → cost y row ≤ objective y v z
best_optimal y row b x v z f =
    let (other, ok, same, cheap) = feasible_allowed y x v z f in
    le_trans (b.least other ok) cheap
