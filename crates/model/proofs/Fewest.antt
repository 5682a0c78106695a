-- Laws of Fewest.antt of specs/.
-- Order 8 of document 02: fewest revisits, then fewest split moves. Section 3.1 of the source takes the sum of all boxes as the weight of a
-- revisit and 1 as that of a split move, so that the two objectives are in lexicographic order. Why they are:
--   revisits-splits    a row has no more revisits than split moves, so one with revisits has some;
--   splits-boxes       no row has more split moves than there are boxes (Moves.antt);
--   fewer-cheaper      hence one revisit less is never bought by split moves: of any two rows the one with fewer revisits is cheaper;
--   lexicographic      and the cost compares rows by revisits, and those with as many by split moves.
-- So of any rows that one may choose from the cheapest are just those with the fewest revisits and, among these, the fewest split moves
-- (`cheapest_fewest`, `fewest_cheapest`; of the allowed ones `fewest_exactly`), and the best plan is such a row (`best_fewest`). The order of
-- rows of equal cost has no part in it. It has where a revisit weighs one split move less: `best_fewest_below`.
-- Assumes nothing.
use Rattle.std.specs.Prelude.{◌≡◌, Bool, cond, List, ◌↔◌, ◌⊎◌, ℕ, zero, suc, ◌+◌, ◌*◌, ◌≤◌, ◌<◌, T, ltb}
use Rattle.std.proofs.Math.Path.{refl}
use Rattle.std.proofs.Common.{sym, ◌∙◌, inl, inr, le_antisymm, mul-suc, lt-ltb, ne_eqb}
use Rattle.std.proofs.Math.Bool.{true, false}
use Rattle.std.proofs.Math.Logic.{⊎_elim}
use Rattle.std.proofs.Math.Nat.{le_trans, mul-le-mul_left, mul-add}
use native.Mathlib.Omega.{arith}
use Rattle.std.proofs.Math.Dec.{ltb→lt}
use Rattle.fold.specs.Test.{both_of}
use Rattle.fold.specs.Fold.{bit, sum, count, some_of}
use Rattle.fold.specs.Sums.{sum_ext, sum_le, term_le_sum}
use Rattle.fold.specs.Counting.{le_or_lt}
use Rattle.model.specs.Model.{Yard, received, slot_of, supplies, late_supplier, revisiting, revisits, split_boxes, splits_to, splits, all_boxes, boxes_of, weighed, outcome, cost, fitting, allowed, by_key, slot_total, by_sets, precedes, Best}
use Rattle.model.proofs.Moves.{splits_boxes, all_moved}
use Rattle.model.proofs.Order.{key_less}
use Rattle.model.specs.Foremost.{CheapestOf, Cheapest}
use Rattle.model.specs.Program.{suggested_weight}
use Rattle.model.specs.Fewest.{SumWeights, Outweighs, FewestOf, Fewest, reweighed, revisits_of, splits_of}

-- ---- the weights

-- the sum of all boxes is the source's own, over the suppliers of each train
pub suggested_boxes : (y : Yard) → suggested_weight y ≡ boxes_of y
unfolding suggested_weight all_boxes
suggested_boxes y =
    sum_ext y.trains (λ i. sum y.trains λ j. cond (supplies (received y) i j) (received y i j) 0) (λ i. sum y.trains (received y i))
    (λ i h. sum_ext y.trains (λ j. cond (supplies (received y) i j) (received y i j) 0) (received y i) (λ j k. only (received y i j)))
  where
    only : (x : ℕ) → cond (ltb 0 x) x 0 ≡ x
    only zero = refl
    only (suc x) = rw (lt-ltb 0 (suc x) (omega arith))

-- order 8's weights are those that section 3.1 suggests
pub suggested_weights : (y : Yard) → SumWeights y ↔ ((y.revisit ≡ suggested_weight y) × (y.split ≡ 1))
suggested_weights y = (λ w. (w.0 ∙ sym (suggested_boxes y), w.1), λ w. (w.0 ∙ suggested_boxes y, w.1))

-- and the boxes are those that any row moves
pub moved_weights : (y : Yard) (row : List ℕ) → SumWeights y ↔ ((y.revisit ≡ (outcome y row).direct + (outcome y row).splits) × (y.split ≡ 1))
moved_weights y row = (λ w. (w.0 ∙ sym (all_moved y row), w.1), λ w. (w.0 ∙ all_moved y row, w.1))

-- what is asked of weights: a revisit weighs enough from the sum on where a split move weighs 1, from a multiple of it on where that weighs more
pub multiple_outweighs : (y : Yard) → 1 ≤ y.split → y.split * boxes_of y ≤ y.revisit → Outweighs y
multiple_outweighs y some-weight enough = (some-weight, omega arith)

pub greater_outweighs : (y : Yard) → boxes_of y ≤ y.revisit → y.split ≡ 1 → Outweighs y
greater_outweighs y h e = multiple_outweighs y (omega arith) (rw e (omega arith))

pub sum_outweighs : (y : Yard) → SumWeights y → Outweighs y
sum_outweighs y w = greater_outweighs y (omega (arith, w.0)) w.1

-- ---- a revisit has a split move

module _ (n : ℕ) (a : ℕ → ℕ → ℕ) (row : List ℕ) where
  -- the boxes from a supplier in a later slot are split moves
  late-splits : (i j : ℕ) → T (late_supplier a row i j) → 1 ≤ split_boxes a row i j
  unfolding late_supplier split_boxes
  late-splits i j t =
      let (some-boxes, later) = both_of (ltb 0 (a i j)) (ltb (slot_of row i) (slot_of row j)) t in
      let before = ltb→lt (slot_of row i) (slot_of row j) later in
      rw (ne_eqb (slot_of row i) (slot_of row j) (λ e. omega arith)) (ltb→lt 0 (a i j) some-boxes)

  revisit_splits : (i : ℕ) (b : Bool) → revisiting n a row i ≡ b → bit b ≤ splits_to n a row i
  unfolding revisiting splits_to
  revisit_splits i true e =
      let (j, h, late) = some_of n (late_supplier a row i) (rw e tt) in
      le_trans (late-splits i j late) (term_le_sum n (split_boxes a row i) j h)
  revisit_splits i false e = omega arith

  pub revisits-splits : revisits n a row ≤ splits n a row
  unfolding revisits count splits
  revisits-splits = sum_le n (λ i. bit (revisiting n a row i)) (splits_to n a row) (λ i h. revisit_splits i (revisiting n a row i) refl)

-- ---- weights that compare revisits first

-- a further revisit adds its weight v and that of a split move, w; split moves of all b boxes are the most that can be saved for it
further_revisit : (v w r p s q b : ℕ) → p ≤ b → 1 ≤ q → r < s → weighed v w r p + (v + w) ≤ weighed v w s q + w * b
unfolding weighed
further_revisit v w r p s q b few some-split fewer =
    omega (arith, mul-le-mul_left {m = suc r} {n = s} v fewer, mul-suc v r, mul-le-mul_left {m = p} {n = b} w few, mul-le-mul_left {m = 1} {n = q} w some-split)

module _ (y : Yard) where
  -- of any two rows, allowed or not
  further_costs : (row other : List ℕ) → (revisits_of y) row < (revisits_of y) other → cost y row + (y.revisit + y.split) ≤ cost y other + y.split * boxes_of y
  unfolding cost
  further_costs row other fewer =
      further_revisit y.revisit y.split ((revisits_of y) row) ((splits_of y) row) ((revisits_of y) other) ((splits_of y) other) (boxes_of y)
      (splits_boxes y.trains (received y) row) (omega (arith, revisits-splits y.trains (received y) other)) fewer

  -- of two that have as many revisits, k split moves more
  further_splits : (row other : List ℕ) (k : ℕ) → (revisits_of y) row ≡ (revisits_of y) other → (splits_of y) row + k ≤ (splits_of y) other → cost y row + y.split * k ≤ cost y other
  unfolding cost weighed
  further_splits row other k same more =
      rw same (omega (arith, mul-le-mul_left {m = (splits_of y) row + k} {n = (splits_of y) other} y.split more, mul-add y.split ((splits_of y) row) k))

  -- so the one that is no dearer has no more, where they weigh something
  no_more-splits : 1 ≤ y.split → (row other : List ℕ) → (revisits_of y) row ≡ (revisits_of y) other → cost y row ≤ cost y other → (splits_of y) row ≤ (splits_of y) other
  no_more-splits some-weight row other same c =
      ⊎_elim (λ l. l) (λ l. absurd (omega (arith, further_splits other row 1 (sym same) (omega arith)))) (le_or_lt ((splits_of y) row) ((splits_of y) other))

  module _ (o : Outweighs y) where
    pub fewer_cheaper : (row other : List ℕ) → (outcome y row).revisits < (outcome y other).revisits → cost y row < cost y other
    fewer_cheaper row other fewer = omega (arith, further_costs row other fewer, o.0, o.1)

    -- the cost compares rows by revisits, and those with as many by split moves
    pub lexicographic : (row other : List ℕ)
        → (cost y row ≤ cost y other)
        ↔ (((outcome y row).revisits < (outcome y other).revisits) ⊎ (((outcome y row).revisits ≡ (outcome y other).revisits) × ((outcome y row).splits ≤ (outcome y other).splits)))
    lexicographic row other = (
      λ c. ⊎_elim (λ (l : (revisits_of y) other ≤ (revisits_of y) row). let e = same c l in inr (e, no_more-splits o.0 row other e c)) (λ l. inl l) (le_or_lt ((revisits_of y) other) ((revisits_of y) row)),
      ⊎_elim (λ l. omega (arith, fewer_cheaper row other l)) (λ p. omega (arith, further_splits row other 0 p.0 (omega (arith, p.1)))),
    )
      where
        same : cost y row ≤ cost y other → (revisits_of y) other ≤ (revisits_of y) row → (revisits_of y) row ≡ (revisits_of y) other
        same c l = ⊎_elim (λ (k : (revisits_of y) row ≤ (revisits_of y) other). omega arith) (λ k. absurd (omega (arith, fewer_cheaper other row k))) (le_or_lt ((revisits_of y) row) ((revisits_of y) other))

    module _ (Kind : List ℕ → Type 0) (row : List ℕ) where
      pub cheapest_fewest : CheapestOf y Kind row → FewestOf y Kind row
      cheapest_fewest (is_of_kind, least) = record {
        is_of_kind = is_of_kind;
        revisits = λ other k. ⊎_elim (λ l. omega arith) (λ p. omega (arith, p.0)) ((lexicographic row other).0 (least other k));
        splits = λ other k same. ⊎_elim (λ l. absurd (omega arith)) (λ p. p.1) ((lexicographic row other).0 (least other k));
      }

      pub fewest_cheapest : FewestOf y Kind row → CheapestOf y Kind row
      fewest_cheapest f = (
        f.is_of_kind,
        λ other k.
            (lexicographic row other).1
            (⊎_elim (λ (l : (revisits_of y) other ≤ (revisits_of y) row). let same = le_antisymm (f.revisits other k) l in inr (same, f.splits other k (sym same))) (λ l. inl l)
            (le_or_lt ((revisits_of y) other) ((revisits_of y) row))),
      )

    -- of all allowed rows; order 8, of the best plan
    pub fewest_exactly : (row : List ℕ) → Fewest y row ↔ Cheapest y row
    fewest_exactly row = (fewest_cheapest (λ r. T (allowed y r)) row, cheapest_fewest (λ r. T (allowed y r)) row)

    pub best_fewest : (row : List ℕ) → Best y row → Fewest y row
    best_fewest row b = (fewest_exactly row).1 (b.is_allowed, b.least)

  -- ---- a revisit that weighs one split move less: of the cheapest rows some may have more revisits than others, but the best plan has the
  -- fewest, since order 5 puts fewer revisits first

  pub best_fewest_below : 1 ≤ y.split → y.split * boxes_of y ≤ y.revisit + y.split → (row : List ℕ) → Best y row → Fewest y row
  unfolding precedes
  best_fewest_below some-weight enough row b = record {
    is_of_kind = b.is_allowed;
    revisits = λ other k.
        ⊎_elim (λ l. l)
        (λ (l : (revisits_of y) other < (revisits_of y) row).
        let same : cost y other ≡ cost y row = omega (arith, further_costs other row l, b.least other k) in
        absurd (b.first other k same (key_less (revisits y.trains (received y)) (by_key (slot_total y.trains) (by_sets y)) other row l)))
        (le_or_lt ((revisits_of y) row) ((revisits_of y) other));
    splits = λ other k same. no_more-splits some-weight row other (sym same) (b.least other k);
  }

-- ---- any day, given order 8's weights: nothing else of it changes, its allowed rows are what they were, and the cheapest of them are those
-- with the fewest revisits and, among these, the fewest split moves, whatever the weights of before

module _ (y : Yard) where
  pub reweighed_weights : SumWeights (reweighed y)
  reweighed_weights = (refl, refl)

  pub reweighed-rest : ((reweighed y).trains ≡ y.trains) × ((reweighed y).tracks ≡ y.tracks) × ((reweighed y).slots ≡ y.slots)
      × ((reweighed y).numbers ≡ y.numbers) × ((reweighed y).first ≡ y.first) × ((reweighed y).last ≡ y.last) × ((reweighed y).groups ≡ y.groups)
      × ((reweighed y).width ≡ y.width) × ((reweighed y).boxes ≡ y.boxes)
  reweighed-rest = (refl, refl, refl, refl, refl, refl, refl, refl, refl)

  module _ (row : List ℕ) where
    pub reweighed-allowed : allowed (reweighed y) row ≡ allowed y row
    unfolding allowed fitting
    reweighed-allowed = refl

    pub reweighed_exactly : Fewest y row ↔ Cheapest (reweighed y) row
    unfolding allowed fitting
    reweighed_exactly =
        let e = fewest_exactly (reweighed y) (sum_outweighs (reweighed y) reweighed_weights) row in (
          λ f. e.0 (record { is_of_kind = f.is_of_kind; revisits = f.revisits; splits = f.splits }),
          λ c. let f = e.1 c in record { is_of_kind = f.is_of_kind; revisits = f.revisits; splits = f.splits },
        )

    pub reweighed_fewest : Best (reweighed y) row → Fewest y row
    reweighed_fewest b = reweighed_exactly.1 (b.is_allowed, b.least)
