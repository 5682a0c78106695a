-- A plan that is offered to those in the array (offering, Offered.antt) joins them as merging says: those held are then of the first plans of
-- the merged list, and the flag says that it is longer (`offered_is`).
-- Assumes nothing.
use Rattle.std.specs.Prelude.{◌≡◌, Bool, true, false, ◌||◌, ltb, get_or}
use Rattle.std.proofs.Math.Path.{refl, sym, ap, subst}
use Rattle.std.proofs.Common.{◌∙◌, le_refl, arith, get_or-take, lt-ltb, le-ltb}
use mathlib.Core.List.{List, []}
use Prim.Native.Nat.{ℕ, suc, ◌+◌, ◌-◌, ◌≤◌, ◌<◌}
use Rattle.std.proofs.Math.ListN.{length, take}
use Rattle.std.proofs.Math.Seq.{take_all, length-take-le}
use Rattle.fold.specs.Fold.{lowest_le}
use Rattle.model.specs.Model.{Yard}
use Rattle.merging.specs.Merging.{InOrder, add}
use Rattle.merging.specs.Places.{Joined, place_of, place_of_key}
use Rattle.merging.proofs.Places.{joins_at, joins_not}
use Rattle.beam.specs.Beam.{Plan, rest, comes_before}
use Rattle.beam.proofs.Successors.{plans_order}
use Rattle.beam.specs.Words.{OfTrains}
use Rattle.beam.specs.HeldWords.{held_word, Holds, held_before, Shifted}
use Rattle.beam.proofs.HeldWords.{joined_holds, place_of_rest, place_of_plan}
use Rattle.held_plans.specs.declared.HeldPlan.{HeldPlan}
use Rattle.held_plans.specs.Words.{word, words}
use Rattle.offering.specs.Put.{Put}
use Rattle.held_plans.specs.Placed.{rest_place, plan_place}
use Rattle.offering.specs.Offered.{Offered, stays, replaces, joins, pushes, drops}

or_false : (b c : Bool) → c ≡ false → (b || c) ≡ b
or_false true c e = refl
or_false false c e = e

or_true : (b c : Bool) → c ≡ true → (b || c) ≡ true
or_true true c e = refl
or_true false c e = e

-- the words, the count and the flag are those of l with x
pub record Joins (y : Yard) (width : ℕ) (x : Plan) (l : List Plan) (dropped : Bool) (b : List HeldPlan) (count : ℕ) (dropped' : Bool) : Type 0 where
  pub holds : Holds y (words b) (take width (add (rest y) (comes_before y) x l))
  pub many : length (take width (add (rest y) (comes_before y) x l)) ≡ count
  pub flag : (dropped || ltb width (length (add (rest y) (comes_before y) x l))) ≡ dropped'

-- those of the plans l stand in a, x has the words w
module _ (y : Yard) (few : y.slots ≤ 12) (width : ℕ) (l : List Plan) (ordered : InOrder (rest y) (comes_before y) l) (room : length l ≤ width)
    (trains : (k : ℕ) → k < length l → OfTrains y (get_or l k [])) (a : List HeldPlan) (h : Holds y (words a) l)
    (x : Plan) (w : HeldPlan) (own : (c : ℕ) → c < 16 → word w c ≡ held_word y x c) (of-trains : OfTrains y x) where
  more : List Plan
  more = add (rest y) (comes_before y) x l

  same : ℕ
  same = place_of_key (rest y) (comes_before y) [] (rest y x) l

  place : ℕ
  place = place_of (rest y) (comes_before y) [] x l

  same_is : rest_place a (length l) w.rest ≡ same
  unfolding held_word same
  same_is = place_of_rest y (words a) l h w.rest ∙ ap (λ r. place_of_key (rest y) (comes_before y) [] r l) (own 15 (omega arith))

  place_is : plan_place y.slots a (length l) w ≡ place
  unfolding place
  place_is = place_of_plan y (words a) l h (word w) x own few of-trains trains

  shifted : {b : List HeldPlan} {p u : ℕ} → Put w a b p u → Shifted y x (words a) (words b) p u
  shifted p = record {
    low = λ k c m. ap (λ q. word q c) (p.low k m);
    here = λ c m. ap (λ q. word q c) p.here ∙ own c m;
    moved = λ k c m n. ap (λ q. word q c) (p.moved k m n);
    high = λ k c m. ap (λ q. word q c) (p.high k m);
  }

  -- x joins at its place
  at_place : place ≤ same → Joined [] x l more place same
  unfolding place same more
  at_place m = joins_at (rest y) (comes_before y) [] (plans_order y) x l ordered m

  -- the first m plans, where no more are kept
  all_kept : (m count : ℕ) (b : List HeldPlan) (dropped : Bool) → Holds y (words b) (take m more) → length more ≡ m → m ≤ width → m ≡ count → Joins y width x l dropped b count dropped
  unfolding more
  all_kept m count b dropped holds long fits is =
      let whole : take width more ≡ more = take_all width more (omega arith) in
      record {
        holds = subst (Holds y (words b)) (take_all m more (omega arith) ∙ sym whole) holds;
        many = ap length whole ∙ long ∙ is;
        flag = or_false dropped (ltb width (length more)) (le-ltb width (length more) (omega arith));
      }

  -- one more than the width: the last is dropped
  one_dropped : (count : ℕ) (b : List HeldPlan) (dropped : Bool) → Holds y (words b) (take (length l) more) → length more ≡ suc (length l) → length l ≡ width → length l ≡ count
      → Joins y width x l dropped b count true
  unfolding more
  one_dropped count b dropped holds long full is = record {
    holds = subst (λ m. Holds y (words b) (take m more)) full holds;
    many = length-take-le width more (omega arith) ∙ sym full ∙ is;
    flag = or_true dropped (ltb width (length more)) (lt-ltb width (length more) (omega arith));
  }

  pub offered_is : (dropped : Bool) (b : List HeldPlan) (count : ℕ) (dropped' : Bool) → Offered w a (length l) dropped width y.slots b count dropped'
      → Joins y width x l dropped b count dropped'
  unfolding more same place
  offered_is dropped b count dropped' (stays m) =
      let is : more ≡ l = joins_not (rest y) (comes_before y) [] (plans_order y) x l (omega (arith, same_is, place_is)) in
      all_kept (length l) (length l) a dropped (subst (λ r. Holds y (words a) (take (length l) r)) (sym is) (subst (Holds y (words a)) (sym (take_all (length l) l (le_refl (length l)))) h))
      (ap length is) room refl
  offered_is dropped b count dropped' (replaces before inside put) =
      let j = at_place (omega (arith, same_is, place_is)) in
      let long : length more ≡ length l = j.as_long (omega (arith, same_is)) in
      let s : Shifted y x (words a) (words b) place same = subst (λ u. Shifted y x (words a) (words b) place u) same_is (subst (λ p. Shifted y x (words a) (words b) p (rest_place a (length l) w.rest)) place_is (shifted put)) in
      all_kept (length l) (length l) b dropped
      (joined_holds y x l more (words a) (words b) place same same (length l) j (omega (arith, same_is, place_is)) (omega (arith, same_is)) (omega (arith, same_is, place_is)) (le_refl same) (omega arith) (λ k m n. n) s h)
      long room refl
  offered_is dropped b count dropped' (joins new free put) =
      let end : same ≡ length l = sym same_is ∙ new in
      let inside : place ≤ length l = omega (arith, place_is, lowest_le (length l) (held_before y.slots (word w) (words a))) in
      let j = at_place (omega arith) in
      let long : length more ≡ suc (length l) = j.longer (omega arith) in
      let s : Shifted y x (words a) (words b) place same = subst (λ u. Shifted y x (words a) (words b) place u) (sym end) (subst (λ p. Shifted y x (words a) (words b) p (length l)) place_is (shifted put)) in
      all_kept (suc (length l)) (length l + 1) b dropped
      (joined_holds y x l more (words a) (words b) place same same (suc (length l)) j inside (omega arith) (omega arith) (le_refl same) (omega arith) (λ k m n. n) s h)
      long free (omega arith)
  offered_is dropped b count dropped' (pushes new full before put) =
      let end : same ≡ length l = sym same_is ∙ new in
      let inside : place < length l = omega (arith, place_is) in
      let j = at_place (omega arith) in
      let long : length more ≡ suc (length l) = j.longer (omega arith) in
      let s : Shifted y x (words a) (words b) place (length l - 1) = subst (λ p. Shifted y x (words a) (words b) p (length l - 1)) place_is (shifted put) in
      one_dropped (length l) b dropped
      (joined_holds y x l more (words a) (words b) place same (length l - 1) (length l) j (omega arith) (omega arith) (omega arith) (omega arith) (omega arith) (λ k m n. absurd (omega arith)) s h)
      long (omega arith) refl
  offered_is dropped b count dropped' (drops new full last) =
      let end : same ≡ length l = sym same_is ∙ new in
      let here : place ≡ length l = sym place_is ∙ last in
      let j = at_place (omega arith) in
      let long : length more ≡ suc (length l) = j.longer (omega arith) in
      one_dropped (length l) a dropped
      (λ k c m n.
      let small : k < length l = omega (arith, length-take-le (length l) more (omega arith)) in
      h k c small n ∙ ap (λ p. held_word y p c) (sym (get_or-take (length l) more k [] small ∙ j.below k (omega arith))))
      long (omega arith) refl
