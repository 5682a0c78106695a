-- Laws of BestOf.antt of specs/.
-- The best plan of a day as a function: the best of all its rows, or none. A day has at most one best plan, and it has one exactly
-- where it has an allowed row.
-- Assumes nothing.
use Rattle.std.specs.Prelude.{◌≡◌, refl, List, ℕ, zero, suc, ◌≤◌, ◌<◌, T, eqb}
use Rattle.std.proofs.Common.{sym, ap, ◌∙◌, subst, le_antisymm, arith, ext_get_or, eq-eqb, eqb-true}
use Rattle.std.proofs.Math.Option.{Option, none, some}
use Rattle.sets.specs.Mask.{has, has-mask}
use Rattle.model.specs.Model.{Yard, received, slot_of, revisits, cost, allowed, slot_mask, lower, by_key, slot_total, by_sets, precedes, Best, NoRow}
use Rattle.model.specs.Rows.{Fitting, all_rows}
use Rattle.model.proofs.Rows.{allowed_is, allowed-listed}
use Rattle.model.specs.Order.{Order, Picked}
use Rattle.model.proofs.Order.{key_not, key_order, key_total, converse, along, lower_order, lower_same, picked}
use Rattle.model.specs.BestOf.{better, best_of, Says}

-- ---- rows by their masks

pub has-slot : (n : ℕ) (row : List ℕ) (t i : ℕ) → i < n → has (slot_mask n row t) i ≡ eqb (slot_of row i) t
unfolding slot_mask
has-slot n row t i h = has-mask n (λ i. eqb (slot_of row i) t) i h

module _ (y : Yard) where
  -- allowed rows whose masks agree are equal
  pub same_masks : (r s : List ℕ) → T (allowed y r) → T (allowed y s)
      → ((t : ℕ) → t < y.slots → slot_mask y.trains r (suc t) ≡ slot_mask y.trains s (suc t)) → r ≡ s
  same_masks r s p q same =
      ext_get_or 0 r s (a.long ∙ sym (allowed_is y s q).long) (λ i h. at i (subst (λ k. i < k) a.long h) (slot_of r i) refl)
    where
      a : Fitting y r
      a = allowed_is y r p

      at : (i : ℕ) → i < y.trains → (t : ℕ) → slot_of r i ≡ t → slot_of r i ≡ slot_of s i
      at i h zero z = absurd (omega (arith, a.slotted i h))
      at i h (suc t) z =
          let b = a.slotted i h in
          z
          ∙ sym
          (eqb-true (slot_of s i) (suc t)
          (sym (has-slot y.trains s (suc t) i h) ∙ ap (λ m. has m i) (sym (same t (omega arith))) ∙ has-slot y.trains r (suc t) i h ∙ eq-eqb (slot_of r i) (suc t) z))

  sets_order : Order (by_sets y)
  unfolding by_sets
  sets_order =
      along (λ f g. lower y.slots g f) (converse (lower y.slots) (lower_order y.slots)) (λ r t. slot_mask y.trains r (suc t))

  pub precedes_order : Order (precedes y)
  unfolding precedes
  precedes_order =
      key_order (revisits y.trains (received y)) (by_key (slot_total y.trains) (by_sets y)) (key_order (slot_total y.trains) (by_sets y) sets_order)

  -- of two different allowed rows one comes before the other
  sets_total : (r s : List ℕ) → T (allowed y r) → T (allowed y s) → (T (by_sets y r s) → ⊥) → (T (by_sets y s r) → ⊥) → r ≡ s
  unfolding by_sets
  sets_total r s p q a b =
      same_masks r s p q (lower_same y.slots (λ t. slot_mask y.trains r (suc t)) (λ t. slot_mask y.trains s (suc t)) b a)

  pub precedes-total : (r s : List ℕ) → T (allowed y r) → T (allowed y s) → (T (precedes y r s) → ⊥) → (T (precedes y s r) → ⊥) → r ≡ s
  unfolding precedes
  precedes-total r s p q a b =
      key_total (revisits y.trains (received y)) (by_key (slot_total y.trains) (by_sets y)) r s
      (key_total (slot_total y.trains) (by_sets y) r s (sets_total r s p q)) a b

  -- ---- at most one best plan

  pub best_unique : (r s : List ℕ) → Best y r → Best y s → r ≡ s
  best_unique r s a b =
      let e : cost y r ≡ cost y s = le_antisymm (a.least s b.is_allowed) (b.least r a.is_allowed) in
      precedes-total r s a.is_allowed b.is_allowed (b.first r a.is_allowed e) (a.first s b.is_allowed (sym e))

  says : (o : Option (List ℕ)) → Picked (allowed y) (better y) (all_rows y.trains y.slots) o → (Says y) o
  says none p = λ s a. p s (allowed-listed y s a) a
  says (some r) p = record { is_allowed = p.0; least = λ s a. (no_better s a).0; first = λ s a. (no_better s a).1 }
    where
      no_better : (s : List ℕ) → T (allowed y s) → (cost y r ≤ cost y s) × (cost y s ≡ cost y r → T (precedes y s r) → ⊥)
      no_better s a = key_not (cost y) (precedes y) s r (p.1 s (allowed-listed y s a) a)

  pub best_says : (Says y) (best_of y)
  unfolding best_of
  best_says =
      says (best_of y) (picked (allowed y) (better y) (key_order (cost y) (precedes y) precedes_order) (all_rows y.trains y.slots))

  -- and nothing else says it
  pub best_is : (r : List ℕ) → Best y r → best_of y ≡ some r
  best_is r b = go (best_of y) best_says
    where
      go : (o : Option (List ℕ)) → (Says y) o → o ≡ some r
      go none n = absurd (n r b.is_allowed)
      go (some s) c = ap some (best_unique s r c b)

  pub none_is : NoRow y → best_of y ≡ none
  none_is n = go (best_of y) best_says
    where
      go : (o : Option (List ℕ)) → (Says y) o → o ≡ none
      go none m = refl
      go (some s) c = absurd (n s c.is_allowed)

  pub is_best : (r : List ℕ) → best_of y ≡ some r → Best y r
  is_best r e = subst (Says y) e best_says

  pub is_none_lem : best_of y ≡ none → NoRow y
  is_none_lem e = subst (Says y) e best_says
