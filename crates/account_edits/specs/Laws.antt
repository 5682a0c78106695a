-- Each way out of a change comes to what it makes of the account.
-- Assumes nothing.
use Rattle.std.specs.Prelude.{◌≡◌, refl, Bool, true, false, cond, ◌&&◌, List, [], ◌∷◌, ℕ, suc, ◌-◌, ◌≤◌, ◌<◌, leb, get_or, Result, Ok, Err}
use Rattle.std.proofs.Common.{sym, ◌∙◌, arith}
use Rattle.std.proofs.Math.Path.{ap}
use Rattle.std.proofs.Math.Dec.{ltb, eqb}
use borrow.Author.Tests.{eq-eqb, ne_eqb, le-ltb, lt-ltb}
use Rattle.fold.specs.Fold.{lowest}
use Rattle.fold.specs.Test.{of_true}
use Rattle.model.specs.Model.{Yard, slot_of}
use Rattle.day.specs.Answer.{gives, refuses}
use Rattle.day.specs.Sound.{within, train_ranges}
use Rattle.day.specs.declared.Limits.{Limits}
use Rattle.rolling.specs.Rolling.{Account, place_of, is_listed, moved, source_without, source_with, without_train, with_train, with_boxes, cancel, add, set_boxes, number_in}
use Rattle.rolling.specs.Places.{listed_there, place_le}
use Rattle.account_edits.specs.Accounts.{placed, made}

-- ---- where a number stands

module _ (y : Yard) (x p : ℕ) where
  module _ (e : p ≡ lowest y.trains (λ i. leb x (get_or y.numbers i 0))) where
    pub placed_there : p < y.trains → get_or y.numbers p 0 ≡ x → Ok p ≡ placed y x
    unfolding placed is_listed place_of
    placed_there h n = rw (← e, lt-ltb p y.trains h, eq-eqb (get_or y.numbers p 0) x n)

    pub placed_other : p < y.trains → (get_or y.numbers p 0 ≡ x → ⊥) → Err p ≡ placed y x
    unfolding placed is_listed place_of
    placed_other h n = rw (← e, lt-ltb p y.trains h, ne_eqb (get_or y.numbers p 0) x n)

    pub placed_past : y.trains ≤ p → Err p ≡ placed y x
    unfolding placed is_listed place_of
    placed_past h = rw (← e, le-ltb p y.trains h)

  pub placed_ok : Ok p ≡ placed y x → (is_listed y x ≡ true) × (p ≡ place_of y x) × (p < y.trains)
  unfolding placed
  placed_ok e = go (is_listed y x) refl e
    where
      go : (b : Bool) → is_listed y x ≡ b → ◌≡◌ {A = Result ℕ ℕ} (Ok p) (cond b (Ok (place_of y x)) (Err (place_of y x))) → (is_listed y x ≡ true) × (p ≡ place_of y x) × (p < y.trains)
      go true q e = let same : p ≡ place_of y x = cc in (q, same, omega (arith, same, (listed_there y x (of_true q)).0))
      go false q e = absurd (let z : ◌≡◌ {A = ℕ} 0 1 = cc in omega arith)

  pub placed_err : Err p ≡ placed y x → (is_listed y x ≡ false) × (p ≡ place_of y x) × (p ≤ y.trains)
  unfolding placed
  placed_err e = go (is_listed y x) refl e
    where
      go : (b : Bool) → is_listed y x ≡ b → ◌≡◌ {A = Result ℕ ℕ} (Err p) (cond b (Ok (place_of y x)) (Err (place_of y x))) → (is_listed y x ≡ false) × (p ≡ place_of y x) × (p ≤ y.trains)
      go true q e = absurd (let z : ◌≡◌ {A = ℕ} 0 1 = cc in omega arith)
      go false q e = let same : p ≡ place_of y x = cc in (q, same, omega (arith, same, place_le y x))

-- ---- cancel

module _ (l : Limits) (a : Account) (x : ℕ) where
  pub cancel_number : number_in l x ≡ false → refuses 3 (0 ∷ []) ≡ made l a (cancel x)
  unfolding made
  cancel_number e = rw e

  module _ (e : number_in l x ≡ true) where
    pub cancel_unlisted : is_listed a.day x ≡ false → refuses 18 (0 ∷ []) ≡ made l a (cancel x)
    unfolding made
    cancel_unlisted f = rw (e, f)

    module _ (f : is_listed a.day x ≡ true) (p : ℕ) (q : p ≡ place_of a.day x) where
      pub cancel_stays : (eqb (slot_of a.served p) 0 && ltb 1 a.day.trains) ≡ false → refuses 18 (0 ∷ []) ≡ made l a (cancel x)
      unfolding made
      cancel_stays g = let g' = ap (λ p. eqb (slot_of a.served p) 0 && ltb 1 a.day.trains) (sym q) ∙ g in rw (e, f, g')

      pub cancel_made : {y : Yard} {kept : List ℕ} → (eqb (slot_of a.served p) 0 && ltb 1 a.day.trains) ≡ true → a.day.width ≡ 12 → y ≡ without_train p a.day
          → kept ≡ moved 12 (a.day.trains - 1) (source_without p) a.served → gives (record { day = y; closed = a.closed; served = kept }) ≡ made l a (cancel x)
      unfolding made
      cancel_made {y} {kept} g w d k =
          let g' = ap (λ p. eqb (slot_of a.served p) 0 && ltb 1 a.day.trains) (sym q) ∙ g in
          let days : y ≡ without_train (place_of a.day x) a.day = d ∙ ap (λ p. without_train p a.day) q in
          let slots : kept ≡ moved a.day.width (a.day.trains - 1) (source_without (place_of a.day x)) a.served =
          k ∙ ap (λ p. moved 12 (a.day.trains - 1) (source_without p) a.served) q ∙ ap (λ w. moved w (a.day.trains - 1) (source_without (place_of a.day x)) a.served) (sym w) in
          rw (e, f, g') (λ i. gives (record { day = days i; closed = a.closed; served = slots i }))

-- ---- add

module _ (l : Limits) (a : Account) (x first last : ℕ) where
  pub add_fields : within (train_ranges l a.day.slots) (x ∷ first ∷ last ∷ []) ≡ false → refuses 3 (0 ∷ []) ≡ made l a (add x first last)
  unfolding made
  add_fields e = rw e

  module _ (e : within (train_ranges l a.day.slots) (x ∷ first ∷ last ∷ []) ≡ true) where
    pub add-listed : is_listed a.day x ≡ true → refuses 19 (0 ∷ []) ≡ made l a (add x first last)
    unfolding made
    add-listed f = rw (e, f)

    module _ (f : is_listed a.day x ≡ false) where
      pub add-full : l.trains ≤ a.day.trains → refuses 19 (0 ∷ []) ≡ made l a (add x first last)
      unfolding made
      add-full h = rw (e, f, le-ltb a.day.trains l.trains h)

      module _ (h : a.day.trains < l.trains) where
        pub add-window : (leb first last && ltb a.closed first) ≡ false → refuses 5 (0 ∷ []) ≡ made l a (add x first last)
        unfolding made
        add-window g = rw (e, f, lt-ltb a.day.trains l.trains h, g)

        pub add-made : {y : Yard} {kept : List ℕ} (p : ℕ) → p ≡ place_of a.day x → (leb first last && ltb a.closed first) ≡ true → a.day.width ≡ 12
            → y ≡ with_train p x first last a.day → kept ≡ moved 12 (suc a.day.trains) (source_with a.day.trains p) a.served
            → gives (record { day = y; closed = a.closed; served = kept }) ≡ made l a (add x first last)
        unfolding made
        add-made {y} {kept} p q g w d k =
            let days : y ≡ with_train (place_of a.day x) x first last a.day = d ∙ ap (λ p. with_train p x first last a.day) q in
            let slots : kept ≡ moved a.day.width (suc a.day.trains) (source_with a.day.trains (place_of a.day x)) a.served =
            k ∙ ap (λ p. moved 12 (suc a.day.trains) (source_with a.day.trains p) a.served) q
            ∙ ap (λ w. moved w (suc a.day.trains) (source_with a.day.trains (place_of a.day x)) a.served) (sym w) in
            rw (e, f, lt-ltb a.day.trains l.trains h, g) (λ i. gives (record { day = days i; closed = a.closed; served = slots i }))

-- ---- set boxes

module _ (l : Limits) (a : Account) (to from boxes : ℕ) where
  pub boxes_fields : (number_in l to && number_in l from && leb boxes l.boxes) ≡ false → refuses 3 (0 ∷ []) ≡ made l a (set_boxes to from boxes)
  unfolding made
  boxes_fields e = rw e

  module _ (e : (number_in l to && number_in l from && leb boxes l.boxes) ≡ true) where
    pub boxes_no_to : is_listed a.day to ≡ false → refuses 18 (0 ∷ []) ≡ made l a (set_boxes to from boxes)
    unfolding made
    boxes_no_to f = rw (e, f)

    module _ (f : is_listed a.day to ≡ true) where
      pub boxes_no_from : is_listed a.day from ≡ false → refuses 18 (0 ∷ []) ≡ made l a (set_boxes to from boxes)
      unfolding made
      boxes_no_from g = rw (e, f, g)

      module _ (g : is_listed a.day from ≡ true) where
        pub boxes_same : to ≡ from → refuses 6 (0 ∷ []) ≡ made l a (set_boxes to from boxes)
        unfolding made
        boxes_same q = rw (e, f, g, eq-eqb to from q)

        pub boxes_made : {y : Yard} (p q : ℕ) → p ≡ place_of a.day to → q ≡ place_of a.day from → (to ≡ from → ⊥) → y ≡ with_boxes p q boxes a.day
            → gives (record { day = y; closed = a.closed; served = a.served }) ≡ made l a (set_boxes to from boxes)
        unfolding made
        boxes_made {y} p q i j n d =
            let days : y ≡ with_boxes (place_of a.day to) (place_of a.day from) boxes a.day =
            d ∙ ap (λ p. with_boxes p q boxes a.day) i ∙ ap (λ q. with_boxes (place_of a.day to) q boxes a.day) j in
            rw (e, f, g, ne_eqb to from n) (λ i. gives (record { day = days i; closed = a.closed; served = a.served }))
