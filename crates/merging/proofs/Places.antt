-- Laws of Places.antt of specs/.
-- How a value joins an ordered list, by places, as code does it in an array: x goes to the first place whose value it comes before, and the
-- values from there up to the one with its key, or up to the end, move up by one (`joins_at`). Where the one with its key stands earlier
-- nothing changes (`joins_not`).
-- Assumes nothing.
use Rattle.std.specs.Prelude.{◌≡◌, Bool, ◌≢◌, T, eqb, length}
use Rattle.std.proofs.Math.Path.{refl, ap}
use Rattle.std.proofs.Common.{sym, ◌∙◌, subst, subst₂, ⊎_elim, le_of_suc-le-suc, arith, eq-eqb, ne_eqb}
use Rattle.std.proofs.Math.Bool.{cond}
use mathlib.Core.List.Memᴰ
use mathlib.Core.List.{List, [], ◌∷◌, Memᴰ}
use Prim.Native.Nat.{ℕ, zero, suc, ◌≤◌, ◌<◌}
use Rattle.std.proofs.Math.ListN.{get_or}
use Rattle.fold.specs.Test.{is_true, is_false, test}
use Rattle.fold.specs.Fold.{lowest}
use Rattle.fold.specs.Counting.{same_or}
use Rattle.model.specs.Order.{Order}
use Rattle.merging.specs.Merging.{matched, without, insert, add, InOrder}
use Rattle.merging.proofs.Streaming.{without_none, add_front, add_same, add_later}
use Rattle.merging.specs.Places.{Joined, place_of, place_of_key}

module _ {X : Type 0} (key : X → ℕ) (before : X → X → Bool) (none : X) where
  -- from the front
  place_here : (x z : X) (l : List X) → T (before x z) → (place_of key before none) x (z ∷ l) ≡ 0
  unfolding place_of lowest
  place_here x z l t = ap (λ b. cond b 0 (suc ((place_of key before none) x l))) (is_true (before x z) t)

  place_later : (x z : X) (l : List X) → (T (before x z) → ⊥) → (place_of key before none) x (z ∷ l) ≡ suc ((place_of key before none) x l)
  unfolding place_of lowest
  place_later x z l f = ap (λ b. cond b 0 (suc ((place_of key before none) x l))) (is_false (before x z) f)

  key_here : (k : ℕ) (z : X) (l : List X) → key z ≡ k → (place_of_key key before none) k (z ∷ l) ≡ 0
  unfolding place_of_key lowest
  key_here k z l e = ap (λ b. cond b 0 (suc ((place_of_key key before none) k l))) (eq-eqb (key z) k e)

  key_later : (k : ℕ) (z : X) (l : List X) → key z ≢ k → (place_of_key key before none) k (z ∷ l) ≡ suc ((place_of_key key before none) k l)
  unfolding place_of_key lowest
  key_later k z l d = ap (λ b. cond b 0 (suc ((place_of_key key before none) k l))) (ne_eqb (key z) k d)

  place_none : (x : X) → (place_of key before none) x [] ≡ 0
  unfolding place_of lowest
  place_none x = refl

  key_none : (k : ℕ) → (place_of_key key before none) k [] ≡ 0
  unfolding place_of_key lowest
  key_none k = refl

  -- no value has a key whose place is the end
  no_place : (k : ℕ) (l : List X) → length l ≤ (place_of_key key before none) k l → (z : X) → Memᴰ z l → key z ≢ k
  no_place k [] m z at e = absurd (Memᴰ.not-nil at)
  no_place k (w ∷ l) m z at e =
      ⊎_elim (λ (q : z ≡ w). omega (arith, key_here k w l (sym (ap key q) ∙ e)))
      (λ a.
      ⊎_elim (λ (s : key w ≡ k). omega (arith, key_here k w l s)) (λ (d : key w ≢ k). no_place k l (omega (arith, key_later k w l d)) z a e) (same_or (key w) k))
      (Memᴰ.cases_cons at)

  without_keeps : (k : ℕ) (z : X) (l : List X) → key z ≢ k → without key k (z ∷ l) ≡ z ∷ without key k l
  unfolding without
  without_keeps k z l d = ap (λ b. cond b (without key k l) (z ∷ without key k l)) (ne_eqb (key z) k d)

  without_drops : (k : ℕ) (z : X) (l : List X) → key z ≡ k → without key k (z ∷ l) ≡ without key k l
  unfolding without
  without_drops k z l e = ap (λ b. cond b (without key k l) (z ∷ without key k l)) (eq-eqb (key z) k e)

  without_nothing : (k i : ℕ) → get_or (without key k []) i none ≡ none
  unfolding without
  without_nothing k i = refl

  -- ---- a list without a key: the values after its place move down

  module _ (o : Order before) where
    without_low : (k : ℕ) (l : List X) → InOrder key before l → (i : ℕ) → i < (place_of_key key before none) k l → get_or (without key k l) i none ≡ get_or l i none
    without_low k [] h i m = absurd (omega (arith, key_none k))
    without_low k (z ∷ l) h i m =
        ⊎_elim (λ (e : key z ≡ k). absurd (omega (arith, key_here k z l e)))
        (λ (d : key z ≢ k). ap (λ (r : List X). get_or r i none) (without_keeps k z l d) ∙ step i (without_low k l h.1) (omega (arith, key_later k z l d)))
        (same_or (key z) k)
      where
        step : (i : ℕ) → ((i : ℕ) → i < (place_of_key key before none) k l → get_or (without key k l) i none ≡ get_or l i none) → i < suc ((place_of_key key before none) k l)
            → get_or (z ∷ without key k l) i none ≡ get_or (z ∷ l) i none
        step zero later m = refl
        step (suc i) later m = later i (le_of_suc-le-suc m)

    without_high : (k : ℕ) (l : List X) → InOrder key before l → (i : ℕ) → (place_of_key key before none) k l ≤ i → get_or (without key k l) i none ≡ get_or l (suc i) none
    without_high k [] h i m = without_nothing k i
    without_high k (z ∷ l) h i m =
        ⊎_elim (λ (e : key z ≡ k). ap (λ (r : List X). get_or r i none) (without_drops k z l e ∙ without_none key before o k l (λ w at q. (h.0 w at).0 (q ∙ sym e))))
        (λ (d : key z ≢ k). ap (λ (r : List X). get_or r i none) (without_keeps k z l d) ∙ step i (without_high k l h.1) (subst (λ p. p ≤ i) (key_later k z l d) m))
        (same_or (key z) k)
      where
        step : (i : ℕ) → ((i : ℕ) → (place_of_key key before none) k l ≤ i → get_or (without key k l) i none ≡ get_or l (suc i) none) → suc ((place_of_key key before none) k l) ≤ i
            → get_or (z ∷ without key k l) i none ≡ get_or l i none
        step zero later m = absurd (omega arith)
        step (suc i) later m = later i (le_of_suc-le-suc m)

    -- it is shorter by one where it had the key
    without_shorter : (k : ℕ) (l : List X) → InOrder key before l → (place_of_key key before none) k l < length l → suc (length (without key k l)) ≡ length l
    without_shorter k [] h m = absurd (omega arith)
    without_shorter k (z ∷ l) h m =
        ⊎_elim (λ (e : key z ≡ k). ap (λ (r : List X). suc (length r)) (without_drops k z l e ∙ without_none key before o k l (λ w at q. (h.0 w at).0 (q ∙ sym e))))
        (λ (d : key z ≢ k). ap (λ (r : List X). suc (length r)) (without_keeps k z l d) ∙ ap suc (without_shorter k l h.1 (omega (arith, key_later k z l d))))
        (same_or (key z) k)

    without_whole : (k : ℕ) (l : List X) → length l ≤ (place_of_key key before none) k l → without key k l ≡ l
    without_whole k l m = without_none key before o k l (λ w at e. no_place k l m w at e)

    -- ---- a value joins

    joins_first : (x z : X) (l : List X) → InOrder key before (z ∷ l) → Joined none x (z ∷ l) (x ∷ without key (key x) (z ∷ l)) 0 ((place_of_key key before none) (key x) (z ∷ l))
    joins_first x z l h = record {
      below = λ i m. absurd (omega arith);
      here = refl;
      moved = λ i m n. without_low (key x) (z ∷ l) h i n;
      above = λ i m. after i m;
      as_long = λ m. without_shorter (key x) (z ∷ l) h m;
      longer = λ m. ap (λ (r : List X). suc (length r)) (without_whole (key x) (z ∷ l) m);
    }
      where
        after : (i : ℕ) → (place_of_key key before none) (key x) (z ∷ l) < i → get_or (x ∷ without key (key x) (z ∷ l)) i none ≡ get_or (z ∷ l) i none
        after zero m = absurd (omega arith)
        after (suc i) m = without_high (key x) (z ∷ l) h i (le_of_suc-le-suc m)

    joins_later : (x z : X) (l r : List X) (place same : ℕ) → Joined none x l r place same → Joined none x (z ∷ l) (z ∷ r) (suc place) (suc same)
    joins_later x z l r place same j = record {
      below = at_below;
      here = j.here;
      moved = at_moved;
      above = at_above;
      as_long = λ m. ap suc (j.as_long (le_of_suc-le-suc m));
      longer = λ m. ap suc (j.longer (le_of_suc-le-suc m));
    }
      where
        at_below : (i : ℕ) → i < suc place → get_or (z ∷ r) i none ≡ get_or (z ∷ l) i none
        at_below zero m = refl
        at_below (suc i) m = j.below i (le_of_suc-le-suc m)

        at_moved : (i : ℕ) → suc place ≤ i → i < suc same → get_or r i none ≡ get_or (z ∷ l) i none
        at_moved zero m n = absurd (omega arith)
        at_moved (suc i) m n = j.moved i (le_of_suc-le-suc m) (le_of_suc-le-suc n)

        at_above : (i : ℕ) → suc same < i → get_or (z ∷ r) i none ≡ get_or (z ∷ l) i none
        at_above zero m = absurd (omega arith)
        at_above (suc i) m = j.above i (le_of_suc-le-suc m)

    joins_none : (x : X) → Joined none x [] (add key before x []) ((place_of key before none) x []) ((place_of_key key before none) (key x) [])
    unfolding add matched insert place_of place_of_key lowest without
    joins_none x = record {
      below = λ i m. absurd (omega arith);
      here = refl;
      moved = λ i m n. absurd (omega arith);
      above = after;
      as_long = λ m. absurd (omega arith);
      longer = λ m. refl;
    }
      where
        after : (i : ℕ) → 0 < i → get_or (x ∷ []) i none ≡ none
        after zero m = absurd (omega arith)
        after (suc i) m = refl

    pub joins_at : (x : X) (l : List X) → InOrder key before l → (place_of key before none) x l ≤ (place_of_key key before none) (key x) l
        → Joined none x l (add key before x l) ((place_of key before none) x l) ((place_of_key key before none) (key x) l)
    joins_at x [] h m = joins_none x
    joins_at x (z ∷ l) h m =
        ⊎_elim
        (λ (t : T (before x z)).
        subst₂ (λ r p. Joined none x (z ∷ l) r p ((place_of_key key before none) (key x) (z ∷ l))) (sym (add_front key before o x z l h t)) (sym (place_here x z l t)) (joins_first x z l h))
        (λ (later : T (before x z) → ⊥).
        ⊎_elim
        (λ (e : key z ≡ key x). absurd (omega (arith, place_later x z l later, key_here (key x) z l e)))
        (λ (d : key z ≢ key x).
        let p = place_later x z l later in
        let k = key_later (key x) z l d in
        subst (λ r. Joined none x (z ∷ l) r ((place_of key before none) x (z ∷ l)) ((place_of_key key before none) (key x) (z ∷ l))) (sym (add_later key before o x z l later d))
        (subst₂ (λ u v. Joined none x (z ∷ l) (z ∷ add key before x l) u v) (sym p) (sym k)
        (joins_later x z l (add key before x l) ((place_of key before none) x l) ((place_of_key key before none) (key x) l) (joins_at x l h.1 (omega arith)))))
        (same_or (key z) (key x)))
        (test (before x z))

    pub joins_not : (x : X) (l : List X) → (place_of_key key before none) (key x) l < (place_of key before none) x l → add key before x l ≡ l
    joins_not x [] m = absurd (omega (arith, place_none x))
    joins_not x (z ∷ l) m =
        ⊎_elim (λ (t : T (before x z)). absurd (omega (arith, place_here x z l t)))
        (λ (later : T (before x z) → ⊥).
        ⊎_elim (λ (e : key z ≡ key x). add_same key before o x z l later e)
        (λ (d : key z ≢ key x).
        add_later key before o x z l later d ∙ ap (λ (r : List X). z ∷ r) (joins_not x l (omega (arith, place_later x z l later, key_later (key x) z l d))))
        (same_or (key z) (key x)))
        (test (before x z))
