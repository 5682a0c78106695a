-- Laws of Streaming.antt of specs/.
-- Merging as a loop does it, that holds no more than `width` values: each value joins those that are held, what is then beyond the width is
-- dropped, and a flag says that something was. In the end it holds the first values of the merged list, and the flag says that this is longer
-- (`streamed_is`). A value that comes before none of a full list changes nothing (`rejected`).
-- Assumes nothing.
use Rattle.std.specs.Prelude.{◌≡◌, Bool, ◌&&◌, ◌||◌, ◌⊎◌, ◌≢◌, T, get_or}
use Rattle.std.proofs.Math.Path.{refl, sym, ap, ap₂}
use Rattle.std.proofs.Common.{◌∙◌, subst, inl, inr, ⊎_elim, lt→ltb, eq-eqb, ne_eqb, eqb-true}
use Rattle.std.proofs.Math.Bool.{true, false, not, cond}
use mathlib.Core.List.Memᴰ
use mathlib.Core.List.{List, [], ◌∷◌, Memᴰ}
use Prim.Native.Nat.{ℕ, zero, suc, ◌≤◌, ◌<◌, zero-le}
use Rattle.std.proofs.Math.Nat.{le_refl}
use native.Mathlib.Omega.{arith}
use Rattle.std.proofs.Math.Dec.{ltb, eqb, ltb→lt}
use Rattle.std.proofs.Math.ListN.{length, take}
use Rattle.std.proofs.Math.Seq.{take_all, take-take, take-nil}
use Rattle.fold.specs.Test.{is_true, is_false, of_false, same_test_lem, test, left, right, either_of}
use Rattle.fold.specs.Counting.{same_or, le_or_lt}
use Rattle.model.specs.Order.{Order}
use Rattle.merging.proofs.First.{take_of}
use Rattle.merging.specs.Merging.{matched, without, insert, add, merged, InOrder}
use Rattle.merging.proofs.Merging.{matched_by, not_matched, without_of, is_merged}
use Rattle.merging.specs.Streaming.{Held, streamed}

module _ {X : Type 0} (key : X → ℕ) (before : X → X → Bool) (o : Order before) where
  -- ---- without a key

  pub without_none : (k : ℕ) (l : List X) → ((z : X) → Memᴰ z l → key z ≢ k) → without key k l ≡ l
  unfolding without
  without_none k [] h = refl
  without_none k (z ∷ l) h =
      ap (λ b. cond b (without key k l) (z ∷ without key k l)) (ne_eqb (key z) k (h z (Memᴰ.head refl)))
      ∙ ap (λ (r : List X). z ∷ r) (without_none k l (λ w at. h w (Memᴰ.tail at)))

  -- at most one value goes
  without_length : (k : ℕ) (l : List X) → InOrder key before l → length l ≤ suc (length (without key k l))
  unfolding without
  without_length k [] h = zero-le
  without_length k (z ∷ l) h = go (eqb (key z) k) refl (without_length k l h.1)
    where
      go : (b : Bool) → eqb (key z) k ≡ b → length l ≤ suc (length (without key k l)) → suc (length l) ≤ suc (length (cond b (without key k l) (z ∷ without key k l)))
      go true e later =
          let own : (w : X) → Memᴰ w l → key w ≢ k = λ w at q. (h.0 w at).0 (q ∙ sym (eqb-true (key z) k e)) in
          omega (arith, ap length (without_none k l own))
      go false e later = omega arith

  without_take : (k width : ℕ) (l : List X) → InOrder key before l → take width (without key k (take (suc width) l)) ≡ take width (without key k l)
  unfolding without
  without_take k zero l h = refl
  without_take k (suc width) [] h = refl
  without_take k (suc width) (z ∷ l) h = go (eqb (key z) k) refl (without_take k width l h.1)
    where
      go : (b : Bool) → eqb (key z) k ≡ b → take width (without key k (take (suc width) l)) ≡ take width (without key k l)
          → take (suc width) (cond b (without key k (take (suc width) l)) (z ∷ without key k (take (suc width) l))) ≡ take (suc width) (cond b (without key k l) (z ∷ without key k l))
      go true e later =
          let own : (w : X) → Memᴰ w l → key w ≢ k = λ w at q. (h.0 w at).0 (q ∙ sym (eqb-true (key z) k e)) in
          ap (take (suc width)) (without_none k (take (suc width) l) (λ w at. own w (take_of (suc width) l w at)))
          ∙ take-take (suc width) (suc width) l (le_refl (suc width))
          ∙ sym (ap (take (suc width)) (without_none k l own))
      go false e later = ap (λ (r : List X). z ∷ r) later

  pub take_ordered : (width : ℕ) (l : List X) → InOrder key before l → InOrder key before (take width l)
  take_ordered zero l h = tt
  take_ordered (suc width) [] h = tt
  take_ordered (suc width) (z ∷ l) h = (λ w at. h.0 w (take_of width l w at), take_ordered width l h.1)

  -- ---- how a value joins an ordered list, from the front

  -- x comes before all, where it comes before the first
  before_all : (x z : X) (l : List X) → InOrder key before (z ∷ l) → T (before x z) → (w : X) → Memᴰ w (z ∷ l) → T (before x w)
  before_all x z l h t w at =
      ⊎_elim (λ (q : w ≡ z). subst (λ u. T (before x u)) (sym q) t)
      (λ a. ⊎_elim (λ s. s) (λ (later : T (before x w) → ⊥). absurd (o.through x w z later (h.0 w a).1 t)) (test (before x w)))
      (Memᴰ.cases_cons at)

  insert_front : (x : X) (l : List X) → ((w : X) → Memᴰ w l → T (before x w)) → insert before x l ≡ x ∷ l
  unfolding insert
  insert_front x [] h = refl
  insert_front x (z ∷ l) h = ap (λ b. cond b (x ∷ z ∷ l) (z ∷ insert before x l)) (is_true (before x z) (h z (Memᴰ.head refl)))

  pub add_front : (x z : X) (l : List X) → InOrder key before (z ∷ l) → T (before x z) → add key before x (z ∷ l) ≡ x ∷ without key (key x) (z ∷ l)
  unfolding add
  add_front x z l h t =
      let first = before_all x z l h t in
      let new : matched key before x (z ∷ l) ≡ false =
      is_false (matched key before x (z ∷ l)) (λ m. let (w, at, s) = matched_by key before o x (z ∷ l) m in s.first (first w at)) in
      ap (λ b. cond b (z ∷ l) (insert before x (without key (key x) (z ∷ l)))) new
      ∙ insert_front x (without key (key x) (z ∷ l)) (λ w at. first w (without_of key before o (key x) (z ∷ l) w at).0)

  pub add_same : (x z : X) (l : List X) → (T (before x z) → ⊥) → key z ≡ key x → add key before x (z ∷ l) ≡ z ∷ l
  unfolding add matched
  add_same x z l later e =
      ap (λ b. cond b (z ∷ l) (insert before x (without key (key x) (z ∷ l))))
      (ap₂ (λ a b. (a && not b) || matched key before x l) (eq-eqb (key z) (key x) e) (is_false (before x z) later))

  pub add_later : (x z : X) (l : List X) → (T (before x z) → ⊥) → key z ≢ key x → add key before x (z ∷ l) ≡ z ∷ add key before x l
  unfolding add matched without insert
  add_later x z l later d =
      ap₂ (λ a b. cond ((a && not (before x z)) || matched key before x l) (z ∷ l) (insert before x b))
      (ne_eqb (key z) (key x) d) (ap (λ b. cond b (without key (key x) l) (z ∷ without key (key x) l)) (ne_eqb (key z) (key x) d))
      ∙ ap (λ b. cond (matched key before x l) (z ∷ l) (cond b (x ∷ z ∷ without key (key x) l) (z ∷ insert before x (without key (key x) l)))) (is_false (before x z) later)
      ∙ front (matched key before x l)
    where
      front : (b : Bool) → cond b (z ∷ l) (z ∷ insert before x (without key (key x) l)) ≡ z ∷ cond b l (insert before x (without key (key x) l))
      front true = refl
      front false = refl

  -- ---- what is beyond the width is not needed

  pub add-take : (x : X) (width : ℕ) (l : List X) → InOrder key before l → take width (add key before x (take width l)) ≡ take width (add key before x l)
  add-take x zero l h = refl
  add-take x (suc width) [] h = refl
  add-take x (suc width) (z ∷ l) h =
      ⊎_elim
      (λ (t : T (before x z)).
      ap (take (suc width)) (add_front x z (take width l) (take_ordered (suc width) (z ∷ l) h) t)
      ∙ ap (λ (r : List X). x ∷ r) (without_take (key x) width (z ∷ l) h)
      ∙ sym (ap (take (suc width)) (add_front x z l h t)))
      (λ (later : T (before x z) → ⊥).
      ⊎_elim
      (λ (e : key z ≡ key x).
      ap (take (suc width)) (add_same x z (take width l) later e) ∙ ap (λ (r : List X). z ∷ r) (take-take width width l (le_refl width))
      ∙ sym (ap (take (suc width)) (add_same x z l later e)))
      (λ (d : key z ≢ key x).
      ap (take (suc width)) (add_later x z (take width l) later d) ∙ ap (λ (r : List X). z ∷ r) (add-take x width l h.1)
      ∙ sym (ap (take (suc width)) (add_later x z l later d)))
      (same_or (key z) (key x)))
      (test (before x z))

  insert_length : (x : X) (l : List X) → length (insert before x l) ≡ suc (length l)
  unfolding insert
  insert_length x [] = refl
  insert_length x (z ∷ l) = go (before x z) (insert_length x l)
    where
      go : (b : Bool) → length (insert before x l) ≡ suc (length l) → length (cond b (x ∷ z ∷ l) (z ∷ insert before x l)) ≡ suc (suc (length l))
      go true e = refl
      go false e = ap suc e

  -- the list never gets shorter
  add-length : (x : X) (l : List X) → InOrder key before l → length l ≤ length (add key before x l)
  unfolding add
  add-length x l h = go (matched key before x l)
    where
      go : (b : Bool) → length l ≤ length (cond b l (insert before x (without key (key x) l)))
      go true = le_refl (length l)
      go false = omega (arith, insert_length x (without key (key x) l), without_length (key x) l h)

  -- it is longer than the width where it was, or where what was held is with the value
  flag : (x : X) (width : ℕ) (l : List X) → InOrder key before l
      → (ltb width (length l) || ltb width (length (add key before x (take width l)))) ≡ ltb width (length (add key before x l))
  flag x width l h =
      same_test_lem (ltb width (length l) || ltb width (length (add key before x (take width l)))) (ltb width (length (add key before x l)))
      (λ t.
      ⊎_elim (λ (m : width < length l). lt→ltb width (length (add key before x l)) (omega (arith, add-length x l h)))
      (λ (m : length l ≤ width).
      ⊎_elim (λ a. absurd (omega (arith, ltb→lt width (length l) a))) (λ a. subst (λ r. T (ltb width (length (add key before x r)))) (take_all width l m) a)
      (either_of (ltb width (length l)) (ltb width (length (add key before x (take width l)))) t))
      (or_swap (le_or_lt (length l) width)))
      (λ t.
      ⊎_elim (λ (m : length l ≤ width). right (ltb width (length l)) (ltb width (length (add key before x (take width l)))) (subst (λ r. T (ltb width (length (add key before x r)))) (sym (take_all width l m)) t))
      (λ (m : width < length l). left (ltb width (length l)) (ltb width (length (add key before x (take width l)))) (lt→ltb width (length l) m))
      (le_or_lt (length l) width))
    where
      or_swap : (length l ≤ width) ⊎ (width < length l) → (width < length l) ⊎ (length l ≤ width)
      or_swap (inl a) = inr a
      or_swap (inr a) = inl a

  -- ---- the loop

  pub streamed_is : (width : ℕ) (xs : List X)
      → streamed key before width xs ≡ record { values = take width (merged key before xs); dropped = ltb width (length (merged key before xs)) }
  unfolding streamed merged
  streamed_is width [] = λ i. record { values = sym (take-nil {A = X} width) i; dropped = sym (is_false (ltb width 0) (λ t. omega (arith, ltb→lt width 0 t))) i }
  streamed_is width (x ∷ xs) =
      let l : List X = merged key before xs in
      let ordered : InOrder key before (merged key before xs) = (is_merged key before o xs).ordered in
      let e = streamed_is width xs in
      ap (λ (held : Held X). record { values = take width (add key before x held.values); dropped = held.dropped || ltb width (length (add key before x held.values)) }) e
      ∙ (λ i. record { values = add-take x width l ordered i; dropped = flag x width l ordered i })

  -- ---- a value that comes before none of those held, where there is no room, changes nothing that is held

  insert_last : (x : X) (l : List X) → ((z : X) → Memᴰ z l → T (before x z) → ⊥) → take (length l) (insert before x l) ≡ l
  unfolding insert
  insert_last x [] h = refl
  insert_last x (z ∷ l) h =
      ap (λ b. take (suc (length l)) (cond b (x ∷ z ∷ l) (z ∷ insert before x l))) (is_false (before x z) (h z (Memᴰ.head refl)))
      ∙ ap (λ (r : List X). z ∷ r) (insert_last x l (λ w at. h w (Memᴰ.tail at)))

  pub rejected : (x : X) (l : List X) → ((z : X) → Memᴰ z l → T (before x z) → ⊥) → take (length l) (add key before x l) ≡ l
  unfolding add
  rejected x l h = go (matched key before x l) refl
    where
      go : (b : Bool) → matched key before x l ≡ b → take (length l) (cond b l (insert before x (without key (key x) l))) ≡ l
      go true e = take_all (length l) l (le_refl (length l))
      go false e =
          ap (λ r. take (length l) (insert before x r)) (without_none (key x) l (λ z at q. h z at (not_matched key before o x l (of_false e) z at q)))
          ∙ insert_last x l h

  -- and what does not come before the last value of an ordered list comes before none
  pub last_decides : (x none : X) (l : List X) (k : ℕ) → InOrder key before l → suc k ≡ length l → (T (before x (get_or l k none)) → ⊥)
      → (z : X) → Memᴰ z l → T (before x z) → ⊥
  last_decides x none [] k h e later z at = absurd (Memᴰ.not-nil at)
  last_decides x none (w ∷ []) zero h e later z at =
      ⊎_elim (λ (q : z ≡ w). subst (λ u. T (before x u) → ⊥) (sym q) later) (λ a. absurd (Memᴰ.not-nil a)) (Memᴰ.cases_cons at)
  last_decides x none (w ∷ []) (suc k) h e later z at = absurd (omega arith)
  last_decides x none (w ∷ v ∷ l) zero h e later z at = absurd (omega arith)
  last_decides x none (w ∷ v ∷ l) (suc k) h e later z at =
      let others = last_decides x none (v ∷ l) k h.1 (omega arith) later in
      ⊎_elim
      (λ (q : z ≡ w). subst (λ u. T (before x u) → ⊥) (sym q) (o.through x v w (others v (Memᴰ.head refl)) (h.0 v (Memᴰ.head refl)).1))
      (others z) (Memᴰ.cases_cons at)
