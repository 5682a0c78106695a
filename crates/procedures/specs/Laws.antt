-- The laws that the proofs of the procedures' loops cite.
-- Assumes nothing.
use Rattle.std.specs.Prelude.{◌≡◌, refl, Bool, true, false, ◌&&◌, ◌||◌, List, ℕ, ◌+◌, ◌*◌, ◌≤◌, ◌<◌, leb, ltb}
use Rattle.std.proofs.Common.{sym, ◌∙◌, ⊎_elim, mul-one, zero-add, arith}
use Rattle.std.proofs.Math.Path.{ap}
use Rattle.std.proofs.Math.Nat.{mul-zero}
use Rattle.std.proofs.Math.Numerals.{add-one}
use Rattle.std.proofs.Math.ListN.{set}
use borrow.Author.Tests.{le-leb, lt-ltb, le-ltb}
use Rattle.fold.specs.Fold.{some, sum}
use Rattle.fold.specs.Counting.{le_or_lt}
use Rattle.model.specs.Model.{weighed, in_time, outside_boxes}
use Rattle.procedures.specs.Procedures.{track_free, suits, waits, earliest, come_to, waiting_supplier, priority, select, fill_to, served_to}

-- the test of slot t + 1, as the code asks it
pub suits_is : (n tracks : ℕ) (first last row : List ℕ) (i t : ℕ) {a b : Bool} → a ≡ in_time first last i (t + 1) → b ≡ track_free n tracks row (t + 1)
    → suits n tracks first last row i t ≡ (a && b)
unfolding suits
suits_is n tracks first last row i t e f = rw (e, f, add-one)

-- ---- what a train would add

module _ (n revisit split : ℕ) (a : ℕ → ℕ → ℕ) (row : List ℕ) (t i : ℕ) where
  pub priority_waiting : {r : Bool} → r ≡ some n (waiting_supplier a row i) → r ≡ true → revisit + split * sum n (outside_boxes a row t i) ≡ priority n revisit split a row t i
  unfolding priority weighed
  priority_waiting e q = rw (← e, q, mul-one)

  pub priority_none : {r : Bool} → r ≡ some n (waiting_supplier a row i) → r ≡ false → split * sum n (outside_boxes a row t i) ≡ priority n revisit split a row t i
  unfolding priority weighed
  priority_none e q = rw (← e, q, mul-zero, zero-add)

-- ---- the train to serve next: the trains below k are looked at, `chosen` is selected among them, and `least` is its priority

module _ (n revisit split : ℕ) (a : ℕ → ℕ → ℕ) (first last row : List ℕ) (t : ℕ) where
  pub record Selecting (k chosen least : ℕ) : Type 0 where
    pub is : chosen ≡ select n revisit split a first last row t k
    pub key : chosen < n → least ≡ priority n revisit split a row t chosen

  pub selecting_none : Selecting 0 n 0
  unfolding select
  selecting_none = record { is = refl; key = λ h. absurd (omega arith) }

  module _ {chosen least : ℕ} (k : ℕ) (s : Selecting k chosen least) where
    -- the test of the definition, from what the code compares
    test_is : (leb n chosen || ltb (priority n revisit split a row t k) least)
        ≡ (leb n (select n revisit split a first last row t k) || ltb (priority n revisit split a row t k) (priority n revisit split a row t (select n revisit split a first last row t k)))
    test_is =
        ⊎_elim
        (λ (h : n ≤ chosen). rw (← s.is, le-leb n chosen h))
        (λ (h : chosen < n). rw (← s.is, s.key h))
        (le_or_lt n chosen)

    pub selecting_pass : (waits row k && in_time first last k t) ≡ false → Selecting (k + 1) chosen least
    unfolding select
    selecting_pass e = record { is = s.is ∙ rw (add-one, e); key = s.key }

    pub selecting_keep : {p : ℕ} → (waits row k && in_time first last k t) ≡ true → p ≡ priority n revisit split a row t k → (leb n chosen || ltb p least) ≡ false
        → Selecting (k + 1) chosen least
    unfolding select
    selecting_keep e q f = record { is = s.is ∙ rw (add-one, e, ← test_is, ← q, f); key = s.key }

    pub selecting_take : {p : ℕ} → (waits row k && in_time first last k t) ≡ true → p ≡ priority n revisit split a row t k → (leb n chosen || ltb p least) ≡ true
        → Selecting (k + 1) k p
    unfolding select
    selecting_take e q f = record { is = rw (add-one, e, ← test_is, ← q, f); key = λ h. q }

-- ---- the rows, one step more

module _ (n tracks slots : ℕ) (first last : List ℕ) (k : ℕ) {t : ℕ} {row : List ℕ} (is : row ≡ come_to n tracks slots first last k)
    (found : t ≡ earliest n tracks slots first last row k) where
  found_there : earliest n tracks slots first last (come_to n tracks slots first last k) k ≡ t
  found_there = ap (λ r. earliest n tracks slots first last r k) (sym is) ∙ sym found

  pub come_take : t < slots → set row k (t + 1) ≡ come_to n tracks slots first last (k + 1)
  unfolding come_to
  come_take h = ap (λ r. set r k (t + 1)) is ∙ rw (add-one k, add-one t, found_there, lt-ltb t slots h)

  pub come_pass : slots ≤ t → row ≡ come_to n tracks slots first last (k + 1)
  unfolding come_to
  come_pass h = is ∙ rw (add-one k, found_there, le-ltb t slots h)

module _ (n revisit split : ℕ) (a : ℕ → ℕ → ℕ) (first last : List ℕ) where
  module _ (t : ℕ) (start : List ℕ) (g : ℕ) {i : ℕ} {row : List ℕ} (is : row ≡ fill_to n revisit split a first last t start g)
      (found : i ≡ select n revisit split a first last row t n) where
    chosen_there : select n revisit split a first last (fill_to n revisit split a first last t start g) t n ≡ i
    chosen_there = ap (λ r. select n revisit split a first last r t n) (sym is) ∙ sym found

    pub fill_take : i < n → set row i t ≡ fill_to n revisit split a first last t start (g + 1)
    unfolding fill_to
    fill_take h = ap (λ r. set r i t) is ∙ rw (add-one g, chosen_there, lt-ltb i n h)

    pub fill_pass : n ≤ i → row ≡ fill_to n revisit split a first last t start (g + 1)
    unfolding fill_to
    fill_pass h = is ∙ rw (add-one g, chosen_there, le-ltb i n h)

  pub served_more : (tracks t : ℕ) {row after : List ℕ} → row ≡ served_to n revisit split a first last tracks t → after ≡ fill_to n revisit split a first last (t + 1) row tracks
      → after ≡ served_to n revisit split a first last tracks (t + 1)
  unfolding served_to
  served_more tracks t e f = f ∙ ap (λ r. fill_to n revisit split a first last (t + 1) r tracks) e ∙ rw add-one
