-- What the figures of a report keep: one day more, the greatest that they can be, sums of figures, every day counted once, and means.
-- Assumes nothing.
use Rattle.std.specs.Prelude.{◌≡◌, refl, Bool, true, false, cond, ◌⊎◌, ◌≢◌, ℕ, suc, ◌+◌, ◌*◌, ◌/◌, ◌%◌, ◌^◌, ◌≤◌, ◌<◌, eqb, get_or, set, replicate}
use Rattle.std.proofs.Common.{sym, ap, ap₂, ◌∙◌, subst, inl, inr, ⊎_elim, suc-mul, mod-lt, div-add-mod', le_refl, le_trans, mul-le-mul, length-set, ext_get_or, get_or-set_same, get_or-set_other, eq-eqb, ne_eqb}
use mathlib.Core.List.{List, [], ◌∷◌, ◌++◌, map}
use Rattle.std.proofs.Math.Nat.{add-zero}
use native.Mathlib.Omega.{arith}
use Rattle.std.proofs.Math.ListN.{length}
use Rattle.fold.specs.Fold.{bit, sum}
use Rattle.fold.specs.Sums.{sum_ext, sum-add, sum_zero, sum_only}
use Rattle.fold.specs.Counting.{same_or, le_or_lt, bit_le}
use Rattle.fold.specs.Listed.{listed, length-listed, listed_at}
use Rattle.day.specs.Answer.{Answer, gives, refuses, code, where_given}
use Rattle.day_figures.specs.Laws.{Within, Small}
use Rattle.day_figures.specs.declared.Figures.{Figures}
use Rattle.period_report.specs.declared.Mean.{Mean}
use Rattle.period_report.specs.declared.Tally.{Tally}
use Rattle.period_report.specs.Report.{total, days_under, total_of, counters, tally_of, mean}

-- ---- totals

module _ (f : Answer Figures → ℕ) where
  pub total_join : (a b : List (Answer Figures)) → total f (a ++ b) ≡ total f a + total f b
  unfolding total
  total_join [] b = omega arith
  total_join (d ∷ a) b = let h = total_join a b in omega arith

  pub total-next : (a : List (Answer Figures)) (d : Answer Figures) → total f (a ++ (d ∷ [])) ≡ total f a + f d
  unfolding total
  total-next a d = let h = total_join a (d ∷ []) in omega arith

-- ---- what holds of each answer

abbrev pub Each : (Answer Figures → Type 0) → List (Answer Figures) → Type 0
Each P [] = Unit
Each P (a ∷ answers) = P a × Each P answers

pub each_map : {X : Type 0} (P : Answer Figures → Type 0) (f : X → Answer Figures) → ((x : X) → P (f x)) → (xs : List X) → Each P (map f xs)
each_map P f h [] = tt
each_map P f h (x ∷ xs) = (h x, each_map P f h xs)

-- figures that add up day by day add up over the period
pub total-sum : (f g h : Answer Figures → ℕ) (answers : List (Answer Figures)) → Each (λ a. f a + g a ≡ h a) answers → total f answers + total g answers ≡ total h answers
unfolding total
total-sum f g h [] e = refl
total-sum f g h (a ∷ answers) e = let r = total-sum f g h answers e.1 in let s = e.0 in omega arith

-- a number of which no day has more than m
pub total-most : (f : Answer Figures → ℕ) (m : ℕ) (answers : List (Answer Figures)) → Each (λ a. f a ≤ m) answers → total f answers ≤ length answers * m
unfolding total
total-most f m [] e = omega arith
total-most f m (a ∷ answers) e = let r = total-most f m answers e.1 in let s = e.0 in omega (arith, suc-mul (length answers) m)

-- ---- one day more

abbrev pub plus : Figures → Figures → Figures
plus a b = record {
  revisits = a.revisits + b.revisits;
  splits = a.splits + b.splits;
  direct = a.direct + b.direct;
  boxes = a.boxes + b.boxes;
  savings = a.savings + b.savings;
}

-- the tally with one day more, as the code adds it
abbrev pub added : Tally → Answer Figures → Tally
added t a = record { days = set t.days (code a) (get_or t.days (code a) 0 + 1); totals = where_given a t.totals (plus t.totals) }

-- from the counters and the totals that the code has made
pub added-planned : (t : Tally) (f : Figures) {days : List ℕ} {totals : Figures} → days ≡ set t.days 0 (get_or t.days 0 0 + 1) → totals ≡ plus t.totals f
    → record { days = days; totals = totals } ≡ added t (gives f)
added-planned t f d s = λ i. record { days = d i; totals = s i }

pub added_refused : (t : Tally) (k : ℕ) (carries : List ℕ) {days : List ℕ} {j : ℕ} → j ≡ k → days ≡ set t.days j (get_or t.days j 0 + 1)
    → record { days = days; totals = t.totals } ≡ added t (refuses k carries)
added_refused t k carries e d = let q = d ∙ ap (λ (k : ℕ). set t.days k (get_or t.days k 0 + 1)) e in λ i. record { days = q i; totals = t.totals }

pub tally_none : tally_of [] ≡ record { days = replicate counters 0; totals = record { revisits = 0; splits = 0; direct = 0; boxes = 0; savings = 0 } }
unfolding tally_of total listed
tally_none = refl

-- a counter counts one more
counted_next : (n k : ℕ) (f g : ℕ → ℕ) → k < n → ((i : ℕ) → g i ≡ f i + bit (eqb k i)) → listed n g ≡ set (listed n f) k (get_or (listed n f) k 0 + 1)
counted_next n k f g h e =
    ext_get_or 0 (listed n g) (set (listed n f) k (get_or (listed n f) k 0 + 1)) (length-listed n g ∙ sym (simp length-set (length-listed n f)))
    (λ i l. at i (subst (λ m. i < m) (length-listed n g) l) (same_or i k))
  where
    at : (i : ℕ) → i < n → (i ≡ k) ⊎ (i ≢ k) → get_or (listed n g) i 0 ≡ get_or (set (listed n f) k (get_or (listed n f) k 0 + 1)) i 0
    at i l (inl q) =
        let here : get_or (listed n g) k 0 ≡ get_or (set (listed n f) k (get_or (listed n f) k 0 + 1)) k 0 =
        listed_at n g 0 k h ∙ e k ∙ ap₂ (λ x b. x + bit b) (sym (listed_at n f 0 k h)) (eq-eqb k k refl)
        ∙ sym (get_or-set_same (listed n f) k (get_or (listed n f) k 0 + 1) 0 (omega (arith, length-listed n f))) in
        subst (λ i. get_or (listed n g) i 0 ≡ get_or (set (listed n f) k (get_or (listed n f) k 0 + 1)) i 0) (sym q) here
    at i l (inr d) =
        let same : g i ≡ f i = omega (arith, e i, ap bit (ne_eqb k i (λ q. d (sym q)))) in
        listed_at n g 0 i l ∙ same ∙ sym (listed_at n f 0 i l) ∙ sym (get_or-set_other (listed n f) k i (get_or (listed n f) k 0 + 1) 0 d)

module _ (answers : List (Answer Figures)) where
  days-next : (a : Answer Figures) → code a < counters
      → listed counters (days_under (answers ++ (a ∷ []))) ≡ set (listed counters (days_under answers)) (code a) (get_or (listed counters (days_under answers)) (code a) 0 + 1)
  days-next a h = counted_next counters (code a) (days_under answers) (days_under (answers ++ (a ∷ []))) h (λ k. total-next (λ x. bit (eqb (code x) k)) answers a)

  pub tally_next : (a : Answer Figures) → code a < counters → tally_of (answers ++ (a ∷ [])) ≡ added (tally_of answers) a
  unfolding tally_of
  tally_next (gives f) h =
      let days = days-next (gives f) h in
      let one : (g : Figures → ℕ) → total_of (answers ++ (gives f ∷ [])) g ≡ total_of answers g + g f = λ g. total-next (λ a. where_given a 0 g) answers (gives f) in
      let r = one (λ f. f.revisits) in
      let s = one (λ f. f.splits) in
      let d = one (λ f. f.direct) in
      let b = one (λ f. f.boxes) in
      let v = one (λ f. f.savings) in
      λ i. record { days = days i; totals = record { revisits = r i; splits = s i; direct = d i; boxes = b i; savings = v i } }
  tally_next (refuses k carries) h =
      let days = days-next (refuses k carries) h in
      let none : (g : Figures → ℕ) → total_of (answers ++ (refuses k carries ∷ [])) g ≡ total_of answers g =
      λ g. total-next (λ a. where_given a 0 g) answers (refuses k carries) ∙ add-zero (total_of answers g) in
      let r = none (λ f. f.revisits) in
      let s = none (λ f. f.splits) in
      let d = none (λ f. f.direct) in
      let b = none (λ f. f.boxes) in
      let v = none (λ f. f.savings) in
      λ i. record { days = days i; totals = record { revisits = r i; splits = s i; direct = d i; boxes = b i; savings = v i } }

pub tally_size : (answers : List (Answer Figures)) → length (tally_of answers).days ≡ counters
unfolding tally_of
tally_size answers = length-listed counters (days_under answers)

-- ---- no sum wraps: a tally that takes one day more, and a day that it takes

-- two numbers up to here have a sum of 64 bits
abbrev pub sum_limit : ℕ
sum_limit = 2 ^ 62

pub record Light (t : Tally) : Type 0 where
  pub size : length t.days ≡ counters
  pub days : (k : ℕ) → k < counters → get_or t.days k 0 < sum_limit
  pub totals : Within sum_limit t.totals

pub small_number : (m : ℕ) (a : Answer Figures) → Small m a → code a < counters
small_number m (gives f) s = omega arith
small_number m (refuses k carries) s = omega arith

pub small_more : (m n : ℕ) (a : Answer Figures) → m ≤ n → Small m a → Small n a
small_more m n (gives f) h s =
    record { revisits = le_trans s.revisits h; splits = le_trans s.splits h; direct = le_trans s.direct h; boxes = le_trans s.boxes h; savings = le_trans s.savings h }
small_more m n (refuses k carries) h s = s

-- a figure of small days
small_figures : (m : ℕ) (g : Figures → ℕ) → ((f : Figures) → Within m f → g f ≤ m) → (answers : List (Answer Figures)) → Each (Small m) answers
    → Each (λ a. where_given a 0 g ≤ m) answers
small_figures m g h [] e = tt
small_figures m g h (gives f ∷ answers) e = (h f e.0, small_figures m g h answers e.1)
small_figures m g h (refuses k carries ∷ answers) e = (omega arith, small_figures m g h answers e.1)

all_bits : (k : ℕ) (answers : List (Answer Figures)) → Each (λ a. bit (eqb (code a) k) ≤ 1) answers
all_bits k [] = tt
all_bits k (a ∷ answers) = (bit_le (eqb (code a) k), all_bits k answers)

module _ (m : ℕ) (answers : List (Answer Figures)) (small : Each (Small m) answers) where
  pub totals_within : Within (length answers * m) (tally_of answers).totals
  unfolding tally_of
  totals_within =
      let most : (g : Figures → ℕ) → ((f : Figures) → Within m f → g f ≤ m) → total_of answers g ≤ length answers * m =
      λ g h. total-most (λ a. where_given a 0 g) m answers (small_figures m g h answers small) in
      record {
        revisits = most (λ f. f.revisits) (λ f w. w.revisits);
        splits = most (λ f. f.splits) (λ f w. w.splits);
        direct = most (λ f. f.direct) (λ f w. w.direct);
        boxes = most (λ f. f.boxes) (λ f w. w.boxes);
        savings = most (λ f. f.savings) (λ f w. w.savings);
      }

pub days-within : (answers : List (Answer Figures)) (k : ℕ) → k < counters → get_or (tally_of answers).days k 0 ≤ length answers
unfolding tally_of
days-within answers k h = omega (arith, listed_at counters (days_under answers) 0 k h, total-most (λ a. bit (eqb (code a) k)) 1 answers (all_bits k answers))

pub tally_light : (m : ℕ) (answers : List (Answer Figures)) → Each (Small m) answers → length answers < sum_limit → length answers * m ≤ sum_limit → Light (tally_of answers)
unfolding tally_of
tally_light m answers small few fits =
    record {
      size = tally_size answers;
      days = λ k h. omega (arith, days-within answers k h);
      totals = small_more (length answers * m) sum_limit (gives (tally_of answers).totals) fits (totals_within m answers small);
    }

-- ---- every day is counted once

bit-cond : (b : Bool) → bit b ≡ cond b 1 0
bit-cond true = refl
bit-cond false = refl

same_test_lem : (k i : ℕ) → eqb k i ≡ eqb (suc k) (suc i)
same_test_lem k i =
    ⊎_elim (λ e. eq-eqb k i e ∙ sym (eq-eqb (suc k) (suc i) (ap suc e))) (λ d. ne_eqb k i d ∙ sym (ne_eqb (suc k) (suc i) (λ (q : suc k ≡ suc i). d (omega arith)))) (same_or k i)

-- just one of the numbers below n is k
once : (n k : ℕ) → k < n → sum n (λ i. bit (eqb k i)) ≡ 1
once n k h =
    sum_ext n (λ i. bit (eqb k i)) (λ t. cond (eqb (suc k) (suc t)) 1 0) (λ i l. bit-cond (eqb k i) ∙ ap (λ b. cond b 1 0) (same_test_lem k i)) ∙ sum_only n (suc k) 1 (omega arith) h

under_all : (answers : List (Answer Figures)) → Each (λ a. code a < counters) answers → sum counters (days_under answers) ≡ length answers
unfolding total
under_all [] e = sum_zero counters (days_under []) (λ k h. refl)
under_all (a ∷ answers) e =
    let one = once counters (code a) e.0 in
    let rest = under_all answers e.1 in
    sum-add counters (λ k. bit (eqb (code a) k)) (days_under answers) ∙ omega arith

pub all_counted : (answers : List (Answer Figures)) → Each (λ a. code a < counters) answers → sum counters (λ k. get_or (tally_of answers).days k 0) ≡ length answers
unfolding tally_of
all_counted answers e =
    sum_ext counters (λ k. get_or (listed counters (days_under answers)) k 0) (days_under answers) (λ k h. listed_at counters (days_under answers) 0 k h) ∙ under_all answers e

-- ---- means

pub mean_none : (total planned : ℕ) → planned ≡ 0 → record { quotient = 0; remainder = 0 } ≡ mean total planned
unfolding mean
mean_none total planned e = rw (eq-eqb planned 0 e)

pub mean-some : (total planned : ℕ) → (planned ≡ 0 → ⊥) → record { quotient = total / planned; remainder = total % planned } ≡ mean total planned
unfolding mean
mean-some total planned e = rw (ne_eqb planned 0 e)

-- the quotient times the planned days and the remainder are the total, and the remainder is less than the planned days
pub mean_exact : (total planned : ℕ) → 0 < planned → (total ≡ (mean total planned).quotient * planned + (mean total planned).remainder) × ((mean total planned).remainder < planned)
unfolding mean
mean_exact total planned h = rw (ne_eqb planned 0 (λ q. omega arith)) (sym (div-add-mod' total planned), mod-lt total h)

-- neither is more than the total
pub mean-most : (total planned : ℕ) → ((mean total planned).quotient ≤ total) × ((mean total planned).remainder ≤ total)
mean-most total planned = ⊎_elim none some (le_or_lt planned 0)
  where
    none : planned ≤ 0 → ((mean total planned).quotient ≤ total) × ((mean total planned).remainder ≤ total)
    none h =
        let e = mean_none total planned (omega arith) in
        (omega (arith, ap (λ (m : Mean). m.quotient) e), omega (arith, ap (λ (m : Mean). m.remainder) e))

    some : 0 < planned → ((mean total planned).quotient ≤ total) × ((mean total planned).remainder ≤ total)
    some h =
        let m = (mean_exact total planned h).0 in
        let times : (mean total planned).quotient * 1 ≤ (mean total planned).quotient * planned = mul-le-mul (le_refl (mean total planned).quotient) h in
        (omega arith, omega arith)
