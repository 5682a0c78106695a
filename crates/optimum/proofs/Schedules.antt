-- Laws of Schedules.antt of specs/.
-- Schedules: a list of sets, one for each stage, that uses up a set r. At stage t the set s may be chosen where it is a subset of what
-- remains, r, and passes the test `ok t r s`; it contributes `w t r s`. Test and contribution are any functions.
-- Schedules of equal value are compared by `Ahead`: at the lowest stage where they differ, the one with the larger set comes first.
-- Assumes nothing.
use Rattle.std.specs.Prelude.{◌≡◌, refl, Bool, List, [], ◌∷◌, ℕ, zero, suc, ◌+◌, ◌-◌, ◌≤◌, ◌<◌, T}
use Rattle.std.proofs.Common.{sym, ap, ap₂, ◌∙◌, subst, arith, le_of_suc-le-suc, le_antisymm}
use Rattle.fold.specs.Fold.{sum, below_suc}
use Rattle.fold.specs.Sums.{sum_ext, sum_cons}
use Rattle.fold.specs.Listed.{listed}
use Rattle.sets.specs.Subset.{Sub}
use Rattle.optimum.specs.Schedules.{Test, Contribution, Schedule, value, Ahead}

-- ---- which comes first

-- from the first index
pub ahead_cons : (k : ℕ) (f g : ℕ → ℕ) → g 0 ≤ f 0 → (f 0 ≡ g 0 → Ahead k (λ t. f (suc t)) (λ t. g (suc t))) → Ahead (suc k) f g
ahead_cons k f g a b zero l e = a
ahead_cons k f g a b (suc t) l e = b (e 0 (omega arith)) t (le_of_suc-le-suc l) (λ u m. e (suc u) (omega arith))

pub ahead_ext : (k : ℕ) (f g f' g' : ℕ → ℕ) → ((t : ℕ) → t < k → f t ≡ f' t) → ((t : ℕ) → t < k → g t ≡ g' t) → Ahead k f g → Ahead k f' g'
ahead_ext k f g f' g' x y a t l e =
    omega (arith, x t l, y t l, a t l (λ u m. x u (omega arith) ∙ e u m ∙ sym (y u (omega arith))))

-- two that are each ahead of the other agree
pub ahead_same : (k : ℕ) (f g : ℕ → ℕ) → Ahead k f g → Ahead k g f → (t : ℕ) → t < k → f t ≡ g t
ahead_same zero f g a b t l = absurd (omega arith)
ahead_same (suc k) f g a b t l =
    let same : (u : ℕ) → u < k → f u ≡ g u = ahead_same k f g (λ u m. a u (omega arith)) (λ u m. b u (omega arith)) in
    below_suc (λ u. f u ≡ g u) k same (le_antisymm (b k (omega arith) (λ u m. sym (same u m))) (a k (omega arith) same)) t l

-- ---- a schedule by what remains: at stage t + j the set f j is chosen from g j

pub listed_schedule : (ok : Test) (f g : ℕ → ℕ) (k t : ℕ) → ((j : ℕ) → g j - f j ≡ g (suc j)) → ((j : ℕ) → j < k → Sub (f j) (g j))
    → ((j : ℕ) → j < k → T (ok (t + j) (g j) (f j))) → g k ≡ 0 → Schedule ok t (g 0) (listed k f)
unfolding listed
listed_schedule ok f g zero t next sub passes end = end
listed_schedule ok f g (suc k) t next sub passes end = (
  sub 0 (omega arith),
  subst (λ x. T (ok x (g 0) (f 0))) (omega arith) (passes 0 (omega arith)),
  subst (λ x. Schedule ok (suc t) x (listed k λ j. f (suc j))) (sym (next 0))
      (listed_schedule ok (λ j. f (suc j)) (λ j. g (suc j)) k (suc t) (λ j. next (suc j)) (λ j l. sub (suc j) (omega arith))
      (λ j l. subst (λ x. T (ok x (g (suc j)) (f (suc j)))) (omega arith) (passes (suc j) (omega arith))) end),
)

pub schedule_listed : (ok : Test) (f g : ℕ → ℕ) (k t : ℕ) → ((j : ℕ) → g j - f j ≡ g (suc j)) → Schedule ok t (g 0) (listed k f)
    → (j : ℕ) → j < k → T (ok (t + j) (g j) (f j))
unfolding listed
schedule_listed ok f g zero t next h j l = absurd (omega arith)
schedule_listed ok f g (suc k) t next h zero l = subst (λ x. T (ok x (g 0) (f 0))) (omega arith) h.1
schedule_listed ok f g (suc k) t next h (suc j) l =
    subst (λ x. T (ok x (g (suc j)) (f (suc j)))) (omega arith)
    (schedule_listed ok (λ j. f (suc j)) (λ j. g (suc j)) k (suc t) (λ j. next (suc j))
    (subst (λ x. Schedule ok (suc t) x (listed k λ j. f (suc j))) (next 0) h.2) j (le_of_suc-le-suc l))

pub value-listed : (w : Contribution) (f g : ℕ → ℕ) (k t : ℕ) → ((j : ℕ) → g j - f j ≡ g (suc j))
    → value w t (g 0) (listed k f) ≡ sum k λ j. w (t + j) (g j) (f j)
unfolding listed sum
value-listed w f g zero t next = refl
value-listed w f g (suc k) t next =
    ap₂ (λ x y. x + y)
    (ap (λ x. value w (suc t) x (listed k λ j. f (suc j))) (next 0)
    ∙ value-listed w (λ j. f (suc j)) (λ j. g (suc j)) k (suc t) (λ j. next (suc j))
    ∙ sum_ext k (λ j. w (suc t + j) (g (suc j)) (f (suc j))) (λ j. w (t + suc j) (g (suc j)) (f (suc j)))
    (λ j l. ap (λ x. w x (g (suc j)) (f (suc j))) (omega arith)))
    (ap (λ x. w x (g 0) (f 0)) (omega arith))
    ∙ sym (sum_cons k λ j. w (t + j) (g j) (f j))
