-- Laws of Words.antt of specs/.
-- A partial plan as words, for code that holds the plans in one array: cost, revisits and sum of slots so far, then for each slot the trains that
-- are not in its set. Order 5 is then the order of the words, the smaller at the first place where they differ (`before_words`): one loop
-- compares two plans.
-- Assumes nothing.
use Rattle.std.specs.Prelude.{◌≡◌, refl, Bool, true, false, cond, ◌&&◌, ◌∷◌, ◌≢◌, ℕ, zero, suc, ◌-◌, ◌≤◌, ◌<◌, T, ltb, eqb, length}
use Rattle.std.proofs.Common.{sym, ap₂, ◌∙◌, subst, ⊎_elim, eq-or-lt_of_le, arith, eqb→eq, ltb→lt, lt→ltb, eq-eqb}
use Rattle.fold.specs.Test.{of_true, same_test_lem, both, both_of}
use Rattle.fold.specs.Fold.{each, some, some_at, some_of, each_at, each_i, none_i}
use Rattle.fold.specs.Counting.{le_or_lt}
use Rattle.fold.specs.Sums.{some_ext, each_ext}
use Rattle.sets.specs.Subset.{Sub, sub_le}
use Rattle.sets.specs.Rest.{full}
use Rattle.model.specs.Model.{Yard, lower}
use Rattle.model.proofs.Order.{lower_cons}
use Rattle.beam.specs.Beam.{Plan, rest, cost_so_far, revisits_so_far, slots_so_far, set_in, earlier, comes_before}
use Rattle.beam.specs.Paths.{Path}
use Rattle.beam.proofs.Paths.{rest_le, set_le}
use Rattle.beam.proofs.RowPlans.{by_key_same}
use Rattle.beam.specs.Words.{word_of, OfTrains}

pub of_trains_next : (y : Yard) (p : Plan) (s : ℕ) → Path y p → Sub s (rest y p) → OfTrains y (s ∷ p)
unfolding set_in
of_trains_next y p s h within j = at (eqb j (length p)) (set_le y p h j)
  where
    at : (b : Bool) → set_in p j ≤ full y.trains → cond b s (set_in p j) ≤ full y.trains
    at true k = omega (arith, sub_le s (rest y p) within, rest_le y p)
    at false k = k

-- the larger of two numbers up to m is the one that leaves less of m
less_left : (m a b : ℕ) → a ≤ m → b ≤ m → ltb a b ≡ ltb (m - b) (m - a)
less_left m a b h k =
    same_test_lem (ltb a b) (ltb (m - b) (m - a)) (λ t. lt→ltb (m - b) (m - a) (omega (arith, ltb→lt a b t))) (λ t. lt→ltb a b (omega (arith, ltb→lt (m - b) (m - a) t)))

same_left : (m a b : ℕ) → a ≤ m → b ≤ m → eqb a b ≡ eqb (m - b) (m - a)
same_left m a b h k =
    same_test_lem (eqb a b) (eqb (m - b) (m - a)) (λ t. of_true (eq-eqb (m - b) (m - a) (omega (arith, eqb→eq a b t))))
    (λ t. of_true (eq-eqb a b (omega (arith, eqb→eq (m - b) (m - a) t))))

lower_left : (k m : ℕ) (f g : ℕ → ℕ) → ((j : ℕ) → f j ≤ m) → ((j : ℕ) → g j ≤ m) → lower k f g ≡ lower k (λ j. m - g j) (λ j. m - f j)
unfolding lower
lower_left k m f g a b =
    some_ext k (λ t. ltb (f t) (g t) && each t λ u. eqb (f u) (g u)) (λ t. ltb (m - g t) (m - f t) && each t λ u. eqb (m - g u) (m - f u))
    (λ t l.
    ap₂ (λ x z. x && z) (less_left m (f t) (g t) (a t) (b t))
    (each_ext t (λ u. eqb (f u) (g u)) (λ u. eqb (m - g u) (m - f u)) (λ u i. same_left m (f u) (g u) (a u) (b u))))

pub before_words : (y : Yard) (p q : Plan) → OfTrains y p → OfTrains y q → comes_before y p q ≡ lower (suc (suc (suc y.slots))) (word_of y p) (word_of y q)
unfolding comes_before earlier word_of
before_words y p q h k =
    let later : ℕ → (ℕ → ℕ) → (ℕ → ℕ) → Bool = λ k f g. lower k (λ t. f (suc t)) (λ t. g (suc t)) in
    by_key_same (cost_so_far y) (λ (f : ℕ → ℕ). f 0) _ (later (suc (suc y.slots))) p q (word_of y p) (word_of y q) refl refl
    (by_key_same (revisits_so_far y) (λ (f : ℕ → ℕ). f 0) _ (later (suc y.slots)) p q (λ t. word_of y p (suc t)) (λ t. word_of y q (suc t)) refl refl
    (by_key_same slots_so_far (λ (f : ℕ → ℕ). f 0) _ (later y.slots) p q (λ t. word_of y p (suc (suc t))) (λ t. word_of y q (suc (suc t))) refl refl
    (lower_left y.slots (full y.trains) (set_in q) (set_in p) k h)
    ∙ sym (lower_cons y.slots (λ t. word_of y p (suc (suc t))) (λ t. word_of y q (suc (suc t)))))
    ∙ sym (lower_cons (suc y.slots) (λ t. word_of y p (suc t)) (λ t. word_of y q (suc t))))
    ∙ sym (lower_cons (suc (suc y.slots)) (word_of y p) (word_of y q))

-- ---- the loop that compares: the first place where two sequences differ decides

pub differ_at : (k c : ℕ) (f g : ℕ → ℕ) → c < k → ((u : ℕ) → u < c → f u ≡ g u) → f c ≢ g c → lower k f g ≡ ltb (f c) (g c)
unfolding lower
differ_at k c f g l same differ =
    same_test_lem (some k at) (ltb (f c) (g c))
    (λ t.
    let (d, m, w) = some_of k at t in
    let (less, equal) = both_of (ltb (f d) (g d)) (each d λ u. eqb (f u) (g u)) w in
    ⊎_elim
    (λ (h : d ≤ c).
    ⊎_elim (λ (e : d ≡ c). subst (λ x. T (ltb (f x) (g x))) e less) (λ (h : d < c). absurd (omega (arith, ltb→lt (f d) (g d) less, same d h))) (eq-or-lt_of_le h))
    (λ (h : c < d). absurd (differ (eqb→eq (f c) (g c) (each_at d (λ u. eqb (f u) (g u)) equal c h))))
    (le_or_lt d c))
    (λ t. some_at k at c l (both (ltb (f c) (g c)) (each c λ u. eqb (f u) (g u)) t (each_i c (λ u. eqb (f u) (g u)) (λ u h. of_true (eq-eqb (f u) (g u) (same u h))))))
  where
    at : ℕ → Bool
    at t = ltb (f t) (g t) && each t λ u. eqb (f u) (g u)

pub differ_nowhere : (k : ℕ) (f g : ℕ → ℕ) → ((u : ℕ) → u < k → f u ≡ g u) → lower k f g ≡ false
unfolding lower
differ_nowhere k f g same =
    none_i k (λ t. ltb (f t) (g t) && each t λ u. eqb (f u) (g u))
    (λ t l w. omega (arith, same t l, ltb→lt (f t) (g t) (both_of (ltb (f t) (g t)) (each t λ u. eqb (f u) (g u)) w).0))
