-- Laws of HeldWords.antt of specs/.
-- Partial plans that are held in places, each as sixteen words: the fifteen that order them (Words.antt, for up to twelve slots) and the trains
-- that remain. Where a plan joins (merging, Places.antt), the plans from its place on up to the place that is given up move one place up, and it
-- is put in its own (`joined_holds`).
-- Assumes nothing.
use Rattle.std.specs.Prelude.{◌≡◌, Bool, List, [], ℕ, suc, ◌-◌, ◌≤◌, ◌<◌, length, get_or, take}
use Rattle.std.proofs.Common.{sym, ◌∙◌, subst, ⊎_elim, eq-or-lt_of_le, arith, ne_eqb, get_or-take, length-take-le}
use Rattle.std.proofs.Math.Path.{ap}
use Rattle.std.proofs.Math.Bool.{cond}
use Rattle.std.proofs.Math.Dec.{eqb}
use Rattle.fold.specs.Fold.{lowest}
use Rattle.fold.specs.Sums.{lowest_ext}
use Rattle.fold.specs.Counting.{le_or_lt}
use Rattle.model.specs.Model.{Yard, lower}
use Rattle.merging.specs.Places.{Joined, place_of, place_of_key}
use Rattle.beam.specs.Beam.{Plan, rest, comes_before}
use Rattle.beam.proofs.RowPlans.{lower_ext}
use Rattle.beam.specs.Words.{word_of, OfTrains}
use Rattle.beam.proofs.Words.{before_words}
use Rattle.beam.specs.HeldWords.{held_word, Holds, held_before, Shifted}

module _ (y : Yard) (a : ℕ → ℕ → ℕ) (l : List Plan) (h : Holds y a l) where
  -- the place of a plan that leaves r
  pub place_of_rest : (r : ℕ) → lowest (length l) (λ k. eqb (a k 15) r) ≡ place_of_key (rest y) (comes_before y) [] r l
  unfolding place_of_key held_word
  place_of_rest r =
      lowest_ext (length l) (λ k. eqb (a k 15) r) (λ k. eqb (rest y (get_or l k [])) r) (λ k m. ap (λ w. eqb w r) (h k 15 m (omega arith)))

  -- the first place of a plan that x comes before; its words are b. Words of slots past T are the same in all plans
  module _ (b : ℕ → ℕ) (x : Plan) (own : (c : ℕ) → c < 16 → b c ≡ held_word y x c) (few : y.slots ≤ 12) (trains : OfTrains y x)
      (held : (k : ℕ) → k < length l → OfTrains y (get_or l k [])) where
    word : (p : Plan) (c : ℕ) → c < suc (suc (suc y.slots)) → held_word y p c ≡ word_of y p c
    unfolding held_word
    word p c m = ap (λ t. cond t (rest y p) (word_of y p c)) (ne_eqb c 15 (λ e. omega arith))

    pub held_before_lem : (k : ℕ) → k < length l → held_before y.slots b a k ≡ comes_before y x (get_or l k [])
    held_before_lem k m =
        lower_ext (suc (suc (suc y.slots))) b (a k) (word_of y x) (word_of y (get_or l k []))
        (λ c n. own c (omega arith) ∙ word x c n) (λ c n. h k c m (omega arith) ∙ word (get_or l k []) c n)
        ∙ sym (before_words y x (get_or l k []) trains (held k m))

    pub place_of_plan : lowest (length l) (held_before y.slots b a) ≡ place_of (rest y) (comes_before y) [] x l
    unfolding place_of
    place_of_plan = lowest_ext (length l) (held_before y.slots b a) (λ k. comes_before y x (get_or l k [])) held_before_lem

-- the first m plans of r: all of them, or those up to the place that is given up
pub joined_holds : (y : Yard) (x : Plan) (l r : List Plan) (a b : ℕ → ℕ → ℕ) (place same upto m : ℕ) → Joined [] x l r place same → place ≤ length l → same ≤ length l
    → place ≤ upto → upto ≤ same → m ≤ length r → ((k : ℕ) → k < m → upto < k → same < k) → Shifted y x a b place upto → Holds y a l
    → Holds y b (take m r)
joined_holds y x l r a b place same upto m j in_List key_in from to fits beyond s h k c l-k l-c =
    let small : k < m = omega (arith, length-take-le m r fits) in
    subst (λ p. b k c ≡ held_word y p c) (sym (get_or-take m r k [] small)) (at small)
  where
    at : k < m → b k c ≡ held_word y (get_or r k []) c
    at small =
        ⊎_elim
        (λ (after : place ≤ k).
        ⊎_elim
        (λ (e : place ≡ k).
        subst (λ i. b i c ≡ held_word y (get_or r i []) c) e (s.here c l-c ∙ ap (λ p. held_word y p c) (sym j.here)))
        (λ (more : place < k).
        ⊎_elim (λ (inside : k ≤ upto). shifted (k - 1) (omega arith) (omega arith) (omega arith)) (λ (out : upto < k). above small (beyond k small out) out) (le_or_lt k upto))
        (eq-or-lt_of_le after))
        (λ (before : k < place).
        s.low k c before ∙ h k c (omega arith) l-c ∙ ap (λ p. held_word y p c) (sym (j.below k before)))
        (le_or_lt place k)
      where
        shifted : (i : ℕ) → k ≡ suc i → place ≤ i → suc i ≤ upto → b k c ≡ held_word y (get_or r k []) c
        shifted i e p u =
            ap (λ z. b z c) e ∙ s.moved i c p u ∙ h i c (omega arith) l-c
            ∙ ap (λ p. held_word y p c) (sym (j.moved i p (omega arith))) ∙ ap (λ z. held_word y (get_or r z []) c) (sym e)

        above : k < m → same < k → upto < k → b k c ≡ held_word y (get_or r k []) c
        above small q out =
            let known : k < length l =
            ⊎_elim (λ (n : length l ≤ same). absurd (omega (arith, j.longer n))) (λ (n : same < length l). omega (arith, j.as_long n)) (le_or_lt (length l) same) in
            s.high k c out ∙ h k c known l-c ∙ ap (λ p. held_word y p c) (sym (j.above k q))
