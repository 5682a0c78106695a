-- Laws of OneMerged.antt of specs/.
-- Where the order tells all values apart there is one merged list: it depends on which values there are, not on their order or on how often one
-- comes (`merged_unique`). So a loop may come by the values in any order.
-- Assumes nothing.
use Rattle.std.specs.Prelude.{◌≡◌, refl, Bool, ℕ, T}
use Rattle.std.proofs.Common.{sym, ap, ap₂, ◌∙◌, subst, ⊎_elim}
use mathlib.Core.List.Memᴰ
use mathlib.Core.List.{List, [], ◌∷◌, Memᴰ}
use Rattle.model.specs.Order.{Order}
use Rattle.model.proofs.Order.{irrefl}
use Rattle.merging.specs.Merging.{InOrder, Merged}
use Rattle.merging.specs.OneMerged.{Apart, Within}

module _ {X : Type 0} (key : X → ℕ) (before : X → X → Bool) (o : Order before) where
  same_key : (l : List X) → InOrder key before l → (x z : X) → Memᴰ x l → Memᴰ z l → key x ≡ key z → x ≡ z
  same_key [] h x z a b e = absurd (Memᴰ.not-nil a)
  same_key (w ∷ l) h x z a b e =
      ⊎_elim
      (λ (p : x ≡ w). ⊎_elim (λ (q : z ≡ w). p ∙ sym q) (λ c. absurd ((h.0 z c).0 (sym e ∙ ap key p))) (Memᴰ.cases_cons b))
      (λ c. ⊎_elim (λ (q : z ≡ w). absurd ((h.0 x c).0 (e ∙ ap key q))) (λ d. same_key l h.1 x z c d e) (Memᴰ.cases_cons b))
      (Memᴰ.cases_cons a)

  module _ (xs zs : List X) (apart : (Apart key before o) xs) (to : (Within key before o) xs zs) (from : (Within key before o) zs xs) where
    merged_within : (l m : List X) → Merged key before xs l → Merged key before zs m → (Within key before o) l m
    merged_within l m a b x at =
        let (u, in-m, s) = b.all x (to x (a.only x at)) in
        let (v, in-l, w) = a.all u (from u (b.only u in-m)) in
        let e : v ≡ x = same_key l a.ordered v x in-l at (w.same ∙ s.same) in
        Memᴰ.cast (apart x u (a.only x at) (from u (b.only u in-m)) s.first (subst (λ q. T (before u q) → ⊥) e w.first)) in-m

  -- two lists in order with the same values are equal
  ordered_same : (l m : List X) → InOrder key before l → InOrder key before m → (Apart key before o) l → (Within key before o) l m → (Within key before o) m l → l ≡ m
  ordered_same [] [] h k apart to from = refl
  ordered_same [] (z ∷ m) h k apart to from = absurd (Memᴰ.not-nil (from z (Memᴰ.head refl)))
  ordered_same (x ∷ l) [] h k apart to from = absurd (Memᴰ.not-nil (to x (Memᴰ.head refl)))
  ordered_same (x ∷ l) (z ∷ m) h k apart to from =
      ap₂ (λ (u : X) (r : List X). u ∷ r) same
      (ordered_same l m h.1 k.1 (λ u v a b. apart u v (Memᴰ.tail a) (Memᴰ.tail b))
      (λ u at. ⊎_elim (λ (q : u ≡ z). absurd ((h.0 u at).0 (ap key (q ∙ sym same)))) (λ a. a) (Memᴰ.cases_cons (to u (Memᴰ.tail at))))
      (λ u at. ⊎_elim (λ (q : u ≡ x). absurd ((k.0 u at).0 (ap key (q ∙ same)))) (λ a. a) (Memᴰ.cases_cons (from u (Memᴰ.tail at)))))
    where
      -- neither first value comes before the other
      not_first : (u v : X) (r : List X) → InOrder key before (v ∷ r) → Memᴰ u (v ∷ r) → T (before u v) → ⊥
      not_first u v r w at =
          ⊎_elim (λ (q : u ≡ v). subst (λ s. T (before s v) → ⊥) (sym q) (irrefl before o v)) (λ a. (w.0 u a).1) (Memᴰ.cases_cons at)

      same : x ≡ z
      same =
          apart x z (Memᴰ.head refl) (from z (Memᴰ.head refl)) (not_first x z m k (to x (Memᴰ.head refl)))
          (not_first z x l h (from z (Memᴰ.head refl)))

  pub merged_unique : (xs zs l m : List X) → (Apart key before o) xs → (Within key before o) xs zs → (Within key before o) zs xs → Merged key before xs l → Merged key before zs m → l ≡ m
  merged_unique xs zs l m apart to from a b =
      ordered_same l m a.ordered b.ordered (λ u v p q. apart u v (a.only u p) (a.only v q)) (merged_within xs zs apart to from l m a b)
      (merged_within zs xs (λ u v p q. apart u v (from u p) (from v q)) from to m l b a)
