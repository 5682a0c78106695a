-- The array that `array::from_fn` gives is a list by position; filled up to a place, it is a column.
-- Assumes nothing.
use Rattle.std.specs.Prelude.{◌≡◌, refl, cond, List, ℕ, zero, suc, ◌+◌, ◌<◌, get_or, ltb}
use Rattle.std.proofs.Common.{sym, ap, ◌∙◌, subst, zero-add, arith, ext_get_or, lt-ltb}
use Rattle.std.specs.Array.{IsFromFnResult, IsFromFnResultFrom}
use Rattle.std.specs.Fn.{Called}
use denote.Param.Members.{Mut}
use Rattle.fold.specs.Column.{filled}
use Rattle.fold.specs.Listed.{listed, length-listed, listed_at, listed_ext}

module _ {F X : Type 0} (g : Mut F (ℕ × Unit {0}) X) (f : F) (h : ℕ → X) (gives : (x : ℕ) (r : X) (q : F) → Called g f (x, tt) r q → (q ≡ f) × (r ≡ h x)) (z : X) (ys : List X) where
  at_each : (n i k : ℕ) (p : F) → p ≡ f → IsFromFnResultFrom g p ys i n → k < n → get_or ys (i + k) z ≡ h (i + k)
  at_each zero i k p same all l = absurd (omega arith)
  at_each (suc n) i zero p same (q, y, here, called, rest) l =
      let place : i + 0 ≡ i = omega arith in
      let value = (gives i y q (subst (λ p. Called g p (i, tt) y q) same called)).1 in
      ap (λ j. get_or ys j z) place ∙ here.1 z ∙ value ∙ ap h (sym place)
  at_each (suc n) i (suc k) p same (q, y, here, called, rest) l =
      let place : i + 1 + k ≡ i + suc k = omega arith in
      let stays = (gives i y q (subst (λ p. Called g p (i, tt) y q) same called)).0 in
      subst (λ j. get_or ys j z ≡ h j) place (at_each n (i + 1) k q stays rest (omega arith))

  pub made_listed : (n : ℕ) → IsFromFnResult g f ys n → ys ≡ listed n h
  made_listed n made =
      ext_get_or z ys (listed n h) (made.long ∙ sym (length-listed n h))
      (λ i l. let b : i < n = omega (arith, made.long) in ap (λ k. get_or ys k z) (sym (zero-add i)) ∙ at_each n 0 i f refl made.each b ∙ ap h (zero-add i) ∙ sym (listed_at n h z i b))

  -- filled whole
  pub made_whole : (w : ℕ) → IsFromFnResult g f ys w → ys ≡ filled z w w h
  unfolding filled
  made_whole w made = made_listed w made ∙ listed_ext w h (λ i. cond (ltb i w) (h i) z) (λ i l. ap (λ b. cond b (h i) z) (sym (lt-ltb i w l)))

  -- filled to a place, with z past it
  pub made_filled : (w m : ℕ) (k : ℕ → X) → IsFromFnResult g f ys w → ((i : ℕ) → i < w → h i ≡ cond (ltb i m) (k i) z) → ys ≡ filled z w m k
  unfolding filled
  made_filled w m k made same = made_listed w made ∙ listed_ext w h (λ i. cond (ltb i m) (k i) z) same
