-- Laws of Offers.antt of specs/.
-- What one choice offers: the value v of what it leaves and its contribution x; inf where it may not be made, or where what it leaves
-- has no schedule.
-- Assumes nothing.
use Rattle.std.specs.Prelude.{◌≡◌, refl, Bool, true, false, cond, ◌&&◌, ℕ, ◌+◌, ◌≤◌, ◌<◌, T, ltb}
use Rattle.std.proofs.Common.{ap, ⊎_elim, arith, lt-ltb, le-ltb}
use Rattle.fold.specs.Counting.{le_or_lt}
use Rattle.optimum.specs.Offers.{offer}

module _ (inf : ℕ) where
  pub offer_yes : (may : Bool) (v x : ℕ) → T may → v < inf → offer inf may v x ≡ v + x
  offer_yes true v x h l = ap (λ b. cond b (v + x) inf) (lt-ltb v inf l)
  offer_yes false v x h l = absurd h

  pub offer_no : (may : Bool) (v x : ℕ) → (T may → inf ≤ v) → offer inf may v x ≡ inf
  offer_no true v x h = ap (λ b. cond b (v + x) inf) (le-ltb v inf (h tt))
  offer_no false v x h = refl

  -- where the choice may not be made, what it leaves does not matter
  pub offer_same : (may : Bool) (v v' x : ℕ) → (T may → v ≡ v') → offer inf may v x ≡ offer inf may v' x
  offer_same true v v' x h = ap (λ y. offer inf true y x) (h tt)
  offer_same false v v' x h = refl

  -- an offer below inf can be taken
  pub offer_lt : (may : Bool) (v x : ℕ) → offer inf may v x < inf → T may × (v < inf)
  offer_lt true v x l =
      (tt, ⊎_elim (λ (m : inf ≤ v). absurd (omega (arith, offer_no true v x (λ a. m)))) (λ (m : v < inf). m) (le_or_lt inf v))
  offer_lt false v x l = absurd (omega arith)

  pub offer_le : (may : Bool) (v x y : ℕ) → T may → v ≤ y → offer inf may v x ≤ y + x
  offer_le may v x y h l =
      ⊎_elim (λ (m : inf ≤ v). omega (arith, offer_no may v x (λ a. m))) (λ (m : v < inf). omega (arith, offer_yes may v x h m)) (le_or_lt inf v)

  -- with y more: an offer below inf is y more, and one that is not stays so
  pub offer_raise : (may : Bool) (v x y : ℕ) → offer inf may v x < inf → offer inf may v (x + y) ≡ offer inf may v x + y
  offer_raise may v x y l =
      let (a, m) = offer_lt may v x l in
      omega (arith, offer_yes may v x a m, offer_yes may v (x + y) a m)

  pub offer_over : (may : Bool) (v x y : ℕ) → inf ≤ offer inf may v x → inf ≤ offer inf may v (x + y)
  offer_over true v x y h =
      ⊎_elim (λ (m : inf ≤ v). omega (arith, offer_no true v (x + y) (λ a. m)))
      (λ (m : v < inf). omega (arith, offer_yes true v x tt m, offer_yes true v (x + y) tt m)) (le_or_lt inf v)
  offer_over false v x y h = omega arith
