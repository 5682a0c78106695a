-- Laws of Tried.antt of specs/.
-- A loop over the subsets of m, from m down by `s = (s - 1) & m`, that finds the table's cell of r: what the code does at a turn, and what
-- it has at the end. m may be r itself, or a part of r outside which no set passes the test. `tail` reads the values of the next stage.
-- Assumes nothing.
use Rattle.std.specs.Prelude.{◌≡◌, true, ℕ, suc, ◌+◌, ◌-◌, ◌≤◌, ◌<◌, T}
use Rattle.std.proofs.Common.{sym, ap, ◌∙◌, subst, subst₂, ⊎_elim, le_antisymm, arith}
use Rattle.std.specs.Int.Bits.{bit_and}
use Rattle.fold.specs.Test.{test}
use Rattle.fold.specs.Counting.{le_or_lt}
use Rattle.sets.specs.Subset.{Sub, walk}
use Rattle.sets.specs.Rest.{meet_left, sub_meet}
use Rattle.optimum.specs.Least.{Least}
use Rattle.optimum.proofs.Least.{least_start, least_take, least_keep, least_next, least_raise, least_none, least_widen}
use Rattle.optimum.specs.Offers.{offer}
use Rattle.optimum.proofs.Offers.{offer_yes, offer_no, offer_lt, offer_raise, offer_over}
use Rattle.optimum.specs.Schedules.{Test, Contribution}
use Rattle.optimum.specs.Stages.{candidate, cell}
use Rattle.optimum.proofs.Stages.{cell-found}
use Rattle.optimum.specs.Tried.{Tried}

pub tried_start : (ok : Test) (w : Contribution) (inf : ℕ) (tail : ℕ → ℕ) (t r m : ℕ) → Tried ok w inf tail t r m (suc m) inf 0
tried_start ok w inf tail t r m = record { by = least_start inf (candidate ok w inf tail t r) m }

module _ {ok : Test} {w : Contribution} {inf : ℕ} {tail : ℕ → ℕ} {t r m s b c : ℕ} where
  -- s is tried: it offers x, and that is less
  pub tried_take : (x : ℕ) → Tried ok w inf tail t r m (suc s) b c → Sub s m → T (ok t r s) → tail (r - s) < inf → x ≡ tail (r - s) + w t r s → x < b
      → Tried ok w inf tail t r m s x s
  tried_take x h hs may v e l =
      let i : candidate ok w inf tail t r s ≡ x = offer_yes inf (ok t r s) (tail (r - s)) (w t r s) may v ∙ sym e in
      record { by = subst (λ y. Least inf (candidate ok w inf tail t r) m s y s) i (least_take h.by hs (omega arith)) }

  -- s is passed over: it may not be chosen, or what it leaves has no schedule, or what it offers is not less
  pub tried_skip : Tried ok w inf tail t r m (suc s) b c → (T (ok t r s) → tail (r - s) < inf → b ≤ tail (r - s) + w t r s) → Tried ok w inf tail t r m s b c
  tried_skip h no_less = record { by = least_keep h.by (⊎_elim (λ may. ⊎_elim none (offers may) (le_or_lt inf (tail (r - s)))) barred (test (ok t r s))) }
    where
      offers : T (ok t r s) → tail (r - s) < inf → b ≤ candidate ok w inf tail t r s
      offers may v = omega (arith, offer_yes inf (ok t r s) (tail (r - s)) (w t r s) may v, no_less may v)

      none : inf ≤ tail (r - s) → b ≤ candidate ok w inf tail t r s
      none v = omega (arith, h.by.capped, offer_no inf (ok t r s) (tail (r - s)) (w t r s) (λ may. v))

      barred : (T (ok t r s) → ⊥) → b ≤ candidate ok w inf tail t r s
      barred not = omega (arith, h.by.capped, offer_no inf (ok t r s) (tail (r - s)) (w t r s) (λ may. absurd (not may)))

  -- the same pair under other names, as where branches meet
  pub tried_is : {b' c' : ℕ} → Tried ok w inf tail t r m s b c → b' ≡ b → c' ≡ c → Tried ok w inf tail t r m s b' c'
  tried_is h e f = subst₂ (λ x y. Tried ok w inf tail t r m s x y) (sym e) (sym f) h

  -- every set contributes x more than by w: so does what was found, and none stays none
  pub tried_raise : {w' : Contribution} (x : ℕ) → Tried ok w inf tail t r m s b c → ((u : ℕ) → w' t r u ≡ w t r u + x) → (b < inf → b + x < inf)
      → Tried ok w' inf tail t r m s (offer inf true b x) c
  tried_raise {w'} x h e fits =
      record {
        by =
            ⊎_elim
            (λ (l : inf ≤ b).
            subst (λ v. Least inf (candidate ok w' inf tail t r) m s v c) (le_antisymm h.by.capped l ∙ sym (offer_no inf true b x (λ a. l)))
            (least_none (candidate ok w' inf tail t r) x more over h.by (le_antisymm h.by.capped l)))
            (λ (l : b < inf).
            subst (λ v. Least inf (candidate ok w' inf tail t r) m s v c) (sym (offer_yes inf true b x tt l))
            (least_raise (candidate ok w' inf tail t r) x more over h.by l (fits l)))
            (le_or_lt inf b);
      }
    where
      same : (u : ℕ) → candidate ok w' inf tail t r u ≡ offer inf (ok t r u) (tail (r - u)) (w t r u + x)
      same u = ap (offer inf (ok t r u) (tail (r - u))) (e u)

      more : (u : ℕ) → candidate ok w inf tail t r u < inf → candidate ok w' inf tail t r u ≡ candidate ok w inf tail t r u + x
      more u l = same u ∙ offer_raise inf (ok t r u) (tail (r - u)) (w t r u) x l

      over : (u : ℕ) → inf ≤ candidate ok w inf tail t r u → inf ≤ candidate ok w' inf tail t r u
      over u l = omega (arith, same u, offer_over inf (ok t r u) (tail (r - u)) (w t r u) x l)

  -- on to the next subset
  pub tried_next : Tried ok w inf tail t r m s b c → Sub s m → 0 < s → Tried ok w inf tail t r m (suc (walk s m)) b c
  tried_next h hs p = record { by = least_next h.by hs p }

  -- the empty set was the last: the cell is found
  pub tried_end : Tried ok w inf tail t r m s b c → s ≡ 0 → Sub m r → ((u : ℕ) → Sub u r → T (ok t r u) → Sub u m)
      → (b ≡ (cell ok w inf tail t r).value) × (c ≡ (cell ok w inf tail t r).set)
  tried_end h e q only =
      cell-found ok w inf tail t r
      (least_widen r (subst (λ x. Least inf (candidate ok w inf tail t r) m x b c) e h.by) q
      (λ u hu l. only u hu (offer_lt inf (ok t r u) (tail (r - u)) (w t r u) l).0))

  -- the same where m is what r shares with a set o outside which no set passes
  pub tried_meet : (o : ℕ) → Tried ok w inf tail t r m s b c → s ≡ 0 → m ≡ bit_and r o → ((u : ℕ) → T (ok t r u) → Sub u o)
      → (b ≡ (cell ok w inf tail t r).value) × (c ≡ (cell ok w inf tail t r).set)
  tried_meet o h e i only =
      tried_end h e (subst (λ x. Sub x r) (sym i) (meet_left r o)) (λ u hu may. subst (Sub u) (sym i) (sub_meet u r o hu (only u may)))
