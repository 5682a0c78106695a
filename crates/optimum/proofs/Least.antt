-- Laws of Least.antt of specs/.
-- The least candidate over the subsets of a set r. The subsets are tried from the largest down, and one replaces what was found only
-- where its candidate is strictly smaller: of equal candidates the larger set stands. `candidate u` is any number; `inf` stands for
-- none, and a candidate of inf or more counts for nothing.
-- `Least inf candidate r s b c` is what a loop knows that has tried the subsets from s up. `best` computes the end of that loop, and
-- at its end there is no other pair.
-- Assumes nothing.
use Rattle.std.specs.Prelude.{◌≡◌, refl, Bool, true, false, cond, ◌&&◌, ltb}
use Rattle.std.proofs.Common.{sym, ap, ◌∙◌, subst, ⊎_elim, arith, eq-or-lt_of_le, le_antisymm, ltb-true, ltb-false, eqb-true}
use Prim.Native.Nat.{ℕ, zero, suc, ◌+◌, ◌≤◌, ◌<◌}
use Rattle.std.proofs.lemmas.Bool.{eqb-false}
use Rattle.fold.specs.Counting.{le_or_lt}
use Rattle.sets.specs.Subset.{Sub, subset, walk, sub_le, sub_trans, walk_lt, walk-next}
use Rattle.optimum.specs.Least.{Least, Cell, attempt, scan, best, LeastIn}

-- ---- the turns of a loop

-- nothing is tried yet
pub least_start : (inf : ℕ) (candidate : ℕ → ℕ) (r : ℕ) → Least inf candidate r (suc r) inf 0
least_start inf candidate r =
    record {
      capped = omega arith;
      nothing = λ e. refl;
      within = λ q. absurd (omega arith);
      tried = λ q. absurd (omega arith);
      reached = λ q. absurd (omega arith);
      least = λ u hu k. absurd (omega (arith, sub_le u r hu));
      largest = λ u hu k e q. absurd (omega arith);
    }

module _ {inf : ℕ} {candidate : ℕ → ℕ} {r s b c : ℕ} where
  -- s is smaller than all before it
  pub least_take : Least inf candidate r (suc s) b c → Sub s r → candidate s < b → Least inf candidate r s (candidate s) s
  least_take h hs l =
      record {
        capped = omega (arith, h.capped);
        nothing = λ e. absurd (omega (arith, h.capped));
        within = λ q. hs;
        tried = λ q. omega arith;
        reached = λ q. refl;
        least = λ u hu k. ⊎_elim (λ (e : s ≡ u). omega (arith, ap candidate e)) (λ (m : s < u). omega (arith, h.least u hu m)) (eq-or-lt_of_le k);
        largest = λ u hu k e q. ⊎_elim (λ (i : s ≡ u). omega arith) (λ (m : s < u). absurd (omega (arith, h.least u hu m))) (eq-or-lt_of_le k);
      }

  -- s is not smaller
  pub least_keep : Least inf candidate r (suc s) b c → b ≤ candidate s → Least inf candidate r s b c
  least_keep h l =
      record {
        capped = h.capped;
        nothing = h.nothing;
        within = h.within;
        tried = λ q. omega (arith, h.tried q);
        reached = h.reached;
        least = λ u hu k. ⊎_elim (λ (e : s ≡ u). omega (arith, ap candidate e)) (λ (m : s < u). h.least u hu m) (eq-or-lt_of_le k);
        largest = λ u hu k e q. ⊎_elim (λ (i : s ≡ u). omega (arith, h.tried q)) (λ (m : s < u). h.largest u hu m e q) (eq-or-lt_of_le k);
      }

  -- further down, with no subset in between
  pub least_down : (s' : ℕ) → Least inf candidate r s b c → s' ≤ s → ((u : ℕ) → Sub u r → s' ≤ u → s ≤ u) → Least inf candidate r s' b c
  least_down s' h l gap =
      record {
        capped = h.capped;
        nothing = h.nothing;
        within = h.within;
        tried = λ q. omega (arith, h.tried q);
        reached = h.reached;
        least = λ u hu k. h.least u hu (gap u hu k);
        largest = λ u hu k. h.largest u hu (gap u hu k);
      }

  -- the walk's step: after the subset s, the subset `walk s r` is next
  pub least_next : Least inf candidate r s b c → Sub s r → 0 < s → Least inf candidate r (suc (walk s r)) b c
  least_next h hs p =
      least_down (suc (walk s r)) h (walk_lt s r p)
      (λ u hu k. ⊎_elim (λ (m : s ≤ u). m) (λ (m : u < s). absurd (omega (arith, walk-next s r u hs hu m))) (le_or_lt s u))

  -- ---- the same pair, said of other candidates and of more sets

  pub least_same : (candidate' : ℕ → ℕ) → ((u : ℕ) → Sub u r → candidate u ≡ candidate' u) → Least inf candidate r s b c → Least inf candidate' r s b c
  least_same candidate' e h =
      record {
        capped = h.capped;
        nothing = h.nothing;
        within = h.within;
        tried = h.tried;
        reached = λ q. sym (e c (h.within q)) ∙ h.reached q;
        least = λ u hu k. omega (arith, e u hu, h.least u hu k);
        largest = λ u hu k i q. h.largest u hu k (e u hu ∙ i) q;
      }

  -- where all candidates below inf are x more, so is the least; where none is below inf, none is
  module _ (candidate' : ℕ → ℕ) (x : ℕ)
      (more : (u : ℕ) → candidate u < inf → candidate' u ≡ candidate u + x) (over : (u : ℕ) → inf ≤ candidate u → inf ≤ candidate' u) where
    pub least_raise : Least inf candidate r s b c → b < inf → b + x < inf → Least inf candidate' r s (b + x) c
    least_raise h l fits =
        record {
          capped = omega arith;
          nothing = λ e. absurd (omega arith);
          within = λ q. h.within l;
          tried = λ q. h.tried l;
          reached = λ q. omega (arith, h.reached l, more c (omega (arith, h.reached l)));
          least = λ u hu k.
              ⊎_elim (λ (m : inf ≤ candidate u). omega (arith, over u m)) (λ (m : candidate u < inf). omega (arith, more u m, h.least u hu k)) (le_or_lt inf (candidate u));
          largest = λ u hu k e q.
              ⊎_elim (λ (m : inf ≤ candidate u). absurd (omega (arith, over u m))) (λ (m : candidate u < inf). h.largest u hu k (omega (arith, more u m)) l)
              (le_or_lt inf (candidate u));
        }

    pub least_none : Least inf candidate r s b c → b ≡ inf → Least inf candidate' r s b c
    least_none h e =
        record {
          capped = h.capped;
          nothing = h.nothing;
          within = h.within;
          tried = h.tried;
          reached = λ q. absurd (omega arith);
          least = λ u hu k. omega (arith, over u (omega (arith, h.least u hu k)));
          largest = λ u hu k i q. absurd (omega arith);
        }

  -- the least over the subsets of r is that over the subsets of a larger set, where the others have no candidate below inf
  pub least_widen : (r' : ℕ) → Least inf candidate r s b c → Sub r r' → ((u : ℕ) → Sub u r' → candidate u < inf → Sub u r) → Least inf candidate r' s b c
  least_widen r' h q only =
      record {
        capped = h.capped;
        nothing = h.nothing;
        within = λ l. sub_trans c r r' (h.within l) q;
        tried = h.tried;
        reached = h.reached;
        least = λ u hu k.
            ⊎_elim (λ (l : inf ≤ candidate u). omega (arith, h.capped)) (λ (l : candidate u < inf). h.least u (only u hu l) k) (le_or_lt inf (candidate u));
        largest = λ u hu k e l. h.largest u (only u hu (omega arith)) k e l;
      }

  least_below : {b' c' : ℕ} → Least inf candidate r s b c → Least inf candidate r s b' c' → b' ≤ b
  least_below h h' =
      ⊎_elim (λ (e : b ≡ inf). omega (arith, h'.capped))
      (λ (l : b < inf). omega (arith, h'.least c (h.within l) (h.tried l), h.reached l)) (eq-or-lt_of_le h.capped)

-- ---- there is one such pair

module _ {inf : ℕ} {candidate : ℕ → ℕ} {r s b c b' c' : ℕ} where
  pub least_value : Least inf candidate r s b c → Least inf candidate r s b' c' → b ≡ b'
  least_value h h' = le_antisymm (least_below h' h) (least_below h h')

  pub least_set : Least inf candidate r s b c → Least inf candidate r s b' c' → c ≡ c'
  least_set h h' =
      let e : b ≡ b' = least_value h h' in
      ⊎_elim (λ (i : b ≡ inf). h.nothing i ∙ sym (h'.nothing (sym e ∙ i)))
      (λ (l : b < inf).
      let l' : b' < inf = omega arith in
      le_antisymm (h'.largest c (h.within l) (h.tried l) (h.reached l ∙ e) l') (h.largest c' (h'.within l') (h'.tried l') (h'.reached l' ∙ sym e) l))
      (eq-or-lt_of_le h.capped)

module _ {inf : ℕ} {candidate : ℕ → ℕ} {r : ℕ} where
  attempt_least : (u : ℕ) (x : Cell) → LeastIn inf candidate r (suc u) x → LeastIn inf candidate r u (attempt candidate r u x)
  attempt_least u x h = go (subset u r) (ltb (candidate u) x.value) refl refl
    where
      go : (p q : Bool) → subset u r ≡ p → ltb (candidate u) x.value ≡ q
          → LeastIn inf candidate r u (cond (p && q) (record { value = candidate u; set = u }) x)
      go true true i j = least_take h (eqb-true _ _ i) (ltb-true _ _ j)
      go true false i j = least_keep h (ltb-false _ _ j)
      go false q i j =
          least_down u h (omega arith)
          (λ v hv k. ⊎_elim (λ (e : u ≡ v). absurd (eqb-false _ _ i (subst (λ (y : ℕ). Sub y r) (sym e) hv))) (λ (m : u < v). m) (eq-or-lt_of_le k))

  scan_least : (n : ℕ) (x : Cell) → LeastIn inf candidate r (suc n) x → LeastIn inf candidate r 0 (scan candidate r n x)
  unfolding scan
  scan_least zero x h = attempt_least 0 x h
  scan_least (suc n) x h = scan_least n (attempt candidate r (suc n) x) (attempt_least (suc n) x h)

pub best_least : (inf : ℕ) (candidate : ℕ → ℕ) (r : ℕ) → Least inf candidate r 0 (best inf candidate r).value (best inf candidate r).set
unfolding best
best_least inf candidate r = scan_least r (record { value = inf; set = 0 }) (least_start inf candidate r)

-- a loop that has tried every subset has found `best`
pub least_best : {inf : ℕ} {candidate : ℕ → ℕ} {r b c : ℕ} → Least inf candidate r 0 b c
    → (b ≡ (best inf candidate r).value) × (c ≡ (best inf candidate r).set)
least_best {inf} {candidate} {r} h = (least_value h (best_least inf candidate r), least_set h (best_least inf candidate r))
