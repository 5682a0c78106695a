-- Laws of Trace.antt of specs/.
-- The way back: stage after stage, the set that the choices give for what remains is written into the row, position by position.
-- `Traced` is the loop over the stages, `Tracing` the loop over the positions; the row to be written is `best`, to which the choices lead.
-- Assumes nothing.
use Rattle.std.specs.Prelude.{◌≡◌, ◌≢◌, List, ℕ, suc, ◌+◌, ◌-◌, ◌*◌, ◌/◌, ◌^◌, ◌≤◌, ◌<◌, leb, eqb, length, set, take}
use Rattle.std.proofs.Common.{sym, ap, ap₂, ◌∙◌, ⊎_elim, arith, eq-or-lt_of_le, get_or-set_other, get_or-take, length-take-le, ext_get_or, eq-eqb, eqb-true}
use Rattle.std.specs.Int.Bits.{bit_and}
use Rattle.sets.specs.Mask.{has, has-mask, mask_lt}
use Rattle.sets.specs.Subset.{sub_le}
use Rattle.sets.specs.Rest.{full, bit_test}
use Rattle.optimum.specs.Workspace.{at, Kept}
use Rattle.optimum.proofs.Workspace.{kept_here, kept_then, kept_set, set_at}
use Rattle.optimum.specs.Rows.{stage_set, remaining}
use Rattle.optimum.proofs.Rows.{stage_sub, remaining_all, remaining-next}
use Rattle.optimum.specs.Chosen.{Leads}
use Rattle.optimum.specs.Trace.{Traced, Tracing}

-- ---- the loop over the stages

pub traced_start : {c best : List ℕ} {n m N : ℕ} (r : ℕ) (row : List ℕ) → Leads c n m N best → r ≡ full n → Traced n 0 r best row row
traced_start {best = best} {n} r row h e =
    record {
      left = e ∙ sym (remaining_all n best (λ i l. (h.staged i l).0));
      kept = kept_here n row;
      done = λ i l q. absurd (omega (arith, h.staged i l));
    }

module _ {n j r : ℕ} {best row₀ row : List ℕ} (h : Traced n j r best row₀ row) where
  -- the word that is read: its place, its value, and that it can be taken from what remains
  pub traced_lt : r < 2 ^ n
  traced_lt = omega (arith, h.left, mask_lt n λ i. leb (suc j) (at best i))

  pub traced_chosen : {c : List ℕ} {m N : ℕ} → Leads c n m N best → j < m → at c (j * N + r) ≡ stage_set n best (suc j)
  traced_chosen {c} {m} {N} g l = ap (λ x. at c (j * N + x)) h.left ∙ g.chosen j l

  pub traced_le : (s : ℕ) → s ≡ stage_set n best (suc j) → s ≤ r
  traced_le s e = omega (arith, h.left, sub_le (stage_set n best (suc j)) (remaining n best (suc j)) (stage_sub n best (suc j)))

  pub tracing_start : Tracing n j 0 best row row
  tracing_start = record { kept = kept_here n row; done = h.done; part = λ i l e. absurd (omega arith) }

  pub tracing_end : {p : ℕ} {now : List ℕ} (s : ℕ) → Tracing n j p best row now → n ≤ p → s ≡ stage_set n best (suc j) → Traced n (j + 1) (r - s) best row₀ now
  tracing_end {p} {now} s g q e =
      let next : suc (suc j) ≡ suc (j + 1) = omega arith in
      record {
        left = ap₂ (λ x y. x - y) h.left e ∙ remaining-next n best (suc j) ∙ ap (remaining n best) next;
        kept = kept_then h.kept g.kept;
        done = λ i l z.
            ⊎_elim (λ (y : at best i ≡ suc j). g.part i (omega arith) y) (λ (y : at best i < suc j). g.done i l (omega arith))
            (eq-or-lt_of_le {n = at best i} {m = suc j} (omega arith));
      }

-- every stage is written: the row begins with the best
pub traced_end : {c best row₀ row : List ℕ} {n m N j r : ℕ} → Leads c n m N best → Traced n j r best row₀ row → m ≤ j → n ≤ length row → take n row ≡ best
traced_end {best = best} {row = row} {n = n} g h q l =
    ext_get_or 0 (take n row) best (length-take-le n row l ∙ sym g.long)
    (λ i k.
    let b : i < n = omega (arith, length-take-le n row l) in
    get_or-take n row i 0 b ∙ h.done i b (omega (arith, g.staged i b)))

-- ---- the loop over the positions: the code asks whether p is in the set s, `(s >> p) & 1 == 1`

asked : (n j p : ℕ) (best : List ℕ) (s : ℕ) → s ≡ stage_set n best (suc j) → p < n → eqb (bit_and (s / 2 ^ p) 1) 1 ≡ eqb (at best p) (suc j)
asked n j p best s e l = bit_test s p ∙ ap (λ x. has x p) e ∙ has-mask n (λ i. eqb (at best i) (suc j)) p l

module _ {n j p : ℕ} {best row₀ row : List ℕ} where
  -- p is in the set
  pub tracing_put : (s v : ℕ) → Tracing n j p best row₀ row → s ≡ stage_set n best (suc j) → p < n → n ≤ length row → bit_and (s / 2 ^ p) 1 ≡ 1 → v ≡ j + 1
      → Tracing n j (p + 1) best row₀ (set row p v)
  tracing_put s v h e l b t f =
      let is : at best p ≡ suc j = eqb-true (at best p) (suc j) (sym (asked n j p best s e l) ∙ eq-eqb (bit_and (s / 2 ^ p) 1) 1 t) in
      record {
        kept = kept_set p v h.kept l;
        done = λ i q z. get_or-set_other row p i v 0 (λ y. omega (arith, ap (at best) y)) ∙ h.done i q z;
        part = λ i q z. set_at row p v (at best) (omega arith) (omega arith) i (λ d. h.part i (omega arith) z);
      }

  -- it is not
  pub tracing_skip : (s : ℕ) → Tracing n j p best row₀ row → s ≡ stage_set n best (suc j) → p < n → (bit_and (s / 2 ^ p) 1 ≡ 1 → ⊥)
      → Tracing n j (p + 1) best row₀ row
  tracing_skip s h e l t =
      let not : at best p ≢ suc j = λ q. t (eqb-true (bit_and (s / 2 ^ p) 1) 1 (asked n j p best s e l ∙ eq-eqb (at best p) (suc j) q)) in
      record {
        kept = h.kept;
        done = h.done;
        part = λ i q z.
            ⊎_elim (λ (y : i ≡ p). absurd (not (ap (at best) (sym y) ∙ z))) (λ (y : i < p). h.part i y z) (eq-or-lt_of_le {n = i} {m = p} (omega arith));
      }
