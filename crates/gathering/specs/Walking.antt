-- The walk through the sets that the plan at place k can serve, in falling order (sets, FewOnes.antt): what is done where it begins, at its next
-- set, and at its end.
-- Assumes nothing.
use Rattle.std.specs.Prelude.{◌≡◌, Bool, List, ℕ, suc, ◌≤◌, ◌<◌, T}
use Rattle.std.proofs.Common.{sym, ◌∙◌, subst, inl, inr, ⊎_elim, eq-or-lt_of_le, eq-zero-or-pos, le_of_suc-le-suc, arith}
use Rattle.std.specs.Int.Bits.{bit_and}
use Rattle.std.specs.Int.Count.{ones}
use Rattle.fold.specs.Counting.{le_or_lt}
use Rattle.sets.specs.Subset.{Sub, walk, sub_le, walk-next}
use Rattle.sets.specs.Rest.{sub_meet}
use Rattle.model.specs.Model.{Yard}
use Rattle.staging.specs.Tables.{open_in}
use Rattle.beam.specs.Beam.{rest, may_serve}
use Rattle.beam.proofs.Paths.{fits_is, may_serve_lem}
use Rattle.beam.specs.Gathering.{from, And}
use Rattle.held_plans.specs.declared.HeldPlan.{HeldPlan}
use Rattle.set_costs.specs.Sets.{Trimmed}
use Rattle.gathering.specs.Gathering.{Gathering, Before, Passed, gathering_also}

module _ (y : Yard) (width t : ℕ) where
  -- the trains that remain after the plan at place k, and those of them whose windows hold the next slot
  abbrev pub left : ℕ → ℕ
  left k = rest y (from y width t k)

  abbrev pub ready : ℕ → ℕ
  ready k = bit_and (left k) (open_in y.trains y.first y.last (suc t))

  -- a set that may be served is one of these trains, and not too large
  of_ready : (k s : ℕ) → T (may_serve y (suc t) (left k) s) → Sub s (ready k) × (ones s ≤ y.tracks)
  of_ready k s may =
      let open-now = open_in y.trains y.first y.last (suc t) in
      let (within, fit, keeps) = may_serve_lem y (suc t) (left k) s may in
      let (inside, few) = fits_is y (suc t) s fit in
      (sub_meet s (left k) open-now within inside, few)

  module _ {a : List HeldPlan} {count : ℕ} {dropped : Bool} (k : ℕ) where
    pub walk_begins : (s : ℕ) → Trimmed y.tracks (ready k) s → Gathering y width t (Before k) a count dropped → Gathering y width t (Passed k s) a count dropped
    walk_begins s trim g =
        gathering_also y width t g (Passed k s)
        (λ k' s' m d may.
        ⊎_elim (λ before. before)
        (λ e.
        let (sub, few) = of_ready k s' (subst (λ i. T (may_serve y (suc t) (left i) s')) e.0 may) in
        absurd (omega (arith, e.1, trim.next s' (sub_le s' (ready k) sub) few)))
        d)

    pub walk_goes_on : (s next : ℕ) → Sub s (ready k) → Trimmed y.tracks (walk s (ready k)) next → Gathering y width t (And y width t (Passed k s) k s) a count dropped
        → Gathering y width t (Passed k next) a count dropped
    walk_goes_on s next within trim g =
        gathering_also y width t g (Passed k next)
        (λ k' s' m d may.
        ⊎_elim (λ before. inl (inl before))
        (λ e.
        ⊎_elim
        (λ (l : s' ≤ s).
        ⊎_elim (λ (same : s' ≡ s). inr (e.0, same))
        (λ (less : s' < s).
        let (sub, few) = of_ready k s' (subst (λ i. T (may_serve y (suc t) (left i) s')) e.0 may) in
        absurd (omega (arith, e.1, trim.next s' (walk-next s (ready k) s' within sub less) few)))
        (eq-or-lt_of_le l))
        (λ (above : s < s'). inl (inr (e.0, above)))
        (le_or_lt s' s))
        d)

    pub walk_ends : (s : ℕ) → s ≡ 0 → Gathering y width t (And y width t (Passed k s) k s) a count dropped → Gathering y width t (Before (suc k)) a count dropped
    walk_ends s e g =
        gathering_also y width t g (Before (suc k))
        (λ k' s' m d may.
        ⊎_elim
        (λ (same : k' ≡ k). ⊎_elim (λ (z : s' ≡ 0). inr (same, z ∙ sym e)) (λ (p : 0 < s'). inl (inr (same, omega arith))) (eq-zero-or-pos s'))
        (λ (less : k' < k). inl (inl less))
        (eq-or-lt_of_le (le_of_suc-le-suc d)))
