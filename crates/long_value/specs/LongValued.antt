-- What valuing says of a row of a long day: the model's numbers exactly where the record is sound and the row is one of the paper's, that
-- is, each train has a slot in its window and no slot holds more trains than there are tracks; else 8, 11, 12 or 13, never 17.
-- Assumes nothing.
use Rattle.std.specs.Prelude.{◌≡◌, refl, List, ℕ, ◌≤◌, T}
use Rattle.std.proofs.Common.{sym, subst, ⊎_elim, arith}
use Rattle.model.specs.Model.{Yard, Outcome, outcome, fitting}
use Rattle.model.proofs.Groups.{grouped_of, parted_of}
use Rattle.day.specs.Answer.{Answer, gives, refuses}
use Rattle.day.specs.AnswerLaws.{Only}
use Rattle.day.specs.Sound.{sound}
use Rattle.valuing.specs.Valuing.{valued}
use Rattle.valuing.specs.Laws.{SlotRefusal}
use Rattle.valuing.proofs.Laws.{valued_only, valued-parted, valued-allowed, allowed-valued}
use Rattle.long_day.specs.LongDay.{long_limits}
use Rattle.long_day.specs.LongLaws.{long_no_groups, long_allowed}

module _ (y : Yard) (row : List ℕ) where
  pub fitting-valued : T (sound long_limits y) → T (fitting y row) → valued long_limits y row ≡ gives (outcome y row)
  fitting-valued s f = valued-allowed long_limits y row s (subst T (sym (long_allowed y s row)) f)

  pub valued-fitting : (o : Outcome) → valued long_limits y row ≡ gives o → T (sound long_limits y) × T (fitting y row) × (outcome y row ≡ o)
  valued-fitting o e = let (s, a, is) = allowed-valued long_limits y row o e in (s, subst T (long_allowed y s row) a, is)

  -- a sound long day gets 11, 12 or 13 and no other refusal: it has no group that a row could part
  pub long_valued_only : T (sound long_limits y) → Only (λ k carries. (11 ≤ k) × (k ≤ 13)) (valued long_limits y row)
  long_valued_only s = go (valued long_limits y row) refl (valued_only long_limits y row s)
    where
      unparted : (carries : List ℕ) → valued long_limits y row ≡ refuses 17 carries → ⊥
      unparted carries e =
          let p = valued-parted long_limits y row carries e in
          let (i, j, h, k, g, m, d) = parted_of y.trains y.groups row p.group p.is_parted in
          omega (arith, (grouped_of y.groups i j m).0, long_no_groups y s i h)

      go : (a : Answer Outcome) → valued long_limits y row ≡ a → Only SlotRefusal a → Only (λ k carries. (11 ≤ k) × (k ≤ 13)) a
      go (gives o) e h = tt
      go (refuses k carries) e h =
          ⊎_elim (λ w. w) (λ (q : k ≡ 17). absurd (unparted carries (subst (λ k. valued long_limits y row ≡ refuses k carries) q e))) h
