-- Planning what is left of a standing account, from what the planning call says; and the ways out of beginning a day.
-- Assumes nothing.
use Rattle.std.specs.Prelude.{◌≡◌, true, false, List, [], ◌∷◌, ℕ, T, replicate}
use Rattle.std.proofs.Common.{sym, ◌∙◌}
use Rattle.std.proofs.Math.Path.{ap}
use Rattle.fold.specs.Test.{of_true}
use Rattle.fold.specs.Column.{column}
use Rattle.model.specs.Model.{Yard, Outcome, slot_of}
use Rattle.day.specs.Answer.{gives, refuses, on_given}
use Rattle.day.specs.Sound.{day_limits, sound}
use Rattle.planning.specs.Planning.{areas_suffice, planned, row_after}
use Rattle.rolling.specs.Rolling.{Account, state_of, cut, best_plan, begun_account, begun, begun_begins}
use Rattle.rolling.specs.Cut.{Standing, cut-sound}
use Rattle.rolling.specs.Follows.{begun-cut}
use Rattle.rolling.specs.Replanned.{plan_replanned, plan_refused}
use Rattle.replanning.specs.Replans.{plan_of_account}

module _ (a : Account) (st : Standing day_limits a) (z : Yard) (is : z ≡ cut a) (costs choices : ℕ) (enough : T (areas_suffice costs choices)) where
  same_day : planned day_limits z costs choices 12 ≡ planned day_limits (cut a) costs choices 12
  same_day = ap (λ y. planned day_limits y costs choices 12) is

  pub replan_refused : {k : ℕ} {carries : List ℕ} → refuses k carries ≡ planned day_limits z costs choices 12 → refuses k carries ≡ plan_of_account a
  replan_refused {k} {carries} e =
      sym (ap (λ x. on_given x (λ plan. gives (state_of a plan))) (plan_refused (cut a) (cut-sound st) costs choices enough k carries (sym same_day ∙ sym e)))

  pub replan_taken : {o : Outcome} {row : List ℕ} → gives o ≡ planned day_limits z costs choices 12
      → row ≡ row_after day_limits z costs choices (replicate 12 0) → gives (record { day = a.day; closed = a.closed; row = row }) ≡ plan_of_account a
  replan_taken {o} {row} e r =
      let p = plan_replanned (cut a) (cut-sound st) costs choices enough o (sym same_day ∙ sym e) in
      let wide : 12 ≡ a.day.width = sym st.is_sound.limits.shape.width in
      let q : row ≡ column a.day.width a.day.trains (slot_of p.plan) =
      r ∙ ap (λ y. row_after day_limits y costs choices (replicate 12 0)) is ∙ p.row ∙ ap (λ w. column w a.day.trains (slot_of p.plan)) wide in
      ap (λ row. gives (record { day = a.day; closed = a.closed; row = row })) q ∙ sym (ap (λ x. on_given x (λ plan. gives (state_of a plan))) p.best)

-- ---- begin

module _ (y : Yard) (costs choices : ℕ) where
  pub begun_unsound : sound day_limits y ≡ false → (refuses 8 (0 ∷ []) ≡ begun day_limits y costs choices) × (begun_begins day_limits y costs choices ≡ false)
  unfolding begun
  begun_unsound e = (rw e, rw e)

  module _ (s : sound day_limits y ≡ true) where
    pub begun_short : areas_suffice costs choices ≡ false → (refuses 10 (0 ∷ []) ≡ begun day_limits y costs choices) × (begun_begins day_limits y costs choices ≡ false)
    unfolding begun
    begun_short e = (rw (s, e), rw (s, e))

    pub begun-planned : areas_suffice costs choices ≡ true → (plan_of_account (begun_account y) ≡ begun day_limits y costs choices) × (begun_begins day_limits y costs choices ≡ true)
    unfolding begun
    begun-planned e =
        let open-day = ap (λ z. on_given (best_plan z) (λ plan. gives (state_of (begun_account y) plan))) (begun-cut day_limits y (of_true s)) in
        (open-day ∙ rw (s, e), rw (s, e))
