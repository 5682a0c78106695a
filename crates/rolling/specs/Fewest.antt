-- Order 8 of document 02 on a day that keeps moving: where a revisit weighs at least as much as split moves of all boxes of the day as it is
-- now, the plan has the fewest revisits of all allowed rows that keep served trains where they were and put all others into open slots, and
-- the fewest split moves of those that share this fewest (`kept_fewest`, of every list of calls `rolling_fewest`). The calls change no
-- weight; with weights of 33,660 and 1 it holds after each of them, whatever boxes are set (`always_fewest`).
-- Assumes nothing.
use Rattle.std.specs.Prelude.{◌≡◌, refl, List, [], ◌∷◌, ◌↔◌, ℕ, ◌≤◌, T}
use Rattle.std.proofs.Common.{sym, ap, ◌∙◌, subst, arith}
use Rattle.model.specs.Model.{Yard, cost, allowed}
use Rattle.model.specs.Fewest.{Outweighs, FewestOf}
use Rattle.model.proofs.Fewest.{cheapest_fewest, fewest_cheapest}
use Rattle.day.specs.Answer.{Answer, gives, refuses}
use Rattle.day.specs.AnswerLaws.{gives_same, checked_gives, given_before}
use Rattle.day.specs.Sound.{day_limits, sound}
use Rattle.day.specs.Reweighed.{most_outweigh}
use Rattle.day.specs.declared.Limits.{Limits}
use Rattle.rolling.specs.Rolling.{Account, State, plan_of, Keeps, KeptRow, BestKept, edited, Call, close, change, cut, closed_by, best_plan, call_checks, account_made, account_after, begun_account, begun, or_before, states, accounts}
use Rattle.rolling.specs.States.{sound_state}
use Rattle.rolling.specs.Follows.{rolling}
use Rattle.rolling.specs.Exactly.{same_head_lem}

-- of the rows that planning may choose: the fewest revisits, and the fewest split moves of those that share this fewest
abbrev pub FewestKept : Account → List ℕ → Type 0
FewestKept a = FewestOf a.day (KeptRow a)

module _ (a : Account) (row : List ℕ) (o : Outweighs a.day) where
  -- just the cheapest of them
  pub kept_exactly : FewestKept a row
      ↔ ((T (allowed a.day row) × Keeps a row) × ((other : List ℕ) → T (allowed a.day other) → Keeps a other → cost a.day row ≤ cost a.day other))
  kept_exactly = (
    λ f. let c = fewest_cheapest a.day o (KeptRow a) row f in (c.0, λ other t k. c.1 other (t, k)),
    λ c. cheapest_fewest a.day o (KeptRow a) row (c.0, λ other k. c.1 other k.0 k.1),
  )

  pub kept_fewest : BestKept a row → FewestKept a row
  kept_fewest b = kept_exactly.1 ((b.is_allowed, b.keeps), b.least)

module _ (l : Limits) (y : Yard) (costs choices : ℕ) (s : State) (taken : begun l y costs choices ≡ gives s) (calls : List Call) where
  pub rolling_fewest : let now = accounts l (begun_account y) calls in Outweighs now.day → FewestKept now (plan_of (states l s calls))
  rolling_fewest o = kept_fewest (accounts l (begun_account y) calls) (plan_of (states l s calls)) o (rolling l y costs choices s taken calls).best

-- ---- the calls change no weight

module _ (l : Limits) where
  made_weights : (a : Account) (call : Call) (b : Account) → account_made a call ≡ gives b → (b.day.revisit ≡ a.day.revisit) × (b.day.split ≡ a.day.split)
  made_weights a close b e =
      let (plan, p, q) = given_before (best_plan (cut a)) (λ plan. gives (closed_by plan a)) b e in
      let same = gives_same q in
      (ap (λ x. x.day.revisit) (sym same), ap (λ x. x.day.split) (sym same))
  made_weights a (change c costs choices) b e =
      let (plan, p, q) = given_before (best_plan (cut (edited a c))) (λ plan. gives (edited a c)) b e in
      let same = gives_same q in
      let head = same_head_lem a c in
      (ap (λ x. x.day.revisit) (sym same) ∙ head.revisit, ap (λ x. x.day.split) (sym same) ∙ head.split)

  next_weights : (a : Account) (call : Call) → let b = or_before a (account_after l a call) in (b.day.revisit ≡ a.day.revisit) × (b.day.split ≡ a.day.split)
  next_weights a call = go (account_after l a call) refl
    where
      go : (x : Answer Account) → account_after l a call ≡ x → ((or_before a x).day.revisit ≡ a.day.revisit) × ((or_before a x).day.split ≡ a.day.split)
      go (refuses k carries) e = (refl, refl)
      go (gives b) e = made_weights a call b (checked_gives (call_checks l a call) (account_made a call) b e).1

  pub same_weights : (calls : List Call) (a : Account) → ((accounts l a calls).day.revisit ≡ a.day.revisit) × ((accounts l a calls).day.split ≡ a.day.split)
  same_weights [] a = (refl, refl)
  same_weights (call ∷ calls) a =
      let here = next_weights a call in
      let rest = same_weights calls (or_before a (account_after l a call)) in
      (rest.0 ∙ here.0, rest.1 ∙ here.1)

-- no day has more than 33,660 boxes
pub always_fewest : (y : Yard) (costs choices : ℕ) (s : State) → begun day_limits y costs choices ≡ gives s → 33660 ≤ y.revisit → y.split ≡ 1
    → (calls : List Call) → FewestKept (accounts day_limits (begun_account y) calls) (plan_of (states day_limits s calls))
always_fewest y costs choices s taken enough one calls =
    let f = rolling day_limits y costs choices s taken calls in
    let weights = same_weights day_limits calls (begun_account y) in
    let sound-now = subst (λ a. T (sound day_limits a.day)) f.account (sound_state day_limits (states day_limits s calls) f.is_sound).is_sound in
    rolling_fewest day_limits y costs choices s taken calls
    (most_outweigh (accounts day_limits (begun_account y) calls).day sound-now (omega (arith, weights.0)) (weights.1 ∙ one))
