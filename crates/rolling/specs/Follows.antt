-- Order 7: for every list of calls after a begin that was taken, the state equals the plain account, and its plan is the best of all allowed
-- rows that keep served trains where they were and put all others into open slots (`rolling`). Each call answers what it makes of the
-- account (`answers_agree`).
-- Assumes nothing.
use Rattle.std.specs.Prelude.{◌≡◌, refl, true, false, List, [], ◌∷◌, ℕ, ◌≤◌, ◌<◌, T}
use Rattle.std.proofs.Common.{sym, ap, ◌∙◌, arith, ltb→lt, eq-eqb}
use Rattle.std.proofs.Math.Path.{subst}
use Rattle.std.proofs.Math.Option.{Option, none, some}
use Rattle.std.proofs.Math.Nat.{max-eq_left}
use Rattle.std.proofs.lemmas.List.{length-replicate}
use Rattle.fold.specs.Test.{is_true}
use Rattle.model.specs.Model.{Yard, first_slot, last_slot, slot_of, Best}
use Rattle.model.specs.BestOf.{best_of}
use Rattle.model.proofs.BestOf.{best_is, is_best}
use Rattle.model.specs.Overbooked.{Interval, first_overbooked}
use Rattle.day.specs.Answer.{Answer, gives, refuses, on_given, Check, must, checked}
use Rattle.day.specs.AnswerLaws.{AllHold, gives_same, checked_gives, given_before}
use Rattle.day.specs.Sound.{sound}
use Rattle.day.specs.declared.Limits.{Limits}
use Rattle.fold.specs.Column.{column_ext, is_column, zeros-at}
use Rattle.planning.specs.Planning.{no_row, best_row}
use Rattle.rolling.specs.Rolling.{Account, State, plan_of, account_of, state_of, edited, cut_first, cut_last, cut, BestKept, best_plan, Call, close, change, call_checks, account_made, account_after, state_sound, state_made, state_after, begun_account, begun_checks, begun, or_before, states, accounts}
use Rattle.day.specs.SoundDay.{sound_day}
use Rattle.rolling.specs.Places.{zeros_past}
use Rattle.rolling.specs.Cut.{Standing, cut_keeps, best-kept, kept-best}
use Rattle.rolling.specs.Changes.{change_standing}
use Rattle.rolling.specs.States.{SoundState, sound_state, state_sound_lem, state_standing, new_plan, new_sound, new_account, next_closed, closed_sound, closed_account, closed_best}

-- the state has this account, and the best plan of it
pub record Follows (l : Limits) (a : Account) (s : State) : Type 0 where
  pub account : account_of s ≡ a
  pub is_sound : T (state_sound l s)
  pub best : BestKept a (plan_of s)

-- ---- answers beside each other

module _ {X Z : Type 0} (R : Answer X → Answer Z → Type 0) (same : (k : ℕ) (carries : List ℕ) → R (refuses k carries) (refuses k carries)) where
  -- the same checks before two answers
  checked_beside : (checks : List Check) (a : Answer X) (b : Answer Z) → (AllHold checks → R a b) → R (checked checks a) (checked checks b)
  checked_beside [] a b h = h tt
  checked_beside (must true k carries ∷ checks) a b h = checked_beside checks a b (λ t. h (tt, t))
  checked_beside (must false k carries ∷ checks) a b h = same k carries

  -- what follows from one answer
  given_beside : {W : Type 0} (a : Answer W) (f : W → Answer X) (g : W → Answer Z) → ((w : W) → a ≡ gives w → R (f w) (g w)) → R (on_given a f) (on_given a g)
  given_beside (gives w) f g h = h w refl
  given_beside (refuses k carries) f g h = same k carries

pub plan_given : (y : Yard) (plan : List ℕ) → best_plan y ≡ gives plan → best_of y ≡ some plan
plan_given y plan e = go (best_of y) e
  where
    refused : (w : Option Interval) → no_row y w ≡ gives plan → ⊥
    refused none q = let z : ◌≡◌ {A = ℕ} 0 1 = cc in omega arith
    refused (some w) q = let z : ◌≡◌ {A = ℕ} 0 1 = cc in omega arith

    go : (o : Option (List ℕ)) → best_row y o ≡ gives plan → o ≡ some plan
    go none q = absurd (refused (first_overbooked y) q)
    go (some r) q = ap some (gives_same q)

module _ (l : Limits) where
  -- ---- a new plan, a slot closed

  pub planned_follows : (a : Account) → Standing l a → (plan : List ℕ) → Best (cut a) plan → Follows l a (state_of a plan)
  planned_follows a s plan b =
      let (t, k) = cut_keeps s plan b.is_allowed in
      record {
        account = new_account s plan t k;
        is_sound = state_sound_lem l (state_of a plan) (new_sound s plan t k);
        best = subst (BestKept a) (sym (new_plan s plan t k)) (best-kept s plan b);
      }

  -- ---- one call

  -- two answers to one call, on the state and on the account: a state that follows the account, or the same refusal
  abbrev pub Beside : Answer State → Answer Account → Type 0
  Beside (gives s) (gives a) = Follows l a s
  Beside (gives s) (refuses k carries) = ⊥
  Beside (refuses k carries) (gives a) = ⊥
  Beside (refuses k carries) (refuses m brings) = (k ≡ m) × (carries ≡ brings)

  module _ (s : State) (t : T (state_sound l s)) (b : BestKept (account_of s) (plan_of s)) where
    d : SoundState l s
    d = sound_state l s t

    pub best_here : best_of (cut (account_of s)) ≡ some (plan_of s)
    best_here = best_is (cut (account_of s)) (plan_of s) (kept-best (state_standing d) (plan_of s) b)

    made : (call : Call) → AllHold (call_checks l (account_of s) call) → Beside (state_made s call) (account_made (account_of s) call)
    made close h =
        let opens : s.closed < s.day.slots = ltb→lt _ _ h.0 in
        rw best_here
        (record {
          account = closed_account d opens;
          is_sound = state_sound_lem l (next_closed s) (closed_sound d opens);
          best = subst (λ a. BestKept a (plan_of s)) (closed_account d opens) (closed_best d opens b);
        })
    made (change c costs choices) h =
        let a = edited (account_of s) c in
        given_beside Beside (λ k carries. (refl, refl)) (best_plan (cut a)) (λ plan. gives (state_of a plan)) (λ plan. gives a)
        (λ plan e. planned_follows a (change_standing (state_standing d) c h.1) plan (is_best (cut a) plan (plan_given (cut a) plan e)))

    call_beside : (call : Call) → Beside (state_after l s call) (account_after l (account_of s) call)
    unfolding state_after
    call_beside call =
        rw (is_true (state_sound l s) t)
        (checked_beside Beside (λ k carries. (refl, refl)) (call_checks l (account_of s) call) (state_made s call) (account_made (account_of s) call) (made call))

  pub answers_agree : (a : Account) (s : State) → Follows l a s → (call : Call) → Beside (state_after l s call) (account_after l a call)
  answers_agree a s f call =
      subst (λ b. Beside (state_after l s call) (account_after l b call)) f.account (call_beside s f.is_sound (subst (λ b. BestKept b (plan_of s)) (sym f.account) f.best) call)

  -- a refused call leaves the state as before, and the account
  next_follows : (a : Account) (s : State) → Follows l a s → (x : Answer State) (b : Answer Account) → Beside x b → Follows l (or_before a b) (or_before s x)
  next_follows a s f (gives x) (gives b) r = r
  next_follows a s f (gives x) (refuses k carries) r = absurd r
  next_follows a s f (refuses k carries) (gives b) r = absurd r
  next_follows a s f (refuses k carries) (refuses m brings) r = f

  -- ---- every list of calls

  pub calls_follow : (calls : List Call) (a : Account) (s : State) → Follows l a s → Follows l (accounts l a calls) (states l s calls)
  calls_follow [] a s f = f
  calls_follow (call ∷ calls) a s f =
      calls_follow calls (or_before a (account_after l a call)) (or_before s (state_after l s call))
      (next_follows a s f (state_after l s call) (account_after l a call) (answers_agree a s f call))

  -- ---- begin

  pub begun-standing : (y : Yard) → T (sound l y) → Standing l (begun_account y)
  begun-standing y t =
      let d = sound_day l y t in
      record {
        is_sound = d;
        closed = omega arith;
        long = length-replicate {A = ℕ} y.width 0 ∙ d.limits.shape.width;
        past = λ i h. zeros-at y.width i;
        served = λ i h k. absurd (let e = zeros-at y.width i in omega arith);
        waiting = λ i h e. let w = d.limits.windows i h in omega arith;
      }

  -- with every slot open nothing is cut: the day is planned as it is
  pub begun-cut : (y : Yard) → T (sound l y) → cut (begun_account y) ≡ y
  begun-cut y t =
      let d = sound_day l y t in
      let shape = d.limits.shape in
      let firsts =
      column_ext y.width y.trains (cut_first (begun_account y)) (first_slot y) (λ i h. first_here i (d.limits.windows i h).0)
      ∙ is_column y.width y.trains y.first (shape.first ∙ sym shape.width) (zeros_past y.first shape.first (λ i h k. (d.unused i h k).1)) in
      let lasts =
      column_ext y.width y.trains (cut_last (begun_account y)) (last_slot y) (λ i h. last_here i)
      ∙ is_column y.width y.trains y.last (shape.last ∙ sym shape.width) (zeros_past y.last shape.last (λ i h k. (d.unused i h k).2)) in
      λ i. record {
        trains = y.trains;
        tracks = y.tracks;
        slots = y.slots;
        revisit = y.revisit;
        split = y.split;
        numbers = y.numbers;
        first = firsts i;
        last = lasts i;
        groups = y.groups;
        width = y.width;
        boxes = y.boxes;
      }
    where
      first_here : (i : ℕ) → 1 ≤ first_slot y i → cut_first (begun_account y) i ≡ first_slot y i
      first_here i h = unfold cut_first in rw (eq-eqb (slot_of (begun_account y).served i) 0 (zeros-at y.width i)) (max-eq_left {n = first_slot y i} {m = 1} h)

      last_here : (i : ℕ) → cut_last (begun_account y) i ≡ last_slot y i
      last_here i = unfold cut_last in rw (eq-eqb (slot_of (begun_account y).served i) 0 (zeros-at y.width i))

  pub begin_follows : (y : Yard) (costs choices : ℕ) (s : State) → begun l y costs choices ≡ gives s → Follows l (begun_account y) s
  unfolding begun
  begin_follows y costs choices s e =
      let ((t, u), g) = checked_gives (begun_checks l y costs choices) (on_given (best_plan y) (λ plan. gives (state_of (begun_account y) plan))) s e in
      let (plan, p, q) = given_before (best_plan y) (λ plan. gives (state_of (begun_account y) plan)) s g in
      subst (Follows l (begun_account y)) (gives_same q)
      (planned_follows (begun_account y) (begun-standing y t) plan (subst (λ z. Best z plan) (sym (begun-cut y t)) (is_best y plan (plan_given y plan p))))

  -- ---- order 7

  pub rolling : (y : Yard) (costs choices : ℕ) (s : State) → begun l y costs choices ≡ gives s
      → (calls : List Call) → Follows l (accounts l (begun_account y) calls) (states l s calls)
  rolling y costs choices s e calls = calls_follow calls (begun_account y) s (begin_follows y costs choices s e)

-- ---- calls as code makes them: whatever gives the states that the contract says

abbrev pub run : (State → Call → State) → State → List Call → State
run step s [] = s
run step s (call ∷ calls) = run step (step s call) calls

module _ (l : Limits) (step : State → Call → State) (contract : (s : State) (call : Call) → step s call ≡ or_before s (state_after l s call)) where
  runs : (calls : List Call) (s : State) → run step s calls ≡ states l s calls
  runs [] s = refl
  runs (call ∷ calls) s = ap (λ r. run step r calls) (contract s call) ∙ runs calls (or_before s (state_after l s call))

  pub code_follows : (y : Yard) (costs choices : ℕ) (s : State) → begun l y costs choices ≡ gives s
      → (calls : List Call) → Follows l (accounts l (begun_account y) calls) (run step s calls)
  code_follows y costs choices s e calls = subst (Follows l (accounts l (begun_account y) calls)) (sym (runs calls s)) (rolling l y costs choices s e calls)
