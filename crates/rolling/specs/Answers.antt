-- What single calls answer on any sound state, also one whose plan is not the best:
--   change-taken    a change that is taken gives the best plan of the changed account;
--   taken-exactly   one that passes its checks is taken exactly where an allowed row keeps served trains in their slots and puts all
--                   others into open ones;
--   change-refused  else it gets 9 with the first overbooked interval of what is left to planning and the trains bound inside, or 16
--                   where none is overbooked;
--   always-taken    cancel and set boxes that pass their checks are taken: the plan that was there, without the train that left, is
--                   still allowed, so they get neither 9 nor 16;
--   taken-sound, begun-sound, never-eight   a state that a call gives is sound, and on a sound state no call gets 8.
-- Assumes nothing.
use Rattle.std.specs.Prelude.{◌≡◌, List, [], ◌∷◌, ◌⊎◌, ◌↔◌, ◌≢◌, ℕ, ◌<◌}
use Rattle.std.proofs.Math.Path.{refl, subst}
use Rattle.std.proofs.Common.{ap, ◌∙◌, inl, inr}
use Rattle.std.proofs.Math.Option.{Option, none, some}
use native.Mathlib.Omega.{arith}
use Rattle.std.proofs.Math.Dec.{T, ltb→lt}
use Rattle.model.specs.Model.{Yard, NoRow, overbooked, FirstOverbooked, bound_inside}
use Rattle.model.specs.BestOf.{best_of}
use Rattle.model.proofs.BestOf.{is_best, is_none_lem, none_is}
use Rattle.model.specs.Overbooked.{Interval, first_overbooked, SaysFirst}
use Rattle.model.proofs.Overbooked.{first_says}
use Rattle.day.specs.Answer.{Answer, gives, refuses, on_given}
use Rattle.day.specs.AnswerLaws.{AllHold, gives_same, checked_gives, checked_holds, given_before, Only, OnlyChecks, only_given, only_after}
use Rattle.day.specs.declared.Limits.{Limits}
use Rattle.feasibility.proofs.RowOrNone.{none_spacious}
use Rattle.planning.specs.Planning.{areas_suffice, no_row, best_row}
use Rattle.rolling.specs.Rolling.{Account, State, plan_of, account_of, state_of, Change, cancel, add, set_boxes, edited, cut, KeptRow, best_plan, Call, close, change, change_checks, call_checks, state_sound, state_made, state_checks, state_after, begun}
use Rattle.rolling.specs.Cut.{Standing, keeps_cut, cut_keeps}
use Rattle.rolling.specs.Changes.{change_standing, NoNewTrain, row_left}
use Rattle.rolling.specs.States.{sound_state, state_sound_lem, state_standing, plan_keeps, closed_sound}
use Rattle.rolling.specs.Follows.{Follows, planned_follows, plan_given, begin_follows}

-- ---- no row is left

module _ {X : Type 0} (y : Yard) (said : Answer X) where
  pub record Nine : Type 0 where
    pub first : ℕ
    pub last : ℕ
    pub named : FirstOverbooked y first last
    pub is : said ≡ refuses 9 (first ∷ last ∷ bound_inside y first last ∷ [])

  pub record Sixteen : Type 0 where
    pub spacious : (a b : ℕ) → T (overbooked y a b) → ⊥
    pub is : said ≡ refuses 16 (0 ∷ [])

  pub none_refused : (f : List ℕ → Answer X) → said ≡ on_given (best_plan y) f → NoRow y → Nine ⊎ Sixteen
  none_refused f e nowhere = go (first_overbooked y) refl
    where
      no_plan : said ≡ on_given (no_row y (first_overbooked y)) f
      no_plan = e ∙ ap (λ o. on_given (best_row y o) f) (none_is y nowhere)

      go : (w : Option Interval) → first_overbooked y ≡ w → Nine ⊎ Sixteen
      go none e = inr (record { spacious = none_spacious y e; is = no_plan ∙ ap (λ w. on_given (no_row y w) f) e })
      go (some w) e = inl (record {
        first = w.first;
        last = w.last;
        named = subst (SaysFirst y) e (first_says y);
        is = no_plan ∙ ap (λ w. on_given (no_row y w) f) e;
      })

-- ---- a change

module _ (l : Limits) (s : State) (c : Change) (costs choices : ℕ) where
  pub change_taken : (next : State) → state_after l s (change c costs choices) ≡ gives next → Follows l (edited (account_of s) c) next
  unfolding state_after
  change_taken next e =
      let a = edited (account_of s) c in
      let ((t, (u, h)), g) = checked_gives (state_checks l s (change c costs choices)) (state_made s (change c costs choices)) next e in
      let (plan, p, q) = given_before (best_plan (cut a)) (λ plan. gives (state_of a plan)) next g in
      subst (Follows l a) (gives_same q)
      (planned_follows l a (change_standing (state_standing (sound_state l s t)) c h) plan (is_best (cut a) plan (plan_given (cut a) plan p)))

  module _ (t : T (state_sound l s)) (enough : T (areas_suffice costs choices)) (h : AllHold (change_checks l (account_of s) c)) where
    abbrev after : Account
    after = edited (account_of s) c

    standing : Standing l after
    standing = change_standing (state_standing (sound_state l s t)) c h

    -- there is a row that planning may choose
    abbrev pub SomeKeptRow : Type 0
    SomeKeptRow = (row : List ℕ) × KeptRow after row

    pub change_says : state_after l s (change c costs choices) ≡ state_made s (change c costs choices)
    unfolding state_after
    change_says = checked_holds (state_checks l s (change c costs choices)) (state_made s (change c costs choices)) (t, (enough, h))

    with_plan : (plan : List ℕ) → best_of (cut after) ≡ some plan → state_after l s (change c costs choices) ≡ gives (state_of after plan)
    with_plan plan e = change_says ∙ ap (λ o. on_given (best_row (cut after) o) (λ plan. gives (state_of after plan))) e

    pub taken_exactly : ((next : State) × (state_after l s (change c costs choices) ≡ gives next)) ↔ SomeKeptRow
    taken_exactly = (λ w. let b = (change_taken w.0 w.1).best in (plan_of w.0, (b.is_allowed, b.keeps)), λ w. go w (best_of (cut after)) refl)
      where
        go : SomeKeptRow → (o : Option (List ℕ)) → best_of (cut after) ≡ o → (next : State) × (state_after l s (change c costs choices) ≡ gives next)
        go w none e = absurd (is_none_lem (cut after) e w.0 (keeps_cut standing w.0 w.1.0 w.1.1))
        go w (some plan) e = (state_of after plan, with_plan plan e)

    pub change_refused : (SomeKeptRow → ⊥) → Nine (cut after) (state_after l s (change c costs choices)) ⊎ Sixteen (cut after) (state_after l s (change c costs choices))
    change_refused nowhere =
        none_refused (cut after) (state_after l s (change c costs choices)) (λ plan. gives (state_of after plan)) change_says (λ row u. let (a, k) = cut_keeps standing row u in nowhere (row, (a, k)))

    pub always_taken : NoNewTrain c → (next : State) × (state_after l s (change c costs choices) ≡ gives next)
    always_taken u =
        let d = sound_state l s t in
        let (plan, e) = row_left (state_standing d) (plan_of s) d.is_allowed (plan_keeps d) c u h in
        (state_of after plan, with_plan plan e)

-- ---- 8

module _ (l : Limits) where
  pub begun-sound : (y : Yard) (costs choices : ℕ) (s : State) → begun l y costs choices ≡ gives s → T (state_sound l s)
  begun-sound y costs choices s e = (begin_follows l y costs choices s e).is_sound

  pub taken_sound : (s : State) (call : Call) (next : State) → state_after l s call ≡ gives next → T (state_sound l next)
  unfolding state_after
  taken_sound s close next e =
      let ((t, (o, u)), g) = checked_gives (state_checks l s close) (state_made s close) next e in
      let opens : s.closed < s.day.slots = ltb→lt s.closed s.day.slots o in
      subst (λ x. T (state_sound l x)) (gives_same g) (state_sound_lem l _ (closed_sound (sound_state l s t) opens))
  taken_sound s (change c costs choices) next e = (change_taken l s c costs choices next e).is_sound

  NotEight : ℕ → List ℕ → Type 0
  NotEight k carries = k ≢ 8

  checks_only : (s : State) (call : Call) → OnlyChecks NotEight (call_checks l (account_of s) call)
  unfolding NotEight
  checks_only s close = (λ e. omega arith, tt)
  checks_only s (change (cancel x) costs choices) = (λ e. omega arith, (λ e. omega arith, (λ e. omega arith, tt)))
  checks_only s (change (add x first last) costs choices) = (λ e. omega arith, (λ e. omega arith, (λ e. omega arith, (λ e. omega arith, tt))))
  checks_only s (change (set_boxes to from boxes) costs choices) = (λ e. omega arith, (λ e. omega arith, (λ e. omega arith, (λ e. omega arith, tt))))

  plan_only : (y : Yard) → Only NotEight (best_plan y)
  plan_only y = go (best_of y)
    where
      row : (w : Option Interval) → Only {X = List ℕ} NotEight (no_row y w)
      row none = unfold NotEight in λ e. omega arith
      row (some w) = unfold NotEight in λ e. omega arith

      go : (o : Option (List ℕ)) → Only NotEight (best_row y o)
      go none = row (first_overbooked y)
      go (some r) = tt

  made_only : (s : State) (call : Call) → Only NotEight (state_made s call)
  made_only s close = tt
  made_only s (change c costs choices) =
      only_given NotEight (best_plan (cut (edited (account_of s) c))) (λ plan. gives (state_of (edited (account_of s) c) plan)) (plan_only (cut (edited (account_of s) c))) (λ plan e. tt)

  pub never_eight : (s : State) (call : Call) → T (state_sound l s) → (carries : List ℕ) → state_after l s call ≡ refuses 8 carries → ⊥
  unfolding state_after NotEight
  never_eight s call t carries e =
      subst (Only NotEight) e (only_after NotEight (state_sound l s) 8 (0 ∷ []) (call_checks l (account_of s) call) (state_made s call) t (checks_only s call) (made_only s call)) refl
