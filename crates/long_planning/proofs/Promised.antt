-- Laws of Promised.antt of specs/.
-- Order 9's sentences on planning long days, from the call's contract and the model alone. On a sound long day, at a width of 1 to 64 and lent
-- a row of at least n bytes:
--   long-plan-or-nine  a plan or 9 is returned, never another refusal;
--   long-exactly       a plan is returned exactly when an allowed row exists;
--   long-nine-exactly  9 is returned exactly when no row is allowed;
--   long-nine          it carries the overbooked interval that 01 names and the number of trains bound inside;
--   long-plan          the plan is an allowed row, its four numbers are the model's, and the bytes beyond it are those lent;
--   long-lower         no allowed row costs less than the lower figure, the plan among them;
--   long-best          where the number of full slots is 0 the cost is least, and the plan is the best of all allowed rows in order 5's order.
-- On any day, at any width and in any row:
--   long-unsound, long-width, long-short   when 8, 21 and 10 are returned, in this order;
--   long-only          a sound day gets 21, 10 or 9 and no other refusal;
--   long_kept          a refusal leaves every byte of the row;
--   long-beyond        bytes beyond the first n never change.
-- The laws `found-…` say the same of the search itself, and `long_planned_lem`, `long_row_lem` what the call answers and leaves where its checks hold.
-- Assumes nothing.
use Rattle.std.specs.Prelude.{◌≡◌, refl, Bool, true, false, List, [], ◌∷◌, ◌++◌, ◌↔◌, ◌⊎◌, ℕ, ◌≤◌, ◌<◌, leb, length, take, drop}
use Rattle.std.proofs.Common.{sym, ◌∙◌, inl, inr, arith, le→leb}
use Rattle.std.proofs.Math.Path.{ap, subst}
use Rattle.std.proofs.Math.Bool.{cond}
use Rattle.std.proofs.Math.Logic.{⊎_elim}
use Rattle.std.proofs.Math.Option.{Option, none, some}
use Rattle.std.proofs.Math.Dec.{T, leb→le}
use Rattle.fold.specs.Test.{is_true, is_false, of_true, both, both_of}
use Rattle.fold.specs.Counting.{le_or_lt}
use Rattle.fold.specs.Listed.{take_front, drop_front}
use Rattle.model.specs.Model.{Yard, outcome, cost, bound_inside, allowed, Best, SomeRow, NoRow, FirstOverbooked}
use Rattle.model.proofs.Rows.{allowed_is}
use Rattle.model.specs.Overbooked.{Interval, first_overbooked, SaysFirst}
use Rattle.model.proofs.Overbooked.{first_says}
use Rattle.day.specs.Answer.{Answer, gives, refuses, holding}
use Rattle.day.specs.AnswerLaws.{Only, only_wider, AllHold, gives_same, checked_holds, all_holding, holding_all}
use Rattle.day.specs.Sound.{sound}
use Rattle.day.specs.SoundLaws.{Sound, sound_is}
use Rattle.feasibility.proofs.RowOrNone.{none_fitting}
use Rattle.planning.specs.Planning.{no_row, placed}
use Rattle.beam.specs.Beam.{full_slots, beam_row}
use Rattle.beam.specs.LowerFigure.{lower_figure}
use Rattle.beam.proofs.LowerFigure.{figure_lower}
use Rattle.beam.specs.Result.{Says}
use Rattle.beam.proofs.Result.{beam_says, best-fitting}
use Rattle.beam.specs.NothingCut.{SaysBest}
use Rattle.beam.proofs.NothingCut.{beam_best}
use Rattle.long_day.specs.LongDay.{long_limits}
use Rattle.long_day.specs.LongLaws.{long_allowed}
use Rattle.long_planning.specs.LongPlanning.{LongOutcome, is_width, long_checks, found_answer, long_planned, long_row_after}
use Rattle.long_planning.specs.Promised.{Plan, Nine}

-- ---- what the search says of a sound long day, in allowed rows

module _ (y : Yard) (width : ℕ) (is_sound : T (sound long_limits y)) (some_width_lem : 1 ≤ width) where
  checked_day : Sound long_limits y
  checked_day = sound_is long_limits y is_sound

  searched : Says y (beam_row y width)
  searched = beam_says y width checked_day.windows some_width_lem

  -- a row that it finds is allowed, and where it finds none, none is
  pub found-allowed : (row : List ℕ) → beam_row y width ≡ some row → T (allowed y row)
  found-allowed row e = subst T (sym (long_allowed y is_sound row)) (subst (Says y) e searched)

  pub found_nowhere : beam_row y width ≡ none → NoRow y
  found_nowhere e = λ row ok. subst (Says y) e searched row (subst T (long_allowed y is_sound row) ok)

  -- no allowed row costs less than the lower figure
  pub found-lower : (other : List ℕ) → T (allowed y other) → lower_figure y ≤ cost y other
  found-lower other ok = figure_lower y checked_day.own other (subst T (long_allowed y is_sound other) ok)

  -- where nothing was cut it is the best plan
  pub found-best : (row : List ℕ) → beam_row y width ≡ some row → full_slots y width ≡ 0 → Best y row
  found-best row e uncut = best-fitting y (long_allowed y is_sound) row (subst (SaysBest y) e (beam_best y width some_width_lem uncut checked_day.windows))

  -- where it finds none an interval is overbooked
  pub found_none : beam_row y width ≡ none → (w : Interval) × (first_overbooked y ≡ some w)
  found_none e = go (first_overbooked y) refl
    where
      go : (o : Option Interval) → first_overbooked y ≡ o → (w : Interval) × (first_overbooked y ≡ some w)
      go none f = let (row, fits) = none_fitting y checked_day.windows f in absurd (subst (Says y) e searched row fits)
      go (some w) f = (w, f)

-- ---- what the call answers and leaves where its checks hold

module _ (y : Yard) (width : ℕ) (is_sound : T (sound long_limits y)) (some_width_lem : 1 ≤ width) (few_width_lem : width ≤ 64) where
  all_hold : (bytes : ℕ) → y.trains ≤ bytes → AllHold (long_checks long_limits y width bytes)
  all_hold bytes long =
      (is_sound, (both (leb 1 width) (leb width 64) (le→leb 1 width some_width_lem) (le→leb width 64 few_width_lem), (le→leb y.trains bytes long, tt)))

  pub long_planned_lem : (bytes : ℕ) → y.trains ≤ bytes → long_planned long_limits y width bytes ≡ found_answer y width (beam_row y width)
  unfolding long_planned
  long_planned_lem bytes long = checked_holds (long_checks long_limits y width bytes) (found_answer y width (beam_row y width)) (all_hold bytes long)

  pub long_row_lem : (row : List ℕ) → y.trains ≤ length row → long_row_after long_limits y width row ≡ placed (beam_row y width) row
  unfolding long_row_after
  long_row_lem row long =
      ap (λ b. cond b (placed (beam_row y width) row) row)
      (is_true (holding (long_checks long_limits y width (length row))) (all_holding (long_checks long_limits y width (length row)) (all_hold (length row) long)))

module _ (y : Yard) (width : ℕ) (row : List ℕ)
    (is_sound : T (sound long_limits y)) (some_width_lem : 1 ≤ width) (few_width_lem : width ≤ 64) (rowNamed : y.trains ≤ length row)
    (said : Answer LongOutcome) (after : List ℕ)
    (contract : said ≡ long_planned long_limits y width (length row)) (contractRow : after ≡ long_row_after long_limits y width row) where
  says : said ≡ found_answer y width (beam_row y width)
  says = contract ∙ long_planned_lem y width is_sound some_width_lem few_width_lem (length row) rowNamed

  row_is : after ≡ placed (beam_row y width) row
  row_is = contractRow ∙ long_row_lem y width is_sound some_width_lem few_width_lem row rowNamed

  from_row : (r : List ℕ) (o : LongOutcome) → beam_row y width ≡ some r → said ≡ gives o → (Plan y width row is_sound some_width_lem few_width_lem rowNamed said after contract contractRow) o
  from_row r o e g =
      let ok = found-allowed y width is_sound some_width_lem r e in
      let long = (allowed_is y r ok).long in
      let placed-is : after ≡ r ++ drop y.trains row = row_is ∙ ap (λ p. placed p row) e ∙ ap (λ k. r ++ drop k row) long in
      let front : take y.trains after ≡ r = ap (take y.trains) placed-is ∙ take_front r (drop y.trains row) long in
      let same : found_answer y width (some r) ≡ gives o = sym (says ∙ ap (found_answer y width) e) ∙ g in
      let numbers = gives_same same in
      record {
        found = e ∙ ap some (sym front);
        numbers = ap (λ (n : LongOutcome). n.row) (sym numbers) ∙ ap (outcome y) (sym front);
        full = ap (λ (n : LongOutcome). n.full) (sym numbers);
        lower = ap (λ (n : LongOutcome). n.lower) (sym numbers);
        is_allowed = subst (λ p. T (allowed y p)) (sym front) ok;
        beyond = ap (drop y.trains) placed-is ∙ drop_front r (drop y.trains row) long;
        best_if_none_full = λ z. subst (Best y) (sym front) (found-best y width is_sound some_width_lem r e (ap (λ (n : LongOutcome). n.full) numbers ∙ z));
        none_below = λ other ok. subst (λ k. k ≤ cost y other) (ap (λ (n : LongOutcome). n.lower) numbers) (found-lower y width is_sound some_width_lem other ok);
      }

  nine : beam_row y width ≡ none → (Nine y width row is_sound some_width_lem few_width_lem rowNamed said after contract contractRow)
  nine e =
      let (w, f) = found_none y width is_sound some_width_lem e in
      record {
        nowhere = found_nowhere y width is_sound some_width_lem e;
        first = w.first;
        last = w.last;
        named = subst (SaysFirst y) f (first_says y);
        is = says ∙ ap (found_answer y width) e ∙ ap (no_row y) f;
      }

  pub long_plan_or_nine : ((o : LongOutcome) × (said ≡ gives o)) ⊎ (Nine y width row is_sound some_width_lem few_width_lem rowNamed said after contract contractRow)
  long_plan_or_nine = go (beam_row y width) refl
    where
      go : (o : Option (List ℕ)) → beam_row y width ≡ o → ((o : LongOutcome) × (said ≡ gives o)) ⊎ (Nine y width row is_sound some_width_lem few_width_lem rowNamed said after contract contractRow)
      go none e = inr (nine e)
      go (some r) e = inl (_, says ∙ ap (found_answer y width) e)

  pub long_plan : (o : LongOutcome) → said ≡ gives o → (Plan y width row is_sound some_width_lem few_width_lem rowNamed said after contract contractRow) o
  long_plan o g = go (beam_row y width) refl
    where
      go : (p : Option (List ℕ)) → beam_row y width ≡ p → (Plan y width row is_sound some_width_lem few_width_lem rowNamed said after contract contractRow) o
      go none e = absurd (let z : refuses 9 _ ≡ gives o = sym (nine e).is ∙ g in let q : ◌≡◌ {A = ℕ} 0 1 = cc in omega arith)
      go (some r) e = from_row r o e g

  pub long_best : (o : LongOutcome) → said ≡ gives o → o.full ≡ 0 → Best y (take y.trains after)
  long_best o g = (long_plan o g).best_if_none_full

  -- the plan is one of the allowed rows that cost no less
  pub long_lower : (o : LongOutcome) → said ≡ gives o → ((other : List ℕ) → T (allowed y other) → o.lower ≤ cost y other) × (o.lower ≤ o.row.cost)
  unfolding cost
  long_lower o g =
      let p = long_plan o g in
      (p.none_below, subst (λ n. o.lower ≤ n.cost) (sym p.numbers) (p.none_below (take y.trains after) p.is_allowed))

  pub long_exactly : ((o : LongOutcome) × (said ≡ gives o)) ↔ SomeRow y
  long_exactly = (
    λ g. (take y.trains after, (long_plan g.0 g.1).is_allowed),
    λ r. ⊎_elim (λ g. g) (λ (n : (Nine y width row is_sound some_width_lem few_width_lem rowNamed said after contract contractRow)). absurd (n.nowhere r.0 r.1)) long_plan_or_nine,
  )

  pub long_nine : NoRow y → (Nine y width row is_sound some_width_lem few_width_lem rowNamed said after contract contractRow)
  long_nine nowhere = ⊎_elim (λ (g : (o : LongOutcome) × (said ≡ gives o)). absurd (nowhere (take y.trains after) (long_plan g.0 g.1).is_allowed)) (λ n. n) long_plan_or_nine

  pub long_nine_exactly : ((carries : List ℕ) × (said ≡ refuses 9 carries)) ↔ NoRow y
  long_nine_exactly = (
    λ w. ⊎_elim (λ (g : (o : LongOutcome) × (said ≡ gives o)). absurd (let z : gives g.0 ≡ refuses 9 w.0 = sym g.1 ∙ w.1 in let q : ◌≡◌ {A = ℕ} 0 1 = cc in omega arith)) (λ (n : (Nine y width row is_sound some_width_lem few_width_lem rowNamed said after contract contractRow)). n.nowhere) long_plan_or_nine,
    λ nowhere. let n = long_nine nowhere in (_, n.is),
  )

-- ---- the checks, on any record, at any width and in any row

module _ (y : Yard) (width bytes : ℕ) where
  pub long_unsound : sound long_limits y ≡ false → long_planned long_limits y width bytes ≡ refuses 8 (0 ∷ [])
  unfolding long_planned
  long_unsound e = rw e

  pub long_width_lem : T (sound long_limits y) → (width < 1) ⊎ (64 < width) → long_planned long_limits y width bytes ≡ refuses 21 (0 ∷ [])
  unfolding long_planned
  long_width_lem s outside = rw (is_true (sound long_limits y) s, is_false (is_width width) not_wide)
    where
      not_wide : T (is_width width) → ⊥
      not_wide t =
          let (some_width, few) = both_of (leb 1 width) (leb width 64) t in
          let a = leb→le 1 width some_width in
          let b = leb→le width 64 few in
          ⊎_elim (λ q. omega arith) (λ q. omega arith) outside

  pub long_short : T (sound long_limits y) → T (is_width width) → bytes < y.trains → long_planned long_limits y width bytes ≡ refuses 10 (0 ∷ [])
  unfolding long_planned
  long_short s w short = rw (is_true (sound long_limits y) s, is_true (is_width width) w, is_false (leb y.trains bytes) (λ t. let a = leb→le y.trains bytes t in omega arith))

-- so a sound day gets 21, 10 or 9 and no other refusal, and 9 alone where the width and the row pass
module _ (y : Yard) (width bytes : ℕ) (is_sound : T (sound long_limits y)) where
  pub long_found_only : 1 ≤ width → width ≤ 64 → y.trains ≤ bytes → Only (λ k carries. k ≡ 9) (long_planned long_limits y width bytes)
  long_found_only some_width few long =
      subst (Only (λ k carries. k ≡ 9)) (sym (long_planned_lem y width is_sound some_width few bytes long)) (go (beam_row y width) refl)
    where
      go : (o : Option (List ℕ)) → beam_row y width ≡ o → Only (λ k carries. k ≡ 9) (found_answer y width o)
      go none e = subst (λ i. Only {X = LongOutcome} (λ k carries. k ≡ 9) (no_row y i)) (sym (found_none y width is_sound some_width e).1) refl
      go (some row) e = tt

  pub long_only : Only (λ k carries. (k ≡ 21) ⊎ ((k ≡ 10) ⊎ (k ≡ 9))) (long_planned long_limits y width bytes)
  long_only =
      ⊎_elim
      (λ (a : 1 ≤ width).
      ⊎_elim
      (λ (b : 65 ≤ width). is (long_width_lem y width bytes is_sound (inr b)) (inl refl))
      (λ (b : width < 65).
      ⊎_elim
      (λ (c : y.trains ≤ bytes). only_wider (λ k carries. k ≡ 9) Any (long_planned long_limits y width bytes) (λ k carries q. inr (inr q)) (long_found_only a (omega arith) c))
      (λ (c : bytes < y.trains). is (long_short y width bytes is_sound (both (leb 1 width) (leb width 64) (le→leb 1 width a) (le→leb width 64 (omega arith))) c) (inr (inl refl)))
      (le_or_lt y.trains bytes))
      (le_or_lt (65) width))
      (λ (a : width < 1). is (long_width_lem y width bytes is_sound (inl a)) (inl refl))
      (le_or_lt 1 width)
    where
      Any : ℕ → List ℕ → Type 0
      Any k carries = (k ≡ 21) ⊎ ((k ≡ 10) ⊎ (k ≡ 9))

      is : {k : ℕ} {carries : List ℕ} → long_planned long_limits y width bytes ≡ refuses k carries → Any k carries → Only Any (long_planned long_limits y width bytes)
      is e h = subst (Only Any) (sym e) h

pub long_kept : (y : Yard) (width : ℕ) (row : List ℕ) {k : ℕ} {carries : List ℕ} → long_planned long_limits y width (length row) ≡ refuses k carries
    → long_row_after long_limits y width row ≡ row
unfolding long_planned long_row_after
long_kept y width row {k} {carries} e = go (holding (long_checks long_limits y width (length row))) refl
  where
    unplaced : (o : Option (List ℕ)) → found_answer y width o ≡ refuses k carries → placed o row ≡ row
    unplaced none q = refl
    unplaced (some r) q = absurd (let z : ◌≡◌ {A = ℕ} 0 1 = cc in omega arith)

    go : (b : Bool) → holding (long_checks long_limits y width (length row)) ≡ b → cond b (placed (beam_row y width) row) row ≡ row
    go false h = refl
    go true h =
        unplaced (beam_row y width)
        (sym (checked_holds (long_checks long_limits y width (length row)) (found_answer y width (beam_row y width)) (holding_all (long_checks long_limits y width (length row)) (of_true h))) ∙ e)

pub long_beyond : (y : Yard) (width : ℕ) (row : List ℕ) → drop y.trains (long_row_after long_limits y width row) ≡ drop y.trains row
unfolding long_row_after
long_beyond y width row = go (holding (long_checks long_limits y width (length row))) refl
  where
    past : T (sound long_limits y) → 1 ≤ width → (o : Option (List ℕ)) → beam_row y width ≡ o → drop y.trains (placed o row) ≡ drop y.trains row
    past is_sound some_width none e = refl
    past is_sound some_width (some r) e =
        let long = (allowed_is y r (found-allowed y width is_sound some_width r e)).long in
        drop_front r (drop (length r) row) long ∙ ap (λ k. drop k row) long

    go : (b : Bool) → holding (long_checks long_limits y width (length row)) ≡ b → drop y.trains (cond b (placed (beam_row y width) row) row) ≡ drop y.trains row
    go false h = refl
    go true h =
        let (is_sound, (wide, rest)) = holding_all (long_checks long_limits y width (length row)) (of_true h) in
        past is_sound (leb→le 1 width (both_of (leb 1 width) (leb width 64) wide).0) (beam_row y width) refl
