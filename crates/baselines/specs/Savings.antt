-- What the answers of the two calls mean, from their contracts and the model alone, on any day and with any areas.
--   complete-judged    a procedure's row that leaves no train without a slot is allowed on a sound day, or gets 14 with 0;
--   incomplete-judged  a row that leaves one without gets 14 with the lowest such position, whatever the groups;
--   saves              where four numbers and a saving are given, the procedure's row is allowed, they are the model's, and the saving is
--                      what the row costs more than the best plan: never below zero;
--   compared-boxes     and its direct and split moves are all boxes of the day;
--   planned-before     where 14 is given the day has a plan;
--   compared-only      on a sound day, in areas that suffice, a refusal is 9, 16 or 14;
--   refused-zeros      with a refusal all numbers are 0;
--   areas-after        what the two areas hold: after 8 or 10 all that they held; words beyond 2^n and T × 2^n always.
-- Assumes nothing.
use Rattle.std.specs.Prelude.{◌≡◌, Bool, true, false, ◌⊎◌, ℕ, suc, ◌+◌, ◌-◌, ◌*◌, ◌^◌, T, ◌-ℤ◌, length, drop}
use Rattle.std.proofs.Math.Path.{refl, sym, ap, subst}
use Rattle.std.proofs.Common.{◌∙◌, arith, eqb→eq, eq-eqb, ne_eqb}
use mathlib.Core.List.{List, [], ◌∷◌}
use Rattle.std.proofs.Math.Logic.{inl, inr, ⊎_elim}
use Rattle.std.proofs.Math.IntN.{pos, pos-+ℤ-pos, +ℤ-neg_ℤ_cancel}
use Rattle.fold.specs.Test.{of_true, is_false, test}
use Rattle.model.specs.Model.{Yard, Outcome, outcome, cost, fitting, kept, allowed, Best}
use Rattle.model.specs.Moves.{AllMoved}
use Rattle.model.proofs.Moves.{all_moved}
use Rattle.model.proofs.Rows.{fits_allowed}
use Rattle.day.specs.Answer.{Answer, gives, refuses, code, on_given}
use Rattle.day.specs.AnswerLaws.{gives_same, checked_gives, given_before, Only, only_given, only_checked, only_wider}
use Rattle.day.specs.Sound.{sound}
use Rattle.day.specs.declared.Limits.{Limits}
use Rattle.counting.specs.Counting.{figures}
use Rattle.planning.specs.Planning.{cost_words, choice_words, NoRowRefusal, planned, begins, open_words, Stays}
use Rattle.planning.proofs.Answers.{from_best, refuses_only, planned_only}
use Rattle.procedures.specs.Procedures.{left_over}
use Rattle.procedures.specs.Complete.{first_fits, myopic_fits}
use Rattle.comparing.specs.Comparing.{Comparison, comparison_or_zero, served_checks, against}
use Rattle.baselines.specs.Baselines.{row_by, compared, open_costs, open_choices}
use Rattle.baselines.specs.declared.Procedure.{Procedure}
use Rattle.baselines.specs.declared.Procedure.TheVariants.{FirstCome, Myopic}

-- a row, what is said of it, and what it costs more than the best plan
pub record Saves (y : Yard) (row : List ℕ) (c : Comparison) : Type 0 where
  pub is_allowed : T (allowed y row)
  pub numbers : c.outcome ≡ outcome y row
  pub plan : List ℕ
  pub is_best_lem : Best y plan
  pub saved : ℕ
  pub above : cost y row ≡ saved + cost y plan
  pub saving : c.saving ≡ pos saved

-- 9, 16 or 14
abbrev pub ComparedRefusal : ℕ → List ℕ → Type 0
ComparedRefusal k carries = NoRowRefusal k ⊎ (k ≡ 14)

above_zero : (a b s : ℕ) → a ≡ s + b → pos a -ℤ pos b ≡ pos s
above_zero a b s e = ap (λ k. pos k -ℤ pos b) e ∙ ap (λ k. k -ℤ pos b) (sym (pos-+ℤ-pos s b)) ∙ +ℤ-neg_ℤ_cancel (pos s) (pos b)

module _ (l : Limits) (y : Yard) where
  complete_fits : (p : Procedure) → T (sound l y) → left_over y.trains (row_by p y) ≡ y.trains → T (fitting y (row_by p y))
  complete_fits FirstCome s = first_fits l y s
  complete_fits Myopic s = myopic_fits l y s

  -- one that leaves a train over gets 14 with the lowest such position, whether or not it parts a group
  pub incomplete_judged : (row : List ℕ) → (left_over y.trains row ≡ y.trains → ⊥) → (best : ℕ) → against y row best ≡ refuses 14 (suc (left_over y.trains row) ∷ [])
  unfolding against
  incomplete_judged row some best = rw (ne_eqb (left_over y.trains row) y.trains some)

  -- whatever the planned cost is
  pub complete_judged : (p : Procedure) → T (sound l y) → left_over y.trains (row_by p y) ≡ y.trains
      → T (allowed y (row_by p y)) ⊎ ((best : ℕ) → against y (row_by p y) best ≡ refuses 14 (0 ∷ []))
  unfolding against
  complete_judged p s none =
      let row = row_by p y in
      ⊎_elim (λ k. inl (fits_allowed y row (complete_fits p s none) k))
      (λ k. inr (λ best. rw (eq-eqb (left_over y.trains row) y.trains none, is_false (kept y.trains y.groups row) k)))
      (test (kept y.trains y.groups row))

module _ (l : Limits) (y : Yard) (costs choices : ℕ) where
  pub saves : (p : Procedure) (c : Comparison) → compared l y (row_by p y) costs choices ≡ gives c → Saves y (row_by p y) c
  unfolding compared against cost
  saves p c e =
      let row = row_by p y in
      let (o, q, f) = given_before (planned l y costs choices y.trains) (λ best. against y row best.cost) c e in
      let best = from_best l y costs choices y.trains o q in
      let (h, g) = checked_gives (served_checks y row) (gives record { outcome = outcome y row; saving = pos (cost y row) -ℤ pos o.cost }) c f in
      let fits = fits_allowed y row (complete_fits l y p best.is_sound (eqb→eq (left_over y.trains row) y.trains h.0)) h.1.0 in
      let said = gives_same g in
      let saved = cost y row - cost y best.row in
      let above : cost y row ≡ saved + cost y best.row = omega (arith, best.best.least row fits) in
      record {
        is_allowed = fits;
        numbers = sym (ap (λ (x : Comparison). x.outcome) said);
        plan = best.row;
        is_best_lem = best.best;
        saved = saved;
        above = above;
        saving = sym (ap (λ (x : Comparison). x.saving) said) ∙ ap (λ (x : Outcome). pos (cost y row) -ℤ pos x.cost) best.numbers
            ∙ above_zero (cost y row) (cost y best.row) saved above;
      }

  -- order 6: of the procedure's row direct and split moves are all boxes of the day
  pub compared_boxes : (row : List ℕ) (c : Comparison) → compared l y row costs choices ≡ gives c → AllMoved y c.outcome
  unfolding compared against
  compared_boxes row c e =
      let (o, q, f) = given_before (planned l y costs choices y.trains) (λ best. against y row best.cost) c e in
      let (h, g) = checked_gives (served_checks y row) (gives record { outcome = outcome y row; saving = pos (cost y row) -ℤ pos o.cost }) c f in
      subst (AllMoved y) (ap (λ (x : Comparison). x.outcome) (gives_same g)) (all_moved y row)

  pub planned-before : (row carries : List ℕ) → compared l y row costs choices ≡ refuses 14 carries → (plan : List ℕ) × Best y plan
  unfolding compared
  planned-before row carries = go (planned l y costs choices y.trains) refl
    where
      go : (a : Answer Outcome) → planned l y costs choices y.trains ≡ a → on_given a (λ best. against y row best.cost) ≡ refuses 14 carries → (plan : List ℕ) × Best y plan
      go (gives o) p q = let best = from_best l y costs choices y.trains o p in (best.row, best.best)
      go (refuses k values) p q =
          absurd (let e : k ≡ 14 = ap code q in ⊎_elim (λ h. omega arith) (⊎_elim (λ h. omega arith) (⊎_elim (λ h. omega arith) (λ h. omega arith))) (refuses_only l y costs choices y.trains p))

  pub compared_only : (row : List ℕ) → T (begins l y costs choices y.trains) → Only ComparedRefusal (compared l y row costs choices)
  unfolding compared against
  compared_only row begun =
      only_given ComparedRefusal (planned l y costs choices y.trains) _
      (only_wider (λ k carries. NoRowRefusal k) ComparedRefusal (planned l y costs choices y.trains) (λ k carries e. inl e) (planned_only l y costs choices y.trains begun))
      λ best e. only_checked ComparedRefusal (served_checks y row) (gives record { outcome = outcome y row; saving = pos (cost y row) -ℤ pos best.cost }) (inr refl, (inr refl, tt)) tt

  pub refused_zeros : (row : List ℕ) (k : ℕ) (carries : List ℕ) → compared l y row costs choices ≡ refuses k carries
      → comparison_or_zero (compared l y row costs choices) ≡ record { outcome = figures 0 0 0 0; saving = pos 0 }
  refused_zeros row k carries e = ap comparison_or_zero e

-- ---- the two areas after the call

module _ (l : Limits) (y : Yard) (row cost choice costAfter choiceAfter : List ℕ)
    (contractCost : Stays (open_costs l y (length cost) (length choice)) cost costAfter) (contractChoice : Stays (open_choices l y (length cost) (length choice)) choice choiceAfter) where
  pub record Areas : Type 0 where
    pub unchanged : {k : ℕ} {carries : List ℕ} → compared l y row (length cost) (length choice) ≡ refuses k carries → (k ≡ 8) ⊎ (k ≡ 10) → (costAfter ≡ cost) × (choiceAfter ≡ choice)
    pub cost_beyond : drop (2 ^ y.trains) costAfter ≡ drop (2 ^ y.trains) cost
    pub choice_beyond : drop (y.slots * 2 ^ y.trains) choiceAfter ≡ drop (y.slots * 2 ^ y.trains) choice

  pub areas_after : Areas
  areas_after = go (begins l y (length cost) (length choice) y.trains) refl contractCost contractChoice
    where
      neither : (k : ℕ) → (k ≡ 8) ⊎ (k ≡ 10) → NoRowRefusal k ⊎ (k ≡ 14) → ⊥
      neither k z = ⊎_elim (⊎_elim (λ b. ⊎_elim (λ a. omega arith) (λ a. omega arith) z) (λ b. ⊎_elim (λ a. omega arith) (λ a. omega arith) z)) (λ b. ⊎_elim (λ a. omega arith) (λ a. omega arith) z)

      go : (b : Bool) → begins l y (length cost) (length choice) y.trains ≡ b → Stays (open_words b (cost_words y)) cost costAfter → Stays (open_words b (choice_words y)) choice choiceAfter → Areas
      go false e c h = record { unchanged = λ q z. (c, h); cost_beyond = ap (drop (2 ^ y.trains)) c; choice_beyond = ap (drop (y.slots * 2 ^ y.trains)) h }
      go true e c h = record {
        unchanged = λ {k} q z. absurd (
            let only = compared_only l y (length cost) (length choice) row (of_true e) in
            neither k z (subst (Only {X = Comparison} ComparedRefusal) q only)
            );
        cost_beyond = c;
        choice_beyond = h;
      }
