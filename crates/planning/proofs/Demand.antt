-- Laws of Demand.antt of specs/.
-- Demand 3, from the planning call's contract and the model alone. Let `said` and `after` be what a call answers and leaves in the row, as
-- its contract says, on a sound day and lent the memory that 01 names: at least 2^n words, T × 2^n words and n bytes. Then
--   plan-or-refused  a plan, 9 or 16 is returned, never 10;
--   plan-exactly     a plan is returned exactly when an allowed row exists;
--   plan-best        it is the best row: allowed, no allowed row is cheaper, none of equal cost comes before it; its four numbers are the
--                    model's; and the bytes beyond it are those lent;
--   plan-foremost    the order among rows of equal cost is order 5's of document 02: none of them has fewer revisits, of those with as many
--                    none a smaller sum of slot numbers, and of those with as small a one none the larger set number at the lowest
--                    slot where they differ;
--   plan-fewest      where the revisit weight is the sum of all boxes and the split weight 1 (order 8), it has the fewest revisits of all
--                    allowed rows, and the fewest split moves of those that share this fewest; `plan_outweighs`: as where a revisit weighs
--                    more;
--   plan-refused     otherwise the answer is 9, with the overbooked interval that 01 names and the number of trains bound inside, or 16;
--   nine-exactly     9 is returned exactly when an interval is overbooked;
--   sixteen-exactly  16 is returned exactly when none is and still no row is allowed;
--   ungrouped        on a day without groups nothing differs from before order 4: a plan or 9 is returned.
-- On any day and in any memory:
--   unsound-eight    a day that is not sound gets 8, whatever is lent;
--   short-ten        a sound day gets 10 where less is lent than 01 names;
--   memory-after     what lent memory holds: after 8 or 10 all that it held; after 9 and 16 the row does; words beyond 2^n and T × 2^n
--                    always do.
-- Assumes nothing.
use Rattle.std.specs.Prelude.{◌≡◌, refl, Bool, true, false, cond, ◌&&◌, ◌↔◌, ◌⊎◌, ℕ, ◌*◌, ◌^◌, ◌≤◌, ◌<◌, length, take, drop}
use Rattle.std.proofs.Common.{sym, ap, ◌∙◌, subst, inl, inr, arith, le→leb}
use mathlib.Core.List.{List, [], ◌∷◌, ◌++◌}
use Rattle.std.proofs.Math.Logic.{⊎_elim}
use Rattle.std.proofs.Math.Option.{Option, none, some}
use Rattle.std.proofs.Math.Dec.{T, leb, leb→le}
use Rattle.fold.specs.Test.{is_true, is_false, both, both_of}
use Rattle.fold.specs.Listed.{take_front, drop_front}
use Rattle.model.specs.Model.{Yard, Outcome, outcome, bound_inside, Best, SomeRow, NoRow, overbooked, FirstOverbooked}
use Rattle.model.proofs.Rows.{allowed_is}
use Rattle.model.specs.Groups.{NoGroups}
use Rattle.model.specs.BestOf.{best_of}
use Rattle.model.proofs.BestOf.{none_is, is_best, is_none_lem}
use Rattle.model.specs.Foremost.{Foremost}
use Rattle.model.proofs.Foremost.{best_foremost}
use Rattle.model.specs.Fewest.{SumWeights, Outweighs, Fewest}
use Rattle.model.proofs.Fewest.{sum_outweighs, best_fewest}
use Rattle.model.specs.Overbooked.{Interval, first_overbooked, SaysFirst}
use Rattle.model.proofs.Overbooked.{first_says}
use Rattle.day.specs.Answer.{Answer, gives, refuses, code}
use Rattle.day.specs.AnswerLaws.{gives_same}
use Rattle.day.specs.Sound.{sound}
use Rattle.day.specs.SoundLaws.{sound_is}
use Rattle.day.specs.declared.Limits.{Limits}
use Rattle.feasibility.proofs.NoRow.{no_row_lem}
use Rattle.feasibility.proofs.RowOrNone.{none_spacious, some_over, no_row_over}
use Rattle.planning.specs.Planning.{cost_words, choice_words, suffices, begins, no_row, best_answer, NoRowRefusal, planned, placed, row_after, open_words, Stays}
use Rattle.planning.proofs.Answers.{none_answer, best_refuses, none_gives, planned-begun, row-begun}
use Rattle.planning.specs.Demand.{Given, Nine, Sixteen, Memory}

-- ---- the memory named in 01

module _ (l : Limits) (y : Yard) (costs choices bytes : ℕ) where
  -- it is enough
  pub memory_suffices : T (sound l y) → 2 ^ y.trains ≤ costs → y.slots * 2 ^ y.trains ≤ choices → y.trains ≤ bytes → T (begins l y costs choices bytes)
  memory_suffices s c h r =
      both (sound l y) (suffices y costs choices bytes) s
      (both (leb (2 ^ y.trains) costs && leb (y.slots * 2 ^ y.trains) choices) (leb y.trains bytes)
      (both (leb (2 ^ y.trains) costs) (leb (y.slots * 2 ^ y.trains) choices) (le→leb _ _ c) (le→leb _ _ h)) (le→leb _ _ r))

  -- and less is not
  pub short_ten : T (sound l y) → (costs < 2 ^ y.trains) ⊎ ((choices < y.slots * 2 ^ y.trains) ⊎ (bytes < y.trains)) → planned l y costs choices bytes ≡ refuses 10 (0 ∷ [])
  unfolding planned
  short_ten s short = rw (is_true (sound l y) s, is_false (suffices y costs choices bytes) missing)
    where
      missing : T (suffices y costs choices bytes) → ⊥
      missing t =
          let (u, r) = both_of (leb (2 ^ y.trains) costs && leb (y.slots * 2 ^ y.trains) choices) (leb y.trains bytes) t in
          let (c, h) = both_of (leb (2 ^ y.trains) costs) (leb (y.slots * 2 ^ y.trains) choices) u in
          let enoughCost = leb→le (2 ^ y.trains) costs c in
          let enoughChoice = leb→le (y.slots * 2 ^ y.trains) choices h in
          let enoughRow = leb→le y.trains bytes r in
          ⊎_elim (λ q. omega (arith, enoughCost)) (⊎_elim (λ q. omega (arith, enoughChoice)) (λ q. omega (arith, enoughRow))) short

  pub unsound_eight : sound l y ≡ false → planned l y costs choices bytes ≡ refuses 8 (0 ∷ [])
  unfolding planned
  unsound_eight e = rw e

module _ (l : Limits) (y : Yard) (costs choices : ℕ) (row : List ℕ)
    (is_sound : T (sound l y)) (costsNamed : 2 ^ y.trains ≤ costs) (choicesNamed : y.slots * 2 ^ y.trains ≤ choices) (rowNamed : y.trains ≤ length row)
    (said : Answer Outcome) (after : List ℕ)
    (contract : said ≡ planned l y costs choices (length row)) (contractRow : after ≡ row_after l y costs choices row) where
  begun : T (begins l y costs choices (length row))
  begun = memory_suffices l y costs choices (length row) is_sound costsNamed choicesNamed rowNamed

  says : said ≡ best_answer y (best_of y)
  says = contract ∙ planned-begun l y costs choices (length row) begun

  row_is : after ≡ placed (best_of y) row
  row_is = contractRow ∙ row-begun l y costs choices row begun

  some-best : (r : List ℕ) → best_of y ≡ some r → (said ≡ gives (outcome y r)) × Best y r × (after ≡ r ++ drop y.trains row) × (length r ≡ y.trains)
  some-best r e =
      let b = is_best y r e in
      let long = (allowed_is y r b.is_allowed).long in
      (says ∙ ap (best_answer y) e, b, row_is ∙ ap (λ o. placed o row) e ∙ ap (λ k. r ++ drop k row) long, long)

  -- a plan is the best row
  from_best : (r : List ℕ) (o : Outcome) → best_of y ≡ some r → said ≡ gives o → (Given l y costs choices row is_sound costsNamed choicesNamed rowNamed said after contract contractRow) o
  from_best r o e g =
      let (a, b, is, long) = some-best r e in
      let front : take y.trains after ≡ r = ap (take y.trains) is ∙ take_front r (drop y.trains row) long in
      let same : outcome y r ≡ o = gives_same (sym a ∙ g) in
      record {
        best = subst (Best y) (sym front) b;
        numbers = sym same ∙ ap (outcome y) (sym front);
        beyond = ap (drop y.trains) is ∙ drop_front r (drop y.trains row) long;
      }

  nine : best_of y ≡ none → (w : Interval) → first_overbooked y ≡ some w → (Nine l y costs choices row is_sound costsNamed choicesNamed rowNamed said after contract contractRow)
  nine e w f =
      record {
        first = w.first;
        last = w.last;
        named = subst (SaysFirst y) f (first_says y);
        is = says ∙ ap (best_answer y) e ∙ none_answer y ∙ ap (no_row y) f;
      }

  sixteen : best_of y ≡ none → first_overbooked y ≡ none → (Sixteen l y costs choices row is_sound costsNamed choicesNamed rowNamed said after contract contractRow)
  sixteen e f = record { nowhere = is_none_lem y e; spacious = none_spacious y f; is = says ∙ ap (best_answer y) e ∙ none_answer y ∙ ap (no_row y) f }

  refused : best_of y ≡ none → (Nine l y costs choices row is_sound costsNamed choicesNamed rowNamed said after contract contractRow) ⊎ (Sixteen l y costs choices row is_sound costsNamed choicesNamed rowNamed said after contract contractRow)
  refused e = go (first_overbooked y) refl
    where
      go : (o : Option Interval) → first_overbooked y ≡ o → (Nine l y costs choices row is_sound costsNamed choicesNamed rowNamed said after contract contractRow) ⊎ (Sixteen l y costs choices row is_sound costsNamed choicesNamed rowNamed said after contract contractRow)
      go none f = inr (sixteen e f)
      go (some w) f = inl (nine e w f)

  pub plan_best : (o : Outcome) → said ≡ gives o → (Given l y costs choices row is_sound costsNamed choicesNamed rowNamed said after contract contractRow) o
  plan_best o g = go (best_of y) refl
    where
      go : (b : Option (List ℕ)) → best_of y ≡ b → (Given l y costs choices row is_sound costsNamed choicesNamed rowNamed said after contract contractRow) o
      go none e = absurd (none_gives y o (sym (says ∙ ap (best_answer y) e) ∙ g))
      go (some r) e = from_best r o e g

  pub plan_foremost : (o : Outcome) → said ≡ gives o → Foremost y (take y.trains after)
  plan_foremost o g = best_foremost y (take y.trains after) (plan_best o g).best

  pub plan_outweighs : Outweighs y → (o : Outcome) → said ≡ gives o → Fewest y (take y.trains after)
  plan_outweighs w o g = best_fewest y w (take y.trains after) (plan_best o g).best

  pub plan_fewest : SumWeights y → (o : Outcome) → said ≡ gives o → Fewest y (take y.trains after)
  plan_fewest w = plan_outweighs (sum_outweighs y w)

  pub plan_exactly : ((o : Outcome) × (said ≡ gives o)) ↔ SomeRow y
  plan_exactly = (λ g. (take y.trains after, (plan_best g.0 g.1).best.is_allowed), λ r. go r (best_of y) refl)
    where
      go : SomeRow y → (b : Option (List ℕ)) → best_of y ≡ b → (o : Outcome) × (said ≡ gives o)
      go r none e = absurd (is_none_lem y e r.0 r.1)
      go r (some best) e = (outcome y best, (some-best best e).0)

  pub plan_refused : NoRow y → (Nine l y costs choices row is_sound costsNamed choicesNamed rowNamed said after contract contractRow) ⊎ (Sixteen l y costs choices row is_sound costsNamed choicesNamed rowNamed said after contract contractRow)
  plan_refused nowhere = refused (none_is y nowhere)

  pub plan_or_refused : ((o : Outcome) × (said ≡ gives o)) ⊎ ((Nine l y costs choices row is_sound costsNamed choicesNamed rowNamed said after contract contractRow) ⊎ (Sixteen l y costs choices row is_sound costsNamed choicesNamed rowNamed said after contract contractRow))
  plan_or_refused = go (best_of y) refl
    where
      go : (b : Option (List ℕ)) → best_of y ≡ b → ((o : Outcome) × (said ≡ gives o)) ⊎ ((Nine l y costs choices row is_sound costsNamed choicesNamed rowNamed said after contract contractRow) ⊎ (Sixteen l y costs choices row is_sound costsNamed choicesNamed rowNamed said after contract contractRow))
      go none e = inr (refused e)
      go (some r) e = inl (outcome y r, (some-best r e).0)

  -- ---- when 9, and when 16

  -- where it is one of the two, no row is allowed
  said_none : {k : ℕ} {carries : List ℕ} → said ≡ refuses k carries → best_of y ≡ none
  said_none {k} {carries} e = go (best_of y) refl
    where
      go : (b : Option (List ℕ)) → best_of y ≡ b → best_of y ≡ none
      go none f = f
      go (some r) f = absurd (let z : gives (outcome y r) ≡ refuses k carries = sym (some-best r f).0 ∙ e in let q : ◌≡◌ {A = ℕ} 0 1 = cc in omega arith)

  pub nine_exactly : ((carries : List ℕ) × (said ≡ refuses 9 carries)) ↔ ((a b : ℕ) × T (overbooked y a b))
  nine_exactly = (
    λ w. ⊎_elim (λ (n : (Nine l y costs choices row is_sound costsNamed choicesNamed rowNamed said after contract contractRow)). (n.first, n.last, n.named.is_over)) (λ (s : (Sixteen l y costs choices row is_sound costsNamed choicesNamed rowNamed said after contract contractRow)). absurd (let e = ap code (sym w.1 ∙ s.is) in omega arith)) (refused (said_none w.1)),
    λ w. ⊎_elim (λ (n : (Nine l y costs choices row is_sound costsNamed choicesNamed rowNamed said after contract contractRow)). (_, n.is)) (λ (s : (Sixteen l y costs choices row is_sound costsNamed choicesNamed rowNamed said after contract contractRow)). absurd (s.spacious w.0 w.1 w.2)) (refused (none_is y (no_row_lem y w.0 w.1 w.2))),
  )

  pub sixteen_exactly : (said ≡ refuses 16 (0 ∷ [])) ↔ (NoRow y × ((a b : ℕ) → T (overbooked y a b) → ⊥))
  sixteen_exactly = (
    λ e. ⊎_elim (λ (n : (Nine l y costs choices row is_sound costsNamed choicesNamed rowNamed said after contract contractRow)). absurd (let q = ap code (sym e ∙ n.is) in omega arith)) (λ (s : (Sixteen l y costs choices row is_sound costsNamed choicesNamed rowNamed said after contract contractRow)). (s.nowhere, s.spacious)) (refused (said_none e)),
    λ w. ⊎_elim (λ (n : (Nine l y costs choices row is_sound costsNamed choicesNamed rowNamed said after contract contractRow)). absurd (w.1 n.first n.last n.named.is_over)) (λ (s : (Sixteen l y costs choices row is_sound costsNamed choicesNamed rowNamed said after contract contractRow)). s.is) (plan_refused w.0),
  )

  -- ---- a day without groups: its allowed rows are those that fit (model's `without_groups`), and the answer is a plan or 9

  pub ungrouped : NoGroups y → ((o : Outcome) × (said ≡ gives o)) ⊎ (Nine l y costs choices row is_sound costsNamed choicesNamed rowNamed said after contract contractRow)
  ungrouped none-grouped = ⊎_elim (λ g. inl g) (⊎_elim (λ n. inr n) (λ (s : (Sixteen l y costs choices row is_sound costsNamed choicesNamed rowNamed said after contract contractRow)). absurd (never s))) plan_or_refused
    where
      never : (Sixteen l y costs choices row is_sound costsNamed choicesNamed rowNamed said after contract contractRow) → ⊥
      never s =
          let (w, f) = no_row_over y (sound_is l y is_sound).windows none-grouped s.nowhere in
          s.spacious w.first w.last (some_over y w f)

module _ (l : Limits) (y : Yard) (cost choice row : List ℕ) (said : Answer Outcome) (costAfter choiceAfter rowAfterwards : List ℕ)
    (contract : said ≡ planned l y (length cost) (length choice) (length row)) (contractRow : rowAfterwards ≡ row_after l y (length cost) (length choice) row)
    (contractCost : Stays (open_words (begins l y (length cost) (length choice) (length row)) (cost_words y)) cost costAfter)
    (contractChoice : Stays (open_words (begins l y (length cost) (length choice) (length row)) (choice_words y)) choice choiceAfter) where
  pub memory_after : (Memory l y cost choice row said costAfter choiceAfter rowAfterwards contract contractRow contractCost contractChoice)
  unfolding planned row_after
  memory_after = go (sound l y) (suffices y (length cost) (length choice) (length row)) contract contractRow contractCost contractChoice
    where
      -- the best plan, 9 or 16: neither 8 nor 10, and the row changes only by a plan
      other : {k : ℕ} {carries : List ℕ} (b : Option (List ℕ)) → best_answer y b ≡ refuses k carries → (k ≡ 8) ⊎ (k ≡ 10) → ⊥
      other b q z = ⊎_elim (λ n. ⊎_elim (λ h. omega arith) (λ h. omega arith) z) (λ n. ⊎_elim (λ h. omega arith) (λ h. omega arith) z) (best_refuses y b q)

      kept : {k : ℕ} {carries : List ℕ} (b : Option (List ℕ)) → best_answer y b ≡ refuses k carries → placed b row ≡ row
      kept none q = refl
      kept (some best) q = absurd (let e : ◌≡◌ {A = ℕ} 0 1 = cc in omega arith)

      go : (s e : Bool) → said ≡ cond s (cond e (best_answer y (best_of y)) (refuses 10 (0 ∷ []))) (refuses 8 (0 ∷ []))
          → rowAfterwards ≡ cond (s && e) (placed (best_of y) row) row → Stays (open_words (s && e) (cost_words y)) cost costAfter
          → Stays (open_words (s && e) (choice_words y)) choice choiceAfter → (Memory l y cost choice row said costAfter choiceAfter rowAfterwards contract contractRow contractCost contractChoice)
      go false e a r c h = record {
        unchanged = λ q z. (c, (h, r));
        row_kept = λ q n. r;
        cost_beyond = ap (drop (2 ^ y.trains)) c;
        choice_beyond = ap (drop (y.slots * 2 ^ y.trains)) h;
      }
      go true false a r c h = record {
        unchanged = λ q z. (c, (h, r));
        row_kept = λ q n. r;
        cost_beyond = ap (drop (2 ^ y.trains)) c;
        choice_beyond = ap (drop (y.slots * 2 ^ y.trains)) h;
      }
      go true true a r c h = record {
        unchanged = λ q z. absurd (other (best_of y) (sym a ∙ q) z);
        row_kept = λ q n. r ∙ kept (best_of y) (sym a ∙ q);
        cost_beyond = c;
        choice_beyond = h;
      }
