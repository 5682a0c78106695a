-- Laws of Laws.antt of specs/.
-- How the planning call's parts come to its answer: each of the answers that the code gives.
-- Assumes nothing.
use Rattle.std.specs.Prelude.{◌≡◌, Bool, false, ◌&&◌, List, [], ◌∷◌, ◌++◌, ℕ, ◌*◌, ◌^◌, ◌≤◌, length, take, drop}
use Rattle.std.proofs.Math.Path.{refl, ap₂, subst}
use Rattle.std.proofs.Common.{sym, ap, ◌∙◌, take-append-drop, length-take-le}
use Rattle.std.proofs.Math.Bool.{true}
use Rattle.std.proofs.Math.Option.{Option, none, some}
use Rattle.model.specs.Model.{Yard, Outcome, outcome, bound_inside, NoRow}
use Rattle.model.specs.BestOf.{best_of}
use Rattle.model.proofs.BestOf.{none_is}
use Rattle.model.specs.Overbooked.{Interval, first_overbooked}
use Rattle.day.specs.Answer.{Answer, gives, refuses}
use Rattle.day.specs.Sound.{sound}
use Rattle.day.specs.declared.Limits.{Limits}
use Rattle.feasibility.proofs.RowOrNone.{some_no_row}
use Rattle.planning.specs.Planning.{cost_words, choice_words, best_answer, suffices, planned, begins, placed, row_after, open_words, Stays}
use Rattle.planning.specs.Laws.{Decided, Left}

-- a row that is found stands in the first n bytes, and the bytes beyond are those lent
pub placed_front : (n : ℕ) (found : Option (List ℕ)) (row₀ row : List ℕ) → found ≡ some (take n row) → drop n row ≡ drop n row₀ → n ≤ length row → row ≡ placed found row₀
placed_front n found row₀ row e beyond long =
    sym (take-append-drop n row) ∙ ap (λ (r : List ℕ). take n row ++ r) beyond ∙ ap (λ k. take n row ++ drop k row₀) (sym (length-take-le n row long)) ∙ sym (ap (λ o. placed o row₀) e)

-- where words of an area are open or none is, those beyond stay
pub stays_beyond : (begun : Bool) (words : ℕ) (before after : List ℕ) → Stays (open_words begun words) before after → drop words after ≡ drop words before
stays_beyond true words before after s = s
stays_beyond false words before after s = ap (drop words) s

-- ---- the answers, from what the code has found

module _ (y : Yard) where
  -- an overbooked interval: no row is allowed
  pub says_nine : (w : Interval) (row : List ℕ) → first_overbooked y ≡ some w
      → (refuses 9 (w.first ∷ w.last ∷ bound_inside y w.first w.last ∷ []) ≡ best_answer y (best_of y)) × (row ≡ placed (best_of y) row)
  says_nine w row e = let n = none_is y (some_no_row y w e) in (rw (n, e), rw n)

  -- none, and still no row is allowed
  pub says_sixteen : (row : List ℕ) → first_overbooked y ≡ none → NoRow y → (refuses 16 (0 ∷ []) ≡ best_answer y (best_of y)) × (row ≡ placed (best_of y) row)
  says_sixteen row e nowhere = let n = none_is y nowhere in (rw (n, e), rw n)

  -- the best row stands in the first n bytes
  pub says_plan : (row₀ row : List ℕ) → best_of y ≡ some (take y.trains row) → drop y.trains row ≡ drop y.trains row₀ → y.trains ≤ length row
      → (gives (outcome y (take y.trains row)) ≡ best_answer y (best_of y)) × (row ≡ placed (best_of y) row₀)
  says_plan row₀ row b d long = (rw b, placed_front y.trains (best_of y) row₀ row b d long)

module _ (l : Limits) (y : Yard) (cost choice row : List ℕ) where
  pub left_unsound : sound l y ≡ false → Left l y cost choice row (refuses 8 (0 ∷ [])) cost choice row
  unfolding planned row_after
  left_unsound s = record { says = simp s; row_is = simp s; costs = refl; choices = refl }

  pub left_short : sound l y ≡ true → suffices y (length cost) (length choice) (length row) ≡ false → Left l y cost choice row (refuses 10 (0 ∷ [])) cost choice row
  unfolding planned row_after
  left_short s e = record { says = rw (s, e); row_is = rw (s, e); costs = refl; choices = refl }

  pub left_best : {size : ℕ} {said : Answer Outcome} {cost' choice' row' : List ℕ} → size ≡ 2 ^ y.trains → sound l y ≡ true → suffices y (length cost) (length choice) (length row) ≡ true
      → Decided y size cost choice row said cost' choice' row' → Left l y cost choice row said cost' choice' row'
  unfolding planned row_after
  left_best {size} {said} {cost'} {choice'} {row'} n s e d =
      let begun : begins l y (length cost) (length choice) (length row) ≡ true = ap₂ (λ a b. a && b) s e in
      record {
        says = rw (s, e) d.says;
        row_is = rw (s, e) d.row_is;
        costs = subst (λ b. Stays (open_words b (cost_words y)) cost cost') (sym begun) (subst (λ k. Stays k cost cost') n d.costs);
        choices = subst (λ b. Stays (open_words b (choice_words y)) choice choice') (sym begun) (subst (λ k. Stays (y.slots * k) choice choice') n d.choices);
      }
