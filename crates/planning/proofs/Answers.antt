-- Laws of Answers.antt of specs/.
-- What follows from planning's answer alone: where both checks hold it is the best plan, 9 or 16, and 4,096 and 32,768 words suffice for
-- every sound day; a plan is the best row of a sound day; its refusals are 8, 10, 9 and 16; and a row of as many bytes as a day may have
-- trains is as good as one of n.
-- Assumes nothing.
use Rattle.std.specs.Prelude.{◌≡◌, Bool, ◌&&◌, List, [], ◌∷◌, ◌⊎◌, ℕ, ◌^◌, ◌≤◌, ◌<◌, length}
use Rattle.std.proofs.Math.Path.{refl, sym, ap}
use Rattle.std.proofs.Common.{◌∙◌, subst, ⊎_elim, mul-le-mul, arith, leb→le, le→leb, pow_mono, le-leb}
use Rattle.std.proofs.Math.Bool.{true, false, cond}
use Rattle.std.proofs.Math.Logic.{inl, inr}
use Rattle.std.proofs.Math.Option.{Option, none, some}
use Rattle.std.proofs.Math.Dec.{T, leb}
use Rattle.fold.specs.Test.{is_true, of_true, is_false, both, both_of}
use Rattle.model.specs.Model.{Yard, Outcome, outcome, Best}
use Rattle.model.specs.Moves.{AllMoved}
use Rattle.model.proofs.Moves.{all_moved}
use Rattle.model.specs.BestOf.{best_of}
use Rattle.model.proofs.BestOf.{is_best}
use Rattle.model.specs.Overbooked.{Interval, first_overbooked}
use Rattle.day.specs.Answer.{gives, refuses, on_given, code}
use Rattle.day.specs.AnswerLaws.{gives_same, checked_holds, checked_gives, Only}
use Rattle.day.specs.Sound.{day_limits, sound}
use Rattle.day.specs.SoundLaws.{sound_is}
use Rattle.day.specs.declared.Limits.{Limits}
use Rattle.planning.specs.Planning.{cost_words, choice_words, cost_area, choice_area, areas_suffice, suffices, no_row, NoRowRefusal, best_answer, plan_checks, planned, begins, placed, row_after}
use Rattle.planning.specs.Answers.{FromBest}

-- ---- where no row is allowed

-- it is handed on as it is
pub none_answer : (y : Yard) → best_answer y none ≡ no_row y (first_overbooked y)
none_answer y = go (first_overbooked y)
  where
    go : (w : Option Interval) → on_given (no_row y w) (λ row. gives (outcome y row)) ≡ no_row y w
    go none = refl
    go (some w) = refl

none_only : (y : Yard) (w : Option Interval) → Only {X = Outcome} (λ k carries. NoRowRefusal k) (no_row y w)
none_only y none = inr refl
none_only y (some w) = inl refl

-- a refusal that the best plan's answer is
best_only : (y : Yard) (b : Option (List ℕ)) → Only (λ k carries. NoRowRefusal k) (best_answer y b)
best_only y none = subst (Only λ k carries. NoRowRefusal k) (sym (none_answer y)) (none_only y (first_overbooked y))
best_only y (some row) = tt

pub best_refuses : (y : Yard) (b : Option (List ℕ)) {k : ℕ} {carries : List ℕ} → best_answer y b ≡ refuses k carries → NoRowRefusal k
best_refuses y b e = subst (Only λ k carries. NoRowRefusal k) e (best_only y b)

pub none_gives : (y : Yard) (o : Outcome) → best_answer y none ≡ gives o → ⊥
none_gives y o e = go (first_overbooked y) (sym (none_answer y) ∙ e)
  where
    go : (w : Option Interval) → no_row y w ≡ gives o → ⊥
    go none q = let z : ◌≡◌ {A = ℕ} 0 1 = cc in omega arith
    go (some w) q = let z : ◌≡◌ {A = ℕ} 0 1 = cc in omega arith

-- ---- where both checks hold

module _ (l : Limits) (y : Yard) (costs choices : ℕ) where
  pub planned-begun : (bytes : ℕ) → T (begins l y costs choices bytes) → planned l y costs choices bytes ≡ best_answer y (best_of y)
  unfolding planned
  planned-begun bytes begun =
      let (s, e) = both_of (sound l y) (suffices y costs choices bytes) begun in
      checked_holds (plan_checks l y costs choices bytes) (best_answer y (best_of y)) (s, (e, tt))

  pub row-begun : (row : List ℕ) → T (begins l y costs choices (length row)) → row_after l y costs choices row ≡ placed (best_of y) row
  unfolding row_after
  row-begun row begun = ap (λ b. cond b (placed (best_of y) row) row) (is_true (begins l y costs choices (length row)) begun)

-- ---- areas in which every day can be planned

pub areas_short : (costs choices : ℕ) → (costs < 4096) ⊎ (choices < 32768) → areas_suffice costs choices ≡ false
areas_short costs choices h =
    is_false (areas_suffice costs choices) (λ t.
    let (p, q) = both_of (leb 4096 costs) (leb 32768 choices) t in
    let p = leb→le 4096 costs p in
    let q = leb→le 32768 choices q in
    ⊎_elim (λ (g : costs < 4096). omega arith) (λ (g : choices < 32768). omega arith) h)

pub areas_enough : (costs choices : ℕ) → 4096 ≤ costs → 32768 ≤ choices → T (areas_suffice costs choices)
areas_enough costs choices a b = both (leb 4096 costs) (leb 32768 choices) (le→leb 4096 costs a) (le→leb 32768 choices b)

-- the areas that callers without areas of their own lend
pub areas_suffice_lem : (y : Yard) (bytes : ℕ) → T (sound day_limits y) → y.trains ≤ bytes → T (begins day_limits y cost_area choice_area bytes)
areas_suffice_lem y bytes s r =
    let is = sound_is day_limits y s in
    let sets : 2 ^ y.trains ≤ cost_area = pow_mono is.trains.1 in
    both (sound day_limits y) (suffices y cost_area choice_area bytes) s
    (both (leb (cost_words y) cost_area && leb (choice_words y) choice_area) (leb y.trains bytes)
    (both (leb (cost_words y) cost_area) (leb (choice_words y) choice_area) (le→leb _ _ sets) (le→leb _ _ (mul-le-mul is.slots.1 sets)))
    (le→leb _ _ r))

module _ (l : Limits) (y : Yard) (costs choices bytes : ℕ) where
  pub from_best : (o : Outcome) → planned l y costs choices bytes ≡ gives o → FromBest l y o
  unfolding planned
  from_best o e = let (h, b) = checked_gives (plan_checks l y costs choices bytes) (best_answer y (best_of y)) o e in go h.0 (best_of y) refl b
    where
      go : T (sound l y) → (b : Option (List ℕ)) → best_of y ≡ b → best_answer y b ≡ gives o → FromBest l y o
      go s none q g = absurd (none_gives y o g)
      go s (some row) q g = record { is_sound = s; row = row; best = is_best y row q; numbers = sym (gives_same g) }

  -- order 6: its direct and split moves are all boxes of the day
  pub planned_boxes : (o : Outcome) → planned l y costs choices bytes ≡ gives o → AllMoved y o
  planned_boxes o e = let best = from_best o e in subst (AllMoved y) (sym best.numbers) (all_moved y best.row)

  -- ---- a refusal

  pub refuses_only : {k : ℕ} {carries : List ℕ} → planned l y costs choices bytes ≡ refuses k carries → (k ≡ 8) ⊎ ((k ≡ 10) ⊎ NoRowRefusal k)
  unfolding planned
  refuses_only {k} {carries} = go (sound l y) (suffices y costs choices bytes) (best_of y)
    where
      go : (s e : Bool) (b : Option (List ℕ)) → cond s (cond e (best_answer y b) (refuses 10 (0 ∷ []))) (refuses 8 (0 ∷ [])) ≡ refuses k carries → (k ≡ 8) ⊎ ((k ≡ 10) ⊎ NoRowRefusal k)
      go false e b q = inl (sym (ap code q))
      go true false b q = inr (inl (sym (ap code q)))
      go true true b q = inr (inr (best_refuses y b q))

-- on a sound day, in areas that suffice, it is 9 or 16
pub planned_only : (l : Limits) (y : Yard) (costs choices bytes : ℕ) → T (begins l y costs choices bytes)
    → Only (λ k carries. NoRowRefusal k) (planned l y costs choices bytes)
planned_only l y costs choices bytes begun =
    subst (Only λ k carries. NoRowRefusal k) (sym (planned-begun l y costs choices bytes begun)) (best_only y (best_of y))

-- ---- a row that is long enough for every sound day

module _ (l : Limits) (y : Yard) (costs choices : ℕ) where
  room : sound l y ≡ true → leb y.trains l.trains ≡ leb y.trains y.trains
  room s = le-leb y.trains l.trains (sound_is l y (of_true s)).trains.1 ∙ sym (le-leb y.trains y.trains (omega arith))

  pub same_begins : begins l y costs choices l.trains ≡ begins l y costs choices y.trains
  same_begins = go (sound l y) room
    where
      go : (s : Bool) → (s ≡ true → leb y.trains l.trains ≡ leb y.trains y.trains) → (s && suffices y costs choices l.trains) ≡ (s && suffices y costs choices y.trains)
      go false e = refl
      go true e = rw (e refl)

  pub same_planned : planned l y costs choices l.trains ≡ planned l y costs choices y.trains
  unfolding planned
  same_planned = go (sound l y) room
    where
      go : (s : Bool) → (s ≡ true → leb y.trains l.trains ≡ leb y.trains y.trains)
          → cond s (cond (suffices y costs choices l.trains) (best_answer y (best_of y)) (refuses 10 (0 ∷ []))) (refuses 8 (0 ∷ []))
          ≡ cond s (cond (suffices y costs choices y.trains) (best_answer y (best_of y)) (refuses 10 (0 ∷ []))) (refuses 8 (0 ∷ []))
      go false e = refl
      go true e = rw (e refl)
