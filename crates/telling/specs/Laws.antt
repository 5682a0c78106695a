-- The laws that the proofs of the functions on texts cite: what is told of a refusal, of a row's numbers, and where there is no room.
-- Assumes nothing.
use Rattle.std.specs.Prelude.{◌≡◌, refl, true, false, List, [], ◌∷◌, ◌++◌, ℕ, ◌≤◌, ◌<◌, leb, length, set, drop}
use Rattle.std.proofs.Common.{sym, ap, ◌∙◌, subst, arith, le-leb}
use Rattle.std.proofs.lemmas.Bool.{lt-leb}
use Rattle.model.specs.Model.{Yard, Outcome}
use Rattle.day.specs.Answer.{Answer, gives, refuses, refusal, code, number, carried, must}
use Rattle.day.specs.AnswerLaws.{gives_same, checked_gives}
use Rattle.day.specs.declared.Limits.{Limits}
use Rattle.day.specs.declared.Refusal.{Refusal}
use Rattle.refusals.specs.Numbers.{Tells, no_more}
use Rattle.refusals.specs.declared.Numbered.{Numbered}
use Rattle.counting.specs.Counting.{figures_of}
use Rattle.dayfile.specs.Reading.{read_day}
use Rattle.telling.specs.Telling.{number_count, day_with, told_by, after_by, numbers_after}

-- four numbers stored at the front
pub set_four : (l : List ℕ) (a b c d : ℕ) → 4 ≤ length l → set (set (set (set l 0 a) 1 b) 2 c) 3 d ≡ a ∷ b ∷ c ∷ d ∷ drop 4 l
set_four [] a b c d h = absurd (omega arith)
set_four (x ∷ []) a b c d h = absurd (omega arith)
set_four (x ∷ y ∷ []) a b c d h = absurd (omega arith)
set_four (x ∷ y ∷ z ∷ []) a b c d h = absurd (omega arith)
set_four (x ∷ y ∷ z ∷ w ∷ l) a b c d h = refl

-- ---- what is told of an answer, where there is room

pub record ToldBy {X : Type 0} (count : ℕ) (figures : X → List ℕ) (before : List ℕ) (a : Answer X) (said : ℕ) (after : List ℕ) : Type 0 where
  pub says : said ≡ code a
  pub numbers : after ≡ told_by count figures a ++ drop count before

-- the four numbers of a row
abbrev pub Told : List ℕ → Answer Outcome → ℕ → List ℕ → Type 0
Told = ToldBy number_count figures_of

pub told-refusal : (r : Refusal) (t : Numbered) {before after : List ℕ} → Tells (number r) (carried r) t
    → after ≡ t.first ∷ t.second ∷ t.third ∷ 0 ∷ drop number_count before → Told before (refusal r) t.number after
told-refusal r t tells e = record { says = tells.number; numbers = e ∙ rw (tells.first, tells.second, tells.third, no_more r 0) }

module _ {X : Type 0} {count : ℕ} {figures : X → List ℕ} where
  pub told-values : {o : X} {a : Answer X} {before after : List ℕ} → gives o ≡ a → after ≡ told_by count figures (gives o) ++ drop count before
      → ToldBy count figures before a 0 after
  told-values {o} {a} {before} e f = record { says = ap code e; numbers = f ∙ ap (λ x. told_by count figures x ++ drop count before) e }

  pub told_same : {a b : Answer X} {before after : List ℕ} {said : ℕ} → a ≡ b → ToldBy count figures before a said after → ToldBy count figures before b said after
  told_same {a} {b} {before} {after} {said} e t = subst (λ x. ToldBy count figures before x said after) e t

  -- told, the numbers are those of the contracts
  pub told_after : {a : Answer X} {said : ℕ} {before after : List ℕ} → leb count (length before) ≡ true → ToldBy count figures before a said after
      → after ≡ after_by count figures a before
  unfolding after_by
  told_after h t = rw h t.numbers

-- ---- the day of a text, with room for so many numbers and without

module _ (count : ℕ) (l : Limits) (text : List ℕ) (size : ℕ) where
  pub no_room : leb count size ≡ false → day_with count l text size ≡ refuses 10 (0 ∷ [])
  no_room h = rw h

  pub with_room_lem : leb count size ≡ true → {a : Answer Yard} → read_day l text ≡ a → day_with count l text size ≡ a
  with_room_lem h e = rw h e

  -- a day for a caller with room is the one that is read
  pub day_read : (y z : Yard) → day_with count l text size ≡ gives y → read_day l text ≡ gives z → z ≡ y
  day_read y z e r = gives_same (sym r ∙ (checked_gives (must (leb count size) 10 (0 ∷ []) ∷ []) (read_day l text) y e).1)

-- ---- the header's words: so many numbers, or what the refusal carries and then zeros; those beyond stay

module _ {X : Type 0} (count : ℕ) (figures : X → List ℕ) (a : Answer X) (before : List ℕ) where
  pub numbers_told_lem : count ≤ length before → after_by count figures a before ≡ told_by count figures a ++ drop count before
  unfolding after_by
  numbers_told_lem room = rw (le-leb count (length before) room)

  -- without room no number changes, whatever is answered
  pub numbers_kept : leb count (length before) ≡ false → before ≡ after_by count figures a before
  unfolding after_by
  numbers_kept short = rw short

-- of a row four
module _ (before : List ℕ) (room : 4 ≤ length before) where
  pub numbers_given : (o : Outcome) → numbers_after (gives o) before ≡ o.revisits ∷ o.splits ∷ o.direct ∷ o.cost ∷ drop 4 before
  numbers_given o = numbers_told_lem number_count figures_of (gives o) before room

  -- all but 9 carry one value
  pub numbers_one : (k value : ℕ) → numbers_after (refuses k (value ∷ [])) before ≡ value ∷ 0 ∷ 0 ∷ 0 ∷ drop 4 before
  numbers_one k value = numbers_told_lem number_count figures_of (refuses k (value ∷ [])) before room

  -- 9 carries three
  pub numbers_three : (k a b c : ℕ) → numbers_after (refuses k (a ∷ b ∷ c ∷ [])) before ≡ a ∷ b ∷ c ∷ 0 ∷ drop 4 before
  numbers_three k a b c = numbers_told_lem number_count figures_of (refuses k (a ∷ b ∷ c ∷ [])) before room

pub none_told : (a : Answer Outcome) (before : List ℕ) → leb number_count (length before) ≡ false → before ≡ numbers_after a before
none_told = numbers_kept number_count figures_of

pub numbers_none : (a : Answer Outcome) (before : List ℕ) → length before < 4 → numbers_after a before ≡ before
numbers_none a before short = sym (none_told a before (lt-leb 4 (length before) short))
