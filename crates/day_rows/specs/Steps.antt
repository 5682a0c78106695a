-- What the reading steps answer, as the code's lines and places, and how an answer of the line reader becomes one: a form that is
-- refused is handed up, a row that was read goes on to its checks.
-- Assumes nothing.
use Rattle.std.specs.Prelude.{◌≡◌, refl, Bool, true, false, not, cond, ◌&&◌, ◌||◌, List, [], ◌∷◌, ℕ, ◌≤◌, ltb, eqb, length, get_or, take, drop, Option, Some, None, Result, Ok, Err}
use Rattle.std.proofs.Common.{ap, ◌∙◌, subst, arith, length-take-le, get_or-take}
use Rattle.day.specs.Answer.{Answer, gives, refuses, number, carried, refusal, Check, must, checked}
use Rattle.day.specs.declared.Head.{Head}
use Rattle.day.specs.declared.Limits.{Limits}
use Rattle.day.specs.declared.Refusal.{Refusal}
use Rattle.decimal.specs.Parsed.{Parsed, fail, got}
use Rattle.lines.specs.Lines.{names, row}
use Rattle.lines.specs.Laws.{row_read}
use Rattle.lines.specs.Reader.{Found, a_names_line, a_row, the_end, a_refusal, names_found, row_found, end_or, names_or, found, RowAt}
use Rattle.lines.specs.declared.Due.{Due}
use Rattle.lines.specs.declared.Due.TheVariants.{RowOrEnd, RowNamesOrEnd, PairOrEnd}
use Rattle.fold.specs.Fold.{lowest}
use Rattle.fold.specs.Sums.{lowest_ext}
use Rattle.dayfile.specs.Reading.{group_names, or_refuse, is_end, is_read, RowRest, read_row, position, is_listed, moves_end}
use Rattle.day_rows.specs.declared.HeadRow.{HeadRow}
use Rattle.day_rows.specs.declared.TrainRow.{TrainRow}
use Rattle.day_rows.specs.declared.MoveRow.{MoveRow}
use Rattle.day_rows.specs.declared.GroupRow.{GroupRow}

-- ---- one row, read up to the place `next` of the text t, or the refusal

abbrev pub row_rest : List ℕ → List ℕ → RowRest
row_rest r q = record { row = r; rest = q }

pub record RowTo (t : List ℕ) (answer : Answer RowRest) (values : List ℕ) (next : ℕ) : Type 0 where
  pub is : answer ≡ gives (row_rest values (drop next t))
  pub inside : next ≤ length t

-- the values of each kind of row, as the file has them
abbrev pub head_values : Head → List ℕ
head_values h = h.trains ∷ h.tracks ∷ h.slots ∷ h.revisit ∷ h.split ∷ []

abbrev pub train_values : TrainRow → List ℕ
train_values r = r.number ∷ r.first ∷ r.last ∷ []

abbrev pub move_values : MoveRow → List ℕ
move_values r = r.to ∷ r.from ∷ r.boxes ∷ []

abbrev pub group_values : GroupRow → List ℕ
group_values r = r.group ∷ r.train ∷ []

abbrev pub ReadsHead : List ℕ → Answer RowRest → Result HeadRow Refusal → Type 0
ReadsHead t answer (Ok r) = RowTo t answer (head_values r.head) r.next
ReadsHead t answer (Err x) = answer ≡ refusal x

abbrev pub ReadsTrain : List ℕ → Answer RowRest → Result TrainRow Refusal → Type 0
ReadsTrain t answer (Ok r) = RowTo t answer (train_values r) r.next
ReadsTrain t answer (Err x) = answer ≡ refusal x

-- ---- what the line reader found

clash : {W : Type 0} → ◌≡◌ {A = ℕ} 0 1 → W
clash e = absurd (omega arith)

module _ (line : ℕ) where
  pub row_not_names : (p : Parsed (List ℕ)) (s : List ℕ) → row_found line p ≡ a_names_line s → ⊥
  row_not_names fail s e = clash cc
  row_not_names (got x r) s e = clash cc

  pub row_not_end : (p : Parsed (List ℕ)) → row_found line p ≡ the_end → ⊥
  row_not_end fail e = clash cc
  row_not_end (got x r) e = clash cc

  pub row_got : (p : Parsed (List ℕ)) (values s : List ℕ) → row_found line p ≡ a_row values s → p ≡ got values s
  row_got fail values s e = clash cc
  row_got (got x r) values s e = cc

  pub row_refused : {Z : Type 0} (p : Parsed (List ℕ)) (r : Refusal) (f : List ℕ → List ℕ → Answer Z) → row_found line p ≡ a_refusal (number r) (carried r)
      → or_refuse 2 line p f ≡ refusal r
  row_refused fail r f e = cc
  row_refused (got x q) r f e = clash cc

  pub names_not_row : (p : Parsed (Unit {0})) (values s : List ℕ) → names_found line p ≡ a_row values s → ⊥
  names_not_row fail values s e = clash cc
  names_not_row (got u r) values s e = clash cc

  pub names_not_end : (p : Parsed (Unit {0})) → names_found line p ≡ the_end → ⊥
  names_not_end fail e = clash cc
  names_not_end (got u r) e = clash cc

  pub names_got : (p : Parsed (Unit {0})) (s : List ℕ) → names_found line p ≡ a_names_line s → or_refuse {Z = List ℕ} 1 line p (λ u r. gives r) ≡ gives s
  names_got fail s e = clash cc
  names_got (got u r) s e = cc

  pub names_refused : {Z : Type 0} (p : Parsed (Unit {0})) (r : Refusal) (f : Unit {0} → List ℕ → Answer Z) → names_found line p ≡ a_refusal (number r) (carried r)
      → or_refuse 1 line p f ≡ refusal r
  names_refused fail r f e = cc
  names_refused (got u q) r f e = clash cc

-- ---- a row that was read goes on to its checks

three_values : (v : List ℕ) (a b c : ℕ) → length v ≡ 3 → a ≡ get_or v 0 0 → b ≡ get_or v 1 0 → c ≡ get_or v 2 0 → v ≡ a ∷ b ∷ c ∷ []
three_values [] a b c l p q r = absurd (omega arith)
three_values (x ∷ []) a b c l p q r = absurd (omega arith)
three_values (x ∷ y ∷ []) a b c l p q r = absurd (omega arith)
three_values (x ∷ y ∷ z ∷ []) a b c l p q r = cc
three_values (x ∷ y ∷ z ∷ w ∷ v) a b c l p q r = absurd (omega arith)

five_values : (v : List ℕ) (a b c d e : ℕ) → length v ≡ 5 → a ≡ get_or v 0 0 → b ≡ get_or v 1 0 → c ≡ get_or v 2 0 → d ≡ get_or v 3 0 → e ≡ get_or v 4 0 → v ≡ a ∷ b ∷ c ∷ d ∷ e ∷ []
five_values [] a b c d e l p q r s t = absurd (omega arith)
five_values (x ∷ []) a b c d e l p q r s t = absurd (omega arith)
five_values (x ∷ y ∷ []) a b c d e l p q r s t = absurd (omega arith)
five_values (x ∷ y ∷ z ∷ []) a b c d e l p q r s t = absurd (omega arith)
five_values (x ∷ y ∷ z ∷ w ∷ []) a b c d e l p q r s t = absurd (omega arith)
five_values (x ∷ y ∷ z ∷ w ∷ u ∷ []) a b c d e l p q r s t = cc
five_values (x ∷ y ∷ z ∷ w ∷ u ∷ o ∷ v) a b c d e l p q r s t = absurd (omega arith)

two_values : (v : List ℕ) (a b : ℕ) → length v ≡ 2 → a ≡ get_or v 0 0 → b ≡ get_or v 1 0 → v ≡ a ∷ b ∷ []
two_values [] a b l p q = absurd (omega arith)
two_values (x ∷ []) a b l p q = absurd (omega arith)
two_values (x ∷ y ∷ []) a b l p q = cc
two_values (x ∷ y ∷ z ∷ v) a b l p q = absurd (omega arith)

-- a row of these values was read; the first of its checks that fails decides
pub record ToChecks (t : List ℕ) (checks : List Check) (answer : Answer RowRest) (values : List ℕ) (next : ℕ) : Type 0 where
  pub is : answer ≡ checked checks (gives (row_rest values (drop next t)))
  pub inside : next ≤ length t

module _ {t : List ℕ} {answer : Answer RowRest} {values : List ℕ} {next : ℕ} where
  module _ {holds : Bool} {n : ℕ} {carries : List ℕ} {checks : List Check} (h : ToChecks t (must holds n carries ∷ checks) answer values next) where
    pub check_passed : holds ≡ true → ToChecks t checks answer values next
    check_passed is = record { is = rw is at h.is; inside = h.inside }

    pub check_fails : holds ≡ false → answer ≡ refuses n carries
    check_fails is = rw is at h.is

  pub all_passed : ToChecks t [] answer values next → RowTo t answer values next
  all_passed h = record { is = h.is; inside = h.inside }

module _ (t : List ℕ) (line : ℕ) (checks : List ℕ → List Check) (s : List ℕ) where
  to_checks : (next k : ℕ) (v r : List ℕ) → row_found line (row k s) ≡ a_row v (drop next t) → v ≡ r → read_row k line checks s ≡ checked (checks r) (gives (row_rest r (drop next t)))
  to_checks next k v r f same =
      ap (λ (p : Parsed (List ℕ)). or_refuse 2 line p λ r q. checked (checks r) (gives (row_rest r q))) (row_got line (row k s) v (drop next t) f)
      ∙ ap (λ (v : List ℕ). checked (checks v) (gives (row_rest v (drop next t)))) same

  pub two_checks : {a b c d e next : ℕ} → RowAt t (row_found line (row 1 s)) a b c d e next → ToChecks t (checks (a ∷ b ∷ [])) (read_row 1 line checks s) (a ∷ b ∷ []) next
  two_checks {a} {b} {c} {d} {e} {next} h =
      let values = two_values h.values a b (row_read 1 s h.values (drop next t) (row_got line (row 1 s) h.values (drop next t) h.is)).count h.first h.second in
      record { is = to_checks next 1 h.values (a ∷ b ∷ []) h.is values; inside = h.inside }

  pub three_checks : {a b c d e next : ℕ} → RowAt t (row_found line (row 2 s)) a b c d e next → ToChecks t (checks (a ∷ b ∷ c ∷ [])) (read_row 2 line checks s) (a ∷ b ∷ c ∷ []) next
  three_checks {a} {b} {c} {d} {e} {next} h =
      let values = three_values h.values a b c (row_read 2 s h.values (drop next t) (row_got line (row 2 s) h.values (drop next t) h.is)).count h.first h.second h.third in
      record { is = to_checks next 2 h.values (a ∷ b ∷ c ∷ []) h.is values; inside = h.inside }

  pub five_checks : {a b c d e next : ℕ} → RowAt t (row_found line (row 4 s)) a b c d e next → ToChecks t (checks (a ∷ b ∷ c ∷ d ∷ e ∷ [])) (read_row 4 line checks s) (a ∷ b ∷ c ∷ d ∷ e ∷ []) next
  five_checks {a} {b} {c} {d} {e} {next} h =
      let values = five_values h.values a b c d e (row_read 4 s h.values (drop next t) (row_got line (row 4 s) h.values (drop next t) h.is)).count h.first h.second h.third h.fourth h.fifth in
      record { is = to_checks next 4 h.values (a ∷ b ∷ c ∷ d ∷ e ∷ []) h.is values; inside = h.inside }

-- ---- positions among the first n of the numbers

pub position-take : (numbers : List ℕ) (n x : ℕ) → n ≤ length numbers → position (take n numbers) x ≡ lowest n λ i. eqb (get_or numbers i 0) x
unfolding position
position-take numbers n x h =
    ap (λ k. lowest k λ i. eqb (get_or (take n numbers) i 0) x) (length-take-le n numbers h)
    ∙ lowest_ext n (λ i. eqb (get_or (take n numbers) i 0) x) (λ i. eqb (get_or numbers i 0) x) (λ i l. ap (λ v. eqb v x) (get_or-take n numbers i 0 l))

-- the positions of two that are listed and differ, or that they are not both, or are one
abbrev pub both_listed : List ℕ → ℕ → ℕ → Bool
both_listed numbers to from = is_listed numbers to && is_listed numbers from && not (eqb to from)

abbrev pub BothLocated : List ℕ → ℕ → ℕ → Option (ℕ × ℕ) → Type 0
BothLocated numbers to from (Some p) = (both_listed numbers to from ≡ true) × ((p.0 ≡ position numbers to) × (p.1 ≡ position numbers from))
BothLocated numbers to from None = both_listed numbers to from ≡ false

-- ---- where rows may end: a row, or that they end here, which `ends` says of the text

-- the move stands at the positions of its trains
pub record MoveTo (numbers t : List ℕ) (answer : Answer RowRest) (r : MoveRow) : Type 0 where
  pub row : RowTo t answer (move_values r) r.next
  pub to : r.i ≡ position numbers r.to
  pub from : r.j ≡ position numbers r.from

abbrev pub ReadsMove : List ℕ → Bool → List ℕ → Answer RowRest → Result (Option MoveRow) Refusal → Type 0
ReadsMove numbers ends t answer (Ok (Some r)) = MoveTo numbers t answer r
ReadsMove numbers ends t answer (Ok None) = ends ≡ true
ReadsMove numbers ends t answer (Err x) = (answer ≡ refusal x) × (ends ≡ false)

-- the row of a group stands at the position of its train
pub record MemberTo (numbers t : List ℕ) (answer : Answer RowRest) (r : GroupRow) : Type 0 where
  pub row : RowTo t answer (group_values r) r.next
  pub train : r.i ≡ position numbers r.train

abbrev pub ReadsMember : List ℕ → Bool → List ℕ → Answer RowRest → Result (Option GroupRow) Refusal → Type 0
ReadsMember numbers ends t answer (Ok (Some r)) = MemberTo numbers t answer r
ReadsMember numbers ends t answer (Ok None) = ends ≡ true
ReadsMember numbers ends t answer (Err x) = (answer ≡ refusal x) × (ends ≡ false)

abbrev pub NoRow : Found → Type 0
NoRow (a_names_line s) = Unit
NoRow (a_row values s) = ⊥
NoRow the_end = Unit
NoRow (a_refusal k carries) = ⊥

-- what the line reader finds there
abbrev pub EndsOrRow : Bool → ℕ → Parsed (List ℕ) → Found → Type 0
EndsOrRow true line p f = NoRow f
EndsOrRow false line p f = f ≡ row_found line p

-- a row that was found is one, so they do not end here
pub row_at : (t : List ℕ) (ends : Bool) (line : ℕ) (p : Parsed (List ℕ)) (f : Found) {a b c d e next : ℕ} → EndsOrRow ends line p f → RowAt t f a b c d e next
    → RowAt t (row_found line p) a b c d e next × (ends ≡ false)
row_at t true line p f found h = absurd (subst NoRow h.is found)
row_at t false line p f {a} {b} {c} {d} {e} {next} found h = (subst (λ g. RowAt t g a b c d e next) found h, refl)

-- ---- what is due at a move, and that what is found there is the end of the moves or a row; the same at a row of a group

-- where the limits have groups the fourth names line ends the moves too
abbrev pub move_due : Limits → Due
move_due l = cond (ltb 0 l.groups) RowNamesOrEnd RowOrEnd

module _ (line : ℕ) where
  names_or_row : (s : List ℕ) (names : Parsed (Unit {0})) (p : Parsed (List ℕ)) → EndsOrRow (is_end s || is_read names) line p (end_or s (names_or names (row_found line p)))
  names_or_row [] names p = tt
  names_or_row (c ∷ s) fail p = refl
  names_or_row (c ∷ s) (got u r) p = tt

  end_or_row : (s : List ℕ) (p : Parsed (List ℕ)) → EndsOrRow (is_end s || false) line p (end_or s (row_found line p))
  end_or_row [] p = tt
  end_or_row (c ∷ s) p = refl

  pub move_found : (l : Limits) (s : List ℕ) → EndsOrRow (moves_end l s) line (row 2 s) (found (move_due l) group_names line s)
  unfolding moves_end
  move_found l s = go (ltb 0 l.groups)
    where
      go : (b : Bool) → EndsOrRow (is_end s || (b && is_read (names group_names s))) line (row 2 s) (found (cond b RowNamesOrEnd RowOrEnd) group_names line s)
      go true = names_or_row s (names group_names s) (row 2 s)
      go false = end_or_row s (row 2 s)

  pub group_found : (word s : List ℕ) → EndsOrRow (is_end s) line (row 1 s) (found PairOrEnd word line s)
  group_found word [] = tt
  group_found word (c ∷ s) = refl

-- ---- a names line was read up to a place of the text t, or the refusal

abbrev pub NamesTo : List ℕ → Answer (List ℕ) → Result ℕ Refusal → Type 0
NamesTo t answer (Ok p) = (answer ≡ gives (drop p t)) × (p ≤ length t)
NamesTo t answer (Err x) = answer ≡ refusal x
