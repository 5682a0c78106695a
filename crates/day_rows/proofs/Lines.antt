-- What the line reader found where rows may end, handed up, and the order of two pairs as the code compares them.
use Rattle.std.proofs.Common.{◌≡◌, refl, Bool, true, false, cond, ◌||◌, ◌&&◌, List, ℕ, Some, eqb, ltb, sym, ◌∙◌, subst}
use Rattle.std.specs.Ordering.{partial_lt, partial_ordering_then, nat_cmp, is_lt, is_some_and}
use Rattle.std.specs.declared.cmp.Ordering.TheVariants.{Less, Equal, Greater}
use Rattle.day.specs.Answer.{refusal, number, carried, Check}
use Rattle.day.specs.declared.Refusal.{Refusal}
use Rattle.lines.specs.Lines.{row}
use Rattle.lines.specs.Reader.{Found, Finds, a_refusal}
use Rattle.lines.specs.declared.Line.{Line}
use Rattle.lines.specs.declared.Line.TheVariants.{Names, Row, End}
use Rattle.dayfile.specs.Reading.{read_row}
use Rattle.day_rows.specs.Steps.{NoRow, EndsOrRow, row_not_names, row_not_end, row_refused}

-- ---- where rows may end

-- what is no row ends them
pub ends_there : (t : List ℕ) (k line : ℕ) (s : List ℕ) (ends : Bool) (found : Found) (r : Line)
    → ((a b c d e next : ℕ) → r ≡ Row a b c d e next → ⊥) → EndsOrRow ends line (row k s) found → Finds t found r → ends ≡ true
ends_there t k line s true found r h e f = refl
ends_there t k line s false found (Names next) h e f = absurd (row_not_names line (row k s) _ (sym e ∙ f.0))
ends_there t k line s false found (Row a b c d x next) h e f = absurd (h a b c d x next refl)
ends_there t k line s false found End h e f = absurd (row_not_end line (row k s) (sym e ∙ f))

-- a form that is refused is the row's, and they do not end there
pub form_refused : (k line : ℕ) (checks : List ℕ → List Check) (s : List ℕ) (ends : Bool) (found : Found) (x : Refusal)
    → EndsOrRow ends line (row k s) found → found ≡ a_refusal (number x) (carried x) → (read_row k line checks s ≡ refusal x) × (ends ≡ false)
form_refused k line checks s true found x e f = absurd (subst NoRow f e)
form_refused k line checks s false found x e f = (row_refused line (row k s) x _ (sym e ∙ f), refl)

-- ---- two pairs in their order

later : (l q m r : Bool)
    → is_some_and is_lt (partial_ordering_then (Some (cond l Less (cond q Equal Greater))) (Some (cond m Less (cond r Equal Greater)))) ≡ (l || (q && m))
later true q m r = refl
later false true true r = refl
later false true false true = refl
later false true false false = refl
later false false m r = refl

pub pair_later : (a b c d : ℕ) → partial_lt {X = ℕ × ℕ} (λ x y. partial_ordering_then (Some (nat_cmp x.0 y.0)) (Some (nat_cmp x.1 y.1))) (a, b) (c, d) ≡ (ltb a c || (eqb a c && ltb b d))
pair_later a b c d = later (ltb a c) (eqb a c) (ltb b d) (eqb b d)
