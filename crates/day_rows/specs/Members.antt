-- Trains that are in a group already: by the column of groups, as the code has it, and by the rows read before, as reading says it.
-- Assumes nothing.
use Rattle.std.specs.Prelude.{◌≡◌, refl, Bool, true, false, not, ◌&&◌, List, [], ◌∷◌, ◌≢◌, ℕ, ◌≤◌, ◌<◌, T, eqb, length, get_or, set, replicate, Option, Result}
use Rattle.std.proofs.Common.{sym, ap, subst, inl, inr, ⊎_elim, arith, ltb→lt, get_or-set_same, get_or-set_other, ne_eqb}
use Rattle.std.proofs.lemmas.List.{get_or-replicate}
use Rattle.fold.specs.Test.{same_test_lem, is_true}
use Rattle.fold.specs.Fold.{lowest}
use Rattle.fold.specs.Counting.{same_or}
use Rattle.day.specs.declared.Limits.{Limits}
use Rattle.day.specs.declared.Refusal.{Refusal}
use Rattle.dayfile.specs.Reading.{position, is_listed, group_checks, is_end, read_row}
use Rattle.dayfile.specs.Places.{position_same, listed_more, more-listed}
use Rattle.day_rows.specs.Steps.{ReadsMember}
use Rattle.day_rows.specs.declared.GroupRow.{GroupRow}

-- the position of a listed train holds 0 exactly where the train is none of those taken
pub record Marks (numbers groups taken : List ℕ) : Type 0 where
  pub free : (x : ℕ) → T (is_listed numbers x) → eqb (get_or groups (position numbers x) 0) 0 ≡ not (is_listed taken x)

-- so a train is listed and in no group by both
pub free_both : {numbers groups taken : List ℕ} → Marks numbers groups taken → (x : ℕ)
    → (is_listed numbers x && eqb (get_or groups (position numbers x) 0) 0) ≡ (is_listed numbers x && not (is_listed taken x))
free_both {numbers} {groups} {taken} m x = go (is_listed numbers x) (m.free x)
  where
    go : (b : Bool) → (T b → eqb (get_or groups (position numbers x) 0) 0 ≡ not (is_listed taken x))
        → (b && eqb (get_or groups (position numbers x) 0) 0) ≡ (b && not (is_listed taken x))
    go true h = h tt
    go false h = refl

-- ---- before the first row, and after one more

-- a number in front of others is listed with them, and others as before
listed_first : (x : ℕ) (taken : List ℕ) → is_listed (x ∷ taken) x ≡ true
listed_first x taken = is_true (is_listed (x ∷ taken) x) (more-listed x taken x (inl refl))

listed_after : (b x : ℕ) (taken : List ℕ) → b ≢ x → is_listed (b ∷ taken) x ≡ is_listed taken x
listed_after b x taken other =
    same_test_lem (is_listed (b ∷ taken) x) (is_listed taken x) (λ t. ⊎_elim (λ e. absurd (other e)) (λ h. h) (listed_more b taken x t))
    (λ t. more-listed b taken x (inr t))

pub marks_none : (numbers : List ℕ) (m : ℕ) → length numbers ≤ m → Marks numbers (replicate m 0) []
unfolding position lowest
marks_none numbers m few = record {
  free = λ x t.
      ap (λ k. eqb k 0) (get_or-replicate m (position numbers x) 0 0 (omega (arith, few, ltb→lt (position numbers x) (length numbers) t)));
}

pub marks_next : {numbers groups taken : List ℕ} (a b : ℕ) → Marks numbers groups taken → 1 ≤ a → T (is_listed numbers b) → position numbers b < length groups
    → Marks numbers (set groups (position numbers b) a) (b ∷ taken)
marks_next {numbers} {groups} {taken} a b m some listed inside = record { free = λ x t. ⊎_elim (same x) (other x t) (same_or b x) }
  where
    same : (x : ℕ) → b ≡ x → eqb (get_or (set groups (position numbers b) a) (position numbers x) 0) 0 ≡ not (is_listed (b ∷ taken) x)
    same x e =
        subst (λ x. eqb (get_or (set groups (position numbers b) a) (position numbers x) 0) 0 ≡ not (is_listed (b ∷ taken) x)) e
        (rw (get_or-set_same groups (position numbers b) a 0 inside, listed_first b taken) (ne_eqb a 0 (λ z. omega arith)))

    other : (x : ℕ) → T (is_listed numbers x) → b ≢ x → eqb (get_or (set groups (position numbers b) a) (position numbers x) 0) 0 ≡ not (is_listed (b ∷ taken) x)
    other x t d =
        let apart : position numbers x ≢ position numbers b = λ e. d (position_same numbers b x (ltb→lt (position numbers b) (length numbers) listed) (ltb→lt (position numbers x) (length numbers) t) (sym e)) in
        rw (get_or-set_other groups (position numbers b) (position numbers x) a 0 apart, listed_after b x taken d) (m.free x t)

-- ---- a row of a group, whatever rows the column marks, or the end of the text

abbrev pub ReadsGroup : Limits → List ℕ → List ℕ → List ℕ → ℕ → List ℕ → List ℕ → Result (Option GroupRow) Refusal → Type 0
ReadsGroup l numbers groups before line t s r =
    (taken : List ℕ) → Marks numbers groups taken → ReadsMember numbers (is_end s) t (read_row 1 line (group_checks l numbers taken before line) s) r
