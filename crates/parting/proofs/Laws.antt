-- Laws of Laws.antt of specs/.
-- What the parting of a text keeps: a text that is not empty has one day more than it has empty lines; its days, joined again, are the text;
-- and files without an empty line, each of whose lines ends, come back where they were joined.
-- Assumes nothing.
use Rattle.std.specs.Prelude.{◌≡◌, refl, Bool, not, ◌&&◌, ℕ, zero, suc, ◌+◌, ◌≤◌, ◌<◌, eqb, length}
use Rattle.std.proofs.Common.{sym, ap₂, ◌∙◌, arith, eqb→eq, length-append}
use Rattle.std.proofs.Math.Path.{ap}
use Rattle.std.proofs.Math.Bool.{true, false, cond}
use mathlib.Core.List.{List, [], ◌∷◌, ◌++◌, append-nil}
use Rattle.std.proofs.Math.Dec.{T}
use Rattle.fold.specs.Test.{of_true}
use Rattle.fold.specs.Fold.{bit, sum, count}
use Rattle.fold.specs.Sums.{sum_ext, sum_cons}
use Rattle.parting.specs.Parting.{before, days_from, days, empty_at, empty_lines, joined_files}
use Rattle.parting.specs.Laws.{lined, AllWhole}

-- ---- a text is empty or not

pub days_are : (text : List ℕ) → 0 < length text → days text ≡ days_from true text
days_are [] h = absurd (omega arith)
days_are (c ∷ text) h = refl

pub days_none : (text : List ℕ) → length text ≤ 0 → days text ≡ []
days_none [] h = refl
days_none (c ∷ text) h = absurd (omega arith)

-- ---- the number of days

-- those of the first byte, and of the rest
empty_next : (start : Bool) (c : ℕ) (s : List ℕ) → empty_lines start (c ∷ s) ≡ empty_lines (eqb c 10) s + bit (start && eqb c 10)
unfolding count
empty_next start c s =
    sum_cons (length s) (λ i. bit (empty_at start (c ∷ s) i))
    ∙ ap (λ k. k + bit (start && eqb c 10)) (sum_ext (length s) (λ i. bit (empty_at start (c ∷ s) (suc i))) (λ i. bit (empty_at (eqb c 10) s i)) (λ i h. ap bit (same i)))
  where
    same : (i : ℕ) → empty_at start (c ∷ s) (suc i) ≡ empty_at (eqb c 10) s i
    same zero = refl
    same (suc i) = refl

length_before : (c : ℕ) (ds : List (List ℕ)) (k : ℕ) → length ds ≡ suc k → length (before c ds) ≡ suc k
length_before c [] k e = absurd (omega arith)
length_before c (d ∷ ds) k e = e

pub days-count : (start : Bool) (s : List ℕ) → length (days_from start s) ≡ suc (empty_lines start s)
unfolding days_from count sum
days-count start [] = refl
days-count start (c ∷ s) = go start (eqb c 10) (days-count true s) (days-count (eqb c 10) s) ∙ ap suc (sym (empty_next start c s))
  where
    go : (start b : Bool) → length (days_from true s) ≡ suc (empty_lines true s) → length (days_from b s) ≡ suc (empty_lines b s)
        → length (cond (start && b) ([] ∷ days_from true s) (before c (days_from b s))) ≡ suc (empty_lines b s + bit (start && b))
    go true true p q = omega arith
    go true false p q = let e = length_before c (days_from false s) (empty_lines false s) q in omega arith
    go false b p q = let e = length_before c (days_from b s) (empty_lines b s) q in omega arith

-- a text that is not empty has one day more than it has empty lines
pub count-days : (text : List ℕ) → 0 < length text → length (days text) ≡ suc (empty_lines true text)
count-days text h = ap length (days_are text h) ∙ days-count true text

-- ---- the days joined are the text: no byte is lost but the empty lines

joined-before : (c : ℕ) (ds : List (List ℕ)) (k : ℕ) → length ds ≡ suc k → joined_files (before c ds) ≡ c ∷ joined_files ds
unfolding joined_files
joined-before c [] k e = absurd (omega arith)
joined-before c (d ∷ []) k e = refl
joined-before c (d ∷ next ∷ ds) k e = refl

joined_empty : (ds : List (List ℕ)) (k : ℕ) → length ds ≡ suc k → joined_files ([] ∷ ds) ≡ 10 ∷ joined_files ds
unfolding joined_files
joined_empty [] k e = absurd (omega arith)
joined_empty (d ∷ ds) k e = refl

from_joined : (start : Bool) (s : List ℕ) → joined_files (days_from start s) ≡ s
unfolding days_from joined_files
from_joined start [] = refl
from_joined start (c ∷ s) = go (start && eqb c 10) refl (from_joined true s) (from_joined (eqb c 10) s)
  where
    ten : (a b : Bool) → (a && b) ≡ true → b ≡ true
    ten true b e = e
    ten false b e = absurd (of_true e)

    go : (t : Bool) → (start && eqb c 10) ≡ t → joined_files (days_from true s) ≡ s → joined_files (days_from (eqb c 10) s) ≡ s
        → joined_files (cond t ([] ∷ days_from true s) (before c (days_from (eqb c 10) s))) ≡ c ∷ s
    go true e p q =
        joined_empty (days_from true s) (empty_lines true s) (days-count true s)
        ∙ ap₂ (λ (x : ℕ) (l : List ℕ). x ∷ l) (sym (eqb→eq c 10 (of_true (ten start (eqb c 10) e)))) p
    go false e p q = joined-before c (days_from (eqb c 10) s) (empty_lines (eqb c 10) s) (days-count (eqb c 10) s) ∙ ap (λ (l : List ℕ). c ∷ l) q

pub days-joined : (text : List ℕ) → joined_files (days text) ≡ text
unfolding joined_files
days-joined [] = refl
days-joined (c ∷ s) = from_joined true (c ∷ s)

pub lined_joins : (start : Bool) (a b : List ℕ) → T (lined start a) → T (lined true b) → T (lined start (a ++ b))
unfolding lined
lined_joins true [] b p q = q
lined_joins false [] b p q = absurd p
lined_joins start (c ∷ a) b p q = go (eqb c 10) start p (λ t h. lined_joins t a b h q)
  where
    go : (t start : Bool) → T (cond t (not start && lined true a) (lined false a)) → ((t : Bool) → T (lined t a) → T (lined t (a ++ b)))
        → T (cond t (not start && lined true (a ++ b)) (lined false (a ++ b)))
    go true true p rest = p
    go true false p rest = rest true p
    go false start p rest = rest false p

-- such a file is the first day, alone or before an empty line
module _ (later : List (List ℕ)) (after : List ℕ) (end : (start : Bool) → T start → days_from start after ≡ [] ∷ later) where
  from_file : (start : Bool) (file : List ℕ) → T (lined start file) → days_from start (file ++ after) ≡ file ∷ later
  unfolding lined days_from
  from_file start [] p = end start p
  from_file start (c ∷ file) p = go (eqb c 10) start p (λ t h. from_file t file h)
    where
      go : (b start : Bool) → T (cond b (not start && lined true file) (lined false file)) → ((t : Bool) → T (lined t file) → days_from t (file ++ after) ≡ file ∷ later)
          → cond (start && b) ([] ∷ days_from true (file ++ after)) (before c (days_from b (file ++ after))) ≡ (c ∷ file) ∷ later
      go true true p rest = absurd p
      go true false p rest = ap (before c) (rest true p)
      go false true p rest = ap (before c) (rest false p)
      go false false p rest = ap (before c) (rest false p)

joined_from : (file : List ℕ) (files : List (List ℕ)) → AllWhole (file ∷ files) → days_from true (joined_files (file ∷ files)) ≡ file ∷ files
unfolding joined_files days_from
joined_from file [] p = ap (days_from true) (sym (append-nil file)) ∙ from_file [] [] (λ start t. refl) true file p.0.lines
joined_from file (next ∷ files) p =
    from_file (days_from true (joined_files (next ∷ files))) (10 ∷ joined_files (next ∷ files)) ended true file p.0.lines
    ∙ ap (λ (l : List (List ℕ)). file ∷ l) (joined_from next files p.1)
  where
    ended : (start : Bool) → T start → days_from start (10 ∷ joined_files (next ∷ files)) ≡ [] ∷ days_from true (joined_files (next ∷ files))
    ended true t = refl
    ended false t = absurd t

joined-some : (file : List ℕ) (files : List (List ℕ)) → 0 < length file → 0 < length (joined_files (file ∷ files))
unfolding joined_files
joined-some file [] h = h
joined-some file (next ∷ files) h = omega (arith, length-append file (10 ∷ joined_files (next ∷ files)))

-- joined with an empty line between and parted, such files come back
pub joined-days : (files : List (List ℕ)) → AllWhole files → days (joined_files files) ≡ files
unfolding joined_files
joined-days [] p = refl
joined-days (file ∷ files) p = days_are (joined_files (file ∷ files)) (joined-some file files p.0.some) ∙ joined_from file files p
