-- A table of lines. One test, computed over all of them, gives the statement of each.
-- Assumes nothing.
use Rattle.std.proofs.Common.{sym, subst, ⊎_elim}
use Rattle.std.specs.Prelude.{Bool, true, ◌&&◌, T}
use mathlib.Core.List.Memᴰ
use mathlib.Core.List.{List, [], ◌∷◌, Memᴰ}
use Rattle.fold.specs.Test.{both_of}

-- every line passes its test
unfoldable pub all_pass : {L : Type 0} → (L → Bool) → List L → Bool
all_pass passes [] = true
all_pass passes (l ∷ ls) = passes l && all_pass passes ls

-- where a line that passes holds, every line of a table that passes does
pub all_hold : {L : Type 0} (passes : L → Bool) (Holds : L → Type 0) → ((l : L) → T (passes l) → Holds l) → (ls : List L) → T (all_pass passes ls)
    → (l : L) → Memᴰ l ls → Holds l
unfolding all_pass
all_hold passes Holds holds [] t l m = absurd (Memᴰ.not-nil m)
all_hold passes Holds holds (x ∷ ls) t l m =
    let (here, rest) = both_of (passes x) (all_pass passes ls) t in
    ⊎_elim (λ e. subst Holds (sym e) (holds x here)) (λ n. all_hold passes Holds holds ls rest l n) (Memᴰ.cases_cons m)
