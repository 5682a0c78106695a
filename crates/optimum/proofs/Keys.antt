-- Laws of Keys.antt of specs/.
-- Two keys in one number, the first above the second: a row's worth is its two worths packed the same way. Where the second stays below M
-- the number orders rows by the first key, then by the second, so that the table needs no change. Nest it for more keys.
-- Assumes nothing.
use Rattle.std.specs.Prelude.{◌≡◌, List, ℕ, suc, ◌+◌, ◌*◌}
use Rattle.std.proofs.Common.{ap, ◌∙◌, mul_comm}
use Rattle.fold.specs.Fold.{sum}
use Rattle.fold.specs.Sums.{sum_ext, sum-add, sum_times}
use Rattle.optimum.specs.Schedules.{Contribution}
use Rattle.optimum.specs.Rows.{stage_set, remaining, worth}
use Rattle.optimum.specs.Keys.{pack}

pub worth-pack : (M : ℕ) (f g : Contribution) (n m : ℕ) (row : List ℕ) → worth (pack M f g) n m row ≡ worth f n m row * M + worth g n m row
unfolding worth
worth-pack M f g n m row =
    sum-add m (λ j. of f j * M) (of g)
    ∙ ap (λ x. x + sum m (of g)) (sum_ext m (λ j. of f j * M) (λ j. M * of f j) (λ j l. mul_comm (of f j) M) ∙ sum_times m M (of f) ∙ mul_comm M (sum m (of f)))
  where
    of : Contribution → ℕ → ℕ
    of w j = w (suc j) (remaining n row (suc j)) (stage_set n row (suc j))
