-- Laws of Shortcuts.antt of specs/.
-- What code may use in place of the definitions: a day that overbooks an interval has no row that the search could find (`beam_none`); on a
-- day without one, a set is discarded exactly where for some slot too many of its trains end by it (`discarded_is`).
-- Assumes nothing.
use Rattle.std.specs.Prelude.{◌≡◌, refl, Bool, List, ℕ, suc, ◌+◌, ◌-◌, ◌*◌, ◌^◌, ◌≤◌, ◌<◌, T, ltb}
use Rattle.std.proofs.Math.Path.{sym, ap}
use Rattle.std.proofs.Common.{◌∙◌, ⊎_elim, arith, ltb→lt, lt→ltb}
use Rattle.std.proofs.Math.Option.{Option, none, some}
use Rattle.std.specs.Int.Bits.{bit_and}
use Rattle.std.specs.Int.Count.{ones}
use Rattle.std.proofs.Math.Dec.{leb}
use Rattle.fold.specs.Test.{same_test_lem, test}
use Rattle.fold.specs.Fold
use Rattle.fold.specs.Fold.{count, some_at, some_of}
use Rattle.fold.specs.Counting.{le_or_lt}
use Rattle.sets.specs.Mask.{has, mask, mask_and, mask-has, ones_mask}
use Rattle.model.specs.Model.{Yard, last_slot}
use Rattle.model.specs.Overbooked.{Interval, first_overbooked}
use Rattle.feasibility.specs.Bound.{Windows, Spacious}
use Rattle.feasibility.proofs.NoRow.{none_fits}
use Rattle.feasibility.proofs.RowOrNone.{some_over}
use Rattle.beam.specs.Beam.{discarded, beam_row}
use Rattle.beam.specs.Discards.{ending}
use Rattle.beam.proofs.Discards.{kept_fits, fits_kept}
use Rattle.beam.specs.Result.{Says}
use Rattle.beam.proofs.Result.{beam_says}
use Rattle.beam.specs.Shortcuts.{ends_by, crowded}

-- ---- 9 exactly where an interval is overbooked

module _ (y : Yard) (width : ℕ) (windows : Windows y) (wide : 1 ≤ width) where
  pub beam_none : (w : Interval) → first_overbooked y ≡ some w → beam_row y width ≡ none
  beam_none w e = go (beam_row y width) (beam_says y width windows wide)
    where
      go : (o : Option (List ℕ)) → Says y o → o ≡ none
      go none says = refl
      go (some row) says = absurd (none_fits y w.first w.last (some_over y w e) row says)

module _ (y : Yard) (r : ℕ) (small : r < 2 ^ y.trains) where
  pub ending_ones : (b : ℕ) → count y.trains (ending y r b) ≡ ones (bit_and r (ends_by y b))
  unfolding ends_by
  ending_ones b =
      sym (ones_mask y.trains (ending y r b)) ∙ ap ones (sym (mask_and y.trains (has r) (λ i. leb (last_slot y i) b)))
      ∙ ap (λ m. ones (bit_and m (mask y.trains λ i. leb (last_slot y i) b))) (mask-has y.trains r small)

  pub discarded_is : Spacious y → (t : ℕ) → t ≤ y.slots → discarded y t r ≡ Fold.some (suc (y.slots - t)) ((crowded y r small) t)
  discarded_is spacious t upto =
      same_test_lem (discarded y t r) (Fold.some (suc (y.slots - t)) ((crowded y r small) t))
      (λ bad. ⊎_elim (λ found. found) (λ few. absurd (fits_kept y t r spacious upto (fits few) bad)) (test (Fold.some (suc (y.slots - t)) ((crowded y r small) t))))
      (λ found.
      ⊎_elim (λ bad. bad)
      (λ keep.
      let (d, l, over) = some_of (suc (y.slots - t)) ((crowded y r small) t) found in
      absurd (omega (arith, ltb→lt (y.tracks * d) (ones (bit_and r (ends_by y (t + d)))) over, ending_ones (t + d), kept_fits y t r keep (t + d) d refl (omega arith))))
      (test (discarded y t r)))
    where
      fits : (T (Fold.some (suc (y.slots - t)) ((crowded y r small) t)) → ⊥) → (b d : ℕ) → b ≡ t + d → b ≤ y.slots → count y.trains (ending y r b) ≤ y.tracks * d
      fits few b d e h =
          ⊎_elim (λ k. k)
          (λ (k : y.tracks * d < count y.trains (ending y r b)).
          absurd
          (few
          (some_at (suc (y.slots - t)) ((crowded y r small) t) d (omega arith)
          (lt→ltb (y.tracks * d) (ones (bit_and r (ends_by y (t + d)))) (omega (arith, ending_ones b, ap (λ x. ones (bit_and r (ends_by y x))) e))))))
          (le_or_lt (count y.trains (ending y r b)) (y.tracks * d))
