-- A list of sources moves as the function that it lists, and those of a train left out or put in are positions of a day.
-- Assumes nothing.
use Rattle.std.specs.Prelude.{◌≡◌, List, ℕ, suc, ◌-◌, ◌≤◌, ◌<◌, get_or}
use Rattle.std.proofs.Common.{ap, ap₂, ◌∙◌, ⊎_elim, arith}
use Rattle.fold.specs.Counting.{le_or_lt}
use Rattle.fold.specs.Column.{column, column-at, column_ext, table, table_ext}
use Rattle.model.specs.Model.{Yard, received}
use Rattle.rolling.specs.Rolling.{moved, rearranged, source_without, source_with}
use Rattle.rolling.specs.Places.{without_before, without_after, with_before, with_here, with_after, before_or}
use Rattle.day_edits.specs.declared.Sources.{Sources}
use Rattle.day_edits.specs.Sources.{AreInDay, source_of}

-- ---- a list of sources, and the function that it lists

module _ (s : Sources) (f : ℕ → ℕ) (m : ℕ) (trains : s.trains ≡ m) (e : s.of ≡ column 12 12 f) (few : m ≤ 12) where
  source_at : (i : ℕ) → i < m → source_of s i ≡ f i
  source_at i h = ap (λ l. get_or l i 0) e ∙ column-at 12 12 f i (omega arith) (omega arith)

  are_in_day : ((i : ℕ) → i < m → f i < 12) → AreInDay s
  are_in_day below = record { few = omega arith; there = λ i h. let l : i < m = omega arith in omega (arith, source_at i l, below i l) }

  pub moved_as : (w : ℕ) (l : List ℕ) → moved w s.trains (source_of s) l ≡ moved w m f l
  moved_as w l =
      ap (λ m. moved w m (source_of s) l) trains
      ∙ column_ext w m (λ i. get_or l (source_of s i) 0) (λ i. get_or l (f i) 0) (λ i h. ap (λ k. get_or l k 0) (source_at i h))

  pub rearranged_as : (y : Yard) → rearranged s.trains (source_of s) y ≡ rearranged m f y
  rearranged_as y =
      let numbers = moved_as y.width y.numbers in
      let first = moved_as y.width y.first in
      let last = moved_as y.width y.last in
      let groups = moved_as y.width y.groups in
      let boxes = ap (λ m. table y.width m (λ i j. received y (source_of s i) (source_of s j))) trains ∙ table_ext y.width m (λ i j. received y (source_of s i) (source_of s j)) (λ i j. received y (f i) (f j)) (λ i j h k. ap₂ (received y) (source_at i h) (source_at j k)) in
      λ i. record {
        trains = trains i;
        tracks = y.tracks;
        slots = y.slots;
        revisit = y.revisit;
        split = y.split;
        numbers = numbers i;
        first = first i;
        last = last i;
        groups = groups i;
        width = y.width;
        boxes = boxes i;
      }

-- ---- the sources of a train left out, and of a train put in

without_in : (p i : ℕ) → i < 11 → source_without p i < 12
without_in p i h =
    ⊎_elim (λ (g : p ≤ i). omega (arith, without_after p i g)) (λ (g : i < p). omega (arith, without_before p i g)) (le_or_lt p i)

with_in : (n p i : ℕ) → n < 12 → i ≤ n → source_with n p i < 12
with_in n p i h k =
    ⊎_elim (λ (g : i < p). omega (arith, with_before n p i g))
    (⊎_elim (λ (g : i ≡ p). omega (arith, with_here n p i g)) (λ (g : p < i). omega (arith, with_after n p i g))) (before_or i p)

pub without_in_day : (s : Sources) (n p : ℕ) → s.trains ≡ n - 1 → s.of ≡ column 12 12 (source_without p) → 1 ≤ n → n ≤ 12 → AreInDay s
without_in_day s n p trains e some most = are_in_day s (source_without p) (n - 1) trains e (omega arith) (λ i h. without_in p i (omega arith))

pub with_in_day : (s : Sources) (n p : ℕ) → s.trains ≡ suc n → s.of ≡ column 12 12 (source_with n p) → n < 12 → AreInDay s
with_in_day s n p trains e room = are_in_day s (source_with n p) (suc n) trains e (omega arith) (λ i h. with_in n p i room (omega arith))
