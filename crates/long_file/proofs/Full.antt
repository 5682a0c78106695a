-- Laws of Full.antt of specs/.
-- The fullest long days: 36 trains with the greatest numbers, the greatest weights, 255 boxes from each train to each other one, and any
-- windows. They are sound, and reach the greatest sizes of the two files (Longest.antt; long_planfile's Reached.antt).
-- Assumes nothing.
use Rattle.std.specs.Prelude.{◌≡◌, refl, Bool, true, false, cond, List, ℕ, suc, ◌+◌, ◌*◌, ◌/◌, ◌%◌, ◌≤◌, ◌<◌, T, eqb, length, get_or, replicate}
use Rattle.std.proofs.Common.{sym, ap, ◌∙◌, ⊎_elim, eq-eqb}
use native.Mathlib.Omega.{arith}
use Rattle.std.proofs.lemmas.List.{length-replicate, get_or-replicate}
use Rattle.fold.specs.Listed.{listed, length-listed, listed_at}
use Rattle.model.specs.Model.{Yard, received}
use Rattle.day.specs.Sound.{sound}
use Rattle.day.specs.SoundDay.{day_sound}
use Rattle.long_day.specs.LongDay.{long_limits}
use Rattle.long_file.specs.Full.{full_boxes, full_numbers, full_day}

pub full-number : (i : ℕ) → i < 36 → get_or full_numbers i 0 ≡ 99964 + i
full-number = listed_at 36 (λ i. 99964 + i) 0

module _ (first last : List ℕ) where
  pub full-received : (i j : ℕ) → i < 36 → j < 36 → received (full_day first last) i j ≡ cond (eqb i j) 0 255
  unfolding full_boxes
  full-received i j h k =
      let at : i * 36 + j < 1296 = omega arith in
      let to : (i * 36 + j) / 36 ≡ i = omega arith in
      let from : (i * 36 + j) % 36 ≡ j = omega arith in
      listed_at 1296 full_boxes 0 (i * 36 + j) at ∙ rw (to, from)

  own : (i : ℕ) → i < 36 → received (full_day first last) i i ≡ 0
  own i h = full-received i i h h ∙ ap (λ b. cond b 0 255) (eq-eqb i i refl)

  at_most : (b : Bool) → cond b 0 255 ≤ 255
  at_most true = omega arith
  at_most false = omega arith

  -- where the windows lie in the slots
  pub full-sound : length first ≡ 36 → length last ≡ 36 → ((i : ℕ) → i < 36 → (1 ≤ get_or first i 0) × (get_or first i 0 ≤ get_or last i 0) × (get_or last i 0 ≤ 12))
      → T (sound long_limits (full_day first last))
  full-sound a b windows =
      day_sound long_limits (full_day first last) (record {
        limits = record {
          shape = record {
            width = refl;
            numbers = length-listed 36 (λ i. 99964 + i);
            first = a;
            last = b;
            groups = length-replicate {A = ℕ} 36 0;
            boxes = length-listed 1296 full_boxes;
          };
          trains = (omega arith, omega arith);
          tracks = (omega arith, omega arith);
          slots = (omega arith, omega arith);
          weights = (omega arith, omega arith);
          numbers = λ i h. (omega (arith, full-number i h), omega (arith, full-number i h));
          windows = windows;
          boxes = λ i j h k. rw (full-received i j h k) (at_most (eqb i j));
          own = own;
          groups = λ i h. omega (arith, get_or-replicate {A = ℕ} 36 i 0 0 h);
        };
        rising = λ i h. omega (arith, full-number i (omega arith), full-number (suc i) h);
        unused = λ i g h. absurd (omega arith);
        ungrouped = λ i g h. absurd (omega arith);
        without = λ i j hi hj c.
            ⊎_elim (λ (g : 36 ≤ i). absurd (omega arith))
            (⊎_elim (λ (g : 36 ≤ j). absurd (omega arith)) (λ (e : i ≡ j). ap (received (full_day first last) i) (sym e) ∙ own i hi)) c;
      })
