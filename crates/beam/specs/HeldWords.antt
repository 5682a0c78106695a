-- Partial plans that are held in places, each as sixteen words: the fifteen that order them (Words.antt, for up to twelve slots) and the trains
-- that remain. `a k c` is the word c of the plan at place k. Where a plan joins (merging, Places.antt), the plans from its place on up to the place
-- that is given up move one place up, and it is put in its own (`joined_holds`).
-- Assumes nothing.
use Rattle.std.specs.Prelude.{◌≡◌, Bool, List, [], ℕ, suc, ◌≤◌, ◌<◌, length, get_or}
use Rattle.std.proofs.Math.Bool.{cond}
use Rattle.std.proofs.Math.Dec.{eqb}
use Rattle.model.specs.Model.{Yard, lower}
use Rattle.beam.specs.Beam.{Plan, rest}
use Rattle.beam.specs.Words.{word_of}

unfoldable pub held_word : Yard → Plan → ℕ → ℕ
held_word y p c = cond (eqb c 15) (rest y p) (word_of y p c)

-- the plans of l stand at the first places of a
abbrev pub Holds : Yard → (ℕ → ℕ → ℕ) → List Plan → Type 0
Holds y a l = (k c : ℕ) → k < length l → c < 16 → a k c ≡ held_word y (get_or l k []) c

-- ---- what the loops that look for places compare

-- the words b come before those at place k of a, for a day of so many slots
abbrev pub held_before : ℕ → (ℕ → ℕ) → (ℕ → ℕ → ℕ) → ℕ → Bool
held_before slots b a k = lower (suc (suc (suc slots))) b (a k)

-- ---- a plan joins

-- b is a with the plans from `place` up to the place `upto` one place further, and x in its place
pub record Shifted (y : Yard) (x : Plan) (a b : ℕ → ℕ → ℕ) (place upto : ℕ) : Type 0 where
  pub low : (k c : ℕ) → k < place → b k c ≡ a k c
  pub here : (c : ℕ) → c < 16 → b place c ≡ held_word y x c
  pub moved : (k c : ℕ) → place ≤ k → k < upto → b (suc k) c ≡ a k c
  pub high : (k c : ℕ) → upto < k → b k c ≡ a k c
