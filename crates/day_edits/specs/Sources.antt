-- The sources of a day's trains, position by position.
-- Assumes nothing.
use Rattle.std.specs.Prelude.{ℕ, ◌≤◌, ◌<◌, get_or}
use Rattle.day_edits.specs.declared.Sources.{Sources}

-- the position whose train position i has
abbrev pub source_of : Sources → ℕ → ℕ
source_of s i = get_or s.of i 0

-- each is one of a day's 12 positions
pub record AreInDay (s : Sources) : Type 0 where
  pub few : s.trains ≤ 12
  pub there : (i : ℕ) → i < s.trains → source_of s i < 12
