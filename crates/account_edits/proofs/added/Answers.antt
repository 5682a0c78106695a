-- Each return is one of the laws `add..` of specs/Laws.antt, from the checks passed before it.
use Rattle.std.proofs.Common.{refl, sym, arith}
use Rattle.std.proofs.Math.Bool.{true}
use Rattle.std.specs.Prelude.{◌≡◌, ◌≤◌, [], ◌∷◌, ℕ}
use Rattle.fold.specs.Test.{of_true}
use Rattle.day.specs.Sound.{day_limits, within, train_ranges}
use Rattle.day.specs.SoundLaws.{sound_is, within_is}
use Rattle.account_edits.specs.Accounts.{account_in}
use Rattle.account_edits.specs.Laws.{placed_ok, placed_err, add_fields, add-listed, add-full, add-window, add-made}
use Rattle.account_edits.proofs.added.Goals as goal

pub returns-then-not-train_within : goal.returns-then-not-train_within
returns-then-not-train_within c = add_fields _ (account_in c.args.account) _ _ _ (rw c.day_limits-limits.ensures at (sym c.if-not-train_within.ensures))

pub place_in-requires : goal.place_in-requires
place_in-requires c = (sound_is _ _ c.requires).trains.1

pub returns-in_default : goal.returns-in_default
returns-in_default c = add-listed _ (account_in c.args.account) _ _ _ (rw c.day_limits-limits.ensures at (sym c.if-not-train_within.ensures)) (placed_ok _ _ _ c.in_default.ensures).0

pub returns-then-limits-d : goal.returns-then-limits-d
returns-then-limits-d c =
    let (unlisted, place, upto) = placed_err _ _ _ c.in-Err.ensures in
    add-full _ (account_in c.args.account) _ _ _ (rw c.day_limits-limits.ensures at (sym c.if-not-train_within.ensures)) unlisted (rw c.day_limits-limits.ensures at c.if-limits-d.true)

pub returns-then-not-first-last : goal.returns-then-not-first-last
returns-then-not-first-last c =
    let (unlisted, place, upto) = placed_err _ _ _ c.in-Err.ensures in
    add-window _ (account_in c.args.account) _ _ _ (rw c.day_limits-limits.ensures at (sym c.if-not-train_within.ensures)) unlisted (rw c.day_limits-limits.ensures at c.if-limits-d.false) c.if-not-first-last.true

-- no slot of a sound day is above 8
narrow : (slots x first last : ℕ) → within (train_ranges day_limits slots) (x ∷ first ∷ last ∷ []) ≡ true → slots ≤ 8 → (first ≤ 8) × (last ≤ 8)
unfolding train_ranges
narrow slots x first last e most =
    let w = within_is (train_ranges day_limits slots) (x ∷ first ∷ last ∷ []) (of_true e) in
    (omega (arith, w.1.0.1), omega (arith, w.1.1.0.1))

pub overflow_cast-first-2 : goal.overflow_cast-first-2
overflow_cast-first-2 c = omega (arith, (narrow _ _ _ _ (rw c.day_limits-limits.ensures at (sym c.if-not-train_within.ensures)) (sound_is _ _ c.requires).slots.1).0)

pub overflow_cast-last-2 : goal.overflow_cast-last-2
overflow_cast-last-2 c = omega (arith, (narrow _ _ _ _ (rw c.day_limits-limits.ensures at (sym c.if-not-train_within.ensures)) (sound_is _ _ c.requires).slots.1).1)

pub with_train-requires : goal.with_train-requires
with_train-requires c = (rw c.day_limits-limits.ensures at c.if-limits-d.false, (placed_err _ _ _ c.in-Err.ensures).2)

pub returns : goal.returns
returns c =
    let (unlisted, place, upto) = placed_err _ _ _ c.in-Err.ensures in
    add-made _ (account_in c.args.account) _ _ _ (rw c.day_limits-limits.ensures at (sym c.if-not-train_within.ensures)) unlisted (rw c.day_limits-limits.ensures at c.if-limits-d.false) _ place c.if-not-first-last.false refl c.with_train.ensures c.slots_with.ensures
