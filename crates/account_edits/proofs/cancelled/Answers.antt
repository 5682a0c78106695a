-- Each return is one of the laws `cancel_..` of specs/Laws.antt, from the checks passed before it.
use Rattle.std.proofs.Common.{refl, sym, arith}
use Rattle.day.specs.SoundLaws.{sound_is}
use Rattle.account_edits.specs.Accounts.{account_in}
use Rattle.account_edits.specs.Laws.{placed_ok, placed_err, cancel_number, cancel_unlisted, cancel_stays, cancel_made}
use Rattle.account_edits.proofs.cancelled.Goals as goal

pub returns-then-not-is_number : goal.returns-then-not-is_number
returns-then-not-is_number c = cancel_number _ _ _ (sym c.if-not-is_number.ensures)

pub place_in-requires : goal.place_in-requires
place_in-requires c = (sound_is _ _ c.requires).trains.1

pub returns-in_default : goal.returns-in_default
returns-in_default c = cancel_unlisted _ (account_in c.args.account) _ (sym c.if-not-is_number.ensures) (placed_err _ _ _ c.in_default.ensures).0

pub bounds-account-p : goal.bounds-account-p
bounds-account-p c = omega (arith, (placed_ok _ _ _ c.in-Ok.ensures).2, (sound_is _ _ c.requires).trains.1)

pub returns-then-not-account-p : goal.returns-then-not-account-p
returns-then-not-account-p c =
    let (listed, place, below) = placed_ok _ _ _ c.in-Ok.ensures in
    cancel_stays _ (account_in c.args.account) _ (sym c.if-not-is_number.ensures) listed _ place c.if-not-account-p.true

pub without_train-requires : goal.without_train-requires
without_train-requires c = (sound_is _ _ c.requires).trains

pub slots_without-requires : goal.slots_without-requires
slots_without-requires c = (sound_is _ _ c.requires).trains

pub returns : goal.returns
returns c =
    let (listed, place, below) = placed_ok _ _ _ c.in-Ok.ensures in
    cancel_made _ (account_in c.args.account) _ (sym c.if-not-is_number.ensures) listed _ place c.if-not-account-p.false refl c.without_train.ensures c.slots_without.ensures
