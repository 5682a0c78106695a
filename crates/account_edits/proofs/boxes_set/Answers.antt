-- Each return is one of the laws `boxes_..` of specs/Laws.antt, from the checks passed before it.
use Rattle.std.proofs.Common.{arith}
use Rattle.std.specs.Prelude.{◌≡◌, Bool, ◌&&◌, ℕ, leb}
use Rattle.day.specs.SoundLaws.{sound_is}
use Rattle.account_edits.specs.Accounts.{account_in}
use Rattle.account_edits.specs.Laws.{placed_ok, placed_err, boxes_fields, boxes_no_to, boxes_no_from, boxes_same, boxes_made}
use Rattle.account_edits.proofs.boxes_set.Goals as goal

-- the first test is the definition's
fields : (boxes : ℕ) {a b c d r : Bool} → (a && b && leb boxes 255) ≡ r → a ≡ c → b ≡ d → (c && d && leb boxes 255) ≡ r
fields boxes h p q = rw (← p, ← q) h

pub returns-then-not-is_number-boxes : goal.returns-then-not-is_number-boxes
returns-then-not-is_number-boxes c = boxes_fields _ (account_in c.args.account) _ _ _ (fields _ c.if-not-is_number-boxes.true c.is_number.ensures c.is_number-2.ensures)

pub place_in-requires : goal.place_in-requires
place_in-requires c = (sound_is _ _ c.requires).trains.1

pub returns-in_default : goal.returns-in_default
returns-in_default c =
    boxes_no_to _ (account_in c.args.account) _ _ _ (fields _ c.if-not-is_number-boxes.false c.is_number.ensures c.is_number-2.ensures) (placed_err _ _ _ c.in_default.ensures).0

pub place_in-requires-2 : goal.place_in-requires-2
place_in-requires-2 c = (sound_is _ _ c.requires).trains.1

pub returns-in_default-place_in : goal.returns-in_default-place_in
returns-in_default-place_in c =
    let listed = (placed_ok _ _ _ c.in-Ok.ensures).0 in
    boxes_no_from _ (account_in c.args.account) _ _ _ (fields _ c.if-not-is_number-boxes.false c.is_number.ensures c.is_number-2.ensures) listed (placed_err _ _ _ c.in_default-place_in.ensures).0

pub returns-then-to-from : goal.returns-then-to-from
returns-then-to-from c =
    let listed = (placed_ok _ _ _ c.in-Ok.ensures).0 in
    boxes_same _ (account_in c.args.account) _ _ _ (fields _ c.if-not-is_number-boxes.false c.is_number.ensures c.is_number-2.ensures) listed (placed_ok _ _ _ c.in-Ok-place_in.ensures).0 c.if-to-from.true

pub with_boxes-requires : goal.with_boxes-requires
with_boxes-requires c =
    let few = (sound_is _ _ c.requires).trains.1 in
    (omega (arith, few, (placed_ok _ _ _ c.in-Ok.ensures).2), omega (arith, few, (placed_ok _ _ _ c.in-Ok-place_in.ensures).2))

pub returns : goal.returns
returns c =
    let (to_listed, p, below) = placed_ok _ _ _ c.in-Ok.ensures in
    let (from_listed, q, below_too) = placed_ok _ _ _ c.in-Ok-place_in.ensures in
    boxes_made _ (account_in c.args.account) _ _ _ (fields _ c.if-not-is_number-boxes.false c.is_number.ensures c.is_number-2.ensures) to_listed from_listed _ _ p q c.if-to-from.false c.with_boxes.ensures
