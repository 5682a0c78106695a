-- Check 8, then `value_row`.
use Rattle.std.proofs.Common.{sym, ◌∙◌, arith}
use Rattle.fold.specs.Test.{of_true}
use Rattle.day.specs.SoundLaws.{sound_is}
use Rattle.valuing.proofs.Laws.{says_unsound, says_sound}
use Rattle.valuing.proofs.value_file.Goals as goal

pub returns-then-not-is_file_sound : goal.returns-then-not-is_file_sound
returns-then-not-is_file_sound c = says_unsound _ _ _ (sym c.is_file_sound.ensures ∙ c.if-not-is_file_sound.true)

pub value_row-requires-clause-trains_bound : goal.value_row-requires-clause-trains_bound
value_row-requires-clause-trains_bound c =
    let s = c.requires.0 in
    let few = (sound_is _ _ (of_true (sym c.is_file_sound.ensures ∙ c.if-not-is_file_sound.false))).trains.1 in
    (omega (arith, few, c.requires.1), (few, (omega (arith, s.boxes), (omega (arith, few, s.first), (omega (arith, few, s.last), omega (arith, few, s.groups))))))

pub value_row-requires-clause-groups_up_to : goal.value_row-requires-clause-groups_up_to
value_row-requires-clause-groups_up_to c = (sound_is _ _ (of_true (sym c.is_file_sound.ensures ∙ c.if-not-is_file_sound.false))).groups

pub returns : goal.returns
returns c = c.value_row.ensures ∙ says_sound _ _ _ (sym c.is_file_sound.ensures ∙ c.if-not-is_file_sound.false)
