-- What `read_file` gives at the limits of long days, without the groups, which are none.
use Rattle.std.proofs.Common.{◌≡◌, refl, ℕ, List, replicate, sym, ap, ◌∙◌, arith}
use Rattle.day.specs.Answer.{gives}
use Rattle.day.specs.Sound.{day_from}
use Rattle.day.specs.declared.Head.{Head}
use Rattle.dayfile.specs.Reading.{read_day}
use Rattle.dayfile.specs.RoundTrip.{read_sound}
use Rattle.long_day.specs.LongDay.{long_limits}
use Rattle.long_day.specs.LongLaws.{long_groups}
use Rattle.long_read.proofs.read_long_record.Goals as goal

-- the groups of a long day that was read are none
without_groups : (t : List ℕ) (h : Head) (numbers first last : List ℕ) {groups : List ℕ} (boxes : List ℕ) → read_day long_limits t ≡ gives (day_from h numbers first last groups 36 boxes)
    → read_day long_limits t ≡ gives (day_from h numbers first last (replicate 36 0) 36 boxes)
without_groups t h numbers first last boxes e =
    e ∙ ap (λ groups. gives (day_from h numbers first last groups 36 boxes)) (long_groups _ (read_sound long_limits t _ e))

pub read_file-requires : goal.read_file-requires
read_file-requires c =
    let zeros = c.zero_long_day-day.ensures in
    rw c.long_limits.ensures (omega arith, (ap (λ y. y.numbers) zeros, (ap (λ y. y.first) zeros, (ap (λ y. y.last) zeros, (refl, ap (λ y. y.boxes) zeros)))))

pub returns : goal.returns
returns c = sym (without_groups _ _ _ _ _ _ (rw c.long_limits.ensures at c.in_ok-head.ensures))
