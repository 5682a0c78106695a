-- The code's account and changes as the plain ones, and what a change makes of an account.
-- Assumes nothing.
use Rattle.std.specs.Prelude.{ℕ, cond, T, Result, Ok, Err}
use Rattle.model.specs.Model.{Yard}
use Rattle.day.specs.Answer.{Answer, gives, answered, checked}
use Rattle.day.specs.Sound.{day_limits, yard, sound}
use Rattle.day.specs.declared.Limits.{Limits}
use Rattle.day.specs.declared.Refusal.{Refusal}
use Rattle.rolling.specs.Rolling
use Rattle.rolling.specs.Rolling.{place_of, is_listed, cancel, add, set_boxes, edited, change_checks}
use Rattle.account_edits.specs.declared.Account.{Account}
use Rattle.account_edits.specs.declared.Change.{Change}
use Rattle.account_edits.specs.declared.Change.TheVariants.{Cancel, Add, SetBoxes}

abbrev pub account_in : Account → Rolling.Account
account_in a = record { day = yard a.day; closed = a.closed; served = a.served }

-- what each change asks
abbrev pub HasSoundDay : Account → Type 0
HasSoundDay a = T (sound day_limits (yard a.day))

abbrev pub change_in : Change → Rolling.Change
change_in (Cancel number) = cancel number
change_in (Add number first last) = add number first last
change_in (SetBoxes to from boxes) = set_boxes to from boxes

abbrev pub answer : Result Account Refusal → Answer Rolling.Account
answer = answered account_in

-- where a listed number stands, or else where it would stand
unfoldable pub placed : Yard → ℕ → Result ℕ ℕ
placed y x = cond (is_listed y x) (Ok (place_of y x)) (Err (place_of y x))

-- the edited account, where the change's own checks hold
unfoldable pub made : Limits → Rolling.Account → Rolling.Change → Answer Rolling.Account
made l a c = checked (change_checks l a c) (gives (edited a c))
