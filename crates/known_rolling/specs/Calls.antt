-- Lists of calls, each with what it answers: the whole state, or the number of the refusal and what it carries. A refused call leaves the
-- state as before, so the next one finds it. `asked` lends just enough words; where `change` stands, the words are the point.
-- Assumes nothing.
use Rattle.std.specs.Prelude.{List, [], ◌∷◌, replicate}
use Rattle.day.specs.Answer.{gives, refuses}
use Rattle.rolling.specs.Rolling.{cancel, add, set_boxes, close, change}
use Rattle.known_rolling.specs.Lines.{standing, asked, Step, says}
use Rattle.known_rolling.specs.Days.{narrow, joint, joint_with25, convoy, convoy_with25, busy_with25, busy_to25, busy_from25, busy_without30, busy_to10, busy_with35, busy_to35, busy_to20}
use Rattle.known_rolling.specs.Days.{plain, plain_with1, plain_for1, plain_without_last, plain_with_last, plain_full, plain_with6, plain_with7, plain_served, solo_with20, solo20, solo_with30, solo30, twelve}
use Rattle.known_rolling.specs.Days.{trio_without30, trio_one, trio_with20, trio_again}
use Rattle.known_rolling.specs.Days.{even, even_with20, even20, even_with40, level, level_without20, level_with15, level_with12, level_without10}
use Rattle.known_rolling.specs.Days.{pairs, pairs_across, pairs_to30, pairs_to40, pairs_to20, paper, paper_wide, paper_with5, paper_without2, paper_new2, paper_no_to1, paper_to4}
use Rattle.known_rolling.specs.Days.{late, late_with30, eight, eight_to7, eight_without6, halves}

-- the stretch of 9 may begin in closed slots, and counts the added train: 1..3 with 4, where the open slots alone have 2..3 with 3. 5 before 9.
-- The day goes on as before
abbrev pub narrow_calls : List Step
narrow_calls =
    says (asked (add 25 2 3)) (refuses 9 (1 ∷ 3 ∷ 4 ∷ []))
    ∷ says close (gives (standing narrow 1 (1 ∷ 3 ∷ 2 ∷ [])))
    ∷ says (asked (add 25 1 3)) (refuses 5 (0 ∷ []))
    ∷ says (asked (add 25 3 2)) (refuses 5 (0 ∷ []))
    ∷ says (asked (add 25 2 3)) (refuses 9 (1 ∷ 3 ∷ 4 ∷ []))
    ∷ says close (gives (standing narrow 2 (1 ∷ 3 ∷ 2 ∷ [])))
    ∷ []

-- windows are cut to the open slots: while slot 1 is open 30 moves to the track that is free there, and then no longer
abbrev pub joint_calls : List Step
joint_calls =
    says (asked (add 25 2 2)) (gives (standing joint_with25 0 (1 ∷ 2 ∷ 2 ∷ 1 ∷ [])))
    ∷ says (asked (cancel 25)) (gives (standing joint 0 (1 ∷ 2 ∷ 2 ∷ [])))
    ∷ says close (gives (standing joint 1 (1 ∷ 2 ∷ 2 ∷ [])))
    ∷ says (asked (add 25 2 2)) (refuses 9 (2 ∷ 2 ∷ 3 ∷ []))
    ∷ []

-- 16, where no stretch is overbooked and the group has no slot of its own, with all slots open and with one closed; 9 all the same, where
-- one is
abbrev pub convoy_calls : List Step
convoy_calls =
    says (asked (add 25 3 3)) (refuses 16 (0 ∷ []))
    ∷ says close (gives (standing convoy 1 (2 ∷ 3 ∷ 3 ∷ [])))
    ∷ says (asked (add 25 3 3)) (refuses 16 (0 ∷ []))
    ∷ says (asked (add 25 2 3)) (gives (standing convoy_with25 1 (2 ∷ 3 ∷ 2 ∷ 3 ∷ [])))
    ∷ says (asked (add 26 2 3)) (refuses 9 (2 ∷ 3 ∷ 5 ∷ []))
    ∷ []

-- thirteen calls on one day: trains added in the middle, boxes set both ways between two trains, to a waiting train from a served one, trains
-- cancelled from the middle, slots closed in between. 10 keeps its group where 30 has left it. 20 moves three times with changes that do not
-- name it, where the old plan is still allowed; stored windows are never cut
abbrev pub busy_calls : List Step
busy_calls =
    says (asked (add 25 1 3)) (gives (standing busy_with25 0 (1 ∷ 2 ∷ 3 ∷ 1 ∷ 2 ∷ [])))
    ∷ says (asked (set_boxes 25 40 98)) (gives (standing busy_to25 0 (2 ∷ 3 ∷ 1 ∷ 2 ∷ 1 ∷ [])))
    ∷ says (asked (set_boxes 40 25 72)) (gives (standing busy_from25 0 (2 ∷ 3 ∷ 1 ∷ 2 ∷ 1 ∷ [])))
    ∷ says close (gives (standing busy_from25 1 (2 ∷ 3 ∷ 1 ∷ 2 ∷ 1 ∷ [])))
    ∷ says (asked (cancel 30)) (gives (standing busy_without30 1 (2 ∷ 2 ∷ 1 ∷ 1 ∷ [])))
    ∷ says (asked (set_boxes 10 40 73)) (gives (standing busy_to10 1 (2 ∷ 2 ∷ 1 ∷ 1 ∷ [])))
    ∷ says (asked (add 35 2 3)) (gives (standing busy_with35 1 (2 ∷ 2 ∷ 1 ∷ 3 ∷ 1 ∷ [])))
    ∷ says (asked (set_boxes 35 10 67)) (gives (standing busy_to35 1 (2 ∷ 3 ∷ 1 ∷ 2 ∷ 1 ∷ [])))
    ∷ says (asked (set_boxes 20 35 89)) (gives (standing busy_to20 1 (2 ∷ 3 ∷ 1 ∷ 3 ∷ 1 ∷ [])))
    ∷ says close (gives (standing busy_to20 2 (2 ∷ 3 ∷ 1 ∷ 3 ∷ 1 ∷ [])))
    ∷ says (asked (cancel 35)) (gives (standing busy_to10 2 (2 ∷ 3 ∷ 1 ∷ 1 ∷ [])))
    ∷ says close (gives (standing busy_to10 3 (2 ∷ 3 ∷ 1 ∷ 1 ∷ [])))
    ∷ says close (refuses 20 (0 ∷ []))
    ∷ []

-- the refusals of the calls, each leaving the state as before, and the edges of the limits. 10 before 3, 18 and 19; 3 before 18, 19, 5 and 6;
-- 19 before 5; 18 before 6
abbrev pub plain_calls : List Step
plain_calls =
    -- one word less than 4,096 or 32,768
    says (change (cancel 700) 4095 32768) (refuses 10 (0 ∷ []))
    ∷ says (change (cancel 700) 4096 32767) (refuses 10 (0 ∷ []))
    ∷ says (change (add 6 1 1) 4095 32768) (refuses 10 (0 ∷ []))
    ∷ says (change (add 6 1 1) 4096 32767) (refuses 10 (0 ∷ []))
    ∷ says (change (set_boxes 5 700 1) 4095 32768) (refuses 10 (0 ∷ []))
    ∷ says (change (set_boxes 5 700 1) 4096 32767) (refuses 10 (0 ∷ []))
    ∷ says (change (cancel 0) 4095 32768) (refuses 10 (0 ∷ []))
    ∷ says (change (add 0 0 0) 0 40000) (refuses 10 (0 ∷ []))
    ∷ says (change (set_boxes 0 0 256) 40000 0) (refuses 10 (0 ∷ []))
    ∷ says (change (cancel 6) 4095 32768) (refuses 10 (0 ∷ []))
    ∷ says (change (add 700 3 2) 4095 32768) (refuses 10 (0 ∷ []))
    ∷ says (change (set_boxes 5 5 1) 4095 32768) (refuses 10 (0 ∷ []))
    -- cancel: the number outside its limits, not listed
    ∷ says (asked (cancel 0)) (refuses 3 (0 ∷ []))
    ∷ says (asked (cancel 100000)) (refuses 3 (0 ∷ []))
    ∷ says (asked (cancel 6)) (refuses 18 (0 ∷ []))
    ∷ says (asked (cancel 99998)) (refuses 18 (0 ∷ []))
    -- add: number, first, last outside; listed; first above last
    ∷ says (asked (add 0 1 1)) (refuses 3 (0 ∷ []))
    ∷ says (asked (add 100000 1 1)) (refuses 3 (0 ∷ []))
    ∷ says (asked (add 6 0 1)) (refuses 3 (0 ∷ []))
    ∷ says (asked (add 6 4 3)) (refuses 3 (0 ∷ []))
    ∷ says (asked (add 6 1 0)) (refuses 3 (0 ∷ []))
    ∷ says (asked (add 6 1 4)) (refuses 3 (0 ∷ []))
    ∷ says (asked (add 700 2 3)) (refuses 19 (0 ∷ []))
    ∷ says (asked (add 6 3 2)) (refuses 5 (0 ∷ []))
    ∷ says (asked (add 700 0 1)) (refuses 3 (0 ∷ []))
    ∷ says (asked (add 700 3 2)) (refuses 19 (0 ∷ []))
    ∷ says (asked (add 6 3 0)) (refuses 3 (0 ∷ []))
    -- set boxes: to, from, boxes outside; not listed; to and from the same
    ∷ says (asked (set_boxes 0 5 1)) (refuses 3 (0 ∷ []))
    ∷ says (asked (set_boxes 100000 5 1)) (refuses 3 (0 ∷ []))
    ∷ says (asked (set_boxes 5 0 1)) (refuses 3 (0 ∷ []))
    ∷ says (asked (set_boxes 5 100000 1)) (refuses 3 (0 ∷ []))
    ∷ says (asked (set_boxes 5 700 256)) (refuses 3 (0 ∷ []))
    ∷ says (asked (set_boxes 6 5 1)) (refuses 18 (0 ∷ []))
    ∷ says (asked (set_boxes 5 6 1)) (refuses 18 (0 ∷ []))
    ∷ says (asked (set_boxes 5 5 1)) (refuses 6 (0 ∷ []))
    ∷ says (asked (set_boxes 6 5 256)) (refuses 3 (0 ∷ []))
    ∷ says (asked (set_boxes 6 6 1)) (refuses 18 (0 ∷ []))
    ∷ says (asked (set_boxes 5 5 256)) (refuses 3 (0 ∷ []))
    -- the least and the greatest number, and more words than are needed; boxes up to 255 and down to 0; the day as it was
    ∷ says (change (add 1 1 3) 5000 40000) (gives (standing plain_with1 0 (2 ∷ 2 ∷ 1 ∷ 1 ∷ [])))
    ∷ says (asked (cancel 99999)) (gives (standing plain_for1 0 (2 ∷ 1 ∷ 1 ∷ [])))
    ∷ says (asked (cancel 1)) (gives (standing plain_without_last 0 (1 ∷ 1 ∷ [])))
    ∷ says (asked (add 99999 1 3)) (gives (standing plain_with_last 0 (1 ∷ 1 ∷ 2 ∷ [])))
    ∷ says (asked (set_boxes 99999 700 255)) (gives (standing plain_full 0 (2 ∷ 1 ∷ 1 ∷ [])))
    ∷ says (asked (set_boxes 99999 700 0)) (gives (standing plain_with_last 0 (1 ∷ 1 ∷ 2 ∷ [])))
    ∷ says (asked (set_boxes 99999 700 5)) (gives (standing plain 0 (2 ∷ 1 ∷ 1 ∷ [])))
    -- a served train cannot be cancelled; a first slot may not be closed, the first open one may be first
    ∷ says close (gives (standing plain 1 (2 ∷ 1 ∷ 1 ∷ [])))
    ∷ says (asked (cancel 700)) (refuses 18 (0 ∷ []))
    ∷ says (asked (add 6 1 3)) (refuses 5 (0 ∷ []))
    ∷ says (asked (add 700 1 3)) (refuses 19 (0 ∷ []))
    ∷ says (asked (add 6 2 3)) (gives (standing plain_with6 1 (2 ∷ 2 ∷ 1 ∷ 1 ∷ [])))
    ∷ says close (gives (standing plain_with6 2 (2 ∷ 2 ∷ 1 ∷ 1 ∷ [])))
    ∷ says (asked (cancel 5)) (refuses 18 (0 ∷ []))
    ∷ says (asked (cancel 700)) (refuses 18 (0 ∷ []))
    ∷ says (asked (add 7 2 3)) (refuses 5 (0 ∷ []))
    ∷ says (asked (add 7 3 3)) (gives (standing plain_with7 2 (2 ∷ 2 ∷ 3 ∷ 1 ∷ 1 ∷ [])))
    ∷ says (asked (cancel 7)) (gives (standing plain_with6 2 (2 ∷ 2 ∷ 1 ∷ 1 ∷ [])))
    -- all slots closed
    ∷ says close (gives (standing plain_with6 3 (2 ∷ 2 ∷ 1 ∷ 1 ∷ [])))
    ∷ says close (refuses 20 (0 ∷ []))
    ∷ says (asked (add 8 3 3)) (refuses 5 (0 ∷ []))
    ∷ says (asked (add 6 3 3)) (refuses 19 (0 ∷ []))
    ∷ says (asked (add 8 0 3)) (refuses 3 (0 ∷ []))
    ∷ says (asked (cancel 6)) (refuses 18 (0 ∷ []))
    ∷ says (asked (cancel 8)) (refuses 18 (0 ∷ []))
    ∷ says (asked (set_boxes 99999 5 9)) (gives (standing plain_served 3 (2 ∷ 2 ∷ 1 ∷ 1 ∷ [])))
    ∷ says (asked (set_boxes 5 5 9)) (refuses 6 (0 ∷ []))
    ∷ says (asked (set_boxes 5 8 9)) (refuses 18 (0 ∷ []))
    ∷ []

-- the only train cannot be cancelled, one of two can, also the only one that waits
abbrev pub solo_calls : List Step
solo_calls =
    says (asked (cancel 10)) (refuses 18 (0 ∷ []))
    ∷ says (asked (add 20 1 2)) (gives (standing solo_with20 0 (2 ∷ 1 ∷ [])))
    ∷ says (asked (cancel 10)) (gives (standing solo20 0 (1 ∷ [])))
    ∷ says (asked (cancel 20)) (refuses 18 (0 ∷ []))
    ∷ says (asked (add 30 1 2)) (gives (standing solo_with30 0 (2 ∷ 1 ∷ [])))
    ∷ says close (gives (standing solo_with30 1 (2 ∷ 1 ∷ [])))
    ∷ says (asked (cancel 20)) (gives (standing solo30 1 (1 ∷ [])))
    ∷ says (asked (cancel 30)) (refuses 18 (0 ∷ []))
    ∷ says (asked (cancel 20)) (refuses 18 (0 ∷ []))
    ∷ []

-- a twelfth train and a thirteenth; 3 before 19 and 19 before 5, where the number is new
abbrev pub eleven_calls : List Step
eleven_calls =
    says (asked (add 12 1 1)) (gives (standing twelve 0 (replicate 12 1)))
    ∷ says (asked (add 13 1 1)) (refuses 19 (0 ∷ []))
    ∷ says (asked (add 13 2 1)) (refuses 3 (0 ∷ []))
    ∷ says close (gives (standing twelve 1 (replicate 12 1)))
    ∷ says (asked (add 13 1 1)) (refuses 19 (0 ∷ []))
    ∷ []

-- a group cancelled down to one: the last member keeps its number and is bound no more. A train that comes back is in no group and has no
-- boxes
abbrev pub trio_calls : List Step
trio_calls =
    says (asked (cancel 30)) (gives (standing trio_without30 0 (1 ∷ 1 ∷ 1 ∷ [])))
    ∷ says (asked (cancel 20)) (gives (standing trio_one 0 (1 ∷ 1 ∷ [])))
    ∷ says (asked (add 20 1 3)) (gives (standing trio_with20 0 (1 ∷ 1 ∷ 1 ∷ [])))
    ∷ says (asked (add 30 2 3)) (gives (standing trio_again 0 (1 ∷ 1 ∷ 2 ∷ 1 ∷ [])))
    ∷ []

-- ties are decided by the set numbers of the new positions: after an add in the middle, at the end and at the front, after a cancel of the
-- middle, the first and the last
abbrev pub even_calls : List Step
even_calls =
    says (asked (add 20 1 3)) (gives (standing even_with20 0 (3 ∷ 2 ∷ 1 ∷ [])))
    ∷ says (asked (cancel 20)) (gives (standing even 0 (2 ∷ 1 ∷ [])))
    ∷ says (asked (add 20 1 3)) (gives (standing even_with20 0 (3 ∷ 2 ∷ 1 ∷ [])))
    ∷ says (asked (cancel 10)) (gives (standing even20 0 (2 ∷ 1 ∷ [])))
    ∷ says (asked (add 40 1 3)) (gives (standing even_with40 0 (3 ∷ 2 ∷ 1 ∷ [])))
    ∷ says (asked (cancel 40)) (gives (standing even20 0 (2 ∷ 1 ∷ [])))
    ∷ says (asked (add 10 1 3)) (gives (standing even_with20 0 (3 ∷ 2 ∷ 1 ∷ [])))
    ∷ says close (gives (standing even_with20 1 (3 ∷ 2 ∷ 1 ∷ [])))
    ∷ says (asked (add 15 2 3)) (refuses 9 (1 ∷ 3 ∷ 4 ∷ []))
    ∷ []

-- the same among waiting trains, beside served ones at positions that move
abbrev pub level_calls : List Step
level_calls =
    says close (gives (standing level 1 (2 ∷ 2 ∷ 1 ∷ 1 ∷ [])))
    ∷ says (asked (cancel 20)) (gives (standing level_without20 1 (2 ∷ 1 ∷ 1 ∷ [])))
    ∷ says (asked (add 15 2 3)) (gives (standing level_with15 1 (2 ∷ 2 ∷ 1 ∷ 1 ∷ [])))
    ∷ says (asked (add 12 2 3)) (gives (standing level_with12 1 (3 ∷ 2 ∷ 2 ∷ 1 ∷ 1 ∷ [])))
    ∷ says (asked (cancel 10)) (gives (standing level_without10 1 (2 ∷ 2 ∷ 1 ∷ 1 ∷ [])))
    ∷ []

-- while all slots are open a change moves 20 too, which it does not name, though the old plan is still allowed; once slot 1 is closed its trains
-- stay, though that other plan would be cheaper. Boxes between served trains may be set, also to the number that they have
abbrev pub pairs_calls : List Step
pairs_calls =
    says (asked (set_boxes 10 30 50)) (gives (standing pairs_across 0 (2 ∷ 1 ∷ 2 ∷ 1 ∷ [])))
    ∷ says (asked (set_boxes 10 30 0)) (gives (standing pairs 0 (2 ∷ 2 ∷ 1 ∷ 1 ∷ [])))
    ∷ says close (gives (standing pairs 1 (2 ∷ 2 ∷ 1 ∷ 1 ∷ [])))
    ∷ says (asked (set_boxes 10 30 50)) (gives (standing pairs_across 1 (2 ∷ 2 ∷ 1 ∷ 1 ∷ [])))
    ∷ says (asked (set_boxes 30 40 7)) (gives (standing pairs_to30 1 (2 ∷ 2 ∷ 1 ∷ 1 ∷ [])))
    ∷ says (asked (set_boxes 40 30 9)) (gives (standing pairs_to40 1 (2 ∷ 2 ∷ 1 ∷ 1 ∷ [])))
    ∷ says (asked (set_boxes 40 30 9)) (gives (standing pairs_to40 1 (2 ∷ 2 ∷ 1 ∷ 1 ∷ [])))
    ∷ says close (gives (standing pairs_to40 2 (2 ∷ 2 ∷ 1 ∷ 1 ∷ [])))
    ∷ says (asked (set_boxes 20 10 3)) (gives (standing pairs_to20 2 (2 ∷ 2 ∷ 1 ∷ 1 ∷ [])))
    ∷ []

-- a weight out of its limits, with all slots closed: 8 before 20, 10, 3, 18, 19, 5 and 6; the state is as before, and is
-- refused again
abbrev pub heavy_calls : List Step
heavy_calls =
    says close (refuses 8 (0 ∷ []))
    ∷ says (asked (cancel 10)) (refuses 8 (0 ∷ []))
    ∷ says (change (cancel 0) 0 0) (refuses 8 (0 ∷ []))
    ∷ says (asked (add 20 1 2)) (refuses 8 (0 ∷ []))
    ∷ says (change (add 10 2 1) 0 0) (refuses 8 (0 ∷ []))
    ∷ says (asked (set_boxes 10 10 256)) (refuses 8 (0 ∷ []))
    ∷ says (change (set_boxes 10 20 1) 4095 0) (refuses 8 (0 ∷ []))
    ∷ says close (refuses 8 (0 ∷ []))
    ∷ []

-- a group parted: 8 with areas that suffice and before 10
abbrev pub parted_calls : List Step
parted_calls =
    says (asked (cancel 20)) (refuses 8 (0 ∷ []))
    ∷ says (change (cancel 20) 4095 32768) (refuses 8 (0 ∷ []))
    ∷ says (asked (add 40 1 2)) (refuses 8 (0 ∷ []))
    ∷ says (change (add 40 1 2) 4096 32767) (refuses 8 (0 ∷ []))
    ∷ says (asked (set_boxes 10 20 1)) (refuses 8 (0 ∷ []))
    ∷ says (change (set_boxes 10 20 1) 0 0) (refuses 8 (0 ∷ []))
    ∷ says close (refuses 8 (0 ∷ []))
    ∷ []

-- a slot past the trains
abbrev pub past_calls : List Step
past_calls =
    says (asked (cancel 20)) (refuses 8 (0 ∷ []))
    ∷ says (asked (add 40 1 2)) (refuses 8 (0 ∷ []))
    ∷ says (asked (set_boxes 10 20 1)) (refuses 8 (0 ∷ []))
    ∷ []

-- a dearer plan: close keeps it, and so does a change once nothing is left to choose
abbrev pub paper_calls : List Step
paper_calls =
    says close (gives (standing paper 1 (1 ∷ 1 ∷ 2 ∷ 2 ∷ [])))
    ∷ says (asked (set_boxes 1 4 1)) (gives (standing paper 1 (1 ∷ 1 ∷ 2 ∷ 2 ∷ [])))
    ∷ says (asked (cancel 2)) (refuses 18 (0 ∷ []))
    ∷ says close (gives (standing paper 2 (1 ∷ 1 ∷ 2 ∷ 2 ∷ [])))
    ∷ []

-- one slot closed: waiting trains do not go to a track that stayed free in it
abbrev pub one_closed_calls : List Step
one_closed_calls =
    says (asked (set_boxes 1 4 1)) (gives (standing paper_wide 1 (1 ∷ 2 ∷ 3 ∷ 3 ∷ [])))
    ∷ says (asked (add 5 2 3)) (gives (standing paper_with5 1 (1 ∷ 2 ∷ 3 ∷ 3 ∷ 2 ∷ [])))
    ∷ []

-- two slots closed, with a served train in each
abbrev pub two_closed_calls : List Step
two_closed_calls =
    says (asked (cancel 2)) (gives (standing paper_without2 2 (2 ∷ 1 ∷ 3 ∷ [])))
    ∷ says (asked (add 2 3 3)) (gives (standing paper_new2 2 (2 ∷ 3 ∷ 1 ∷ 3 ∷ [])))
    ∷ says close (gives (standing paper_new2 3 (2 ∷ 3 ∷ 1 ∷ 3 ∷ [])))
    ∷ says (asked (set_boxes 1 4 0)) (gives (standing paper_no_to1 3 (2 ∷ 3 ∷ 1 ∷ 3 ∷ [])))
    ∷ says (asked (set_boxes 4 1 8)) (gives (standing paper_to4 3 (2 ∷ 3 ∷ 1 ∷ 3 ∷ [])))
    ∷ []

-- all slots closed: as many as there are is sound. Boxes may still be set
abbrev pub all_closed_calls : List Step
all_closed_calls =
    says (asked (set_boxes 1 4 1)) (gives (standing paper_wide 3 (3 ∷ 1 ∷ 2 ∷ 1 ∷ [])))
    ∷ says (asked (cancel 1)) (refuses 18 (0 ∷ []))
    ∷ says (asked (add 9 3 3)) (refuses 5 (0 ∷ []))
    ∷ says close (refuses 20 (0 ∷ []))
    ∷ []

-- eight slots: each can be closed; a train of a later one is served when its own is closed, and not before; a first slot that is closed gets 5
-- there too
abbrev pub late_calls : List Step
late_calls =
    says close (gives (standing late 1 (5 ∷ 1 ∷ [])))
    ∷ says close (gives (standing late 2 (5 ∷ 1 ∷ [])))
    ∷ says close (gives (standing late 3 (5 ∷ 1 ∷ [])))
    ∷ says close (gives (standing late 4 (5 ∷ 1 ∷ [])))
    ∷ says (asked (add 30 4 8)) (refuses 5 (0 ∷ []))
    ∷ says (asked (cancel 20)) (refuses 18 (0 ∷ []))
    ∷ says (asked (add 30 5 8)) (gives (standing late_with30 4 (6 ∷ 1 ∷ 5 ∷ [])))
    ∷ says (asked (cancel 30)) (gives (standing late 4 (5 ∷ 1 ∷ [])))
    ∷ says close (gives (standing late 5 (5 ∷ 1 ∷ [])))
    ∷ says (asked (cancel 10)) (refuses 18 (0 ∷ []))
    ∷ says (asked (add 30 5 8)) (refuses 5 (0 ∷ []))
    ∷ says close (gives (standing late 6 (5 ∷ 1 ∷ [])))
    ∷ says close (gives (standing late 7 (5 ∷ 1 ∷ [])))
    ∷ says close (gives (standing late 8 (5 ∷ 1 ∷ [])))
    ∷ says close (refuses 20 (0 ∷ []))
    ∷ []

-- seven and eight trains: weights, groups and boxes stay with them
abbrev pub seven_calls : List Step
seven_calls =
    says (asked (add 8 1 1)) (gives (standing eight 0 (replicate 8 1)))
    ∷ says (asked (set_boxes 7 1 200)) (gives (standing eight_to7 0 (replicate 8 1)))
    ∷ says (asked (cancel 6)) (gives (standing eight_without6 0 (replicate 7 1)))
    ∷ []

-- the stretch of 9 on a day of seven trains
abbrev pub halves_calls : List Step
halves_calls =
    says close (gives (standing halves 1 (1 ∷ 1 ∷ 1 ∷ 2 ∷ 2 ∷ 2 ∷ [])))
    ∷ says (asked (add 7 2 2)) (refuses 9 (1 ∷ 2 ∷ 7 ∷ []))
    ∷ []
