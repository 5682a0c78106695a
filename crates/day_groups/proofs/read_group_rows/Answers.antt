use Rattle.std.proofs.Common.{length, [], ◌∷◌, ap, ◌∙◌, arith, length-set}
use Rattle.std.proofs.lemmas.List.{length-replicate}
use Rattle.day_rows.specs.Joined.{handed_up}
use Rattle.day_groups.specs.Groups.{group_row, groups_start, groups_refused, groups_done, groups_next}
use Rattle.day_groups.proofs.read_group_rows.Goals as goal

pub loop-row-init : goal.loop-row-init
loop-row-init c =
    let zeros = c.requires.1.1.1 in
    (groups_start _ _ _ _ _ _ c.args.l.trains c.requires.0 c.requires.1.1.0 zeros, ap length zeros ∙ length-replicate c.args.l.trains 0)

pub returns-in_err-row : goal.returns-in_err-row
returns-in_err-row c =
    let g = c.loop-row.invariant.0 in
    let (is, more) = c.in_err-row.ensures g.taken g.marks in
    rw (handed_up _ _ c.from_residual.ensures.1) (groups_refused _ _ _ _ _ g c.in_err-row.field-0.0 is more)

pub overflow_cast-groups : goal.overflow_cast-groups
overflow_cast-groups c =
    let v = c.loop-row in
    let g = v.invariant.0 in
    let said = rw c.in-Some.is at (c.in_ok-row.ensures g.taken g.marks) in
    omega (arith, (group_row _ _ g.taken (v.before.0 ∷ v.before.1 ∷ []) _ _ _ g.inside said.row).group)

pub bounds-groups-row : goal.bounds-groups-row
bounds-groups-row c =
    let v = c.loop-row in
    let g = v.invariant.0 in
    let said = rw c.in-Some.is at (c.in_ok-row.ensures g.taken g.marks) in
    let facts = group_row _ _ g.taken (v.before.0 ∷ v.before.1 ∷ []) _ _ _ g.inside said.row in
    omega (arith, said.train, facts.train)

pub loop-row-smaller : goal.loop-row-smaller
loop-row-smaller c =
    let v = c.loop-row in
    let g = v.invariant.0 in
    let said = rw c.in-Some.is at (c.in_ok-row.ensures g.taken g.marks) in
    let facts = group_row _ _ g.taken (v.before.0 ∷ v.before.1 ∷ []) _ _ _ g.inside said.row in
    omega (arith, facts.further, said.row.inside)

pub loop-row-preserved : goal.loop-row-preserved
loop-row-preserved c =
    let g = c.loop-row.invariant.0 in
    let said = rw c.in-Some.is at (c.in_ok-row.ensures g.taken g.marks) in
    (rw said.train (groups_next _ _ _ _ _ g said.row (omega arith)), simp length-set c.loop-row.invariant.1)

pub returns : goal.returns
returns c =
    let g = c.loop-row.invariant.0 in
    groups_done _ _ _ _ _ g (rw c.in_default.is at (c.in_ok-row.ensures g.taken g.marks))
