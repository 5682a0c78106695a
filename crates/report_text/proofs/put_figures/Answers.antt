-- `report_text::put_figures` meets its contract. The four figures, the names line of the savings and their row, one after the other.
-- ---- the places: the start, seen from the place after the first figure; that place, seen from the one after the next; and so on
use Prim.Native.Nat.{◌+◌, ◌≤◌}
use native.Mathlib.Omega.{arith}
use lib.ListN.{length}
use Rattle.decimal.specs.PlaceLaws.{put_text}
use Rattle.output.specs.Laws.{names_fit}
use Rattle.report_text.specs.ReportText.{revisit_names, split_names, direct_names, box_names, saving_names}
use Rattle.report_text.specs.Laws.{revisit_lines, split_lines, direct_lines, box_lines, saving_lines, from_boxes, from_direct, from_splits, room_left}
use Rattle.report_text.proofs.put_figures.Goals as goal

pub put_figure-splits-requires : goal.put_figure-splits-requires
unfolding revisit_names split_names direct_names box_names saving_names
put_figure-splits-requires c =
    let a = c.args in
    omega (arith, names_fit (revisit_lines a.totals a.means) (from_splits a.totals a.means), c.requires)

pub put_figure-direct-requires : goal.put_figure-direct-requires
unfolding revisit_names split_names direct_names box_names saving_names
put_figure-direct-requires c =
    let room-splits : let a = c.args in c.put_figure-splits.result + length (from_splits a.totals a.means) ≤ length c.put_figure-splits.new.out =
    let a = c.args in
    room_left (revisit_lines a.totals a.means) (from_splits a.totals a.means) c.requires c.put_figure-splits.ensures c.put_figure-splits.auto.out in
    let a = c.args in
    omega (arith, names_fit (split_lines a.totals a.means) (from_direct a.totals a.means), room-splits)

pub put_figure-boxes-requires : goal.put_figure-boxes-requires
unfolding revisit_names split_names direct_names box_names saving_names
put_figure-boxes-requires c =
    let room-splits : let a = c.args in c.put_figure-splits.result + length (from_splits a.totals a.means) ≤ length c.put_figure-splits.new.out =
    let a = c.args in
    room_left (revisit_lines a.totals a.means) (from_splits a.totals a.means) c.requires c.put_figure-splits.ensures c.put_figure-splits.auto.out in
    let room-direct : let a = c.args in c.put_figure-direct.result + length (from_direct a.totals a.means) ≤ length c.put_figure-direct.new.out =
    let a = c.args in
    room_left (split_lines a.totals a.means) (from_direct a.totals a.means) room-splits c.put_figure-direct.ensures c.put_figure-direct.auto.out in
    let a = c.args in
    omega (arith, names_fit (direct_lines a.totals a.means) (from_boxes a.totals a.means), room-direct)

pub put_figure-savings-requires : goal.put_figure-savings-requires
unfolding revisit_names split_names direct_names box_names saving_names
put_figure-savings-requires c =
    let room-splits : let a = c.args in c.put_figure-splits.result + length (from_splits a.totals a.means) ≤ length c.put_figure-splits.new.out =
    let a = c.args in
    room_left (revisit_lines a.totals a.means) (from_splits a.totals a.means) c.requires c.put_figure-splits.ensures c.put_figure-splits.auto.out in
    let room-direct : let a = c.args in c.put_figure-direct.result + length (from_direct a.totals a.means) ≤ length c.put_figure-direct.new.out =
    let a = c.args in
    room_left (split_lines a.totals a.means) (from_direct a.totals a.means) room-splits c.put_figure-direct.ensures c.put_figure-direct.auto.out in
    let room-boxes : let a = c.args in c.put_figure-boxes.result + length (from_boxes a.totals a.means) ≤ length c.put_figure-boxes.new.out =
    let a = c.args in
    room_left (direct_lines a.totals a.means) (from_boxes a.totals a.means) room-direct c.put_figure-boxes.ensures c.put_figure-boxes.auto.out in
    let a = c.args in
    omega (arith, names_fit (box_lines a.totals a.means) (saving_lines a.totals), room-boxes)

pub put_bytes-row-requires : goal.put_bytes-row-requires
unfolding revisit_names split_names direct_names box_names saving_names
put_bytes-row-requires c =
    let room-splits : let a = c.args in c.put_figure-splits.result + length (from_splits a.totals a.means) ≤ length c.put_figure-splits.new.out =
    let a = c.args in
    room_left (revisit_lines a.totals a.means) (from_splits a.totals a.means) c.requires c.put_figure-splits.ensures c.put_figure-splits.auto.out in
    let room-direct : let a = c.args in c.put_figure-direct.result + length (from_direct a.totals a.means) ≤ length c.put_figure-direct.new.out =
    let a = c.args in
    room_left (split_lines a.totals a.means) (from_direct a.totals a.means) room-splits c.put_figure-direct.ensures c.put_figure-direct.auto.out in
    let room-boxes : let a = c.args in c.put_figure-boxes.result + length (from_boxes a.totals a.means) ≤ length c.put_figure-boxes.new.out =
    let a = c.args in
    room_left (direct_lines a.totals a.means) (from_boxes a.totals a.means) room-direct c.put_figure-boxes.ensures c.put_figure-boxes.auto.out in
    let room-savings : let a = c.args in c.put_figure-savings.result + length (saving_lines a.totals) ≤ length c.put_figure-savings.new.out =
    let a = c.args in
    room_left (box_lines a.totals a.means) (saving_lines a.totals) room-boxes c.put_figure-savings.ensures c.put_figure-savings.auto.out in
    omega (arith, room-savings)

pub put_row-requires : goal.put_row-requires
unfolding revisit_names split_names direct_names box_names saving_names
put_row-requires c =
    let room-splits : let a = c.args in c.put_figure-splits.result + length (from_splits a.totals a.means) ≤ length c.put_figure-splits.new.out =
    let a = c.args in
    room_left (revisit_lines a.totals a.means) (from_splits a.totals a.means) c.requires c.put_figure-splits.ensures c.put_figure-splits.auto.out in
    let room-direct : let a = c.args in c.put_figure-direct.result + length (from_direct a.totals a.means) ≤ length c.put_figure-direct.new.out =
    let a = c.args in
    room_left (split_lines a.totals a.means) (from_direct a.totals a.means) room-splits c.put_figure-direct.ensures c.put_figure-direct.auto.out in
    let room-boxes : let a = c.args in c.put_figure-boxes.result + length (from_boxes a.totals a.means) ≤ length c.put_figure-boxes.new.out =
    let a = c.args in
    room_left (direct_lines a.totals a.means) (from_boxes a.totals a.means) room-direct c.put_figure-boxes.ensures c.put_figure-boxes.auto.out in
    let room-savings : let a = c.args in c.put_figure-savings.result + length (saving_lines a.totals) ≤ length c.put_figure-savings.new.out =
    let a = c.args in
    room_left (box_lines a.totals a.means) (saving_lines a.totals) room-boxes c.put_figure-savings.ensures c.put_figure-savings.auto.out in
    omega (arith, room-savings, c.put_bytes-row.ensures.next, c.put_bytes-row.auto.out)

pub returns : goal.returns
unfolding revisit_names split_names direct_names box_names saving_names
returns c =
    put_text c.put_figure-splits.ensures (put_text c.put_figure-direct.ensures (put_text c.put_figure-boxes.ensures (put_text c.put_figure-savings.ensures (put_text c.put_bytes-row.ensures c.put_row.ensures))))
