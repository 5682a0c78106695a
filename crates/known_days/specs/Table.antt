-- P1 to P13 of document 01, its edges and the refusals 8, 11, 12 and 13, days compared with the procedures of document 02's order 1, days
-- with the wagon sets of its order 4, with ties that its order 5 decides, with direct moves, its order 6, and with the weights of its order 8,
-- as one table, and the one theorem that every line holds:
--     every-line : (l : Line) → List.Memᴰ l table → Holds l
-- What a line says is `Holds` of Lines.antt. The checker computes one test over the whole table; `line_holds` turns a line's test into its
-- statement. "The best plan" speaks of every row, through the enumeration of the model's Rows.antt, which is proved complete.
-- Assumes nothing.
use Rattle.std.specs.Prelude.{true, false, ℕ, T, pos, replicate}
use mathlib.Core.List.{List, [], ◌∷◌, ◌++◌, Memᴰ}
use Rattle.fold.specs.Test.{same_list}
use Rattle.fold.specs.Table.{all_pass, all_hold}
use Rattle.fold.specs.Fold
use Rattle.fold.specs.Fold.{sum, count, each, lowest}
use Rattle.sets.specs.Mask.{mask}
use Rattle.model.specs.Model.{Outcome, cost, fitting, grouped, apart, kept, parted, allowed, by_key, slot_total, by_sets, precedes, late_supplier, revisiting, revisits, split_boxes, splits_to, splits, direct_boxes, direct_to, direct, all_boxes, weighed, in_slots, in_window, load, roomy, slot_mask, lower, bound, exceeds, overbooked, in_time, outside_boxes}
use Rattle.model.specs.Rows.{all_rows}
use Rattle.model.specs.Order.{pick}
use Rattle.model.specs.BestOf.{best_of}
use Rattle.model.specs.Overbooked.{first_overbooked, overbooked_from, overbooked_first, overbooked_last}
use Rattle.day.specs.Answer.{Answer, gives, refuses}
use Rattle.day.specs.Sound.{within, head_ranges, train_ranges, shaped, sound, number_before, train_sound, unused, position_sound, group_sound, pair_sound, receiver_sound}
use Rattle.counting.specs.Counting.{figures}
use Rattle.valuing.specs.Valuing.{valued, strays, overfull}
use Rattle.planning.specs.Planning.{planned}
use Rattle.procedures.specs.Procedures.{track_free, waits, suits, earliest, come_to, first_come, waiting_supplier, priority, select, fill_to, served_to, myopic}
use Rattle.comparing.specs.Comparing.{Comparison, against}
use Rattle.baselines.specs.Baselines.{compared}
use Rattle.known_days.specs.Lines.{Line, values, best, later, refused, unkept, has_sum_weights, fewest, accepted, plans, compares, compares_in, Holds, same_outcome, same_int, same_comparison, same_answer, is_row, is_none, is_interval, no_interval, sum_weights, no_fewer, is_fewest, passes, line_holds}
use Rattle.known_days.specs.Days.{move, day_of, open_day, weightless, from_twelve, paired, one_way, fullest, paper_day, three_boxes, numbered, in_groups}

-- ---- the table

abbrev pub saving : Outcome → ℕ → Answer Comparison
saving o saved = gives record { outcome = o; saving = pos saved }

unfoldable pub table : List Line
unfolding day_of open_day weightless from_twelve paired one_way fullest paper_day three_boxes numbered in_groups
table =
    -- P1 to P3, the source's example
    best (paper_day 1 1 1) (2 ∷ 1 ∷ 2 ∷ 1 ∷ []) (figures 1 7 9 8)
    ∷ values (paper_day 1 1 1) (2 ∷ 1 ∷ 2 ∷ 1 ∷ []) (gives (figures 1 7 9 8))
    ∷ values (paper_day 1 1 1) (2 ∷ 1 ∷ 1 ∷ 2 ∷ []) (gives (figures 1 15 1 16))
    ∷ values (paper_day 1 1 1) (1 ∷ 1 ∷ 2 ∷ 2 ∷ []) (gives (figures 1 10 6 11))
    -- P4 weights 0 and 1, P5 weights 0 and 0 as order 5 has it
    ∷ best (paper_day 0 1 1) (2 ∷ 1 ∷ 2 ∷ 1 ∷ []) (figures 1 7 9 7)
    ∷ later (paper_day 0 1 1) (2 ∷ 1 ∷ 2 ∷ 1 ∷ []) (1 ∷ 2 ∷ 1 ∷ 2 ∷ []) 7
    ∷ best (paper_day 0 0 1) (2 ∷ 1 ∷ 2 ∷ 1 ∷ []) (figures 1 7 9 0)
    -- P6 train 4 bound to slot 2, P7 the same with weights 4 and 1
    ∷ best (paper_day 1 1 2) (1 ∷ 2 ∷ 1 ∷ 2 ∷ []) (figures 2 7 9 9)
    ∷ best (paper_day 4 1 2) (1 ∷ 1 ∷ 2 ∷ 2 ∷ []) (figures 1 10 6 14)
    -- P8 one train
    ∷ best (open_day 1 1 1 []) (1 ∷ []) (figures 0 0 0 0)
    -- P9 and P10, overbooked
    ∷ refused (day_of 3 2 2 1 1 (1 ∷ 1 ∷ 1 ∷ []) (1 ∷ 1 ∷ 1 ∷ []) []) 1 1 3
    ∷ refused (open_day 3 1 2 []) 1 2 3
    -- several overbooked: the smallest first slot, and for it the smallest last slot. Of 1..3, 1..4, 2..2, 2..3 and 2..4 (5, 6, 2, 5 and 6
    -- trains on one track); of 1..4, 2..3, 2..4 and 4..4 (5, 3, 5 and 2), where the smallest last, the most overbooked and the shortest
    -- are three others
    ∷ refused (day_of 6 1 4 1 1 (2 ∷ 2 ∷ 2 ∷ 3 ∷ 2 ∷ 2 ∷ []) (3 ∷ 3 ∷ 3 ∷ 4 ∷ 2 ∷ 2 ∷ []) []) 1 3 5
    ∷ refused (day_of 5 1 4 1 1 (2 ∷ 2 ∷ 2 ∷ 4 ∷ 4 ∷ []) (2 ∷ 3 ∷ 3 ∷ 4 ∷ 4 ∷ []) []) 1 4 5
    -- P11 to P13
    ∷ best (open_day 2 1 2 (move 1 2 1 ∷ move 2 1 1 ∷ [])) (2 ∷ 1 ∷ []) (figures 1 2 0 3)
    ∷ best (open_day 2 2 2 (move 1 2 1 ∷ move 2 1 1 ∷ [])) (1 ∷ 1 ∷ []) (figures 0 0 2 0)
    ∷ best (open_day 3 1 3 (move 1 2 1 ∷ [])) (3 ∷ 2 ∷ 1 ∷ []) (figures 0 1 0 1)
    -- order 5, each key before the next. Fewer revisits, though the sum of slot numbers is larger and the set number of slot 1 smaller; a
    -- smaller sum, though that set number is smaller (3 and 4), also with groups, and though each slot is served in both rows; set
    -- numbers, where the three are equal. Cost before revisits: P6, whose row has two where one of cost 11 has one
    ∷ best (day_of 2 1 3 0 0 (1 ∷ 2 ∷ []) (3 ∷ 2 ∷ []) (move 1 2 1 ∷ [])) (3 ∷ 2 ∷ []) (figures 0 1 0 0)
    ∷ later (day_of 2 1 3 0 0 (1 ∷ 2 ∷ []) (3 ∷ 2 ∷ []) (move 1 2 1 ∷ [])) (3 ∷ 2 ∷ []) (1 ∷ 2 ∷ []) 0
    ∷ best (open_day 3 2 2 (move 1 2 1 ∷ [])) (1 ∷ 1 ∷ 2 ∷ []) (figures 0 0 1 0)
    ∷ later (open_day 3 2 2 (move 1 2 1 ∷ [])) (1 ∷ 1 ∷ 2 ∷ []) (2 ∷ 2 ∷ 1 ∷ []) 0
    ∷ best (in_groups (1 ∷ 1 ∷ 0 ∷ []) (open_day 3 2 2 [])) (1 ∷ 1 ∷ 2 ∷ []) (figures 0 0 0 0)
    ∷ later (open_day 3 1 3 (move 1 2 1 ∷ [])) (3 ∷ 2 ∷ 1 ∷ []) (3 ∷ 1 ∷ 2 ∷ []) 1
    -- one revisit less before 83 less in the sum; 7 revisits before 8, 10 before 11; sums of 88 before 89, 63 before 64
    ∷ later (weightless 12 12 8 (move 1 2 1 ∷ [])) (replicate 12 8) (1 ∷ 2 ∷ replicate 10 1) 0
    ∷ later (weightless 12 12 2 from_twelve) (replicate 7 1 ++ replicate 5 2) (replicate 8 1 ++ replicate 4 2) 0
    ∷ later (weightless 12 12 2 from_twelve) (replicate 10 1 ++ replicate 2 2) (replicate 11 1 ++ replicate 1 2) 0
    ∷ later (open_day 12 12 8 []) (2 ∷ replicate 10 8 ++ (6 ∷ [])) (1 ∷ replicate 11 8) 0
    ∷ later (open_day 10 10 8 []) (2 ∷ replicate 8 7 ++ (5 ∷ [])) (1 ∷ replicate 9 7) 0
    -- the sum itself: 3 1 and 2 2 are equal; set numbers of slots 7 and 8 and of positions 11 and 12
    ∷ later (open_day 2 2 3 []) (3 ∷ 1 ∷ []) (2 ∷ 2 ∷ []) 0
    ∷ later (open_day 12 12 8 []) (replicate 10 1 ++ (8 ∷ 7 ∷ [])) (replicate 10 1 ++ (7 ∷ 8 ∷ [])) 0
    -- where a revisit is as dear as a box, and with groups, fewer revisits; a revisit for several suppliers is one, and its return adds
    -- nothing to the sum; split moves are no key; a sum that decides where the plan has a cost and a revisit
    ∷ best (day_of 4 2 3 1 1 (2 ∷ 1 ∷ 1 ∷ 2 ∷ []) (2 ∷ 3 ∷ 1 ∷ 2 ∷ []) (move 2 1 1 ∷ move 2 3 1 ∷ [])) (2 ∷ 3 ∷ 1 ∷ 2 ∷ []) (figures 0 2 0 2)
    ∷ best (in_groups (1 ∷ 1 ∷ 0 ∷ 0 ∷ []) (paper_day 0 0 1)) (1 ∷ 1 ∷ 2 ∷ 2 ∷ []) (figures 1 10 6 0)
    ∷ best (day_of 3 1 3 0 0 (replicate 3 1) (3 ∷ 3 ∷ 2 ∷ []) (move 3 1 1 ∷ move 3 2 1 ∷ [])) (3 ∷ 2 ∷ 1 ∷ []) (figures 1 2 0 0)
    ∷ best (day_of 3 1 3 1 1 (2 ∷ 1 ∷ 2 ∷ []) (3 ∷ 1 ∷ 3 ∷ []) (move 2 1 2 ∷ [])) (3 ∷ 1 ∷ 2 ∷ []) (figures 1 2 0 3)
    ∷ best (day_of 3 2 2 1 0 (replicate 3 1) (2 ∷ 2 ∷ 1 ∷ []) (move 2 1 5 ∷ [])) (1 ∷ 2 ∷ 1 ∷ []) (figures 0 5 0 0)
    ∷ best (day_of 4 3 2 2 1 (replicate 4 1) (2 ∷ 2 ∷ 2 ∷ 1 ∷ []) (move 1 2 1 ∷ move 2 1 2 ∷ move 4 1 2 ∷ move 4 3 2 ∷ [])) (1 ∷ 1 ∷ 2 ∷ 1 ∷ []) (figures 1 2 5 4)
    -- order 6, direct moves: between all trains of a slot, not those next to each other in the file alone, in both directions, by their boxes;
    -- the boxes between the trains 1 2, 1 3, .. are 1, 2, 4, .., so each pair has its place in the sum. In one slot, in two, each alone; and the
    -- greatest number
    ∷ values (open_day 4 4 4 paired) (replicate 4 3) (gives (figures 0 0 255 0))
    ∷ values (open_day 4 4 4 paired) (1 ∷ 2 ∷ 1 ∷ 2 ∷ []) (gives (figures 2 77 178 79))
    ∷ values (open_day 4 4 4 paired) (4 ∷ 4 ∷ 4 ∷ 1 ∷ []) (gives (figures 1 212 43 213))
    ∷ values (open_day 4 4 4 paired) (1 ∷ 2 ∷ 3 ∷ 4 ∷ []) (gives (figures 3 255 0 258))
    ∷ values (open_day 12 12 8 fullest) (replicate 12 8) (gives (figures 0 0 33660 0))
    -- boxes one way between all trains, of twelve, of eleven and of five in two groups
    ∷ values (open_day 12 12 8 (one_way 12)) (1 ∷ 2 ∷ 3 ∷ 4 ∷ 5 ∷ 6 ∷ 7 ∷ 8 ∷ 8 ∷ 7 ∷ 6 ∷ 5 ∷ []) (gives (figures 3 5876 482 5879))
    ∷ values (open_day 11 11 8 (one_way 11)) (7 ∷ 7 ∷ 7 ∷ 5 ∷ 5 ∷ 5 ∷ 6 ∷ 6 ∷ 6 ∷ 8 ∷ 8 ∷ []) (gives (figures 6 4167 673 4173))
    ∷ values (in_groups (1 ∷ 1 ∷ 2 ∷ 2 ∷ 0 ∷ []) (open_day 5 5 1 (one_way 5))) (replicate 5 1) (gives (figures 0 0 380 0))
    -- order 8, fewest revisits, then fewest split moves. P1's 16 boxes: the weights 16 and 1, and not 15, nor 2 for a split move; with a group
    -- the same, and twelve trains without boxes and with all that there can be. Planned, the plan of P1 has the fewest. With train 4 bound to slot 2 the fewest revisits are one less than in P6, for three split moves more; with
    -- groups, of the rows that keep them; without boxes the weights are 0 and 1
    ∷ has_sum_weights (paper_day 16 1 1) true
    ∷ has_sum_weights (paper_day 15 1 1) false
    ∷ has_sum_weights (paper_day 16 2 1) false
    ∷ has_sum_weights (in_groups (1 ∷ 0 ∷ 0 ∷ 1 ∷ []) (paper_day 16 1 1)) true
    ∷ has_sum_weights (day_of 12 12 8 0 1 (replicate 12 1) (replicate 12 8) []) true
    ∷ has_sum_weights (day_of 12 12 8 33660 1 (replicate 12 1) (replicate 12 8) fullest) true
    ∷ plans (paper_day 16 1 1) 16 32 4 (gives (figures 1 7 9 23))
    ∷ best (paper_day 16 1 1) (2 ∷ 1 ∷ 2 ∷ 1 ∷ []) (figures 1 7 9 23)
    ∷ fewest (paper_day 16 1 1) (2 ∷ 1 ∷ 2 ∷ 1 ∷ []) 1 7
    ∷ best (paper_day 16 1 2) (1 ∷ 1 ∷ 2 ∷ 2 ∷ []) (figures 1 10 6 26)
    ∷ fewest (paper_day 16 1 2) (1 ∷ 1 ∷ 2 ∷ 2 ∷ []) 1 10
    ∷ best (in_groups (1 ∷ 0 ∷ 0 ∷ 1 ∷ []) (paper_day 16 1 1)) (1 ∷ 2 ∷ 2 ∷ 1 ∷ []) (figures 1 15 1 31)
    ∷ fewest (in_groups (1 ∷ 0 ∷ 0 ∷ 1 ∷ []) (paper_day 16 1 1)) (1 ∷ 2 ∷ 2 ∷ 1 ∷ []) 1 15
    ∷ has_sum_weights (day_of 2 1 2 0 1 (replicate 2 1) (replicate 2 2) []) true
    ∷ best (day_of 2 1 2 0 1 (replicate 2 1) (replicate 2 2) []) (2 ∷ 1 ∷ []) (figures 0 0 0 0)
    ∷ fewest (day_of 2 1 2 0 1 (replicate 2 1) (replicate 2 2) []) (2 ∷ 1 ∷ []) 0 0
    -- how great the weight has to be, on a day of three boxes with two allowed rows: from 3 on the row without a revisit is the cheaper one; at
    -- 2 both cost 3, and order 5 puts it first; at 1 the plan is the other one, though it has a revisit
    ∷ has_sum_weights (three_boxes 3) true
    ∷ best (three_boxes 3) (2 ∷ 2 ∷ 1 ∷ 1 ∷ []) (figures 0 3 0 3)
    ∷ best (three_boxes 2) (2 ∷ 2 ∷ 1 ∷ 1 ∷ []) (figures 0 3 0 3)
    ∷ later (three_boxes 2) (2 ∷ 2 ∷ 1 ∷ 1 ∷ []) (2 ∷ 1 ∷ 2 ∷ 1 ∷ []) 3
    ∷ best (three_boxes 1) (2 ∷ 1 ∷ 2 ∷ 1 ∷ []) (figures 1 1 2 2)
    ∷ fewest (three_boxes 1) (2 ∷ 2 ∷ 1 ∷ 1 ∷ []) 0 3
    -- the limits of the head on both sides: trains and tracks 1 and 12, 0 and 13; slots 1 and 8, 0 and 9; weights 0 and 65535, 65536
    ∷ accepted (open_day 12 12 8 []) true
    ∷ accepted (open_day 1 1 1 []) true
    ∷ accepted (day_of 13 12 8 1 1 (replicate 12 1) (replicate 12 8) []) false
    ∷ accepted (open_day 0 1 1 []) false
    ∷ accepted (open_day 2 13 1 []) false
    ∷ accepted (open_day 2 0 1 []) false
    ∷ accepted (open_day 2 1 9 []) false
    ∷ accepted (open_day 2 1 0 []) false
    ∷ accepted (paper_day 0 0 1) true
    ∷ accepted (paper_day 65535 65535 1) true
    ∷ accepted (paper_day 65536 1 1) false
    ∷ accepted (paper_day 1 65536 1) false
    -- G trains in a slot and G + 1
    ∷ values (open_day 4 2 2 []) (1 ∷ 1 ∷ 2 ∷ 2 ∷ []) (gives (figures 0 0 0 0))
    ∷ values (open_day 4 2 2 []) (1 ∷ 1 ∷ 1 ∷ 2 ∷ []) (refuses 13 (1 ∷ []))
    -- windows: first and last 1 and T, 0 and T + 1, reversed
    ∷ accepted (day_of 2 1 2 1 1 (1 ∷ 2 ∷ []) (1 ∷ 2 ∷ []) []) true
    ∷ accepted (day_of 1 1 2 1 1 (0 ∷ []) (2 ∷ []) []) false
    ∷ accepted (day_of 1 1 2 1 1 (3 ∷ []) (3 ∷ []) []) false
    ∷ accepted (day_of 1 1 2 1 1 (1 ∷ []) (0 ∷ []) []) false
    ∷ accepted (day_of 1 1 2 1 1 (1 ∷ []) (3 ∷ []) []) false
    ∷ accepted (day_of 1 1 2 1 1 (2 ∷ []) (1 ∷ []) []) false
    -- unused positions hold 0: first and last slots, train numbers, boxes to and from
    ∷ accepted (day_of 1 1 2 1 1 (1 ∷ 1 ∷ []) (2 ∷ []) []) false
    ∷ accepted (day_of 1 1 2 1 1 (1 ∷ []) (2 ∷ 1 ∷ []) []) false
    ∷ accepted (numbered (1 ∷ 2 ∷ 3 ∷ []) []) false
    ∷ accepted (open_day 2 1 2 (move 3 1 1 ∷ [])) false
    ∷ accepted (open_day 2 1 2 (move 1 3 1 ∷ [])) false
    -- boxes: from a train to itself, 255 and 256; train numbers: 1 and 99,999, 0 and 100,000, not rising
    ∷ accepted (open_day 2 1 2 (move 2 2 1 ∷ [])) false
    ∷ accepted (open_day 2 1 2 (move 1 2 255 ∷ [])) true
    ∷ accepted (open_day 2 1 2 (move 1 2 256 ∷ [])) false
    ∷ accepted (numbered (255 ∷ 256 ∷ []) []) true
    ∷ accepted (numbered (65535 ∷ 65536 ∷ []) []) true
    ∷ accepted (numbered (1 ∷ 99999 ∷ []) []) true
    ∷ accepted (numbered (1 ∷ 100000 ∷ []) []) false
    ∷ accepted (numbered (3 ∷ 3 ∷ []) []) false
    ∷ accepted (numbered (3 ∷ 2 ∷ []) []) false
    ∷ accepted (numbered (0 ∷ 2 ∷ []) []) false
    -- refusals 8, 11, 12, 13 in this order, with the lowest position and the lowest slot
    ∷ values (day_of 13 12 8 1 1 (replicate 12 1) (replicate 12 8) []) (1 ∷ []) (refuses 8 (0 ∷ []))
    ∷ values (paper_day 65536 1 1) (0 ∷ 1 ∷ []) (refuses 8 (0 ∷ []))
    ∷ values (paper_day 1 1 1) (2 ∷ 1 ∷ 2 ∷ []) (refuses 11 (0 ∷ []))
    ∷ values (paper_day 1 1 1) (2 ∷ 1 ∷ 2 ∷ 1 ∷ 1 ∷ []) (refuses 11 (0 ∷ []))
    ∷ values (paper_day 1 1 1) (0 ∷ 0 ∷ 0 ∷ []) (refuses 11 (0 ∷ []))
    ∷ values (paper_day 1 1 1) (2 ∷ 0 ∷ 2 ∷ 3 ∷ []) (refuses 12 (2 ∷ []))
    ∷ values (paper_day 1 1 2) (1 ∷ 1 ∷ 1 ∷ 1 ∷ []) (refuses 12 (4 ∷ []))
    ∷ values (paper_day 1 1 1) (1 ∷ 2 ∷ 2 ∷ 2 ∷ []) (refuses 13 (2 ∷ []))
    ∷ values (open_day 4 1 2 []) (1 ∷ 1 ∷ 2 ∷ 2 ∷ []) (refuses 13 (1 ∷ []))
    -- planning lent 2^n words, T × 2^n words and n bytes, each one short, and more; 8 before 10, 10 before 9
    ∷ plans (paper_day 1 1 1) 16 32 4 (gives (figures 1 7 9 8))
    ∷ plans (paper_day 1 1 1) 15 32 4 (refuses 10 (0 ∷ []))
    ∷ plans (paper_day 1 1 1) 16 31 4 (refuses 10 (0 ∷ []))
    ∷ plans (paper_day 1 1 1) 16 32 3 (refuses 10 (0 ∷ []))
    ∷ plans (paper_day 1 1 1) 4096 32768 12 (gives (figures 1 7 9 8))
    ∷ plans (paper_day 65536 1 1) 0 0 0 (refuses 8 (0 ∷ []))
    ∷ plans (open_day 3 1 2 []) 8 16 3 (refuses 9 (1 ∷ 2 ∷ 3 ∷ []))
    ∷ plans (open_day 3 1 2 []) 7 16 3 (refuses 10 (0 ∷ []))
    -- wagon sets: of trains that follow each other in the file and of others, with gaps in the numbers; a set of one binds nothing
    ∷ best (in_groups (1 ∷ 1 ∷ 0 ∷ 0 ∷ []) (paper_day 1 1 1)) (1 ∷ 1 ∷ 2 ∷ 2 ∷ []) (figures 1 10 6 11)
    ∷ best (in_groups (1 ∷ 0 ∷ 0 ∷ 1 ∷ []) (paper_day 1 1 1)) (1 ∷ 2 ∷ 2 ∷ 1 ∷ []) (figures 1 15 1 16)
    ∷ best (in_groups (3 ∷ 12 ∷ 12 ∷ 3 ∷ []) (paper_day 1 1 1)) (1 ∷ 2 ∷ 2 ∷ 1 ∷ []) (figures 1 15 1 16)
    ∷ best (in_groups (5 ∷ 0 ∷ 0 ∷ 0 ∷ []) (paper_day 1 1 1)) (2 ∷ 1 ∷ 2 ∷ 1 ∷ []) (figures 1 7 9 8)
    -- a set of more trains than tracks; one whose windows share no slot; one that shares a slot with one track: 16, after 10
    ∷ unkept (in_groups (1 ∷ 1 ∷ 1 ∷ []) (open_day 3 2 2 []))
    ∷ unkept (in_groups (1 ∷ 1 ∷ []) (day_of 2 2 2 1 1 (1 ∷ 2 ∷ []) (1 ∷ 2 ∷ []) []))
    ∷ unkept (in_groups (1 ∷ 1 ∷ []) (day_of 2 1 3 1 1 (1 ∷ 2 ∷ []) (2 ∷ 3 ∷ []) []))
    ∷ plans (in_groups (1 ∷ 1 ∷ 1 ∷ []) (open_day 3 2 2 [])) 8 16 3 (refuses 16 (0 ∷ []))
    ∷ plans (in_groups (1 ∷ 1 ∷ 1 ∷ []) (open_day 3 2 2 [])) 7 16 3 (refuses 10 (0 ∷ []))
    -- 9 where a stretch is overbooked, whatever the groups
    ∷ refused (in_groups (1 ∷ 1 ∷ 1 ∷ []) (open_day 3 1 2 [])) 1 2 3
    ∷ plans (in_groups (1 ∷ 1 ∷ 1 ∷ []) (open_day 3 1 2 [])) 8 16 3 (refuses 9 (1 ∷ 2 ∷ 3 ∷ []))
    -- 17 with the lowest parted group, after 11, 12 and 13; a group that is kept is passed over, and trains in none are no group
    ∷ values (in_groups (7 ∷ 3 ∷ 7 ∷ 3 ∷ []) (paper_day 1 1 1)) (1 ∷ 1 ∷ 2 ∷ 2 ∷ []) (refuses 17 (3 ∷ []))
    ∷ values (in_groups (7 ∷ 3 ∷ 7 ∷ 3 ∷ []) (paper_day 1 1 1)) (1 ∷ 1 ∷ 2 ∷ []) (refuses 11 (0 ∷ []))
    ∷ values (in_groups (7 ∷ 3 ∷ 7 ∷ 3 ∷ []) (paper_day 1 1 1)) (1 ∷ 1 ∷ 2 ∷ 3 ∷ []) (refuses 12 (4 ∷ []))
    ∷ values (in_groups (7 ∷ 3 ∷ 7 ∷ 3 ∷ []) (paper_day 1 1 1)) (1 ∷ 2 ∷ 2 ∷ 2 ∷ []) (refuses 13 (2 ∷ []))
    ∷ values (in_groups (1 ∷ 1 ∷ 12 ∷ 12 ∷ []) (open_day 4 2 3 [])) (1 ∷ 1 ∷ 2 ∷ 3 ∷ []) (refuses 17 (12 ∷ []))
    ∷ values (in_groups (0 ∷ 0 ∷ 1 ∷ 1 ∷ []) (open_day 4 2 3 [])) (1 ∷ 2 ∷ 3 ∷ 3 ∷ []) (gives (figures 0 0 0 0))
    -- whichever of the groups has the first or the last member in the file; a set of all trains; 8 where a group alone is unsound
    ∷ values (in_groups (7 ∷ 3 ∷ 3 ∷ 7 ∷ []) (paper_day 1 1 1)) (1 ∷ 1 ∷ 2 ∷ 2 ∷ []) (refuses 17 (3 ∷ []))
    ∷ values (in_groups (3 ∷ 7 ∷ 7 ∷ 3 ∷ []) (paper_day 1 1 1)) (1 ∷ 1 ∷ 2 ∷ 2 ∷ []) (refuses 17 (3 ∷ []))
    ∷ values (in_groups (replicate 12 3) (open_day 12 12 2 [])) (1 ∷ 1 ∷ 1 ∷ 1 ∷ 1 ∷ 1 ∷ 1 ∷ 1 ∷ 1 ∷ 1 ∷ 1 ∷ 2 ∷ []) (refuses 17 (3 ∷ []))
    ∷ values (in_groups (13 ∷ 0 ∷ []) (open_day 2 1 2 [])) (1 ∷ []) (refuses 8 (0 ∷ []))
    ∷ values (in_groups (13 ∷ 13 ∷ []) (open_day 2 1 2 [])) (1 ∷ 2 ∷ []) (refuses 8 (0 ∷ []))
    -- nor at the windows that a group's trains share
    ∷ compares first_come (in_groups (1 ∷ 1 ∷ []) (day_of 2 2 2 1 1 (2 ∷ 1 ∷ []) (2 ∷ 2 ∷ []) [])) (2 ∷ 1 ∷ []) (refuses 14 (0 ∷ []))
    ∷ compares myopic (in_groups (1 ∷ 1 ∷ []) (day_of 2 2 2 1 1 (2 ∷ 1 ∷ []) (2 ∷ 2 ∷ []) [])) (2 ∷ 1 ∷ []) (refuses 14 (0 ∷ []))
    ∷ compares myopic (in_groups (1 ∷ 0 ∷ 1 ∷ []) (open_day 3 2 2 [])) (1 ∷ 1 ∷ 2 ∷ []) (refuses 14 (0 ∷ []))
    -- group numbers up to 12, and none where no train is
    ∷ accepted (in_groups (12 ∷ 0 ∷ []) (open_day 2 1 2 [])) true
    ∷ accepted (in_groups (13 ∷ 0 ∷ []) (open_day 2 1 2 [])) false
    ∷ accepted (in_groups (0 ∷ 0 ∷ 1 ∷ []) (open_day 2 1 2 [])) false
    -- the procedures do not look at groups: 16 before 14, 14 with a position before 14 with 0, and numbers where the row keeps them
    ∷ compares first_come (in_groups (1 ∷ 1 ∷ 1 ∷ []) (open_day 3 2 2 [])) (1 ∷ 1 ∷ 2 ∷ []) (refuses 16 (0 ∷ []))
    ∷ compares first_come (in_groups (1 ∷ 0 ∷ 1 ∷ []) (day_of 3 2 2 1 1 (1 ∷ 1 ∷ 1 ∷ []) (2 ∷ 2 ∷ 1 ∷ []) [])) (1 ∷ 1 ∷ 0 ∷ []) (refuses 14 (3 ∷ []))
    ∷ compares first_come (in_groups (0 ∷ 1 ∷ 1 ∷ []) (open_day 3 2 2 [])) (1 ∷ 1 ∷ 2 ∷ []) (refuses 14 (0 ∷ []))
    ∷ compares myopic (in_groups (0 ∷ 1 ∷ 1 ∷ []) (open_day 3 2 2 [])) (1 ∷ 1 ∷ 2 ∷ []) (refuses 14 (0 ∷ []))
    ∷ compares myopic (in_groups (1 ∷ 1 ∷ 0 ∷ []) (open_day 3 2 2 [])) (1 ∷ 1 ∷ 2 ∷ []) (saving (figures 0 0 0 0) 0)
    -- comparing lent the same two areas: 8 before 10, 10 before 9, 9 before 14 (the next lines but three)
    ∷ compares_in 16 32 first_come (paper_day 1 1 1) (saving (figures 1 10 6 11) 3)
    ∷ compares_in 15 32 first_come (paper_day 1 1 1) (refuses 10 (0 ∷ []))
    ∷ compares_in 16 31 myopic (paper_day 1 1 1) (refuses 10 (0 ∷ []))
    ∷ compares_in 0 0 myopic (paper_day 65536 1 1) (refuses 8 (0 ∷ []))
    ∷ compares_in 7 16 first_come (open_day 3 1 2 []) (refuses 10 (0 ∷ []))
    -- P1 and P9 compared: both procedures give P3's row, and 9 comes before 14
    ∷ compares first_come (paper_day 1 1 1) (1 ∷ 1 ∷ 2 ∷ 2 ∷ []) (saving (figures 1 10 6 11) 3)
    ∷ compares myopic (paper_day 1 1 1) (1 ∷ 1 ∷ 2 ∷ 2 ∷ []) (saving (figures 1 10 6 11) 3)
    ∷ compares first_come (day_of 3 2 2 1 1 (1 ∷ 1 ∷ 1 ∷ []) (1 ∷ 1 ∷ 1 ∷ []) []) (1 ∷ 1 ∷ 0 ∷ []) (refuses 9 (1 ∷ 1 ∷ 3 ∷ []))
    ∷ compares myopic (day_of 3 2 2 1 1 (1 ∷ 1 ∷ 1 ∷ []) (1 ∷ 1 ∷ 1 ∷ []) []) (1 ∷ 1 ∷ 0 ∷ []) (refuses 9 (1 ∷ 1 ∷ 3 ∷ []))
    -- one procedure leaves a train over and the other does not
    ∷ compares first_come (day_of 2 1 2 1 1 (1 ∷ 1 ∷ []) (2 ∷ 1 ∷ []) (move 1 2 1 ∷ [])) (1 ∷ 0 ∷ []) (refuses 14 (2 ∷ []))
    ∷ compares myopic (day_of 2 1 2 1 1 (1 ∷ 1 ∷ []) (2 ∷ 1 ∷ []) (move 1 2 1 ∷ [])) (2 ∷ 1 ∷ []) (saving (figures 0 1 0 1) 0)
    ∷ compares first_come (day_of 2 1 2 1 1 (1 ∷ 1 ∷ []) (1 ∷ 2 ∷ []) (move 1 2 1 ∷ [])) (1 ∷ 2 ∷ []) (saving (figures 1 1 0 2) 0)
    ∷ compares myopic (day_of 2 1 2 1 1 (1 ∷ 1 ∷ []) (1 ∷ 2 ∷ []) (move 1 2 1 ∷ [])) (0 ∷ 1 ∷ []) (refuses 14 (1 ∷ []))
    -- both cost more than the plan, each its own
    ∷ compares first_come (open_day 3 2 2 (move 2 3 1 ∷ [])) (1 ∷ 1 ∷ 2 ∷ []) (saving (figures 1 1 0 2) 2)
    ∷ compares myopic (open_day 3 2 2 (move 2 3 1 ∷ [])) (1 ∷ 2 ∷ 1 ∷ []) (saving (figures 0 1 0 1) 1)
    -- (11) figures boxes from earlier slots: without them, as in the source's Table 2, the row would be 1 2 3
    ∷ compares myopic (open_day 3 1 3 (move 2 1 1 ∷ [])) (1 ∷ 3 ∷ 2 ∷ []) (saving (figures 0 1 0 1) 0)
    -- train 4 waits still when its window has passed, and train 2 pays for it in slot 2
    ∷ compares myopic (day_of 4 1 4 1 1 (1 ∷ 2 ∷ 1 ∷ 1 ∷ []) (3 ∷ 4 ∷ 2 ∷ 1 ∷ []) (move 2 4 1 ∷ move 3 1 1 ∷ [])) (1 ∷ 3 ∷ 2 ∷ 0 ∷ []) (refuses 14 (4 ∷ []))
    -- (11) with weights of its own: exchanged, each taken for 1 or left out, a revisit for each waiting supplier, suppliers counted for
    -- boxes, boxes sent for boxes received, the boxes of earlier slots or of waiting trains left out, each gives another row
    ∷ compares myopic (day_of 4 1 4 5 2 (replicate 4 1) (replicate 4 4) (move 1 2 1 ∷ move 2 3 1 ∷ move 2 4 1 ∷ move 3 4 4 ∷ move 4 1 5 ∷ [])) (1 ∷ 2 ∷ 4 ∷ 3 ∷ []) (saving (figures 2 12 0 34) 5)
    -- (11) leaves out the boxes and the suppliers of the slot itself, and of equal trains the lowest position is taken
    ∷ compares myopic (day_of 3 2 3 1 3 (replicate 3 1) (replicate 3 3) (move 2 1 4 ∷ [])) (1 ∷ 1 ∷ 2 ∷ []) (saving (figures 0 0 4 0) 0)
    ∷ []
