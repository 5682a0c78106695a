-- Each section was read, or its refusal is the answer's, by the laws of specs/Whole.antt.
use Rattle.std.proofs.Common.{◌≡◌, ℕ, List, length, replicate, take, ◌≤◌, ap, ◌∙◌, arith, length-take, length-take-le}
use Rattle.std.proofs.lemmas.List.{length-replicate}
use Rattle.day_rows.specs.Joined.{handed_up}
use Rattle.day_trains.specs.Trains.{trains_into}
use Rattle.dayread.specs.Whole.{head_limits, head_stops, trains_stop, rest_stops, day_read}
use Rattle.dayread.proofs.read_file.Goals as goal

-- a column of zeros is as long as it says
zeros : (n : ℕ) (x : List ℕ) → x ≡ replicate n 0 → length x ≡ n
zeros n x e = ap length e ∙ length-replicate n 0

pub returns-in_err-head : goal.returns-in_err-head
returns-in_err-head c = rw (handed_up _ _ c.from_residual.ensures.1) (head_stops c.args.l c.args.text.now c.in_err-head.field-0.0 c.in_err-head.ensures)

pub read_trains-requires : goal.read_trains-requires
read_trains-requires c =
    let p = c.requires.1 in
    let a = c.args in
    let n = a.l.trains in
    let limits = head_limits a.l _ _ c.in_ok-head.ensures in
    let one = zeros n a.numbers.now p.0 in
    let two = zeros n a.first.now p.1.0 in
    let three = zeros n a.last.now p.1.1.0 in
    (omega arith, (omega (arith, limits.trains, one), (omega (arith, limits.trains, two), omega (arith, limits.trains, three))))

pub returns-in_err-at : goal.returns-in_err-at
returns-in_err-at c =
    rw (handed_up _ _ c.from_residual-in_err-at.ensures.1) (trains_stop c.args.l c.args.text.now c.in_ok-head.ensures c.in_err-at.field-0.0 c.in_err-at.ensures)

pub read_rest-requires : goal.read_rest-requires
read_rest-requires c =
    let limits = head_limits c.args.l _ _ c.in_ok-head.ensures in
    (c.requires.0, (omega (arith, limits.trains, length-take {A = ℕ}), c.requires.1.1.1.1))

-- the numbers of the trains are as many as they are
listed : (n m : ℕ) (before numbers : List ℕ) → before ≡ replicate m 0 → length numbers ≡ length before → n ≤ m → length (take n numbers) ≡ n
listed n m before numbers e same few = length-take-le n numbers (omega (arith, zeros m before e))

pub returns-in_err-read_rest : goal.returns-in_err-read_rest
returns-in_err-read_rest c =
    let p = c.requires.1 in
    let trains = trains_into _ c.in_ok-at.ensures p.0 p.1.0 p.1.1.0 in
    let limits = head_limits c.args.l _ _ c.in_ok-head.ensures in
    let count = listed c.in_ok-head.field-0.head.trains c.args.l.trains c.args.numbers.now c.read_trains.new.numbers p.0 (omega arith) limits.trains in
    rw (handed_up _ _ c.from_residual-in_err-read_rest.ensures.1)
    (rest_stops c.args.l c.args.text.now c.in_ok-head.ensures trains c.in_err-read_rest.field-0.0 (rw count at c.in_err-read_rest.ensures))

pub returns : goal.returns
returns c =
    let p = c.requires.1 in
    let trains = trains_into _ c.in_ok-at.ensures p.0 p.1.0 p.1.1.0 in
    let limits = head_limits c.args.l _ _ c.in_ok-head.ensures in
    let count = listed c.in_ok-head.field-0.head.trains c.args.l.trains c.args.numbers.now c.read_trains.new.numbers p.0 (omega arith) limits.trains in
    day_read c.args.l c.args.text.now c.in_ok-head.ensures trains (rw count at c.in_ok-read_rest.ensures)
