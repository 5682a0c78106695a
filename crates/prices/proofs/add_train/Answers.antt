use Rattle.std.proofs.Common.{ℕ, ap, ◌∙◌, sym, subst, ◌≡◌, ◌≤◌, ◌+◌, ◌*◌, ◌%◌, ◌^◌, length, pow_pos, arith}
use Rattle.staging.specs.Tables.{from_outside}
use Rattle.tables.specs.Given.{boxes_of}
use Rattle.tables.specs.Filled.{Filled, filled_next, filled_end}
use Rattle.tables.specs.Doubled.{two_sets}
use Rattle.tables.specs.Needing.{sets_fit, sets_shifted}
use Rattle.prices.specs.Filling.{Bounded, bounded_next, pair_joinable, pair-next}
use Rattle.prices.proofs.add_train.Goals as goal
use Rattle.prices.proofs.add_train.Goals.{Start, After-received_by, At-loop-b}

-- the sets of the trains before k, of which there is one at least; with k twice as many, for which there is room
size : (s : Start) → 1 * 2 ^ s.args.k % 2 ^ 64 ≡ 2 ^ s.args.k
size s = let few = s.requires.0.few in sets_shifted s.args.k (omega arith)

small : (s : Start) → (1 ≤ 2 ^ s.args.k) × (2 ^ s.args.k ≤ 4096) × (2 ^ s.args.k + 2 ^ s.args.k ≤ length s.args.price.now)
small s =
    let room = sets_fit s.args.k s.args.supplies.now.trains _ (size s) s.requires.1 s.requires.0.few in
    omega (arith, pow_pos s.args.k, size s, two_sets s.args.k)

-- the sets with k are bounded too
bounded : (c : After-received_by) → Bounded c.args.supplies.now.trains (boxes_of c.args.supplies.now) (c.args.k + 1)
bounded c = bounded_next _ _ _ c.requires.4 c.requires.1 (omega (arith, c.received_by.ensures.0, c.received_by.ensures.1))

-- what is filled, by the code's number of sets below b
here : (c : At-loop-b) {below : ℕ} → below ≡ 2 ^ c.loop-b.b → let y = c.args.supplies.now in
    Filled (from_outside y.trains (boxes_of y)) (1 * 2 ^ c.args.k % 2 ^ 64 + below) c.args.price.now c.loop-b.price
here c e =
    let y = c.args.supplies.now in
    subst (λ n. Filled (from_outside y.trains (boxes_of y)) (1 * 2 ^ c.args.k % 2 ^ 64 + n) c.args.price.now c.loop-b.price) (sym e) c.loop-b.invariant

pub loop-b-init : goal.loop-b-init
loop-b-init c =
    let s = (goal.at.loop-b-init c).Start in
    let y = c.args.supplies.now in
    let room = small s in
    let all = subst (λ n. Filled (from_outside y.trains (boxes_of y)) n c.args.price.now c.args.price.now) (sym (size s)) c.requires.3 in
    filled_next _ all (omega (arith, size s)) (c.received_by.ensures.0 ∙ ap (from_outside y.trains (boxes_of y)) (sym (size s)))

pub join_pair-requires : goal.join_pair-requires
join_pair-requires c =
    let s = (goal.at.join_pair-requires c).Start in
    let room = small s in
    let b = c.loop-b.b in
    let few = c.requires.0.few in
    let below = sets_shifted b (omega arith) in
    pair_joinable c.args.supplies.now.trains _ _ _ (here (goal.at.join_pair-requires c).At-loop-b below) c.args.k b (size s) below c.requires.1 c.loop-b-test.true
    _ c.between.ensures few (bounded (goal.at.join_pair-requires c).After-received_by) (omega (arith, size s, c.loop-b.invariant.kept.long))

pub loop-b-preserved : goal.loop-b-preserved
loop-b-preserved c =
    let s = (goal.at.loop-b-preserved c).Start in
    let y = c.args.supplies.now in
    let b = c.loop-b.b in
    let few = c.requires.0.few in
    let below = sets_shifted b (omega arith) in
    filled_end _ (pair-next y.trains (boxes_of y) _ _ (here (goal.at.loop-b-preserved c).At-loop-b below) c.args.k b (size s) below c.requires.1 c.loop-b-test.true _ c.between.ensures c.join_pair.ensures)
    (omega (arith, below, two_sets b)) (omega (arith, below, two_sets b))

pub returns : goal.returns
returns c =
    let s = (goal.at.returns c).Start in
    let k = c.args.k in
    let end = ap (λ x. 2 ^ x) (let e : c.loop-b.b ≡ k = omega arith in e) in
    (filled_end _ c.loop-b.invariant (omega (arith, end, size s, two_sets k)) (omega (arith, end, size s, two_sets k)), bounded (goal.at.returns c).After-received_by)
