-- `procedures::left_over` meets its contract: the search stops at the first slot 0.
use Rattle.std.proofs.Common.{◌≡◌, ◌∙◌, eqb, arith, rules}
use Rattle.fold.specs.Fold.{lowest_le}
use Rattle.fold.proofs.Searches.{place_in_front}
use Rattle.procedures.specs.Procedures.{waits, left_over}
use Rattle.procedures.proofs.left_over.Goals as goal

pub returns : goal.returns
unfolding waits
returns c =
    let row = c.args.row.now in
    let e : c.unwrap_or.result ≡ left_over c.args.n row =
    c.unwrap_or.ensures
    ∙ place_in_front (λ slot. eqb slot 0) 0 _ _ (λ x b q k. search rules) c.iter.result _ row c.args.n c.requires c.iter.ensures.rest c.position.result c.position.ensures.ran in
    (e, omega (arith, lowest_le c.args.n (waits row)))
