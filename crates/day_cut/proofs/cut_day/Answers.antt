-- `day_cut::cut_day` meets its contract: the two ends of each window, cut position by position.
use Rattle.std.proofs.Common.{◌≡◌, rules, add-one}
use Rattle.fold.specs.Column.{column}
use Rattle.day.specs.Sound.{yard}
use Rattle.rolling.specs.Rolling.{Account, cut_first, cut_last}
use Rattle.day_cut.specs.Account.{account}
use Rattle.day_cut.proofs.cut_day.Goals as goal

pub returns : goal.returns
unfolding cut_first cut_last
returns c =
    let a : Account = account (yard c.args.day) c.args.closed c.args.served in
    let first : c.by_position-first.result ≡ column 12 c.args.day.trains (cut_first a) = c.by_position-first.ensures (cut_first a) (λ i r l p. search (rules, add-one)) in
    let last : c.by_position-last.result ≡ column 12 c.args.day.trains (cut_last a) = c.by_position-last.ensures (cut_last a) (λ i r l p. search rules) in
    rw (first, last)
