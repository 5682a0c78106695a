-- `reporting::report_period` meets its contract: the checks 10 and 22 in this order, then the report. The days are planned in the front of each
-- area, so what lies beyond stays.
-- ---- the places: the start, from past the first check; that, from past the second; this one, from the place behind the tally
use mathlib.Core.Path.{◌≡◌, sym, ap, ◌∙◌}
use mathlib.Core.Bool.{true}
use Prim.Native.Nat.{◌≤◌}
use lib.Dec.{leb, leb→le}
use lib.ListN.{length, drop}
use lib.Seq.{length-take-le}
use Rattle.fold.specs.Test.{of_true, both_of}
use Rattle.fold.specs.Listed.{drop_front}
use Rattle.planning.specs.Planning.{cost_area, choice_area, areas_suffice}
use Rattle.parting.specs.Parting.{days}
use Rattle.period_report.specs.Report.{most_days, with_means}
use Rattle.reporting.specs.Laws.{says_short, says_many, says_report}
use Rattle.reporting.proofs.report_period.Goals as goal

pub returns-then-not-are_areas_enough : goal.returns-then-not-are_areas_enough
returns-then-not-are_areas_enough c =
    let a = c.args in
    let short = sym c.are_areas_enough.ensures ∙ c.if-not-are_areas_enough.true in
    let (s, e) = says_short a.text.now (length a.cost.now) (length a.choice.now) short c.refused.ensures in record {
      report_value = s.says;
      report_value_2 = s.beside;
      stays = rw e;
      stays_2 = rw e;
    }

pub returns-then-not-has_at_most : goal.returns-then-not-has_at_most
returns-then-not-has_at_most c =
    let enough : areas_suffice (length c.args.cost.now) (length c.args.choice.now) ≡ true = sym c.are_areas_enough.ensures ∙ c.if-not-are_areas_enough.false in
    let a = c.args in
    let many = sym c.has_at_most.ensures ∙ c.if-not-has_at_most.true in
    let (s, e) = says_many a.text.now (length a.cost.now) (length a.choice.now) enough many c.refused-then-not-has_at_most.ensures in record {
      report_value = s.says;
      report_value_2 = s.beside;
      stays = rw e;
      stays_2 = rw e;
    }

pub slice_bounds-tally_days-end-2 : goal.slice_bounds-tally_days-end-2
slice_bounds-tally_days-end-2 c =
    let enough : areas_suffice (length c.args.cost.now) (length c.args.choice.now) ≡ true = sym c.are_areas_enough.ensures ∙ c.if-not-are_areas_enough.false in
    let lengths : (cost_area ≤ length c.args.cost.now) × (choice_area ≤ length c.args.choice.now) = let a = c.args in
    let (k, m) = both_of (leb cost_area (length a.cost.now)) (leb choice_area (length a.choice.now)) (of_true enough) in
    (leb→le cost_area (length a.cost.now) k, leb→le choice_area (length a.choice.now) m) in
    sym (length-take-le cost_area c.args.cost.now lengths.0)

pub slice_bounds-tally_days-end-4 : goal.slice_bounds-tally_days-end-4
slice_bounds-tally_days-end-4 c =
    let enough : areas_suffice (length c.args.cost.now) (length c.args.choice.now) ≡ true = sym c.are_areas_enough.ensures ∙ c.if-not-are_areas_enough.false in
    let lengths : (cost_area ≤ length c.args.cost.now) × (choice_area ≤ length c.args.choice.now) = let a = c.args in
    let (k, m) = both_of (leb cost_area (length a.cost.now)) (leb choice_area (length a.choice.now)) (of_true enough) in
    (leb→le cost_area (length a.cost.now) k, leb→le choice_area (length a.choice.now) m) in
    sym (length-take-le choice_area c.args.choice.now lengths.1)

pub tally_days-tally-requires : goal.tally_days-tally-requires
tally_days-tally-requires c =
    let enough : areas_suffice (length c.args.cost.now) (length c.args.choice.now) ≡ true = sym c.are_areas_enough.ensures ∙ c.if-not-are_areas_enough.false in
    let lengths : (cost_area ≤ length c.args.cost.now) × (choice_area ≤ length c.args.choice.now) = let a = c.args in
    let (k, m) = both_of (leb cost_area (length a.cost.now)) (leb choice_area (length a.choice.now)) (of_true enough) in
    (leb→le cost_area (length a.cost.now) k, leb→le choice_area (length a.choice.now) m) in
    let few : leb (length (days c.args.text.now)) most_days ≡ true = sym c.has_at_most.ensures ∙ c.if-not-has_at_most.false in
    let a = c.args in
    let l = lengths in (
      leb→le (length (days a.text.now)) most_days (of_true few),
      (length-take-le cost_area a.cost.now l.0, length-take-le choice_area a.choice.now l.1),
    )

pub returns : goal.returns
returns c =
    let enough : areas_suffice (length c.args.cost.now) (length c.args.choice.now) ≡ true = sym c.are_areas_enough.ensures ∙ c.if-not-are_areas_enough.false in
    let lengths : (cost_area ≤ length c.args.cost.now) × (choice_area ≤ length c.args.choice.now) = let a = c.args in
    let (k, m) = both_of (leb cost_area (length a.cost.now)) (leb choice_area (length a.choice.now)) (of_true enough) in
    (leb→le cost_area (length a.cost.now) k, leb→le choice_area (length a.choice.now) m) in
    let few : leb (length (days c.args.text.now)) most_days ≡ true = sym c.has_at_most.ensures ∙ c.if-not-has_at_most.false in
    let a = c.args in
    let l = lengths in
    let d = c.tally_days-tally in
    let report = c.with_means.ensures ∙ ap with_means d.ensures in
    let (s, e) = says_report a.text.now (length a.cost.now) (length a.choice.now) enough few report in record {
      report_value = s.says;
      report_value_2 = s.beside;
      stays = rw e (drop_front d.new.cost (drop cost_area a.cost.now) (d.auto.cost ∙ length-take-le cost_area a.cost.now l.0));
      stays_2 = rw e (drop_front d.new.choice (drop choice_area a.choice.now) (d.auto.choice ∙ length-take-le choice_area a.choice.now l.1));
    }
