-- Order 10's sentences, from the call's contract, the parting of the text, and what reading and planning answer for each day. Lent 4,096 and
-- 32,768 words:
--   report-taken    up to 366 days give the report over what reading and planning answer for each (day_figures' Means.antt says what that is);
--   report-files    day files joined with an empty line between give the report over these files;
--   report-many     a 367th day gets 22, bad and empty days counted;
--   report-short    fewer words get 10, whatever the text;
--   refused-zeros   with a refusal no totals are given: all figures are 0;
--   report-empty    an empty text is reported, with all figures 0;
--   areas-after     a refusal leaves the areas; words beyond 4,096 and 32,768 never change.
-- Of a report that is given:
--   report-sums     each total is the sum over the days of what planning each alone gives, a refused day giving none;
--   report-days     planned days and days refused under 1 to 26 are all days of the text;
--   report-numbers  no day is refused under another number than 1 to 7, 9, 15 and 16;
--   report-moves    direct and split moves are all boxes;
--   report-means    the means, by quotient and remainder; zeros where no day was planned;
--   report-most     no total is above 366 times the greatest cost of a row, so none can wrap;
--   periods-add     the tally over two periods is the sum of their tallies.
-- Assumes nothing.
use Rattle.std.specs.Prelude.{◌≡◌, refl, true, List, [], ◌∷◌, ◌++◌, map, ◌⊎◌, ℕ, suc, ◌+◌, ◌*◌, ◌≤◌, ◌<◌, eqb, length, drop, replicate}
use Rattle.std.proofs.Common.{sym, ap₂, ◌∙◌, subst, mul-le-mul_right}
use Rattle.std.proofs.Math.Path.{ap}
use native.Mathlib.Omega.{arith}
use Rattle.std.proofs.Math.Dec.{leb→le}
use Rattle.std.proofs.Math.ListN.{get_or}
use Rattle.std.proofs.lemmas.List.{length-map}
use borrow.Author.Tests.{le-leb, lt-leb, ne_eqb}
use Rattle.fold.specs.Fold.{bit, sum}
use Rattle.fold.specs.Sums.{sum_cons}
use Rattle.fold.specs.Listed.{listed, listed_at}
use Rattle.fold.specs.Test.{is_true}
use Rattle.day.specs.Answer.{Answer, gives, refuses, code, where_given}
use Rattle.day.specs.AnswerLaws.{Only, gives_same, checked_gives, refused_holding}
use Rattle.day.specs.Most.{most_cost}
use Rattle.day.specs.Sound.{day_limits}
use Rattle.planning.specs.Planning.{cost_area, choice_area, areas_suffice, open_words, Stays}
use Rattle.planning.proofs.Answers.{areas_short, areas_enough}
use Rattle.planning.proofs.Laws.{stays_beyond}
use Rattle.parting.specs.Parting.{days, joined_files}
use Rattle.parting.specs.Accepted.{AllAccepted}
use Rattle.parting.proofs.Accepted.{accepted_days}
use Rattle.day_figures.specs.Figures.{day_answer}
use Rattle.day_figures.specs.Laws.{Within, Small, Moved}
use Rattle.day_figures.specs.Means.{DayRefusal, day_only, day_moved, day_small}
use Rattle.day_figures.specs.declared.Figures.{Figures}
use Rattle.period_report.specs.Report.{most_days, total, days_under, total_of, counters, tally_of, mean, means_of, report_of}
use Rattle.period_report.specs.Laws.{total_join, Each, each_map, total-sum, total-most, plus, small_number, small_more, totals_within, all_counted, mean_none, mean_exact}
use Rattle.period_report.specs.declared.Mean.{Mean}
use Rattle.period_report.specs.declared.Means.{Means as MeanFigures}
use Rattle.period_report.specs.declared.Report.{Report}
use Rattle.reporting.specs.Period.{answers, period_checks, period_report, report_or_zero, period_begins}

-- ---- when a report is given, and what is refused

-- a report without a day
abbrev pub zero_report : Report
zero_report =
    let zero : Mean = record { quotient = 0; remainder = 0 } in
    record {
      days = replicate 27 0;
      totals = record { revisits = 0; splits = 0; direct = 0; boxes = 0; savings = 0 };
      means = record { revisits = zero; splits = zero; direct = zero; boxes = zero };
    }

zeros : report_of [] ≡ zero_report
unfolding tally_of total listed mean
zeros = refl

module _ (text : List ℕ) (costs choices : ℕ) where
  pub report_short : (costs < 4096) ⊎ (choices < 32768) → period_report day_limits text costs choices ≡ refuses 10 (0 ∷ [])
  unfolding period_report
  report_short h = rw (areas_short costs choices h)

  pub refused_zeros : (k : ℕ) (carries : List ℕ) → period_report day_limits text costs choices ≡ refuses k carries → report_or_zero (period_report day_limits text costs choices) ≡ zero_report
  refused_zeros k carries e = ap report_or_zero e ∙ zeros

  module _ (enough : 4096 ≤ costs) (more : 32768 ≤ choices) where
    suffice : areas_suffice costs choices ≡ true
    suffice = is_true (areas_suffice costs choices) (areas_enough costs choices enough more)

    pub report_many : 366 < length (days text) → period_report day_limits text costs choices ≡ refuses 22 (0 ∷ [])
    unfolding period_report
    report_many h = rw (suffice, lt-leb (length (days text)) most_days h)

    pub report_taken : length (days text) ≤ 366 → period_report day_limits text costs choices ≡ gives (report_of (map (day_answer day_limits) (days text)))
    unfolding period_report
    report_taken h = rw (suffice, le-leb (length (days text)) most_days h)

module _ (costs choices : ℕ) (enough : 4096 ≤ costs) (more : 32768 ≤ choices) where
  pub report_empty : period_report day_limits [] costs choices ≡ gives zero_report
  report_empty = report_taken [] costs choices enough more (omega arith) ∙ ap gives zeros

  pub report_files : (files : List (List ℕ)) → AllAccepted day_limits files → length files ≤ 366
      → period_report day_limits (joined_files files) costs choices ≡ gives (report_of (map (day_answer day_limits) files))
  report_files files a h =
      let back = accepted_days day_limits files a in
      report_taken (joined_files files) costs choices enough more (omega (arith, ap length back)) ∙ ap (λ (ds : List (List ℕ)). gives (report_of (map (day_answer day_limits) ds))) back

-- ---- a report that is given

module _ (text : List ℕ) (costs choices : ℕ) (r : Report) (said : period_report day_limits text costs choices ≡ gives r) where
  -- it is the report over the days' answers, of which there are up to 366
  pub report_is : (r ≡ report_of (answers day_limits text)) × (length (days text) ≤ 366)
  unfolding period_report
  report_is =
      let (h, e) = checked_gives (period_checks text costs choices) (gives (report_of (answers day_limits text))) r said in
      (sym (gives_same e), leb→le (length (days text)) most_days h.1.0)

  each_day : (P : Answer Figures → Type 0) → ((d : List ℕ) → P (day_answer day_limits d)) → Each P (answers day_limits text)
  each_day P h = each_map P (day_answer day_limits) h (days text)

  pub record Sums : Type 0 where
    pub revisits : r.totals.revisits ≡ total_of (answers day_limits text) λ f. f.revisits
    pub splits : r.totals.splits ≡ total_of (answers day_limits text) λ f. f.splits
    pub direct : r.totals.direct ≡ total_of (answers day_limits text) λ f. f.direct
    pub boxes : r.totals.boxes ≡ total_of (answers day_limits text) λ f. f.boxes
    pub savings : r.totals.savings ≡ total_of (answers day_limits text) λ f. f.savings

  pub report_sums : Sums
  unfolding tally_of
  report_sums =
      let e = report_is.0 in
      record {
        revisits = ap (λ (r : Report). r.totals.revisits) e;
        splits = ap (λ (r : Report). r.totals.splits) e;
        direct = ap (λ (r : Report). r.totals.direct) e;
        boxes = ap (λ (r : Report). r.totals.boxes) e;
        savings = ap (λ (r : Report). r.totals.savings) e;
      }

  pub report_days : get_or r.days 0 0 + sum 26 (λ k. get_or r.days (suc k) 0) ≡ length (days text)
  report_days =
      let counted = all_counted (answers day_limits text) (each_day (λ a. code a < counters) (λ d. small_number (most_cost day_limits) (day_answer day_limits d) (day_small d))) in
      let e = ap (λ (r : Report). sum counters (λ k. get_or r.days k 0)) report_is.0 in
      omega (arith, sum_cons 26 (λ k. get_or r.days k 0), e, counted, length-map (days text) (day_answer day_limits))

  pub report_numbers_lem : (k : ℕ) → 1 ≤ k → k ≤ 26 → (DayRefusal k → ⊥) → get_or r.days k 0 ≡ 0
  unfolding tally_of
  report_numbers_lem k a b other =
      let none = total-most (λ x. bit (eqb (code x) k)) 0 (answers day_limits text) (each_day (λ x. bit (eqb (code x) k) ≤ 0) (λ d. never (day_answer day_limits d) (day_only d))) in
      ap (λ (r : Report). get_or r.days k 0) report_is.0 ∙ listed_at counters (days_under (answers day_limits text)) 0 k (omega arith) ∙ omega arith
    where
      never : (x : Answer Figures) → Only (λ k carries. DayRefusal k) x → bit (eqb (code x) k) ≤ 0
      never (gives f) o = omega (arith, ap bit (ne_eqb 0 k (λ q. omega arith)))
      never (refuses j carries) o = omega (arith, ap bit (ne_eqb j k (λ q. other (subst DayRefusal q o))))

  pub report_moves : r.totals.direct + r.totals.splits ≡ r.totals.boxes
  report_moves =
      let s = report_sums in
      let moved = total-sum (λ a. where_given a 0 λ f. f.direct) (λ a. where_given a 0 λ f. f.splits) (λ a. where_given a 0 λ f. f.boxes) (answers day_limits text) (each_day Adds (λ d. adds (day_answer day_limits d) (day_moved d))) in
      omega (arith, s.direct, s.splits, s.boxes, moved)
    where
      Adds : Answer Figures → Type 0
      Adds a = where_given a 0 (λ f. f.direct) + where_given a 0 (λ f. f.splits) ≡ where_given a 0 (λ f. f.boxes)

      adds : (a : Answer Figures) → Moved a → Adds a
      adds (gives f) m = m
      adds (refuses k carries) m = omega arith

  -- ---- means

  -- a total is the quotient times the planned days and a remainder below them; where no day was planned both are 0
  pub record Divided (total : ℕ) (m : Mean) : Type 0 where
    pub exact : 0 < get_or r.days 0 0 → (total ≡ m.quotient * get_or r.days 0 0 + m.remainder) × (m.remainder < get_or r.days 0 0)
    pub none : get_or r.days 0 0 ≡ 0 → (m.quotient ≡ 0) × (m.remainder ≡ 0)

  divided : (total : ℕ) {m : Mean} → m ≡ mean total (get_or r.days 0 0) → Divided total m
  divided total {m} e = record {
    exact = λ h. subst (λ (m : Mean). (total ≡ m.quotient * get_or r.days 0 0 + m.remainder) × (m.remainder < get_or r.days 0 0)) (sym e) (mean_exact total (get_or r.days 0 0) h);
    none = λ h. let q = e ∙ sym (mean_none total (get_or r.days 0 0) h) in (ap (λ (m : Mean). m.quotient) q, ap (λ (m : Mean). m.remainder) q);
  }

  pub record Means : Type 0 where
    pub revisits : Divided r.totals.revisits r.means.revisits
    pub splits : Divided r.totals.splits r.means.splits
    pub direct : Divided r.totals.direct r.means.direct
    pub boxes : Divided r.totals.boxes r.means.boxes

  pub report_means : Means
  report_means =
      let m : r.means ≡ means_of r.totals (get_or r.days 0 0) = subst (λ (r : Report). r.means ≡ means_of r.totals (get_or r.days 0 0)) (sym report_is.0) refl in
      record {
        revisits = divided r.totals.revisits (ap (λ (m : MeanFigures). m.revisits) m);
        splits = divided r.totals.splits (ap (λ (m : MeanFigures). m.splits) m);
        direct = divided r.totals.direct (ap (λ (m : MeanFigures). m.direct) m);
        boxes = divided r.totals.boxes (ap (λ (m : MeanFigures). m.boxes) m);
      }

  pub report_most : Within (366 * most_cost day_limits) r.totals
  report_most =
      let all = answers day_limits text in
      let most = totals_within (most_cost day_limits) all (each_day (Small (most_cost day_limits)) day_small) in
      let few : length all ≤ 366 = omega (arith, length-map (days text) (day_answer day_limits), report_is.1) in
      subst (λ (r : Report). Within (366 * most_cost day_limits) r.totals) (sym report_is.0)
      (small_more (length all * most_cost day_limits) (366 * most_cost day_limits) (gives (tally_of all).totals) (mul-le-mul_right {m = length all} {n = 366} (most_cost day_limits) few) most)

-- ---- two periods

pub periods_add : (a b : List (Answer Figures)) → ((tally_of (a ++ b)).totals ≡ plus (tally_of a).totals (tally_of b).totals)
    × ((k : ℕ) → k < counters → get_or (tally_of (a ++ b)).days k 0 ≡ get_or (tally_of a).days k 0 + get_or (tally_of b).days k 0)
unfolding tally_of
periods_add a b =
    let r = total_join (λ x. where_given x 0 λ f. f.revisits) a b in
    let s = total_join (λ x. where_given x 0 λ f. f.splits) a b in
    let d = total_join (λ x. where_given x 0 λ f. f.direct) a b in
    let o = total_join (λ x. where_given x 0 λ f. f.boxes) a b in
    let v = total_join (λ x. where_given x 0 λ f. f.savings) a b in
    let count : (answers : List (Answer Figures)) (k : ℕ) → k < counters → get_or (listed counters (days_under answers)) k 0 ≡ days_under answers k = λ answers k h. listed_at counters (days_under answers) 0 k h in (
      λ i. record { revisits = r i; splits = s i; direct = d i; boxes = o i; savings = v i },
      λ k h. count (a ++ b) k h ∙ total_join (λ x. bit (eqb (code x) k)) a b ∙ sym (ap₂ ◌+◌ (count a k h) (count b k h)),
    )

-- ---- lent memory

module _ (text cost choice costAfter choiceAfter : List ℕ) (contractCost : Stays (open_words (period_begins text (length cost) (length choice)) cost_area) cost costAfter)
    (contractChoice : Stays (open_words (period_begins text (length cost) (length choice)) choice_area) choice choiceAfter) where
  pub record Areas : Type 0 where
    pub unchanged : (k : ℕ) (carries : List ℕ) → period_report day_limits text (length cost) (length choice) ≡ refuses k carries → (costAfter ≡ cost) × (choiceAfter ≡ choice)
    pub cost_beyond : drop 4096 costAfter ≡ drop 4096 cost
    pub choice_beyond : drop 32768 choiceAfter ≡ drop 32768 choice

  pub areas_after : Areas
  unfolding period_report
  areas_after = record {
    unchanged = λ k carries e. let f = refused_holding (period_checks text (length cost) (length choice)) (report_of (answers day_limits text)) e in (rw f at contractCost, rw f at contractChoice);
    cost_beyond = stays_beyond (period_begins text (length cost) (length choice)) cost_area cost costAfter contractCost;
    choice_beyond = stays_beyond (period_begins text (length cost) (length choice)) choice_area choice choiceAfter contractChoice;
  }
