-- How the numbers of a report are told, and the header's words for them: which number stands where, what a refusal leaves, and that numbers
-- beyond stay.
-- Assumes nothing.
use Rattle.std.specs.Prelude.{◌≡◌, Bool, cond, List, [], ◌∷◌, ◌++◌, ℕ, ◌+◌, ◌≤◌, ◌<◌, leb, length, get_or, replicate}
use Rattle.std.proofs.Math.Path.{refl, sym, ap}
use Rattle.std.proofs.Common.{◌∙◌, append_assoc, arith, length-append, get_or-drop}
use Rattle.std.proofs.Math.Bool.{true, false}
use Rattle.std.proofs.Math.ListN.{drop, get_or-append}
use borrow.Author.Tests.{le-leb, lt-leb}
use Rattle.fold.specs.Listed.{listed, drop_front}
use Rattle.day.specs.Answer.{Answer, gives, refuses, code}
use Rattle.day.specs.Sound.{day_limits}
use Rattle.decimal.specs.Place.{Put}
use Rattle.output.specs.Laws.{put_list}
use Rattle.planning.specs.Planning.{cost_area, choice_area}
use Rattle.telling.specs.Telling.{told_by}
use Rattle.telling.specs.Laws.{numbers_told_lem, numbers_kept}
use Rattle.parting.specs.Parting.{days}
use Rattle.period_report.specs.Report.{most_days, total, counters, tally_of, mean, report_of}
use Rattle.period_report.specs.declared.Report.{Report}
use Rattle.reporting.specs.Period.{answers, period_report, report_or_zero}
use Rattle.text_period.specs.TextPeriod.{report_count, figure_numbers, report_numbers, report_for, report_after}

-- ---- the numbers of a report

pub numbers_length : (r : Report) → length r.days ≡ counters → length (report_numbers r) ≡ report_count
numbers_length r e = omega (arith, length-append r.days (figure_numbers r), e)

-- stored to the last of them
pub put_count : {l m a : List ℕ} {i j k : ℕ} → Put l m i j a → i + length a ≡ k → Put l m i k a
put_count p e = record { next = sym e; list = p.list }

-- ---- what is told: the report, or zeros

module _ (text : List ℕ) where
  -- a refusal carries 0, and the numbers of no days are zeros: so both are the report beside the answer
  told_beside : told_by report_count report_numbers (period_report day_limits text cost_area choice_area) ≡ report_numbers (report_or_zero (period_report day_limits text cost_area choice_area))
  unfolding period_report tally_of total listed mean
  told_beside = go (leb (length (days text)) most_days)
    where
      go : (b : Bool)
          → told_by report_count report_numbers (cond b (gives (report_of (answers day_limits text))) (refuses 22 (0 ∷ [])))
          ≡ report_numbers (report_or_zero (cond b (gives (report_of (answers day_limits text))) (refuses 22 (0 ∷ []))))
      go true = refl
      go false = refl

  module _ (numbers : List ℕ) where
    pub tells_short : length numbers < report_count → (10 ≡ code (report_for day_limits text (length numbers))) × (numbers ≡ report_after (report_for day_limits text (length numbers)) numbers)
    unfolding report_for
    tells_short h =
        let short = lt-leb report_count (length numbers) h in
        (rw short, numbers_kept report_count report_numbers (report_for day_limits text (length numbers)) numbers short)

    pub tells_report : report_count ≤ length numbers → {a : Answer Report} {r : Report} {said : ℕ} {after : List ℕ} → a ≡ period_report day_limits text cost_area choice_area
        → r ≡ report_or_zero (period_report day_limits text cost_area choice_area) → length (report_numbers r) ≡ report_count → said ≡ code a → Put numbers after 0 report_count (report_numbers r)
        → (said ≡ code (report_for day_limits text (length numbers))) × (after ≡ report_after (report_for day_limits text (length numbers)) numbers)
    unfolding report_for
    tells_report room {a} {r} {said} {after} is beside long e put =
        let fits = le-leb report_count (length numbers) room in
        let whole : report_for day_limits text (length numbers) ≡ period_report day_limits text cost_area choice_area = rw fits in
        let stored = put_list put (omega (arith, long)) in (
          e ∙ ap code (is ∙ sym whole),
          stored ∙ ap (λ k. report_numbers r ++ drop k numbers) long ∙ ap (λ l. l ++ drop report_count numbers) (ap report_numbers beside ∙ sym told_beside)
              ∙ sym (numbers_told_lem report_count report_numbers (period_report day_limits text cost_area choice_area) numbers room)
              ∙ sym (ap (λ x. report_after x numbers) whole),
        )

-- ---- the header's words

-- which number stands where
pub record Places (r : Report) (before after : List ℕ) : Type 0 where
  pub planned : get_or after 0 0 ≡ get_or r.days 0 0
  pub refused : (k : ℕ) → 1 ≤ k → k ≤ 26 → get_or after k 0 ≡ get_or r.days k 0
  pub revisits : get_or after 27 0 ≡ r.totals.revisits
  pub splits : get_or after 28 0 ≡ r.totals.splits
  pub direct : get_or after 29 0 ≡ r.totals.direct
  pub boxes : get_or after 30 0 ≡ r.totals.boxes
  pub savings : get_or after 31 0 ≡ r.totals.savings
  pub mean_revisits : (get_or after 32 0 ≡ r.means.revisits.quotient) × (get_or after 33 0 ≡ r.means.revisits.remainder)
  pub mean_splits : (get_or after 34 0 ≡ r.means.splits.quotient) × (get_or after 35 0 ≡ r.means.splits.remainder)
  pub mean_direct : (get_or after 36 0 ≡ r.means.direct.quotient) × (get_or after 37 0 ≡ r.means.direct.remainder)
  pub mean_boxes : (get_or after 38 0 ≡ r.means.boxes.quotient) × (get_or after 39 0 ≡ r.means.boxes.remainder)
  pub beyond : drop 40 after ≡ drop 40 before

module _ (text before : List ℕ) (room : 40 ≤ length before) where
  -- a report: its numbers at their places
  pub report_places : (r : Report) → length r.days ≡ 27 → report_for day_limits text (length before) ≡ gives r
      → Places r before (report_after (report_for day_limits text (length before)) before)
  report_places r size e = record {
    planned = front 0 (omega arith);
    refused = λ k a b. front k (omega arith);
    revisits = figure 0;
    splits = figure 1;
    direct = figure 2;
    boxes = figure 3;
    savings = figure 4;
    mean_revisits = (figure 5, figure 6);
    mean_splits = (figure 7, figure 8);
    mean_direct = (figure 9, figure 10);
    mean_boxes = (figure 11, figure 12);
    beyond = ap (drop 40) is ∙ drop_front (report_numbers r) (drop 40 before) (numbers_length r size);
  }
    where
      after : List ℕ
      after = report_after (report_for day_limits text (length before)) before

      is : after ≡ report_numbers r ++ drop 40 before
      is = ap (λ a. report_after a before) e ∙ numbers_told_lem report_count report_numbers (gives r) before room

      split : after ≡ r.days ++ (figure_numbers r ++ drop 40 before)
      split = is ∙ append_assoc r.days (figure_numbers r) (drop 40 before)

      front : (k : ℕ) → k < 27 → get_or after k 0 ≡ get_or r.days k 0
      front k h = ap (λ (l : List ℕ). get_or l k 0) split ∙ get_or-append r.days (figure_numbers r ++ drop 40 before) 0 k (omega (arith, size))

      figure : (i : ℕ) → get_or after (27 + i) 0 ≡ get_or (figure_numbers r ++ drop 40 before) i 0
      figure i =
          ap (λ (l : List ℕ). get_or l (27 + i) 0) split ∙ sym (get_or-drop 27 (r.days ++ (figure_numbers r ++ drop 40 before)) i 0)
          ∙ ap (λ (l : List ℕ). get_or l i 0) (drop_front r.days (figure_numbers r ++ drop 40 before) size)

  -- 22: zeros
  pub many_zeros : report_for day_limits text (length before) ≡ refuses 22 (0 ∷ []) → report_after (report_for day_limits text (length before)) before ≡ replicate 40 0 ++ drop 40 before
  many_zeros e = ap (λ a. report_after a before) e ∙ numbers_told_lem report_count report_numbers (refuses 22 (0 ∷ [])) before room

-- without room 10, and no number changes
pub without_forty : (text before : List ℕ) → length before < 40
    → (report_for day_limits text (length before) ≡ refuses 10 (0 ∷ [])) × (report_after (report_for day_limits text (length before)) before ≡ before)
unfolding report_for
without_forty text before h = (rw (lt-leb report_count (length before) h), sym (tells_short text before h).1)

-- with room what the call answers in areas that suffice
pub with_forty : (text : List ℕ) (size : ℕ) → 40 ≤ size → report_for day_limits text size ≡ period_report day_limits text 4096 32768
unfolding report_for
with_forty text size h = rw (le-leb report_count size h)
