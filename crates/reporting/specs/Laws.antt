-- How the report over a period comes about: the days up to a place are in the tally, and no sum of theirs wraps; the checks in their order.
-- Assumes nothing.
use Rattle.std.specs.Prelude.{◌≡◌, refl, true, false, List, [], ◌∷◌, ◌++◌, map, ℕ, ◌+◌, ◌*◌, ◌≤◌, ◌<◌, leb, length, drop}
use Rattle.std.proofs.Common.{sym, ap, ◌∙◌, subst, append_assoc, le_trans, mul-le-mul_right, arith, length-append}
use Rattle.std.proofs.lemmas.List.{length-map}
use Rattle.day.specs.Answer.{Answer, gives, refuses, judged}
use Rattle.day.specs.Most.{most_cost, day_most-cost}
use Rattle.day.specs.Sound.{day_limits}
use Rattle.std.specs.Prelude.{Ok}
use Rattle.planning.specs.Planning.{areas_suffice}
use Rattle.parting.specs.Parting.{days_from, days}
use Rattle.parting.proofs.Laws.{days_are, days_none}
use Rattle.parting.specs.Walk.{part, NextEmpty}
use Rattle.day_figures.specs.Figures.{day_answer}
use Rattle.day_figures.specs.Laws.{Small}
use Rattle.day_figures.specs.Means.{day_small}
use Rattle.day_figures.specs.declared.Figures.{Figures}
use Rattle.period_report.specs.Report.{most_days, tally_of, report_of}
use Rattle.period_report.specs.Laws.{each_map, added, tally_next, sum_limit, Light, tally_light, small_number, small_more}
use Rattle.period_report.specs.declared.Report.{Report}
use Rattle.period_report.specs.declared.Tally.{Tally}
use Rattle.reporting.specs.Period.{answers, period_report, report_or_zero, period_begins}
use Rattle.reporting.specs.declared.Reported.{Reported}

-- ---- no sum wraps

-- so many days as a report has, at the greatest cost of a row each, fit
most_fits : most_days * most_cost day_limits ≤ sum_limit
most_fits = omega (arith, day_most-cost)

-- the tally of some days of a period takes another one
pub days_light : (texts : List (List ℕ)) → length texts ≤ most_days → Light (tally_of (map (day_answer day_limits) texts))
days_light texts few =
    let size = length-map texts (day_answer day_limits) in
    let long : length (map (day_answer day_limits) texts) ≤ most_days = omega arith in
    tally_light (most_cost day_limits) (map (day_answer day_limits) texts) (each_map (Small (most_cost day_limits)) (day_answer day_limits) day_small texts)
    (omega arith) (le_trans (mul-le-mul_right {m = length (map (day_answer day_limits) texts)} {n = most_days} (most_cost day_limits) long) most_fits)

pub day_light : (text : List ℕ) → Small sum_limit (day_answer day_limits text)
day_light text = small_more (most_cost day_limits) sum_limit (day_answer day_limits text) (omega (arith, day_most-cost)) (day_small text)

-- ---- the days up to a place are in the tally

pub record Tallied (text : List ℕ) (at : ℕ) (tally : Tally) : Type 0 where
  pub some : 0 < length text
  pub done : List (List ℕ)
  pub is : tally ≡ tally_of (map (day_answer day_limits) done)
  pub rest : done ++ days_from true (drop at text) ≡ days text
  pub inside : at ≤ length text

pub tallied_empty : (text : List ℕ) {tally : Tally} → length text ≤ 0 → tally ≡ tally_of [] → tally ≡ tally_of (answers day_limits text)
tallied_empty text h e = e ∙ sym (ap (λ (ds : List (List ℕ)). tally_of (map (day_answer day_limits) ds)) (days_none text h))

pub tallied_none : (text : List ℕ) {tally : Tally} → 0 < length text → tally ≡ tally_of [] → Tallied text 0 tally
tallied_none text h e = record { some = h; done = []; is = e; rest = sym (days_are text h); inside = omega arith }

map_next : {X : Type 0} (f : List ℕ → X) (xs : List (List ℕ)) (x : List ℕ) → map f (xs ++ (x ∷ [])) ≡ map f xs ++ (f x ∷ [])
map_next f [] x = refl
map_next f (y ∷ xs) x = ap (λ l. f y ∷ l) (map_next f xs x)

module _ {text : List ℕ} {at : ℕ} {tally : Tally} (t : Tallied text at tally) where
  -- it takes another day
  pub tallied_light : length (days text) ≤ most_days → Light tally
  tallied_light few =
      let a = length-append t.done (days_from true (drop at text)) in
      let b = ap length t.rest in
      subst Light (sym t.is) (days_light t.done (omega arith))

  module _ {end : ℕ} (n : NextEmpty text at end) {a : Answer Figures} {next : Tally} (is : a ≡ day_answer day_limits (part text at end)) (sum : next ≡ added tally a) where
    grown : next ≡ tally_of (map (day_answer day_limits) (t.done ++ (part text at end ∷ [])))
    grown =
        sum ∙ ap (λ (x : Tally). added x a) t.is ∙ ap (added (tally_of (map (day_answer day_limits) t.done))) is
        ∙ sym (tally_next (map (day_answer day_limits) t.done) (day_answer day_limits (part text at end)) (small_number sum_limit (day_answer day_limits (part text at end)) (day_light (part text at end))))
        ∙ ap tally_of (sym (map_next (day_answer day_limits) t.done (part text at end)))

    -- an empty line follows
    pub tallied_next : end < length text → Tallied text (end + 1) next
    tallied_next h = record {
      some = t.some;
      done = t.done ++ (part text at end ∷ []);
      is = grown;
      rest = append_assoc t.done (part text at end ∷ []) (days_from true (drop (end + 1) text)) ∙ ap (λ (x : List (List ℕ)). t.done ++ x) (sym (n.found h)) ∙ t.rest;
      inside = omega arith;
    }

    -- the last day
    pub tallied_last : length text ≤ end → next ≡ tally_of (answers day_limits text)
    tallied_last h =
        grown ∙ ap (λ (ds : List (List ℕ)). tally_of (map (day_answer day_limits) ds)) (ap (λ (x : List (List ℕ)). t.done ++ x) (sym (n.ended h)) ∙ t.rest)

-- ---- the answer

-- the code's record says an answer, with the report or zeros beside it
pub record Says (a : Answer Report) (r : Reported) : Type 0 where
  pub says : judged r.verdict r.report ≡ a
  pub beside : r.report ≡ report_or_zero a

module _ (text : List ℕ) (costs choices : ℕ) {r : Reported} where
  pub says_short : areas_suffice costs choices ≡ false → Says (refuses 10 (0 ∷ [])) r → Says (period_report day_limits text costs choices) r × (period_begins text costs choices ≡ false)
  unfolding period_report
  says_short e s = (rw e s, rw e)

  pub says_many : areas_suffice costs choices ≡ true → leb (length (days text)) most_days ≡ false → Says (refuses 22 (0 ∷ [])) r → Says (period_report day_limits text costs choices) r × (period_begins text costs choices ≡ false)
  unfolding period_report
  says_many e f s = (rw (e, f) s, rw (e, f))

pub says_report : (text : List ℕ) (costs choices : ℕ) {report : Report} → areas_suffice costs choices ≡ true → leb (length (days text)) most_days ≡ true
    → report ≡ report_of (answers day_limits text)
    → Says (period_report day_limits text costs choices) record { verdict = Ok tt; report = report } × (period_begins text costs choices ≡ true)
unfolding period_report
says_report text costs choices e f r = (rw (e, f) (record { says = ap gives r; beside = r }), rw (e, f))
