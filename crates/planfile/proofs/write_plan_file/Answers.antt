-- A refusal of valuing is handed on; the text of an allowed row fits the buffer.
use Rattle.std.proofs.Common.{◌≡◌, sym, ap, ◌∙◌, arith, T, List, ℕ, ◌≤◌, length}
use Rattle.model.specs.Model.{Yard, Outcome, outcome, allowed}
use Rattle.model.proofs.Rows.{allowed_is}
use Rattle.day.specs.Answer.{gives}
use Rattle.day.specs.AnswerLaws.{AllHold, checked_gives}
use Rattle.std.proofs.lemmas.Result.{err_from_is_err_and}
use Rattle.day.specs.Parts.{part_yard}
use Rattle.day.specs.Sound.{sound}
use Rattle.day.specs.SoundLaws.{sound_is}
use Rattle.day.specs.declared.Limits.{Limits}
use Rattle.valuing.specs.Valuing.{row_checks, valued}
use Rattle.valuing.proofs.Laws.{allowed-valued}
use Rattle.output.specs.Laws.{put_count, put_front, says_refused, says_text}
use Rattle.planfile.specs.PlanText.{plan_lines, plan_text}
use Rattle.planfile.proofs.write_plan_file.Goals as goal

-- where valuing gives values the checks hold, the day is sound, the row allowed, the values are the model's, and the text fits
record Known (l : Limits) (y : Yard) (r : List ℕ) (o : Outcome) (size : ℕ) : Type 0 where
  pub hold : AllHold (row_checks l y r)
  pub is_sound : T (sound l y)
  pub is_allowed : T (allowed y r)
  pub text : plan_lines y.trains y.numbers o r ≡ plan_text y r
  pub fits : length (plan_lines y.trains y.numbers o r) ≤ size

known : {l : Limits} {y : Yard} {r : List ℕ} {o : Outcome} {size : ℕ} → (T (sound l y) → T (allowed y r) → length (plan_text y r) ≤ size) → gives o ≡ valued l y r
    → Known l y r o size
unfolding valued
known {l} {y} {r} {o} room said =
    let facts = allowed-valued l _ _ _ (sym said) in
    let text : plan_lines y.trains y.numbers o r ≡ plan_text y r = ap (λ o. plan_lines y.trains y.numbers o r) (sym facts.2) in
    record {
      hold = (checked_gives (row_checks l y r) (gives (outcome y r)) _ (sym said)).0;
      is_sound = facts.0;
      is_allowed = facts.1;
      text = text;
      fits = rw text (room facts.0 facts.1);
    }

pub put_plan-count-requires : goal.put_plan-count-requires
put_plan-count-requires c =
    let k = known c.requires.room c.in_ok-value.ensures in
    let s = sound_is _ _ k.is_sound in
    record {
      n_in_bounds = (omega (arith, s.shape.numbers, s.trains.1), omega (arith, (allowed_is _ _ k.is_allowed).long));
      row_in_bounds = k.fits;
    }

pub slice_bounds-write_text-end : goal.slice_bounds-write_text-end
slice_bounds-write_text-end c =
    let k = known c.requires.room c.in_ok-value.ensures in
    omega (arith, put_count c.put_plan-count.ensures, k.fits, c.put_plan-count.auto.out)

pub slice_bounds-write_text-end-2 : goal.slice_bounds-write_text-end-2
slice_bounds-write_text-end-2 c =
    let k = known c.requires.room c.in_ok-value.ensures in
    omega (arith, put_count c.put_plan-count.ensures, k.fits, ap length (put_front c.put_plan-count.ensures k.fits))

pub returns-in_err-value : goal.returns-in_err-value
unfolding valued
returns-in_err-value c =
    let a = c.args in
    let s = says_refused _ _ (row_checks a.p.now.limits (part_yard a.p.now) a.row.now) (outcome (part_yard a.p.now) a.row.now) (sym c.in_err-value.ensures) in
    let p = err_from_is_err_and c.from_residual.result c.from_residual.ensures.1 in
    rw (p.1, p.2) record { result_value = s.0; out_after = s.1 }

pub returns : goal.returns
returns c =
    let a = c.args in
    let k = known c.requires.room c.in_ok-value.ensures in
    let s = says_text _ _ (row_checks a.p.now.limits (part_yard a.p.now) a.row.now) k.hold (put_front c.put_plan-count.ensures k.fits ∙ k.text) c.write_text.ensures.result_value c.write_text.ensures.out_after in
    record { result_value = s.0; out_after = s.1 }
