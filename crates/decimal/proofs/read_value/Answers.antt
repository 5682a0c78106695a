use Rattle.std.proofs.Common.{le_refl, ◌≡◌, true, ltb-true, ℕ, ◌+◌, ◌-◌, ◌≤◌, List, length, get_or, take, drop, sym, ap, ◌∙◌, arith, rules, length-drop}
use Rattle.std.proofs.lemmas.List.{drop-drop, take_all, get_or_read}
use Rattle.decimal.specs.Parsed.{got}
use Rattle.decimal.specs.Decimal.{is_digit}
use Rattle.decimal.specs.Laws.{grows_is}
use Rattle.decimal.specs.PlaceLaws.{at_end, value_start, more_end, more_other, more-full, more-next}
use Rattle.decimal.proofs.read_value.Goals as goal

-- the text from the place k on, as the loop goes over it
rest : (t : List ℕ) (k : ℕ) → take (length t - k) (drop k t) ≡ drop k t
rest t k = take_all (length t - k) (drop k t) (omega (arith, length-drop k t))

rest_from : (t : List ℕ) (k i : ℕ) → drop i (take (length t - k) (drop k t)) ≡ drop (k + i) t
rest_from t k i = rw (rest t k) (drop-drop i k t)

-- what is left at the end of both
ends : (s t : List ℕ) (i k : ℕ) → length s ≤ i → length t ≤ k → drop i s ≡ drop k t
ends s t i k h g = rw (at_end s i h, at_end t k g)

pub loop-i-init : goal.loop-i-init
loop-i-init c =
    let t = c.args.text.now in
    let found = c.in_ok-first.ensures.lookup in
    let inside = ltb-true _ _ (sym found.0) in
    let byte = get_or_read t _ _ inside found.1 0 in
    let digit : is_digit (get_or t c.args.at 0) ≡ true = ap is_digit (sym byte) ∙ sym c.is_ascii_digit.ensures.value ∙ c.if-not-is_ascii_digit.false in
    (rw (c.digit_value-value.ensures.0, byte, rest t (c.args.at + 1)) (value_start t c.args.at inside digit), search rules)

pub returns-then-not-is_ascii_digit-2 : goal.returns-then-not-is_ascii_digit-2
returns-then-not-is_ascii_digit-2 c =
    record {
      read = rw (← rest_from c.args.text.now (c.args.at + 1) c.loop-i.i) (c.loop-i.invariant.0 ∙ more_other _ _ _ c.loop-i-test.true (cc));
      inside = search rules;
    }

pub returns-then-not-grows : goal.returns-then-not-grows
returns-then-not-grows c = c.loop-i.invariant.0 ∙ more-full _ _ _ c.loop-i-test.true (cc) (cc)

pub loop-i-preserved : goal.loop-i-preserved
loop-i-preserved c =
    (rw c.digit_value.ensures.0 (c.loop-i.invariant.0 ∙ more-next _ _ _ c.loop-i-test.true (cc) (cc)), omega (arith, grows_is c.loop-i.value (cc)))

pub returns : goal.returns
returns c =
    let t = c.args.text.now in
    record { read = c.loop-i.invariant.0 ∙ more_end _ _ _ c.loop-i-test.false ∙ ap (got c.loop-i.value) (ends _ t _ (length t) c.loop-i-test.false (le_refl (length t))); inside = search rules }
