-- The test and the contribution from the tables (staging's Tables.antt), as the loops use them: at stage j + 1 the test is that the price
-- is not barred and the set within the open set of index j; a key stays low; the cell of the last stage.
-- Assumes nothing.
use Rattle.std.specs.Prelude.{◌≡◌, refl, List, ℕ, suc, ◌+◌, ◌-◌, ◌^◌, ◌≤◌, ◌<◌}
use Rattle.std.proofs.Common.{sym, ap₂, ◌∙◌, arith, ltb→lt, lt-ltb, eq-eqb}
use Rattle.std.proofs.Math.Path.{ap, subst}
use Rattle.std.proofs.Math.Bool.{◌&&◌}
use Rattle.std.specs.Int.Bits.{bit_and}
use Rattle.std.proofs.lemmas.Nat.{and_le_l}
use Rattle.std.proofs.Math.Dec.{T, ltb, eqb→eq}
use Rattle.fold.specs.Test.{both_of}
use Rattle.sets.specs.Subset.{Sub, subset, sub_le, sub_refl, sub_trans}
use Rattle.optimum.specs.Workspace.{at}
use Rattle.optimum.proofs.Offers.{offer_yes, offer_lt}
use Rattle.optimum.specs.Tried.{Tried}
use Rattle.optimum.proofs.Direct.{last_whole}
use Rattle.staging.specs.Tables.{Tables, keys_below, barred, no_cost, from_tables, late_set, slot_sum, set_key, set_key_from_tables, key_from_tables}
use Rattle.cells.specs.Given.{Given, Rests, last_from}

-- ---- the test

module _ (x : Tables) (j r s : ℕ) where
  index : suc j - 1 ≡ j
  index = omega arith

  pub test_reads : from_tables x (suc j) r s ≡ (ltb (at x.price s) barred && subset s (at x.opens j))
  unfolding from_tables
  test_reads = ap (λ k. ltb (at x.price s) barred && subset s (at x.opens k)) index

  pub may_serve_lem : at x.price s < barred → Sub s (at x.opens j) → T (from_tables x (suc j) r s)
  unfolding from_tables
  may_serve_lem l h =
      subst T (sym (ap₂ ◌&&◌ (lt-ltb (at x.price s) barred l) (eq-eqb (bit_and s (at x.opens (suc j - 1))) s (ap (λ k. bit_and s (at x.opens k)) index ∙ h)))) tt

  pub serve_open : T (from_tables x (suc j) r s) → Sub s (at x.opens j)
  unfolding from_tables
  serve_open h =
      ap (λ k. bit_and s (at x.opens k)) (sym index)
      ∙ eqb→eq (bit_and s (at x.opens (suc j - 1))) s (both_of (ltb (at x.price s) barred) (subset s (at x.opens (suc j - 1))) h).1

pub serve_priced : (x : Tables) (t r s : ℕ) → T (from_tables x t r s) → at x.price s < barred
unfolding from_tables
serve_priced x t r s h = ltb→lt (at x.price s) barred (both_of (ltb (at x.price s) barred) (subset s (at x.opens (t - 1))) h).0

-- ---- the contribution

-- every set of a cell adds the trains that wait alike
pub key_waits : (x : Tables) (t r s : ℕ) → key_from_tables x t r s ≡ set_key_from_tables x t r s + at x.count r
unfolding key_from_tables
key_waits x t r s = refl

module _ {size slots : ℕ} {x : Tables} (g : Given size slots x) where
  -- at most 12 trains revisit
  few_late : (rest s : ℕ) → s < size → at x.count (late_set x.need rest s) ≤ 12
  few_late rest s l = g.few (late_set x.need rest s) (omega (arith, and_le_l s (at x.need rest)))

  -- a key of a set that is not barred, without and with the trains that wait
  priced_fits : (t r s : ℕ) → r < size → Sub s r → at x.price s < barred → set_key_from_tables x t r s + at x.count r < keys_below
  priced_fits t r s l hs p = omega (arith, g.fits t r s l hs p, few_late (r - s) s (omega (arith, sub_le s r hs)), g.few r l)

  pub served_fits : (t r s : ℕ) → r < size → Sub s r → T (from_tables x t r s) → key_from_tables x t r s < keys_below
  served_fits t r s l hs h = omega (arith, key_waits x t r s, priced_fits t r s l hs (serve_priced x t r s h))

  -- what a walk through the sets of m has found stays low, with the trains that wait too
  pub found_low : {cost : List ℕ} {j r m s b c : ℕ} → Rests x cost j r → r < size → Sub m r
      → Tried (from_tables x) (set_key_from_tables x) no_cost (at cost) (suc j) r m s b c → b < no_cost → b + at x.count r < no_cost
  found_low {cost} {j} {r} {m} {c = c} rests l hm h found =
      let hc : Sub c r = sub_trans c m r (h.by.within found) hm in
      let (may, left) = offer_lt no_cost (from_tables x (suc j) r c) (at cost (r - c)) (set_key_from_tables x (suc j) r c) (omega (arith, h.by.reached found)) in
      omega (
        arith,
        h.by.reached found,
        offer_yes no_cost (from_tables x (suc j) r c) (at cost (r - c)) (set_key_from_tables x (suc j) r c) may left,
        rests.low c hc may left,
        priced_fits (suc j) r c l hc (serve_priced x (suc j) r c may),
      )

  -- the whole of r in the last slot, which leaves nothing
  module _ (j r : ℕ) (l : r < size) (may : T (from_tables x (suc j) r r)) where
    nothing : r - r ≡ 0
    nothing = omega arith

    abbrev pub whole_key : ℕ
    whole_key = set_key x 0 r + at x.count r

    pub whole_fits : slot_sum x 0 r < 2 ^ 32
    whole_fits = subst (λ k. slot_sum x k r < 2 ^ 32) nothing (g.fits (suc j) r r l (sub_refl r) (serve_priced x (suc j) r r may))

    whole_key_lem : whole_key ≡ key_from_tables x (suc j) r r
    whole_key_lem = ap (λ k. set_key x k r + at x.count r) (sym nothing) ∙ sym (key_waits x (suc j) r r)

    pub whole_low : whole_key < keys_below
    whole_low = omega (arith, whole_key_lem, served_fits (suc j) r r l (sub_refl r) may)

    pub whole-cell : (whole_key ≡ (last_from x j r).value) × (r ≡ (last_from x j r).set)
    whole-cell =
        let (v, s) = last_whole (from_tables x) (key_from_tables x) no_cost (suc j) r may (omega (arith, served_fits (suc j) r r l (sub_refl r) may)) in
        (whole_key_lem ∙ v, s)
