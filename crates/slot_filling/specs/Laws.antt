-- What the loops over sets use: which sets a choice leaves, what a cell reads, where its choice stands, which cells need no walk, and the
-- trains that may still be served.
-- Assumes nothing.
use Rattle.std.specs.Prelude.{◌≡◌, true, not, ◌||◌, List, ℕ, zero, suc, ◌+◌, ◌-◌, ◌*◌, ◌≤◌, ◌<◌, T, ltb, eqb, length}
use Rattle.std.proofs.Common.{ap, ◌∙◌, subst, ⊎_elim, mul_comm, mul-le-mul, eq-or-lt_of_le, arith, ltb→lt, eq-eqb}
use Rattle.std.proofs.Math.Arith.{digits_lt}
use Rattle.std.specs.Int.Bits.{bit_and, bit_or}
use Rattle.std.specs.Int.Count.{ones}
use Rattle.fold.specs.Test.{of_true, either_of, not_of}
use Rattle.sets.specs.Subset.{Sub, sub_le, sub_refl, sub_trans, sub_or_left, sub_or_right}
use Rattle.optimum.specs.Workspace.{at}
use Rattle.optimum.specs.Stages.{tab, choice}
use Rattle.optimum.proofs.Stages.{tab_small}
use Rattle.optimum.proofs.Direct.{crowded_none, outside_none}
use Rattle.optimum.specs.Layers.{Table}
use Rattle.staging.specs.Tables.{Tables, keys_below, no_cost, from_tables, key_from_tables}
use Rattle.staging.specs.Reachable.{Reachable}
use Rattle.staging.proofs.Reachable.{reachable_next}
use Rattle.cells.specs.declared.Pick.{Pick}
use Rattle.cells.specs.Given.{Given, Rests}
use Rattle.cells.specs.Laws.{serve_open, serve_priced, served_fits}
use Rattle.slot_filling.specs.declared.Sizes.{Sizes}
use Rattle.slot_filling.specs.Given.{Room, Later, Fillable}

module _ {size slots : ℕ} {x : Tables} (g : Given size slots x) where
  -- where no set that may be served has more trains than tracks, a choice from what can remain leaves what can remain
  pub leaves_reachable : {tracks j r : ℕ} (s : ℕ) → Room size tracks x.price → r < size → Reachable size tracks j r → Sub s r
      → T (from_tables x (suc j) r s) → Reachable size tracks (suc j) (r - s)
  leaves_reachable {j = j} {r} s room l h hs may =
      reachable_next s h hs (room.enough s (omega (arith, sub_le s r hs)) (serve_priced x (suc j) r s may))

  -- the next slot's table, of at most 7 slots, is what a cell reads
  pub table_rests : {tracks j k r : ℕ} {a : List ℕ}
      → Table (from_tables x) (key_from_tables x) no_cost (Reachable size tracks) k (slots - suc j) (suc j) a
      → Room size tracks x.price → Reachable size tracks j r → j < slots → r < k → k ≤ size → size ≤ length a → Rests x a j r
  table_rests {tracks} {j} {k} {r} {a} h room here l q n b =
      record {
        long = omega arith;
        low = λ s hs may v.
            let ok = from_tables x in
            let w = key_from_tables x in
            let i : ℕ = r - s in
            let e : at a i ≡ tab ok w no_cost (slots - suc j) (suc (suc j)) i = h.holds i (omega arith) (leaves_reachable s room (omega arith) here hs may) in
            let b : tab ok w no_cost (slots - suc j) (suc (suc j)) i ≤ (slots - suc j) * keys_below =
            tab_small ok w no_cost (suc (suc slots)) i (keys_below) (λ t r s d b hs m. omega (arith, served_fits g t r s (omega arith) hs m)) (slots - suc j) (suc (suc j)) i
            (omega arith) (omega arith) (omega arith) in
            let eight : slots ≤ 8 = g.stages.1 in
            omega arith;
      }

  -- the word of a cell's choice
  pub choice_place : (j r : ℕ) → j < slots → r < size → (j * size + r < slots * size) × (slots * size ≤ 32768)
  choice_place j r a b = (digits_lt a b, mul-le-mul g.stages.1 g.sets.1)

  -- ---- cells that are known without a walk

  -- a set of more trains than the slots left have tracks for
  pub crowded-cell : {tracks : ℕ} (k t r : ℕ) → Room size tracks x.price → r < size → tracks * k < ones r
      → (no_cost ≡ tab (from_tables x) (key_from_tables x) no_cost k t r)
      × (0 ≡ choice (from_tables x) (key_from_tables x) no_cost k t r)
  crowded-cell {tracks} k t r room l c =
      crowded_none (from_tables x) (key_from_tables x) no_cost r tracks
      (λ t q s b hs may. room.enough s (omega (arith, sub_le s q hs)) (serve_priced x t q s may)) k t r (omega arith)
      (omega (arith, mul_comm tracks k))

-- ---- the trains that may still be served, from the last slot down

pub later_last : (slots : ℕ) (opens : List ℕ) (j : ℕ) → suc j ≡ slots → Later slots j (at opens j) opens
later_last slots opens j e =
    record { holds = λ i l m. let same : j ≡ i = omega arith in subst (λ x. Sub (at opens x) (at opens j)) same (sub_refl (at opens j)) }

pub later_next : {slots j later : ℕ} {opens : List ℕ} (k : ℕ) → Later slots j later opens → suc k ≡ j → Later slots k (bit_or later (at opens k)) opens
later_next {j = j} {later} {opens} k h e =
    record {
      holds = λ i l m.
          ⊎_elim
          (λ (same : k ≡ i). subst (λ x. Sub (at opens x) (bit_or later (at opens k))) same (sub_or_right (at opens k) later (at opens k) (sub_refl (at opens k))))
          (λ (behind : k < i). sub_or_left (at opens i) later (at opens k) (h.holds i (omega arith) m))
          (eq-or-lt_of_le l);
    }

-- a set with a train that may be served no more
pub closed_cell : {slots later : ℕ} (x : Tables) (j r : ℕ) → Later slots j later x.opens → j ≤ slots → (Sub r later → ⊥)
    → (no_cost ≡ tab (from_tables x) (key_from_tables x) no_cost (slots - j) (suc j) r)
    × (0 ≡ choice (from_tables x) (key_from_tables x) no_cost (slots - j) (suc j) r)
closed_cell {slots} {later} x j r h l not =
    outside_none (from_tables x) (key_from_tables x) no_cost (suc j) (suc slots) later inside (slots - j) (suc j) r (omega arith) (omega arith) not
  where
    inside : (t q s : ℕ) → suc j ≤ t → t < suc slots → T (from_tables x t q s) → Sub s later
    inside zero q s a b may = absurd (omega arith)
    inside (suc i) q s a b may = sub_trans s (at x.opens i) later (serve_open x i q s may) (h.holds i (omega arith) (omega arith))

-- the code's test: a set for which there is no room, or with a train that may be served no more
pub hopeless_cell : {size slots tracks later : ℕ} {x : Tables} (j r : ℕ) → Given size slots x → Room size tracks x.price
    → Later slots j later x.opens → j ≤ slots → r < size → (ltb (tracks * (slots - j)) (ones r) || not (eqb (bit_and r later) r)) ≡ true
    → (no_cost ≡ tab (from_tables x) (key_from_tables x) no_cost (slots - j) (suc j) r)
    × (0 ≡ choice (from_tables x) (key_from_tables x) no_cost (slots - j) (suc j) r)
hopeless_cell {slots = slots} {tracks} {later} {x} j r g room h l in_size e =
    let crowded = ltb (tracks * (slots - j)) (ones r) in
    ⊎_elim (λ a. crowded-cell g (slots - j) (suc j) r room in_size (ltb→lt (tracks * (slots - j)) (ones r) a))
    (λ a. closed_cell x j r h l (λ q. not_of (eqb (bit_and r later) r) a (of_true (eq-eqb (bit_and r later) r q))))
    (either_of crowded (not (eqb (bit_and r later) r)) (of_true e))

-- the value and the set of a pick, from the pick that it is
pub same_pick : {p q : Pick} {v u : ℕ} → p ≡ q → (q.value ≡ v) × (q.set ≡ u) → (p.value ≡ v) × (p.set ≡ u)
same_pick e h = (ap (λ x. x.value) e ∙ h.0, ap (λ x. x.set) e ∙ h.1)

-- ---- slot after slot

-- the areas are still as long
pub fillable_still : {n : Sizes} {x : Tables} {a₀ c₀ a c : List ℕ} → Fillable n x a₀ c₀ → length a ≡ length a₀ → length c ≡ length c₀ → Fillable n x a c
fillable_still h p q =
    let costs = h.costs in
    let choices = h.choices in
    record { tables = h.tables; room = h.room; costs = omega arith; choices = omega arith }
