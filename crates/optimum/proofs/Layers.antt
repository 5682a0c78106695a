-- Laws of Layers.antt of specs/.
-- The table in one workspace of N words, N the number of sets. The table of the next stage is turned into this stage's in place, from the
-- last set down to the empty one: a cell reads at what remains, which is no larger than its own set, so it reads what is still old. In a
-- second workspace, of m * N words for m stages, the choices of all stages are kept, those of stage j + 1 from the word j * N on.
-- `Solved` is the loop over the stages, `Stage` the loop over the sets.
-- Not every cell need be filled: `wanted j r` says which are, where j stages are passed and r remains. What the choices of a wanted cell
-- leave must be wanted (`Closed`); the words of the other cells may hold anything. Where all are wanted (`Every`) this is the whole table.
-- Assumes nothing.
use Rattle.std.specs.Prelude.{◌≡◌, List, ℕ, suc, ◌+◌, ◌-◌, ◌*◌, ◌/◌, ◌%◌, ◌≤◌, ◌<◌, T, length, set}
use Rattle.std.proofs.Common.{sym, ap, ap₂, ◌∙◌, subst, subst₂, ⊎_elim, arith, get_or-set_other}
use Rattle.std.proofs.Math.Arith.{digits_lt, digits_div, digits_mod}
use Rattle.fold.specs.Counting.{le_or_lt}
use Rattle.sets.specs.Subset.{Sub}
use Rattle.optimum.specs.Workspace.{at, Kept}
use Rattle.optimum.proofs.Workspace.{kept_here, kept_then, kept_set, set_at}
use Rattle.optimum.specs.Schedules.{Test, Contribution}
use Rattle.optimum.specs.Stages.{cell, tab, choice}
use Rattle.optimum.proofs.Stages.{cell_reads}
use Rattle.optimum.specs.Layers.{Closed, Every, choice_at, Table, Choices, Solved, Stage}

module _ {ok : Test} {w : Contribution} {inf : ℕ} {wanted : ℕ → ℕ → Type 0} where
  -- ---- the next stage's table, which a stage reads: below the set that was written last it still stands

  -- a wanted cell reads at wanted sets up to r: where the next stage's table stands there, it is this stage's
  pub table-cell : {x k j : ℕ} {a : List ℕ} (r : ℕ) → Table ok w inf wanted x k (suc j) a → r < x
      → ((s : ℕ) → Sub s r → T (ok (suc j) r s) → wanted (suc j) (r - s))
      → ((cell ok w inf (at a) (suc j) r).value ≡ tab ok w inf (suc k) (suc j) r) × ((cell ok w inf (at a) (suc j) r).set ≡ choice ok w inf (suc k) (suc j) r)
  unfolding tab choice
  table-cell {k = k} {j} {a} r h q closed =
      cell_reads ok w inf (at a) (tab ok w inf k (suc (suc j))) (suc j) r (λ s hs may. h.holds (r - s) (omega arith) (closed s hs may))

  pub table_put : {x k j : ℕ} {a : List ℕ} (r v : ℕ) → Table ok w inf wanted x k j a → r < x → Table ok w inf wanted r k j (set a r v)
  table_put {a = a} r v h q = record { holds = λ i l z. get_or-set_other a r i v 0 (λ e. omega arith) ∙ h.holds i (omega arith) z }

  pub table_less : {x k j : ℕ} {a : List ℕ} (r : ℕ) → Table ok w inf wanted x k j a → r ≤ x → Table ok w inf wanted r k j a
  table_less r h q = record { holds = λ i l z. h.holds i (omega arith) z }

  -- ---- the loop over the sets

  -- of the last stage: no choice is written yet
  pub stage_last : {N m : ℕ} (j : ℕ) (a c : List ℕ) → suc j ≡ m → Stage ok w inf wanted N m j N a c a c
  stage_last {N} {m} j a c e =
      record {
        within = omega arith;
        kept = kept_here N a;
        new = λ i p q z. absurd (omega arith);
        choices = record { kept = kept_here (m * N) c; done = λ i p q z. absurd (omega (arith, ap (λ y. y * N) e)) };
      }

  -- of a stage before: those of the stages behind it stand
  pub stage_start : {N m j : ℕ} {a₀ c₀ a c : List ℕ} (i : ℕ) → Solved ok w inf wanted N m j a₀ c₀ a c → suc i ≡ j → Stage ok w inf wanted N m i N a c a c
  stage_start {N} {m} {j} {a₀} {c₀} {a} {c} i h e =
      record {
        within = omega arith;
        kept = kept_here N a;
        new = λ k p q z. absurd (omega arith);
        choices = record { kept = kept_here (m * N) c; done = λ x p q z. h.choices.done x (omega (arith, ap (λ y. y * N) e)) q z };
      }

  -- one set more: its cell is written, the choice in the word y
  pub stage_next : {N m j x : ℕ} {a₀ c₀ a c : List ℕ} (r y v s : ℕ) → Stage ok w inf wanted N m j x a₀ c₀ a c → suc r ≡ x → y ≡ j * N + r → j < m
      → N ≤ length a → m * N ≤ length c → (v ≡ tab ok w inf (m - j) (suc j) r) × (s ≡ choice ok w inf (m - j) (suc j) r)
      → Stage ok w inf wanted N m j r a₀ c₀ (set a r v) (set c y s)
  stage_next {N} {m} {j} {x} {a₀} {c₀} {a} {c} r y v s h o f l b k e =
      let in_size : r < N = omega (arith, h.within) in
      let in_words : y < m * N = omega (arith, digits_lt l in_size) in
      let kept_word : s ≡ choice_at ok w inf N m y =
      e.1 ∙ sym (ap (choice_at ok w inf N m) f ∙ ap₂ (λ x y. choice ok w inf (m - x) (suc x) y) (digits_div j in_size) (digits_mod j in_size)) in
      record {
        within = omega arith;
        kept = kept_set r v h.kept in_size;
        new = λ i p q z. set_at a r v (tab ok w inf (m - j) (suc j)) (omega arith) e.0 i (λ d. h.new i (omega arith) q z);
        choices = record {
          kept = kept_set y s h.choices.kept in_words;
          done = λ i p q z. set_at c y s (choice_at ok w inf N m) (omega arith) kept_word i (λ d. h.choices.done i (omega arith) q z);
        };
      }

  -- sets that are not wanted are passed over
  pub stage_pass : {N m j x : ℕ} {a₀ c₀ a c : List ℕ} (y : ℕ) → Stage ok w inf wanted N m j x a₀ c₀ a c → y ≤ x → ((i : ℕ) → y ≤ i → i < x → wanted j i → ⊥)
      → Stage ok w inf wanted N m j y a₀ c₀ a c
  stage_pass {N} {m} {j} {x} {a = a} {c} y h l none =
      record {
        within = omega (arith, h.within);
        kept = h.kept;
        new = λ i p q z. ⊎_elim (λ (b : x ≤ i). h.new i b q z) (λ (b : i < x). absurd (none i p b z)) (le_or_lt x i);
        choices = record {
          kept = h.choices.kept;
          done = λ i p q z. ⊎_elim (λ (b : j * N + x ≤ i). h.choices.done i b q z) (λ (b : i < j * N + x). absurd (skipped i p b z)) (le_or_lt (j * N + x) i);
        };
      }
    where
      -- the word of a set from y on below x
      skipped : (i : ℕ) → j * N + y ≤ i → i < j * N + x → wanted (i / N) (i % N) → ⊥
      skipped i p b z =
          let r : ℕ = i - j * N in
          let in_size : r < N = omega (arith, h.within) in
          let e : i ≡ j * N + r = omega arith in
          none r (omega arith) (omega arith) (subst₂ wanted (ap (λ k. k / N) e ∙ digits_div j in_size) (ap (λ k. k % N) e ∙ digits_mod j in_size) z)

  pub stage_end : {N m j x : ℕ} {a₀ c₀ a c : List ℕ} → Stage ok w inf wanted N m j x a₀ c₀ a c → x ≡ 0 → j < m → Solved ok w inf wanted N m j a₀ c₀ a c
  stage_end h e l =
      record {
        within = omega arith;
        kept = h.kept;
        table = record { holds = λ i q z. h.new i (omega arith) q z };
        choices = record { kept = h.choices.kept; done = λ i p q z. h.choices.done i (omega arith) q z };
      }

  -- ---- the loop over the stages

  -- what the next stage reads
  pub solved_reads : {N m j : ℕ} {a₀ c₀ a c : List ℕ} (i : ℕ) → Solved ok w inf wanted N m j a₀ c₀ a c → suc i ≡ j → Table ok w inf wanted N (m - suc i) (suc i) a
  solved_reads {N} {m} {a = a} i h e = subst (λ x. Table ok w inf wanted N (m - x) x a) (sym e) h.table

  -- a call speaks of the workspaces that it was lent: they are as they stand, and a₀ and c₀ came before
  pub solved_here : {N m j : ℕ} {a₀ c₀ a c : List ℕ} (i : ℕ) → Solved ok w inf wanted N m j a₀ c₀ a c → j ≡ i → Solved ok w inf wanted N m i a c a c
  solved_here {N} {m} {a = a} {c} i h e =
      subst (λ x. Solved ok w inf wanted N m x a c a c) e
      (record { within = h.within; kept = kept_here N a; table = h.table; choices = record { kept = kept_here (m * N) c; done = h.choices.done } })

  pub solved_then : {N m j k : ℕ} {a₀ c₀ a₁ c₁ a c : List ℕ} (i : ℕ) → Solved ok w inf wanted N m j a₀ c₀ a₁ c₁ → Solved ok w inf wanted N m k a₁ c₁ a c → k ≡ i
      → Solved ok w inf wanted N m i a₀ c₀ a c
  solved_then {N} {m} {a₀ = a₀} {c₀} {a = a} {c} i g h e =
      subst (λ x. Solved ok w inf wanted N m x a₀ c₀ a c) e
      (record {
        within = h.within;
        kept = kept_then g.kept h.kept;
        table = h.table;
        choices = record { kept = kept_then g.choices.kept h.choices.kept; done = h.choices.done };
      })

  -- where every cell is filled, those that are wanted are
  pub solved_some : {N m j : ℕ} {a₀ c₀ a c : List ℕ} → Solved ok w inf Every N m j a₀ c₀ a c → Solved ok w inf wanted N m j a₀ c₀ a c
  solved_some h =
      record {
        within = h.within;
        kept = h.kept;
        table = record { holds = λ i l z. h.table.holds i l tt };
        choices = record { kept = h.choices.kept; done = λ i p q z. h.choices.done i p q tt };
      }

  -- ---- behind the two loops: the table of the first stage, and the choices of all

  pub solved_table : {N m : ℕ} {a₀ c₀ a c : List ℕ} → Solved ok w inf wanted N m 0 a₀ c₀ a c → (r : ℕ) → r < N → wanted 0 r → at a r ≡ tab ok w inf m 1 r
  solved_table {N} {m} h r l z = let all : m - 0 ≡ m = omega arith in h.table.holds r l z ∙ ap (λ k. tab ok w inf k 1 r) all

  pub solved_choice : {N m : ℕ} {a₀ c₀ a c : List ℕ} → Solved ok w inf wanted N m 0 a₀ c₀ a c → (j r : ℕ) → j < m → r < N → wanted j r
      → at c (j * N + r) ≡ choice ok w inf (m - j) (suc j) r
  solved_choice {N} {m} h j r p q z =
      h.choices.done (j * N + r) (omega arith) (digits_lt p q) (subst₂ wanted (sym (digits_div j q)) (sym (digits_mod j q)) z)
      ∙ ap₂ (λ x y. choice ok w inf (m - x) (suc x) y) (digits_div j q) (digits_mod j q)
