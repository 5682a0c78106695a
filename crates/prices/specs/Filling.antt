-- The loops that fill the table of split moves, by the laws of Splits.antt, and the one that prices it.
-- Assumes nothing.
use Rattle.std.specs.Prelude.{◌≡◌, List, ℕ, suc, ◌+◌, ◌-◌, ◌*◌, ◌^◌, ◌≤◌, ◌<◌, length, set}
use Rattle.std.proofs.Common.{sym, ap, ◌∙◌, ⊎_elim, pow-suc, arith, pow_mono}
use Rattle.fold.specs.Counting.{le_or_lt}
use Rattle.optimum.specs.Workspace.{at}
use Rattle.optimum.proofs.Workspace.{kept_then}
use Rattle.staging.specs.Tables.{from_outside}
use Rattle.prices.specs.Entries.{with_pair, price_of, split_cost}
use Rattle.tables.specs.Filled.{Filled, Added, filled_none, filled_next, filled_end, added-filled}
use Rattle.tables.specs.Doubled.{two_sets}
use Rattle.prices.specs.Splits.{split_empty, split_pair, split_grows}

-- ---- what stands in the table is bounded: a train receives at most 255 boxes from each of 12

-- the split moves of the sets of the first k trains
abbrev pub Bounded : ℕ → (ℕ → ℕ → ℕ) → ℕ → Type 0
Bounded n a k = (s : ℕ) → s < 2 ^ k → from_outside n a s ≤ 3060 * k

pub bounded_none : (n : ℕ) (a : ℕ → ℕ → ℕ) → Bounded n a 0
bounded_none n a s l =
    let e : s ≡ 0 = omega arith in
    omega (arith, ap (from_outside n a) e, split_empty n a)

pub bounded_next : (n : ℕ) (a : ℕ → ℕ → ℕ) (k : ℕ) → Bounded n a k → k < n → from_outside n a (2 ^ k) ≤ 3060 → Bounded n a (k + 1)
bounded_next n a k h l one s q =
    ⊎_elim
    (λ (z : 2 ^ k ≤ s).
    let e : 2 ^ k + (s - 2 ^ k) ≡ s = omega arith in
    let rest : s - 2 ^ k < 2 ^ k = omega (arith, two_sets k) in
    omega (arith, ap (from_outside n a) e, split_grows n a k l (s - 2 ^ k) rest, h (s - 2 ^ k) rest))
    (λ (z : s < 2 ^ k). omega (arith, h s z)) (le_or_lt (2 ^ k) s)

-- ---- the loops that fill the table

-- what `join_pair` is given: bounded entries of the sets below `size + below`, room for `below` more, and no difference below 0
pub record Joinable (size below pair : ℕ) (b : List ℕ) : Type 0 where
  pub few : size ≤ 4096
  pub apart : below ≤ size
  pub room : size + below + below ≤ length b
  pub small : (x : ℕ) → x < size + below → at b x ≤ 36720
  pub less : (m : ℕ) → m < below → at b m + pair ≤ at b (below + m) + at b (size + m)

-- the empty set alone
pub split_first : (n : ℕ) (a : ℕ → ℕ → ℕ) (b : List ℕ) → 0 < length b → Filled (from_outside n a) 1 b (set b 0 0)
split_first n a b l = filled_next 0 (filled_none (from_outside n a) b) l (sym (split_empty n a))

module _ (n : ℕ) (a : ℕ → ℕ → ℕ) {c₀ c : List ℕ} (size below : ℕ) (h : Filled (from_outside n a) (size + below) c₀ c)
    (k b : ℕ) (e : size ≡ 2 ^ k) (d : below ≡ 2 ^ b) (l : k < n) (q : b < k) where
  -- the equation of the set m with both trains, of what stands in the table
  pair-at : (m : ℕ) → m < below → from_outside n a (size + below + m) + (at c m + (a k b + a b k)) ≡ at c (below + m) + at c (size + m)
  pair-at m r =
      let apart : 2 ^ b ≤ 2 ^ k = pow_mono {i = b} {j = k} (omega arith) in
      let whole : 2 ^ k + (2 ^ b + m) ≡ size + below + m = omega arith in
      let upper : 2 ^ b + m ≡ below + m = omega arith in
      let outer : 2 ^ k + m ≡ size + m = omega arith in
      omega (
        arith,
        split_pair n a k l b m q (omega arith),
        ap (from_outside n a) whole,
        ap (from_outside n a) upper,
        ap (from_outside n a) outer,
        h.all m (omega arith),
        h.all (below + m) (omega arith),
        h.all (size + m) (omega arith),
      )

  pub pair_joinable : (pair : ℕ) → pair ≡ a k b + a b k → n ≤ 12 → Bounded n a (k + 1) → size + size ≤ length c → Joinable size below pair c
  pair_joinable pair p few bound room =
      let both : below + below ≤ size = omega (arith, pow-suc 2 b, pow_mono {i = suc b} {j = k} q) in
      record {
        few = omega (arith, pow_mono {i = k} {j = 12} (omega arith));
        apart = omega arith;
        room = omega arith;
        small = λ x r. omega (arith, h.all x r, bound x (omega (arith, two_sets k)));
        less = λ m r. omega (arith, pair-at m r);
      }

  pub pair-next : {f : List ℕ} (pair : ℕ) → pair ≡ a k b + a b k → Added (with_pair c size below pair) (size + below) below c f
      → Filled (from_outside n a) (size + (below + below)) c₀ f
  pair-next pair p g =
      filled_end (size + (below + below)) (added-filled h g (λ m r. omega (arith, pair-at m r))) (omega arith) (omega arith)

-- ---- the prices of the filled split moves

pub split_priced : (n : ℕ) (a : ℕ → ℕ → ℕ) {N : ℕ} {b₀ b c : List ℕ} (tracks split : ℕ) → Filled (from_outside n a) N b₀ b
    → Filled (λ s. price_of tracks split s (at b s)) N b c → Filled (split_cost n a tracks split) N b₀ c
split_priced n a tracks split h g =
    record { kept = kept_then h.kept g.kept; all = λ x l. g.all x l ∙ ap (price_of tracks split x) (h.all x l) }
