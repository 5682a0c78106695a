-- A table that is filled from its first word on: the words below N are a function's values, and those from N on are as they were. It
-- grows by a word, or by words that are added behind those that it has.
-- Assumes nothing.
use Rattle.std.specs.Prelude.{◌≡◌, refl, List, ◌⊎◌, ◌≢◌, ℕ, ◌+◌, ◌-◌, ◌≤◌, ◌<◌, ◌++◌, length, get_or, set, take, drop}
use Rattle.std.proofs.lemmas.List.{length-take-le, get_or_append_left}
use Rattle.std.proofs.lemmas.Slice.{drop-append-drop}
use Rattle.std.proofs.Math.Seq.{length_front}
use Rattle.std.proofs.Common.{sym, ap, ◌∙◌, subst, inl, inr, le_antisymm, arith, drop-drop, get_or-drop, get_or-set_same, get_or-set_other}
use Rattle.fold.specs.Counting.{same_or, le_or_lt}
use Rattle.optimum.specs.Workspace.{at, Kept}
use Rattle.optimum.proofs.Workspace.{kept_here, kept_then, kept_set, set_at}

pub record Filled (f : ℕ → ℕ) (N : ℕ) (a₀ a : List ℕ) : Type 0 where
  pub kept : Kept N a₀ a
  pub all : (x : ℕ) → x < N → at a x ≡ f x

-- where at most N words have changed, at most M ≥ N have
pub kept_more : {N : ℕ} {a₀ a : List ℕ} (M : ℕ) → Kept N a₀ a → N ≤ M → Kept M a₀ a
kept_more {N} {a₀} {a} M k l =
    let e : N + (M - N) ≡ M = omega arith in
    let later : (b : List ℕ) → drop M b ≡ drop (M - N) (drop N b) = λ b. sym (drop-drop (M - N) N b ∙ ap (λ (x : ℕ). drop x b) e) in
    record { long = k.long; rest = later a ∙ ap (drop (M - N)) k.rest ∙ sym (later a₀) }

-- ---- the loop that fills: where it begins, its next turn, its end

pub filled_none : (f : ℕ → ℕ) (a : List ℕ) → Filled f 0 a a
filled_none f a = record { kept = kept_here 0 a; all = λ x l. absurd (omega arith) }

module _ {f : ℕ → ℕ} {N : ℕ} {a₀ a : List ℕ} where
  pub filled_next : (v : ℕ) → Filled f N a₀ a → N < length a → v ≡ f N → Filled f (N + 1) a₀ (set a N v)
  filled_next v h l e =
      record {
        kept = kept_set N v (kept_more (N + 1) h.kept (omega arith)) (omega arith);
        all = λ x m. set_at a N v f l e x (λ d. h.all x (omega arith));
      }

  pub filled_end : (M : ℕ) → Filled f N a₀ a → N ≤ M → M ≤ N → Filled f M a₀ a
  filled_end M h l m = subst (λ (x : ℕ). Filled f x a₀ a) (le_antisymm l m) h

  -- a table that was filled up to N before a loop began: as the loop finds it, and after the loop
  pub filled_here : Filled f N a₀ a → Filled f N a a
  filled_here h = record { kept = kept_here N a; all = h.all }

  pub filled_since : {M : ℕ} {b : List ℕ} → Filled f N a₀ a → N ≤ M → Filled f M a b → Filled f M a₀ b
  filled_since {M} h l g = record { kept = kept_then (kept_more M h.kept l) g.kept; all = g.all }

-- a loop that reads each word before it writes it: the next word is as it was
pub unread : {N : ℕ} {a₀ a : List ℕ} → Kept N a₀ a → at a N ≡ at a₀ N
unread {N} {a₀} {a} h =
    let e : N + 0 ≡ N = omega arith in
    let here : (b : List ℕ) → get_or (drop N b) 0 0 ≡ at b N = λ b. get_or-drop N b 0 0 ∙ ap (λ (x : ℕ). get_or b x 0) e in
    sym (here a) ∙ ap (λ (b : List ℕ). get_or b 0 0) h.rest ∙ here a₀

-- a loop over the first N words alone: what it leaves, and the words behind them
pub filled_front : {f g : ℕ → ℕ} {n : ℕ} {a b : List ℕ} (N : ℕ) → Filled f n (take N a) b → N ≤ n → N ≤ length a → ((x : ℕ) → x < N → f x ≡ g x)
    → Filled g N a (b ++ drop N a)
filled_front {f} {g} {n} {a} {b} N h l m same =
    let front : length b ≡ N = h.kept.long ∙ length-take-le N a m in
    record {
      kept = record { long = length_front a b N h.kept.long; rest = drop-append-drop N a b N (omega arith) front };
      all = λ x q. get_or_append_left b (drop N a) 0 x (omega arith) ∙ h.all x (omega arith) ∙ same x q;
    }

-- ---- words added behind the first `base` ones, which stay as they are: the added word y is g y

pub record Added (g : ℕ → ℕ) (base count : ℕ) (a₀ a : List ℕ) : Type 0 where
  pub kept : Kept (base + count) a₀ a
  pub old : (x : ℕ) → x < base → at a x ≡ at a₀ x
  pub new : (y : ℕ) → y < count → at a (base + y) ≡ g y

pub added_none : (g : ℕ → ℕ) (base : ℕ) (a : List ℕ) → Added g base 0 a a
added_none g base a = record { kept = kept_here (base + 0) a; old = λ x l. refl; new = λ y l. absurd (omega arith) }

module _ {g : ℕ → ℕ} {base count : ℕ} {a₀ a : List ℕ} where
  pub added_next : (v : ℕ) → Added g base count a₀ a → base + count < length a → v ≡ g count → Added g base (count + 1) a₀ (set a (base + count) v)
  added_next v h l e =
      record {
        kept = kept_set (base + count) v (kept_more (base + (count + 1)) h.kept (omega arith)) (omega arith);
        old = λ x m. get_or-set_other a (base + count) x v 0 (λ q. omega arith) ∙ h.old x m;
        new = λ y m. is y m (same_or y count);
      }
    where
      is : (y : ℕ) → y < count + 1 → (y ≡ count) ⊎ (y ≢ count) → at (set a (base + count) v) (base + y) ≡ g y
      is y m (inl z) = subst (λ (x : ℕ). at (set a (base + count) v) (base + x) ≡ g x) (sym z) (get_or-set_same a (base + count) v 0 l ∙ e)
      is y m (inr z) = get_or-set_other a (base + count) (base + y) v 0 (λ q. z (omega arith)) ∙ h.new y (omega arith)

  pub added_end : (M : ℕ) → Added g base count a₀ a → count ≤ M → M ≤ count → Added g base M a₀ a
  added_end M h l m = subst (λ (x : ℕ). Added g base x a₀ a) (le_antisymm l m) h

-- a filled table, and the function's next values added to it
pub added-filled : {f g : ℕ → ℕ} {base count : ℕ} {a₀ a b : List ℕ} → Filled f base a₀ a → Added g base count a b
    → ((y : ℕ) → y < count → g y ≡ f (base + y)) → Filled f (base + count) a₀ b
added-filled {f} {g} {base} {count} {a₀} {a} {b} h d s =
    record {
      kept = kept_then (kept_more (base + count) h.kept (omega arith)) d.kept;
      all = λ x l. is x l (le_or_lt base x);
    }
  where
    is : (x : ℕ) → x < base + count → (base ≤ x) ⊎ (x < base) → at b x ≡ f x
    is x l (inl q) =
        let e : base + (x - base) ≡ x = omega arith in
        subst (λ (z : ℕ). at b z ≡ f z) e (d.new (x - base) (omega arith) ∙ s (x - base) (omega arith))
    is x l (inr q) = d.old x q ∙ h.all x q
