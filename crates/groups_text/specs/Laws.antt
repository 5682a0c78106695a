-- The laws that the proofs of writing the groups cite, and that the section is the one of the file.
-- Assumes nothing.
use Rattle.std.specs.Prelude.{◌≡◌, true, false, cond, ltb}
use Rattle.std.proofs.Math.Path.{refl, ap₂}
use Rattle.std.proofs.Common.{sym, ap, ◌∙◌, subst, inl, ⊎_elim, add-one, arith, ltb→lt, lt→ltb}
use mathlib.Core.List.{List, [], ◌∷◌, ◌++◌, append-nil}
use Prim.Native.Nat.{ℕ, zero, suc, ◌+◌, ◌<◌}
use Rattle.std.proofs.Math.ListN.{get_or}
use borrow.Author.Tests.{eq-eqb, ne_eqb}
use Rattle.fold.specs.Test.{is_true, is_false, test}
use Rattle.fold.specs.Fold.{some_at, some_of}
use Rattle.fold.specs.Listed.{joined, joined_ext}
use Rattle.model.specs.Model.{group_of}
use Rattle.model.specs.Groups.{GroupsUpTo}
use Rattle.lines.specs.Lines.{row_text, rows_text}
use Rattle.output.specs.Laws.{rows_joined}
use Rattle.dayfile.specs.Reading.{group_names}
use Rattle.dayfile.specs.Writing.{groups_text, member_rows, group_rows}
use Rattle.dayfile.specs.Stored.{In, in_joined}
use Rattle.groups_text.specs.Texts.{member_text, group_text, has_groups, sets_text}

-- ---- the row of a position in a group

module _ (numbers groups : List ℕ) (g i : ℕ) where
  pub member_none : (group_of groups i ≡ g → ⊥) → member_text numbers groups g i ≡ []
  unfolding rows_text member_rows
  member_none h = rw (ne_eqb (group_of groups i) g h)

  pub member_some : group_of groups i ≡ g → member_text numbers groups g i ≡ row_text (g ∷ get_or numbers i 0 ∷ [])
  unfolding rows_text member_rows
  member_some e = rw (eq-eqb (group_of groups i) g e) (append-nil _)

-- group g + 1, as the code counts it
pub group_text_lem : (n : ℕ) (numbers groups : List ℕ) (g : ℕ) → joined n (member_text numbers groups (g + 1)) ≡ group_text n numbers groups g
group_text_lem n numbers groups g = ap (λ k. joined n (member_text numbers groups k)) (add-one g)

-- ---- the fourth section, where a train has a group and where none has

module _ (k n : ℕ) (numbers groups : List ℕ) where
  pub sets_none : has_groups n groups ≡ false → sets_text k n numbers groups ≡ []
  sets_none e = ap (λ b. cond b (group_names ++ joined k (group_text n numbers groups)) []) e

  pub sets_some : has_groups n groups ≡ true → sets_text k n numbers groups ≡ group_names ++ joined k (group_text n numbers groups)
  sets_some e = ap (λ b. cond b (group_names ++ joined k (group_text n numbers groups)) []) e

-- its rows are the file's: there are some exactly where a train has a group

module _ (k n : ℕ) (numbers groups : List ℕ) (low : GroupsUpTo k n groups) where
  abbrev rows : List (List ℕ)
  rows = joined k λ g. group_rows n numbers groups (suc g)

  -- the rows of the groups, in text
  rows_text_lem : rows_text rows ≡ joined k (group_text n numbers groups)
  unfolding group_rows
  rows_text_lem = rows_joined k (λ g. group_rows n numbers groups (suc g)) ∙ joined_ext k _ _ (λ g h. rows_joined n (member_rows numbers groups (suc g)))

  -- some train has a group: its row is among them
  some-row : (i : ℕ) → i < n → 0 < group_of groups i → rows ≡ [] → ⊥
  unfolding group_rows member_rows
  some-row i h p e = go (group_of groups i) refl
    where
      at : (g : ℕ) → group_of groups i ≡ suc g → In (suc g ∷ get_or numbers i 0 ∷ []) rows
      at g q =
          in_joined (λ g. group_rows n numbers groups (suc g)) (suc g ∷ get_or numbers i 0 ∷ []) k g (omega (arith, low i h))
          (in_joined (member_rows numbers groups (suc g)) (suc g ∷ get_or numbers i 0 ∷ []) n i h (rw (eq-eqb (group_of groups i) (suc g) q) (inl refl)))

      go : (x : ℕ) → group_of groups i ≡ x → ⊥
      go zero q = omega arith
      go (suc g) q = subst (In (suc g ∷ get_or numbers i 0 ∷ [])) e (at g q)

  -- no train has a group: there are no rows
  no_row_lem : ((i : ℕ) → i < n → group_of groups i ≡ 0) → rows ≡ []
  unfolding group_rows member_rows joined
  no_row_lem none =
      empty k _ (λ g h. empty n _ (λ i l. rw (none i l, ne_eqb 0 (suc g) (λ e. omega arith))))
    where
      empty : (m : ℕ) (f : ℕ → List (List ℕ)) → ((i : ℕ) → i < m → f i ≡ []) → joined m f ≡ []
      empty zero f h = refl
      empty (suc m) f h = ap₂ (λ (x y : List (List ℕ)). x ++ y) (empty m f (λ i l. h i (omega arith))) (h m (omega arith))

  written : (r : List (List ℕ)) → (r ≡ [] → ⊥) → groups_text r ≡ group_names ++ rows_text r
  written [] h = absurd (h refl)
  written (r ∷ rs) h = refl

  pub sets_text_lem : groups_text (joined k λ g. group_rows n numbers groups (suc g)) ≡ sets_text k n numbers groups
  sets_text_lem =
      ⊎_elim
      (λ t.
      let (i, h, p) = some_of n (λ i. ltb 0 (group_of groups i)) t in
      written rows (some-row i h (ltb→lt 0 (group_of groups i) p)) ∙ ap (λ (x : List ℕ). group_names ++ x) rows_text_lem
      ∙ sym (sets_some k n numbers groups (is_true (has_groups n groups) t)))
      (λ t.
      ap groups_text (no_row_lem (λ i h. zero_of (group_of groups i) (λ p. t (some_at n (λ i. ltb 0 (group_of groups i)) i h (lt→ltb 0 (group_of groups i) p)))))
      ∙ sym (sets_none k n numbers groups (is_false (has_groups n groups) t)))
      (test (has_groups n groups))
    where
      zero_of : (x : ℕ) → (0 < x → ⊥) → x ≡ 0
      zero_of zero h = refl
      zero_of (suc x) h = absurd (h (omega arith))
