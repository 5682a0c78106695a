-- The groups of a day file as the code's loop reads them: what has been read so far, and what is left to read.
-- Assumes nothing.
use Rattle.std.proofs.Math.Path.{◌≡◌, refl, sym, ap}
use Rattle.std.proofs.Common.{◌∙◌, arith, ltb→lt, length-append, length-drop, drop_of_length-le, drop-cons}
use Rattle.std.specs.Prelude.{true, false, not, ◌&&◌, ℕ, suc, ◌+◌, ◌-◌, ◌≤◌, ◌<◌, T, set, drop, replicate, Result, Ok, Err}
use mathlib.Core.List.{List, [], ◌∷◌, ◌++◌, append-nil}
use Rattle.std.proofs.Math.ListN.{length}
use Rattle.fold.specs.Test.{both_of}
use Rattle.day.specs.Answer.{Answer, gives, number, carried, on_given, refusal, must, checked}
use Rattle.day.specs.Sound.{group_ranges}
use Rattle.day.specs.SoundLaws.{within_is}
use Rattle.day.specs.declared.Limits.{Limits}
use Rattle.day.specs.declared.Refusal.{Refusal}
use Rattle.day.specs.declared.Refusal.TheVariants.{RowForm}
use Rattle.dayfile.specs.Reading.{group_names, field1, field2, position, is_listed, pair_after, group_checks, read_names, is_end, read_row, Rows, read_groups, group_section, stored, stored_groups}
use Rattle.dayfile.specs.LineLaws.{names-line_read, row-line_read, groups_end, groups_row, groups_stop}
use Rattle.day_rows.specs.Steps.{row_rest, RowTo}
use Rattle.day_rows.specs.Joined.{add_rows, add_none, add_one_more, stored_next, row_further}
use Rattle.day_rows.specs.Members.{Marks, marks_none, marks_next}

-- what a row of a group says: its train is listed, its group is a number from 1 to the limit, and it takes some of the text
pub record GroupRow (l : Limits) (numbers : List ℕ) (a b p next : ℕ) : Type 0 where
  pub listed : T (is_listed numbers b)
  pub train : position numbers b < length numbers
  pub some : 1 ≤ a
  pub group : a ≤ l.groups
  pub further : p < next

pub group_row : (l : Limits) (numbers taken before : List ℕ) (line p : ℕ) (t : List ℕ) {a b next : ℕ} → p ≤ length t
    → RowTo t (read_row 1 line (group_checks l numbers taken before line) (drop p t)) (a ∷ b ∷ []) next → GroupRow l numbers a b p next
unfolding group_ranges
group_row l numbers taken before line p t {a} {b} {next} inside h =
    let r : List ℕ = a ∷ b ∷ [] in
    let w = row-line_read 1 line (group_checks l numbers taken before line) (drop p t) (row_rest r (drop next t)) h.is in
    let (x, (y, u)) = within_is (group_ranges l) r w.holds.0 in
    let (free, after) = both_of (is_listed numbers b && not (is_listed taken b)) (pair_after before r) w.holds.1.0 in
    let (listed, other) = both_of (is_listed numbers b) (not (is_listed taken b)) free in
    record {
      listed = listed;
      train = ltb→lt (position numbers b) (length numbers) listed;
      some = x.0;
      group = x.1;
      further = row_further 1 line (group_checks l numbers taken before line) p t inside h;
    }

-- the rows read so far, whose trains are taken, and that reading goes on with the others at the place p, in line k, after the pair
-- (group, train)
pub record GroupsSoFar (l : Limits) (numbers : List ℕ) (line start : ℕ) (t groups₀ groups : List ℕ) (p k group train : ℕ) : Type 0 where
  pub rows : List (List ℕ)
  pub taken : List ℕ
  pub fuel : ℕ
  pub goes : read_groups l numbers (length (drop start t)) [] (0 ∷ 0 ∷ []) line (drop start t) ≡ add_rows rows (read_groups l numbers fuel taken (group ∷ train ∷ []) k (drop p t))
  pub enough : length (drop p t) ≤ fuel
  pub inside : p ≤ length t
  pub lines : k + start ≤ line + p
  pub marks : Marks numbers groups taken
  pub groups_are : groups ≡ stored_groups numbers groups₀ rows

-- all groups were read
pub record GroupsRead (numbers : List ℕ) (answer : Answer Rows) (groups₀ groups : List ℕ) : Type 0 where
  pub rows : List (List ℕ)
  pub is : answer ≡ gives (record { rows = rows; rest = [] })
  pub groups_are : groups ≡ stored_groups numbers groups₀ rows

abbrev pub GroupsTo : List ℕ → Answer Rows → List ℕ → List ℕ → Result Unit Refusal → Type 0
GroupsTo numbers answer groups₀ groups (Ok u) = GroupsRead numbers answer groups₀ groups
GroupsTo numbers answer groups₀ groups (Err x) = answer ≡ refusal x

pub groups_into : {numbers : List ℕ} {answer : Answer Rows} {groups₀ groups : List ℕ} (z : List ℕ)
    → GroupsRead numbers answer groups₀ groups → groups₀ ≡ z → GroupsRead numbers answer z groups
groups_into {numbers} z g e = record { rows = g.rows; is = g.is; groups_are = g.groups_are ∙ ap (λ (x : List ℕ). stored_groups numbers x g.rows) e }

empty : (s : List ℕ) → is_end s ≡ true → s ≡ []
empty [] e = refl
empty (c ∷ s) e = absurd (let z : ◌≡◌ {A = ℕ} 0 1 = cc in omega arith)

module _ (l : Limits) (numbers : List ℕ) (line start : ℕ) (t : List ℕ) where
  pub groups_start : (groups : List ℕ) (m : ℕ) → start ≤ length t → length numbers ≤ m → groups ≡ replicate m 0
      → GroupsSoFar l numbers line start t groups groups start line 0 0
  unfolding stored
  groups_start groups m h few zeros = record {
    rows = [];
    taken = [];
    fuel = length (drop start t);
    goes = sym (add_none (read_groups l numbers (length (drop start t)) [] (0 ∷ 0 ∷ []) line (drop start t)));
    enough = omega arith;
    inside = h;
    lines = omega arith;
    marks = rw zeros (marks_none numbers m few);
    groups_are = refl;
  }

  module _ {groups₀ groups : List ℕ} {p k group train : ℕ} (g : GroupsSoFar l numbers line start t groups₀ groups p k group train) where
    pub groups_refused : (x : Refusal) → read_row 1 k (group_checks l numbers g.taken (group ∷ train ∷ []) k) (drop p t) ≡ refusal x → is_end (drop p t) ≡ false
        → read_groups l numbers (length (drop start t)) [] (0 ∷ 0 ∷ []) line (drop start t) ≡ refusal x
    groups_refused x e more = g.goes ∙ ap (add_rows g.rows) (groups_stop l numbers g.fuel g.taken (group ∷ train ∷ []) k (drop p t) (number x) (carried x) g.enough more e)

    pub groups_done : is_end (drop p t) ≡ true → GroupsRead numbers (read_groups l numbers (length (drop start t)) [] (0 ∷ 0 ∷ []) line (drop start t)) groups₀ groups
    groups_done e = record {
      rows = g.rows;
      is =
          g.goes ∙ ap (λ (s : List ℕ). add_rows g.rows (read_groups l numbers g.fuel g.taken (group ∷ train ∷ []) k s)) (empty (drop p t) e)
          ∙ ap (add_rows g.rows) (groups_end l numbers g.fuel g.taken (group ∷ train ∷ []) k)
          ∙ ap (λ (r : List (List ℕ)). gives (record { rows = r; rest = [] })) (append-nil g.rows);
      groups_are = g.groups_are;
    }

    pub groups_next : {a b next : ℕ} → RowTo t (read_row 1 k (group_checks l numbers g.taken (group ∷ train ∷ []) k) (drop p t)) (a ∷ b ∷ []) next
        → length numbers ≤ length groups → GroupsSoFar l numbers line start t groups₀ (set groups (position numbers b) a) next (k + 1) a b
    groups_next {a} {b} {next} h room =
        let r : List ℕ = a ∷ b ∷ [] in
        let w = group_row l numbers g.taken (group ∷ train ∷ []) k p t g.inside h in
        let far = w.further in
        let left : length (drop p t) ≡ length t - p = length-drop p t in
        let then : length (drop next t) ≡ length t - next = length-drop next t in
        let most = h.inside in
        let enough = g.enough in
        let one : g.fuel ≡ suc (g.fuel - 1) = omega arith in
        let below : suc k ≡ k + 1 = omega arith in
        let lines = g.lines in
        record {
          rows = g.rows ++ r ∷ [];
          taken = b ∷ g.taken;
          fuel = g.fuel - 1;
          goes =
              g.goes ∙ ap (λ f. add_rows g.rows (read_groups l numbers f g.taken (group ∷ train ∷ []) k (drop p t))) one
              ∙ ap (add_rows g.rows) (groups_row l numbers (g.fuel - 1) g.taken (group ∷ train ∷ []) k (drop p t) (row_rest r (drop next t)) h.is)
              ∙ add_one_more g.rows r (read_groups l numbers (g.fuel - 1) (b ∷ g.taken) r (suc k) (drop next t))
              ∙ ap (λ m. add_rows (g.rows ++ r ∷ []) (read_groups l numbers (g.fuel - 1) (b ∷ g.taken) r m (drop next t))) below;
          enough = omega arith;
          inside = h.inside;
          lines = omega arith;
          marks = marks_next a b g.marks w.some w.listed (omega (arith, w.train, room));
          groups_are =
              ap (λ (x : List ℕ). set x (position numbers b) a) g.groups_are
              ∙ stored_next (λ member. position numbers (field2 member)) field1 groups₀ g.rows r;
        }

-- ---- the end at a place of the text, and a place after a names line

module _ (t : List ℕ) (p : ℕ) where
  pub at_end : length t ≤ p → is_end (drop p t) ≡ true
  at_end h = rw (drop_of_length-le t h)

  pub before_end : p < length t → is_end (drop p t) ≡ false
  before_end h = rw (drop-cons t p 0 h)

  pub names_further : (word : List ℕ) (line next : ℕ) → p ≤ length t → next ≤ length t → read_names word line (drop p t) ≡ gives (drop next t) → p ≤ next
  names_further word line next h g e =
      let long : length (drop p t) ≡ length word + length (drop next t) = ap length (names-line_read word line (drop p t) (drop next t) e) ∙ length-append word (drop next t) in
      omega (arith, long, length-drop p t, length-drop next t)

-- ---- the section: none where the text has ended, else its names line and at least one row

module _ (l : Limits) (numbers : List ℕ) (line : ℕ) where
  pub no_section : (s groups : List ℕ) → is_end s ≡ true → GroupsRead numbers (group_section l numbers line s) groups groups
  unfolding stored
  no_section s groups e = record { rows = []; is = rw (empty s e) refl; groups_are = refl }

  rows_after_lem : List ℕ → Answer Rows
  rows_after_lem s = checked (must (not (is_end s)) 2 ((line + 1) ∷ []) ∷ []) (read_groups l numbers (length s) [] (0 ∷ 0 ∷ []) (line + 1) s)

  section_is : (s : List ℕ) → is_end s ≡ false → group_section l numbers line s ≡ on_given (read_names group_names line s) rows_after_lem
  unfolding rows_after_lem
  section_is [] more = absurd (let z : ◌≡◌ {A = ℕ} 0 1 = cc in omega arith)
  section_is (c ∷ s) more = refl

  pub section_stops : (s : List ℕ) (x : Refusal) → is_end s ≡ false → read_names group_names line s ≡ refusal x → group_section l numbers line s ≡ refusal x
  section_stops s x more e = section_is s more ∙ ap (λ (a : Answer (List ℕ)). on_given a rows_after_lem) e

  module _ (s q : List ℕ) (more : is_end s ≡ false) (named : read_names group_names line s ≡ gives q) where
    pub no_row_lem : is_end q ≡ true → group_section l numbers line s ≡ refusal (RowForm (line + 1))
    unfolding rows_after_lem
    no_row_lem e = section_is s more ∙ ap (λ (a : Answer (List ℕ)). on_given a rows_after_lem) named ∙ rw e refl

    pub some-row : is_end q ≡ false → group_section l numbers line s ≡ read_groups l numbers (length q) [] (0 ∷ 0 ∷ []) (line + 1) q
    unfolding rows_after_lem
    some-row e = section_is s more ∙ ap (λ (a : Answer (List ℕ)). on_given a rows_after_lem) named ∙ rw e refl
