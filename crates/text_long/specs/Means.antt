-- What planning the long day of a text means, in the model's words, from the contract's definitions alone. With room for six numbers, a text
-- that reads to the long day y, a width of 1 to 64 and a row of at least n bytes:
--   plans-found    where an allowed row exists, the row that the search finds stands in the first n bytes and is allowed, and its numbers are
--                  told: the model's four, the number of full slots and the lower figure. No allowed row costs less than that figure, and where
--                  the number of full slots is 0 the row is the best of all allowed ones;
--   plans-none     where none exists it is 9 with the first overbooked interval, and the row stays;
--   plans-given    six numbers are those of such a row.
-- The checks, in their order:
--   text-room      10 where there is no room for six numbers, whatever the text;
--   text-width     then, where the text reads to a long day, 21 where the width is none of 1 to 64, however short the row;
--   text-short     then 10 where the row has fewer than n bytes.
-- For every text, every width and all lent memory:
--   text-memory    a refusal leaves every byte of the row and tells no slots; bytes beyond the first n never change.
-- Assumes nothing.
use Rattle.std.specs.Prelude.{◌≡◌, List, [], ◌∷◌, ◌++◌, ◌⊎◌, ℕ, ◌≤◌, ◌<◌, T, length}
use Rattle.std.proofs.Math.Path.{refl, ap, subst}
use Rattle.std.proofs.Common.{sym, ◌∙◌, arith, le-leb}
use Rattle.std.proofs.Math.Option.{Option, none, some}
use Rattle.std.proofs.Math.ListN.{drop}
use Rattle.std.proofs.lemmas.Bool.{lt-leb}
use Rattle.model.specs.Model.{Yard, outcome, cost, bound_inside, allowed, Best, SomeRow, NoRow, FirstOverbooked}
use Rattle.model.proofs.Rows.{allowed_is}
use Rattle.model.specs.Overbooked.{SaysFirst}
use Rattle.model.proofs.Overbooked.{first_says}
use Rattle.day.specs.Answer.{Answer, gives, refuses}
use Rattle.day.specs.Sound.{sound}
use Rattle.dayfile.specs.Reading.{read_day}
use Rattle.dayfile.specs.RoundTrip.{read_sound}
use Rattle.planning.specs.Planning.{no_row, placed}
use Rattle.telling.specs.Telling.{slots_in}
use Rattle.telling.specs.Laws.{numbers_told_lem, no_room, with_room_lem, day_read}
use Rattle.beam.specs.Beam.{full_slots, beam_row}
use Rattle.beam.specs.LowerFigure.{lower_figure}
use Rattle.long_day.specs.LongDay.{long_limits}
use Rattle.long_planning.specs.LongPlanning.{LongOutcome, is_width, found_answer, long_planned, long_row_after}
use Rattle.long_planning.proofs.Promised.{found-allowed, found_nowhere, found-lower, found-best, found_none, long_planned_lem, long_row_lem, long_width_lem, long_short, long_kept, long_beyond}
use Rattle.text_long.specs.TextLong.{long_number_count, long_figures, long_numbers_after, long_day_for, long_plan_for, long_row_for, long_slots_for}

-- ---- the day of the text, with room for six numbers

module _ (text : List ℕ) (y : Yard) (reads : read_day long_limits text ≡ gives y) (size : ℕ) (room : 6 ≤ size) where
  day : long_day_for text size ≡ gives y
  day = with_room_lem long_number_count long_limits text size (le-leb 6 size room) reads

  is_sound : T (sound long_limits y)
  is_sound = read_sound long_limits text y reads

  -- ---- the checks

  pub text_width : (width bytes : ℕ) → (width < 1) ⊎ (64 < width) → long_plan_for text width bytes size ≡ refuses 21 (0 ∷ [])
  unfolding long_plan_for
  text_width width bytes outside = rw day (long_width_lem y width bytes is_sound outside)

  pub text_short : (width bytes : ℕ) → T (is_width width) → bytes < y.trains → long_plan_for text width bytes size ≡ refuses 10 (0 ∷ [])
  unfolding long_plan_for
  text_short width bytes wide short = rw day (long_short y width bytes is_sound wide short)

  -- ---- what is found

  module _ (width : ℕ) (row : List ℕ) (some_width_lem : 1 ≤ width) (few_width_lem : width ≤ 64) (rowNamed : y.trains ≤ length row) where
    answered : (found : Option (List ℕ)) → beam_row y width ≡ found → long_planned long_limits y width (length row) ≡ found_answer y width found
    answered found e = long_planned_lem y width is_sound some_width_lem few_width_lem (length row) rowNamed ∙ ap (found_answer y width) e

    left : (found : Option (List ℕ)) → beam_row y width ≡ found → long_row_after long_limits y width row ≡ placed found row
    left found e = long_row_lem y width is_sound some_width_lem few_width_lem row rowNamed ∙ ap (λ o. placed o row) e

    pub record Planned (r : List ℕ) : Type 0 where
      pub found : beam_row y width ≡ some r
      pub is_allowed : T (allowed y r)
      pub none_below : (other : List ℕ) → T (allowed y other) → lower_figure y ≤ cost y other
      pub best_if_none_full : full_slots y width ≡ 0 → Best y r
      pub says : long_plan_for text width (length row) size ≡ gives (record { row = outcome y r; full = full_slots y width; lower = lower_figure y })
      pub row_is : long_row_for text width size row ≡ r ++ drop y.trains row
      pub count : long_slots_for text width (length row) size ≡ y.trains

    from_row : (r : List ℕ) → beam_row y width ≡ some r → Planned r
    unfolding long_plan_for long_row_for long_slots_for
    from_row r e =
        let ok = found-allowed y width is_sound some_width_lem r e in
        record {
          found = e;
          is_allowed = ok;
          none_below = found-lower y width is_sound some_width_lem;
          best_if_none_full = found-best y width is_sound some_width_lem r e;
          says = rw day (answered (some r) e);
          row_is = rw day (left (some r) e ∙ ap (λ k. r ++ drop k row) (allowed_is y r ok).long);
          count = rw day (ap (slots_in y) (answered (some r) e));
        }

    pub plans_found : SomeRow y → (r : List ℕ) × Planned r
    plans_found some-row = go (beam_row y width) refl
      where
        go : (o : Option (List ℕ)) → beam_row y width ≡ o → (r : List ℕ) × Planned r
        go none e = absurd (found_nowhere y width is_sound some_width_lem e some-row.0 some-row.1)
        go (some r) e = (r, from_row r e)

    pub record Overbooked : Type 0 where
      pub first : ℕ
      pub last : ℕ
      pub named : FirstOverbooked y first last
      pub says : long_plan_for text width (length row) size ≡ refuses 9 (first ∷ last ∷ bound_inside y first last ∷ [])
      pub row_is : long_row_for text width size row ≡ row
      pub count : long_slots_for text width (length row) size ≡ 0

    pub plans_none : NoRow y → Overbooked
    unfolding long_plan_for long_row_for long_slots_for
    plans_none nowhere = go (beam_row y width) refl
      where
        go : (o : Option (List ℕ)) → beam_row y width ≡ o → Overbooked
        go (some r) e = absurd (nowhere r (found-allowed y width is_sound some_width_lem r e))
        go none e =
            let (w, f) = found_none y width is_sound some_width_lem e in
            let said : long_planned long_limits y width (length row) ≡ no_row y (some w) = answered none e ∙ ap (no_row y) f in
            record {
              first = w.first;
              last = w.last;
              named = subst (SaysFirst y) f (first_says y);
              says = rw day said;
              row_is = rw day (left none e);
              count = rw day (ap (slots_in y) said);
            }

    -- so where six numbers are given they are such a row's
    pub plans_given : (o : LongOutcome) → long_plan_for text width (length row) size ≡ gives o → (r : List ℕ) × Planned r
    plans_given o said = go (beam_row y width) refl
      where
        go : (f : Option (List ℕ)) → beam_row y width ≡ f → (r : List ℕ) × Planned r
        go (some r) e = (r, from_row r e)
        go none e = absurd (let z : refuses 9 _ ≡ gives o = sym (plans_none (found_nowhere y width is_sound some_width_lem e)).says ∙ said in let q : ◌≡◌ {A = ℕ} 0 1 = cc in omega arith)

pub text_room : (text : List ℕ) (width bytes size : ℕ) → size < 6 → long_plan_for text width bytes size ≡ refuses 10 (0 ∷ [])
unfolding long_plan_for
text_room text width bytes size short = rw (no_room long_number_count long_limits text size (lt-leb 6 size short))

-- ---- lent memory, for every text

module _ (text : List ℕ) (width : ℕ) (row : List ℕ) (size : ℕ) where
  pub record TextMemory : Type 0 where
    -- after any refusal the row has not changed
    pub kept : (k : ℕ) (carries : List ℕ) → long_plan_for text width (length row) size ≡ refuses k carries → long_row_for text width size row ≡ row
    -- bytes beyond the first n are unchanged
    pub beyond : (y : Yard) → read_day long_limits text ≡ gives y → drop y.trains (long_row_for text width size row) ≡ drop y.trains row
    -- no slots are told with a refusal
    pub none : (k : ℕ) (carries : List ℕ) → long_plan_for text width (length row) size ≡ refuses k carries → long_slots_for text width (length row) size ≡ 0

  pub text_memory : TextMemory
  unfolding long_plan_for long_row_for long_slots_for
  text_memory = go (long_day_for text size) refl
    where
      go : (a : Answer Yard) → long_day_for text size ≡ a → TextMemory
      go (refuses k carries) e = record { kept = λ m values q. rw e; beyond = λ y r. rw e; none = λ m values q. rw e }
      go (gives y) e = record {
        kept = λ k values q. rw e (long_kept y width row (rw e at q));
        beyond = λ z r. let is = day_read long_number_count long_limits text size y z e r in rw (e, is) (long_beyond y width row);
        none = λ k values q. let r : long_planned long_limits y width (length row) ≡ refuses k values = rw e at q in rw e (ap (slots_in y) r);
      }

-- ---- the header's words: six numbers, or what the refusal carries and then zeros; those beyond stay

module _ (before : List ℕ) (room : 6 ≤ length before) where
  pub long_numbers_given : (o : LongOutcome)
      → long_numbers_after (gives o) before ≡ o.row.revisits ∷ o.row.splits ∷ o.row.direct ∷ o.row.cost ∷ o.full ∷ o.lower ∷ drop 6 before
  long_numbers_given o = numbers_told_lem long_number_count long_figures (gives o) before room

  -- all but 9 carry one value
  pub long_numbers_one : (k value : ℕ) → long_numbers_after (refuses k (value ∷ [])) before ≡ value ∷ 0 ∷ 0 ∷ 0 ∷ 0 ∷ 0 ∷ drop 6 before
  long_numbers_one k value = numbers_told_lem long_number_count long_figures (refuses k (value ∷ [])) before room

  -- 9 carries three
  pub long_numbers_three : (k a b c : ℕ) → long_numbers_after (refuses k (a ∷ b ∷ c ∷ [])) before ≡ a ∷ b ∷ c ∷ 0 ∷ 0 ∷ 0 ∷ drop 6 before
  long_numbers_three k a b c = numbers_told_lem long_number_count long_figures (refuses k (a ∷ b ∷ c ∷ [])) before room
