-- Sound states: their accounts stand, their plans keep what the account says, a new plan of a standing account makes such a state with just
-- that account, and closing a slot keeps the best plan.
-- Assumes nothing.
use Rattle.std.specs.Prelude.{◌≡◌, Bool, cond, ◌&&◌, ◌||◌, List, ◌≢◌, ℕ, suc, ◌≤◌, ◌<◌, ltb, length, take}
use Rattle.std.proofs.Common.{sym, ap, ◌∙◌, subst, arith, le→leb, lt→ltb, ext_get_or, get_or-take, length-take-le, le-leb, eq-eqb, ne_eqb}
use Rattle.std.proofs.Math.Logic.{⊎_elim}
use Rattle.std.proofs.Math.Dec.{T, leb, eqb, leb→le, ltb→lt, eqb→eq}
use Rattle.std.proofs.Math.ListN.{get_or-eq_default}
use Rattle.std.proofs.lemmas.Bool.{lt-leb}
use Rattle.fold.specs.Test.{of_true, both, both_of, left, right, either_of}
use Rattle.fold.specs.Fold.{each, each_at, each_i}
use Rattle.fold.specs.Counting.{le_or_lt, same_or}
use Rattle.model.specs.Model.{slot_of, first_slot, last_slot, allowed}
use Rattle.model.proofs.Rows.{allowed_is}
use Rattle.day.specs.Sound.{sound}
use Rattle.day.specs.declared.Limits.{Limits}
use Rattle.fold.specs.Column.{column, column-length, column-at, column_past, column_ext, is_column}
use Rattle.rolling.specs.Rolling.{Account, State, plan_of, served_slot, account_of, state_of, closed_by, Keeps, BestKept, state_sound}
use Rattle.day.specs.SoundDay.{SoundDay, sound_day, day_sound}
use Rattle.rolling.specs.Cut.{Standing, either_way}

-- ---- the test of a sound state, as statements

pub record SoundState (l : Limits) (s : State) : Type 0 where
  pub is_sound : T (sound l s.day)
  pub closed : s.closed ≤ s.day.slots
  pub long : length s.row ≡ l.trains
  pub is_allowed : T (allowed s.day (plan_of s))
  pub past : (i : ℕ) → s.day.trains ≤ i → slot_of s.row i ≡ 0

module _ (l : Limits) (s : State) where
  abbrev past_n : ℕ → Bool
  past_n i = ltb i s.day.trains || eqb (slot_of s.row i) 0

  pub sound_state : T (state_sound l s) → SoundState l s
  unfolding state_sound
  sound_state t =
      let closed = leb s.closed s.day.slots in
      let long = eqb (length s.row) l.trains in
      let (c, past) = both_of (sound l s.day && closed && long && allowed s.day (plan_of s)) (each l.trains past_n) t in
      let (b, plan) = both_of (sound l s.day && closed && long) (allowed s.day (plan_of s)) c in
      let (a, m) = both_of (sound l s.day && closed) long b in
      let (d, k) = both_of (sound l s.day) closed a in
      record {
        is_sound = d;
        closed = leb→le _ _ k;
        long = eqb→eq _ _ m;
        is_allowed = plan;
        past = λ i h.
            ⊎_elim (λ (g : l.trains ≤ i). get_or-eq_default s.row 0 (let e = eqb→eq (length s.row) l.trains m in omega arith))
            (λ (g : i < l.trains).
            ⊎_elim (λ (v : T (ltb i s.day.trains)). absurd (let z = ltb→lt i s.day.trains v in omega arith)) (λ (v : T (eqb (slot_of s.row i) 0)). eqb→eq _ _ v)
            (either_of (ltb i s.day.trains) (eqb (slot_of s.row i) 0) (each_at l.trains past_n past i g)))
            (le_or_lt l.trains i);
      }

  pub state_sound_lem : SoundState l s → T (state_sound l s)
  unfolding state_sound
  state_sound_lem d =
      let closed = leb s.closed s.day.slots in
      let long = eqb (length s.row) l.trains in
      both (sound l s.day && closed && long && allowed s.day (plan_of s)) (each l.trains past_n)
      (both (sound l s.day && closed && long) (allowed s.day (plan_of s)) (both (sound l s.day && closed) long (both (sound l s.day) closed d.is_sound (le→leb _ _ d.closed)) (of_true (eq-eqb _ _ d.long))) d.is_allowed)
      (each_i l.trains past_n
      (λ i h.
      ⊎_elim (λ (g : s.day.trains ≤ i). right (ltb i s.day.trains) (eqb (slot_of s.row i) 0) (of_true (eq-eqb (slot_of s.row i) 0 (d.past i g))))
      (λ (g : i < s.day.trains). left (ltb i s.day.trains) (eqb (slot_of s.row i) 0) (lt→ltb _ _ g)) (le_or_lt s.day.trains i)))

-- ---- the account of a sound state

-- the slot of a train is closed, or it is open
pub slot_closed : (closed slot : ℕ) → slot ≤ closed → served_slot closed slot ≡ slot
slot_closed closed slot h = rw (le-leb slot closed h)

pub slot_open : (closed slot : ℕ) → closed < slot → served_slot closed slot ≡ 0
slot_open closed slot h = rw (lt-leb slot closed h)

-- a row that keeps the trains of closed slots and puts those of open slots into open slots
pub record KeepsRow (s : State) (other : List ℕ) : Type 0 where
  pub served : (i : ℕ) → i < s.day.trains → slot_of s.row i ≤ s.closed → slot_of other i ≡ slot_of s.row i
  pub waiting : (i : ℕ) → i < s.day.trains → s.closed < slot_of s.row i → s.closed < slot_of other i

module _ {l : Limits} {s : State} (d : SoundState l s) where
  record_sound : SoundDay l s.day
  record_sound = sound_day l s.day d.is_sound

  fits : (i : ℕ) → i < s.day.trains → i < s.day.width
  fits i h = let t = record_sound.limits.trains in let w = record_sound.limits.shape.width in omega arith

  pub plan_at : (i : ℕ) → i < s.day.trains → slot_of (plan_of s) i ≡ slot_of s.row i
  plan_at i h = get_or-take s.day.trains s.row i 0 h

  -- a train's slot is one of the day, in its window
  pub in_window_lem : (i : ℕ) → i < s.day.trains → (1 ≤ slot_of s.row i) × (first_slot s.day i ≤ slot_of s.row i) × (slot_of s.row i ≤ last_slot s.day i)
  in_window_lem i h =
      let a = allowed_is s.day (plan_of s) d.is_allowed in
      let e = plan_at i h in
      let f = a.slotted i h in
      let g = a.windowed i h in
      (omega arith, omega arith, omega arith)

  served_at : (i : ℕ) → i < s.day.trains → slot_of (account_of s).served i ≡ served_slot s.closed (slot_of s.row i)
  served_at i h = column-at s.day.width s.day.trains (λ i. served_slot s.closed (slot_of s.row i)) i (fits i h) h

  pub at_closed : (i : ℕ) → i < s.day.trains → slot_of s.row i ≤ s.closed → slot_of (account_of s).served i ≡ slot_of s.row i
  at_closed i h c = served_at i h ∙ slot_closed s.closed (slot_of s.row i) c

  pub at_open : (i : ℕ) → i < s.day.trains → s.closed < slot_of s.row i → slot_of (account_of s).served i ≡ 0
  at_open i h c = served_at i h ∙ slot_open s.closed (slot_of s.row i) c

  pub state_standing : Standing l (account_of s)
  state_standing = record {
    is_sound = record_sound;
    closed = d.closed;
    long = column-length s.day.width s.day.trains (λ i. served_slot s.closed (slot_of s.row i)) ∙ record_sound.limits.shape.width;
    past = λ i h. column_past s.day.width s.day.trains (λ i. served_slot s.closed (slot_of s.row i)) i h;
    served = λ i h k.
        let w = in_window_lem i h in
        ⊎_elim (λ (c : slot_of s.row i ≤ s.closed). let e = at_closed i h c in (omega arith, omega arith, omega arith))
        (λ (c : s.closed < slot_of s.row i). absurd (let e = at_open i h c in omega arith)) (le_or_lt (slot_of s.row i) s.closed);
    waiting = λ i h k.
        let w = in_window_lem i h in
        ⊎_elim (λ (c : slot_of s.row i ≤ s.closed). absurd (let e = at_closed i h c in omega arith))
        (λ (c : s.closed < slot_of s.row i). omega arith) (le_or_lt (slot_of s.row i) s.closed);
  }

  -- the state is made of its account and its plan
  pub own_state : state_of (account_of s) (plan_of s) ≡ s
  own_state =
      let w = s.day.width in
      let m = s.day.trains in
      let e = column_ext w m (slot_of (plan_of s)) (slot_of s.row) plan_at ∙ is_column w m s.row (d.long ∙ sym record_sound.limits.shape.width) d.past in
      λ i. record { day = s.day; closed = s.closed; row = e i }

  -- what the account asks of a row, said of the state's own row
  pub row_keeps : (other : List ℕ) → KeepsRow s other → Keeps (account_of s) other
  row_keeps other k = record {
    served = λ i h g.
        ⊎_elim (λ (c : slot_of s.row i ≤ s.closed). k.served i h c ∙ sym (at_closed i h c))
        (λ (c : s.closed < slot_of s.row i). absurd (let e = at_open i h c in omega arith)) (le_or_lt (slot_of s.row i) s.closed);
    waiting = λ i h g.
        ⊎_elim (λ (c : slot_of s.row i ≤ s.closed). absurd (let e = at_closed i h c in let w = in_window_lem i h in omega arith))
        (λ (c : s.closed < slot_of s.row i). k.waiting i h c) (le_or_lt (slot_of s.row i) s.closed);
  }

  pub keeps_row : (other : List ℕ) → Keeps (account_of s) other → KeepsRow s other
  keeps_row other k = record {
    served = λ i h c. let e = at_closed i h c in let w = in_window_lem i h in k.served i h (omega arith) ∙ e;
    waiting = λ i h c. k.waiting i h (at_open i h c);
  }

  pub plan_keeps : Keeps (account_of s) (plan_of s)
  plan_keeps = row_keeps (plan_of s) (record { served = λ i h c. plan_at i h; waiting = λ i h c. let e = plan_at i h in omega arith })

-- ---- a new plan of a standing account

module _ {l : Limits} {a : Account} (s : Standing l a) (plan : List ℕ) (t : T (allowed a.day plan)) (k : Keeps a plan) where
  in_width : (i : ℕ) → i < a.day.trains → i < a.day.width
  in_width i h = let d = s.is_sound.limits.trains in let w = s.is_sound.limits.shape.width in omega arith

  pub new_plan : plan_of (state_of a plan) ≡ plan
  new_plan =
      let w = a.day.width in
      let m = a.day.trains in
      let long = (allowed_is a.day plan t).long in
      let wide : m ≤ length (column w m (slot_of plan)) = let e = column-length w m (slot_of plan) in let d = s.is_sound.limits.trains in let f = s.is_sound.limits.shape.width in omega arith in
      let short : length (take m (column w m (slot_of plan))) ≡ m = length-take-le m (column w m (slot_of plan)) wide in
      ext_get_or 0 (take m (column w m (slot_of plan))) plan (short ∙ sym long)
      (λ i h. let g : i < m = omega arith in get_or-take m (column w m (slot_of plan)) i 0 g ∙ column-at w m (slot_of plan) i (in_width i g) g)

  pub new_sound : SoundState l (state_of a plan)
  new_sound = record {
    is_sound = day_sound l a.day s.is_sound;
    closed = s.closed;
    long = column-length a.day.width a.day.trains (slot_of plan) ∙ s.is_sound.limits.shape.width;
    is_allowed = subst (λ r. T (allowed a.day r)) (sym new_plan) t;
    past = column_past a.day.width a.day.trains (slot_of plan);
  }

  -- the served trains are where they were, and no other slot is closed
  new_served : (i : ℕ) → i < a.day.trains → served_slot a.closed (slot_of (column a.day.width a.day.trains (slot_of plan)) i) ≡ slot_of a.served i
  new_served i h =
      ap (served_slot a.closed) (column-at a.day.width a.day.trains (slot_of plan) i (in_width i h) h)
      ∙ either_way s i
      (λ g. let e = k.served i h g in let c = s.served i h g in slot_closed a.closed (slot_of plan i) (omega arith) ∙ e)
      (λ g. slot_open a.closed (slot_of plan i) (k.waiting i h g) ∙ sym g)

  pub new_account : account_of (state_of a plan) ≡ a
  new_account =
      let e : (account_of (state_of a plan)).served ≡ a.served =
      column_ext a.day.width a.day.trains (λ i. served_slot a.closed (slot_of (column a.day.width a.day.trains (slot_of plan)) i)) (slot_of a.served) new_served
      ∙ is_column a.day.width a.day.trains a.served (s.long ∙ sym s.is_sound.limits.shape.width) s.past in
      λ i. record { day = a.day; closed = a.closed; served = e i }

-- ---- a slot closed

abbrev pub next_closed : State → State
next_closed s = record { day = s.day; closed = suc s.closed; row = s.row }

module _ {l : Limits} {s : State} (d : SoundState l s) (opens : s.closed < s.day.slots) where
  pub closed_sound : SoundState l (next_closed s)
  closed_sound = record { is_sound = d.is_sound; closed = opens; long = d.long; is_allowed = d.is_allowed; past = d.past }

  closed_served : (i : ℕ) → i < s.day.trains
      → served_slot (suc s.closed) (slot_of s.row i) ≡ cond (eqb (slot_of (plan_of s) i) (suc s.closed)) (suc s.closed) (slot_of (account_of s).served i)
  closed_served i h =
      ⊎_elim
      (λ (g : slot_of s.row i ≤ s.closed). slot_closed (suc s.closed) (slot_of s.row i) (omega arith) ∙ sym (other (λ e. omega arith) ∙ served_at d i h ∙ slot_closed s.closed (slot_of s.row i) g))
      (λ (g : s.closed < slot_of s.row i).
      ⊎_elim
      (λ (e : slot_of s.row i ≡ suc s.closed). slot_closed (suc s.closed) (slot_of s.row i) (omega arith) ∙ e ∙ sym (ap (λ b. cond b (suc s.closed) (slot_of (account_of s).served i)) (eq-eqb (slot_of (plan_of s) i) (suc s.closed) (plan_at d i h ∙ e))))
      (λ (e : slot_of s.row i ≢ suc s.closed). slot_open (suc s.closed) (slot_of s.row i) (omega arith) ∙ sym (other e ∙ served_at d i h ∙ slot_open s.closed (slot_of s.row i) g))
      (same_or (slot_of s.row i) (suc s.closed)))
      (le_or_lt (slot_of s.row i) s.closed)
    where
      other : slot_of s.row i ≢ suc s.closed → cond (eqb (slot_of (plan_of s) i) (suc s.closed)) (suc s.closed) (slot_of (account_of s).served i) ≡ slot_of (account_of s).served i
      other e = ap (λ b. cond b (suc s.closed) (slot_of (account_of s).served i)) (ne_eqb (slot_of (plan_of s) i) (suc s.closed) (λ q. e (sym (plan_at d i h) ∙ q)))

  -- close serves the trains that the plan has in the first open slot, and no others
  pub closed_account : account_of (next_closed s) ≡ closed_by (plan_of s) (account_of s)
  closed_account =
      let e = column_ext s.day.width s.day.trains (λ i. served_slot (suc s.closed) (slot_of s.row i))
      (λ i. cond (eqb (slot_of (plan_of s) i) (suc s.closed)) (suc s.closed) (slot_of (account_of s).served i)) closed_served in
      λ i. record { day = s.day; closed = suc s.closed; served = e i }

  -- a row that keeps the new account keeps the one before
  kept-before : (other : List ℕ) → Keeps (account_of (next_closed s)) other → Keeps (account_of s) other
  kept-before other k =
      let r = keeps_row closed_sound other k in
      row_keeps d other
      (record {
        served = λ i h c. r.served i h (omega arith);
        waiting = λ i h c.
            ⊎_elim (λ (g : slot_of s.row i ≤ suc s.closed). let e = r.served i h g in omega arith) (λ (g : suc s.closed < slot_of s.row i). let e = r.waiting i h g in omega arith)
            (le_or_lt (slot_of s.row i) (suc s.closed));
      })

  -- so the plan is still the best: it was the best of more rows
  pub closed_best : BestKept (account_of s) (plan_of s) → BestKept (account_of (next_closed s)) (plan_of s)
  closed_best b = record {
    is_allowed = b.is_allowed;
    keeps = plan_keeps closed_sound;
    least = λ other t k. b.least other t (kept-before other k);
    first = λ other t k. b.first other t (kept-before other k);
  }
