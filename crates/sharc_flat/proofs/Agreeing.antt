-- How the registers of a frame agree with what the source's frame has.
use Rattle.sharc_flat.proofs.{Imports.{◌≡◌, ℕ, suc, ◌+◌, ◌<◌, ◌≤◌, Bool, true, false, cond, List, [], ◌∷◌, ◌++◌, length, get_or, map, Some, refl, sym, ap, ◌∙◌, arith, append_assoc, length-append, append-nil, ℤ, pos, flat_map, reverse, set, ◌==◌, if◌then◌else◌, Int, Reference, Kind, is_integer, Variable, Frame, State, is_reference, value_in, with_value, pointers_among, held_by_frame, with_temporary, Flat, Caller, At, put, int_count, ref_count, register_from, slot_kind, Slot}, Banks.{Bank, bank_is, bank_pop, bank_push, bank_at, put_other}, Runs.{Same, Holds, Fin}}

abbrev pub slot_in : Variable → Slot
slot_in x = record { token = x.token; is_pointer = x.is_pointer }

abbrev pub slots_of : List Variable → List Slot
slots_of = map slot_in

abbrev pub int_values : List Variable → List ℤ
int_values [] = []
int_values (x ∷ rest) = if x.is_pointer then int_values rest else x.value ∷ int_values rest

ints_length_by : (b : Bool) (x : ℤ) (xs : List ℤ) (n : ℕ) → length xs ≡ n → length (cond b xs (x ∷ xs)) ≡ cond b n (n + 1)
ints_length_by true x xs n e = e
ints_length_by false x xs n e = omega arith

refs_length_by : (b : Bool) (x : ℤ) (xs : List ℤ) (n : ℕ) → length xs ≡ n → length (cond b (x ∷ xs) xs) ≡ cond b (n + 1) n
refs_length_by true x xs n e = omega arith
refs_length_by false x xs n e = e

pub ints_length : (vs : List Variable) → length (int_values vs) ≡ int_count (slots_of vs)
ints_length [] = refl
ints_length (x ∷ rest) = ints_length_by x.is_pointer x.value (int_values rest) _ (ints_length rest)

pub refs_length : (vs : List Variable) → length (pointers_among vs) ≡ ref_count (slots_of vs)
refs_length [] = refl
refs_length (x ∷ rest) = refs_length_by x.is_pointer x.value (pointers_among rest) _ (refs_length rest)

-- a pointer variable, at its place among the pointers
pub record PointerAt (i r : ℕ) (vs : List Variable) (token : ℕ) : Type 0 where
  pub n : ℕ
  pub register : register_from i r (slots_of vs) token ≡ Reference (r + n)
  pub within : n < length (pointers_among vs)
  pub value : value_in vs token ≡ get_or (pointers_among vs) n (pos 0)
  pub set_is : (v : ℤ) → pointers_among (with_value vs token v) ≡ set (pointers_among vs) n v
  pub ints_stay : (v : ℤ) → int_values (with_value vs token v) ≡ int_values vs
  pub shape : (v : ℤ) → slots_of (with_value vs token v) ≡ slots_of vs

pointer_here : (i r : ℕ) (x : Variable) (rest : List Variable) (token : ℕ) (b p : Bool) → (x.token == token) ≡ b → x.is_pointer ≡ p → cond b (Some p) (slot_kind (slots_of rest) token) ≡ Some true
    → ((i r : ℕ) → slot_kind (slots_of rest) token ≡ Some true → PointerAt i r rest token) → PointerAt i r (x ∷ rest) token
pointer_here i r x rest token true true eb ep h ih = record {
  n = 0;
  register = let z : r + 0 ≡ r = omega arith in rw (eb, ep, z) refl;
  within = rw ep (omega arith);
  value = rw (eb, ep) refl;
  set_is = λ v. rw (eb, ep) refl;
  ints_stay = λ v. rw (eb, ep) refl;
  shape = λ v. rw eb refl;
}
pointer_here i r x rest token true false eb ep h ih = absurd (cc)
pointer_here i r x rest token false true eb ep h ih =
    let w = ih i (r + 1) h in
    let z : r + 1 + w.n ≡ r + (w.n + 1) = omega arith in
    let s : w.n + 1 ≡ suc w.n = omega arith in
    record {
      n = w.n + 1;
      register = rw (eb, ep) (w.register ∙ ap Reference z);
      within = let l = w.within in rw ep (omega arith);
      value = rw (eb, ep, s) w.value;
      set_is = λ v. rw (eb, ep, s) (ap (λ l. x.value ∷ l) (w.set_is v));
      ints_stay = λ v. rw (eb, ep) (w.ints_stay v);
      shape = λ v. rw eb (ap (λ l. slot_in x ∷ l) (w.shape v));
    }
pointer_here i r x rest token false false eb ep h ih =
    let w = ih (i + 1) r h in
    record {
      n = w.n;
      register = rw (eb, ep) w.register;
      within = rw ep w.within;
      value = rw (eb, ep) w.value;
      set_is = λ v. rw (eb, ep) (w.set_is v);
      ints_stay = λ v. rw (eb, ep) (ap (λ l. x.value ∷ l) (w.ints_stay v));
      shape = λ v. rw eb (ap (λ l. slot_in x ∷ l) (w.shape v));
    }

pub pointer_at : (vs : List Variable) (token i r : ℕ) → slot_kind (slots_of vs) token ≡ Some true → PointerAt i r vs token
pointer_at [] token i r h = absurd (cc)
pointer_at (x ∷ rest) token i r h = pointer_here i r x rest token (x.token == token) x.is_pointer refl refl h (λ i r h. pointer_at rest token i r h)

pub record IntAt (i r : ℕ) (vs : List Variable) (token : ℕ) : Type 0 where
  pub n : ℕ
  pub register : register_from i r (slots_of vs) token ≡ Int (i + n)
  pub within : n < length (int_values vs)
  pub value : value_in vs token ≡ get_or (int_values vs) n (pos 0)
  pub set_is : (v : ℤ) → int_values (with_value vs token v) ≡ set (int_values vs) n v
  pub refs_stay : (v : ℤ) → pointers_among (with_value vs token v) ≡ pointers_among vs
  pub shape : (v : ℤ) → slots_of (with_value vs token v) ≡ slots_of vs

int_here : (i r : ℕ) (x : Variable) (rest : List Variable) (token : ℕ) (b p : Bool) → (x.token == token) ≡ b → x.is_pointer ≡ p → cond b (Some p) (slot_kind (slots_of rest) token) ≡ Some false
    → ((i r : ℕ) → slot_kind (slots_of rest) token ≡ Some false → IntAt i r rest token) → IntAt i r (x ∷ rest) token
int_here i r x rest token true false eb ep h ih = record {
  n = 0;
  register = let z : i + 0 ≡ i = omega arith in rw (eb, ep, z) refl;
  within = rw ep (omega arith);
  value = rw (eb, ep) refl;
  set_is = λ v. rw (eb, ep) refl;
  refs_stay = λ v. rw (eb, ep) refl;
  shape = λ v. rw eb refl;
}
int_here i r x rest token true true eb ep h ih = absurd (cc)
int_here i r x rest token false false eb ep h ih =
    let w = ih (i + 1) r h in
    let z : i + 1 + w.n ≡ i + (w.n + 1) = omega arith in
    let s : w.n + 1 ≡ suc w.n = omega arith in
    record {
      n = w.n + 1;
      register = rw (eb, ep) (w.register ∙ ap Int z);
      within = let l = w.within in rw ep (omega arith);
      value = rw (eb, ep, s) w.value;
      set_is = λ v. rw (eb, ep, s) (ap (λ l. x.value ∷ l) (w.set_is v));
      refs_stay = λ v. rw (eb, ep) (w.refs_stay v);
      shape = λ v. rw eb (ap (λ l. slot_in x ∷ l) (w.shape v));
    }
int_here i r x rest token false true eb ep h ih =
    let w = ih i (r + 1) h in
    record {
      n = w.n;
      register = rw (eb, ep) w.register;
      within = rw ep w.within;
      value = rw (eb, ep) w.value;
      set_is = λ v. rw (eb, ep) (w.set_is v);
      refs_stay = λ v. rw (eb, ep) (ap (λ l. x.value ∷ l) (w.refs_stay v));
      shape = λ v. rw eb (ap (λ l. slot_in x ∷ l) (w.shape v));
    }

pub int_at : (vs : List Variable) (token i r : ℕ) → slot_kind (slots_of vs) token ≡ Some false → IntAt i r vs token
int_at [] token i r h = absurd (cc)
int_at (x ∷ rest) token i r h = int_here i r x rest token (x.token == token) x.is_pointer refl refl h (λ i r h. int_at rest token i r h)

-- what the frames below hold
abbrev pub below : List Frame → List ℤ
below callers = flat_map held_by_frame (reverse callers)

-- where a frame is: the thread's function, the machine's callers, the frame's first registers, and the source's callers
pub record Standing : Type 0 where
  pub flat : Flat
  pub function : ℕ
  pub frames : List Caller
  pub ints : ℕ
  pub refs : ℕ
  pub callers : List Frame
  pub first : refs ≡ length (below callers)

abbrev pub place : Standing → ℕ → (ℕ → ℤ) → (ℕ → ℤ) → State → At
place z pc ints refs s = record { pc = pc; int_base = z.ints; ref_base = z.refs; ints = ints; refs = refs; frames = z.frames; pending = pos 0; function = z.function; events = s.events; given = s.given_up }

-- The variables are those of the scope, with these temporaries; each integer is in its register, and the references in theirs, with some after them that the
-- source holds in no temporary.
pub record Agree (z : Standing) (T : List ℤ) (scope : List Slot) (loose : List ℤ) (int_bank ref_bank : ℕ → ℤ) (s : State) : Type 0 where
  pub callers : s.callers ≡ z.callers
  pub temporaries : s.frame.temporaries ≡ T
  pub shape : slots_of s.frame.variables ≡ scope
  pub ints : (k : ℕ) → k < int_count scope → int_bank (z.ints + k) ≡ get_or (int_values s.frame.variables) k (pos 0)
  pub refs : Bank ref_bank (below z.callers ++ (pointers_among s.frame.variables ++ (T ++ loose)))

module _ (z : Standing) where
  pub holding : (T : List ℤ) (scope : List Slot) (ints refs : ℕ → ℤ) (s : State) → Agree z T scope [] ints refs s → Holds refs s
  holding T scope ints refs s a = bank_is refs _ _
      (ap (λ t. below z.callers ++ (pointers_among s.frame.variables ++ t)) (append-nil T ∙ sym a.temporaries) ∙ ap (λ c. below c ++ (pointers_among s.frame.variables ++ s.frame.temporaries)) (sym a.callers)) a.refs

  -- the first free reference register
  pub stack_length : (T : List ℤ) (scope : List Slot) (vs : List Variable) (L : List ℤ) → slots_of vs ≡ scope → length (below z.callers ++ (pointers_among vs ++ (T ++ L))) ≡ z.refs + (ref_count scope + length T + length L)
  stack_length T scope vs L e =
      let n = refs_length vs ∙ ap ref_count e in
      let f = z.first in
      omega (arith, length-append (below z.callers) (pointers_among vs ++ (T ++ L)), length-append (pointers_among vs) (T ++ L), length-append T L)

  stack_more : (T : List ℤ) (vs : List Variable) (L : List ℤ) (v : ℤ) → (below z.callers ++ (pointers_among vs ++ (T ++ L))) ++ v ∷ [] ≡ below z.callers ++ (pointers_among vs ++ (T ++ (L ++ v ∷ [])))
  stack_more T vs L v = append_assoc (below z.callers) (pointers_among vs ++ (T ++ L)) (v ∷ [])
      ∙ ap (λ l. below z.callers ++ l) (append_assoc (pointers_among vs) (T ++ L) (v ∷ []) ∙ ap (λ l. pointers_among vs ++ l) (append_assoc T L (v ∷ [])))

  -- one more comes after them
  pub push : (T : List ℤ) (scope : List Slot) (L : List ℤ) (v : ℤ) (n : ℕ) (ints refs : ℕ → ℤ) (s : State) → n ≡ ref_count scope + length T + length L → Agree z T scope L ints refs s → Agree z T scope (L ++ v ∷ []) ints (put refs (z.refs + n) v) s
  push T scope L v n ints refs s e a = record {
    callers = a.callers;
    temporaries = a.temporaries;
    shape = a.shape;
    ints = a.ints;
    refs = bank_is _ _ _ (stack_more T s.frame.variables L v) (bank_push refs _ (z.refs + n) v (ap (λ k. z.refs + k) e ∙ sym (stack_length T scope s.frame.variables L a.shape)) a.refs);
  }

  -- the last goes away
  pub drop_last : (T : List ℤ) (scope : List Slot) (L : List ℤ) (v : ℤ) (n : ℕ) (ints refs : ℕ → ℤ) (s : State) → n ≡ ref_count scope + length T + length L → Agree z T scope (L ++ v ∷ []) ints refs s → Agree z T scope L ints (put refs (z.refs + n) (pos 0)) s
  drop_last T scope L v n ints refs s e a = record {
    callers = a.callers;
    temporaries = a.temporaries;
    shape = a.shape;
    ints = a.ints;
    refs = bank_pop refs _ (z.refs + n) v (ap (λ k. z.refs + k) e ∙ sym (stack_length T scope s.frame.variables L a.shape)) (bank_is _ _ _ (sym (stack_more T s.frame.variables L v)) a.refs);
  }

  -- what is there
  pub last_is : (T : List ℤ) (scope : List Slot) (L : List ℤ) (v : ℤ) (more : List ℤ) (n : ℕ) (ints refs : ℕ → ℤ) (s : State) → n ≡ ref_count scope + length T + length L → Agree z T scope (L ++ v ∷ more) ints refs s → refs (z.refs + n) ≡ v
  last_is T scope L v more n ints refs s e a =
      let t : below z.callers ++ (pointers_among s.frame.variables ++ (T ++ (L ++ v ∷ more))) ≡ (below z.callers ++ (pointers_among s.frame.variables ++ (T ++ L))) ++ v ∷ more =
      sym (append_assoc (below z.callers) (pointers_among s.frame.variables ++ (T ++ L)) (v ∷ more)
      ∙ ap (λ l. below z.callers ++ l) (append_assoc (pointers_among s.frame.variables) (T ++ L) (v ∷ more) ∙ ap (λ l. pointers_among s.frame.variables ++ l) (append_assoc T L (v ∷ more)))) in
      bank_at refs (below z.callers ++ (pointers_among s.frame.variables ++ (T ++ L))) v more (z.refs + n) (ap (λ k. z.refs + k) e ∙ sym (stack_length T scope s.frame.variables L a.shape)) (bank_is refs _ _ t a.refs)

  -- a temporary holds what comes next
  pub hold : (T : List ℤ) (scope : List Slot) (v : ℤ) (ints refs : ℕ → ℤ) (s : State) → Agree z T scope (v ∷ []) ints refs s → Agree z (T ++ v ∷ []) scope [] ints refs (record s { frame = with_temporary v s.frame })
  hold T scope v ints refs s a = record {
    callers = a.callers;
    temporaries = ap (λ t. t ++ v ∷ []) a.temporaries;
    shape = a.shape;
    ints = a.ints;
    refs = bank_is refs _ _ (ap (λ l. below z.callers ++ (pointers_among s.frame.variables ++ l)) (sym (append-nil (T ++ v ∷ [])))) a.refs;
  }

  -- an integer register after the variables changes
  pub with_int : (T : List ℤ) (scope : List Slot) (L : List ℤ) (i : ℕ) (v : ℤ) (ints refs : ℕ → ℤ) (s : State) → int_count scope ≤ i → Agree z T scope L ints refs s → Agree z T scope L (put ints (z.ints + i) v) refs s
  with_int T scope L i v ints refs s le a = record {
    callers = a.callers;
    temporaries = a.temporaries;
    shape = a.shape;
    refs = a.refs;
    ints = λ k lt. put_other ints (z.ints + i) v (z.ints + k) (λ e. omega arith) ∙ a.ints k lt;
  }

  -- the frame and the callers are all that is looked at
  pub same_frame : (T : List ℤ) (scope : List Slot) (L : List ℤ) (ints refs : ℕ → ℤ) (s s' : State) → s'.frame ≡ s.frame → s'.callers ≡ s.callers → Agree z T scope L ints refs s → Agree z T scope L ints refs s'
  same_frame T scope L ints refs s s' ef ec a = record {
    callers = ec ∙ a.callers;
    temporaries = ap (λ (f : Frame). f.temporaries) ef ∙ a.temporaries;
    shape = ap (λ (f : Frame). slots_of f.variables) ef ∙ a.shape;
    ints = λ k lt. a.ints k lt ∙ ap (λ (f : Frame). get_or (int_values f.variables) k (pos 0)) (sym ef);
    refs = bank_is refs _ _ (ap (λ (f : Frame). below z.callers ++ (pointers_among f.variables ++ (T ++ L))) (sym ef)) a.refs;
  }

abbrev pub loose_of : Bool → ℤ → List ℤ
loose_of is_ref v = if is_ref then v ∷ [] else []

-- where the value of an expression of this type is
pub record Valued (z : Standing) (kind : Kind) (T : List ℤ) (scope : List Slot) (i : ℕ) (v : ℤ) (ints ints' refs' : ℕ → ℤ) (s' : State) : Type 0 where
  pub agree : Agree z T scope (loose_of (is_reference kind) v) ints' refs' s'
  pub kept : (k : ℕ) → k < z.ints + i → ints' k ≡ ints k
  pub value : is_integer kind ≡ true → ints' (z.ints + i) ≡ v

-- from where its code ends
abbrev pub Rest : Standing → Kind → List ℤ → List Slot → ℕ → ℕ → ℕ → (ℕ → ℤ) → (ℤ → State → Fin) → Type 0
Rest z kind T scope i pc c ints k = (v : ℤ) (ints' refs' : ℕ → ℤ) (s' : State) → Valued z kind T scope i v ints ints' refs' s' → Same z.flat s'.fuel c (k v s') s'.answers (place z pc ints' refs' s')
