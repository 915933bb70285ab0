-- The few things that a thread does lose no reference, and neither do the accesses that are made of them.
use Rattle.sharc_wants_laws.proofs.{Imports.{◌≡◌, ℕ, ◌+◌, ◌-◌, ◌*◌, ◌≤◌, Bool, true, false, not, cond, List, [], ◌∷◌, ◌++◌, refl, sym, ap, ◌∙◌, subst, arith, length, take, take_at, length-append, append-nil, nat_lt, get_or as slice_index_or, codes, Some, Result, Ok, Err, false≢true, AllByRecursion, ℤ, pos, negsuc, Act, Readonly, Locked, Object, GlobalNumber as Global, Made, TakeKind, Site, Declaration, Trap, Taken, Named, Kind, is_pointer, Resolution, declaration_at, variable_kind, Sharing, locked, cell_of, Guard, mutex, behind, no_mutex, guard_of, instance_mode, held_mutexes, holds_mutex, NULL, is_null, number_of, GivenUp, Released, Replaced, Emptied, Variable, State, Use, reads, writes, nulls, go, Run, then_on, ◌>>=◌, give, done, stop, unless_stop, happens, answered, performs, all_released, drops, holds_reference, moves, moves_on, is_reference, with_value, value_in, value_of, looks_at, traces, sets, reads_variable, new_variable, begins_with, StorePlace, variable, cell, pointee, based, element, guarding, access_mode, fetched, stored, nulled, taken_from, cast_to, freed, cell_at_place, lock_call, unlock_call, wait_call, signal_call, broadcast_call, condition_call, moves_base, gives_up_base, resulting, named_value, gives_up, holds}, Counts.{Declared, refs, rel, vars, one, gone, one_gone, one_null, refs_append, rel_append, vars_append, set_loses, set_keeps, still_declared}, Runs.{Same, moves_level, up_level}}
use Rattle.std.proofs.Common.{bytes_eq}
use Rattle.sharc_wants_laws.proofs.Runs as runs

-- what a temporary holds of a value of this type
abbrev pub slot : Bool → ℤ → List ℤ
slot b v = cond b (v ∷ []) []

module _ (r : Resolution) (n d : ℕ) where
  abbrev pub Atom : {A : Type 0} → Bool → Bool → List ℤ → Run A → (A → List ℤ → Type 0) → Type 0
  Atom {A} a b ts m p = runs.Atom r n d {A = A} a b ts m p

  pub atom_give : {A : Type 0} (b : Bool) (ts : List ℤ) (x : A) (p : A → List ℤ → Type 0) → p x ts → Atom b b ts (give x) p
  atom_give b ts x p h = record {
    steady = λ s. refl;
    runs = λ s at. record { moves = moves_level b _ _ _ (omega arith); callers_same = refl; declared = at.1; after = subst (p x) (sym at.0) h };
  }

  pub atom_stop : {A : Type 0} (b c : Bool) (ts : List ℤ) (trap : Trap) (site : Site) (p : A → List ℤ → Type 0) → Atom b c ts (stop trap site) p
  atom_stop b c ts trap site p = record { steady = λ s. refl; runs = λ s at. moves_level b _ _ _ (omega arith) }

  pub atom_either : {A : Type 0} (q b c : Bool) (ts : List ℤ) (x y : Run A) (p : A → List ℤ → Type 0) → Atom b c ts x p → Atom b c ts y p → Atom b c ts (cond q x y) p
  atom_either true b c ts x y p hx hy = hx
  atom_either false b c ts x y p hx hy = hy

  pub atom_done : (b : Bool) (ts : List ℤ) → Atom b b ts done (Same ts)
  atom_done b ts = atom_give b ts tt (Same ts) refl

  pub atom_unless : (q b : Bool) (ts : List ℤ) (trap : Trap) (site : Site) → Atom b b ts (unless_stop q trap site) (Same ts)
  atom_unless true b ts trap site = atom_done b ts
  atom_unless false b ts trap site = atom_stop b b ts trap site (Same ts)

  pub atom_looks : {A : Type 0} (b : Bool) (ts : List ℤ) (f : State → A) → ((s : State) → f (runs.more r n d s) ≡ f s) → Atom b b ts (looks_at f) (Same ts)
  atom_looks b ts f same = record {
    steady = λ s. ap (λ x. go x (runs.more r n d s)) (same s);
    runs = λ s at. record { moves = moves_level b _ _ _ (omega arith); callers_same = refl; declared = at.1; after = at.0 };
  }

  -- ---- events

  event_moves : (b : Bool) (e w v : ℕ) (f : ℕ) → f ≡ e + 1 → runs.Moves b true e w f v
  event_moves true e w v f h = omega arith
  event_moves false e w v f h = omega arith

  happens_steady : (xs : List ℤ) (site : Site) (act : Act) (s : State) → happens xs site act (runs.more r n d s) ≡ runs.more_out r n d (happens xs site act s)
  happens_steady [] site act s = refl
  happens_steady (x ∷ xs) site act s = refl

  happens_ran : (b : Bool) (ts xs : List ℤ) (site : Site) (act : Act) (s : State) → runs.At r n ts s → runs.Ran r n b true s (Same ts) (happens xs site act s)
  happens_ran b ts [] site act s at = moves_level b _ _ _ (omega arith)
  happens_ran b ts (x ∷ xs) site act s at = record { moves = event_moves b _ _ _ _ (length-append s.events _); callers_same = refl; declared = at.1; after = at.0 }

  pub atom_event : (b : Bool) (ts : List ℤ) (site : Site) (act : Act) → Atom b true ts (answered site act) (Same ts)
  atom_event b ts site act = record { steady = λ s. happens_steady s.answers site act s; runs = λ s at. happens_ran b ts s.answers site act s at }

  -- where it is of no use that one came
  pub atom_level : {A : Type 0} (b : Bool) (ts : List ℤ) (m : Run A) (p : A → List ℤ → Type 0) → Atom b true ts m p → Atom b b ts m p
  atom_level true ts m p h = h
  atom_level false ts m p h = runs.atom_weak r n d ts m p h

  pub atom_performs : (b : Bool) (ts : List ℤ) (site : Site) (act : Act) → Atom b true ts (performs site act) (Same ts)
  atom_performs b ts site act = runs.atom_next r n d b true true ts ts _ _ (Same ts) (atom_event b ts site act) (λ x. atom_done true ts)

  -- ---- what is held and given up

  pub atom_given : (b : Bool) (ts : List ℤ) (more : List GivenUp) → Atom b b ts (gives_up more) (Same ts)
  atom_given b ts more = record {
    steady = λ s. refl;
    runs = λ s at. record { moves = moves_level b _ _ _ (let h : rel n (s.given_up ++ more) ≡ rel n s.given_up + rel n more = rel_append n s.given_up more in omega arith); callers_same = refl; declared = at.1; after = at.0 };
  }

  pub atom_drops : (b : Bool) (ts : List ℤ) (kind : Kind) (v : ℤ) → Atom b b ts (drops kind v) (Same ts)
  atom_drops b ts kind v = atom_either (is_reference kind) b b ts _ _ (Same ts) (atom_given b ts _) (atom_done b ts)

  pub atom_held : (b : Bool) (ts : List ℤ) (v : ℤ) → Atom b b ts (holds_reference v) (Same (ts ++ v ∷ []))
  atom_held b ts v = record {
    steady = λ s. refl;
    runs = λ s at. record {
      moves = moves_level b _ _ _ (let h : refs n (s.frame.temporaries ++ v ∷ []) ≡ refs n s.frame.temporaries + refs n (v ∷ []) = refs_append n s.frame.temporaries (v ∷ []) in omega arith);
      callers_same = refl;
      declared = at.1;
      after = ap (λ z. z ++ v ∷ []) at.0;
    };
  }

  held_by : (q b : Bool) (ts : List ℤ) (v : ℤ) → Atom b b ts (cond q (holds_reference v) done) (Same (ts ++ slot q v))
  held_by true b ts v = atom_held b ts v
  held_by false b ts v = subst (λ z. Atom b b ts done (Same z)) (sym (append-nil ts)) (atom_done b ts)

  pub atom_holds : (b : Bool) (ts : List ℤ) (kind : Kind) (v : ℤ) → Atom b b ts (holds kind v) (Same (ts ++ slot (is_reference kind) v))
  atom_holds b ts kind v = held_by (is_reference kind) b ts v

  -- behind an event only

  one_less : (ts : List ℤ) (v : ℤ) → take (length (ts ++ v ∷ []) - 1) (ts ++ v ∷ []) ≡ ts
  one_less ts v = let h : length (ts ++ v ∷ []) ≡ length ts + length (v ∷ []) = length-append ts (v ∷ []) in take_at ts (v ∷ []) (length (ts ++ v ∷ []) - 1) (omega arith)

  pub atom_moved : (ts : List ℤ) (v : ℤ) → Atom true true (ts ++ v ∷ []) (moves_on 1) (Same ts)
  atom_moved ts v = record {
    steady = λ s. refl;
    runs = λ s at. record { moves = omega arith; callers_same = refl; declared = at.1; after = ap (λ z. take (length z - 1) z) at.0 ∙ one_less ts v };
  }

  moved_by : (q : Bool) (ts : List ℤ) (v : ℤ) → Atom true true (ts ++ slot q v) (cond q (moves_on 1) done) (Same ts)
  moved_by true ts v = atom_moved ts v
  moved_by false ts v = subst (λ z. Atom true true z done (Same ts)) (sym (append-nil ts)) (atom_done true ts)

  pub atom_moves : (ts : List ℤ) (kind : Kind) (v : ℤ) → Atom true true (ts ++ slot (is_reference kind) v) (moves kind) (Same ts)
  atom_moves ts kind v = moved_by (is_reference kind) ts v

  -- ---- variables

  pub atom_traces : (b : Bool) (ts : List ℤ) (u : Use) (x : ℕ) (site : Site) → Atom b b ts (traces u x site) (Same ts)
  atom_traces b ts u x site = record {
    steady = λ s. refl;
    runs = λ s at. record { moves = moves_level b _ _ _ (omega arith); callers_same = refl; declared = at.1; after = at.0 };
  }

  pub atom_values : (b : Bool) (ts : List ℤ) → Atom b b ts (looks_at value_of) (Same ts)
  atom_values b ts = atom_looks b ts value_of (λ s. refl)

  pub atom_events : (b : Bool) (ts : List ℤ) → Atom b b ts (looks_at (λ s. s.events)) (Same ts)
  atom_events b ts = atom_looks b ts (λ s. s.events) (λ s. refl)

  pub atom_reads : (b : Bool) (ts : List ℤ) (site : Site) (x : ℕ) → Atom b b ts (reads_variable site x) (Same ts)
  atom_reads b ts site x = runs.atom_next r n d b b b ts ts _ _ (Same ts) (atom_traces b ts reads x site) (λ _. atom_looks b ts (λ s. value_of s x) (λ s. refl))

  sets_behind : (ts : List ℤ) (x : ℕ) (v : ℤ) → Atom true true ts (sets x v) (Same ts)
  sets_behind ts x v = record {
    steady = λ s. refl;
    runs = λ s at. record { moves = omega arith; callers_same = refl; declared = still_declared r s.frame.variables x v at.1; after = at.0 };
  }

  add_declared : (xs : List Variable) (x : Variable) → AllByRecursion (Declared r) xs → Declared r x → AllByRecursion (Declared r) (xs ++ x ∷ [])
  add_declared [] x h own = (own, tt)
  add_declared (y ∷ xs) x h own = (h.0, add_declared xs x h.1 own)

  pub atom_begins : (b : Bool) (ts : List ℤ) (x : Declaration) (v : ℤ) → Declared r (new_variable x v) → Atom b b ts (begins_with x v) (Same ts)
  atom_begins b ts x v own = record {
    steady = λ s. refl;
    runs = λ s at. record {
      moves = moves_level b _ _ _ (let h : vars n (s.frame.variables ++ new_variable x v ∷ []) ≡ vars n s.frame.variables + vars n (new_variable x v ∷ []) = vars_append n s.frame.variables (new_variable x v ∷ []) in omega arith);
      callers_same = refl;
      declared = add_declared s.frame.variables (new_variable x v) at.1 own;
      after = at.0;
    };
  }

  -- ---- places and accesses

  pub atom_based : (b : Bool) (ts : List ℤ) (site : Site) (kind : Kind) (p : ℤ) → is_reference kind ≡ true → Atom b b ts (based site kind p) (Same (ts ++ p ∷ []))
  atom_based b ts site kind p h = runs.atom_next r n d b b b ts (ts ++ p ∷ []) _ _ (Same (ts ++ p ∷ [])) (subst (λ q. Atom b b ts (holds kind p) (Same (ts ++ slot q p))) h (atom_holds b ts kind p)) (λ _. atom_unless (not (is_null p)) b (ts ++ p ∷ []) Trap.NullPointer site)

  pub atom_element : (b : Bool) (ts : List ℤ) (site : Site) (o : Object) (cells elements : ℕ) (i : ℤ) (p : StorePlace → List ℤ → Type 0) → ((c e : ℕ) → p (cell o c e) ts) → Atom b b ts (element site o cells elements i) p
  atom_element b ts site o cells elements (pos k) p h = atom_either (nat_lt k elements) b b ts _ _ p (atom_give b ts _ p (h (k * cells) (k * cells))) (atom_stop b b ts _ site p)
  atom_element b ts site o cells elements (negsuc k) p h = atom_stop b b ts _ site p

  atom_guarding : (b : Bool) (ts : List ℤ) (site : Site) (g : Guard) → Atom b b ts (guarding site g) (Same ts)
  atom_guarding b ts site (mutex c) = atom_give b ts c (Same ts) refl
  atom_guarding b ts site (behind c) = runs.atom_next r n d b b b ts ts _ _ (Same ts) (atom_level b ts _ (Same ts) (atom_event b ts site (Act.Read c Readonly))) (λ p.
      runs.atom_next r n d b b b ts ts _ _ (Same ts) (atom_unless (not (is_null p)) b ts Trap.NullPointer site) (λ _. atom_give b ts (cell_of (Made (number_of p)) 0) (Same ts) refl))
  atom_guarding b ts site no_mutex = atom_stop b b ts _ site (Same ts)

  atom_mode : (b : Bool) (ts : List ℤ) (r2 : Resolution) (site : Site) (mode : Sharing) (o : Object) (first : ℕ) → Atom b b ts (access_mode r2 site mode o first) (Same ts)
  atom_mode b ts r2 site (locked l) o first = runs.atom_next r n d b b b ts ts _ _ (Same ts) (atom_values b ts) (λ held.
      runs.atom_next r n d b b b ts ts _ _ (Same ts) (atom_guarding b ts site (guard_of r2 held o first l)) (λ c. atom_give b ts (Locked (Some c)) (Same ts) refl))
  atom_mode b ts r2 site _ o first = atom_give b ts _ (Same ts) refl

  pub atom_fetched : (b : Bool) (ts : List ℤ) (r2 : Resolution) (site : Site) (mode : Sharing) (p : StorePlace) → Atom b b ts (fetched r2 site mode p) (Same ts)
  atom_fetched b ts r2 site mode (variable x) = atom_reads b ts site x
  atom_fetched b ts r2 site mode (cell o first c) = runs.atom_next r n d b b b ts ts _ _ (Same ts) (atom_mode b ts r2 site mode o first) (λ under. atom_level b ts _ (Same ts) (atom_event b ts site (Act.Read (cell_of o c) under)))

  pub atom_named : (b : Bool) (ts : List ℤ) (r2 : Resolution) (mode : Sharing) (site : Site) (k : Named) → Atom b b ts (named_value r2 mode site k) (Same ts)
  atom_named b ts r2 mode site (Named.Variable token) = atom_reads b ts site token
  atom_named b ts r2 mode site (Named.Global k) = atom_fetched b ts r2 site mode (cell (Global k) 0 0)
  atom_named b ts r2 mode site _ = atom_give b ts (pos 0) (Same ts) refl

  -- A value that moves into a variable: the old one is given up, if the variable is a pointer.

  abbrev written : Use → Site → ℕ → ℤ → State → State
  written u site x v s = record s {
    frame = record s.frame { variables = with_value s.frame.variables x v };
    trace = s.trace ++ record { use_made = u; variable = x; site = site; call = s.frame.call } ∷ [];
  }

  dropped_steady : (q : Bool) (old : ℤ) (s : State) → cond q (gives_up (all_released (old ∷ []))) done (runs.more r n d s) ≡ runs.more_out r n d (cond q (gives_up (all_released (old ∷ []))) done s)
  dropped_steady true old s = refl
  dropped_steady false old s = refl

  is_plain : (p : Bool) → (p ≡ true → false ≡ true) → p ≡ false
  is_plain true h = absurd (false≢true (h refl))
  is_plain false h = refl

  dropped_ran : (q : Bool) (ts : List ℤ) (site : Site) (x : ℕ) (v : ℤ) (s : State) → (is_pointer (variable_kind (declaration_at r x)) ≡ true → q ≡ true) → runs.At r n ts s
      → runs.Ran r n false false s (Same ts) (cond q (gives_up (all_released (value_in s.frame.variables x ∷ []))) done (written writes site x v s))
  dropped_ran true ts site x v s h at = record {
    moves = up_level _ _ _ (
        let old : vars n s.frame.variables ≤ vars n (with_value s.frame.variables x v) + one n (value_in s.frame.variables x) = set_loses n s.frame.variables x v in
        let given : one n (value_in s.frame.variables x) ≤ gone n (Released (number_of (value_in s.frame.variables x))) = one_gone n (value_in s.frame.variables x) in
        let sum : rel n (s.given_up ++ Released (number_of (value_in s.frame.variables x)) ∷ []) ≡ rel n s.given_up + rel n (Released (number_of (value_in s.frame.variables x)) ∷ []) = rel_append n s.given_up (Released (number_of (value_in s.frame.variables x)) ∷ []) in
        omega arith);
    callers_same = refl;
    declared = still_declared r s.frame.variables x v at.1;
    after = at.0;
  }
  dropped_ran false ts site x v s h at = record {
    moves = up_level _ _ _ (let kept : vars n s.frame.variables ≤ vars n (with_value s.frame.variables x v) = set_keeps r n s.frame.variables x v at.1 (is_plain (is_pointer (variable_kind (declaration_at r x))) h) in omega arith);
    callers_same = refl;
    declared = still_declared r s.frame.variables x v at.1;
    after = at.0;
  }

  pub stored_variable : (ts : List ℤ) (r2 : Resolution) (site : Site) (kind : Kind) (mode : Sharing) (x : ℕ) (v : ℤ) → (is_pointer (variable_kind (declaration_at r x)) ≡ true → is_reference kind ≡ true)
      → Atom false false ts (stored r2 site kind mode (variable x) v) (Same ts)
  stored_variable ts r2 site kind mode x v h = record {
    steady = λ s. dropped_steady (is_reference kind) (value_of s x) (written writes site x v s);
    runs = λ s at. dropped_ran (is_reference kind) ts site x v s h at;
  }

  -- into a cell, behind its Write
  pub stored_cell : (ts : List ℤ) (r2 : Resolution) (site : Site) (kind : Kind) (mode : Sharing) (o : Object) (first c : ℕ) (v : ℤ) → Atom false false ts (stored r2 site kind mode (cell o first c) v) (Same ts)
  stored_cell ts r2 site kind mode o first c v = let us = ts ++ slot (is_reference kind) v in
      runs.atom_next r n d false false false ts us _ _ (Same ts) (atom_holds false ts kind v) (λ _.
      runs.atom_next r n d false false false us us _ _ (Same ts) (atom_mode false us r2 site mode o first) (λ under.
      runs.atom_weak r n d us _ (Same ts) (runs.atom_next r n d false true true us us _ _ (Same ts) (atom_performs false us site (Act.Write (cell_of o c) under v)) (λ _.
      runs.atom_next r n d true true true us ts _ _ (Same ts) (atom_moves ts kind v) (λ _. atom_either (is_pointer kind) true true ts _ _ (Same ts) (atom_given true ts (Replaced (cell_of o c) ∷ [])) (atom_done true ts))))))

  -- what is taken out of a variable leaves NULL, behind the Take; where it was NULL nothing is lost

  nulled_behind : (ts : List ℤ) (token : Site) (x : ℕ) → Atom true true ts (nulled token x) (Same ts)
  nulled_behind ts token x = runs.atom_next r n d true true true ts ts _ _ (Same ts) (atom_traces true ts nulls x token) (λ _. sets_behind ts x NULL)

  taken_event : (ts : List ℤ) (token site : Site) (kind : TakeKind) (x : ℕ) (v : ℤ) → Atom false true ts (answered site (Act.Take (Taken.Local x) kind) >>= λ _. (nulled token x >>= λ _. give v)) (Same ts)
  taken_event ts token site kind x v = runs.atom_next r n d false true true ts ts _ _ (Same ts) (atom_event false ts site (Act.Take (Taken.Local x) kind)) (λ _.
      runs.atom_next r n d true true true ts ts _ _ (Same ts) (nulled_behind ts token x) (λ _. atom_give true ts v (Same ts) refl))

  taken_ran : (q : Bool) (ts : List ℤ) (token site : Site) (kind : TakeKind) (x : ℕ) (s : State) → is_null (value_in s.frame.variables x) ≡ q → runs.At r n ts s
      → runs.Ran r n false false s (Same ts) (then_on (cond q (give (value_in s.frame.variables x)) (answered site (Act.Take (Taken.Local x) kind)) s) (λ _. (nulled token x >>= λ _. give (value_in s.frame.variables x))))
  taken_ran true ts token site kind x s h at = record {
    moves = up_level _ _ _ (
        let old : vars n s.frame.variables ≤ vars n (with_value s.frame.variables x NULL) + one n (value_in s.frame.variables x) = set_loses n s.frame.variables x NULL in
        let none : one n (value_in s.frame.variables x) ≡ 0 = one_null n (value_in s.frame.variables x) h in
        omega arith);
    callers_same = refl;
    declared = still_declared r s.frame.variables x NULL at.1;
    after = at.0;
  }
  taken_ran false ts token site kind x s h at = (runs.atom_weak r n d ts _ (Same ts) (taken_event ts token site kind x (value_in s.frame.variables x))).runs s at

  taken_steady : (q : Bool) (token site : Site) (kind : TakeKind) (x : ℕ) (v : ℤ) (s : State)
      → then_on (cond q (give v) (answered site (Act.Take (Taken.Local x) kind)) (runs.more r n d s)) (λ _. (nulled token x >>= λ _. give v)) ≡ runs.more_out r n d (then_on (cond q (give v) (answered site (Act.Take (Taken.Local x) kind)) s) (λ _. (nulled token x >>= λ _. give v)))
  taken_steady true token site kind x v s = refl
  taken_steady false token site kind x v s = (taken_event [] token site kind x v).steady s

  pub atom_taken : (ts : List ℤ) (r2 : Resolution) (token site : Site) (mode : Sharing) (kind : TakeKind) (p : StorePlace) → Atom false false ts (taken_from r2 token site mode kind p) (Same ts)
  atom_taken ts r2 token site mode kind (variable x) = record {
    steady = λ s. taken_steady (is_null (value_of s x)) token site kind x (value_of s x) s;
    runs = λ s at. taken_ran (is_null (value_of s x)) ts token site kind x s refl at;
  }
  atom_taken ts r2 token site mode kind (cell o first c) = runs.atom_next r n d false false false ts ts _ _ (Same ts) (atom_mode false ts r2 site mode o first) (λ under.
      atom_level false ts _ (Same ts) (atom_event false ts site (Act.Take (Taken.Cell (cell_of o c) under) kind)))

  pub atom_cast : (ts : List ℤ) (r2 : Resolution) (site : Site) (mode : Sharing) (v : ℤ) → Atom false false ts (cast_to r2 site mode v) (Same ts)
  atom_cast ts r2 site mode v = let us = ts ++ v ∷ [] in
      runs.atom_weak r n d ts _ (Same ts) (runs.atom_next r n d false false true ts us _ _ (Same ts) (atom_held false ts v) (λ _.
      runs.atom_next r n d false false true us us _ _ (Same ts) (atom_values false us) (λ held.
      runs.atom_next r n d false true true us us _ _ (Same ts) (atom_performs false us site (Act.Give v (instance_mode r2 held mode))) (λ _.
      runs.atom_next r n d true true true us ts _ _ (Same ts) (atom_moved ts v) (λ _. atom_give true ts v (Same ts) refl)))))

  pub atom_freed : (ts : List ℤ) (site : Site) (v : ℤ) → Atom false false ts (freed site v) (Same ts)
  atom_freed ts site v = let us = ts ++ v ∷ [] in
      runs.atom_weak r n d ts _ (Same ts) (runs.atom_next r n d false false true ts ts _ _ (Same ts) (atom_given false ts (Emptied (number_of v) ∷ [])) (λ _.
      runs.atom_next r n d false false true ts us _ _ (Same ts) (atom_held false ts v) (λ _.
      runs.atom_next r n d false true true us us _ _ (Same ts) (atom_performs false us site (Act.Freed v)) (λ _. atom_moved ts v))))

  -- ---- mutexes and condition variables

  -- the base of a mutex in an object is the last temporary, and moves to the log behind the Lock

  pub data Based (ts : List ℤ) : StorePlace → List ℤ → Type 0 where
    no_base : {x : ℕ} → Based ts (variable x) ts
    in_global : {g first c : ℕ} → Based ts (cell (Global g) first c) ts
    in_object : {k first c : ℕ} → (v : ℤ) → Based ts (cell (Made k) first c) (ts ++ v ∷ [])

  base_moved : (ts us : List ℤ) (p : StorePlace) → Based ts p us → Atom true true us (moves_base p) (Same ts)
  base_moved ts _ _ no_base = atom_done true ts
  base_moved ts _ _ in_global = atom_done true ts
  base_moved ts _ _ (in_object v) = atom_moved ts v

  pub atom_lock : (ts us : List ℤ) (site : Site) (p : StorePlace) → Based ts p us → Atom false false us (lock_call site p) (Same ts)
  atom_lock ts us site p b = runs.atom_next r n d false false false us us _ _ (Same ts) (atom_events false us) (λ own.
      runs.atom_next r n d false false false us us _ _ (Same ts) (atom_unless (not (holds_mutex own (cell_at_place p))) false us Trap.MutexAlreadyHeld site) (λ _.
      runs.atom_next r n d false false false us us _ _ (Same ts) (atom_unless (nat_lt (length (held_mutexes own)) 16) false us Trap.TooManyLocks site) (λ _.
      runs.atom_weak r n d us _ (Same ts) (runs.atom_next r n d false true true us us _ _ (Same ts) (atom_performs false us site (Act.Lock (cell_at_place p))) (λ _. base_moved ts us p b)))))

  base_given : (b : Bool) (ts : List ℤ) (p : StorePlace) → Atom b b ts (gives_up_base p) (Same ts)
  base_given b ts (cell (Made k) first c) = atom_given b ts (Released k ∷ [])
  base_given b ts _ = atom_done b ts

  pub atom_unlock : (ts : List ℤ) (site : Site) (p : StorePlace) → Atom false false ts (unlock_call site p) (Same ts)
  atom_unlock ts site p = runs.atom_next r n d false false false ts ts _ _ (Same ts) (atom_events false ts) (λ own.
      runs.atom_next r n d false false false ts ts _ _ (Same ts) (atom_unless (holds_mutex own (cell_at_place p)) false ts Trap.MutexNotHeld site) (λ _.
      runs.atom_weak r n d ts _ (Same ts) (runs.atom_next r n d false true true ts ts _ _ (Same ts) (atom_performs false ts site (Act.Unlock (cell_at_place p))) (λ _. base_given true ts p))))

  atom_wait : (ts : List ℤ) (site : Site) (c m : ℤ) → Atom false false ts (wait_call site c m) (Same ts)
  atom_wait ts site c m = let us = ts ++ m ∷ [] in
      runs.atom_next r n d false false false ts ts _ _ (Same ts) (atom_unless (not (is_null c)) false ts Trap.NullPointer site) (λ _.
      runs.atom_next r n d false false false ts ts _ _ (Same ts) (atom_unless (not (is_null m)) false ts Trap.NullPointer site) (λ _.
      runs.atom_next r n d false false false ts ts _ _ (Same ts) (atom_events false ts) (λ own.
      runs.atom_next r n d false false false ts ts _ _ (Same ts) (atom_unless (holds_mutex own (cell_at_place (pointee m))) false ts Trap.MutexNotHeld site) (λ _.
      runs.atom_weak r n d ts _ (Same ts) (runs.atom_next r n d false true true ts ts _ _ (Same ts) (atom_performs false ts site (Act.Enter (cell_at_place (pointee c)))) (λ _.
      runs.atom_next r n d true true true ts ts _ _ (Same ts) (atom_performs true ts site (Act.Unlock (cell_at_place (pointee m)))) (λ _.
      runs.atom_next r n d true true true ts us _ _ (Same ts) (atom_held true ts m) (λ _.
      runs.atom_next r n d true true true us us _ _ (Same ts) (atom_performs true us site (Act.Woken (cell_at_place (pointee c)))) (λ _.
      runs.atom_next r n d true true true us us _ _ (Same ts) (atom_performs true us site (Act.Lock (cell_at_place (pointee m)))) (λ _. atom_moved ts m))))))))))

  atom_signal : (ts : List ℤ) (site : Site) (c : ℤ) → Atom false false ts (signal_call site c) (Same ts)
  atom_signal ts site c = runs.atom_next r n d false false false ts ts _ _ (Same ts) (atom_unless (not (is_null c)) false ts Trap.NullPointer site) (λ _. atom_level false ts _ (Same ts) (atom_performs false ts site (Act.Signal (cell_at_place (pointee c)))))

  atom_broadcast : (ts : List ℤ) (site : Site) (c : ℤ) → Atom false false ts (broadcast_call site c) (Same ts)
  atom_broadcast ts site c = runs.atom_next r n d false false false ts ts _ _ (Same ts) (atom_unless (not (is_null c)) false ts Trap.NullPointer site) (λ _. atom_level false ts _ (Same ts) (atom_performs false ts site (Act.Broadcast (cell_at_place (pointee c)))))

  pub atom_condition : (ts : List ℤ) (site : Site) (name : List ℕ) (vs : List ℤ) → Atom false false ts (condition_call site name vs) (Same ts)
  atom_condition ts site name vs = atom_either (bytes_eq name (codes "wait")) false false ts _ _ (Same ts) (atom_wait ts site (slice_index_or vs 0 NULL) (slice_index_or vs 1 NULL))
      (atom_either (bytes_eq name (codes "signal")) false false ts _ _ (Same ts) (atom_signal ts site (slice_index_or vs 0 NULL)) (atom_broadcast ts site (slice_index_or vs 0 NULL)))

  pub atom_result : (ts : List ℤ) (site : Site) (x : Result ℤ Trap) → Atom false false ts (resulting site x) (Same ts)
  atom_result ts site (Ok v) = atom_give false ts v (Same ts) refl
  atom_result ts site (Err trap) = atom_stop false false ts trap site (Same ts)
