-- What holds of every run: what the parts of the meaning keep, by one induction on the syntax.
use Rattle.sharc_meaning.proofs.Imports.{ℕ, zero, suc, ℤ, pos, negsuc, Bool, true, false, cond, not, List, [], ◌∷◌, ◌++◌, length, drop, slice_index_or, unsigned_abs, Option, Some, None, Result, Ok, Err, nat_lt, codes, bytes_eq, Act, Object, Global, Made, TakeKind, Site, Span, Declaration, FieldOperator, Dot, Arrow, BinaryOperator, LogicalOr, LogicalAnd, PlaceCall, Lock, Unlock, Free, UnaryOperator, Negate, Not, Complement, Dereference, ValueCall, Expression, identifier, constant, parentheses, call, spawn, on_value, on_place, cast, index, field, unary, binary, Arguments, no_arguments, argument, Right, value, malloc, Simple, assign, does_call, Local, First, nothing, declares, does, Statement, empty, block, declare, simple, jump, return, if_then, if_then_else, while, for, Statements, no_statements, statement, Function, Readonly, Locked, Cast, ToFree, Trap, span_of, Named, Kind, is_pointer, is_array, element_kind, declared_kind, declared_kinds, promoted, Resolution, named_at, kind_at, function_at, class_of, binary_result, parameters_named, Assignment, Sharing, private, locked, cell_at, pointed, written, row_at, declared_row, cast_row, cell_of, element_cells, Guard, mutex, behind, no_mutex, guard_of, instance_mode, bits_of, fits, is_zero, truth, operated, negated, complement, held_mutexes, holds_mutex, NULL, is_null, number_of, elements_of, constant_value, GivenUp, Released, Replaced, Emptied, Frame, Use, writes, nulls, go, new_variable, with_value, with_temporary, without_temporaries, Run, Step, ◌>>=◌, give, stop, unless_stop, entered, answered, performs, gives_up, drops, holds, holds_reference, moves, moves_on, is_reference, temporarily, value_of, looks_at, traces, sets, reads_variable, writes_variable, begins_with, in_block, StorePlace, variable, cell, no_place, place_named, pointee, based, element, element_of_array, index_place, pointee_place, field_place, unary_place, guarding, access_mode, fetched, stored, taken_from, cast_to, freed, cell_at_place, moves_base, gives_up_base, lock_call, unlock_call, wait_call, signal_call, broadcast_call, condition_call, Calls, resulting, tested, operand, fitting, passed, named_value, called, number_named, value_act, spawned, value_called, taking, place_called, cast_value, place_value, unary_value, binary_value, eval, eval_all, place_of, Flow, next, returned, on_next, loop, left_by, elements_made, is_positive, right_value, done_simple, initialised, declared, done_first, done_step, done_test, return_with, exec, exec_all, parameters_begin, left_at, in_frame, run_function, call_value, calls, goes_away, run_thread, Taken, Join, Print, AllByRecursion, CellMode, taken_to_free, ◌≡◌, refl}

-- given up by something else than the cells of an object that is freed
abbrev pub NotEmptied : GivenUp → Type 0
NotEmptied (Emptied n) = ⊥
NotEmptied _ = Unit {0}

-- A property of runs that the parts of the meaning keep. Its flag says that a statement or an expression was entered. Where a `free` stands apart, as one part,
-- no other event takes something to free it, and nothing else gives up the cells of an object.
pub record Closed (apart : Bool) (Q : Bool → (A : Type 0) → Run A → Type 0) : Type 1 where
  pub eases : (A : Type 0) (m : Run A) → Q true A m → Q false A m
  pub give : (A : Type 0) (x : A) → Q false A (give x)
  pub stop : (A : Type 0) (trap : Trap) (site : Site) → Q false A (stop trap site)
  pub enters : (A : Type 0) (m : Run A) → Q false A m → Q true A (entered m)
  pub event : (site : Site) (act : Act) → (apart ≡ true → taken_to_free act ≡ false) → Q false ℤ (answered site act)
  pub events : Q false _ (looks_at (λ s. s.events))
  pub values : Q false (ℕ → ℤ) (looks_at value_of)
  pub trace : (u : Use) (token : ℕ) (site : Site) → Q false (Unit {0}) (traces u token site)
  pub frame : (f : Frame → Frame) → Q false (Unit {0}) (λ s. go tt (record s { frame = f s.frame }))
  pub given : (more : List GivenUp) → (apart ≡ true → AllByRecursion NotEmptied more) → Q false (Unit {0}) (gives_up more)
  pub binds : (A B : Type 0) (m : Run A) (f : A → Run B) → Q false A m → ((x : A) → Q false B (f x)) → Q false B (m >>= f)
  pub scope : (A : Type 0) (m : Run A) → Q false A m → Q false A (temporarily m)
  pub block : (A : Type 0) (m : Run A) → Q false A m → Q false A (in_block m)
  pub call : (A : Type 0) (n : ℕ) (m : Run A) → Q false A m → Q false A (in_frame n m)
  pub loops : (test : Run Bool) (step : Step) (body : Run Flow) → Q false Bool test → Q false (Unit {0}) step → Q true Flow body → Q false Flow (loop test step body)
  pub frees : apart ≡ true → (m : Assignment) (s : Span) (a : Expression) (place : Run StorePlace) → Q false StorePlace place
      → ((o : Object) (first : ℕ) → Q false CellMode (access_mode m.typed (span_of a).first (cell_at m a) o first)) → Q false (Unit {0}) (place_called m s Free a place)

module _ {apart : Bool} (Q : Bool → (A : Type 0) → Run A → Type 0) (q : Closed apart Q) where
  abbrev Keeps : {A : Type 0} → Run A → Type 0
  Keeps {A} m = Q false A m

  either : (b : Bool) (A : Type 0) (m n : Run A) → Keeps m → Keeps n → Keeps (cond b m n)
  either true A m n hm hn = hm
  either false A m n hm hn = hn

  unless : (b : Bool) (trap : Trap) (site : Site) → Keeps (unless_stop b trap site)
  unless true trap site = q.give _ tt
  unless false trap site = q.stop _ trap site

  looks : (x : ℕ) → Keeps (looks_at (λ s. value_of s x))
  looks x = q.binds _ _ _ _ q.values (λ held. q.give ℤ (held x))

  performs_kept : (site : Site) (act : Act) → (apart ≡ true → taken_to_free act ≡ false) → Keeps (performs site act)
  performs_kept site act other = q.binds _ _ _ _ (q.event site act other) (λ x. q.give _ tt)

  sets_kept : (x : ℕ) (v : ℤ) → Keeps (sets x v)
  sets_kept x v = q.frame (λ f. record f { variables = with_value f.variables x v })

  held_kept : (v : ℤ) → Keeps (holds_reference v)
  held_kept v = q.frame (with_temporary v)

  moved_kept : (n : ℕ) → Keeps (moves_on n)
  moved_kept n = q.frame (without_temporaries n)

  drops_kept : (kind : Kind) (v : ℤ) → Keeps (drops kind v)
  drops_kept kind v = either (is_reference kind) _ _ _ (q.given _ (λ _. (tt, tt))) (q.give _ tt)

  holds_kept : (kind : Kind) (v : ℤ) → Keeps (holds kind v)
  holds_kept kind v = either (is_reference kind) _ _ _ (held_kept v) (q.give _ tt)

  moves_kept : (kind : Kind) → Keeps (moves kind)
  moves_kept kind = either (is_reference kind) _ _ _ (moved_kept 1) (q.give _ tt)

  reads_kept : (site : Site) (x : ℕ) → Keeps (reads_variable site x)
  reads_kept site x = q.binds _ _ _ _ (q.trace _ x site) (λ _. looks x)

  writes_kept : (site : Site) (x : ℕ) (v : ℤ) → Keeps (writes_variable site x v)
  writes_kept site x v = q.binds _ _ _ _ (q.trace writes x site) (λ _. sets_kept x v)

  begins_kept : (d : Declaration) (v : ℤ) → Keeps (begins_with d v)
  begins_kept d v = q.binds _ _ _ _ (q.frame (λ f. record f { variables = f.variables ++ new_variable d v ∷ [] })) (λ _. q.trace writes d.name.site.token d.name.site)

  -- ---- places
  based_kept : (site : Site) (kind : Kind) (p : ℤ) → Keeps (based site kind p)
  based_kept site kind p = q.binds _ _ _ _ (holds_kept kind p) (λ _. unless (not (is_null p)) Trap.NullPointer site)

  element_kept : (site : Site) (o : Object) (cells elements : ℕ) (i : ℤ) → Keeps (element site o cells elements i)
  element_kept site o cells elements (pos n) = either (nat_lt n elements) _ _ _ (q.give _ _) (q.stop _ _ site)
  element_kept site o cells elements (negsuc n) = q.stop _ _ site

  array_kept : (r : Resolution) (site : Site) (cells : ℕ) (p : StorePlace) (i : ℤ) → Keeps (element_of_array r site cells p i)
  array_kept r site cells (cell (Global g) first c) i = element_kept site (Global g) cells _ i
  array_kept r site cells _ i = q.give _ _

  index_kept : (r : Resolution) (site : Site) (a : Expression) (array : Run StorePlace) (pointer i : Run ℤ) → Keeps array → Keeps pointer → Keeps i → Keeps (index_place r site a array pointer i)
  index_kept r site a array pointer i ha hp hi = either (is_array (kind_at r a)) _ _ _
      (q.binds _ _ _ _ ha (λ base. q.binds _ _ _ _ hi (λ n. array_kept r site (element_cells r (element_kind (kind_at r a))) base n)))
      (q.binds _ _ _ _ hp (λ p. q.binds _ _ _ _ (based_kept site (kind_at r a) p) (λ _. q.binds _ _ _ _ hi (λ n. element_kept site (Made (number_of p)) (element_cells r (element_kind (kind_at r a))) (elements_of p) n))))

  pointee_kept : (r : Resolution) (site : Site) (a : Expression) (pointer : Run ℤ) → Keeps pointer → Keeps (pointee_place r site a pointer)
  pointee_kept r site a pointer h = q.binds _ _ _ _ h (λ p. q.binds _ _ _ _ (based_kept site (kind_at r a) p) (λ _. q.give _ (pointee p)))

  field_kept : (r : Resolution) (site : Site) (a : Expression) (w : FieldOperator) (n : Named) (base : Run StorePlace) (pointer : Run ℤ) → Keeps base → Keeps pointer → Keeps (field_place r site a w n base pointer)
  field_kept r site a Dot n base pointer hb hp = q.binds _ _ _ _ hb (λ p. q.give _ _)
  field_kept r site a Arrow n base pointer hb hp = q.binds _ _ _ _ (pointee_kept r site a pointer hp) (λ p. q.give _ _)

  unary_place_kept : (r : Resolution) (site : Site) (o : UnaryOperator) (a : Expression) (pointer : Run ℤ) → Keeps pointer → Keeps (unary_place r site o a pointer)
  unary_place_kept r site Dereference a pointer h = pointee_kept r site a pointer h
  unary_place_kept r site _ a pointer h = q.give _ _

  -- ---- accesses
  guarding_kept : (site : Site) (g : Guard) → Keeps (guarding site g)
  guarding_kept site (mutex c) = q.give _ _
  guarding_kept site (behind c) = q.binds _ _ _ _ (q.event site (Act.Read c Readonly) (λ _. refl)) (λ p. q.binds _ _ _ _ (unless (not (is_null p)) Trap.NullPointer site) (λ _. q.give _ (cell_of (Made (number_of p)) 0)))
  guarding_kept site no_mutex = q.stop _ _ site

  mode_kept : (r : Resolution) (site : Site) (mode : Sharing) (o : Object) (first : ℕ) → Keeps (access_mode r site mode o first)
  mode_kept r site (locked l) o first = q.binds _ _ _ _ q.values (λ held. q.binds _ _ _ _ (guarding_kept site (guard_of r held o first l)) (λ c. q.give _ (Locked (Some c))))
  mode_kept r site _ o first = q.give _ _

  fetched_kept : (r : Resolution) (site : Site) (mode : Sharing) (p : StorePlace) → Keeps (fetched r site mode p)
  fetched_kept r site mode (variable x) = reads_kept site x
  fetched_kept r site mode (cell o first c) = q.binds _ _ _ _ (mode_kept r site mode o first) (λ under. q.event site (Act.Read (cell_of o c) under) (λ _. refl))

  stored_kept : (r : Resolution) (site : Site) (kind : Kind) (mode : Sharing) (p : StorePlace) (v : ℤ) → Keeps (stored r site kind mode p v)
  stored_kept r site kind mode (variable x) v = q.binds _ _ _ _ (looks x) (λ old. q.binds _ _ _ _ (writes_kept site x v) (λ _. drops_kept kind old))
  stored_kept r site kind mode (cell o first c) v = q.binds _ _ _ _ (holds_kept kind v) (λ _. q.binds _ _ _ _ (mode_kept r site mode o first) (λ under.
      q.binds _ _ _ _ (performs_kept site (Act.Write (cell_of o c) under v) (λ _. refl)) (λ _. q.binds _ _ _ _ (moves_kept kind) (λ _. either (is_pointer kind) _ _ _ (q.given (Replaced (cell_of o c) ∷ []) (λ _. (tt, tt))) (q.give _ tt)))))

  -- taken for this, which is not to free it where a `free` stands apart
  abbrev Stays : TakeKind → Type 0
  Stays kind = (taken : Taken) → apart ≡ true → taken_to_free (Act.Take taken kind) ≡ false

  taken_kept : (r : Resolution) (token site : Site) (mode : Sharing) (kind : TakeKind) (p : StorePlace) → Stays kind → Keeps (taken_from r token site mode kind p)
  taken_kept r token site mode kind (variable x) other = q.binds _ _ _ _ (looks x) (λ v. q.binds _ _ _ _ (either (is_null v) _ _ _ (q.give _ v) (q.event site (Act.Take (Taken.Local x) kind) (other (Taken.Local x)))) (λ _.
      q.binds _ _ _ _ (q.binds _ _ _ _ (q.trace nulls x token) (λ _. sets_kept x NULL)) (λ _. q.give _ v)))
  taken_kept r token site mode kind (cell o first c) other = q.binds _ _ _ _ (mode_kept r site mode o first) (λ under. q.event site (Act.Take (Taken.Cell (cell_of o c) under) kind) (other (Taken.Cell (cell_of o c) under)))

  cast_kept : (r : Resolution) (site : Site) (mode : Sharing) (v : ℤ) → Keeps (cast_to r site mode v)
  cast_kept r site mode v = q.binds _ _ _ _ (held_kept v) (λ _. q.binds _ _ _ _ q.values (λ held. q.binds _ _ _ _ (performs_kept site (Act.Give v (instance_mode r held mode)) (λ _. refl)) (λ _. q.binds _ _ _ _ (moved_kept 1) (λ _. q.give _ v))))

  freed_kept : (apart ≡ true → ⊥) → (site : Site) (v : ℤ) → Keeps (freed site v)
  freed_kept within site v = q.binds _ _ _ _ (q.given (Emptied (number_of v) ∷ []) (λ k. absurd (within k))) (λ _. q.binds _ _ _ _ (held_kept v) (λ _. q.binds _ _ _ _ (performs_kept site (Act.Freed v) (λ _. refl)) (λ _. moved_kept 1)))

  -- ---- mutexes and condition variables
  moves_base_kept : (p : StorePlace) → Keeps (moves_base p)
  moves_base_kept (cell (Made n) first c) = moved_kept 1
  moves_base_kept _ = q.give _ tt

  gives_up_base_kept : (p : StorePlace) → Keeps (gives_up_base p)
  gives_up_base_kept (cell (Made n) first c) = q.given (Released n ∷ []) (λ _. (tt, tt))
  gives_up_base_kept _ = q.give _ tt

  lock_kept : (site : Site) (p : StorePlace) → Keeps (lock_call site p)
  lock_kept site p = q.binds _ _ _ _ q.events (λ own. q.binds _ _ _ _ (unless (not (holds_mutex own (cell_at_place p))) Trap.MutexAlreadyHeld site) (λ _.
      q.binds _ _ _ _ (unless (nat_lt (length (held_mutexes own)) 16) Trap.TooManyLocks site) (λ _. q.binds _ _ _ _ (performs_kept site (Act.Lock (cell_at_place p)) (λ _. refl)) (λ _. moves_base_kept p))))

  unlock_kept : (site : Site) (p : StorePlace) → Keeps (unlock_call site p)
  unlock_kept site p = q.binds _ _ _ _ q.events (λ own. q.binds _ _ _ _ (unless (holds_mutex own (cell_at_place p)) Trap.MutexNotHeld site) (λ _.
      q.binds _ _ _ _ (performs_kept site (Act.Unlock (cell_at_place p)) (λ _. refl)) (λ _. gives_up_base_kept p)))

  wait_kept : (site : Site) (c m : ℤ) → Keeps (wait_call site c m)
  wait_kept site c m = q.binds _ _ _ _ (unless (not (is_null c)) Trap.NullPointer site) (λ _. q.binds _ _ _ _ (unless (not (is_null m)) Trap.NullPointer site) (λ _. q.binds _ _ _ _ q.events (λ own.
      q.binds _ _ _ _ (unless (holds_mutex own (cell_at_place (pointee m))) Trap.MutexNotHeld site) (λ _. q.binds _ _ _ _ (performs_kept site (Act.Enter (cell_at_place (pointee c))) (λ _. refl)) (λ _.
      q.binds _ _ _ _ (performs_kept site (Act.Unlock (cell_at_place (pointee m))) (λ _. refl)) (λ _. q.binds _ _ _ _ (held_kept m) (λ _. q.binds _ _ _ _ (performs_kept site (Act.Woken (cell_at_place (pointee c))) (λ _. refl)) (λ _.
      q.binds _ _ _ _ (performs_kept site (Act.Lock (cell_at_place (pointee m))) (λ _. refl)) (λ _. moved_kept 1)))))))))

  signal_kept : (site : Site) (c : ℤ) → Keeps (signal_call site c)
  signal_kept site c = q.binds _ _ _ _ (unless (not (is_null c)) Trap.NullPointer site) (λ _. q.binds _ _ _ _ (q.event site (Act.Signal (cell_at_place (pointee c))) (λ _. refl)) (λ _. q.give _ tt))

  broadcast_kept : (site : Site) (c : ℤ) → Keeps (broadcast_call site c)
  broadcast_kept site c = q.binds _ _ _ _ (unless (not (is_null c)) Trap.NullPointer site) (λ _. performs_kept site (Act.Broadcast (cell_at_place (pointee c))) (λ _. refl))

  condition_kept : (site : Site) (name : List ℕ) (vs : List ℤ) → Keeps (condition_call site name vs)
  condition_kept site name vs = either (bytes_eq name (codes "wait")) _ _ _ (wait_kept site (slice_index_or vs 0 NULL) (slice_index_or vs 1 NULL))
      (either (bytes_eq name (codes "signal")) _ _ _ (signal_kept site (slice_index_or vs 0 NULL)) (broadcast_kept site (slice_index_or vs 0 NULL)))

  -- ---- expressions
  resulting_kept : (site : Site) (v : Result ℤ Trap) → Keeps (resulting site v)
  resulting_kept site (Ok v) = q.give _ v
  resulting_kept site (Err trap) = q.stop _ trap site

  tested_kept : (r : Resolution) (a : Expression) (of_a : Run ℤ) → Keeps of_a → Keeps (tested r a of_a)
  tested_kept r a of_a h = q.binds _ _ _ _ h (λ v. q.binds _ _ _ _ (drops_kept (kind_at r a) v) (λ _. q.give _ (not (is_zero v))))

  operand_kept : (r : Resolution) (a : Expression) (of_a : Run ℤ) → Keeps of_a → Keeps (operand r a of_a)
  operand_kept r a of_a h = q.binds _ _ _ _ h (λ v. q.binds _ _ _ _ (holds_kept (kind_at r a) v) (λ _. q.give _ v))

  fitting_kept : (kind : Kind) (a : Expression) (of_a : Run ℤ) → Keeps of_a → Keeps (fitting kind a of_a)
  fitting_kept kind a of_a h = q.binds _ _ _ _ h (λ v. q.binds _ _ _ _ (unless (fits kind v) Trap.OutOfRange (span_of a).first) (λ _. q.give _ v))

  passed_kept : (r : Resolution) (kinds : List Kind) (a : Expression) (of_a : Run ℤ) → Keeps of_a → Keeps (passed r kinds a of_a)
  passed_kept r [] a of_a h = operand_kept r a of_a h
  passed_kept r (kind ∷ rest) a of_a h = operand_kept r a (fitting kind a of_a) (fitting_kept kind a of_a h)

  named_kept : (r : Resolution) (mode : Sharing) (site : Site) (n : Named) → Keeps (named_value r mode site n)
  named_kept r mode site (Named.Variable token) = reads_kept site token
  named_kept r mode site (Named.Global n) = fetched_kept r site mode (cell (Global n) 0 0)
  named_kept r mode site _ = q.give _ (pos 0)

  spawned_kept : (r : Resolution) (site : Site) (f : Named) (a : Expression) (of_a : Run ℤ) → Keeps of_a → Keeps (spawned r site f a of_a)
  spawned_kept r site f a of_a h = q.scope _ _ (q.binds _ _ _ _ (passed_kept r (declared_kinds (parameters_named r f)) a of_a h) (λ v.
      q.binds _ _ _ _ (q.event site (Act.Spawn (number_named f) v) (λ _. refl)) (λ t. q.binds _ _ _ _ (moves_kept (kind_at r a)) (λ _. q.give _ t))))

  other_act : (w : ValueCall) (v : ℤ) → taken_to_free (value_act w v) ≡ false
  other_act Join v = refl
  other_act Print v = refl

  value_called_kept : (site : Site) (w : ValueCall) (of_a : Run ℤ) → Keeps of_a → Keeps (value_called site w of_a)
  value_called_kept site w of_a h = q.binds _ _ _ _ h (λ v. q.binds _ _ _ _ (performs_kept site (value_act w v) (λ _. other_act w v)) (λ _. q.give _ (pos 0)))

  taking_kept : (m : Assignment) (s : Span) (kind : TakeKind) (a : Expression) (place : Run StorePlace) → Stays kind → Keeps place → Keeps (taking m s kind a place)
  taking_kept m s kind a place other h = q.scope _ _ (q.binds _ _ _ _ h (λ p. taken_kept m.typed s.first (span_of a).first (cell_at m a) kind p other))

  free_kept : (b : Bool) → apart ≡ b → (m : Assignment) (s : Span) (a : Expression) (place : Run StorePlace) → Keeps place → Keeps (place_called m s Free a place)
  free_kept true is m s a place h = q.frees is m s a place h (λ o first. mode_kept m.typed (span_of a).first (cell_at m a) o first)
  free_kept false is m s a place h =
      let within : apart ≡ true → ⊥ = λ k. cc in
      q.binds _ _ _ _ (taking_kept m s ToFree a place (λ _ k. absurd (within k)) h) (λ v. either (is_null v) _ _ _ (q.give _ tt) (freed_kept within (span_of a).first v))

  place_called_kept : (m : Assignment) (s : Span) (w : PlaceCall) (a : Expression) (place : Run StorePlace) → Keeps place → Keeps (place_called m s w a place)
  place_called_kept m s Lock a place h = q.scope _ _ (q.binds _ _ _ _ h (λ p. lock_kept s.first p))
  place_called_kept m s Unlock a place h = q.scope _ _ (q.binds _ _ _ _ h (λ p. unlock_kept s.first p))
  place_called_kept m s Free a place h = free_kept apart refl m s a place h

  cast_value_kept : (m : Assignment) (s : Span) (a : Expression) (place : Run StorePlace) → Keeps place → Keeps (cast_value m s a place)
  cast_value_kept m s a place h = q.binds _ _ _ _ (taking_kept m s Cast a place (λ _ _. refl) h) (λ v. either (is_null v) _ _ _ (q.give _ v) (cast_kept m.typed (span_of a).first (pointed m (Some (cast_row m.typed s))) v))

  place_value_kept : (m : Assignment) (e : Expression) (place : Run StorePlace) → Keeps place → Keeps (place_value m e place)
  place_value_kept m e place h = q.scope _ _ (q.binds _ _ _ _ h (λ p. fetched_kept m.typed (span_of e).first (cell_at m e) p))

  unary_kept : (m : Assignment) (s : Span) (o : UnaryOperator) (a : Expression) (of_a : Run ℤ) → Keeps of_a → Keeps (unary_value m s o a of_a)
  unary_kept m s Negate a of_a h = q.binds _ _ _ _ h (λ v. resulting_kept s.first (negated (bits_of (promoted (kind_at m.typed a))) v))
  unary_kept m s Not a of_a h = q.binds _ _ _ _ (tested_kept m.typed a of_a h) (λ is_true. q.give _ (truth (not is_true)))
  unary_kept m s Complement a of_a h = q.binds _ _ _ _ h (λ v. q.give _ (complement v))
  unary_kept m s Dereference a of_a h = place_value_kept m (unary s Dereference a) (pointee_place m.typed s.first a of_a) (pointee_kept m.typed s.first a of_a h)

  both_kept : (r : Resolution) (at : Site) (o : BinaryOperator) (a b : Expression) (of_a of_b : Run ℤ) → Keeps of_a → Keeps of_b → Keeps (temporarily (operand r a of_a >>= λ x. operand r b of_b >>= λ y. resulting at (operated (bits_of (binary_result (class_of o) (kind_at r a) (kind_at r b))) o x y)))
  both_kept r at o a b of_a of_b ha hb = q.scope _ _ (q.binds _ _ _ _ (operand_kept r a of_a ha) (λ x. q.binds _ _ _ _ (operand_kept r b of_b hb) (λ y. resulting_kept at (operated (bits_of (binary_result (class_of o) (kind_at r a) (kind_at r b))) o x y))))

  binary_kept : (r : Resolution) (at : Site) (o : BinaryOperator) (a b : Expression) (of_a of_b : Run ℤ) → Keeps of_a → Keeps of_b → Keeps (binary_value r at o a b of_a of_b)
  binary_kept r at LogicalAnd a b of_a of_b ha hb = q.binds _ _ _ _ (tested_kept r a of_a ha) (λ left. q.binds _ _ _ _ (either left _ _ _ (tested_kept r b of_b hb) (q.give _ false)) (λ right. q.give _ (truth right)))
  binary_kept r at LogicalOr a b of_a of_b ha hb = q.binds _ _ _ _ (tested_kept r a of_a ha) (λ left. q.binds _ _ _ _ (either left _ _ _ (q.give _ true) (tested_kept r b of_b hb)) (λ right. q.give _ (truth right)))
  binary_kept r at o a b of_a of_b ha hb = both_kept r at o a b of_a of_b ha hb

  module _ (on_call : Calls) (hc : (f : ℕ) (site : Site) (vs : List ℤ) → Keeps (on_call f site vs)) (m : Assignment) where
    called_kept : (site : Site) (n : Named) (name : List ℕ) (vs : List ℤ) → Keeps (called on_call site n name vs)
    called_kept site (Named.Function f) name vs = hc f site vs
    called_kept site Named.Known name vs = q.binds _ _ _ _ (condition_kept site name vs) (λ _. q.give _ (pos 0))
    called_kept site _ name vs = q.give _ (pos 0)

    mutual
      pub eval_kept : (e : Expression) → Q true ℤ (eval on_call m e)
      eval_kept (identifier s i) = q.enters _ _ (named_kept m.typed (cell_at m (identifier s i)) i.site (named_at m.typed i.site.token))
      eval_kept (constant s c) = q.enters _ _ (q.give _ (constant_value c))
      eval_kept (parentheses s a) = q.enters _ _ (q.eases _ _ (eval_kept a))
      eval_kept (call s f all) = q.enters _ _ (q.scope _ _ (q.binds _ _ _ _ (all_kept (declared_kinds (parameters_named m.typed (named_at m.typed f.site.token))) all) (λ vs. called_kept s.first (named_at m.typed f.site.token) f.text vs)))
      eval_kept (spawn s f a) = q.enters _ _ (spawned_kept m.typed s.first (named_at m.typed f.site.token) a _ (q.eases _ _ (eval_kept a)))
      eval_kept (on_value s w a) = q.enters _ _ (value_called_kept s.first w _ (q.eases _ _ (eval_kept a)))
      eval_kept (on_place s w a) = q.enters _ _ (q.binds _ _ _ _ (place_called_kept m s w a _ (q.eases _ _ (place_kept (span_of a).first a))) (λ _. q.give _ (pos 0)))
      eval_kept (cast s t a) = q.enters _ _ (cast_value_kept m s a _ (q.eases _ _ (place_kept (span_of a).first a)))
      eval_kept (index s a i) = q.enters _ _ (place_value_kept m (index s a i) _ (index_kept m.typed s.first a _ _ _ (q.eases _ _ (place_kept s.first a)) (q.eases _ _ (eval_kept a)) (q.eases _ _ (eval_kept i))))
      eval_kept (field s a w n) = q.enters _ _ (place_value_kept m (field s a w n) _ (field_kept m.typed s.first a w (named_at m.typed n.site.token) _ _ (q.eases _ _ (place_kept s.first a)) (q.eases _ _ (eval_kept a))))
      eval_kept (unary s o a) = q.enters _ _ (unary_kept m s o a _ (q.eases _ _ (eval_kept a)))
      eval_kept (binary s o at a b) = q.enters _ _ (binary_kept m.typed at o a b _ _ (q.eases _ _ (eval_kept a)) (q.eases _ _ (eval_kept b)))

      all_kept : (kinds : List Kind) (all : Arguments) → Keeps (eval_all on_call m kinds all)
      all_kept kinds no_arguments = q.give _ []
      all_kept kinds (argument a rest) = q.binds _ _ _ _ (passed_kept m.typed kinds a _ (q.eases _ _ (eval_kept a))) (λ v. q.binds _ _ _ _ (all_kept (drop 1 kinds) rest) (λ vs. q.give _ (v ∷ vs)))

      place_kept : (site : Site) (e : Expression) → Q true StorePlace (place_of on_call m site e)
      place_kept site (identifier s i) = q.enters _ _ (q.give _ (place_named (named_at m.typed i.site.token)))
      place_kept site (parentheses s a) = q.enters _ _ (q.eases _ _ (place_kept site a))
      place_kept site (index s a i) = q.enters _ _ (index_kept m.typed site a _ _ _ (q.eases _ _ (place_kept site a)) (q.eases _ _ (eval_kept a)) (q.eases _ _ (eval_kept i)))
      place_kept site (field s a w n) = q.enters _ _ (field_kept m.typed site a w (named_at m.typed n.site.token) _ _ (q.eases _ _ (place_kept site a)) (q.eases _ _ (eval_kept a)))
      place_kept site (unary s o a) = q.enters _ _ (unary_place_kept m.typed site o a _ (q.eases _ _ (eval_kept a)))
      place_kept site _ = q.enters _ _ (q.give _ no_place)

    value_kept : (e : Expression) → Keeps (eval on_call m e)
    value_kept e = q.eases _ _ (eval_kept e)

    -- ---- statements
    next_kept : (flow : Flow) (rest : Run Flow) → Keeps rest → Keeps (on_next flow rest)
    next_kept next rest h = h
    next_kept k rest h = q.give _ k

    elements_kept : (n : Option Expression) → Keeps (elements_made on_call m n)
    elements_kept None = q.give _ (pos 1)
    elements_kept (Some n) = value_kept n

    right_kept : (kind : Kind) (target : Sharing) (x : Right) → Keeps (right_value on_call m kind target x)
    right_kept kind target (value e) = fitting_kept kind e (eval on_call m e) (value_kept e)
    right_kept kind target (malloc s n w) = q.eases _ _ (q.enters _ _ (q.binds _ _ _ _ (elements_kept n) (λ elements. q.binds _ _ _ _ (unless (is_positive elements) Trap.SizeNotPositive s.first) (λ _.
        q.binds _ _ _ _ q.values (λ held. q.event s.first (Act.New (element_cells m.typed (declared_kind w)) (unsigned_abs elements) (instance_mode m.typed held target)) (λ _. refl))))))

    simple_kept : (x : Simple) → Keeps (done_simple on_call m x)
    simple_kept (assign s u x) = q.scope _ _ (q.binds _ _ _ _ (q.eases _ _ (place_kept (span_of u).first u)) (λ p. q.binds _ _ _ _ (right_kept (kind_at m.typed u) (pointed m (row_at m.typed u)) x) (λ v.
        stored_kept m.typed (span_of u).first (kind_at m.typed u) (cell_at m u) p v)))
    simple_kept (does_call e) = q.binds _ _ _ _ (value_kept e) (λ v. drops_kept (kind_at m.typed e) v)

    initialised_kept : (d : Declaration) (x : Option Right) → Keeps (initialised on_call m d x)
    initialised_kept d None = q.give _ tt
    initialised_kept d (Some x) = q.binds _ _ _ _ (right_kept (declared_kind d.written) (pointed m (Some (declared_row m.typed written d.name.site.token))) x) (λ v.
        stored_kept m.typed d.name.site (declared_kind d.written) private (variable d.name.site.token) v)

    declared_kept : (l : Local) → Keeps (declared on_call m l)
    declared_kept l = q.binds _ _ _ _ (begins_kept l.declaration (pos 0)) (λ _. initialised_kept l.declaration l.initial)

    first_kept : (x : First) → Keeps (done_first on_call m x)
    first_kept nothing = q.give _ tt
    first_kept (declares l) = q.eases _ _ (q.enters _ _ (declared_kept l))
    first_kept (does x) = simple_kept x

    step_kept : (x : Option Simple) → Keeps (done_step on_call m x)
    step_kept None = q.give _ tt
    step_kept (Some x) = simple_kept x

    test_kept : (e : Option Expression) → Keeps (done_test on_call m e)
    test_kept None = q.give _ true
    test_kept (Some e) = tested_kept m.typed e (eval on_call m e) (value_kept e)

    return_kept : (kind : Kind) (site : Site) (e : Option Expression) → Keeps (return_with on_call m kind site e)
    return_kept kind site None = q.give _ (returned site (pos 0))
    return_kept kind site (Some e) = q.binds _ _ _ _ (fitting_kept kind e (eval on_call m e) (value_kept e)) (λ v. q.give _ (returned site v))

    mutual
      pub exec_kept : (kind : Kind) (a : Statement) → Q true Flow (exec on_call m kind a)
      exec_kept kind (empty s) = q.enters _ _ (q.give _ next)
      exec_kept kind (block s all) = q.enters _ _ (q.block _ _ (exec_all_kept kind all))
      exec_kept kind (declare s l) = q.enters _ _ (q.binds _ _ _ _ (declared_kept l) (λ _. q.give _ next))
      exec_kept kind (simple s x) = q.enters _ _ (q.binds _ _ _ _ (simple_kept x) (λ _. q.give _ next))
      exec_kept kind (jump s j) = q.enters _ _ (q.give _ (left_by j))
      exec_kept kind (return s e) = q.enters _ _ (return_kept kind s.first e)
      exec_kept kind (if_then s e a) = q.enters _ _ (q.binds _ _ _ _ (tested_kept m.typed e _ (value_kept e)) (λ is_true. either is_true _ _ _ (q.eases _ _ (exec_kept kind a)) (q.give _ next)))
      exec_kept kind (if_then_else s e a b) = q.enters _ _ (q.binds _ _ _ _ (tested_kept m.typed e _ (value_kept e)) (λ is_true. either is_true _ _ _ (q.eases _ _ (exec_kept kind a)) (q.eases _ _ (exec_kept kind b))))
      exec_kept kind (while s e a) = q.enters _ _ (q.loops _ _ _ (tested_kept m.typed e _ (value_kept e)) (q.give _ tt) (exec_kept kind a))
      exec_kept kind (for s h a) = q.enters _ _ (q.block _ _ (q.binds _ _ _ _ (first_kept h.first) (λ _. q.loops _ _ _ (test_kept h.test) (step_kept h.step) (exec_kept kind a))))

      exec_all_kept : (kind : Kind) (all : Statements) → Keeps (exec_all on_call m kind all)
      exec_all_kept kind no_statements = q.give _ next
      exec_all_kept kind (statement a rest) = q.binds _ _ _ _ (q.eases _ _ (exec_kept kind a)) (λ flow. next_kept flow _ (exec_all_kept kind rest))

    -- ---- calls
    parameters_kept : (ds : List Declaration) (vs : List ℤ) → Keeps (parameters_begin ds vs)
    parameters_kept [] vs = q.give _ tt
    parameters_kept (d ∷ rest) [] = q.binds _ _ _ _ (begins_kept d (pos 0)) (λ _. parameters_kept rest [])
    parameters_kept (d ∷ rest) (v ∷ vs) = q.binds _ _ _ _ (begins_kept d v) (λ _. parameters_kept rest vs)

    function_kept : (f : Function) (vs : List ℤ) → Keeps (run_function on_call m f vs)
    function_kept f vs = q.call _ _ _ (q.block _ _ (q.binds _ _ _ _ (parameters_kept f.parameters vs) (λ _.
        q.binds _ _ _ _ (q.eases _ _ (q.enters _ _ (exec_all_kept (declared_kind f.result) f.statements))) (λ flow. q.give _ (left_at f flow)))))

    call_value_kept : (f : Option Function) (vs : List ℤ) → Keeps (call_value on_call m f vs)
    call_value_kept None vs = q.give _ (pos 0)
    call_value_kept (Some f) vs = q.binds _ _ _ _ (function_kept f vs) (λ left. q.give _ left.1)

  calls_kept : (m : Assignment) (n f : ℕ) (site : Site) (vs : List ℤ) → Keeps (calls m n f site vs)
  calls_kept m zero f site vs = q.stop _ Trap.CallDepth site
  calls_kept m (suc n) f site vs = call_value_kept (calls m n) (calls_kept m n) m (function_at m.typed f) vs

  away_kept : (name site : Site) → Keeps (goes_away name site)
  away_kept name site = q.binds _ _ _ _ q.events (λ own. q.binds _ _ _ _ (unless (not (nat_lt 0 (length (held_mutexes own)))) Trap.ReturnWithLockHeld site) (λ _.
      q.binds _ _ _ _ (performs_kept name Act.Return (λ _. refl)) (λ _. performs_kept name Act.Gone (λ _. refl))))

  pub thread_kept : (m : Assignment) (f : Option Function) (v : ℤ) → Keeps (run_thread m f v)
  thread_kept m None v = q.give _ tt
  thread_kept m (Some f) v = q.binds _ _ _ _ (function_kept (calls m 255) (calls_kept m 255) m f (v ∷ [])) (λ left. away_kept f.name.site left.0)
