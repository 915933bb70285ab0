-- What a turn of flat code leaves as it was, and a path by what its own events answer.
use Rattle.sharc_flat.proofs.{Imports.{◌≡◌, ℕ, zero, suc, ℤ, pos, negsuc, ◌+◌, ◌-◌, ◌*◌, ◌<◌, ◌≤◌, ◌⊎◌, inl, inr, Bool, true, false, not, List, [], ◌∷◌, ◌++◌, length, refl, sym, ap, ◌∙◌, subst, arith, Some, None, Option, Ok, Err, Result, nat_lt, cond, slice_get, append_assoc, append-nil, cases_lt, ⊎_elim, ◌==◌, map-append, Act, CellAt, CellMode, SourceEvent, Trap, Taken, GivenUp, Emptied, Released, Replaced, is_zero, held_mutexes, holds_mutex, is_null, elements_of, number_of, answer_of, event_of, is_positive, spent, computed, negated, GlobalCells, Cell, Parameter, Register, Op, Spot, Flat, At, Caller, Came, Turn, goes, asks, halts, goes_on, over_lines, stops, asserts, with_result, set_int, set_ref, ref, take_kind_of, cell_at, cell_mode_of, accessed, accesses, lock_is_null, indexed, takes_local, op_turn, end_turn, line_turn, turn, on_turn, exec, start, first_at, begun, function_of, handed, with_event, without_base, put, after, may_go, at_after, asked, asked_by, IsPath}, PathRuns.runs}
use Rattle.std.proofs.lemmas.Bool.{false≢true}
use Rattle.sharc_meaning.specs.{References.refers, Runs.answers_of}
use Rattle.sharc_code.specs.Arithmetic.{holds}
use Rattle.sharc_flat.specs.{Machine.{int, gives_up, called, next, returned}, Quiet.{IsStill, AreFrom, IsQuiet, given_by, given_in, IsBeyond, PathLaws}}

-- ---- what registers hold
same : (m : At) → AreFrom m m
same m k n is = (k, is)

-- a register gets what another one had, or NULL
put_from : (bank : ℕ → ℤ) (r : ℕ) (v : ℤ) (k n : ℕ) → refers n (put bank r v k) ≡ true → (refers n v ≡ true) ⊎ (refers n (bank k) ≡ true)
put_from bank r v k n is = by (k == r) is
  where
    by : (b : Bool) → refers n (cond b v (bank k)) ≡ true → (refers n v ≡ true) ⊎ (refers n (bank k) ≡ true)
    by true is = inl is
    by false is = inr is

emptied : (bank : ℕ → ℤ) (r k n : ℕ) → refers n (put bank r (pos 0) k) ≡ true → refers n (bank k) ≡ true
emptied bank r k n is = ⊎_elim (λ (none : refers n (pos 0) ≡ true). absurd (false≢true none)) (λ (there : refers n (bank k) ≡ true). there) (put_from bank r (pos 0) k n is)

filled : (bank old : ℕ → ℤ) (r from k n : ℕ) → ((j : ℕ) → refers n (bank j) ≡ true → refers n (old j) ≡ true) → refers n (put bank r (old from) k) ≡ true → (j : ℕ) × (refers n (old j) ≡ true)
filled bank old r from k n was is = ⊎_elim (λ (moved : refers n (old from) ≡ true). (from, moved)) (λ (there : refers n (bank k) ≡ true). (k, was k there)) (put_from bank r (old from) k n is)

moves_from : (refs : ℕ → ℤ) (r from k n : ℕ) → refers n (put (put refs from (pos 0)) r (refs from) k) ≡ true → (j : ℕ) × (refers n (refs j) ≡ true)
moves_from refs r from k n is = filled (put refs from (pos 0)) refs r from k n (λ j there. emptied refs from j n there) is

-- ---- one turn
abbrev is_freed : Act → Bool
is_freed (Act.Freed v) = true
is_freed _ = false

not_freed : {P : Type 0} {act : Act} {v : ℤ} → act ≡ Act.Freed v → is_freed act ≡ false → P
not_freed is other = absurd (false≢true (sym other ∙ ap is_freed is))

freed_value : (x v : ℤ) → Act.Freed x ≡ Act.Freed v → x ≡ v
freed_value x v h = cc

-- as much is given up
same_given : (m : At) → m.given ≡ m.given ++ []
same_given m = sym (append-nil m.given)

cond_quiet : (b : Bool) (x y : Turn) (m : At) → IsQuiet m x → IsQuiet m y → IsQuiet m (cond b x y)
cond_quiet true x y m p q = p
cond_quiet false x y m p q = q

asserts_quiet : (b : Bool) (trap : Trap) (spot : Spot) (m : At) → IsQuiet m (asserts b trap spot m)
asserts_quiet b trap spot m = cond_quiet b (goes_on m) (stops trap spot) m ((refl, [], same_given m), same m) tt

result_quiet : (i : ℕ) (spot : Spot) (m : At) (r : Result ℤ Trap) → IsQuiet m (with_result i spot m r)
result_quiet i spot m (Ok v) = ((refl, [], same_given m), same m)
result_quiet i spot m (Err code) = tt

indexed_quiet : (i cells field : ℕ) (v : ℤ) (elements : ℕ) (spot : Spot) (m : At) → IsQuiet m (indexed i cells field v elements spot m)
indexed_quiet i cells field (pos n) elements spot m = cond_quiet (nat_lt n elements) (goes_on (set_int i (pos (n * cells + field)) m)) (stops Trap.IndexOutOfBounds spot) m ((refl, [], same_given m), same m) tt
indexed_quiet i cells field (negsuc n) elements spot m = tt

skip_quiet : (b : Bool) (n : ℕ) (m : At) → IsStill m (cond b (over_lines n m) (next m)) × AreFrom m (cond b (over_lines n m) (next m))
skip_quiet true n m = ((refl, [], same_given m), same m)
skip_quiet false n m = ((refl, [], same_given m), same m)

accesses_quiet : (globals : List GlobalCells) (cell : Cell) (spot : Spot) (act : CellAt → CellMode → Act) (then_ : CellAt → ℤ → At → At) (m : At) → ((c : CellAt) (v : ℤ) (n : At) → (then_ c v n).events ≡ n.events) → ((c : CellAt) (mode : CellMode) → is_freed (act c mode) ≡ false)
    → IsQuiet m (accesses globals cell spot act then_ m)
accesses_quiet globals cell spot act then_ m k other =
    cond_quiet (lock_is_null m spot spot.mode) (stops Trap.NullPointer spot)
    (asks m spot.site (act (cell_at globals m cell) (cell_mode_of globals m (cell_at globals m cell) spot.mode)) (pos 0) (λ v n. accessed (next (then_ (cell_at globals m cell) v n)))) m tt
    ((refl, [], same_given m), refl, k (cell_at globals m cell), λ v is. not_freed is (other (cell_at globals m cell) (cell_mode_of globals m (cell_at globals m cell) spot.mode)))

returned_quiet : (flat : Flat) (frames : List Caller) (spot : Spot) (m : At) → IsQuiet m (returned flat frames spot m)
returned_quiet flat [] spot m = cond_quiet (not (nat_lt 0 (length (held_mutexes m.events)))) (goes (record m { pc = length flat.lines })) (stops Trap.ReturnWithLockHeld spot) m ((refl, [], same_given m), same m) tt
returned_quiet flat (c ∷ rest) spot m = ((refl, [], same_given m), same m)

takes_quiet : (r x : ℕ) (spot : Spot) (m : At) (b : Bool) → IsQuiet m (takes_local r x spot m b)
takes_quiet r x spot m true = ((refl, [], same_given m), λ k n is. moves_from m.refs (m.ref_base + r) (m.ref_base + x) k n is)
takes_quiet r x spot m false = ((refl, [], same_given m), refl, λ v n. refl, λ v is. not_freed is refl)

base_events : (cell : Cell) (n : At) → (without_base cell n).events ≡ n.events
base_events (Cell.Object r k) n = refl
base_events _ n = refl

handed_events : (from : Register) (n : At) → (handed from n).events ≡ n.events
handed_events (Register.Int i) n = refl
handed_events (Register.Reference r) n = refl

op_quiet : (flat : Flat) (o : Op) (m : At) → IsQuiet m (op_turn flat o m)
op_quiet flat (Op.Compute width o i a b spot) m = result_quiet i spot m (computed width o (int m a) (int m b))
op_quiet flat (Op.Negate width i a spot) m = result_quiet i spot m (negated width (int m a))
op_quiet flat (Op.ChkWidth width i spot) m = asserts_quiet (holds width (int m i)) Trap.OutOfRange spot m
op_quiet flat (Op.SkipIfZero i n) m = skip_quiet (is_zero (int m i)) n m
op_quiet flat (Op.SkipIfNull r n) m = skip_quiet (is_null (ref m r)) n m
op_quiet flat (Op.Call f ints refs spot) m = cond_quiet (nat_lt (length m.frames) 255) (goes (called flat f ints refs m)) (stops Trap.CallDepth spot) m ((refl, [], same_given m), same m) tt
op_quiet flat (Op.Return spot) m = returned_quiet flat m.frames spot m
op_quiet flat (Op.ChkNull r spot) m = asserts_quiet (not (is_null (ref m r))) Trap.NullPointer spot m
op_quiet flat (Op.ChkPositive i spot) m = asserts_quiet (is_positive (int m i)) Trap.SizeNotPositive spot m
op_quiet flat (Op.ChkHeld cell spot) m = asserts_quiet (holds_mutex m.events (cell_at flat.globals m cell)) Trap.MutexNotHeld spot m
op_quiet flat (Op.ChkNotHeld cell spot) m = asserts_quiet (not (holds_mutex m.events (cell_at flat.globals m cell))) Trap.MutexAlreadyHeld spot m
op_quiet flat (Op.ChkRoom spot) m = asserts_quiet (nat_lt (length (held_mutexes m.events)) 16) Trap.TooManyLocks spot m
op_quiet flat (Op.Bounds i r cells field spot) m = indexed_quiet i cells field (int m i) (elements_of (ref m r)) spot m
op_quiet flat (Op.GlobalBounds i elements cells field spot) m = indexed_quiet i cells field (int m i) elements spot m
op_quiet flat (Op.Load i cell spot) m = accesses_quiet flat.globals cell spot Act.Read (λ c v. set_int i v) m (λ c v n. refl) (λ c mode. refl)
op_quiet flat (Op.Store i cell spot) m = accesses_quiet flat.globals cell spot (λ c mode. Act.Write c mode (int m i)) (λ c v n. n) m (λ c v n. refl) (λ c mode. refl)
op_quiet flat (Op.LoadRef r cell spot) m = accesses_quiet flat.globals cell spot Act.Read (λ c v. set_ref r v) m (λ c v n. refl) (λ c mode. refl)
op_quiet flat (Op.StoreRef r cell spot) m = accesses_quiet flat.globals cell spot (λ c mode. Act.Write c mode (ref m r)) (λ c v n. gives_up (Replaced c) (set_ref r (pos 0) n)) m (λ c v n. refl) (λ c mode. refl)
op_quiet flat (Op.TakeCell r cell spot) m = accesses_quiet flat.globals cell spot (λ c mode. Act.Take (Taken.Cell c mode) (take_kind_of spot.at)) (λ c v. set_ref r v) m (λ c v n. refl) (λ c mode. refl)
op_quiet flat (Op.TakeLocal r x spot) m = takes_quiet r x spot m (is_null (ref m x))
op_quiet flat (Op.Pop r) m = ((refl, Released (number_of (ref m r)) ∷ [], refl), λ k n is. (k, emptied m.refs (m.ref_base + r) k n is))
op_quiet flat (Op.Settle x from) m = ((refl, Released (number_of (ref m x)) ∷ [], refl), λ k n is. moves_from m.refs (m.ref_base + x) (m.ref_base + from) k n is)
op_quiet flat (Op.Null r) m = ((refl, [], same_given m), λ k n is. (k, emptied m.refs (m.ref_base + r) k n is))
op_quiet flat (Op.Local r x) m = ((refl, [], same_given m), λ k n is. filled m.refs m.refs (m.ref_base + r) (m.ref_base + x) k n (λ j there. there) is)
op_quiet flat (Op.MoveReference r from) m = ((refl, [], same_given m), λ k n is. moves_from m.refs (m.ref_base + r) (m.ref_base + from) k n is)
op_quiet flat (Op.Free r layout spot) m = ((refl, Emptied (number_of (ref m r)) ∷ [], refl), refl, λ v n. refl, λ v is. ap (λ (x : ℤ). m.given ++ Emptied (number_of x) ∷ []) (freed_value (ref m r) v is))
op_quiet flat (Op.LoadGuard cell spot) m = ((refl, [], same_given m), refl, λ v n. refl, λ v is. not_freed is refl)
op_quiet flat (Op.New r count cells spot) m = ((refl, [], same_given m), refl, λ v n. refl, λ v is. not_freed is refl)
op_quiet flat (Op.Give r cells spot) m = ((refl, [], same_given m), refl, λ v n. refl, λ v is. not_freed is refl)
op_quiet flat (Op.Lock cell spot) m = ((refl, [], same_given m), refl, λ v n. base_events cell n, λ v is. not_freed is refl)
op_quiet flat (Op.Unlock r cell spot) m = ((refl, [], same_given m), refl, λ v n. refl, λ v is. not_freed is refl)
op_quiet flat (Op.CondEnter cell spot) m = ((refl, [], same_given m), refl, λ v n. refl, λ v is. not_freed is refl)
op_quiet flat (Op.CondWait cell spot) m = ((refl, [], same_given m), refl, λ v n. refl, λ v is. not_freed is refl)
op_quiet flat (Op.CondSignal cell spot) m = ((refl, [], same_given m), refl, λ v n. refl, λ v is. not_freed is refl)
op_quiet flat (Op.CondBroadcast cell spot) m = ((refl, [], same_given m), refl, λ v n. refl, λ v is. not_freed is refl)
op_quiet flat (Op.Spawn i f from spot) m = ((refl, [], same_given m), refl, λ v n. handed_events from n, λ v is. not_freed is refl)
op_quiet flat (Op.Join i spot) m = ((refl, [], same_given m), refl, λ v n. refl, λ v is. not_freed is refl)
op_quiet flat (Op.Print i spot) m = ((refl, [], same_given m), refl, λ v n. refl, λ v is. not_freed is refl)
op_quiet flat _ m = ((refl, [], same_given m), same m)

line_quiet : (flat : Flat) (o : Option Op) (m : At) → IsQuiet m (line_turn flat o m)
line_quiet flat (Some o) m = op_quiet flat o m
line_quiet flat None m = by_place (m.pc - length flat.lines)
  where
    by_place : (n : ℕ) → IsQuiet m (end_turn flat m n)
    by_place (suc (suc n)) = tt
    by_place _ = ((refl, [], same_given m), refl, λ v n. refl, λ v is. not_freed is refl)

-- so what is not answered leaves the events as they are, and gives up more at most
still : (flat : Flat) (k : ℕ) (m : At) → IsStill m (exec flat k [] m).at
still flat zero m = (refl, [], same_given m)
still flat (suc k) m = by_turn (turn flat m) (line_quiet flat (slice_get flat.lines m.pc) m) (still flat k)
  where
    by_turn : (t : Turn) → IsQuiet m t → ((m2 : At) → IsStill m2 (exec flat k [] m2).at) → IsStill m (on_turn t [] m (exec flat k)).at
    by_turn (goes m2) q rec = let r = rec m2 in (r.0 ∙ q.0.0, q.0.1 ++ r.1, r.2 ∙ ap (λ xs. xs ++ r.1) q.0.2 ∙ append_assoc m.given q.0.1 r.1)
    by_turn (asks m2 site act held go) q rec = q.0
    by_turn (halts o) q rec = (refl, [], same_given m)

again : (held : ℤ) (act : Act) (x : ℤ) → answer_of (λ token. held) act (answer_of (λ token. held) act x) ≡ answer_of (λ token. held) act x
again held (Act.Take (Taken.Cell c mode) kind) x = refl
again held _ x = refl

same_after : (m : At) (t : Turn) (x : ℤ) → after m t (given_by t x) ≡ after m t x
same_after m (asks m2 site act held go) x = ap (λ a. go a (with_event (event_of site act a) m2)) (again held act x)
same_after m _ x = refl

given_same : (flat : Flat) (m : At) (answers : List ℤ) → at_after flat m (given_in flat m answers) ≡ at_after flat m answers
given_same flat m [] = refl
given_same flat m (x ∷ earlier) =
    let t = turn flat (at_after flat m earlier) in
    ap (λ n. after n (turn flat n) (given_by t x)) (given_same flat m earlier) ∙ same_after (at_after flat m earlier) t x

given_path : (flat : Flat) (m : At) (answers : List ℤ) → IsPath flat m answers → IsPath flat m (given_in flat m answers)
given_path flat m [] path = tt
given_path flat m (x ∷ earlier) path = (given_path flat m earlier path.0, subst (λ n. may_go (turn flat n) ≡ true) (sym (given_same flat m earlier)) path.1)

given_count : (flat : Flat) (m : At) (answers : List ℤ) → length (given_in flat m answers) ≡ length answers
given_count flat m [] = refl
given_count flat m (x ∷ earlier) = ap suc (given_count flat m earlier)

-- each turn that asks tells one event, with this answer
told_one : (t : Turn) (now : At) (x : ℤ) → IsQuiet now t → answers_of (after now t x).events ≡ answers_of now.events ++ asked_by t (given_by t x)
told_one (goes m2) now x q = ap answers_of q.0.0 ∙ sym (append-nil (answers_of now.events))
told_one (asks m2 site act held go) now x q =
    let answer = answer_of (λ token. held) act x in
    let e = event_of site act answer in
    ap answers_of (q.2 answer (with_event e m2)) ∙ map-append (λ (e : SourceEvent). e.answer) m2.events (e ∷ []) ∙ ap (λ es. answers_of es ++ answer ∷ []) q.0.0
told_one (halts o) now x q = sym (append-nil (answers_of now.events))

told_all : (flat : Flat) (m : At) (answers : List ℤ) → answers_of (at_after flat m answers).events ≡ answers_of m.events ++ asked flat m (given_in flat m answers)
told_all flat m [] = sym (append-nil (answers_of m.events))
told_all flat m (x ∷ earlier) =
    let now = at_after flat m earlier in
    let t = turn flat now in
    told_one t now x (line_quiet flat (slice_get flat.lines now.pc) now) ∙ ap (λ xs. xs ++ asked_by t (given_by t x)) (told_all flat m earlier)
    ∙ append_assoc (answers_of m.events) (asked flat m (given_in flat m earlier)) (asked_by t (given_by t x))
    ∙ ap (λ n. answers_of m.events ++ (asked flat m (given_in flat m earlier) ++ asked_by (turn flat n) (given_by t x))) (sym (given_same flat m earlier))

no_events : (flat : Flat) (f : ℕ) (v : ℤ) → (start flat f v).events ≡ []
no_events flat f v = by (function_of flat f).parameter
  where
    by : (q : Parameter) → (begun q v (first_at flat f)).events ≡ []
    by Parameter.Int = refl
    by _ = refl

are_own : (flat : Flat) (f : ℕ) (v : ℤ) (answers : List ℤ) → asked flat (start flat f v) (given_in flat (start flat f v) answers) ≡ answers_of (at_after flat (start flat f v) answers).events
are_own flat f v answers =
    let st = start flat f v in
    sym (told_all flat st answers ∙ ap (λ es. answers_of es ++ asked flat st (given_in flat st answers)) (no_events flat f v))

-- ---- a path and its beginnings
record Begins (flat : Flat) (m : At) (answers : List ℤ) (n : ℕ) : Type 0 where
  earlier : List ℤ
  path : IsPath flat m earlier
  count : length earlier ≡ n
  rest : List ℤ
  asked_is : asked flat m answers ≡ asked flat m earlier ++ rest

beginning : (flat : Flat) (m : At) (answers : List ℤ) → IsPath flat m answers → (n : ℕ) → n ≤ length answers → Begins flat m answers n
beginning flat m [] path n le = record { earlier = []; path = tt; count = omega arith; rest = []; asked_is = refl }
beginning flat m (x ∷ answers) path n le = by (cases_lt n (suc (length answers))) (beginning flat m answers path.0 n)
  where
    by : (n < suc (length answers)) ⊎ (suc (length answers) ≤ n) → (n ≤ length answers → Begins flat m answers n) → Begins flat m (x ∷ answers) n
    by (inl lt) rec =
        let h = rec (omega arith) in
        let last = asked_by (turn flat (at_after flat m answers)) x in
        record {
          earlier = h.earlier;
          path = h.path;
          count = h.count;
          rest = h.rest ++ last;
          asked_is = ap (λ xs. xs ++ last) h.asked_is ∙ append_assoc (asked flat m h.earlier) h.rest last;
        }
    by (inr ge) rec = record { earlier = x ∷ answers; path = path; count = omega arith; rest = []; asked_is = sym (append-nil (asked flat m (x ∷ answers))) }

-- past the path nothing is answered
goes_beyond : (flat : Flat) (st : At) (answers : List ℤ) → IsPath flat st answers → (k : ℕ) → exec flat (length answers + k) (asked flat st answers) st ≡ exec flat k [] (at_after flat st answers)
goes_beyond flat st answers path k = ap (λ xs. exec flat (length answers + k) xs st) (sym (append-nil (asked flat st answers))) ∙ runs flat st answers path k []

-- within it the turns are spent
within : (flat : Flat) (st : At) (answers : List ℤ) → IsPath flat st answers → (n : ℕ) → n ≤ length answers → (exec flat n (asked flat st answers) st).outcome ≡ spent
within flat st answers path n le =
    let h = beginning flat st answers path n le in
    let e : n ≡ length h.earlier + 0 = let c = h.count in omega arith in
    ap (λ n. (exec flat n (asked flat st answers) st).outcome) e ∙ ap (λ xs. (exec flat (length h.earlier + 0) xs st).outcome) h.asked_is ∙ ap (λ (c : Came). c.outcome) (runs flat st h.earlier h.path 0 h.rest)

beyond : (flat : Flat) (st : At) (answers : List ℤ) → IsPath flat st answers → (later : ℕ)
    → (length answers + 1 ≤ later) ⊎ (exec flat (length answers + 1) (asked flat st answers) st ≡ exec flat later (asked flat st answers) st) → IsBeyond flat st answers later
beyond flat st answers path later (inl le) =
    let e : later ≡ length answers + suc (later - (length answers + 1)) = omega arith in
    record { more = later - (length answers + 1); is = ap (λ n. exec flat n (asked flat st answers) st) e ∙ goes_beyond flat st answers path (suc (later - (length answers + 1))) }
beyond flat st answers path later (inr same) = record { more = 0; is = sym same ∙ goes_beyond flat st answers path 1 }

pub laws : PathLaws
laws = record {
  runs = runs;
  quiet = λ flat m. line_quiet flat (slice_get flat.lines m.pc) m;
  still = still;
  same = given_same;
  path = given_path;
  count = given_count;
  own = are_own;
  within = within;
  beyond = beyond;
}
