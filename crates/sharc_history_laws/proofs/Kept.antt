-- A mutex that is locked by the events is in a held log; and what a Spawn has given a thread that has had no event is
-- the argument that it is to read.
use Rattle.sharc_history_laws.proofs.{Imports.{◌≡◌, ◌≢◌, ℕ, ℤ, pos, zero, suc, ◌^◌, ◌<◌, ◌≤◌, ◌⊎◌, inl, inr, ⊎_elim, Bool, true, false, not, ◌&&◌, length, List, [], ◌∷◌, ◌++◌, reverse, Some, if◌then◌else◌, refl, sym, ap, ◌∙◌, subst, arith, eqb-true, append_assoc, and_parts, cases_lt, or_right, nat_tests, get_or_append_left, get_or_push, length_push, Any, slice_index, nat_lt, ◌==◌, list_any, THREADS, Act, CellAt, Object, SourceEvent, HeldMutex, object_of, Resolution, Code, Shape, Fits, state_word, function_of, reference_of, Turn, reference, started_with, place_after, Parameter, table_of, events_of, is_null, refers, IsNewThread, MayCome, is_locked, is_natural, is_spawn, spawns, was_spawned, Targets, Labels, IsWellTyped, ArgumentOf, In, argument_of, if_reference, is_unread, log_refers, CellsAreThere, history_of, is_about_waiters, same_is, is_below as below, yes}, Finds.{low_slot, same_object}, Holding.any_push, Lists.{Newest, Each, reverse_push}, Locked.{IsIn, NamesIn, contains}, Mutual.locked_is, Rules.newest, Started.{Begun, IsStart, SpawnedIn, Unheard, WasGiven, argument_given, function_given, unheard, chosen}, Stored.{MayComeNow, Stored}, Threaded.or_left}
use Rattle.sharc_meaning.specs.Reference as Reference

-- ---- held logs
-- an entry is found at its word, where no two of the log are at one
entry_at : (log : List HeldMutex) (h : HeldMutex) → IsIn h log → ((k : HeldMutex) → IsIn k log → k.word ≡ h.word → k.object ≡ h.object) → reference_of (object_of log h.word) ≡ h.object
entry_at [] h is same = absurd is
entry_at (k ∷ log) h is same = by (k.word == h.word) refl (entry_at log h)
  where
    by : (b : Bool) → (k.word == h.word) ≡ b → (IsIn h log → ((k : HeldMutex) → IsIn k log → k.word ≡ h.word → k.object ≡ h.object) → reference_of (object_of log h.word) ≡ h.object)
        → reference_of (if b then Some k.object else object_of log h.word) ≡ h.object
    by true e rest = same k (inl refl) (eqb-true k.word h.word e)
    by false e rest = ⊎_elim
        (λ (here : k ≡ h). absurd (yes (sym (equal (ap (λ (k : HeldMutex). k.word) here)) ∙ e)))
        (λ (later : IsIn h log). rest later (λ j there. same j (inr there)))
        is
      where
        equal : k.word ≡ h.word → (k.word == h.word) ≡ true
        equal q = grind (arith, nat_tests)

named_object : (code : Code) (a : Object) (cell o p at : ℕ) → a ≡ Object.Made o → NamesIn code a cell p at → p ≡ o
named_object code (Object.Made n) cell o p at is h = let e : n ≡ o = cc in sym h.0 ∙ e
named_object code (Object.Global g) cell o p at is h = absurd (cc)

pub locked_logged : (cell_laws : CellsAreThere) (x : Targets) (code : Code) (s : Shape) (ls : Labels) (wt : IsWellTyped x code ls) (fits : Fits code s) (r : Resolution)
    (run : List Turn) → Stored r x code s ls run → (c : CellAt) (o : ℕ) → c.object ≡ Object.Made o → is_locked (history_of code s run) c ≡ true
    → (u : ℕ) × (word : ℕ) × (log_refers (place_after code s run) u word ≡ o)
locked_logged cell_laws x code s ls wt fits r run k c o is locked =
    let g = place_after code s run in
    let L = newest code s run in
    let holder = k.told.mutexes.held c (sym (locked_is L c) ∙ locked) in
    let u = holder.0 in
    let log = (g.threads u).own.held in
    let found = k.told.has u c holder.1 in
    let h = found.0 in
    let once : (j : HeldMutex) → IsIn j log → j.word ≡ h.word → j.object ≡ h.object = λ j there same.
    let state = k.consists.state in
    let a = state.locks.logged u j (contains log j there) in
    let b = state.locks.logged u h (contains log h found.1) in
    same_object cell_laws x code s ls wt fits g k.consists.world state j.object h.object a.0 b.0 a.1.1 b.1.1 a.1.2 b.1.2 (sym a.1.0 ∙ same ∙ b.1.0)
    in
    (u, h.word, entry_at log h found.1 once ∙ named_object code c.object c.cell o h.object found.2.0 is found.2.2)

-- ---- a thread is spawned once
abbrev FreshSpawns : Newest → Type 0
FreshSpawns [] = Unit {0}
FreshSpawns (e ∷ L) = ((f : ℕ) (v : ℤ) → e.act ≡ Act.Spawn f v → IsNewThread (reverse L) e.answer) × FreshSpawns L

fresh_spawns : (r : Resolution) (L : Newest) → Each (MayComeNow r) (reverse L) → FreshSpawns L
fresh_spawns r [] all = tt
fresh_spawns r (e ∷ L) all = (
  λ f v is. subst (MayCome r (reverse L) e) is (all (reverse L) e [] (reverse_push e L) (ap is_about_waiters is)),
  fresh_spawns r L (λ before d after stands. all before d (after ++ e ∷ []) (reverse_push e L ∙ ap (λ xs. xs ++ e ∷ []) stands ∙ append_assoc before (d ∷ after) (e ∷ []))),
)

spawns_it : (e : SourceEvent) (t f : ℕ) (v : ℤ) → IsStart t f v e → spawns t e ≡ true
spawns_it e t f v h = ap (λ a. is_spawn a && is_natural t e.answer) h.0 ∙ ap (is_natural t) h.1 ∙ same_is t

was_in : (L : Newest) (t f : ℕ) (v : ℤ) → SpawnedIn L t f v → was_spawned (reverse L) t ≡ true
was_in [] t f v h = absurd h
was_in (e ∷ L) t f v h = ap (list_any (spawns t)) (reverse_push e L) ∙ any_push (spawns t) (reverse L) e ∙ ⊎_elim
    (λ (now : IsStart t f v e). or_right (list_any (spawns t) (reverse L)) (spawns t e) (spawns_it e t f v now))
    (λ (then_ : SpawnedIn L t f v). or_left (list_any (spawns t) (reverse L)) (spawns t e) (was_in L t f v then_))
    h

natural_eq : (k t : ℕ) (z : ℤ) → z ≡ pos k → z ≡ pos t → k ≡ t
natural_eq k t z a b = let e : pos k ≡ pos t = sym a ∙ b in cc

spawn_eq : (f g : ℕ) (v w : ℤ) → Act.Spawn f v ≡ Act.Spawn g w → (f ≡ g) × (v ≡ w)
spawn_eq f g v w e = (cc, cc)

not_again : (e : SourceEvent) (L : Newest) (t f g : ℕ) (v w : ℤ) → ((f : ℕ) (v : ℤ) → e.act ≡ Act.Spawn f v → IsNewThread (reverse L) e.answer) → IsStart t f v e → SpawnedIn L t g w → ⊥
not_again e L t f g v w fresh now was =
    let k = fresh f v now.0 in
    yes (sym (was_in L t g w was) ∙ ap (was_spawned (reverse L)) (sym (natural_eq k.thread t e.answer k.tells now.1)) ∙ k.fresh)

once : (L : Newest) → FreshSpawns L → (t f g : ℕ) (v w : ℤ) → SpawnedIn L t f v → SpawnedIn L t g w → (f ≡ g) × (v ≡ w)
once [] fresh t f g v w a b = absurd a
once (e ∷ L) fresh t f g v w (inl a) (inl b) = spawn_eq f g v w (sym a.0 ∙ b.0)
once (e ∷ L) fresh t f g v w (inl a) (inr b) = absurd (not_again e L t f g v w fresh.0 a b)
once (e ∷ L) fresh t f g v w (inr a) (inl b) = absurd (not_again e L t g f w v fresh.0 b a)
once (e ∷ L) fresh t f g v w (inr a) (inr b) = once L fresh.1 t f g v w a b

-- and it is not thread 0
not_first : (L : Newest) → FreshSpawns L → (t f : ℕ) (v : ℤ) → SpawnedIn L t f v → t ≢ 0
not_first [] fresh t f v h = absurd h
not_first (e ∷ L) fresh t f v (inl h) = λ z. let k = fresh.0 f v h.0 in k.other (natural_eq k.thread t e.answer k.tells h.1 ∙ z)
not_first (e ∷ L) fresh t f v (inr h) = not_first L fresh.1 t f v h

-- from the history
any_cases : (P : SourceEvent → Type 0) (xs : List SourceEvent) (e : SourceEvent) → Any P (xs ++ e ∷ []) → Any P xs ⊎ P e
any_cases P xs e h = ⊎_elim
    (λ (lt : h.0 < length xs). inl (h.0, h.1, lt, sym (get_or_append_left xs (e ∷ []) h.1 h.0 lt) ∙ h.3, h.4))
    (λ (ge : length xs ≤ h.0).
    let long = length_push xs e in
    let low = h.2 in
    let at : length xs ≡ h.0 = omega (arith, long, low, ge) in
    inr (subst P (sym h.3 ∙ get_or_push xs e h.1 h.0 at) h.4))
    (cases_lt h.0 (length xs))

spawned_in : (L : Newest) (t f : ℕ) (v : ℤ) → Any (IsStart t f v) (reverse L) → SpawnedIn L t f v
spawned_in [] t f v h = let low = h.2 in absurd (omega (arith, low))
spawned_in (e ∷ L) t f v h = ⊎_elim
    (λ (was : Any (IsStart t f v) (reverse L)). inr (spawned_in L t f v was))
    (λ (now : IsStart t f v e). inl now)
    (any_cases (IsStart t f v) (reverse L) e (subst (Any (IsStart t f v)) (reverse_push e L) h))

-- ---- arguments
pub referred : (o a elements : ℕ) → a < 2 ^ 32 → refers o (reference a elements) ≡ true → a ≡ o
referred o zero elements low is = absurd (yes (sym is))
referred o (suc k) elements low is =
    let parts = and_parts (not (is_null (reference (suc k) elements))) (Reference.number_of (reference (suc k) elements) == o) is in
    let number : Reference.number_of (reference (suc k) elements) ≡ suc k = omega arith in
    sym number ∙ eqb-true (Reference.number_of (reference (suc k) elements)) o parts.1

pub spawned_given : (cell_laws : CellsAreThere) (x : Targets) (code : Code) (s : Shape) (ls : Labels) (wt : IsWellTyped x code ls) (fits : Fits code s) (r : Resolution)
    (run : List Turn) → Stored r x code s ls run → Begun x code s ls run → (u f o : ℕ) (v : ℤ) → events_of u (history_of code s run) ≡ [] → Any (IsStart u f v) (history_of code s run)
    → (function_of code f).parameter ≡ Parameter.Reference → refers o v ≡ true → argument_of code (place_after code s run) u ≡ o
spawned_given cell_laws x code s ls wt fits r run k b u f o v none spawned takes is = by given
  where
    L : Newest
    L = newest code s run

    quiet : Unheard (newest code s run) u
    quiet = unheard (newest code s run) u none

    fresh : FreshSpawns (newest code s run)
    fresh = fresh_spawns r (newest code s run) k.legal

    here : SpawnedIn (newest code s run) u f v
    here = spawned_in (newest code s run) u f v spawned

    unread : is_unread ((place_after code s run).threads u) ≡ true
    unread = b.told.unread u quiet

    started : (place_after code s run).started u ≡ true
    started = k.told.threads.spawned u (was_in (newest code s run) u f v here)

    low : u < THREADS
    low = b.consists.state.begins.few u started

    state : slice_index (place_after code s run).words (state_word u) ≡ 1
    state = b.consists.state.firsts.unread u low started unread

    given : WasGiven code (newest code s run) (table_of code s run) (place_after code s run) u
    given = b.told.given u low quiet state

    by : WasGiven code (newest code s run) (table_of code s run) (place_after code s run) u → argument_of code (place_after code s run) u ≡ o
    by (inl z) = absurd (not_first (newest code s run) fresh u f v here z.0)
    by (inr z) =
        let g = place_after code s run in
        let T = table_of code s run in
        let h = function_given g u in
        let a = argument_given g u in
        let same = once (newest code s run) fresh u f h v (started_with (function_of code h).parameter a (T a)) here z.2 in
        let reads : (function_of code h).parameter ≡ Parameter.Reference = ap (λ n. (function_of code n).parameter) (sym same.0) ∙ takes in
        let value : v ≡ reference a (T a) = same.1 ∙ ap (λ p. started_with p a (T a)) reads in
        let word : (slice_index g.words (state_word u) == 1) ≡ true = ap (λ n. n == 1) state in
        let argument : argument_of code g u ≡ a = chosen (nat_lt u THREADS) (slice_index g.words (state_word u) == 1) (is_unread (g.threads u)) (if_reference (function_of code h).parameter a) (below u THREADS low) word unread ∙ ap (λ p. if_reference p a) reads in
        let few : a < 2 ^ 32 = subst (λ n. n < 2 ^ 32) (b.consists.state.sim.args u ∙ argument) (low_slot cell_laws x code s ls wt fits g b.consists.world b.consists.state (In (ArgumentOf u))) in
        argument ∙ referred o a (T a) few (subst (λ v. refers o v ≡ true) value is)
