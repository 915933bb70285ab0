-- A turn that changes no thread's words, no object, no mutex and no block: what it leaves of the invariant is the same for all.
use Rattle.sharc_invariant.proofs.{Imports.{◌≡◌, ℕ, pos, zero, suc, ◌+◌, ◌*◌, ◌^◌, ◌<◌, ◌≤◌, ◌≢◌, ◌⊎◌, ◌||◌, ◌&&◌, Bool, true, false, cond, List, Option, Some, None, refl, sym, ap, ◌∙◌, subst, inl, inr, ⊎_elim, arith, ltb-true, cases_eq, fun_ext, length, slice_index, nat_eq, nat_lt, ◌↔◌, ◌==◌, is_some, Contains, THREADS, HeldMutex, IsHeldLog, object_of, Read, Write, Kind, note_of, Accesses, ListsNoted, epoch_of, Code, Shape, Instr, Stage, Rests, Links, int_of, top_word, next_thread_word, state_word, function_word, argument_word, granules, first_cell, Machine, reference_of, function_of, instr_at, ref, may_go, counted, Global, put, is_started, bounds, put_same, put_other, put_all, sum_to, Targets, nothing, field_in, is_mutex, cells_of, Gate, Holds, HoldsLoaded, SoleGate, Label, Labels, Fine, IsWellTyped, RegisterOf, ArgumentOf, In, TypedReference, ObjectState, Sole, World, in_ref, WorldInvariant, Heap, Kept, Live, is_freed, is_first, if_reference, note_number, conc_of, Shows, Apart, register_of, argument_of, is_unread, staged_of, noted_by, logged, is_ended, has_withdrawn, lang_of, cell_at, making_of, head_of, head_with, made_turn, made_conc, KeepsOthers, StopStands, block_for, State, View, view_of, HeapStands, Locks, Threads, Firsts, NumberStands, ThreadStands, IsThread, Runs, SpawnsNow, Reserves, EntryStands, FramesStand, GateStands, label_now, size_of_run, Looks, Clears, Empties, Lowers, FreeLooks, FreeClears, Uncounts, StageStands, data_granules, Own as Own'}, TurnAt.thread_at, Frames.{Agrees, Always, top_agrees, callers_agree}, Others.{stop_kept, stage_kept, operand, OnHold, map_clear, map_free}}

-- how long the lists of a thread's machine are, what its number is and what its table says of rows
pub record KeepsSizes (m m' : Machine) : Type 0 where
  pub number : m'.own.number ≡ m.own.number
  pub notes : length m'.own.table.notes ≡ length m.own.table.notes
  pub table : ListsNoted m'.own.table
  pub refs : length m'.refs ≡ length m.refs
  pub ints : length m'.ints ≡ length m.ints
  pub frames : length m'.frames ≡ length m.frames

-- a turn keeps them that leaves the number and the table
pub sizes_kept : (m m' : Machine) → ListsNoted m.own.table → m'.own ≡ record m'.own { number = m.own.number; table = m.own.table } → length m'.refs ≡ length m.refs → length m'.ints ≡ length m.ints → length m'.frames ≡ length m.frames → KeepsSizes m m'
sizes_kept m m' table own refs ints frames = record {
  number = ap (λ (o : Own'). o.number) own;
  notes = ap (λ (o : Own'). length o.table.notes) own;
  table = subst ListsNoted (sym (ap (λ (o : Own'). o.table) own)) table;
  refs = refs;
  ints = ints;
  frames = frames;
}

-- where it keeps them, they are as long as they must be
pub thread_kept : (code : Code) (s : Shape) (t : ℕ) (m m' : Machine) → IsThread code s t m → KeepsSizes m m' → IsHeldLog m'.own.held → length m'.own.heads ≡ length m.own.heads → IsThread code s t m'
thread_kept code s t m m' h sizes log heads = record {
  number = sizes.number ∙ h.number;
  log = log;
  refs = sizes.refs ∙ h.refs;
  ints = sizes.ints ∙ h.ints;
  frames = sizes.frames ∙ h.frames;
  heads = heads ∙ h.heads;
  notes = sizes.notes ∙ h.notes;
  table = sizes.table;
}

-- what every turn keeps of its thread here
pub record KeepsThread (m m' : Machine) : Type 0 where
  pub sizes : KeepsSizes m m'
  pub held : m'.own.held ≡ m.own.held
  pub heads : m'.own.heads ≡ m.own.heads
  pub making : making_of m'.own.stage ≡ making_of m.own.stage

-- what a turn keeps that may take a mutex or give one back
pub record KeepsLengths (m m' : Machine) : Type 0 where
  pub sizes : KeepsSizes m m'
  pub log : IsHeldLog m'.own.held
  pub heads : m'.own.heads ≡ m.own.heads
  pub making : making_of m'.own.stage ≡ making_of m.own.stage

lengths_kept : (m m' : Machine) → IsHeldLog m.own.held → KeepsThread m m' → KeepsLengths m m'
lengths_kept m m' log own = record {
  sizes = own.sizes;
  log = subst IsHeldLog (sym own.held) log;
  heads = own.heads;
  making = own.making;
}

-- what the thread of the turn keeps for itself
pub record KeepsOwn (m m' : Machine) : Type 0 where
  pub sizes : KeepsSizes m m'
  pub held : m'.own.held ≡ m.own.held
  pub heads : m'.own.heads ≡ m.own.heads
  pub stage : m.own.stage ≡ Rests
  pub rests : m'.own.stage ≡ Rests
  pub begun_before : (m.at.pc == 0) ≡ false
  pub begun : (m'.at.pc == 0) ≡ false
  pub ended_before : is_ended m.at.state ≡ false
  pub ended : is_ended m'.at.state ≡ false

-- what it keeps where it takes a mutex or gives one back, or is in the middle of an instruction
pub record KeepsSelf (m m' : Machine) : Type 0 where
  pub sizes : KeepsSizes m m'
  pub log : IsHeldLog m'.own.held
  pub heads : m'.own.heads ≡ m.own.heads
  pub making : making_of m'.own.stage ≡ making_of m.own.stage
  pub staged : staged_of m'.own.stage ≡ staged_of m.own.stage
  pub spawns : (n : ℕ) → SpawnsNow m'.own.stage n → SpawnsNow m.own.stage n
  pub begun_before : (m.at.pc == 0) ≡ false
  pub begun : (m'.at.pc == 0) ≡ false

keeps_self : (m m' : Machine) → IsHeldLog m.own.held → KeepsOwn m m' → KeepsSelf m m'
keeps_self m m' log own = record {
  sizes = own.sizes;
  log = subst IsHeldLog (sym own.held) log;
  heads = own.heads;
  making = ap making_of (own.rests ∙ sym own.stage);
  staged = ap staged_of (own.rests ∙ sym own.stage);
  spawns = λ n h. absurd (subst (λ y. SpawnsNow y n) own.rests h);
  begun_before = own.begun_before;
  begun = own.begun;
}

-- and the words
pub record KeepsWords (s : Shape) (heap : Heap) (old new : List ℕ) : Type 0 where
  pub count : length new ≡ length old
  pub low : (j : ℕ) → j < 97 → j ≢ 3 → slice_index new j ≡ slice_index old j
  pub are_words : (j : ℕ) → slice_index new j < 2 ^ 64
  pub epochs : (i : ℕ) → i < granules s → epoch_of (slice_index new (97 + i)) ≡ epoch_of (slice_index old (97 + i))
  pub kept : Kept record { first = 1 + s.globals; words = first_cell s } record heap { words = λ i. slice_index new i }

-- and of the words, whatever the threads' words are: those of a thread that is begun or spawned by another stay
pub record KeepsMost (s : Shape) (heap : Heap) (g : Global Machine) (t : ℕ) (new : List ℕ) : Type 0 where
  pub count : length new ≡ length g.words
  pub top : slice_index new top_word ≡ slice_index g.words top_word
  pub are_words : (j : ℕ) → slice_index new j < 2 ^ 64
  pub epochs : (i : ℕ) → i < granules s → epoch_of (slice_index new (97 + i)) ≡ epoch_of (slice_index g.words (97 + i))
  pub kept : Kept record { first = 1 + s.globals; words = first_cell s } record heap { words = λ i. slice_index new i }
  pub reserved : (u n : ℕ) → u ≢ t → SpawnsNow (g.threads u).own.stage n → Reserves g.words u n → Reserves new u n
  pub handed : (u n : ℕ) → u ≢ t → SpawnsNow (g.threads u).own.stage n → Reserves g.words u n
      → (slice_index new (function_word n) ≡ slice_index g.words (function_word n)) × (slice_index new (argument_word n) ≡ slice_index g.words (argument_word n))
  pub own : (u : ℕ) → u ≢ t → g.started u ≡ true → slice_index new (function_word u) ≡ slice_index g.words (function_word u)

pub reserves_kept : (words words' : List ℕ) → ((j : ℕ) → j < 97 → j ≢ 3 → j ≢ 1 → slice_index words' j ≡ slice_index words j) → (u n : ℕ) → Reserves words u n → Reserves words' u n
reserves_kept words words' low u n h =
    let few' = h.few in
    let e = low (state_word n) (omega arith) (λ e. absurd (omega arith)) (λ e. absurd (omega arith)) in
    record { few = h.few; given = (let z = h.given in omega arith); first = h.first; state = e ∙ h.state }

most_words : (s : Shape) (heap : Heap) (g : Global Machine) (t : ℕ) (new : List ℕ) → ((u : ℕ) → g.started u ≡ true → u < THREADS) → KeepsWords s heap g.words new → KeepsMost s heap g t new
most_words s heap g t new few kw = record {
  count = kw.count;
  top = kw.low top_word (omega arith) (λ e. absurd (omega arith));
  are_words = kw.are_words;
  epochs = kw.epochs;
  kept = kw.kept;
  reserved = λ u n _ _ h. reserves_kept g.words new (λ j l a _. kw.low j l a) u n h;
  handed = λ u n _ _ h. (kw.low (function_word n) (let z = h.few in omega arith) (λ e. absurd (omega arith)), kw.low (argument_word n) (let z = h.few in omega arith) (λ e. absurd (omega arith)));
  own = λ u _ on. kw.low (function_word u) (let z = few u on in omega arith) (λ e. absurd (omega arith));
}

-- no object and no argument
pub record KeepsObjects (w w' : World) : Type 0 where
  pub obj : w'.obj ≡ w.obj
  pub args : (u : ℕ) → w'.slots (In (ArgumentOf u)) ≡ w.slots (In (ArgumentOf u))

pub record KeepsWorld (w w' : World) : Type 0 where
  pub obj : w'.obj ≡ w.obj
  pub mutex : w'.mutex ≡ w.mutex
  pub args : (u : ℕ) → w'.slots (In (ArgumentOf u)) ≡ w.slots (In (ArgumentOf u))

pub sum_up : (n : ℕ) (f : ℕ → ℕ) (t c : ℕ) → sum_to n f ≤ sum_to n (put f t (f t + c))
sum_up zero f t c = omega arith
sum_up (suc n) f t c =
    let a = sum_up n f t c in
    let b : f n ≤ put f t (f t + c) n = put_all (λ n y. f n ≤ y) f t (f t + c) (omega arith) (λ j _. omega arith) n in
    omega arith

-- the heads of lists are as before where nothing is made, or the same is
pub head_same : (m m' : Machine) (k : ℕ) → making_of m'.own.stage ≡ making_of m.own.stage → m'.own.heads ≡ m.own.heads → head_of m' k ≡ head_of m k
head_same m m' k e h = ap (λ y. head_with y m'.own.heads k) e ∙ ap (λ l. head_with (making_of m.own.stage) l k) h

abbrev pub heap_now : Heap → List ℕ → Heap
heap_now heap words = record heap { words = λ i. slice_index words i }

-- the heap stands as before where no object changes and no head of a list
pub heap_stays : (s : Shape) (cells : ℕ → ℕ) (g : Global Machine) (obj obj' : ℕ → ObjectState) (heap : Heap) (t : ℕ) (words : List ℕ) (m' : Machine) → HeapStands s cells g obj heap → obj' ≡ obj
    → Kept (record { first = 1 + s.globals; words = first_cell s }) (heap_now heap words) → slice_index words top_word ≡ slice_index g.words top_word → ((b : ℕ) → head_of m' b ≡ head_of (g.threads t) b)
    → HeapStands s cells (made_turn g t words m') obj' (heap_now heap words)
heap_stays s cells g obj obj' heap t words m' h same kept top heads =
    let P : (ℕ → ObjectState) → Type 0 = λ f. (o : ℕ) → o ≢ 0 → ((f o).live ≡ true) ↔ (heap.state o ≡ Live) in
    let Q : (ℕ → ObjectState) → Type 0 = λ f. (o : ℕ) → o ≢ 0 → (f o).live ≡ true → 2 + cells o ≤ 2 * heap.size o in
    let Z : (ℕ → ObjectState) → Type 0 = λ f. (o : ℕ) → o ≢ 0 → (f o).live ≡ true → heap.size o ≡ block_for (cells o) in
    record {
      kept = kept;
      words = λ i. refl;
      top = h.top ∙ sym top;
      within = h.within;
      heads = λ u b lu lb. h.heads u b lu lb ∙ put_all (λ u (n : Machine). head_of (g.threads u) b ≡ head_of n b) g.threads t m' (sym (heads b)) (λ u _. refl) u;
      powers = h.powers;
      live = subst P (sym same) h.live;
      room = subst Q (sym same) h.room;
      sizes = subst Z (sym same) h.sizes;
    }

pub sole_gate : (x : Targets) (code : Code) (ls : Labels) (pc : ℕ) (l : Label) (i : Instr) (r : ℕ) → Fine x code ls pc l i → operand i ≡ Some r → (c : Bool) × (l.gate ≡ SoleGate r c)
sole_gate x code ls pc l (Instr.Clear q count) r f e = let k : q ≡ r = cc in (false, f.0 ∙ ap (λ q. SoleGate q false) k)
sole_gate x code ls pc l (Instr.Free q layout site) r f e = let k : q ≡ r = cc in (f.0.0, f.0.1 ∙ ap (λ q. SoleGate q f.0.0) k)
sole_gate x code ls pc l _ r f e = absurd (cc)

pub label_held : (l : Label) (i : Instr) (stage : Stage) → OnHold stage → label_now l i stage ≡ l
label_held l (Instr.Free r layout site) (Links all) h = absurd h
label_held l _ stage h = refl

pub freed_held : (i : Instr) (stage : Stage) (base j : ℕ) → OnHold stage → is_freed i stage base j ≡ false
freed_held (Instr.Free r layout site) (Links all) base j h = absurd h
freed_held _ stage base j h = refl

abbrev pub noted_of : Stage → Accesses → Bool → Kind → ℕ → ℕ
noted_of stage table ended kind p = cond (has_withdrawn stage table.order ended p) 0 (note_number (note_of table p kind))

-- the notes of a thread whose table is as before
pub noted_same : (m m' : Machine) → m'.own.table ≡ m.own.table → m.own.stage ≡ Rests → m'.own.stage ≡ Rests → is_ended m.at.state ≡ false → is_ended m'.at.state ≡ false → (kind : Kind) (p : ℕ) → noted_by m' kind p ≡ noted_by m kind p
noted_same m m' et es er eb ee kind p =
    ap (λ st. noted_of st m'.own.table (is_ended m'.at.state) kind p) (er ∙ sym es)
    ∙ ap (λ tb. noted_of m.own.stage tb (is_ended m'.at.state) kind p) et
    ∙ ap (λ e. noted_of m.own.stage m.own.table e kind p) (ee ∙ sym eb)

pub put_self : {A : Type 0} (f : ℕ → A) (t : ℕ) (v : A) → v ≡ f t → (u : ℕ) → put f t v u ≡ f u
put_self f t v e = put_all (λ u y. y ≡ f u) f t v e (λ u _. refl)

-- a part of each thread's machine, where that of one thread changes
pub part_put : {A : Type 0} (f : Machine → A) (ms : ℕ → Machine) (t : ℕ) (m' : Machine) → (λ u. f (put ms t m' u)) ≡ put (λ u. f (ms u)) t (f m')
part_put f ms t m' = fun_ext (λ u. put_all (λ u y. f (put ms t m' u) ≡ y) (λ u. f (ms u)) t (f m') (ap f (put_same ms t m')) (λ u ne. ap f (put_other ms t u m' ne)) u)

-- and where it does not
pub part_same : {A : Type 0} (f : Machine → A) (ms : ℕ → Machine) (t : ℕ) (m' : Machine) → f m' ≡ f (ms t) → (u : ℕ) → f (put ms t m' u) ≡ f (ms u)
part_same f ms t m' e = put_all (λ u y. f y ≡ f (ms u)) ms t m' e (λ u _. refl)

pub conc_plain : (code : Code) (g : Global Machine) (t : ℕ) (words : List ℕ) (m' : Machine) → ((kind : Kind) (p : ℕ) → noted_by m' kind p ≡ noted_by (g.threads t) kind p)
    → made_conc code (conc_of code g) t words m' ≡ record (conc_of code g) { words = λ i. slice_index words i; regs = put (λ u. register_of code (g.threads u)) t (register_of code m') }
conc_plain code g t words m' e =
    let n : (kind : Kind) → put (λ u. noted_by (g.threads u) kind) t (noted_by m' kind) ≡ (λ u. noted_by (g.threads u) kind) = λ kind. fun_ext (put_self (λ u. noted_by (g.threads u) kind) t (noted_by m' kind) (fun_ext (e kind))) in
    let a = n Read in
    let b = n Write in
    λ i. record (conc_of code g) { words = λ i. slice_index words i; regs = put (λ u. register_of code (g.threads u)) t (register_of code m'); read_notes = a i; write_notes = b i }

-- what is shown after the turn of a thread that keeps its log, what it holds staged and its notes
pub conc_turned : (code : Code) (g : Global Machine) (t : ℕ) (words : List ℕ) (m' : Machine) → m'.own.held ≡ (g.threads t).own.held → staged_of m'.own.stage ≡ staged_of (g.threads t).own.stage
    → ((kind : Kind) (p : ℕ) → noted_by m' kind p ≡ noted_by (g.threads t) kind p)
    → conc_of code (made_turn g t words m') ≡ record (conc_of code g) { words = λ j. slice_index words j; regs = put (λ u. register_of code (g.threads u)) t (register_of code m'); args = argument_of code (made_turn g t words m') }
conc_turned code g t words m' held staged notes =
    let now = made_turn g t words m' in
    let rs : (λ u. register_of code (now.threads u)) ≡ put (λ u. register_of code (g.threads u)) t (register_of code m') = part_put (register_of code) g.threads t m' in
    let lo : (λ u. logged (now.threads u)) ≡ (λ u. logged (g.threads u)) = fun_ext (part_same logged g.threads t m' (fun_ext (λ w. ap (λ (h : List HeldMutex). reference_of (object_of h w)) held))) in
    let sg : (λ u. staged_of (now.threads u).own.stage) ≡ (λ u. staged_of (g.threads u).own.stage) = fun_ext (part_same (λ m. staged_of m.own.stage) g.threads t m' staged) in
    let nt : (kind : Kind) → (λ u. noted_by (now.threads u) kind) ≡ (λ u. noted_by (g.threads u) kind) = λ kind. fun_ext (part_same (λ m. noted_by m kind) g.threads t m' (fun_ext (notes kind))) in
    let rd = nt Read in
    let wr = nt Write in
    λ i. record { words = λ j. slice_index words j; regs = rs i; args = argument_of code now; logs = lo i; staged = sg i; read_notes = rd i; write_notes = wr i }

pub no_argument : (b c : Bool) (v : ℕ) → c ≡ false → cond (b && c) v 0 ≡ 0
no_argument true c v e = ap (λ c. cond c v 0) e
no_argument false c v e = refl

-- ---- what the words of the threads say after a turn
module _ (x : Targets) (code : Code) (s : Shape) (ls : Labels) (g : Global Machine) (world : World) (st : State x code s ls g world) (t : ℕ) (words : List ℕ) (m' : Machine) where
  abbrev turned : Global Machine
  turned = made_turn g t words m'

  -- a thread is started as before where its word stays, if it was not started
  pub started_still : (u : ℕ) → (g.started u ≡ false → u < THREADS → slice_index words (state_word u) ≡ slice_index g.words (state_word u)) → turned.started u ≡ g.started u
  started_still u same = elim (g.started u) as (λ y. g.started u ≡ y → (is_started bounds words u || y) ≡ y) [
    | true ↦ λ _. elim (is_started bounds words u) as (λ b. (b || true) ≡ true) [ true ↦ refl | false ↦ refl ]
    | false ↦ λ e.
        let q : is_started bounds words u ≡ false = elim (nat_lt u THREADS) as (λ b. nat_lt u THREADS ≡ b → (b && nat_eq (slice_index words (state_word u)) 1) ≡ false) [
          | true ↦ λ lt. let l : u < THREADS = ltb-true u THREADS lt in ap (λ n. nat_eq n 1) (same e l ∙ (st.begins.started u l).1 e)
          | false ↦ λ _. refl
        ] refl in
        ap (λ b. b || false) q
  ] refl

  -- the arguments are unread as before where the thread of the turn is not at its beginning
  pub args_still : ((g.threads t).at.pc == 0) ≡ false → (m'.at.pc == 0) ≡ false
      → ((u : ℕ) → u ≢ t → u < THREADS → (slice_index words (state_word u) ≡ slice_index g.words (state_word u))
      × (slice_index g.words (state_word u) ≢ 0 → (slice_index words (function_word u) ≡ slice_index g.words (function_word u)) × (slice_index words (argument_word u) ≡ slice_index g.words (argument_word u))))
      → (u : ℕ) → argument_of code turned u ≡ argument_of code g u
  args_still begun_before begun same u = ⊎_elim
      (λ (e : u ≡ t).
      let a : is_unread (turned.threads u) ≡ false = ap (λ u. is_unread (turned.threads u)) e ∙ ap is_unread (put_same g.threads t m') ∙ ap (λ b. b && is_first m'.own.stage) begun in
      let b : is_unread (g.threads u) ≡ false = ap (λ u. is_unread (g.threads u)) e ∙ ap (λ b. b && is_first (g.threads t).own.stage) begun_before in
      no_argument (nat_lt u THREADS && (slice_index words (state_word u) == 1)) (is_unread (turned.threads u)) _ a ∙ sym (no_argument (nat_lt u THREADS && (slice_index g.words (state_word u) == 1)) (is_unread (g.threads u)) _ b))
      (λ (ne : u ≡ t → ⊥).
      let a : is_unread (turned.threads u) ≡ is_unread (g.threads u) = ap is_unread (put_other g.threads t u m' ne) in
      let A : List ℕ → ℕ = λ ws. if_reference (function_of code (slice_index ws (function_word u))).parameter (slice_index ws (argument_word u)) in
      elim (nat_lt u THREADS) as (λ b. nat_lt u THREADS ≡ b → cond ((b && (slice_index words (state_word u) == 1)) && is_unread (turned.threads u)) (A words) 0 ≡ cond ((b && (slice_index g.words (state_word u) == 1)) && is_unread (g.threads u)) (A g.words) 0) [
        | true ↦ λ e.
            let stays = same u ne (ltb-true u THREADS e) in
            ap (λ d. cond ((slice_index words (state_word u) == 1) && d) (A words) 0) a
            ∙ ap (λ n. cond ((n == 1) && is_unread (g.threads u)) (A words) 0) stays.0
            ∙ ⊎_elim
            (λ (z : slice_index g.words (state_word u) ≡ 0). ap (λ n. cond ((n == 1) && is_unread (g.threads u)) (A words) 0) z ∙ sym (ap (λ n. cond ((n == 1) && is_unread (g.threads u)) (A g.words) 0) z))
            (λ (nz : slice_index g.words (state_word u) ≡ 0 → ⊥).
            ap (λ v. cond ((slice_index g.words (state_word u) == 1) && is_unread (g.threads u)) v 0)
            (ap (λ n. if_reference (function_of code n).parameter (slice_index words (argument_word u))) (stays.1 nz).0 ∙ ap (if_reference (function_of code (slice_index g.words (function_word u))).parameter) (stays.1 nz).1))
            (cases_eq (slice_index g.words (state_word u)) 0)
        | false ↦ λ e. refl
      ] refl)
      (cases_eq u t)

  -- where they all stay
  module _ (low : (j : ℕ) → j < 97 → j ≢ 3 → j ≢ 1 → slice_index words j ≡ slice_index g.words j) where
    state_stays : (u : ℕ) → u < THREADS → slice_index words (state_word u) ≡ slice_index g.words (state_word u)
    state_stays u lt = low (state_word u) (omega arith) (λ e. absurd (omega arith)) (λ e. absurd (omega arith))

    pub function_stays : (u : ℕ) → u < THREADS → slice_index words (function_word u) ≡ slice_index g.words (function_word u)
    function_stays u lt = low (function_word u) (omega arith) (λ e. absurd (omega arith)) (λ e. absurd (omega arith))

    pub argument_stays : (u : ℕ) → u < THREADS → slice_index words (argument_word u) ≡ slice_index g.words (argument_word u)
    argument_stays u lt = low (argument_word u) (omega arith) (λ e. absurd (omega arith)) (λ e. absurd (omega arith))

    pub started_stay : (u : ℕ) → turned.started u ≡ g.started u
    started_stay u = started_still u (λ _ lt. state_stays u lt)

    pub args_stay : ((g.threads t).at.pc == 0) ≡ false → (m'.at.pc == 0) ≡ false → (u : ℕ) → argument_of code turned u ≡ argument_of code g u
    args_stay begun_before begun = args_still begun_before begun (λ u _ lt. (state_stays u lt, λ _. (function_stays u lt, argument_stays u lt)))

    pub begins_stay : (w' : World) → ((u : ℕ) → w'.slots (In (ArgumentOf u)) ≡ world.slots (In (ArgumentOf u))) → ((n : ℕ) → SpawnsNow m'.own.stage n → SpawnsNow (g.threads t).own.stage n) → Threads code ls w' turned
    begins_stay w' args spawns = record {
      few = λ u e. st.begins.few u (sym (started_stay u) ∙ e);
      started = λ u lt. (λ e. started_stay u ∙ (st.begins.started u lt).0 (sym (state_stays u lt) ∙ e), λ e. state_stays u lt ∙ (st.begins.started u lt).1 (sym (started_stay u) ∙ e));
      given = λ u lt ne. let b = low next_thread_word (omega arith) (λ e. absurd (omega arith)) (λ e. absurd (omega arith)) in let z = st.begins.given u lt (λ e. ne (state_stays u lt ∙ e)) in omega arith;
      function = λ u lt e. ap ls.starts (function_stays u lt) ∙ st.begins.function u lt (sym (state_stays u lt) ∙ e);
      argument = λ u lt.
          let P : TypedReference → ℕ → Type 0 = λ h f. EntryStands (λ r. h.reference) (λ r. h.ty) 0 ((ls.signature f).takes 0) in
          subst (λ h. P h (slice_index words (function_word u))) (sym (args u)) (subst (P (world.slots (In (ArgumentOf u)))) (sym (function_stays u lt)) (st.begins.argument u lt));
      one = λ a b n ha hb.
          let f : (u : ℕ) → SpawnsNow (turned.threads u).own.stage n → SpawnsNow (g.threads u).own.stage n =
          put_all (λ u (y : Machine). SpawnsNow y.own.stage n → SpawnsNow (g.threads u).own.stage n) g.threads t m' (spawns n) (λ u _ h. h) in
          st.begins.one a b n (f a ha) (f b hb);
    }

-- a stage stands by the elements of the object that it is of
stage_elements : (code : Code) (s : Shape) (elements elements' : ℕ → ℕ) (w : World) (heap : Heap) (words : List ℕ) (t : ℕ) (m : Machine) (i : Instr) → ((r : ℕ) → operand i ≡ Some r → OnHold m.own.stage → elements' (ref m r) ≡ elements (ref m r))
    → (y : Stage) → m.own.stage ≡ y → StageStands code s elements w heap words t m i y → StageStands code s elements' w heap words t m i y
stage_elements code s el el' w heap words t m i e (Looks done all) q = map_clear _ _ i (λ r c o h. let f = e r o (subst OnHold (sym q) tt) in (h.0 ∙ ap (λ n. data_granules n c) (sym f), h.1))
stage_elements code s el el' w heap words t m i e (Clears done all seen) q = map_clear _ _ i (λ r c o h. let f = e r o (subst OnHold (sym q) tt) in (h.0 ∙ ap (λ n. data_granules n c) (sym f), h.1))
stage_elements code s el el' w heap words t m i e (Empties j all) q = map_free _ _ i (λ r l o h. let f = e r o (subst OnHold (sym q) tt) in ((h.0.0 ∙ sym f, h.0.1, h.0.2), h.1))
stage_elements code s el el' w heap words t m i e (Lowers j all found) q = map_free _ _ i (λ r l o h. let f = e r o (subst OnHold (sym q) tt) in ((h.0.0 ∙ sym f, h.0.1, h.0.2), h.1))
stage_elements code s el el' w heap words t m i e (FreeLooks done all) q = map_free _ _ i (λ r l o h. let f = e r o (subst OnHold (sym q) tt) in ((h.0.0 ∙ sym f, h.0.1, h.0.2), h.1))
stage_elements code s el el' w heap words t m i e (FreeClears done all seen) q = map_free _ _ i (λ r l o h. let f = e r o (subst OnHold (sym q) tt) in ((h.0.0 ∙ sym f, h.0.1, h.0.2), h.1))
stage_elements code s el el' w heap words t m i e (Uncounts all) q = map_free _ _ i (λ r l o h. let f = e r o (subst OnHold (sym q) tt) in ((h.0.0 ∙ sym f, h.0.1, h.0.2), h.1))
stage_elements code s el el' w heap words t m i e _ q = λ h. h

-- ---- what stands of each thread after a turn
module _ (x : Targets) (code : Code) (s : Shape) (ls : Labels) (wt : IsWellTyped x code ls) (g : Global Machine) (world : World) (st : State x code s ls g world) (t : ℕ) (on : g.started t ≡ true) (words : List ℕ) (m' : Machine)
    (elements' : ℕ → ℕ) (heap' : Heap) (w' : World) (k : KeepsOthers s world w' st.heap heap' g.words words t)
    (same_elements : (u r : ℕ) → u ≢ t → elements' (in_ref world (RegisterOf u r)) ≡ st.elements (in_ref world (RegisterOf u r)))
    (reserved : (u n : ℕ) → u ≢ t → SpawnsNow (g.threads u).own.stage n → Reserves g.words u n → Reserves words u n)
    (handed : (u n : ℕ) → u ≢ t → SpawnsNow (g.threads u).own.stage n → Reserves g.words u n
    → (slice_index words (function_word n) ≡ slice_index g.words (function_word n)) × (slice_index words (argument_word n) ≡ slice_index g.words (argument_word n)))
    (function : (u : ℕ) → u ≢ t → g.started u ≡ true → slice_index words (function_word u) ≡ slice_index g.words (function_word u)) where
  abbrev to : Global Machine
  to = made_turn g t words m'

  others_view : (u : ℕ) → u ≢ t → Agrees u (view_of st.elements world u (g.threads u)) (view_of elements' w' u (g.threads u)) Always Always
  others_view u ne = record {
    refs = λ i _. ap (λ (h : TypedReference). h.reference) (sym (k.regs u ne i));
    types = λ i _. ap (λ (h : TypedReference). h.ty) (sym (k.regs u ne i));
    vals = λ i _. refl;
    elements = λ i _. sym (same_elements u i ne);
    passed = λ o p b w. k.passed u ne o p b (⊎_elim (λ z. inl z) (λ z. inr (z.0, (z.1.1.0, z.1.1.1))) w);
  }

  frames_kept : (u : ℕ) (n : Machine) (v v' : View) (f : Option ℕ) → Agrees u v v' Always Always → FramesStand x code ls u v n f → FramesStand x code ls u v' n f
  frames_kept u n v v' None a h = h
  frames_kept u n v v' (Some f) a h =
      (callers_agree x code ls u v v' n.frames n.at.depth n.at.refs n.at.ints f (record { refs = λ i _. a.refs i tt; types = λ i _. a.types i tt; vals = λ i _. a.vals i tt; elements = λ i _. a.elements i tt; passed = λ o p b w. a.passed o p b (⊎_elim (λ z. inl z) (λ z. inr (z.0, (tt, z.1.1))) w) }) h.0, h.1, h.2)

  gate_kept : (u : ℕ) (n : Machine) (y : Gate) → w'.win u ≡ world.win u → GateStands s world u n y → GateStands s w' u n y
  gate_kept u n (Holds c) e h = (e ∙ h.0, h.1)
  gate_kept u n (HoldsLoaded c) e h = (e ∙ h.0, h.1, h.2)
  gate_kept u n _ e h = e ∙ h

  -- an object that a thread walks over it has alone
  walks : (u : ℕ) → Runs x code s ls st.elements world st.heap g u (g.threads u) → (r : ℕ) → operand (instr_at code (g.threads u).at.pc) ≡ Some r → OnHold (g.threads u).own.stage
      → (q : ℕ) × ((world.win u ≡ Sole q) × (in_ref world (RegisterOf u q) ≡ ref (g.threads u) r))
  walks u h r e hold =
      let n = g.threads u in
      let i = instr_at code n.at.pc in
      let f = sole_gate x code ls n.at.pc (ls.at n.at.pc) i r (wt.fine n.at.pc) e in
      let lb = label_held (ls.at n.at.pc) i n.own.stage hold in
      let gt : GateStands s world u n (SoleGate r f.0) = subst (GateStands s world u n) (ap (λ (l : Label). l.gate) lb ∙ f.1) h.gate in
      let nf = freed_held i n.own.stage n.at.refs (n.at.refs + r) hold in
      (n.at.refs + r, (gt, st.sim.regs u (n.at.refs + r) ∙ ap (λ b. cond b 0 (slice_index n.refs (n.at.refs + r))) nf))

  others_run : (u : ℕ) → u ≢ t → g.started u ≡ true → Runs x code s ls st.elements world st.heap g u (g.threads u) → Runs x code s ls elements' w' heap' to u (g.threads u)
  others_run u ne on' h =
      let n = g.threads u in
      let l = ls.at n.at.pc in
      let i = instr_at code n.at.pc in
      let v = view_of st.elements world u n in
      let v' = view_of elements' w' u n in
      let stage1 = stage_kept code s st.elements world w' st.heap heap' g.words words t k u ne n i (walks u h) (λ q. reserved u q ne) (λ q. handed u q ne) (function u ne on') n.own.stage refl h.stage in
      let el : (r : ℕ) → operand i ≡ Some r → OnHold n.own.stage → elements' (ref n r) ≡ st.elements (ref n r) = λ r o hold. let q = walks u h r o hold in subst (λ p. elements' p ≡ st.elements p) q.1.1 (same_elements u q.0 ne) in
      record {
        names = h.names;
        top = top_agrees x u v v' n.at.refs n.at.ints h.names (label_now l i n.own.stage) (others_view u ne) h.top;
        below = frames_kept u n v v' l.function (others_view u ne) h.below;
        gate = gate_kept u n (label_now l i n.own.stage).gate (k.win u ne) h.gate;
        stage = stage_elements code s st.elements elements' w' heap' words u n i el n.own.stage refl stage1;
        room = h.room;
      }

  -- what stands of the thread of the turn is given, and so is what stands of one that the turn starts
  pub threads_stand : IsThread code s t m' → ((u : ℕ) → u ≢ t → (to.started u ≡ g.started u) ⊎ ThreadStands x code s ls elements' w' heap' to u)
      → (may_go m'.at.state ≡ true → Runs x code s ls elements' w' heap' to t m') → (may_go m'.at.state ≡ false → StopStands w' t m' (ls.at m'.at.pc).gate)
      → (u : ℕ) → ThreadStands x code s ls elements' w' heap' to u
  threads_stand has news runs over u = ⊎_elim
      (λ (e : u ≡ t).
      let now_on : to.started t ≡ true = ap (λ b. is_started bounds words t || b) on ∙ (elim (is_started bounds words t) as (λ b. (b || true) ≡ true) [ true ↦ refl | false ↦ refl ]) in
      subst (λ u. ThreadStands x code s ls elements' w' heap' to u) (sym e) (record {
        has = subst (IsThread code s t) (sym (put_same g.threads t m')) has;
        runs = λ _ go. subst (Runs x code s ls elements' w' heap' to t) (sym (put_same g.threads t m')) (runs (sym (ap (λ (m : Machine). may_go m.at.state) (put_same g.threads t m')) ∙ go));
        off = λ off. absurd (cc);
        stopped = λ stop. subst (λ (m : Machine). StopStands w' t m (ls.at m.at.pc).gate) (sym (put_same g.threads t m')) (over (sym (ap (λ (m : Machine). may_go m.at.state) (put_same g.threads t m')) ∙ stop));
        waits = λ off. absurd (cc);
      }))
      (λ (ne : u ≡ t → ⊥). ⊎_elim (λ (as_before : to.started u ≡ g.started u).
      let th = st.threads u in
      let same : to.threads u ≡ g.threads u = put_other g.threads t u m' ne in
      record {
        has = subst (IsThread code s u) (sym same) th.has;
        runs = λ on' go.
            let on1 : g.started u ≡ true = sym as_before ∙ on' in
            let go1 : may_go (g.threads u).at.state ≡ true = sym (ap (λ (m : Machine). may_go m.at.state) same) ∙ go in
            subst (Runs x code s ls elements' w' heap' to u) (sym same) (others_run u ne on1 (th.runs on1 go1));
        off = λ off. k.win u ne ∙ th.off (sym as_before ∙ off);
        stopped = λ stop. subst (λ (m : Machine). StopStands w' u m (ls.at m.at.pc).gate) (sym same)
            (stop_kept world w' u (g.threads u) (ls.at (g.threads u).at.pc).gate (k.win u ne) (th.stopped (sym (ap (λ (m : Machine). may_go m.at.state) same) ∙ stop)));
        waits = λ off. same ∙ th.waits (sym as_before ∙ off);
      })
      (λ (new : ThreadStands x code s ls elements' w' heap' to u). new) (news u ne))
      (cases_eq u t)

module _ (x : Targets) (code : Code) (s : Shape) (ls : Labels) (g : Global Machine) (world : World) (st : State x code s ls g world) (t : ℕ) (on : g.started t ≡ true) (words : List ℕ) (m' : Machine) (own : KeepsLengths (g.threads t) m')
    (kw : KeepsMost s st.heap g t words) where
  open thread_at st t use {m}

  abbrev now : Global Machine
  now = made_turn g t words m'

  module _ (w' : World) (obj : w'.obj ≡ world.obj) (k : KeepsOthers s world w' st.heap (heap_now st.heap words) g.words words t) where
    heap_kept : HeapStands s st.cells now w'.obj (heap_now st.heap words)
    heap_kept = heap_stays s st.cells g world.obj w'.obj st.heap t words m' st.heap_stands obj kw.kept kw.top (λ b. head_same (g.threads t) m' b own.making own.heads)

    abbrev heap' : Heap
    heap' = heap_now st.heap words

    pub any_state : IsWellTyped x code ls → WorldInvariant (size_of_run code s) (lang_of x) w' → Shows x s st.cells st.elements (conc_of code now) w' → Locks x s st.cells w' now → Threads code ls w' now → Firsts x ls now → ((u : ℕ) → u ≢ t → (now.started u ≡ g.started u) ⊎ ThreadStands x code s ls st.elements w' heap' now u)
        → (may_go m'.at.state ≡ true → Runs x code s ls st.elements w' heap' now t m') → (may_go m'.at.state ≡ false → StopStands w' t m' (ls.at m'.at.pc).gate)
        → g.made t + counted m'.at.state ≤ 100000000 → State x code s ls now w'
    any_state wt inv sim locks begins firsts news runs over few =
        let A : (ℕ → ObjectState) → Type 0 = λ f. Apart s f st.cells in
        let R : (ℕ → ObjectState) → Type 0 = λ f. (o : ℕ) → o ≢ 0 → (f o).live ≡ true → ((f o).global ≡ false) × ((f o).ty.target < length x.rows) in
        let W : (ℕ → ObjectState) → Type 0 = λ f. (o : ℕ) → o ≢ 0 → (f o).live ≡ true → (1 ≤ st.elements o) × (st.cells o ≡ st.elements o * cells_of x (f o).ty.target) in
        record {
          cells = st.cells;
          elements = st.elements;
          heap = heap';
          inv = inv;
          sim = sim;
          apart = subst A (sym obj) st.apart;
          heap_stands = heap_kept;
          locks = locks;
          threads = threads_stand x code s ls wt g world st t on words m' st.elements heap' w' k (λ u r _. refl) kw.reserved kw.handed kw.own
              (thread_kept code s t m m' (st.threads t).has own.sizes own.log (ap (λ (hs : List ℕ). length hs) own.heads)) news runs over;
          begins = begins;
          firsts = firsts;
          globals = ap (λ (f : ℕ → ObjectState). f 0) obj ∙ st.globals;
          globals_cells = st.globals_cells;
          rows = subst R (sym obj) st.rows;
          whole = subst W (sym obj) st.whole;
          length_is = kw.count ∙ st.length_is;
          are_words = kw.are_words;
          epochs = λ i lt. let a = kw.epochs i lt in let b = st.epochs i lt in let c = sum_up THREADS g.made t (counted m'.at.state) in omega arith;
          few = put_all (λ u n. n ≤ 100000000) g.made t (g.made t + counted m'.at.state) few (λ u _. st.few u);
        }

-- no mutex changes hands
module _ (x : Targets) (code : Code) (s : Shape) (ls : Labels) (g : Global Machine) (world : World) (st : State x code s ls g world) (t : ℕ) (words : List ℕ) (m' : Machine) (held : m'.own.held ≡ (g.threads t).own.held)
    (w' : World) (obj : w'.obj ≡ world.obj) (mutex : w'.mutex ≡ world.mutex) where
  abbrev then : Global Machine
  then = made_turn g t words m'

  pub locks_same : Locks x s st.cells w' then
  locks_same =
      let held_now : (u : ℕ) → (then.threads u).own.held ≡ (g.threads u).own.held = put_all (λ u (y : Machine). y.own.held ≡ (g.threads u).own.held) g.threads t m' held (λ u _. refl) in
      let P : (ℕ → ObjectState) → (ℕ → ℕ → ℕ) → List HeldMutex → ℕ → ℕ → ℕ → Type 0 = λ f mu hd u o j. (f o).live ≡ true → j < st.cells o → is_mutex (field_in x (f o).ty j).holds ≡ true → (mu o j ≡ suc u) ↔ (is_some (object_of hd (cell_at s o j)) ≡ true) in
      let Q : (ℕ → ObjectState) → List HeldMutex → Type 0 = λ f hd. (h : HeldMutex) → Contains hd h
      → (j : ℕ) × ((h.word ≡ cell_at s h.object j) × ((f h.object).live ≡ true) × (j < st.cells h.object) × (is_mutex (field_in x (f h.object).ty j).holds ≡ true)) in
      record {
        held = λ u o j lt.
            let a : P w'.obj w'.mutex (g.threads u).own.held u o j = subst (λ f. P f w'.mutex (g.threads u).own.held u o j) (sym obj) (subst (λ mu. P world.obj mu (g.threads u).own.held u o j) (sym mutex) (st.locks.held u o j lt)) in
            subst (λ hd. P w'.obj w'.mutex hd u o j) (sym (held_now u)) a;
        logged = λ u. subst (Q w'.obj) (sym (held_now u)) (subst (λ f. Q f (g.threads u).own.held) (sym obj) (st.locks.logged u));
        few = λ o j u e. st.locks.few o j u (sym (ap (λ (f : ℕ → ℕ → ℕ). f o j) mutex) ∙ e);
        only = λ o j ne.
            let O : (ℕ → ObjectState) → Type 0 = λ f. ((f o).live ≡ true) × (j < st.cells o) × (is_mutex (field_in x (f o).ty j).holds ≡ true) in
            subst O (sym obj) (st.locks.only o j (λ e. ne (ap (λ (f : ℕ → ℕ → ℕ). f o j) mutex ∙ e)));
      }

pub locks_kept : (x : Targets) (code : Code) (s : Shape) (ls : Labels) (g : Global Machine) (world : World) (st : State x code s ls g world) (t : ℕ) (words : List ℕ) (m' : Machine) → m'.own.held ≡ (g.threads t).own.held
    → (w' : World) → KeepsWorld world w' → Locks x s st.cells w' (made_turn g t words m')
locks_kept x code s ls g world st t words m' held w' kd = locks_same x code s ls g world st t words m' held w' kd.obj kd.mutex

module _ (x : Targets) (code : Code) (s : Shape) (ls : Labels) (g : Global Machine) (world : World) (st : State x code s ls g world) (t : ℕ) (on : g.started t ≡ true) (words : List ℕ) (m' : Machine) (own : KeepsThread (g.threads t) m')
    (kw : KeepsMost s st.heap g t words) (w' : World) (obj : w'.obj ≡ world.obj) (mutex : w'.mutex ≡ world.mutex) (k : KeepsOthers s world w' st.heap (heap_now st.heap words) g.words words t) where
  abbrev present : Global Machine
  present = made_turn g t words m'

  pub most_state : IsWellTyped x code ls → WorldInvariant (size_of_run code s) (lang_of x) w' → Shows x s st.cells st.elements (conc_of code present) w' → Threads code ls w' present → Firsts x ls present → ((u : ℕ) → u ≢ t → (present.started u ≡ g.started u) ⊎ ThreadStands x code s ls st.elements w' (heap_now st.heap words) present u)
      → (may_go m'.at.state ≡ true → Runs x code s ls st.elements w' (heap_now st.heap words) present t m') → (may_go m'.at.state ≡ false → StopStands w' t m' (ls.at m'.at.pc).gate)
      → g.made t + counted m'.at.state ≤ 100000000 → State x code s ls present w'
  most_state wt inv sim begins firsts news runs over few =
      any_state x code s ls g world st t on words m' (lengths_kept (g.threads t) m' (st.threads t).has.log own) kw w' obj k wt inv sim
      (locks_same x code s ls g world st t words m' own.held w' obj mutex) begins firsts news runs over few

-- where the threads' words stay
module _ (x : Targets) (code : Code) (s : Shape) (ls : Labels) (g : Global Machine) (world : World) (st : State x code s ls g world) (t : ℕ) (on : g.started t ≡ true) (words : List ℕ) (m' : Machine) (own : KeepsThread (g.threads t) m')
    (kw : KeepsWords s st.heap g.words words) where
  abbrev next : Global Machine
  next = made_turn g t words m'

  pub started_same : (u : ℕ) → next.started u ≡ g.started u
  started_same = started_stay x code s ls g world st t words m' (λ j l a _. kw.low j l a)

  module _ (w' : World) (obj : w'.obj ≡ world.obj) (mutex : w'.mutex ≡ world.mutex) (k : KeepsOthers s world w' st.heap (heap_now st.heap words) g.words words t) where
    pub kept_state : IsWellTyped x code ls → WorldInvariant (size_of_run code s) (lang_of x) w' → Shows x s st.cells st.elements (conc_of code next) w' → Threads code ls w' next → Firsts x ls next
        → (may_go m'.at.state ≡ true → Runs x code s ls st.elements w' (heap_now st.heap words) next t m') → (may_go m'.at.state ≡ false → StopStands w' t m' (ls.at m'.at.pc).gate)
        → g.made t + counted m'.at.state ≤ 100000000 → State x code s ls next w'
    kept_state wt inv sim begins firsts runs over few =
        most_state x code s ls g world st t on words m' own (most_words s st.heap g t words st.begins.few kw) w' obj mutex k wt inv sim begins firsts (λ u _. inl (started_same u)) runs over few

-- what is known of the threads' beginnings stays where the thread of the turn has read its argument and their words stay
module _ (x : Targets) (ls : Labels) (g : Global Machine) (firsts : Firsts x ls g) (t : ℕ) (words : List ℕ) (m' : Machine) (low : (j : ℕ) → j < 97 → j ≢ 3 → j ≢ 1 → slice_index words j ≡ slice_index g.words j)
    (same : (u : ℕ) → (made_turn g t words m').started u ≡ g.started u) (begun : (m'.at.pc == 0) ≡ false) (spawns : (n : ℕ) → SpawnsNow m'.own.stage n → SpawnsNow (g.threads t).own.stage n) where
  abbrev ahead : Global Machine
  ahead = made_turn g t words m'

  pub firsts_stay : Firsts x ls ahead
  firsts_stay =
      let P : ℕ → ℕ → Type 0 = λ f a. NumberStands x (λ o. 0) (λ r. 0) (λ r. nothing) (λ n. pos 0) (int_of a) ((ls.signature f).takes_ints 0) in
      let state : (u : ℕ) → u < THREADS → slice_index words (state_word u) ≡ slice_index g.words (state_word u) = λ u lt. low (state_word u) (omega arith) (λ e. absurd (omega arith)) (λ e. absurd (omega arith)) in
      let function : (u : ℕ) → u < THREADS → slice_index words (function_word u) ≡ slice_index g.words (function_word u) = λ u lt. low (function_word u) (omega arith) (λ e. absurd (omega arith)) (λ e. absurd (omega arith)) in
      let argument : (u : ℕ) → u < THREADS → slice_index words (argument_word u) ≡ slice_index g.words (argument_word u) = λ u lt. low (argument_word u) (omega arith) (λ e. absurd (omega arith)) (λ e. absurd (omega arith)) in
      record {
        unread = λ u lt on' first. ⊎_elim
            (λ (e : u ≡ t).
            let a : is_unread (ahead.threads u) ≡ false = ap (λ u. is_unread (ahead.threads u)) e ∙ ap is_unread (put_same g.threads t m') ∙ ap (λ b. b && is_first m'.own.stage) begun in
            absurd (cc))
            (λ (ne : u ≡ t → ⊥). state u lt ∙ firsts.unread u lt (sym (same u) ∙ on') (sym (ap is_unread (put_other g.threads t u m' ne)) ∙ first))
            (cases_eq u t);
        alone = λ u lt e al. firsts.alone u lt (sym (state u lt) ∙ e) (ap (λ f. (ls.signature f).alone) (sym (function u lt)) ∙ al);
        spawns = λ u n h.
            let f : (u : ℕ) → SpawnsNow (ahead.threads u).own.stage n → SpawnsNow (g.threads u).own.stage n =
            put_all (λ u (y : Machine). SpawnsNow y.own.stage n → SpawnsNow (g.threads u).own.stage n) g.threads t m' (spawns n) (λ u _ h. h) in
            let nx = low next_thread_word (omega arith) (λ e. absurd (omega arith)) (λ e. absurd (omega arith)) in
            let z = firsts.spawns u n (f u h) in omega arith;
        few = (let nx = low next_thread_word (omega arith) (λ e. absurd (omega arith)) (λ e. absurd (omega arith)) in let a = firsts.few in let c = sum_up THREADS g.made t (counted m'.at.state) in omega arith);
        number = λ u lt e. subst (λ f. P f (slice_index words (argument_word u))) (sym (function u lt)) (subst (P (slice_index g.words (function_word u))) (sym (argument u lt)) (firsts.number u lt (sym (state u lt) ∙ e)));
      }

-- and where it is not at its beginning; a mutex may change hands
module _ (x : Targets) (code : Code) (s : Shape) (ls : Labels) (g : Global Machine) (world : World) (st : State x code s ls g world) (t : ℕ) (on : g.started t ≡ true) (words : List ℕ) (m' : Machine) (own : KeepsSelf (g.threads t) m')
    (kw : KeepsWords s st.heap g.words words) where
  abbrev later : Global Machine
  later = made_turn g t words m'

  own' : KeepsLengths (g.threads t) m'
  own' = record { sizes = own.sizes; log = own.log; heads = own.heads; making = own.making }

  started_now : (u : ℕ) → later.started u ≡ g.started u
  started_now = started_stay x code s ls g world st t words m' (λ j l a _. kw.low j l a)

  pub conc_same : conc_of code later ≡ record (made_conc code (conc_of code g) t words m') { logs = put (λ u. logged (g.threads u)) t (logged m') }
  conc_same =
      let rs : (λ u. register_of code (later.threads u)) ≡ put (λ u. register_of code (g.threads u)) t (register_of code m') = part_put (register_of code) g.threads t m' in
      let ar : argument_of code later ≡ argument_of code g = fun_ext (args_stay x code s ls g world st t words m' (λ j l a _. kw.low j l a) own.begun_before own.begun) in
      let lo : (λ u. logged (later.threads u)) ≡ put (λ u. logged (g.threads u)) t (logged m') = part_put logged g.threads t m' in
      let sg : (λ u. staged_of (later.threads u).own.stage) ≡ (λ u. staged_of (g.threads u).own.stage) = fun_ext (part_same (λ m. staged_of m.own.stage) g.threads t m' own.staged) in
      let nt : (kind : Kind) → (λ u. noted_by (later.threads u) kind) ≡ put (λ u. noted_by (g.threads u) kind) t (noted_by m' kind) = λ kind. part_put (λ m. noted_by m kind) g.threads t m' in
      let rn = nt Read in
      let wn = nt Write in
      λ i. record { words = λ j. slice_index words j; regs = rs i; args = ar i; logs = lo i; staged = sg i; read_notes = rn i; write_notes = wn i }

  module _ (w' : World) (kd : KeepsObjects world w') (k : KeepsOthers s world w' st.heap (heap_now st.heap words) g.words words t) where
    pub loud_state : IsWellTyped x code ls → WorldInvariant (size_of_run code s) (lang_of x) w' → Shows x s st.cells st.elements (record (made_conc code (conc_of code g) t words m') { logs = put (λ u. logged (g.threads u)) t (logged m') }) w' → Locks x s st.cells w' later
        → (may_go m'.at.state ≡ true → Runs x code s ls st.elements w' (heap_now st.heap words) later t m') → (may_go m'.at.state ≡ false → StopStands w' t m' (ls.at m'.at.pc).gate)
        → g.made t + counted m'.at.state ≤ 100000000 → State x code s ls later w'
    loud_state wt inv sim locks runs over few =
        any_state x code s ls g world st t on words m' own' (most_words s st.heap g t words st.begins.few kw) w' kd.obj k wt inv (subst (λ c. Shows x s st.cells st.elements c w') (sym conc_same) sim) locks
        (begins_stay x code s ls g world st t words m' (λ j l a _. kw.low j l a) w' kd.args own.spawns)
        (firsts_stay x ls g st.firsts t words m' (λ j l a _. kw.low j l a) started_now own.begun own.spawns) (λ u _. inl (started_now u)) runs over few

-- and it is not in the middle of an instruction
module _ (x : Targets) (code : Code) (s : Shape) (ls : Labels) (g : Global Machine) (world : World) (st : State x code s ls g world) (t : ℕ) (on : g.started t ≡ true) (words : List ℕ) (m' : Machine) (own : KeepsOwn (g.threads t) m')
    (kw : KeepsWords s st.heap g.words words) (w' : World) (kd : KeepsWorld world w') (k : KeepsOthers s world w' st.heap (heap_now st.heap words) g.words words t) where
  abbrev mine : Machine
  mine = g.threads t

  abbrev calm : Global Machine
  calm = made_turn g t words m'

  pub quiet_state : IsWellTyped x code ls → WorldInvariant (size_of_run code s) (lang_of x) w' → Shows x s st.cells st.elements (made_conc code (conc_of code g) t words m') w'
      → (may_go m'.at.state ≡ true → Runs x code s ls st.elements w' (heap_now st.heap words) calm t m') → (may_go m'.at.state ≡ false → StopStands w' t m' (ls.at m'.at.pc).gate)
      → g.made t + counted m'.at.state ≤ 100000000 → State x code s ls calm w'
  quiet_state wt inv sim runs over few =
      let logs : (λ u. logged (g.threads u)) ≡ put (λ u. logged (g.threads u)) t (logged m') =
      sym (fun_ext (put_self (λ u. logged (g.threads u)) t (logged m') (fun_ext (λ w. ap (λ (h : List HeldMutex). reference_of (object_of h w)) own.held)))) in
      loud_state x code s ls g world st t on words m' (keeps_self mine m' (st.threads t).has.log own) kw w' (record { obj = kd.obj; args = kd.args }) k wt inv
      (subst (λ l. Shows x s st.cells st.elements (record (made_conc code (conc_of code g) t words m') { logs = l }) w') logs sim) (locks_kept x code s ls g world st t words m' own.held w' kd) runs over few
