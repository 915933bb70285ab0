-- The first event of a thread is the Started of the function and the argument with which an earlier Spawn started it, or of main.
use Rattle.sharc_history_laws.proofs.{Imports.{◌≡◌, ℕ, ℤ, pos, suc, ◌<◌, ◌≢◌, ◌⊎◌, inl, inr, Bool, true, false, ◌&&◌, length, List, [], ◌∷◌, ◌++◌, reverse, Option, Some, None, if◌then◌else◌, refl, sym, ap, ◌∙◌, subst, ⊎_elim, arith, eqb-true, cases_eq, nat_tests, get_or_append_left, get_or_push, length_push, get_or-map-range_with_len, slice_index, nat_lt, nat_eq, nat_le, ◌==◌, Any, THREADS, WordOp, Act, SourceEvent, Code, Parameter, Instr, Register, Shape, Stage, Rests, Begins, Enters, word_of, RunLaws, Fits, words_of, state_word, function_word, argument_word, Machine, instr_at, act, start, spawn, int, ref, argument, function_of, opening_words, opens_with, opening_cell, first_global, turn, after, asked_by, Turn, Global, IsRun, MayTurn, put, state_now, result_of, is_started, opening_of, said, speaks_of, reference, started_with, in_start, of_argument, SpawnsStart, begins_of, one_thread, bounds, place_after, Elements, said_now, table_of, is_of, events_of, History, Targets, Labels, IsWellTyped, Fine, ArgumentOf, In, in_ref, is_unread, if_reference, IsSmall, StageStands, OnSpawn, OnHold, view_of, refs_at, types_at, Keeps, CodeBegins, CellsAreThere, PointersAreThere, AccessesAreAllowed, history_of, IsSpawnedByCode, IsStartedBy, yes, and_right as second, put_same, put_other, back_again}, TurnAt.{turn_at, told_at, turn_stands}, Consists.{Consists, found_is, same_table}, Contents.fits_in, Given.{spares_given, given_stays}, Holding.own_push, Lists.{Newest, Each, no_event, reverse_push}, Locking.is_own, Rules.{over_runs, each_pushed, pushed, newest}, Stands.{live_slot, top, rn}, Tables.header_of, Valued.{same_elements, reference_as}, Standing.is_one as started_word, Threaded.and_parts as parts}
use Rattle.sharc_code.specs.Says.{argument_of}
use Rattle.sharc_invariant.specs.Words as Words

pub chosen : (a b c : Bool) (v : ℕ) → a ≡ true → b ≡ true → c ≡ true → (if (a && b) && c then v else 0) ≡ v
chosen true true true v e f q = refl
chosen true true false v e f q = absurd (yes (sym q))
chosen true false c v e f q = absurd (yes (sym f))
chosen false b c v e f q = absurd (yes (sym e))

-- ---- what a thread was given, by the events
abbrev pub IsStart : ℕ → ℕ → ℤ → SourceEvent → Type 0
IsStart t f v e = (e.act ≡ Act.Spawn f v) × (e.answer ≡ pos t)

-- a Spawn answered the number of this thread
abbrev pub SpawnedIn : Newest → (t f : ℕ) → ℤ → Type 0
SpawnedIn [] t f v = ⊥
SpawnedIn (e ∷ L) t f v = IsStart t f v e ⊎ SpawnedIn L t f v

-- no event is of this thread
abbrev pub Unheard : Newest → ℕ → Type 0
Unheard [] t = Unit {0}
Unheard (e ∷ L) t = (is_of t e ≡ false) × Unheard L t

pub unheard : (L : Newest) (t : ℕ) → events_of t (reverse L) ≡ [] → Unheard L t
unheard [] t e = tt
unheard (d ∷ L) t e = by (is_of t d) refl (sym (own_push d L t) ∙ e) (unheard L t)
  where
    some : (xs : History) → xs ++ d ∷ [] ≡ [] → ⊥
    some [] q = cc
    some (y ∷ ys) q = cc

    by : (b : Bool) → is_of t d ≡ b → (if is_of t d then events_of t (reverse L) ++ d ∷ [] else events_of t (reverse L)) ≡ [] → (events_of t (reverse L) ≡ [] → Unheard L t) → Unheard (d ∷ L) t
    by true is q rest = absurd (some (events_of t (reverse L)) (sym (ap (λ b. if b then events_of t (reverse L) ++ d ∷ [] else events_of t (reverse L)) is) ∙ q))
    by false is q rest = (is, rest (sym (ap (λ b. if b then events_of t (reverse L) ++ d ∷ [] else events_of t (reverse L)) is) ∙ q))

any_left : (P : SourceEvent → Type 0) (xs : History) (e : SourceEvent) → Any P xs → Any P (xs ++ e ∷ [])
any_left P xs e h = let long = length_push xs e in let lt = h.2 in (h.0, h.1, omega arith, get_or_append_left xs (e ∷ []) h.1 h.0 lt ∙ h.3, h.4)

any_last : (P : SourceEvent → Type 0) (xs : History) (e : SourceEvent) → P e → Any P (xs ++ e ∷ [])
any_last P xs e h = let long = length_push xs e in (length xs, e, omega arith, get_or_push xs e e (length xs) refl, h)

pub spawned_any : (L : Newest) (t f : ℕ) (v : ℤ) → SpawnedIn L t f v → Any (IsStart t f v) (reverse L)
spawned_any [] t f v h = absurd h
spawned_any (e ∷ L) t f v h = subst (Any (IsStart t f v)) (sym (reverse_push e L)) (⊎_elim (λ (now : IsStart t f v e). any_last (IsStart t f v) (reverse L) e now) (λ rest. any_left (IsStart t f v) (reverse L) e (spawned_any L t f v rest)) h)

-- ---- what is known of threads that have told nothing
abbrev pub function_given : Global Machine → ℕ → ℕ
function_given g t = slice_index g.words (function_word t)

abbrev pub argument_given : Global Machine → ℕ → ℕ
argument_given g t = slice_index g.words (argument_word t)

-- it is to begin with main, or with what a Spawn gave it
abbrev pub WasGiven : Code → Newest → Elements → Global Machine → ℕ → Type 0
WasGiven code L T g t = ((t ≡ 0) × (function_given g t ≡ code.main) × (argument_given g t ≡ 0))
    ⊎ ((t ≢ 0) × IsSpawnedByCode code (function_given g t) × SpawnedIn L t (function_given g t) (started_with (function_of code (function_given g t)).parameter (argument_given g t) (T (argument_given g t))))

pub record StartsTold (code : Code) (L : Newest) (T : Elements) (g : Global Machine) : Type 0 where
  pub unread : (t : ℕ) → Unheard L t → is_unread (g.threads t) ≡ true
  pub given : (t : ℕ) → t < THREADS → Unheard L t → slice_index g.words (state_word t) ≡ 1 → WasGiven code L T g t

on_spawn : (P : ℕ → Register → Type 0) (j : Instr) → OnSpawn P j → (r : ℕ) × (f : ℕ) × (from : Register) × (site : ℕ) × (j ≡ Instr.Spawn r f from site)
on_spawn P (Instr.Spawn r f from site) h = (r, f, from, site, refl)
on_spawn P _ h = absurd h

-- ---- one turn
module _ (cell_laws : CellsAreThere) (pointers : PointersAreThere) (rights : AccessesAreAllowed) (laws : RunLaws) (starts : SpawnsStart) (keeps : Keeps) (x : Targets) (code : Code) (s : Shape) (ls : Labels) (wt : IsWellTyped x code ls) (fits : Fits code s) (few : IsSmall code s)
    (one : Turn) (earlier : List Turn) (h : Consists x code s ls earlier) (may : MayTurn bounds (one_thread code s) (place_after code s earlier) one) where
  open turn_at code s (place_after code s earlier) one use {g, t as u, m, i, found}
  open told_at code s earlier one use {T, T', elements, event}

  abbrev g' : Global Machine
  g' = place_after code s (one ∷ earlier)

  open turn_stands wt h.state one may use {on, stage_here, fine, number}

  -- ---- who has told nothing
  unheard_before : (L : Newest) (ev : Option SourceEvent) (t : ℕ) → Unheard (pushed ev L) t → Unheard L t
  unheard_before L None t k = k
  unheard_before L (Some d) t k = k.1

  spawned_still : (L : Newest) (ev : Option SourceEvent) (t f : ℕ) (v : ℤ) → SpawnedIn L t f v → SpawnedIn (pushed ev L) t f v
  spawned_still L None t f v k = k
  spawned_still L (Some d) t f v k = inr k

  -- the thread that makes the turn, where it has read nothing
  module _ (unread : is_unread ((place_after code s earlier).threads one.thread) ≡ true) where
    at_start : i ≡ Instr.Start wt.begin.0
    at_start = let z = eqb-true m.at.pc 0 (parts (m.at.pc == 0) (Words.is_first m.own.stage) unread).0 in ap (instr_at code) z ∙ wt.begin.1

    first_stage : Words.is_first ((place_after code s earlier).threads one.thread).own.stage ≡ true
    first_stage = (parts (m.at.pc == 0) (Words.is_first m.own.stage) unread).1

    pc_zero : (((place_after code s earlier).threads one.thread).at.pc == 0) ≡ true
    pc_zero = (parts (m.at.pc == 0) (Words.is_first m.own.stage) unread).0

    -- it has read nothing still, or it has told its Started
    reads : (L : Newest) → Unheard (pushed event L) one.thread → is_unread (after (turn code s ((place_after code s earlier).threads one.thread)) found) ≡ true
    reads L k = by m.own.stage refl first_stage
      where
        told : (f : ℕ) → ((place_after code s earlier).threads one.thread).own.stage ≡ Enters f → (e : SourceEvent) × (event ≡ Some e)
        told f at = (
          record { thread = m.own.number; site = (function_of code f).site; answer = pos 0; act = Act.Started (started_with (function_of code f).parameter found elements) },
          ap (λ j. said code j m found elements) at_start ∙ ap (in_start code m found elements) at,
        )

        heard : (e : SourceEvent) → event ≡ Some e → ⊥
        heard e is =
            let d : Unheard (e ∷ L) u = subst (λ ev. Unheard (pushed ev L) u) is k in
            yes (sym (is_own cell_laws pointers rights laws keeps x code s ls wt fits few one earlier h may e is) ∙ d.0)

        waits : (stage : Stage) → ((place_after code s earlier).threads one.thread).own.stage ≡ stage → (f : ℕ → ℕ) → after (start code ((place_after code s earlier).threads one.thread) wt.begin.0 stage) found ≡ Rattle.sharc_code.specs.Machine.at_stage ((place_after code s earlier).threads one.thread) (Enters (f found))
            → is_unread (after (turn code s ((place_after code s earlier).threads one.thread)) found) ≡ true
        waits stage at f q =
            ap (λ j. is_unread (after (act code s j m) found)) at_start ∙ ap (λ y. is_unread (after (start code m wt.begin.0 y) found)) at ∙ ap is_unread q ∙ ap (λ b. b && true) pc_zero

        by : (stage : Stage) → ((place_after code s earlier).threads one.thread).own.stage ≡ stage → Words.is_first stage ≡ true → is_unread (after (turn code s ((place_after code s earlier).threads one.thread)) found) ≡ true
        by Rests at e = waits Rests at (Rattle.sharc_code.specs.Layout.function_at code) refl
        by (Enters f) at e = let k = told f at in absurd (heard k.0 k.1)
        by _ at e = absurd (cc)

  module _ (L : Newest) (old : StartsTold code L (table_of code s earlier) (place_after code s earlier)) where
    unread_then : (t : ℕ) → Unheard (pushed event L) t → is_unread (g'.threads t) ≡ true
    unread_then t k =
        let now = state_now (one_thread code s) g one in
        ⊎_elim
        (λ (same : t ≡ u).
        let mine : Unheard (pushed event L) u = subst (Unheard (pushed event L)) same k in
        subst (λ t. is_unread (put g.threads u now t) ≡ true) (sym same) (subst (λ (y : Machine). is_unread y ≡ true) (sym (put_same g.threads u now)) (reads (old.unread u (unheard_before L event u mine)) L mine)))
        (λ (ne : t ≡ u → ⊥). subst (λ (y : Machine). is_unread y ≡ true) (sym (put_other g.threads u t now ne)) (old.unread t (unheard_before L event t k)))
        (cases_eq t u)

    -- ---- one that was started before
    module _ (t : ℕ) (lt : t < THREADS) (k : Unheard L t) (was : slice_index (place_after code s earlier).words (state_word t) ≡ 1) where
      stays : (slice_index g'.words (function_word t) ≡ slice_index (place_after code s earlier).words (function_word t)) × (slice_index g'.words (argument_word t) ≡ slice_index (place_after code s earlier).words (argument_word t))
      stays = given_stays t g.words one.event (turn code s m) may.next.asks
          (spares_given laws.turns.aims s t lt code h.state.elements h.world h.state.heap g.words u m (λ z. let e : 1 ≡ 0 = sym was ∙ z in omega arith) ((h.state.threads u).runs on.0 on.1).stage)

      -- its argument, if it is a reference, has the elements that it had
      same_argument : (p : Parameter) → (function_of code (function_given (place_after code s earlier) t)).parameter ≡ p
          → started_with p (argument_given (place_after code s earlier) t) (T (argument_given (place_after code s earlier) t)) ≡ started_with p (argument_given (place_after code s earlier) t) (T' (argument_given (place_after code s earlier) t))
      same_argument Parameter.None e = refl
      same_argument Parameter.Int e = refl
      same_argument Parameter.Reference e = reference_as (argument_given g t) T T' (λ nz.
          let lt' : nat_lt t THREADS ≡ true = below t lt in
          let state : (slice_index g.words (state_word t) == 1) ≡ true = ap (λ n. n == 1) was in
          let slot : in_ref h.world (ArgumentOf t) ≡ argument_given g t = h.state.sim.args t
          ∙ chosen (nat_lt t THREADS) (slice_index g.words (state_word t) == 1) (is_unread (g.threads t)) (if_reference (function_of code (function_given g t)).parameter (argument_given g t)) lt' state (old.unread t k)
          ∙ ap (λ p. if_reference p (argument_given g t)) e in
          same_elements cell_laws pointers rights laws keeps x code s ls wt fits few one earlier h may (argument_given g t) nz
          (subst (λ n. (h.world.obj n).live ≡ true) slot (live_slot x code s ls wt fits g h.world h.state (In (ArgumentOf t)) (λ z. nz (sym slot ∙ z)))))
        where
          below : (a : ℕ) → a < THREADS → nat_lt a THREADS ≡ true
          below a lt = grind (arith, nat_tests)

      given_still : WasGiven code (pushed event L) T' g' t
      given_still = ⊎_elim
          (λ (z : (t ≡ 0) × (function_given g t ≡ code.main) × (argument_given g t ≡ 0)). inl (z.0, stays.0 ∙ z.1, stays.1 ∙ z.2))
          (λ (z : (t ≢ 0) × IsSpawnedByCode code (function_given g t) × SpawnedIn L t (function_given g t) (started_with (function_of code (function_given g t)).parameter (argument_given g t) (T (argument_given g t)))).
          let f = function_given g t in
          let a = argument_given g t in
          let moved : SpawnedIn (pushed event L) t f (started_with (function_of code f).parameter a (T' a)) =
          subst (SpawnedIn (pushed event L) t f) (same_argument (function_of code f).parameter refl) (spawned_still L event t f _ z.2) in
          inr (
            z.0,
            subst (IsSpawnedByCode code) (sym stays.0) z.1,
            subst (λ n. SpawnedIn (pushed event L) t n (started_with (function_of code n).parameter (argument_given g' t) (T' (argument_given g' t)))) (sym stays.0)
                (subst (λ n. SpawnedIn (pushed event L) t f (started_with (function_of code f).parameter n (T' n))) (sym stays.1) moved),
          ))
          (old.given t lt k was)

    -- ---- one that the turn starts
    module _ (t : ℕ) (lt : t < THREADS) (r f site : ℕ) (from : Register) (is : i ≡ Instr.Spawn r f from site) (at : ((place_after code s earlier).threads one.thread).own.stage ≡ Begins t) where
      stands : StageStands code s h.state.elements h.world h.state.heap (place_after code s earlier).words one.thread ((place_after code s earlier).threads one.thread) (Instr.Spawn r f from site) (Begins t)
      stands = subst (StageStands code s h.state.elements h.world h.state.heap g.words u m (Instr.Spawn r f from site)) at (stage_here (Instr.Spawn r f from site) is)

      step_is : asked_by (turn code s ((place_after code s earlier).threads one.thread)) ≡ Some (Rattle.sharc_code.specs.Machine.step_of (state_word t) (WordOp.Swap 1))
      step_is = ap (λ j. asked_by (act code s j m)) is ∙ ap (λ y. asked_by (spawn m r f from site y)) at

      other : (w : ℕ) → (w ≡ state_word t → ⊥) → slice_index g'.words w ≡ slice_index (place_after code s earlier).words w
      other w ne = Rattle.sharc_history_laws.proofs.Born.word_other g.words one.event (Rattle.sharc_code.specs.Machine.step_of (state_word t) (WordOp.Swap 1)) w (may.next.asks ∙ step_is) ne

      function_is : function_given g' t ≡ f
      function_is = other (function_word t) (λ e. omega arith) ∙ stands.1

      argument_is : argument_given g' t ≡ argument ((place_after code s earlier).threads one.thread) from
      argument_is = other (argument_word t) (λ e. omega arith) ∙ stands.2

      abbrev spawn_event : SourceEvent
      spawn_event = record { thread = m.own.number; site = (Rattle.sharc_code.specs.Says.place_at code site).site; answer = pos t; act = Act.Spawn f (argument_of m from elements) }

      said_is : event ≡ Some spawn_event
      said_is = ap (λ j. said code j m found elements) is ∙ ap (Rattle.sharc_code.specs.Says.in_spawn code m f from site elements) at

      value_is : (q : Register) → from ≡ q → argument_of ((place_after code s earlier).threads one.thread) q elements ≡ started_with (function_of code f).parameter (argument ((place_after code s earlier).threads one.thread) q) (T' (argument ((place_after code s earlier).threads one.thread) q))
      value_is (Register.Int n) e =
          let hands = subst (λ from. Fine x code ls m.at.pc (ls.at m.at.pc) (Instr.Spawn r f from site)) e (fine (Instr.Spawn r f from site) is) in
          let hold : OnHold m.own.stage = subst OnHold (sym at) tt in
          let number = (top x code s ls wt fits g h.world h.state u on hold 0 (suc n)).numbers n (omega arith) in
          let view = view_of h.state.elements h.world u m in
          let fit = fits_in x h.state.elements (refs_at view m.at.refs) (types_at view m.at.refs) (rn x code s ls wt fits g h.world h.state u on hold).names (int m n) ((ls.at m.at.pc).ints n) hands.5.2.0 hands.5.2.1 number in
          sym ((back_again hands.5.2.0 (int m n) fit).0) ∙ sym (ap (λ p. started_with p (word_of (int m n)) (T' (word_of (int m n)))) hands.5.0)
      value_is (Register.Reference n) e =
          let hands = subst (λ from. Fine x code ls m.at.pc (ls.at m.at.pc) (Instr.Spawn r f from site)) e (fine (Instr.Spawn r f from site) is) in
          let speaks : elements ≡ T (ref m n) = ap (λ j. T (speaks_of j m found)) is ∙ ap (λ q. T (of_argument m q)) e in
          let stays : ref m n ≢ 0 → T' (ref m n) ≡ T (ref m n) = λ nz. same_table laws keeps cell_laws pointers x code s ls wt fits few one earlier h may (ref m n) nz
          (λ made. let z : None ≡ Some (ref m n) = sym (ap (λ j. header_of j m.own.stage) is) ∙ made in cc) in
          ap (reference (ref m n)) speaks ∙ reference_as (ref m n) T T' stays ∙ sym (ap (λ p. started_with p (ref m n) (T' (ref m n))) hands.5.0)

      given_now : WasGiven code (pushed event L) T' g' t
      given_now =
          let some = stands.0.first in
          let v = started_with (function_of code f).parameter (argument m from) (T' (argument m from)) in
          let here : SpawnedIn (pushed event L) t f v = subst (λ ev. SpawnedIn (pushed ev L) t f v) (sym said_is) (inl (ap (Act.Spawn f) (value_is from refl), refl)) in
          inr (
            λ z. omega arith,
            subst (IsSpawnedByCode code) (sym function_is) (m.at.pc, r, from, site, is),
            subst (λ n. SpawnedIn (pushed event L) t n (started_with (function_of code n).parameter (argument_given g' t) (T' (argument_given g' t)))) (sym function_is)
                (subst (λ n. SpawnedIn (pushed event L) t f (started_with (function_of code f).parameter n (T' n))) (sym argument_is) here),
          )

    -- ---- both
    word_started : (ws : List ℕ) (t : ℕ) → is_started bounds ws t ≡ true → slice_index ws (state_word t) ≡ 1
    word_started ws t e = eqb-true (slice_index ws (state_word t)) 1 (second (nat_lt t THREADS) (nat_eq (slice_index ws (state_word t)) 1) e)

    given_then : (t : ℕ) → t < THREADS → Unheard (pushed event L) t → slice_index g'.words (state_word t) ≡ 1 → WasGiven code (pushed event L) T' g' t
    given_then t lt k now = ⊎_elim
        (λ (was : slice_index g.words (state_word t) ≡ 1). given_still t lt (unheard_before L event t k) was)
        (λ (not : slice_index g.words (state_word t) ≡ 1 → ⊥). by m.own.stage refl (begins_here (begins_of m.own.stage) refl not))
        (cases_eq (slice_index g.words (state_word t)) 1)
      where
        begins_here : (o : Option ℕ) → begins_of ((place_after code s earlier).threads one.thread).own.stage ≡ o → (slice_index (place_after code s earlier).words (state_word t) ≡ 1 → ⊥) → begins_of ((place_after code s earlier).threads one.thread).own.stage ≡ Some t
        begins_here None e not = absurd (not (word_started g.words t (starts code s earlier one t may (λ q. let z : None ≡ Some t = sym e ∙ q in cc) (started_word g'.words t lt now))))
        begins_here (Some n) e not = ⊎_elim
            (λ (same : n ≡ t). e ∙ ap (λ n. Some n) same)
            (λ (ne : n ≡ t → ⊥). absurd (not (word_started g.words t (starts code s earlier one t may (λ q. ne (let z : Some n ≡ Some t = sym e ∙ q in let y : n ≡ t = cc in y)) (started_word g'.words t lt now)))))
            (cases_eq n t)

        spawning : (n : ℕ) → ((place_after code s earlier).threads one.thread).own.stage ≡ Begins n → n ≡ t → WasGiven code (pushed event L) T' g' t
        spawning n at same =
            let k = on_spawn _ i (subst (StageStands code s h.state.elements h.world h.state.heap g.words u m i) at (stage_here i refl)) in
            given_now t lt k.0 k.1 k.3 k.2 k.4 (at ∙ ap Begins same)

        by : (stage : Stage) → ((place_after code s earlier).threads one.thread).own.stage ≡ stage → begins_of ((place_after code s earlier).threads one.thread).own.stage ≡ Some t → WasGiven code (pushed event L) T' g' t
        by (Begins n) at e = spawning n at (let z : Some n ≡ Some t = sym (ap begins_of at) ∙ e in let y : n ≡ t = cc in y)
        by _ at e = absurd (let z : None ≡ Some t = sym (ap begins_of at) ∙ e in cc)

    pub starts_then : StartsTold code (pushed event L) (table_of code s (one ∷ earlier)) (place_after code s (one ∷ earlier))
    starts_then = record { unread = unread_then; given = given_then }

    -- ---- the Started of the turn
    module _ (e : SourceEvent) (said_is : event ≡ Some e) (v : ℤ) (is : e.act ≡ Act.Started v) (quiet : Unheard L one.thread) where
      thread_now : e.thread ≡ one.thread
      thread_now = eqb-true e.thread u (is_own cell_laws pointers rights laws keeps x code s ls wt fits few one earlier h may e said_is)

      unread : is_unread ((place_after code s earlier).threads one.thread) ≡ true
      unread = old.unread u quiet

      at_enter : (f : ℕ) → ((place_after code s earlier).threads one.thread).own.stage ≡ Enters f → IsStartedBy code (reverse L) e v
      at_enter f at =
          let begun = at_start unread in
          let lt : u < THREADS = h.state.begins.few u on.0 in
          let state : slice_index g.words (state_word u) ≡ 1 = h.state.firsts.unread u lt on.0 unread in
          let f_is : function_given g u ≡ f = subst (StageStands code s h.state.elements h.world h.state.heap g.words u m (Instr.Start wt.begin.0)) at (stage_here (Instr.Start wt.begin.0) begun) in
          let asked : asked_by (turn code s m) ≡ Some (Rattle.sharc_code.specs.Machine.step_of (argument_word m.own.number) WordOp.Load) = ap (λ j. asked_by (act code s j m)) begun ∙ ap (λ y. asked_by (start code m wt.begin.0 y)) at in
          let found_here : found ≡ argument_given g u = found_is g.words one.event (Rattle.sharc_code.specs.Machine.step_of (argument_word m.own.number) WordOp.Load) (may.next.asks ∙ asked) may.answered ∙ ap (λ n. slice_index g.words (argument_word n)) number in
          let own : SourceEvent = record { thread = m.own.number; site = (function_of code f).site; answer = pos 0; act = Act.Started (started_with (function_of code f).parameter found elements) } in
          let said_own : event ≡ Some own = ap (λ j. said code j m found elements) begun ∙ ap (in_start code m found elements) at in
          let same : own ≡ e = let z : Some own ≡ Some e = sym said_own ∙ said_is in cc in
          let speaks : elements ≡ T found = ap (λ j. T (speaks_of j m found)) begun in
          let answer : v ≡ started_with (function_of code f).parameter found elements = let z : Act.Started v ≡ own.act = sym is ∙ ap (λ (d : SourceEvent). d.act) (sym same) in cc in
          let value : v ≡ started_with (function_of code f).parameter (argument_given g u) (T (argument_given g u)) =
          answer ∙ ap (started_with (function_of code f).parameter found) speaks ∙ ap (λ n. started_with (function_of code f).parameter n (T n)) found_here in
          record {
            function = f;
            known = (wt.starts f (subst (λ f. ls.starts f ≡ true) f_is (h.state.begins.function u lt state))).is;
            site = ap (λ (d : SourceEvent). d.site) (sym same);
            begins = ⊎_elim
                (λ (z : (u ≡ 0) × (function_given g u ≡ code.main) × (argument_given g u ≡ 0)). inl (sym f_is ∙ z.1))
                (λ (z : (u ≢ 0) × IsSpawnedByCode code (function_given g u) × SpawnedIn L u (function_given g u) (started_with (function_of code (function_given g u)).parameter (argument_given g u) (T (argument_given g u)))).
                inr (subst (IsSpawnedByCode code) f_is z.1))
                (old.given u lt quiet state);
            right = ⊎_elim
                (λ (z : (u ≡ 0) × (function_given g u ≡ code.main) × (argument_given g u ≡ 0)).
                inl (record { first = thread_now ∙ z.0; main = sym f_is ∙ z.1; nothing = value ∙ ap (λ n. started_with (function_of code f).parameter n (T n)) z.2 ∙ nothing (function_of code f).parameter (T 0) }))
                (λ (z : (u ≢ 0) × IsSpawnedByCode code (function_given g u) × SpawnedIn L u (function_given g u) (started_with (function_of code (function_given g u)).parameter (argument_given g u) (T (argument_given g u)))).
                inr (record {
                  other = λ q. z.0 (sym thread_now ∙ q);
                  spawned = subst (λ n. Any (IsStart n f v) (reverse L)) (sym thread_now)
                      (subst (λ v. Any (IsStart u f v) (reverse L)) (sym value) (subst (λ n. Any (IsStart u n (started_with (function_of code n).parameter (argument_given g u) (T (argument_given g u)))) (reverse L)) f_is (spawned_any L u _ _ z.2)));
                }))
                (old.given u lt quiet state);
          }
        where
          nothing : (p : Parameter) (n : ℕ) → started_with p 0 n ≡ pos 0
          nothing Parameter.None n = refl
          nothing _ n = refl

      silent : (y : Stage) → ((place_after code s earlier).threads one.thread).own.stage ≡ y → in_start code ((place_after code s earlier).threads one.thread) found elements y ≡ None → ⊥
      silent y at q = let z : None ≡ Some e = sym q ∙ sym (ap (in_start code m found elements) at) ∙ sym (ap (λ j. said code j m found elements) (at_start unread)) ∙ said_is in cc

      first_event : (stage : Stage) → ((place_after code s earlier).threads one.thread).own.stage ≡ stage → IsStartedBy code (reverse L) e v
      first_event (Enters f) at = at_enter f at
      first_event Rests at = absurd (silent Rests at refl)
      first_event _ at = absurd (let z : false ≡ true = sym (ap Words.is_first at) ∙ first_stage unread in cc)

    pub started_now : (e : SourceEvent) → event ≡ Some e → events_of e.thread (reverse L) ≡ [] → (v : ℤ) → e.act ≡ Act.Started v → IsStartedBy code (reverse L) e v
    started_now e said_is none v is =
        let thread : e.thread ≡ u = eqb-true e.thread u (is_own cell_laws pointers rights laws keeps x code s ls wt fits few one earlier h may e said_is) in
        let quiet : Unheard L u = unheard L u (ap (λ t. events_of t (reverse L)) (sym thread) ∙ none) in
        first_event e said_is v is quiet m.own.stage refl

-- ---- where no turn was made
module _ (code : Code) (s : Shape) where
  word_at : (w : ℕ) → w < words_of s → slice_index (opening_words code s) w ≡ opens_with code s w
  word_at w lt = get_or-map-range_with_len (opens_with code s) 0 (words_of s) w w 0 lt (omega arith)

  other_word : (a b : ℕ) → (a ≡ b → ⊥) → (a == b) ≡ false
  other_word a b ne = grind (arith, nat_tests)

  low_cell : (w : ℕ) → w < first_global s → opening_cell code s w ≡ 0
  low_cell w lt = let p : nat_le (first_global s) w ≡ false = grind (arith, nat_tests) in rw p refl

  -- no other thread is started
  not_started : (t : ℕ) → t ≢ 0 → t < THREADS → slice_index (opening_words code s) (state_word t) ≡ 1 → ⊥
  not_started t nz lt e =
      let a : (state_word t == 1) ≡ false = other_word (state_word t) 1 (λ e. omega arith) in
      let b : (state_word t == 2) ≡ false = other_word (state_word t) 2 (λ e. omega arith) in
      let c : (state_word t == 4) ≡ false = other_word (state_word t) 4 (λ e. omega arith) in
      let d : (state_word t == 5) ≡ false = other_word (state_word t) 5 (λ e. omega arith) in
      let q : opens_with code s (state_word t) ≡ opening_cell code s (state_word t) = rw (a, b, c, d) refl in
      one_zero (sym e ∙ word_at (state_word t) (omega arith) ∙ q ∙ low_cell (state_word t) (omega arith))
    where
      one_zero : ◌≡◌ {A = ℕ} 1 0 → ⊥
      one_zero z = omega arith

  pub nobody_started : StartsTold code [] (table_of code s []) (place_after code s [])
  nobody_started = record {
    unread = λ t k. refl;
    given = λ t lt k e. ⊎_elim
        (λ (z : t ≡ 0). inl (z, ap (λ t. slice_index (opening_words code s) (function_word t)) z ∙ word_at 5 (omega arith), ap (λ t. slice_index (opening_words code s) (argument_word t)) z ∙ word_at 6 (omega arith) ∙ low_cell 6 (omega arith)))
        (λ (nz : t ≡ 0 → ⊥). absurd (not_started t nz lt e))
        (cases_eq t 0);
  }

-- ---- runs
-- the first event of a thread is its Started
abbrev pub IsStarted : Code → History → SourceEvent → Type 0
IsStarted code before e = events_of e.thread before ≡ [] → (v : ℤ) → e.act ≡ Act.Started v → IsStartedBy code before e v

pub record Begun (x : Targets) (code : Code) (s : Shape) (ls : Labels) (run : List Turn) : Type 0 where
  pub consists : Consists x code s ls run
  pub told : StartsTold code (newest code s run) (table_of code s run) (place_after code s run)
  pub starts : Each (IsStarted code) (history_of code s run)

module _ (cell_laws : CellsAreThere) (pointers : PointersAreThere) (rights : AccessesAreAllowed) (laws : RunLaws) (starts : SpawnsStart) (begins_law : CodeBegins) (keeps : Keeps) (x : Targets) (code : Code) (s : Shape) (ls : Labels) (wt : IsWellTyped x code ls) (fits : Fits code s) (few : IsSmall code s) where
  pub begun_runs : (run : List Turn) → IsRun bounds (one_thread code s) (opening_of bounds (one_thread code s) (opening_words code s)) run → Begun x code s ls run
  begun_runs run is =
      let k = over_runs cell_laws pointers laws begins_law keeps x code s ls wt fits few
      (λ run h L. record { told : StartsTold code L (table_of code s run) (place_after code s run); starts : Each (IsStarted code) (reverse L) })
      (record { told = nobody_started code s; starts = no_event (IsStarted code) })
      (λ one earlier h may _ old.
      let ev = said_now code (table_of code s earlier) ((place_after code s earlier).threads one.thread) (result_of one.event) in
      let L = newest code s earlier in
      record {
        told = starts_then cell_laws pointers rights laws starts keeps x code s ls wt fits few one earlier h may L old.told;
        starts = each_pushed (IsStarted code) ev L old.starts (λ e is none v q. started_now cell_laws pointers rights laws starts keeps x code s ls wt fits few one earlier h may L old.told e is none v q);
      }) run is in
      record { consists = k.0; told = k.1.told; starts = k.1.starts }
