-- Who was started, and who has ended, by the events of a run.
use Rattle.sharc_history_laws.proofs.{Imports.{◌≡◌, ℕ, ℤ, pos, ◌+◌, ◌<◌, Bool, true, false, ◌||◌, ◌&&◌, length, List, [], ◌∷◌, reverse, Option, Some, None, if◌then◌else◌, refl, sym, ap, ◌∙◌, subst, ⊎_elim, arith, eqb-true, cases_eq, or_right, nat_tests, slice_index, nat_lt, nat_eq, ◌==◌, list_any, THREADS, WordOp, Act, SourceEvent, Code, Instr, Register, Shape, Stage, Begins, Withdraws, WithdrawsFrom, Leaves, RunLaws, Fits, state_word, Machine, act, exit, spawn, withdraws, withdrew, at_stage, is_exit, turn, after, asked_by, Turn, Global, MayTurn, after_turn, put, state_now, words_now, is_started, said, in_exit, in_spawn, one_thread, bounds, place_after, History, spawns, is_spawn, is_natural, is_gone, was_spawned, went, Targets, Labels, IsWellTyped, is_ended, IsSmall, StageStands, Keeps, CellsAreThere, PointersAreThere, AccessesAreAllowed, same_is, or_split as or_cases, yes, is_threading, put_same, put_other}, TurnAt.{turn_at, told_at}, Consists.{Consists, after_set}, Outcomes.unended, Holding.any_push, Lists.{Newest, reverse_push}, Rules.{pushed, number_is}, Telling.{threads_said, neither, no_thread}}

pub or_left : (a b : Bool) → a ≡ true → (a || b) ≡ true
or_left true b e = refl
or_left false b e = absurd (yes (sym e))

pub and_parts : (a b : Bool) → (a && b) ≡ true → (a ≡ true) × (b ≡ true)
and_parts true b e = (refl, e)
and_parts false b e = absurd (yes (sym e))

-- ---- histories that grow

spawned_push : (e : SourceEvent) (L : Newest) (n : ℕ) → was_spawned (reverse (e ∷ L)) n ≡ (was_spawned (reverse L) n || spawns n e)
spawned_push e L n = ap (list_any (spawns n)) (reverse_push e L) ∙ any_push (spawns n) (reverse L) e

went_push : (e : SourceEvent) (L : Newest) (z : ℤ) → went (reverse (e ∷ L)) z ≡ (went (reverse L) z || (is_gone e.act && is_natural e.thread z))
went_push e L z = ap (λ (R : History). went R z) (reverse_push e L) ∙ any_push (λ e. is_gone e.act && is_natural e.thread z) (reverse L) e

-- ---- the end of a thread
-- a turn of Exit ends its thread at its last stage alone
module _ (s : Shape) (m : Machine) (found : ℕ) where
  abbrev Ends : Machine → Type 0
  Ends y = is_ended y.at.state ≡ true

  withdraws_on : (row : ℕ) → Ends (withdraws m row) → ⊥
  withdraws_on row = elim (nat_lt row (length m.own.table.order)) as (λ b. Ends (if b then at_stage m (Withdraws row) else at_stage m Leaves) → ⊥) [
    | true ↦ λ e. yes (sym e)
    | false ↦ λ e. yes (sym e)
  ]

  withdrew_on : (row seen : ℕ) → Ends (withdrew m row seen found) → ⊥
  withdrew_on row seen = elim (found == seen) as (λ b. Ends (if b then withdraws m (row + 1) else at_stage m (WithdrawsFrom row found)) → ⊥) [
    | true ↦ withdraws_on (row + 1)
    | false ↦ λ e. yes (sym e)
  ]

  leaving : (stage : Stage) → Ends (after (exit s m stage) found) → stage ≡ Leaves
  leaving (Withdraws row) e = absurd (yes (sym e))
  leaving (WithdrawsFrom row seen) e = absurd (withdrew_on row seen e)
  leaving Leaves e = refl
  leaving _ e = absurd (withdraws_on 0 e)

-- ---- what the events say
pub record ThreadsTold (L : Newest) (g : Global Machine) : Type 0 where
  pub spawned : (n : ℕ) → was_spawned (reverse L) n ≡ true → g.started n ≡ true
  pub gone : (t : ℕ) → is_ended (g.threads t).at.state ≡ true → went (reverse L) (pos t) ≡ true

-- ---- one turn
module _ (cell_laws : CellsAreThere) (pointers : PointersAreThere) (rights : AccessesAreAllowed) (laws : RunLaws) (keeps : Keeps) (x : Targets) (code : Code) (s : Shape) (ls : Labels) (wt : IsWellTyped x code ls) (fits : Fits code s) (few : IsSmall code s)
    (one : Turn) (earlier : List Turn) (h : Consists x code s ls earlier) (may : MayTurn bounds (one_thread code s) (place_after code s earlier) one) where
  open turn_at code s (place_after code s earlier) one use {g, t, m, i, found}
  open told_at code s earlier one use {elements, event}

  stage_here : (j : Instr) → i ≡ j → StageStands code s h.state.elements h.world h.state.heap (place_after code s earlier).words one.thread ((place_after code s earlier).threads one.thread) j ((place_after code s earlier).threads one.thread).own.stage
  stage_here j e = subst (λ j. StageStands code s h.state.elements h.world h.state.heap g.words t m j m.own.stage) e ((h.state.threads t).runs may.started may.next.runs).stage

  -- ---- a thread that is spawned
  -- the turn that says so sets its state word to 1
  begun_now : (r f site n : ℕ) (from : Register) → i ≡ Instr.Spawn r f from site → ((place_after code s earlier).threads one.thread).own.stage ≡ Begins n → (after_turn bounds (one_thread code s) (place_after code s earlier) one).started n ≡ true
  begun_now r f site n from is at =
      let reserves = subst (StageStands code s h.state.elements h.world h.state.heap g.words t m (Instr.Spawn r f from site)) at (stage_here (Instr.Spawn r f from site) is) in
      let lt : n < THREADS = reserves.0.few in
      let asked : asked_by (turn code s m) ≡ Some (Rattle.sharc_code.specs.Machine.step_of (state_word n) (WordOp.Swap 1)) =
      ap (λ j. asked_by (act code s j m)) is ∙ ap (λ y. asked_by (spawn m r f from site y)) at in
      let word : slice_index (words_now g.words one.event) (state_word n) ≡ 1 = after_set g.words one.event (Rattle.sharc_code.specs.Machine.step_of (state_word n) (WordOp.Swap 1)) (may.next.asks ∙ asked) may.answered in
      let a : nat_lt n THREADS ≡ true = grind (arith, nat_tests) in
      let b : nat_eq (slice_index (words_now g.words one.event) (state_word n)) 1 ≡ true = ap (λ v. nat_eq v 1) word in
      let started : is_started bounds (words_now g.words one.event) n ≡ true = ap (λ c. c && nat_eq (slice_index (words_now g.words one.event) (state_word n)) 1) a ∙ b in
      or_left (is_started bounds (words_now g.words one.event) n) (g.started n) started

  spawned_now : (e : SourceEvent) → event ≡ Some e → (n : ℕ) → spawns n e ≡ true → (after_turn bounds (one_thread code s) (place_after code s earlier) one).started n ≡ true
  spawned_now e said_is n is = by i refl
    where
      parts : (is_spawn e.act ≡ true) × (is_natural n e.answer ≡ true)
      parts = and_parts (is_spawn e.act) (is_natural n e.answer) is

      natural : (k : ℕ) → is_natural n (pos k) ≡ true → k ≡ n
      natural k q = sym (eqb-true n k q)

      at_spawn : (r f site : ℕ) (from : Register) → i ≡ Instr.Spawn r f from site → (stage : Stage) → ((place_after code s earlier).threads one.thread).own.stage ≡ stage → in_spawn code ((place_after code s earlier).threads one.thread) f from site elements stage ≡ Some e
          → (after_turn bounds (one_thread code s) (place_after code s earlier) one).started n ≡ true
      at_spawn r f site from i_is (Begins k) at q =
          let answer : pos k ≡ e.answer = ap (λ (o : Option SourceEvent). answer_of o) q in
          let same : k ≡ n = natural k (ap (is_natural n) answer ∙ parts.1) in
          subst (λ n. (after_turn bounds (one_thread code s) (place_after code s earlier) one).started n ≡ true) same (begun_now r f site k from i_is at)
        where
          answer_of : Option SourceEvent → ℤ
          answer_of None = pos 0
          answer_of (Some d) = d.answer
      at_spawn r f site from i_is _ at q = absurd (cc)

      at_exit : (stage : Stage) → in_exit code ((place_after code s earlier).threads one.thread) stage ≡ Some e → ⊥
      at_exit (Withdraws row) q = cc
      at_exit (WithdrawsFrom row seen) q = cc
      at_exit Leaves q = let a : is_spawn e.act ≡ false = ap spawn_of (sym q) in yes (sym parts.0 ∙ a)
        where
          spawn_of : Option SourceEvent → Bool
          spawn_of None = false
          spawn_of (Some d) = is_spawn d.act
      at_exit _ q = let a : is_spawn e.act ≡ false = ap spawn_of (sym q) in yes (sym parts.0 ∙ a)
        where
          spawn_of : Option SourceEvent → Bool
          spawn_of None = false
          spawn_of (Some d) = is_spawn d.act

      others : is_threading i ≡ false → ⊥
      others never =
          let a : threads_said (Some e) ≡ false = ap threads_said (sym said_is) ∙ no_thread code m laws.turns.tells i found elements never in
          yes (sym parts.0 ∙ (neither e.act a).0)

      by : (j : Instr) → i ≡ j → (after_turn bounds (one_thread code s) (place_after code s earlier) one).started n ≡ true
      by (Instr.Spawn r f from site) i_is = at_spawn r f site from i_is m.own.stage refl (sym (ap (λ j. said code j m found elements) i_is) ∙ said_is)
      by Instr.Exit i_is = absurd (at_exit m.own.stage (sym (ap (λ j. said code j m found elements) i_is) ∙ said_is))
      by _ i_is = absurd (others (ap is_threading i_is))

  -- ---- a thread that ends
  gone_now : is_ended (after (turn code s ((place_after code s earlier).threads one.thread)) found).at.state ≡ true → (e : SourceEvent) × (event ≡ Some e) × (is_gone e.act ≡ true) × (e.thread ≡ one.thread)
  gone_now ended = by i refl
    where
      at_exit : i ≡ Instr.Exit → (stage : Stage) → ((place_after code s earlier).threads one.thread).own.stage ≡ stage → stage ≡ Leaves → (e : SourceEvent) × (event ≡ Some e) × (is_gone e.act ≡ true) × (e.thread ≡ one.thread)
      at_exit is Leaves at q =
          let e : SourceEvent = record { thread = m.own.number; site = (Rattle.sharc_code.specs.Machine.function_of code m.own.function).site; answer = pos 0; act = Act.Gone } in
          (e, ap (λ j. said code j m found elements) is ∙ ap (in_exit code m) at, refl, number_is cell_laws pointers rights laws keeps x code s ls wt fits few one earlier h may)
      at_exit is _ at q = absurd (cc)

      by : (j : Instr) → i ≡ j → (e : SourceEvent) × (event ≡ Some e) × (is_gone e.act ≡ true) × (e.thread ≡ one.thread)
      by Instr.Exit is =
          let now : is_ended (after (exit s m m.own.stage) found).at.state ≡ true = ap (λ j. is_ended (after (act code s j m) found).at.state) (sym is) ∙ ended in
          at_exit is m.own.stage refl (leaving s m found m.own.stage now)
      by _ is = absurd (yes (sym ended ∙ unended s i found m _ (laws.turns.outcomes code s i m found) (ap is_exit is)))

  -- ---- all of them
  module _ (L : Newest) (old : ThreadsTold L (place_after code s earlier)) where
    started_still : (n : ℕ) → (place_after code s earlier).started n ≡ true → (after_turn bounds (one_thread code s) (place_after code s earlier) one).started n ≡ true
    started_still n e = or_right (is_started bounds (words_now g.words one.event) n) (g.started n) e

    spawned_then : (ev : Option SourceEvent) → event ≡ ev → (n : ℕ) → was_spawned (reverse (pushed ev L)) n ≡ true → (after_turn bounds (one_thread code s) (place_after code s earlier) one).started n ≡ true
    spawned_then None e n is = started_still n (old.spawned n is)
    spawned_then (Some d) e n is = ⊎_elim
        (λ (a : was_spawned (reverse L) n ≡ true). started_still n (old.spawned n a))
        (λ (b : spawns n d ≡ true). spawned_now d e n b)
        (or_cases (was_spawned (reverse L) n) (spawns n d) (sym (spawned_push d L n) ∙ is))

    went_still : (ev : Option SourceEvent) (z : ℤ) → went (reverse L) z ≡ true → went (reverse (pushed ev L)) z ≡ true
    went_still None z e = e
    went_still (Some d) z e = went_push d L z ∙ or_left (went (reverse L) z) (is_gone d.act && is_natural d.thread z) e

    went_now : (ev : Option SourceEvent) → event ≡ ev → is_ended (after (turn code s ((place_after code s earlier).threads one.thread)) found).at.state ≡ true → went (reverse (pushed ev L)) (pos one.thread) ≡ true
    went_now None e ended = let k = gone_now ended in absurd (let f : None ≡ Some k.0 = sym e ∙ k.1 in cc)
    went_now (Some d) e ended =
        let k = gone_now ended in
        let same : k.0 ≡ d = let f : Some k.0 ≡ Some d = sym k.1 ∙ e in cc in
        let gone : is_gone d.act ≡ true = ap (λ (d : SourceEvent). is_gone d.act) (sym same) ∙ k.2 in
        let thread : d.thread ≡ t = ap (λ (d : SourceEvent). d.thread) (sym same) ∙ k.3 in
        let natural : is_natural d.thread (pos t) ≡ true = ap (λ u. u == t) thread ∙ same_is t in
        went_push d L (pos t) ∙ or_right (went (reverse L) (pos t)) (is_gone d.act && is_natural d.thread (pos t)) (ap (λ b. b && is_natural d.thread (pos t)) gone ∙ natural)

    gone_then : (ev : Option SourceEvent) → event ≡ ev → (u : ℕ) → is_ended ((after_turn bounds (one_thread code s) (place_after code s earlier) one).threads u).at.state ≡ true → went (reverse (pushed ev L)) (pos u) ≡ true
    gone_then ev e u =
        let now = state_now (one_thread code s) g one in
        ⊎_elim
        (λ (same : u ≡ t). subst (λ u. is_ended (put g.threads t now u).at.state ≡ true → went (reverse (pushed ev L)) (pos u) ≡ true) (sym same)
        (subst (λ (y : Machine). is_ended y.at.state ≡ true → went (reverse (pushed ev L)) (pos t) ≡ true) (sym (put_same g.threads t now)) (went_now ev e)))
        (λ (ne : u ≡ t → ⊥). subst (λ (y : Machine). is_ended y.at.state ≡ true → went (reverse (pushed ev L)) (pos u) ≡ true) (sym (put_other g.threads t u now ne)) (λ ended. went_still ev (pos u) (old.gone u ended)))
        (cases_eq u t)

    pub threads_then : ThreadsTold (pushed event L) (after_turn bounds (one_thread code s) (place_after code s earlier) one)
    threads_then = record { spawned = spawned_then event refl; gone = gone_then event refl }

pub nobody_yet : (g : Global Machine) → ((t : ℕ) → is_ended (g.threads t).at.state ≡ true → ⊥) → ThreadsTold [] g
nobody_yet g none = record { spawned = λ n is. absurd (yes (sym is)); gone = λ t is. absurd (none t is) }
