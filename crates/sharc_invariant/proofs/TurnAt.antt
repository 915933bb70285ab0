-- One turn, as the lemmas name its parts: the thread and its machine, the label of its place, what its registers refer
-- to, and what stands where the thread may go on.
use Rattle.sharc_invariant.proofs.Imports.{◌≡◌, ℕ, ◌<◌, THREADS, Code, Shape, Machine, Global, Turn, MayTurn, after_turn, one_thread, bounds, Targets, Label, Labels, World, View, view_of, refs_at, State, Runs}

-- a thread of typed code
pub record ThreadAt : Type 0 where
  pub m : Machine
  pub here : Label
  pub base : ℕ
  pub view : View
  pub refs : ℕ → ℕ

abbrev pub thread_at : {x : Targets} {code : Code} {s : Shape} {ls : Labels} {g : Global Machine} {world : World} → State x code s ls g world → ℕ → ThreadAt
thread_at {ls = ls} {g = g} {world = world} st t =
    let m = g.threads t in
    let view = view_of st.elements world t m in
    record { m = m; here = ls.at m.at.pc; base = m.at.refs; view = view; refs = refs_at view m.at.refs }

-- the thread that makes the turn, and all behind it
pub record TurnAt : Type 0 where
  pub t : ℕ
  pub m : Machine
  pub here : Label
  pub base : ℕ
  pub view : View
  pub refs : ℕ → ℕ
  pub after : Global Machine

abbrev pub turn_at : {x : Targets} {code : Code} {s : Shape} {ls : Labels} {g : Global Machine} {world : World} → State x code s ls g world → Turn → TurnAt
turn_at {code = code} {s = s} {g = g} st tr =
    let at = thread_at st tr.thread in
    record { t = tr.thread; m = at.m; here = at.here; base = at.base; view = at.view; refs = at.refs; after = after_turn bounds (one_thread code s) g tr }

-- where it may make the turn, it is one of the threads, by its own number, and what the invariant says of it stands
pub record TurnStands (x : Targets) (code : Code) (s : Shape) (ls : Labels) (g : Global Machine) (world : World) (st : State x code s ls g world) (tr : Turn) : Type 0 where
  pub rn : Runs x code s ls st.elements world st.heap g tr.thread (g.threads tr.thread)
  pub low_t : tr.thread < THREADS
  pub number : (g.threads tr.thread).own.number ≡ tr.thread

abbrev pub turn_stands : {x : Targets} {code : Code} {s : Shape} {ls : Labels} {g : Global Machine} {world : World} → (st : State x code s ls g world) (tr : Turn) → MayTurn bounds (one_thread code s) g tr → TurnStands x code s ls g world st tr
turn_stands st tr may = record { rn = (st.threads tr.thread).runs may.started may.next.runs; low_t = st.begins.few tr.thread may.started; number = (st.threads tr.thread).has.number }
