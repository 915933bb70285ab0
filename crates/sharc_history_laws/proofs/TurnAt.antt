-- One turn, as the lemmas name its parts: machine, instruction, answer, event, and what stands of them in typed code.
use Rattle.sharc_history_laws.proofs.Imports.{◌∷◌, ℕ, List, Option, SourceEvent, Code, Instr, Shape, Machine, instr_at, Turn, Global, after_turn, result_of, said, speaks_of, one_thread, bounds, place_after, Elements, table_of, ◌≡◌, subst, MayTurn, Targets, Label, Labels, Fine, IsWellTyped, View, view_of, refs_at, World, State, StageStands, IsOn, IsRun, opening_of, opening_words}

-- a run of the code from its opening
abbrev pub RunOf : Code → Shape → List Turn → Type 0
RunOf code s run = IsRun bounds (one_thread code s) (opening_of bounds (one_thread code s) (opening_words code s)) run

-- the turn of one thread of all: the thread and its machine, the instruction that it is at, and all after it
pub record TurnAt : Type 0 where
  pub g : Global Machine
  pub t : ℕ
  pub m : Machine
  pub i : Instr
  pub found : ℕ
  pub g' : Global Machine
  pub m' : Machine

abbrev pub turn_at : Code → Shape → Global Machine → Turn → TurnAt
turn_at code s g one = record {
  g = g;
  t = one.thread;
  m = g.threads one.thread;
  i = instr_at code (g.threads one.thread).at.pc;
  found = result_of one.event;
  g' = after_turn bounds (one_thread code s) g one;
  m' = (after_turn bounds (one_thread code s) g one).threads one.thread;
}

-- what a turn behind others tells, by the table of the elements of objects
pub record ToldAt : Type 0 where
  pub T : Elements
  pub T' : Elements
  pub elements : ℕ
  pub event : Option SourceEvent

abbrev pub told_at : Code → Shape → List Turn → Turn → ToldAt
told_at code s earlier one =
    let at = turn_at code s (place_after code s earlier) one in
    let elements = table_of code s earlier (speaks_of at.i at.m at.found) in
    record { T = table_of code s earlier; T' = table_of code s (one ∷ earlier); elements = elements; event = said code at.i at.m at.found elements }

-- a thread of typed code: its machine, the labels of its place and what its registers refer to
pub record ThreadAt : Type 0 where
  pub m : Machine
  pub here : Label
  pub view : View
  pub refs : ℕ → ℕ

abbrev pub thread_at : {x : Targets} {code : Code} {s : Shape} {ls : Labels} {g : Global Machine} {world : World} → State x code s ls g world → ℕ → ThreadAt
thread_at {ls = ls} {g = g} {world = world} st t =
    let m = g.threads t in
    let view = view_of st.elements world t m in
    record { m = m; here = ls.at m.at.pc; view = view; refs = refs_at view m.at.refs }

-- what stands where a thread makes a turn of typed code: it goes on, by its own number, and what the invariant says of
-- its stage and of its place is of the instruction
pub record TurnStands (x : Targets) (code : Code) (s : Shape) (ls : Labels) (g : Global Machine) (world : World) (st : State x code s ls g world) (one : Turn) : Type 0 where
  pub on : IsOn g one.thread
  pub number : (g.threads one.thread).own.number ≡ one.thread
  pub stage_here : (j : Instr) → instr_at code (g.threads one.thread).at.pc ≡ j → StageStands code s st.elements world st.heap g.words one.thread (g.threads one.thread) j (g.threads one.thread).own.stage
  pub fine : (j : Instr) → instr_at code (g.threads one.thread).at.pc ≡ j → Fine x code ls (g.threads one.thread).at.pc (ls.at (g.threads one.thread).at.pc) j

pub turn_stands : {x : Targets} {code : Code} {s : Shape} {ls : Labels} {g : Global Machine} {world : World} → IsWellTyped x code ls → (st : State x code s ls g world) (one : Turn) → MayTurn bounds (one_thread code s) g one
    → TurnStands x code s ls g world st one
turn_stands {x = x} {code = code} {s = s} {ls = ls} {g = g} {world = world} wt st one may =
    let t = one.thread in
    let m = g.threads t in
    record {
      on = (may.started, may.next.runs);
      number = (st.threads t).has.number;
      stage_here = λ j e. subst (λ j. StageStands code s st.elements world st.heap g.words t m j m.own.stage) e ((st.threads t).runs may.started may.next.runs).stage;
      fine = λ j e. subst (Fine x code ls m.at.pc (ls.at m.at.pc)) e (wt.fine m.at.pc);
    }
