-- What the event of a turn is about: an access, an object that is made, given or freed; and whose it is.
use Rattle.sharc_history_laws.proofs.{Imports.{◌≡◌, ℕ, zero, suc, ◌+◌, ◌*◌, ◌%◌, ◌^◌, ◌<◌, Bool, true, false, Option, Some, None, if◌then◌else◌, refl, ap, arith, ◌||◌, ◌==◌, SourceEvent, Act, Taken, NewView, NewStage, waits_in, Code, Cell, Register, Instr, Stage, Makes, Uncounts, Begins, Enters, Withdraws, WithdrawsFrom, Leaves as Leaving, Wakes, Machine, ref, said, reference, take_local, nobody, in_signal, in_exit, in_spawn, in_start, in_free, in_new, new_event, cell_at, mode_of, place_at, Access, access_by, made_by, given_by, Targets, Field, Labels, Fine, Accesses, is_access, tells, IsSaidBy, TurnsTell}, Tables.{header_at, header_in, header_of}}
use Rattle.sharc_meaning.specs.{Events.freed_by, Reference.number_of}

abbrev pub access_said : Option SourceEvent → Option Access
access_said None = None
access_said (Some e) = access_by e.act

abbrev pub made_said : Option SourceEvent → Option ℕ
made_said None = None
made_said (Some e) = made_by e e.act

abbrev pub given_said : Option SourceEvent → Option ℕ
given_said None = None
given_said (Some e) = given_by e.act

abbrev pub freed_said : Option SourceEvent → Option ℕ
freed_said None = None
freed_said (Some e) = freed_by e.act

abbrev pub thread_said : ℕ → Option SourceEvent → ℕ
thread_said t None = t
thread_said t (Some e) = e.thread

-- ---- what a turn gives and frees
abbrev pub given_at : Instr → Machine → Option ℕ
given_at (Instr.Give r site) m = Some (ref m r)
given_at _ m = None

abbrev pub freed_in : Stage → ℕ → Option ℕ
freed_in (Uncounts all) o = Some o
freed_in _ o = None

abbrev pub freed_at : Instr → Machine → Option ℕ
freed_at (Instr.Free r layout site) m = freed_in m.own.stage (ref m r)
freed_at _ m = None

pub record About (t : ℕ) (made given freed : Option ℕ) (e : Option SourceEvent) : Type 0 where
  pub thread : thread_said t e ≡ t
  pub makes : made_said e ≡ made
  pub gives : given_said e ≡ given
  pub frees : freed_said e ≡ freed

either : (t : ℕ) (made given freed : Option ℕ) (b : Bool) (x y : Option SourceEvent) → About t made given freed x → About t made given freed y → About t made given freed (if b then x else y)
either t made given freed true x y h k = h
either t made given freed false x y h k = k

number_back : (n elements : ℕ) → n < 2 ^ 32 → number_of (reference n elements) ≡ n
number_back zero elements lt = refl
number_back (suc k) elements lt = let e : (suc k + 2 ^ 32 * elements) % 2 ^ 32 ≡ suc k = omega arith in e

module _ (code : Code) (m : Machine) where
  abbrev t : ℕ
  t = m.own.number

  abbrev Plain : Option SourceEvent → Type 0
  Plain = About m.own.number None None None

  none : Plain None
  none = record { thread = refl; makes = refl; gives = refl; frees = refl }

  at_local : (site number elements : ℕ) → Plain (take_local code m site number elements)
  at_local site zero elements = none
  at_local site (suc k) elements = record { thread = refl; makes = refl; gives = refl; frees = refl }

  at_spawn : (function : ℕ) (from : Register) (site elements : ℕ) (stage : Stage) → Plain (in_spawn code m function from site elements stage)
  at_spawn function from site elements (Begins k) = record { thread = refl; makes = refl; gives = refl; frees = refl }
  at_spawn function from site elements _ = none

  at_start : (found elements : ℕ) (stage : Stage) → Plain (in_start code m found elements stage)
  at_start found elements (Enters function) = record { thread = refl; makes = refl; gives = refl; frees = refl }
  at_start found elements _ = none

  at_exit : (stage : Stage) → Plain (in_exit code m stage)
  at_exit (Withdraws row) = none
  at_exit (WithdrawsFrom row seen) = none
  at_exit Leaving = record { thread = refl; makes = refl; gives = refl; frees = refl }
  at_exit _ = record { thread = refl; makes = refl; gives = refl; frees = refl }

  at_nobody : (cell : Cell) (site found : ℕ) → Plain (nobody code m cell site found)
  at_nobody cell site zero = record { thread = refl; makes = refl; gives = refl; frees = refl }
  at_nobody cell site (suc k) = none

  at_signal : (cell : Cell) (site found : ℕ) (stage : Stage) → Plain (in_signal code m cell site found stage)
  at_signal cell site found (Wakes seen) = either m.own.number None None None (found == seen) _ _ (record { thread = refl; makes = refl; gives = refl; frees = refl }) (at_nobody cell site found)
  at_signal cell site found _ = at_nobody cell site found

  at_free : (r site elements : ℕ) (stage : Stage) → ((all : ℕ) → stage ≡ Uncounts all → ref m r < 2 ^ 32) → About m.own.number None None (freed_in stage (ref m r)) (in_free code m r site elements stage)
  at_free r site elements (Uncounts all) lt = record { thread = refl; makes = refl; gives = refl; frees = ap (λ n. Some n) (number_back (ref m r) elements (lt all refl)) }
  at_free r site elements _ lt = none

  at_new_stage : (site cells : ℕ) (v : NewView) (stage : NewStage) → ((header : ℕ) → header_at stage ≡ Some header → header < 2 ^ 32) → About m.own.number (header_at stage) None None (new_event code m site cells v stage)
  at_new_stage site cells v (NewStage.Length header) low = record { thread = refl; makes = ap (λ n. Some n) (number_back header v.arguments.elements (low header refl)); gives = refl; frees = refl }
  at_new_stage site cells v _ low = none

  at_new : (site cells : ℕ) (stage : Stage) → ((header : ℕ) → header_in stage ≡ Some header → header < 2 ^ 32) → About m.own.number (header_in stage) None None (in_new code m site cells stage)
  at_new site cells (Makes v) low = at_new_stage site cells v v.stage low
  at_new site cells _ low = none

  -- the numbers are of 32 bits
  pub record AreLow (i : Instr) : Type 0 where
    pub header : (header : ℕ) → header_of i m.own.stage ≡ Some header → header < 2 ^ 32
    pub given : (r site : ℕ) → i ≡ Instr.Give r site → ref m r < 2 ^ 32
    pub freed : (r layout site all : ℕ) → i ≡ Instr.Free r layout site → m.own.stage ≡ Uncounts all → ref m r < 2 ^ 32

  pub about : (i : Instr) (found elements : ℕ) → AreLow i → About m.own.number (header_of i m.own.stage) (given_at i m) (freed_at i m) (said code i m found elements)
  about (Instr.TakeLocal r from site) found elements low = at_local site (ref m from) elements
  about (Instr.Give r site) found elements low = record { thread = refl; makes = refl; gives = ap (λ n. Some n) (number_back (ref m r) elements (low.given r site refl)); frees = refl }
  about (Instr.New r count cells site) found elements low = at_new site cells m.own.stage low.header
  about (Instr.Free r layout site) found elements low = at_free r site elements m.own.stage (λ all e. low.freed r layout site all refl e)
  about (Instr.Lock c site) found elements low = either m.own.number None None None (found == 0) _ _ (record { thread = refl; makes = refl; gives = refl; frees = refl }) none
  about (Instr.Spawn r function from site) found elements low = at_spawn function from site elements m.own.stage
  about (Instr.Join r site) found elements low = either m.own.number None None None (found == 0 || (found == 1 || found == 2)) _ _ none (record { thread = refl; makes = refl; gives = refl; frees = refl })
  about (Instr.Start site) found elements low = at_start found elements m.own.stage
  about Instr.Exit found elements low = at_exit m.own.stage
  about (Instr.CondWait c site) found elements low = either m.own.number None None None (waits_in found m.own.number) _ _ none (record { thread = refl; makes = refl; gives = refl; frees = refl })
  about (Instr.CondSignal c site) found elements low = at_signal c site found m.own.stage
  about _ found elements low = record { thread = refl; makes = refl; gives = refl; frees = refl }

-- ---- accesses
module _ (code : Code) (m : Machine) where
  pub no_access : TurnsTell → (i : Instr) (found elements : ℕ) → is_access i ≡ false → access_said (said code i m found elements) ≡ None
  no_access tell i found elements e = by (said code i m found elements) (tell code i m found elements)
    where
      of : (a : Act) → tells a i ≡ true → access_by a ≡ None
      of (Act.Take (Taken.Cell c mode) kind) w = cc
      of _ w = cc

      by : (ev : Option SourceEvent) → IsSaidBy i m ev → access_said ev ≡ None
      by None w = refl
      by (Some d) w = of d.act w.1

-- the access that a turn of typed code tells
abbrev pub access_at : Code → Machine → Cell → ℕ → Bool → Access
access_at code m c site write = record { cell = cell_at code m c; mode = mode_of code m (cell_at code m c) (place_at code site).mode; is_write = write }

pub record IsAccess (x : Targets) (code : Code) (ls : Labels) (m : Machine) (i : Instr) (found elements : ℕ) : Type 0 where
  pub write : Bool
  pub cell : Cell
  pub site : ℕ
  pub field : Field
  pub accesses : Accesses x code ls (ls.at m.at.pc) write cell site field
  pub said_is : access_said (said code i m found elements) ≡ Some (access_at code m cell site write)

pub access_of : (x : Targets) (code : Code) (ls : Labels) (m : Machine) (i : Instr) (found elements : ℕ) → is_access i ≡ true → Fine x code ls m.at.pc (ls.at m.at.pc) i → IsAccess x code ls m i found elements
access_of x code ls m (Instr.Load r c site) found elements e f = record { write = false; cell = c; site = site; field = f.1.0; accesses = f.1.2; said_is = refl }
access_of x code ls m (Instr.Store r c site) found elements e f = record { write = true; cell = c; site = site; field = f.0; accesses = f.2; said_is = refl }
access_of x code ls m (Instr.LoadRef c site) found elements e f = record { write = false; cell = c; site = site; field = f.0; accesses = f.2; said_is = refl }
access_of x code ls m (Instr.Exchange r c site) found elements e f = record { write = true; cell = c; site = site; field = f.1.0; accesses = f.1.2; said_is = refl }
access_of x code ls m (Instr.TakeCell r c site) found elements e f = record { write = true; cell = c; site = site; field = f.1.0; accesses = f.1.2; said_is = refl }
access_of x code ls m _ found elements e f = absurd (let g : false ≡ true = e in cc)
