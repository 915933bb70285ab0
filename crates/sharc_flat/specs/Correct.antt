-- What flat code is to the source: it asks for the same, in both directions.
use Rattle.std.specs.Prelude.{◌≡◌, ◌⊎◌, ℕ, ℤ, pos, ◌+◌, ◌*◌, ◌≤◌, false, List, length, get_or, Some}
use Rattle.sharc_tree.specs.Tree.{Function}
use Rattle.sharc_names.specs.Kinds.{declared_kind}
use Rattle.sharc_ctype.specs.Resolved.{function_at}
use Rattle.sharc_mode.specs.Moded.{Assignment}
use Rattle.sharc_meaning.specs.{Meaning.{Asked, asks}, State.{is_reference, spent}}
use Rattle.sharc_flat.specs.{Machine.{Flat, Came, exec, start}, Flattened.in_function, Suits.StatementsSuit}
use Rattle.sharc_code.specs.declared.code.GlobalCells.{GlobalCells}

-- The same events and answers, the same end or want, the same references given up since the last event; and each
-- reference register of the thread has what lies at its place among what the source holds, or NULL after all of it.
pub record SameAs (c : Came) (a : Asked) : Type 0 where
  pub events : c.at.events ≡ a.events
  pub outcome : c.outcome ≡ a.outcome
  pub held : (k : ℕ) → c.at.refs k ≡ get_or a.held k (pos 0)
  pub given_up : c.at.given ≡ a.given_up

-- every function of the program is one that flattening knows
abbrev pub ProgramSuits : Assignment → Type 0
ProgramSuits m = (globals : List GlobalCells) (f : ℕ) (fn : Function) → function_at m.typed f ≡ Some fn
    → StatementsSuit (in_function m globals fn) (declared_kind fn.result) false fn.statements

-- what may be started: it has one parameter at most, and its result is no reference
pub record MayStart (m : Assignment) (f : ℕ) : Type 0 where
  pub function : Function
  pub at : function_at m.typed f ≡ Some function
  pub parameters : length function.parameters ≤ 1
  pub result : is_reference (declared_kind function.result) ≡ false

-- What a thread asks for with this fuel, flat code asks for after this many turns: at least one for each statement and
-- expression that was entered, at most eight for each, and eight more.
pub record Forth (m : Assignment) (flat : Flat) (f : ℕ) (argument : ℤ) (answers : List ℤ) (fuel : ℕ) : Type 0 where
  pub turns : ℕ
  pub entered : ℕ
  pub same : SameAs (exec flat turns answers (start flat f argument)) (asks m f argument answers fuel)
  pub few : entered ≤ fuel
  pub all : (asks m f argument answers fuel).outcome ≡ spent → entered ≡ fuel
  pub low : entered ≤ turns
  pub high : turns ≤ 8 * entered + 8

-- What flat code has come to after this many turns lies on the way to what a thread asks for with some fuel, or is
-- that.
pub record Back (m : Assignment) (flat : Flat) (f : ℕ) (argument : ℤ) (answers : List ℤ) (turns : ℕ) : Type 0 where
  pub fuel : ℕ
  pub later : ℕ
  pub same : SameAs (exec flat later answers (start flat f argument)) (asks m f argument answers fuel)
  pub reached : (turns ≤ later)
      ⊎ (exec flat turns answers (start flat f argument) ≡ exec flat later answers (start flat f argument))

pub record AsksTheSame (m : Assignment) (flat : Flat) : Type 0 where
  pub forth : (f : ℕ) → MayStart m f
      → (argument : ℤ) (answers : List ℤ) (fuel : ℕ) → Forth m flat f argument answers fuel
  pub back : (f : ℕ) → MayStart m f
      → (argument : ℤ) (answers : List ℤ) (turns : ℕ) → Back m flat f argument answers turns
