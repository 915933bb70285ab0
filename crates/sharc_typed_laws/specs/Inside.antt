-- What is known at the places within the piece of guarded code that a line of flat code becomes, by what is known
-- before the line.
use Rattle.std.specs.Prelude.{ℕ, ◌+◌, ◌-◌, ◌*◌, Bool, true, false, List, [], ◌∷◌, ◌++◌, Option, Some, None, nat_lt}
use Rattle.std.specs.Prelude.{slice_index_or, if◌then◌else◌}
use Rattle.sharc_code.specs.declared.code.PlaceMode.{PlaceMode}
use Rattle.sharc_code.specs.declared.code.PlaceMode.TheVariants.{Dynamic, LockedGlobal, LockedSibling, LockedThrough}
use Rattle.sharc_code.specs.declared.code.PlaceMode.TheVariants.{LockedLoaded}
use Rattle.sharc_code.specs.declared.instr.Cell.{Cell}
use Rattle.sharc_code.specs.declared.instr.Cell.TheVariants as cells
use Rattle.sharc_flat.specs.{declared.op.Op.Op, declared.op.Spot.Spot}
use Rattle.sharc_flat.specs.declared.op.Op.TheVariants as op
use Rattle.sharc_invariant.specs.Types.{Targets, StaticType, cells_of}
use Rattle.sharc_invariant.specs.Labels.{Entry, Refers, Nth, Number, Anything, OfElement, OfGlobal, Gate, Closed}
use Rattle.sharc_invariant.specs.Labels.{Checked, Holds, Loaded, HoldsLoaded, Sole, Pass, Label, Labels, Empty, fill}
use Rattle.sharc_invariant.specs.Labels.{empty, gated, without_base}
use Rattle.sharc_invariant.specs.Typed.{knows_base}

-- ---- labels of flat code
pub record FlatLabels : Type 0 where
  -- what is known before each line, by its number; that of the end, where no line is, is `outside`
  pub lines : Labels
  -- what the cell refers to in which a line stores a reference
  pub replaced : ℕ → StaticType

-- where no frame stands: a thread begins or ends there
abbrev pub outside : Label
outside = record {
  function = None;
  env = λ r. Empty;
  same = λ r. r;
  known = λ r. false;
  ints = λ i. Anything;
  gate = Closed;
  passed = [];
  room = false;
}

-- ---- after a check
-- the cell of the mutex that the check of an access under a lock looks at
abbrev pub lock_of : Spot → PlaceMode → Cell
lock_of spot (LockedGlobal g place) = cells.Global g place
lock_of spot (LockedThrough r place) = cells.Object r place
lock_of spot mode = spot.lock

-- The check as one that is remembered: of a cell of the globals or of what a register refers to, where its number is
-- known. That of a copy is one of the register that it is a copy of.
abbrev pub global_pass : Bool → ℕ → Option Pass
global_pass write place = if nat_lt place 2 then None else Some record { write = write; base = None; cell = place - 2 }

abbrev pub global_element_pass : Bool → Number → Option Pass
global_element_pass write (OfGlobal first count elements (Nth e)) = global_pass write (first + e * count)
global_element_pass write n = None

abbrev pub element_pass : Targets → Label → Bool → ℕ → Entry → Number → Option Pass
element_pass x l write r (Refers s) (OfElement base field (Nth e)) =
    Some record { write = write; base = Some (l.same r); cell = e * cells_of x s.target + field }
element_pass x l write r entry n = None

abbrev pub pass_of : Targets → Label → Bool → Cell → Option Pass
pass_of x l write (cells.Global g place) = global_pass write place
pass_of x l write (cells.GlobalAt g i) = global_element_pass write (l.ints i)
pass_of x l write (cells.Object r i) = Some record { write = write; base = Some (l.same r); cell = i }
pass_of x l write (cells.ObjectAt r i) = element_pass x l write r (l.env r) (l.ints i)

abbrev pub with_pass : Option Pass → List Pass → List Pass
with_pass None passes = passes
with_pass (Some p) passes = p ∷ passes

abbrev pub held_gate : Gate → Gate
held_gate (Loaded c) = HoldsLoaded c
held_gate gate = gate

abbrev pub known_behind : Label → Spot → PlaceMode → ℕ → Bool
known_behind l spot (LockedGlobal g place) = l.known
known_behind l spot (LockedSibling field mutex) = (knows_base l spot.lock).known
known_behind l spot (LockedThrough r place) = (knows_base l (cells.Object r place)).known
known_behind l spot mode = l.known

abbrev pub gate_behind : Bool → Label → Bool → Cell → Spot → PlaceMode → Gate
gate_behind false l write c spot Dynamic = Checked write c
gate_behind dropped l write c spot (LockedGlobal g place) = Holds (cells.Global g place)
gate_behind dropped l write c spot (LockedSibling field mutex) = Holds spot.lock
gate_behind dropped l write c spot (LockedThrough r place) = Holds (cells.Object r place)
gate_behind dropped l write c spot LockedLoaded = held_gate l.gate
gate_behind dropped l write c spot mode = l.gate

abbrev pub passed_behind : Targets → Bool → Label → Bool → Cell → PlaceMode → List Pass
passed_behind x false l write c Dynamic = with_pass (pass_of x l write c) l.passed
passed_behind x dropped l write c mode = l.passed

-- after the check of an access, if there is one: that of a dynamic cell may be dropped
abbrev pub behind : Targets → Bool → Label → Bool → Cell → Spot → Label
behind x dropped l write c spot = record l {
  known = known_behind l spot spot.mode;
  gate = gate_behind dropped l write c spot spot.mode;
  passed = passed_behind x dropped l write c spot.mode;
}

-- before it, if there is one
abbrev pub before_check : Bool → Label → PlaceMode → List Label
before_check false l Dynamic = l ∷ []
before_check dropped l (LockedGlobal g place) = l ∷ []
before_check dropped l (LockedSibling field mutex) = l ∷ []
before_check dropped l (LockedThrough r place) = l ∷ []
before_check dropped l LockedLoaded = l ∷ []
before_check dropped l mode = []

-- ---- between two statements
-- a register has the old reference of a cell, whose new one is of this type
abbrev pub exchanged : Label → ℕ → StaticType → Label
exchanged l r s = fill (empty l r) r (Refers s) r false

-- a register has the only reference to its object
abbrev pub tested : Label → ℕ → Label
tested l r = record l { gate = Sole r false; passed = without_base r l.passed }

abbrev pub cleared : Label → ℕ → Label
cleared l r = record l { gate = Sole r true; passed = without_base r l.passed }

-- ---- the labels of a piece
abbrev pub inside : Targets → Bool → StaticType → Op → Label → List Label
inside x dropped s op.Enter l = []
inside x dropped s op.BlockEnd l = []
inside x dropped s (op.Settle to from) l = l ∷ empty l to ∷ []
inside x dropped s (op.Load i cell spot) l =
    before_check dropped l spot.mode ++ (behind x dropped l false cell spot ∷ [])
inside x dropped s (op.Store i cell spot) l =
    before_check dropped l spot.mode ++ (behind x dropped l true cell spot ∷ [])
inside x dropped s (op.LoadRef r cell spot) l = before_check false l spot.mode
    ++ (behind x false l false cell spot ∷ gated (behind x false l false cell spot) (Loaded cell) ∷ [])
inside x dropped s (op.StoreRef r cell spot) l = before_check false l spot.mode
    ++ (behind x false l true cell spot ∷ exchanged (behind x false l true cell spot) r s ∷ [])
inside x dropped s (op.TakeCell r cell spot) l =
    before_check false l spot.mode ++ (behind x false l true cell spot ∷ [])
inside x dropped s (op.Give r cells spot) l = l ∷ tested l r ∷ cleared l r ∷ []
inside x dropped s (op.Free r layout spot) l = l ∷ tested l r ∷ []
inside x dropped s o l = l ∷ []

-- the lines from this one on
abbrev pub labels_from : Targets → (ℕ → Bool) → FlatLabels → ℕ → List Op → List Label
labels_from x dropped fl n [] = []
labels_from x dropped fl n (o ∷ os) =
    inside x (dropped n) (fl.replaced n) o (fl.lines.at n) ++ labels_from x dropped fl (n + 1) os

-- what is known at each place of the code that is made
abbrev pub labels_of : Targets → (ℕ → Bool) → FlatLabels → List Op → Labels
labels_of x dropped fl lines =
    record fl.lines { at = λ pc. slice_index_or (outside ∷ outside ∷ labels_from x dropped fl 0 lines) pc outside }
