-- What a turn makes of the whole machine, and what it leaves to the threads that do not make it.
use Rattle.std.specs.Prelude.{ℕ, ◌+◌, ◌≡◌, ◌≢◌, ◌⊎◌, ◌||◌, Bool, false, List, slice_index}
use Rattle.sharc_heap.specs.declared.shadow_word.Kind.TheVariants.{Read, Write}
use Rattle.sharc_code.specs.{declared.code.Code.Code, declared.shape.Shape.Shape, Layout.first_cell, Machine.Machine}
use Rattle.sharc_code.specs.{Path.counted, Runs.{Global, put, is_started}, Whole.bounds}
use Rattle.sharc_invariant.specs.{Granules.{GranuleState, Passed}, World.{RegisterOf, In, Cell, Sole, World, in_ref}}
use Rattle.sharc_invariant.specs.{Blocks.{Heap, Built, InBlock}, Words.{MachineView, register_of, noted_by}}

-- thread t has made a turn: the words are these, and it is there
abbrev pub made_turn : Global Machine → ℕ → List ℕ → Machine → Global Machine
made_turn g t words m = record {
  words = words;
  threads = put g.threads t m;
  started = λ u. is_started bounds words u || g.started u;
  made = put g.made t (g.made t + counted m.at.state);
}

-- its words, registers and notes, where nothing else of the thread has changed
abbrev pub made_conc : Code → MachineView → ℕ → List ℕ → Machine → MachineView
made_conc code c t words m = record c {
  words = λ i. slice_index words i;
  regs = put c.regs t (register_of code m);
  read_notes = put c.read_notes t (noted_by m Read);
  write_notes = put c.write_notes t (noted_by m Write);
}

-- a granule loses passed checks, and nothing else that matters to the thread that has its object alone
pub record OnlyLoses (old new : GranuleState) : Type 0 where
  pub epoch : new.epoch ≡ old.epoch
  pub passed : (v : ℕ) → Passed new v false → Passed old v false

-- the other threads have what they had
pub record KeepsOthers (s : Shape) (w w' : World) (heap heap' : Heap) (words words' : List ℕ) (t : ℕ) : Type 0 where
  pub regs : (u : ℕ) → u ≢ t → (r : ℕ) → w'.slots (In (RegisterOf u r)) ≡ w.slots (In (RegisterOf u r))
  pub win : (u : ℕ) → u ≢ t → w'.win u ≡ w.win u
  -- their passed checks of the globals, and of objects that a register of theirs holds
  pub passed : (u : ℕ) → u ≢ t → (o g : ℕ) (k : Bool) → (o ≡ 0)
      ⊎ ((r : ℕ) × ((in_ref w (RegisterOf u r) ≡ o) × (o ≢ 0))) → Passed (w.gran o g) u k → Passed (w'.gran o g) u k
  -- what they have alone
  pub sole : (u : ℕ) → u ≢ t → (r : ℕ) → w.win u ≡ Sole r
      → (g : ℕ) → OnlyLoses (w.gran (in_ref w (RegisterOf u r)) g) (w'.gran (in_ref w (RegisterOf u r)) g)
  pub cells : (u : ℕ) → u ≢ t → (r : ℕ) → w.win u ≡ Sole r
      → (i : ℕ) → (w'.slots (Cell (in_ref w (RegisterOf u r)) i)).reference
      ≡ (w.slots (Cell (in_ref w (RegisterOf u r)) i)).reference
  -- the blocks that they build, and their words
  pub built : (u : ℕ) → u ≢ t
      → (h : ℕ) → heap.state h ≡ Built u → (heap'.state h ≡ Built u) × (heap'.size h ≡ heap.size h)
  pub within : (u : ℕ) → u ≢ t → (h : ℕ) → heap.state h ≡ Built u
      → (j : ℕ) → InBlock record { first = 1 + s.globals; words = first_cell s } heap h j
      → slice_index words' j ≡ slice_index words j
