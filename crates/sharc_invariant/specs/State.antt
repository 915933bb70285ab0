-- The invariant of a place of a checked run of typed code: a world that is the machine's, and each thread at a place
-- whose label it stands to.
use Rattle.std.specs.Prelude.{ℕ, ℤ, pos, zero, suc, ◌+◌, ◌-◌, ◌*◌, ◌/◌, ◌^◌, ◌≡◌, ◌≢◌, ◌<◌, ◌≤◌, ◌↔◌, min, max, true}
use Rattle.std.specs.Prelude.{false, List, [], length, Option, Some, None, Contains, slice_index, slice_index_or}
use Rattle.sharc_word.specs.declared.step.TheConstants.{THREADS}
use Rattle.sharc_heap.specs.{State.NewView, Block.block_of, declared.stage.NewStage.NewStage, Accesses.ListsNoted}
use Rattle.sharc_heap.specs.ShadowWord.{epoch_of}
use Rattle.sharc_heap.specs.declared.stage.NewStage.TheVariants as news
use Rattle.sharc_locks.specs.{declared.held_log.HeldMutex.HeldMutex, HeldLog.IsHeldLog}
use Rattle.sharc_code.specs.{declared.state.TheConstants.FRAMES, declared.code.Code.Code, declared.instr.Cell.Cell}
use Rattle.sharc_code.specs.declared.instr.Instr.{Instr}
use Rattle.sharc_code.specs.declared.instr.Instr.TheVariants.{Call, New, Clear, Free, Spawn, Start, Exit, CondSignal}
use Rattle.sharc_code.specs.{declared.instr.Register.Register, declared.shape.Shape.Shape, declared.state.Frame.Frame}
use Rattle.sharc_code.specs.declared.state.Stage.{Stage}
use Rattle.sharc_code.specs.declared.state.Stage.TheVariants.{Rests, Looks, Clears, Makes, Empties, Lowers, FreeLooks}
use Rattle.sharc_code.specs.declared.state.Stage.TheVariants.{FreeClears, Uncounts, Links, Names, Hands, Begins, Enters}
use Rattle.sharc_code.specs.declared.state.Stage.TheVariants.{Withdraws, WithdrawsFrom, Leaves, Wakes}
use Rattle.sharc_code.specs.Arithmetic.{holds, int_of}
use Rattle.sharc_code.specs.Layout.{words_of, top_word, next_thread_word, state_word, function_word, argument_word}
use Rattle.sharc_code.specs.Layout.{granules, first_cell, cell_of, cell_word}
use Rattle.sharc_code.specs.Machine.{Machine, argument, instr_at, layout_at, no_frame, int, ref, place, word, is_held}
use Rattle.sharc_code.specs.Machine.{pointer_cell, fields, data_granules, new_state, elements_of}
use Rattle.sharc_code.specs.{Path.{begun, may_go, most_ints, most_refs}, Runs.Global}
use Rattle.sharc_code.specs.declared.instr.Cell.TheVariants as cells
use Rattle.sharc_invariant.specs.Granules.{GranuleState, sum_to, Passed}
use Rattle.sharc_invariant.specs.Types.{Targets, ObjectType, nothing, cells_of, field_in, globals_target, is_mutex}
use Rattle.sharc_invariant.specs.Types.{type_of}
use Rattle.sharc_invariant.specs.Labels.{Entry, Empty, Refers, Unknown, Element, Named, Nth, Number, Anything, Exactly}
use Rattle.sharc_invariant.specs.Labels.{Within, Indexes, OfElement, OfGlobal, Gate, Closed, Checked, Holds, Loaded}
use Rattle.sharc_invariant.specs.Labels.{HoldsLoaded, Sole, Pass, IsIn, Label, Labels, Leads, empty}
use Rattle.sharc_invariant.specs.Typed.{Calls, called_label}
use Rattle.sharc_invariant.specs.World.{RegisterOf, ArgumentOf, In, Cell as CellOf, ObjectState, Base, By}
use Rattle.sharc_invariant.specs.World.{Global as OfGlobals, Shut, May, Loaded as IsLoaded, Sole as IsSole, World, Size}
use Rattle.sharc_invariant.specs.World.{WorldInvariant, in_ref}
use Rattle.sharc_invariant.specs.Words.{lang_of, conc_of, head_of, is_unread, Apart, Shows, cell_at}
use Rattle.sharc_invariant.specs.Blocks.{Heap, Kept, Live, Built}

-- ---- a frame
-- what a thread sees: its registers of both banks with the types of what they refer to, the granules of objects, and
-- their elements
pub record View : Type 0 where
  pub refs : ℕ → ℕ
  pub types : ℕ → ObjectType
  pub vals : ℕ → ℤ
  pub gran : ℕ → ℕ → GranuleState
  pub elements : ℕ → ℕ

abbrev pub vals_of : Machine → ℕ → ℤ
vals_of m i = slice_index_or m.ints i (pos 0)

abbrev pub view_of : (ℕ → ℕ) → World → ℕ → Machine → View
view_of elements w t m = record {
  refs = λ i. in_ref w (RegisterOf t i);
  types = λ i. (w.slots (In (RegisterOf t i))).ty;
  vals = vals_of m;
  gran = w.gran;
  elements = elements;
}

abbrev pub refs_at : View → ℕ → ℕ → ℕ
refs_at v base r = v.refs (base + r)

abbrev pub types_at : View → ℕ → ℕ → ObjectType
types_at v base r = v.types (base + r)

abbrev pub EntryStands : (ℕ → ℕ) → (ℕ → ObjectType) → ℕ → Entry → Type 0
EntryStands refs types r Empty = refs r ≡ 0
EntryStands refs types r (Refers s) = refs r ≢ 0 → types r ≡ type_of refs (refs r) s
EntryStands refs types r Unknown = Unit {0}

abbrev pub ElementStands : (ℕ → ℤ) → ℕ → Element → Type 0
ElementStands names n (Named name) = names name ≡ pos n
ElementStands names n (Nth k) = n ≡ k

abbrev pub NumberStands : Targets → (ℕ → ℕ) → (ℕ → ℕ) → (ℕ → ObjectType) → (ℕ → ℤ) → ℤ → Number → Type 0
NumberStands x elements refs types names v Anything = Unit {0}
NumberStands x elements refs types names v (Exactly z) = v ≡ z
NumberStands x elements refs types names v (Within w) = holds w v ≡ true
NumberStands x elements refs types names v (Indexes name) = v ≡ names name
NumberStands x elements refs types names v (OfElement b field e) =
    (n : ℕ) × (n < elements (refs b)) × (v ≡ pos (n * cells_of x (types b).target + field)) × ElementStands names n e
NumberStands x elements refs types names v (OfGlobal first count all e) =
    (n : ℕ) × (n < all) × (v ≡ pos (first + n * count)) × ElementStands names n e

-- a check is remembered
abbrev pub PassStands : (ℕ → ℕ → GranuleState) → ℕ → (ℕ → ℕ) → Pass → Option ℕ → Type 0
PassStands gran t refs p None = Passed (gran 0 (p.cell / 2)) t p.write
PassStands gran t refs p (Some b) = refs b ≢ 0 → Passed (gran (refs b) (p.cell / 2)) t p.write

-- the first n reference registers and the first k integers of a frame that begins at these registers are as the label
-- says
pub record FrameStands (x : Targets) (t : ℕ) (v : View) (base ints : ℕ) (names : ℕ → ℤ) (l : Label)
    (n k : ℕ) : Type 0 where
  pub env : (r : ℕ) → r < n → EntryStands (refs_at v base) (types_at v base) r (l.env r)
  pub same : (r : ℕ) → r < n → refs_at v base (l.same r) ≡ refs_at v base r
  pub known : (r : ℕ) → r < n → l.known r ≡ true → refs_at v base r ≢ 0
  pub numbers : (i : ℕ) → i < k
      → NumberStands x v.elements (refs_at v base) (types_at v base) names (v.vals (ints + i)) (l.ints i)
  pub passed : (p : Pass) → IsIn p l.passed → PassStands v.gran t (refs_at v base) p p.base

-- the frame on top, with all registers from its beginning on
abbrev pub TopStands : Targets → ℕ → View → ℕ → ℕ → (ℕ → ℤ) → Label → Type 0
TopStands x t v base ints names l = (n k : ℕ) → FrameStands x t v base ints names l n k

abbrev pub frame_at : List Frame → ℕ → Frame
frame_at frames d = slice_index_or frames d no_frame

-- so many callers stand below a frame that begins at these registers and is one of function f; the lowest is that of
-- the thread's Start
pub record CallerStands (x : Targets) (code : Code) (ls : Labels) (t : ℕ) (v : View) (fr : Frame) (base ints : ℕ)
    (f g : ℕ) : Type 0 where
  pub call : ℕ
  pub refs : ℕ
  pub first : ℕ
  pub to : ℕ
  pub site : ℕ
  pub place : fr.pc ≡ call + 1
  pub is_call : instr_at code call ≡ Call to first refs site
  pub calls : Calls code ls (ls.at call) to first refs f
  pub leads : Leads ls (call + 1) (called_label ls (ls.at call) f first refs)
  pub caller : (ls.at call).function ≡ Some g
  pub alone : (ls.signature g).alone ≡ true → t ≡ 0
  pub base_is : base ≡ fr.refs + refs
  pub ints_are : ints ≡ fr.ints + first
  pub names : ℕ → ℤ
  pub frame : FrameStands x t v fr.refs fr.ints names (called_label ls (ls.at call) f first refs) refs first

pub record StartStands (fr : Frame) (base ints : ℕ) : Type 0 where
  pub pc : fr.pc ≡ 1
  pub refs : fr.refs ≡ 0
  pub first : fr.ints ≡ 0
  pub base_is : base ≡ 0
  pub ints_are : ints ≡ 0

abbrev pub BelowStands : Targets → Code → Labels → ℕ → View → List Frame → ℕ → ℕ → ℕ → ℕ → Type 0
BelowStands x code ls t v frames zero base ints f = ⊥
BelowStands x code ls t v frames (suc zero) base ints f =
    StartStands (frame_at frames 0) base ints × (ls.starts f ≡ true)
BelowStands x code ls t v frames (suc (suc d)) base ints f =
    (g : ℕ) × CallerStands x code ls t v (frame_at frames (suc d)) base ints f g
    × BelowStands x code ls t v frames (suc d) (frame_at frames (suc d)).refs (frame_at frames (suc d)).ints g

-- a function's code has its callers below; no frame stands where a thread begins and ends
abbrev pub FramesStand : Targets → Code → Labels → ℕ → View → Machine → Option ℕ → Type 0
FramesStand x code ls t v m None = (m.at.depth ≡ 0) × (m.at.refs ≡ 0) × (m.at.ints ≡ 0)
FramesStand x code ls t v m (Some f) = BelowStands x code ls t v m.frames m.at.depth m.at.refs m.at.ints f
    × (m.at.depth ≤ FRAMES) × ((ls.signature f).alone ≡ true → t ≡ 0)

-- ---- what stands directly before
abbrev pub base_of_cell : Machine → Cell → Base
base_of_cell m (cells.Global g p) = OfGlobals 0
base_of_cell m (cells.GlobalAt g i) = OfGlobals 0
base_of_cell m (cells.Object r i) = By (m.at.refs + r)
base_of_cell m (cells.ObjectAt r i) = By (m.at.refs + r)

-- the number of a cell in the object of its base
abbrev pub object_of_cell : Machine → Cell → ℕ
object_of_cell m (cells.Global g p) = 0
object_of_cell m (cells.GlobalAt g i) = 0
object_of_cell m (cells.Object r i) = ref m r
object_of_cell m (cells.ObjectAt r i) = ref m r

abbrev pub number_in : Machine → Cell → ℕ
number_in m c = place m c - 2 * (object_of_cell m c + 1)

abbrev pub GateStands : Shape → World → ℕ → Machine → Gate → Type 0
GateStands s w t m Closed = w.win t ≡ Shut
GateStands s w t m (Checked write c) = w.win t ≡ May write (base_of_cell m c) (number_in m c)
GateStands s w t m (Holds c) = (w.win t ≡ Shut) × (is_held m (word s m c) ≡ true)
GateStands s w t m (Loaded c) = w.win t ≡ IsLoaded (base_of_cell m c) (number_in m c) m.pending
GateStands s w t m (HoldsLoaded c) = (w.win t ≡ IsLoaded (base_of_cell m c) (number_in m c) m.pending) × (m.pending ≢ 0)
    × (is_held m (cell_word s (cell_of m.pending 0)) ≡ true)
GateStands s w t m (Sole r cleared) = w.win t ≡ IsSole (m.at.refs + r)

-- the window of a thread that has stopped: shut, or the one in which it had loaded a reference
abbrev pub StopStands : World → ℕ → Machine → Gate → Type 0
StopStands w t m (Loaded c) = w.win t ≡ IsLoaded (base_of_cell m c) (number_in m c) m.pending
StopStands w t m (HoldsLoaded c) = w.win t ≡ IsLoaded (base_of_cell m c) (number_in m c) m.pending
StopStands w t m gate = w.win t ≡ Shut

-- ---- instructions of several turns
-- the pointer cells of the first i pointers of an object that a Free empties
abbrev pub AreEmpty : Code → World → ℕ → ℕ → ℕ → Type 0
AreEmpty code w layout o i = (j : ℕ) → j < i
    → (w.slots (CellOf o (pointer_cell code (layout_at code layout) j))).reference ≡ 0

abbrev pub all_pointers : Code → ℕ → ℕ → ℕ
all_pointers code layout elements = elements * fields (layout_at code layout)

-- thread t has the number n of a new thread, which is not started
pub record Reserves (words : List ℕ) (t n : ℕ) : Type 0 where
  pub few : n < THREADS
  pub given : n < slice_index words next_thread_word
  pub first : 0 < n
  pub state : slice_index words (state_word n) ≡ 0

-- the granules of the block for so many cells
unfoldable pub block_for : ℕ → ℕ
block_for cells = block_of (min (max 1 cells) (2 ^ 32))

-- a New: its block is found, built by the thread, and so many cells of it are cleared
abbrev pub BuildsAt : List ℕ → Heap → ℕ → NewView → NewStage → Type 0
BuildsAt words heap t v (news.Cell cell) =
    (2 + v.arguments.cells ≤ 2 * v.arguments.block) × (heap.state v.arguments.head ≡ Built t)
    × (heap.size v.arguments.head ≡ v.arguments.block) × (cell < v.arguments.cells)
    × ((i : ℕ) → i < cell → slice_index words (v.arguments.first + 2 * v.arguments.head + 2 + i) ≡ 0)
BuildsAt words heap t v (news.Move top moved) = (moved ≡ top + v.arguments.block) × (moved ≤ v.arguments.end)
BuildsAt words heap t v (news.Count h) =
    (2 + v.arguments.cells ≤ 2 * v.arguments.block) × (heap.state h ≡ Built t) × (heap.size h ≡ v.arguments.block)
    × ((i : ℕ) → i < v.arguments.cells → slice_index words (v.arguments.first + 2 * h + 2 + i) ≡ 0)
BuildsAt words heap t v (news.Length h) =
    (2 + v.arguments.cells ≤ 2 * v.arguments.block) × (heap.state h ≡ Built t) × (heap.size h ≡ v.arguments.block)
    × ((i : ℕ) → i < v.arguments.cells → slice_index words (v.arguments.first + 2 * h + 2 + i) ≡ 0)
    × (slice_index words (v.arguments.first + 2 * h) ≡ 1)
BuildsAt words heap t v _ = ⊥

-- the granules of an object that were cleared since the thread had it alone: nobody has passed a check there
abbrev pub AreCleared : World → ℕ → ℕ → Type 0
AreCleared w o n = (g : ℕ) → g < n → (t : ℕ) → Passed (w.gran o g) t false → ⊥

-- the instruction is one of this kind, and of its operands this holds
abbrev pub OnClear : (ℕ → ℕ → Type 0) → Instr → Type 0
OnClear P (Clear r count) = P r count
OnClear P _ = ⊥

abbrev pub OnNew : (ℕ → ℕ → ℕ → Type 0) → Instr → Type 0
OnNew P (New r count cells site) = P r count cells
OnNew P _ = ⊥

abbrev pub OnFree : (ℕ → ℕ → Type 0) → Instr → Type 0
OnFree P (Free r layout site) = P r layout
OnFree P _ = ⊥

abbrev pub OnSpawn : (ℕ → Register → Type 0) → Instr → Type 0
OnSpawn P (Spawn r f from site) = P f from
OnSpawn P _ = ⊥

abbrev pub OnStart : Type 0 → Instr → Type 0
OnStart P (Start site) = P
OnStart P _ = ⊥

abbrev pub OnExit : Type 0 → Instr → Type 0
OnExit P Exit = P
OnExit P _ = ⊥

abbrev pub OnSignal : Instr → Type 0
OnSignal (CondSignal c site) = Unit {0}
OnSignal _ = ⊥

-- the granules of an object that were cleared, and the word that was loaded of the next
abbrev pub Clearing : World → ℕ → ℕ → ℕ → Type 0
Clearing w o done all = (done < all) × AreCleared w o done

abbrev pub Swapping : World → ℕ → ℕ → ℕ → ℕ → Type 0
Swapping w o done all seen = (done < all) × AreCleared w o done × (epoch_of seen ≡ (w.gran o done).epoch)

abbrev pub granules_freed : Code → ℕ → ℕ → ℕ
granules_freed code layout all = data_granules all (layout_at code layout).cells

-- a Free has emptied the first i pointers of its object, all but what it has found in the last
abbrev pub Emptying : Code → (ℕ → ℕ) → World → ℕ → ℕ → ℕ → ℕ → Type 0
Emptying code elements w o layout all i =
    (all ≡ elements o) × (i ≤ all_pointers code layout all) × AreEmpty code w layout o i

abbrev pub StageStands : Code → Shape → (ℕ → ℕ) → World → Heap → List ℕ → ℕ → Machine → Instr → Stage → Type 0
StageStands code s elements w heap words t m i Rests = Unit {0}
StageStands code s elements w heap words t m i (Looks done all) =
    OnClear (λ r count. (all ≡ data_granules (elements (ref m r)) count) × Clearing w (ref m r) done all) i
StageStands code s elements w heap words t m i (Clears done all seen) =
    OnClear (λ r count. (all ≡ data_granules (elements (ref m r)) count) × Swapping w (ref m r) done all seen) i
StageStands code s elements w heap words t m i (Makes v) =
    OnNew (λ r count cells. (v.arguments ≡ (new_state s m (elements_of (int m count)) cells).arguments)
    × BuildsAt words heap t v v.stage) i
StageStands code s elements w heap words t m i (Empties j all) =
    OnFree (λ r layout. Emptying code elements w (ref m r) layout all j × (j < all_pointers code layout all)) i
StageStands code s elements w heap words t m i (Lowers j all found) =
    OnFree (λ r layout. Emptying code elements w (ref m r) layout all (j + 1) × (found ≢ 0)) i
StageStands code s elements w heap words t m i (FreeLooks done all) =
    OnFree (λ r layout. Emptying code elements w (ref m r) layout all (all_pointers code layout all)
    × Clearing w (ref m r) done (granules_freed code layout all)) i
StageStands code s elements w heap words t m i (FreeClears done all seen) =
    OnFree (λ r layout. Emptying code elements w (ref m r) layout all (all_pointers code layout all)
    × Swapping w (ref m r) done (granules_freed code layout all) seen) i
StageStands code s elements w heap words t m i (Uncounts all) =
    OnFree (λ r layout. Emptying code elements w (ref m r) layout all (all_pointers code layout all)
    × AreCleared w (ref m r) (granules_freed code layout all)) i
StageStands code s elements w heap words t m i (Links all) = OnFree (λ r layout. (heap.state (ref m r) ≡ Built t)
    × (ref m r ≢ 0) × (heap.size (ref m r) ≡ block_for (all * (layout_at code layout).cells))) i
StageStands code s elements w heap words t m i (Names n) = OnSpawn (λ f from. Reserves words t n) i
StageStands code s elements w heap words t m i (Hands n) =
    OnSpawn (λ f from. Reserves words t n × (slice_index words (function_word n) ≡ f)) i
StageStands code s elements w heap words t m i (Begins n) = OnSpawn (λ f from. Reserves words t n
    × (slice_index words (function_word n) ≡ f) × (slice_index words (argument_word n) ≡ argument m from)) i
StageStands code s elements w heap words t m i (Enters f) = OnStart (slice_index words (function_word t) ≡ f) i
StageStands code s elements w heap words t m i (Withdraws row) = OnExit (row < length m.own.table.order) i
StageStands code s elements w heap words t m i (WithdrawsFrom row seen) = OnExit (row < length m.own.table.order) i
StageStands code s elements w heap words t m i Leaves = OnExit (Unit {0}) i
StageStands code s elements w heap words t m i (Wakes seen) = OnSignal i

-- no Free has freed its object already and is to put the block into a list
abbrev pub OnHold : Stage → Type 0
OnHold (Links all) = ⊥
OnHold _ = Unit {0}

-- ---- a thread
-- behind the turn that frees its object a Free has none
abbrev pub label_now : Label → Instr → Stage → Label
label_now l (Free r layout site) (Links all) = empty l r
label_now l i stage = l

-- a thread that may go on
pub record Runs (x : Targets) (code : Code) (s : Shape) (ls : Labels) (elements : ℕ → ℕ) (w : World) (heap : Heap)
    (g : Global Machine) (t : ℕ) (m : Machine) : Type 0 where
  pub names : ℕ → ℤ
  pub top : TopStands x t (view_of elements w t m) m.at.refs m.at.ints names
      (label_now (ls.at m.at.pc) (instr_at code m.at.pc) m.own.stage)
  pub below : FramesStand x code ls t (view_of elements w t m) m (ls.at m.at.pc).function
  pub gate : GateStands s w t m (label_now (ls.at m.at.pc) (instr_at code m.at.pc) m.own.stage).gate
  pub stage : StageStands code s elements w heap g.words t m (instr_at code m.at.pc) m.own.stage
  pub room : (ls.at m.at.pc).room ≡ true → length m.own.held < 16

-- what stands of every thread
pub record IsThread (code : Code) (s : Shape) (t : ℕ) (m : Machine) : Type 0 where
  pub number : m.own.number ≡ t
  pub log : IsHeldLog m.own.held
  pub refs : length m.refs ≡ FRAMES * most_refs code.functions.items
  pub ints : length m.ints ≡ FRAMES * most_ints code.functions.items
  pub frames : length m.frames ≡ FRAMES
  pub heads : length m.own.heads ≡ 16
  pub notes : length m.own.table.notes ≡ granules s
  pub table : ListsNoted m.own.table

pub record ThreadStands (x : Targets) (code : Code) (s : Shape) (ls : Labels) (elements : ℕ → ℕ) (w : World)
    (heap : Heap) (g : Global Machine) (t : ℕ) : Type 0 where
  pub has : IsThread code s t (g.threads t)
  pub runs : g.started t ≡ true → may_go (g.threads t).at.state ≡ true
      → Runs x code s ls elements w heap g t (g.threads t)
  pub off : g.started t ≡ false → w.win t ≡ Shut
  pub stopped : may_go (g.threads t).at.state ≡ false → StopStands w t (g.threads t) (ls.at (g.threads t).at.pc).gate
  pub waits : g.started t ≡ false → g.threads t ≡ begun code s t

-- ---- the words of threads
-- the thread is spawning the one of this number
abbrev pub SpawnsNow : Stage → ℕ → Type 0
SpawnsNow (Names k) n = k ≡ n
SpawnsNow (Hands k) n = k ≡ n
SpawnsNow (Begins k) n = k ≡ n
SpawnsNow _ n = ⊥

pub record Threads (code : Code) (ls : Labels) (w : World) (g : Global Machine) : Type 0 where
  pub few : (t : ℕ) → g.started t ≡ true → t < THREADS
  pub started : (t : ℕ) → t < THREADS → slice_index g.words (state_word t) ≡ 0 ↔ (g.started t ≡ false)
  pub given : (t : ℕ) → t < THREADS → slice_index g.words (state_word t) ≢ 0 → t < slice_index g.words next_thread_word
  -- one that is to read its argument begins with a function that may, and with what that takes
  pub function : (t : ℕ) → t < THREADS → slice_index g.words (state_word t) ≡ 1
      → ls.starts (slice_index g.words (function_word t)) ≡ true
  pub argument : (t : ℕ) → t < THREADS → EntryStands (λ r. in_ref w (ArgumentOf t))
      (λ r. (w.slots (In (ArgumentOf t))).ty) 0 ((ls.signature (slice_index g.words (function_word t))).takes 0)
  -- no two threads spawn one
  pub one : (t u n : ℕ) → SpawnsNow (g.threads t).own.stage n → SpawnsNow (g.threads u).own.stage n → t ≡ u

-- one that is to read its argument has not said that it returned; thread 0's functions are not those of others, and a
-- number is as it is taken
pub record Firsts (x : Targets) (ls : Labels) (g : Global Machine) : Type 0 where
  pub unread : (t : ℕ) → t < THREADS → g.started t ≡ true → is_unread (g.threads t) ≡ true
      → slice_index g.words (state_word t) ≡ 1
  pub alone : (t : ℕ) → t < THREADS → slice_index g.words (state_word t) ≡ 1
      → (ls.signature (slice_index g.words (function_word t))).alone ≡ true → t ≡ 0
  pub number : (t : ℕ) → t < THREADS → slice_index g.words (state_word t) ≡ 1
      → NumberStands x (λ o. 0) (λ r. 0) (λ r. nothing) (λ n. pos 0) (int_of (slice_index g.words (argument_word t)))
      ((ls.signature (slice_index g.words (function_word t))).takes_ints 0)
  -- a number that a thread spawns was given out, and few were
  pub spawns : (t n : ℕ) → SpawnsNow (g.threads t).own.stage n → n < slice_index g.words next_thread_word
  pub few : slice_index g.words next_thread_word ≤ 1 + sum_to THREADS g.made

-- ---- mutexes
-- a mutex of a live object or of the globals is held by the thread whose log has it, and by no other
pub record Locks (x : Targets) (s : Shape) (cells : ℕ → ℕ) (w : World) (g : Global Machine) : Type 0 where
  pub held : (t o j : ℕ) → t < THREADS → (w.obj o).live ≡ true → j < cells o
      → is_mutex (field_in x (w.obj o).ty j).holds ≡ true
      → (w.mutex o j ≡ suc t) ↔ (is_held (g.threads t) (cell_at s o j) ≡ true)
  pub logged : (t : ℕ) (h : HeldMutex) → Contains (g.threads t).own.held h
      → (j : ℕ) × ((h.word ≡ cell_at s h.object j) × ((w.obj h.object).live ≡ true) × (j < cells h.object)
      × (is_mutex (field_in x (w.obj h.object).ty j).holds ≡ true))
  pub few : (o j t : ℕ) → w.mutex o j ≡ suc t → t < THREADS
  pub only : (o j : ℕ) → w.mutex o j ≢ 0
      → ((w.obj o).live ≡ true) × (j < cells o) × (is_mutex (field_in x (w.obj o).ty j).holds ≡ true)

-- ---- the heap
pub record HeapStands (s : Shape) (cells : ℕ → ℕ) (g : Global Machine) (obj : ℕ → ObjectState)
    (heap : Heap) : Type 0 where
  pub kept : Kept record { first = 1 + s.globals; words = first_cell s } heap
  pub words : (i : ℕ) → heap.words i ≡ slice_index g.words i
  pub top : heap.top ≡ slice_index g.words top_word
  pub within : heap.top ≤ granules s
  pub heads : (t k : ℕ) → t < THREADS → k < 16 → heap.heads t (2 ^ (k + 1)) ≡ head_of (g.threads t) k
  pub powers : (h : ℕ) → heap.size h ≢ 0 → (k : ℕ) × ((k < 16) × (heap.size h ≡ 2 ^ (k + 1)))
  pub live : (o : ℕ) → o ≢ 0 → ((obj o).live ≡ true) ↔ (heap.state o ≡ Live)
  pub room : (o : ℕ) → o ≢ 0 → (obj o).live ≡ true → 2 + cells o ≤ 2 * heap.size o
  pub sizes : (o : ℕ) → o ≢ 0 → (obj o).live ≡ true → heap.size o ≡ block_for (cells o)

-- ---- the place of a run
abbrev pub size_of_run : Code → Shape → Size
size_of_run code s = record {
  threads = THREADS;
  regs = FRAMES * most_refs code.functions.items;
  log = words_of s;
  objects = granules s;
  cells = 2 * granules s;
}

pub record State (x : Targets) (code : Code) (s : Shape) (ls : Labels) (g : Global Machine) (w : World) : Type 0 where
  pub cells : ℕ → ℕ
  pub elements : ℕ → ℕ
  pub heap : Heap
  pub inv : WorldInvariant (size_of_run code s) (lang_of x) w
  pub sim : Shows x s cells elements (conc_of code g) w
  pub apart : Apart s w.obj cells
  pub heap_stands : HeapStands s cells g w.obj heap
  pub locks : Locks x s cells w g
  pub threads : (t : ℕ) → ThreadStands x code s ls elements w heap g t
  pub begins : Threads code ls w g
  pub firsts : Firsts x ls g
  -- object 0 is that of the globals, and it is thread 0's; every other object has a row's type and whole elements of it
  pub globals : w.obj 0
      ≡ record { live = true; global = true; ty = record { target = globals_target x; locks = [] }; owner = 0 }
  pub globals_cells : cells 0 ≡ 2 * s.globals
  pub rows : (o : ℕ) → o ≢ 0 → (w.obj o).live ≡ true
      → ((w.obj o).global ≡ false) × ((w.obj o).ty.target < length x.rows)
  pub whole : (o : ℕ) → o ≢ 0 → (w.obj o).live ≡ true
      → (1 ≤ elements o) × (cells o ≡ elements o * cells_of x (w.obj o).ty.target)
  -- words are as many as there are to be, and each is one
  pub length_is : length g.words ≡ words_of s
  pub are_words : (i : ℕ) → slice_index g.words i < 2 ^ 64
  -- no epoch has come twice
  pub epochs : (i : ℕ) → i < granules s → epoch_of (slice_index g.words (97 + i)) ≤ sum_to THREADS g.made
  pub few : (t : ℕ) → g.made t ≤ 100000000

-- no count can pass a word
abbrev pub most_references : Size → ℕ
most_references z = z.threads * z.regs + (z.threads + (z.threads * z.log + (z.threads + z.objects * z.cells)))

pub record IsSmall (code : Code) (s : Shape) : Type 0 where
  pub counts : most_references (size_of_run code s) + 1 < 2 ^ 64
  pub functions : length code.functions.items < 2 ^ 64
