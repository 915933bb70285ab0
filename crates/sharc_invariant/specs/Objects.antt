-- Which objects there are behind the turns of a run: each comes with the last turn of its New, has another type from
-- its Give on, and is gone from the turn of its Free that sets the count to 0.
use Rattle.std.specs.Prelude.{ℕ, Bool, true, false, List, [], ◌∷◌}
use Rattle.sharc_heap.specs.{declared.stage.NewStage.NewStage, declared.stage.NewStage.TheVariants.Length}
use Rattle.sharc_code.specs.{declared.code.Code.Code, declared.instr.Instr.Instr}
use Rattle.sharc_code.specs.{declared.instr.Instr.TheVariants.{New, Give, Free}, declared.shape.Shape.Shape}
use Rattle.sharc_code.specs.{declared.state.Stage.Stage, declared.state.Stage.TheVariants.{Makes, Uncounts}}
use Rattle.sharc_code.specs.{Machine.{Machine, instr_at, ref}, Runs.{Turn, Global, put, at, after_turn}}
use Rattle.sharc_code.specs.Whole.{one_thread, bounds}
use Rattle.sharc_invariant.specs.{Types.{ObjectType, nothing, type_of}, Labels.{Entry, Empty, Refers, Unknown, Labels}}
use Rattle.sharc_invariant.specs.World.{ObjectState}

-- ---- turns that change an object
abbrev pub is_length : NewStage → Bool
is_length (Length header) = true
is_length _ = false

abbrev pub makes_object : Stage → Bool
makes_object (Makes v) = is_length v.stage
makes_object _ = false

abbrev pub frees_object : Stage → Bool
frees_object (Uncounts all) = true
frees_object _ = false

-- the turn of this instruction makes an object, gives one or frees one
abbrev pub changes_objects : Instr → Machine → Bool
changes_objects (New r count cells site) m = makes_object m.own.stage
changes_objects (Give r site) m = true
changes_objects (Free r layout site) m = frees_object m.own.stage
changes_objects _ m = false

-- ---- what they make of it
-- the type that a place says of a reference to object o
abbrev pub entry_type : (ℕ → ℕ) → ℕ → Entry → ObjectType
entry_type refs o Empty = nothing
entry_type refs o (Refers s) = type_of refs o s
entry_type refs o Unknown = nothing

-- of what register r refers to, where the thread stands
abbrev pub type_held : Labels → Machine → ℕ → ObjectType
type_held ls m r = entry_type (ref m) (ref m r) ((ls.at m.at.pc).env r)

abbrev pub owned : ℕ → ObjectType → ObjectState
owned t ty = record { live = true; global = false; ty = ty; owner = t }

abbrev pub gone : ObjectState
gone = record { live = false; global = false; ty = nothing; owner = 0 }

-- the turn of thread t led from the first machine to the second
abbrev pub new_behind : Labels → ℕ → ℕ → Machine → NewStage → (ℕ → ObjectState) → ℕ → ObjectState
new_behind ls t r m' (Length header) f = put f header (owned t (type_held ls m' r))
new_behind ls t r m' _ f = f

abbrev pub made_behind : Labels → ℕ → ℕ → Machine → Stage → (ℕ → ObjectState) → ℕ → ObjectState
made_behind ls t r m' (Makes v) f = new_behind ls t r m' v.stage f
made_behind ls t r m' _ f = f

abbrev pub freed_behind : ℕ → Stage → (ℕ → ObjectState) → ℕ → ObjectState
freed_behind o (Uncounts all) f = put f o gone
freed_behind o _ f = f

abbrev pub objects_behind : Labels → ℕ → Instr → Machine → Machine → (ℕ → ObjectState) → ℕ → ObjectState
objects_behind ls t (New r count cells site) m m' f = made_behind ls t r m' m.own.stage f
objects_behind ls t (Give r site) m m' f = put f (ref m r) (owned t (type_held ls m' r))
objects_behind ls t (Free r layout site) m m' f = freed_behind (ref m r) m.own.stage f
objects_behind ls t _ m m' f = f

-- behind one turn of a run
abbrev pub objects_now : Code → Shape → Labels → Global Machine → Turn → (ℕ → ObjectState) → ℕ → ObjectState
objects_now code s ls g tr f =
    objects_behind ls tr.thread (instr_at code (g.threads tr.thread).at.pc) (g.threads tr.thread)
    ((after_turn bounds (one_thread code s) g tr).threads tr.thread) f

-- behind the turns of a run from a place where the objects are these
abbrev pub objects_after : Code → Shape → Labels → Global Machine → (ℕ → ObjectState) → List Turn → ℕ → ObjectState
objects_after code s ls from f [] = f
objects_after code s ls from f (tr ∷ earlier) =
    objects_now code s ls (at bounds (one_thread code s) from earlier) tr (objects_after code s ls from f earlier)
