-- The world of a code that has made no turn.
use Rattle.std.specs.Prelude.{◌+◌, ◌==◌, true, false, [], slice_index, if◌then◌else◌}
use Rattle.sharc_code.specs.{declared.code.Code.Code, declared.shape.Shape.Shape, Machine.Machine}
use Rattle.sharc_code.specs.{Opening.opening_words, Runs.{Global, opening_of}, Whole.{one_thread, bounds}}
use Rattle.sharc_invariant.specs.{Granules.GranuleState, Types.{Targets, nothing, globals_target, type_at}}
use Rattle.sharc_invariant.specs.World.{Slot, In, Cell, TypedReference, ObjectState, World, none, null, Shut}
use Rattle.sharc_invariant.specs.Blocks.{Heap, Unused}

abbrev pub the_globals : Targets → ObjectState
the_globals x = record { live = true; global = true; ty = record { target = globals_target x; locks = [] }; owner = 0 }

abbrev pub no_object : ObjectState
no_object = record { live = false; global = false; ty = nothing; owner = 0 }

abbrev pub fresh_granule : GranuleState
fresh_granule = record { epoch = 0; wrote = false; has = λ t. false; read_note = λ t. 0; write_note = λ t. 0 }

abbrev pub first_slots : Targets → Slot → TypedReference
first_slots x (In a) = none
first_slots x (Cell o i) = null (type_at x (the_globals x).ty 0 i)

abbrev pub first_world : Targets → World
first_world x = record {
  slots = first_slots x;
  count = λ o. 0;
  obj = λ o. if o == 0 then the_globals x else no_object;
  gran = λ o g. fresh_granule;
  mutex = λ o j. 0;
  win = λ t. Shut;
}

abbrev pub first_heap : Code → Shape → Heap
first_heap code s = record {
  words = λ i. slice_index (opening_words code s) i;
  top = 1 + s.globals;
  heads = λ t k. 0;
  size = λ h. 0;
  state = λ h. Unused;
  deep = λ t k. 0;
}

abbrev pub first_place : Code → Shape → Global Machine
first_place code s = opening_of bounds (one_thread code s) (opening_words code s)
