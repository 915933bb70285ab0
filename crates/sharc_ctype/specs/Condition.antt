-- The four names of condition variables: `struct cond`, `wait`, `signal` and `broadcast`.
use Rattle.std.specs.Prelude.{Bool, ◌||◌, List, [], ◌∷◌, ◌++◌, is_some, if◌then◌else◌, codes, ℕ}
use Rattle.sharc_names.specs.declared.meaning.ConditionCall.{ConditionCall}
use Rattle.sharc_names.specs.declared.meaning.ConditionCall.TheVariants.{Wait, Signal, Broadcast}
use Rattle.sharc_names.specs.{declared.scope.Scope.Scope, Names.{Entry, condition, known, look_up, struct_of}}

-- whether the file defines one of them: the struct, or a global or a function of the other names
abbrev pub defines_condition : Scope → Bool
defines_condition file = is_some (struct_of file.structs (codes "cond")) || (is_some (look_up file.names (codes "wait"))
    || (is_some (look_up file.names (codes "signal")) || is_some (look_up file.names (codes "broadcast"))))

abbrev pub call_entry : List ℕ → ConditionCall → Entry
call_entry name call = record { name = name; block = 0; meaning = condition call }

abbrev pub with_conditions : Scope → Scope
with_conditions file = record {
  structs = file.structs ++ (codes "cond", known) ∷ [];
  names = call_entry (codes "broadcast") Broadcast
      ∷ (call_entry (codes "signal") Signal ∷ (call_entry (codes "wait") Wait ∷ file.names));
}

-- all four are known exactly where the file defines none of them
abbrev pub known_in : Scope → Scope
known_in file = if defines_condition file then file else with_conditions file
