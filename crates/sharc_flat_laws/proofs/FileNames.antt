-- The names of the file are no variables.
use Rattle.sharc_flat_laws.proofs.Imports.{ℕ, Bool, true, false, cond, List, [], ◌∷◌, is_some, AllByRecursion, GlobalDefinition, Item, structure, global, function, ConditionCall, Scope, Entry, Meaning, Signature, look_up, defines_condition, with_conditions, Heads, global_entry, function_entry, behind, behind_all, no_heads, file_scope}
use Rattle.sharc_names.specs.Names as meaning

module _ (P : Meaning → Type 0) (globals : (n : ℕ) (g : GlobalDefinition) → P (meaning.global n g)) (functions : (n : ℕ) (s : Signature) → P (meaning.function n s)) (conditions : (k : ConditionCall) → P (meaning.condition k)) where
  abbrev All : List Entry → Type 0
  All names = AllByRecursion (λ e. P e.meaning) names

  either : (names : List Entry) (e : Entry) (b : Bool) → All names → P e.meaning → All (cond b names (e ∷ names))
  either names e true all h = all
  either names e false all h = (h, all)

  in_heads : (h : Heads) (items : List Item) → All h.scope.names → All (behind_all h items).scope.names
  in_heads h [] all = all
  in_heads h (structure s ∷ rest) all = in_heads (behind h (structure s)) rest all
  in_heads h (global g ∷ rest) all = in_heads (behind h (global g)) rest (either h.scope.names (global_entry h.globals g) (is_some (look_up h.scope.names g.declaration.name.text)) all (globals _ _))
  in_heads h (function f ∷ rest) all = in_heads (behind h (function f)) rest (either h.scope.names (function_entry h.functions f) (is_some (look_up h.scope.names f.name.text)) all (functions _ _))

  known : (scope : Scope) (b : Bool) → All scope.names → All (cond b scope (with_conditions scope)).names
  known scope true all = all
  known scope false all = (conditions _, (conditions _, (conditions _, all)))

  pub in_file : (items : List Item) → All (file_scope items).names
  in_file items = known (behind_all no_heads items).scope (defines_condition (behind_all no_heads items).scope) (in_heads no_heads items tt)
