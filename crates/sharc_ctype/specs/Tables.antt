-- The tables of a typed program: where its structs, globals and functions are among its items, all other declarations,
-- what has a type with modes, and the constant variables.
use Rattle.std.specs.Prelude.{◌≡◌, ℕ, ◌+◌, Bool, true, false, List, [], ◌∷◌, Option, Some, None, if◌then◌else◌}
use Rattle.sharc_tree.specs.declared.tree.item.StructDefinition.{StructDefinition}
use Rattle.sharc_tree.specs.declared.tree.item.GlobalDefinition.{GlobalDefinition}
use Rattle.sharc_tree.specs.Tree.{Function, Item, structure, global, function}
use Rattle.sharc_names.specs.declared.fault.Named.{Named}
use Rattle.sharc_ctype.specs.{declared.tables.ItemForm.ItemForm, declared.tables.Tables.Tables, Constants.HasConstants}
use Rattle.sharc_ctype.specs.{Entities.entities_in, Resolved.declarations_in}
use Rattle.sharc_ctype.specs.declared.tables.ItemForm.TheVariants as form

abbrev pub has_form : ItemForm → Item → Bool
has_form form.Struct (structure s) = true
has_form form.Global (global g) = true
has_form form.Function (function f) = true
has_form _ _ = false

-- the places of the items of one form, where the first item has such a place
abbrev pub places_of : ItemForm → ℕ → List Item → List ℕ
places_of form first [] = []
places_of form first (i ∷ rest) =
    if has_form form i then first ∷ places_of form (first + 1) rest else places_of form (first + 1) rest

abbrev pub as_structure : Item → Option StructDefinition
as_structure (structure s) = Some s
as_structure (global g) = None
as_structure (function f) = None

abbrev pub as_global : Item → Option GlobalDefinition
as_global (structure s) = None
as_global (global g) = Some g
as_global (function f) = None

abbrev pub as_function : Item → Option Function
as_function (structure s) = None
as_function (global g) = None
as_function (function f) = Some f

-- these are the tables of a program with such items, whose tokens name this
pub record AreTables (items : List Item) (names : List Named) (t : Tables) : Type 0 where
  pub structs : t.structs.items ≡ places_of form.Struct 0 items
  pub globals : t.globals.items ≡ places_of form.Global 0 items
  pub functions : t.functions.items ≡ places_of form.Function 0 items
  pub declared : t.declared ≡ declarations_in items
  pub entities : t.entities ≡ entities_in items
  pub constants : HasConstants names items t.constants.keys
