-- The accesses of an accepted program, in the form in which sharc_typed_laws asks for them of each expression.
use Rattle.std.specs.{Prelude.{◌≡◌, ℕ, ◌<◌, Bool, true, false, List, ◌∷◌, Some, None}, List.AllByRecursion}
use Rattle.sharc_tree.specs.{declared.token.Site.Site, Measures.expressions, Tree.Expression}
use Rattle.sharc_names.specs.declared.fault.Named.TheVariants as named
use Rattle.sharc_names.specs.Kinds.{mutex, is_integer, is_pointer}
use Rattle.sharc_code.specs.{declared.code.Code.Code, declared.code.Use.Use}
use Rattle.sharc_ctype.specs.Resolved.{named_at, named_kind, global_at, kind_at}
use Rattle.sharc_meaning.specs.Cells.{global_elements, field_place_behind}
use Rattle.sharc_mode.specs.{Cells.cell_at, Rows.{constant_use, modes_at}}
use Rattle.sharc_mode.specs.Sharings.{Lock, Sharing, private, readonly, locked}
use Rattle.sharc_check.specs.Constructs.{IsExpression}
use Rattle.sharc_flat.specs.{declared.slot.Lvalue.Lvalue, Scope.{Context, slot_kind}}
use Rattle.sharc_flat.specs.Places.{in_global_at, has_base, target, beside_field, width_of}
use Rattle.sharc_invariant.specs.{Types.{MutexWord, cells_of, field_at}, Labels.Signature}
use Rattle.sharc_typed_laws.specs.Stretches.{Setting}
use Rattle.sharc_typed_laws.specs.Premises.{Typing, Ground, IntegerTyped, ReferenceTyped, MutexTyped}
use Rattle.sharc_typed_laws.specs.Typable.{ground_of}
use Rattle.sharc_accepted_laws.specs.{Alone.IsInside, Held.held_at}
use Rattle.sharc_accepted_laws.specs.{Static.{register, variable_type, static_of, entry_of}, Lvalues.pointer_of}
use Rattle.sharc_accepted_laws.specs.Targets.{targets_of}
use Rattle.sharc_accepted_laws.specs.Accesses.{modes_behind, base_type, cells_in_each, IsCellLvalue, IsCodeOf}

-- ---- of the source
-- A path in the type of an element leads to a mutex, by a global or by a variable in scope.
pub data LockLeads (c : Context) (l : Lock) : Type 0 where
  to_global : (g : ℕ) → named_at c.program.typed l.first ≡ named.Global g
      → named_kind c.program.typed (named.Global g) ≡ mutex → LockLeads c l
  to_variable : (x : ℕ) (name : List ℕ) → named_at c.program.typed l.first ≡ named.Variable x → l.second ≡ Some name
      → slot_kind c.scope x ≡ Some true
      → field_place_behind c.program.typed x name < cells_of (targets_of c.program) (variable_type c x).target
      → (field_at (targets_of c.program) (variable_type c x).target (field_place_behind c.program.typed x name)).holds
      ≡ MutexWord → LockLeads c l

abbrev pub PathLeads : Context → Expression → Type 0
PathLeads c e = (l : Lock) (below : List Sharing) → modes_behind c.program e ≡ locked l ∷ below
    → cell_at c.program e ≡ locked l → LockLeads c l

-- A constant variable through which an lvalue leads is in scope.
abbrev pub BaseStands : Context → Expression → Type 0
BaseStands c e = (p : Expression) (token x : ℕ) → pointer_of c.program.typed e ≡ Some p → constant_use c.program.typed p
    ≡ Some token → named_at c.program.typed token ≡ named.Variable x → slot_kind c.scope x ≡ Some true

-- What the mode of an lvalue asks for of the function that accesses it: that thread 0 alone runs it, if it is a private
-- cell of a global; that it writes nothing readonly; and a mutex.
pub record IsFairUse (c : Context) (is_alone : Bool) (write : Bool) (e : Expression) : Type 0 where
  pub own : cell_at c.program e ≡ private → (g : ℕ) → IsInside (target c.program.typed None e) g → is_alone ≡ true
  pub reads : cell_at c.program e ≡ readonly → write ≡ false
  pub path : PathLeads c e

-- ---- of what types code
-- the targets of the program
abbrev pub setting : Context → Code → (ℕ → Signature) → (ℕ → Bool) → ℕ → Setting
setting c code signature starts lines =
    record { targets = targets_of c.program; code = code; signature = signature; starts = starts; lines = lines }

-- the registers of variables have the types of the source, and the constants that it may name are named
pub record IsTypingOf (y : Typing) (c : Context) : Type 0 where
  pub pointers : (x : ℕ) → slot_kind c.scope x ≡ Some true → y.pointer c (register c x) ≡ variable_type c x
  pub names : (q : ℕ) → held_at c q ≡ true → y.named c q ≡ true

-- the type of the base, with the pointer that leads there, and the cells of an element and the elements of an array
pub record IsGroundOf (c : Context) (e : Expression) (ground : Ground) : Type 0 where
  pub base : has_base (target c.program.typed None e) ≡ true → ground.base ≡ base_type c e
  pub pointer : has_base (target c.program.typed None e) ≡ true → ground.pointer ≡ pointer_of c.program.typed e
  pub count : (g n : ℕ) → target c.program.typed None e ≡ in_global_at g n
      → ground.count ≡ cells_in_each c.program.typed (global_at c.program.typed g)
  pub elements : (g n : ℕ) → target c.program.typed None e ≡ in_global_at g n
      → ground.elements ≡ global_elements (global_at c.program.typed g)

-- ---- the laws
-- an integer may be read or written in the mode of the source, once the pointer to its mutex is loaded, if there is one
abbrev pub IntegersFit : Type 0
IntegersFit = (c : Context) (code : Code) → IsCodeOf c code
    → (signature : ℕ → Signature) (starts : ℕ → Bool) (lines : ℕ) (y : Typing) → IsTypingOf y c
    → (f : ℕ) (e : Expression) → IsCellLvalue c.program e
    → (ground : Ground) → IsGroundOf c e ground → is_integer (kind_at c.program.typed e) ≡ true
    → (write : Bool) → IsFairUse c (signature f).alone write e → (site : Site) (lvalue : Lvalue) (use_made : Use)
    → IntegerTyped (setting c code signature starts lines) y c f (target c.program.typed None e)
    (beside_field c.program.typed (cell_at c.program e)) ground site lvalue (cell_at c.program e) write use_made
    (width_of (kind_at c.program.typed e))

-- and a reference, of the type that the source gives it
abbrev pub ReferencesFit : Type 0
ReferencesFit = (c : Context) (code : Code) → IsCodeOf c code
    → (signature : ℕ → Signature) (starts : ℕ → Bool) (lines : ℕ) (y : Typing) → IsTypingOf y c
    → (f : ℕ) (e : Expression) → IsCellLvalue c.program e
    → (ground : Ground) → IsGroundOf c e ground → is_pointer (kind_at c.program.typed e) ≡ true → (modes : List Sharing)
    → modes_at c.program e ≡ Some modes → (write : Bool) → IsFairUse c (signature f).alone write e
    → AllByRecursion (IsExpression c.program) (expressions e) → BaseStands c e
    → (site : Site) (lvalue : Lvalue) (use_made : Use)
    → ReferenceTyped (setting c code signature starts lines) y c f (target c.program.typed None e)
    (beside_field c.program.typed (cell_at c.program e)) ground site lvalue (cell_at c.program e) write use_made
    (static_of c (kind_at c.program.typed e) modes)

-- a mutex exists in its cell
abbrev pub MutexesFit : Type 0
MutexesFit = (c : Context) (code : Code) → IsCodeOf c code
    → (signature : ℕ → Signature) (starts : ℕ → Bool) (lines : ℕ) (y : Typing)
    → (f : ℕ) (e : Expression) → IsCellLvalue c.program e
    → (ground : Ground) → IsGroundOf c e ground → kind_at c.program.typed e ≡ mutex
    → MutexTyped (setting c code signature starts lines) y c f (target c.program.typed None e) None ground

-- What sharc_typed_laws reads off an lvalue is so, where the entries are those of the source.
abbrev pub GroundsFit : Type 0
GroundsFit = (c : Context) (code : Code) → IsCodeOf c code → (z : Setting) (f : ℕ) (y : Typing)
    → ((p : Expression) → y.entry c p ≡ entry_of c p) → (e : Expression) → IsCellLvalue c.program e
    → AllByRecursion (IsExpression c.program) (expressions e) → IsGroundOf c e (ground_of z f y c e)
