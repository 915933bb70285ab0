-- The lvalues of an accepted program are typed: their cells are read in their modes, and written where they are
-- assigned or their references are taken.
use Rattle.std.specs.{Prelude.{◌≡◌, ℕ, Bool, true, false, List, Some, None, Contains}, List.AllByRecursion}
use Rattle.sharc_tree.specs.{declared.token.Site.Site, Measures.{expressions, in_function}}
use Rattle.sharc_tree.specs.Tree.{Expression, Right, Function}
use Rattle.sharc_names.specs.Kinds.{mutex, is_integer, is_pointer}
use Rattle.sharc_code.specs.{declared.code.Code.Code, declared.code.Use.Use}
use Rattle.sharc_ctype.specs.Resolved.{function_at}
use Rattle.sharc_mode.specs.{Rows.modes_at, Sharings.Sharing}
use Rattle.sharc_check.specs.Constructs.{IsTaken, IsAssigned}
use Rattle.sharc_flat.specs.{Flattened.{kind_of, target_of, mode_of, lvalue_in, guard_of}, Places.width_of}
use Rattle.sharc_flat.specs.{Scope.Context, Suits.{is_cell, Suits, PlaceSuits}}
use Rattle.sharc_invariant.specs.Labels.{Signature}
use Rattle.sharc_typed_laws.specs.{Stretches.Setting, Premises.{Typing, IntegerTyped, ReferenceTyped, MutexTyped}}
use Rattle.sharc_typed_laws.specs.Typable.{ground_of}
use Rattle.sharc_accepted_laws.specs.{Alone.AreAlone, Standing.ExpressionsStand, Static.{static_of, entry_of}}
use Rattle.sharc_accepted_laws.specs.{Accesses.IsCodeOf, Joined.{BaseStands, setting, IsTypingOf}}

-- an expression of function n, where the variables of the lock paths of its types stand
pub record IsOf (c : Context) (n : ℕ) (f : Function) (e : Expression) : Type 0 where
  pub function : function_at c.program.typed n ≡ Some f
  pub parts : AllByRecursion (λ x. Contains (in_function f) x) (expressions e)
  pub stand : ExpressionsStand c (expressions e)

module _ (z : Setting) (y : Typing) (c : Context) (n : ℕ) (e : Expression) where
  -- the cell is read or written wherever the lvalue is placed: an integer of the lvalue's type, or a reference of the
  -- type that the source gives it
  pub record CellTyped (write : Bool) : Type 0 where
    pub integer : is_integer (kind_of c e) ≡ true
        → (site : Site) (use_made : Use) → IntegerTyped z y c n (target_of c e) (guard_of c e)
        (ground_of z n y c e) site (lvalue_in c e) (mode_of c e) write use_made (width_of (kind_of c e))
    pub reference : is_pointer (kind_of c e) ≡ true → (modes : List Sharing) → modes_at c.program e ≡ Some modes
        → (site : Site) (use_made : Use)
        → ReferenceTyped z y c n (target_of c e) (guard_of c e) (ground_of z n y c e) site (lvalue_in c e)
        (mode_of c e) write use_made (static_of c (kind_of c e) modes)

  pub record LvalueTyped : Type 0 where
    pub read : CellTyped false
    pub assigned : (x : Right) → IsAssigned c.program e x → CellTyped true
    pub taken : IsTaken c.program e → CellTyped true
    pub mutex : kind_of c e ≡ mutex → MutexTyped z y c n (target_of c e) None (ground_of z n y c e)

-- a constant variable through which it leads stands, where what its parts name does
pub record BasesStand : Type 0 where
  pub values : (c : Context) (e : Expression) → Suits c e → BaseStands c e
  pub places : (c : Context) (e : Expression) → PlaceSuits c e → BaseStands c e

-- of each lvalue that names a cell, by what the source says of expressions and variables, where it is told which
-- functions thread 0 alone runs
abbrev pub LvaluesAreTyped : Type 0
LvaluesAreTyped = (c : Context) (code : Code) → IsCodeOf c code
    → (signature : ℕ → Signature) (starts : ℕ → Bool) (lines : ℕ) → AreAlone c.program (λ k. (signature k).alone)
    → (y : Typing) → IsTypingOf y c → ((p : Expression) → y.entry c p ≡ entry_of c p)
    → (n : ℕ) (f : Function) (e : Expression) → IsOf c n f e → BaseStands c e → is_cell (target_of c e) ≡ true
    → LvalueTyped (setting c code signature starts lines) y c n e
