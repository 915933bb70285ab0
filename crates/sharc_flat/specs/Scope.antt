-- Which registers hold the variables in scope: those of a frame are its first ones, in the order of their declarations,
-- each in the bank of its type.
use Rattle.std.specs.Prelude.{ℕ, ◌+◌, ◌==◌, Bool, false, List, [], ◌∷◌, ◌++◌, take, drop, Option, Some, None}
use Rattle.std.specs.Prelude.{if◌then◌else◌}
use Rattle.sharc_tree.specs.{declared.token.Site.Site, declared.token.Span.Span}
use Rattle.sharc_tree.specs.declared.tree.declaration.Declaration.{Declaration}
use Rattle.sharc_code.specs.{declared.code.PlaceMode.TheVariants.Racy, declared.code.GlobalCells.GlobalCells}
use Rattle.sharc_code.specs.{declared.code.Text.Text, declared.code.Use.Use, declared.code.Use.TheVariants.Other}
use Rattle.sharc_code.specs.{declared.instr.Cell.Cell, declared.instr.Cell.TheVariants.Global}
use Rattle.sharc_code.specs.{declared.instr.Register.Register, declared.instr.Register.TheVariants.{Int, Reference}}
use Rattle.sharc_names.specs.Kinds.{is_pointer, declared_kind}
use Rattle.sharc_mode.specs.Moded.{Assignment}
use Rattle.sharc_flat.specs.{declared.op.Op.Op, declared.op.Spot.Spot, declared.slot.Slot.Slot}
use Rattle.sharc_flat.specs.declared.op.Op.TheVariants as op

abbrev pub slot_of : Declaration → Slot
slot_of d = record { token = d.name.site.token; is_pointer = is_pointer (declared_kind d.written) }

-- whether the first of them with this token is a pointer
abbrev pub slot_kind : List Slot → ℕ → Option Bool
slot_kind [] token = None
slot_kind (x ∷ rest) token = if x.token == token then Some x.is_pointer else slot_kind rest token

abbrev pub int_count : List Slot → ℕ
int_count [] = 0
int_count (x ∷ rest) = if x.is_pointer then int_count rest else int_count rest + 1

abbrev pub ref_count : List Slot → ℕ
ref_count [] = 0
ref_count (x ∷ rest) = if x.is_pointer then ref_count rest + 1 else ref_count rest

-- the register of the first of them with this token
abbrev pub register_from : ℕ → ℕ → List Slot → ℕ → Register
register_from i r [] token = Int i
register_from i r (x ∷ rest) token =
    if x.token == token then (if x.is_pointer then Reference r else Int i)
    else (if x.is_pointer then register_from i (r + 1) rest token else register_from (i + 1) r rest token)

abbrev pub register_of : List Slot → ℕ → Register
register_of = register_from 0 0

abbrev pub number_in : Register → ℕ
number_in (Int i) = i
number_in (Reference r) = r

-- where an expression is: the program, its globals' places, and the variables in scope there
pub record Context : Type 0 where
  pub program : Assignment
  pub globals : List GlobalCells
  pub scope : List Slot

-- A text of an operation is given by tokens: those from the first number up to the second.
abbrev pub no_text : Text
no_text = record { from = 0; until = 0 }

abbrev pub tokens_in : Span → Text
tokens_in s = record { from = s.first.token; until = s.last.token + 1 }

-- no cell of a mutex
abbrev pub no_cell : Cell
no_cell = Global 0 0

-- a place of the source at which no cell is used
abbrev pub at_site : Site → Spot
at_site site = record {
  site = site;
  lvalue = no_text;
  lock_text = no_text;
  mode = Racy;
  at = Other;
  lock = no_cell;
  is_simple = false;
}

-- the same, of an lvalue or an expression that is given with it
abbrev pub at_words : Site → Span → Use → Spot
at_words site words use_made = record (at_site site) { lvalue = tokens_in words; at = use_made }

-- at the end of a block its pointers are given up, in the order of their declarations: the first of them has this
-- register
abbrev pub pops : ℕ → List Slot → List Op
pops r [] = []
pops r (x ∷ rest) = if x.is_pointer then op.Pop r ∷ pops (r + 1) rest else pops r rest

-- the variables after the first n end
abbrev pub ends_from : List Slot → ℕ → List Op
ends_from scope n = pops (ref_count (take n scope)) (drop n scope)

-- blocks end one after the other, the innermost first; each began where there were this many variables
abbrev pub leaves : List Slot → List ℕ → List Op
leaves scope [] = []
leaves scope (n ∷ outer) = ends_from scope n ++ leaves (take n scope) outer
