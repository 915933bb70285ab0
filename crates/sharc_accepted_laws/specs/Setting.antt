-- The code of an accepted program, as its types have it: the targets of its references, the signatures of its
-- functions, and with which of them a thread begins.
use Rattle.std.specs.Prelude.{ℕ, ◌≡◌, ◌<◌, ◌==◌, Bool, true, false, ◌||◌, nat_lt, List, length, Option, Some, None}
use Rattle.std.specs.Prelude.{codes, if◌then◌else◌}
use Rattle.std.specs.{List.list_any, Str.bytes_eq}
use Rattle.sharc_tree.specs.{Measures.{in_function as expressions_of}, Tree.{constant, Function}}
use Rattle.sharc_tree.specs.{declared.token.Span.Span, declared.tree.expression.Constant.Constant}
use Rattle.sharc_names.specs.{declared.fault.Named.Named, Kinds.declared_kind}
use Rattle.sharc_names.specs.declared.fault.Named.TheVariants as named
use Rattle.sharc_code.specs.{Arithmetic.holds, declared.code.Code.Code, declared.code.GlobalCells.GlobalCells}
use Rattle.sharc_code.specs.Machine.{function_of}
use Rattle.sharc_ctype.specs.{Expressions.constant_kind, Reaches.{spawns, of_all}}
use Rattle.sharc_ctype.specs.Resolved.{Resolution, named_at, functions_in, function_at}
use Rattle.sharc_mode.specs.Moded.{Assignment}
use Rattle.sharc_check.specs.Constructs.{IsExpression}
use Rattle.sharc_meaning.specs.{Reference.constant_value, State.is_reference}
use Rattle.sharc_flat.specs.{Flattened.{in_function, parameter_of}, Places.width_of, Scope.{Context, int_count}}
use Rattle.sharc_flat.specs.Tables.{globals_of}
use Rattle.sharc_invariant.specs.Labels.{Empty, Refers, Anything, Within, Signature}
use Rattle.sharc_typed_laws.specs.Stretches.{Setting}
use Rattle.sharc_accepted_laws.specs.{Alone.AreAlone, StaticLaws.IsAccepted, Static.{variable_entry, result_type}}
use Rattle.sharc_accepted_laws.specs.{TargetLaws.HasTables, Targets.targets_of, Typing.typing}

-- ---- signatures
-- Of a function with these parameters in scope: it takes what its parameters hold, and gives a reference of its
-- result's type, or an integer that its result's type holds.
abbrev pub function_signature : Context → Bool → Function → Signature
function_signature c alone g = record {
  takes = variable_entry c;
  takes_ints = λ j. if nat_lt j (int_count c.scope) then Within (typing.width c j) else Anything;
  result = if is_reference (declared_kind g.result) then Refers (result_type c g) else Empty;
  result_int = if is_reference (declared_kind g.result) then Anything else Within (width_of (declared_kind g.result));
  alone = alone;
}

-- there is no function of this number
abbrev pub no_signature : Bool → Signature
no_signature alone =
    record { takes = λ q. Empty; takes_ints = λ j. Anything; result = Empty; result_int = Anything; alone = alone }

abbrev pub signature_by : Assignment → List GlobalCells → Bool → Option Function → Signature
signature_by m globals alone None = no_signature alone
signature_by m globals alone (Some g) = function_signature (in_function m globals g) alone g

-- ---- the beginnings of threads
abbrev pub is_numbered : ℕ → Named → Bool
is_numbered n (named.Function k) = k == n
is_numbered n _ = false

-- some function spawns it
abbrev pub is_spawned : Resolution → ℕ → Bool
is_spawned r n = list_any (λ f. list_any (λ token. is_numbered n (named_at r token)) (of_all spawns (expressions_of f)))
    (functions_in r.program.items)

abbrev pub is_main : Option Function → Bool
is_main None = false
is_main (Some g) = bytes_eq g.name.text (codes "main")

abbrev pub is_start : Resolution → ℕ → Bool
is_start r n = is_spawned r n || is_main (function_at r n)

-- ---- the setting
-- of code with so many lines, where a test tells the functions that thread 0 alone runs
abbrev pub setting_of : Assignment → List GlobalCells → Code → (ℕ → Bool) → ℕ → Setting
setting_of m globals code alone lines = record {
  targets = targets_of m;
  code = code;
  signature = λ n. signature_by m globals (alone n) (function_at m.typed n);
  starts = is_start m.typed;
  lines = lines;
}

-- the function has a row in the code's table
pub record HasRow (code : Code) (n : ℕ) (g : Function) : Type 0 where
  pub low : n < length code.functions.items
  pub parameter : (function_of code n).parameter ≡ parameter_of g.parameters

-- a number or a character of the source is one that its type holds
abbrev pub ConstantsHold : Assignment → Type 0
ConstantsHold m = (s : Span) (k : Constant) → IsExpression m (constant s k) → is_reference (constant_kind k) ≡ false
    → holds (width_of (constant_kind k)) (constant_value k) ≡ true

-- Code with the tables of an accepted program, and such a test. That constants are held is so of each program that a
-- source is (`constants_are_held` of sharc_source_laws).
pub record IsSet (m : Assignment) (globals : List GlobalCells) (code : Code) (alone : ℕ → Bool) : Type 0 where
  pub accepted : IsAccepted m
  pub globals_are : globals ≡ globals_of m.typed
  pub tables : HasTables m code
  pub rows : (n : ℕ) (g : Function) → function_at m.typed n ≡ Some g → HasRow code n g
  pub alone_are : AreAlone m alone
  pub constants : ConstantsHold m
