-- What the functions that read declarations promise.
use Rattle.std.specs.Prelude.{◌≡◌, ℕ, ◌+◌, true, false, List, [], ◌∷◌, Option, Some, None, Result, Ok, IfOk}
use Rattle.sharc_tree.specs.Tree as tree
use Rattle.sharc_tree.specs.{View.{view_option, view_right, view_local}, declared.token.Token.Token}
use Rattle.sharc_tree.specs.declared.token.Punctuator.TheVariants.{Assign, CloseParenthesis, OpenBrace}
use Rattle.sharc_tree.specs.declared.tree.declaration.Identifier.{Identifier}
use Rattle.sharc_tree.specs.declared.tree.declaration.WrittenType.{WrittenType}
use Rattle.sharc_tree.specs.{declared.tree.declaration.Declaration.Declaration, declared.tree.statement.Right.Right}
use Rattle.sharc_tree.specs.declared.tree.statement.Local.{Local}
use Rattle.sharc_tree.specs.declared.ctype.Base.TheVariants as base
use Rattle.sharc_parse.specs.Grammar.{Word, mark, Typing, Declared, Value}
use Rattle.sharc_parse.specs.Machine.{Outer, LinePlace, NamePlace, on_top, parameter_of, local, naming, of_local}
use Rattle.sharc_parse.specs.Machine.{TypeWant, Named, State, At, declaring_of}
use Rattle.sharc_parse.specs.Limits.{reads_within}
use Rattle.sharc_parse.specs.Places.{site_in, declaring_size, declaration_at, initial_size, initial_at, local_size}
use Rattle.sharc_parse.specs.Places.{local_at}
use Rattle.sharc_parse.specs.{declared.token.ReadingFault.ReadingFault, View.{bare_type, bare_declaration}}
use Rattle.sharc_parse.specs.{Goes.{Goes, NotAt}, Types.{typed_state, EndsType}}
use Rattle.sharc_parse.specs.Rights.{bare_value, valued_state, EndsValue}

abbrev pub void_type : Typing
void_type = record { mode_first = false; base = base.Void; levels = None ∷ [] }

abbrev pub struct_type : List ℕ → Typing
struct_type n = record { mode_first = false; base = base.Struct n; levels = None ∷ [] }

-- after the type only a name may follow: no `)` after a `void` for no parameters, and no `{` after a struct
abbrev pub IsPlainAt : NamePlace → Typing → List Word → Type 0
IsPlainAt (parameter_of all r f []) t rest = t ≡ void_type → NotAt (mark CloseParenthesis) rest
IsPlainAt (on_top all) t rest = (n : List ℕ) → t ≡ struct_type n → NotAt (mark OpenBrace) rest
IsPlainAt _ t rest = Unit {0}

abbrev pub ReadsName : Result Identifier ReadingFault → List Word → List Word → Type 0
ReadsName result old new = (p : NamePlace) (t : WrittenType) → EndsType true (Ok t) old → IsPlainAt p (bare_type t) old
    → Goes (λ i. i.text) result (reads_within old (typed_state (naming p) (bare_type t)))
    (λ n. reads_within new (At [] (Named p (bare_type t) n))) new

abbrev pub IsNamePlaced : Result Identifier ReadingFault → List Token → ℕ → ℕ → Type 0
IsNamePlaced result tokens old new = IfOk result (λ i. (i.site ≡ site_in tokens old) × (new ≡ old + 1))

-- whatever the type, only a name may follow it
abbrev pub IsPlainPlace : NamePlace → Type 0
IsPlainPlace (parameter_of all r f []) = ⊥
IsPlainPlace (on_top all) = ⊥
IsPlainPlace _ = Unit {0}

abbrev pub ReadsDeclaration : Result Declaration ReadingFault → List Word → List Word → Type 0
ReadsDeclaration result old new = (p : NamePlace) → IsPlainPlace p → Goes bare_declaration result
    (reads_within old (At [] (TypeWant (naming p)))) (λ d. reads_within new (At [] (Named p d.typing d.named))) new

abbrev pub IsDeclarationPlaced : Result Declaration ReadingFault → List Token → ℕ → ℕ → Type 0
IsDeclarationPlaced result tokens old new =
    IfOk result (λ d. (d ≡ declaration_at (site_in tokens) old (bare_declaration d))
    × (new ≡ old + declaring_size (bare_declaration d)))

-- locals

abbrev pub bare_initial : Option tree.Right → Option Value
bare_initial None = None
bare_initial (Some r) = Some (bare_value r)

abbrev pub initial_of : Option Right → Option Value
initial_of r = bare_initial (view_option view_right r)

abbrev pub bare_local : tree.Local → Declared
bare_local l = record { declaring = bare_declaration l.declaration; initial = bare_initial l.initial }

abbrev pub local_of : Local → Declared
local_of l = bare_local (view_local l)

-- the right side of `=`, if there is one, was read, and may go on
abbrev pub initial_state : LinePlace → Outer → Typing → List ℕ → Option Value → State
initial_state p o t n None = At [] (Named (local p o) t n)
initial_state p o t n (Some r) = valued_state (of_local p (declaring_of t n)) o r

abbrev pub EndsInitial : Option Value → List Word → Type 0
EndsInitial None all = NotAt (mark Assign) all
EndsInitial (Some r) all = EndsValue r all

abbrev pub ReadsInitial : Result (Option Right) ReadingFault → List Word → List Word → Type 0
ReadsInitial result old new = (p : LinePlace) (o : Outer) (t : Typing) (n : List ℕ) → Goes initial_of result
    (reads_within old (At [] (Named (local p o) t n))) (λ r. reads_within new (initial_state p o t n r)) new

abbrev pub EndsInitially : Result (Option Right) ReadingFault → List Word → Type 0
EndsInitially result new = IfOk result (λ r. EndsInitial (initial_of r) new)

abbrev pub IsInitialPlaced : Result (Option Right) ReadingFault → List Token → ℕ → ℕ → Type 0
IsInitialPlaced result tokens old new =
    IfOk result (λ r. (view_option view_right r ≡ initial_at (site_in tokens) old (initial_of r))
    × (new ≡ old + initial_size (initial_of r)))

abbrev pub ReadsLocal : Result Local ReadingFault → List Word → List Word → Type 0
ReadsLocal result old new = (p : LinePlace) (o : Outer)
    → Goes local_of result (reads_within old (At [] (TypeWant (naming (local p o)))))
    (λ l. reads_within new (initial_state p o l.declaring.typing l.declaring.named l.initial)) new

abbrev pub EndsLocal : Result Local ReadingFault → List Word → Type 0
EndsLocal result new = IfOk result (λ l. EndsInitial (local_of l).initial new)

abbrev pub IsLocalPlaced : Result Local ReadingFault → List Token → ℕ → ℕ → Type 0
IsLocalPlaced result tokens old new = IfOk result (λ l. (view_local l ≡ local_at (site_in tokens) old (local_of l))
    × (new ≡ old + local_size (local_of l)))
