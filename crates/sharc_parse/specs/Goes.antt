-- What the functions of the parser promise: they go the machine's way.
use Rattle.std.specs.Prelude.{◌≡◌, ℕ, ◌+◌, ◌≤◌, ◌<◌, ◌^◌, Bool, true, false, List, [], ◌∷◌, length, drop, Option, Some, None}
use Rattle.std.specs.Prelude.{Result, Ok, Err, IfOk}
use Rattle.sharc_tree.specs.{View.view_expr, declared.token.Token.Token, declared.token.Span.Span}
use Rattle.sharc_tree.specs.declared.token.Punctuator.{Punctuator}
use Rattle.sharc_tree.specs.declared.token.Punctuator.TheVariants.{OpenParenthesis}
use Rattle.sharc_tree.specs.{declared.tree.declaration.Identifier.Identifier, declared.tree.expression.Expr.Expr}
use Rattle.sharc_tree.specs.declared.tree.expression.Constant.{Constant}
use Rattle.sharc_tree.specs.declared.tree.expression.BinaryOperator.{BinaryOperator}
use Rattle.sharc_tree.specs.declared.tree.expression.UnaryOperator.{UnaryOperator}
use Rattle.sharc_tree.specs.declared.tree.expression.FieldOperator.{FieldOperator}
use Rattle.sharc_parse.specs.Grammar.{Word, name, keyword, mark, number, character, left_out, Phrase, identifier}
use Rattle.sharc_parse.specs.Grammar.{constant, constant_word, unary_mark, operator_mark, access_mark, strength}
use Rattle.sharc_parse.specs.Machine.{Cont, Want, Have, State, At, floor, grip, grip_of, role, TypeWant, an_open}
use Rattle.sharc_parse.specs.Machine.{fronted, part, valued, an_ampersand, Spawning, casting}
use Rattle.sharc_parse.specs.Limits.{Limited, StuckAt, Over, reads_within, depth, crowded, height}
use Rattle.sharc_parse.specs.Places.{words_of, site_in, size, expression_at, front_size, type_at}
use Rattle.sharc_parse.specs.declared.token.ReadingFault.{ReadingFault}
use Rattle.sharc_parse.specs.declared.token.ReadingFault.TheVariants.{Memory, Wrong, Deep}
use Rattle.sharc_parse.specs.declared.token.FrontWord.{FrontWord}
use Rattle.sharc_parse.specs.declared.token.FrontWord.TheVariants.{Parenthesis, Spawn, Value, Place, Cast}
use Rattle.sharc_parse.specs.{declared.token.ParsedExpr.ParsedExpr, declared.expr.Front.Front}
use Rattle.sharc_parse.specs.declared.expr.Front.TheVariants.{Parenthesis as FrontParenthesis, Spawn as FrontSpawn}
use Rattle.sharc_parse.specs.declared.expr.Front.TheVariants.{Value as FrontValue, Place as FrontPlace}
use Rattle.sharc_parse.specs.declared.expr.Front.TheVariants.{Cast as FrontCast}
use Rattle.sharc_parse.specs.View.{phrase_of, bare_type}
use Rattle.sharc_tree.specs.declared.token.Keyword.TheVariants as key
use Rattle.sharc_tree.specs.declared.tree.expression.ValueCall.TheVariants as value_call
use Rattle.sharc_tree.specs.declared.tree.expression.PlaceCall.TheVariants as place_call
use Rattle.sharc_tree.specs.Tree as tree
use Rattle.sharc_parse.specs.Grammar as grammar

-- the words from token number n on
abbrev pub from : List Token → ℕ → List Word
from tokens n = words_of (drop n tokens)

-- a place in no more tokens than a program may have
pub record IsPlace (tokens : List Token) (at : ℕ) : Type 0 where
  pub few : length tokens ≤ 2 ^ 20
  pub there : at ≤ length tokens

-- from one place the other is no step back, and still among the tokens
pub record GoesOn (tokens : List Token) (at next : ℕ) : Type 0 where
  pub onward : at ≤ next
  pub within : next ≤ length tokens

-- the next word, if there is one, is another
abbrev pub NotAt : Word → List Word → Type 0
NotAt w [] = Unit {0}
NotAt w (t ∷ rest) = t ≡ w → ⊥

-- one token with that word is between the two places
abbrev pub Past : Word → List Token → ℕ → ℕ → Type 0
Past w tokens old new = (from tokens old ≡ w ∷ from tokens new) × (new ≡ old + 1) × (old < length tokens)

abbrev pub Takes : Bool → Word → List Token → ℕ → ℕ → Type 0
Takes true w tokens old new = Past w tokens old new
Takes false w tokens old new = (new ≡ old) × NotAt w (from tokens new)

abbrev pub Expects : {A : Type 0} → Result A ReadingFault → Word → List Token → ℕ → ℕ → Type 0
Expects (Ok x) w tokens old new = Past w tokens old new
Expects (Err Wrong) w tokens old new = (new ≡ old) × NotAt w (from tokens new)
Expects (Err _) w tokens old new = ⊥

abbrev pub NoName : List Word → Type 0
NoName (name n ∷ rest) = ⊥
NoName _ = Unit {0}

abbrev pub TakesName : Result (Option Identifier) ReadingFault → List Token → ℕ → ℕ → Type 0
TakesName (Ok (Some i)) tokens old new = Past (name i.text) tokens old new × (i.site ≡ site_in tokens old)
TakesName (Ok None) tokens old new = (new ≡ old) × NoName (from tokens new)
TakesName (Err Memory) tokens old new = new ≡ old
TakesName (Err _) tokens old new = ⊥

abbrev pub NoConstant : List Word → Type 0
NoConstant [] = Unit {0}
NoConstant (t ∷ rest) = (c : Constant) → t ≡ constant_word c → ⊥

abbrev pub TakesConstant : Option Constant → List Token → ℕ → ℕ → Type 0
TakesConstant (Some c) tokens old new = Past (constant_word c) tokens old new
TakesConstant None tokens old new = (new ≡ old) × NoConstant (from tokens new)

-- the next word is that
abbrev pub IsAt : Word → List Word → Type 0
IsAt w [] = ⊥
IsAt w (t ∷ rest) = t ≡ w

-- goes past that word where there is room for one level more
abbrev pub Enters : Result Bool ReadingFault → Word → ℕ → List Token → ℕ → ℕ → Type 0
Enters (Ok true) w room tokens old new = Past w tokens old new × (0 < room)
Enters (Ok false) w room tokens old new = (new ≡ old) × NotAt w (from tokens new)
Enters (Err Deep) w room tokens old new = (new ≡ old) × IsAt w (from tokens new) × (room ≡ 0)
Enters (Err _) w room tokens old new = ⊥

abbrev pub NoUnary : List Word → Type 0
NoUnary [] = Unit {0}
NoUnary (t ∷ rest) = (u : UnaryOperator) → t ≡ mark (unary_mark u) → ⊥

abbrev pub EntersUnary : Result (Option UnaryOperator) ReadingFault → ℕ → List Token → ℕ → ℕ → Type 0
EntersUnary (Ok (Some u)) room tokens old new = Past (mark (unary_mark u)) tokens old new × (0 < room)
EntersUnary (Ok None) room tokens old new = (new ≡ old) × NoUnary (from tokens new)
EntersUnary (Err Deep) room tokens old new =
    (new ≡ old) × ((u : UnaryOperator) × IsAt (mark (unary_mark u)) (from tokens new)) × (room ≡ 0)
EntersUnary (Err _) room tokens old new = ⊥

abbrev pub IsOperator : Option BinaryOperator → Punctuator → Type 0
IsOperator (Some o) p = p ≡ operator_mark o
IsOperator None p = grip_of (role (mark p)) ≤ 11 → grip_of (role (mark p)) < 1

abbrev pub EntersOperator : Result (Option BinaryOperator) ReadingFault → ℕ → ℕ → List Token → ℕ → ℕ → Type 0
EntersOperator (Ok (Some o)) least room tokens old new =
    Past (mark (operator_mark o)) tokens old new × (least ≤ strength o) × (0 < room)
EntersOperator (Ok None) least room tokens old new =
    (new ≡ old) × (grip (from tokens new) ≤ 11 → grip (from tokens new) < least)
EntersOperator (Err Deep) least room tokens old new = (new ≡ old)
    × ((o : BinaryOperator) × IsAt (mark (operator_mark o)) (from tokens new) × (least ≤ strength o)) × (room ≡ 0)
EntersOperator (Err _) least room tokens old new = ⊥

-- What the machine made of the old words: it goes on with what was read, or is stuck where the parser is.
abbrev pub Goes : {A V : Type 0} → (A → V) → Result A ReadingFault → Limited → (V → Limited) → List Word → Type 0
Goes see (Ok x) was on new = was ≡ on (see x)
Goes see (Err Wrong) was on new = was ≡ StuckAt new
Goes see (Err Deep) was on new = was ≡ Over new
Goes see (Err Memory) was on new = Unit {0}

-- a `malloc` was looked for, where one may be written
abbrev pub NoMalloc : Cont → List Word → Type 0
NoMalloc (part (valued v) o) all = NotAt (keyword key.Malloc) all
NoMalloc _ all = Unit {0}

-- an operand that holds together as tightly as that, and is no higher than there is room
abbrev pub ReadsFrom : ℕ → ℕ → Result ParsedExpr ReadingFault → List Word → List Word → Type 0
ReadsFrom least room result old new = (k : Cont) → floor k ≤ least → depth k + room ≡ 64 → crowded k ≡ false
    → NoMalloc k old → Goes (λ r. phrase_of r.expr) result (reads_within old (At [] (Want k)))
    (λ x. reads_within new (At [] (Have x k))) new

-- what begins with the name that was read just before
abbrev pub ReadsBehindName : List ℕ → ℕ → Result ParsedExpr ReadingFault → List Word → List Word → Type 0
ReadsBehindName n room result old new = (k : Cont) → depth k + room ≡ 64 → crowded k ≡ false
    → Goes (λ r. phrase_of r.expr) result (reads_within old (At [] (Have (identifier n) k)))
    (λ x. reads_within new (At [] (Have x k))) new

abbrev pub IsHigh : ℕ → Result ParsedExpr ReadingFault → Type 0
IsHigh room result = IfOk result (λ r. (r.height ≡ height (phrase_of r.expr)) × (r.height ≤ room))

-- the tree lies at its tokens, from that number on
abbrev pub LiesAtTokens : Expr → List Token → ℕ → Type 0
LiesAtTokens e tokens n = view_expr e ≡ expression_at (site_in tokens) n (phrase_of e)

abbrev pub IsPlaced : Result ParsedExpr ReadingFault → List Token → ℕ → ℕ → Type 0
IsPlaced result tokens old new =
    IfOk result (λ r. LiesAtTokens r.expr tokens old × (new ≡ old + size (phrase_of r.expr)))

-- a name with a `(` after it was taken as a call
abbrev pub NoCall : Phrase → List Word → Type 0
NoCall (identifier n) all = NotAt (mark OpenParenthesis) all
NoCall _ all = Unit {0}

abbrev pub front_word : FrontWord → Word
front_word Parenthesis = mark OpenParenthesis
front_word Spawn = keyword key.Spawn
front_word (Value value_call.Join) = keyword key.Join
front_word (Value value_call.Print) = keyword key.Print
front_word (Place place_call.Lock) = keyword key.Lock
front_word (Place place_call.Unlock) = keyword key.Unlock
front_word (Place place_call.Free) = keyword key.Free
front_word Cast = keyword key.Scast

abbrev pub NoFront : List Word → Type 0
NoFront [] = Unit {0}
NoFront (t ∷ rest) = (w : FrontWord) → t ≡ front_word w → ⊥

abbrev pub EntersFront : Result (Option FrontWord) ReadingFault → ℕ → List Token → ℕ → ℕ → Type 0
EntersFront (Ok (Some w)) room tokens old new = Past (front_word w) tokens old new × (0 < room)
EntersFront (Ok None) room tokens old new = (new ≡ old) × NoFront (from tokens new)
EntersFront (Err Deep) room tokens old new =
    (new ≡ old) × ((w : FrontWord) × IsAt (front_word w) (from tokens new)) × (room ≡ 0)
EntersFront (Err _) room tokens old new = ⊥

abbrev pub bare_front : Front → grammar.Front
bare_front FrontParenthesis = grammar.parenthesis
bare_front (FrontSpawn f) = grammar.of_spawn f.text
bare_front (FrontValue w) = grammar.of_value w
bare_front (FrontPlace w) = grammar.of_place w
bare_front (FrontCast t) = grammar.of_cast (bare_type t)

abbrev pub after_front : FrontWord → Cont → State
after_front Parenthesis k = At [] (Want (fronted grammar.parenthesis k))
after_front Spawn k = At (an_open ∷ []) (Spawning k)
after_front (Value w) k = At (an_open ∷ []) (Want (fronted (grammar.of_value w) k))
after_front (Place place_call.Lock) k =
    At (an_open ∷ an_ampersand ∷ []) (Want (fronted (grammar.of_place place_call.Lock) k))
after_front (Place place_call.Unlock) k =
    At (an_open ∷ an_ampersand ∷ []) (Want (fronted (grammar.of_place place_call.Unlock) k))
after_front (Place place_call.Free) k = At (an_open ∷ []) (Want (fronted (grammar.of_place place_call.Free) k))
after_front Cast k = At (an_open ∷ []) (TypeWant (casting k))

-- the rest of what an expression that a `)` ends begins with
abbrev pub ReadsFront : Result Front ReadingFault → FrontWord → List Word → List Word → Type 0
ReadsFront result w old new = (k : Cont) → depth k < 64 → crowded k ≡ false → Goes bare_front result
    (reads_within old (after_front w k)) (λ f. reads_within new (At [] (Want (fronted f k)))) new

abbrev pub StandsFront : Front → List Token → ℕ → Type 0
StandsFront (FrontSpawn f) tokens n = f.site ≡ site_in tokens (n + 2)
StandsFront (FrontCast t) tokens n = t ≡ type_at (site_in tokens) (n + 2) (bare_type t)
StandsFront _ tokens n = Unit {0}

-- its first word has the number before the old place
abbrev pub IsFrontPlaced : Result Front ReadingFault → List Token → ℕ → ℕ → Type 0
IsFrontPlaced result tokens old new =
    IfOk result (λ f. (n : ℕ) → n + 1 ≡ old → StandsFront f tokens n × (new ≡ n + front_size (bare_front f)))

abbrev pub front_tree : Span → Front → tree.Expression → tree.Expression
front_tree s FrontParenthesis a = tree.parentheses s a
front_tree s (FrontSpawn f) a = tree.spawn s f a
front_tree s (FrontValue w) a = tree.on_value s w a
front_tree s (FrontPlace w) a = tree.on_place s w a
front_tree s (FrontCast t) a = tree.cast s t a

abbrev pub Builds : Result ParsedExpr ReadingFault → tree.Expression → ℕ → Type 0
Builds (Ok r) x h = (view_expr r.expr ≡ x) × (r.height ≡ h)
Builds (Err Memory) x h = Unit {0}
Builds (Err _) x h = ⊥

abbrev pub Meets : Bool → Word → List Word → Type 0
Meets true w all = IsAt w all
Meets false w all = NotAt w all

abbrev pub NoAccess : List Word → Type 0
NoAccess [] = Unit {0}
NoAccess (t ∷ rest) = (a : FieldOperator) → t ≡ mark (access_mark a) → ⊥

abbrev pub EntersAccess : Result (Option FieldOperator) ReadingFault → ℕ → List Token → ℕ → ℕ → Type 0
EntersAccess (Ok (Some a)) room tokens old new = Past (mark (access_mark a)) tokens old new × (0 < room)
EntersAccess (Ok None) room tokens old new = (new ≡ old) × NoAccess (from tokens new)
EntersAccess (Err Deep) room tokens old new =
    (new ≡ old) × ((a : FieldOperator) × IsAt (mark (access_mark a)) (from tokens new)) × (room ≡ 0)
EntersAccess (Err _) room tokens old new = ⊥
