-- What the functions that read lines promise: what a `;` ends in a block, and in the head of a `for`.
use Rattle.std.specs.Prelude.{◌≡◌, ℕ, ◌+◌, ◌⊎◌, Bool, true, false, List, [], ◌∷◌, Result, IfOk}
use Rattle.sharc_tree.specs.Tree as tree
use Rattle.sharc_tree.specs.{View.view_first, declared.token.Token.Token}
use Rattle.sharc_tree.specs.declared.token.Punctuator.TheVariants.{Semicolon, Minus, Exclamation, Tilde, Star}
use Rattle.sharc_tree.specs.declared.token.Punctuator.TheVariants.{OpenParenthesis}
use Rattle.sharc_tree.specs.declared.tree.statement.ForFirst.{ForFirst}
use Rattle.sharc_tree.specs.declared.token.Keyword.TheVariants as key
use Rattle.sharc_parse.specs.Grammar.{Word, name, keyword, mark, number, character, Line, nothing, does, declares}
use Rattle.sharc_parse.specs.Machine.{Outer, LinePlace, in_line, local, naming, part, subject, Want, TypeWant, At}
use Rattle.sharc_parse.specs.Machine.{lined, line_start, may_declare}
use Rattle.sharc_parse.specs.Limits.{Limited, StuckAt, next_within, reads_within, crowded_line}
use Rattle.sharc_parse.specs.{Places.{site_in, line_size, first_at}, declared.token.ReadingFault.ReadingFault}
use Rattle.sharc_parse.specs.{declared.types.BaseWord.BaseWord, declared.line.MayDeclare.MayDeclare}
use Rattle.sharc_parse.specs.{declared.line.MayDeclare.TheVariants.{Yes, No}, Goes.Goes}
use Rattle.sharc_parse.specs.{Types.{HasMode, NoMode, base_word, NoBase}, Simples.bare_doing, Locals.bare_local}

abbrev pub bare_line : tree.First → Line
bare_line tree.nothing = nothing
bare_line (tree.does x) = does (bare_doing x)
bare_line (tree.declares l) = declares (bare_local l)

abbrev pub line_of : ForFirst → Line
line_of l = bare_line (view_first l)

abbrev pub HasBase : List Word → Type 0
HasBase [] = ⊥
HasBase (t ∷ rest) = (w : BaseWord) × (t ≡ base_word w)

abbrev pub is_yes : MayDeclare → Bool
is_yes Yes = true
is_yes No = false

-- whether a type begins there
abbrev pub MeetsType : Bool → List Word → Type 0
MeetsType true all = HasMode all ⊎ HasBase all
MeetsType false all = NoMode all × NoBase all

-- whether a local begins there, where that says whether one may be there
abbrev pub MeetsLocal : Bool → Bool → List Word → Type 0
MeetsLocal true result all = MeetsType result all
MeetsLocal false false all = Unit {0}
MeetsLocal false true all = ⊥

-- whether an operand begins there
abbrev pub starts_operand : List Word → Bool
starts_operand (name n ∷ rest) = true
starts_operand (number n ∷ rest) = true
starts_operand (character c ∷ rest) = true
starts_operand (keyword key.Null ∷ rest) = true
starts_operand (keyword key.Spawn ∷ rest) = true
starts_operand (keyword key.Join ∷ rest) = true
starts_operand (keyword key.Print ∷ rest) = true
starts_operand (keyword key.Lock ∷ rest) = true
starts_operand (keyword key.Unlock ∷ rest) = true
starts_operand (keyword key.Free ∷ rest) = true
starts_operand (keyword key.Scast ∷ rest) = true
starts_operand (mark Minus ∷ rest) = true
starts_operand (mark Exclamation ∷ rest) = true
starts_operand (mark Tilde ∷ rest) = true
starts_operand (mark Star ∷ rest) = true
starts_operand (mark OpenParenthesis ∷ rest) = true
starts_operand _ = false

-- the words read where a line begins
abbrev pub line_within : LinePlace → Outer → List Word → Limited
line_within p o [] = StuckAt []
line_within p o (t ∷ y) = next_within (line_start p o t) (λ n. reads_within y n) (t ∷ y)

abbrev pub ReadsDeclaredLine : Result ForFirst ReadingFault → List Word → List Word → Type 0
ReadsDeclaredLine result old new = (p : LinePlace) (o : Outer) → Goes line_of result
    (reads_within old (At [] (TypeWant (naming (local p o))))) (λ l. reads_within new (lined p l o)) new

abbrev pub ReadsSimpleLine : Result ForFirst ReadingFault → List Word → List Word → Type 0
ReadsSimpleLine result old new = (p : LinePlace) (o : Outer) → crowded_line p o ≡ false → Goes line_of result
    (reads_within old (At [] (Want (part (subject (in_line p)) o)))) (λ l. reads_within new (lined p l o)) new

abbrev pub ReadsLine : Bool → Bool → Result ForFirst ReadingFault → List Word → List Word → Type 0
ReadsLine may full result old new = (p : LinePlace) (o : Outer) → may_declare p o ≡ may → crowded_line p o ≡ full
    → Goes line_of result (line_within p o old) (λ l. reads_within new (lined p l o)) new

abbrev pub IsLinePlaced : Result ForFirst ReadingFault → List Token → ℕ → ℕ → Type 0
IsLinePlaced result tokens old new =
    IfOk result (λ l. (view_first l ≡ first_at (site_in tokens) old (line_of l)) × (new ≡ old + line_size (line_of l)))

-- whether a line that is no declaration begins there
abbrev pub starts_line : List Word → Bool
starts_line (mark Semicolon ∷ rest) = true
starts_line all = starts_operand all
