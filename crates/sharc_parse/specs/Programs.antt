-- What the parser answers: the program, or the first fault.
use Rattle.std.specs.Prelude.{◌≡◌, ℕ, List, [], ◌∷◌, drop, map, slice_index_or, Result, Ok, Err, IfOk}
use Rattle.sharc_tree.specs.{View.{view_items, view_program}, declared.token.Token.Token, declared.token.Tokens.Tokens}
use Rattle.sharc_tree.specs.{declared.token.Site.Site, declared.token.FaultAt.FaultAt, declared.tree.item.Item.Item}
use Rattle.sharc_tree.specs.declared.tree.item.Program.{Program}
use Rattle.sharc_parse.specs.{declared.fault.GrammarFault.GrammarFault, Grammar.{Word, Part}, Machine.first_state}
use Rattle.sharc_parse.specs.{Limits.{ReadWithin, reads_within}, Places.{words_of, site_in, items_at, Reads}}
use Rattle.sharc_parse.specs.{Faults.{IsFault, wrong_code}, declared.program.TokenRefusal.TokenRefusal}
use Rattle.sharc_parse.specs.declared.program.TokenRefusal.TheVariants.{Wrong, Deep}
use Rattle.sharc_parse.specs.{declared.token.ReadingFault.ReadingFault, declared.program.ParseFault.ParseFault}
use Rattle.sharc_parse.specs.{declared.program.ParseFault.TheVariants.{At as FaultOf, Memory}, Goes.{from, Goes}}
use Rattle.sharc_parse.specs.Items.{part_of}
use Rattle.sharc_parse.specs.declared.fault.GrammarFault.TheVariants as fault

-- the file and the line of the first of the tokens, or of the end of input
abbrev pub file_of : List Token → Site → ℕ
file_of [] end = end.file
file_of (t ∷ rest) end = t.file

abbrev pub line_of : List Token → Site → ℕ
line_of [] end = end.line
line_of (t ∷ rest) end = t.line

abbrev pub text_of : List Token → List ℕ
text_of [] = []
text_of (t ∷ rest) = t.text

-- what a fault says of the first of the tokens: P1 and P3 its text, if there is one
abbrev pub told_of : GrammarFault → List Token → List ℕ
told_of fault.Unexpected all = text_of all
told_of fault.Deep all = []
told_of fault.LeftOut all = text_of all

-- the fault at the first of the words: P2 over a limit, else P1 or P3
abbrev pub code_of : TokenRefusal → List Word → GrammarFault
code_of Deep all = fault.Deep
code_of Wrong all = wrong_code all

-- what the fault says of token number n, or of the end of input
pub record IsToldAt (tokens : Tokens) (fault : FaultAt GrammarFault) (n : ℕ) : Type 0 where
  pub file : fault.file ≡ slice_index_or tokens.files (file_of (drop n tokens.list) tokens.end) []
  pub line : fault.line ≡ line_of (drop n tokens.list) tokens.end
  pub offset : fault.offset ≡ 0
  pub text : fault.text ≡ told_of fault.code (drop n tokens.list)

-- The fault is the first of the source: a token, counted from 0, or the end of input, with its code, its file, its line
-- and its text.
pub record IsFaultOf (tokens : Tokens) (fault : FaultAt GrammarFault) : Type 0 where
  pub number : ℕ
  pub is : IsFault (words_of tokens.list) fault.code number
  pub told : IsToldAt tokens fault number

-- the program is read from all the tokens; or the fault is the first, and the tokens are handed back
abbrev pub Parses : Result Program ParseFault → Tokens → Type 0
Parses (Ok p) tokens = Reads tokens (view_program p)
Parses (Err (FaultOf fault back)) tokens = IsFaultOf tokens fault × (back ≡ tokens)
Parses (Err Memory) tokens = Unit {0}

-- what the machine makes of all the words
abbrev pub parts_of : List Item → List Part
parts_of = map part_of

abbrev pub ReadsItems : {A : Type 0} → (A → List Item) → Result A ReadingFault → List Token → ℕ → Type 0
ReadsItems list result tokens new =
    Goes (λ v. parts_of (list v)) result (reads_within (words_of tokens) first_state) ReadWithin (from tokens new)

abbrev pub AreItemsPlaced : {A : Type 0} → (A → List Item) → Result A ReadingFault → List Token → Type 0
AreItemsPlaced list result tokens =
    IfOk result (λ v. view_items (list v) ≡ items_at (site_in tokens) 0 (parts_of (list v)))

-- a refusal at that token
abbrev pub Refuses : Result Program ParseFault → Tokens → ℕ → TokenRefusal → Type 0
Refuses (Ok p) tokens n refusal = ⊥
Refuses (Err (FaultOf fault back)) tokens n refusal =
    IsToldAt tokens fault n × (fault.code ≡ code_of refusal (from tokens.list n)) × (back ≡ tokens)
Refuses (Err Memory) tokens n refusal = Unit {0}

-- the program of these items
abbrev pub Completes : Result Program ParseFault → Tokens → List Item → Type 0
Completes (Ok p) tokens items =
    view_program p ≡ record { files = tokens.files; items = view_items items; tokens = tokens }
Completes (Err (FaultOf fault back)) tokens items = ⊥
Completes (Err Memory) tokens items = Unit {0}
