-- What the functions that read the items of a program promise.
use Rattle.std.specs.Prelude.{◌≡◌, ℕ, ◌+◌, true, List, [], Option, Some, None, Result, Ok, Err, IfOk}
use Rattle.sharc_tree.specs.Tree as tree
use Rattle.sharc_tree.specs.{View.view_item, declared.token.Token.Token}
use Rattle.sharc_tree.specs.declared.token.Punctuator.TheVariants.{OpenBrace}
use Rattle.sharc_tree.specs.declared.tree.declaration.Identifier.{Identifier}
use Rattle.sharc_tree.specs.{declared.tree.declaration.WrittenType.WrittenType, declared.tree.item.Item.Item}
use Rattle.sharc_parse.specs.Grammar.{Word, mark, Typing, Part, structure, global, function}
use Rattle.sharc_parse.specs.Machine.{on_top, field_of, parameter_of, naming, TypeWant, Top, State, At, with_part}
use Rattle.sharc_parse.specs.{Limits.reads_within, Places.{site_in, type_size, part_size, name_at, type_at, item_at}}
use Rattle.sharc_parse.specs.{declared.token.ReadingFault.ReadingFault, declared.token.ReadingFault.TheVariants.Memory}
use Rattle.sharc_parse.specs.{View.{bare_type, bare_declaration}, Goes.{from, Past, NotAt, Goes}}
use Rattle.sharc_parse.specs.{Types.{typed_state, EndsType}, Locals.struct_type, Forms.form_of, Fields.declared}
use Rattle.sharc_parse.specs.Statements.{bare_statements}

abbrev pub bare_item : tree.Item → Part
bare_item (tree.structure s) = structure s.name.text (declared s.fields)
bare_item (tree.global g) = global (bare_declaration g.declaration) (form_of g.form)
bare_item (tree.function f) = function (record {
  result = bare_type f.result;
  named = f.name.text;
  parameters = declared f.parameters;
  body = bare_statements f.statements;
})

abbrev pub part_of : Item → Part
part_of i = bare_item (view_item i)

-- past the `{` after a type that is only the name of a struct
abbrev pub OpensStruct : Result (Option Identifier) ReadingFault → WrittenType → List Token → ℕ → ℕ → Type 0
OpensStruct (Ok (Some i)) w tokens old new =
    (bare_type w ≡ struct_type i.text) × (i.site ≡ w.base) × Past (mark OpenBrace) tokens old new
OpensStruct (Ok None) w tokens old new =
    (new ≡ old) × ((n : List ℕ) → bare_type w ≡ struct_type n → NotAt (mark OpenBrace) (from tokens new))
OpensStruct (Err Memory) w tokens old new = Past (mark OpenBrace) tokens old new
OpensStruct (Err _) w tokens old new = ⊥

-- the item is read from that state on
abbrev pub ReadsPart : (List Part → State) → Result Item ReadingFault → List Word → List Word → Type 0
ReadsPart before result old new = (all : List Part)
    → Goes part_of result (reads_within old (before all)) (λ p. reads_within new (At [] (Top (with_part all p)))) new

-- the tree of the item lies at its tokens, from that number on
abbrev pub StandsItem : Item → List Token → ℕ → ℕ → Type 0
StandsItem i tokens n new = (view_item i ≡ item_at (site_in tokens) n (part_of i)) × (new ≡ n + part_size (part_of i))

-- what follows `struct id {`
abbrev pub ReadsStruct : List ℕ → Result Item ReadingFault → List Word → List Word → Type 0
ReadsStruct n = ReadsPart (λ all. At [] (TypeWant (naming (field_of all n []))))

abbrev pub IsStructPlaced : Identifier → Result Item ReadingFault → List Token → ℕ → ℕ → Type 0
IsStructPlaced name result tokens old new = IfOk result (λ i. (n : ℕ) → n + 3 ≡ old
    → name ≡ name_at (site_in tokens) (n + 1) name.text → StandsItem i tokens n new)

-- what follows `type id (`
abbrev pub ReadsFunction : Typing → List ℕ → Result Item ReadingFault → List Word → List Word → Type 0
ReadsFunction t n = ReadsPart (λ all. At [] (TypeWant (naming (parameter_of all t n []))))

abbrev pub IsFunctionPlaced : WrittenType → Identifier → ℕ → Result Item ReadingFault → List Token → ℕ → ℕ → Type 0
IsFunctionPlaced w name first result tokens old new = IfOk result (λ i. w ≡ type_at (site_in tokens) first (bare_type w)
    → name ≡ name_at (site_in tokens) (first + type_size (bare_type w)) name.text
    → old ≡ first + type_size (bare_type w) + 2 → StandsItem i tokens first new)

-- what follows the type of a global or a function
abbrev pub ReadsNamed : WrittenType → Result Item ReadingFault → List Word → List Word → Type 0
ReadsNamed w result old new = EndsType true (Ok w) old
    → ((n : List ℕ) → bare_type w ≡ struct_type n → NotAt (mark OpenBrace) old)
    → ReadsPart (λ all. typed_state (naming (on_top all)) (bare_type w)) result old new

abbrev pub IsNamedPlaced : WrittenType → ℕ → Result Item ReadingFault → List Token → ℕ → ℕ → Type 0
IsNamedPlaced w first result tokens old new = IfOk result (λ i. w ≡ type_at (site_in tokens) first (bare_type w)
    → old ≡ first + type_size (bare_type w) → StandsItem i tokens first new)

abbrev pub ReadsItem : Result Item ReadingFault → List Word → List Word → Type 0
ReadsItem = ReadsPart (λ all. At [] (TypeWant (naming (on_top all))))

abbrev pub IsItemPlaced : Result Item ReadingFault → List Token → ℕ → ℕ → Type 0
IsItemPlaced result tokens old new = IfOk result (λ i. StandsItem i tokens old new)
