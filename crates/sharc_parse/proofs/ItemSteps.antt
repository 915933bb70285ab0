-- The machine's steps over the items of a program.
use Rattle.sharc_parse.proofs.Imports.{◌≡◌, ℕ, ◌+◌, List, [], ◌∷◌, refl, sym, ap, ◌∙◌, arith, subst, true, Result, Ok, Err, None, Token, Site, Span, OpenBrace, Identifier, WrittenType, Declaration, Stmt, Item, mark, Typing, Part, structure, no_more, on_top, body, parameter_of, naming, TypeWant, Start, Top, a_brace, At, with_part, function_of, reads_within, span_at, name_at, fields_size, part_size, declarations_at, item_at, ReadingFault, Memory, bare_type, from, Past, NotAt, Goes, ReadsType, EndsType, struct_type, declared, sentences_of, ReadsStatements, ReadsParameters, part_of, OpensStruct, ReadsFunction, ReadsNamed, ReadsItem}
use Rattle.sharc_tree.specs.Tree as tree

abbrev made_struct : Span → Identifier → List Declaration → tree.Item
made_struct sp name fields = tree.structure (record { span = sp; name = name; fields = fields })

-- a struct at its tokens
pub struct_stands : (s : ℕ → Site) (n first old mid new : ℕ) (name : Identifier) (sp : Span) (fields : List Declaration) → n + 3 ≡ old → first + 3 ≡ old → name ≡ name_at s (n + 1) name.text → ((length : ℕ) → new ≡ first + length → sp ≡ span_at s first length) → fields ≡ declarations_at s old (declared fields) → mid ≡ old + fields_size (declared fields) + 1 → new ≡ mid + 1 → (made_struct sp name fields ≡ item_at s n (structure name.text (declared fields))) × (new ≡ n + part_size (structure name.text (declared fields)))
struct_stands s n first old mid new name sp fields h k named spans f m e =
    let begins : first ≡ n = omega (arith, h, k) in
    let size : new ≡ first + (fields_size (declared fields) + 5) = omega (arith, h, k, m, e) in
    let span_is : sp ≡ span_at s n (fields_size (declared fields) + 5) = spans (fields_size (declared fields) + 5) size ∙ ap (λ i. span_at s i (fields_size (declared fields) + 5)) begins in
    let fields_are : fields ≡ declarations_at s (n + 3) (declared fields) = f ∙ ap (λ i. declarations_at s i (declared fields)) (sym h) in (
      cc (span_is, named, fields_are),
      omega (arith, h, m, e),
    )

-- up to the first statement of the body
function_begins : {A : Type 0} (see : A → List Declaration) (v : A) (t : Typing) (n : List ℕ) (tokens : List Token) (old mid next : ℕ) → ReadsParameters see (Ok v) (from tokens old) (from tokens mid) → Past (mark OpenBrace) tokens mid next → (all : List Part) → reads_within (from tokens old) (At [] (TypeWant (naming (parameter_of all t n [])))) ≡ reads_within (from tokens next) (At [] (Start (body all t n (declared (see v)) no_more)))
function_begins see v t n tokens old mid next r e all = r all t n ∙ ap (λ ts. reads_within ts (At (a_brace ∷ []) (Start (body all t n (declared (see v)) no_more)))) e.0

-- the body is wrong
pub function_wrong : {A B : Type 0} (see : A → List Declaration) (look : B → List Stmt) (v : A) (e : ReadingFault) (t : Typing) (n : List ℕ) (tokens : List Token) (old mid next new : ℕ) → ReadsParameters see (Ok v) (from tokens old) (from tokens mid) → Past (mark OpenBrace) tokens mid next → ReadsStatements look 63 (Err e) (from tokens next) (from tokens new) → ReadsFunction t n (Err e) (from tokens old) (from tokens new)
function_wrong see look v Memory t n tokens old mid next new r p b all = tt
function_wrong see look v _ t n tokens old mid next new r p b all = function_begins see v t n tokens old mid next r p all ∙ b (body all t n (declared (see v)) no_more) refl refl

pub function_read : {A B : Type 0} (see : A → List Declaration) (look : B → List Stmt) (v : A) (w : B) (given : List Declaration) (t : Typing) (n : List ℕ) (tokens : List Token) (old mid next new : ℕ) → given ≡ see v → ReadsParameters see (Ok v) (from tokens old) (from tokens mid) → Past (mark OpenBrace) tokens mid next → ReadsStatements look 63 (Ok w) (from tokens next) (from tokens new) → (all : List Part) → reads_within (from tokens old) (At [] (TypeWant (naming (parameter_of all t n [])))) ≡ reads_within (from tokens new) (At [] (Top (with_part all (function_of t n (declared given) (sentences_of (look w))))))
function_read see look v w given t n tokens old mid next new is r p b all =
    function_begins see v t n tokens old mid next r p all
    ∙ b (body all t n (declared (see v)) no_more) refl refl
    ∙ ap (λ l. reads_within (from tokens new) (At [] (Top (with_part all (function_of t n (declared l) (sentences_of (look w))))))) (sym is)

-- after a type, where no struct begins
pub item_named : (tokens : List Token) (old mid next new : ℕ) (w : WrittenType) (result : Result Item ReadingFault) → ReadsType true (Ok w) (from tokens old) (from tokens mid) → EndsType true (Ok w) (from tokens mid) → OpensStruct (Ok None) w tokens mid next → ReadsNamed w result (from tokens next) (from tokens new) → ReadsItem result (from tokens old) (from tokens new)
item_named tokens old mid next new w result r ends o named all =
    let there : ReadsNamed w result (from tokens mid) (from tokens new) = subst (λ i. ReadsNamed w result (from tokens i) (from tokens new)) o.0 named in
    let other = subst (λ i. (x : List ℕ) → bare_type w ≡ struct_type x → NotAt (mark OpenBrace) (from tokens i)) o.0 o.1 in
    subst (λ was. Goes part_of result was (λ p. reads_within (from tokens new) (At [] (Top (with_part all p)))) (from tokens new)) (sym (r (naming (on_top all)) refl)) (there ends other all)
