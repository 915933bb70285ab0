-- The machine's steps over the fields of a struct.
use Rattle.sharc_parse.proofs.Imports.{◌≡◌, ℕ, ◌+◌, List, [], ◌∷◌, ◌++◌, refl, sym, ap, ◌∙◌, arith, Token, Site, Semicolon, CloseBrace, Declaration, Word, mark, Declaring, Part, structure, field_of, naming, TypeWant, Named, Fields, Top, a_semicolon, At, with_part, with_declaring, StuckAt, reads_within, fields_size, declaring_size, declaration_at, declarations_at, site_in, bare_declaration, ReadsDeclaration, IsDeclarationPlaced, NotAt, from, Past, declared, Ok}

pub field_ends : (all : List Part) (s : List ℕ) (before : List Declaring) (d : Declaring) (ts y : List Word) → ts ≡ mark Semicolon ∷ y → reads_within ts (At [] (Named (field_of all s before) d.typing d.named)) ≡ reads_within y (At [] (Fields all s (with_declaring before d)))
field_ends all s before d ts y e = ap (λ ts. reads_within ts (At [] (Named (field_of all s before) d.typing d.named))) e

pub field_stuck : (all : List Part) (s : List ℕ) (before : List Declaring) (d : Declaring) (ts : List Word) → NotAt (mark Semicolon) ts → reads_within ts (At [] (Named (field_of all s before) d.typing d.named)) ≡ StuckAt ts
field_stuck all s before d (mark Semicolon ∷ y) n = absurd (n refl)
field_stuck all s before d _ n = refl

pub fields_end : (all : List Part) (s : List ℕ) (done : List Declaring) (ts y : List Word) → ts ≡ mark CloseBrace ∷ y → reads_within ts (At [] (Fields all s done)) ≡ reads_within y (At (a_semicolon ∷ []) (Top (with_part all (structure s done))))
fields_end all s done ts y e = ap (λ ts. reads_within ts (At [] (Fields all s done))) e

pub more_fields : (all : List Part) (s : List ℕ) (done : List Declaring) (ts : List Word) → NotAt (mark CloseBrace) ts → reads_within ts (At [] (Fields all s done)) ≡ reads_within ts (At [] (TypeWant (naming (field_of all s done))))
more_fields all s done (mark CloseBrace ∷ y) n = absurd (n refl)
more_fields all s done _ n = refl

pub declared_more : (list : List Declaration) (d : Declaration) → declared (list ++ d ∷ []) ≡ with_declaring (declared list) (bare_declaration d)
declared_more [] d = refl
declared_more (a ∷ rest) d = ap (λ z. bare_declaration a ∷ z) (declared_more rest d)

pub fields_size_more : (list : List Declaring) (d : Declaring) → fields_size (with_declaring list d) ≡ fields_size list + declaring_size d + 1
fields_size_more [] d = omega arith
fields_size_more (a ∷ rest) d = omega (arith, fields_size_more rest d)

pub declarations_more : (s : ℕ → Site) (n m : ℕ) (list : List Declaring) (d : Declaring) → m ≡ n + fields_size list → declarations_at s n (with_declaring list d) ≡ declarations_at s n list ++ declaration_at s m d ∷ []
declarations_more s n m [] d h = ap (λ i. declaration_at s i d ∷ []) (omega (arith, h))
declarations_more s n m (a ∷ rest) d h = ap (λ z. declaration_at s n a ∷ z) (declarations_more s (n + declaring_size a + 1) m rest d (omega (arith, h)))

-- the fields that were read so far, with the `;` after each
pub record FieldsSoFar (tokens : List Token) (n at : ℕ) (list : List Declaration) : Type 0 where
  pub reads : (all : List Part) (s : List ℕ) → reads_within (from tokens n) (At [] (TypeWant (naming (field_of all s [])))) ≡ reads_within (from tokens at) (At [] (TypeWant (naming (field_of all s (declared list)))))
  pub placed : list ≡ declarations_at (site_in tokens) n (declared list)
  pub at_is : at ≡ n + fields_size (declared list)

pub first_fields : (tokens : List Token) (n : ℕ) → FieldsSoFar tokens n n []
first_fields tokens n = record { reads = λ all s. refl; placed = refl; at_is = omega arith }

-- one field more, before the next or the `}`
pub record FieldsThere (tokens : List Token) (n at : ℕ) (list : List Declaration) : Type 0 where
  pub reads : (all : List Part) (s : List ℕ) → reads_within (from tokens n) (At [] (TypeWant (naming (field_of all s [])))) ≡ reads_within (from tokens at) (At [] (Fields all s (declared list)))
  pub placed : list ≡ declarations_at (site_in tokens) n (declared list)
  pub at_is : at ≡ n + fields_size (declared list)

pub one_field_more : (tokens : List Token) (n old mid new : ℕ) (list all : List Declaration) (d : Declaration) → all ≡ list ++ d ∷ [] → FieldsSoFar tokens n old list → ReadsDeclaration (Ok d) (from tokens old) (from tokens mid) → IsDeclarationPlaced (Ok d) tokens old mid → Past (mark Semicolon) tokens mid new → FieldsThere tokens n new all
one_field_more tokens n old mid new list all d is z r p e =
    let longer : declared all ≡ with_declaring (declared list) (bare_declaration d) = ap declared is ∙ declared_more list d in
    record {
      reads = λ parts s.
          z.reads parts s
          ∙ r (field_of parts s (declared list)) tt
          ∙ field_ends parts s (declared list) (bare_declaration d) (from tokens mid) (from tokens new) e.0
          ∙ ap (λ f. reads_within (from tokens new) (At [] (Fields parts s f))) (sym longer);
      placed = cc (is, z.placed, p.0, declarations_more (site_in tokens) n old (declared list) (bare_declaration d) z.at_is);
      at_is = omega (arith, z.at_is, p.1, e.1, ap fields_size longer, fields_size_more (declared list) (bare_declaration d));
    }

pub fields_go_on : (tokens : List Token) (n at : ℕ) (list : List Declaration) → FieldsThere tokens n at list → NotAt (mark CloseBrace) (from tokens at) → FieldsSoFar tokens n at list
fields_go_on tokens n at list z h = record { reads = λ all s. z.reads all s ∙ more_fields all s (declared list) (from tokens at) h; placed = z.placed; at_is = z.at_is }

pub fields_read : (tokens : List Token) (n at new : ℕ) (list : List Declaration) → FieldsThere tokens n at list → Past (mark CloseBrace) tokens at new → (all : List Part) (s : List ℕ) → reads_within (from tokens n) (At [] (TypeWant (naming (field_of all s [])))) ≡ reads_within (from tokens new) (At (a_semicolon ∷ []) (Top (with_part all (structure s (declared list)))))
fields_read tokens n at new list z e all s = z.reads all s ∙ fields_end all s (declared list) (from tokens at) (from tokens new) e.0
