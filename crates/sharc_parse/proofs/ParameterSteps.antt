-- The machine's steps over the parameters of a function.
use Rattle.sharc_parse.proofs.{Imports.{◌≡◌, ℕ, ◌+◌, List, [], ◌∷◌, ◌++◌, Some, refl, sym, ap, ◌∙◌, arith, Ok, Err, Token, Comma, CloseParenthesis, Declaration, Word, mark, Typing, Declaring, Part, no_more, body, parameter_of, naming, TypeWant, Named, Start, a_brace, At, with_declaring, StuckAt, reads_within, site_in, fields_size, declaring_size, declarations_at, parameters_size, ReadingFault, Memory, Wrong, bare_declaration, NotAt, from, Past, IsPlainPlace, ReadsDeclaration, IsDeclarationPlaced, declared, ReadsFirst, IsFirstPlaced, ReadsParameters, AreParametersPlaced}, FieldSteps.{declared_more, fields_size_more, declarations_more}}

parameter_goes : (all : List Part) (r : Typing) (f : List ℕ) (before : List Declaring) (d : Declaring) (ts y : List Word) → ts ≡ mark Comma ∷ y → reads_within ts (At [] (Named (parameter_of all r f before) d.typing d.named)) ≡ reads_within y (At [] (TypeWant (naming (parameter_of all r f (with_declaring before d)))))
parameter_goes all r f before d ts y e = ap (λ ts. reads_within ts (At [] (Named (parameter_of all r f before) d.typing d.named))) e

parameters_end : (all : List Part) (r : Typing) (f : List ℕ) (before : List Declaring) (d : Declaring) (ts y : List Word) → ts ≡ mark CloseParenthesis ∷ y → reads_within ts (At [] (Named (parameter_of all r f before) d.typing d.named)) ≡ reads_within y (At (a_brace ∷ []) (Start (body all r f (with_declaring before d) no_more)))
parameters_end all r f before d ts y e = ap (λ ts. reads_within ts (At [] (Named (parameter_of all r f before) d.typing d.named))) e

parameter_stuck : (all : List Part) (r : Typing) (f : List ℕ) (before : List Declaring) (d : Declaring) (ts : List Word) → NotAt (mark Comma) ts → NotAt (mark CloseParenthesis) ts → reads_within ts (At [] (Named (parameter_of all r f before) d.typing d.named)) ≡ StuckAt ts
parameter_stuck all r f before d (mark Comma ∷ y) n m = absurd (n refl)
parameter_stuck all r f before d (mark CloseParenthesis ∷ y) n m = absurd (m refl)
parameter_stuck all r f before d _ n m = refl

-- after another parameter only a name may follow the type
plain_parameter : (all : List Part) (r : Typing) (f : List ℕ) (before : List Declaring) (d : Declaring) → IsPlainPlace (parameter_of all r f (with_declaring before d))
plain_parameter all r f [] d = tt
plain_parameter all r f (a ∷ rest) d = tt

parameters_size_more : (before : List Declaring) (d : Declaring) → parameters_size (with_declaring before d) ≡ fields_size before + declaring_size d
parameters_size_more (a ∷ (b ∷ rest)) d = omega (arith, parameters_size_more (b ∷ rest) d)
parameters_size_more _ d = omega arith

-- the parameters that were read so far, up to the name of the last
pub record GivenSoFar (tokens : List Token) (n at : ℕ) (list : List Declaration) : Type 0 where
  pub before : List Declaring
  pub last : Declaring
  pub are : declared list ≡ with_declaring before last
  pub reads : (all : List Part) (r : Typing) (f : List ℕ) → reads_within (from tokens n) (At [] (TypeWant (naming (parameter_of all r f [])))) ≡ reads_within (from tokens at) (At [] (Named (parameter_of all r f before) last.typing last.named))
  pub placed : list ≡ declarations_at (site_in tokens) n (declared list)
  pub at_is : at ≡ n + fields_size before + declaring_size last

pub first_given : (tokens : List Token) (n at : ℕ) (list : List Declaration) (d : Declaration) → list ≡ d ∷ [] → ReadsFirst (Ok (Some d)) (from tokens n) (from tokens at) → IsFirstPlaced (Ok (Some d)) tokens n at → GivenSoFar tokens n at list
first_given tokens n at list d is r p = record {
  before = [];
  last = bare_declaration d;
  are = ap declared is;
  reads = r;
  placed = is ∙ ap (λ x. x ∷ []) p.0 ∙ ap (λ l. declarations_at (site_in tokens) n (declared l)) (sym is);
  at_is = omega (arith, p.1);
}

-- past the comma
given_comma : (tokens : List Token) (n old mid : ℕ) (list : List Declaration) (z : GivenSoFar tokens n old list) → Past (mark Comma) tokens old mid → (all : List Part) (r : Typing) (f : List ℕ) → reads_within (from tokens n) (At [] (TypeWant (naming (parameter_of all r f [])))) ≡ reads_within (from tokens mid) (At [] (TypeWant (naming (parameter_of all r f (with_declaring z.before z.last)))))
given_comma tokens n old mid list z e all r f = z.reads all r f ∙ parameter_goes all r f z.before z.last (from tokens old) (from tokens mid) e.0

pub one_given_more : (tokens : List Token) (n old mid new : ℕ) (list all : List Declaration) (d : Declaration) → all ≡ list ++ d ∷ [] → GivenSoFar tokens n old list → Past (mark Comma) tokens old mid → ReadsDeclaration (Ok d) (from tokens mid) (from tokens new) → IsDeclarationPlaced (Ok d) tokens mid new → GivenSoFar tokens n new all
one_given_more tokens n old mid new list all d is z e r p =
    let longer : declared all ≡ with_declaring (declared list) (bare_declaration d) = ap declared is ∙ declared_more list d in
    let size : fields_size (with_declaring z.before z.last) ≡ fields_size z.before + declaring_size z.last + 1 = fields_size_more z.before z.last in
    let there : mid ≡ n + fields_size (declared list) = omega (arith, z.at_is, e.1, size, ap fields_size z.are) in
    record {
      before = with_declaring z.before z.last;
      last = bare_declaration d;
      are = longer ∙ ap (λ l. with_declaring l (bare_declaration d)) z.are;
      reads = λ parts t f. given_comma tokens n old mid list z e parts t f ∙ r (parameter_of parts t f (with_declaring z.before z.last)) (plain_parameter parts t f z.before z.last);
      placed = cc (is, z.placed, p.0, declarations_more (site_in tokens) n mid (declared list) (bare_declaration d) there);
      at_is = omega (arith, z.at_is, e.1, p.1, size);
    }

-- the next parameter is wrong
pub given_wrong : {A : Type 0} (see : A → List Declaration) (e : ReadingFault) (tokens : List Token) (n old mid new : ℕ) (list : List Declaration) → GivenSoFar tokens n old list → Past (mark Comma) tokens old mid → ReadsDeclaration (Err e) (from tokens mid) (from tokens new) → ReadsParameters see (Err e) (from tokens n) (from tokens new)
given_wrong see Memory tokens n old mid new list z e r all t f = tt
given_wrong see _ tokens n old mid new list z e r all t f = given_comma tokens n old mid list z e all t f ∙ r (parameter_of all t f (with_declaring z.before z.last)) (plain_parameter all t f z.before z.last)

pub given_stuck : {A : Type 0} (see : A → List Declaration) (tokens : List Token) (n at : ℕ) (list : List Declaration) → GivenSoFar tokens n at list → NotAt (mark Comma) (from tokens at) → NotAt (mark CloseParenthesis) (from tokens at) → ReadsParameters see (Err Wrong) (from tokens n) (from tokens at)
given_stuck see tokens n at list z a b all r f = z.reads all r f ∙ parameter_stuck all r f z.before z.last (from tokens at) a b

pub given_read : {A : Type 0} (see : A → List Declaration) (v : A) (tokens : List Token) (n at new : ℕ) → GivenSoFar tokens n at (see v) → Past (mark CloseParenthesis) tokens at new → ReadsParameters see (Ok v) (from tokens n) (from tokens new)
given_read see v tokens n at new z e all r f =
    z.reads all r f
    ∙ parameters_end all r f z.before z.last (from tokens at) (from tokens new) e.0
    ∙ ap (λ l. reads_within (from tokens new) (At (a_brace ∷ []) (Start (body all r f l no_more)))) (sym z.are)

pub given_stand : {A : Type 0} (see : A → List Declaration) (v : A) (tokens : List Token) (n at new : ℕ) → GivenSoFar tokens n at (see v) → Past (mark CloseParenthesis) tokens at new → AreParametersPlaced see (Ok v) tokens n new
given_stand see v tokens n at new z e = (z.placed, omega (arith, z.at_is, e.1, parameters_size_more z.before z.last, ap parameters_size z.are))
