-- The tables of code that is made of a program are those of the program.
use Rattle.sharc_wants_laws.proofs.Imports.{ap, ◌∙◌, Assignment, Code, FlatCode, Flattens, IsCodeOf, HasTables}

pub has_tables : (m : Assignment) (flat : FlatCode) → Flattens m flat → (code : Code) → IsCodeOf flat code → HasTables m code
has_tables m flat made code is = record {
  globals = ap (λ v. v.items) (is.generated.globals ∙ is.made.globals) ∙ made.globals;
  granules = is.generated.granules ∙ is.made.granules ∙ made.granules;
  initial = ap (λ v. v.items) (is.generated.initial ∙ is.made.initial) ∙ made.initial;
  layouts = ap (λ v. v.items) (is.generated.layouts ∙ is.made.layouts) ∙ made.layouts;
  pointers = ap (λ v. v.items) (is.generated.pointers ∙ is.made.pointers) ∙ made.pointers;
}
