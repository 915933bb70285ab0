-- A block's statements.
use Rattle.sharc_ctype.proofs.Imports.{◌≡◌, fold, ap, sym, ◌∙◌, Span, Statement, block, Statements, Scope, Findings, noted, Around, opened, notes_in, notes_in_all}

pub block_noted : (around inner : Around) (scope : Scope) (x : Statement) (s : Span) (all : Statements) (f0 f1 : Findings) → x ≡ block s all → inner ≡ opened around scope.names
    → f1 ≡ fold noted f0 (notes_in_all inner scope all) → f1 ≡ fold noted f0 (notes_in around scope x)
block_noted around inner scope x s all f0 f1 is inner_is one =
    one ∙ ap (λ i. fold noted f0 (notes_in_all i scope all)) inner_is ∙ sym (ap (λ y. fold noted f0 (notes_in around scope y)) is)
