-- What is said of a call.
use Rattle.sharc_check.proofs.Imports.{◌≡◌, List, ◌++◌, ap, sym, ◌∙◌, append_assoc, Span, Identifier, Expr, Expression, call, view_arguments, named_at, parameters_named, Finding, notes_of, notes_of_all, Assignment, call_notes}

pub call_said : (m : Assignment) (e : Expression) (s : Span) (f : Identifier) (list slice : List Expr) (n : List Finding)
    → e ≡ call s f (view_arguments list) → slice ≡ list
    → let ds = parameters_named m.typed (named_at m.typed f.site.token) in let all = view_arguments slice in
    (n ++ notes_of_all m ds all ds all) ++ call_notes m s ds all ≡ n ++ notes_of m e
call_said m e s f list slice n is slice_is =
    let ds = parameters_named m.typed (named_at m.typed f.site.token) in
    let A = λ (l : List Expr). notes_of_all m ds (view_arguments l) ds (view_arguments l) in
    let B = λ (l : List Expr). call_notes m s ds (view_arguments l) in
    append_assoc n (A slice) (B slice) ∙ ap (λ l. n ++ (A l ++ B l)) slice_is ∙ sym (ap (λ x. n ++ notes_of m x) is)
