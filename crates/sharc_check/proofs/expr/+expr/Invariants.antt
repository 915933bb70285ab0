use Rattle.sharc_check.proofs.Imports.{◌≡◌, ◌++◌, drop, view_arguments, named_at, parameters_named, notes_of_all}
use Rattle.sharc_check.proofs.expr.+expr.Given as goal

abbrev pub invariant-called-loop-expr : goal.invariant-called-loop-expr
invariant-called-loop-expr l =
    let ds = parameters_named l.program.typed (named_at l.program.typed l.name.site.token) in
    let all = view_arguments l.list in
    l.notes.items ++ notes_of_all l.program ds all l.left (view_arguments (drop l.expr-index l.list))
    ≡ l.fn.notes.items ++ notes_of_all l.program ds all ds all
