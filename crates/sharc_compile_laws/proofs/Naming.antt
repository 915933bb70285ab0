-- The functions of code by their numbers.
use Rattle.sharc_compile_laws.proofs.{Imports.{◌≡◌, pos, ◌<◌, length, List, sym, ap, ◌∙◌, subst, length-map, Row, flat_of, IsMainOf, entered_at, place, dropped, function_at, IsNamedAt, begins, program_of, CodeHasMain, FunctionsAreNamed}, Telling.started_at_name}
use Rattle.sharc_code.specs.Machine.{function_of}

pub named : FunctionsAreNamed
named m flat made code is f known =
    let pl = place (dropped (flat_of flat)) flat.lines.items in
    let items : code.functions.items ≡ is.g.functions.items = ap (λ v. v.items) is.generated.functions in
    let count : length is.g.functions.items ≡ length flat.functions.items = ap (λ (rows : List Row). length rows) is.made.functions ∙ length-map flat.functions.items (entered_at pl) in
    let known' : f < length flat.functions.items = subst (λ n. f < n) (ap (λ (rows : List Row). length rows) items ∙ count) known in
    let site : (begins (program_of is.g) f (pos 0)).site ≡ (function_of code f).site = sym (ap (λ (rows : List Row). (Rattle.std.specs.Prelude.slice_index_or rows f Rattle.sharc_code.specs.Machine.no_function).site) items) in
    subst (IsNamedAt (function_at m.typed f)) site (started_at_name m flat made code is f (pos 0) known')

pub has_main : CodeHasMain
has_main m flat made code is = subst (IsMainOf m) (sym (is.generated.main ∙ is.made.main)) made.main
