use Rattle.sharc_flatten.proofs.{Imports.{length, ap, sym, ◌∙◌, Resolution, functions_in, globals_of}, RowLemmas.rows_length}
use Rattle.sharc_flatten.proofs.program.flatten.Goals as goal

pub lay_texts-requires : goal.lay_texts-requires
lay_texts-requires c =
    let m = c.args.program.now in
    ap length c.in_ok-lines.ensures.functions
    ∙ (rows_length m (globals_of m.typed) 0 (functions_in m.typed.program.items)
    ∙ ap (λ (r : Resolution). length (functions_in r.program.items)) (sym c.typed-t.ensures))
