use Rattle.sharc_flatten.proofs.{Imports.{◌≡◌, ◌+◌, length, cond, Some, ap, ◌∙◌, arith, hash_map_updates_str, bytes_eq, row_at}, StructLemmas.row_of}
use Rattle.sharc_flatten.proofs.source.enter_struct.Goals as goal

pub returns : goal.returns
returns c = λ name.
    let old = row_at c.args.structs.now name in
    let layout : c.in-Some.layout ≡ c.args.number + 2 = omega (arith, c.in-Some.ensures) in
    let cells : c.in_ok-cells.cells ≡ length c.args.definition.now.fields = omega (arith, c.in_ok-cells.ensures) in
    hash_map_updates_str c.as_slice.result.now c.args.structs.now c.insert.new.self _ c.in_ok-insert.ensures.updates name
    ∙ ap (λ k. cond (bytes_eq k name) (Some (row_of c.in-Some.layout c.in_ok-cells.cells)) old) c.as_slice.ensures
    ∙ ap (λ n. cond (bytes_eq c.args.definition.now.name.text name) (Some (row_of n c.in_ok-cells.cells)) old) layout
    ∙ ap (λ n. cond (bytes_eq c.args.definition.now.name.text name) (Some (row_of (c.args.number + 2) n)) old) cells
