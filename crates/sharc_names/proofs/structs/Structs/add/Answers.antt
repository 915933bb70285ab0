use Rattle.sharc_names.proofs.{Imports.{ap, ◌∙◌, [], ◌∷◌, ◌++◌, bytes_eq, lookup, insert_entry-new, struct_of, view_struct, structs_seen}, StructLemmas.{found_lookup, seen_push, none_found}}
use Rattle.sharc_names.proofs.structs.Structs.add.Goals as goal

pub returns : goal.returns
returns c =
    let name = c.args.name in
    let table = c.self.inside.by_name in
    let none = none_found (lookup (λ k. bytes_eq name.now k.now) table.entries) (found_lookup name.now table.entries ∙ ap (λ s. struct_of s name.now) c.self.view_is ∙ c.requires) in
    ap structs_seen (c.in_ok-insert.ensures.entries ∙ insert_entry-new (λ x y. bytes_eq x.now y.now) table name c.args.of none)
    ∙ seen_push table.entries name c.args.of
    ∙ ap (λ s. s ++ (name.now, view_struct c.args.of) ∷ []) c.self.view_is
