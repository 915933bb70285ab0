use Rattle.sharc_load.proofs.{Imports.{ap, ◌∙◌, sym}, Text.{source_of_pieces, written}}
use Rattle.sharc_load.proofs.source.make.Goals as goal

pub returns : goal.returns
returns g c =
    ap (λ v. v.items) c.into_bytes.ensures.value
    ∙ written _ _ _ _ _ _ _ _ _ _ _ _ _ _ _ _ _ c.new-text.ensures.bytes c.in_ok-push_str.ensures.bytes c.in_ok-write_steps.ensures c.in_ok-push_str-2.ensures.bytes c.in_ok-write_calls.ensures c.in_ok-push_str-3.ensures.bytes c.in_ok-write_spawns.ensures c.in_ok-write_joins.ensures c.in_ok-push_str-4.ensures.bytes
    ∙ sym (source_of_pieces c.args.functions)
