use Rattle.sharc_names.proofs.{Imports.hash_map_updates_str, FieldLemmas.also_written}
use Rattle.sharc_names.proofs.fields.note_first.Goals as goal

pub returns-clause-written : goal.returns-clause-written
returns-clause-written c =
    also_written c.as_slice.result.now c.args.field c.args.known c.args.by_name.now.entries c.insert.new.self.entries c.as_slice.ensures c.if-known.false
    (hash_map_updates_str c.as_slice.result.now c.args.by_name.now c.insert.new.self _ c.in_ok-insert.ensures.updates)
