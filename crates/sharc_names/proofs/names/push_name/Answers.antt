use Rattle.sharc_names.proofs.{Imports.{◌≡◌, [], ◌∷◌, ◌++◌, ap, sym, subst, ◌∙◌, hash_map_updates_str, Shadow, IsKept}, TableLemmas.kept_push}
use Rattle.sharc_names.proofs.names.push_name.Goals as goal

pub returns-clause-kept : goal.returns-clause-kept
returns-clause-kept c =
    let s : Shadow = record { bound = c.args.bound; hidden = c.args.hidden } in
    let log : c.push.new.self.items ≡ c.args.log.now.items ++ s ∷ [] = c.in_ok-push.ensures.items ∙ ap (λ l. l ++ s ∷ []) c.reserve.ensures.items in
    subst (λ l. IsKept l c.insert.new.self.entries) (sym log)
    (kept_push c.args.log.now.items s c.args.newest.now.entries c.insert.new.self.entries c.requires.kept
    (hash_map_updates_str c.args.bound.name.now c.args.newest.now c.insert.new.self _ c.in_ok-insert.ensures.updates)
    c.requires.hidden)
