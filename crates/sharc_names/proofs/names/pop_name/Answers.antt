use Rattle.sharc_names.proofs.{Imports.{◌≡◌, ◌-◌, [], ◌∷◌, ◌++◌, ap, sym, subst, ◌∙◌, Some, get_or, hash_map_updates_str, option_to_list, IsKept}, TableLemmas.kept_pop}
use Rattle.sharc_names.proofs.names.pop_name.Goals as goal

pub returns-clause-kept : goal.returns-clause-kept
returns-clause-kept c =
    let old = c.args.log.now.items in
    let last = c.index-last.result.now in
    let popped : c.pop.result ≡ Some last = c.pop.ensures.value last c.requires.some ∙ ap Some (sym (c.index-last.ensures ∙ ap (λ n. get_or old (n - 1) last) c.len.ensures)) in
    let items : old ≡ c.pop.new.self.items ++ last ∷ [] = c.pop.ensures.items ∙ ap (λ o. c.pop.new.self.items ++ option_to_list o) popped in
    kept_pop c.pop.new.self.items last c.args.newest.now.entries c.insert.new.self.entries (subst (λ l. IsKept l c.args.newest.now.entries) items c.requires.kept)
    (hash_map_updates_str last.bound.name.now c.args.newest.now c.insert.new.self _ c.in_ok-insert.ensures.updates)
