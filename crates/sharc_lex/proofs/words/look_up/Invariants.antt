use Rattle.sharc_lex.proofs.Imports.{◌≡◌, drop, map, entry_at}
use Rattle.sharc_lex.proofs.words.look_up.Given as goal

abbrev pub invariant-loop-entry : goal.invariant-loop-entry
invariant-loop-entry l = entry_at (map (λ e. (e.text.now, e.kind)) (drop l.entry-index l.table)) l.text ≡ entry_at (map (λ e. (e.text.now, e.kind)) l.table) l.text
