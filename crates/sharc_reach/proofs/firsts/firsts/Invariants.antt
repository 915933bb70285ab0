use Rattle.sharc_reach.proofs.Imports.{◌≡◌, None, drop, fold, replicate, lowered_by}
use Rattle.sharc_reach.proofs.firsts.firsts.Given as goal

abbrev pub invariant-loop-mention : goal.invariant-loop-mention
invariant-loop-mention l = fold (lowered_by l.typed l.chosen) l.firsts.items (drop l.mention-index l.mentions) ≡ fold (lowered_by l.typed l.chosen) (replicate l.globals None) l.mentions
