use Rattle.sharc_reach.proofs.Imports.{◌≡◌, mentions_below}
use Rattle.sharc_reach.proofs.walk.all_mentions.Given as goal

abbrev pub invariant-loop-function : goal.invariant-loop-function
invariant-loop-function l = l.list.items ≡ mentions_below l.typed l.function
