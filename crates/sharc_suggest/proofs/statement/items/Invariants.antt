use Rattle.sharc_suggest.proofs.Imports.{◌≡◌, ◌++◌, drop, view_items, suggested_in, items_givings, told}
use Rattle.sharc_suggest.proofs.statement.items.Given as goal

abbrev pub invariant-loop-one : goal.invariant-loop-one
invariant-loop-one l = l.casts.items ++ suggested_in l.known.moded.now (told l.known.named.now) (items_givings (view_items (drop l.one-index l.items))) ≡ l.fn.casts.items ++ suggested_in l.known.moded.now (told l.known.named.now) (items_givings (view_items l.items))
