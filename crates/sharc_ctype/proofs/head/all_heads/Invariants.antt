use Rattle.sharc_ctype.proofs.Imports.{◌≡◌, ◌≤◌, drop, fold, view_items, noted, behind_all, heads_notes}
use Rattle.sharc_ctype.proofs.head.all_heads.Given as goal

abbrev pub invariant-loop-item : goal.invariant-loop-item
invariant-loop-item l = record {
  heads : behind_all l.heads (view_items (drop l.item-index l.items)) ≡ behind_all l.fn.heads (view_items l.items);
  found : fold noted l.found (heads_notes l.heads (view_items (drop l.item-index l.items))) ≡ fold noted l.fn.found (heads_notes l.fn.heads (view_items l.items));
  structs : l.heads.structs ≤ l.item-index;
  globals : l.heads.globals ≤ l.item-index;
  functions : l.heads.functions ≤ l.item-index;
}
