use Rattle.sharc_live.proofs.Imports.{[], List, drop, view_items, functions_in, FlowWarning, AddsAll}
use Rattle.sharc_live.proofs.warnings.gathered.Given as goal

abbrev pub invariant-loop-item : goal.invariant-loop-item
invariant-loop-item l = (last : List FlowWarning) → AddsAll l.typed (functions_in (view_items (drop l.item-index l.items))) l.found.items last → AddsAll l.typed (functions_in (view_items l.items)) [] last
