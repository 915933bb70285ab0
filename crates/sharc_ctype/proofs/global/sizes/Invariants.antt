-- The cells that the code keeps stand for some number of cells of the globals before: that number goes into the notes of the rest.
use Rattle.sharc_ctype.proofs.Imports.{◌≡◌, ℕ, drop, fold, min, view_items, noted, sizes_notes}
use Rattle.sharc_ctype.proofs.global.sizes.Given as goal

abbrev pub invariant-loop-item : goal.invariant-loop-item
invariant-loop-item l = (before : ℕ) × (l.cells ≡ min 65537 before)
    × (fold noted l.found (sizes_notes l.structs before (view_items (drop l.item-index l.items))) ≡ fold noted l.fn.found (sizes_notes l.structs 0 (view_items l.items)))
