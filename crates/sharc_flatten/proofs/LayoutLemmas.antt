-- The layouts of the structs, from one on.
use Rattle.sharc_flatten.proofs.Imports.{◌≡◌, ℕ, ◌+◌, List, [], ◌∷◌, ◌++◌, length, drop, Some, ap, sym, ◌∙◌, append_assoc, length-append, slice_get, StructDefinition, Layout, pointers_among, layouts_from, all_pointers, got as drop_got}

pub layouts_more : (structs : List StructDefinition) (n : ℕ) (s : StructDefinition) (pointers after : List ℕ) (list new whole : List Layout) → slice_get structs n ≡ Some s → after ≡ pointers ++ pointers_among 0 s.fields
    → new ≡ list ++ record { cells = length s.fields; from = length pointers; until = length after } ∷ [] → list ++ layouts_from (length pointers) (drop n structs) ≡ whole
    → new ++ layouts_from (length after) (drop (n + 1) structs) ≡ whole
layouts_more structs n s pointers after list new whole at next made before =
    let rest = drop (n + 1) structs in
    let end : length after ≡ length pointers + length (pointers_among 0 s.fields) = ap length next ∙ length-append pointers (pointers_among 0 s.fields) in
    ap (λ l. l ++ layouts_from (length after) rest) made
    ∙ (append_assoc list (record { cells = length s.fields; from = length pointers; until = length after } ∷ []) (layouts_from (length after) rest)
    ∙ (ap (λ k. list ++ record { cells = length s.fields; from = length pointers; until = k } ∷ layouts_from k rest) end
    ∙ (ap (λ l. list ++ layouts_from (length pointers) l) (sym (drop_got structs n s at)) ∙ before)))

pub pointers_more : (structs : List StructDefinition) (n : ℕ) (s : StructDefinition) (pointers after whole : List ℕ) → slice_get structs n ≡ Some s → after ≡ pointers ++ pointers_among 0 s.fields
    → pointers ++ all_pointers (drop n structs) ≡ whole → after ++ all_pointers (drop (n + 1) structs) ≡ whole
pointers_more structs n s pointers after whole at next before =
    ap (λ l. l ++ all_pointers (drop (n + 1) structs)) next
    ∙ (append_assoc pointers (pointers_among 0 s.fields) (all_pointers (drop (n + 1) structs))
    ∙ (ap (λ l. pointers ++ all_pointers l) (sym (drop_got structs n s at)) ∙ before))
