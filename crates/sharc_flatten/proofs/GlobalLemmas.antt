-- The tables of the globals, from one on.
use Rattle.sharc_flatten.proofs.Imports.{◌≡◌, ℕ, ◌+◌, ◌-◌, ◌*◌, ◌/◌, ◌%◌, ◌^◌, ◌<◌, List, [], ◌∷◌, ◌++◌, take, drop, replicate, Some, ap, sym, ◌∙◌, arith, append_assoc, slice_get, GlobalDefinition, GlobalCells, word_of, Resolution, form_value, cells_in, granules_in, globals_from, all_granules, first_words, all_first_words, got as drop_got}

pub list_more : (r : Resolution) (gs : List GlobalDefinition) (n granules cells after : ℕ) (g : GlobalDefinition) (list new whole : List GlobalCells) → slice_get gs n ≡ Some g → cells ≡ cells_in r g
    → after ≡ granules + (cells + 1) / 2 → new ≡ list ++ record { granule = granules + 1; cells = cells } ∷ [] → list ++ globals_from r (granules + 1) (drop n gs) ≡ whole → new ++ globals_from r (after + 1) (drop (n + 1) gs) ≡ whole
list_more r gs n granules cells after g list new whole at is next made before =
    let rest = drop (n + 1) gs in
    let here : GlobalCells = record { granule = granules + 1; cells = cells_in r g } in
    let behind : after + 1 ≡ (granules + 1) + granules_in r g = omega (arith, next, ap (λ (k : ℕ). (k + 1) / 2) is) in
    ap (λ l. l ++ globals_from r (after + 1) rest) (made ∙ ap (λ k. list ++ record { granule = granules + 1; cells = k } ∷ []) is)
    ∙ (append_assoc list (here ∷ []) (globals_from r (after + 1) rest)
    ∙ (ap (λ k. list ++ here ∷ globals_from r k rest) behind
    ∙ (ap (λ l. list ++ globals_from r (granules + 1) l) (sym (drop_got gs n g at)) ∙ before)))

pub granules_more : (r : Resolution) (gs : List GlobalDefinition) (n granules cells after whole : ℕ) (g : GlobalDefinition) → slice_get gs n ≡ Some g → cells ≡ cells_in r g
    → after ≡ granules + (cells + 1) / 2 → granules + all_granules r (drop n gs) ≡ whole → after + all_granules r (drop (n + 1) gs) ≡ whole
granules_more r gs n granules cells after whole g at is next before =
    let rest = all_granules r (drop (n + 1) gs) in
    let all : all_granules r (drop n gs) ≡ granules_in r g + rest = ap (all_granules r) (drop_got gs n g at) in
    let same : (cells + 1) / 2 ≡ granules_in r g = ap (λ (k : ℕ). (k + 1) / 2) is in
    omega (arith, all, same, next, before)

pub words_more : (r : Resolution) (gs : List GlobalDefinition) (n cells word : ℕ) (g : GlobalDefinition) (words new whole : List ℕ) → slice_get gs n ≡ Some g → cells ≡ cells_in r g → word ≡ word_of (form_value g.form)
    → new ≡ words ++ take (2 * ((cells + 1) / 2)) (word ∷ replicate (2 * ((cells + 1) / 2)) 0) → words ++ all_first_words r (drop n gs) ≡ whole → new ++ all_first_words r (drop (n + 1) gs) ≡ whole
words_more r gs n cells word g words new whole at is first made before =
    let rest = all_first_words r (drop (n + 1) gs) in
    ap (λ l. l ++ rest) (made ∙ (ap (λ (k : ℕ). words ++ take (2 * ((k + 1) / 2)) (word ∷ replicate (2 * ((k + 1) / 2)) 0)) is ∙ ap (λ w. words ++ take (2 * granules_in r g) (w ∷ replicate (2 * granules_in r g) 0)) first))
    ∙ (append_assoc words (first_words r g) rest
    ∙ (ap (λ l. words ++ all_first_words r l) (sym (drop_got gs n g at)) ∙ before))
