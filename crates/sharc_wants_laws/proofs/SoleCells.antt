-- A cell that refers to an object is seen among the references of the history.
use Rattle.sharc_wants_laws.proofs.Imports.{◌≡◌, ◌+◌, ◌≢◌, ℕ, List, Some, true, refl, sym, ap, ◌∙◌, subst, ⊎_elim, cases_eq, CellAt, SourceEvent, Object, Assignment, IsInGlobal, first_cell_of, place_after, latest, makes, is_pointer_of, is_pointer_of_made, refers, is_live, value_after, history_of, PointersAreMade, IsBeingFreed, CellsAreSeen, PointersAreOfGlobals, targets_of, in_global, in_made, in_freed, CellsSee}

-- a pointer cell of an object that is made is one by the type of the malloc
made_pointer : (m : Assignment) (R : List SourceEvent) (p i : ℕ) (e : SourceEvent) → latest (makes (Object.Made p)) R ≡ Some e → (targets_of m).is_made_pointer e.site.token i ≡ true
    → is_pointer_of m.typed R (Object.Made p) i ≡ true
made_pointer m R p i e last is = ap (λ o. is_pointer_of_made m.typed o i) last ∙ is

pub cells_see : CellsAreSeen → PointersAreMade → PointersAreOfGlobals → CellsSee
cells_see seen made pointers m code s ls tables wt fits few first run checked p i n some is =
    let k = seen (targets_of m) code s ls wt fits few m.typed first run checked p i n some is in
    let g = place_after code s run in
    let R = history_of code s run in
    let pointer : p ≢ 0 → is_live R (Object.Made p) ≡ true → is_pointer_of m.typed R (Object.Made p) i ≡ true = λ nz live.
    let e = made (targets_of m) code s ls wt fits few run checked p i nz live in
    made_pointer m R p i e.0 e.1 (sym e.2 ∙ k.pointer) in
    ⊎_elim
    (λ (zero : p ≡ 0).
    let of = pointers m i (k.global zero) in
    let c : CellAt = record { object = Object.Global of.global; cell = of.cell } in
    let inside : IsInGlobal code.globals.items of.global (i + 2) = subst (λ list. IsInGlobal list of.global (i + 2)) (sym tables.globals) of.inside in
    let at : i + 2 ≡ first_cell_of code.globals.items of.global + of.cell = of.at ∙ ap (λ list. first_cell_of list of.global + of.cell) (sym tables.globals) in
    let by = k.by_events (record { object = Object.Global of.global; cell = of.cell }) (zero, inside, at) in
    ⊎_elim
    (λ (e : refers n (value_after m.typed (history_of code s run) (record { object = Object.Global of.global; cell = of.cell })) ≡ true). in_global of.global of.cell (record { pointer = of.pointer; counts = tt; refers_there = e }))
    (λ (y : IsBeingFreed code (place_after code s run) p). in_freed y)
    by.refers_there)
    (λ (nz : p ≢ 0).
    let by = k.by_events (record { object = Object.Made p; cell = i }) (refl, nz, refl) in
    ⊎_elim
    (λ (e : refers n (value_after m.typed (history_of code s run) (record { object = Object.Made p; cell = i })) ≡ true).
    in_made (record { some = nz; live = by.live; refers_there = e; among = λ free. record { pointer = pointer nz by.live; counts = (by.live, free); refers_there = e } }))
    (λ (y : IsBeingFreed code (place_after code s run) p). in_freed y)
    by.refers_there)
    (cases_eq p 0)
