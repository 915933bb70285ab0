-- The lock paths of a well-moded program are of the allowed forms.
use Rattle.sharc_flat_laws.proofs.Imports.{◌≡◌, ℕ, ◌+◌, List, [], ◌∷◌, ◌++◌, refl, sym, Option, Some, None, AllByRecursion, flat_map, Path, Span, Entity, Numbered, entities_in, numbered, numbered_from, positions_of, Resolution, globals_in, functions_in, Finding, items_notes, Assignment, type_notes, path_notes, errors_by, private_notes, mode_notes, private_field_notes, names_in_level, first_unfit_path, first_unfit_mode, place_of, WellModed, spawned_notes, touched_notes, notes_about, IsFit, front, back, no_head, none_of}

from_all : {A B : Type 0} (P : B → Type 0) (f : A → List B) (xs : List A) → AllByRecursion P (flat_map f xs) → AllByRecursion (λ x. AllByRecursion P (f x)) xs
from_all P f [] h = tt
from_all P f (x ∷ xs) h = (front P (f x) (flat_map f xs) h, from_all P f xs (back P (f x) (flat_map f xs) h))

no_path : (r : Resolution) (all : List Finding) (s : Span) (o : Option Path) → AllByRecursion (λ n. errors_by r all n ≡ []) (path_notes s o) → o ≡ None
no_path r all s None h = refl
no_path r all s (Some path) h = absurd (no_head _ _ h.0)

fit_from : (m : Assignment) (all : List Finding) (k : ℕ) (list : List Entity) → AllByRecursion (λ n. AllByRecursion (λ z. errors_by m.typed all z ≡ []) (type_notes m n)) (numbered_from k list) → AllByRecursion (IsFit m.typed) list
fit_from m all k [] h = tt
fit_from m all k (e ∷ rest) h =
    let n : Numbered = record { entity = e; first = k } in
    let P : Finding → Type 0 = λ z. errors_by m.typed all z ≡ [] in
    let a = private_notes m n in
    let b = path_notes e.written.span (first_unfit_path m.typed (place_of e.role) e.written.ctype.base e.written.ctype.levels) in
    let d = mode_notes e.written.span (first_unfit_mode (place_of e.role) e.written.ctype.base e.written.ctype.levels) in
    let f = private_field_notes m.typed n in
    let g = flat_map (names_in_level m.typed) e.written.ctype.levels in (
      no_path m.typed all e.written.span (first_unfit_path m.typed (place_of e.role) e.written.ctype.base e.written.ctype.levels)
          (back P a b (front P (a ++ b) d (front P (a ++ b ++ d) f (front P (a ++ b ++ d ++ f) g h.0)))),
      fit_from m all (k + positions_of e) rest h.1,
    )

pub well_moded_fit : (m : Assignment) → WellModed m → AllByRecursion (IsFit m.typed) (entities_in m.typed.program.items)
well_moded_fit m well =
    let all = notes_about m well.touched in
    fit_from m all 0 (entities_in m.typed.program.items)
    let P : Finding → Type 0 = λ z. errors_by m.typed all z ≡ [] in
    let a = flat_map (type_notes m) (numbered (entities_in m.typed.program.items)) in
    let b = spawned_notes m 0 (functions_in m.typed.program.items) in
    let d = touched_notes well.touched 0 (globals_in m.typed.program.items) in
    (from_all P (type_notes m) (numbered (entities_in m.typed.program.items))
    (front P a b (front P (a ++ b) d (front P (a ++ b ++ d) (items_notes m m.typed.program.items) (none_of (errors_by m.typed all) all (sym well.are))))))
