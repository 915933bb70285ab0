-- A cast to modes that are expected has them.
use Rattle.sharc_suggest_laws.proofs.{Imports.{◌≡◌, ℕ, true, List, [], ◌∷◌, length, take, drop, map, Option, Some, None, refl, ap, ap₂, ◌∙◌, eq-eqb, and_from, cond-true, bytes_eq-Decides, CType, Mode, span_of, Expression, cast, Named, Resolution, named_at, kind_at, Assignment, agree, base_of, Targets, written, read, entity_row, cast_row, modes_of, Sharing, locked, lock_of, path_with, sharing_of, mode_of, same, same_named, same_text, same_first, same_second, same_all, text_at, written_or, targets, inserted, first_of, first_new, resolution_with, assignment_with, IsCastAt, HasExpected, Agrees, CastHasExpected, cast_to}, Inserted.stretch_added, Rows.{row_of, all_read}, Stands.suggested_stands, Types.targets_counted}

-- ---- the modes of a type that is shown are those that it was made of

lock_back : (first : ℕ) (text : List ℕ) (second : Option (List ℕ)) → lock_of (path_with first text second) ≡ record { first = first; second = second }
lock_back first text None = refl
lock_back first text (Some m) = refl

sharing_back : (r : Resolution) (s : Sharing) → sharing_of (mode_of r s) ≡ s
sharing_back r (locked l) = ap locked (lock_back l.first (text_at r l.first) l.second)
sharing_back r _ = refl

modes_back : (r : Resolution) (modes : List Sharing) → map sharing_of (map written_or (map (λ s. Some (mode_of r s)) modes)) ≡ modes
modes_back r [] = refl
modes_back r (s ∷ rest) = ap₂ (λ (x : Sharing) (l : List Sharing). x ∷ l) (sharing_back r s) (modes_back r rest)

-- ---- the cast has them

row_is : (m : Assignment) (e : Expression) (expected : List Sharing) (first : ℕ) (at : IsCastAt m (cast_to m e expected) first)
    → cast_row (resolution_with (cast_to m e expected) m.typed) (span_of e) ≡ row_of first (length (targets (cast_to m e expected).to.levels))
row_is m e expected first at =
    ap (entity_row written) at.stands
    ∙ ap (λ (t : CType). row_of first (length (drop 1 t.levels))) at.ctype
    ∙ ap (row_of first) (targets_counted (cast_to m e expected).to.levels)

has_expected : HasExpected
has_expected m e expected first at t source =
    let c = cast_to m e expected in
    let new : List Mode = targets c.to.levels in
    let stands : first_new c m.typed ≡ first = ap first_of at.stands in
    let modes : (assignment_with c m).modes ≡ inserted first new m.modes = ap (λ (n : ℕ). inserted n new m.modes) stands in
    ap (λ (r : Targets). Some (modes_of (assignment_with c m) r)) (row_is m e expected first at)
    ∙ ap (λ (l : List Mode). Some (map (λ mode. read (resolution_with c m.typed) written (sharing_of mode)) (take (length new) (drop first l)))) modes
    ∙ ap (λ (l : List Mode). Some (map (λ mode. read (resolution_with c m.typed) written (sharing_of mode)) l)) (stretch_added first new m.modes at.within)
    ∙ ap Some (all_read (resolution_with c m.typed) new ∙ modes_back m.typed expected)

-- ---- a mode is the same as itself

second_itself : (second : Option (List ℕ)) → same_second second second ≡ true
second_itself None = refl
second_itself (Some m) = (bytes_eq-Decides m m).1 refl

name_itself : (n : Named) → same_named n n ≡ true
name_itself (Named.Struct n) = eq-eqb n n refl
name_itself (Named.Global g) = eq-eqb g g refl
name_itself (Named.Function f) = eq-eqb f f refl
name_itself (Named.Variable x) = eq-eqb x x refl
name_itself (Named.Field f) = eq-eqb f f refl
name_itself Named.Known = refl

text_itself : (n : Named) (text : List ℕ) → same_text n text text ≡ true
text_itself Named.Known text = (bytes_eq-Decides text text).1 refl
text_itself _ text = refl

first_itself : (r : Resolution) (token : ℕ) → same_first r token token ≡ true
first_itself r token =
    and_from (same_named (named_at r token) (named_at r token)) (same_text (named_at r token) (text_at r token) (text_at r token)) (name_itself (named_at r token)) (text_itself (named_at r token) (text_at r token))

same_itself : (r : Resolution) (s : Sharing) → same r s s ≡ true
same_itself r (locked l) = and_from (same_first r l.first l.first) (same_second l.second l.second) (first_itself r l.first) (second_itself l.second)
same_itself r _ = refl

all_same : (r : Resolution) (modes : List Sharing) → same_all r modes modes ≡ true
all_same r [] = refl
all_same r (s ∷ rest) = and_from (same r s s) (same_all r rest rest) (same_itself r s) (all_same r rest)

pub agrees : Agrees
agrees m e expected first at t source =
    let c = cast_to m e expected in
    ap (λ found. agree (resolution_with c m.typed) (span_of e) (base_of (kind_at (resolution_with c m.typed) (cast (span_of e) t source))) (Some expected) found) (has_expected m e expected first at t source)
    ∙ cond-true (same_all (resolution_with c m.typed) expected expected) _ _ (all_same (resolution_with c m.typed) expected)

pub cast_has_expected : CastHasExpected
cast_has_expected = record { stands = suggested_stands; modes = has_expected; agrees = agrees }
