-- Objects, cells and modes that are found to be the same are equal.
use Rattle.std.proofs.{Common.{◌≡◌, true, subst, Option, Some, None, refl, ap, ◌∙◌}, lemmas.Bool.{eqb-true, eq-eqb, and_parts, and_from}}
use Rattle.sharc_tree.specs.{declared.event.CellAt.CellAt, declared.event.CellMode.CellMode, declared.event.CellMode.TheVariants.{Private, Readonly, Locked, Racy, Dynamic}, declared.event.Object.Object, declared.event.Object.TheVariants.{Global, Made}}
use Rattle.sharc_meaning.specs.Events.{same_object, same_cell}
use Rattle.sharc_judge.specs.{Deciding.{same_mutex, same_mode, is_dynamic}, Laws.{EqualObjects, EqualCells, EqualModes}}

pub equal_objects : (a b : Object) → same_object a b ≡ true → a ≡ b
equal_objects (Global g) (Global h) e = ap Global (eqb-true g h e)
equal_objects (Made g) (Made h) e = ap Made (eqb-true g h e)
equal_objects (Global g) (Made h) e = absurd (cc)
equal_objects (Made g) (Global h) e = absurd (cc)

pub same_as_itself : (a : Object) → same_object a a ≡ true
same_as_itself (Global g) = eq-eqb g g refl
same_as_itself (Made g) = eq-eqb g g refl

pub equal_cells : (a b : CellAt) → same_cell a b ≡ true → a ≡ b
equal_cells a b e =
    let parts = and_parts _ _ e in
    let o = equal_objects a.object b.object parts.0 in
    let c = eqb-true a.cell b.cell parts.1 in
    found o c
  where
    found : a.object ≡ b.object → a.cell ≡ b.cell → a ≡ b
    found o c = ap (λ z. record { object = z; cell = a.cell }) o ∙ ap (λ z. record { object = b.object; cell = z }) c

pub same_cell_itself : (a : CellAt) → same_cell a a ≡ true
same_cell_itself a = and_from _ _ (same_as_itself a.object) (eq-eqb a.cell a.cell refl)

equal_mutexes : (a b : Option CellAt) → same_mutex a b ≡ true → a ≡ b
equal_mutexes None None e = refl
equal_mutexes (Some c) (Some d) e = ap Some (equal_cells c d e)
equal_mutexes None (Some d) e = absurd (cc)
equal_mutexes (Some c) None e = absurd (cc)

same_mutex_itself : (a : Option CellAt) → same_mutex a a ≡ true
same_mutex_itself None = refl
same_mutex_itself (Some c) = same_cell_itself c

pub equal_modes : (a b : CellMode) → same_mode a b ≡ true → a ≡ b
equal_modes Private Private e = refl
equal_modes Readonly Readonly e = refl
equal_modes (Locked c) (Locked d) e = ap Locked (equal_mutexes c d e)
equal_modes Racy Racy e = refl
equal_modes Dynamic Dynamic e = refl
equal_modes _ _ e = absurd (cc)

pub same_mode_itself : (a : CellMode) → same_mode a a ≡ true
same_mode_itself (Locked c) = same_mutex_itself c
same_mode_itself _ = refl

pub objects : EqualObjects
objects a b = (equal_objects a b, λ e. subst (λ z. same_object a z ≡ true) e (same_as_itself a))

pub cells : EqualCells
cells a b = (equal_cells a b, λ e. subst (λ z. same_cell a z ≡ true) e (same_cell_itself a))

pub modes : EqualModes
modes a b = (equal_modes a b, λ e. subst (λ z. same_mode a z ≡ true) e (same_mode_itself a))

pub dynamic_is : (mode : CellMode) → is_dynamic mode ≡ true → mode ≡ Dynamic
dynamic_is Dynamic h = refl
dynamic_is _ h = absurd (cc)
