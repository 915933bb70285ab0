-- The fields of elements that are accessed are fields of them, and so is that with the mutex, or the pointer to it, of the same element.
use Rattle.sharc_accepted_laws.proofs.Imports.{◌≡◌, inl, inr, ℕ, ◌<◌, false, List, [], ◌∷◌, length, get_or as slice_index_or, refl, ap, sym, ◌∙◌, subst, arith, option_map, Option, Some, None, Contains, Expression, is_array, is_struct_behind, elements_of, Resolution, named_at, globals_in, global_at, kind_at, MeetsGlobal, MeetsGlobals, field_place, is_mutex_kind, cell_at, Assignment, modes_of, modes_at, Lock, Sharing, locked, IsExpression, kind_of, guard_of, Target, in_global_at, in_object_at, target, beside_named, beside_field, Context, Field, FieldMode, no_field, row_of, cells_of, field_at, Setting, type_by, AreFields, list_or, modes_of_pointer, cells_in_each, LockLeads, to_global, to_variable, PathLeads, IsAccepted, entry_by, entry_of, BesideFits, AreLockedBeside, LocksStandBeside, ExpressionsFound, GlobalsAre, pointer_of, IsOfObject, IsOfGlobal, ModeFits, locked_by_type, locked_by_global, locked_by_sibling, locked_behind, FieldFits, IsBehindPointer, IsInFile, NamesCell, no_cell, of_object, of_global, LvaluesFit, expression_shape, shapes, number, global_element, targets_of, typing, same_some, none_some, of_each, place_there}

-- ---- of what an lvalue names
module _ (z : Setting) (n : ℕ) (c : Context) where
  abbrev pub Inside : ℕ → ℕ → Option ℕ → Type 0
  Inside count k guard = AreFields z n typing count k guard

  -- with the pointer through which it leads
  abbrev pub TopFits : Target → Option Expression → Option ℕ → Type 0
  TopFits (in_global_at g k) p guard = Inside (cells_in_each c.program.typed (global_at c.program.typed g)) k guard
  TopFits (in_object_at k) (Some p) guard = Inside (cells_of (targets_of c.program) (type_by (entry_of c p)).target) k guard
  TopFits _ _ guard = Unit {0}

  -- the guard is that of the lvalue's mode, or there is none
  pub data IsGuard (e : Expression) : Option ℕ → Type 0 where
    no_guard : IsGuard e None
    own_guard : is_mutex_kind (kind_of c e) ≡ false → IsGuard e (guard_of c e)

-- ---- targets
object_number : (n k : ℕ) → IsOfObject (in_object_at n) k → n ≡ k
object_number n k (inl s) = absurd (cc)
object_number n k (inr s) = cc

object_no_global : (n g k : ℕ) → IsOfGlobal (in_object_at n) g k → ⊥
object_no_global n g k (inl s) = cc
object_no_global n g k (inr s) = cc

pub same_global : (g n h k : ℕ) → in_global_at g n ≡ in_global_at h k → g ≡ h
same_global g n h k s = cc

global_numbers : (g n h k : ℕ) → IsOfGlobal (in_global_at g n) h k → (g ≡ h) × (n ≡ k)
global_numbers g n h k (inl s) = absurd (cc)
global_numbers g n h k (inr s) = (cc, cc)

global_no_object : (g n k : ℕ) → IsOfObject (in_global_at g n) k → ⊥
global_no_object g n k (inl s) = cc
global_no_object g n k (inr s) = cc

-- ---- fields
module _ (fit : LvaluesFit) (found : ExpressionsFound) (beside : LocksStandBeside) (globals_are : GlobalsAre) (meets : MeetsGlobals) (z : Setting) (n : ℕ) (c : Context) (a : IsAccepted c.program) where
  abbrev m : Assignment
  m = c.program

  abbrev r : Resolution
  r = c.program.typed

  locks : AreLockedBeside m
  locks = beside m a.resolved a.placed a.low a.least a.well

  -- a path that leads to a mutex is no sibling's
  leads_elsewhere : (l : Lock) → LockLeads c l → beside_named r l (named_at r l.first) ≡ None
  leads_elsewhere l (to_global g names kind) = ap (beside_named r l) names
  leads_elsewhere l (to_variable x name names second slot inside holds) = ap (beside_named r l) names

  abbrev Leads : List Sharing → Sharing → Type 0
  Leads modes s = (l : Lock) (below : List Sharing) → modes ≡ locked l ∷ below → s ≡ locked l → LockLeads c l

  -- so the one that a mode names beside the field stands in the element
  guard_low : (modes : List Sharing) (fields : List Field) (k : ℕ) (s : Sharing) (q : FieldMode) → Leads modes s → ModeFits r k modes s q → BesideFits m fields q → (mutex : ℕ) → beside_field r s ≡ Some mutex → mutex < length fields
  guard_low modes fields k _ _ leads (locked_by_type {l = l} {below = below} is) h mutex same = absurd (none_some mutex (sym (leads_elsewhere l (leads l below is refl)) ∙ same))
  guard_low modes fields k _ _ leads (locked_by_global {l = l} names kind) h mutex same = absurd (none_some mutex (sym (ap (beside_named r l) names) ∙ same))
  guard_low modes fields k _ _ leads (locked_by_sibling {l = l} {f = f} names direct) h mutex same = subst (λ j. j < length fields) (same_some (field_place r f) mutex (sym (ap (beside_named r l) names) ∙ same)) h.0
  guard_low modes fields k _ _ leads (locked_behind {l = l} {f = f} names behind) h mutex same = subst (λ j. j < length fields) (same_some (field_place r f) mutex (sym (ap (beside_named r l) names) ∙ same)) h.0
  guard_low modes fields k _ _ leads _ h mutex same = absurd (none_some mutex same)

  module _ (e : Expression) (there : IsExpression m e) (path : PathLeads c e) (guard : Option ℕ) (is_guard : IsGuard z n c e guard) where
    with_guard : (count k : ℕ) (o : Option ℕ) → k < count → ((mutex : ℕ) → o ≡ Some mutex → mutex < count) → Inside z n c count k o
    with_guard count k None low h = low
    with_guard count k (Some mutex) low h = (low, h mutex refl)

    guarded : (modes : List Sharing) (fields : List Field) (k : ℕ) (f : Field) → Leads modes (cell_at m e) → FieldFits m e k modes f → BesideFits m fields f.mode → (mutex : ℕ) → guard ≡ Some mutex → mutex < length fields
    guarded modes fields k f leads fits h mutex same = by guard is_guard same
      where
        by : (o : Option ℕ) → IsGuard z n c e o → o ≡ Some mutex → mutex < length fields
        by _ no_guard same = absurd (none_some mutex same)
        by _ (own_guard plain) same = guard_low modes fields k (cell_at m e) f.mode leads (fits.mode plain) h mutex same

    -- of what a pointer refers to
    object_fits : (k : ℕ) → IsBehindPointer m e k → TopFits z n c (in_object_at k) (pointer_of r e) guard
    object_fits k w =
        subst (λ p. TopFits z n c (in_object_at k) p guard) (sym w.leads)
        (subst (λ t. Inside z n c (cells_of (targets_of m) t) k guard) (sym to)
        (with_guard (cells_of (targets_of m) shape) k guard w.inside
        (guarded (modes_of m w.row) (row_of (targets_of m) shape).fields k (field_at (targets_of m) shape k) leads w.fits (locks.rows (expression_shape m w.pointer w.row) contained k))))
      where
        shape : ℕ
        shape = number m (expression_shape m w.pointer w.row)

        modes : modes_at m w.pointer ≡ Some (modes_of m w.row)
        modes = ap (option_map (modes_of m)) w.row_is

        to : (type_by (entry_of c w.pointer)).target ≡ number m (expression_shape m w.pointer w.row)
        to = ap (λ (o : Option (List Sharing)). (type_by (entry_by c (kind_at r w.pointer) o)).target) modes

        leads : Leads (modes_of m w.row) (cell_at m e)
        leads l below is same = path l below (ap (modes_of_pointer m) w.leads ∙ ap list_or modes ∙ is) same

        contained : Contains (shapes m) (expression_shape m w.pointer w.row)
        contained = (found m a.resolved a.placed a.low a.least.modes w.pointer w.stands w.row w.row_is).there w.some

    -- and of an element of an array
    element_fits : (g k : ℕ) → IsInFile m e g k → Inside z n c (cells_in_each r (global_at r g)) k guard
    element_fits g k w =
        subst (λ o. Inside z n c (cells_in_each r o) k guard) (sym w.defined)
        (subst (λ count. Inside z n c count k guard) same
        (with_guard (length element) k guard w.inside (guarded [] element k (slice_index_or element k no_field) (λ l below is _. absurd (cc)) w.fits (locks.globals w.global (place_there (globals_in r.program.items) g w.global w.defined) k))))
      where
        element : List Field
        element = global_element m w.global

        some : 0 < elements_of w.global.form
        some = let one = (of_each MeetsGlobal (globals_in r.program.items) w.global (meets r.program a.resolved.typed) (place_there (globals_in r.program.items) g w.global w.defined)).elements in omega (arith, one)

        same : length (global_element m w.global) ≡ cells_in_each r (Some w.global)
        same = (globals_are m g w.global w.defined 0 k some w.inside).cells

    by_target : (t : Target) → NamesCell m e t → TopFits z n c t (pointer_of r e) guard
    by_target (in_object_at k) (no_cell _ none other) = absurd (none k (inr refl))
    by_target (in_object_at k) (of_object _ j same w) = object_fits k (subst (IsBehindPointer m e) (sym (object_number k j same)) w)
    by_target (in_object_at k) (of_global _ g j same w) = absurd (object_no_global k g j same)
    by_target (in_global_at g k) (no_cell _ other none) = absurd (none g k (inr refl))
    by_target (in_global_at g k) (of_object _ j same w) = absurd (global_no_object g k j same)
    by_target (in_global_at g k) (of_global _ h j same w) =
        let s = global_numbers g k h j same in
        element_fits g k (subst (λ x. IsInFile m e x k) (sym s.0) (subst (λ y. IsInFile m e h y) (sym s.1) w))
    by_target _ w = tt

    pub top_fits : is_struct_behind 0 (kind_of c e) ≡ false → is_array (kind_of c e) ≡ false → TopFits z n c (target r None e) (pointer_of r e) guard
    top_fits no_struct no_array = by_target (target r None e) (fit m a.resolved a.placed a.low a.least a.well e there no_struct no_array)
