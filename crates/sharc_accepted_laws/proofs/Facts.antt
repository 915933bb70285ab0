-- What is known of each expression of a function of an accepted program.
use Rattle.sharc_accepted_laws.proofs.{Imports.{◌≡◌, ℕ, Bool, true, false, List, refl, ap, sym, ◌∙◌, subst, option_map, Option, Some, None, Contains, false≢true, Site, is_lvalue, expressions, in_function, span_of, Expression, Function, is_pointer, element_kind, Code, Use, Resolution, functions_in, HasType as IsOfType, MeetsConstraints, MeetsGlobals, OneType, EachNamesItself, EachNamesOwn, ArePlain, SpawnsNameFunctions, SpawnsThreads, element_cells, Assignment, Targets, modes_of, row_at, modes_at, Sharing, IsFunction, IsExpression, IsTaken, kind_of, is_ref, target_of, mode_of, lvalue_in, guard_of, Target, Context, IsScalar, is_cell, TakeSuits, StaticType, cells_of, Refers, Setting, ReferenceTyped, type_by, ground_of, IsPointer, ValueTyped, Takes, BaseStands, IsOf, BasesStand, ArgumentsFit, IsAccepted, ResultLaws, ScopeLaws, ExpressionStands, FunctionsStand, SpawnedBegin, static_of, entry_by, entry_of, LocksStandBeside, ExpressionsFound, GlobalsAre, LvaluesFit, ArraysFit, pointee, PointeesFit, targets_of, CallingLaws, IsAt, ValueLaws, TakingLaws, ThreadsPass, typing, CellsTyped, setting_of, IsSet, each, place_there}, Forms.{lvalue_some, reference_pointer}, Members.first_of, Wholes.{facts_of, variable_named}}
use Rattle.sharc_flat.specs.Places.{variable}
use Rattle.sharc_typed_laws.specs.Typable.{CellTyped}
use Rattle.sharc_accepted_laws.proofs.Wholes as wholes

-- ---- the laws of the crates below
pub record Laws : Type 0 where
  pub constraints : MeetsConstraints
  pub one_type : OneType
  pub meets_globals : MeetsGlobals
  pub themselves : EachNamesItself
  pub own : EachNamesOwn
  pub plain : ArePlain
  pub name_functions : SpawnsNameFunctions
  pub spawn_threads : SpawnsThreads
  pub bases : BasesStand
  pub fit : LvaluesFit
  pub arrays : ArraysFit
  pub found : ExpressionsFound
  pub pointees : PointeesFit
  pub beside : LocksStandBeside
  pub globals_are : GlobalsAre
  pub scopes : ScopeLaws
  pub arguments_fit : ArgumentsFit
  pub results : ResultLaws
  pub functions_stand : FunctionsStand
  pub spawned_begin : SpawnedBegin
  pub values : ValueLaws
  pub taking : TakingLaws
  pub calling : CallingLaws
  pub threads : ThreadsPass

module _ (laws : Laws) (c : Context) (code : Code) (alone : ℕ → Bool) (lines : ℕ) (set : IsSet c.program c.globals code alone) (n : ℕ) (g : Function) where
  abbrev pub m : Assignment
  m = c.program

  abbrev pub r : Resolution
  r = c.program.typed

  abbrev pub z : Setting
  z = setting_of c.program c.globals code alone lines

  abbrev pub At : Expression → Type 0
  At e = IsOf c n g e

  a : IsAccepted m
  a = set.accepted

  -- ---- the expression
  module _ (e : Expression) (at : At e) where
    pub owner_there : IsFunction m g
    owner_there = place_there (functions_in r.program.items) n g at.function

    pub expression_of : IsExpression m e
    expression_of = record { owner = g; stands = owner_there; inside = first_of (Contains (in_function g)) e at.parts }

    pub is_at : IsAt c e
    is_at = record {
      inside = each (Contains (in_function g)) (IsExpression m) (λ x h. record { owner = g; stands = owner_there; inside = h }) (expressions e) at.parts;
      stands = first_of (ExpressionStands c) e at.stand;
    }

    -- what is known of the function
    known : wholes.Facts r g
    known = facts_of laws.constraints laws.themselves laws.own laws.plain m a n g at.function

    pub has_type : IsOfType r e (kind_of c e)
    has_type = known.typed e (first_of (Contains (in_function g)) e at.parts)

    pub lvalue_pointer : is_lvalue e ≡ true → is_ref c e ≡ true → is_pointer (kind_of c e) ≡ true
    lvalue_pointer lvalue ref = reference_pointer (kind_of c e) (lvalue_some r e (kind_of c e) has_type lvalue) ref

    -- ---- a pointer
    pub pointer_of : is_pointer (kind_of c e) ≡ true → IsPointer z n typing c e
    pointer_of pointer = laws.values.pointers z n c a e is_at pointer

    row_by : (o : Option Targets) → row_at r e ≡ o → (s : StaticType) → entry_by c (kind_of c e) (option_map (modes_of m) o) ≡ Refers s → (row : Targets) × (row_at r e ≡ Some row)
    row_by None is s h = absurd (cc)
    row_by (Some row) is s h = (row, is)

    pub row_of : is_pointer (kind_of c e) ≡ true → (row : Targets) × (row_at r e ≡ Some row)
    row_of pointer = row_by (row_at r e) refl (type_by (entry_of c e)) (pointer_of pointer).1

    modes_by : (o : Option (List Sharing)) → modes_at m e ≡ o → (s : StaticType) → entry_by c (kind_of c e) o ≡ Refers s → (modes : List Sharing) × (modes_at m e ≡ Some modes)
    modes_by None is s h = absurd (cc)
    modes_by (Some modes) is s h = (modes, is)

    pub pointer_modes : is_pointer (kind_of c e) ≡ true → (modes : List Sharing) × (modes_at m e ≡ Some modes)
    pointer_modes pointer = modes_by (modes_at m e) refl (type_by (entry_of c e)) (pointer_of pointer).1

    -- refers to elements with the cells of the source
    pub cells_are : is_pointer (kind_of c e) ≡ true → element_cells r (element_kind (kind_of c e)) ≡ cells_of z.targets (type_by (entry_of c e)).target
    cells_are pointer =
        let row = row_of pointer in
        let fits = laws.pointees m (kind_of c e) row.0 (laws.found m a.resolved a.placed a.low a.least.modes e expression_of row.0 row.1) pointer in
        let to : (type_by (entry_of c e)).target ≡ pointee m (kind_of c e) row.0 = ap (λ (o : Option Targets). (type_by (entry_by c (kind_of c e) (option_map (modes_of m) o))).target) row.1 in
        sym (ap (λ t. cells_of (targets_of m) t) to ∙ fits.cells)

    -- ---- a cell
    module _ (cells : CellsTyped z c n g) (base : BaseStands c e) where
      -- the value of an lvalue
      pub cell_typed : is_lvalue e ≡ true → is_cell (target_of c e) ≡ true → IsScalar (kind_of c e) → (site : Site) → CellTyped z n typing c e site (target_of c e) (is_ref c e)
      cell_typed lvalue cell scalar site = by (is_ref c e) refl
        where
          by : (b : Bool) → is_ref c e ≡ b → CellTyped z n typing c e site (target_of c e) b
          by true ref =
              let pointer = lvalue_pointer lvalue ref in
              let modes = pointer_modes pointer in
              let type : static_of c (kind_of c e) modes.0 ≡ type_by (entry_of c e) = sym (ap (λ (o : Option (List Sharing)). type_by (entry_by c (kind_of c e) o)) modes.1) in (
                type_by (entry_of c e),
                (pointer_of pointer).1,
                (pointer_of pointer).2,
                subst (λ s. ReferenceTyped z typing c n (target_of c e) (guard_of c e) (ground_of z n typing c e) site (lvalue_in c e) (mode_of c e) false Use.Read s) type
                    ((cells.lvalues e at base cell).read.reference pointer modes.0 modes.1 site Use.Read),
              )
          by false other = (scalar other, (cells.lvalues e at base cell).read.integer (scalar other) site Use.Read)

      pub value_typed : is_lvalue e ≡ true → is_cell (target_of c e) ≡ true → IsScalar (kind_of c e) → (site : Site) → ValueTyped z n typing c e site
      value_typed lvalue cell scalar site = (cell, cell_typed lvalue cell scalar site)

      -- ---- what is taken
      module _ (takes : IsTaken m e) (lvalue : is_lvalue e ≡ true) (pointer : is_pointer (kind_of c e) ≡ true) (use_made : Use) where
        abbrev Taken : Target → Type 0
        Taken t = Takes z n typing c e use_made (type_by (entry_of c e)) t

        cell_taken : is_cell (target_of c e) ≡ true
            → ReferenceTyped z typing c n (target_of c e) (guard_of c e) (ground_of z n typing c e) (span_of e).first (lvalue_in c e) (mode_of c e) true use_made (type_by (entry_of c e))
        cell_taken cell =
            let modes = pointer_modes pointer in
            let type : static_of c (kind_of c e) modes.0 ≡ type_by (entry_of c e) = sym (ap (λ (o : Option (List Sharing)). type_by (entry_by c (kind_of c e) o)) modes.1) in
            subst (λ s. ReferenceTyped z typing c n (target_of c e) (guard_of c e) (ground_of z n typing c e) (span_of e).first (lvalue_in c e) (mode_of c e) true use_made s) type
            (((cells.lvalues e at base cell).taken takes).reference pointer modes.0 modes.1 (span_of e).first use_made)

        pub takes_typed : TakeSuits c (mode_of c e) (target_of c e) → Taken (target_of c e)
        takes_typed suits = by (target_of c e) refl suits
          where
            moved : (t : Target) → target_of c e ≡ t → ReferenceTyped z typing c n (target_of c e) (guard_of c e) (ground_of z n typing c e) (span_of e).first (lvalue_in c e) (mode_of c e) true use_made (type_by (entry_of c e))
                → ReferenceTyped z typing c n t (guard_of c e) (ground_of z n typing c e) (span_of e).first (lvalue_in c e) (mode_of c e) true use_made (type_by (entry_of c e))
            moved t is h = subst (λ t. ReferenceTyped z typing c n t (guard_of c e) (ground_of z n typing c e) (span_of e).first (lvalue_in c e) (mode_of c e) true use_made (type_by (entry_of c e))) is h

            by : (t : Target) → target_of c e ≡ t → TakeSuits c (mode_of c e) t → Taken t
            by (variable x) is slot =
                let v = variable_named r g known e (kind_of c e) has_type lvalue (λ no_value. false≢true (sym (ap is_pointer no_value) ∙ pointer)) at.parts x is in
                subst Taken is (laws.taking.variables z n c e v.span v.name x takes v.bare v.names slot use_made)
            by other is h = moved other is (cell_taken (ap is_cell is))
