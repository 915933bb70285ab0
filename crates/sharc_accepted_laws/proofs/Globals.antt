-- The cells of the globals of a well-moded program are good.
use Rattle.sharc_accepted_laws.proofs.{Imports.{◌≡◌, inl, inr, ℕ, zero, suc, ◌+◌, ◌-◌, ◌*◌, ◌<◌, Bool, true, false, cond, List, [], ◌∷◌, length, map, replicate, get_or as slice_index_or, refl, ap, sym, ◌∙◌, subst, arith, Some, Contains, slice_get, Mode, WrittenType, GlobalDefinition, IsLow, Role, is_pointer, is_struct_base, declared_kind, declared, positions_of, first_depth, entity_at, elements_of, globals_in, first_mode, Assignment, IsBelow, written, entity_row, declared_row, modes_of, racy, sharing_of, Field, no_field, AreTargets, FieldMode as field, cells_in, granules_in, private_form, form_of, shape_of, shapes, starts_private, global_mode, field_locks, base_content, pointer_content, declared_content, base_fields, top_mode, global_element, repeated, global_fields, all_global_fields, targets_of, head_there, some_there, tail_there}, Fits.{struct_base, entity_there, never_racy, form_private}, TargetForms.{level_of, skipped}, Found.{IsThere, global_found, global_low}, Good.{IsOwn, AreGood, global_own, global_racy, none_are, both_good, padding_good, one_good, pointer_good}, TargetMembers.levels_many, Rows.{IsKnown, starts_at, targets_many, ends_within, base_good, rows_good}, Settling.{dropped_length, get_index}, Table.{IsGood, IsGoodTable, are_targets}}
use Rattle.sharc_mode.specs.Moded.{mode_at}

sharing_racy : (x : Mode) → sharing_of x ≡ racy → x ≡ Mode.Racy
sharing_racy Mode.Racy h = refl
sharing_racy _ h = cc

-- what is no default is there
pub index_get : (list : List Mode) (k : ℕ) (x : Mode) → slice_index_or list k Mode.Private ≡ x → (Mode.Private ≡ x → ⊥) → slice_get list k ≡ Some x
index_get [] k x is other = absurd (other is)
index_get (y ∷ rest) zero x is other = ap Some is
index_get (y ∷ rest) (suc k) x is other = index_get rest k x is other

repeated_good : (m : Assignment) (n : ℕ) (fields : List Field) → AreGood (targets_of m) true fields → AreGood (targets_of m) true (repeated n fields)
repeated_good m zero fields good = none_are (targets_of m) true
repeated_good m (suc n) fields good = both_good (targets_of m) true fields (repeated n fields) good (repeated_good m n fields good)

module _ (m : Assignment) (known : IsKnown m) where
  module _ (g : GlobalDefinition) (has : Contains (globals_in m.typed.program.items) g) (low : 0 < length g.declaration.written.ctype.levels) where
    there : IsThere m (declared Role.Global g.declaration)
    there = global_found m known.found g has

    row_is : declared_row m.typed written g.declaration.name.site.token ≡ entity_row written (Some there.numbered)
    row_is = ap (entity_row written) there.found

    mode_is : top_mode m g ≡ global_mode m.typed (mode_at m there.numbered.first)
    mode_is = ap (λ o. global_mode m.typed (first_mode m o)) there.found

    levels_low : 0 < length there.numbered.entity.written.ctype.levels
    levels_low = subst (λ (w : WrittenType). 0 < length w.ctype.levels) (sym there.written) low

    no_depth : first_depth there.numbered.entity.role ≡ 0
    no_depth = ap first_depth there.role

    one_skipped : skipped there.numbered.entity.role ≡ 1
    one_skipped = ap skipped there.role

    counted : positions_of there.numbered.entity ≡ length there.numbered.entity.written.ctype.levels
    counted =
        let size = dropped_length (first_depth there.numbered.entity.role) there.numbered.entity.written.ctype.levels in
        let depth = no_depth in
        omega (arith, size, depth)

    some_position : 0 < positions_of there.numbered.entity
    some_position = let many = levels_low in let size = counted in omega (arith, many, size)

    pointer_there : is_pointer (declared_kind g.declaration.written) ≡ true → is_pointer (declared_kind there.numbered.entity.written) ≡ true
    pointer_there is = subst (λ (w : WrittenType). is_pointer (declared_kind w) ≡ true) (sym there.written) is

    -- the top is racy where a pointer or a struct is not
    racy_top : top_mode m g ≡ field.Racy → slice_get m.modes (there.numbered.first + 0) ≡ Some Mode.Racy
    racy_top h =
        let e : there.numbered.first + 0 ≡ there.numbered.first = omega arith in
        ap (slice_get m.modes) e ∙ index_get m.modes there.numbered.first Mode.Racy (sharing_racy _ (global_racy m.typed (mode_at m there.numbered.first) (sym mode_is ∙ h))) (λ e. cc)

    pointer_racy : is_pointer (declared_kind g.declaration.written) ≡ true → top_mode m g ≡ field.Racy → ⊥
    pointer_racy is h =
        let many = levels_many there.numbered.entity.written (pointer_there is) in
        let depth = no_depth in
        never_racy m known.least known.rules there.numbered there.is_entity 0 some_position (inl (omega (arith, many, depth))) (racy_top h)

    struct_racy : is_struct_base g.declaration.written.ctype.base ≡ true → top_mode m g ≡ field.Racy → ⊥
    struct_racy is h =
        never_racy m known.least known.rules there.numbered there.is_entity 0 some_position
        (inr (struct_base there.numbered.entity.written.ctype.base (subst (λ (w : WrittenType). is_struct_base w.ctype.base ≡ true) (sym there.written) is))) (racy_top h)

    -- a private target stands below a private top
    private_top : starts_private (map form_of (modes_of m (declared_row m.typed written g.declaration.name.site.token))) ≡ true → top_mode m g ≡ field.Private
    private_top h =
        let at = starts_at (map form_of (modes_of m (entity_row written (Some there.numbered)))) (subst (λ row. starts_private (map form_of (modes_of m row)) ≡ true) row_is h) in
        let l = level_of m there.numbered 0 private_form at in
        let skip = one_skipped in
        let ends = ends_within m known there.numbered there.is_entity in
        let first = some_there m.modes there.numbered.first (omega (arith, l.inside, ends)) in
        let below : IsBelow m.typed there.numbered.first (there.numbered.first + (skipped there.numbered.entity.role + 0)) =
        record { of = there.numbered; stands = there.is_entity; depth = 0; inside = omega (arith, l.inside, skip); first = omega arith; second = omega (arith, skip) } in
        let shared : first.0 ≡ Mode.Private = known.rules.m3.positions _ _ first.0 below first.1 (l.at.at ∙ ap Some (form_private l.at.mode l.at.form)) in
        mode_is ∙ ap (λ x. global_mode m.typed (sharing_of x)) ((get_index m.modes there.numbered.first first.0 Mode.Private first.1).1 ∙ shared)

    target_there : is_pointer (declared_kind g.declaration.written) ≡ true → Contains (shapes m) (shape_of g.declaration.written.ctype.base (modes_of m (declared_row m.typed written g.declaration.name.site.token)))
    target_there is =
        subst (λ row. Contains (shapes m) (shape_of g.declaration.written.ctype.base (modes_of m row))) (sym row_is)
        (subst (λ (w : WrittenType). Contains (shapes m) (shape_of w.ctype.base (modes_of m (entity_row written (Some there.numbered))))) there.written
        (entity_there m there.numbered there.is_entity (targets_many m known there.numbered there.is_entity (pointer_there is))))

    own : IsOwn (top_mode m g) true
    own = global_own m.typed (first_mode m (entity_at m.typed g.declaration.name.site.token g.declaration.name.site.token))

    element_good : AreGood (targets_of m) true (global_element m g)
    element_good = by (is_pointer (declared_kind g.declaration.written)) refl
      where
        by : (b : Bool) → is_pointer (declared_kind g.declaration.written) ≡ b
            → AreGood (targets_of m) true (cond b (record { mode = top_mode m g; holds = declared_content m 0 g.declaration } ∷ []) (base_fields m (top_mode m g) g.declaration.written.ctype.base))
        by true is =
            let content : declared_content m 0 g.declaration ≡ pointer_content m 0 g.declaration.written.ctype.base (modes_of m (declared_row m.typed written g.declaration.name.site.token)) = ap (λ b. cond b (pointer_content m 0 g.declaration.written.ctype.base (modes_of m (declared_row m.typed written g.declaration.name.site.token))) (base_content g.declaration.written.ctype.base)) is in
            one_good (targets_of m) true (record { mode = top_mode m g; holds = declared_content m 0 g.declaration })
            (subst (λ c. IsGood (targets_of m) true (record { mode = top_mode m g; holds = c })) (sym content)
            (pointer_good m true (top_mode m g) (shape_of g.declaration.written.ctype.base (modes_of m (declared_row m.typed written g.declaration.name.site.token)))
            (field_locks m.typed 0 (modes_of m (declared_row m.typed written g.declaration.name.site.token))) (target_there is) own.whole private_top (pointer_racy is)))
            own.not_behind
        by false is = base_good m known g.declaration.written.ctype.base true (top_mode m g) own struct_racy

    pub global_good : AreGood (targets_of m) true (global_fields m g)
    global_good =
        both_good (targets_of m) true (repeated (elements_of g.form) (global_element m g)) (replicate (2 * granules_in m.typed g - cells_in m.typed g) no_field) (repeated_good m (elements_of g.form) (global_element m g) element_good)
        (padding_good (targets_of m) true (2 * granules_in m.typed g - cells_in m.typed g))

  all_good : (list : List GlobalDefinition) → ((g : GlobalDefinition) → Contains list g → Contains (globals_in m.typed.program.items) g × (0 < length g.declaration.written.ctype.levels)) → AreGood (targets_of m) true (all_global_fields m list)
  all_good [] all = none_are (targets_of m) true
  all_good (g ∷ rest) all =
      let here = all g (head_there g rest) in
      both_good (targets_of m) true (global_fields m g) (all_global_fields m rest) (global_good g here.0 here.1) (all_good rest (λ k has. all k (tail_there g k rest has)))

  pub table_good : IsLow m.typed.program → IsGoodTable (targets_of m)
  table_good low =
      let globals = all_good (globals_in m.typed.program.items) (λ g has. (has, global_low m.typed.program.items low g has)) in
      record { first = omega arith; nothing = refl; rows = rows_good m known; globals = globals.each; beside = globals.beside }

  pub targets_are : IsLow m.typed.program → AreTargets (targets_of m)
  targets_are low = are_targets (targets_of m) (table_good low)
