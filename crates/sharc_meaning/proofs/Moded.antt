-- The reasons of an assignment say nothing of the modes of cells.
use Rattle.sharc_meaning.proofs.Imports.{◌≡◌, List, Option, Some, None, refl, ap, ◌∙◌, Bool, true, false, if◌then◌else◌, Mode, GlobalDefinition, Expression, identifier, parentheses, index, field, unary, Named, is_array, Numbered, entity_at, Resolution, named_at, global_at, kind_at, Reason, first_mode, global_cell, named_cell, pointed, unary_cell, instance, field_named, cell_at, Assignment, Targets, row_at, Sharing, SameModes, ModesAlone}

module _ (r : Resolution) (modes : List Mode) (a b : List (Option Reason)) where
  abbrev m : Assignment
  m = record { typed = r; modes = modes; reasons = a }

  abbrev n : Assignment
  n = record { typed = r; modes = modes; reasons = b }

  same_first : (o : Option Numbered) → first_mode m o ≡ first_mode n o
  same_first None = refl
  same_first (Some x) = refl

  same_global : (o : Option GlobalDefinition) → global_cell m o ≡ global_cell n o
  same_global None = refl
  same_global (Some g) = same_first (entity_at r g.declaration.name.site.token g.declaration.name.site.token)

  same_named : (what : Named) → named_cell m what ≡ named_cell n what
  same_named (Named.Global k) = same_global (global_at r k)
  same_named _ = refl

  same_pointed : (o : Option Targets) → pointed m o ≡ pointed n o
  same_pointed None = refl
  same_pointed (Some row) = refl

  same_element : (is : Bool) (c d p q : Sharing) → c ≡ d → p ≡ q → (if is then c else p) ≡ (if is then d else q)
  same_element true c d p q e f = e
  same_element false c d p q e f = f

  same_cell : (e : Expression) → cell_at m e ≡ cell_at n e
  same_cell (identifier s i) = same_named (named_at r i.site.token)
  same_cell (parentheses s e) = same_cell e
  same_cell (index s e i) = same_element (is_array (kind_at r e)) _ _ _ _ (same_cell e) (same_pointed (row_at r e))
  same_cell (field s e w k) = ap (λ z. field_named r (instance w z (pointed m (row_at r e))) (named_at r k.site.token)) (same_cell e) ∙ ap (λ z. field_named r (instance w (cell_at n e) z) (named_at r k.site.token)) (same_pointed (row_at r e))
  same_cell (unary s o e) = ap (unary_cell o) (same_pointed (row_at r e))
  same_cell _ = refl

  same_modes : SameModes m n
  same_modes = record { cells = same_cell; targets = λ e. refl }

pub modes_alone : ModesAlone
modes_alone m n e f = rw (e, f) (same_modes n.typed n.modes m.reasons n.reasons)
