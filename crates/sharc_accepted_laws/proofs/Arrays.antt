-- Arrays are globals that are named.
use Rattle.sharc_accepted_laws.proofs.Imports.{binary_plain, called_plain, constant_plain, element_plain, unary_plain, variable_plain, ◌≡◌, ℕ, true, refl, ap, sym, ◌∙◌, false≢true, AllByRecursion, Span, Identifier, FieldOperator, expressions, Expression, Named, Kind, is_array, class_of, Resolution, named_at, declaration_at, named_kind, kind_at, HasType, a_field, a_field_behind}
use Rattle.sharc_tree.specs.Tree as tree

-- the name of a global, in parentheses or not
abbrev pub IsNameOf : Resolution → Expression → ℕ → Type 0
IsNameOf r (tree.identifier s i) g = named_at r i.site.token ≡ Named.Global g
IsNameOf r (tree.parentheses s a) g = IsNameOf r a g
IsNameOf r _ g = ⊥

module _ (r : Resolution) where
  name_array : (n : Named) → is_array (named_kind r n) ≡ true → (g : ℕ) × (n ≡ Named.Global g)
  name_array (Named.Global g) h = (g, refl)
  name_array (Named.Variable t) h = absurd (variable_plain (declaration_at r t) h)
  name_array (Named.Field t) h = absurd (variable_plain (declaration_at r t) h)
  name_array _ h = absurd (false≢true h)

  field_name : (s : Span) (e : Expression) (v : FieldOperator) (n : Identifier) (k : Kind) → HasType r (tree.field s e v n) k → (t : ℕ) × (named_at r n.site.token ≡ Named.Field t)
  field_name s e _ n _ (a_field {d = d} t h is) = (d.name.site.token, is)
  field_name s e _ n _ (a_field_behind {d = d} t h is) = (d.name.site.token, is)

  pub array_name : (e : Expression) → AllByRecursion (λ e. HasType r e (kind_at r e)) (expressions e) → is_array (kind_at r e) ≡ true → (g : ℕ) × IsNameOf r e g
  array_name (tree.identifier s x) h is = name_array (named_at r x.site.token) is
  array_name (tree.parentheses s e) h is = array_name e h.1 is
  array_name (tree.field s e v n) h is =
      let x = field_name s e v n _ h.0 in
      absurd (variable_plain (declaration_at r x.0) (ap (λ z. is_array (named_kind r z)) (sym x.1) ∙ is))
  array_name (tree.constant s k) h is = absurd (constant_plain k is)
  array_name (tree.call s f all) h is = absurd (called_plain r (named_at r f.site.token) is)
  array_name (tree.index s e n) h is = absurd (element_plain (kind_at r e) is)
  array_name (tree.unary s o e) h is = absurd (unary_plain o (kind_at r e) is)
  array_name (tree.binary s o at e z) h is = absurd (binary_plain (class_of o) (kind_at r e) (kind_at r z) is)
  array_name _ h is = absurd (false≢true is)
