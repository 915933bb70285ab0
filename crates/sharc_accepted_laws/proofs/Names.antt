-- The lock paths of the types of expressions and declarations are ones that the program names.
use Rattle.sharc_accepted_laws.proofs.{Imports.{◌≡◌, inl, inr, ℕ, true, List, [], ◌∷◌, refl, ap, subst, Option, Some, Contains, AllByRecursion, Locked, Path, Span, Identifier, FieldOperator, without_parentheses, Expression, Named, Numbered, named_at, Assignment, written, base_use, modes_of, declared_row, Lock, Sharing, locked, lock_of, object_named, object_of, text_at, IsEntity, IsTaken, RulesAreMet, IsNamedByPath, is_written, is_made, IsSiblingUse, Context, slot_kind, PathNamed, SomeNames, register, lock_named, locks_at, AllStand, IsAccepted, IsNamed, AllNamed, ExpressionsAreNamed, DeclaredAreNamed, TakenLaws, each}, StaticRegisters.one_variable, Origins.{is_use, Of, found_named, expression_of}}
use Rattle.sharc_tree.specs.Tree as tree
use Rattle.sharc_invariant.specs.Types.{Names}

-- ---- what they name
module _ (m : Assignment) where
  -- a path of the program names it
  abbrev NamedBy : Lock → Type 0
  NamedBy l = (x : ℕ) → object_of m.typed l ≡ Some x → IsNamedByPath m x

  writes : (n : Numbered) → IsEntity m n → (path : Path) → Contains n.entity.written.ctype.levels (Some (Locked path)) → NamedBy (lock_of path)
  writes n is path has x o = is_written is has o

  makes : (a : Expression) (w : FieldOperator) (at : ℕ) (used : IsSiblingUse m a w) → base_use m.typed w a ≡ Some at → NamedBy (record { first = at; second = Some (text_at m.typed used.lock.first) })
  makes a w at used is x o = is_made used (is_use m.typed w a at x is o)

  turned : (modes : List Sharing) → AllByRecursion (Of m NamedBy writes makes) modes → AllNamed m modes
  turned modes h = each (Of m NamedBy writes makes) (IsNamed m) (λ s k l x e o. k l e x o) modes h

pub expressions_named : ExpressionsAreNamed
expressions_named m a e modes all is = turned m modes (expression_of m (NamedBy m) (writes m) (makes m) a.least e modes all is)

pub declared_named : DeclaredAreNamed
declared_named m a token = turned m (modes_of m (declared_row m.typed written token)) (found_named m (NamedBy m) (writes m) (makes m) a.least token token)

-- ---- what is taken
module _ (rules : RulesAreMet) (c : Context) (a : IsAccepted c.program) (taken : Expression) (s : Span) (i : Identifier) (x : ℕ) (does : IsTaken c.program taken) (is : without_parentheses taken ≡ tree.identifier s i)
    (names : named_at c.program.typed i.site.token ≡ Named.Variable x) (stands : slot_kind c.scope x ≡ Some true) where
  not_named : IsNamedByPath c.program x → ⊥
  not_named h = ((rules c.program).0 a.well).m10 taken s i x does is (ap (object_named c.program.typed) names) h

  one_free : (n : Named) (second : Option (List ℕ)) → ((y : ℕ) → object_named c.program.typed n ≡ Some y → IsNamedByPath c.program y) → PathNamed c.scope n second → Names (register c x) (lock_named c n second) → ⊥
  one_free (Named.Variable y) (Some p) h there same = not_named (subst (IsNamedByPath c.program) (one_variable c y x there stands same) (h y refl))
  one_free _ _ h there same = same

  all_free : (modes : List Sharing) → AllNamed c.program modes → AllStand c.program c.scope modes → SomeNames (register c x) (locks_at c modes) → ⊥
  all_free [] h t k = k
  all_free (locked l ∷ rest) h t (inl k) = one_free (named_at c.program.typed l.first) l.second (λ y o. h.0 l y refl o) t.0 k
  all_free (locked l ∷ rest) h t (inr k) = all_free rest h.1 t.1 k
  all_free (_ ∷ rest) h t k = all_free rest h.1 t.1 k

pub taken_laws : RulesAreMet → TakenLaws
taken_laws rules = record {
  expressions = expressions_named;
  declared = declared_named;
  free = λ c a taken s i x does is names stands kind modes h t k. all_free rules c a taken s i x does is names stands modes h t k;
}
