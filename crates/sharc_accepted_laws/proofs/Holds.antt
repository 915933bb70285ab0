-- Lock paths lead through variables that are held: constant ones, by M4, of which nothing takes the reference, by M10.
use Rattle.sharc_accepted_laws.proofs.{Imports.{◌≡◌, inl, inr, ℕ, ◌<◌, ◌==◌, Bool, true, false, cond, ◌&&◌, ◌||◌, not, List, [], ◌∷◌, refl, ap, sym, ◌∙◌, subst, option_to_list, eqb-true, Option, Some, None, is_some, Contains, false≢true, and_from, constant_not, AllByRecursion, list_any, Locked, Path, Span, Identifier, FieldOperator, Free, without_parentheses, expressions, in_function, Expression, Right, Named, Entity, Numbered, is_among, is_assigned_by, is_assigned_in, is_assigned, is_constant, Resolution, named_at, functions_in, lvalue, function_transfers, variables, variable_of, Assignment, taken_variable, written, base_use, path_variable, declared_row, modes_of, modes_at, Lock, Sharing, locked, lock_of, variable_named, object_named, object_of, text_at, IsExpression, IsEntity, IsTaken, cast_away, freed, IsAssigned, RulesAreMet, IsAllowed, through_constant, IsThroughConstant, is_through as through, IsSiblingUse, IsNamedByPath, is_written, is_made, Context, slot_kind, ref_count, PathNamed, SomeNames, IsAccepted, taken_by, is_taken, is_held, held_named, held_at, IsHeldPath, AllHeld, AssignedIsNotHeld, TakenIsNotHeld, HeldLaws, AllStand, register, lock_named, locks_at, eqb_same as same_itself, same_some, none_some, each, place_of_element, passes_there, passes_by}, Origins.{is_use, Of, found_named, expression_of}, StaticRegisters.{register_at, register_low}}
use Rattle.sharc_tree.specs.Tree as tree
use Rattle.sharc_invariant.specs.Types.{Names}

-- ---- the variable of a path
pub variable_is : (n : Named) (x : ℕ) → variable_named n ≡ Some x → n ≡ Named.Variable x
variable_is (Named.Variable y) x h = ap Named.Variable (same_some y x h)
variable_is _ x h = absurd (none_some x h)

pub path_named : (r : Resolution) (l : Lock) (x : ℕ) → path_variable r l ≡ Some x → named_at r l.first ≡ Named.Variable x
path_named r l x h = by (is_some l.second) h
  where
    by : (b : Bool) → cond b (variable_named (named_at r l.first)) None ≡ Some x → named_at r l.first ≡ Named.Variable x
    by true k = variable_is (named_at r l.first) x k
    by false k = absurd (none_some x k)

-- ---- what is taken
among_option : (r : Resolution) (x : ℕ) (o : Option ℕ) → is_among x (option_to_list o) ≡ true → o ≡ Some x
among_option r x None h = absurd (false≢true h)
among_option r x (Some y) h = by (x == y) refl h
  where
    by : (b : Bool) → (x == y) ≡ b → (b || false) ≡ true → Some y ≡ Some x
    by true is k = ap Some (sym (eqb-true x y is))
    by false is k = absurd (false≢true k)

-- what is taken by an expression, and from what
record Taking (m : Assignment) (x : ℕ) : Type 0 where
  of : Expression
  does : IsTaken m of
  is : taken_variable m.typed (without_parentheses of) ≡ Some x

taking : (m : Assignment) (x : ℕ) (e : Expression) → IsExpression m e → is_among x (taken_by m.typed e) ≡ true → Taking m x
taking m x (tree.cast s t a) there h = record { of = a; does = cast_away there; is = among_option m.typed x (taken_variable m.typed (without_parentheses a)) h }
taking m x (tree.on_place s Free a) there h = record { of = a; does = freed there; is = among_option m.typed x (taken_variable m.typed (without_parentheses a)) h }
taking m x _ there h = absurd (false≢true h)

taken_there : (m : Assignment) (x : ℕ) → is_taken m.typed x ≡ true → Taking m x
taken_there m x h =
    let f = passes_there (λ f. list_any (λ e. is_among x (taken_by m.typed e)) (in_function f)) (functions_in m.typed.program.items) h in
    let e = passes_there (λ e. is_among x (taken_by m.typed e)) (in_function f.0) f.2 in
    taking m x e.0 (record { owner = f.0; stands = f.1; inside = e.1 }) e.2

taken_identifier : (r : Resolution) (e : Expression) (x : ℕ) → taken_variable r e ≡ Some x → (s : Span) × (i : Identifier) × (e ≡ tree.identifier s i) × (object_named r (named_at r i.site.token) ≡ Some x)
taken_identifier r (tree.identifier s i) x h = (s, i, refl, h)
taken_identifier r _ x h = absurd (none_some x h)

module _ (rules : RulesAreMet) (m : Assignment) (a : IsAccepted m) where
  -- what a path names is not taken
  not_taken : (x : ℕ) → IsNamedByPath m x → is_taken m.typed x ≡ true → ⊥
  not_taken x h t =
      let w = taken_there m x t in
      let i = taken_identifier m.typed (without_parentheses w.of) x w.is in
      ((rules m).0 a.well).m10 w.of i.0 i.1 x w.does i.2 i.3 h

  pub held_by : (x : ℕ) → is_constant m.typed x ≡ true → IsNamedByPath m x → is_held m.typed x ≡ true
  held_by x constant h = and_from (is_constant m.typed x) (not (is_taken m.typed x)) constant (by (is_taken m.typed x) refl)
    where
      by : (b : Bool) → is_taken m.typed x ≡ b → not b ≡ true
      by true is = absurd (not_taken x h is)
      by false is = refl

  abbrev HeldBy : Lock → Type 0
  HeldBy l = (x : ℕ) → path_variable m.typed l ≡ Some x → is_held m.typed x ≡ true

  pub object : (l : Lock) (x : ℕ) → path_variable m.typed l ≡ Some x → object_of m.typed l ≡ Some x
  object l x h = ap (object_named m.typed) (path_named m.typed l x h)

  -- M4: the variable of a path that is written is constant
  allowed : (e : Entity) (depth : ℕ) (path : Path) → IsAllowed m.typed e depth path → (x : ℕ) → path_variable m.typed (lock_of path) ≡ Some x → is_constant m.typed x ≡ true
  allowed e depth _ (through_constant {x = y} place is constant behind) x h = let same : Some y ≡ Some x = sym (ap variable_named is) ∙ h in ap (is_constant m.typed) (sym (same_some y x same)) ∙ constant
  allowed e depth _ _ x h = absurd (none_some x h)

  writes : (n : Numbered) → IsEntity m n → (path : Path) → Contains n.entity.written.ctype.levels (Some (Locked path)) → HeldBy (lock_of path)
  writes n is path has x h =
      let at = place_of_element n.entity.written.ctype.levels (Some (Locked path)) has in
      held_by x (allowed n.entity at.0 path (((rules m).0 a.well).m4.forms n at.0 path is at.1) x h) (is_written is has (object (lock_of path) x h))

  use_constant : (w : FieldOperator) (e : Expression) (x : ℕ) → IsThroughConstant m.typed w e x → is_constant m.typed x ≡ true
  use_constant _ _ x (through names constant) = constant

  makes : (e : Expression) (w : FieldOperator) (at : ℕ) (used : IsSiblingUse m e w) → base_use m.typed w e ≡ Some at → HeldBy (record { first = at; second = Some (text_at m.typed used.lock.first) })
  makes e w at used is x h =
      let t = is_use m.typed w e at x is (object (record { first = at; second = Some (text_at m.typed used.lock.first) }) x h) in
      held_by x (use_constant w e x t) (is_made used t)

  turned : (modes : List Sharing) → AllByRecursion (Of m HeldBy writes makes) modes → AllHeld m modes
  turned modes h = each (Of m HeldBy writes makes) (IsHeldPath m) (λ s k l x e o. k l e x o) modes h

  pub expressions_held : (e : Expression) (modes : List Sharing) → AllByRecursion (IsExpression m) (expressions e) → modes_at m e ≡ Some modes → AllHeld m modes
  expressions_held e modes all is = turned modes (expression_of m HeldBy writes makes a.least e modes all is)

  declared_held : (token : ℕ) → AllHeld m (modes_of m (declared_row m.typed written token))
  declared_held token = turned (modes_of m (declared_row m.typed written token)) (found_named m HeldBy writes makes a.least token token)

-- ---- what types name
module _ (c : Context) (p : ℕ) where
  one_named : (n : Named) (second : Option (List ℕ)) → ((x : ℕ) → n ≡ Named.Variable x → is_some second ≡ true → is_held c.program.typed x ≡ true) → PathNamed c.scope n second → Names p (lock_named c n second) → (p < ref_count c.scope) × (held_at c p ≡ true)
  one_named (Named.Variable x) (Some name) held stands is = (
    subst (λ k. k < ref_count c.scope) is (register_low c x stands),
    subst (λ k. held_at c k ≡ true) is (ap (held_named c.program.typed) (register_at c x stands) ∙ held x refl refl),
  )
  one_named _ _ held stands is = absurd is

  path_held : (l : Lock) → IsHeldPath c.program (locked l) → (x : ℕ) → named_at c.program.typed l.first ≡ Named.Variable x → is_some l.second ≡ true → is_held c.program.typed x ≡ true
  path_held l held x is some = held l x refl (ap (λ b. cond b (variable_named (named_at c.program.typed l.first)) None) some ∙ ap variable_named is)

  pub all_named : (modes : List Sharing) → AllHeld c.program modes → AllStand c.program c.scope modes → SomeNames p (locks_at c modes) → (p < ref_count c.scope) × (held_at c p ≡ true)
  all_named [] h t k = absurd k
  all_named (locked l ∷ rest) h t (inl k) = one_named (named_at c.program.typed l.first) l.second (path_held l h.0) t.0 k
  all_named (locked l ∷ rest) h t (inr k) = all_named rest h.1 t.1 k
  all_named (_ ∷ rest) h t k = all_named rest h.1 t.1 k

-- ---- what is not held
not_both : (a b : Bool) → b ≡ true → (a && not b) ≡ false
not_both true b h = ap not h
not_both false b h = refl

among_itself : (x : ℕ) (rest : List ℕ) → is_among x (x ∷ rest) ≡ true
among_itself x rest = ap (λ b. b || is_among x rest) (same_itself x)

assigned_constant : (m : Assignment) (u : Expression) (from : Right) (s : Span) (i : Identifier) (x : ℕ) → IsAssigned m u from → without_parentheses u ≡ tree.identifier s i → named_at m.typed i.site.token ≡ Named.Variable x → is_constant m.typed x ≡ false
assigned_constant m u from s i x does is names =
    not_both (is_among x _) (is_assigned m.typed x)
    (passes_by (is_assigned_in m.typed x) (functions_in m.typed.program.items) does.owner does.stands
    (passes_by (is_assigned_by m.typed x) (function_transfers m.typed does.owner) record { receiver = lvalue u; source = from } does.does
    (ap (λ e. is_among x (variable_of m.typed.named e)) is ∙ ap (λ n. is_among x (variables n)) names ∙ among_itself x [])))

module _ (c : Context) (x : ℕ) (stands : slot_kind c.scope x ≡ Some true) where
  not_held : is_held c.program.typed x ≡ false → held_at c (register c x) ≡ false
  not_held h = ap (held_named c.program.typed) (register_at c x stands) ∙ h

assigned_not : AssignedIsNotHeld
assigned_not c u from s i x does is names stands = not_held c x stands (constant_not (is_constant c.program.typed x) (not (is_taken c.program.typed x)) (assigned_constant c.program u from s i x does is names))

-- an expression that takes a variable
taken_is : (m : Assignment) (e : Expression) (x : ℕ) → IsExpression m e → is_among x (taken_by m.typed e) ≡ true → is_taken m.typed x ≡ true
taken_is m e x there h =
    passes_by (λ f. list_any (λ e. is_among x (taken_by m.typed e)) (in_function f)) (functions_in m.typed.program.items) there.owner there.stands
    (passes_by (λ e. is_among x (taken_by m.typed e)) (in_function there.owner) e there.inside h)

taken_among : (r : Resolution) (a : Expression) (s : Span) (i : Identifier) (x : ℕ) → without_parentheses a ≡ tree.identifier s i → named_at r i.site.token ≡ Named.Variable x → is_among x (option_to_list (taken_variable r (without_parentheses a))) ≡ true
taken_among r a s i x is names = ap (λ e. is_among x (option_to_list (taken_variable r e))) is ∙ ap (λ n. is_among x (option_to_list (object_named r n))) names ∙ among_itself x []

is_taken_by : (m : Assignment) (a : Expression) → IsTaken m a → (s : Span) (i : Identifier) (x : ℕ) → without_parentheses a ≡ tree.identifier s i → named_at m.typed i.site.token ≡ Named.Variable x → is_taken m.typed x ≡ true
is_taken_by m _ (cast_away {s = z} {t = t} {a = a} there) s i x is names = taken_is m (tree.cast z t a) x there (taken_among m.typed a s i x is names)
is_taken_by m _ (freed {s = z} {a = a} there) s i x is names = taken_is m (tree.on_place z Free a) x there (taken_among m.typed a s i x is names)

taken_not : TakenIsNotHeld
taken_not c a s i x does is names stands = not_held c x stands (not_both (is_constant c.program.typed x) (is_taken c.program.typed x) (is_taken_by c.program a does s i x is names))

pub held_laws : RulesAreMet → HeldLaws
held_laws rules = record {
  expressions = λ m a e modes all is. expressions_held rules m a e modes all is;
  declared = λ m a token. declared_held rules m a token;
  types = λ c kind modes p h t k. all_named c p modes h t k;
  assigned = assigned_not;
  taken = taken_not;
}
