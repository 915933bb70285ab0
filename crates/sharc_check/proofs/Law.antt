-- A program is well-moded exactly where it meets the rules.
use Rattle.sharc_check.proofs.{Imports.{◌≡◌, ◌↔◌, ℕ, ◌==◌, Bool, true, false, cond, List, [], ◌∷◌, ◌++◌, drop, refl, ap, sym, ◌∙◌, subst, eq-eqb, ne_eqb, Option, Some, None, Contains, false≢true, true≢false, and_parts, and_from, true_by, or_false, false_or, AllByRecursion, flat_map, list_any, Span, Identifier, FieldOperator, Dot, Arrow, without_parentheses, Expression, Named, is_constant, Resolution, named_at, NamedByLockPath, Finding, Wrong, Names, Takes, cell_at, top_of, Assignment, is_private_level, error_where, is_named, error_of, errors_by, taken_variable, written, is_constant_named, base_use, declared_row, cast_row, named_row, modes_of, Lock, Sharing, private, readonly, locked, racy, dynamic, is_readonly, same_all, is_sibling, is_sibling_lock, text_at, variable_named, object_named, WellModed, TellsTouched, mode_errors, notes_about, IsExpression, IsThroughConstant, through, IsSiblingUse, IsNamedByPath, is_written, is_substituted, is_made, MeetsRules, same_some, none_some, each, no_head, none_of, not_both}, Calls.{arguments_met, met_arguments}, Claims.Said, Forms.{forms_allowed, allowed_forms}, Holds.{Holds, facts, from_facts, holds, from_holds}, Levels.{above_none, none_above}, Lists.{passes_there, passes_by}, Modes.{level_is, modes_allowed, allowed_modes, no_private, private_none}, ThreadRules.{spawned_by, by_spawned, private_target, target_private}, Touched.{touched, tells}}
use Rattle.sharc_tree.specs.Tree as tree
use Rattle.sharc_check.proofs.Holds as by_notes

-- ---- lists of errors

of_none : {A B : Type 0} (f : A → List B) (xs : List A) → AllByRecursion (λ x. f x ≡ []) xs → flat_map f xs ≡ []
of_none f [] h = refl
of_none f (x ∷ xs) h = ap (λ z. z ++ flat_map f xs) h.0 ∙ of_none f xs h.1

-- ---- what no error is

-- no path names this one
abbrev Unnamed : ℕ → Finding → Type 0
Unnamed x = Said (Unit {0}) (λ y. x ≡ y → ⊥) (λ y. Unit {0})

abbrev AllUnnamed : List Finding → ℕ → Type 0
AllUnnamed notes x = AllByRecursion (Unnamed x) notes

-- nothing is wrong, and what is taken is named by no path
abbrev Fine : List Finding → Finding → Type 0
Fine notes = Said ⊥ (λ y. Unit {0}) (AllUnnamed notes)

differ : (x y : ℕ) → (x == y) ≡ false → x ≡ y → ⊥
differ x y h is = true≢false (sym (eq-eqb x y is) ∙ h)

unnamed : (x : ℕ) (list : List Finding) → is_named x list ≡ false → AllByRecursion (Unnamed x) list
unnamed x [] h = tt
unnamed x (Wrong e ∷ rest) h = (tt, unnamed x rest h)
unnamed x (Names y ∷ rest) h = let parts = or_false (x == y) (is_named x rest) h in (differ x y parts.0, unnamed x rest parts.1)
unnamed x (Takes s y ∷ rest) h = (tt, unnamed x rest h)

not_named : (x : ℕ) (list : List Finding) → AllByRecursion (Unnamed x) list → is_named x list ≡ false
not_named x [] h = refl
not_named x (Wrong e ∷ rest) h = not_named x rest h.1
not_named x (Names y ∷ rest) h = false_or (x == y) (is_named x rest) (ne_eqb x y h.0) (not_named x rest h.1)
not_named x (Takes s y ∷ rest) h = not_named x rest h.1

untold : (b : Bool) (s : Span) (text : List ℕ) → flat_map error_of (error_where b NamedByLockPath s text) ≡ [] → b ≡ false
untold true s text h = absurd (no_head _ [] h)
untold false s text h = refl

silent_fine : (r : Resolution) (all : List Finding) (n : Finding) → errors_by r all n ≡ [] → Fine all n
silent_fine r all (Wrong e) h = no_head e [] h
silent_fine r all (Names x) h = tt
silent_fine r all (Takes s x) h = unnamed x all (untold (is_named x all) s (text_at r x) h)

fine_silent : (r : Resolution) (all : List Finding) (n : Finding) → Fine all n → errors_by r all n ≡ []
fine_silent r all (Wrong e) h = absurd h
fine_silent r all (Names x) h = refl
fine_silent r all (Takes s x) h = ap (λ b. flat_map error_of (error_where b NamedByLockPath s (text_at r x))) (not_named x all h)

all_fine : (m : Assignment) (touched : ℕ → Bool) → [] ≡ mode_errors m touched → AllByRecursion (Fine (notes_about m touched)) (notes_about m touched)
all_fine m touched h =
    let notes = notes_about m touched in
    each (λ n. errors_by m.typed notes n ≡ []) (Fine notes) (silent_fine m.typed notes) notes (none_of (errors_by m.typed notes) notes (sym h))

fine_all : (m : Assignment) (touched : ℕ → Bool) → AllByRecursion (Fine (notes_about m touched)) (notes_about m touched) → [] ≡ mode_errors m touched
fine_all m touched h =
    let notes = notes_about m touched in
    sym (of_none (errors_by m.typed notes) notes (each (Fine notes) (λ n. errors_by m.typed notes n ≡ []) (fine_silent m.typed notes) notes h))

-- ---- small readings

readonly_is : (s : Sharing) → is_readonly s ≡ true → s ≡ readonly
readonly_is readonly h = refl
readonly_is _ h = absurd (false≢true h)

record IsSiblingLock (r : Resolution) (s : Sharing) : Type 0 where
  lock : Lock
  is : s ≡ locked lock
  sibling : is_sibling_lock r lock ≡ true

sibling_is : (r : Resolution) (s : Sharing) → is_sibling r s ≡ true → IsSiblingLock r s
sibling_is r (locked l) h = record { lock = l; is = refl; sibling = h }
sibling_is r _ h = absurd (false≢true h)

abbrev modes_used : Assignment → Identifier → List Sharing
modes_used m n = modes_of m (named_row m.typed written (named_at m.typed n.site.token))

use_of : (m : Assignment) (s : Span) (a : Expression) (w : FieldOperator) (n : Identifier) → IsExpression m (tree.field s a w n) → list_any (is_sibling m.typed) (modes_used m n) ≡ true → IsSiblingUse m a w
use_of m s a w n x is =
    let found = passes_there (is_sibling m.typed) (modes_used m n) is in
    let lock = sibling_is m.typed found.0 found.2 in
    record { span = s; name = n; stands = x; lock = lock.lock; target = subst (λ z. Contains (modes_used m n) z) lock.is found.1; sibling = lock.sibling }

use_is : (m : Assignment) (a : Expression) (w : FieldOperator) (u : IsSiblingUse m a w) → list_any (is_sibling m.typed) (modes_used m u.name) ≡ true
use_is m a w u = passes_by (is_sibling m.typed) (modes_used m u.name) (locked u.lock) u.target u.sibling

-- ---- `x->f` with `x` a constant variable

abbrev token_if : Bool → ℕ → Option ℕ
token_if b token = cond b (Some token) None

constant_by : (r : Resolution) (s : Span) (i : Identifier) (x : ℕ) (b : Bool) → named_at r i.site.token ≡ Named.Variable x → is_constant r x ≡ b → (token_if b i.site.token ≡ None → ⊥) → (y : ℕ) × IsThroughConstant r Arrow (tree.identifier s i) y
constant_by r s i x true is constant h = (x, through is constant)
constant_by r s i x false is constant h = absurd (h refl)

named_by : (r : Resolution) (s : Span) (i : Identifier) (what : Named) → named_at r i.site.token ≡ what → (token_if (is_constant_named r what) i.site.token ≡ None → ⊥) → (y : ℕ) × IsThroughConstant r Arrow (tree.identifier s i) y
named_by r s i (Named.Variable x) is h = constant_by r s i x (is_constant r x) is refl h
named_by r s i _ is h = absurd (h refl)

through_by : (r : Resolution) (w : FieldOperator) (a : Expression) → (base_use r w a ≡ None → ⊥) → (x : ℕ) × IsThroughConstant r w a x
through_by r Dot a h = absurd (h refl)
through_by r Arrow (tree.identifier s i) h = named_by r s i (named_at r i.site.token) refl h
through_by r Arrow _ h = absurd (h refl)

record IsBase (r : Resolution) (w : FieldOperator) (a : Expression) (x : ℕ) : Type 0 where
  at : ℕ
  base : base_use r w a ≡ Some at
  names : named_at r at ≡ Named.Variable x

base_by : (r : Resolution) (w : FieldOperator) (a : Expression) (x : ℕ) → IsThroughConstant r w a x → IsBase r w a x
base_by r _ _ x (through {s = s} {i = i} is constant) = record { at = i.site.token; base = ap (λ b. token_if b i.site.token) (ap (is_constant_named r) is ∙ constant); names = is }

variable_is : (what : Named) (x : ℕ) → variable_named what ≡ Some x → what ≡ Named.Variable x
variable_is (Named.Variable y) x h = ap Named.Variable (same_some y x h)
variable_is _ x h = absurd (none_some x h)

same_variable : (x y : ℕ) → Named.Variable x ≡ Named.Variable y → x ≡ y
same_variable x y h = cc

-- the constant variable is the one that the use names
through_named : (r : Resolution) (w : FieldOperator) (a : Expression) (at x : ℕ) → base_use r w a ≡ Some at → variable_named (named_at r at) ≡ Some x → IsThroughConstant r w a x
through_named r w a at x base v =
    let found = through_by r w a (λ none. none_some at (sym none ∙ base)) in
    let b = base_by r w a found.0 found.1 in
    let same : b.at ≡ at = same_some b.at at (sym b.base ∙ base) in
    let variable : found.0 ≡ x = same_variable found.0 x (sym b.names ∙ ap (named_at r) same ∙ variable_is (named_at r at) x v) in
    subst (IsThroughConstant r w a) variable found.1

-- ---- what paths name

named_from : (m : Assignment) (x : ℕ) → IsNamedByPath m x → by_notes.Named m x
named_from m x (is_written at has o) = by_notes.by_type at has o
named_from m x (is_substituted c has path o) = by_notes.by_call c has path o
named_from m x (is_made {a = a} {w = w} u constant) =
    let b = base_by m.typed w a x constant in
    by_notes.by_use u.stands (use_is m a w u) b.base (ap variable_named b.names)

named_to : (m : Assignment) (x : ℕ) → by_notes.Named m x → IsNamedByPath m x
named_to m x (by_notes.by_type at has o) = is_written at has o
named_to m x (by_notes.by_call c has path o) = is_substituted c has path o
named_to m x (by_notes.by_use {s = s} {a = a} {w = w} {n = n} {at = at} e is b v) = is_made (use_of m s a w n e is) (through_named m.typed w a at x b v)

record IsName (r : Resolution) (e : Expression) (x : ℕ) : Type 0 where
  span : Span
  name : Identifier
  is : e ≡ tree.identifier span name
  object : object_named r (named_at r name.site.token) ≡ Some x

taken_is : (r : Resolution) (e : Expression) (x : ℕ) → taken_variable r e ≡ Some x → IsName r e x
taken_is r (tree.identifier s i) x h = record { span = s; name = i; is = refl; object = h }
taken_is r _ x h = absurd (none_some x h)

-- ---- the law

-- where nothing is wrong the rules are met
rules_by : (m : Assignment) (touched : ℕ → Bool) → TellsTouched m.typed touched → AllByRecursion (Fine (notes_about m touched)) (notes_about m touched) → MeetsRules m
rules_by m touched tells fine =
    let notes = notes_about m touched in
    let h : Holds ⊥ (λ y. Unit {0}) (AllUnnamed notes) m touched = holds ⊥ (λ y. Unit {0}) (AllUnnamed notes) m touched (facts m touched (Fine notes) fine) in
    record {
      m1 = λ to found e g f. true_by (same_all m.typed to found) (h.given to found e g f);
      m2 = λ u x a is. h.assigned u x a (ap is_readonly is);
      m3 = above_none m h.private_below;
      m4 = record {
        forms = λ n depth path at is. forms_allowed m.typed n.entity (λ p found. h.paths n p at found) depth path is;
        arguments = λ ds all d l x c has path v. arguments_met m ds all (λ k found. h.unmet ds all k c found) d l has path x v;
      };
      m5 = λ n depth mode at is. modes_allowed n.entity (λ k found. h.modes n k at found) depth mode is;
      m6 = λ n depth at field is. no_private n.entity (h.fields n at) depth field is;
      m7 = record {
        parameters = λ n k f d below s is has modes. h.parameters k f d is (spawned_by m.typed n k s) has (private_target (modes_of m (declared_row m.typed written d.name.site.token)) below modes);
        globals = λ k g t is top. h.globals k g is (and_from (touched k) (is_private_level (top_of g.declaration.written.ctype.levels)) ((tells k).1 t) (ap is_private_level top));
      };
      m8 = λ s t a found x f. true_by (same_all m.typed (drop 1 (modes_of m (cast_row m.typed s))) (drop 1 found)) (h.casts s t a found x f);
      m9 = λ a t is. h.readonly_taken a t (ap is_readonly is);
      m10 = λ a s i x t form object path.
          let k : Holds (Unit {0}) (λ y. x ≡ y → ⊥) (λ y. Unit {0}) m touched = holds (Unit {0}) (λ y. x ≡ y → ⊥) (λ y. Unit {0}) m touched (facts m touched (Unnamed x) (h.taken a x t (ap (taken_variable m.typed) form ∙ object))) in
          k.named x (named_from m x path) refl;
      m11 = λ a w u. through_by m.typed w a (λ none. h.siblings u.span a w u.name u.stands (use_is m a w u) none);
    }

-- what no path names is so in all notes
unnamed_notes : (m : Assignment) (touched : ℕ → Bool) (x : ℕ) → (IsNamedByPath m x → ⊥) → AllUnnamed (notes_about m touched) x
unnamed_notes m touched x h =
    from_facts m touched (Unnamed x) (from_holds (Unit {0}) (λ y. x ≡ y → ⊥) (λ y. Unit {0}) m touched (record {
      given = λ to found e g f same. tt;
      assigned = λ u y a is. tt;
      private_below = λ n at is. tt;
      paths = λ n path at is. tt;
      modes = λ n mode at is. tt;
      fields = λ n at field is. tt;
      parameters = λ k f d is spawns has shows. tt;
      globals = λ k g is shows. tt;
      casts = λ s t a found e f same. tt;
      readonly_taken = λ a t is. tt;
      unmet = λ ds all l c is. tt;
      siblings = λ s a w n e is none. tt;
      named = λ y n same. h (named_to m x (subst (by_notes.Named m) (sym same) n));
      taken = λ a y t is. tt;
    }))

-- where the rules are met nothing is wrong
fine_by : (m : Assignment) (touched : ℕ → Bool) → TellsTouched m.typed touched → MeetsRules m → AllByRecursion (Fine (notes_about m touched)) (notes_about m touched)
fine_by m touched tells r =
    let notes = notes_about m touched in
    from_facts m touched (Fine notes) (from_holds ⊥ (λ y. Unit {0}) (AllUnnamed notes) m touched (record {
      given = λ to found e g f same. not_both (same_all m.typed to found) (r.m1 to found e g f) same;
      assigned = λ u x a is. r.m2 u x a (readonly_is (cell_at m u) is);
      private_below = none_above m r.m3;
      paths = λ n path at is. allowed_forms m.typed n.entity (λ depth p w. r.m4.forms n depth p at w) path is;
      modes = λ n mode at is. allowed_modes n.entity (λ depth k w. r.m5 n depth k at w) mode is;
      fields = λ n at. private_none n.entity (λ depth field w. r.m6 n depth at field w);
      parameters = λ k f d is spawns has shows.
          let s = by_spawned m.typed k spawns in
          let t = target_private (modes_of m (declared_row m.typed written d.name.site.token)) shows in
          r.m7.parameters s.0 k f d t.0 s.1 is has t.1;
      globals = λ k g is shows.
          let parts = and_parts (touched k) (is_private_level (top_of g.declaration.written.ctype.levels)) shows in
          r.m7.globals k g ((tells k).0 parts.0) is (level_is (top_of g.declaration.written.ctype.levels) parts.1);
      casts = λ s t a found x f same. not_both (same_all m.typed (drop 1 (modes_of m (cast_row m.typed s))) (drop 1 found)) (r.m8 s t a found x f) same;
      readonly_taken = λ a t is. r.m9 a t (readonly_is (cell_at m a) is);
      unmet = λ ds all l c is. met_arguments m ds all (λ d k has path x v. r.m4.arguments ds all d k x c has path v) l is;
      siblings = λ s a w n x is none.
          let found = r.m11 a w (use_of m s a w n x is) in
          let b = base_by m.typed w a found.0 found.1 in
          none_some b.at (sym none ∙ b.base);
      named = λ x n. tt;
      taken = λ a x t is.
          let name = taken_is m.typed (without_parentheses a) x is in
          unnamed_notes m touched x (r.m10 a name.span name.name x t name.is name.object);
    }))

pub rules_are_met : (m : Assignment) → WellModed m ↔ MeetsRules m
rules_are_met m = (
  λ well. rules_by m well.touched well.tells (all_fine m well.touched well.are),
  λ rules. record { touched = touched m.typed; tells = tells m.typed; are = fine_all m (touched m.typed) (fine_by m (touched m.typed) (tells m.typed) rules) },
)
