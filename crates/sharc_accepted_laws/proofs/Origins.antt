-- Where the lock paths of the types of expressions and declarations come from: what is written, and uses of fields through constant variables.
use Rattle.sharc_accepted_laws.proofs.{Imports.{◌≡◌, ⊎_elim, ℕ, ◌+◌, ◌-◌, ◌==◌, Bool, true, false, cond, List, [], ◌∷◌, map, refl, ap, sym, ◌∙◌, subst, Option, Some, None, Contains, false≢true, AllByRecursion, Mode, Private, Locked, Racy, Dynamic, Path, Span, Identifier, FieldOperator, Arrow, GlobalDefinition, expressions, Expression, Function, Named, Role, Numbered, entities_in, numbered, is_told_by, entity_at, is_constant, Resolution, named_at, global_at, function_at, IsLeastAssignment, Assignment, PathReading, written, through, Targets, is_constant_named, base_use, read, targets_from, entity_row, global_row, named_row, result_row, called_row, reading_through, row_at, modes_of, modes_at, Lock, Sharing, locked, lock_of, sharing_of, text_at, is_sibling_lock, object_named, IsExpression, IsEntity, IsThroughConstant, is_through as through_constant, IsSiblingUse, same_some, none_some, head_there, head_or_tail, to_each, tail_there, none_there}, RowModes.{deeper_reading, RowHolds, modes_hold, rows_hold}, Written.{raw, row_good, found_there}}
use Rattle.sharc_tree.specs.Tree as tree

-- ---- modes that are written
-- a path of a mode is written in this type
abbrev WrittenIn : Numbered → Mode → Type 0
WrittenIn n mode = (path : Path) → mode ≡ Locked path → Contains n.entity.written.ctype.levels (Some (Locked path))

no_path : (n : Numbered) (mode : Mode) → ((path : Path) → mode ≡ Locked path → ⊥) → WrittenIn n mode
no_path n mode none path is = absurd (none path is)

abbrev LevelWritten : Numbered → Option Mode → Type 0
LevelWritten n None = Unit {0}
LevelWritten n (Some mode) = WrittenIn n mode

level_written : (n : Numbered) (level : Option Mode) → Contains n.entity.written.ctype.levels level → LevelWritten n level
level_written n None has = tt
level_written n (Some mode) has = λ path is. subst (λ z. Contains n.entity.written.ctype.levels (Some z)) is has

row_written : (m : Assignment) → IsLeastAssignment m → (how : PathReading) (n : Numbered) → IsEntity m n → AllByRecursion (WrittenIn n) (raw m (entity_row how (Some n)))
row_written m least how n is =
    row_good (WrittenIn n) (no_path n Private (λ u e. cc)) (no_path n Racy (λ u e. cc)) (no_path n Dynamic (λ u e. cc)) m least how n is
    (to_each (LevelWritten n) n.entity.written.ctype.levels (level_written n))

-- ---- rows and lists
pub reading_kept : (where_ : Role) (row : Targets) → (targets_from where_ row).reading ≡ row.reading
reading_kept Role.Global row = deeper_reading row
reading_kept _ row = refl

pub same_raw : (m : Assignment) (one other : PathReading) (where_ : Role) (first count : ℕ)
    → raw m (targets_from where_ (record { first = first; count = count; reading = one })) ≡ raw m (targets_from where_ (record { first = first; count = count; reading = other }))
same_raw m one other Role.Global first count = by (count == 0)
  where
    by : (b : Bool) → raw m (cond b (record { first = first; count = count; reading = one }) (record { first = first + 1; count = count - 1; reading = one }))
        ≡ raw m (cond b (record { first = first; count = count; reading = other }) (record { first = first + 1; count = count - 1; reading = other }))
    by true = refl
    by false = refl
same_raw m one other _ first count = refl

pub mapped_there : {A B : Type 0} (f : A → B) (list : List A) (x : A) → Contains list x → Contains (map f list) (f x)
mapped_there f [] x has = absurd (none_there x has)
mapped_there f (y ∷ rest) x has =
    ⊎_elim (λ is. subst (λ z. Contains (f y ∷ map f rest) (f z)) is (head_there (f y) (map f rest))) (λ more. tail_there (f y) (f x) (map f rest) (mapped_there f rest x more)) (head_or_tail y x rest has)

pub both_hold : {A : Type 0} (P Q : A → Type 0) (list : List A) → AllByRecursion P list → AllByRecursion Q list → AllByRecursion (λ x. P x × Q x) list
both_hold P Q [] h k = tt
both_hold P Q (x ∷ rest) h k = ((h.0, k.0), both_hold P Q rest h.1 k.1)

-- ---- readings
pub same_lock : (l k : Lock) → locked l ≡ locked k → l ≡ k
same_lock l k h = cc

-- the variable of a use `x->f` is constant
use_of : (r : Resolution) (s : Span) (i : Identifier) (at x : ℕ) → (b : Bool) → is_constant_named r (named_at r i.site.token) ≡ b → cond b (Some i.site.token) None ≡ Some at → object_named r (named_at r at) ≡ Some x
    → IsThroughConstant r Arrow (tree.identifier s i) x
use_of r s i at x false is h o = absurd (none_some at h)
use_of r s i at x true is h o = by (named_at r i.site.token) refl is (ap (λ z. object_named r (named_at r z)) (same_some i.site.token at h) ∙ o)
  where
    by : (n : Named) → named_at r i.site.token ≡ n → is_constant_named r n ≡ true → object_named r n ≡ Some x → IsThroughConstant r Arrow (tree.identifier s i) x
    by (Named.Variable y) names constant k = let e = same_some y x k in through_constant (names ∙ ap Named.Variable e) (ap (is_constant r) (sym e) ∙ constant)
    by _ names constant k = absurd (false≢true constant)

pub is_use : (r : Resolution) (w : FieldOperator) (a : Expression) (at x : ℕ) → base_use r w a ≡ Some at → object_named r (named_at r at) ≡ Some x → IsThroughConstant r w a x
is_use r Arrow (tree.identifier s i) at x h o = use_of r s i at x (is_constant_named r (named_at r i.site.token)) refl h o
is_use r _ a at x h o = absurd (none_some at h)

-- What holds of the paths that are written in types, and of those that the uses of fields make, holds of those of the types of expressions and declarations.
module _ (m : Assignment) (Q : Lock → Type 0) (writes : (n : Numbered) → IsEntity m n → (path : Path) → Contains n.entity.written.ctype.levels (Some (Locked path)) → Q (lock_of path))
    (makes : (a : Expression) (w : FieldOperator) (at : ℕ) (used : IsSiblingUse m a w) → base_use m.typed w a ≡ Some at → Q record { first = at; second = Some (text_at m.typed used.lock.first) }) where
  abbrev pub Of : Sharing → Type 0
  Of s = (l : Lock) → s ≡ locked l → Q l

  abbrev pub AllOf : List Sharing → Type 0
  AllOf modes = AllByRecursion Of modes

  abbrev r : Resolution
  r = m.typed

  one_written : (n : Numbered) → IsEntity m n → (mode : Mode) → WrittenIn n mode → Of (read r written (sharing_of mode))
  one_written n is (Locked path) w l e = subst Q (same_lock (lock_of path) l e) (writes n is path (w path refl))
  one_written n is _ w l e = absurd (cc)

  mapped : (f : Mode → Sharing) (P : Mode → Type 0) → ((mode : Mode) → P mode → Of (f mode)) → (list : List Mode) → AllByRecursion P list → AllOf (map f list)
  mapped f P each [] h = tt
  mapped f P each (x ∷ rest) h = (each x h.0, mapped f P each rest h.1)

  abbrev shown : PathReading → Mode → Sharing
  shown how mode = read r how (sharing_of mode)

  -- by the modes as they are written
  by_raw : (P : Mode → Type 0) (how : PathReading) → ((mode : Mode) → P mode → Of (shown how mode)) → (row : Targets) → row.reading ≡ how → AllByRecursion P (raw m row) → AllOf (modes_of m row)
  by_raw P how each row is h = subst (λ z. AllOf (map (shown z) (raw m row))) (sym is) (mapped (shown how) P each (raw m row) h)

  entity_named : IsLeastAssignment m → (o : Option Numbered) → ((n : Numbered) → o ≡ Some n → IsEntity m n) → AllOf (modes_of m (entity_row written o))
  entity_named least None is = tt
  entity_named least (Some n) is = by_raw (WrittenIn n) written (one_written n (is n refl)) (entity_row written (Some n)) (reading_kept n.entity.role _) (row_written m least written n (is n refl))

  entity_is : (first last : ℕ) (n : Numbered) → entity_at r first last ≡ Some n → IsEntity m n
  entity_is first last n is = found_there (is_told_by first last) (numbered (entities_in r.program.items)) n is

  pub found_named : IsLeastAssignment m → (first last : ℕ) → AllOf (modes_of m (entity_row written (entity_at r first last)))
  found_named least first last = entity_named least (entity_at r first last) (entity_is first last)

  -- ---- through a constant variable
  -- a sibling's name is read through it
  abbrev Uses : ℕ → Targets → Type 0
  Uses at row = (k : Lock) → Contains (modes_of m row) (locked k) → is_sibling_lock r k ≡ true → Q record { first = at; second = Some (text_at r k.first) }

  one_through : (at : ℕ) (n : Numbered) → IsEntity m n → Uses at (entity_row written (Some n)) → (mode : Mode) → WrittenIn n mode × Contains (raw m (entity_row written (Some n))) mode → Of (shown (through at) mode)
  one_through at n is used (Locked path) w l e = by (is_sibling_lock r (lock_of path)) refl e
    where
      there : Contains (modes_of m (entity_row written (Some n))) (locked (lock_of path))
      there =
          subst (λ z. Contains (map (shown z) (raw m (entity_row written (Some n)))) (locked (lock_of path))) (sym (reading_kept n.entity.role _))
          (mapped_there (shown written) (raw m (entity_row written (Some n))) (Locked path) w.1)

      by : (b : Bool) → is_sibling_lock r (lock_of path) ≡ b → locked (cond b (record { first = at; second = Some (text_at r (lock_of path).first) }) (lock_of path)) ≡ locked l → Q l
      by true sibling same = subst Q (same_lock _ l same) (used (lock_of path) there sibling)
      by false sibling same = subst Q (same_lock (lock_of path) l same) (writes n is path (w.0 path refl))
  one_through at n is used _ w l e = absurd (cc)

  entity_through : IsLeastAssignment m → (at : ℕ) (o : Option Numbered) → ((n : Numbered) → o ≡ Some n → IsEntity m n) → Uses at (entity_row written o) → AllOf (modes_of m (entity_row (through at) o))
  entity_through least at None is used = tt
  entity_through least at (Some n) is used =
      let row = entity_row written (Some n) in
      let other = entity_row (through at) (Some n) in
      let same : raw m row ≡ raw m other = same_raw m written (through at) n.entity.role n.first _ in
      by_raw (λ mode. WrittenIn n mode × Contains (raw m row) mode) (through at) (one_through at n (is n refl) used) other (reading_kept n.entity.role _)
      (subst (AllByRecursion (λ mode. WrittenIn n mode × Contains (raw m row) mode)) same
      (both_hold (WrittenIn n) (Contains (raw m row)) (raw m row) (row_written m least written n (is n refl)) (to_each (Contains (raw m row)) (raw m row) (λ mode has. has))))

  found_through : IsLeastAssignment m → (at first last : ℕ) → Uses at (entity_row written (entity_at r first last)) → AllOf (modes_of m (entity_row (through at) (entity_at r first last)))
  found_through least at first last = entity_through least at (entity_at r first last) (entity_is first last)

  -- ---- expressions
  module _ (least : IsLeastAssignment m) where
    global_named : (o : Option GlobalDefinition) → AllOf (modes_of m (global_row r written o))
    global_named None = tt
    global_named (Some g) = found_named least g.declaration.name.site.token g.declaration.name.site.token

    name_named : (n : Named) → AllOf (modes_of m (named_row r written n))
    name_named (Named.Global n) = global_named (global_at r n)
    name_named (Named.Variable t) = found_named least t t
    name_named (Named.Field t) = found_named least t t
    name_named _ = tt

    result_named : (o : Option Function) → AllOf (modes_of m (result_row r o))
    result_named None = tt
    result_named (Some f) = found_named least f.name.site.token f.name.site.token

    called_named : (n : Named) → AllOf (modes_of m (called_row r n))
    called_named (Named.Function n) = result_named (function_at r n)
    called_named _ = tt

    global_through : (at : ℕ) (o : Option GlobalDefinition) → Uses at (global_row r written o) → AllOf (modes_of m (global_row r (through at) o))
    global_through at None used = tt
    global_through at (Some g) used = found_through least at g.declaration.name.site.token g.declaration.name.site.token used

    name_through : (at : ℕ) (n : Named) → Uses at (named_row r written n) → AllOf (modes_of m (named_row r (through at) n))
    name_through at (Named.Global n) used = global_through at (global_at r n) used
    name_through at (Named.Variable t) used = found_through least at t t used
    name_through at (Named.Field t) used = found_through least at t t used
    name_through at _ used = tt

    field_named : (s : Span) (a : Expression) (w : FieldOperator) (name : Identifier) → IsExpression m (tree.field s a w name) → (o : Option ℕ) → base_use r w a ≡ o
        → AllOf (modes_of m (named_row r (reading_through o) (named_at r name.site.token)))
    field_named s a w name stands None is = name_named (named_at r name.site.token)
    field_named s a w name stands (Some at) is =
        name_through at (named_at r name.site.token)
        (λ k has sibling. makes a w at (record { span = s; name = name; stands = stands; lock = k; target = has; sibling = sibling }) is)

    pub row_named : (e : Expression) → AllByRecursion (IsExpression m) (expressions e) → RowHolds m Of (row_at r e)
    row_named = rows_hold m Of (IsExpression m) (λ s i h. name_named (named_at r i.site.token)) (λ s f all. called_named (named_at r f.site.token)) (λ s t a h. found_named least s.first.token s.last.token)
        (λ s a w name all h. field_named s a w name h (base_use r w a) refl)

    pub expression_of : (e : Expression) (modes : List Sharing) → AllByRecursion (IsExpression m) (expressions e) → modes_at m e ≡ Some modes → AllOf modes
    expression_of e modes all is = modes_hold m Of (row_at r e) modes (row_named e all) is
