-- Good fields of the table: of one cell, and of a pointer to a shape of the program.
use Rattle.sharc_accepted_laws.proofs.{Imports.{◌≡◌, ℕ, zero, suc, ◌+◌, ◌-◌, ◌<◌, Bool, true, false, List, [], ◌∷◌, ◌++◌, length, replicate, get_or as slice_index_or, refl, ap, sym, ◌∙◌, subst, arith, ⊎_elim, Contains, false≢true, cases_lt, AllByRecursion, Base, Assignment, Sharing, private, racy, Resolution, FieldLock, FieldMode, FieldType, Content, MutexWord, Waiters, Pointer, Field, TableTarget as Target, row_of, no_field, FieldMode as field, Form, private_form, racy_form, Shape, shapes, number, own_mode, global_mode, is_private_mode, is_private_form, starts_private, base_content, single, targets_of, both}, Numbers.numbers_found, Table.{IsGood, IsBeside, AreBeside, none_good}}
use Rattle.sharc_invariant.specs.Types.{Targets, is_mutex, is_pointer}

-- ---- modes of elements
-- the mode of an element in data that is private or not
pub record IsOwn (q : FieldMode) (shared : Bool) : Type 0 where
  pub whole : q ≡ field.Private → shared ≡ true
  pub not_behind : (a p : ℕ) → q ≡ field.Behind a p → ⊥

pub own_of : (f : Form) → IsOwn (own_mode f) (is_private_form f)
own_of private_form = record { whole = λ h. refl; not_behind = λ a p h. cc }
own_of _ = record { whole = λ h. absurd (cc); not_behind = λ a p h. cc }

pub own_racy : (f : Form) → own_mode f ≡ field.Racy → f ≡ racy_form
own_racy racy_form h = refl
own_racy _ h = absurd (cc)

pub global_own : (r : Resolution) (s : Sharing) → IsOwn (global_mode r s) true
global_own r private = record { whole = λ h. refl; not_behind = λ a p h. cc }
global_own r _ = record { whole = λ h. refl; not_behind = λ a p h. cc }

pub global_racy : (r : Resolution) (s : Sharing) → global_mode r s ≡ field.Racy → s ≡ racy
global_racy r racy h = refl
global_racy r _ h = absurd (cc)

pub private_mode_is : (q : FieldMode) → is_private_mode q ≡ true → q ≡ field.Private
private_mode_is field.Private h = refl
private_mode_is _ h = absurd (false≢true h)

-- ---- what is no pointer
pub not_pointer : (b : Base) → is_pointer (base_content b) ≡ false
not_pointer (Base.Struct name) = refl
not_pointer _ = refl

pub mutex_base : (b : Base) → is_mutex (base_content b) ≡ true → b ≡ Base.Mutex
mutex_base Base.Mutex h = refl
mutex_base _ h = absurd (false≢true h)

pointer_is : (c : Content) (to : FieldType) → c ≡ Pointer to → is_pointer c ≡ true
pointer_is c to h = ap is_pointer h

pub no_pointer : (c : Content) (to : FieldType) → is_pointer c ≡ false → c ≡ Pointer to → ⊥
no_pointer c to never is = false≢true (sym never ∙ pointer_is c to is)

-- a field that is no pointer, and a mutex only where it is racy
pub plain_good : (x : Targets) (shared : Bool) (q : FieldMode) (c : Content) → (q ≡ field.Private → shared ≡ true) → is_pointer c ≡ false → (is_mutex c ≡ true → q ≡ field.Racy) → IsGood x shared (record { mode = q; holds = c })
plain_good x shared q c whole never mutex = record {
  whole = whole;
  some = λ to is. absurd (no_pointer c to never is);
  row = λ to is. absurd (no_pointer c to never is);
  private_target = λ to is. absurd (no_pointer c to never is);
  not_racy = λ is. absurd (false≢true (sym never ∙ is));
  mutex = mutex;
}

pub single_good : (x : Targets) (shared : Bool) (q : FieldMode) (b : Base) → (q ≡ field.Private → shared ≡ true) → IsGood x shared (single q b)
single_good x shared q Base.Mutex whole = plain_good x shared field.Racy MutexWord (λ h. absurd (cc)) refl (λ h. refl)
single_good x shared q (Base.Struct name) whole = plain_good x shared field.Racy Waiters (λ h. absurd (cc)) refl (λ h. absurd (false≢true h))
single_good x shared q k whole = plain_good x shared q (base_content k) whole refl (λ h. absurd (false≢true h))

single_behind : (q : FieldMode) (b : Base) → ((a p : ℕ) → q ≡ field.Behind a p → ⊥) → (a p : ℕ) → (single q b).mode ≡ field.Behind a p → ⊥
single_behind q Base.Mutex never a p h = cc
single_behind q (Base.Struct name) never a p h = cc
single_behind q _ never a p h = never a p h

-- ---- lists of good fields
pub record AreGood (x : Targets) (shared : Bool) (fields : List Field) : Type 0 where
  pub each : AllByRecursion (IsGood x shared) fields
  pub beside : AreBeside fields

one_beside : (f : Field) → ((a p : ℕ) → f.mode ≡ field.Behind a p → ⊥) → AreBeside (f ∷ [])
one_beside f never zero a p low h = absurd (never a p h)
one_beside f never (suc k) a p low h = absurd (omega (arith, low))

pub one_good : (x : Targets) (shared : Bool) (f : Field) → IsGood x shared f → ((a p : ℕ) → f.mode ≡ field.Behind a p → ⊥) → AreGood x shared (f ∷ [])
one_good x shared f good never = record { each = (good, tt); beside = one_beside f never }

pub single_are : (x : Targets) (shared : Bool) (q : FieldMode) (b : Base) → IsOwn q shared → AreGood x shared (single q b ∷ [])
single_are x shared q b own = one_good x shared (single q b) (single_good x shared q b own.whole) (single_behind q b own.not_behind)

pub none_are : (x : Targets) (shared : Bool) → AreGood x shared []
none_are x shared = record { each = tt; beside = λ k a p low h. absurd (omega (arith, low)) }

pub at_left : (a b : List Field) (k : ℕ) → k < length a → slice_index_or (a ++ b) k no_field ≡ slice_index_or a k no_field
at_left [] b k low = absurd (omega (arith, low))
at_left (x ∷ a) b zero low = refl
at_left (x ∷ a) b (suc k) low = at_left a b k (omega (arith, low))

pub at_right : (a b : List Field) (j k : ℕ) → j ≡ length a + k → slice_index_or (a ++ b) j no_field ≡ slice_index_or b k no_field
at_right [] b j k e = let z : j ≡ k = omega (arith, e) in ap (λ i. slice_index_or b i no_field) z
at_right (x ∷ a) b zero k e = absurd (omega (arith, e))
at_right (x ∷ a) b (suc j) k e = at_right a b j k (omega (arith, e))

pub size : (a b : List Field) → length (a ++ b) ≡ length a + length b
size [] b = omega arith
size (x ∷ a) b = let e = size a b in omega (arith, e)

beside_left : (a b : List Field) (k s p : ℕ) → IsBeside a k s p → IsBeside (a ++ b) k s p
beside_left a b k s p w =
    let inside = w.inside in
    let many = size a b in
    record { from = w.from; inside = omega (arith, inside, many); readonly = ap (λ (f : Field). f.mode) (at_left a b (k - s + p) inside) ∙ w.readonly }

beside_right : (a b : List Field) (k j s p : ℕ) → k ≡ length a + j → IsBeside b j s p → IsBeside (a ++ b) k s p
beside_right a b k j s p is w =
    let many = size a b in
    record { from = omega (arith, w.from, is); inside = omega (arith, w.inside, many, is, w.from); readonly = ap (λ (f : Field). f.mode) (at_right a b (k - s + p) (j - s + p) (omega (arith, is, w.from))) ∙ w.readonly }

both_beside : (a b : List Field) → AreBeside a → AreBeside b → AreBeside (a ++ b)
both_beside a b left right k s p low h =
    let many = size a b in
    ⊎_elim (λ near. beside_left a b k s p (left k s p near (sym (ap (λ (f : Field). f.mode) (at_left a b k near)) ∙ h)))
    (λ far. beside_right a b k (k - length a) s p (omega (arith, far)) (right (k - length a) s p (omega (arith, low, many, far)) (sym (ap (λ (f : Field). f.mode) (at_right a b k (k - length a) (omega (arith, far)))) ∙ h)))
    (cases_lt k (length a))

pub both_good : (x : Targets) (shared : Bool) (a b : List Field) → AreGood x shared a → AreGood x shared b → AreGood x shared (a ++ b)
both_good x shared a b left right = record { each = both (IsGood x shared) a b left.each right.each; beside = both_beside a b left.beside right.beside }

pub padding_good : (x : Targets) (shared : Bool) (n : ℕ) → AreGood x shared (replicate n no_field)
padding_good x shared zero = none_are x shared
padding_good x shared (suc n) = both_good x shared (no_field ∷ []) (replicate n no_field) (one_good x shared no_field (none_good x shared) (λ a p h. cc)) (padding_good x shared n)

-- ---- pointers
same_pointer : (a b : FieldType) → Pointer a ≡ Pointer b → a ≡ b
same_pointer a b h = cc

pub pointer_good : (m : Assignment) (shared : Bool) (q : FieldMode) (s : Shape) (locks : List FieldLock) → Contains (shapes m) s → (q ≡ field.Private → shared ≡ true) → (starts_private s.forms ≡ true → q ≡ field.Private) → (q ≡ field.Racy → ⊥)
    → IsGood (targets_of m) shared (record { mode = q; holds = Pointer (record { target = number m s; locks = locks }) })
pointer_good m shared q s locks has whole below other =
    let w = numbers_found m s has in
    let to_is : (to : FieldType) → Pointer (record { target = number m s; locks = locks }) ≡ Pointer to → number m s ≡ to.target = λ to is. ap (λ (t : FieldType). t.target) (same_pointer _ to is) in
    record {
      whole = whole;
      some = λ to is none. w.some (to_is to is ∙ none);
      row = λ to is none. let e : number m s ≡ length (targets_of m).rows = to_is to is ∙ none in omega (arith, w.inside, e);
      private_target = λ to is h. below (sym (ap (λ (t : Target). t.is_private) w.row) ∙ subst (λ n. (row_of (targets_of m) n).is_private ≡ true) (sym (to_is to is)) h);
      not_racy = λ is h. other h;
      mutex = λ h. absurd (false≢true h);
    }
