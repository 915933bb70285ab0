-- A table is one of targets where each of its fields is good, by itself and beside the others of its element.
use Rattle.sharc_accepted_laws.proofs.{Imports.{zero, suc, ◌≡◌, ℕ, ◌+◌, ◌-◌, ◌*◌, ◌/◌, ◌%◌, ◌<◌, ◌≤◌, ◌==◌, Bool, true, false, List, [], ◌∷◌, length, map, get_or as slice_index_or, refl, ap, sym, ◌∙◌, subst, arith, ne_eqb, ⊎_elim, true≢false, false≢true, cases_lt, div-add-mod', mod-eq_of_lt, mul-add-mod_self_right, AllByRecursion, ObjectType, field_mutex, OfElement, FieldMode, Under, FieldType, Content, Pointer, Field, TableTarget as Target, no_field, no_target, row_of, cells_of, field_at, field_of_cell, global_field, mode_in, type_in, globals_target, field_in, mode_at, type_at, AreTargets, FieldMode as field, cell}, TargetLists.at_place}
use Rattle.sharc_invariant.specs.Types.{Mutex, nothing, Targets, is_private, is_mutex, is_pointer}

-- ---- fields
-- a field of a row that is private or not: a private cell stands in private data, and what it refers to is a row, private only where the cell is
pub record IsGood (x : Targets) (shared : Bool) (f : Field) : Type 0 where
  pub whole : f.mode ≡ field.Private → shared ≡ true
  pub some : (to : FieldType) → f.holds ≡ Pointer to → to.target ≡ 0 → ⊥
  pub row : (to : FieldType) → f.holds ≡ Pointer to → to.target ≡ length x.rows → ⊥
  pub private_target : (to : FieldType) → f.holds ≡ Pointer to → (row_of x to.target).is_private ≡ true → f.mode ≡ field.Private
  pub not_racy : is_pointer f.holds ≡ true → f.mode ≡ field.Racy → ⊥
  pub mutex : is_mutex f.holds ≡ true → f.mode ≡ field.Racy

-- the field at this place is locked behind that one of the same element, which is readonly
pub record IsBeside (fields : List Field) (k a p : ℕ) : Type 0 where
  pub from : a ≤ k
  pub inside : k - a + p < length fields
  pub readonly : (slice_index_or fields (k - a + p) no_field).mode ≡ field.Readonly

abbrev pub AreBeside : List Field → Type 0
AreBeside fields = (k a p : ℕ) → k < length fields → (slice_index_or fields k no_field).mode ≡ field.Behind a p → IsBeside fields k a p

pub record IsGoodRow (x : Targets) (t : Target) : Type 0 where
  pub fields : AllByRecursion (IsGood x t.is_private) t.fields
  pub beside : AreBeside t.fields

pub record IsGoodTable (x : Targets) : Type 0 where
  pub first : 1 ≤ length x.rows
  pub nothing : (row_of x 0).is_private ≡ false
  pub rows : AllByRecursion (IsGoodRow x) x.rows
  pub globals : AllByRecursion (IsGood x true) x.globals
  pub beside : AreBeside x.globals

-- ---- what is past the end
pub none_good : (x : Targets) (shared : Bool) → IsGood x shared no_field
none_good x shared = record {
  whole = λ h. absurd (cc);
  some = λ to h. absurd (cc);
  row = λ to h. absurd (cc);
  private_target = λ to h. absurd (cc);
  not_racy = λ h. absurd (false≢true h);
  mutex = λ h. absurd (false≢true h);
}

none_beside : AreBeside []
none_beside k a p low = absurd (omega (arith, low))

pub no_row_good : (x : Targets) → IsGoodRow x no_target
no_row_good x = record { fields = tt; beside = none_beside }

-- ---- modes of cells
private_in : (ty : ObjectType) (i : ℕ) (mode : FieldMode) → mode_in ty i mode ≡ cell.Private → mode ≡ field.Private
private_in ty i field.Private h = refl
private_in ty i (Under (OfElement f j)) h = absurd (cc)
private_in ty i _ h = absurd (cc)

racy_in : (ty : ObjectType) (i : ℕ) (mode : FieldMode) → mode_in ty i mode ≡ cell.Racy → mode ≡ field.Racy
racy_in ty i field.Racy h = refl
racy_in ty i (Under (OfElement f j)) h = absurd (cc)
racy_in ty i _ h = absurd (cc)

-- a cell is behind a pointer where its field is
record BehindOf (mode : FieldMode) (i j : ℕ) : Type 0 where
  at : ℕ
  pointer : ℕ
  is : mode ≡ field.Behind at pointer
  place : i - at + pointer ≡ j

behind_in : (ty : ObjectType) (i j : ℕ) (mode : FieldMode) → mode_in ty i mode ≡ cell.Behind j → BehindOf mode i j
behind_in ty i j (Under (OfElement f k)) h = absurd (cc)
behind_in ty i j (field.Behind f p) h = record { at = f; pointer = p; is = refl; place = cc }
behind_in ty i j _ h = absurd (cc)

-- ---- elements
-- a number below that of an element's cells is what is left of each number that is so much more than a multiple
rest_is : (n q k : ℕ) → k < n → (q * n + k) % n ≡ k
rest_is n q k low = mul-add-mod_self_right q n k ∙ mod-eq_of_lt low

moved : (i w r a p : ℕ) → w + r ≡ i → a ≤ r → i - a + p ≡ w + (r - a + p)
moved i w r a p whole from = omega arith

-- the cell that is so far from cell i in its element
in_element : (n i a p : ℕ) → a ≤ i % n → i % n - a + p < n → (i - a + p) % n ≡ i % n - a + p
in_element n i a p from inside = ap (λ z. z % n) (moved i (i / n * n) (i % n) a p (div-add-mod' i n) from) ∙ rest_is n (i / n) (i % n - a + p) inside

pub past_end : (fields : List Field) (k : ℕ) → length fields ≤ k → slice_index_or fields k no_field ≡ no_field
past_end [] k low = refl
past_end (f ∷ rest) zero low = absurd (omega (arith, low))
past_end (f ∷ rest) (suc k) low = past_end rest k (omega (arith, low))

-- ---- the table
module _ (x : Targets) (good : IsGoodTable x) where
  row_good : (target : ℕ) → IsGoodRow x (row_of x target)
  row_good = at_place (IsGoodRow x) x.rows no_target (no_row_good x) good.rows

  at_good : (target k : ℕ) → IsGood x (row_of x target).is_private (field_at x target k)
  at_good target = at_place (IsGood x (row_of x target).is_private) (row_of x target).fields no_field (none_good x (row_of x target).is_private) (row_good target).fields

  global_good : (j : ℕ) → IsGood x true (global_field x j)
  global_good = at_place (IsGood x true) x.globals no_field (none_good x true) good.globals

  cell_good : (ty : ObjectType) (i : ℕ) → IsGood x (is_private x ty) (field_in x ty i)
  cell_good ty i = by (ty.target == globals_target x)
    where
      by : (b : Bool) → IsGood x (elim b as (λ z. Bool) [ true ↦ true | false ↦ (row_of x ty.target).is_private ]) (elim b as (λ z. Field) [ true ↦ global_field x i | false ↦ field_of_cell x ty.target i ])
      by true = global_good i
      by false = at_good ty.target (i % cells_of x ty.target)

  whole : (ty : ObjectType) (i : ℕ) → mode_at x ty i ≡ cell.Private → is_private x ty ≡ true
  whole ty i h = (cell_good ty i).whole (private_in ty i _ h)

  -- of a row that is none of the globals
  row_private : (target : ℕ) (locks : List Mutex) → (target ≡ length x.rows → ⊥) → is_private x (record { target = target; locks = locks }) ≡ true → (row_of x target).is_private ≡ true
  row_private target locks other h = subst (λ b. elim b as (λ z. Bool) [ true ↦ true | false ↦ (row_of x target).is_private ] ≡ true) (ne_eqb target (length x.rows) other) h

  nothing_shared : is_private x nothing ≡ true → ⊥
  nothing_shared h = let low = good.first in true≢false (sym (row_private 0 [] (λ e. omega (arith, e, low)) h) ∙ good.nothing)

  target_private : (ty : ObjectType) (o i : ℕ) (f : Field) → IsGood x (is_private x ty) f → (c : Content) → f.holds ≡ c → is_private x (type_in ty o i c) ≡ true → f.mode ≡ field.Private
  target_private ty o i f g (Pointer to) is h = g.private_target to is (row_private to.target (map (field_mutex ty o i) to.locks) (g.row to is) h)
  target_private ty o i f g _ is h = absurd (nothing_shared h)

  private_cells : (ty : ObjectType) (o i : ℕ) → is_private x (type_at x ty o i) ≡ true → mode_at x ty i ≡ cell.Private
  private_cells ty o i h = ap (mode_in ty i) (target_private ty o i (field_in x ty i) (cell_good ty i) (field_in x ty i).holds refl h)

  pointers : (ty : ObjectType) (i : ℕ) → is_pointer (field_in x ty i).holds ≡ true → mode_at x ty i ≡ cell.Racy → ⊥
  pointers ty i is h = (cell_good ty i).not_racy is (racy_in ty i _ h)

  mutexes : (ty : ObjectType) (i : ℕ) → is_mutex (field_in x ty i).holds ≡ true → mode_at x ty i ≡ cell.Racy
  mutexes ty i is = ap (mode_in ty i) ((cell_good ty i).mutex is)

  -- ---- behind a pointer
  -- what is locked behind a pointer is there
  is_there : (fields : List Field) (k a p : ℕ) → (slice_index_or fields k no_field).mode ≡ field.Behind a p → k < length fields
  is_there fields k a p h = ⊎_elim (λ low. low) (λ high. absurd (cc (sym (ap (λ (f : Field). f.mode) (past_end fields k high)) ∙ h))) (cases_lt k (length fields))

  in_globals : (ty : ObjectType) (i j : ℕ) → mode_in ty i (global_field x i).mode ≡ cell.Behind j → mode_in ty j (global_field x j).mode ≡ cell.Readonly
  in_globals ty i j h =
      let b = behind_in ty i j _ h in
      let w = good.beside i b.at b.pointer (is_there x.globals i b.at b.pointer b.is) b.is in
      subst (λ z. mode_in ty z (global_field x z).mode ≡ cell.Readonly) b.place (ap (mode_in ty (i - b.at + b.pointer)) w.readonly)

  in_row : (ty : ObjectType) (target i j : ℕ) → mode_in ty i (field_of_cell x target i).mode ≡ cell.Behind j → mode_in ty j (field_of_cell x target j).mode ≡ cell.Readonly
  in_row ty target i j h =
      let n = cells_of x target in
      let b = behind_in ty i j _ h in
      let low = is_there (row_of x target).fields (i % n) b.at b.pointer b.is in
      let w = (row_good target).beside (i % n) b.at b.pointer low b.is in
      let same = in_element n i b.at b.pointer w.from w.inside in
      subst (λ z. mode_in ty z (field_of_cell x target z).mode ≡ cell.Readonly) b.place
      (subst (λ z. mode_in ty (i - b.at + b.pointer) (field_at x target z).mode ≡ cell.Readonly) (sym same) (ap (mode_in ty (i - b.at + b.pointer)) w.readonly))

  behind : (ty : ObjectType) (i j : ℕ) → mode_at x ty i ≡ cell.Behind j → mode_at x ty j ≡ cell.Readonly
  behind ty i j h = by (ty.target == globals_target x) h
    where
      by : (b : Bool) → mode_in ty i (elim b as (λ z. Field) [ true ↦ global_field x i | false ↦ field_of_cell x ty.target i ]).mode ≡ cell.Behind j
          → mode_in ty j (elim b as (λ z. Field) [ true ↦ global_field x j | false ↦ field_of_cell x ty.target j ]).mode ≡ cell.Readonly
      by true h = in_globals ty i j h
      by false h = in_row ty ty.target i j h

  pub are_targets : AreTargets x
  are_targets = record {
    first = good.first;
    some = λ target k f is none. (at_good target k).some f is none;
    whole = whole;
    private_cells = private_cells;
    behind = behind;
    pointers = pointers;
    mutexes = mutexes;
  }
