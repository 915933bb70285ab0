-- What holds of the modes of names, calls, casts and fields holds of those of each expression.
use Rattle.sharc_accepted_laws.proofs.{Imports.{◌≡◌, ◌+◌, ◌-◌, ◌==◌, Bool, true, false, cond, List, [], ◌∷◌, map, refl, sym, subst, Option, Some, None, option_map, AllByRecursion, Mode, Span, WrittenType, Identifier, FieldOperator, Dereference, Arguments, Constant, Expression, expressions, is_array, kind_at, PathReading, Targets, deeper, behind, row_at, Sharing, sharing_of, read, Assignment, modes_of, front, none_some, same_some}, Written.{raw, deeper_raw}}
use Rattle.sharc_tree.specs.Tree as tree

-- ---- what a row points to in turn
pub deeper_reading : (row : Targets) → (deeper row).reading ≡ row.reading
deeper_reading row = by (row.count == 0)
  where
    by : (b : Bool) → (cond b row (record { first = row.first + 1; count = row.count - 1; reading = row.reading })).reading ≡ row.reading
    by true = refl
    by false = refl

deeper_modes : (m : Assignment) (P : Sharing → Type 0) (how : PathReading) (list other : List Mode) → ((Q : Mode → Type 0) → AllByRecursion Q list → AllByRecursion Q other) → AllByRecursion P (map (λ mode. read m.typed how (sharing_of mode)) list) → AllByRecursion P (map (λ mode. read m.typed how (sharing_of mode)) other)
deeper_modes m P how list other less h = to other (less (λ mode. P (read m.typed how (sharing_of mode))) (from list h))
  where
    from : (xs : List Mode) → AllByRecursion P (map (λ mode. read m.typed how (sharing_of mode)) xs) → AllByRecursion (λ mode. P (read m.typed how (sharing_of mode))) xs
    from [] k = tt
    from (x ∷ xs) k = (k.0, from xs k.1)

    to : (xs : List Mode) → AllByRecursion (λ mode. P (read m.typed how (sharing_of mode))) xs → AllByRecursion P (map (λ mode. read m.typed how (sharing_of mode)) xs)
    to [] k = tt
    to (x ∷ xs) k = (k.0, to xs k.1)

-- what holds of the modes of a row holds of those of what it points to in turn
deeper_hold : (m : Assignment) (P : Sharing → Type 0) (row : Targets) → AllByRecursion P (modes_of m row) → AllByRecursion P (modes_of m (deeper row))
deeper_hold m P row h =
    subst (λ z. AllByRecursion P (map (λ mode. read m.typed z (sharing_of mode)) (raw m (deeper row)))) (sym (deeper_reading row))
    (deeper_modes m P row.reading (raw m row) (raw m (deeper row)) (λ Q k. deeper_raw m Q row k) h)

-- ---- expressions
-- of the modes of a row, if there is one
abbrev pub RowHolds : Assignment → (Sharing → Type 0) → Option Targets → Type 0
RowHolds m P None = Unit {0}
RowHolds m P (Some row) = AllByRecursion P (modes_of m row)

pub modes_hold : (m : Assignment) (P : Sharing → Type 0) (row : Option Targets) (modes : List Sharing) → RowHolds m P row → option_map (modes_of m) row ≡ Some modes → AllByRecursion P modes
modes_hold m P None modes h is = absurd (none_some modes is)
modes_hold m P (Some row) modes h is = subst (AllByRecursion P) (same_some (modes_of m row) modes is) h

-- with what is known of the expression and of its parts
module _ (m : Assignment) (P : Sharing → Type 0) (Known : Expression → Type 0)
    (names : (s : Span) (i : Identifier) → Known (tree.identifier s i) → RowHolds m P (row_at m.typed (tree.identifier s i)))
    (calls : (s : Span) (f : Identifier) (all : Arguments) → RowHolds m P (row_at m.typed (tree.call s f all)))
    (casts : (s : Span) (t : WrittenType) (a : Expression) → Known (tree.cast s t a) → RowHolds m P (row_at m.typed (tree.cast s t a)))
    (fields : (s : Span) (a : Expression) (w : FieldOperator) (n : Identifier) → AllByRecursion Known (expressions a) → Known (tree.field s a w n) → RowHolds m P (row_at m.typed (tree.field s a w n))) where
  deep : (o : Option Targets) → RowHolds m P o → RowHolds m P (behind o)
  deep None h = tt
  deep (Some row) h = deeper_hold m P row h

  choose : (b : Bool) (s t : Option Targets) → RowHolds m P s → RowHolds m P t → RowHolds m P (cond b s t)
  choose true s t h k = h
  choose false s t h k = k

  pub rows_hold : (e : Expression) → AllByRecursion Known (expressions e) → RowHolds m P (row_at m.typed e)
  rows_hold (tree.identifier s i) h = names s i h.0
  rows_hold (tree.constant s (Constant.Number n)) h = tt
  rows_hold (tree.parentheses s a) h = rows_hold a h.1
  rows_hold (tree.call s f all) h = calls s f all
  rows_hold (tree.cast s t a) h = casts s t a h.0
  rows_hold (tree.index s a i) h =
      let of_base = rows_hold a (front Known (expressions a) (expressions i) h.1) in
      choose (is_array (kind_at m.typed a)) (row_at m.typed a) (behind (row_at m.typed a)) of_base (deep (row_at m.typed a) of_base)
  rows_hold (tree.field s a w n) h = fields s a w n h.1 h.0
  rows_hold (tree.unary s Dereference a) h = deep (row_at m.typed a) (rows_hold a h.1)
  rows_hold _ h = tt
