-- The fields of structs are good in each element.
use Rattle.sharc_accepted_laws.proofs.{Imports.{◌≡◌, ℕ, zero, suc, ◌+◌, ◌-◌, ◌<◌, eqb-true, Bool, true, false, cond, List, [], ◌∷◌, length, map, get_or as slice_index_or, refl, ap, sym, ◌∙◌, subst, arith, Option, Some, None, Contains, false≢true, le-ltb, ltb-true, ltb-false, eq-eqb, AllByRecursion, slice_get, Base, Mode, Path, Declaration, WrittenType, Kind, object, is_pointer, declared_kind, Resolution, named_at, field_place_named, is_mutex_kind, is_behind_pointer, top_of, Assignment, written, declared_row, modes_of, Lock, lock_of, FieldMode, Under, Field, no_field, FieldMode as field, form_of, shape_of, shapes, is_private_mode, starts_private, locked_mode, written_mode, field_mode, base_content, pointer_content, member, members, targets_of, field_lock, same_some, none_some, head_there, some_there, tail_there, below_there, place_there}, TargetCells.member_count, Good.{IsOwn, AreGood, private_mode_is, not_pointer, mutex_base, plain_good, pointer_good}, Table.{IsGood, IsBeside, AreBeside}}

-- ---- kinds
pub mutex_pointer : (k : Kind) → is_mutex_kind k ≡ true → is_pointer k ≡ false
mutex_pointer (object Base.Mutex n) h = le-ltb 0 n (let z = eqb-true n 0 h in omega (arith, z))
mutex_pointer _ h = absurd (false≢true h)

-- what has no star and the base of a mutex is one
plain_mutex : (b : Base) (n : ℕ) → is_pointer (object b n) ≡ false → is_mutex_kind (object b n) ≡ false → b ≡ Base.Mutex → ⊥
plain_mutex Base.Mutex n never other is = let low = ltb-false 0 n never in let e : n ≡ 0 = omega (arith, low) in false≢true (sym other ∙ eq-eqb n 0 e)
plain_mutex _ n never other is = cc

pub levels_many : (w : WrittenType) → is_pointer (declared_kind w) ≡ true → 1 < length w.ctype.levels
levels_many w is = let low : 0 < length w.ctype.levels - 1 = ltb-true 0 (length w.ctype.levels - 1) is in omega (arith, low)

pub top_written : (levels : List (Option Mode)) (x : Mode) → top_of levels ≡ Some x → slice_get levels 0 ≡ Some (Some x)
top_written [] x is = absurd (none_some x is)
top_written (y ∷ below) x is = ap Some is

-- ---- what is written on the top of a field
private_by : (c : Bool) (q other : FieldMode) → (c ≡ true → q ≡ field.Private) → (other ≡ field.Private → ⊥) → cond c field.Private other ≡ field.Private → q ≡ field.Private
private_by true q other is never h = is refl
private_by false q other is never h = absurd (never h)

racy_by : (c : Bool) (other : FieldMode) → (other ≡ field.Racy → ⊥) → cond c field.Private other ≡ field.Racy → ⊥
racy_by true other never h = cc
racy_by false other never h = never h

locked_private : (r : Resolution) (n : ℕ) (q : FieldMode) (l : Lock) → locked_mode r n q l ≡ field.Private → q ≡ field.Private
locked_private r n q l h = by (is_behind_pointer r l) h
  where
    by : (b : Bool) → cond b (cond (is_private_mode q) field.Private (field.Behind n (field_place_named r (named_at r l.first)))) (Under (field_lock r n l)) ≡ field.Private → q ≡ field.Private
    by true h = private_by (is_private_mode q) q (field.Behind n (field_place_named r (named_at r l.first))) (private_mode_is q) (λ e. cc) h
    by false h = absurd (cc)

locked_racy : (r : Resolution) (n : ℕ) (q : FieldMode) (l : Lock) → locked_mode r n q l ≡ field.Racy → ⊥
locked_racy r n q l h = by (is_behind_pointer r l) h
  where
    by : (b : Bool) → cond b (cond (is_private_mode q) field.Private (field.Behind n (field_place_named r (named_at r l.first)))) (Under (field_lock r n l)) ≡ field.Racy → ⊥
    by true h = racy_by (is_private_mode q) (field.Behind n (field_place_named r (named_at r l.first))) (λ e. cc) h
    by false h = cc

written_private : (r : Resolution) (n : ℕ) (q : FieldMode) (top : Option Mode) → (top ≡ Some Mode.Private → ⊥) → written_mode r n q top ≡ field.Private → q ≡ field.Private
written_private r n q None never h = h
written_private r n q (Some Mode.Private) never h = absurd (never refl)
written_private r n q (Some Mode.Readonly) never h = private_by (is_private_mode q) q field.Readonly (private_mode_is q) (λ e. cc) h
written_private r n q (Some (Mode.Locked path)) never h = locked_private r n q (lock_of path) h
written_private r n q _ never h = absurd (cc)

written_racy : (r : Resolution) (n : ℕ) (q : FieldMode) (top : Option Mode) → (q ≡ field.Racy → ⊥) → (top ≡ Some Mode.Racy → ⊥) → written_mode r n q top ≡ field.Racy → ⊥
written_racy r n q None other never h = other h
written_racy r n q (Some Mode.Readonly) other never h = racy_by (is_private_mode q) field.Readonly (λ e. cc) h
written_racy r n q (Some (Mode.Locked path)) other never h = locked_racy r n q (lock_of path) h
written_racy r n q (Some Mode.Racy) other never h = never refl
written_racy r n q _ other never h = cc

-- what is locked behind a pointer
record IsBehindOf (r : Resolution) (n : ℕ) (q : FieldMode) (top : Option Mode) (a p : ℕ) : Type 0 where
  path : Path
  is : top ≡ Some (Mode.Locked path)
  behind : is_behind_pointer r (lock_of path) ≡ true
  shared : is_private_mode q ≡ false
  own : n ≡ a
  pointer : field_place_named r (named_at r (lock_of path).first) ≡ p

not_readonly_behind : (c : Bool) (a p : ℕ) → cond c field.Private field.Readonly ≡ field.Behind a p → ⊥
not_readonly_behind true a p h = cc
not_readonly_behind false a p h = cc

locked_behind : (r : Resolution) (n : ℕ) (q : FieldMode) (path : Path) (a p : ℕ) → locked_mode r n q (lock_of path) ≡ field.Behind a p → IsBehindOf r n q (Some (Mode.Locked path)) a p
locked_behind r n q path a p h = by (is_behind_pointer r (lock_of path)) (is_private_mode q) refl refl h
  where
    by : (b c : Bool) → is_behind_pointer r (lock_of path) ≡ b → is_private_mode q ≡ c
        → cond b (cond c field.Private (field.Behind n (field_place_named r (named_at r (lock_of path).first)))) (Under (field_lock r n (lock_of path))) ≡ field.Behind a p → IsBehindOf r n q (Some (Mode.Locked path)) a p
    by true true is e h = absurd (cc)
    by true false is e h = record { path = path; is = refl; behind = is; shared = e; own = cc; pointer = cc }
    by false c is e h = absurd (cc)

written_behind : (r : Resolution) (n : ℕ) (q : FieldMode) (top : Option Mode) (a p : ℕ) → ((b s : ℕ) → q ≡ field.Behind b s → ⊥) → written_mode r n q top ≡ field.Behind a p → IsBehindOf r n q top a p
written_behind r n q None a p never h = absurd (never a p h)
written_behind r n q (Some Mode.Readonly) a p never h = absurd (not_readonly_behind (is_private_mode q) a p h)
written_behind r n q (Some (Mode.Locked path)) a p never h = locked_behind r n q path a p h
written_behind r n q _ a p never h = absurd (cc)

field_behind : (r : Resolution) (n : ℕ) (q : FieldMode) (w : WrittenType) (a p : ℕ) → ((b s : ℕ) → q ≡ field.Behind b s → ⊥) → field_mode r n q w ≡ field.Behind a p → IsBehindOf r n q (top_of w.ctype.levels) a p
field_behind r n q w a p never h = by (is_mutex_kind (declared_kind w)) h
  where
    by : (b : Bool) → cond b field.Racy (written_mode r n q (top_of w.ctype.levels)) ≡ field.Behind a p → IsBehindOf r n q (top_of w.ctype.levels) a p
    by true h = absurd (cc)
    by false h = written_behind r n q (top_of w.ctype.levels) a p never h

-- a pointer that is written readonly, in data that is not private
pub field_readonly : (r : Resolution) (n : ℕ) (q : FieldMode) (w : WrittenType) → is_mutex_kind (declared_kind w) ≡ false → top_of w.ctype.levels ≡ Some Mode.Readonly → is_private_mode q ≡ false → field_mode r n q w ≡ field.Readonly
field_readonly r n q w other top shared =
    ap (λ b. cond b field.Racy (written_mode r n q (top_of w.ctype.levels))) other ∙ ap (written_mode r n q) top ∙ ap (λ b. cond b field.Private field.Readonly) shared

-- ---- what is known of a field of a struct
-- the pointer to a mutex behind which a field may be locked
pub record IsPartner (fields : List Declaration) (p : ℕ) : Type 0 where
  pub partner : Declaration
  pub at : slice_get fields p ≡ Some partner
  pub not_mutex : is_mutex_kind (declared_kind partner.written) ≡ false
  pub readonly : top_of partner.written.ctype.levels ≡ Some Mode.Readonly

pub record IsMember (m : Assignment) (fields : List Declaration) (d : Declaration) : Type 0 where
  pub not_private : top_of d.written.ctype.levels ≡ Some Mode.Private → ⊥
  pub not_racy : is_pointer (declared_kind d.written) ≡ true → top_of d.written.ctype.levels ≡ Some Mode.Racy → ⊥
  pub shape : is_pointer (declared_kind d.written) ≡ true → Contains (shapes m) (shape_of d.written.ctype.base (modes_of m (declared_row m.typed written d.name.site.token)))
  pub shared : starts_private (map form_of (modes_of m (declared_row m.typed written d.name.site.token))) ≡ true → ⊥
  pub beside : (path : Path) → top_of d.written.ctype.levels ≡ Some (Mode.Locked path) → is_behind_pointer m.typed (lock_of path) ≡ true → IsPartner fields (field_place_named m.typed (named_at m.typed (lock_of path).first))

-- so it is good in each element
pub member_good : (m : Assignment) (fields : List Declaration) (d : Declaration) → IsMember m fields d → (shared : Bool) (q : FieldMode) (n : ℕ) → IsOwn q shared → (q ≡ field.Racy → ⊥) → IsGood (targets_of m) shared (member m q n d)
member_good m fields d w shared q n own other = by (is_mutex_kind (declared_kind d.written)) (is_pointer (declared_kind d.written)) refl refl
  where
    top : FieldMode
    top = written_mode m.typed n q (top_of d.written.ctype.levels)

    whole : top ≡ field.Private → shared ≡ true
    whole h = own.whole (written_private m.typed n q (top_of d.written.ctype.levels) w.not_private h)

    by : (b c : Bool) → is_mutex_kind (declared_kind d.written) ≡ b → is_pointer (declared_kind d.written) ≡ c
        → IsGood (targets_of m) shared (record { mode = cond b field.Racy top; holds = cond c (pointer_content m n d.written.ctype.base (modes_of m (declared_row m.typed written d.name.site.token))) (base_content d.written.ctype.base) })
    by true true is e = absurd (false≢true (sym (mutex_pointer (declared_kind d.written) is) ∙ e))
    by true false is e = plain_good (targets_of m) shared field.Racy (base_content d.written.ctype.base) (λ h. absurd (cc)) (not_pointer d.written.ctype.base) (λ h. refl)
    by false true is e =
        pointer_good m shared top (shape_of d.written.ctype.base (modes_of m (declared_row m.typed written d.name.site.token))) _ (w.shape e) whole (λ h. absurd (w.shared h))
        (λ h. written_racy m.typed n q (top_of d.written.ctype.levels) other (w.not_racy e) h)
    by false false is e =
        plain_good (targets_of m) shared top (base_content d.written.ctype.base) whole (not_pointer d.written.ctype.base)
        (λ h. absurd (plain_mutex d.written.ctype.base (length d.written.ctype.levels - 1) e is (mutex_base d.written.ctype.base h)))

-- ---- all fields of a struct
pub members_at : (m : Assignment) (q : FieldMode) (n : ℕ) (list : List Declaration) (k : ℕ) (d : Declaration) → slice_get list k ≡ Some d → slice_index_or (members m q n list) k no_field ≡ member m q (n + k) d
members_at m q n [] k d is = absurd (none_some d is)
members_at m q n (x ∷ rest) zero d is = let e : n ≡ n + zero = omega arith in ap (λ (z : Declaration). member m q n z) (same_some x d is) ∙ ap (λ i. member m q i d) e
members_at m q n (x ∷ rest) (suc k) d is = let e : n + 1 + k ≡ n + suc k = omega arith in members_at m q (n + 1) rest k d is ∙ ap (λ i. member m q i d) e

members_each : (m : Assignment) (fields : List Declaration) (shared : Bool) (q : FieldMode) → IsOwn q shared → (q ≡ field.Racy → ⊥) → (n : ℕ) (rest : List Declaration) → ((d : Declaration) → Contains rest d → IsMember m fields d)
    → AllByRecursion (IsGood (targets_of m) shared) (members m q n rest)
members_each m fields shared q own other n [] all = tt
members_each m fields shared q own other n (d ∷ rest) all = (member_good m fields d (all d (head_there d rest)) shared q n own other, members_each m fields shared q own other (n + 1) rest (λ e has. all e (tail_there d e rest has)))

members_beside : (m : Assignment) (fields : List Declaration) (q : FieldMode) → ((a p : ℕ) → q ≡ field.Behind a p → ⊥) → ((d : Declaration) → Contains fields d → IsMember m fields d) → AreBeside (members m q 0 fields)
members_beside m fields q never all k a p low h =
    let many = member_count m q 0 fields in
    let found = some_there fields k (omega (arith, low, many)) in
    by_field found.0 found.1 (field_behind m.typed (0 + k) q found.0.written a p never (sym (ap (λ (f : Field). f.mode) (members_at m q 0 fields k found.0 found.1)) ∙ h))
  where
    by_partner : (w : IsPartner fields p) → k ≡ a → is_private_mode q ≡ false → IsBeside (members m q 0 fields) k a p
    by_partner w same shared =
        let many = member_count m q 0 fields in
        let inside = below_there fields p w.partner w.at in
        let place : k - a + p ≡ p = omega (arith, same) in
        let there : (slice_index_or (members m q 0 fields) p no_field).mode ≡ field_mode m.typed (0 + p) q w.partner.written = ap (λ (f : Field). f.mode) (members_at m q 0 fields p w.partner w.at) in
        let moved : (slice_index_or (members m q 0 fields) (k - a + p) no_field).mode ≡ (slice_index_or (members m q 0 fields) p no_field).mode = ap (λ i. (slice_index_or (members m q 0 fields) i no_field).mode) place in
        record { from = omega (arith, same); inside = omega (arith, inside, many, place); readonly = moved ∙ (there ∙ field_readonly m.typed (0 + p) q w.partner.written w.not_mutex w.readonly shared) }

    by_field : (d : Declaration) → slice_get fields k ≡ Some d → IsBehindOf m.typed (0 + k) q (top_of d.written.ctype.levels) a p → IsBeside (members m q 0 fields) k a p
    by_field d at b =
        by_partner (subst (IsPartner fields) b.pointer ((all d (place_there fields k d at)).beside b.path b.is b.behind)) (omega (arith, b.own)) b.shared

pub members_good : (m : Assignment) (fields : List Declaration) (shared : Bool) (q : FieldMode) → IsOwn q shared → (q ≡ field.Racy → ⊥) → ((d : Declaration) → Contains fields d → IsMember m fields d) → AreGood (targets_of m) shared (members m q 0 fields)
members_good m fields shared q own other all = record { each = members_each m fields shared q own other 0 fields all; beside = members_beside m fields q own.not_behind all }
