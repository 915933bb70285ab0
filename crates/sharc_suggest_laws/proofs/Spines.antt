-- What an expression that comes before the cast points to, and its type.
use Rattle.sharc_suggest_laws.proofs.{Imports.{◌≡◌, ℕ, ◌+◌, ◌<◌, false, cond, ◌++◌, Option, Some, None, refl, ap, ap₂, sym, subst, ◌∙◌, arith, true≢false, AllByRecursion, Span, Declaration, expressions, Placed, span_of, Expression, identifier, constant, parentheses, call, cast, index, field, unary, binary, Named, Need, Integer, Indexed, Scope, Kind, is_array, element_kind, Entry, Meaning, look_up, named_of, met, unmet, name_notes, field_in, field_kind, field_notes, with_cast, recast_of, is_dull, OperatorClass, Shift, Standing, AsValue, element_of, access_need, operand_need, unary_result, unary_kind, class_of, operands_need, binary_result, binary_kind, binary_notes, type_of, notes_at, named_at, named_kind, kind_at, Cast, Assignment, written, named_row, reading_through, base_use, row_at, none_some, front, back}, Lefts.{IsTypedIn, is_function, typed_itself}, RowsStay.{Frame, now, many, first_at, IsRowMoved, AreRowsMoved, other_moved, named_kind_same, named_moved, call_moved, call_kind_same, base_same, element_moved, no_rows, unary_moved, constant_moved, element_held, operand_held}, Strong.{IsStrong, AreStrong}}
use Rattle.sharc_names.specs.Kinds as kinds
use Rattle.sharc_names.specs.Names as meaning
use Rattle.sharc_mode.specs.Rows.{behind}

-- the same row, moved, and the same type
pub record IsSpine (m : Assignment) (c : Cast) (frame : Frame m c) (e : Expression) : Type 0 where
  pub rows : AreRowsMoved (first_at m c frame) (many c) (row_at m.typed e) (row_at (now m c) (with_cast (recast_of m.typed c) e))
  pub kind : kind_at (now m c) (with_cast (recast_of m.typed c) e) ≡ kind_at m.typed e

-- ---- a name that is no function's

name_still : (m : Assignment) (c : Cast) (t : ℕ) (mean : Meaning) → named_at m.typed t ≡ named_of mean → (is_dull (named_of mean) ≡ false → named_at (now m c) t ≡ named_of mean) → is_function (named_kind m.typed (named_at m.typed t)) ≡ false
    → named_at (now m c) t ≡ named_at m.typed t
name_still m c t (meaning.condition k) is still held = absurd (true≢false (ap (λ (v : Named). is_function (named_kind m.typed v)) (sym is) ∙ held))
name_still m c t _ is still held = still refl ∙ sym is

name_same : (m : Assignment) (c : Cast) (t : ℕ) (o : Option Entry) → AreStrong m.typed (now m c) (name_notes t o) → is_function (named_kind m.typed (named_at m.typed t)) ≡ false → named_at (now m c) t ≡ named_at m.typed t
name_same m c t None strong held = absurd strong.0
name_same m c t (Some e) strong held = name_still m c t e.meaning strong.0.0 strong.0.1 held

named_spine : (m : Assignment) (c : Cast) (frame : Frame m c) (at later : Option ℕ) (v w : Named) → w ≡ v → later ≡ at → is_function (named_kind m.typed v) ≡ false
    → AreRowsMoved (first_at m c frame) (many c) (Some (named_row m.typed (reading_through at) v)) (Some (named_row (now m c) (reading_through later) w)) × (named_kind (now m c) w ≡ named_kind m.typed v)
named_spine m c frame at later v w same also held = (
  (
    at,
    subst (λ (x : Named). IsRowMoved (first_at m c frame) (many c) (reading_through at) (reading_through at) (named_row m.typed (reading_through at) v) (named_row (now m c) (reading_through later) x)) (sym same)
        (subst (λ (x : Option ℕ). IsRowMoved (first_at m c frame) (many c) (reading_through at) (reading_through at) (named_row m.typed (reading_through at) v) (named_row (now m c) (reading_through x) v)) (sym also)
        (named_moved m c frame (reading_through at) v held)),
  ),
  ap (named_kind (now m c)) same ∙ named_kind_same m c v,
)

field_still : (m : Assignment) (c : Cast) (t : ℕ) (o : Option (Option Declaration)) (whole : Kind) → field_kind o ≡ Some whole → AreStrong m.typed (now m c) (field_notes t o) → named_at (now m c) t ≡ named_at m.typed t
field_still m c t (Some (Some d)) whole is strong = strong.0.2 refl ∙ sym strong.0.0
field_still m c t _ whole is strong = absurd (none_some whole is)

-- ---- operands

part_held : (need : Need) (k : Kind) → met need (Some kinds.function) ≡ None → (other : Option Kind → Option Kind) → ((x : Kind) → other None ≡ Some x → ⊥) → (whole : Kind) → other (met need (Some k)) ≡ Some whole → is_function k ≡ false
part_held need kinds.function never other none whole is = absurd (none whole (ap other (sym never) ∙ is))
part_held need _ never other none whole is = refl

no_operand : (o : OperatorClass) → met (operands_need o) (Some kinds.function) ≡ None
no_operand Shift = refl
no_operand _ = refl

no_second : (o : OperatorClass) (a : Option Kind) (x : Kind) → binary_kind o a None ≡ Some x → ⊥
no_second o None x is = none_some x is
no_second o (Some a) x is = none_some x is

-- ---- in each production

abbrev Within : Assignment → Cast → Expression → Type 0
Within m c e = (span_of e).last.token < c.from

narrower : (m : Assignment) (c : Cast) (s a : Span) → a.last.token < s.last.token + 1 → s.last.token < c.from → a.last.token < c.from
narrower m c s a inner outer = omega (arith, inner, outer)

pub spine : (m : Assignment) (c : Cast) (frame : Frame m c) (σ : Scope) (stands : Standing) (e : Expression) → Placed m.typed.program.tokens.list e → (span_of e).last.token < c.from → AllByRecursion (IsTypedIn m.typed σ) (expressions e)
    → AreStrong m.typed (now m c) (notes_at stands σ e) → is_function (kind_at m.typed e) ≡ false → IsSpine m c frame e
spine m c frame σ stands (identifier s i) placed low typed strong held =
    let h = named_spine m c frame None None (named_at m.typed i.site.token) (named_at (now m c) i.site.token) (name_same m c i.site.token (look_up σ.names i.text) strong held) refl held in
    record { rows = h.0; kind = h.1 }
spine m c frame σ stands (constant s k) placed low typed strong held = record { rows = constant_moved (first_at m c frame) (many c) k; kind = refl }
spine m c frame σ stands (parentheses s a) placed low typed strong held =
    let h = spine m c frame σ stands a placed.1 (narrower m c s (span_of a) placed.0.1.2 low) typed.1 strong held in
    record { rows = h.rows; kind = h.kind }
spine m c frame σ stands (call s f all) placed low typed strong held = record {
  rows = (None, call_moved m c frame (named_at m.typed f.site.token) (named_at (now m c) f.site.token) (frame.kept f.site.token));
  kind = call_kind_same m c (named_at m.typed f.site.token) (named_at (now m c) f.site.token) (frame.kept f.site.token);
}
spine m c frame σ stands (cast s t a) placed low typed strong held =
    record {
      rows = (None, other_moved m c frame written written s.first.token s.last.token (λ same also. omega (arith, same, placed.0.0.order, low)));
      kind = refl;
    }
spine m c frame σ stands (index s a i) placed low typed strong held =
    let parts : AllByRecursion (IsTypedIn m.typed σ) (expressions a) = front (IsTypedIn m.typed σ) (expressions a) (expressions i) typed.1 in
    let is : element_of (met Indexed (type_of σ a)) (met Integer (type_of σ i)) ≡ Some (kind_at m.typed (index s a i)) = typed.0 in
    let inner : is_function (kind_at m.typed a) ≡ false =
    element_held (kind_at m.typed a) (met Integer (type_of σ i)) (kind_at m.typed (index s a i)) (ap (λ (k : Option Kind). element_of (met Indexed k) (met Integer (type_of σ i))) (sym (typed_itself m.typed σ a parts)) ∙ is) in
    let strong_a = front (IsStrong m.typed (now m c)) (notes_at AsValue σ a) (unmet Indexed a (type_of σ a))
    (front (IsStrong m.typed (now m c)) (notes_at AsValue σ a ++ unmet Indexed a (type_of σ a)) (notes_at AsValue σ i)
    (front (IsStrong m.typed (now m c)) (notes_at AsValue σ a ++ unmet Indexed a (type_of σ a) ++ notes_at AsValue σ i) (unmet Integer i (type_of σ i)) strong)) in
    let h = spine m c frame σ AsValue a placed.1 (narrower m c s (span_of a) placed.0.1.2 low) parts strong_a inner in
    let new : Expression = with_cast (recast_of m.typed c) a in
    record {
      rows = subst (λ (k : Kind). AreRowsMoved (first_at m c frame) (many c) (row_at m.typed (index s a i)) (cond (is_array k) (row_at (now m c) new) (behind (row_at (now m c) new)))) (sym h.kind)
          (element_moved (first_at m c frame) (many c) (row_at m.typed a) (row_at (now m c) new) (is_array (kind_at m.typed a)) h.rows);
      kind = ap element_kind h.kind;
    }
spine m c frame σ stands (field s a w n) placed low typed strong held =
    let found : Option (Option Declaration) = field_in σ.structs n.text (met (access_need w) (type_of σ a)) in
    let told = back (IsStrong m.typed (now m c)) (notes_at AsValue σ a ++ unmet (access_need w) a (type_of σ a)) (field_notes n.site.token found) strong in
    let still : named_at (now m c) n.site.token ≡ named_at m.typed n.site.token = field_still m c n.site.token found (kind_at m.typed (field s a w n)) typed.0 told in
    let h = named_spine m c frame (base_use m.typed w a) (base_use (now m c) w (with_cast (recast_of m.typed c) a)) (named_at m.typed n.site.token) (named_at (now m c) n.site.token) still (base_same m c frame.kept w a) held in
    record { rows = h.0; kind = h.1 }
spine m c frame σ stands (unary s o a) placed low typed strong held =
    let is : unary_kind o (met (operand_need o) (type_of σ a)) ≡ Some (kind_at m.typed (unary s o a)) = typed.0 in
    let inner : is_function (kind_at m.typed a) ≡ false =
    operand_held o (kind_at m.typed a) (kind_at m.typed (unary s o a)) (ap (λ (k : Option Kind). unary_kind o (met (operand_need o) k)) (sym (typed_itself m.typed σ a typed.1)) ∙ is) in
    let strong_a = front (IsStrong m.typed (now m c)) (notes_at AsValue σ a) (unmet (operand_need o) a (type_of σ a)) strong in
    let h = spine m c frame σ AsValue a placed.1 (narrower m c s (span_of a) placed.0.1.2 low) typed.1 strong_a inner in
    record {
      rows = unary_moved (first_at m c frame) (many c) o (row_at m.typed a) (row_at (now m c) (with_cast (recast_of m.typed c) a)) h.rows;
      kind = ap (unary_result o) h.kind;
    }
spine m c frame σ stands (binary s o at a b) placed low typed strong held =
    let need : Need = operands_need (class_of o) in
    let first : AllByRecursion (IsTypedIn m.typed σ) (expressions a) = front (IsTypedIn m.typed σ) (expressions a) (expressions b) typed.1 in
    let second : AllByRecursion (IsTypedIn m.typed σ) (expressions b) = back (IsTypedIn m.typed σ) (expressions a) (expressions b) typed.1 in
    let whole : Kind = kind_at m.typed (binary s o at a b) in
    let is : binary_kind (class_of o) (met need (type_of σ a)) (met need (type_of σ b)) ≡ Some whole = typed.0 in
    let held_a : is_function (kind_at m.typed a) ≡ false =
    part_held need (kind_at m.typed a) (no_operand (class_of o)) (λ (k : Option Kind). binary_kind (class_of o) k (met need (type_of σ b))) (λ x none. none_some x none) whole
    (ap (λ (k : Option Kind). binary_kind (class_of o) (met need k) (met need (type_of σ b))) (sym (typed_itself m.typed σ a first)) ∙ is) in
    let held_b : is_function (kind_at m.typed b) ≡ false =
    part_held need (kind_at m.typed b) (no_operand (class_of o)) (λ (k : Option Kind). binary_kind (class_of o) (met need (type_of σ a)) k) (no_second (class_of o) (met need (type_of σ a))) whole
    (ap (λ (k : Option Kind). binary_kind (class_of o) (met need (type_of σ a)) (met need k)) (sym (typed_itself m.typed σ b second)) ∙ is) in
    let begin = front (IsStrong m.typed (now m c)) (notes_at AsValue σ a ++ unmet need a (type_of σ a) ++ notes_at AsValue σ b ++ unmet need b (type_of σ b)) (binary_notes (class_of o) b (met need (type_of σ a)) (met need (type_of σ b))) strong in
    let middle = front (IsStrong m.typed (now m c)) (notes_at AsValue σ a ++ unmet need a (type_of σ a) ++ notes_at AsValue σ b) (unmet need b (type_of σ b)) begin in
    let strong_a = front (IsStrong m.typed (now m c)) (notes_at AsValue σ a) (unmet need a (type_of σ a)) (front (IsStrong m.typed (now m c)) (notes_at AsValue σ a ++ unmet need a (type_of σ a)) (notes_at AsValue σ b) middle) in
    let strong_b = back (IsStrong m.typed (now m c)) (notes_at AsValue σ a ++ unmet need a (type_of σ a)) (notes_at AsValue σ b) middle in
    let order_b : (span_of b).last.token < s.last.token + 1 = placed.0.1.3.3.2 in
    let h = spine m c frame σ AsValue a placed.1 (narrower m c s (span_of a) placed.0.1.2 low) first strong_a held_a in
    let k = spine m c frame σ AsValue b placed.2 (narrower m c s (span_of b) order_b low) second strong_b held_b in
    record { rows = no_rows (first_at m c frame) (many c); kind = ap₂ (binary_result (class_of o)) h.kind k.kind }
spine m c frame σ stands _ placed low typed strong held = record { rows = no_rows (first_at m c frame) (many c); kind = refl }
