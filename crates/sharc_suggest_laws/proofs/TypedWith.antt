-- An expression with a cast written in it has no fault where it had none, and the type that it had.
use Rattle.sharc_suggest_laws.proofs.{Imports.{◌≡◌, ◌⊎◌, inl, inr, ℕ, ◌==◌, Bool, true, false, not, ◌&&◌, ◌||◌, cond, List, [], ◌∷◌, ◌++◌, zero, suc, drop, Option, Some, None, refl, ap, ap₂, sym, subst, ◌∙◌, eq-eqb, false≢true, bytes_eq-Decides, AllByRecursion, Base, Span, WrittenType, Declaration, without_parentheses, is_lvalue, expressions, in_arguments, span_of, Expression, identifier, parentheses, call, spawn, on_value, on_place, cast, index, field, unary, binary, Arguments, no_arguments, argument, TypeMismatch, NoLvalue, BadForm, Need, Value, Integer, Indexed, Scope, Kind, object, is_pointer, same_base, same_kind, declared_kind, Entry, Meaning, look_up, is_function, is_main, kind_of, place, called, fits, met, unmet, misfit, misfit_of, used_call, agreed, unagreed, fault, fault_unless, name_kind, main_notes, field_in, field_kind, field_notes, type_notes, is_fine, first_wanted, Role, Standing, AsValue, AsLvalue, OperatorClass, element_of, access_need, operand_need, unary_kind, class_of, operands_need, binary_kind, binary_notes, may_join, names_function, is_function_name, is_place, place_kind, place_notes, place_call_notes, value_call_kind, place_call_kind, keeps_kind, cast_kind, cast_notes, count, callee_notes, call_result, call_kind, may_spawn, spawn_wanted, spawn_kind, type_of, are_fine, notes_at, notes_of_all, kind_at, with_names, type_at, is_there, around, with_cast, all_with_cast, Receiver, of_parameter, Giving, one_giving, givings, all_givings, value_givings, front, back, none_some, one_some}, Grown.span_same, Lefts.{IsTypedIn, typed_itself}, Noted.{Clean, left, right, no_fault, behind_head, none, joined, unless, moved, referring}, Retyped.{Setting, cast_fine, count_same, fine_both, place_same}, Scoped.Scoped}
use Rattle.sharc_names.specs.{Names.parameters_of, Needs.mismatch}
use Rattle.sharc_names.specs.Kinds as kinds
use Rattle.sharc_names.specs.Names as meaning
use Rattle.sharc_ctype.specs.Expressions.{count_notes, wanted}

-- Where the cast is written its type has no fault, and the expression is a place that has a pointer of that type.
pub record IsReadyAt (w : Setting) (names : List Entry) (e : Expression) : Type 0 where
  pub types : (s : Span) → Clean (type_notes (with_names w.file names) [] Role.Cast (type_at w.recast s))
  pub lvalue : is_lvalue e ≡ true
  pub kind : (s : Span) → kind_at w.resolution e ≡ declared_kind (type_at w.recast s)
  pub pointer : is_pointer (kind_at w.resolution e) ≡ true

abbrev pub IsReady : Setting → Giving → Type 0
IsReady w g = is_there w.recast g.given ≡ true → (names : List Entry) → Scoped w.file.names names g.scope → IsReadyAt w names g.given

abbrev pub AreReady : Setting → List Giving → Type 0
AreReady w gs = AllByRecursion (IsReady w) gs

-- each expression in it has the type that its names tell
abbrev pub AreTypedIn : Setting → List Entry → List Expression → Type 0
AreTypedIn w names list = AllByRecursion (IsTypedIn w.resolution (with_names w.file names)) list

-- ---- what is needed of an expression is met by one of its kind, if it is the same call or none

abbrev pub IsQuieter : Expression → Expression → Type 0
IsQuieter e new = (called new ≡ called e) ⊎ (called new ≡ None)

used_clean : (old new : Option ℕ) → (new ≡ old) ⊎ (new ≡ None) → Clean (used_call old) → Clean (used_call new)
used_clean old None q h = none
used_clean None (Some x) (inl same) h = absurd (none_some x (sym same))
used_clean None (Some x) (inr gone) h = absurd (none_some x (sym gone))
used_clean (Some y) (Some x) q h = absurd (no_fault _ _ _ h)

base_clean : (b : Base) (e new : Expression) → IsQuieter e new → Clean (misfit_of b e) → Clean (misfit_of b new)
base_clean Base.Void e new q h = used_clean (called e) (called new) q h
base_clean _ e new q h = absurd (no_fault _ _ _ h)

object_clean : (b : Base) (z : Bool) (e new : Expression) → IsQuieter e new → Clean (cond z (misfit_of b e) (mismatch e)) → Clean (cond z (misfit_of b new) (mismatch new))
object_clean b true e new q h = base_clean b e new q h
object_clean b false e new q h = absurd (no_fault _ _ _ h)

misfit_clean : (k : Kind) (e new : Expression) → IsQuieter e new → Clean (misfit k e) → Clean (misfit k new)
misfit_clean (object b stars) e new q h = object_clean b (stars == 0) e new q h
misfit_clean _ e new q h = absurd (no_fault _ _ _ h)

fit_clean : (b : Bool) (k : Kind) (e new : Expression) → IsQuieter e new → Clean (cond b [] (misfit k e)) → Clean (cond b [] (misfit k new))
fit_clean true k e new q h = none
fit_clean false k e new q h = misfit_clean k e new q h

kind_clean : (need : Need) (k : Option Kind) (e new : Expression) → IsQuieter e new → Clean (unmet need e k) → Clean (unmet need new k)
kind_clean need None e new q h = none
kind_clean need (Some k) e new q h = fit_clean (fits need k) k e new q h

pub unmet_clean : (need : Need) (e new : Expression) (k j : Option Kind) → IsQuieter e new → j ≡ k → Clean (unmet need e k) → Clean (unmet need new j)
unmet_clean need e new k j q same h = subst (λ (i : Option Kind). Clean (unmet need new i)) (sym same) (kind_clean need k e new q h)

pub unagreed_clean : (want : Option Kind) (e new : Expression) (k j : Option Kind) → j ≡ k → Clean (unagreed want e k) → Clean (unagreed want new j)
unagreed_clean want e new k j same h = moved (agreed want k) (agreed want j) (place e) (place new) TypeMismatch (ap (agreed want) same) h

-- ---- an expression with the cast in it, and one round which the cast may be

pub record IsWell (w : Setting) (names : List Entry) (stands : Standing) (e new : Expression) : Type 0 where
  pub typed : type_of (with_names w.file names) new ≡ type_of (with_names w.file names) e
  pub clean : Clean (notes_at stands (with_names w.file names) new)
  pub quieter : IsQuieter e new

-- a part of which something is needed
pub part : (w : Setting) (names : List Entry) (stands : Standing) (need : Need) (e new : Expression) → IsWell w names stands e new → Clean (unmet need e (type_of (with_names w.file names) e))
    → Clean (notes_at stands (with_names w.file names) new ++ unmet need new (type_of (with_names w.file names) new))
part w names stands need e new h met_so =
    let σ : Scope = with_names w.file names in
    joined (notes_at stands σ new) (unmet need new (type_of σ new)) h.clean (unmet_clean need e new (type_of σ e) (type_of σ new) h.quieter h.typed met_so)

uncalled : (token n : ℕ) (k : Option (List Kind)) → Clean (count_notes AsValue token n k) → Clean (count_notes AsLvalue token n k)
uncalled token n None h = none
uncalled token n (Some all) h = h

callee_left : (token n : ℕ) (entry : Option Entry) → Clean (callee_notes AsValue token n entry) → Clean (callee_notes AsLvalue token n entry)
callee_left token n None h = absurd (no_fault _ _ _ h)
callee_left token n (Some e) h =
    let rest = behind_head token _ _ h in
    referring token _ _ (joined (main_notes token e.meaning) _ (left (main_notes token e.meaning) _ rest) (uncalled token n (parameters_of e.meaning) (right (main_notes token e.meaning) _ rest)))

-- what has no fault as a value has none as a place
as_left : (σ : Scope) (e : Expression) → Clean (notes_at AsValue σ e) → Clean (notes_at AsLvalue σ e)
as_left σ (parentheses s a) h = as_left σ a h
as_left σ (call s f all) h = joined _ _ (callee_left f.site.token (count all) (look_up σ.names f.text) (left _ _ h)) (right _ _ h)
as_left σ _ h = h

-- a pointer is no name of a function

of_function : (b : Bool) (k : Kind) → cond b None (Some kinds.function) ≡ Some k → is_pointer k ≡ true → ⊥
of_function true k is pointer = none_some k is
of_function false k is pointer = false≢true (ap is_pointer (one_some kinds.function k is) ∙ pointer)

meant : (m : Meaning) (k : Kind) → cond (is_main m) None (Some (kind_of m)) ≡ Some k → is_pointer k ≡ true → is_function m ≡ false
meant (meaning.function n f) k is pointer = absurd (of_function (is_main (meaning.function n f)) k is pointer)
meant (meaning.condition c) k is pointer = absurd (of_function false k is pointer)
meant _ k is pointer = refl

name_meant : (o : Option Entry) (k : Kind) → name_kind o ≡ Some k → is_pointer k ≡ true → is_function_name o ≡ false
name_meant None k is pointer = refl
name_meant (Some x) k is pointer = meant x.meaning k is pointer

no_function : (σ : Scope) (e : Expression) (k : Kind) → type_of σ e ≡ Some k → is_pointer k ≡ true → names_function σ.names (without_parentheses e) ≡ false
no_function σ (identifier s i) k is pointer = name_meant (look_up σ.names i.text) k is pointer
no_function σ (parentheses s a) k is pointer = no_function σ a k is pointer
no_function σ _ k is pointer = refl

-- a cast of a pointer to its own type

base_itself : (b : Base) → same_base b b ≡ true
base_itself (Base.Struct name) = (bytes_eq-Decides name name).1 refl
base_itself _ = refl

kind_itself : (k : Kind) → is_pointer k ≡ true → same_kind k k ≡ true
kind_itself (object b n) pointer = ap₂ (λ (x y : Bool). x && y) (base_itself b) (eq-eqb n n refl)
kind_itself _ pointer = absurd (false≢true pointer)

keeps_itself : (t : WrittenType) → is_pointer (declared_kind t) ≡ true → cast_kind true t (Some (declared_kind t)) ≡ Some (declared_kind t)
keeps_itself t pointer = ap₂ (λ (x y : Bool). cond (x && y) (Some (declared_kind t)) None) pointer (kind_itself (declared_kind t) pointer)

keeping_clean : (p q : Bool) (word at : ℕ) → p ≡ true → q ≡ true → Clean (cond p (fault_unless (q || false) at TypeMismatch) (fault word BadForm ∷ []))
keeping_clean true true word at is same = none
keeping_clean false q word at is same = absurd (false≢true is)
keeping_clean true false word at is same = absurd (false≢true same)

cast_clean : (word : ℕ) (t : WrittenType) (e : Expression) → is_pointer (declared_kind t) ≡ true → Clean (cast_notes word true t e (Some (declared_kind t)))
cast_clean word t e pointer = keeping_clean (is_pointer (declared_kind t)) (same_kind (declared_kind t) (declared_kind t)) word (place e) pointer (kind_itself (declared_kind t) pointer)

value_by : (w : Setting) (names scope : List Entry) → Scoped w.file.names names scope → (r : Receiver) (e : Expression) → IsReady w (record { scope = scope; receiver = r; given = e }) → IsTypedIn w.resolution (with_names w.file names) e
    → IsWell w names AsValue e (with_cast w.recast e) → (b : Bool) → is_there w.recast (with_cast w.recast e) ≡ b
    → IsWell w names AsValue e (cond b (cast (span_of (with_cast w.recast e)) (type_at w.recast (span_of (with_cast w.recast e))) (with_cast w.recast e)) (with_cast w.recast e))
value_by w names scope scoped r e ready known h false not_so = h
value_by w names scope scoped r e ready known h true is_so =
    let σ : Scope = with_names w.file names in
    let new : Expression = with_cast w.recast e in
    let s : Span = span_of new in
    let t : WrittenType = type_at w.recast s in
    let there : is_there w.recast e ≡ true = ap (λ (z : Span). z.first.token == w.recast.from && z.last.token == w.recast.until) (sym (span_same w.recast e)) ∙ is_so in
    let at : IsReadyAt w names e = ready there names scoped in
    let own : kind_at w.resolution e ≡ declared_kind t = at.kind s in
    let pointer : is_pointer (declared_kind t) ≡ true = ap is_pointer (sym own) ∙ at.pointer in
    let has : type_of σ e ≡ Some (declared_kind t) = known ∙ ap (λ (k : Kind). Some k) own in
    let plain : names_function names (without_parentheses e) ≡ false = no_function σ e (declared_kind t) has pointer in
    let stands : is_place names new ≡ true = place_same w.recast names e ∙ ap₂ (λ (x y : Bool). x && not y) at.lvalue plain in
    let kind : place_kind names new (type_of σ new) ≡ Some (declared_kind t) = ap (λ (x : Bool). cond x (type_of σ new) None) stands ∙ h.typed ∙ has in
    let types : Clean (type_notes σ [] Role.Cast t) = at.types s in
    let fine : is_fine σ.structs Role.Cast t ≡ true = cast_fine σ t types in
    record {
      typed = ap₂ (λ (x : Bool) (k : Option Kind). cast_kind x t k) fine kind ∙ keeps_itself t pointer ∙ sym has;
      clean = joined _ _ (joined _ _ (joined _ _ types (as_left σ new h.clean)) (unless (is_place names new) (place new) NoLvalue stands))
          (subst (λ (x : Bool). Clean (cast_notes s.first.token x t new (place_kind names new (type_of σ new)))) (sym fine)
          (subst (λ (k : Option Kind). Clean (cast_notes s.first.token true t new k)) (sym kind) (cast_clean s.first.token t new pointer)));
      quieter = inr refl;
    }

-- ---- in each production

-- of arguments that are given to parameters of these kinds
record AreWell (w : Setting) (names : List Entry) (wanting : List Kind) (all : Arguments) : Type 0 where
  fine : are_fine (with_names w.file names) wanting (all_with_cast w.recast all) ≡ are_fine (with_names w.file names) wanting all
  clean : Clean (notes_of_all (with_names w.file names) wanting (all_with_cast w.recast all))

pub place_clean : (w : Setting) (names : List Entry) (a : Expression) → Clean (place_notes names a) → Clean (place_notes names (with_cast w.recast a))
place_clean w names a h = moved (is_place names a) (is_place names (with_cast w.recast a)) (place a) (place (with_cast w.recast a)) NoLvalue (place_same w.recast names a) h

pub place_kind_same : (w : Setting) (names : List Entry) (a : Expression) (new old : Option Kind) → new ≡ old → place_kind names (with_cast w.recast a) new ≡ place_kind names a old
place_kind_same w names a new old same = ap₂ (λ (b : Bool) (k : Option Kind). cond b k None) (place_same w.recast names a) same

keeping_moved : (p q : Bool) (word at to : ℕ) → Clean (cond p (fault_unless q at TypeMismatch) (fault word BadForm ∷ [])) → Clean (cond p (fault_unless q to TypeMismatch) (fault word BadForm ∷ []))
keeping_moved true q word at to h = moved q q at to TypeMismatch refl h
keeping_moved false q word at to h = h

cast_moved : (word : ℕ) (fine : Bool) (t : WrittenType) (e new : Expression) (k : Option Kind) → Clean (cast_notes word fine t e k) → Clean (cast_notes word fine t new k)
cast_moved word fine t e new None h = none
cast_moved word fine t e new (Some k) h = keeping_moved (is_pointer k) (keeps_kind fine t k || not fine) word (place e) (place new) h

binary_moved : (o : OperatorClass) (e new : Expression) (a b : Option Kind) → Clean (binary_notes o e a b) → Clean (binary_notes o new a b)
binary_moved o e new None b h = none
binary_moved o e new (Some a) None h = none
binary_moved o e new (Some a) (Some b) h = moved (may_join o a b) (may_join o a b) (place e) (place new) TypeMismatch refl h

mutual
  pub inside : (w : Setting) (names scope : List Entry) → Scoped w.file.names names scope → (stands : Standing) (e : Expression) → AreReady w (givings scope e) → AreTypedIn w names (expressions e)
      → Clean (notes_at stands (with_names w.file names) e) → IsWell w names stands e (with_cast w.recast e)
  inside w names scope scoped stands (parentheses s a) ready typed clean =
      let h = inside w names scope scoped stands a ready typed.1 clean in
      record { typed = h.typed; clean = h.clean; quieter = h.quieter }
  inside w names scope scoped stands (call s f all) ready typed clean =
      let σ : Scope = with_names w.file names in
      let entry : Option Entry = look_up names f.text in
      let new : Arguments = all_with_cast w.recast all in
      let h : AreWell w names (wanted (count all) entry) all = inside_all w names scope scoped f.site.token all zero all ready typed.1 (wanted (count all) entry) (right _ _ clean) in
      record {
        typed = ap (λ (n : ℕ). call_kind (call_result n entry) (are_fine σ (wanted n entry) new)) (count_same w.recast all) ∙ ap (call_kind (call_result (count all) entry)) h.fine;
        clean = subst (λ (n : ℕ). Clean (callee_notes stands f.site.token n entry ++ notes_of_all σ (wanted n entry) new)) (sym (count_same w.recast all)) (joined _ _ (left _ _ clean) h.clean);
        quieter = inl refl;
      }
  inside w names scope scoped stands (spawn s f a) ready typed clean =
      let σ : Scope = with_names w.file names in
      let entry : Option Entry = look_up names f.text in
      let new : Expression = around w.recast (with_cast w.recast a) in
      let to : Receiver = of_parameter f.site.token (argument a no_arguments) zero in
      let h : IsWell w names AsValue a new =
      value_by w names scope scoped to a (back (IsReady w) (givings scope a) (one_giving scope to a) ready).0 (typed_itself w.resolution σ a typed.1)
      (inside w names scope scoped AsValue a (front (IsReady w) (givings scope a) (one_giving scope to a) ready) typed.1 (left _ _ (left _ _ (left _ _ clean)))) (is_there w.recast (with_cast w.recast a)) refl in
      record {
        typed = ap (λ (k : Option Kind). spawn_kind (may_spawn entry) (agreed (spawn_wanted entry) (met Value k)) (met Value k)) h.typed;
        clean = joined _ _ (joined _ _ (part w names AsValue Value a new h (right _ _ (left _ _ (left _ _ clean)))) (right _ _ (left _ _ clean)))
            (unagreed_clean (spawn_wanted entry) a new (met Value (type_of σ a)) (met Value (type_of σ new)) (ap (met Value) h.typed) (right _ _ clean));
        quieter = inl refl;
      }
  inside w names scope scoped stands (on_value s o a) ready typed clean =
      let h = inside w names scope scoped AsValue a ready typed.1 (left _ _ clean) in
      record {
        typed = ap (λ (k : Option Kind). value_call_kind (met Integer k)) h.typed;
        clean = part w names AsValue Integer a (with_cast w.recast a) h (right _ _ clean);
        quieter = inl refl;
      }
  inside w names scope scoped stands (on_place s o a) ready typed clean =
      let σ : Scope = with_names w.file names in
      let h = inside w names scope scoped AsLvalue a ready typed.1 (left _ _ (left _ _ clean)) in
      let same : place_kind names (with_cast w.recast a) (type_of σ (with_cast w.recast a)) ≡ place_kind names a (type_of σ a) = place_kind_same w names a _ _ h.typed in
      record {
        typed = ap (place_call_kind o) same;
        clean = joined _ _ (joined _ _ h.clean (place_clean w names a (right _ _ (left _ _ clean))))
            (subst (λ (k : Option Kind). Clean (place_call_notes s.first.token o k)) (sym same) (right _ _ clean));
        quieter = inl refl;
      }
  inside w names scope scoped stands (cast s t a) ready typed clean =
      let σ : Scope = with_names w.file names in
      let fine : Bool = is_fine w.file.structs Role.Cast t in
      let h = inside w names scope scoped AsLvalue a ready typed.1 (right (type_notes σ [] Role.Cast t) _ (left _ _ (left _ _ clean))) in
      let same : place_kind names (with_cast w.recast a) (type_of σ (with_cast w.recast a)) ≡ place_kind names a (type_of σ a) = place_kind_same w names a _ _ h.typed in
      record {
        typed = ap (cast_kind fine t) same;
        clean = joined _ _ (joined _ _ (joined (type_notes σ [] Role.Cast t) _ (left (type_notes σ [] Role.Cast t) _ (left _ _ (left _ _ clean))) h.clean) (place_clean w names a (right _ _ (left _ _ clean))))
            (subst (λ (k : Option Kind). Clean (cast_notes s.first.token fine t (with_cast w.recast a) k)) (sym same) (cast_moved s.first.token fine t a (with_cast w.recast a) (place_kind names a (type_of σ a)) (right (type_notes σ [] Role.Cast t ++ notes_at AsLvalue σ a ++ place_notes names a) _ clean)));
        quieter = inl refl;
      }
  inside w names scope scoped stands (index s a i) ready typed clean =
      let P = IsTypedIn w.resolution (with_names w.file names) in
      let h = inside w names scope scoped AsValue a (front (IsReady w) (givings scope a) (givings scope i) ready) (front P (expressions a) (expressions i) typed.1) (left _ _ (left _ _ (left _ _ clean))) in
      let k = inside w names scope scoped AsValue i (back (IsReady w) (givings scope a) (givings scope i) ready) (back P (expressions a) (expressions i) typed.1) (right _ _ (left _ _ clean)) in
      record {
        typed = ap₂ (λ (x y : Option Kind). element_of (met Indexed x) (met Integer y)) h.typed k.typed;
        clean = joined _ _ (joined _ _ (part w names AsValue Indexed a (with_cast w.recast a) h (right _ _ (left _ _ (left _ _ clean)))) k.clean)
            (unmet_clean Integer i (with_cast w.recast i) _ _ k.quieter k.typed (right _ _ clean));
        quieter = inl refl;
      }
  inside w names scope scoped stands (field s a o n) ready typed clean =
      let σ : Scope = with_names w.file names in
      let h = inside w names scope scoped AsValue a ready typed.1 (left _ _ (left _ _ clean)) in
      let found : Option Kind → Option (Option Declaration) = λ (k : Option Kind). field_in w.file.structs n.text (met (access_need o) k) in
      record {
        typed = ap (λ (k : Option Kind). field_kind (found k)) h.typed;
        clean = joined _ _ (part w names AsValue (access_need o) a (with_cast w.recast a) h (right _ _ (left _ _ clean)))
            (subst (λ (k : Option Kind). Clean (field_notes n.site.token (found k))) (sym h.typed) (right _ _ clean));
        quieter = inl refl;
      }
  inside w names scope scoped stands (unary s o a) ready typed clean =
      let h = inside w names scope scoped AsValue a ready typed.1 (left _ _ clean) in
      record {
        typed = ap (λ (k : Option Kind). unary_kind o (met (operand_need o) k)) h.typed;
        clean = part w names AsValue (operand_need o) a (with_cast w.recast a) h (right _ _ clean);
        quieter = inl refl;
      }
  inside w names scope scoped stands (binary s o at a b) ready typed clean =
      let need : Need = operands_need (class_of o) in
      let P = IsTypedIn w.resolution (with_names w.file names) in
      let h = inside w names scope scoped AsValue a (front (IsReady w) (givings scope a) (givings scope b) ready) (front P (expressions a) (expressions b) typed.1) (left _ _ (left _ _ (left _ _ (left _ _ clean)))) in
      let k = inside w names scope scoped AsValue b (back (IsReady w) (givings scope a) (givings scope b) ready) (back P (expressions a) (expressions b) typed.1) (right _ _ (left _ _ (left _ _ clean))) in
      record {
        typed = ap₂ (λ (x y : Option Kind). binary_kind (class_of o) (met need x) (met need y)) h.typed k.typed;
        clean = joined _ _ (joined _ _ (joined _ _ (part w names AsValue need a (with_cast w.recast a) h (right _ _ (left _ _ (left _ _ (left _ _ clean))))) k.clean)
            (unmet_clean need b (with_cast w.recast b) _ _ k.quieter k.typed (right _ _ (left _ _ clean))))
            (binary_moved (class_of o) b (with_cast w.recast b) _ _
            (subst (λ (x : Option Kind). Clean (binary_notes (class_of o) b (met need x) (met need (type_of (with_names w.file names) (with_cast w.recast b))))) (sym h.typed)
            (subst (λ (y : Option Kind). Clean (binary_notes (class_of o) b (met need (type_of (with_names w.file names) a)) (met need y))) (sym k.typed) (right _ _ clean))));
        quieter = inl refl;
      }
  inside w names scope scoped stands _ ready typed clean = record { typed = refl; clean = clean; quieter = inl refl }

  inside_all : (w : Setting) (names scope : List Entry) → Scoped w.file.names names scope → (f : ℕ) (all : Arguments) (k : ℕ) (rest : Arguments) → AreReady w (all_givings scope f all k rest) → AreTypedIn w names (in_arguments rest)
      → (wanting : List Kind) → Clean (notes_of_all (with_names w.file names) wanting rest) → AreWell w names wanting rest
  inside_all w names scope scoped f all k no_arguments ready typed wanting clean = record { fine = refl; clean = clean }
  inside_all w names scope scoped f all k (argument a rest) ready typed wanting clean =
      let σ : Scope = with_names w.file names in
      let P = IsTypedIn w.resolution σ in
      let new : Expression = around w.recast (with_cast w.recast a) in
      let to : Receiver = of_parameter f all k in
      let here = front (IsReady w) (value_givings scope to a) (all_givings scope f all (suc k) rest) ready in
      let known = front P (expressions a) (in_arguments rest) typed in
      let h : IsWell w names AsValue a new =
      value_by w names scope scoped to a (back (IsReady w) (givings scope a) (one_giving scope to a) here).0 (typed_itself w.resolution σ a known)
      (inside w names scope scoped AsValue a (front (IsReady w) (givings scope a) (one_giving scope to a) here) known (left _ _ (left _ _ (left _ _ clean)))) (is_there w.recast (with_cast w.recast a)) refl in
      let more : AreWell w names (drop 1 wanting) rest =
      inside_all w names scope scoped f all (suc k) rest (back (IsReady w) (value_givings scope to a) (all_givings scope f all (suc k) rest) ready) (back P (expressions a) (in_arguments rest) typed) (drop 1 wanting) (right _ _ clean) in
      record {
        fine = fine_both σ wanting (type_of σ a) (type_of σ new) _ _ h.typed more.fine;
        clean = joined _ _ (joined _ _ (part w names AsValue Value a new h (right _ _ (left _ _ (left _ _ clean))))
            (unagreed_clean (first_wanted wanting) a new (met Value (type_of σ a)) (met Value (type_of σ new)) (ap (met Value) h.typed) (right _ _ (left _ _ clean))))
            more.clean;
      }

pub value_in : (w : Setting) (names scope : List Entry) → Scoped w.file.names names scope → (r : Receiver) (e : Expression) → AreReady w (value_givings scope r e) → AreTypedIn w names (expressions e)
    → Clean (notes_at AsValue (with_names w.file names) e) → IsWell w names AsValue e (around w.recast (with_cast w.recast e))
value_in w names scope scoped r e ready typed clean =
    value_by w names scope scoped r e (back (IsReady w) (givings scope e) (one_giving scope r e) ready).0 (typed_itself w.resolution (with_names w.file names) e typed)
    (inside w names scope scoped AsValue e (front (IsReady w) (givings scope e) (one_giving scope r e) ready) typed clean) (is_there w.recast (with_cast w.recast e)) refl
