-- An expression with a cast written in it, as C typing sees it: its type is what it was, and what is to be said of it is what was, and what is said of the type of the cast.
use Rattle.sharc_suggest_laws.proofs.{Imports.{◌≡◌, ⊎_elim, ℕ, ◌+◌, ◌==◌, Bool, true, false, not, ◌&&◌, ◌||◌, cond, List, [], ◌∷◌, ◌++◌, zero, suc, drop, Option, Some, None, is_some, refl, ap, ap₂, sym, subst, ◌∙◌, eqb-true, false≢true, and_parts, or_cases, bytes_eq-Decides, AllByRecursion, Base, Int, Char, Long, Mutex, Void, Struct, Span, WrittenType, Declaration, without_parentheses, is_lvalue, span_of, Expression, identifier, constant, parentheses, call, spawn, on_value, on_place, cast, index, field, unary, binary, Arguments, no_arguments, argument, TypeMismatch, NoLvalue, TypeNotAllowed, BadForm, Need, Value, Integer, Indexed, Scope, Kind, object, is_pointer, same_base, same_kind, declared_kind, Entry, StructTable, StructMeaning, look_up, struct_of, place, met, agreed, Note, fault, fault_unless, main_notes, field_in, field_kind, field_notes, is_known, allowed_there, struct_note, base_notes, type_notes, is_fine, first_wanted, Role, Recast, type_at, is_there, around, with_cast, all_with_cast, Standing, AsValue, AsLvalue, element_of, access_need, operand_need, unary_kind, class_of, operands_need, binary_kind, names_function, is_place, place_kind, place_notes, value_call_kind, place_call_kind, cast_kind, cast_notes, count, callee_notes, call_result, call_kind, spawn_notes, may_spawn, spawn_wanted, spawn_kind, can_spawn, type_of, are_fine, notes_at, notes_of_all, Resolution, with_names, Receiver, of_parameter, Giving, one_giving, givings, all_givings, value_givings, front, back}, Grown.span_same, Noted.{Clean, left, right, no_fault, well, Noted, done, kept, old_fault, new_fault, both, same, AreFaults, more_faults, IsTame, quiet, unless_faults, unmet_faults, unagreed_faults, place_faults, place_call_faults, cast_faults, count_faults, main_faults, binary_faults, append_tame, faults_tame, name_tame, field_tame, type_tame}, Scoped.Scoped}
use Rattle.sharc_names.specs.Names.{parameters_of}
use Rattle.sharc_ctype.specs.Expressions.{wanted}

-- what a program names, the cast, and the names of the file
pub record Setting : Type 0 where
  pub resolution : Resolution
  pub recast : Recast
  pub file : Scope

-- where it is written, what is said of the type of the cast does no harm
abbrev pub IsMild : Setting → Giving → Type 0
IsMild w g = is_there w.recast g.given ≡ true → (names : List Entry) → Scoped w.file.names names g.scope → (s : Span) → Clean (type_notes (with_names w.file names) [] Role.Cast (type_at w.recast s))
    → Noted w.resolution [] (type_notes (with_names w.file names) [] Role.Cast (type_at w.recast s))

abbrev pub AreMild : Setting → List Giving → Type 0
AreMild w gs = AllByRecursion (IsMild w) gs

-- ---- the type of a cast is that of its source

pub one_base : (a b : Base) → same_base a b ≡ true → a ≡ b
one_base Int Int h = refl
one_base Char Char h = refl
one_base Long Long h = refl
one_base Mutex Mutex h = refl
one_base Void Void h = refl
one_base (Struct a) (Struct b) h = ap Struct ((bytes_eq-Decides a b).0 h)
one_base _ _ h = absurd (false≢true h)

pub one_kind : (j k : Kind) → same_kind j k ≡ true → j ≡ k
one_kind (object a m) (object b n) h = let p = and_parts _ _ h in ap₂ object (one_base a b p.0) (eqb-true m n p.1)
one_kind _ _ h = absurd (false≢true h)

known_by : (token : ℕ) (o : Option StructMeaning) → Clean (struct_note token o) → is_some o ≡ true
known_by token None h = absurd (no_fault _ _ _ h)
known_by token (Some m) h = refl

pub base_known : (structs : StructTable) (token : ℕ) (b : Base) → Clean (base_notes structs token b) → is_known structs b ≡ true
base_known structs token (Struct name) h = known_by token (struct_of structs name) h
base_known structs token _ h = refl

pub cast_fine : (scope : Scope) (t : WrittenType) → Clean (type_notes scope [] Role.Cast t) → is_fine scope.structs Role.Cast t ≡ true
cast_fine scope t h =
    ap (λ b. b && allowed_there Role.Cast t) (base_known scope.structs t.base.token t.ctype.base (left _ _ (left _ _ h)))
    ∙ well (allowed_there Role.Cast t) t.span.first.token TypeNotAllowed (right _ _ (left _ _ h))

kept_by : (word at : ℕ) (t : WrittenType) (k : Kind) (b : Bool) → is_pointer k ≡ b → Clean (cond b (fault_unless (same_kind k (declared_kind t) || false) at TypeMismatch) (fault word BadForm ∷ []))
    → cond (is_pointer k && same_kind k (declared_kind t)) (Some (declared_kind t)) None ≡ Some k
kept_by word at t k true p h =
    let is : same_kind k (declared_kind t) ≡ true = ⊎_elim (λ e. e) (λ e. absurd (false≢true e)) (or_cases (same_kind k (declared_kind t)) false (well _ at TypeMismatch h)) in
    ap (λ b. cond (b && same_kind k (declared_kind t)) (Some (declared_kind t)) None) p ∙ ap (λ b. cond b (Some (declared_kind t)) None) is ∙ ap Some (sym (one_kind k (declared_kind t) is))
kept_by word at t k false p h = absurd (no_fault _ _ _ h)

cast_same_by : (word : ℕ) (t : WrittenType) (a : Expression) (k : Option Kind) → Clean (cast_notes word true t a k) → cast_kind true t k ≡ k
cast_same_by word t a None h = refl
cast_same_by word t a (Some k) h = kept_by word (place a) t k (is_pointer k) refl h

cast_typed : (scope : Scope) (s : Span) (t : WrittenType) (a : Expression) → Clean (notes_at AsValue scope (cast s t a)) → type_of scope (cast s t a) ≡ type_of scope a
cast_typed scope s t a h =
    let fine : is_fine scope.structs Role.Cast t ≡ true = cast_fine scope t (left _ _ (left _ _ (left _ _ h))) in
    let stands : is_place scope.names a ≡ true = well (is_place scope.names a) (place a) NoLvalue (right _ _ (left _ _ h)) in
    let kind : place_kind scope.names a (type_of scope a) ≡ type_of scope a = ap (λ b. cond b (type_of scope a) None) stands in
    let clean : Clean (cast_notes s.first.token true t a (type_of scope a)) =
    subst (λ k. Clean (cast_notes s.first.token true t a k)) kind (subst (λ b. Clean (cast_notes s.first.token b t a (place_kind scope.names a (type_of scope a)))) fine (right _ _ h)) in
    ap (λ b. cast_kind b t (place_kind scope.names a (type_of scope a))) fine ∙ ap (cast_kind true t) kind ∙ cast_same_by s.first.token t a (type_of scope a) clean

-- ---- an expression with the cast in it, and one that may be the source of the cast

pub record IsSame (w : Setting) (names : List Entry) (one two : Standing) (e : Expression) : Type 0 where
  pub typed : type_of (with_names w.file names) (with_cast w.recast e) ≡ type_of (with_names w.file names) e
  pub noted : Noted w.resolution (notes_at one (with_names w.file names) e) (notes_at two (with_names w.file names) (with_cast w.recast e))

pub record IsSameValue (w : Setting) (names : List Entry) (e new : Expression) : Type 0 where
  pub typed : type_of (with_names w.file names) new ≡ type_of (with_names w.file names) e
  pub noted : Noted w.resolution (notes_at AsValue (with_names w.file names) e) (notes_at AsValue (with_names w.file names) new)

value_by : (w : Setting) (names scope : List Entry) → Scoped w.file.names names scope → (r : Receiver) (e : Expression) → IsMild w (record { scope = scope; receiver = r; given = e })
    → ((two : Standing) → Clean (notes_at two (with_names w.file names) (with_cast w.recast e)) → IsSame w names AsValue two e)
    → (b : Bool) → is_there w.recast (with_cast w.recast e) ≡ b
    → Clean (notes_at AsValue (with_names w.file names) (cond b (cast (span_of (with_cast w.recast e)) (type_at w.recast (span_of (with_cast w.recast e))) (with_cast w.recast e)) (with_cast w.recast e)))
    → IsSameValue w names e (cond b (cast (span_of (with_cast w.recast e)) (type_at w.recast (span_of (with_cast w.recast e))) (with_cast w.recast e)) (with_cast w.recast e))
value_by w names scope scoped r e mild inner false not_so clean = let s = inner AsValue clean in record { typed = s.typed; noted = s.noted }
value_by w names scope scoped r e mild inner true is_so clean =
    let σ : Scope = with_names w.file names in
    let new : Expression = with_cast w.recast e in
    let t : WrittenType = type_at w.recast (span_of new) in
    let there : is_there w.recast e ≡ true = ap (λ (s : Span). s.first.token == w.recast.from && s.last.token == w.recast.until) (sym (span_same w.recast e)) ∙ is_so in
    let types : Clean (type_notes σ [] Role.Cast t) = left _ _ (left _ _ (left _ _ clean)) in
    let s : IsSame w names AsValue AsLvalue e = inner AsLvalue (right (type_notes σ [] Role.Cast t) _ (left _ _ (left _ _ clean))) in
    record {
      typed = cast_typed σ (span_of new) t new clean ∙ s.typed;
      noted =
          more_faults w.resolution (notes_at AsValue σ e) (type_notes σ [] Role.Cast t ++ notes_at AsLvalue σ new ++ place_notes σ.names new) _
          (more_faults w.resolution (notes_at AsValue σ e) (type_notes σ [] Role.Cast t ++ notes_at AsLvalue σ new) (place_notes σ.names new)
          (both w.resolution [] (type_notes σ [] Role.Cast t) (notes_at AsValue σ e) (notes_at AsLvalue σ new) (mild there names scoped (span_of new) types) s.noted)
          (place_faults σ.names new))
          (cast_faults (span_of new).first.token (is_fine σ.structs Role.Cast t) t new (place_kind σ.names new (type_of σ new)));
    }

-- ---- in each production

-- it has the form that it had
bare_same : (c : Recast) (names : List Entry) (e : Expression) → names_function names (without_parentheses (with_cast c e)) ≡ names_function names (without_parentheses e)
bare_same c names (parentheses s a) = bare_same c names a
bare_same c names _ = refl

lvalue_same : (c : Recast) (e : Expression) → is_lvalue (with_cast c e) ≡ is_lvalue e
lvalue_same c (parentheses s a) = lvalue_same c a
lvalue_same c _ = refl

pub place_same : (c : Recast) (names : List Entry) (e : Expression) → is_place names (with_cast c e) ≡ is_place names e
place_same c names e = ap₂ (λ (b f : Bool). b && not f) (lvalue_same c e) (bare_same c names e)

pub count_same : (c : Recast) (all : Arguments) → count (all_with_cast c all) ≡ count all
count_same c no_arguments = refl
count_same c (argument a rest) = ap (λ (n : ℕ). n + 1) (count_same c rest)

callee_noted : (r : Resolution) (one two : Standing) (token n k : ℕ) (entry : Option Entry) → Noted r (callee_notes one token n entry) (callee_notes two token k entry)
callee_noted r one two token n k None = old_fault (new_fault done)
callee_noted r one two token n k (Some e) =
    kept tt (both r (main_notes token e.meaning) (main_notes token e.meaning) _ _ (quiet r _ _ (main_faults token e.meaning) (main_faults token e.meaning))
    (quiet r _ _ (count_faults one token n (parameters_of e.meaning)) (count_faults two token k (parameters_of e.meaning))))

spawned_tame : (word token : ℕ) (entry : Option Entry) → AllByRecursion IsTame (spawn_notes word token entry)
spawned_tame word token None = (tt, tt)
spawned_tame word token (Some e) =
    (tt, append_tame (main_notes token e.meaning) _ (faults_tame _ (main_faults token e.meaning)) (faults_tame _ (unless_faults (can_spawn e.meaning) word BadForm)))

-- a part, and faults of it
pub with_faults : (r : Resolution) (a b c d : List Note) → Noted r a b → AreFaults c → AreFaults d → Noted r (a ++ c) (b ++ d)
with_faults r a b c d h f g = both r a b c d h (quiet r c d f g)

-- whether all arguments fit, and what is said of them
record AreSame (w : Setting) (names : List Entry) (all : Arguments) : Type 0 where
  fine : (kinds : List Kind) → are_fine (with_names w.file names) kinds (all_with_cast w.recast all) ≡ are_fine (with_names w.file names) kinds all
  noted : (old new : List Kind) → Noted w.resolution (notes_of_all (with_names w.file names) old all) (notes_of_all (with_names w.file names) new (all_with_cast w.recast all))

pub fine_both : (scope : Scope) (kinds : List Kind) (a new : Option Kind) (rest more : Bool) → new ≡ a → more ≡ rest
    → ((is_some (met Value new) && agreed (first_wanted kinds) (met Value new)) && more) ≡ ((is_some (met Value a) && agreed (first_wanted kinds) (met Value a)) && rest)
fine_both scope kinds a new rest more same also = ap₂ (λ (k : Option Kind) (b : Bool). (is_some (met Value k) && agreed (first_wanted kinds) (met Value k)) && b) same also

mutual
  pub inside : (w : Setting) (names scope : List Entry) → Scoped w.file.names names scope → (one two : Standing) (e : Expression) → AreMild w (givings scope e) → Clean (notes_at two (with_names w.file names) (with_cast w.recast e)) → IsSame w names one two e
  inside w names scope scoped one two (identifier s i) mild clean = record { typed = refl; noted = same w.resolution _ (name_tame i.site.token (look_up names i.text)) }
  inside w names scope scoped one two (constant s k) mild clean = record { typed = refl; noted = done }
  inside w names scope scoped one two (parentheses s a) mild clean =
      let h = inside w names scope scoped one two a mild clean in
      record { typed = h.typed; noted = h.noted }
  inside w names scope scoped one two (call s f all) mild clean =
      let entry : Option Entry = look_up names f.text in
      let σ : Scope = with_names w.file names in
      let h : AreSame w names all = inside_all w names scope scoped f.site.token all zero all mild (wanted (count (all_with_cast w.recast all)) entry) (right _ _ clean) in
      record {
        typed = ap₂ (λ (n : ℕ) (b : Bool). call_kind (call_result n entry) b) (count_same w.recast all)
            (h.fine (wanted (count (all_with_cast w.recast all)) entry) ∙ ap (λ (n : ℕ). are_fine σ (wanted n entry) all) (count_same w.recast all));
        noted = both w.resolution (callee_notes one f.site.token (count all) entry) (callee_notes two f.site.token (count (all_with_cast w.recast all)) entry) _ _
            (callee_noted w.resolution one two f.site.token (count all) (count (all_with_cast w.recast all)) entry) (h.noted (wanted (count all) entry) (wanted (count (all_with_cast w.recast all)) entry));
      }
  inside w names scope scoped one two (spawn s f a) mild clean =
      let entry : Option Entry = look_up names f.text in
      let σ : Scope = with_names w.file names in
      let h : IsSameValue w names a (around w.recast (with_cast w.recast a)) =
      value_by w names scope scoped (of_parameter f.site.token (argument a no_arguments) zero) a (back (IsMild w) (givings scope a) (one_giving scope (of_parameter f.site.token (argument a no_arguments) zero) a) mild).0
      (λ two. inside w names scope scoped AsValue two a (front (IsMild w) (givings scope a) (one_giving scope (of_parameter f.site.token (argument a no_arguments) zero) a) mild))
      (is_there w.recast (with_cast w.recast a)) refl (left _ _ (left _ _ (left _ _ clean))) in
      record {
        typed = ap (λ (k : Option Kind). spawn_kind (may_spawn entry) (agreed (spawn_wanted entry) (met Value k)) (met Value k)) h.typed;
        noted =
            with_faults w.resolution _ _ _ _
            (both w.resolution _ _ (spawn_notes s.first.token f.site.token entry) (spawn_notes s.first.token f.site.token entry)
            (with_faults w.resolution _ _ _ _ h.noted (unmet_faults Value a (type_of σ a)) (unmet_faults Value (around w.recast (with_cast w.recast a)) (type_of σ (around w.recast (with_cast w.recast a)))))
            (same w.resolution _ (spawned_tame s.first.token f.site.token entry)))
            (unagreed_faults (spawn_wanted entry) a (met Value (type_of σ a))) (unagreed_faults (spawn_wanted entry) (around w.recast (with_cast w.recast a)) (met Value (type_of σ (around w.recast (with_cast w.recast a)))));
      }
  inside w names scope scoped one two (on_value s o a) mild clean =
      let h = inside w names scope scoped AsValue AsValue a mild (left _ _ clean) in
      record {
        typed = ap (λ (k : Option Kind). value_call_kind (met Integer k)) h.typed;
        noted = with_faults w.resolution _ _ _ _ h.noted (unmet_faults Integer a (type_of (with_names w.file names) a)) (unmet_faults Integer (with_cast w.recast a) (type_of (with_names w.file names) (with_cast w.recast a)));
      }
  inside w names scope scoped one two (on_place s o a) mild clean =
      let h = inside w names scope scoped AsLvalue AsLvalue a mild (left _ _ (left _ _ clean)) in
      let there : is_place names (with_cast w.recast a) ≡ is_place names a = place_same w.recast names a in
      record {
        typed = ap₂ (λ (b : Bool) (k : Option Kind). place_call_kind o (cond b k None)) there h.typed;
        noted =
            with_faults w.resolution _ _ _ _ (with_faults w.resolution _ _ _ _ h.noted (place_faults names a) (place_faults names (with_cast w.recast a)))
            (place_call_faults s.first.token o (place_kind names a (type_of (with_names w.file names) a))) (place_call_faults s.first.token o (place_kind names (with_cast w.recast a) (type_of (with_names w.file names) (with_cast w.recast a))));
      }
  inside w names scope scoped one two (cast s t a) mild clean =
      let σ : Scope = with_names w.file names in
      let h = inside w names scope scoped AsLvalue AsLvalue a mild (right (type_notes σ [] Role.Cast t) _ (left _ _ (left _ _ clean))) in
      let there : is_place names (with_cast w.recast a) ≡ is_place names a = place_same w.recast names a in
      record {
        typed = ap₂ (λ (b : Bool) (k : Option Kind). cast_kind (is_fine w.file.structs Role.Cast t) t (cond b k None)) there h.typed;
        noted =
            with_faults w.resolution _ _ _ _
            (with_faults w.resolution _ _ _ _ (both w.resolution (type_notes σ [] Role.Cast t) (type_notes σ [] Role.Cast t) _ _ (same w.resolution _ (type_tame σ [] Role.Cast t)) h.noted)
            (place_faults names a) (place_faults names (with_cast w.recast a)))
            (cast_faults s.first.token (is_fine w.file.structs Role.Cast t) t a (place_kind names a (type_of σ a))) (cast_faults s.first.token (is_fine w.file.structs Role.Cast t) t (with_cast w.recast a) (place_kind names (with_cast w.recast a) (type_of σ (with_cast w.recast a))));
      }
  inside w names scope scoped one two (index s a i) mild clean =
      let h = inside w names scope scoped AsValue AsValue a (front (IsMild w) (givings scope a) (givings scope i) mild) (left _ _ (left _ _ (left _ _ clean))) in
      let k = inside w names scope scoped AsValue AsValue i (back (IsMild w) (givings scope a) (givings scope i) mild) (right _ _ (left _ _ clean)) in
      record {
        typed = ap₂ (λ (x y : Option Kind). element_of (met Indexed x) (met Integer y)) h.typed k.typed;
        noted =
            with_faults w.resolution _ _ _ _
            (both w.resolution _ _ _ _ (with_faults w.resolution _ _ _ _ h.noted (unmet_faults Indexed a (type_of (with_names w.file names) a)) (unmet_faults Indexed (with_cast w.recast a) (type_of (with_names w.file names) (with_cast w.recast a)))) k.noted)
            (unmet_faults Integer i (type_of (with_names w.file names) i)) (unmet_faults Integer (with_cast w.recast i) (type_of (with_names w.file names) (with_cast w.recast i)));
      }
  inside w names scope scoped one two (field s a o n) mild clean =
      let σ : Scope = with_names w.file names in
      let h = inside w names scope scoped AsValue AsValue a mild (left _ _ (left _ _ clean)) in
      let found : Option Kind → Option (Option Declaration) = λ (k : Option Kind). field_in w.file.structs n.text (met (access_need o) k) in
      record {
        typed = ap (λ (k : Option Kind). field_kind (found k)) h.typed;
        noted =
            both w.resolution _ _ _ _ (with_faults w.resolution _ _ _ _ h.noted (unmet_faults (access_need o) a (type_of σ a)) (unmet_faults (access_need o) (with_cast w.recast a) (type_of σ (with_cast w.recast a))))
            (subst (λ (k : Option Kind). Noted w.resolution (field_notes n.site.token (found (type_of σ a))) (field_notes n.site.token (found k))) (sym h.typed) (same w.resolution _ (field_tame n.site.token (found (type_of σ a)))));
      }
  inside w names scope scoped one two (unary s o a) mild clean =
      let h = inside w names scope scoped AsValue AsValue a mild (left _ _ clean) in
      record {
        typed = ap (λ (k : Option Kind). unary_kind o (met (operand_need o) k)) h.typed;
        noted = with_faults w.resolution _ _ _ _ h.noted (unmet_faults (operand_need o) a (type_of (with_names w.file names) a)) (unmet_faults (operand_need o) (with_cast w.recast a) (type_of (with_names w.file names) (with_cast w.recast a)));
      }
  inside w names scope scoped one two (binary s o at a b) mild clean =
      let need : Need = operands_need (class_of o) in
      let σ : Scope = with_names w.file names in
      let h = inside w names scope scoped AsValue AsValue a (front (IsMild w) (givings scope a) (givings scope b) mild) (left _ _ (left _ _ (left _ _ (left _ _ clean)))) in
      let k = inside w names scope scoped AsValue AsValue b (back (IsMild w) (givings scope a) (givings scope b) mild) (right _ _ (left _ _ (left _ _ clean))) in
      record {
        typed = ap₂ (λ (x y : Option Kind). binary_kind (class_of o) (met need x) (met need y)) h.typed k.typed;
        noted =
            with_faults w.resolution _ _ _ _
            (with_faults w.resolution _ _ _ _
            (both w.resolution _ _ _ _ (with_faults w.resolution _ _ _ _ h.noted (unmet_faults need a (type_of σ a)) (unmet_faults need (with_cast w.recast a) (type_of σ (with_cast w.recast a)))) k.noted)
            (unmet_faults need b (type_of σ b)) (unmet_faults need (with_cast w.recast b) (type_of σ (with_cast w.recast b))))
            (binary_faults (class_of o) b (met need (type_of σ a)) (met need (type_of σ b))) (binary_faults (class_of o) (with_cast w.recast b) (met need (type_of σ (with_cast w.recast a))) (met need (type_of σ (with_cast w.recast b))));
      }

  inside_all : (w : Setting) (names scope : List Entry) → Scoped w.file.names names scope → (f : ℕ) (all : Arguments) (k : ℕ) (rest : Arguments) → AreMild w (all_givings scope f all k rest)
      → (new : List Kind) → Clean (notes_of_all (with_names w.file names) new (all_with_cast w.recast rest)) → AreSame w names rest
  inside_all w names scope scoped f all k no_arguments mild new clean = record { fine = λ kinds. refl; noted = λ old new. done }
  inside_all w names scope scoped f all k (argument a rest) mild new clean =
      let σ : Scope = with_names w.file names in
      let new_a : Expression = around w.recast (with_cast w.recast a) in
      let h : IsSameValue w names a (around w.recast (with_cast w.recast a)) =
      value_by w names scope scoped (of_parameter f all k) a
      (back (IsMild w) (givings scope a) (one_giving scope (of_parameter f all k) a) (front (IsMild w) (value_givings scope (of_parameter f all k) a) (all_givings scope f all (suc k) rest) mild)).0
      (λ two. inside w names scope scoped AsValue two a (front (IsMild w) (givings scope a) (one_giving scope (of_parameter f all k) a) (front (IsMild w) (value_givings scope (of_parameter f all k) a) (all_givings scope f all (suc k) rest) mild)))
      (is_there w.recast (with_cast w.recast a)) refl (left _ _ (left _ _ (left _ _ clean))) in
      let more : AreSame w names rest =
      inside_all w names scope scoped f all (suc k) rest (back (IsMild w) (value_givings scope (of_parameter f all k) a) (all_givings scope f all (suc k) rest) mild) (drop 1 new) (right _ _ clean) in
      record {
        fine = λ kinds. fine_both (with_names w.file names) kinds (type_of (with_names w.file names) a) (type_of (with_names w.file names) (around w.recast (with_cast w.recast a))) _ _ h.typed (more.fine (drop 1 kinds));
        noted = λ old later.
            both w.resolution _ _ _ _
            (with_faults w.resolution _ _ _ _ (with_faults w.resolution _ _ _ _ h.noted (unmet_faults Value a (type_of σ a)) (unmet_faults Value new_a (type_of σ new_a)))
            (unagreed_faults (first_wanted old) a (met Value (type_of σ a))) (unagreed_faults (first_wanted later) new_a (met Value (type_of σ new_a))))
            (more.noted (drop 1 old) (drop 1 later));
      }

pub value_in : (w : Setting) (names scope : List Entry) → Scoped w.file.names names scope → (r : Receiver) (e : Expression) → AreMild w (value_givings scope r e)
    → Clean (notes_at AsValue (with_names w.file names) (around w.recast (with_cast w.recast e))) → IsSameValue w names e (around w.recast (with_cast w.recast e))
value_in w names scope scoped r e mild clean =
    value_by w names scope scoped r e (back (IsMild w) (givings scope e) (one_giving scope r e) mild).0
    (λ two. inside w names scope scoped AsValue two e (front (IsMild w) (givings scope e) (one_giving scope r e) mild))
    (is_there w.recast (with_cast w.recast e)) refl clean
