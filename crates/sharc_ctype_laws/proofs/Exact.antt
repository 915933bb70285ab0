-- Notes refer to a token at most as often as the tree has a name there, and exactly as often where no fault is noted.
use Rattle.sharc_ctype_laws.proofs.{Imports.{◌≡◌, ℕ, ◌+◌, ◌≤◌, Bool, true, false, List, [], ◌∷◌, ◌++◌, length, drop, refl, ap, ◌∙◌, arith, Option, Some, None, IfSome, is_some, nat_lt, codes, Base, Mode, Path, One, Through, WrittenType, Declaration, is_unary, LowType, LowTypes, AllLowTypes, LowExpression, LowRight, LowSimple, LowLocal, LowFirst, LowHead, LowStatement, LowStatements, LowDeclarations, LowItem, LowItems, Mark, a_name, name_marks, path_marks, level_marks, base_marks, type_marks, declarations_marks, marks, arguments_marks, option_marks, right_marks, simple_marks, local_marks, first_marks, head_marks, statement_marks, statements_marks, item_marks, items_marks, Expression, Arguments, no_arguments, argument, Right, value, malloc, Simple, assign, does_call, Local, First, nothing, declares, does, Head, Statement, Statements, no_statements, statement, Item, FaultCode, BadForm, LimitPassed, NoMain, Scope, Role, Kind, void, same_kind, declared_kind, StructTable, StructMeaning, Entry, look_up, struct_of, field_of, parameters_of, place, met, Note, fault, fault_unless, name_notes, field_in, field_notes, first_kind, second_in, second_notes, path_notes, mode_notes, modes_notes, struct_note, base_notes, type_notes, is_fine, first_wanted, Need, Heads, item_head_notes, heads_notes, behind as heads_behind, no_heads, Standing, AsValue, AsLvalue, type_of, notes_at, notes_of_all, access_need, operand_need, place_kind, count, callee_notes, wanted, spawn_notes, spawn_wanted, class_of, operands_need, sizes_notes, in_body, fields_notes, parameters_notes, item_notes, items_notes, file_scope, has_main, program_notes, Around, is_here, is_aggregate, returned_as, locals_in_all, opened, looping, with_names, declared, declared_notes, test_notes, count_notes, right_notes, simple_notes, local_notes, initial_notes, return_notes, first_notes as first_part_notes, behind_first, tests_notes, step_notes, in_head, head_notes, after, notes_in, notes_in_all, cond, sym, subst, AllByRecursion, is_struct_behind, kind_of, is_main, name_kind, Resolution, declarations_of, declarations_in, locals_in, first_locals, front, back}, Counts.{one, told, written, told-append, written-append, told_one, told_second, told_none, written_one, written_cast, written_none, quiet_fault, quiet_unless, quiet_where, quiet_unmet, quiet_unagreed, quiet_both}, FileScene.{fields_are, body_scene}, Held.{Held, left, right, no_fault, not_wrong, behind_head, second_held}, Judged.{solid_meaning, member_of, struct_behind_is, judged, field_member}, Quiet.{quiet_main, quiet_place, quiet_place_call, quiet_cast, quiet_binary, quiet_count, all_levels, type_written, quiet_twice, quiet_beyond, quiet_constant, quiet_length, other_marks, item_written, quiet_sizes, one_is, head_told}, Scenes.{IsSolid, IsField, IsScene, found_name, found_field, type_solid}, Walked.{AreDeclared, scene_with, declared_meant, local_scene, head_scene, after_scene}}
use Rattle.sharc_tree.specs.Tree as tree
use Rattle.sharc_names.specs.Types.{first_notes}

-- what the first name of a lock path is
pub record IsFirstKind (structs : StructTable) (o : Option Kind) : Type 0 where
  pub kind : Kind
  pub is : o ≡ Some kind
  pub solid : IsSolid structs kind

entry_kind : (r : Resolution) (scope : Scope) → IsScene r scope → (token : ℕ) (name : List ℕ) (o : Option Entry) → look_up scope.names name ≡ o → Held r (name_notes token o) → IsFirstKind scope.structs (name_kind o)
entry_kind r scope scene token name None is h = absurd (no_fault _ _ _ _ h)
entry_kind r scope scene token name (Some e) is h = record {
  kind = kind_of e.meaning;
  is = ap (λ b. cond b None (Some (kind_of e.meaning))) (not_wrong _ (is_main e.meaning) token BadForm (behind_head _ _ _ _ h));
  solid = solid_meaning r scope.structs name e.meaning (found_name r scope.structs scope.names name e scene.names is);
}

pub path_kind : (r : Resolution) (scope : Scope) → IsScene r scope → (siblings : List Declaration) → AllByRecursion (IsField r scope.structs) siblings → (token : ℕ) (name : List ℕ) (o : Option Declaration) → field_of siblings name ≡ o
    → Held r (first_notes token o (look_up scope.names name)) → IsFirstKind scope.structs (first_kind o (look_up scope.names name))
path_kind r scope scene siblings all token name None is h = entry_kind r scope scene token name (look_up scope.names name) refl h
path_kind r scope scene siblings all token name (Some d) is h = record { kind = declared_kind d.written; is = refl; solid = (found_field r scope.structs siblings name d all is).1 }

second_by : (t : ℕ) (r : Resolution) (scope : Scope) → IsScene r scope → (token : ℕ) (name : List ℕ) (k : Kind) (b : Bool) → is_struct_behind 1 k ≡ b → IsSolid scope.structs k → Held r (second_notes token (cond b (field_in scope.structs name (Some k)) (Some None)))
    → told t (second_notes token (cond b (field_in scope.structs name (Some k)) (Some None))) ≡ one t token
second_by t r scope scene token name k false is s h = absurd (no_fault _ _ _ _ h)
second_by t r scope scene token name k true is s h =
    let b = struct_behind_is 1 k is in
    let m = subst (IsSolid scope.structs) b.1 s in
    let f = member_of r scope.structs token name b.0 1 m.0 scene.structs m.1 (subst (λ z. Held r (field_notes token (field_in scope.structs name (Some z)))) b.1 (second_held _ token (field_in scope.structs name (Some k)) h)) in
    ap (λ z. told t (second_notes token z)) (ap (λ z. field_in scope.structs name (Some z)) b.1 ∙ f.found) ∙ told_second t token _

second_is : (t : ℕ) (r : Resolution) (scope : Scope) → IsScene r scope → (token : ℕ) (name : List ℕ) (o : Option Kind) → IsFirstKind scope.structs o → Held r (second_notes token (second_in scope.structs name o))
    → told t (second_notes token (second_in scope.structs name o)) ≡ one t token
second_is t r scope scene token name o k h =
    ap (λ z. told t (second_notes token (second_in scope.structs name z))) k.is
    ∙ second_by t r scope scene token name k.kind (is_struct_behind 1 k.kind) refl k.solid (subst (λ z. Held r (second_notes token (second_in scope.structs name z))) k.is h)

module _ (t : ℕ) (r : Resolution) where
  -- of these notes and marks; exactly as often only where K stands
  record Tells (K : Type 0) (notes : List Note) (list : List Mark) : Type 0 where
    most : told t notes ≤ written t list
    same : K → Held r notes → told t notes ≡ written t list

  -- where the notes are held, what they say serves within
  known : {K : Type 0} {notes : List Note} {list : List Mark} → Tells (K × Held r notes) notes list → Tells K notes list
  known w = record { most = w.most; same = λ k h. w.same (k, h) h }

  silent : {K : Type 0} {notes : List Note} → told t notes ≡ 0 → Tells K notes []
  silent h = let e = written_none t in record { most = omega (arith, h); same = λ k held. omega (arith, h, e) }

  faulty : {K : Type 0} {place : ℕ} {code : FaultCode} {list : List Mark} → Tells K (fault place code ∷ []) list
  faulty {place = place} {code = code} = let e = quiet_fault t place code in record { most = omega (arith, e); same = λ k h. absurd (no_fault _ place code [] h) }

  as_written : {K : Type 0} {notes : List Note} {x y : List Mark} → written t x ≡ written t y → Tells K notes x → Tells K notes y
  as_written e w = record { most = omega (arith, e, w.most); same = λ k h. w.same k h ∙ e }

  two : {K : Type 0} {a b : List Note} {x y : List Mark} → Tells K a x → Tells K b y → Tells K (a ++ b) (x ++ y)
  two {a = a} {b = b} {x = x} {y = y} v w =
      let e = told-append t a b in
      let f = written-append t x y in
      record { most = omega (arith, e, f, v.most, w.most); same = λ k h. let p = v.same k (left _ a b h) in let q = w.same k (right _ a b h) in omega (arith, e, f, p, q) }

  crossed : {K : Type 0} {a b : List Note} {x y : List Mark} → Tells K a y → Tells K b x → Tells K (a ++ b) (x ++ y)
  crossed {a = a} {b = b} {x = x} {y = y} v w =
      let e = told-append t a b in
      let f = written-append t x y in
      record { most = omega (arith, e, f, v.most, w.most); same = λ k h. let p = v.same k (left _ a b h) in let q = w.same k (right _ a b h) in omega (arith, e, f, p, q) }

  -- before, and behind, notes that refer to nothing
  quiet : {K : Type 0} {a : List Note} {x : List Mark} (b : List Note) → Tells K a x → told t b ≡ 0 → Tells K (a ++ b) x
  quiet {a = a} b w none =
      let e = told-append t a b in
      record { most = omega (arith, e, none, w.most); same = λ k h. let p = w.same k (left _ a b h) in omega (arith, e, none, p) }

  later : {K : Type 0} {b : List Note} {x : List Mark} (a : List Note) → told t a ≡ 0 → Tells K b x → Tells K (a ++ b) x
  later {b = b} a none w =
      let e = told-append t a b in
      record { most = omega (arith, e, none, w.most); same = λ k h. let p = w.same k (right _ a b h) in omega (arith, e, none, p) }

  -- ---- names
  exactly : {K : Type 0} {notes : List Note} (n : ℕ) (text : List ℕ) → told t notes ≡ one t n → Tells K notes (a_name n text ∷ [])
  exactly n text h = let e = written_one t n text in record { most = omega (arith, e, h); same = λ k held. omega (arith, e, h) }

  named : {K : Type 0} (text : List ℕ) (token : ℕ) (o : Option Entry) → Tells K (name_notes token o) (a_name token text ∷ [])
  named text token None = faulty
  named text token (Some e) = exactly token text (one_is t token _ _ (quiet_main t token e.meaning))

  callee : {K : Type 0} (stands : Standing) (text : List ℕ) (token n : ℕ) (o : Option Entry) → Tells K (callee_notes stands token n o) (a_name token text ∷ [])
  callee stands text token n None = faulty
  callee stands text token n (Some e) = exactly token text (one_is t token _ _ (quiet_both t _ _ (quiet_main t token e.meaning) (quiet_count stands t token n (parameters_of e.meaning))))

  spawned : {K : Type 0} (text : List ℕ) (word token : ℕ) (o : Option Entry) → Tells K (spawn_notes word token o) (a_name token text ∷ [])
  spawned text word token None = faulty
  spawned text word token (Some e) = exactly token text (one_is t token _ _ (quiet_both t _ _ (quiet_main t token e.meaning) (quiet_unless t _ _ _)))

  -- a field, which stands where the notes before are held
  member : {K : Type 0} (text : List ℕ) (token : ℕ) (o : Option (Option Declaration)) → (K → (d : Declaration) × (o ≡ Some (Some d))) → Tells K (field_notes token o) (a_name token text ∷ [])
  member text token None is = let e = told_none t in record { most = omega (arith, e); same = λ k h. let w = is k in absurd (cc) }
  member text token (Some None) is = faulty
  member text token (Some (Some d)) is = exactly token text (told_one t token _)

  second : {K : Type 0} (scope : Scope) → (K → IsScene r scope) → (token : ℕ) (name : List ℕ) (o : Option Kind) → (K → IsFirstKind scope.structs o) → Tells K (second_notes token (second_in scope.structs name o)) (a_name token name ∷ [])
  second scope scene token name o kind =
      let e = written_one t token name in
      record { most = let m = by (second_in scope.structs name o) in omega (arith, e, m); same = λ k h. second_is t r scope (scene k) token name o (kind k) h ∙ sym e }
    where
      by : (o : Option (Option Declaration)) → told t (second_notes token o) ≤ one t token
      by None = let e = told_none t in omega (arith, e)
      by (Some None) = let e : told t (second_notes token (Some None)) ≡ 0 = quiet_fault t _ _ in omega (arith, e)
      by (Some (Some d)) = let e : told t (second_notes token (Some (Some d))) ≡ one t token = told_second t token _ in omega (arith, e)

  -- ---- written types
  struct_told : {K : Type 0} (text : List ℕ) (token : ℕ) (o : Option StructMeaning) → Tells K (struct_note token o) (a_name token text ∷ [])
  struct_told text token None = faulty
  struct_told text token (Some m) = exactly token text (told_one t token _)

  base_told : {K : Type 0} (structs : StructTable) (token : ℕ) (b : Base) → Tells K (base_notes structs token b) (base_marks b token)
  base_told structs token (Base.Struct name) = struct_told name token (struct_of structs name)
  base_told structs token _ = silent (told_none t)

  first_told : {K : Type 0} (text : List ℕ) (token : ℕ) (sibling : Option Declaration) (o : Option Entry) → Tells K (first_notes token sibling o) (a_name token text ∷ [])
  first_told text token (Some d) o = exactly token text (told_one t token _)
  first_told text token None o = named text token o

  path_told : {K : Type 0} (scope : Scope) → (K → IsScene r scope) → (siblings : List Declaration) → (K → AllByRecursion (IsField r scope.structs) siblings) → (p : Path) → Tells K (path_notes scope siblings p) (path_marks p)
  path_told scope scene siblings all (One m token) = first_told m token (field_of siblings m) (look_up scope.names m)
  path_told scope scene siblings all (Through x token m) =
      known (two (first_told x token (field_of siblings x) (look_up scope.names x))
      (second scope (λ k. scene k.0) (token + 2) m (first_kind (field_of siblings x) (look_up scope.names x)) (λ k. path_kind r scope (scene k.0) siblings (all k.0) token x (field_of siblings x) refl (left _ _ _ k.1))))

  mode_told : {K : Type 0} (scope : Scope) → (K → IsScene r scope) → (siblings : List Declaration) → (K → AllByRecursion (IsField r scope.structs) siblings) → (m : Option Mode) → Tells K (mode_notes scope siblings m) (level_marks m)
  mode_told scope scene siblings all (Some (Mode.Locked path)) = path_told scope scene siblings all path
  mode_told scope scene siblings all _ = silent (told_none t)

  levels_told : {K : Type 0} (scope : Scope) → (K → IsScene r scope) → (siblings : List Declaration) → (K → AllByRecursion (IsField r scope.structs) siblings) → (levels : List (Option Mode))
      → Tells K (modes_notes scope siblings levels) (all_levels levels)
  levels_told scope scene siblings all [] = silent (told_none t)
  levels_told scope scene siblings all (m ∷ below) = two (mode_told scope scene siblings all m) (levels_told scope scene siblings all below)

  type_told : {K : Type 0} (scope : Scope) → (K → IsScene r scope) → (siblings : List Declaration) → (K → AllByRecursion (IsField r scope.structs) siblings) → (where_ : Role) (w : WrittenType) → LowType w
      → Tells K (type_notes scope siblings where_ w) (type_marks w)
  type_told scope scene siblings all where_ w low =
      as_written (written-append t (base_marks w.ctype.base w.base.token) (all_levels w.ctype.levels) ∙ sym (type_written t w low))
      (two (quiet _ (base_told scope.structs w.base.token w.ctype.base) (quiet_unless t _ _ _)) (levels_told scope scene siblings all w.ctype.levels))

  -- ---- expressions
  mutual
    told_in : {K : Type 0} (stands : Standing) (scope : Scope) → (K → IsScene r scope) → (e : Expression) → LowTypes e → Tells K (notes_at stands scope e) (marks e)
    told_in stands scope scene (tree.identifier s i) l = named i.text i.site.token (look_up scope.names i.text)
    told_in stands scope scene (tree.constant s c) l = silent (told_none t)
    told_in stands scope scene (tree.parentheses s a) l = told_in stands scope scene a l
    told_in stands scope scene (tree.call s f all) l =
        two (callee stands f.text f.site.token (count all) (look_up scope.names f.text)) (told_in_all scope scene (wanted (count all) (look_up scope.names f.text)) all l)
    told_in stands scope scene (tree.spawn s f a) l =
        quiet _ (crossed (quiet _ (told_in AsValue scope scene a l) (quiet_unmet t Need.Value a (type_of scope a))) (spawned f.text s.first.token f.site.token (look_up scope.names f.text)))
        (quiet_unagreed t (spawn_wanted (look_up scope.names f.text)) a (met Need.Value (type_of scope a)))
    told_in stands scope scene (tree.on_value s w a) l = quiet _ (told_in AsValue scope scene a l) (quiet_unmet t Need.Integer a (type_of scope a))
    told_in stands scope scene (tree.on_place s w a) l =
        quiet _ (quiet _ (told_in AsLvalue scope scene a l.1) (quiet_place t scope.names a)) (quiet_place_call t s.first.token w (place_kind scope.names a (type_of scope a)))
    told_in stands scope scene (tree.cast s w a) l =
        as_written (sym (written_cast t s.first.token (type_marks w ++ marks a)))
        (quiet _ (quiet _ (two (type_told scope scene [] (λ k. tt) Role.Cast w l.0) (told_in AsLvalue scope scene a l.2)) (quiet_place t scope.names a))
        (quiet_cast t s.first.token (is_fine scope.structs Role.Cast w) w a (place_kind scope.names a (type_of scope a))))
    told_in stands scope scene (tree.index s a i) l =
        quiet _ (two (quiet _ (told_in AsValue scope scene a l.0) (quiet_unmet t Need.Indexed a (type_of scope a))) (told_in AsValue scope scene i l.1)) (quiet_unmet t Need.Integer i (type_of scope i))
    told_in stands scope scene (tree.field s a w n) l =
        known (two (quiet _ (told_in AsValue scope (λ k. scene k.0) a l) (quiet_unmet t (access_need w) a (type_of scope a)))
        (member n.text n.site.token (field_in scope.structs n.text (met (access_need w) (type_of scope a)))
        (λ k. let f = field_member r scope (scene k.0) s a w n (judged r scope (scene k.0) a (left _ _ _ (left _ _ _ k.1))) k.1 in (f.found.member, f.found.found))))
    told_in stands scope scene (tree.unary s o a) l = quiet _ (told_in AsValue scope scene a l) (quiet_unmet t (operand_need o) a (type_of scope a))
    told_in stands scope scene (tree.binary s o at a b) l =
        quiet _
        (quiet _ (two (quiet _ (told_in AsValue scope scene a l.0) (quiet_unmet t (operands_need (class_of o)) a (type_of scope a))) (told_in AsValue scope scene b l.1))
        (quiet_unmet t (operands_need (class_of o)) b (type_of scope b)))
        (quiet_binary t (class_of o) b (met (operands_need (class_of o)) (type_of scope a)) (met (operands_need (class_of o)) (type_of scope b)))

    told_in_all : {K : Type 0} (scope : Scope) → (K → IsScene r scope) → (want : List Kind) (all : Arguments) → AllLowTypes all → Tells K (notes_of_all scope want all) (arguments_marks all)
    told_in_all scope scene want no_arguments l = silent (told_none t)
    told_in_all scope scene want (argument a rest) l =
        two (quiet _ (quiet _ (told_in AsValue scope scene a l.0) (quiet_unmet t Need.Value a (type_of scope a))) (quiet_unagreed t (first_wanted want) a (met Need.Value (type_of scope a))))
        (told_in_all scope scene (drop 1 want) rest l.1)

  -- ---- statements
  count_told : {K : Type 0} (scope : Scope) → (K → IsScene r scope) → (n : Option Expression) → IfSome n (λ e. (is_unary e ≡ true) × LowExpression e) → Tells K (count_notes scope n) (option_marks marks n)
  count_told scope scene None l = silent (told_none t)
  count_told scope scene (Some e) l = quiet _ (told_in AsValue scope scene e l.1.1) (quiet_unmet t Need.Integer e (type_of scope e))

  right_told : {K : Type 0} (scope : Scope) → (K → IsScene r scope) → (want : Option Kind) (x : Right) → LowRight x → Tells K (right_notes scope want x) (right_marks x)
  right_told scope scene want (value e) l =
      quiet _ (quiet _ (told_in AsValue scope scene e l.1) (quiet_unmet t Need.Value e (type_of scope e))) (quiet_unagreed t want e (met Need.Value (type_of scope e)))
  right_told scope scene want (malloc s n w) l = quiet _ (two (count_told scope scene n l.0) (type_told scope scene [] (λ k. tt) Role.Made w l.1)) (quiet_unless t _ _ _)

  simple_told : {K : Type 0} (scope : Scope) → (K → IsScene r scope) → (x : Simple) → LowSimple x → Tells K (simple_notes scope x) (simple_marks x)
  simple_told scope scene (assign s u x) l =
      two (quiet _ (quiet _ (told_in AsLvalue scope scene u l.1.1) (quiet_place t scope.names u)) (quiet_unmet t Need.Value u (place_kind scope.names u (type_of scope u)))) (right_told scope scene _ x l.2)
  simple_told scope scene (does_call e) l = told_in AsValue scope scene e l.1.1

  declared_told : {K : Type 0} (block : ℕ) (d : Declaration) (names : List Entry) → Tells K (declared_notes block d names) (name_marks d.name)
  declared_told block d names = exactly d.name.site.token d.name.text (one_is t d.name.site.token _ _ (quiet_where t (is_here block names d) _ _))

  initial_told : {K : Type 0} (scope : Scope) → (K → IsScene r scope) → (d : Declaration) (x : Option Right) → IfSome x LowRight → Tells K (initial_notes scope d x) (option_marks right_marks x)
  initial_told scope scene d None l = silent (told_none t)
  initial_told scope scene d (Some x) l = later _ (quiet_where t (is_aggregate (declared_kind d.written)) _ _) (right_told scope scene _ x l)

  local_told : {K : Type 0} (around : Around) (scope : Scope) → (K → IsScene r scope) → (l : Local) → LowLocal l → (K → AreDeclared r (l.declaration ∷ [])) → Tells K (local_notes around scope l) (local_marks l)
  local_told around scope scene l low d =
      known (two (two (type_told scope (λ k. scene k.0) [] (λ k. tt) Role.Local l.declaration.written low.0) (declared_told around.block l.declaration scope.names))
      (initial_told (with_names scope (declared around.block l.declaration scope.names)) (λ k. local_scene r around scope (scene k.0) l (d k.0).0 k.1) l.declaration l.initial low.1))

  first_part_told : {K : Type 0} (around : Around) (scope : Scope) → (K → IsScene r scope) → (f : First) → LowFirst f → (K → AreDeclared r (first_locals f)) → Tells K (first_part_notes around scope f) (first_marks f)
  first_part_told around scope scene nothing l d = silent (told_none t)
  first_part_told around scope scene (declares x) l d = local_told around scope scene x l d
  first_part_told around scope scene (does x) l d = simple_told scope scene x l

  test_told : {K : Type 0} (scope : Scope) → (K → IsScene r scope) → (e : Expression) → LowExpression e → Tells K (test_notes scope e) (marks e)
  test_told scope scene e l = quiet _ (told_in AsValue scope scene e l.1) (quiet_unmet t Need.Value e (type_of scope e))

  tests_told : {K : Type 0} (scope : Scope) → (K → IsScene r scope) → (e : Option Expression) → IfSome e LowExpression → Tells K (tests_notes scope e) (option_marks marks e)
  tests_told scope scene None l = silent (told_none t)
  tests_told scope scene (Some e) l = test_told scope scene e l

  step_told : {K : Type 0} (scope : Scope) → (K → IsScene r scope) → (x : Option Simple) → IfSome x LowSimple → Tells K (step_notes scope x) (option_marks simple_marks x)
  step_told scope scene None l = silent (told_none t)
  step_told scope scene (Some x) l = simple_told scope scene x l

  head_of_loop : {K : Type 0} (around : Around) (scope : Scope) → (K → IsScene r scope) → (x : Head) → LowHead x → (K → AreDeclared r (first_locals x.first)) → Tells K (head_notes around scope x) (head_marks x)
  head_of_loop around scope scene x l d =
      known (two (two (first_part_told around scope (λ k. scene k.0) x.first l.0 (λ k. d k.0)) (tests_told (in_head around scope x) (λ k. head_scene r around scope (scene k.0) x (d k.0) k.1) x.test l.1))
      (step_told (in_head around scope x) (λ k. head_scene r around scope (scene k.0) x (d k.0) k.1) x.step l.2))

  return_told : {K : Type 0} (around : Around) (scope : Scope) → (K → IsScene r scope) → (word : ℕ) (e : Option Expression) → IfSome e LowExpression → Tells K (return_notes around scope word e) (option_marks marks e)
  return_told around scope scene word None l = silent (quiet_unless t (same_kind around.result void) word BadForm)
  return_told around scope scene word (Some e) l =
      quiet _ (quiet _ (later _ (quiet_where t (same_kind around.result void) word BadForm) (told_in AsValue scope scene e l.1)) (quiet_unmet t Need.Value e (type_of scope e)))
      (quiet_unagreed t (returned_as around.result) e (met Need.Value (type_of scope e)))

  mutual
    statement_told : {K : Type 0} (around : Around) (scope : Scope) → (K → IsScene r scope) → (a : Statement) → LowStatement a → (K → AreDeclared r (locals_in a)) → Tells K (notes_in around scope a) (statement_marks a)
    statement_told around scope scene (tree.empty s) l d = silent (told_none t)
    statement_told around scope scene (tree.block s all) l d = statements_told (opened around scope.names) scope scene all l d
    statement_told around scope scene (tree.declare s x) l d = local_told around scope scene x l d
    statement_told around scope scene (tree.simple s x) l d = simple_told scope scene x l
    statement_told around scope scene (tree.jump s j) l d = silent (quiet_unless t around.in_loop s.first.token BadForm)
    statement_told around scope scene (tree.return s e) l d = return_told around scope scene s.first.token e l
    statement_told around scope scene (tree.if_then s e a) l d = two (test_told scope scene e l.0) (statement_told (opened around scope.names) scope scene a l.2 d)
    statement_told around scope scene (tree.if_then_else s e a b) l d =
        two (two (test_told scope scene e l.0) (statement_told (opened around scope.names) scope scene a l.2 (λ k. front _ (locals_in a) (locals_in b) (d k))))
        (statement_told (opened around scope.names) scope scene b l.4 (λ k. back _ (locals_in a) (locals_in b) (d k)))
    statement_told around scope scene (tree.while s e a) l d = two (test_told scope scene e l.0) (statement_told (looping (opened around scope.names)) scope scene a l.2 d)
    statement_told around scope scene (tree.for s x a) l d =
        known (two (head_of_loop (opened around scope.names) scope (λ k. scene k.0) x l.0 (λ k. front _ (first_locals x.first) (locals_in a) (d k.0)))
        (statement_told (looping (opened around (behind_first (opened around scope.names) scope.names x.first))) (in_head (opened around scope.names) scope x)
        (λ k. head_scene r (opened around scope.names) scope (scene k.0) x (front _ (first_locals x.first) (locals_in a) (d k.0)) (left _ _ _ k.1)) a l.2 (λ k. back _ (first_locals x.first) (locals_in a) (d k.0))))

    statements_told : {K : Type 0} (around : Around) (scope : Scope) → (K → IsScene r scope) → (all : Statements) → LowStatements all → (K → AreDeclared r (locals_in_all all)) → Tells K (notes_in_all around scope all) (statements_marks all)
    statements_told around scope scene no_statements l d = silent (told_none t)
    statements_told around scope scene (statement a rest) l d =
        known (two (statement_told around scope (λ k. scene k.0) a l.0 (λ k. front _ (locals_in a) (locals_in_all rest) (d k.0)))
        (statements_told around (with_names scope (after around scope.names a)) (λ k. after_scene r around scope (scene k.0) a (front _ (locals_in a) (locals_in_all rest) (d k.0)) (left _ _ _ k.1)) rest l.1
        (λ k. back _ (locals_in a) (locals_in_all rest) (d k.0))))

  -- ---- items
  fields_told : {K : Type 0} (scope : Scope) → (K → IsScene r scope) → (all earlier : List Declaration) → (K → AllByRecursion (IsField r scope.structs) all) → (rest : List Declaration) → LowDeclarations rest
      → Tells K (fields_notes scope all earlier rest) (declarations_marks rest)
  fields_told scope scene all earlier fields [] l = silent (told_none t)
  fields_told scope scene all earlier fields (d ∷ rest) l =
      two (two (type_told scope scene all fields Role.Field d.written l.0)
      (exactly d.name.site.token d.name.text (one_is t d.name.site.token _ _ (quiet_both t _ _ (quiet_twice t (is_some (field_of earlier d.name.text)) d.name.site.token) (quiet_unless t _ _ _)))))
      (fields_told scope scene all (earlier ++ d ∷ []) fields rest l.1)

  parameters_told : {K : Type 0} (block n : ℕ) (scope : Scope) → (K → IsScene r scope) → (list : List Declaration) → LowDeclarations list → (K → AreDeclared r list)
      → Tells K (parameters_notes block n scope list) (declarations_marks list)
  parameters_told block n scope scene [] l d = silent (told_none t)
  parameters_told {K = K} block n scope scene (x ∷ rest) l d =
      known (two (quiet _ (two (type_told scope (λ k. scene k.0) [] (λ k. tt) Role.Parameter x.written l.0) (declared_told block x scope.names)) (quiet_unless t (nat_lt n 16) x.name.site.token LimitPassed))
      (parameters_told {K = K × Held r (parameters_notes block n scope (x ∷ rest))} block (n + 1) (with_names scope (declared block x scope.names))
      (λ k. scene_with r scope (scene k.0) (declared block x scope.names)
      (declared_meant r scope.structs block x scope.names (scene k.0).names (d k.0).0 (type_solid r scope [] Role.Parameter x.written refl (left _ _ _ (left _ _ _ (left _ _ _ k.1)))))) rest l.1 (λ k. (d k.0).1)))

  item_told : {K : Type 0} (file : Scope) → (K → IsScene r file) → (i : Item) → LowItem i → (K → AreDeclared r (declarations_of i)) → Tells K (item_notes file i) (other_marks i)
  item_told file scene (tree.structure s) l d = known (fields_told file (λ k. scene k.0) s.fields [] (λ k. fields_are r file s.fields [] s.fields (d k.0) k.1) s.fields l.1)
  item_told file scene (tree.global g) l d = quiet _ (quiet _ (type_told file scene [] (λ k. tt) Role.Global g.declaration.written l.0) (quiet_length t g.form)) (quiet_constant t g g.form)
  item_told file scene (tree.function f) l d =
      known (quiet _
      (two (two (type_told file (λ k. scene k.0) [] (λ k. tt) Role.Result f.result l.0)
      (parameters_told (length file.names) 0 file (λ k. scene k.0) f.parameters l.1 (λ k. front _ f.parameters (locals_in_all f.statements) (d k.0))))
      (statements_told (record { result = declared_kind f.result; in_loop = false; block = length file.names }) (in_body file f)
      (λ k. body_scene r file (scene k.0) f (front _ f.parameters (locals_in_all f.statements) (d k.0)) k.1) f.statements l.2 (λ k. back _ f.parameters (locals_in_all f.statements) (d k.0))))
      (quiet_beyond t 200 (locals_in_all f.statements)))

  -- the heads of the file note the names of its items
  record FileTells (K : Type 0) (notes more : List Note) (list : List Mark) : Type 0 where
    most : told t notes + told t more ≤ written t list
    same : K → Held r more → told t notes + told t more ≡ written t list

  file_told : {K : Type 0} (file : Scope) → (K → IsScene r file) → (x : Heads) (items : List Item) → LowItems items → (K → AreDeclared r (declarations_in items)) → FileTells K (heads_notes x items) (items_notes file items) (items_marks items)
  file_told file scene x [] l d = let e = told_none t in let f = written_none t in record { most = omega (arith, e); same = λ k h. omega (arith, e, f) }
  file_told file scene x (i ∷ rest) l d =
      let a = told-append t (item_head_notes x i) (heads_notes (heads_behind x i) rest) in
      let b = told-append t (item_notes file i) (items_notes file rest) in
      let c = written-append t (item_marks i) (items_marks rest) in
      let e = head_told t x i in
      let f = item_written t i in
      let v = item_told file scene i l.0 (λ k. front _ (declarations_of i) (declarations_in rest) (d k)) in
      let w = file_told file scene (heads_behind x i) rest l.1 (λ k. back _ (declarations_of i) (declarations_in rest) (d k)) in
      record {
        most = omega (arith, a, b, c, e, f, v.most, w.most);
        same = λ k h. let p = v.same k (left _ (item_notes file i) (items_notes file rest) h) in let q = w.same k (right _ (item_notes file i) (items_notes file rest) h) in omega (arith, a, b, c, e, f, p, q);
      }

  program_told : (tokens : ℕ) (items : List Item) → told t (program_notes tokens items) ≡ told t (heads_notes no_heads items) + told t (items_notes (file_scope items) items)
  program_told tokens items =
      let heads = heads_notes no_heads items in
      let all = heads ++ items_notes (file_scope items) items in
      let sizes = sizes_notes (file_scope items).structs 0 items in
      let main = fault_unless (has_main (look_up (file_scope items).names (codes "main"))) tokens NoMain in
      let a = told-append t heads (items_notes (file_scope items) items) in
      let b = told-append t all sizes in
      let c = told-append t (all ++ sizes) main in
      let e = quiet_sizes t (file_scope items).structs 0 items in
      let f = quiet_unless t (has_main (look_up (file_scope items).names (codes "main"))) tokens NoMain in
      omega (arith, a, b, c, e, f)

  pub program_most : (tokens : ℕ) (items : List Item) → LowItems items → told t (program_notes tokens items) ≤ written t (items_marks items)
  program_most tokens items l = let e = program_told tokens items in let w = file_told {K = ⊥} (file_scope items) (λ k. absurd k) no_heads items l (λ k. absurd k) in omega (arith, e, w.most)

  pub program_is : (tokens : ℕ) (items : List Item) → IsScene r (file_scope items) → LowItems items → AreDeclared r (declarations_in items) → Held r (items_notes (file_scope items) items)
      → told t (program_notes tokens items) ≡ written t (items_marks items)
  program_is tokens items scene l d h = program_told tokens items ∙ (file_told {K = Unit {0}} (file_scope items) (λ k. scene) no_heads items l (λ k. d)).same tt h
