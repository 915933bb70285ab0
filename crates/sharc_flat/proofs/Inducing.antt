-- Every expression, by its form.
use Rattle.sharc_flat.proofs.{Imports.{◌≡◌, ℕ, zero, suc, ◌+◌, ◌≤◌, Bool, true, false, cond, List, [], ◌∷◌, ◌++◌, length, Option, Some, None, refl, sym, ap, ◌∙◌, subst, arith, append_assoc, append-nil, neg_ℤ, ℤ, pos, ◌||◌, Ok, codes, bytes_eq, Global, Made, Site, Span, BinaryOperator, LogicalOr, LogicalAnd, Equal, NotEqual, Expression, identifier, constant, parentheses, call, spawn, on_value, on_place, cast, index, field, unary, binary, Arguments, no_arguments, argument, span_of, Dot, Arrow, Negate, Not, Complement, Dereference, TakeKind, Lock, Unlock, Free, Kind, is_integer, int, promoted, is_long, declared_kinds, is_array, element_kind, Named, Use, Assignment, Sharing, mode_in, pointed, cast_row, global_elements, element_cells, field_place_named, StorePlace, variable, cell, field_in, based, element, element_of_array, index_place, pointee_place, place_named, taken_from, number_of, elements_of, constant_value, Run, ◌>>=◌, ◌>>◌, give, entered, is_reference, temporarily, bits_of, operated, complement, in_range, resulting, tested, operand, Calls, value_called, called, named_value, eval, eval_all, place_of, unary_value, binary_value, place_value, spawned, number_named, cast_value, place_called, taking, global_at, kind_at, named_at, structs_in, constant_kind, class_of, binary_result, OperatorClass, Shift, Arithmetic, parameters_named, parameters_of, Op, Spot, first_cell, with_result, take_kind_of, variable_of, lvalue_of, take_use, Target, in_global, in_global_at, in_object, in_object_at, has_base, base_width, field_of, guard_field, beside_field, guard_cell, guard_code, spot_of, drop_base, settle_base, settle_code, cell_value_code, cell_store_code, store_code, cell_take_code, take_code, target, own_field, global_of, bounds_code, index_code, pointee_code, width_of, base_as_width, width_code, guard_width, index_width, object_spot, tokens_in, at_words, Context, at_site, Lvalue, Slot, PathStands, is_cell, NameSuits, Either, CallSuits, Suits, ArgumentsSuit, PlaceSuits, ReferencesSuit, TakeSuits, OperandsSuit, operator_of, truth_code, compare_code, passed_code, behind_int, behind_ref, IsFlattened, constant_code, value_call_code, expression_code, arguments_code, place_code, named_code, called_code, lvalue_code, binary_code, spawn_code, cast_code, place_call_code, layout_of}, Runs.{HasAt, Same, weaken}, Agreeing.{Standing, place, Agree, Rest}, Accessing.context, Values.{integer_is, RunsAs, within, Lies, PlaceAs}, Computing.{bits_same, entered_runs, unary_runs, entered_place, binary_runs, computed_same, promoted_int, promoted_by, range_same, is_strict as is_strict_operator}, Linking.CallsAs, Calling.{ArgumentsAs, no_arguments_run, argument_runs}, Testing.tested_runs, Expressing.{constant_runs, nothing_runs, global_runs, denied_runs, value_call_runs, function_call_runs}, Fetching.{copy_runs, fetch_runs}, Placing.{pointer_index_runs, array_index_runs, pointee_place_runs, arrow_runs, dot_runs}, Taking.{take_cell_runs, take_variable_runs, cast_runs, free_runs, need_more}, Deciding.{and_runs, or_runs}, Spawning.spawn_runs, Waiting.{RefsAs, no_refs_run, ref_run, known_runs}, Comparing.compare_runs, Locking.{lock_runs, unlock_runs}}
use Rattle.sharc_meaning.specs.Arithmetic.{negated}
use Rattle.sharc_flat.specs.Places as targets

result_by : (o : OperatorClass) (a b : Kind) → is_reference (binary_result o a b) ≡ false
result_by Shift a b = promoted_int a
result_by Arithmetic a b = (promoted_by (is_long a || is_long b)).0
result_by _ a b = refl

module _ (m : Assignment) (z : Standing) (scope : List Slot) where
  abbrev ctx : Context
  ctx = context m z scope

  -- ---- names
  name_runs : (kind : Kind) (site : Site) (span : Lvalue) (mode : Sharing) (what : Named) → NameSuits ctx kind mode what → RunsAs m z scope kind 7 (named_value m.typed mode site what) (λ i r. named_code ctx i r site span mode (is_reference kind) what)
  name_runs kind site span mode (Named.Variable x) h = copy_runs m z scope kind x site h
  name_runs kind site span mode (Named.Global g) h = global_runs m z scope g kind site span mode h.0 h.1
  name_runs kind site span mode _ h = nothing_runs m z scope kind h.0 h.1

  give_place : (t : Target) (f guard : Option ℕ) (p : StorePlace) → ((i : ℕ) (bank : ℕ → ℤ) → Lies m z scope t guard i bank [] (within m z scope f p)) → PlaceAs m z scope t f guard 7 (give p) (λ i r. [])
  give_place t f guard p lies T i r pc c ints refs s k has le re a rest =
      let q : pc + 0 ≡ pc = omega arith in
      weaken z.flat s.fuel (c + 6) (c + 7) _ s.answers _ (omega arith)
      (subst (λ x. Same z.flat s.fuel (c + 6) (k p s) s.answers (place z x ints refs s)) q
      (rest p [] ints refs s (record { agree = subst (λ t. Agree z t scope [] ints refs s) (sym (append-nil T)) a; kept = λ n lt. refl; lies = lies i ints })))

  variable_within : (f : Option ℕ) (x : ℕ) → within m z scope f (variable x) ≡ variable x
  variable_within None x = refl
  variable_within (Some n) x = refl

  global_within : (f : Option ℕ) (g : ℕ) → within m z scope f (cell (Global g) 0 0) ≡ cell (Global g) 0 (0 + own_field f 0)
  global_within None g = refl
  global_within (Some n) g = refl

  named_place_runs : (f guard : Option ℕ) (what : Named) → PlaceAs m z scope (targets.named_target what (own_field f 0)) f guard 7 (give (place_named what)) (λ i r. [])
  named_place_runs f guard (Named.Variable x) = give_place _ f guard (variable x) (λ i bank. (refl, variable_within f x))
  named_place_runs f guard (Named.Global g) = give_place _ f guard (cell (Global g) 0 0) (λ i bank. (refl, global_within f g))
  named_place_runs f guard _ = give_place _ f guard (variable 0) (λ i bank. (refl, variable_within f 0))

  no_place_runs : (f guard : Option ℕ) → PlaceAs m z scope (targets.variable 0) f guard 7 (give (variable 0)) (λ i r. [])
  no_place_runs f guard = give_place _ f guard (variable 0) (λ i bank. (refl, variable_within f 0))

  -- ---- calls
  named_call_runs : (on_call : Calls) (n : ℕ) → CallsAs m on_call n → IsFlattened m z.flat → length z.frames + n ≡ 255 → (kind : Kind) (what : Named) (site : Site) (text : List ℕ) (written : Arguments) (all : Run (List ℤ)) (ca : ℕ → ℕ → List Op) (suits : List Kind → Type 0) (known : Type 0)
      → CallSuits ctx kind what suits known → (suits (declared_kinds (parameters_named m.typed what)) → ArgumentsAs m z scope (declared_kinds (parameters_named m.typed what)) all ca)
      → (declared_kinds (parameters_named m.typed what) ≡ [] → known → RefsAs m z scope (cond (bytes_eq text (codes "wait")) 2 1) all ca)
      → RunsAs m z scope kind 7 (temporarily (all >>= λ vs. called on_call site what text vs)) (λ i r. ca i r ++ called_code i r (at_site site) what text written)
  named_call_runs on_call n calls_as is room kind (Named.Function g) site text written all ca suits known h of_all of_refs =
      let same : parameters_named m.typed (Named.Function g) ≡ h.0.parameters = ap parameters_of h.1 in
      subst (λ k. RunsAs m z scope k 7 (temporarily (all >>= λ vs. on_call g site vs)) (λ i r. ca i r ++ Op.Call g i r (at_site site) ∷ [])) (sym h.2)
      (function_call_runs m z scope on_call n calls_as is room g h.0 site all ca h.1
      (subst (λ ps. ArgumentsAs m z scope (declared_kinds ps) all ca) same (of_all (subst (λ ps. suits (declared_kinds ps)) (sym same) h.3))))
  named_call_runs on_call n calls_as is room kind Named.Known site text written all ca suits known h of_all of_refs = known_runs m z scope on_call kind site text written all ca h.1 h.2 (of_refs refl h.0)
  named_call_runs on_call n calls_as is room kind _ site text written all ca suits known h of_all of_refs = absurd h

  -- ---- operators
  negate_runs : (ka : Kind) (e : Expression) (s : Span) (run : Run ℤ) (ce : ℕ → ℕ → List Op) → ka ≡ kind_at m.typed e → is_integer ka ≡ true → RunsAs m z scope ka 0 run ce
      → RunsAs m z scope (promoted ka) 1 (unary_value m s Negate e run) (λ i r. ce i r ++ Op.Negate (width_of (promoted (kind_at m.typed e))) i i (at_site s.first) ∷ [])
  negate_runs ka e s run ce ek ia of_run =
      let w = width_of (promoted (kind_at m.typed e)) in
      unary_runs m z scope ka (promoted ka) run ce (λ i. Op.Negate w i i (at_site s.first)) (at_site s.first) (λ v. negated (bits_of (promoted (kind_at m.typed e))) v) ia (promoted_int ka)
      (λ i pc ints refs u. ap (λ x. with_result i (at_site s.first) (place z pc ints refs u) x) (range_same w (neg_ℤ (ints (z.ints + i))) ∙ ap (λ n. in_range n (neg_ℤ (ints (z.ints + i)))) (bits_same (promoted (kind_at m.typed e))))) of_run

  complement_runs : (ka : Kind) (e : Expression) (s : Span) (run : Run ℤ) (ce : ℕ → ℕ → List Op) → is_integer ka ≡ true → RunsAs m z scope ka 0 run ce
      → RunsAs m z scope (promoted ka) 1 (unary_value m s Complement e run) (λ i r. ce i r ++ Op.Complement i i ∷ [])
  complement_runs ka e s run ce ia of_run =
      unary_runs m z scope ka (promoted ka) run ce (λ i. Op.Complement i i) (at_site s.first) (λ v. Ok (complement v)) ia (promoted_int ka) (λ i pc ints refs u. refl) of_run

  strict_runs : (o : BinaryOperator) (a b : Expression) (at : Site) (of_a of_b : Run ℤ) (ca cb : ℕ → ℕ → List Op) → is_strict_operator o ≡ true → is_integer (kind_at m.typed a) ≡ true → is_integer (kind_at m.typed b) ≡ true
      → RunsAs m z scope (kind_at m.typed a) 0 of_a ca → RunsAs m z scope (kind_at m.typed b) 0 of_b cb
      → RunsAs m z scope (binary_result (class_of o) (kind_at m.typed a) (kind_at m.typed b)) 0
      (temporarily (operand m.typed a of_a >>= λ x. operand m.typed b of_b >>= λ y. resulting at (operated (bits_of (binary_result (class_of o) (kind_at m.typed a) (kind_at m.typed b))) o x y)))
      (λ i r. ca i r ++ (cb (i + 1) r ++ Op.Compute (width_of (binary_result (class_of o) (kind_at m.typed a) (kind_at m.typed b))) (operator_of o) i i (i + 1) (at_site at) ∷ []))
  strict_runs o a b at of_a of_b ca cb strict ia ib runs_a runs_b =
      let ka = kind_at m.typed a in
      let kb = kind_at m.typed b in
      let kind = binary_result (class_of o) ka kb in
      let w = width_of kind in
      binary_runs m z scope ka kb kind a b of_a of_b ca cb (λ i. Op.Compute w (operator_of o) i i (i + 1) (at_site at)) (at_site at) (λ x y. operated (bits_of kind) o x y) refl refl ia ib (result_by (class_of o) ka kb)
      (λ i pc ints refs u. ap (λ x. with_result i (at_site at) (place z pc ints refs u) x) (computed_same w o (ints (z.ints + i)) (ints (z.ints + (i + 1))) strict ∙ ap (λ n. operated n o (ints (z.ints + i)) (ints (z.ints + (i + 1)))) (bits_same kind))) runs_a runs_b

  strict_code : (b : Bool) (kind : Kind) (run : Run ℤ) (ca cb : ℕ → ℕ → List Op) (compare : ℕ → ℕ → List Op) (compute : ℕ → Op) → b ≡ false → RunsAs m z scope kind 0 run (λ i r. ca i r ++ (cb (i + 1) r ++ compute i ∷ []))
      → RunsAs m z scope kind 0 run (λ i r. ca i r ++ (cb (behind_int b i) (behind_ref b r) ++ cond b (compare i r) (compute i ∷ [])))
  strict_code b kind run ca cb compare compute e h = subst (λ b. RunsAs m z scope kind 0 run (λ i r. ca i r ++ (cb (behind_int b i) (behind_ref b r) ++ cond b (compare i r) (compute i ∷ [])))) (sym e) h

  abbrev compute_of : BinaryOperator → Expression → Expression → Site → ℕ → Op
  compute_of o a b at i = Op.Compute (width_of (binary_result (class_of o) (kind_at m.typed a) (kind_at m.typed b))) (operator_of o) i i (i + 1) (at_site at)

  integer_operator_runs : (o : BinaryOperator) (a b : Expression) (at : Site) (of_a of_b : Run ℤ) (ca cb : ℕ → ℕ → List Op) → is_strict_operator o ≡ true → is_integer (kind_at m.typed a) ≡ true → is_integer (kind_at m.typed b) ≡ true
      → RunsAs m z scope (kind_at m.typed a) 0 of_a ca → RunsAs m z scope (kind_at m.typed b) 0 of_b cb
      → RunsAs m z scope (binary_result (class_of o) (kind_at m.typed a) (kind_at m.typed b)) 0 (binary_value m.typed at o a b of_a of_b) (λ i r. binary_code ctx i r at o a b (ca i r) (λ i2 r2. cb i2 r2))
  integer_operator_runs LogicalOr a b at of_a of_b ca cb h ia ib ra rb = absurd (cc)
  integer_operator_runs LogicalAnd a b at of_a of_b ca cb h ia ib ra rb = absurd (cc)
  integer_operator_runs k a b at of_a of_b ca cb h ia ib ra rb = strict_code (is_reference (kind_at m.typed a)) (binary_result (class_of k) (kind_at m.typed a) (kind_at m.typed b)) (binary_value m.typed at k a b of_a of_b) ca cb (λ i r. compare_code k i r) (compute_of k a b at) (integer_is (kind_at m.typed a) ia) (strict_runs k a b at of_a of_b ca cb refl ia ib ra rb)

  abbrev result_of : BinaryOperator → Expression → Expression → Kind
  result_of o a b = binary_result (class_of o) (kind_at m.typed a) (kind_at m.typed b)

  equal_by : (x : Bool) (a b : Expression) (at : Site) (of_a of_b : Run ℤ) (ca cb : ℕ → ℕ → List Op) → is_reference (kind_at m.typed a) ≡ x → Either x (is_reference (kind_at m.typed b) ≡ true) ((is_integer (kind_at m.typed a) ≡ true) × (is_integer (kind_at m.typed b) ≡ true))
      → RunsAs m z scope (kind_at m.typed a) 0 of_a ca → RunsAs m z scope (kind_at m.typed b) 0 of_b cb
      → RunsAs m z scope (result_of Equal a b) 0 (binary_value m.typed at Equal a b of_a of_b) (λ i r. ca i r ++ (cb (behind_int x i) (behind_ref x r) ++ cond x (compare_code Equal i r) (compute_of Equal a b at i ∷ [])))
  equal_by true a b at of_a of_b ca cb e h ra rb = compare_runs m z scope false (kind_at m.typed a) (kind_at m.typed b) (result_of Equal a b) a b at (λ x y. operated (bits_of (result_of Equal a b)) Equal x y) of_a of_b ca cb (λ x y. refl) refl refl e h (result_by (class_of Equal) (kind_at m.typed a) (kind_at m.typed b)) ra rb
  equal_by false a b at of_a of_b ca cb e h ra rb = strict_runs Equal a b at of_a of_b ca cb refl h.0 h.1 ra rb

  notequal_by : (x : Bool) (a b : Expression) (at : Site) (of_a of_b : Run ℤ) (ca cb : ℕ → ℕ → List Op) → is_reference (kind_at m.typed a) ≡ x → Either x (is_reference (kind_at m.typed b) ≡ true) ((is_integer (kind_at m.typed a) ≡ true) × (is_integer (kind_at m.typed b) ≡ true))
      → RunsAs m z scope (kind_at m.typed a) 0 of_a ca → RunsAs m z scope (kind_at m.typed b) 0 of_b cb
      → RunsAs m z scope (result_of NotEqual a b) 0 (binary_value m.typed at NotEqual a b of_a of_b) (λ i r. ca i r ++ (cb (behind_int x i) (behind_ref x r) ++ cond x (compare_code NotEqual i r) (compute_of NotEqual a b at i ∷ [])))
  notequal_by true a b at of_a of_b ca cb e h ra rb = compare_runs m z scope true (kind_at m.typed a) (kind_at m.typed b) (result_of NotEqual a b) a b at (λ x y. operated (bits_of (result_of NotEqual a b)) NotEqual x y) of_a of_b ca cb (λ x y. refl) refl refl e h (result_by (class_of NotEqual) (kind_at m.typed a) (kind_at m.typed b)) ra rb
  notequal_by false a b at of_a of_b ca cb e h ra rb = strict_runs NotEqual a b at of_a of_b ca cb refl h.0 h.1 ra rb

  operator_runs : (o : BinaryOperator) (a b : Expression) (at : Site) (of_a of_b : Run ℤ) (ca cb : ℕ → ℕ → List Op) → OperandsSuit o (kind_at m.typed a) (kind_at m.typed b)
      → RunsAs m z scope (kind_at m.typed a) 0 of_a ca → RunsAs m z scope (kind_at m.typed b) 0 of_b cb
      → RunsAs m z scope (result_of o a b) 7 (binary_value m.typed at o a b of_a of_b) (λ i r. binary_code ctx i r at o a b (ca i r) (λ i2 r2. cb i2 r2))
  operator_runs LogicalOr a b at of_a of_b ca cb h ra rb = or_runs m z scope (result_of LogicalOr a b) (tested m.typed a of_a) (tested m.typed b of_b) (λ i r. ca i r ++ truth_code (is_reference (kind_at m.typed a)) i r) (λ i r. cb i r ++ truth_code (is_reference (kind_at m.typed b)) i r) (result_by (class_of LogicalOr) (kind_at m.typed a) (kind_at m.typed b))
      (tested_runs m z scope (kind_at m.typed a) a of_a ca refl h.0 ra) (tested_runs m z scope (kind_at m.typed b) b of_b cb refl h.1 rb)
  operator_runs LogicalAnd a b at of_a of_b ca cb h ra rb = and_runs m z scope (result_of LogicalAnd a b) (tested m.typed a of_a) (tested m.typed b of_b) (λ i r. ca i r ++ truth_code (is_reference (kind_at m.typed a)) i r) (λ i r. cb i r ++ truth_code (is_reference (kind_at m.typed b)) i r) (result_by (class_of LogicalAnd) (kind_at m.typed a) (kind_at m.typed b))
      (tested_runs m z scope (kind_at m.typed a) a of_a ca refl h.0 ra) (tested_runs m z scope (kind_at m.typed b) b of_b cb refl h.1 rb)
  operator_runs Equal a b at of_a of_b ca cb h ra rb = need_more m z scope (result_of Equal a b) 0 7 (binary_value m.typed at Equal a b of_a of_b) (λ i r. binary_code ctx i r at Equal a b (ca i r) (λ i2 r2. cb i2 r2)) (omega arith) (equal_by (is_reference (kind_at m.typed a)) a b at of_a of_b ca cb refl h ra rb)
  operator_runs NotEqual a b at of_a of_b ca cb h ra rb = need_more m z scope (result_of NotEqual a b) 0 7 (binary_value m.typed at NotEqual a b of_a of_b) (λ i r. binary_code ctx i r at NotEqual a b (ca i r) (λ i2 r2. cb i2 r2)) (omega arith) (notequal_by (is_reference (kind_at m.typed a)) a b at of_a of_b ca cb refl h ra rb)
  operator_runs k a b at of_a of_b ca cb h ra rb = need_more m z scope (result_of k a b) 0 7 (binary_value m.typed at k a b of_a of_b) (λ i r. binary_code ctx i r at k a b (ca i r) (λ i2 r2. cb i2 r2)) (omega arith) (integer_operator_runs k a b at of_a of_b ca cb refl h.0 h.1 ra rb)

  -- ---- what is taken
  code_same : (kind : Kind) (need : ℕ) (run : Run ℤ) (A B : ℕ → ℕ → List Op) → ((i r : ℕ) → A i r ≡ B i r) → RunsAs m z scope kind need run A → RunsAs m z scope kind need run B
  code_same kind need run A B e h T i r pc c ints refs s k has le re a rest =
      h T i r pc c ints refs s k (subst (λ l. HasAt z.flat.lines pc l) (sym (e i r)) has) le re a (subst (λ l. Rest z kind T scope i (pc + length l) (c + 6) ints k) (sym (e i r)) rest)

  take_by : (t : Target) (ka : Kind) (run : Run StorePlace) (pcode : ℕ → ℕ → List Op) (token site : Site) (lvalue : Lvalue) (mode : Sharing) (form : Option ℕ → Use) (kind : TakeKind) → TakeSuits ctx mode t → PlaceAs m z scope t None (beside_field m.typed mode) 0 run pcode
      → is_reference ka ≡ true → ((o : Option ℕ) → take_kind_of (form o) ≡ kind) → ((x : ℕ) → variable_of (form (Some x)) ≡ x)
      → RunsAs m z scope ka 3 (temporarily (run >>= λ p. taken_from m.typed token site mode kind p)) (λ i r. pcode i r ++ take_code ctx i r site lvalue mode form t)
  take_by (targets.variable x) ka run pcode token site lvalue mode form kind h found er ek ex = take_variable_runs m z scope ka x 0 run pcode token site lvalue mode form kind (beside_field m.typed mode) found h er (ek (Some x)) (ex x)
  take_by k ka run pcode token site lvalue mode form kind h found er ek ex = take_cell_runs m z scope ka k 0 run pcode token site lvalue mode form kind found refl h er (ek None)

  cast_expression_runs : (kc : Kind) (s : Span) (a : Expression) (run : Run StorePlace) (pcode : ℕ → ℕ → List Op) → is_reference kc ≡ true → TakeSuits ctx (mode_in m a) (target m.typed None a) → is_reference (kind_at m.typed a) ≡ true
      → PathStands m.typed scope (pointed m (Some (cast_row m.typed s))) → PlaceAs m z scope (target m.typed None a) None (beside_field m.typed (mode_in m a)) 0 run pcode
      → RunsAs m z scope kc 5 (cast_value m s a run) (λ i r. cast_code ctx i r s a (pcode i r))
  cast_expression_runs kc s a run pcode ec h ea path found =
      let site = (span_of a).first in
      let taken : ℕ → ℕ → List Op = λ i r. take_code ctx i r site (lvalue_of m.typed a) (mode_in m a) Use.Cast (target m.typed None a) in
      let tail : ℕ → ℕ → List Op = λ i r. Op.SkipIfNull r 1 ∷ Op.Give r (element_cells m.typed (element_kind (kind_at m.typed a))) (object_spot ctx site (tokens_in (span_of a)) (take_use Use.Cast (target m.typed None a)) (pointed m (Some (cast_row m.typed s)))) ∷ [] in
      code_same kc 5 (cast_value m s a run) (λ i r. (pcode i r ++ taken i r) ++ tail i r) (λ i r. pcode i r ++ (taken i r ++ tail i r)) (λ i r. append_assoc (pcode i r) (taken i r) (tail i r))
      (cast_runs m z scope (element_cells m.typed (element_kind (kind_at m.typed a))) (kind_at m.typed a) kc (taking m s TakeKind.Cast a run) (λ i r. pcode i r ++ taken i r) site (tokens_in (span_of a)) (take_use Use.Cast (target m.typed None a)) (pointed m (Some (cast_row m.typed s))) ea ec path
      (take_by (target m.typed None a) (kind_at m.typed a) run pcode s.first site (lvalue_of m.typed a) (mode_in m a) Use.Cast TakeKind.Cast h found ea (λ o. refl) (λ x. refl)))

  free_expression_runs : (kv : Kind) (s : Span) (a : Expression) (run : Run StorePlace) (pcode : ℕ → ℕ → List Op) → is_reference kv ≡ false → is_integer kv ≡ false → TakeSuits ctx (mode_in m a) (target m.typed None a) → is_reference (kind_at m.typed a) ≡ true
      → PlaceAs m z scope (target m.typed None a) None (beside_field m.typed (mode_in m a)) 0 run pcode
      → RunsAs m z scope kv 5 (place_called m s Free a run >> give (pos 0)) (λ i r. place_call_code ctx i r s Free a (pcode i r))
  free_expression_runs kv s a run pcode er ei h ea found =
      let site = (span_of a).first in
      let layout = layout_of (structs_in m.typed.program.items) (element_kind (kind_at m.typed a)) in
      let taken : ℕ → ℕ → List Op = λ i r. take_code ctx i r site (lvalue_of m.typed a) (mode_in m a) Use.Free (target m.typed None a) in
      let tail : ℕ → ℕ → List Op = λ i r. Op.SkipIfNull r 1 ∷ Op.Free r layout (at_words site (span_of a) (take_use Use.Free (target m.typed None a))) ∷ [] in
      code_same kv 5 (place_called m s Free a run >> give (pos 0)) (λ i r. (pcode i r ++ taken i r) ++ tail i r) (λ i r. pcode i r ++ (taken i r ++ tail i r)) (λ i r. append_assoc (pcode i r) (taken i r) (tail i r))
      (free_runs m z scope (kind_at m.typed a) kv (taking m s TakeKind.Free a run) (λ i r. pcode i r ++ taken i r) site (span_of a) (take_use Use.Free (target m.typed None a)) layout ea er ei
      (take_by (target m.typed None a) (kind_at m.typed a) run pcode s.first site (lvalue_of m.typed a) (mode_in m a) Use.Free TakeKind.Free h found ea (λ o. refl) (λ x. refl)))

  -- ---- indexes
  index_cell : (b : Bool) (g f h : ℕ) → is_cell (cond b (in_global_at g f) (in_object_at h)) ≡ true
  index_cell true g f h = refl
  index_cell false g f h = refl

  index_by : (b : Bool) (a : Expression) (f guard : Option ℕ) (site : Site) (ki : Kind) (of_array : Run StorePlace) (of_pointer number : Run ℤ) (ca cp ci : ℕ → ℕ → List Op) (A B : Type 0)
      → (let r0 = m.typed in let g = global_of (target r0 None a) in let cells = element_cells r0 (element_kind (kind_at r0 a)) in
      Either b (A × (target r0 None a ≡ in_global g 0)) (B × (is_reference (kind_at r0 a) ≡ true)) → is_integer ki ≡ true
      → (A → PlaceAs m z scope (target r0 None a) None None 0 of_array ca) → (B → RunsAs m z scope (kind_at r0 a) 0 of_pointer cp) → RunsAs m z scope ki 0 number ci
      → PlaceAs m z scope (cond b (in_global_at g (own_field f 0)) (in_object_at (own_field f 0))) f guard 0
      (cond b (of_array >>= λ base. number >>= λ n. element_of_array r0 site cells base n) (of_pointer >>= λ p. based site (kind_at r0 a) p >> (number >>= λ n. element site (Made (number_of p)) cells (elements_of p) n)))
      (λ i r. cond b (ca i r ++ (ci i r ++ bounds_code (λ i n. Op.GlobalBounds i (global_elements (global_at r0 g)) cells (first_cell z.flat.globals g + n) (at_site site)) i (own_field f 0) guard))
      (cp i r ++ (Op.ChkNull r (at_site site) ∷ (ci i (r + 1) ++ bounds_code (λ i n. Op.Bounds i r cells n (at_site site)) i (own_field f 0) guard)))))
  index_by true a f guard site ki of_array of_pointer number ca cp ci A B h ii of_a of_p of_i =
      array_index_runs m z scope (global_of (target m.typed None a)) (target m.typed None a) ki f guard site (element_cells m.typed (element_kind (kind_at m.typed a))) of_array number ca ci h.1 ii (of_a h.0) of_i
  index_by false a f guard site ki of_array of_pointer number ca cp ci A B h ii of_a of_p of_i =
      pointer_index_runs m z scope (kind_at m.typed a) ki f guard site (element_cells m.typed (element_kind (kind_at m.typed a))) of_pointer number cp ci h.1 ii (of_p h.0) of_i

  module _ (on_call : Calls) (n : ℕ) (calls_as : CallsAs m on_call n) (is : IsFlattened m z.flat) (room : length z.frames + n ≡ 255) where
    abbrev E : Expression → Run ℤ
    E e = eval on_call m e

    abbrev X : Expression → ℕ → ℕ → List Op
    X e i r = expression_code ctx i r e

    abbrev P : Site → Expression → Run StorePlace
    P site e = place_of on_call m site e

    abbrev L : Site → Option ℕ → Option ℕ → Expression → ℕ → ℕ → List Op
    L site f guard e i r = place_code ctx i r site f guard e

    abbrev K : Expression → Kind
    K e = kind_at m.typed e

    abbrev N : ℕ → Named
    N token = named_at m.typed token

    -- what is read of an lvalue
    fetched_runs : (e : Expression) (need : ℕ) (run : Run StorePlace) (pcode : ℕ → ℕ → List Op) → need ≤ 4 → PlaceAs m z scope (target m.typed None e) None (beside_field m.typed (mode_in m e)) need run pcode
        → is_cell (target m.typed None e) ≡ true → PathStands m.typed scope (mode_in m e)
        → RunsAs m z scope (K e) 0 (entered (place_value m e run)) (λ i r. Op.Enter ∷ (pcode i r ++ lvalue_code ctx i r e))
    fetched_runs e need run pcode few found cell_t path =
        entered_runs m z scope (K e) (need + 3) (place_value m e run) (λ i r. pcode i r ++ lvalue_code ctx i r e) (omega arith)
        (fetch_runs m z scope (K e) (target m.typed None e) need run pcode (span_of e).first (lvalue_of m.typed e) (mode_in m e) found cell_t path)

    none_runs : (f guard : Option ℕ) → PlaceAs m z scope (targets.variable 0) f guard 0 (entered (give (variable 0))) (λ i r. Op.Enter ∷ [])
    none_runs f guard = entered_place m z scope (targets.variable 0) f guard 7 (give (variable 0)) (λ i r. []) (omega arith) (no_place_runs f guard)

    abbrev at_index : Site → Expression → Expression → Run StorePlace
    at_index site a x = index_place m.typed site a (P site a) (E a) (E x)

    abbrev index_op : Site → Option ℕ → Option ℕ → Expression → Expression → ℕ → ℕ → List Op
    index_op site f guard a x i r = index_code ctx i r site f guard a (L site None None a i r) (X a i r) (λ d. X x i d)

    abbrev arrow : Site → Expression → ℕ → Run StorePlace
    arrow site a n = pointee_place m.typed site a (E a) >>= λ p. give (field_in n p)

    mutual
      pub eval_runs : (e : Expression) → Suits ctx e → RunsAs m z scope (K e) 0 (E e) (X e)
      eval_runs (identifier s x) h = entered_runs m z scope (K (identifier s x)) 7 (named_value m.typed (mode_in m (identifier s x)) x.site (N x.site.token)) (λ i r. named_code ctx i r x.site (lvalue_of m.typed (identifier s x)) (mode_in m (identifier s x)) (is_reference (K (identifier s x))) (N x.site.token)) (omega arith)
          (name_runs (K (identifier s x)) x.site (lvalue_of m.typed (identifier s x)) (mode_in m (identifier s x)) (N x.site.token) h)
      eval_runs (constant s k) h = entered_runs m z scope (K (constant s k)) 7 (give (constant_value k)) (λ i r. constant_code (is_reference (constant_kind k)) i r k) (omega arith) (constant_runs m z scope k)
      eval_runs (parentheses s a) h = entered_runs m z scope (K a) 0 (E a) (X a) (omega arith) (eval_runs a h)
      eval_runs (call s f all) h = entered_runs m z scope (K (call s f all)) 7
          (temporarily (eval_all on_call m (declared_kinds (parameters_named m.typed (N f.site.token))) all >>= λ vs. called on_call s.first (N f.site.token) f.text vs))
          (λ i r. arguments_code ctx i r (declared_kinds (parameters_named m.typed (N f.site.token))) all ++ called_code i r (at_site s.first) (N f.site.token) f.text all) (omega arith)
          (named_call_runs on_call n calls_as is room (K (call s f all)) (N f.site.token) s.first f.text all (eval_all on_call m (declared_kinds (parameters_named m.typed (N f.site.token))) all)
          (λ i r. arguments_code ctx i r (declared_kinds (parameters_named m.typed (N f.site.token))) all) (λ kinds. ArgumentsSuit ctx kinds all) (ReferencesSuit ctx (cond (bytes_eq f.text (codes "wait")) 2 1) all) h (λ w. all_run (declared_kinds (parameters_named m.typed (N f.site.token))) all w)
          (λ e w. subst (λ kinds. RefsAs m z scope (cond (bytes_eq f.text (codes "wait")) 2 1) (eval_all on_call m kinds all) (λ i r. arguments_code ctx i r kinds all)) (sym e) (refs_run (cond (bytes_eq f.text (codes "wait")) 2 1) all w)))
      eval_runs (spawn s f a) h = entered_runs m z scope int 7 (spawned m.typed s.first (N f.site.token) a (E a)) (λ i r. X a i r ++ (passed_code i (declared_kinds (parameters_named m.typed (N f.site.token))) (span_of a).first ++ spawn_code (is_reference (K a)) i r (number_named (N f.site.token)) (at_site s.first))) (omega arith)
          (spawn_runs m z scope (declared_kinds (parameters_named m.typed (N f.site.token))) a s.first (number_named (N f.site.token)) (E a) (X a) h.1 (eval_runs a h.0))
      eval_runs (on_value s w a) h = entered_runs m z scope (K (on_value s w a)) 1 (value_called s.first w (E a)) (λ i r. X a i r ++ value_call_code w i (at_site s.first)) (omega arith)
          (value_call_runs m z scope (K a) (K (on_value s w a)) w s.first (E a) (X a) h.1 refl refl (eval_runs a h.0))
      eval_runs (on_place s Lock a) h = entered_runs m z scope (K (on_place s Lock a)) 4 (place_called m s Lock a (P (span_of a).first a) >> give (pos 0)) (λ i r. place_call_code ctx i r s Lock a (L (span_of a).first None None a i r)) (omega arith)
          (lock_runs m z scope (K (on_place s Lock a)) (target m.typed None a) (P (span_of a).first a) (L (span_of a).first None None a) s.first (span_of a) (place_runs a (span_of a).first None None h.0) h.1 refl refl)
      eval_runs (on_place s Unlock a) h = entered_runs m z scope (K (on_place s Unlock a)) 4 (place_called m s Unlock a (P (span_of a).first a) >> give (pos 0)) (λ i r. place_call_code ctx i r s Unlock a (L (span_of a).first None None a i r)) (omega arith)
          (unlock_runs m z scope (K (on_place s Unlock a)) (target m.typed None a) (P (span_of a).first a) (L (span_of a).first None None a) s.first (place_runs a (span_of a).first None None h.0) h.1 refl refl)
      eval_runs (on_place s Free a) h = entered_runs m z scope (K (on_place s Free a)) 5 (place_called m s Free a (P (span_of a).first a) >> give (pos 0)) (λ i r. place_call_code ctx i r s Free a (L (span_of a).first None (beside_field m.typed (mode_in m a)) a i r)) (omega arith)
          (free_expression_runs (K (on_place s Free a)) s a (P (span_of a).first a) (L (span_of a).first None (beside_field m.typed (mode_in m a)) a) refl refl h.1.0 h.1.1 (place_runs a (span_of a).first None (beside_field m.typed (mode_in m a)) h.0))
      eval_runs (cast s t a) h = entered_runs m z scope (K (cast s t a)) 5 (cast_value m s a (P (span_of a).first a)) (λ i r. cast_code ctx i r s a (L (span_of a).first None (beside_field m.typed (mode_in m a)) a i r)) (omega arith)
          (cast_expression_runs (K (cast s t a)) s a (P (span_of a).first a) (L (span_of a).first None (beside_field m.typed (mode_in m a)) a) h.3 h.1 h.2 h.4 (place_runs a (span_of a).first None (beside_field m.typed (mode_in m a)) h.0))
      eval_runs (index s a x) h = fetched_runs (index s a x) 0 (at_index s.first a x) (index_op s.first None (beside_field m.typed (mode_in m (index s a x))) a x) (omega arith)
          (index_by (is_array (K a)) a None (beside_field m.typed (mode_in m (index s a x))) s.first (K x) (P s.first a) (E a) (E x) (L s.first None None a) (X a) (X x) (PlaceSuits ctx a) (Suits ctx a) h.0.0 h.0.2 (λ w. place_runs a s.first None None w) (λ w. eval_runs a w) (eval_runs x h.0.1))
          (index_cell (is_array (K a)) (global_of (target m.typed None a)) 0 0) h.1
      eval_runs (field s a Dot x) h = fetched_runs (field s a Dot x) 0 (P s.first a >>= λ p. give (field_in (field_place_named m.typed (N x.site.token)) p)) (L s.first (Some (field_place_named m.typed (N x.site.token))) (beside_field m.typed (mode_in m (field s a Dot x))) a) (omega arith)
          (dot_runs m z scope (target m.typed (Some (field_place_named m.typed (N x.site.token))) a) None (beside_field m.typed (mode_in m (field s a Dot x))) (field_place_named m.typed (N x.site.token)) (P s.first a) (L s.first (Some (field_place_named m.typed (N x.site.token))) (beside_field m.typed (mode_in m (field s a Dot x))) a)
          (place_runs a s.first (Some (field_place_named m.typed (N x.site.token))) (beside_field m.typed (mode_in m (field s a Dot x))) h.0)) h.2 h.1
      eval_runs (field s a Arrow x) h = fetched_runs (field s a Arrow x) 1 (arrow s.first a (field_place_named m.typed (N x.site.token))) (λ i r. pointee_code r s.first (X a i r)) (omega arith)
          (arrow_runs m z scope (K a) None (beside_field m.typed (mode_in m (field s a Arrow x))) (field_place_named m.typed (N x.site.token)) s.first (E a) (X a) h.0.1 (eval_runs a h.0.0)) refl h.1
      eval_runs (unary s Negate a) h = entered_runs m z scope (promoted (K a)) 1 (unary_value m s Negate a (E a)) (λ i r. X a i r ++ Op.Negate (width_of (promoted (K a))) i i (at_site s.first) ∷ []) (omega arith) (negate_runs (K a) a s (E a) (X a) refl h.1 (eval_runs a h.0))
      eval_runs (unary s Not a) h = entered_runs m z scope int 5 (unary_value m s Not a (E a)) (λ i r. X a i r ++ (truth_code (is_reference (K a)) i r ++ Op.IsFalse i i ∷ [])) (omega arith) (denied_runs m z scope (K a) a (E a) (X a) refl h.1 (eval_runs a h.0))
      eval_runs (unary s Complement a) h = entered_runs m z scope (promoted (K a)) 1 (unary_value m s Complement a (E a)) (λ i r. X a i r ++ Op.Complement i i ∷ []) (omega arith) (complement_runs (K a) a s (E a) (X a) h.1 (eval_runs a h.0))
      eval_runs (unary s Dereference a) h = fetched_runs (unary s Dereference a) 1 (pointee_place m.typed s.first a (E a)) (λ i r. pointee_code r s.first (X a i r)) (omega arith)
          (pointee_place_runs m z scope (K a) None (beside_field m.typed (mode_in m (unary s Dereference a))) s.first (E a) (X a) h.1 (eval_runs a h.0)) refl h.2
      eval_runs (binary s o at a b) h = entered_runs m z scope (binary_result (class_of o) (K a) (K b)) 7 (binary_value m.typed at o a b (E a) (E b)) (λ i r. binary_code ctx i r at o a b (X a i r) (λ i2 r2. X b i2 r2)) (omega arith)
          (operator_runs o a b at (E a) (E b) (X a) (X b) h.2 (eval_runs a h.0) (eval_runs b h.1))

      pub all_run : (kinds : List Kind) (all : Arguments) → ArgumentsSuit ctx kinds all → ArgumentsAs m z scope kinds (eval_all on_call m kinds all) (λ i r. arguments_code ctx i r kinds all)
      all_run [] no_arguments h = no_arguments_run m z scope
      all_run [] (argument a rest) h = absurd h
      all_run (kind ∷ kinds) no_arguments h = absurd h
      all_run (kind ∷ kinds) (argument a rest) h = argument_runs m z scope kind (K a) kinds a (E a) (X a) (eval_all on_call m kinds rest) (λ i r. arguments_code ctx i r kinds rest) refl h.1.0 h.1.1 h.1.2 (eval_runs a h.0) (all_run kinds rest h.2)

      refs_run : (n : ℕ) (all : Arguments) → ReferencesSuit ctx n all → RefsAs m z scope n (eval_all on_call m [] all) (λ i r. arguments_code ctx i r [] all)
      refs_run zero no_arguments h = no_refs_run m z scope
      refs_run zero (argument a rest) h = absurd h
      refs_run (suc n) no_arguments h = absurd h
      refs_run (suc n) (argument a rest) h = ref_run m z scope n a (E a) (X a) (eval_all on_call m [] rest) (λ i r. arguments_code ctx i r [] rest) h.1 (eval_runs a h.0) (refs_run n rest h.2)

      pub place_runs : (e : Expression) (site : Site) (f guard : Option ℕ) → PlaceSuits ctx e → PlaceAs m z scope (target m.typed f e) f guard 0 (P site e) (L site f guard e)
      place_runs (identifier s x) site f guard h = entered_place m z scope (targets.named_target (N x.site.token) (own_field f 0)) f guard 7 (give (place_named (N x.site.token))) (λ i r. []) (omega arith) (named_place_runs f guard (N x.site.token))
      place_runs (parentheses s a) site f guard h = entered_place m z scope (target m.typed f a) f guard 0 (P site a) (L site f guard a) (omega arith) (place_runs a site f guard h)
      place_runs (index s a x) site f guard h = entered_place m z scope (target m.typed f (index s a x)) f guard 0 (at_index site a x) (index_op site f guard a x) (omega arith)
          (index_by (is_array (K a)) a f guard site (K x) (P site a) (E a) (E x) (L site None None a) (X a) (X x) (PlaceSuits ctx a) (Suits ctx a) h.0 h.2 (λ w. place_runs a site None None w) (λ w. eval_runs a w) (eval_runs x h.1))
      place_runs (field s a Dot x) site f guard h = entered_place m z scope (target m.typed (Some (own_field f (field_place_named m.typed (N x.site.token)))) a) f guard 0 (P site a >>= λ p. give (field_in (field_place_named m.typed (N x.site.token)) p)) (L site (Some (own_field f (field_place_named m.typed (N x.site.token)))) guard a) (omega arith)
          (dot_runs m z scope (target m.typed (Some (own_field f (field_place_named m.typed (N x.site.token)))) a) f guard (field_place_named m.typed (N x.site.token)) (P site a) (L site (Some (own_field f (field_place_named m.typed (N x.site.token)))) guard a)
          (place_runs a site (Some (own_field f (field_place_named m.typed (N x.site.token)))) guard h))
      place_runs (field s a Arrow x) site f guard h = entered_place m z scope (in_object (own_field f (field_place_named m.typed (N x.site.token)))) f guard 1 (arrow site a (field_place_named m.typed (N x.site.token))) (λ i r. pointee_code r site (X a i r)) (omega arith)
          (arrow_runs m z scope (K a) f guard (field_place_named m.typed (N x.site.token)) site (E a) (X a) h.1 (eval_runs a h.0))
      place_runs (unary s Dereference a) site f guard h = entered_place m z scope (in_object (own_field f 0)) f guard 1 (pointee_place m.typed site a (E a)) (λ i r. pointee_code r site (X a i r)) (omega arith)
          (pointee_place_runs m z scope (K a) f guard site (E a) (X a) h.1 (eval_runs a h.0))
      place_runs _ site f guard h = none_runs f guard
