-- Where no fault is noted, what is assigned, initialised, passed and returned agrees, statements meet the rules, the
-- types that are written name known structs and lock paths, and all expressions are judged in their scopes: one walk.
use Rattle.sharc_ctype_laws.proofs.{Imports.{passed, parameters_named, named_at, argument, no_arguments, at, Some, List, None, Option, [], ap, cond, drop, true, false, length, refl, subst, ℕ, ◌++◌, ◌+◌, ◌∙◌, ◌∷◌, ◌≡◌, both, AllByRecursion, back, front, lvalue, value, Declaration, Expression, First, Head, Item, Local, Right, Simple, Statement, Statements, statement, expressions, in_arguments, function, in_right, in_simple, Arguments, Function, assign, declares, does, does_call, malloc, no_statements, nothing, declared, Kind, WrittenType, declared_kind, same_kind, void, met, look_up, Need, unagreed, is_fine, wanted, BadForm, Scope, Role, result, count, count_notes, notes_of, notes_of_all, place_kind, type_of, initial_notes, head_notes, fields_notes, function_notes, in_body, item_notes, items_notes, parameters_notes, Resolution, declarations_in, declarations_of, functions_in, kind_at, variable, Around, after, behind_first, first_locals, first_notes as first_part_notes, in_head, local_notes, locals_in, locals_in_all, looping, notes_in, notes_in_all, opened, return_notes, returned_as, right_notes, simple_notes, step_notes, tests_notes, wanted_by, with_names, IsFair, argument_transfers, transfers, first_transfers, function_transfers, gives, local_transfers, right_transfers, simple_transfers, statement_transfers, statements_transfers, Placing, places_in, places_in_all, places_in_first, places_in_local, places_of, places_of_all, IsNamedType, types_in, types_in_arguments, types_in_declarations, types_in_first, types_in_head, types_in_item, types_in_items, types_in_local, types_in_option, types_in_right, types_in_simple, types_in_statement, types_in_statements, in_option, sym, IfSome, true≢false, is_aggregate, test_notes, IsInteger, IsHeld, MeetsRight, MeetsSimple, MeetsLocal, MeetsTest, MeetsFirst, MeetsHead, MeetsReturn, Meets, AllMeet, MeetsRules, type_notes, IsPlain, Named, Heads, heads_notes, structs_in, globals_in, IsItself, NameThemselves, each}, Fair.{fair_call, fair_spawn, right_agrees}, FileScene.{fields_are, body_scene}, Held.{Held, left, right, not_wrong, well, head_named}, Judged.{judged, met_by, lvalue_by, argument_agrees, call_callee}, Scenes.{IsSolid, IsField, IsScene, type_fine, need_fits, need_met, type_solid}, KindLemmas.{integer_is, scalar_is, one_kind}, Ruled.{lvalue_not_null, held_scalar, held_object}, Plain.{Plain, plain_type, plain_parameters}, Themselves.{Own, own_fields, own_parameters, itself as all_themselves, heads_named, from_none, StructNamed, GlobalNamed, FunctionNamed, AreNumbered}, TypesNamed.type_named, Walked.{IsSeen, seen, AreDeclared, scene_with, declared_meant, local_scene, head_scene, after_scene, JudgedAt, placed}, Standings.lvalue_held}
use Rattle.sharc_tree.specs.Tree as tree
use Rattle.sharc_ctype.specs.Transfers.{Transfer, in_option as given_in}

-- ---- an expression: what is passed in it, the types that are written in it, and it and all below it

record Told (r : Resolution) (scope : Scope) (ts : List Transfer) (ws : List WrittenType) (es : List Expression) : Type 0 where
  fair : AllByRecursion (IsFair r) ts
  named : AllByRecursion (IsNamedType r) ws
  seen : AllByRecursion (IsSeen r scope) es

none : {r : Resolution} {scope : Scope} → Told r scope [] [] []
none = record { fair = tt; named = tt; seen = tt }

two : {r : Resolution} {scope : Scope} {ts us : List Transfer} {ws vs : List WrittenType} {es ds : List Expression} → Told r scope ts ws es → Told r scope us vs ds → Told r scope (ts ++ us) (ws ++ vs) (es ++ ds)
two {r} {scope} {ts} {us} {ws} {vs} {es} {ds} h k = record { fair = both (IsFair r) ts us h.fair k.fair; named = both (IsNamedType r) ws vs h.named k.named; seen = both (IsSeen r scope) es ds h.seen k.seen }

-- with what it gives, with a type, and with itself
given : {r : Resolution} {scope : Scope} {ts : List Transfer} {ws : List WrittenType} {es : List Expression} (t : Transfer) → IsFair r t → Told r scope ts ws es → Told r scope (t ∷ ts) ws es
given t is h = record { fair = (is, h.fair); named = h.named; seen = h.seen }

typed : {r : Resolution} {scope : Scope} {ts : List Transfer} {ws : List WrittenType} {es : List Expression} (w : WrittenType) → IsNamedType r w → Told r scope ts ws es → Told r scope ts (w ∷ ws) es
typed w is h = record { fair = h.fair; named = (is, h.named); seen = h.seen }

itself : {r : Resolution} {scope : Scope} {ts : List Transfer} {ws : List WrittenType} {es : List Expression} (e : Expression) → IsSeen r scope e → Told r scope ts ws es → Told r scope ts ws (e ∷ es)
itself e is h = record { fair = h.fair; named = h.named; seen = (is, h.seen) }

passing : {r : Resolution} {scope : Scope} {ts : List Transfer} {ws : List WrittenType} {es : List Expression} (us : List Transfer) → AllByRecursion (IsFair r) us → Told r scope ts ws es → Told r scope (us ++ ts) ws es
passing {r} {scope} {ts} us is h = record { fair = both (IsFair r) us ts is h.fair; named = h.named; seen = h.seen }

mutual
  below : (r : Resolution) (scope : Scope) → IsScene r scope → (e : Expression) → Held r (notes_of scope e) → Told r scope (transfers r e) (types_in e) (expressions e)
  below r scope scene (tree.parentheses s a) h = itself (tree.parentheses s a) (seen r scope scene (tree.parentheses s a) h) (below r scope scene a h)
  below r scope scene (tree.call s f all) h =
      let c = call_callee r scope scene s f all h in
      itself (tree.call s f all) (seen r scope scene (tree.call s f all) h)
      (passing (passed (parameters_named r (named_at r f.site.token)) all) (fair_call r scope scene (parameters_named r (named_at r f.site.token)) c.parameters all c.names (subst (λ w. Held r (notes_of_all scope w all)) c.wants (right _ _ _ h)))
      (below_all r scope scene (wanted (count all) (look_up scope.names f.text)) all (right _ _ _ h)))
  below r scope scene (tree.spawn s f a) h = itself (tree.spawn s f a) (seen r scope scene (tree.spawn s f a) h) (passing (passed (parameters_named r (named_at r f.site.token)) (argument a no_arguments)) (fair_spawn r scope scene s f a h) (below r scope scene a (left _ _ _ (left _ _ _ (left _ _ _ h)))))
  below r scope scene (tree.on_value s w a) h = itself (tree.on_value s w a) (seen r scope scene (tree.on_value s w a) h) (below r scope scene a (left _ _ _ h))
  below r scope scene (tree.on_place s w a) h = itself (tree.on_place s w a) (seen r scope scene (tree.on_place s w a) h) (below r scope scene a (lvalue_held r scope a (left _ _ _ (left _ _ _ h)) (right _ _ _ (left _ _ _ h))))
  below r scope scene (tree.cast s t a) h =
      itself (tree.cast s t a) (seen r scope scene (tree.cast s t a) h)
      (typed t (type_named r scope scene [] tt Role.Cast t (left _ _ _ (left _ _ _ (left _ _ _ h)))) (below r scope scene a (lvalue_held r scope a (right _ _ _ (left _ _ _ (left _ _ _ h))) (right _ _ _ (left _ _ _ h)))))
  below r scope scene (tree.index s a i) h =
      itself (tree.index s a i) (seen r scope scene (tree.index s a i) h) (two (below r scope scene a (left _ _ _ (left _ _ _ (left _ _ _ h)))) (below r scope scene i (right _ _ _ (left _ _ _ h))))
  below r scope scene (tree.field s a w n) h = itself (tree.field s a w n) (seen r scope scene (tree.field s a w n) h) (below r scope scene a (left _ _ _ (left _ _ _ h)))
  below r scope scene (tree.unary s o a) h = itself (tree.unary s o a) (seen r scope scene (tree.unary s o a) h) (below r scope scene a (left _ _ _ h))
  below r scope scene (tree.binary s o at a b) h =
      itself (tree.binary s o at a b) (seen r scope scene (tree.binary s o at a b) h) (two (below r scope scene a (left _ _ _ (left _ _ _ (left _ _ _ (left _ _ _ h))))) (below r scope scene b (right _ _ _ (left _ _ _ (left _ _ _ h)))))
  below r scope scene k h = record { fair = tt; named = tt; seen = (seen r scope scene k h, tt) }

  below_all : (r : Resolution) (scope : Scope) → IsScene r scope → (want : List Kind) (all : Arguments) → Held r (notes_of_all scope want all) → Told r scope (argument_transfers r all) (types_in_arguments all) (in_arguments all)
  below_all r scope scene want no_arguments h = none
  below_all r scope scene want (argument a rest) h = two (below r scope scene a (left _ _ _ (left _ _ _ (left _ _ _ h)))) (below_all r scope scene (drop 1 want) rest (right _ _ _ h))

-- ---- parts of statements, which meet a rule

record Part (r : Resolution) (scope : Scope) (M : Type 0) (ts : List Transfer) (ws : List WrittenType) (es : List Expression) : Type 0 where
  told : Told r scope ts ws es
  meets : M

of_count : (r : Resolution) (scope : Scope) → IsScene r scope → (n : Option Expression) → Held r (count_notes scope n) → Part r scope (IfSome n (λ e. IsInteger (kind_at r e))) (given_in (transfers r) n) (types_in_option types_in n) (in_option expressions n)
of_count r scope scene None h = record { told = none; meets = tt }
of_count r scope scene (Some e) h = record { told = below r scope scene e (left _ _ _ h); meets = integer_is (kind_at r e) (met_by r scope Need.Integer e (judged r scope scene e (left _ _ _ h)) (right _ _ _ h)).fits }

of_right : (r : Resolution) (scope : Scope) → IsScene r scope → (want : Option Kind) (x : Right) → Held r (right_notes scope want x) → Part r scope (MeetsRight r x) (right_transfers r x) (types_in_right x) (in_right x)
of_right r scope scene want (value e) h = record {
  told = below r scope scene e (left _ _ _ (left _ _ _ h));
  meets = scalar_is (kind_at r e) (met_by r scope Need.Value e (judged r scope scene e (left _ _ _ (left _ _ _ h))) (right _ _ _ (left _ _ _ h))).fits;
}
of_right r scope scene want (malloc s n w) h =
    let c = of_count r scope scene n (left _ _ _ (left _ _ _ h)) in
    record {
      told = record { fair = c.told.fair; named = both (IsNamedType r) (types_in_option types_in n) (w ∷ []) c.told.named (type_named r scope scene [] tt Role.Made w (right _ _ _ (left _ _ _ h)), tt); seen = c.told.seen };
      meets = c.meets;
    }

of_simple : (r : Resolution) (scope : Scope) → IsScene r scope → (x : Simple) → Held r (simple_notes scope x) → Part r scope (MeetsSimple r x) (simple_transfers r x) (types_in_simple x) (in_simple x)
of_simple r scope scene (assign s u x) h =
    let held = lvalue_held r scope u (left _ _ _ (left _ _ _ (left _ _ _ h))) (right _ _ _ (left _ _ _ (left _ _ _ h))) in
    let j = judged r scope scene u held in
    let l = lvalue_by r scope u j (right _ _ _ (left _ _ _ (left _ _ _ h))) in
    let f = need_fits r scope.structs Need.Value u (kind_at r u) (place_kind scope.names u (type_of scope u)) l.kind j.valued (right _ _ _ (left _ _ _ h)) in
    let m = need_met Need.Value (kind_at r u) (place_kind scope.names u (type_of scope u)) l.kind f in
    let x_part = of_right r scope scene _ x (right _ _ _ h) in
    let agrees_with = right_agrees r scope scene (kind_at r u) (met Need.Value (place_kind scope.names u (type_of scope u))) x m (right _ _ _ h) in
    record {
      told = two (given (record { receiver = lvalue u; source = x }) agrees_with (below r scope scene u held)) x_part.told;
      meets = (l.lvalue, held_scalar (kind_at r u) (scalar_is (kind_at r u) f) (lvalue_not_null r u (kind_at r u) j.has l.lvalue), x_part.meets);
    }
of_simple r scope scene (does_call e) h = record { told = below r scope scene e h; meets = tt }

of_initial : (r : Resolution) (scope : Scope) → IsScene r scope → (d : Declaration) (x : Option Right) → is_fine scope.structs Role.Local d.written ≡ true → IsSolid scope.structs (declared_kind d.written) → Held r (initial_notes scope d x)
    → Part r scope (IfSome x (λ y. IsHeld (declared_kind d.written) × MeetsRight r y)) (given_in (λ y. gives (variable d) y ++ right_transfers r y) x) (types_in_option types_in_right x) (in_option in_right x)
of_initial r scope scene d None fine solid h = record { told = none; meets = tt }
of_initial r scope scene d (Some x) fine solid h =
    let x_part = of_right r scope scene _ x (right _ _ _ h) in
    let agrees_with = right_agrees r scope scene (declared_kind d.written) (wanted_by (is_fine scope.structs Role.Local d.written) d.written) x (ap (λ b. wanted_by b d.written) fine) (right _ _ _ h) in
    record {
      told = given (record { receiver = variable d; source = x }) agrees_with x_part.told;
      meets = (held_object scope.structs _ _ solid (not_wrong _ (is_aggregate (declared_kind d.written)) d.name.site.token BadForm (left _ _ _ h)), x_part.meets);
    }

of_test : (r : Resolution) (scope : Scope) → IsScene r scope → (e : Expression) → Held r (test_notes scope e) → Part r scope (MeetsTest r e) (transfers r e) (types_in e) (expressions e)
of_test r scope scene e h = record { told = below r scope scene e (left _ _ _ h); meets = scalar_is (kind_at r e) (met_by r scope Need.Value e (judged r scope scene e (left _ _ _ h)) (right _ _ _ h)).fits }

of_tests : (r : Resolution) (scope : Scope) → IsScene r scope → (e : Option Expression) → Held r (tests_notes scope e) → Part r scope (IfSome e (MeetsTest r)) (given_in (transfers r) e) (types_in_option types_in e) (in_option expressions e)
of_tests r scope scene None h = record { told = none; meets = tt }
of_tests r scope scene (Some e) h = of_test r scope scene e h

of_step : (r : Resolution) (scope : Scope) → IsScene r scope → (x : Option Simple) → Held r (step_notes scope x) → Part r scope (IfSome x (MeetsSimple r)) (given_in (simple_transfers r) x) (types_in_option types_in_simple x) (in_option in_simple x)
of_step r scope scene None h = record { told = none; meets = tt }
of_step r scope scene (Some x) h = of_simple r scope scene x h

of_return : (r : Resolution) (around : Around) (scope : Scope) → IsScene r scope → (w : WrittenType) (word : ℕ) (e : Option Expression) → around.result ≡ declared_kind w → Held r (return_notes around scope word e)
    → Part r scope (MeetsReturn r w e) (given_in (λ x. gives (result w) (value x) ++ transfers r x) e) (types_in_option types_in e) (in_option expressions e)
of_return r around scope scene w word None is h = record { told = none; meets = sym is ∙ one_kind around.result void (well _ (same_kind around.result void) word BadForm h) }
of_return r around scope scene w word (Some e) is h =
    let held = right _ _ _ (left _ _ _ (left _ _ _ h)) in
    let no_void = not_wrong _ (same_kind around.result void) word BadForm (left _ _ _ (left _ _ _ (left _ _ _ h))) in
    let returned : returned_as around.result ≡ Some (declared_kind w) = ap (λ b. cond b None (Some around.result)) no_void ∙ ap Some is in
    let m = met_by r scope Need.Value e (judged r scope scene e held) (right _ _ _ (left _ _ _ h)) in
    record {
      told = given (record { receiver = result w; source = value e }) (argument_agrees r scope (Some (declared_kind w)) e m (subst (λ g. Held r (unagreed g e (met Need.Value (type_of scope e)))) returned (right _ _ _ h))) (below r scope scene e held);
      meets = (λ v. true≢false (sym (ap (λ k. same_kind k void) (is ∙ v)) ∙ no_void), scalar_is (kind_at r e) m.fits);
    }

-- ---- statements: the rule that they meet, what is given, the types that are written, the expressions with their
-- scopes, and the locals, each named by its name and no struct or mutex

abbrev pub IsLocal : Resolution → Declaration → Type 0
IsLocal r d = Own r Named.Variable d × Plain d

pub record Stated (r : Resolution) (M : Type 0) (ts : List Transfer) (ws : List WrittenType) (ps : List Placing) (ds : List Declaration) : Type 0 where
  pub fair : AllByRecursion (IsFair r) ts
  pub named : AllByRecursion (IsNamedType r) ws
  pub places : AllByRecursion (JudgedAt r) ps
  pub meets : M
  pub locals : AllByRecursion (IsLocal r) ds

nothing_stated : {r : Resolution} {M : Type 0} → M → Stated r M [] [] [] []
nothing_stated m = record { fair = tt; named = tt; places = tt; meets = m; locals = tt }

joined : {r : Resolution} {M N : Type 0} {ts us : List Transfer} {ws vs : List WrittenType} {ps qs : List Placing} {ds es : List Declaration} → Stated r M ts ws ps ds → Stated r N us vs qs es → Stated r (M × N) (ts ++ us) (ws ++ vs) (ps ++ qs) (ds ++ es)
joined {r} {M} {N} {ts} {us} {ws} {vs} {ps} {qs} {ds} {es} h k = record {
  fair = both (IsFair r) ts us h.fair k.fair;
  named = both (IsNamedType r) ws vs h.named k.named;
  places = both (JudgedAt r) ps qs h.places k.places;
  meets = (h.meets, k.meets);
  locals = both (IsLocal r) ds es h.locals k.locals;
}

there : {r : Resolution} {scope : Scope} {M : Type 0} {ts : List Transfer} {ws : List WrittenType} {es : List Expression} → Part r scope M ts ws es → Stated r M ts ws (at scope es) []
there {r} {scope} {M} {ts} {ws} {es} h = record { fair = h.told.fair; named = h.told.named; places = placed r scope es h.told.seen; meets = h.meets; locals = tt }

of_local : (r : Resolution) (around : Around) (scope : Scope) → IsScene r scope → (l : Local) → AreDeclared r (l.declaration ∷ []) → Held r (local_notes around scope l) → Stated r (MeetsLocal r l) (local_transfers r l) (types_in_local l) (places_in_local around scope l) (l.declaration ∷ [])
of_local r around scope scene l d h =
    let inner : Scope = with_names scope (declared around.block l.declaration scope.names) in
    let initial = of_initial r inner (local_scene r around scope scene l d.0 h) l.declaration l.initial (type_fine r scope [] Role.Local l.declaration.written (left _ _ _ (left _ _ _ h)))
    (type_solid r scope [] Role.Local l.declaration.written refl (left _ _ _ (left _ _ _ h))) (right _ _ _ h) in
    record {
      fair = initial.told.fair;
      named = (type_named r scope scene [] tt Role.Local l.declaration.written (left _ _ _ (left _ _ _ h)), initial.told.named);
      places = placed r inner (in_option in_right l.initial) initial.told.seen;
      meets = initial.meets;
      locals = ((head_named _ _ _ _ (right _ (type_notes scope [] Role.Local l.declaration.written) _ (left _ _ _ h)), plain_type r scope [] Role.Local l.declaration.written refl refl (left _ _ _ (left _ _ _ h))), tt);
    }

of_first : (r : Resolution) (around : Around) (scope : Scope) → IsScene r scope → (f : First) → AreDeclared r (first_locals f) → Held r (first_part_notes around scope f) → Stated r (MeetsFirst r f) (first_transfers r f) (types_in_first f) (places_in_first around scope f) (first_locals f)
of_first r around scope scene nothing d h = nothing_stated tt
of_first r around scope scene (declares l) d h = of_local r around scope scene l d h
of_first r around scope scene (does x) d h = there (of_simple r scope scene x h)

of_head : (r : Resolution) (around : Around) (scope : Scope) → IsScene r scope → (x : Head) → AreDeclared r (first_locals x.first) → Held r (head_notes around scope x)
    → Stated r (MeetsHead r x) (first_transfers r x.first ++ given_in (transfers r) x.test ++ given_in (simple_transfers r) x.step) (types_in_head x)
    (places_in_first around scope x.first ++ at (in_head around scope x) (in_option expressions x.test ++ in_option in_simple x.step)) (first_locals x.first)
of_head r around scope scene x d h =
    let inner = head_scene r around scope scene x d h in
    let first = of_first r around scope scene x.first d (left _ _ _ (left _ _ _ h)) in
    let test = of_tests r (in_head around scope x) inner x.test (right _ _ _ (left _ _ _ h)) in
    let step = of_step r (in_head around scope x) inner x.step (right _ _ _ h) in
    record {
      fair = both (IsFair r) (first_transfers r x.first ++ given_in (transfers r) x.test) (given_in (simple_transfers r) x.step) (both (IsFair r) (first_transfers r x.first) (given_in (transfers r) x.test) first.fair test.told.fair) step.told.fair;
      named = both (IsNamedType r) (types_in_first x.first ++ types_in_option types_in x.test) (types_in_option types_in_simple x.step) (both (IsNamedType r) (types_in_first x.first) (types_in_option types_in x.test) first.named test.told.named) step.told.named;
      places = both (JudgedAt r) (places_in_first around scope x.first) _ first.places (placed r (in_head around scope x) _ (both _ (in_option expressions x.test) (in_option in_simple x.step) test.told.seen step.told.seen));
      meets = (first.meets, test.meets, step.meets);
      locals = first.locals;
    }

mutual
  of_statement : (r : Resolution) (w : WrittenType) (around : Around) (scope : Scope) → IsScene r scope → around.result ≡ declared_kind w → (a : Statement) → AreDeclared r (locals_in a) → Held r (notes_in around scope a)
      → Stated r (Meets r w around.in_loop a) (statement_transfers r w a) (types_in_statement a) (places_in around scope a) (locals_in a)
  of_statement r w around scope scene is (tree.block s all) d h = of_statements r w (opened around scope.names) scope scene is all d h
  of_statement r w around scope scene is (tree.declare s l) d h = of_local r around scope scene l d h
  of_statement r w around scope scene is (tree.simple s x) d h = there (of_simple r scope scene x h)
  of_statement r w around scope scene is (tree.return s e) d h = there (of_return r around scope scene w s.first.token e is h)
  of_statement r w around scope scene is (tree.if_then s e a) d h = joined (there (of_test r scope scene e (left _ _ _ h))) (of_statement r w (opened around scope.names) scope scene is a d (right _ _ _ h))
  of_statement r w around scope scene is (tree.if_then_else s e a b) d h =
      let one = of_statement r w (opened around scope.names) scope scene is a (front _ (locals_in a) (locals_in b) d) (right _ _ _ (left _ _ _ h)) in
      let two_parts = joined (joined (there (of_test r scope scene e (left _ _ _ (left _ _ _ h)))) one) (of_statement r w (opened around scope.names) scope scene is b (back _ (locals_in a) (locals_in b) d) (right _ _ _ h)) in
      record { fair = two_parts.fair; named = two_parts.named; places = two_parts.places; meets = (two_parts.meets.0.0, two_parts.meets.0.1, two_parts.meets.1); locals = two_parts.locals }
  of_statement r w around scope scene is (tree.while s e a) d h = joined (there (of_test r scope scene e (left _ _ _ h))) (of_statement r w (looping (opened around scope.names)) scope scene is a d (right _ _ _ h))
  of_statement r w around scope scene is (tree.for s x a) d h =
      let d1 = front _ (first_locals x.first) (locals_in a) d in
      joined (of_head r (opened around scope.names) scope scene x d1 (left _ _ _ h))
      (of_statement r w (looping (opened around (behind_first (opened around scope.names) scope.names x.first))) (in_head (opened around scope.names) scope x) (head_scene r (opened around scope.names) scope scene x d1 (left _ _ _ h)) is a
      (back _ (first_locals x.first) (locals_in a) d) (right _ _ _ h))
  of_statement r w around scope scene is (tree.empty s) d h = nothing_stated tt
  of_statement r w around scope scene is (tree.jump s j) d h = nothing_stated (well _ around.in_loop s.first.token BadForm h)

  of_statements : (r : Resolution) (w : WrittenType) (around : Around) (scope : Scope) → IsScene r scope → around.result ≡ declared_kind w → (all : Statements) → AreDeclared r (locals_in_all all) → Held r (notes_in_all around scope all)
      → Stated r (AllMeet r w around.in_loop all) (statements_transfers r w all) (types_in_statements all) (places_in_all around scope all) (locals_in_all all)
  of_statements r w around scope scene is no_statements d h = nothing_stated tt
  of_statements r w around scope scene is (statement a rest) d h =
      let d1 = front _ (locals_in a) (locals_in_all rest) d in
      joined (of_statement r w around scope scene is a d1 (left _ _ _ h))
      (of_statements r w around (with_names scope (after around scope.names a)) (after_scene r around scope scene a d1 (left _ _ _ h)) is rest (back _ (locals_in a) (locals_in_all rest) d) (right _ _ _ h))

pub of_function : (r : Resolution) (file : Scope) → IsScene r file → (f : Function) → AreDeclared r (declarations_of (tree.function f)) → Held r (function_notes file f)
    → Stated r (MeetsRules r f) (function_transfers r f) (types_in_statements f.statements) (places_of file f) (locals_in_all f.statements)
of_function r file scene f d h =
    of_statements r f.result (record { result = declared_kind f.result; in_loop = false; block = length file.names }) (in_body file f) (body_scene r file scene f (front _ f.parameters (locals_in_all f.statements) d) h) refl f.statements
    (back _ f.parameters (locals_in_all f.statements) d) (right _ _ _ (left _ _ _ h))

-- items

named_fields : (r : Resolution) (scope : Scope) → IsScene r scope → (all earlier : List Declaration) → AllByRecursion (IsField r scope.structs) all → (rest : List Declaration) → Held r (fields_notes scope all earlier rest) → AllByRecursion (IsNamedType r) (types_in_declarations rest)
named_fields r scope scene all earlier fields [] h = tt
named_fields r scope scene all earlier fields (d ∷ rest) h = (type_named r scope scene all fields Role.Field d.written (left _ _ _ (left _ _ _ h)), named_fields r scope scene all (earlier ++ d ∷ []) fields rest (right _ _ _ h))

named_parameters : (r : Resolution) (block n : ℕ) (scope : Scope) → IsScene r scope → (list : List Declaration) → AreDeclared r list → Held r (parameters_notes block n scope list) → AllByRecursion (IsNamedType r) (types_in_declarations list)
named_parameters r block n scope scene [] d h = tt
named_parameters r block n scope scene (x ∷ rest) d h =
    let t = left _ _ _ (left _ _ _ (left _ _ _ h)) in
    let m = declared_meant r scope.structs block x scope.names scene.names d.0 (type_solid r scope [] Role.Parameter x.written refl t) in
    (type_named r scope scene [] tt Role.Parameter x.written t, named_parameters r block (n + 1) (with_names scope (declared block x scope.names)) (scene_with r scope scene (declared block x scope.names) m) rest d.1 (right _ _ _ h))

named_item : (r : Resolution) (file : Scope) → IsScene r file → (i : Item) → AreDeclared r (declarations_of i) → Held r (item_notes file i) → AllByRecursion (IsNamedType r) (types_in_item i)
named_item r file scene (tree.structure s) d h = named_fields r file scene s.fields [] (fields_are r file s.fields [] s.fields d h) s.fields h
named_item r file scene (tree.global g) d h = (type_named r file scene [] tt Role.Global g.declaration.written (left _ _ _ (left _ _ _ h)), tt)
named_item r file scene (tree.function f) d h =
    let d1 = front _ f.parameters (locals_in_all f.statements) d in (
      type_named r file scene [] tt Role.Result f.result (left _ _ _ (left _ _ _ (left _ _ _ h))),
      both (IsNamedType r) (types_in_declarations f.parameters) (types_in_statements f.statements) (named_parameters r (length file.names) 0 file scene f.parameters d1 (right _ _ _ (left _ _ _ (left _ _ _ h))))
          (of_function r file scene f d h).named,
    )

pub named_items : (r : Resolution) (file : Scope) → IsScene r file → (items : List Item) → AreDeclared r (declarations_in items) → Held r (items_notes file items) → AllByRecursion (IsNamedType r) (types_in_items items)
named_items r file scene [] d h = tt
named_items r file scene (i ∷ rest) d h =
    both (IsNamedType r) (types_in_item i) (types_in_items rest) (named_item r file scene i (front _ (declarations_of i) (declarations_in rest) d) (left _ _ _ h)) (named_items r file scene rest (back _ (declarations_of i) (declarations_in rest) d) (right _ _ _ h))

pub items_places : (r : Resolution) (file : Scope) → IsScene r file → (items : List Item) → AreDeclared r (declarations_in items) → Held r (items_notes file items) → AllByRecursion (JudgedAt r) (places_of_all file (functions_in items))
items_places r file scene [] d h = tt
items_places r file scene (tree.structure s ∷ rest) d h = items_places r file scene rest (back _ s.fields (declarations_in rest) d) (right _ _ _ h)
items_places r file scene (tree.global g ∷ rest) d h = items_places r file scene rest d (right _ _ _ h)
items_places r file scene (tree.function f ∷ rest) d h =
    both (JudgedAt r) (places_of file f) (places_of_all file (functions_in rest)) (of_function r file scene f (front _ (declarations_of (tree.function f)) (declarations_in rest) d) (left _ _ _ h)).places
    (items_places r file scene rest (back _ (declarations_of (tree.function f)) (declarations_in rest) d) (right _ _ _ h))

pub plain_function : (r : Resolution) (file : Scope) → IsScene r file → (f : Function) → AreDeclared r (declarations_of (tree.function f)) → Held r (function_notes file f) → IsPlain f
plain_function r file scene f d h = (
  both Plain f.parameters (locals_in_all f.statements) (plain_parameters r (length file.names) 0 file f.parameters (right _ _ _ (left _ _ _ (left _ _ _ h))))
      (each (IsLocal r) Plain (λ d own. own.1) (locals_in_all f.statements) (of_function r file scene f d h).locals),
  plain_type r file [] Role.Result f.result refl refl (left _ _ _ (left _ _ _ (left _ _ _ h))),
)

-- each declaration is named by its name

record AreItemsNamed (r : Resolution) (rest : List Item) : Type 0 where
  fields : AllByRecursion (λ s. AllByRecursion (IsItself r Named.Field) s.fields) (structs_in rest)
  variables : AllByRecursion (λ f. AllByRecursion (IsItself r Named.Variable) (f.parameters ++ locals_in_all f.statements)) (functions_in rest)

items_named : (r : Resolution) (file : Scope) → IsScene r file → (rest : List Item) → AreDeclared r (declarations_in rest) → Held r (items_notes file rest) → AreItemsNamed r rest
items_named r file scene [] d h = record { fields = tt; variables = tt }
items_named r file scene (tree.structure s ∷ rest) d h =
    let later = items_named r file scene rest (back _ s.fields (declarations_in rest) d) (right _ (item_notes file (tree.structure s)) (items_notes file rest) h) in
    record { fields = (all_themselves r Named.Field s.fields (own_fields r file s.fields [] s.fields (left _ (item_notes file (tree.structure s)) (items_notes file rest) h)) (front _ s.fields (declarations_in rest) d), later.fields); variables = later.variables }
items_named r file scene (tree.global g ∷ rest) d h =
    let later = items_named r file scene rest d (right _ (item_notes file (tree.global g)) (items_notes file rest) h) in
    record { fields = later.fields; variables = later.variables }
items_named r file scene (tree.function f ∷ rest) d h =
    let later = items_named r file scene rest (back _ (declarations_of (tree.function f)) (declarations_in rest) d) (right _ (function_notes file f) (items_notes file rest) h) in
    let n = left _ (function_notes file f) (items_notes file rest) h in
    let own = both (Own r Named.Variable) f.parameters (locals_in_all f.statements) (own_parameters r (length file.names) 0 file f.parameters (right _ _ _ (left _ _ _ (left _ _ _ n)))) (each (IsLocal r) (Own r Named.Variable) (λ d own. own.0) (locals_in_all f.statements) (of_function r file scene f (front _ (declarations_of (tree.function f)) (declarations_in rest) d) n).locals) in
    record { fields = later.fields; variables = (all_themselves r Named.Variable (f.parameters ++ locals_in_all f.statements) own (front _ (declarations_of (tree.function f)) (declarations_in rest) d), later.variables) }

pub themselves : (r : Resolution) (h : Heads) (file : Scope) → h.structs ≡ 0 → h.globals ≡ 0 → h.functions ≡ 0 → IsScene r file → AreDeclared r (declarations_in r.program.items) → Held r (heads_notes h r.program.items) → Held r (items_notes file r.program.items) → NameThemselves r
themselves r h file s g f scene d n m =
    let heads = heads_named r h r.program.items n in
    let items = items_named r file scene r.program.items d m in
    record {
      structs = from_none (StructNamed r) (structs_in r.program.items) (subst (λ k. AreNumbered (StructNamed r) k (structs_in r.program.items)) s heads.structs);
      globals = from_none (GlobalNamed r) (globals_in r.program.items) (subst (λ k. AreNumbered (GlobalNamed r) k (globals_in r.program.items)) g heads.globals);
      functions = from_none (FunctionNamed r) (functions_in r.program.items) (subst (λ k. AreNumbered (FunctionNamed r) k (functions_in r.program.items)) f heads.functions);
      fields = items.fields;
      variables = items.variables;
    }
