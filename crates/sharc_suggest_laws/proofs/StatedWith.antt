-- Statements with a cast written in them have no fault where they had none.
use Rattle.sharc_suggest_laws.proofs.{Imports.{◌≡◌, ℕ, List, ◌∷◌, ◌++◌, Option, Some, None, option_map, ap, sym, subst, AllByRecursion, Declaration, expressions, in_option, in_right, in_simple, Expression, Right, value, malloc, Simple, assign, does_call, Local, First, nothing, declares, does, Head, Statement, Statements, no_statements, statement, Value, Integer, Scope, Kind, Entry, met, is_fine, Role, AsValue, AsLvalue, type_of, place_kind, Around, opened, looping, with_names, test_notes, count_notes, right_notes, simple_notes, initial_notes, local_notes, returned_as, return_notes, first_notes, tests_notes, step_notes, head_notes, notes_in, notes_in_all, wanted_by, around, with_cast, right_with_cast, simple_with_cast, local_with_cast, first_with_cast, head_with_cast, statement_with_cast, statements_with_cast, Placing, at, places_in_local, places_in_first, places_in, places_in_all, entry_of, Receiver, of_declared, of_left, givings, option_givings, value_givings, right_givings, simple_givings, local_givings, first_givings, head_givings, givings_in, givings_in_all, front, back}, Lefts.{IsTypedIn, unplaced}, Noted.{Clean, left, right, none, joined}, Restated.{first_names, first_scoped, after_names, after_scoped}, Retyped.Setting, Scoped.{Scoped, scoped_with}, TypedWith.{IsReady, AreReady, AreTypedIn, IsWell, part, unmet_clean, unagreed_clean, place_clean, place_kind_same, inside, value_in}}
use Rattle.sharc_tree.specs.Tree as tree
use Rattle.sharc_ctype.specs.Statements.{declared, behind_first, after}
use Rattle.sharc_suggest.specs.Givings as scopes

-- each expression has in its scope the type that its names tell
abbrev pub IsPlacedTyped : Setting → Placing → Type 0
IsPlacedTyped w p = IsTypedIn w.resolution p.scope p.expression

abbrev pub AreTyped : Setting → List Placing → Type 0
AreTyped w ps = AllByRecursion (IsPlacedTyped w) ps

-- ---- simple statements

in_test : (w : Setting) (names scope : List Entry) → Scoped w.file.names names scope → (e : Expression) → AreReady w (givings scope e) → AreTypedIn w names (expressions e) → Clean (test_notes (with_names w.file names) e)
    → Clean (test_notes (with_names w.file names) (with_cast w.recast e))
in_test w names scope scoped e ready typed clean =
    part w names AsValue Value e (with_cast w.recast e) (inside w names scope scoped AsValue e ready typed (left _ _ clean)) (right _ _ clean)

in_count : (w : Setting) (names scope : List Entry) → Scoped w.file.names names scope → (e : Option Expression) → AreReady w (option_givings (givings scope) e) → AreTypedIn w names (in_option expressions e)
    → Clean (count_notes (with_names w.file names) e) → Clean (count_notes (with_names w.file names) (option_map (with_cast w.recast) e))
in_count w names scope scoped None ready typed clean = none
in_count w names scope scoped (Some e) ready typed clean =
    part w names AsValue Integer e (with_cast w.recast e) (inside w names scope scoped AsValue e ready typed (left _ _ clean)) (right _ _ clean)

in_right_side : (w : Setting) (names scope : List Entry) → Scoped w.file.names names scope → (r : Receiver) (x : Right) → AreReady w (right_givings scope r x) → AreTypedIn w names (in_right x) → (want : Option Kind)
    → Clean (right_notes (with_names w.file names) want x) → Clean (right_notes (with_names w.file names) want (right_with_cast w.recast x))
in_right_side w names scope scoped r (value e) ready typed want clean =
    let σ : Scope = with_names w.file names in
    let new : Expression = around w.recast (with_cast w.recast e) in
    let h : IsWell w names AsValue e new = value_in w names scope scoped r e ready typed (left _ _ (left _ _ clean)) in
    joined _ _ (part w names AsValue Value e new h (right _ _ (left _ _ clean)))
    (unagreed_clean want e new (met Value (type_of σ e)) (met Value (type_of σ new)) (ap (met Value) h.typed) (right _ _ clean))
in_right_side w names scope scoped r (malloc s n t) ready typed want clean =
    joined _ _ (joined _ _ (in_count w names scope scoped n ready typed (left _ _ (left _ _ clean))) (right _ _ (left _ _ clean))) (right _ _ clean)

in_simple_statement : (w : Setting) (names scope : List Entry) → Scoped w.file.names names scope → (x : Simple) → AreReady w (simple_givings scope x) → AreTypedIn w names (in_simple x)
    → Clean (simple_notes (with_names w.file names) x) → Clean (simple_notes (with_names w.file names) (simple_with_cast w.recast x))
in_simple_statement w names scope scoped (assign s u x) ready typed clean =
    let σ : Scope = with_names w.file names in
    let P = IsTypedIn w.resolution σ in
    let new : Expression = with_cast w.recast u in
    let h : IsWell w names AsLvalue u new =
    inside w names scope scoped AsLvalue u (front (IsReady w) (givings scope u) (right_givings scope (of_left u) x) ready) (front P (expressions u) (in_right x) typed) (left _ _ (left _ _ (left _ _ clean))) in
    let same : place_kind names new (type_of σ new) ≡ place_kind names u (type_of σ u) = place_kind_same w names u (type_of σ new) (type_of σ u) h.typed in
    joined _ _
    (joined _ _ (joined _ _ h.clean (place_clean w names u (right _ _ (left _ _ (left _ _ clean)))))
    (unmet_clean Value u new (place_kind names u (type_of σ u)) (place_kind names new (type_of σ new)) h.quieter same (right _ _ (left _ _ clean))))
    (subst (λ (k : Option Kind). Clean (right_notes σ (met Value k) (right_with_cast w.recast x))) (sym same)
    (in_right_side w names scope scoped (of_left u) x (back (IsReady w) (givings scope u) (right_givings scope (of_left u) x) ready) (back P (expressions u) (in_right x) typed) (met Value (place_kind names u (type_of σ u))) (right _ _ clean)))
in_simple_statement w names scope scoped (does_call e) ready typed clean = (inside w names scope scoped AsValue e ready typed clean).clean

in_initial : (w : Setting) (names scope : List Entry) → Scoped w.file.names names scope → (d : Declaration) (r : Receiver) (x : Option Right) → AreReady w (option_givings (right_givings scope r) x) → AreTypedIn w names (in_option in_right x)
    → Clean (initial_notes (with_names w.file names) d x) → Clean (initial_notes (with_names w.file names) d (option_map (right_with_cast w.recast) x))
in_initial w names scope scoped d r None ready typed clean = none
in_initial w names scope scoped d r (Some x) ready typed clean =
    joined _ _ (left _ _ clean) (in_right_side w names scope scoped r x ready typed (wanted_by (is_fine w.file.structs Role.Local d.written) d.written) (right _ _ clean))

in_local : (w : Setting) (names scope : List Entry) → Scoped w.file.names names scope → (surroundings : Around) (l : Local) → AreReady w (local_givings scope l) → AreTyped w (places_in_local surroundings (with_names w.file names) l)
    → Clean (local_notes surroundings (with_names w.file names) l) → Clean (local_notes surroundings (with_names w.file names) (local_with_cast w.recast l))
in_local w names scope scoped surroundings l ready typed clean =
    let d : Declaration = l.declaration in
    let inner : List Entry = declared surroundings.block d names in
    joined _ _ (left _ _ clean)
    (in_initial w inner (entry_of d ∷ scope) (scoped_with w.file.names names scope d surroundings.block scoped (right _ _ (left _ _ clean))) d (of_declared d.name.site.token) l.initial ready
    (unplaced w.resolution (with_names w.file inner) (in_option in_right l.initial) typed) (right _ _ clean))

in_first : (w : Setting) (names scope : List Entry) → Scoped w.file.names names scope → (surroundings : Around) (f : First) → AreReady w (first_givings scope f) → AreTyped w (places_in_first surroundings (with_names w.file names) f)
    → Clean (first_notes surroundings (with_names w.file names) f) → Clean (first_notes surroundings (with_names w.file names) (first_with_cast w.recast f))
in_first w names scope scoped surroundings nothing ready typed clean = clean
in_first w names scope scoped surroundings (declares l) ready typed clean = in_local w names scope scoped surroundings l ready typed clean
in_first w names scope scoped surroundings (does x) ready typed clean = in_simple_statement w names scope scoped x ready (unplaced w.resolution (with_names w.file names) (in_simple x) typed) clean

in_tests : (w : Setting) (names scope : List Entry) → Scoped w.file.names names scope → (e : Option Expression) → AreReady w (option_givings (givings scope) e) → AreTypedIn w names (in_option expressions e)
    → Clean (tests_notes (with_names w.file names) e) → Clean (tests_notes (with_names w.file names) (option_map (with_cast w.recast) e))
in_tests w names scope scoped None ready typed clean = clean
in_tests w names scope scoped (Some e) ready typed clean = in_test w names scope scoped e ready typed clean

in_step : (w : Setting) (names scope : List Entry) → Scoped w.file.names names scope → (x : Option Simple) → AreReady w (option_givings (simple_givings scope) x) → AreTypedIn w names (in_option in_simple x)
    → Clean (step_notes (with_names w.file names) x) → Clean (step_notes (with_names w.file names) (option_map (simple_with_cast w.recast) x))
in_step w names scope scoped None ready typed clean = clean
in_step w names scope scoped (Some x) ready typed clean = in_simple_statement w names scope scoped x ready typed clean

in_for_head : (w : Setting) (names scope : List Entry) → Scoped w.file.names names scope → (surroundings : Around) (h : Head) → AreReady w (head_givings scope h)
    → AreTyped w (places_in_first surroundings (with_names w.file names) h.first) → AreTypedIn w (behind_first surroundings names h.first) (in_option expressions h.test ++ in_option in_simple h.step)
    → Clean (head_notes surroundings (with_names w.file names) h) → Clean (head_notes surroundings (with_names w.file names) (head_with_cast w.recast h))
in_for_head w names scope scoped surroundings h ready begun typed clean =
    let inner : List Entry = behind_first surroundings names h.first in
    let below : List Entry = scopes.behind_first scope h.first in
    let P = IsTypedIn w.resolution (with_names w.file inner) in
    let same_names : behind_first surroundings names (first_with_cast w.recast h.first) ≡ inner = first_names w.recast surroundings names h.first in
    let fronts = front (IsReady w) (first_givings scope h.first ++ option_givings (givings below) h.test) (option_givings (simple_givings below) h.step) ready in
    let first_clean : Clean (first_notes surroundings (with_names w.file names) (first_with_cast w.recast h.first)) =
    in_first w names scope scoped surroundings h.first (front (IsReady w) (first_givings scope h.first) (option_givings (givings below) h.test) fronts) begun (left _ _ (left _ _ clean)) in
    let in_scope : Scoped w.file.names inner below = first_scoped w names scope scoped surroundings h.first first_clean in
    joined _ _
    (joined _ _ first_clean
    (subst (λ (l : List Entry). Clean (tests_notes (with_names w.file l) (option_map (with_cast w.recast) h.test))) (sym same_names)
    (in_tests w inner below in_scope h.test (back (IsReady w) (first_givings scope h.first) (option_givings (givings below) h.test) fronts) (front P (in_option expressions h.test) (in_option in_simple h.step) typed) (right _ _ (left _ _ clean)))))
    (subst (λ (l : List Entry). Clean (step_notes (with_names w.file l) (option_map (simple_with_cast w.recast) h.step))) (sym same_names)
    (in_step w inner below in_scope h.step (back (IsReady w) (first_givings scope h.first ++ option_givings (givings below) h.test) (option_givings (simple_givings below) h.step) ready)
    (back P (in_option expressions h.test) (in_option in_simple h.step) typed) (right _ _ clean)))

in_returned : (w : Setting) (names scope : List Entry) → Scoped w.file.names names scope → (surroundings : Around) (word f : ℕ) (e : Option Expression) → AreReady w (option_givings (value_givings scope (of_declared f)) e)
    → AreTypedIn w names (in_option expressions e) → Clean (return_notes surroundings (with_names w.file names) word e)
    → Clean (return_notes surroundings (with_names w.file names) word (option_map (λ a. around w.recast (with_cast w.recast a)) e))
in_returned w names scope scoped surroundings word f None ready typed clean = clean
in_returned w names scope scoped surroundings word f (Some e) ready typed clean =
    let σ : Scope = with_names w.file names in
    let new : Expression = around w.recast (with_cast w.recast e) in
    let h : IsWell w names AsValue e new = value_in w names scope scoped (of_declared f) e ready typed (right _ _ (left _ _ (left _ _ clean))) in
    joined _ _ (joined _ _ (joined _ _ (left _ _ (left _ _ (left _ _ clean))) h.clean) (unmet_clean Value e new (type_of σ e) (type_of σ new) h.quieter h.typed (right _ _ (left _ _ clean))))
    (unagreed_clean (returned_as surroundings.result) e new (met Value (type_of σ e)) (met Value (type_of σ new)) (ap (met Value) h.typed) (right _ _ clean))

-- ---- statements

mutual
  in_statement : (w : Setting) (names scope : List Entry) → Scoped w.file.names names scope → (surroundings : Around) (f : ℕ) (s : Statement) → AreReady w (givings_in scope f s)
      → AreTyped w (places_in surroundings (with_names w.file names) s) → Clean (notes_in surroundings (with_names w.file names) s) → Clean (notes_in surroundings (with_names w.file names) (statement_with_cast w.recast s))
  in_statement w names scope scoped surroundings f (tree.block s all) ready typed clean = in_statements w names scope scoped (opened surroundings names) f all ready typed clean
  in_statement w names scope scoped surroundings f (tree.declare s l) ready typed clean = in_local w names scope scoped surroundings l ready typed clean
  in_statement w names scope scoped surroundings f (tree.simple s x) ready typed clean = in_simple_statement w names scope scoped x ready (unplaced w.resolution (with_names w.file names) (in_simple x) typed) clean
  in_statement w names scope scoped surroundings f (tree.return s e) ready typed clean =
      in_returned w names scope scoped surroundings s.first.token f e ready (unplaced w.resolution (with_names w.file names) (in_option expressions e) typed) clean
  in_statement w names scope scoped surroundings f (tree.if_then s e a) ready typed clean =
      let σ : Scope = with_names w.file names in
      let inner : Around = opened surroundings names in
      joined _ _
      (in_test w names scope scoped e (front (IsReady w) (givings scope e) (givings_in scope f a) ready)
      (unplaced w.resolution σ (expressions e) (front (IsPlacedTyped w) (at σ (expressions e)) (places_in inner σ a) typed)) (left _ _ clean))
      (in_statement w names scope scoped inner f a (back (IsReady w) (givings scope e) (givings_in scope f a) ready) (back (IsPlacedTyped w) (at σ (expressions e)) (places_in inner σ a) typed) (right _ _ clean))
  in_statement w names scope scoped surroundings f (tree.if_then_else s e a b) ready typed clean =
      let σ : Scope = with_names w.file names in
      let inner : Around = opened surroundings names in
      let fronts = front (IsReady w) (givings scope e ++ givings_in scope f a) (givings_in scope f b) ready in
      let known = front (IsPlacedTyped w) (at σ (expressions e) ++ places_in inner σ a) (places_in inner σ b) typed in
      joined _ _
      (joined _ _
      (in_test w names scope scoped e (front (IsReady w) (givings scope e) (givings_in scope f a) fronts)
      (unplaced w.resolution σ (expressions e) (front (IsPlacedTyped w) (at σ (expressions e)) (places_in inner σ a) known)) (left _ _ (left _ _ clean)))
      (in_statement w names scope scoped inner f a (back (IsReady w) (givings scope e) (givings_in scope f a) fronts) (back (IsPlacedTyped w) (at σ (expressions e)) (places_in inner σ a) known) (right _ _ (left _ _ clean))))
      (in_statement w names scope scoped inner f b (back (IsReady w) (givings scope e ++ givings_in scope f a) (givings_in scope f b) ready)
      (back (IsPlacedTyped w) (at σ (expressions e) ++ places_in inner σ a) (places_in inner σ b) typed) (right _ _ clean))
  in_statement w names scope scoped surroundings f (tree.while s e a) ready typed clean =
      let σ : Scope = with_names w.file names in
      let inner : Around = looping (opened surroundings names) in
      joined _ _
      (in_test w names scope scoped e (front (IsReady w) (givings scope e) (givings_in scope f a) ready)
      (unplaced w.resolution σ (expressions e) (front (IsPlacedTyped w) (at σ (expressions e)) (places_in inner σ a) typed)) (left _ _ clean))
      (in_statement w names scope scoped inner f a (back (IsReady w) (givings scope e) (givings_in scope f a) ready) (back (IsPlacedTyped w) (at σ (expressions e)) (places_in inner σ a) typed) (right _ _ clean))
  in_statement w names scope scoped surroundings f (tree.for s h a) ready typed clean =
      let outer : Around = opened surroundings names in
      let inner : List Entry = behind_first outer names h.first in
      let below : List Entry = scopes.behind_first scope h.first in
      let body : Around = looping (opened outer inner) in
      let σ : Scope = with_names w.file names in
      let in_it : Scope = with_names w.file inner in
      let later : List Expression = in_option expressions h.test ++ in_option in_simple h.step in
      let begins : List Placing = places_in_first outer σ h.first in
      let heads = front (IsPlacedTyped w) (begins ++ at in_it later) (places_in body in_it a) typed in
      let same_names : behind_first outer names (first_with_cast w.recast h.first) ≡ inner = first_names w.recast outer names h.first in
      let head_clean : Clean (head_notes outer σ (head_with_cast w.recast h)) =
      in_for_head w names scope scoped outer h (front (IsReady w) (head_givings scope h) (givings_in below f a) ready) (front (IsPlacedTyped w) begins (at in_it later) heads)
      (unplaced w.resolution in_it later (back (IsPlacedTyped w) begins (at in_it later) heads)) (left _ _ clean) in
      joined _ _ head_clean
      (subst (λ (l : List Entry). Clean (notes_in (looping (opened outer l)) (with_names w.file l) (statement_with_cast w.recast a))) (sym same_names)
      (in_statement w inner below (first_scoped w names scope scoped outer h.first (left _ _ (left _ _ head_clean))) body f a (back (IsReady w) (head_givings scope h) (givings_in below f a) ready)
      (back (IsPlacedTyped w) (begins ++ at in_it later) (places_in body in_it a) typed) (right _ _ clean)))
  in_statement w names scope scoped surroundings f _ ready typed clean = clean

  pub in_statements : (w : Setting) (names scope : List Entry) → Scoped w.file.names names scope → (surroundings : Around) (f : ℕ) (all : Statements) → AreReady w (givings_in_all scope f all)
      → AreTyped w (places_in_all surroundings (with_names w.file names) all) → Clean (notes_in_all surroundings (with_names w.file names) all) → Clean (notes_in_all surroundings (with_names w.file names) (statements_with_cast w.recast all))
  in_statements w names scope scoped surroundings f no_statements ready typed clean = clean
  in_statements w names scope scoped surroundings f (statement a rest) ready typed clean =
      let σ : Scope = with_names w.file names in
      let inner : List Entry = after surroundings names a in
      let below : List Entry = scopes.after scope a in
      let later : List Placing = places_in_all surroundings (with_names w.file inner) rest in
      let same_names : after surroundings names (statement_with_cast w.recast a) ≡ inner = after_names w.recast surroundings names a in
      let first_clean : Clean (notes_in surroundings σ (statement_with_cast w.recast a)) =
      in_statement w names scope scoped surroundings f a (front (IsReady w) (givings_in scope f a) (givings_in_all below f rest) ready) (front (IsPlacedTyped w) (places_in surroundings σ a) later typed) (left _ _ clean) in
      joined _ _ first_clean
      (subst (λ (l : List Entry). Clean (notes_in_all surroundings (with_names w.file l) (statements_with_cast w.recast rest))) (sym same_names)
      (in_statements w inner below (after_scoped w names scope scoped surroundings a first_clean) surroundings f rest (back (IsReady w) (givings_in scope f a) (givings_in_all below f rest) ready)
      (back (IsPlacedTyped w) (places_in surroundings σ a) later typed) (right _ _ clean)))
