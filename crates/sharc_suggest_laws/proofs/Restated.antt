-- Statements with a cast written in them, as C typing sees them.
use Rattle.sharc_suggest_laws.proofs.{Imports.{◌≡◌, ℕ, List, [], ◌∷◌, ◌++◌, Option, Some, None, option_map, refl, sym, subst, AllByRecursion, Declaration, Expression, Right, value, malloc, Simple, assign, does_call, Local, First, nothing, declares, does, Head, Statement, Statements, no_statements, statement, DefinedTwice, TypeMismatch, BadForm, Value, Integer, Scope, Kind, void, same_kind, declared_kind, Entry, met, unmet, unagreed, type_notes, Role, Recast, around, with_cast, right_with_cast, simple_with_cast, local_with_cast, first_with_cast, head_with_cast, statement_with_cast, statements_with_cast, AsValue, AsLvalue, type_of, place_kind, Around, opened, looping, with_names, is_here, declared_notes, test_notes, count_notes, right_notes, simple_notes, is_aggregate, initial_notes, local_notes, returned_as, return_notes, first_notes, tests_notes, step_notes, head_notes, notes_in, notes_in_all, entry_of, Receiver, of_declared, of_left, givings, option_givings, value_givings, right_givings, simple_givings, local_givings, first_givings, head_givings, givings_in, givings_in_all, front, back}, Noted.{Clean, left, right, Noted, done, both, same, IsTame, quiet, unless_faults, where_faults, unmet_faults, unagreed_faults, place_faults, append_tame, faults_tame, type_tame}, Retyped.{Setting, IsMild, AreMild, inside, value_in, with_faults}, Scoped.{Scoped, scoped_with}}
use Rattle.sharc_tree.specs.Tree as tree
use Rattle.sharc_ctype.specs.{Expressions.notes_of, Statements.{declared, behind_first, after}}
use Rattle.sharc_suggest.specs.Givings as scopes

-- a value, where only faults come after it
value_stated : (w : Setting) (names scope : List Entry) → Scoped w.file.names names scope → (r : Receiver) (e : Expression) → AreMild w (value_givings scope r e) → (want now : Option Kind)
    → Clean (notes_of (with_names w.file names) (around w.recast (with_cast w.recast e)))
    → Noted w.resolution (notes_of (with_names w.file names) e ++ unmet Value e (type_of (with_names w.file names) e) ++ unagreed want e (met Value (type_of (with_names w.file names) e)))
    (notes_of (with_names w.file names) (around w.recast (with_cast w.recast e)) ++ unmet Value (around w.recast (with_cast w.recast e)) (type_of (with_names w.file names) (around w.recast (with_cast w.recast e)))
    ++ unagreed now (around w.recast (with_cast w.recast e)) (met Value (type_of (with_names w.file names) (around w.recast (with_cast w.recast e)))))
value_stated w names scope scoped r e mild want now clean =
    let σ : Scope = with_names w.file names in
    let new : Expression = around w.recast (with_cast w.recast e) in
    with_faults w.resolution _ _ _ _
    (with_faults w.resolution _ _ _ _ (value_in w names scope scoped r e mild clean).noted (unmet_faults Value e (type_of σ e)) (unmet_faults Value new (type_of σ new)))
    (unagreed_faults want e (met Value (type_of σ e))) (unagreed_faults now new (met Value (type_of σ new)))

in_test : (w : Setting) (names scope : List Entry) → Scoped w.file.names names scope → (e : Expression) → AreMild w (givings scope e) → Clean (test_notes (with_names w.file names) (with_cast w.recast e))
    → Noted w.resolution (test_notes (with_names w.file names) e) (test_notes (with_names w.file names) (with_cast w.recast e))
in_test w names scope scoped e mild clean =
    let σ : Scope = with_names w.file names in
    with_faults w.resolution _ _ _ _ (inside w names scope scoped AsValue AsValue e mild (left _ _ clean)).noted (unmet_faults Value e (type_of σ e)) (unmet_faults Value (with_cast w.recast e) (type_of σ (with_cast w.recast e)))

in_count : (w : Setting) (names scope : List Entry) → Scoped w.file.names names scope → (e : Option Expression) → AreMild w (option_givings (givings scope) e) → Clean (count_notes (with_names w.file names) (option_map (with_cast w.recast) e))
    → Noted w.resolution (count_notes (with_names w.file names) e) (count_notes (with_names w.file names) (option_map (with_cast w.recast) e))
in_count w names scope scoped None mild clean = done
in_count w names scope scoped (Some e) mild clean =
    let σ : Scope = with_names w.file names in
    with_faults w.resolution _ _ _ _ (inside w names scope scoped AsValue AsValue e mild (left _ _ clean)).noted (unmet_faults Integer e (type_of σ e)) (unmet_faults Integer (with_cast w.recast e) (type_of σ (with_cast w.recast e)))

in_right : (w : Setting) (names scope : List Entry) → Scoped w.file.names names scope → (r : Receiver) (x : Right) → AreMild w (right_givings scope r x) → (want now : Option Kind)
    → Clean (right_notes (with_names w.file names) now (right_with_cast w.recast x)) → Noted w.resolution (right_notes (with_names w.file names) want x) (right_notes (with_names w.file names) now (right_with_cast w.recast x))
in_right w names scope scoped r (value e) mild want now clean = value_stated w names scope scoped r e mild want now (left _ _ (left _ _ clean))
in_right w names scope scoped r (malloc s n t) mild want now clean =
    let σ : Scope = with_names w.file names in
    with_faults w.resolution _ _ _ _
    (both w.resolution _ _ _ _ (in_count w names scope scoped n mild (left _ _ (left _ _ clean))) (same w.resolution (type_notes σ [] Role.Made t) (type_tame σ [] Role.Made t)))
    (unless_faults _ s.first.token TypeMismatch) (unless_faults _ s.first.token TypeMismatch)

in_simple : (w : Setting) (names scope : List Entry) → Scoped w.file.names names scope → (x : Simple) → AreMild w (simple_givings scope x) → Clean (simple_notes (with_names w.file names) (simple_with_cast w.recast x))
    → Noted w.resolution (simple_notes (with_names w.file names) x) (simple_notes (with_names w.file names) (simple_with_cast w.recast x))
in_simple w names scope scoped (assign s u x) mild clean =
    let σ : Scope = with_names w.file names in
    let new : Expression = with_cast w.recast u in
    let m = front (IsMild w) (givings scope u) (right_givings scope (of_left u) x) mild in
    both w.resolution _ _ _ _
    (with_faults w.resolution _ _ _ _
    (with_faults w.resolution _ _ _ _ (inside w names scope scoped AsLvalue AsLvalue u m (left _ _ (left _ _ (left _ _ clean)))).noted (place_faults names u) (place_faults names new))
    (unmet_faults Value u (place_kind names u (type_of σ u))) (unmet_faults Value new (place_kind names new (type_of σ new))))
    (in_right w names scope scoped (of_left u) x (back (IsMild w) (givings scope u) (right_givings scope (of_left u) x) mild) _ _ (right _ _ clean))
in_simple w names scope scoped (does_call e) mild clean = (inside w names scope scoped AsValue AsValue e mild clean).noted

in_initial : (w : Setting) (names scope : List Entry) → Scoped w.file.names names scope → (d : Declaration) (r : Receiver) (x : Option Right) → AreMild w (option_givings (right_givings scope r) x)
    → Clean (initial_notes (with_names w.file names) d (option_map (right_with_cast w.recast) x)) → Noted w.resolution (initial_notes (with_names w.file names) d x) (initial_notes (with_names w.file names) d (option_map (right_with_cast w.recast) x))
in_initial w names scope scoped d r None mild clean = done
in_initial w names scope scoped d r (Some x) mild clean =
    both w.resolution _ _ _ _ (quiet w.resolution _ _ (where_faults (is_aggregate (declared_kind d.written)) d.name.site.token BadForm) (where_faults (is_aggregate (declared_kind d.written)) d.name.site.token BadForm))
    (in_right w names scope scoped r x mild _ _ (right _ _ clean))

pub declared_tame : (from : ℕ) (d : Declaration) (names : List Entry) → AllByRecursion IsTame (declared_notes from d names)
declared_tame from d names = (tt, faults_tame _ (where_faults (is_here from names d) d.name.site.token DefinedTwice))

in_local : (w : Setting) (names scope : List Entry) → Scoped w.file.names names scope → (surroundings : Around) (l : Local) → AreMild w (local_givings scope l) → Clean (local_notes surroundings (with_names w.file names) (local_with_cast w.recast l))
    → Noted w.resolution (local_notes surroundings (with_names w.file names) l) (local_notes surroundings (with_names w.file names) (local_with_cast w.recast l))
in_local w names scope scoped surroundings l mild clean =
    let d : Declaration = l.declaration in
    let inner : List Entry = declared surroundings.block d names in
    both w.resolution _ _ _ _
    (same w.resolution (type_notes (with_names w.file names) [] Role.Local d.written ++ declared_notes surroundings.block d names)
    (append_tame (type_notes (with_names w.file names) [] Role.Local d.written) _ (type_tame (with_names w.file names) [] Role.Local d.written) (declared_tame surroundings.block d names)))
    (in_initial w inner (entry_of d ∷ scope) (scoped_with w.file.names names scope d surroundings.block scoped (right _ _ (left _ _ clean))) d (of_declared d.name.site.token) l.initial mild (right _ _ clean))

in_first : (w : Setting) (names scope : List Entry) → Scoped w.file.names names scope → (surroundings : Around) (f : First) → AreMild w (first_givings scope f) → Clean (first_notes surroundings (with_names w.file names) (first_with_cast w.recast f))
    → Noted w.resolution (first_notes surroundings (with_names w.file names) f) (first_notes surroundings (with_names w.file names) (first_with_cast w.recast f))
in_first w names scope scoped surroundings nothing mild clean = done
in_first w names scope scoped surroundings (declares l) mild clean = in_local w names scope scoped surroundings l mild clean
in_first w names scope scoped surroundings (does x) mild clean = in_simple w names scope scoped x mild clean

in_tests : (w : Setting) (names scope : List Entry) → Scoped w.file.names names scope → (e : Option Expression) → AreMild w (option_givings (givings scope) e) → Clean (tests_notes (with_names w.file names) (option_map (with_cast w.recast) e))
    → Noted w.resolution (tests_notes (with_names w.file names) e) (tests_notes (with_names w.file names) (option_map (with_cast w.recast) e))
in_tests w names scope scoped None mild clean = done
in_tests w names scope scoped (Some e) mild clean = in_test w names scope scoped e mild clean

in_step : (w : Setting) (names scope : List Entry) → Scoped w.file.names names scope → (x : Option Simple) → AreMild w (option_givings (simple_givings scope) x) → Clean (step_notes (with_names w.file names) (option_map (simple_with_cast w.recast) x))
    → Noted w.resolution (step_notes (with_names w.file names) x) (step_notes (with_names w.file names) (option_map (simple_with_cast w.recast) x))
in_step w names scope scoped None mild clean = done
in_step w names scope scoped (Some x) mild clean = in_simple w names scope scoped x mild clean

-- what is in scope afterwards

pub first_names : (c : Recast) (surroundings : Around) (names : List Entry) (f : First) → behind_first surroundings names (first_with_cast c f) ≡ behind_first surroundings names f
first_names c surroundings names (does x) = refl
first_names c surroundings names _ = refl

pub first_scoped : (w : Setting) (names scope : List Entry) → Scoped w.file.names names scope → (surroundings : Around) (f : First) → Clean (first_notes surroundings (with_names w.file names) (first_with_cast w.recast f))
    → Scoped w.file.names (behind_first surroundings names f) (scopes.behind_first scope f)
first_scoped w names scope scoped surroundings (declares l) clean = scoped_with w.file.names names scope l.declaration surroundings.block scoped (right _ _ (left _ _ clean))
first_scoped w names scope scoped surroundings _ clean = scoped

in_for_head : (w : Setting) (names scope : List Entry) → Scoped w.file.names names scope → (surroundings : Around) (h : Head) → AreMild w (head_givings scope h) → Clean (head_notes surroundings (with_names w.file names) (head_with_cast w.recast h))
    → Noted w.resolution (head_notes surroundings (with_names w.file names) h) (head_notes surroundings (with_names w.file names) (head_with_cast w.recast h))
in_for_head w names scope scoped surroundings h mild clean =
    let inner : List Entry = behind_first surroundings names h.first in
    let below : List Entry = scopes.behind_first scope h.first in
    let same_names : behind_first surroundings names (first_with_cast w.recast h.first) ≡ inner = first_names w.recast surroundings names h.first in
    let fronts = front (IsMild w) (first_givings scope h.first ++ option_givings (givings below) h.test) (option_givings (simple_givings below) h.step) mild in
    let first_clean : Clean (first_notes surroundings (with_names w.file names) (first_with_cast w.recast h.first)) = left _ _ (left _ _ clean) in
    let in_scope : Scoped w.file.names inner below = first_scoped w names scope scoped surroundings h.first first_clean in
    both w.resolution _ _ _ _
    (both w.resolution _ _ _ _ (in_first w names scope scoped surroundings h.first (front (IsMild w) (first_givings scope h.first) (option_givings (givings below) h.test) fronts) first_clean)
    (subst (λ (l : List Entry). Noted w.resolution (tests_notes (with_names w.file inner) h.test) (tests_notes (with_names w.file l) (option_map (with_cast w.recast) h.test))) (sym same_names)
    (in_tests w inner below in_scope h.test (back (IsMild w) (first_givings scope h.first) (option_givings (givings below) h.test) fronts)
    (subst (λ (l : List Entry). Clean (tests_notes (with_names w.file l) (option_map (with_cast w.recast) h.test))) same_names (right _ _ (left _ _ clean))))))
    (subst (λ (l : List Entry). Noted w.resolution (step_notes (with_names w.file inner) h.step) (step_notes (with_names w.file l) (option_map (simple_with_cast w.recast) h.step))) (sym same_names)
    (in_step w inner below in_scope h.step (back (IsMild w) (first_givings scope h.first ++ option_givings (givings below) h.test) (option_givings (simple_givings below) h.step) mild)
    (subst (λ (l : List Entry). Clean (step_notes (with_names w.file l) (option_map (simple_with_cast w.recast) h.step))) same_names (right _ _ clean))))

in_returned : (w : Setting) (names scope : List Entry) → Scoped w.file.names names scope → (surroundings : Around) (word f : ℕ) (e : Option Expression) → AreMild w (option_givings (value_givings scope (of_declared f)) e)
    → Clean (return_notes surroundings (with_names w.file names) word (option_map (λ a. around w.recast (with_cast w.recast a)) e))
    → Noted w.resolution (return_notes surroundings (with_names w.file names) word e) (return_notes surroundings (with_names w.file names) word (option_map (λ a. around w.recast (with_cast w.recast a)) e))
in_returned w names scope scoped surroundings word f None mild clean = quiet w.resolution _ _ (unless_faults (same_kind surroundings.result void) word BadForm) (unless_faults (same_kind surroundings.result void) word BadForm)
in_returned w names scope scoped surroundings word f (Some e) mild clean =
    let σ : Scope = with_names w.file names in
    let new : Expression = around w.recast (with_cast w.recast e) in
    with_faults w.resolution _ _ _ _
    (with_faults w.resolution _ _ _ _
    (both w.resolution _ _ _ _ (quiet w.resolution _ _ (where_faults (same_kind surroundings.result void) word BadForm) (where_faults (same_kind surroundings.result void) word BadForm))
    (value_in w names scope scoped (of_declared f) e mild (right _ _ (left _ _ (left _ _ clean)))).noted)
    (unmet_faults Value e (type_of σ e)) (unmet_faults Value new (type_of σ new)))
    (unagreed_faults (returned_as surroundings.result) e (met Value (type_of σ e))) (unagreed_faults (returned_as surroundings.result) new (met Value (type_of σ new)))

pub after_names : (c : Recast) (surroundings : Around) (names : List Entry) (s : Statement) → after surroundings names (statement_with_cast c s) ≡ after surroundings names s
after_names c surroundings names (tree.empty s) = refl
after_names c surroundings names _ = refl

pub after_scoped : (w : Setting) (names scope : List Entry) → Scoped w.file.names names scope → (surroundings : Around) (s : Statement) → Clean (notes_in surroundings (with_names w.file names) (statement_with_cast w.recast s))
    → Scoped w.file.names (after surroundings names s) (scopes.after scope s)
after_scoped w names scope scoped surroundings (tree.declare s l) clean = scoped_with w.file.names names scope l.declaration surroundings.block scoped (right _ _ (left _ _ clean))
after_scoped w names scope scoped surroundings _ clean = scoped

mutual
  in_statement : (w : Setting) (names scope : List Entry) → Scoped w.file.names names scope → (surroundings : Around) (f : ℕ) (s : Statement) → AreMild w (givings_in scope f s)
      → Clean (notes_in surroundings (with_names w.file names) (statement_with_cast w.recast s)) → Noted w.resolution (notes_in surroundings (with_names w.file names) s) (notes_in surroundings (with_names w.file names) (statement_with_cast w.recast s))
  in_statement w names scope scoped surroundings f (tree.empty s) mild clean = done
  in_statement w names scope scoped surroundings f (tree.block s all) mild clean = in_statements w names scope scoped (opened surroundings names) f all mild clean
  in_statement w names scope scoped surroundings f (tree.declare s l) mild clean = in_local w names scope scoped surroundings l mild clean
  in_statement w names scope scoped surroundings f (tree.simple s x) mild clean = in_simple w names scope scoped x mild clean
  in_statement w names scope scoped surroundings f (tree.jump s j) mild clean = quiet w.resolution _ _ (unless_faults surroundings.in_loop s.first.token BadForm) (unless_faults surroundings.in_loop s.first.token BadForm)
  in_statement w names scope scoped surroundings f (tree.return s e) mild clean = in_returned w names scope scoped surroundings s.first.token f e mild clean
  in_statement w names scope scoped surroundings f (tree.if_then s e a) mild clean =
      both w.resolution _ _ _ _ (in_test w names scope scoped e (front (IsMild w) (givings scope e) (givings_in scope f a) mild) (left _ _ clean))
      (in_statement w names scope scoped (opened surroundings names) f a (back (IsMild w) (givings scope e) (givings_in scope f a) mild) (right _ _ clean))
  in_statement w names scope scoped surroundings f (tree.if_then_else s e a b) mild clean =
      let fronts = front (IsMild w) (givings scope e ++ givings_in scope f a) (givings_in scope f b) mild in
      both w.resolution _ _ _ _
      (both w.resolution _ _ _ _ (in_test w names scope scoped e (front (IsMild w) (givings scope e) (givings_in scope f a) fronts) (left _ _ (left _ _ clean)))
      (in_statement w names scope scoped (opened surroundings names) f a (back (IsMild w) (givings scope e) (givings_in scope f a) fronts) (right _ _ (left _ _ clean))))
      (in_statement w names scope scoped (opened surroundings names) f b (back (IsMild w) (givings scope e ++ givings_in scope f a) (givings_in scope f b) mild) (right _ _ clean))
  in_statement w names scope scoped surroundings f (tree.while s e a) mild clean =
      both w.resolution _ _ _ _ (in_test w names scope scoped e (front (IsMild w) (givings scope e) (givings_in scope f a) mild) (left _ _ clean))
      (in_statement w names scope scoped (looping (opened surroundings names)) f a (back (IsMild w) (givings scope e) (givings_in scope f a) mild) (right _ _ clean))
  in_statement w names scope scoped surroundings f (tree.for s h a) mild clean =
      let outer : Around = opened surroundings names in
      let inner : List Entry = behind_first outer names h.first in
      let below : List Entry = scopes.behind_first scope h.first in
      let same_names : behind_first outer names (first_with_cast w.recast h.first) ≡ inner = first_names w.recast outer names h.first in
      let head_clean : Clean (head_notes outer (with_names w.file names) (head_with_cast w.recast h)) = left _ _ clean in
      both w.resolution _ _ _ _ (in_for_head w names scope scoped outer h (front (IsMild w) (head_givings scope h) (givings_in below f a) mild) head_clean)
      (subst (λ (l : List Entry). Noted w.resolution (notes_in (looping (opened outer inner)) (with_names w.file inner) a) (notes_in (looping (opened outer l)) (with_names w.file l) (statement_with_cast w.recast a))) (sym same_names)
      (in_statement w inner below (first_scoped w names scope scoped outer h.first (left _ _ (left _ _ head_clean))) (looping (opened outer inner)) f a (back (IsMild w) (head_givings scope h) (givings_in below f a) mild)
      (subst (λ (l : List Entry). Clean (notes_in (looping (opened outer l)) (with_names w.file l) (statement_with_cast w.recast a))) same_names (right _ _ clean))))

  pub in_statements : (w : Setting) (names scope : List Entry) → Scoped w.file.names names scope → (surroundings : Around) (f : ℕ) (all : Statements) → AreMild w (givings_in_all scope f all)
      → Clean (notes_in_all surroundings (with_names w.file names) (statements_with_cast w.recast all))
      → Noted w.resolution (notes_in_all surroundings (with_names w.file names) all) (notes_in_all surroundings (with_names w.file names) (statements_with_cast w.recast all))
  in_statements w names scope scoped surroundings f no_statements mild clean = done
  in_statements w names scope scoped surroundings f (statement a rest) mild clean =
      let inner : List Entry = after surroundings names a in
      let below : List Entry = scopes.after scope a in
      let same_names : after surroundings names (statement_with_cast w.recast a) ≡ inner = after_names w.recast surroundings names a in
      let first_clean : Clean (notes_in surroundings (with_names w.file names) (statement_with_cast w.recast a)) = left _ _ clean in
      both w.resolution _ _ _ _ (in_statement w names scope scoped surroundings f a (front (IsMild w) (givings_in scope f a) (givings_in_all below f rest) mild) first_clean)
      (subst (λ (l : List Entry). Noted w.resolution (notes_in_all surroundings (with_names w.file inner) rest) (notes_in_all surroundings (with_names w.file l) (statements_with_cast w.recast rest))) (sym same_names)
      (in_statements w inner below (after_scoped w names scope scoped surroundings a first_clean) surroundings f rest (back (IsMild w) (givings_in scope f a) (givings_in_all below f rest) mild)
      (subst (λ (l : List Entry). Clean (notes_in_all surroundings (with_names w.file l) (statements_with_cast w.recast rest))) same_names (right _ _ clean))))
