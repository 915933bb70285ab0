-- The list of roots has a reason exactly where a position is a root.
use Rattle.sharc_infer.proofs.Imports.{◌≡◌, ◌⊎◌, ℕ, zero, suc, ◌<◌, ◌≤◌, Bool, true, false, List, [], ◌∷◌, Option, Some, None, length, get_or, set, replicate, refl, ap, sym, ◌∙◌, subst, inl, inr, arith, cases_eq, cases_lt, cases_Bool, ltb-true, lt-ltb, length-set, get_or-set_same, get_or-set_other, get_or_past, get_or-replicate, length-replicate, set_past, IsSomeAnd, Contains, nat_lt, Declaration, GlobalDefinition, Function, Numbered, entity_at, positions_of, IsReached, NamesGlobal, Resolution, global_at, function_at, globals_in, functions_in, Reason, Touched, Spawned, IsFirst, IsTouchedIn, IsPassedTo, IsRoot, IsRootReason, position_count, Reaching, first_of, is_chosen, IsFirstOf, AreReached, root_of, Roots, marked, rooted, touch, touched_below, mark_all, pass, passed_below, roots_of, same_some, none_not_some, some_and, some_inside, contains_here, contains_behind}

and_some : {A : Type 0} (o : Option A) (P : A → Type 0) (x : A) → o ≡ Some x → P x → IsSomeAnd o P
and_some {A = A} o P x is p = let Q : Option A → Type 0 = λ z. IsSomeAnd z P in subst Q (sym is) p

-- ---- one mark
at_set : (roots : Roots) (k p : ℕ) (reason : Reason) → (root_of (set roots k (Some reason)) p ≡ root_of roots p) ⊎ ((k ≡ p) × (root_of (set roots k (Some reason)) p ≡ Some reason))
at_set roots k p reason =
    elim (cases_lt k (length roots)) [
      | inl inside ↦ elim (cases_eq p k) [
        | inl same ↦ inr (sym same, ap (root_of (set roots k (Some reason))) same ∙ get_or-set_same roots k (Some reason) None inside)
        | inr other ↦ inl (get_or-set_other roots k p (Some reason) None other)
      ]
      | inr past ↦ inl (ap (λ l. root_of l p) (set_past roots k (Some reason) past))
    ]

abbrev Marks : Option Numbered → ℕ → Type 0
Marks found p = IsSomeAnd found (λ n. (0 < positions_of n.entity) × (n.first ≡ p))

marked_at : (found : Option Numbered) (reason : Reason) (roots : Roots) (p : ℕ) → (root_of (marked found reason roots) p ≡ root_of roots p) ⊎ (Marks found p × (root_of (marked found reason roots) p ≡ Some reason))
marked_at None reason roots p = inl refl
marked_at (Some n) reason roots p =
    elim (cases_Bool (nat_lt 0 (positions_of n.entity))) [
      | inl passes ↦ rw passes (elim (at_set roots n.first p reason) [ inl same ↦ inl same | inr here ↦ inr ((ltb-true 0 (positions_of n.entity) passes, here.0), here.1) ])
      | inr fails ↦ rw fails (inl refl)
    ]

marked_size : (found : Option Numbered) (reason : Reason) (roots : Roots) → length (marked found reason roots) ≡ length roots
marked_size None reason roots = refl
marked_size (Some n) reason roots =
    elim (cases_Bool (nat_lt 0 (positions_of n.entity))) [
      | inl passes ↦ rw passes (length-set roots n.first (Some reason))
      | inr fails ↦ rw fails refl
    ]

marked_here : (found : Option Numbered) (reason : Reason) (roots : Roots) (p : ℕ) → p < length roots → Marks found p → root_of (marked found reason roots) p ≡ Some reason
marked_here None reason roots p inside marks = absurd marks
marked_here (Some n) reason roots p inside marks =
    let first : n.first ≡ p = marks.1 in
    let is = lt-ltb 0 (positions_of n.entity) marks.0 in
    rw is (ap (root_of (set roots n.first (Some reason))) (sym first) ∙ get_or-set_same roots n.first (Some reason) None (omega arith))

abbrev pub HasRoot : Roots → ℕ → Type 0
HasRoot roots p = root_of roots p ≡ None → ⊥

abbrev pub Sound : Resolution → Roots → Type 0
Sound r roots = (p : ℕ) (reason : Reason) → root_of roots p ≡ Some reason → IsRootReason r p (Some reason)

module _ (r : Resolution) where
  rooted_size : (token : ℕ) (reason : Reason) (roots : Roots) → length (rooted r token reason roots) ≡ length roots
  rooted_size token reason roots = marked_size (entity_at r token token) reason roots

  rooted_sound : (token : ℕ) (reason : Reason) (roots : Roots) → ((p : ℕ) → IsFirst r token p → IsRootReason r p (Some reason)) → Sound r roots → Sound r (rooted r token reason roots)
  rooted_sound token reason roots each sound = λ p other is.
      elim (marked_at (entity_at r token token) reason roots p) [
        | inl same ↦ sound p other (sym same ∙ is)
        | inr here ↦ subst (λ x. IsRootReason r p (Some x)) (same_some reason other (sym here.1 ∙ is)) (each p here.0)
      ]

  rooted_keeps : (token : ℕ) (reason : Reason) (roots : Roots) (p : ℕ) → HasRoot roots p → HasRoot (rooted r token reason roots) p
  rooted_keeps token reason roots p has = λ none.
      elim (marked_at (entity_at r token token) reason roots p) [
        | inl same ↦ has (sym same ∙ none)
        | inr here ↦ none_not_some reason (sym none ∙ here.1)
      ]

  rooted_has : (token : ℕ) (reason : Reason) (roots : Roots) (p : ℕ) → p < length roots → IsFirst r token p → HasRoot (rooted r token reason roots) p
  rooted_has token reason roots p inside first = λ none. none_not_some reason (sym none ∙ marked_here (entity_at r token token) reason roots p inside first)

  -- ---- touched globals
  touch_size : (g : Option GlobalDefinition) (o : Option ℕ) (roots : Roots) → length (touch r g o roots) ≡ length roots
  touch_size None o roots = refl
  touch_size (Some g) None roots = refl
  touch_size (Some g) (Some f) roots = rooted_size g.declaration.name.site.token (Touched f) roots

  touch_sound : (g : Option GlobalDefinition) (o : Option ℕ) (roots : Roots)
      → ((d : GlobalDefinition) (f : ℕ) → g ≡ Some d → o ≡ Some f → (p : ℕ) → IsFirst r d.declaration.name.site.token p → IsRootReason r p (Some (Touched f))) → Sound r roots → Sound r (touch r g o roots)
  touch_sound None o roots each sound = sound
  touch_sound (Some g) None roots each sound = sound
  touch_sound (Some g) (Some f) roots each sound = rooted_sound g.declaration.name.site.token (Touched f) roots (each g f refl refl) sound

  touch_keeps : (g : Option GlobalDefinition) (o : Option ℕ) (roots : Roots) (p : ℕ) → HasRoot roots p → HasRoot (touch r g o roots) p
  touch_keeps None o roots p has = has
  touch_keeps (Some g) None roots p has = has
  touch_keeps (Some g) (Some f) roots p has = rooted_keeps g.declaration.name.site.token (Touched f) roots p has

  touch_has : (g : Option GlobalDefinition) (o : Option ℕ) (roots : Roots) (d : GlobalDefinition) (f p : ℕ) → g ≡ Some d → o ≡ Some f → p < length roots → IsFirst r d.declaration.name.site.token p → HasRoot (touch r g o roots) p
  touch_has g o roots d f p is named inside first =
      let P : Option GlobalDefinition → Option ℕ → Type 0 = λ x y. HasRoot (touch r x y roots) p in
      subst (λ x. P x o) (sym is) (subst (P (Some d)) (sym named) (rooted_has d.declaration.name.site.token (Touched f) roots p inside first))

  -- ---- parameters of spawned functions
  mark_all_size : (f : ℕ) (ds : List Declaration) (roots : Roots) → length (mark_all r f ds roots) ≡ length roots
  mark_all_size f [] roots = refl
  mark_all_size f (d ∷ rest) roots = mark_all_size f rest (rooted r d.name.site.token (Spawned f) roots) ∙ rooted_size d.name.site.token (Spawned f) roots

  mark_all_sound : (f : ℕ) (ds : List Declaration) (roots : Roots) → ((d : Declaration) → Contains ds d → (p : ℕ) → IsFirst r d.name.site.token p → IsRootReason r p (Some (Spawned f))) → Sound r roots → Sound r (mark_all r f ds roots)
  mark_all_sound f [] roots each sound = sound
  mark_all_sound f (d ∷ rest) roots each sound =
      mark_all_sound f rest (rooted r d.name.site.token (Spawned f) roots) (λ x has. each x (contains_behind d rest x has)) (rooted_sound d.name.site.token (Spawned f) roots (each d (contains_here d rest)) sound)

  mark_all_keeps : (f : ℕ) (ds : List Declaration) (roots : Roots) (p : ℕ) → HasRoot roots p → HasRoot (mark_all r f ds roots) p
  mark_all_keeps f [] roots p has = has
  mark_all_keeps f (d ∷ rest) roots p has = mark_all_keeps f rest (rooted r d.name.site.token (Spawned f) roots) p (rooted_keeps d.name.site.token (Spawned f) roots p has)

  mark_all_has : (f : ℕ) (ds : List Declaration) (roots : Roots) (d : Declaration) (p k : ℕ) → k < length ds → get_or ds k d ≡ d → p < length roots → IsFirst r d.name.site.token p → HasRoot (mark_all r f ds roots) p
  mark_all_has f [] roots d p k below is inside first = absurd (omega arith)
  mark_all_has f (x ∷ rest) roots d p zero below is inside first =
      mark_all_keeps f rest (rooted r x.name.site.token (Spawned f) roots) p (rooted_has x.name.site.token (Spawned f) roots p inside (subst (λ (y : Declaration). IsFirst r y.name.site.token p) (sym is) first))
  mark_all_has f (x ∷ rest) roots d p (suc k) below is inside first =
      let size = rooted_size x.name.site.token (Spawned f) roots in
      mark_all_has f rest (rooted r x.name.site.token (Spawned f) roots) d p k (omega arith) is (omega arith) first

  pass_size : (n : ℕ) (f : Option Function) (spawned : Bool) (roots : Roots) → length (pass r n f spawned roots) ≡ length roots
  pass_size n f false roots = refl
  pass_size n None true roots = refl
  pass_size n (Some f) true roots = mark_all_size n f.parameters roots

  pass_sound : (n : ℕ) (f : Option Function) (spawned : Bool) (roots : Roots)
      → ((g : Function) → f ≡ Some g → spawned ≡ true → (d : Declaration) → Contains g.parameters d → (p : ℕ) → IsFirst r d.name.site.token p → IsRootReason r p (Some (Spawned n))) → Sound r roots → Sound r (pass r n f spawned roots)
  pass_sound n f false roots each sound = sound
  pass_sound n None true roots each sound = sound
  pass_sound n (Some f) true roots each sound = mark_all_sound n f.parameters roots (each f refl refl) sound

  pass_keeps : (n : ℕ) (f : Option Function) (spawned : Bool) (roots : Roots) (p : ℕ) → HasRoot roots p → HasRoot (pass r n f spawned roots) p
  pass_keeps n f false roots p has = has
  pass_keeps n None true roots p has = has
  pass_keeps n (Some f) true roots p has = mark_all_keeps n f.parameters roots p has

  pass_has : (n : ℕ) (f : Option Function) (spawned : Bool) (roots : Roots) (g : Function) (d : Declaration) (p : ℕ) → f ≡ Some g → spawned ≡ true → Contains g.parameters d → p < length roots → IsFirst r d.name.site.token p → HasRoot (pass r n f spawned roots) p
  pass_has n f spawned roots g d p is chosen has inside first =
      let P : Option Function → Bool → Type 0 = λ x y. HasRoot (pass r n x y roots) p in
      subst (λ x. P x spawned) (sym is) (subst (P (Some g)) (sym chosen) (mark_all_has n g.parameters roots d p has.0 has.1 has.2 inside first))

  -- ---- all of them
  module _ (a : Reaching) (are : AreReached r a) where
    touched_root : (g : ℕ) (d : GlobalDefinition) (f : ℕ) → g < length a.firsts → global_at r g ≡ Some d → first_of a g ≡ Some f → (p : ℕ) → IsFirst r d.declaration.name.site.token p → IsTouchedIn r p f
    touched_root g d f inside is named p first =
        let P : Option ℕ → Type 0 = λ o. IsFirstOf r g o in
        let found = subst P named (are.globals g inside) in
        record {
          global = g;
          top = and_some (global_at r g) (λ d. IsFirst r d.declaration.name.site.token p) d is first;
          touches = (found.reached, found.names);
          least = λ other touches. found.least other touches.0 touches.1;
        }

    passed_root : (n : ℕ) (f : Function) → n < length a.spawned → function_at r n ≡ Some f → is_chosen a.spawned n ≡ true → (d : Declaration) → Contains f.parameters d → (p : ℕ) → IsFirst r d.name.site.token p → IsPassedTo r p n
    passed_root n f inside is chosen d has p first =
        let spawned = (are.spawned n inside).0 chosen in
        record { spawner = spawned.0; spawned = spawned.1; parameter = and_some (function_at r n) (λ g. (q : Declaration) × Contains g.parameters q × IsFirst r q.name.site.token p) f is (d, has, first) }

    touched_size : (n : ℕ) (roots : Roots) → length (touched_below r a n roots) ≡ length roots
    touched_size zero roots = refl
    touched_size (suc n) roots = touch_size (global_at r n) (first_of a n) (touched_below r a n roots) ∙ touched_size n roots

    touched_sound : (n : ℕ) (roots : Roots) → n ≤ length a.firsts → Sound r roots → Sound r (touched_below r a n roots)
    touched_sound zero roots inside sound = sound
    touched_sound (suc n) roots inside sound =
        touch_sound (global_at r n) (first_of a n) (touched_below r a n roots) (λ d f is named p first. touched_root n d f (omega arith) is named p first) (touched_sound n roots (omega arith) sound)

    touched_has : (n : ℕ) (roots : Roots) (g : ℕ) (d : GlobalDefinition) (f p : ℕ) → g < n → global_at r g ≡ Some d → first_of a g ≡ Some f → p < length roots → IsFirst r d.declaration.name.site.token p → HasRoot (touched_below r a n roots) p
    touched_has zero roots g d f p below is named inside first = absurd (omega arith)
    touched_has (suc n) roots g d f p below is named inside first =
        let size = touched_size n roots in
        elim (cases_lt g n) [
          | inl less ↦ touch_keeps (global_at r n) (first_of a n) (touched_below r a n roots) p (touched_has n roots g d f p less is named inside first)
          | inr least ↦
              let same : g ≡ n = omega arith in
              touch_has (global_at r n) (first_of a n) (touched_below r a n roots) d f p (ap (global_at r) (sym same) ∙ is) (ap (first_of a) (sym same) ∙ named) (omega arith) first
        ]

    passed_size : (n : ℕ) (roots : Roots) → length (passed_below r a n roots) ≡ length roots
    passed_size zero roots = refl
    passed_size (suc n) roots = pass_size n (function_at r n) (is_chosen a.spawned n) (passed_below r a n roots) ∙ passed_size n roots

    passed_sound : (n : ℕ) (roots : Roots) → n ≤ length a.spawned → Sound r roots → Sound r (passed_below r a n roots)
    passed_sound zero roots inside sound = sound
    passed_sound (suc n) roots inside sound =
        pass_sound n (function_at r n) (is_chosen a.spawned n) (passed_below r a n roots) (λ f is chosen d has p first. passed_root n f (omega arith) is chosen d has p first) (passed_sound n roots (omega arith) sound)

    passed_keeps : (n : ℕ) (roots : Roots) (p : ℕ) → HasRoot roots p → HasRoot (passed_below r a n roots) p
    passed_keeps zero roots p has = has
    passed_keeps (suc n) roots p has = pass_keeps n (function_at r n) (is_chosen a.spawned n) (passed_below r a n roots) p (passed_keeps n roots p has)

    passed_has : (n : ℕ) (roots : Roots) (f : ℕ) (g : Function) (d : Declaration) (p : ℕ) → f < n → function_at r f ≡ Some g → is_chosen a.spawned f ≡ true → Contains g.parameters d → p < length roots → IsFirst r d.name.site.token p → HasRoot (passed_below r a n roots) p
    passed_has zero roots f g d p below is chosen has inside first = absurd (omega arith)
    passed_has (suc n) roots f g d p below is chosen has inside first =
        let size = passed_size n roots in
        elim (cases_lt f n) [
          | inl less ↦ pass_keeps n (function_at r n) (is_chosen a.spawned n) (passed_below r a n roots) p (passed_has n roots f g d p less is chosen has inside first)
          | inr least ↦
              let same : f ≡ n = omega arith in
              pass_has n (function_at r n) (is_chosen a.spawned n) (passed_below r a n roots) g d p (ap (function_at r) (sym same) ∙ is) (ap (is_chosen a.spawned) (sym same) ∙ chosen) has (omega arith) first
        ]

    start_none : (count p : ℕ) → root_of (replicate count None) p ≡ None
    start_none count p =
        elim (cases_lt p count) [
          | inl inside ↦ get_or-replicate count p None None inside
          | inr past ↦ let start : Roots = replicate count None in let size : length start ≡ count = length-replicate count None in get_or_past start p None (omega arith)
        ]

    pub roots_size : length (roots_of r a) ≡ position_count r
    roots_size =
        let start : Roots = replicate (position_count r) None in
        passed_size (length (functions_in r.program.items)) (touched_below r a (length (globals_in r.program.items)) start) ∙ touched_size (length (globals_in r.program.items)) start ∙ length-replicate (position_count r) None

    pub roots_sound : Sound r (roots_of r a)
    roots_sound =
        let start : Roots = replicate (position_count r) None in
        let globals = are.global_count in
        let functions = are.spawned_count in
        passed_sound (length (functions_in r.program.items)) (touched_below r a (length (globals_in r.program.items)) start) (omega arith)
        (touched_sound (length (globals_in r.program.items)) start (omega arith) (λ p reason is. absurd (none_not_some reason (sym (start_none (position_count r) p) ∙ is))))

    touched_named : (g : ℕ) (o : Option ℕ) (f : ℕ) → IsFirstOf r g o → IsReached r f → NamesGlobal r f g → (x : ℕ) × (o ≡ Some x)
    touched_named g None f found reached names = absurd (found (record { by = f; reached = reached; names = names }))
    touched_named g (Some x) f found reached names = (x, refl)

    pub roots_complete : (p : ℕ) → p < position_count r → IsRoot r p → HasRoot (roots_of r a) p
    roots_complete p inside (f, inl touched) =
        let start : Roots = replicate (position_count r) None in
        let start_size : length start ≡ position_count r = length-replicate (position_count r) None in
        let globals = are.global_count in
        let top = some_and (global_at r touched.global) (λ d. IsFirst r d.declaration.name.site.token p) touched.top in
        let within = some_inside (globals_in r.program.items) touched.global top.0 top.1 in
        let named = touched_named touched.global (first_of a touched.global) f (are.globals touched.global (omega arith)) touched.touches.0 touched.touches.1 in
        passed_keeps (length (functions_in r.program.items)) (touched_below r a (length (globals_in r.program.items)) start) p
        (touched_has (length (globals_in r.program.items)) start touched.global top.0 named.0 p within top.1 named.1 (omega arith) top.2)
    roots_complete p inside (f, inr passed) =
        let start : Roots = replicate (position_count r) None in
        let start_size : length start ≡ position_count r = length-replicate (position_count r) None in
        let size = touched_size (length (globals_in r.program.items)) start in
        let functions = are.spawned_count in
        let target = some_and (function_at r f) (λ g. (q : Declaration) × Contains g.parameters q × IsFirst r q.name.site.token p) passed.parameter in
        let within = some_inside (functions_in r.program.items) f target.0 target.1 in
        let parameter = target.2 in
        let chosen = (are.spawned f (omega arith)).1 (passed.spawner, passed.spawned) in
        passed_has (length (functions_in r.program.items)) (touched_below r a (length (globals_in r.program.items)) start) f target.0 parameter.0 p within target.1 chosen parameter.1 (omega arith) parameter.2
