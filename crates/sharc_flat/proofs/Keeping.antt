-- The jumps of the code of a statement stay in it or lead directly after it, or to the places of the loop around it.
use Rattle.sharc_flat.proofs.{Imports.{◌≡◌, ◌==◌, ℕ, ◌+◌, ◌<◌, ◌≤◌, Bool, true, false, cond, List, [], ◌∷◌, ◌++◌, length, take, drop, Option, Some, None, refl, sym, ap, ◌∙◌, subst, arith, length-append, append_assoc, Site, Span, Declaration, Jump, Break, Continue, span_of, Expression, Right, value, malloc, Simple, assign, does_call, Local, First, nothing, declares, does, Statement, empty, block, declare, simple, jump, return, if_then, if_then_else, while, for, Statements, no_statements, statement, Function, Kind, declared_kind, Register, Int, Reference, GlobalCells, is_reference, pointed, Assignment, written, row_at, declared_row, Sharing, private, Op, Lvalue, ref_count, Context, register_from, register_of, at_site, pops, ends_from, leaves, Slot, Target, base_width, index_width, guard_field, guard_code, drop_base, settle_code, cell_store_code, store_code, width_code, kind_of, is_ref, target_of, mode_of, guard_of, drop_code, truth_code, expression_code, place_code, elements_code, right_code, simple_code, with_variable, ints_of, refs_of, zero_code, initial_code, local_code, first_code, behind_first, step_code, test_code, turn_code, Around, opened, looping, jump_code, result_code, return_code, if_code, sides_code, choice_code, turns_code, body_at, loop_code, behind_statement, behind_statements, statement_code, statements_code, in_function, around_body, function_code, lvalue_in, declared_lvalue, IfThere, Resolution}, Staying.{Knows, KnowsPlace, OpStays, Stays, joins, choose, guards, drops_base, widths_stay, truths_stay, expressions_stay, places_stay}}
use Rattle.sharc_flat.specs.Places.{variable}

-- ---- what is known of the calls in statements; and break and continue are in loops
abbrev pub KnowsRight : (ℕ → Type 0) → Resolution → Right → Type 0
KnowsRight Fn r (value e) = Knows Fn r e
KnowsRight Fn r (malloc s n w) = IfThere (Knows Fn r) n

abbrev pub KnowsSimple : (ℕ → Type 0) → Resolution → Simple → Type 0
KnowsSimple Fn r (assign s u x) = KnowsPlace Fn r u × KnowsRight Fn r x
KnowsSimple Fn r (does_call e) = Knows Fn r e

abbrev pub KnowsFirst : (ℕ → Type 0) → Resolution → First → Type 0
KnowsFirst Fn r nothing = Unit {0}
KnowsFirst Fn r (declares l) = IfThere (KnowsRight Fn r) l.initial
KnowsFirst Fn r (does x) = KnowsSimple Fn r x

abbrev mutual
  pub InLoops : (ℕ → Type 0) → Resolution → Bool → Statement → Type 0
  InLoops Fn r b (empty s) = Unit {0}
  InLoops Fn r b (block s all) = InLoopsAll Fn r b all
  InLoops Fn r b (declare s l) = IfThere (KnowsRight Fn r) l.initial
  InLoops Fn r b (simple s x) = KnowsSimple Fn r x
  InLoops Fn r b (jump s j) = b ≡ true
  InLoops Fn r b (return s e) = IfThere (Knows Fn r) e
  InLoops Fn r b (if_then s e x) = Knows Fn r e × InLoops Fn r b x
  InLoops Fn r b (if_then_else s e x y) = Knows Fn r e × InLoops Fn r b x × InLoops Fn r b y
  InLoops Fn r b (while s e x) = Knows Fn r e × InLoops Fn r true x
  InLoops Fn r b (for s h x) = KnowsFirst Fn r h.first × IfThere (Knows Fn r) h.test × IfThere (KnowsSimple Fn r) h.step × InLoops Fn r true x

  pub InLoopsAll : (ℕ → Type 0) → Resolution → Bool → Statements → Type 0
  InLoopsAll Fn r b no_statements = Unit {0}
  InLoopsAll Fn r b (statement x rest) = InLoops Fn r b x × InLoopsAll Fn r b rest

pub turn_length : (c : Context) (e : Option Expression) (over : ℕ) → length (turn_code c e over) ≡ length (turn_code c e 0)
turn_length c None over = refl
turn_length c (Some e) over = length-append (test_code c e) (Op.SkipIfZero (ints_of c) over ∷ []) ∙ sym (length-append (test_code c e) (Op.SkipIfZero (ints_of c) 0 ∷ []))

-- ---- a function, but for the Return at its end
abbrev pub front : Assignment → (List GlobalCells) → ℕ → Function → List Op
front m globals pc f = Op.Enter ∷ (statements_code (in_function m globals f) (around_body f) (pc + 1) f.statements
    ++ (ends_from (behind_statements (in_function m globals f) f.statements).scope 0 ++ zero_code (is_reference (declared_kind f.result)) 0 0))

pub front_is : (m : Assignment) (globals : List GlobalCells) (pc : ℕ) (f : Function) → function_code m globals pc f ≡ front m globals pc f ++ Op.Return (at_site f.body.last) ∷ []
front_is m globals pc f =
    let c = in_function m globals f in
    let code = statements_code c (around_body f) (pc + 1) f.statements in
    let ends = ends_from (behind_statements c f.statements).scope 0 in
    let zero_is = zero_code (is_reference (declared_kind f.result)) 0 0 in
    let R = Op.Return (at_site f.body.last) ∷ [] in
    ap (λ l. Op.Enter ∷ l) (sym (append_assoc code (ends ++ zero_is) R ∙ ap (λ l. code ++ l) (append_assoc ends zero_is R)))

-- a variable's reference is below all that is free
named_below : (xs : List Slot) (i r token n : ℕ) → register_from i r xs token ≡ Reference n → n < r + ref_count xs
named_below [] i r token n e = absurd (cc)
named_below (x ∷ rest) i r token n e = by (x.token == token) x.is_pointer (named_below rest i (r + 1) token n) (named_below rest (i + 1) r token n) e
  where
    same : (a b : ℕ) → Reference a ≡ Reference b → a ≡ b
    same a b e = cc

    by : (b p : Bool) → (register_from i (r + 1) rest token ≡ Reference n → n < r + 1 + ref_count rest) → (register_from (i + 1) r rest token ≡ Reference n → n < r + ref_count rest)
        → cond b (cond p (Reference r) (Int i)) (cond p (register_from i (r + 1) rest token) (register_from (i + 1) r rest token)) ≡ Reference n → n < r + cond p (ref_count rest + 1) (ref_count rest)
    by true true f g e = let q = same r n e in omega arith
    by true false f g e = absurd (cc)
    by false true f g e = let q = f e in omega arith
    by false false f g e = g e

-- what comes after is of the same program
behind_known : (P : Resolution → Type 0) (c : Context) (f : First) → P c.program.typed → P (behind_first c f).program.typed
behind_known P c (does x) h = h
behind_known P c _ h = h

after_known : (P : Resolution → Type 0) (c : Context) (x : Statement) → P c.program.typed → P (behind_statement c x).program.typed
after_known P c (empty s) h = h
after_known P c _ h = h

module _ (A Fn : ℕ → Type 0) where
  abbrev S : List Op → Type 0
  S = Stays A Fn

  pops_stay : (r : ℕ) (xs : List Slot) → S (pops r xs)
  pops_stay r [] = tt
  pops_stay r (x ∷ rest) = choose A Fn x.is_pointer (Op.Pop r ∷ pops (r + 1) rest) (pops r rest) (tt, pops_stay (r + 1) rest) (pops_stay r rest)

  ends_stay : (scope : List Slot) (n : ℕ) → S (ends_from scope n)
  ends_stay scope n = pops_stay (ref_count (take n scope)) (drop n scope)

  leaves_stay : (scope : List Slot) (ns : List ℕ) → S (leaves scope ns)
  leaves_stay scope [] = tt
  leaves_stay scope (n ∷ outer) = joins A Fn (ends_from scope n) _ (ends_stay scope n) (leaves_stay (take n scope) outer)

  settles : (i r : ℕ) (x : Register) → ((n : ℕ) → x ≡ Reference n → n < r) → S (settle_code i r x)
  settles i r (Int x) k = (tt, tt)
  settles i r (Reference x) k = ((λ e. let lt = k x refl in absurd (omega arith)), tt)

  cell_stores : (c : Context) (i r vi vr : ℕ) (site : Site) (lvalue : Lvalue) (mode : Sharing) (b : Bool) (t : Target) → S (cell_store_code c i r vi vr site lvalue mode b t)
  cell_stores c i r vi vr site lvalue mode true t = joins A Fn (guard_code c i r site lvalue t (guard_field c.program.typed mode)) _ (guards A Fn c i r site lvalue t (guard_field c.program.typed mode)) (tt, drops_base A Fn c r t)
  cell_stores c i r vi vr site lvalue mode false t = joins A Fn (guard_code c i r site lvalue t (guard_field c.program.typed mode)) _ (guards A Fn c i r site lvalue t (guard_field c.program.typed mode)) (tt, drops_base A Fn c r t)

  stores : (c : Context) (i r vi vr : ℕ) (site : Site) (lvalue : Lvalue) (mode : Sharing) (b : Bool) (t : Target) → ref_count c.scope ≤ vr → S (store_code c i r vi vr site lvalue mode b t)
  stores c i r vi vr site lvalue mode b (variable x) le = settles vi vr (register_of c.scope x) (λ n e. let lt = named_below c.scope 0 0 x n e in omega arith)
  stores c i r vi vr site lvalue mode b k le = cell_stores c i r vi vr site lvalue mode b k

  counts : (c : Context) (i r : ℕ) (n : Option Expression) → IfThere (Knows Fn c.program.typed) n → S (elements_code c i r n)
  counts c i r None h = (tt, tt)
  counts c i r (Some n) h = expressions_stay A Fn c i r n h

  rights : (c : Context) (i r : ℕ) (kind : Kind) (mode : Sharing) (x : Right) → KnowsRight Fn c.program.typed x → S (right_code c i r kind mode x)
  rights c i r kind mode (value e) h = joins A Fn (expression_code c i r e) _ (expressions_stay A Fn c i r e h) (widths_stay A Fn c i kind (span_of e).first)
  rights c i r kind mode (malloc s n w) h = (tt, joins A Fn (elements_code c i r n) _ (counts c i r n h) (tt, (tt, tt)))

  drops : (b : Bool) (r : ℕ) → S (drop_code b r)
  drops b r = choose A Fn b (Op.Pop r ∷ []) [] (tt, tt) tt

  simples : (c : Context) (i r : ℕ) (x : Simple) → ref_count c.scope ≤ r → KnowsSimple Fn c.program.typed x → S (simple_code c i r x)
  simples c i r (assign s u x) le h = joins A Fn (place_code c i r (span_of u).first None (guard_of c u) u) _ (places_stay A Fn c i r (span_of u).first None (guard_of c u) u h.0)
      (joins A Fn (right_code c (i + index_width (target_of c u) (guard_of c u)) (r + base_width (target_of c u)) (kind_of c u) (pointed c.program (row_at c.program.typed u)) x) _
      (rights c (i + index_width (target_of c u) (guard_of c u)) (r + base_width (target_of c u)) (kind_of c u) (pointed c.program (row_at c.program.typed u)) x h.1)
      (stores c i r (i + index_width (target_of c u) (guard_of c u)) (r + base_width (target_of c u)) (span_of u).first (lvalue_in c u) (mode_of c u) (is_ref c u) (target_of c u) (omega arith)))
  simples c i r (does_call e) le h = joins A Fn (expression_code c i r e) _ (expressions_stay A Fn c i r e h) (drops (is_ref c e) r)

  zeros : (b : Bool) (i r : ℕ) → S (zero_code b i r)
  zeros b i r = choose A Fn b _ _ (tt, tt) (tt, tt)

  initials : (c : Context) (d : Declaration) (x : Option Right) → IfThere (KnowsRight Fn c.program.typed) x → S (initial_code c d x)
  initials c d None h = tt
  initials c d (Some x) h = joins A Fn (right_code c (ints_of c) (refs_of c) (declared_kind d.written) (pointed c.program (Some (declared_row c.program.typed written d.name.site.token))) x) _
      (rights c (ints_of c) (refs_of c) (declared_kind d.written) (pointed c.program (Some (declared_row c.program.typed written d.name.site.token))) x h)
      (stores c 0 0 (ints_of c) (refs_of c) d.name.site (declared_lvalue d) private (is_reference (declared_kind d.written)) (variable d.name.site.token) (omega arith))

  locals : (c : Context) (l : Local) → IfThere (KnowsRight Fn c.program.typed) l.initial → S (local_code c l)
  locals c l h = joins A Fn (zero_code (is_reference (declared_kind l.declaration.written)) (ints_of c) (refs_of c)) _ (zeros (is_reference (declared_kind l.declaration.written)) (ints_of c) (refs_of c))
      (initials (with_variable c l.declaration) l.declaration l.initial h)

  firsts : (c : Context) (x : First) → KnowsFirst Fn c.program.typed x → S (first_code c x)
  firsts c nothing h = tt
  firsts c (declares l) h = (tt, locals c l h)
  firsts c (does x) h = simples c (ints_of c) (refs_of c) x (omega arith) h

  steps : (c : Context) (x : Option Simple) → IfThere (KnowsSimple Fn c.program.typed) x → S (step_code c x)
  steps c None h = tt
  steps c (Some x) h = simples c (ints_of c) (refs_of c) x (omega arith) h

  -- what decides, and what comes after it
  turns : (c : Context) (e : Option Expression) (over : ℕ) (ys : List Op) → over ≤ length ys → IfThere (Knows Fn c.program.typed) e → S ys → S (turn_code c e over ++ ys)
  turns c None over ys le k h = h
  turns c (Some e) over ys le k h = subst S (sym (append_assoc (test_code c e) (Op.SkipIfZero (ints_of c) over ∷ []) ys))
      (joins A Fn (test_code c e) _ (joins A Fn (expression_code c (ints_of c) (refs_of c) e) _ (expressions_stay A Fn c (ints_of c) (refs_of c) e k) (truths_stay A Fn c (is_ref c e) (ints_of c) (refs_of c))) (le, h))

  results : (b : Bool) (i r : ℕ) → S (result_code b i r)
  results b i r = choose A Fn b _ _ (tt, tt) (tt, tt)

  returns_stay : (c : Context) (a : Around) (site : Site) (e : Option Expression) → IfThere (Knows Fn c.program.typed) e → S (return_code c a site e)
  returns_stay c a site None k = joins A Fn (leaves c.scope (a.inside ++ a.outside)) _ (leaves_stay c.scope (a.inside ++ a.outside)) (joins A Fn (zero_code (is_reference a.result) 0 0) _ (zeros (is_reference a.result) 0 0) (tt, tt))
  returns_stay c a site (Some e) k = joins A Fn (expression_code c (ints_of c) (refs_of c) e) _ (expressions_stay A Fn c (ints_of c) (refs_of c) e k)
      (joins A Fn (width_code (ints_of c) a.result (span_of e).first) _ (widths_stay A Fn c (ints_of c) a.result (span_of e).first)
      (joins A Fn (leaves c.scope (a.inside ++ a.outside)) _ (leaves_stay c.scope (a.inside ++ a.outside))
      (joins A Fn (result_code (is_reference a.result) (ints_of c) (refs_of c)) _ (results (is_reference a.result) (ints_of c) (refs_of c)) (tt, tt))))

  jumps : (c : Context) (a : Around) (j : Jump) → A a.broken → A a.continued → S (jump_code c a j)
  jumps c a Break x y = joins A Fn (leaves c.scope a.inside) _ (leaves_stay c.scope a.inside) (x, tt)
  jumps c a Continue x y = joins A Fn (leaves c.scope a.inside) _ (leaves_stay c.scope a.inside) (y, tt)

  -- all of these places may be led to
  abbrev pub Within : ℕ → ℕ → Type 0
  Within from n = (q : ℕ) → from ≤ q → q < from + n → A q

  part : (from n to k : ℕ) → from ≤ to → to + k ≤ from + n → Within from n → Within to k
  part from n to k le ge w q l1 l2 = w q (omega arith) (omega arith)

  -- a loop, whose body is given with its length and what it does
  loops : (c : Context) (e : Option Expression) (pc : ℕ) (step B : List Op) → IfThere (Knows Fn c.program.typed) e → S step → S B → A (pc + 3) → S (turns_code pc step (turn_code c e (length B + length step + 1)) B)
  loops c e pc step B t h k w =
      let J = Op.Jump (pc + 3) ∷ [] in
      let T = turn_code c e (length B + length step + 1) in
      let l1 = length-append T (B ++ (step ++ J)) in
      let l2 = length-append B (step ++ J) in
      let l3 = length-append step J in (
        omega (arith, l1, l2, l3),
        (
          omega (arith, l1, l2, l3),
          (
            omega (arith, l1, l2, l3),
            turns c e (length B + length step + 1) (B ++ (step ++ J)) (omega (arith, l2, l3)) t (joins A Fn B (step ++ J) k (joins A Fn step J h (w, tt))),
          ),
        ),
      )

  mutual
    pub statements_keep : (c : Context) (a : Around) (b : Bool) (pc : ℕ) (x : Statement) → InLoops Fn c.program.typed b x → (b ≡ true → A a.broken) → (b ≡ true → A a.continued) → Within pc (length (statement_code c a pc x)) → S (statement_code c a pc x)
    statements_keep c a b pc (empty s) l u v w = (tt, tt)
    statements_keep c a b pc (block s all) l u v w =
        let code = statements_code c (opened c a) (pc + 1) all in
        let ends = ends_from (behind_statements c all).scope (length c.scope) in
        let n = length-append code ends in
        let n2 = length-append (code ++ ends) (Op.BlockEnd ∷ []) in (
          tt,
          joins A Fn (code ++ ends) (Op.BlockEnd ∷ [])
              (joins A Fn code ends (all_keep c (opened c a) b (pc + 1) all l u v (part pc (1 + length ((code ++ ends) ++ Op.BlockEnd ∷ [])) (pc + 1) (length code) (omega arith) (omega (arith, n, n2)) (λ q p1 p2. w q p1 (omega arith)))) (ends_stay (behind_statements c all).scope (length c.scope)))
              (tt, tt),
        )
    statements_keep c a b pc (declare s l) h u v w = (tt, locals c l h)
    statements_keep c a b pc (simple s x) h u v w = (tt, simples c (ints_of c) (refs_of c) x (omega arith) h)
    statements_keep c a b pc (jump s j) h u v w = (tt, jumps c a j (u h) (v h))
    statements_keep c a b pc (return s e) h u v w = (tt, returns_stay c a s.first e h)
    statements_keep c a b pc (if_then s e x) h u v w =
        let at = pc + 1 + length (turn_code c (Some e) 0) in
        let B = statement_code c a at x in
        let n = length-append (turn_code c (Some e) (length B)) B in
        let m = turn_length c (Some e) (length B) in
        (tt, turns c (Some e) (length B) B (omega arith) h.0 (statements_keep c a b at x h.1 u v (part pc (1 + length (turn_code c (Some e) (length B) ++ B)) at (length B) (omega arith) (omega (arith, n, m)) (λ q p1 p2. w q p1 (omega arith)))))
    statements_keep c a b pc (if_then_else s e x y) h u v w =
        let at = pc + 1 + length (turn_code c (Some e) 0) in
        let X = statement_code c a at x in
        let at2 = at + length X + 1 in
        let Y = statement_code c a at2 y in
        let T = turn_code c (Some e) (length X + 1) in
        let tail = Op.Skip (length Y) ∷ Y in
        let n1 = length-append T (X ++ tail) in
        let n2 = length-append X tail in
        let m = turn_length c (Some e) (length X + 1) in (
          tt,
          turns c (Some e) (length X + 1) (X ++ tail) (omega (arith, n2)) h.0
              (joins A Fn X tail (statements_keep c a b at x h.1 u v (part pc (1 + length (T ++ (X ++ tail))) at (length X) (omega arith) (omega (arith, n1, n2, m)) (λ q p1 p2. w q p1 (omega arith))))
              (omega arith, statements_keep c a b at2 y h.2 u v (part pc (1 + length (T ++ (X ++ tail))) at2 (length Y) (omega arith) (omega (arith, n1, n2, m)) (λ q p1 p2. w q p1 (omega arith))))),
        )
    statements_keep c a b pc (while s e x) h u v w =
        let at = body_at (pc + 1) (turn_code c (Some e)) in
        let a1 = looping a (pc + 1 + 1) (pc + 1 + 2) in
        let B = statement_code c a1 at x in
        let T = turn_code c (Some e) (length B + 0 + 1) in
        let J = Op.Jump (pc + 1 + 3) ∷ [] in
        let n1 = length-append T (B ++ J) in
        let n2 = length-append B J in
        let m = turn_length c (Some e) (length B + 0 + 1) in (
          tt,
          loops c (Some e) (pc + 1) [] B h.0 tt
              (statements_keep c a1 true at x h.1 (λ _. w (pc + 1 + 1) (omega arith) (omega (arith, n1, n2))) (λ _. w (pc + 1 + 2) (omega arith) (omega (arith, n1, n2)))
              (part pc (1 + (3 + length (T ++ (B ++ J)))) at (length B) (omega arith) (omega (arith, n1, n2, m)) (λ q p1 p2. w q p1 (omega arith))))
              (w (pc + 1 + 3) (omega arith) (omega (arith, n1, n2))),
        )
    statements_keep c a b pc (for s hd x) h u v w =
        let F = first_code c hd.first in
        let c1 = behind_first c hd.first in
        let p1 = pc + 1 + length F in
        let step = step_code c1 hd.step in
        let at = body_at p1 (turn_code c1 hd.test) in
        let a1 = looping (opened c a) (p1 + 1) (p1 + 2) in
        let B = statement_code c1 a1 at x in
        let T = turn_code c1 hd.test (length B + length step + 1) in
        let J = Op.Jump (p1 + 3) ∷ [] in
        let L = turns_code p1 step T B in
        let ends = ends_from c1.scope (length c.scope) in
        let n0 = length-append (F ++ L) ends in
        let n1 = length-append F L in
        let n2 = length-append T (B ++ (step ++ J)) in
        let n3 = length-append B (step ++ J) in
        let n4 = length-append step J in
        let m = turn_length c1 hd.test (length B + length step + 1) in (
          tt,
          joins A Fn (F ++ L) ends (joins A Fn F L (firsts c hd.first h.0)
              (loops c1 hd.test p1 step B (behind_known (λ r. IfThere (Knows Fn r) hd.test) c hd.first h.1) (steps c1 hd.step (behind_known (λ r. IfThere (KnowsSimple Fn r) hd.step) c hd.first h.2))
              (statements_keep c1 a1 true at x (behind_known (λ r. InLoops Fn r true x) c hd.first h.3) (λ _. w (p1 + 1) (omega arith) (omega (arith, n0, n1, n2, n3, n4))) (λ _. w (p1 + 2) (omega arith) (omega (arith, n0, n1, n2, n3, n4)))
              (part pc (1 + length ((F ++ L) ++ ends)) at (length B) (omega arith) (omega (arith, n0, n1, n2, n3, n4, m)) (λ q p1 p2. w q p1 (omega arith))))
              (w (p1 + 3) (omega arith) (omega (arith, n0, n1, n2, n3, n4)))))
              (ends_stay c1.scope (length c.scope)),
        )

    pub all_keep : (c : Context) (a : Around) (b : Bool) (pc : ℕ) (all : Statements) → InLoopsAll Fn c.program.typed b all → (b ≡ true → A a.broken) → (b ≡ true → A a.continued) → Within pc (length (statements_code c a pc all)) → S (statements_code c a pc all)
    all_keep c a b pc no_statements l u v w = tt
    all_keep c a b pc (statement x rest) l u v w =
        let X = statement_code c a pc x in
        let R = statements_code (behind_statement c x) a (pc + length X) rest in
        let n = length-append X R in
        joins A Fn X R (statements_keep c a b pc x l.0 u v (part pc (length (X ++ R)) pc (length X) (omega arith) (omega (arith, n)) w))
        (all_keep (behind_statement c x) a b (pc + length X) rest (after_known (λ r. InLoopsAll Fn r b rest) c x l.1) u v (part pc (length (X ++ R)) (pc + length X) (length R) (omega arith) (omega (arith, n)) w))

  pub function_keeps : (m : Assignment) (globals : List GlobalCells) (pc : ℕ) (f : Function) → InLoopsAll Fn m.typed false f.statements → Within pc (length (front m globals pc f)) → S (front m globals pc f)
  function_keeps m globals pc f l w =
      let c = in_function m globals f in
      let code = statements_code c (around_body f) (pc + 1) f.statements in
      let ends = ends_from (behind_statements c f.statements).scope 0 in
      let last = zero_code (is_reference (declared_kind f.result)) 0 0 in
      let n = length-append code (ends ++ last) in (
        tt,
        joins A Fn code (ends ++ last) (all_keep c (around_body f) false (pc + 1) f.statements l (λ e. absurd (cc)) (λ e. absurd (cc))
            (part pc (1 + length (code ++ (ends ++ last))) (pc + 1) (length code) (omega arith) (omega (arith, n)) (λ q p1 p2. w q p1 (omega arith))))
            (joins A Fn ends last (ends_stay (behind_statements c f.statements).scope 0) (zeros (is_reference (declared_kind f.result)) 0 0)),
      )
