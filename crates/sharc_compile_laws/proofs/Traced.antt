-- The code of statements and of functions: nothing is known of integer registers where a statement begins and ends.
use Rattle.sharc_compile_laws.proofs.{Imports.{append_assoc, pos, slice_get, slice_index_or, ◌≡◌, ℕ, ◌+◌, ◌≤◌, Bool, true, false, cond, List, [], ◌∷◌, ◌++◌, length, take, drop, refl, ap, sym, ◌∙◌, subst, arith, get_or_past, Option, Some, None, ⊎_elim, cases_lt, Site, Declaration, Jump, Break, Continue, span_of, Expression, Right, value, malloc, Simple, assign, does_call, Local, First, nothing, declares, does, Statement, empty, block, declare, simple, jump, return, if_then, if_then_else, while, for, Statements, no_statements, statement, Function, Kind, declared_kind, Row, GlobalCells, no_function, functions_in, pointed, Assignment, written, row_at, declared_row, Sharing, private, is_reference, Op, Flat, function_of, Slot, Context, ref_count, at_site, pops, ends_from, leaves, variable, base_width, index_width, width_code, kind_of, is_ref, target_of, mode_of, guard_of, lvalue_in, drop_code, expression_code, place_code, elements_code, right_code, simple_code, with_variable, ints_of, refs_of, zero_code, declared_lvalue, initial_code, local_code, first_code, behind_first, step_code, test_code, turn_code, Around, opened, looping, jump_code, result_code, return_code, body_at, turns_code, behind_statement, behind_statements, statement_code, statements_code, in_function, around_body, function_code, functions_code, IsFlattened, agrees_all, Agrees, LocksStand}, Ties.{Ties, Fit, fit_same, nothing_in, Needs}, Tied.locks_stand, Tying.{Low, low_place, Piece, Entries, P, tied, then_do, one, R, both, none, plain, sets, moves, pops as pops_one, truths, widths, enters, expressions, places, stores, T}, Looping.{loop, test_length}}
use Rattle.sharc_flat_lemmas.proofs.Functions.{begin_of, row_of, rows_as_many, whole}
use Rattle.sharc_flat_lemmas.proofs.Flow as flow
use Rattle.sharc_lemmas.proofs.Lists.{some_there}

-- a context of the same globals
after_same : (c : Context) (globals : List GlobalCells) (x : Statement) → c.globals ≡ globals → (behind_statement c x).globals ≡ globals
after_same c globals (empty s) e = e
after_same c globals _ e = e

first_same : (c : Context) (globals : List GlobalCells) (x : First) → c.globals ≡ globals → (behind_first c x).globals ≡ globals
first_same c globals (does x) e = e
first_same c globals _ e = e

module _ (flat : Flat) where
  -- nothing is known before the code and after it
  abbrev X : List Op → Type 0
  X os = P flat [] os []

  low_none : (i : ℕ) → Low i []
  low_none i x y = absurd y

  bare : (i : ℕ) (os : List Op) → R flat i os → X os
  bare i os p = p [] (low_none i)

  then_x : (xs ys : List Op) → X xs → X ys → X (xs ++ ys)
  then_x xs ys p q = then_do flat [] [] [] xs ys p q

  pop_all : (r : ℕ) (xs : List Slot) → X (pops r xs)
  pop_all r [] = bare 0 [] (none flat 0)
  pop_all r (x ∷ rest) = by x.is_pointer (pop_all (r + 1) rest) (pop_all r rest)
    where
      by : (b : Bool) → X (pops (r + 1) rest) → X (pops r rest) → X (cond b (Op.Pop r ∷ pops (r + 1) rest) (pops r rest))
      by true p q = then_x (Op.Pop r ∷ []) (pops (r + 1) rest) (bare 0 (Op.Pop r ∷ []) (pops_one flat 0 r)) p
      by false p q = q

  ends_x : (scope : List Slot) (n : ℕ) → X (ends_from scope n)
  ends_x scope n = pop_all (ref_count (take n scope)) (drop n scope)

  leaves_x : (scope : List Slot) (marks : List ℕ) → X (leaves scope marks)
  leaves_x scope [] = bare 0 [] (none flat 0)
  leaves_x scope (n ∷ outer) = then_x (ends_from scope n) (leaves (take n scope) outer) (ends_x scope n) (leaves_x (take n scope) outer)

  choose_x : (b : Bool) (xs ys : List Op) → X xs → X ys → X (cond b xs ys)
  choose_x true xs ys p q = p
  choose_x false xs ys p q = q

  zero_x : (b : Bool) (i r : ℕ) → X (zero_code b i r)
  zero_x b i r = choose_x b (Op.Null r ∷ []) (Op.Constant i (pos 0) ∷ []) (bare i _ (plain flat i (Op.Null r) (λ table pc s f. f) (λ m. tt))) (bare i _ (sets flat i i (Op.Constant i (pos 0)) (omega arith) (λ table pc s k. k) (λ m. tt)))

  result_x : (b : Bool) (i r : ℕ) → X (result_code b i r)
  result_x b i r = choose_x b (Op.MoveReference 0 r ∷ []) (Op.Move 0 i ∷ []) (bare 0 _ (plain flat 0 (Op.MoveReference 0 r) (λ table pc s f. f) (λ m. tt))) (bare 0 _ (moves flat 0 0 i (omega arith)))

  return_x : (site : Site) → X (Op.Return (at_site site) ∷ [])
  return_x site = one flat [] (Op.Return (at_site site)) [] (λ table pc d fit. record { next = tt; stands = λ m h. tt })

  module _ (c : Context) (same : c.globals ≡ flat.globals) where
    counts : (i r : ℕ) (n : Option Expression) → R flat i (elements_code c i r n)
    counts i r None = sets flat i i (Op.Constant i (pos 1)) (omega arith) (λ table pc s k. k) (λ m. tt)
    counts i r (Some n) = expressions flat c same i r n

    rights : (i r : ℕ) (kind : Kind) (mode : Sharing) (x : Right) → R flat i (right_code c i r kind mode x)
    rights i r kind mode (value e) = both flat i (expression_code c i r e) _ (expressions flat c same i r e) (widths flat i i kind (span_of e).first)
    rights i r kind mode (malloc s n w) =
        enters flat i _ (both flat i (elements_code c i r n) _ (counts i r n)
        (both flat i (Op.ChkPositive i _ ∷ []) (Op.New r i _ _ ∷ []) (plain flat i (Op.ChkPositive i _) (λ table pc s f. f) (λ m. tt)) (plain flat i (Op.New r i _ _) (λ table pc s f. f) (λ m. tt))))

    simples : (i r : ℕ) (x : Simple) → X (simple_code c i r x)
    simples i r (assign s u x) =
        let t = target_of c u in
        let g = guard_of c u in
        let A = T flat c same t g i ++ [] in
        let j = i + index_width t g in
        let w = r + base_width t in
        then_do flat [] A [] (place_code c i r (span_of u).first None g u) _ (places flat c same [] i r (span_of u).first None g u (low_none i))
        (then_do flat A A [] (right_code c j w (kind_of c u) (pointed c.program (row_at c.program.typed u)) x) _ (rights j w (kind_of c u) (pointed c.program (row_at c.program.typed u)) x A (low_place c.globals t g i [] (low_none i)))
        (stores flat c same i r j w (span_of u).first (lvalue_in c u) (mode_of c u) (is_ref c u) t))
    simples i r (does_call e) = then_x (expression_code c i r e) (drop_code (is_ref c e) r) (bare i _ (expressions flat c same i r e)) (choose_x (is_ref c e) (Op.Pop r ∷ []) [] (bare i _ (pops_one flat i r)) (bare i [] (none flat i)))

    tests : (e : Expression) → X (test_code c e)
    tests e = bare (ints_of c) _ (both flat (ints_of c) (expression_code c (ints_of c) (refs_of c) e) _ (expressions flat c same (ints_of c) (refs_of c) e) (truths flat (is_ref c e) (ints_of c) (refs_of c)))

    steps : (x : Option Simple) → X (step_code c x)
    steps None = bare 0 [] (none flat 0)
    steps (Some x) = simples (ints_of c) (refs_of c) x

    -- after its declaration
    initials : (d : Declaration) (x : Option Right) → X (initial_code c d x)
    initials d None = bare 0 [] (none flat 0)
    initials d (Some x) =
        then_x (right_code c (ints_of c) (refs_of c) (declared_kind d.written) (pointed c.program (Some (declared_row c.program.typed written d.name.site.token))) x) _
        (bare (ints_of c) _ (rights (ints_of c) (refs_of c) (declared_kind d.written) (pointed c.program (Some (declared_row c.program.typed written d.name.site.token))) x))
        (stores flat c same 0 0 (ints_of c) (refs_of c) d.name.site (declared_lvalue d) private (is_reference (declared_kind d.written)) (variable d.name.site.token))

  locals : (c : Context) → c.globals ≡ flat.globals → (l : Local) → X (local_code c l)
  locals c same l = then_x (zero_code (is_reference (declared_kind l.declaration.written)) (ints_of c) (refs_of c)) _ (zero_x (is_reference (declared_kind l.declaration.written)) (ints_of c) (refs_of c)) (initials (with_variable c l.declaration) same l.declaration l.initial)

  firsts : (c : Context) → c.globals ≡ flat.globals → (x : First) → X (first_code c x)
  firsts c same nothing = bare 0 [] (none flat 0)
  firsts c same (declares l) = then_x (Op.Enter ∷ []) (local_code c l) (bare 0 _ (plain flat 0 Op.Enter (λ table pc s f. f) (λ m. tt))) (locals c same l)
  firsts c same (does x) = simples c same (ints_of c) (refs_of c) x

  returns : (c : Context) → c.globals ≡ flat.globals → (a : Around) (site : Site) (e : Option Expression) → X (return_code c a site e)
  returns c same a site None = then_x (leaves c.scope (a.inside ++ a.outside)) _ (leaves_x c.scope (a.inside ++ a.outside)) (then_x (zero_code (is_reference a.result) 0 0) _ (zero_x (is_reference a.result) 0 0) (return_x site))
  returns c same a site (Some e) =
      then_x (expression_code c (ints_of c) (refs_of c) e) _ (bare (ints_of c) _ (expressions flat c same (ints_of c) (refs_of c) e))
      (then_x (width_code (ints_of c) a.result (span_of e).first) _ (bare 0 _ (widths flat 0 (ints_of c) a.result (span_of e).first))
      (then_x (leaves c.scope (a.inside ++ a.outside)) _ (leaves_x c.scope (a.inside ++ a.outside)) (then_x (result_code (is_reference a.result) (ints_of c) (refs_of c)) _ (result_x (is_reference a.result) (ints_of c) (refs_of c)) (return_x site))))

  -- ---- statements: nothing is known where the loop around them is left or goes on
  abbrev L : Around → (ℕ → Ties) → Type 0
  L a table = Entries flat table × (table a.broken ≡ []) × (table a.continued ≡ [])

  abbrev S : ((ℕ → Ties) → Type 0) → ℕ → List Op → Type 0
  S D pc os = Piece flat D [] pc os []

  lift : (D : (ℕ → Ties) → Type 0) → ((table : ℕ → Ties) → D table → Entries flat table) → (os : List Op) → X os → (pc : ℕ) → S D pc os
  lift D f os p pc = flow.known (tied flat) (Entries flat) D [] pc os [] f (p pc)

  lift_l : (a : Around) (os : List Op) → X os → (pc : ℕ) → S (L a) pc os
  lift_l a os p pc = lift (L a) (λ table d. d.0) os p pc

  then_at : (D : (ℕ → Ties) → Type 0) (pc : ℕ) (xs ys : List Op) → S D pc xs → S D (pc + length xs) ys → S D pc (xs ++ ys)
  then_at D pc xs ys p q = flow.joins (tied flat) D [] [] [] pc xs ys p q

  at_place : (D : (ℕ → Ties) → Type 0) (p q : ℕ) (os : List Op) → p ≡ q → S D p os → S D q os
  at_place D p q os e x = subst (λ n. S D n os) e x

  entered : (a : Around) (pc : ℕ) (os : List Op) → S (L a) (pc + 1) os → S (L a) pc (Op.Enter ∷ os)
  entered a pc os p = then_at (L a) pc (Op.Enter ∷ []) os (lift_l a (Op.Enter ∷ []) (bare 0 _ (plain flat 0 Op.Enter (λ table pc s f. f) (λ m. tt))) pc) (at_place (L a) (pc + 1) (pc + length (Op.Enter ∷ [])) os (omega arith) p)

  jump_to : (D : (ℕ → Ties) → Type 0) (to pc : ℕ) → ((table : ℕ → Ties) → D table → table to ≡ []) → S D pc (Op.Jump to ∷ [])
  jump_to D to pc h = flow.line (tied flat) D [] pc (Op.Jump to) [] (λ table d own end. record { next = subst (Fit []) (sym (h table d)) (fit_same []); stands = λ m h. tt })

  jumps : (c : Context) (a : Around) (j : Jump) (pc : ℕ) → S (L a) pc (jump_code c a j)
  jumps c a Break pc = then_at (L a) pc (leaves c.scope a.inside) (Op.Jump a.broken ∷ []) (lift_l a _ (leaves_x c.scope a.inside) pc) (jump_to (L a) a.broken _ (λ table d. d.1))
  jumps c a Continue pc = then_at (L a) pc (leaves c.scope a.inside) (Op.Jump a.continued ∷ []) (lift_l a _ (leaves_x c.scope a.inside) pc) (jump_to (L a) a.continued _ (λ table d. d.2))

  -- of the code in a loop what leads back is known, too
  abbrev M : Around → ℕ → (ℕ → Ties) → Type 0
  M a pc table = L a table × (table (pc + 3) ≡ [])

  loops : (c : Context) → c.globals ≡ flat.globals → (a around : Around) (e : Option Expression) (pc : ℕ) (step code : List Op) → X step → S (L (looping around (pc + 1) (pc + 2))) (body_at pc (turn_code c e)) code
      → S (L a) pc (turns_code pc step (turn_code c e (length code + length step + 1)) code)
  loops c same a around e pc step code p q =
      let inside = looping around (pc + 1) (pc + 2) in
      loop (tied flat) (L a) (M inside pc) [] tt c pc step code
      (λ at. then_at (M inside pc) at step (Op.Jump (pc + 3) ∷ []) (lift (M inside pc) (λ table d. d.0.0) step p at) (jump_to (M inside pc) (pc + 3) (at + length step) (λ table d. d.1)))
      (λ table d e1 e2 e3. ((d.0, nothing_in (table (pc + 1)) e1.1, nothing_in (table (pc + 2)) e2.1), nothing_in (table (pc + 3)) e3.1)) e
      (λ x is. lift (M inside pc) (λ table d. d.0.0) (test_code c x) (tests c same x) (pc + 3)) (flow.known (tied flat) (L inside) (M inside pc) [] (body_at pc (turn_code c e)) code [] (λ table d. d.0) q)

  mutual
    statements : (c : Context) → c.globals ≡ flat.globals → (a : Around) (pc : ℕ) (x : Statement) → S (L a) pc (statement_code c a pc x)
    statements c same a pc (empty s) = entered a pc [] (lift_l a [] (bare 0 [] (none flat 0)) (pc + 1))
    statements c same a pc (block s all) =
        let code = statements_code c (opened c a) (pc + 1) all in
        let Y = ends_from (behind_statements c all).scope (length c.scope) in
        entered a pc ((code ++ Y) ++ Op.BlockEnd ∷ [])
        (then_at (L a) (pc + 1) (code ++ Y) (Op.BlockEnd ∷ [])
        (then_at (L a) (pc + 1) code Y (flow.known (tied flat) (L (opened c a)) (L a) [] (pc + 1) code [] (λ table k. k) (all_statements c same (opened c a) (pc + 1) all)) (lift_l a Y (ends_x (behind_statements c all).scope (length c.scope)) (pc + 1 + length code)))
        (lift_l a (Op.BlockEnd ∷ []) (bare 0 _ (plain flat 0 Op.BlockEnd (λ table pc s f. f) (λ m. tt))) (pc + 1 + length (code ++ Y))))
    statements c same a pc (declare s l) = entered a pc (local_code c l) (lift_l a (local_code c l) (locals c same l) (pc + 1))
    statements c same a pc (simple s x) = entered a pc (simple_code c (ints_of c) (refs_of c) x) (lift_l a _ (simples c same (ints_of c) (refs_of c) x) (pc + 1))
    statements c same a pc (jump s j) = entered a pc (jump_code c a j) (jumps c a j (pc + 1))
    statements c same a pc (return s e) = entered a pc (return_code c a s.first e) (lift_l a _ (returns c same a s.first e) (pc + 1))
    statements c same a pc (if_then s e x) =
        let T1 = test_code c e in
        let at = pc + 1 + length (turn_code c (Some e) 0) in
        let X1 = statement_code c a at x in
        entered a pc (turn_code c (Some e) (length X1) ++ X1)
        (flow.turned (tied flat) (L a) [] [] (pc + 1) (ints_of c) T1 X1 tt (fit_same []) (lift_l a T1 (tests c same e) (pc + 1))
        (at_place (L a) at (pc + 1 + length T1 + 1) X1 (omega (arith, test_length c e 0)) (statements c same a at x)))
    statements c same a pc (if_then_else s e x y) =
        let T1 = test_code c e in
        let at = pc + 1 + length (turn_code c (Some e) 0) in
        let X1 = statement_code c a at x in
        let at2 = at + length X1 + 1 in
        let Y1 = statement_code c a at2 y in
        entered a pc (turn_code c (Some e) (length X1 + 1) ++ (X1 ++ (Op.Skip (length Y1) ∷ Y1)))
        (flow.sides (tied flat) (L a) [] [] [] (pc + 1) (ints_of c) T1 X1 Y1 tt tt (fit_same []) (lift_l a T1 (tests c same e) (pc + 1))
        (at_place (L a) at (pc + 1 + length T1 + 1) X1 (omega (arith, test_length c e 0)) (statements c same a at x))
        (at_place (L a) at2 (pc + 1 + length T1 + 1 + length X1 + 1) Y1 (omega (arith, test_length c e 0)) (statements c same a at2 y)))
    statements c same a pc (while s e x) =
        let inside = looping a (pc + 1 + 1) (pc + 1 + 2) in
        let at = body_at (pc + 1) (turn_code c (Some e)) in
        let X1 = statement_code c inside at x in
        entered a pc (turns_code (pc + 1) [] (turn_code c (Some e) (length X1 + 0 + 1)) X1) (loops c same a a (Some e) (pc + 1) [] X1 (bare 0 [] (none flat 0)) (statements c same inside at x))
    statements c same a pc (for s hd x) =
        let c1 = behind_first c hd.first in
        let same1 = first_same c flat.globals hd.first same in
        let F = first_code c hd.first in
        let p1 = pc + 1 + length F in
        let step = step_code c1 hd.step in
        let inside = looping (opened c a) (p1 + 1) (p1 + 2) in
        let at = body_at p1 (turn_code c1 hd.test) in
        let X1 = statement_code c1 inside at x in
        let R1 = turns_code p1 step (turn_code c1 hd.test (length X1 + length step + 1)) X1 in
        let Z = ends_from c1.scope (length c.scope) in
        entered a pc ((F ++ R1) ++ Z)
        (then_at (L a) (pc + 1) (F ++ R1) Z
        (then_at (L a) (pc + 1) F R1 (lift_l a F (firsts c same hd.first) (pc + 1)) (loops c1 same1 a (opened c a) hd.test p1 step X1 (steps c1 same1 hd.step) (statements c1 same1 inside at x)))
        (lift_l a Z (ends_x c1.scope (length c.scope)) (pc + 1 + length (F ++ R1))))

    all_statements : (c : Context) → c.globals ≡ flat.globals → (a : Around) (pc : ℕ) (all : Statements) → S (L a) pc (statements_code c a pc all)
    all_statements c same a pc no_statements = lift_l a [] (bare 0 [] (none flat 0)) pc
    all_statements c same a pc (statement x rest) =
        let X1 = statement_code c a pc x in
        then_at (L a) pc X1 (statements_code (behind_statement c x) a (pc + length X1) rest) (statements c same a pc x) (all_statements (behind_statement c x) (after_same c flat.globals x same) a (pc + length X1) rest)

  -- ---- functions
  abbrev Z : (ℕ → Ties) → Type 0
  Z table = Entries flat table × (table 0 ≡ [])

  a_function : (m : Assignment) (pc : ℕ) (fn : Function) → flow.Part (Needs flat) (Fit []) Z pc (function_code m flat.globals pc fn)
  a_function m pc fn =
      let c = in_function m flat.globals fn in
      let a = around_body fn in
      let code = statements_code c a (pc + 1) fn.statements in
      let Y = ends_from (behind_statements c fn.statements).scope 0 in
      let W = zero_code (is_reference (declared_kind fn.result)) 0 0 in
      let R1 = Op.Return (at_site fn.body.last) ∷ [] in
      let F = Op.Enter ∷ (code ++ (Y ++ W)) in
      let is : function_code m flat.globals pc fn ≡ F ++ R1 = ap (λ l. Op.Enter ∷ l) (sym (append_assoc code (Y ++ W) R1 ∙ ap (λ l. code ++ l) (append_assoc Y W R1))) in
      subst (flow.Part (Needs flat) (Fit []) Z pc) (sym is)
      (flow.ends (tied flat) Z [] [] pc F (Op.Return (at_site fn.body.last))
      (flow.known (tied flat) (L a) Z [] pc F [] (λ table d. (d.0, d.1, d.1))
      (entered a pc (code ++ (Y ++ W))
      (then_at (L a) (pc + 1) code (Y ++ W) (all_statements c refl a (pc + 1) fn.statements)
      (lift_l a (Y ++ W) (then_x Y W (ends_x (behind_statements c fn.statements).scope 0) (zero_x (is_reference (declared_kind fn.result)) 0 0)) (pc + 1 + length code)))))
      (λ q low high. tt) (λ table. record { next = tt; stands = λ m h. tt }))

  -- nothing is known before the first line
  first_known : (m : Assignment) (globals : List GlobalCells) (fs : List Function) (table : ℕ → Ties) → ((d : ℕ) (f : Function) → slice_get fs d ≡ Some f → Fit [] (table (begin_of m globals 0 fs d)))
      → ((q : ℕ) → length (functions_code m globals 0 fs) ≤ q → table q ≡ []) → table 0 ≡ []
  first_known m globals [] table begins past = past 0 (omega arith)
  first_known m globals (f ∷ fs) table begins past = nothing_in (table 0) (begins 0 f refl)

-- what is known at each line of flattened code, and nothing after them and where a function begins
pub record IsTraced (flat : Flat) : Type 0 where
  pub table : ℕ → Ties
  pub last : (q : ℕ) → length flat.lines ≤ q → table q ≡ []
  pub begins : (f : ℕ) → table (function_of flat f).entry ≡ []
  pub needs : (pc : ℕ) (o : Op) → slice_get flat.lines pc ≡ Some o → Needs flat table pc (table pc) o

pub stand : (flat : Flat) → IsTraced flat → LocksStand flat
stand flat t = locks_stand flat t.table t.last t.begins t.needs

pub flattened_is_traced : (m : Assignment) (flat : Flat) → IsFlattened m flat → IsTraced flat
flattened_is_traced m flat is =
    let fs = functions_in m.typed.program.items in
    let C = functions_code m flat.globals 0 fs in
    let size = ap length is.lines in
    let many = rows_as_many m flat.globals 0 fs flat.functions is.functions in
    let p = whole m flat.globals (Z flat) (λ f. Needs flat) (λ f fn. Fit []) 0 fs (λ d fn at. a_function flat m (begin_of m flat.globals 0 fs d) fn) in
    let table : ℕ → Ties = λ q. slice_index_or p.states q [] in
    let agrees : Agrees table 0 p.states = agrees_all [] p.states [] 0 refl in
    let last : (q : ℕ) → length flat.lines ≤ q → table q ≡ [] = λ q le. get_or_past p.states q [] (omega (arith, le, size, p.many)) in
    let first = first_known flat m flat.globals fs table (p.begins table agrees) (λ q le. last q (omega (arith, le, size))) in
    let begins : (f : ℕ) → table (function_of flat f).entry ≡ [] =
    λ f. ⊎_elim (λ lt. let x = some_there fs f lt in nothing_in (table (function_of flat f).entry) (subst (λ n. Fit [] (table n)) (sym (row_of m flat.globals 0 fs flat.functions is.functions f x.0 x.1).entry) (p.begins table agrees f x.0 x.1)))
    (λ ge. ap (λ (r : Row). table r.entry) (get_or_past flat.functions f no_function (omega (arith, ge, many))) ∙ first) (cases_lt f (length fs)) in
    record {
      table = table;
      last = last;
      begins = begins;
      needs = λ pc o at.
          let z : 0 + pc ≡ pc = omega arith in
          subst (λ n. Needs flat table n (table n) o) z (p.runs table (begins, first) agrees pc o (ap (λ l. slice_get l pc) (sym is.lines) ∙ at));
    }
