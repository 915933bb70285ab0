-- Statements whose types say what is asked are typed code, by induction over their form.
use Rattle.sharc_typed_laws.proofs.{Imports.{◌≡◌, ℕ, ◌+◌, ◌<◌, ◌≤◌, Bool, true, false, List, [], ◌∷◌, ◌++◌, length, Option, Some, None, refl, sym, ap, ◌∙◌, subst, inl, inr, ⊎_elim, arith, append_assoc, false≢true, cases_lt, Site, span_of, Break, Continue, Expression, Simple, Local, First, declares, does, Statement, block, declare, simple, jump, return, if_then, if_then_else, while, for, Statements, no_statements, statement, declared_kind, is_reference, Op, Spot, width_of, width_code, Context, int_count, ref_count, leaves, ends_from, at_site, slot_of, is_declaration, Around, opened, looping, expression_code, zero_code, result_code, return_code, test_code, turn_code, step_code, first_code, simple_code, local_code, loop_code, with_variable, behind_first, behind_statement, behind_statements, statement_code, statements_code, StaticType, Mentions, Mark, Setting, Way, LeadsAmong, LeadsFrom, IsNamed, Typing, SimplesAreTyped, TestsAreTyped, SimpleTypable, Begins, LocalTypable, StandsBefore, before, LocalsAreTyped, label_of, LabelsStand, BlocksAreTyped, BlocksLead, loop_ways, DecisionsLead, DecisionsAreTyped, EndsAreTyped, IsOpen, LeavesAreTyped, JumpsAreTyped, GivesBack, ReturnTypable, Returns, NothingReturns, ValuesReturn, TestTypable, StepTypable, DeclaredTypable, FirstTypable, StatementTypable, StatementsTypable, IsLowTyping}, Growing.{Extends, AreNamed, Nest, extends_same, extends_through, grows_by, ends_are, nest_both, nest_named, nested}, StatementAlike.same_label, Closing.last_line}
use Rattle.sharc_tree.specs.Tree.{nothing, empty}

-- the laws that it stands on
pub record Below : Type 0 where
  pub blocks : BlocksAreTyped
  pub decisions : DecisionsAreTyped
  pub simples : SimplesAreTyped
  pub tests : TestsAreTyped
  pub locals : LocalsAreTyped
  pub ending : EndsAreTyped
  pub leaving : LeavesAreTyped
  pub jumps : JumpsAreTyped
  pub labels : LabelsStand
  pub nothing_returns : NothingReturns
  pub values_return : ValuesReturn

same_context : (x : Statement) → is_declaration x ≡ false → (c : Context) → behind_statement c x ≡ c
same_context (declare s l) e c = absurd (false≢true (sym e))
same_context _ e c = refl

-- the value, its width, the ends of blocks, the result, and back
value_parts : (a b d e g : List Op) → (a ++ (b ++ (d ++ e))) ++ g ≡ a ++ (b ++ (d ++ (e ++ g)))
value_parts a b d e g = simp append_assoc

module _ (laws : Below) (z : Setting) (f : ℕ) (y : Typing) (lows : IsLowTyping y) where
  -- what is said before a statement
  abbrev pub at : Context → Mark
  at c = before c (label_of y c f)

  abbrev pub Q : List Way → ℕ → Context → List Op → Context → Type 0
  Q ways pc c os d = LeadsFrom z f ways pc (at c) os (at d)

  abbrev Named : Context → Type 0
  Named = AreNamed y

  here : (c : Context) → Named c → StandsBefore y c f (label_of y c f)
  here c names = laws.labels y c f names

  -- where a statement stands
  pub record Inside (ways : List Way) (c : Context) (a : Around) (looped : Bool) : Type 0 where
    pub loop : Context
    pub top : Context
    pub inner : Nest y c a.inside loop
    pub outer : Nest y loop a.outside top
    pub no_ints : int_count top.scope ≡ 0
    pub no_refs : ref_count top.scope ≡ 0
    pub opens : looped ≡ true → IsOpen ways a.broken (at loop) × IsOpen ways a.continued (at loop)
    pub gives : GivesBack z f y a.result

  -- what is known after it
  pub record Typed (ways : List Way) (c d : Context) (pc : ℕ) (os : List Op) : Type 0 where
    pub named : Named d
    pub grown : Extends y c d
    pub leads : Q ways pc c os d

  -- ---- parts of code
  decided : (ways : List Way) (c : Context) → Named c → DecisionsLead z f ways (y.named c) (int_count c.scope) (int_count c.scope) (ref_count c.scope) (label_of y c f)
  decided ways c names = let h = here c names in laws.decisions z f ways (y.named c) (int_count c.scope) (int_count c.scope) (ref_count c.scope) (label_of y c f) h.stands.stands h.stands.owned

  blocked : (ways : List Way) (c : Context) → Named c → BlocksLead z f ways y c (label_of y c f)
  blocked ways c names = laws.blocks z f ways y c (lows c) (label_of y c f) (here c names)

  anywhere : (ways : List Way) (pc : ℕ) (s e : Mark) (os : List Op) → LeadsAmong z f ways s os e → LeadsFrom z f ways pc s os e
  anywhere ways pc s e os p = λ w h. let a = p w h in record { stretch = a.stretch pc; scoped = a.scoped }

  joined : (ways : List Way) (c d e : Context) → Named c → (pc : ℕ) (xs ys : List Op) → Q ways pc c xs d → Q ways (pc + length xs) d ys e → Q ways pc c (xs ++ ys) e
  joined ways c d e names pc xs ys p q = (decided ways c names).join pc (at c) (at d) (at e) xs ys p q

  entered : (ways : List Way) (c d : Context) → Named c → (pc : ℕ) (os : List Op) → Q ways (pc + 1) c os d → Q ways pc c (Op.Enter ∷ os) d
  entered ways c d names pc os p = (blocked ways c names).enter pc (at d) os p

  none : (ways : List Way) (c : Context) → Named c → (pc : ℕ) → Q ways pc c [] c
  none ways c names pc = anywhere ways pc (at c) (at c) [] (laws.leaving z f ways y c c (label_of y c f) (label_of y c f) (lows c) (here c names) [] (refl, refl))

  stays : (ways : List Way) (c : Context) → Named c → (pc : ℕ) (os : List Op) → Q ways pc c os c → Typed ways c c pc os
  stays ways c names pc os p = record { named = names; grown = extends_same y c; leads = p }

  simple_leads : (ways : List Way) (c : Context) → Named c → (x : Simple) → SimpleTypable z f y c x → (pc : ℕ) → Q ways pc c (simple_code c (int_count c.scope) (ref_count c.scope) x) c
  simple_leads ways c names x h pc =
      let k = here c names in
      anywhere ways pc (at c) (at c) (simple_code c (int_count c.scope) (ref_count c.scope) x)
      (laws.simples z f ways y c (lows c) (int_count c.scope) (int_count c.scope) (ref_count c.scope) (label_of y c f) k.stands k.bare (omega arith) x h)

  test_leads : (ways : List Way) (c : Context) → Named c → (e : Expression) → TestTypable z f y c (Some e) → (pc : ℕ) → Q ways pc c (test_code c e) c
  test_leads ways c names e h pc =
      let k = here c names in
      anywhere ways pc (at c) (at c) (test_code c e)
      (laws.tests z f ways y c (lows c) (int_count c.scope) (int_count c.scope) (ref_count c.scope) (label_of y c f) k.stands k.bare e h.0 h.1)

  -- ---- declarations
  declared_names : (c : Context) (l : Local) (s : StaticType) → Named c → LocalTypable z f y c l s → Named (with_variable c l.declaration)
  declared_names c l s names h = by (is_reference (declared_kind l.declaration.written)) h.begins
    where
      d : Context
      d = with_variable c l.declaration

      old : ref_count c.scope ≤ ref_count d.scope → (q : ℕ) → q < ref_count c.scope → IsNamed (y.named d) (ref_count d.scope) (y.pointer d q)
      old le q lt p m = let w = names q lt p (subst (λ t. Mentions t p) (h.keeps.pointers q lt) m) in let small = w.0 in (omega (arith, small, le), h.keeps.names p small ∙ w.1)

      by : (b : Bool) → Begins y c d s (width_of (declared_kind l.declaration.written)) b → Named d
      by true b q lt =
          let n = b.refs in
          ⊎_elim (λ (k : q < ref_count c.scope). old (omega (arith, n)) q k)
          (λ (k : ref_count c.scope ≤ q). let e : ref_count c.scope ≡ q = omega (arith, n, lt, k) in subst (IsNamed (y.named d) (ref_count d.scope)) (sym b.pointer ∙ ap (y.pointer d) e) h.again)
          (cases_lt q (ref_count c.scope))
      by false b q lt = let n = b.refs in old (omega (arith, n)) q (omega (arith, n, lt))

  declares_typed : (ways : List Way) (c : Context) → Named c → (l : Local) → DeclaredTypable z f y c l → (pc : ℕ) → Typed ways c (with_variable c l.declaration) pc (Op.Enter ∷ local_code c l)
  declares_typed ways c names l h pc =
      let d = with_variable c l.declaration in
      let w : Named d = declared_names c l h.0 names h.1 in
      let v = laws.locals z f ways y c (lows c) (label_of y c f) (here c names) l h.0 (lows d) h.1 in
      record {
        named = w;
        grown = record { more = slot_of l.declaration ∷ []; is = refl; pointers = h.1.keeps.pointers; widths = h.1.keeps.widths };
        leads = entered ways c d names pc (local_code c l)
            (anywhere ways (pc + 1) (at c) (at d) (local_code c l) (subst (λ k. LeadsAmong z f ways (at c) (local_code c l) (before d k)) (same_label y d f _ (label_of y d f) v.stands (here d w)) v.leads));
      }

  first_typed : (ways : List Way) (c : Context) → Named c → (x : First) → FirstTypable z f y c x → (pc : ℕ) → Typed ways c (behind_first c x) pc (first_code c x)
  first_typed ways c names nothing h pc = stays ways c names pc [] (none ways c names pc)
  first_typed ways c names (declares l) h pc = declares_typed ways c names l h pc
  first_typed ways c names (does x) h pc = stays ways c names pc (simple_code c (int_count c.scope) (ref_count c.scope) x) (simple_leads ways c names x h pc)

  step_leads : (ways : List Way) (c : Context) → Named c → (x : Option Simple) → StepTypable z f y c x → (pc : ℕ) → Q ways pc c (step_code c x) c
  step_leads ways c names None h pc = none ways c names pc
  step_leads ways c names (Some x) h pc = simple_leads ways c names x h pc

  -- ---- statements that leave
  jump_leads : (ways : List Way) (c : Context) → Named c → (a : Around) → (looped : Bool) (i : Inside ways c a looped) → (q : ℕ) → IsOpen ways q (at i.loop) → (pc : ℕ) → Q ways pc c (leaves c.scope a.inside ++ Op.Jump q ∷ []) c
  jump_leads ways c names a looped i q opens pc =
      let d = i.loop in
      let out = laws.leaving z f ways y c d (label_of y c f) (label_of y d f) (lows c) (here c names) a.inside (nested y f lows laws.labels c a.inside d i.inner) in
      anywhere ways pc (at c) (at c) (leaves c.scope a.inside ++ Op.Jump q ∷ [])
      (laws.jumps z f ways y d (label_of y d f) (here d (nest_named y c a.inside d names i.inner)) q opens (at c) (leaves c.scope a.inside) out)

  returned : (ways : List Way) (c : Context) → Named c → (os : List Op) (spot : Spot) → Returns z f ways (at c) os spot → (pc : ℕ) → Q ways pc c (os ++ Op.Return spot ∷ []) c
  returned ways c names os spot r pc = λ w h. (decided ways c names).join pc (at c) r.mark (at c) os (Op.Return spot ∷ []) (anywhere ways pc (at c) r.mark os r.leads) (last_line z f ways (pc + length os) r.mark (at c) (Op.Return spot) r.returns h) w h

  return_leads : (ways : List Way) (c : Context) → Named c → (a : Around) (looped : Bool) → Inside ways c a looped → (site : Site) (e : Option Expression) → ReturnTypable z f y c a.result e → (pc : ℕ) → Q ways pc c (return_code c a site e) c
  return_leads ways c names a looped i site None h pc =
      let all = a.inside ++ a.outside in
      let out = laws.nothing_returns z f ways y c i.top (label_of y c f) (label_of y i.top f) (lows c) (here c names) all (nested y f lows laws.labels c all i.top (nest_both y c a.inside a.outside i.loop i.top i.inner i.outer)) i.no_ints i.no_refs a.result i.gives (at_site site) in
      subst (λ os. Q ways pc c os c) (append_assoc (leaves c.scope all) (zero_code (is_reference a.result) 0 0) (Op.Return (at_site site) ∷ []))
      (returned ways c names (leaves c.scope all ++ zero_code (is_reference a.result) 0 0) (at_site site) out pc)
  return_leads ways c names a looped i site (Some e) h pc =
      let all = a.inside ++ a.outside in
      let int = int_count c.scope in
      let ref = ref_count c.scope in
      let value = expression_code c int ref e in
      let width = width_code int a.result (span_of e).first in
      let result = result_code (is_reference a.result) int ref in
      let out = laws.values_return z f ways y c i.top (label_of y c f) (label_of y i.top f) (lows c) (here c names) all (nested y f lows laws.labels c all i.top (nest_both y c a.inside a.outside i.loop i.top i.inner i.outer)) i.no_ints i.no_refs a.result i.gives e h (at_site site) in
      subst (λ os. Q ways pc c os c) (value_parts value width (leaves c.scope all) result (Op.Return (at_site site) ∷ []))
      (returned ways c names (value ++ (width ++ (leaves c.scope all ++ result))) (at_site site) out pc)

  -- ---- statements in statements
  body_leads : (ways : List Way) (c : Context) (x : Statement) → is_declaration x ≡ false → (pc : ℕ) (os : List Op) → Typed ways c (behind_statement c x) pc os → Q ways pc c os c
  body_leads ways c x e pc os h = subst (λ d. Q ways pc c os d) (same_context x e c) h.leads

  -- a loop, by its parts
  loops : (ways : List Way) (c : Context) → Named c → (pc : ℕ) (test : Option Expression) → TestTypable z f y c test → (step : List Op) → ((p : ℕ) → Q (loop_ways pc (at c) ways) p c step c)
      → (body : ℕ → List Op) → ((p : ℕ) → Q (loop_ways pc (at c) ways) p c (body p) c) → Q ways pc c (loop_code pc step (turn_code c test) body) c
  loops ways c names pc None h step s body b = (decided ways c names).ever pc step body (b _) (s _)
  loops ways c names pc (Some e) h step s body b = (decided ways c names).loop pc (test_code c e) step body (test_leads (loop_ways pc (at c) ways) c names e h (pc + 3)) (b _) (s _)

  in_loop : (ways : List Way) (pc : ℕ) (c : Context) (a : Around) (top : Context) → Nest y c (a.inside ++ a.outside) top → int_count top.scope ≡ 0 → ref_count top.scope ≡ 0 → GivesBack z f y a.result
      → Inside (loop_ways pc (at c) ways) c (looping a (pc + 1) (pc + 2)) true
  in_loop ways pc c a top nest ints refs gives = record { loop = c; top = top; inner = refl; outer = nest; no_ints = ints; no_refs = refs; opens = λ _. (inl (refl, refl), inr (inl (refl, refl))); gives = gives }

  in_block : (ways : List Way) (c : Context) → Named c → (a : Around) (looped : Bool) → Inside ways c a looped → (d : Context) → Extends y c d → Inside ways d (opened c a) looped
  in_block ways c names a looped i d e = record { loop = i.loop; top = i.top; inner = (c, refl, e, names, i.inner); outer = i.outer; no_ints = i.no_ints; no_refs = i.no_refs; opens = i.opens; gives = i.gives }

  block_leads : (ways : List Way) (c d : Context) → Named c → (pc : ℕ) (os : List Op) → Typed ways c d (pc + 1) os → Q ways pc c (Op.Enter ∷ ((os ++ ends_from d.scope (length c.scope)) ++ Op.BlockEnd ∷ [])) c
  block_leads ways c d names pc os h =
      subst (λ ends. Q ways pc c (Op.Enter ∷ ((os ++ ends) ++ Op.BlockEnd ∷ [])) c) (sym (ends_are y c d h.grown))
      ((blocked ways c names).block pc d h.grown.more (grows_by y c d h.grown) (label_of y d f) (here d h.named) os h.leads)

  -- the variable of a `for` ends behind it
  for_leads : (ways : List Way) (c d : Context) → Named c → (pc : ℕ) (xs ys : List Op) → Typed ways c d (pc + 1) xs → Q ways (pc + 1 + length xs) d ys d → Q ways pc c (Op.Enter ∷ ((xs ++ ys) ++ ends_from d.scope (length c.scope))) c
  for_leads ways c d names pc xs ys h p =
      subst (λ ends. Q ways pc c (Op.Enter ∷ ((xs ++ ys) ++ ends)) c) (sym (ends_are y c d h.grown))
      (entered ways c c names pc ((xs ++ ys) ++ _)
      (joined ways c d c names (pc + 1) (xs ++ ys) _ (joined ways c d d names (pc + 1) xs ys h.leads p)
      (anywhere ways (pc + 1 + length (xs ++ ys)) (at d) (at c) _ (laws.ending z f ways y c d h.grown.more (lows c) (grows_by y c d h.grown) (label_of y c f) (label_of y d f) (here c names) (here d h.named)))))

  both_typed : (ways : List Way) (c d e : Context) → Named c → (pc : ℕ) (xs ys : List Op) → Typed ways c d pc xs → Typed ways d e (pc + length xs) ys → Typed ways c e pc (xs ++ ys)
  both_typed ways c d e names pc xs ys a b = record { named = b.named; grown = extends_through y c d e a.grown b.grown; leads = joined ways c d e names pc xs ys a.leads b.leads }

  -- ---- the whole
  mutual
    pub one_typed : (ways : List Way) (c : Context) → Named c → (a : Around) (looped : Bool) → Inside ways c a looped → (x : Statement) → StatementTypable z f y c a.result looped x → (pc : ℕ) → Typed ways c (behind_statement c x) pc (statement_code c a pc x)
    one_typed ways c names a looped i (empty s) h pc = stays ways c names pc (Op.Enter ∷ []) (entered ways c c names pc [] (none ways c names (pc + 1)))
    one_typed ways c names a looped i (block s all) h pc = stays ways c names pc _
        (block_leads ways c (behind_statements c all) names pc (statements_code c (opened c a) (pc + 1) all) (all_typed ways c names (opened c a) looped (in_block ways c names a looped i) all h (pc + 1)))
    one_typed ways c names a looped i (declare s l) h pc = declares_typed ways c names l h pc
    one_typed ways c names a looped i (simple s x) h pc = stays ways c names pc _ (entered ways c c names pc (simple_code c (int_count c.scope) (ref_count c.scope) x) (simple_leads ways c names x h (pc + 1)))
    one_typed ways c names a looped i (jump s Break) h pc = stays ways c names pc _ (entered ways c c names pc (leaves c.scope a.inside ++ Op.Jump a.broken ∷ []) (jump_leads ways c names a looped i a.broken (i.opens h).0 (pc + 1)))
    one_typed ways c names a looped i (jump s Continue) h pc = stays ways c names pc _ (entered ways c c names pc (leaves c.scope a.inside ++ Op.Jump a.continued ∷ []) (jump_leads ways c names a looped i a.continued (i.opens h).1 (pc + 1)))
    one_typed ways c names a looped i (return s e) h pc = stays ways c names pc _ (entered ways c c names pc (return_code c a s.first e) (return_leads ways c names a looped i s.first e h (pc + 1)))
    one_typed ways c names a looped i (if_then s e x) h pc = stays ways c names pc _
        (entered ways c c names pc _ ((decided ways c names).if_then (pc + 1) (test_code c e) (λ at. statement_code c a at x) (test_leads ways c names e h.0 (pc + 1)) (body_leads ways c x h.2 _ _ (one_typed ways c names a looped i x h.1 _))))
    one_typed ways c names a looped i (if_then_else s e x v) h pc = stays ways c names pc _
        (entered ways c c names pc _ ((decided ways c names).choice (pc + 1) (test_code c e) (λ at. statement_code c a at x) (λ at. statement_code c a at v) (test_leads ways c names e h.0 (pc + 1))
        (body_leads ways c x h.2 _ _ (one_typed ways c names a looped i x h.1 _)) (body_leads ways c v h.4 _ _ (one_typed ways c names a looped i v h.3 _))))
    one_typed ways c names a looped i (while s e x) h pc =
        let around = looping a (pc + 1 + 1) (pc + 1 + 2) in
        let k = in_loop ways (pc + 1) c a i.top (nest_both y c a.inside a.outside i.loop i.top i.inner i.outer) i.no_ints i.no_refs i.gives in
        stays ways c names pc _ (entered ways c c names pc _ (loops ways c names (pc + 1) (Some e) h.0 [] (λ p. none _ c names p) (λ p. statement_code c around p x) (λ p. body_leads _ c x h.2 p _ (one_typed _ c names around true k x h.1 p))))
    one_typed ways c names a looped i (for s head x) h pc =
        let d = behind_first c head.first in
        let v = first_typed ways c names head.first h.0 (pc + 1) in
        let start = pc + 1 + length (first_code c head.first) in
        let outer = opened c a in
        let around = looping outer (start + 1) (start + 2) in
        let k = in_loop ways start d outer i.top (c, refl, v.grown, names, nest_both y c a.inside a.outside i.loop i.top i.inner i.outer) i.no_ints i.no_refs i.gives in
        stays ways c names pc _ (for_leads ways c d names pc (first_code c head.first) _ v
        (loops ways d v.named start head.test h.1 (step_code d head.step) (λ p. step_leads _ d v.named head.step h.2 p) (λ p. statement_code d around p x) (λ p. body_leads _ d x h.4 p _ (one_typed _ d v.named around true k x h.3 p))))

    -- with what stands where later ones stand
    pub all_typed : (ways : List Way) (c : Context) → Named c → (a : Around) (looped : Bool) → ((d : Context) → Extends y c d → Inside ways d a looped) → (all : Statements) → StatementsTypable z f y c a.result looped all → (pc : ℕ)
        → Typed ways c (behind_statements c all) pc (statements_code c a pc all)
    all_typed ways c names a looped i no_statements h pc = stays ways c names pc [] (none ways c names pc)
    all_typed ways c names a looped i (statement x rest) h pc =
        let d = behind_statement c x in
        let one = one_typed ways c names a looped (i c (extends_same y c)) x h.0 pc in
        let start = pc + length (statement_code c a pc x) in
        both_typed ways c d (behind_statements d rest) names pc (statement_code c a pc x) (statements_code d a start rest) one
        (all_typed ways d one.named a looped (λ e g. i e (extends_through y c d e one.grown g)) rest h.1 start)
