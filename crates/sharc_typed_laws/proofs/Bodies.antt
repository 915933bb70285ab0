-- The code of a function whose types say what is asked is typed, wherever it is.
use Rattle.sharc_typed_laws.proofs.{Imports.{◌≡◌, ℕ, ◌+◌, ◌≤◌, false, List, [], ◌∷◌, ◌++◌, length, Some, refl, sym, subst, arith, append_assoc, append-nil, false≢true, Function, Kind, declared_kind, is_reference, GlobalCells, Assignment, Op, Context, int_count, ref_count, ends_from, at_site, zero_code, around_body, in_function, function_code, statements_code, behind_statements, ints_in, refs_in, Mark, Setting, AreWithin, LeadsFrom, Typing, before, label_of, IsLowTyping, FunctionTypable, FunctionLines, FunctionsAreTyped}, Growing.{Extends, AreNamed, nested}, StatementAlike.scoped_in, Closing.closes, Stating.{Below, Inside, all_typed}}

-- the statements, the ends of the variables, the result, and back
body_parts : (o : Op) (s e r t : List Op) → (o ∷ (s ++ ((e ++ []) ++ r))) ++ t ≡ o ∷ (s ++ (e ++ (r ++ t)))
body_parts o s e r t = simp (append_assoc, append-nil)

module _ (laws : Below) (z : Setting) (n : ℕ) (y : Typing) (lows : IsLowTyping y) (m : Assignment) (globals : List GlobalCells) (g : Function) (h : FunctionTypable z n y (in_function m globals g) g) where
  abbrev c : Context
  c = in_function m globals g

  abbrev d : Context
  d = behind_statements c g.statements

  abbrev top : Context
  top = record c { scope = [] }

  abbrev at : Context → Mark
  at k = before k (label_of y k n)

  abbrev kind : Kind
  kind = declared_kind g.result

  from_top : (k : Context) → Extends y c k → Extends y top k
  from_top k e = record {
    more = k.scope;
    is = subst (λ (x : Context). x ≡ record c { scope = x.scope }) (sym e.is) refl;
    pointers = λ q lt. absurd (omega (arith, lt));
    widths = λ j lt. absurd (omega (arith, lt));
  }

  none_named : AreNamed y top
  none_named q lt = absurd (omega (arith, lt))

  -- in the body's block
  abbrev inside : (k : Context) → Extends y c k → Inside laws z n y lows [] k (around_body g) false
  inside k e = record { loop = top; top = top; inner = (top, refl, from_top k e, none_named, refl); outer = refl; no_ints = refl; no_refs = refl; opens = λ e. absurd (false≢true e); gives = h.gives }

  lines : int_count c.scope ≤ ints_in z.code (Some n) → ref_count c.scope ≤ refs_in z.code (Some n) → (pc : ℕ) → AreWithin (ints_in z.code (Some n)) (refs_in z.code (Some n)) (function_code m globals pc g) → FunctionLines z n pc (at c) (function_code m globals pc g)
  lines wide high pc w =
      let begun = laws.labels y c n h.variables in
      let s = statements_code c (around_body g) (pc + 1) g.statements in
      let t = all_typed laws z n y lows [] c h.variables (around_body g) false inside g.statements h.statements (pc + 1) in
      let ended = laws.labels y d n t.named in
      let spot = at_site g.body.last in
      let e = ends_from d.scope 0 in
      let v = zero_code (is_reference kind) 0 0 in
      let r = laws.nothing_returns z n [] y d top (label_of y d n) (label_of y top n) (lows d) ended (0 ∷ []) (nested y n lows laws.labels d (0 ∷ []) top (inside d t.grown).inner) refl refl kind h.gives spot in
      let back = Op.Return spot ∷ [] in
      let is = body_parts Op.Enter s e v back in
      let blocks = laws.blocks z n [] y c (lows c) (label_of y c n) begun in
      let join = (laws.decisions z n [] (y.named c) (int_count c.scope) (int_count c.scope) (ref_count c.scope) (label_of y c n) begun.stands.stands begun.stands.owned).join in
      let after : LeadsFrom z n [] (pc + 1 + length s) (at d) ((e ++ []) ++ v) r.mark = λ w h. let a = r.leads w h in record { stretch = a.stretch (pc + 1 + length s); scoped = a.scoped } in
      let all = blocks.enter pc r.mark (s ++ ((e ++ []) ++ v)) (join (pc + 1) (at c) (at d) r.mark s ((e ++ []) ++ v) t.leads after) in
      subst (FunctionLines z n pc (at c)) is
      (closes z n pc (at c) r.mark (Op.Enter ∷ (s ++ ((e ++ []) ++ v))) (Op.Return spot) (subst (AreWithin (ints_in z.code (Some n)) (refs_in z.code (Some n))) (sym is) w)
      (scoped_in y c n (ints_in z.code (Some n)) (refs_in z.code (Some n)) (label_of y c n) wide high begun) all r.returns)

pub functions_typed : Below → FunctionsAreTyped
functions_typed laws z n y lows m globals g h wide high pc w = lines laws z n y lows m globals g h wide high pc w
