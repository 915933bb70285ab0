-- Calls of the program's functions.
use Rattle.sharc_accepted_laws.proofs.{Imports.{◌≡◌, ℕ, zero, suc, ◌+◌, ◌≤◌, nat_lt, ltb-true, ltb-false, Bool, true, false, cond, List, [], ◌∷◌, refl, ap, sym, ◌∙◌, subst, arith, Option, Some, None, IsSomeAnd, Contains, Span, Identifier, in_function, Expression, Arguments, call, Function, Named, is_integer, is_null, declared_kind, declared_kinds, Code, GlobalCells, Width, of_all, Names, runs, Runs, named_at, functions_in, function_at, parameters_of, parameters_named, HaveTypes, is_reference, Assignment, IsFunction, IsCall, called, kind_of, is_ref, parameters_scope, context_in, width_of, Context, int_count, ref_count, ArgumentsSuit, StaticType, Empty, Refers, Anything, Within, Label, Signature, LessNumber, Narrower, Passes, Setting, type_by, ArgumentsAt, AreFree, refs_behind, IsTypeIn, ResultTyped, CallTyped, IsOf, AreStanding, IsAccepted, result_type, variable_entry, wants_of, typing, function_signature, signature_by, setting_of, IsSet, head_there, none_there, place_there, left_there, right_there}, Arguments.{AllGo, all_go, refs_counted, integer_passed, parameters_declared}, Facts.{Laws, expression_of, is_at, has_type}, Forms.{reference_pointer, call_typed, function_parameters}}
use Rattle.sharc_typed_laws.specs.Places.{IsPlain}

pub narrower_same : (w : Width) → Narrower w w
narrower_same Width.Int = tt
narrower_same _ = tt

-- ---- lists
pub of_all_there : (f : Expression → List ℕ) (list : List Expression) (e : Expression) (token : ℕ) → Contains list e → Contains (f e) token → Contains (of_all f list) token
of_all_there f [] e token has h = absurd (none_there e has)
of_all_there f (x ∷ rest) e token (zero, low, is) h = left_there (f x) (of_all f rest) token (subst (λ y. Contains (f y) token) (sym is) h)
of_all_there f (x ∷ rest) e token (suc k, low, is) h = right_there (f x) (of_all f rest) token (of_all_there f rest e token (k, omega (arith, low), is) h)

-- ---- signatures
pub alone_is : (m : Assignment) (globals : List GlobalCells) (b : Bool) (o : Option Function) → (signature_by m globals b o).alone ≡ b
alone_is m globals b None = refl
alone_is m globals b (Some f) = refl

module _ (laws : Laws) (c : Context) (code : Code) (alone : ℕ → Bool) (lines : ℕ) (set : IsSet c.program c.globals code alone) (n : ℕ) (g : Function) where
  open c use {program as m}
  open c.program use {typed as r}

  abbrev z : Setting
  z = setting_of c.program c.globals code alone lines

  a : IsAccepted m
  a = set.accepted

  -- the frame in which a function begins
  abbrev frame : Function → Context
  frame f = context_in m c.globals f

  module _ (s : Span) (i : Identifier) (all : Arguments) (at : IsOf c n g (call s i all)) (k : ℕ) (f : Function) (names : named_at r i.site.token ≡ Named.Function k) (there : function_at r k ≡ Some f)
      (kind_is : kind_of c (call s i all) ≡ declared_kind f.result) (suits : ArgumentsSuit c (declared_kinds f.parameters) all) where
    abbrev e : Expression
    e = call s i all

    function_there : IsFunction m f
    function_there = place_there (functions_in r.program.items) k f there

    parameters_are : parameters_named r (named_at r i.site.token) ≡ f.parameters
    parameters_are = ap (parameters_named r) names ∙ ap parameters_of there

    is_call : IsCall m f.parameters all
    is_call = subst (λ ds. IsCall m ds all) parameters_are (called (expression_of laws c code alone lines set n g e at))

    standing : AreStanding c f.parameters all
    standing = laws.calling.stand c a f function_there all suits

    abbrev wants : ℕ → StaticType
    wants = wants_of c f.parameters all

    signature_is : z.signature k ≡ function_signature (frame f) (alone k) f
    signature_is = ap (signature_by m c.globals (alone k)) there

    typed_arguments : HaveTypes r all (declared_kinds f.parameters)
    typed_arguments =
        let t = call_typed r s i all (kind_of c e) (has_type laws c code alone lines set n g e at) in
        subst (HaveTypes r all) (function_parameters r i t.0 t.1 k f t.2 names there) t.3

    pub call_goes : AllGo z n c (declared_kinds f.parameters) wants all
    call_goes = all_go z n c laws.arguments_fit a (laws.one_type r a.resolved a.placed a.low) f.parameters all is_call standing f.parameters all wants suits typed_arguments (λ p. refl) (λ t has. has)

    -- thread 0 alone runs what calls a function that it alone runs
    call_alone : (z.signature k).alone ≡ true → (z.signature n).alone ≡ true
    call_alone h =
        let told = sym (alone_is m c.globals (alone k) (function_at r k)) ∙ h in
        alone_is m c.globals (alone n) (function_at r n) ∙ set.alone_are.caller n k run told
      where
        run : Runs r n k
        run = subst (λ o. IsSomeAnd o (λ f. Names r (Named.Function k) (of_all runs (in_function f)))) (sym at.function)
            (i.site.token, of_all_there runs (in_function g) e i.site.token at.parts.0 (head_there i.site.token []), names)

    -- ---- references
    passes : (j q : ℕ) (l : Label) → ArgumentsAt z n typing c (declared_kinds f.parameters) wants all j q l → AreFree c all j q l → (p : ℕ) → Passes l q (q + p) (l.env (q + p)) (variable_entry (frame f) p)
    passes j q l given free p = by (nat_lt p (ref_count (parameters_scope f.parameters))) refl
      where
        by : (b : Bool) → nat_lt p (ref_count (parameters_scope f.parameters)) ≡ b → Passes l q (q + p) (l.env (q + p)) (variable_entry (frame f) p)
        by true low = laws.calling.passes z n c a f function_there all is_call suits j q l given p (ltb-true p (ref_count (parameters_scope f.parameters)) low)
        by false high =
            let above = ltb-false p (ref_count (parameters_scope f.parameters)) high in
            let count = refs_counted z n c f.parameters all suits q in
            let behind : refs_behind c all q ≤ q + p = omega (arith, above, count) in
            subst (Passes l q (q + p) (l.env (q + p))) (sym (laws.scopes.others (frame f) p above)) (free.references (q + p) behind)

    -- ---- integers
    numbers : (j q : ℕ) (l : Label) → ArgumentsAt z n typing c (declared_kinds f.parameters) wants all j q l → (p : ℕ)
        → LessNumber (l.ints (j + p)) (cond (nat_lt p (int_count (parameters_scope f.parameters))) (Within (typing.width (frame f) p)) Anything)
    numbers j q l given p = by (nat_lt p (int_count (parameters_scope f.parameters))) refl
      where
        by : (b : Bool) → nat_lt p (int_count (parameters_scope f.parameters)) ≡ b → LessNumber (l.ints (j + p)) (cond b (Within (typing.width (frame f) p)) Anything)
        by true low =
            let low = ltb-true p (int_count (parameters_scope f.parameters)) low in
            let is = integer_passed z n c l f.parameters wants all j q suits given (parameters_declared laws.themselves m a f function_there) p low in
            subst (λ x. LessNumber x (Within (typing.width (frame f) p))) (sym is) (narrower_same (typing.width (frame f) p))
        by false high = tt

    -- ---- what it gives
    result_by : (b t : Bool) → is_ref c e ≡ b → is_integer (kind_of c e) ≡ t → ResultTyped z n typing c e k b t
    result_by true t ref number =
        let pointer = reference_pointer (kind_of c e) (ap is_null kind_is) ref in
        let p = laws.values.pointers z n c a e (is_at laws c code alone lines set n g e at) pointer in
        let given = laws.results.give c s i all k f names there in
        let stays = laws.results.stay c a f function_there (parameters_scope f.parameters) c.scope in
        let gives : (z.signature k).result ≡ Refers (result_type c f) = ap (λ (x : Signature). x.result) signature_is ∙ ap (λ b. cond b (Refers (result_type (frame f) f)) Empty) (sym (ap is_reference kind_is) ∙ ref) ∙ ap Refers stays in
        (result_type c f, given, subst (λ y. IsTypeIn z n typing c (type_by y)) given p.2, gives)
    result_by false true other number =
        let none = sym (ap is_reference kind_is) ∙ other in
        let gives : (z.signature k).result ≡ Empty = ap (λ (x : Signature). x.result) signature_is ∙ ap (λ b. cond b (Refers (result_type (frame f) f)) Empty) none in
        let int : (z.signature k).result_int ≡ Within (width_of (kind_of c e)) = ap (λ (x : Signature). x.result_int) signature_is ∙ ap (λ b. cond b Anything (Within (width_of (declared_kind f.result)))) none ∙ ap (λ y. Within (width_of y)) (sym kind_is) in
        (gives, subst (λ y. IsPlain y) (sym int) tt, subst (λ y. LessNumber y (Within (width_of (kind_of c e)))) (sym int) (narrower_same (width_of (kind_of c e))))
    result_by false false other number =
        ap (λ (x : Signature). x.result) signature_is ∙ ap (λ b. cond b (Refers (result_type (frame f) f)) Empty) (sym (ap is_reference kind_is) ∙ other)

    pub call_is_typed : CallTyped z n typing c e k (declared_kinds f.parameters) wants all
    call_is_typed = record {
      is = (set.rows k f there).low;
      alone = call_alone;
      passes = λ j q l holds given free p. subst (λ (x : Signature). Passes l q (q + p) (l.env (q + p)) (x.takes p)) (sym signature_is) (passes j q l given free p);
      numbers = λ j q l holds given free p. subst (λ (x : Signature). LessNumber (l.ints (j + p)) (x.takes_ints p)) (sym signature_is) (numbers j q l given p);
      result = result_by (is_ref c e) (is_integer (kind_of c e)) refl refl;
    }
