-- The code of an expression is that of its operands, and then its own.
use Rattle.sharc_flatten.proofs.Imports.{◌≡◌, ℕ, ◌+◌, Bool, true, false, List, [], ◌∷◌, ◌++◌, length, Option, None, if◌then◌else◌, refl, ap, sym, ◌∙◌, append_assoc, Site, BinaryOperator, LogicalOr, LogicalAnd, Span, Declaration, Identifier, Expression, Arguments, call, index, binary, Named, declared_kinds, is_array, element_kind, named_at, kind_at, global_at, parameters_named, Spot, Op, first_cell, Context, at_site, bounds_code, global_of, index_code, own_field, target, is_ref, truth_code, binary_code, expression_code, arguments_code, called_code, place_code, guard_of, lvalue_code, element_cells, global_elements, indexed_code, index_register, element_code, operation_code}

binary_split : (c : Context) (i r : ℕ) (at : Site) (o : BinaryOperator) (a b : Expression) (of_a : List Op) (of_b : ℕ → ℕ → List Op) → binary_code c i r at o a b of_a of_b ≡ of_a ++ binary_code c i r at o a b [] of_b
binary_split c i r at LogicalOr a b of_a of_b =
    let t = truth_code (is_ref c a) i r in
    let u = of_b i r ++ truth_code (is_ref c b) i r in
    append_assoc of_a t (Op.IsFalse i i ∷ Op.SkipIfZero i (length u + 1) ∷ (u ++ (Op.IsFalse i i ∷ Op.IsFalse i i ∷ [])))
binary_split c i r at LogicalAnd a b of_a of_b =
    let t = truth_code (is_ref c a) i r in
    let u = of_b i r ++ truth_code (is_ref c b) i r in
    append_assoc of_a t (Op.SkipIfZero i (length u) ∷ (u ++ (Op.IsFalse i i ∷ Op.IsFalse i i ∷ [])))
binary_split c i r at _ a b of_a of_b = refl

-- what is indexed, the index, and the element
abbrev of_global : Context → ℕ → Site → Option ℕ → Option ℕ → Expression → List Op
of_global c i site f guard a = bounds_code
    (λ i n. Op.GlobalBounds i (global_elements (global_at c.program.typed (global_of (target c.program.typed None a)))) (element_cells c.program.typed (element_kind (kind_at c.program.typed a)))
    (first_cell c.globals (global_of (target c.program.typed None a)) + n) (at_site site))
    i (own_field f 0) guard

abbrev of_object : Context → ℕ → ℕ → Site → Option ℕ → Option ℕ → Expression → List Op
of_object c i r site f guard a = bounds_code
    (λ i n. Op.Bounds i r (element_cells c.program.typed (element_kind (kind_at c.program.typed a))) n (at_site site))
    i (own_field f 0) guard

either : (b : Bool) (r : ℕ) (site : Site) (of_array of_pointer global object : List Op) (number : ℕ → List Op)
    → (if b then of_array ++ (number r ++ global) else of_pointer ++ (Op.ChkNull r (at_site site) ∷ (number (r + 1) ++ object)))
    ≡ (if b then of_array else of_pointer ++ Op.ChkNull r (at_site site) ∷ []) ++ (number (if b then r else r + 1) ++ (if b then global else object))
either true r site of_array of_pointer global object number = refl
either false r site of_array of_pointer global object number = sym (append_assoc of_pointer (Op.ChkNull r (at_site site) ∷ []) (number (r + 1) ++ object))

index_split : (c : Context) (i r : ℕ) (site : Site) (f guard : Option ℕ) (a : Expression) (of_array of_pointer : List Op) (number : ℕ → List Op)
    → index_code c i r site f guard a of_array of_pointer number ≡ indexed_code c r site a of_array of_pointer ++ (number (index_register c r a) ++ element_code c i r site f guard a)
index_split c i r site f guard a of_array of_pointer number =
    either (is_array (kind_at c.program.typed a)) r site of_array of_pointer (of_global c i site f guard a) (of_object c i r site f guard a) number

-- ---- lines that are made one after the other
index_lines : (c : Context) (i r j q : ℕ) (site : Site) (f guard : Option ℕ) (a n : Expression) (of_array of_pointer V old l2 l3 l4 l5 : List Op)
    → l2 ≡ old ++ indexed_code c r site a of_array of_pointer → j ≡ i → q ≡ index_register c r a → l3 ≡ l2 ++ expression_code c j q n → l4 ≡ l3 ++ element_code c i r site f guard a → l5 ≡ l4 ++ V
    → l5 ≡ old ++ (index_code c i r site f guard a of_array of_pointer (λ d. expression_code c i d n) ++ V)
index_lines c i r j q site f guard a n of_array of_pointer V old l2 l3 l4 l5 e2 ej eq e3 e4 e5 =
    let A = indexed_code c r site a of_array of_pointer in
    let N = expression_code c i (index_register c r a) n in
    let B = element_code c i r site f guard a in
    let third : l3 ≡ l2 ++ N = e3 ∙ ap (λ k. l2 ++ expression_code c k q n) ej ∙ ap (λ k. l2 ++ expression_code c i k n) eq in
    let all : l5 ≡ (((old ++ A) ++ N) ++ B) ++ V = e5 ∙ ap (λ l. l ++ V) (e4 ∙ ap (λ l. l ++ B) (third ∙ ap (λ l. l ++ N) e2)) in
    all
    ∙ ap (λ l. l ++ V) (append_assoc (old ++ A) N B ∙ append_assoc old A (N ++ B) ∙ ap (λ l. old ++ l) (sym (index_split c i r site f guard a of_array of_pointer (λ d. expression_code c i d n))))
    ∙ append_assoc old (index_code c i r site f guard a of_array of_pointer (λ d. expression_code c i d n)) V

binary_lines : (c : Context) (i r : ℕ) (at : Site) (o : BinaryOperator) (a b : Expression) (old l2 l3 : List Op) → l2 ≡ old ++ expression_code c i r a
    → l3 ≡ l2 ++ binary_code c i r at o a b [] (λ j q. expression_code c j q b) → l3 ≡ old ++ binary_code c i r at o a b (expression_code c i r a) (λ j q. expression_code c j q b)
binary_lines c i r at o a b old l2 l3 e2 e3 =
    let A = expression_code c i r a in
    let B = binary_code c i r at o a b [] (λ j q. expression_code c j q b) in
    e3 ∙ ap (λ l. l ++ B) e2 ∙ append_assoc old A B ∙ ap (λ l. old ++ l) (sym (binary_split c i r at o a b A (λ j q. expression_code c j q b)))

two_lines : (old l1 l2 l3 A B : List Op) → l1 ≡ old ++ Op.Enter ∷ [] → l2 ≡ l1 ++ A → l3 ≡ l2 ++ B → l3 ≡ old ++ Op.Enter ∷ (A ++ B)
two_lines old l1 l2 l3 A B e1 e2 e3 =
    let all : l3 ≡ ((old ++ Op.Enter ∷ []) ++ A) ++ B = e3 ∙ ap (λ l. l ++ B) (e2 ∙ ap (λ l. l ++ A) e1) in
    all ∙ append_assoc (old ++ Op.Enter ∷ []) A B ∙ append_assoc old (Op.Enter ∷ []) (A ++ B)

-- ---- the forms of expressions with equal parts
pub call_at : (c : Context) (i r : ℕ) (s : Span) (f : Identifier) (e : Expression) (args first second : Arguments) (parameters : List Declaration) (n : Named) (spot : Spot) (old l1 l2 l3 : List Op)
    → e ≡ call s f args → first ≡ args → second ≡ args → parameters ≡ parameters_named c.program.typed (named_at c.program.typed f.site.token) → n ≡ named_at c.program.typed f.site.token → spot ≡ at_site s.first
    → l1 ≡ old ++ Op.Enter ∷ [] → l2 ≡ l1 ++ arguments_code c i r (declared_kinds parameters) first → l3 ≡ l2 ++ called_code i r spot n f.text second → l3 ≡ old ++ expression_code c i r e
call_at c i r s f e args first second parameters n spot old l1 l2 l3 ee ef es ep en eo e1 e2 e3 =
    let named = named_at c.program.typed f.site.token in
    let ks = declared_kinds (parameters_named c.program.typed named) in
    two_lines old l1 l2 l3 (arguments_code c i r ks args) (called_code i r (at_site s.first) named f.text args) e1
    (e2 ∙ ap (λ x. l1 ++ arguments_code c i r (declared_kinds x) first) ep ∙ ap (λ x. l1 ++ arguments_code c i r ks x) ef)
    (e3 ∙ ap (λ x. l2 ++ called_code i r x n f.text second) eo ∙ ap (λ x. l2 ++ called_code i r (at_site s.first) x f.text second) en
    ∙ ap (λ x. l2 ++ called_code i r (at_site s.first) named f.text x) es)
    ∙ ap (λ x. old ++ expression_code c i r x) (sym ee)

abbrev index_form : Context → ℕ → ℕ → Span → Expression → Expression → List Op → Expression → List Op
index_form c i r s a n old x = old ++ (index_code c i r s.first None (guard_of c x) a (place_code c i r s.first None None a) (expression_code c i r a) (λ d. expression_code c i d n) ++ lvalue_code c i r x)

pub index_at : (c : Context) (i r j q : ℕ) (s : Span) (e a base again n number : Expression) (g : Option ℕ) (old l2 l3 l4 l5 : List Op)
    → e ≡ index s a n → base ≡ a → again ≡ a → number ≡ n → g ≡ guard_of c e
    → l2 ≡ old ++ indexed_code c r s.first base (place_code c i r s.first None None base) (expression_code c i r base) → j ≡ i → q ≡ index_register c r base
    → l3 ≡ l2 ++ expression_code c j q number → l4 ≡ l3 ++ element_code c i r s.first None g again → l5 ≡ l4 ++ lvalue_code c i r e → l5 ≡ old ++ operation_code c i r e
index_at c i r j q s e a base again n number g old l2 l3 l4 l5 ee eb ea en eg e2 ej eq e3 e4 e5 =
    index_lines c i r j q s.first None (guard_of c e) a n (place_code c i r s.first None None a) (expression_code c i r a) (lvalue_code c i r e) old l2 l3 l4 l5
    (e2 ∙ ap (λ x. old ++ indexed_code c r s.first x (place_code c i r s.first None None x) (expression_code c i r x)) eb) ej (eq ∙ ap (index_register c r) eb)
    (e3 ∙ ap (λ x. l2 ++ expression_code c j q x) en)
    (e4 ∙ ap (λ x. l3 ++ element_code c i r s.first None x again) eg ∙ ap (λ x. l3 ++ element_code c i r s.first None (guard_of c e) x) ea) e5
    ∙ ap (index_form c i r s a n old) ee
    ∙ ap (λ x. old ++ operation_code c i r x) (sym ee)

pub binary_at : (c : Context) (i r : ℕ) (s : Span) (o : BinaryOperator) (at : Site) (e a left again b right : Expression) (old l2 l3 : List Op)
    → e ≡ binary s o at a b → left ≡ a → again ≡ a → right ≡ b
    → l2 ≡ old ++ expression_code c i r left → l3 ≡ l2 ++ binary_code c i r at o again right [] (λ j q. expression_code c j q right) → l3 ≡ old ++ operation_code c i r e
binary_at c i r s o at e a left again b right old l2 l3 ee el ea er e2 e3 =
    binary_lines c i r at o a b old l2 l3
    (e2 ∙ ap (λ x. old ++ expression_code c i r x) el)
    (e3 ∙ ap (λ x. l2 ++ binary_code c i r at o x right [] (λ j q. expression_code c j q right)) ea ∙ ap (λ x. l2 ++ binary_code c i r at o a x [] (λ j q. expression_code c j q x)) er)
    ∙ ap (λ x. old ++ operation_code c i r x) (sym ee)
