-- Calls and their arguments.
use Rattle.sharc_ctype.proofs.Imports.{◌≡◌, ℕ, ◌+◌, ◌<◌, Bool, true, false, ◌&&◌, List, [], ◌∷◌, ◌++◌, length, drop, get_or, fold, refl, ap, sym, ◌∙◌, Option, is_some, add-one, drop-cons, fold-append, Span, Identifier, Expr, Expression, call, view_expr, view_arguments, Value, Scope, Kind, Entry, look_up, Note, Findings, noted, met, unmet, agreed, unagreed, first_wanted, Standing, count, wanted, call_result, call_kind, callee_notes, type_of, are_fine, notes_at, notes_of, notes_of_all}

count_is : (list : List Expr) → count (view_arguments list) ≡ length list
count_is [] = refl
count_is (e ∷ rest) = ap (λ n. n + 1) (count_is rest) ∙ add-one (length rest)

pub call_typed : (scope : Scope) (e : Expression) (s : Span) (f : Identifier) (list : List Expr) (n : ℕ) (entry : Option Entry) (params : List Kind) (result : Option Kind) (fine : Bool)
    → e ≡ call s f (view_arguments list) → n ≡ length list → entry ≡ look_up scope.names f.text → params ≡ wanted n entry
    → fine ≡ are_fine scope params (view_arguments list) → result ≡ call_kind (call_result n entry) fine → result ≡ type_of scope e
call_typed scope e s f list n entry params result fine is n_is entry_is params_is fine_is result_is =
    let args = view_arguments list in
    result_is
    ∙ ap (call_kind (call_result n entry)) (fine_is ∙ ap (λ p. are_fine scope p args) params_is)
    ∙ ap (λ m. call_kind (call_result m entry) (are_fine scope (wanted m entry) args)) (n_is ∙ sym (count_is list))
    ∙ ap (λ o. call_kind (call_result (count args) o) (are_fine scope (wanted (count args) o) args)) entry_is
    ∙ sym (ap (type_of scope) is)

pub call_noted : (stands : Standing) (scope : Scope) (e : Expression) (s : Span) (f : Identifier) (list : List Expr) (n : ℕ) (entry : Option Entry) (params : List Kind) (f0 f1 f2 : Findings)
    → e ≡ call s f (view_arguments list) → n ≡ length list → entry ≡ look_up scope.names f.text → params ≡ wanted n entry
    → f1 ≡ fold noted f0 (callee_notes stands f.site.token n entry) → f2 ≡ fold noted f1 (notes_of_all scope params (view_arguments list)) → f2 ≡ fold noted f0 (notes_at stands scope e)
call_noted stands scope e s f list n entry params f0 f1 f2 is n_is entry_is params_is one two =
    let args = view_arguments list in
    two
    ∙ ap (λ g. fold noted g (notes_of_all scope params args)) one
    ∙ sym (fold-append noted f0 (callee_notes stands f.site.token n entry) (notes_of_all scope params args))
    ∙ ap (λ p. fold noted f0 (callee_notes stands f.site.token n entry ++ notes_of_all scope p args)) params_is
    ∙ ap (λ m. fold noted f0 (callee_notes stands f.site.token m entry ++ notes_of_all scope (wanted m entry) args)) (n_is ∙ sym (count_is list))
    ∙ ap (λ o. fold noted f0 (callee_notes stands f.site.token (count args) o ++ notes_of_all scope (wanted (count args) o) args)) entry_is
    ∙ sym (ap (λ x. fold noted f0 (notes_at stands scope x)) is)

and_assoc : (x y z : Bool) → (x && (y && z)) ≡ ((x && y) && z)
and_assoc true y z = refl
and_assoc false y z = refl

first_of_rest : (list : List Expr) (i : ℕ) (e : Expr) → i < length list → e ≡ get_or list i e → drop i list ≡ e ∷ drop (i + 1) list
first_of_rest list i e below is = drop-cons list i e below ∙ ap (λ n. get_or list i e ∷ drop n list) (sym (add-one i)) ∙ ap (λ x. x ∷ drop (i + 1) list) (sym is)

pub one_fine : (scope : Scope) (left : List Kind) (list : List Expr) (i : ℕ) (e : Expr) (before : Bool) (kind : Option Kind) (well : Bool)
    → i < length list → e ≡ get_or list i e → kind ≡ met Value (type_of scope (view_expr e)) → well ≡ agreed (first_wanted left) kind
    → (before && are_fine scope left (view_arguments (drop i list))) ≡ ((before && (is_some kind && well)) && are_fine scope (drop 1 left) (view_arguments (drop (i + 1) list)))
one_fine scope left list i e before kind well below is kind_is well_is =
    let rest = are_fine scope (drop 1 left) (view_arguments (drop (i + 1) list)) in
    ap (λ l. before && are_fine scope left (view_arguments l)) (first_of_rest list i e below is)
    ∙ ap (λ k. before && ((is_some k && agreed (first_wanted left) k) && rest)) (sym kind_is)
    ∙ ap (λ w. before && ((is_some kind && w) && rest)) (sym well_is)
    ∙ and_assoc before (is_some kind && well) rest

four : (A B C R : List Note) (f0 f1 f2 f3 : Findings) → f1 ≡ fold noted f0 A → f2 ≡ fold noted f1 B → f3 ≡ fold noted f2 C → fold noted f0 (((A ++ B) ++ C) ++ R) ≡ fold noted f3 R
four A B C R f0 f1 f2 f3 one two three =
    fold-append noted f0 ((A ++ B) ++ C) R
    ∙ ap (λ f. fold noted f R) (fold-append noted f0 (A ++ B) C ∙ ap (λ f. fold noted f C) (fold-append noted f0 A B ∙ ap (λ f. fold noted f B) (sym one) ∙ sym two) ∙ sym three)

pub one_noted : (scope : Scope) (left : List Kind) (list : List Expr) (i : ℕ) (e : Expr) (k0 kind : Option Kind) (f0 f1 f2 f3 : Findings)
    → i < length list → e ≡ get_or list i e → k0 ≡ type_of scope (view_expr e) → kind ≡ met Value (type_of scope (view_expr e))
    → f1 ≡ fold noted f0 (notes_of scope (view_expr e)) → f2 ≡ fold noted f1 (unmet Value (view_expr e) k0) → f3 ≡ fold noted f2 (unagreed (first_wanted left) (view_expr e) kind)
    → fold noted f0 (notes_of_all scope left (view_arguments (drop i list))) ≡ fold noted f3 (notes_of_all scope (drop 1 left) (view_arguments (drop (i + 1) list)))
one_noted scope left list i e k0 kind f0 f1 f2 f3 below is k0_is kind_is one two three =
    let x = view_expr e in
    ap (λ l. fold noted f0 (notes_of_all scope left (view_arguments l))) (first_of_rest list i e below is)
    ∙ four (notes_of scope x) (unmet Value x (type_of scope x)) (unagreed (first_wanted left) x (met Value (type_of scope x))) (notes_of_all scope (drop 1 left) (view_arguments (drop (i + 1) list))) f0 f1 f2 f3
    one (two ∙ ap (λ k. fold noted f1 (unmet Value x k)) k0_is) (three ∙ ap (λ k. fold noted f2 (unagreed (first_wanted left) x k)) kind_is)
