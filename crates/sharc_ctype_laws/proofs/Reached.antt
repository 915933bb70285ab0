-- What is spawned, called and reached, where each expression meets the constraints.
use Rattle.sharc_ctype_laws.proofs.Imports.{◌≡◌, ⊎_elim, ℕ, zero, suc, List, [], ◌∷◌, length, refl, ap, sym, ◌∙◌, subst, arith, Some, Contains, Contains-append_cases, AllByRecursion, Span, Declaration, Identifier, in_function, Expression, Arguments, Function, Named, Kind, void, declared_kind, declared_kinds, Resolution, functions_in, function_at, named_at, kind_at, runs, spawns, of_all, Names, Spawns, Runs, Leads, IsReached, HasType, Callee, of_program, of_conditions, a_call, spawned, IsCallable, IsThread, some_there, at_place, none_there}
use Rattle.sharc_tree.specs.Tree as tree

-- in lists

abbrev pub AreTyped : Resolution → Type 0
AreTyped r = AllByRecursion (λ f. AllByRecursion (λ e. HasType r e (kind_at r e)) (in_function f)) (functions_in r.program.items)

only_one : (n t : ℕ) → Contains (n ∷ []) t → n ≡ t
only_one n t (zero, low, is) = is
only_one n t (suc k, low, is) = absurd (omega (arith, low))

pick : (Q : Expression → Type 0) (g : Expression → List ℕ) (list : List Expression) → AllByRecursion Q list → (t : ℕ) → Contains (of_all g list) t → (e : Expression) × Q e × Contains (g e) t
pick Q g [] all t c = absurd (none_there t c)
pick Q g (e ∷ rest) all t c = ⊎_elim (λ h. (e, all.0, h)) (λ h. pick Q g rest all.1 t h) (Contains-append_cases (g e) (of_all g rest) t c)

-- what is called

record IsCalled (r : Resolution) (m : ℕ) (parameters : List Kind) (result : Kind) : Type 0 where
  function : Function
  callable : IsCallable r m function
  takes : declared_kinds function.parameters ≡ parameters
  gives : declared_kind function.result ≡ result

same_number : (n m : ℕ) → Named.Function n ≡ Named.Function m → n ≡ m
same_number n m h = cc

no_known : (m : ℕ) → Named.Known ≡ Named.Function m → ⊥
no_known m h = cc

called_by : (r : Resolution) (i : Identifier) (parameters : List Kind) (result : Kind) → Callee r i parameters result → (m : ℕ) → named_at r i.site.token ≡ Named.Function m → IsCalled r m parameters result
called_by r i _ _ (of_program f is at spelled other) m h =
    record { function = f; callable = record { at = subst (λ k. function_at r k ≡ Some f) (same_number _ _ (sym is ∙ h)) at; not_main = λ main. other (sym spelled ∙ main) }; takes = refl; gives = refl }
called_by r i _ _ (of_conditions c is spelled) m h = absurd (no_known m (sym is ∙ h))

spawn_callee : (r : Resolution) (s : Span) (f : Identifier) (a : Expression) (k : Kind) → HasType r (tree.spawn s f a) k → (p : Kind) × Callee r f (p ∷ []) void
spawn_callee r s f a _ (spawned {parameter = p} c h) = (p, c)

call_callee : (r : Resolution) (s : Span) (f : Identifier) (all : Arguments) (k : Kind) → HasType r (tree.call s f all) k → (parameters : List Kind) × (result : Kind) × Callee r f parameters result
call_callee r s f all _ (a_call {parameters = p} {result = k} c h) = (p, k, c)

one_parameter : (list : List Declaration) (p : Kind) → declared_kinds list ≡ p ∷ [] → (d : Declaration) × (list ≡ d ∷ [])
one_parameter [] p h = let n : 0 ≡ 1 = ap length h in absurd (omega (arith, n))
one_parameter (d ∷ []) p h = (d, refl)
one_parameter (d ∷ (e ∷ rest)) p h = let n = ap length h in absurd (omega (arith, n))

thread_of : (r : Resolution) (m : ℕ) (p : Kind) → IsCalled r m (p ∷ []) void → (f : Function) × IsThread r m f
thread_of r m p c = let d = one_parameter c.function.parameters p c.takes in (c.function, record { callable = c.callable; result = c.gives; parameter = d.0; parameters = d.1 })

spawned_by : (r : Resolution) (e : Expression) → HasType r e (kind_at r e) → (t m : ℕ) → Contains (spawns e) t → named_at r t ≡ Named.Function m → (f : Function) × IsThread r m f
spawned_by r (tree.spawn s f a) h t m c is =
    let x = spawn_callee r s f a _ h in
    thread_of r m x.0 (called_by r f (x.0 ∷ []) void x.1 m (ap (named_at r) (only_one f.site.token t c) ∙ is))
spawned_by r _ h t m c is = absurd (none_there t c)

run_by : (r : Resolution) (e : Expression) → HasType r e (kind_at r e) → (t m : ℕ) → Contains (runs e) t → named_at r t ≡ Named.Function m → (f : Function) × IsCallable r m f
run_by r (tree.call s f all) h t m c is =
    let x = call_callee r s f all _ h in
    let y = called_by r f x.0 x.1 x.2 m (ap (named_at r) (only_one f.site.token t c) ∙ is) in
    (y.function, y.callable)
run_by r (tree.spawn s f a) h t m c is = let x = spawned_by r (tree.spawn s f a) h t m c is in (x.0, x.1.callable)
run_by r _ h t m c is = absurd (none_there t c)

-- in functions

pub spawned_thread : (r : Resolution) → AreTyped r → (n m : ℕ) → Spawns r n m → (f : Function) × IsThread r m f
spawned_thread r typed n m h =
    let at = some_there (λ f. Names r (Named.Function m) (of_all spawns (in_function f))) (function_at r n) h in
    let all = at_place (λ f. AllByRecursion (λ e. HasType r e (kind_at r e)) (in_function f)) (functions_in r.program.items) n at.0 typed at.1 in
    let e = pick (λ e. HasType r e (kind_at r e)) spawns (in_function at.0) all at.2.0 at.2.1 in
    spawned_by r e.0 e.1 at.2.0 m e.2 at.2.2

run_function : (r : Resolution) → AreTyped r → (n m : ℕ) → Runs r n m → (f : Function) × IsCallable r m f
run_function r typed n m h =
    let at = some_there (λ f. Names r (Named.Function m) (of_all runs (in_function f))) (function_at r n) h in
    let all = at_place (λ f. AllByRecursion (λ e. HasType r e (kind_at r e)) (in_function f)) (functions_in r.program.items) n at.0 typed at.1 in
    let e = pick (λ e. HasType r e (kind_at r e)) runs (in_function at.0) all at.2.0 at.2.1 in
    run_by r e.0 e.1 at.2.0 m e.2 at.2.2

led_to : (r : Resolution) → AreTyped r → (n : ℕ) (list : List ℕ) (m : ℕ) → (f : Function) × IsCallable r n f → Leads r n list m → (f : Function) × IsCallable r m f
led_to r typed n [] m f is = subst (λ k. (g : Function) × IsCallable r k g) is f
led_to r typed n (k ∷ rest) m f h = led_to r typed k rest m (run_function r typed n k h.0) h.1

pub reached_function : (r : Resolution) → AreTyped r → (m : ℕ) → IsReached r m → (f : Function) × IsCallable r m f
reached_function r typed m h = let x = spawned_thread r typed h.spawner h.first h.spawned in led_to r typed h.first h.between m (x.0, x.1.callable) h.leads
