-- What parts of statements are begun with, and what goes on with the value of that.
use Rattle.sharc_ask.proofs.{Imports.{◌≡◌, ℕ, List, length, Some, refl, ap, ◌∙◌, subst, ℤ, Site, Span, Declaration, WrittenType, span_of, Expression, Right, malloc, assign, does_call, Kind, declared_kind, Resolution, kind_at, pointed, Assignment, written, row_at, declared_row, Sharing, private, Calls, fitting, passed, eval, place_of, variable, stored, State, Out, go, over, Run, Step, then_on, ◌>>=◌, ◌>>◌, give, drops, right_value, done_simple, initialised, return_with, returned, Plan, Task, made, Value, number, place, flow, number_in, place_in, gives, as_nothing, ends_above, step_then, assigned_to, returned_with, task_means, plan_means, Leads, inside, Rest}, Expressing.{passed_goes, passed_ends, passed_first}, Outs.{begun, both_begun}}

pub out_given : (out : Out Value) → out ≡ then_on out (λ v. give v)
out_given (go v t) = refl
out_given (over o t) = refl

-- a task alone
pub same_begins : (on_call : Calls) (m : Assignment) (t : Task) → Leads on_call m (task_means on_call m t) (Plan.Goes t Rest.Same)
same_begins on_call m t = λ s. out_given (task_means on_call m t s)

-- a step, and what a plan is for
pub step_begins : {A : Type 0} (on_call : Calls) (m : Assignment) (step : Step) (w : A → Value) (run : Run A) (p : Plan) → Leads on_call m (gives w run) p → (s : State) → gives w (step >> run) s ≡ step_then step (plan_means on_call m p) s
step_begins on_call m step w run p lead s = both_begun (step s) (λ out. then_on (then_on out (λ u. run)) (λ x. give (w x))) (λ out. then_on out (λ u. plan_means on_call m p)) (λ o t. refl) (λ u t. lead t)

pub argument_begins : (r : Resolution) (kinds : List Kind) (e : Expression) (of_e : Run ℤ) (s : State) → gives number (passed r kinds e of_e) s ≡ then_on (gives number of_e s) (λ v. gives number (passed r kinds e (give (number_in v))))
argument_begins r kinds e of_e s =
    passed_first r kinds e of_e s
    ∙ begun number (λ v. gives number (passed r kinds e (give (number_in v)))) (of_e s) (λ out. gives number (passed r kinds e (λ z. out)) s) (λ o t. ap (λ z. then_on z (λ x. give (number x))) (passed_ends r kinds e o t s)) (λ x t. ap (λ z. then_on z (λ x. give (number x))) (passed_goes r kinds e x t s))

pub fit_begins : (kind : Kind) (e : Expression) (of_e : Run ℤ) (s : State) → gives number (fitting kind e of_e) s ≡ then_on (gives number of_e s) (λ v. gives number (fitting kind e (give (number_in v))))
fit_begins kind e of_e s = begun number (λ v. gives number (fitting kind e (give (number_in v)))) (of_e s) (λ out. gives number (fitting kind e (λ z. out)) s) (λ o t. refl) (λ x t. refl)

pub made_begins : (on_call : Calls) (m : Assignment) (kind : Kind) (target : Sharing) (span : Span) (e : Expression) (w : WrittenType) (s : State)
    → inside (gives number (right_value on_call m kind target (malloc span (Some e) w))) s ≡ then_on (gives number (eval on_call m e) s) (λ v. gives number (made m.typed span.first target (number_in v) w))
made_begins on_call m kind target span e w s =
    begun number (λ v. gives number (made m.typed span.first target (number_in v) w)) (eval on_call m e s) (λ out. gives number ((λ z. out) >>= (λ elements. made m.typed span.first target elements w)) s) (λ o t. refl) (λ x t. refl)

pub assign_begins : (on_call : Calls) (m : Assignment) (span : Span) (u : Expression) (x : Right) (mark : ℕ) (s : State) → length s.frame.temporaries ≡ mark
    → gives as_nothing (done_simple on_call m (assign span u x)) s
    ≡ then_on (gives place (place_of on_call m (span_of u).first u) s) (λ v. gives as_nothing (ends_above mark (assigned_to m u (place_in v) (right_value on_call m (kind_at m.typed u) (pointed m (row_at m.typed u)) x))))
assign_begins on_call m span u x mark s same =
    subst (λ (n : ℕ). gives as_nothing (done_simple on_call m (assign span u x)) s
    ≡ then_on (gives place (place_of on_call m (span_of u).first u) s) (λ v. gives as_nothing (ends_above n (assigned_to m u (place_in v) (right_value on_call m (kind_at m.typed u) (pointed m (row_at m.typed u)) x))))) same
    (begun place (λ v. gives as_nothing (ends_above (length s.frame.temporaries) (assigned_to m u (place_in v) (right_value on_call m (kind_at m.typed u) (pointed m (row_at m.typed u)) x)))) (place_of on_call m (span_of u).first u s)
    (λ out. gives as_nothing (ends_above (length s.frame.temporaries) ((λ z. out) >>= (λ p. assigned_to m u p (right_value on_call m (kind_at m.typed u) (pointed m (row_at m.typed u)) x)))) s) (λ o t. refl) (λ p t. refl))

pub call_begins : (on_call : Calls) (m : Assignment) (e : Expression) (s : State) → gives as_nothing (done_simple on_call m (does_call e)) s ≡ then_on (gives number (eval on_call m e) s) (λ v. gives as_nothing (drops (kind_at m.typed e) (number_in v)))
call_begins on_call m e s = begun number (λ v. gives as_nothing (drops (kind_at m.typed e) (number_in v))) (eval on_call m e s) (λ out. gives as_nothing ((λ z. out) >>= (λ v. drops (kind_at m.typed e) v)) s) (λ o t. refl) (λ x t. refl)

pub initial_begins : (on_call : Calls) (m : Assignment) (d : Declaration) (x : Right) (s : State)
    → gives as_nothing (initialised on_call m d (Some x)) s
    ≡ then_on (gives number (right_value on_call m (declared_kind d.written) (pointed m (Some (declared_row m.typed written d.name.site.token))) x) s) (λ v. gives as_nothing (stored m.typed d.name.site (declared_kind d.written) private (variable d.name.site.token) (number_in v)))
initial_begins on_call m d x s =
    begun number (λ v. gives as_nothing (stored m.typed d.name.site (declared_kind d.written) private (variable d.name.site.token) (number_in v))) (right_value on_call m (declared_kind d.written) (pointed m (Some (declared_row m.typed written d.name.site.token))) x s)
    (λ out. gives as_nothing ((λ z. out) >>= (λ v. stored m.typed d.name.site (declared_kind d.written) private (variable d.name.site.token) v)) s) (λ o t. refl) (λ y t. refl)

pub return_begins : (on_call : Calls) (m : Assignment) (kind : Kind) (site : Site) (e : Expression) (s : State) → gives flow (return_with on_call m kind site (Some e)) s ≡ then_on (gives number (eval on_call m e) s) (λ v. gives flow (returned_with kind site e (number_in v)))
return_begins on_call m kind site e s = begun number (λ v. gives flow (returned_with kind site e (number_in v))) (eval on_call m e s) (λ out. gives flow (fitting kind e (λ z. out) >>= (λ v. give (returned site v))) s) (λ o t. refl) (λ x t. refl)
