-- What the walk does with its stack, a step after the other.
use Rattle.sharc_ask.proofs.{Imports.{◌≡◌, ℕ, List, [], ◌∷◌, ◌++◌, Result, Ok, Err, refl, sym, ap, ◌∙◌, subst, reverse-append, reverse, Assignment, Calls, calls, State, Outcome, Out, go, over, Run, then_on, ◌>>=◌, give, RunEnd, Known, known, Over, Ends, EndsAs, DoesAs, Plan, Rest, Task, RustValue, At, Left, Value, view_value, task_means, rest_means, plan_means, PlanEnds, Plans, Behind, all_behind, AreBehind, at_means, Reached, Moves, StepEnds, Steps, GoesOnWith, Comes, with_rest, Later, Stepped}, Stating.out_given}

pub bound_twice : {A B C : Type 0} (out : Out A) (f : A → Run B) (g : B → Run C) → then_on (then_on out f) g ≡ then_on out (λ x. f x >>= g)
bound_twice (go x s) f g = refl
bound_twice (over o s) f g = refl

pub over_bound : {A B : Type 0} (e : RunEnd) (k : Known) (out : Out A) (f : A → Run B) → Over e k out → Over e k (then_on out f)
over_bound e k out f w = record { outcome = w.outcome; state = w.state; is = ap (λ o. then_on o f) w.is; ends_so = w.ends_so; looks = w.looks }

-- the thing that is pushed last is the next
pub on_top : {A : Type 0} (x : A) (items : List A) → reverse (items ++ x ∷ []) ≡ x ∷ reverse items
on_top x items = reverse-append items (x ∷ [])

over_from : {A : Type 0} (e : RunEnd) (k : Known) (out : Out A) (G : Out A → Out Value) → ((o : Outcome) (t : State) → G (over o t) ≡ over o t) → Over e k out → Over e k (G out)
over_from e k out G same w = record { outcome = w.outcome; state = w.state; is = ap G w.is ∙ same w.outcome w.state; ends_so = w.ends_so; looks = w.looks }

-- what a part is over by, the whole is
pub reached_from : {A : Type 0} (m : Assignment) (e : RunEnd) (k : Known) (stack : List Left) (out : Out A) (G : Out A → Out Value) → ((o : Outcome) (t : State) → G (over o t) ≡ over o t) → Ends {A = A} (Err e) k out → Reached m (Err e) stack k (G out)
reached_from m RunEnd.Memory k stack out G same h = tt
reached_from m j k stack out G same h = over_from j k out G same h

-- ---- plans

pub plan_moves : (m : Assignment) (n : ℕ) (k k1 : Known) (p : Plan) (stack : List Left) (run : Run Value) → Plans (calls m n) m k (Ok p) k1 run → Moves m k stack (Ok (record { frames = n; plan = p })) k1 stack run
plan_moves m n k k1 p stack run h = λ s behind is stands.
    let w = h s is in
    record { state = w.state; behind = behind; is = ap (λ o. then_on o (all_behind behind)) w.is; looks = w.looks; stands = stands }

pub plan_reached : (on_call : Calls) (m : Assignment) (e : RunEnd) (k : Known) (stack : List Left) (out : Out Value) (f : Behind) → PlanEnds on_call m (Err e) k out → Reached m (Err e) stack k (then_on out f)
plan_reached on_call m RunEnd.Memory k stack out f h = tt
plan_reached on_call m j k stack out f h = over_bound j k out f h

pub plan_ends : (on_call : Calls) (m : Assignment) (k k1 : Known) (e : RunEnd) (stack stack1 : List Left) (run : Run Value) → Plans on_call m k (Err e) k1 run → Moves m k stack (Err e) k1 stack1 run
plan_ends on_call m k k1 e stack stack1 run h = λ s behind is stands. plan_reached on_call m e k1 stack1 (run s) (all_behind behind) (h s is)

-- ---- a task, and what goes on with its value

pushed_moves : (m : Assignment) (n : ℕ) (k k1 : Known) (t : Task) (w : Rest) (p : Plan) (stack : List Left) → Plans (calls m n) m k (Ok p) k1 (task_means (calls m n) m t)
    → Moves m k stack (Ok (record { frames = n; plan = p })) k1 (record { frames = n; later = Later.Rest w } ∷ stack) (plan_means (calls m n) m (Plan.Goes t w))
pushed_moves m n k k1 t w p stack h = λ s behind is stands.
    let a = h s is in
    let f = rest_means (calls m n) m w in
    record {
      state = a.state;
      behind = f ∷ behind;
      is = bound_twice (task_means (calls m n) m t s) f (all_behind behind) ∙ ap (λ o. then_on o (λ v. f v >>= all_behind behind)) a.is;
      looks = a.looks;
      stands = (refl, stands);
    }

pub task_moves : (m : Assignment) (n : ℕ) (k k1 : Known) (t : Task) (w : Rest) (p : Plan) (stack : List Left) → Plans (calls m n) m k (Ok p) k1 (task_means (calls m n) m t)
    → Moves m k stack (Ok (record { frames = n; plan = p })) k1 (with_rest n w stack) (plan_means (calls m n) m (Plan.Goes t w))
task_moves m n k k1 t Rest.Same p stack h = λ s behind is stands.
    let a = h s is in
    record {
      state = a.state;
      behind = behind;
      is = ap (λ o. then_on o (all_behind behind)) (sym (out_given (task_means (calls m n) m t s)) ∙ a.is);
      looks = a.looks;
      stands = stands;
    }
task_moves m n k k1 t j p stack h = pushed_moves m n k k1 t j p stack h

pub task_ends : (m : Assignment) (n : ℕ) (k k1 : Known) (t : Task) (w : Rest) (e : RunEnd) (stack stack1 : List Left) → Plans (calls m n) m k (Err e) k1 (task_means (calls m n) m t) → Moves m k stack (Err e) k1 stack1 (plan_means (calls m n) m (Plan.Goes t w))
task_ends m n k k1 t w e stack stack1 h = λ s behind is stands.
    let f = rest_means (calls m n) m w in
    subst (Reached m (Err e) stack1 k1) (sym (bound_twice (task_means (calls m n) m t s) f (all_behind behind))) (plan_reached (calls m n) m e k1 stack1 (task_means (calls m n) m t s) (λ v. f v >>= all_behind behind) (h s is))

-- ---- the next thing that is left to do

pub resumed_moves : (m : Assignment) (n : ℕ) (k k1 : Known) (w : Rest) (v : Value) (p : Plan) (stack : List Left) (f : Behind) → f ≡ rest_means (calls m n) m w → Plans (calls m n) m k (Ok p) k1 (rest_means (calls m n) m w v)
    → Moves m k stack (Ok (record { frames = n; plan = p })) k1 stack (f v)
resumed_moves m n k k1 w v p stack f same h = subst (λ (z : Behind). Moves m k stack (Ok (record { frames = n; plan = p })) k1 stack (z v)) (sym same) (plan_moves m n k k1 p stack (rest_means (calls m n) m w v) h)

pub resumed_ends : (m : Assignment) (n : ℕ) (k k1 : Known) (w : Rest) (v : Value) (e : RunEnd) (stack : List Left) (f : Behind) → f ≡ rest_means (calls m n) m w → Plans (calls m n) m k (Err e) k1 (rest_means (calls m n) m w v) → Moves m k stack (Err e) k1 stack (f v)
resumed_ends m n k k1 w v e stack f same h = subst (λ (z : Behind). Moves m k stack (Err e) k1 stack (z v)) (sym same) (plan_ends (calls m n) m k k1 e stack stack (rest_means (calls m n) m w v) h)

popped : (m : Assignment) (l : Left) (v : RustValue) (k k1 : Known) (stack stack1 : List Left) (r : Result At RunEnd) (s : State) (behind : List Behind) → GoesOnWith m k l v stack r k1 stack1 → known s ≡ k → AreBehind m (l ∷ stack) behind
    → Reached m r stack1 k1 (all_behind behind (view_value v) s)
popped m l v k k1 stack stack1 r s [] h is stands = absurd stands
popped m l v k k1 stack stack1 r s (f ∷ rest) h is stands = h f stands.0 s rest is stands.1

pub popped_moves : (m : Assignment) (at : At) (l : Left) (v : RustValue) (k k1 : Known) (stack0 stack stack1 : List Left) (r : Result At RunEnd) → at.plan ≡ Plan.Done v → stack0 ≡ l ∷ stack → GoesOnWith m k l v stack r k1 stack1 → Moves m k stack0 r k1 stack1 (at_means m at)
popped_moves m at l v k k1 stack0 stack stack1 r done top h =
    subst (λ z. Moves m k z r k1 stack1 (at_means m at)) (sym top)
    (subst (λ z. Moves m k (l ∷ stack) r k1 stack1 (plan_means (calls m at.frames) m z)) (sym done) (λ s behind is stands. popped m l v k k1 stack stack1 r s behind h is stands))

-- ---- steps

step_over : (m : Assignment) (e : RunEnd) (k : Known) (stack : List Left) (out : Out Value) → Reached m (Err e) stack k out → StepEnds m (Err e) stack k out
step_over m RunEnd.Memory k stack out h = tt
step_over m _ k stack out h = h

pub step_ends : (m : Assignment) (k k1 : Known) (e : RunEnd) (stack stack1 : List Left) (run : Run Value) → Moves m k stack (Err e) k1 stack1 run → Steps m k stack (Err e) k1 stack1 run
step_ends m k k1 e stack stack1 run h = λ s behind is stands. step_over m e k1 stack1 (then_on (run s) (all_behind behind)) (h s behind is stands)

pub step_on : (m : Assignment) (at next : At) (k k1 k2 : Known) (stack stack1 : List Left) (r : Result RustValue RunEnd) → Steps m k stack (Ok (Stepped.Goes next)) k1 stack1 (at_means m at) → Comes m next stack1 k1 r k2 → Comes m at stack k r k2
step_on m at next k k1 k2 stack stack1 r h later = λ s behind is stands.
    let w = h s behind is stands in
    subst (EndsAs view_value r k2) (sym w.is) (later w.state w.behind w.looks w.stands)

come_over : (m : Assignment) (e : RunEnd) (k : Known) (stack : List Left) (out : Out Value) → StepEnds m (Err e) stack k out → EndsAs view_value (Err e) k out
come_over m RunEnd.Memory k stack out h = tt
come_over m _ k stack out h = h

pub comes_whole : (m : Assignment) (at : At) (k k1 : Known) (stack stack1 : List Left) (v : RustValue) → Steps m k stack (Ok (Stepped.Whole v)) k1 stack1 (at_means m at) → Comes m at stack k (Ok v) k1
comes_whole m at k k1 stack stack1 v h = λ s behind is stands. h s behind is stands

pub comes_over : (m : Assignment) (at : At) (k k1 : Known) (stack stack1 : List Left) (e : RunEnd) → Steps m k stack (Err e) k1 stack1 (at_means m at) → Comes m at stack k (Err e) k1
comes_over m at k k1 stack stack1 e h = λ s behind is stands. come_over m e k1 stack1 (then_on (at_means m at s) (all_behind behind)) (h s behind is stands)

-- ---- the whole

pub whole_does : (m : Assignment) (at : At) (k k1 k2 : Known) (stack : List Left) (r : Result RustValue RunEnd) (run : Run Value) → Moves m k [] (Ok at) k1 stack run → Comes m at stack k1 r k2 → DoesAs view_value k r k2 run
whole_does m at k k1 k2 stack r run h later = λ s is.
    let w = h s [] is tt in
    subst (EndsAs view_value r k2) (sym (out_given (run s) ∙ w.is)) (later w.state w.behind w.looks w.stands)

reached_as : (m : Assignment) (e : RunEnd) (k : Known) (stack : List Left) (out : Out Value) → Reached m (Err e) stack k (then_on out (λ v. give v)) → EndsAs view_value (Err e) k out
reached_as m RunEnd.Memory k stack out h = tt
reached_as m j k stack out h = subst (EndsAs view_value (Err j) k) (sym (out_given out)) h

pub whole_over : (m : Assignment) (k k1 : Known) (stack : List Left) (e : RunEnd) (run : Run Value) → Moves m k [] (Err e) k1 stack run → DoesAs view_value k (Err e) k1 run
whole_over m k k1 stack e run h = λ s is. reached_as m e k1 stack (run s) (h s [] is tt)
