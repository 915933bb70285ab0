-- Runs that begin with the value of another.
use Rattle.sharc_ask.proofs.Imports.{◌≡◌, ℕ, zero, suc, Bool, Result, Ok, Err, refl, sym, ap, ◌∙◌, subst, ℤ, if◌then◌else◌, Assignment, Calls, State, Outcome, Out, go, over, Run, then_on, ◌>>=◌, give, enters_with, enters, ends_temporaries, RunEnd, Known, known, Over, Ends, Does, Plan, Value, number, gives, temporaries_ended, plan_means, PlanEnds, Plans, LeadsFrom, inside, ends_above}

-- what a run makes of the value of another, which it begins with
pub begun : {A : Type 0} (w : A → Value) (F : Value → Run Value) (out : Out A) (G : Out A → Out Value) → ((o : Outcome) (t : State) → G (over o t) ≡ over o t) → ((x : A) (t : State) → G (go x t) ≡ F (w x) t) → G out ≡ then_on (then_on out (λ x. give (w x))) F
begun w F (go x t) G ends goes = goes x t
begun w F (over o t) G ends goes = ends o t

-- two that begin with one step
pub both_begun : {A : Type 0} (out : Out A) (G H : Out A → Out Value) → ((o : Outcome) (t : State) → G (over o t) ≡ H (over o t)) → ((x : A) (t : State) → G (go x t) ≡ H (go x t)) → G out ≡ H out
both_begun (go x t) G H ends goes = goes x t
both_begun (over o t) G H ends goes = ends o t

-- ---- plans

pub lead_plans : (on_call : Calls) (m : Assignment) (k : Known) (p : Plan) (run : Run Value) → LeadsFrom on_call m k run p → Plans on_call m k (Ok p) k run
lead_plans on_call m k p run h = λ s is. record { state = s; is = h s is; looks = is }

pub same_plans : (on_call : Calls) (m : Assignment) (k k1 : Known) (r : Result Plan RunEnd) (run run1 : Run Value) → ((s : State) → known s ≡ k → run s ≡ run1 s) → Plans on_call m k r k1 run1 → Plans on_call m k r k1 run
same_plans on_call m k k1 r run run1 same h = λ s is. subst (λ o. PlanEnds on_call m r k1 o) (sym (same s is)) (h s is)

over_same : (e : RunEnd) (k : Known) (a : Out Value) (A : Type 0) (b : Out A) → ((o : Outcome) (t : State) → b ≡ over o t → a ≡ over o t) → Over e k b → Over e k a
over_same e k a A b same w = record { outcome = w.outcome; state = w.state; is = same w.outcome w.state w.is; ends_so = w.ends_so; looks = w.looks }

-- an end of a part is the end of the whole
pub plan_over : {A : Type 0} (on_call : Calls) (m : Assignment) (e : RunEnd) (k : Known) (a : Out Value) (b : Out A) → ((o : Outcome) (t : State) → b ≡ over o t → a ≡ over o t) → Ends {A = A} (Err e) k b → PlanEnds on_call m (Err e) k a
plan_over {A} on_call m RunEnd.Memory k a b same h = tt
plan_over {A} on_call m (RunEnd.Wants x) k a b same h = over_same (RunEnd.Wants x) k a A b same h
plan_over {A} on_call m (RunEnd.Stopped trap site) k a b same h = over_same (RunEnd.Stopped trap site) k a A b same h
plan_over {A} on_call m RunEnd.Spent k a b same h = over_same RunEnd.Spent k a A b same h

pub step_over : {A : Type 0} (on_call : Calls) (m : Assignment) (k k1 : Known) (e : RunEnd) (first : Run A) (f : A → Run Value) → Does {A = A} k (Err e) k1 first → Plans on_call m k (Err e) k1 (first >>= f)
step_over {A} on_call m k k1 e first f h = λ s is. plan_over {A = A} on_call m e k1 (then_on (first s) f) (first s) (λ o t is_over. ap (λ z. then_on z f) is_over) (h s is)

-- ---- what is entered

entered_with : (n : ℕ) (s t : State) (u : Unit {0}) → n ≡ s.fuel → enters_with n s ≡ go u t → record t { fuel = suc t.fuel } ≡ s
entered_with zero s t u same h = absurd cc
entered_with (suc n) s t u same h =
    let e : record s { fuel = n } ≡ t = cc in
    ap (λ (z : State). record z { fuel = suc z.fuel }) (sym e) ∙ ap (λ f. record s { fuel = f }) same

pub entered_from : (s t : State) (u : Unit {0}) → enters s ≡ go u t → record t { fuel = suc t.fuel } ≡ s
entered_from s t u h = entered_with s.fuel s t u refl h

pub entered_plans : (on_call : Calls) (m : Assignment) (k k1 k2 : Known) (u : Unit {0}) (r : Result Plan RunEnd) (run : Run Value) → Does k (Ok u) k1 enters → Plans on_call m k1 r k2 (inside run) → Plans on_call m k r k2 run
entered_plans on_call m k k1 k2 u r run h later = λ s is. let w = h s is in subst (λ z. PlanEnds on_call m r k2 (run z)) (entered_from s w.state u w.is) (later w.state w.looks)

pub entered_over : (on_call : Calls) (m : Assignment) (k k1 : Known) (e : RunEnd) (run : Run Value) → ((s t : State) (o : Outcome) → enters s ≡ over o t → run s ≡ over o t) → Does {A = Unit {0}} k (Err e) k1 enters → Plans on_call m k (Err e) k1 run
entered_over on_call m k k1 e run stops h = λ s is. plan_over {A = Unit {0}} on_call m e k1 (run s) (enters s) (λ o t. stops s t o) (h s is)

-- the value that a code's step answers, in place of a variable
pub truth_plans : (on_call : Calls) (m : Assignment) (k k1 : Known) (b : Bool) (p on_true on_false : Plan) (run : Run Bool) (same : (if b then plan_means on_call m on_true else plan_means on_call m on_false) ≡ plan_means on_call m p) → Does k (Ok b) k1 run → Plans on_call m k (Ok p) k1 (run >>= (λ z. if z then plan_means on_call m on_true else plan_means on_call m on_false))
truth_plans on_call m k k1 b p on_true on_false run same h = λ s is.
    let w = h s is in
    record {
      state = w.state;
      is = ap (λ o. then_on o (λ z. if z then plan_means on_call m on_true else plan_means on_call m on_false)) w.is ∙ ap (λ (f : Run Value). f w.state) same;
      looks = w.looks;
    }

-- ---- what ends with a run

pub above_goes : {A : Type 0} (k k1 k2 : Known) (x : A) (run : Run A) (n : ℕ) → k2 ≡ temporaries_ended n k1 → Does k (Ok x) k1 run → Does k (Ok x) k2 (ends_above n run)
above_goes k k1 k2 x run n same h = λ s is. let w = h s is in record { state = _; is = ap (ends_temporaries n) w.is; looks = ap (temporaries_ended n) w.looks ∙ sym same }

-- a number, and what is made of it
pub number_then : (on_call : Calls) (m : Assignment) (k k1 k2 : Known) (x : ℤ) (r : Result Plan RunEnd) (first : Run ℤ) (f : ℤ → Run ℤ) → Does k (Ok x) k1 first → Plans on_call m k1 r k2 (gives number (f x)) → Plans on_call m k r k2 (gives number (first >>= f))
number_then on_call m k k1 k2 x r first f h later = λ s is. let w = h s is in subst (λ o. PlanEnds on_call m r k2 (then_on (then_on o f) (λ y. give (number y)))) (sym w.is) (later w.state w.looks)

pub number_over : (on_call : Calls) (m : Assignment) (k k1 : Known) (e : RunEnd) (first : Run ℤ) (f : ℤ → Run ℤ) → Does {A = ℤ} k (Err e) k1 first → Plans on_call m k (Err e) k1 (gives number (first >>= f))
number_over on_call m k k1 e first f h = λ s is. plan_over {A = ℤ} on_call m e k1 (gives number (first >>= f) s) (first s) (λ o t is_over. ap (λ z. then_on (then_on z f) (λ y. give (number y))) is_over) (h s is)
