-- A function that is over before its body begins.
use Rattle.sharc_ask.proofs.{Imports.{◌≡◌, List, [], Err, ap, ◌∙◌, ℤ, Site, Assignment, State, Outcome, Out, go, over, Run, then_on, give, RunEnd, Known, Does, Left, Value, view_value, gives, as_left, Moves}, Stacking.whole_over, Steps.{ends_same, plainly_over}}

came_over : (out : Out (Site × ℤ)) (o : Outcome) (t : State) → then_on out (λ x. give (as_left x)) ≡ over o t → out ≡ over o t
came_over (go x s) o t h = absurd (cc)
came_over (over p s) o t h = let outcome : p ≡ o = cc in let state : s ≡ t = cc in ap (λ z. over z s) outcome ∙ ap (λ z. over o z) state

pub left_over : (m : Assignment) (k k1 : Known) (stack : List Left) (e : RunEnd) (run : Run (Site × ℤ)) → Moves m k [] (Err e) k1 stack (gives as_left run) → Does {A = Site × ℤ} k (Err e) k1 run
left_over m k k1 stack e run h = λ s is.
    ends_same e k1 (gives as_left run s) (run s) (λ o t. came_over (run s) o t) (plainly_over view_value k k1 e (gives as_left run) (whole_over m k k1 stack e (gives as_left run) h) s is)
