-- How the code's steps are put together.
use Rattle.sharc_ask.proofs.Imports.{◌≡◌, Result, Ok, Err, sym, ap, subst, State, Outcome, Out, over, Run, then_on, ◌>>=◌, RunEnd, Known, Over, Ends, Does}

-- one step, and the next with its value
pub does_then : {A B : Type 0} (k k1 k2 : Known) (x : A) (r : Result B RunEnd) (m : Run A) (f : A → Run B) → Does k (Ok x) k1 m → Does k1 r k2 (f x) → Does k r k2 (m >>= f)
does_then k k1 k2 x r m f h later = λ s is. let w = h s is in subst (λ o. Ends r k2 (then_on o f)) (sym w.is) (later w.state w.looks)

pub over_same : {A B : Type 0} (e : RunEnd) (k : Known) (a : Out A) (b : Out B) → ((o : Outcome) (t : State) → a ≡ over o t → b ≡ over o t) → Over e k a → Over e k b
over_same e k a b same w = record { outcome = w.outcome; state = w.state; is = same w.outcome w.state w.is; ends_so = w.ends_so; looks = w.looks }

ends_same : {A B : Type 0} (e : RunEnd) (k : Known) (a : Out A) (b : Out B) → ((o : Outcome) (t : State) → a ≡ over o t → b ≡ over o t) → Ends {A = A} (Err e) k a → Ends {A = B} (Err e) k b
ends_same RunEnd.Memory k a b same h = tt
ends_same j k a b same h = over_same j k a b same h

-- a step that is over, and with it what it begins
pub over_then : {A B : Type 0} (k k1 : Known) (e : RunEnd) (m : Run A) (f : A → Run B) → Does {A = A} k (Err e) k1 m → Does {A = B} k (Err e) k1 (m >>= f)
over_then k k1 e m f h = λ s is. ends_same e k1 (m s) (then_on (m s) f) (λ o t is_over. ap (λ z. then_on z f) is_over) (h s is)
