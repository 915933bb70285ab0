-- How the code's steps are put together.
use Rattle.sharc_ask.proofs.{Imports.{◌≡◌, [], ◌∷◌, Err, refl, ap, ◌∙◌, ℤ, Site, BinaryOperator, Add, Expression, Statement, empty, Kind, class_of, binary_result, Resolution, kind_at, Assignment, RunEnd, Known, Ends, EndsAs, Does, DoesAs, logic_of, binary_by, bits_of, Calls, binary_value, State, Outcome, Out, over, Run, then_on, ◌>>=◌, enters, exec}, OwnSteps.over_same}

-- ---- what stops where it is entered

pub exec_over : (on_call : Calls) (m : Assignment) (kind : Kind) (a : Statement) (s t : State) (o : Outcome) → enters s ≡ over o t → exec on_call m kind a s ≡ over o t
exec_over on_call m kind (empty x) s t o h = rw h refl
exec_over on_call m kind _ s t o h = rw h refl

pub ends_same : {A B : Type 0} (e : RunEnd) (k : Known) (a : Out A) (b : Out B) → ((o : Outcome) (t : State) → a ≡ over o t → b ≡ over o t) → Ends {A = A} (Err e) k a → Ends {A = B} (Err e) k b
ends_same RunEnd.Memory k a b same h = tt
ends_same j k a b same h = over_same j k a b same h

pub ends_as_same : {A B C : Type 0} (v : B → C) (e : RunEnd) (k : Known) (a : Out A) (b : Out C) → ((o : Outcome) (t : State) → a ≡ over o t → b ≡ over o t) → Ends {A = A} (Err e) k a → EndsAs v (Err e) k b
ends_as_same v RunEnd.Memory k a b same h = tt
ends_as_same v j k a b same h = over_same j k a b same h

-- a step that is over, and with it what it begins

pub over_then : {A B : Type 0} (k k1 : Known) (e : RunEnd) (m : Run A) (f : A → Run B) → Does {A = A} k (Err e) k1 m → Does {A = B} k (Err e) k1 (m >>= f)
over_then k k1 e m f h = λ s is. ends_same e k1 (m s) (then_on (m s) f) (λ o t is_over. ap (λ z. then_on z f) is_over) (h s is)

pub over_then_as : {A B C : Type 0} (u : C → B) (k k1 : Known) (e : RunEnd) (m : Run A) (f : A → Run B) → Does {A = A} k (Err e) k1 m → DoesAs u k (Err e) k1 (m >>= f)
over_then_as u k k1 e m f h = λ s is. ends_as_same u e k1 (m s) (then_on (m s) f) (λ o t is_over. ap (λ z. then_on z f) is_over) (h s is)

pub plainly_over : {B C : Type 0} (u : C → B) (k k1 : Known) (e : RunEnd) (m : Run B) → DoesAs u k (Err e) k1 m → Does {A = B} k (Err e) k1 m
plainly_over u k k1 RunEnd.Memory m h = λ s is. tt
plainly_over u k k1 _ m h = λ s is. h s is

-- ---- variables that end with a run

-- an operator by whether it looks at both operands
pub binary_is : (r : Resolution) (at : Site) (o : BinaryOperator) (a b : Expression) (x y : Run ℤ) → binary_by (logic_of o) r (bits_of (binary_result (class_of o) (kind_at r a) (kind_at r b))) at o a b x y ≡ binary_value r at o a b x y
binary_is r at Add a b x y = refl
binary_is r at _ a b x y = refl

-- ---- arguments
