-- The stack of the walk: what it means, and what the walk's functions do with it.
use Rattle.std.specs.{Prelude.{◌≡◌, ℕ, ℤ, ◌+◌, ◌<◌, List, [], ◌∷◌, ◌++◌, reverse, Result, Ok, Err, Vec}, Global.Global}
use Rattle.sharc_tree.specs.{Tree.{Function, Arguments}, View.{view_arguments, view_function}}
use Rattle.sharc_names.specs.Kinds.{Kind, declared_kinds}
use Rattle.sharc_mode.specs.Moded.{Assignment}
use Rattle.sharc_meaning.specs.{Expressions.{Calls, called, eval_all}, Meaning.{back_in, calls, left_at}}
use Rattle.sharc_meaning.specs.{State.{Frame, State, Out, Run, then_on, ◌>>=◌, give, ends_variables}, Statements.Flow}
use Rattle.sharc_ask.specs.{declared.state.RunEnd.RunEnd, StepView.{Known, known, held_below, Over, Went, EndsAs}}
use Rattle.sharc_ask.specs.{declared.plan.Call.Call, declared.plan.Rest.Rest, declared.plan.Value.{Value as RustValue}}
use Rattle.sharc_ask.specs.{declared.stack.At.At, declared.stack.Caller.Caller, declared.stack.Later.Later}
use Rattle.sharc_ask.specs.{declared.stack.Left.Left, declared.walk.Stepped.Stepped}
use Rattle.sharc_ask.specs.Values.{Value, number, number_in, flow_in, view_value, gives, as_left}
use Rattle.sharc_ask.specs.Plans.{ends_above, rest_means, plan_means, weight, size}
use Rattle.sharc_ask.specs.declared.state.RunEnd.TheVariants as ends
use Rattle.sharc_ask.specs.declared.plan.Rest.TheVariants as rests
use Rattle.sharc_ask.specs.declared.stack.Later.TheVariants as laters
use Rattle.sharc_ask.specs.declared.walk.Stepped.TheVariants as stepped

-- what is left to do, the next thing first
abbrev pub stack_of : Vec Left Global → List Left
stack_of v = reverse v.items

-- ---- what it means

-- what is made of a value
abbrev pub Behind : Type 0
Behind = Value → Run Value

abbrev pub all_behind : List Behind → Behind
all_behind [] v = give v
all_behind (f ∷ rest) v = f v >>= all_behind rest

-- a call where these arguments have their values, and those are left
abbrev pub awaits : Calls → Assignment → Call → ℕ → List Kind → Arguments → List ℤ → Run Value
awaits on_call m c mark kinds all values = gives number (ends_above mark (do
  more ← eval_all on_call m kinds all
  called on_call c.site c.named c.name.now (values ++ more)))

-- the frame of a function that is left so ends, and its caller goes on in its own
abbrev pub comes_back : Function → Frame → List Frame → Flow → Run Value
comes_back f caller others flow s = back_in caller others (ends_variables 0 (give (as_left (left_at f flow)) s))

-- a caller keeps a frame that looks like this
pub record IsCaller (c : Caller) (f : Behind) : Type 0 where
  pub caller : Frame
  pub others : List Frame
  pub is : f ≡ (λ v. comes_back (view_function c.function.now) caller others (flow_in v))
  pub variables : caller.variables ≡ c.kept.frame.variables.items
  pub temporaries : caller.temporaries ≡ c.kept.frame.temporaries.items
  pub below : held_below others ≡ c.kept.below.items

abbrev pub IsBehind : Assignment → ℕ → Later → Behind → Type 0
IsBehind m n (laters.Rest w) f = f ≡ rest_means (calls m n) m w
IsBehind m n (laters.Passes p) f = f ≡ (λ v. awaits (calls m n) m p.call p.mark (declared_kinds p.parameters.now)
    (view_arguments p.arguments.now) (p.values.items ++ number_in v ∷ []))
IsBehind m n (laters.Returns c) f = IsCaller c f

abbrev pub AreBehind : Assignment → List Left → List Behind → Type 0
AreBehind m [] [] = Unit {0}
AreBehind m [] (f ∷ rest) = ⊥
AreBehind m (l ∷ stack) [] = ⊥
AreBehind m (l ∷ stack) (f ∷ rest) = IsBehind m l.frames l.later f × AreBehind m stack rest

-- ---- what the walk's functions do with it

abbrev pub at_means : Assignment → At → Run Value
at_means m at = plan_means (calls m at.frames) m at.plan

-- a run comes to the state from which the plan goes on, and then what is left to do
pub record Reaches (m : Assignment) (at : At) (stack : List Left) (k : Known) (out : Out Value) : Type 0 where
  pub state : State
  pub behind : List Behind
  pub is : out ≡ then_on (at_means m at state) (all_behind behind)
  pub looks : known state ≡ k
  pub stands : AreBehind m stack behind

abbrev pub Reached : Assignment → Result At RunEnd → List Left → Known → Out Value → Type 0
Reached m (Ok at) stack k out = Reaches m at stack k out
Reached m (Err ends.Memory) stack k out = Unit {0}
Reached m (Err e) stack k out = Over e k out

-- from whatever state looks so, and whatever is left to do
abbrev pub Moves : Assignment → Known → List Left → Result At RunEnd → Known → List Left → Run Value → Type 0
Moves m before stack result after stack1 run = (s : State) (behind : List Behind) → known s ≡ before
    → AreBehind m stack behind → Reached m result stack1 after (then_on (run s) (all_behind behind))

abbrev pub StepEnds : Assignment → Result Stepped RunEnd → List Left → Known → Out Value → Type 0
StepEnds m (Ok (stepped.Whole v)) stack k out = Went (view_value v) k out
StepEnds m (Ok (stepped.Goes at)) stack k out = Reaches m at stack k out
StepEnds m (Err ends.Memory) stack k out = Unit {0}
StepEnds m (Err e) stack k out = Over e k out

abbrev pub Steps : Assignment → Known → List Left → Result Stepped RunEnd → Known → List Left → Run Value → Type 0
Steps m before stack result after stack1 run = (s : State) (behind : List Behind) → known s ≡ before
    → AreBehind m stack behind → StepEnds m result stack1 after (then_on (run s) (all_behind behind))

-- what is left to do with the value of the thing that was next
abbrev pub GoesOnWith : Assignment → Known → Left → RustValue → List Left → Result At RunEnd → Known → List Left
    → Type 0
GoesOnWith m before l v stack result after stack1 = (f : Behind) → IsBehind m l.frames l.later f
    → Moves m before stack result after stack1 (f (view_value v))

-- the whole comes to this
abbrev pub Comes : Assignment → At → List Left → Known → Result RustValue RunEnd → Known → Type 0
Comes m at stack before result after = (s : State) (behind : List Behind) → known s ≡ before → AreBehind m stack behind
    → EndsAs view_value result after (then_on (at_means m at s) (all_behind behind))

-- ---- that the walk ends

abbrev pub later_weight : Later → ℕ
later_weight (laters.Rest w) = weight w
later_weight _ = 1

abbrev pub load : List Left → ℕ
load [] = 0
load (l ∷ stack) = later_weight l.later + load stack

-- what is left is less than it was, unless the whole is done
abbrev pub GoesDown : Stepped → ℕ → ℕ → Type 0
GoesDown (stepped.Whole v) before after = Unit {0}
GoesDown (stepped.Goes at) before after = after + size at.plan < before

abbrev pub with_rest : ℕ → Rest → List Left → List Left
with_rest n rests.Same stack = stack
with_rest n w stack = record { frames = n; later = laters.Rest w } ∷ stack
