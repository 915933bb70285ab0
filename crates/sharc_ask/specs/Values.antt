-- What a task of the walk comes to.
use Rattle.std.specs.Prelude.{ℤ, pos, Bool, false}
use Rattle.sharc_tree.specs.declared.token.Site.{Site}
use Rattle.sharc_meaning.specs.{Places.{StorePlace, no_place}, State.{Run, ◌>>=◌, give}}
use Rattle.sharc_meaning.specs.Statements.{Flow, next, returned}
use Rattle.sharc_ask.specs.{StepView.view_place, declared.plan.Value.{Value as RustValue}, View.view_flow}
use Rattle.sharc_ask.specs.declared.plan.Value.TheVariants as values

-- what a task comes to
pub data Value : Type 0 where
  nothing : Value
  number : ℤ → Value
  test : Bool → Value
  place : StorePlace → Value
  flow : Flow → Value

abbrev pub number_in : Value → ℤ
number_in (number v) = v
number_in _ = pos 0

abbrev pub test_in : Value → Bool
test_in (test b) = b
test_in _ = false

abbrev pub place_in : Value → StorePlace
place_in (place p) = p
place_in _ = no_place

abbrev pub flow_in : Value → Flow
flow_in (flow f) = f
flow_in _ = next

abbrev pub view_value : RustValue → Value
view_value values.Nothing = nothing
view_value (values.Number v) = number v
view_value (values.Truth b) = test b
view_value (values.Place p) = place (view_place p)
view_value (values.Flow f) = flow (view_flow f)

abbrev pub gives : {A : Type 0} → (A → Value) → Run A → Run Value
gives f m = do
  x ← m
  give (f x)

abbrev pub as_nothing : Unit {0} → Value
as_nothing u = nothing

-- where a function is left, and its result
abbrev pub as_left : Site × ℤ → Value
as_left left = flow (returned left.0 left.1)

abbrev pub left_of : Flow → Site × ℤ
left_of (returned site v) = (site, v)
left_of _ = (record { file = 0; line = 0; token = 0 }, pos 0)
