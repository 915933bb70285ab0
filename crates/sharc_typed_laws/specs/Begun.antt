-- What is known where a function begins, and before each of its statements: what the types of the variables that stand
-- say.
use Rattle.std.specs.Prelude.{ℕ, ◌<◌, false, nat_lt, if◌then◌else◌, [], Some}
use Rattle.sharc_flat.specs.Scope.{Context, int_count, ref_count}
use Rattle.sharc_invariant.specs.Labels.{Empty, Refers, Anything, Within, Closed, Label}
use Rattle.sharc_typed_laws.specs.{Places.IsNamed, Premises.Typing, Declared.StandsBefore}

abbrev pub label_of : Typing → Context → ℕ → Label
label_of y c f = record {
  function = Some f;
  env = λ q. if nat_lt q (ref_count c.scope) then Refers (y.pointer c q) else Empty;
  same = λ q. q;
  known = λ q. false;
  ints = λ j. if nat_lt j (int_count c.scope) then Within (y.width c j) else Anything;
  gate = Closed;
  passed = [];
  room = false;
}

-- The types of the variables name constants that stand.
abbrev pub LabelsStand : Type 0
LabelsStand = (y : Typing) (c : Context) (f : ℕ)
    → ((q : ℕ) → q < ref_count c.scope → IsNamed (y.named c) (ref_count c.scope) (y.pointer c q))
    → StandsBefore y c f (label_of y c f)
