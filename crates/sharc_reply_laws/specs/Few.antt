-- Where each turn of a run is made by a thread that is chosen among those that may make one, no thread makes more
-- events than the limit.
use Rattle.std.specs.Prelude.{ℕ, ◌≡◌, ◌≤◌, List}
use Rattle.sharc_code.specs.{declared.code.Code.Code, declared.shape.Shape.Shape, Runs.Turn, Whole.place_after}
use Rattle.sharc_seq.specs.Run.{AreChosen}

abbrev pub ChosenAreFew : Type 0
ChosenAreFew = (chooser : ℕ → ℕ → ℕ) (code : Code) (s : Shape) (limit : ℕ) (turns : List Turn)
    → AreChosen (λ number count place. place ≡ chooser number count) code s limit turns
    → (t : ℕ) → (place_after code s turns).made t ≤ limit
