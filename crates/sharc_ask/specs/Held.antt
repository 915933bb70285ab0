-- What a thread holds, as the code knows it.
use Rattle.std.specs.Prelude.{ℤ, List, ◌++◌}
use Rattle.sharc_meaning.specs.State.{pointers_among}
use Rattle.sharc_ask.specs.StepView.{Known}

-- the pointers that frames and temporaries hold
abbrev pub all_held : Known → List ℤ
all_held k = k.below ++ (pointers_among k.variables ++ k.temporaries)
