-- What the arguments of a call are wanted to be.
use Rattle.std.specs.Prelude.{List, [], ◌∷◌, Option, Some, None}
use Rattle.sharc_names.specs.Kinds.{Kind}

abbrev pub first_wanted : List Kind → Option Kind
first_wanted [] = None
first_wanted (k ∷ rest) = Some k
