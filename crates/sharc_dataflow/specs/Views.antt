-- What the code's values stand for.
use Rattle.std.specs.Prelude.{List, map}
use Rattle.sharc_dataflow.specs.{declared.back.Sums.Sums, declared.forth.Tells.Tells}
use Rattle.sharc_dataflow.specs.{declared.narrow.CodePiece.CodePiece}
use Rattle.sharc_dataflow.specs.{declared.narrow.Narrowing.Narrowing, Passes.{Summing, summing, Telling, telling}}
use Rattle.sharc_dataflow.specs.Narrow.{Kept, kept, AllKept, all_kept}

abbrev pub view_sums : Sums → Summing
view_sums s = summing s.now s.waiting.items s.heads.items

abbrev pub view_tells : Tells → Telling
view_tells t = telling t.stand t.waiting.items t.heads.items t.found.items

abbrev pub view_piece : CodePiece → Kept
view_piece p = kept p.kept.items p.behind

abbrev pub view_pieces : List CodePiece → List Kept
view_pieces list = map view_piece list

abbrev pub view_narrowing : Narrowing → AllKept
view_narrowing n = all_kept (view_piece n.now) (view_pieces n.waiting.items)
