use Rattle.sharc_typed_laws.proofs.Pieces.{pieces}
use Rattle.sharc_typed_laws.proofs.typed.pieces_law.Goals as goal

pub returns : goal.returns
returns c = λ x code ls lines dropped type n l k o pl told on site typed. pieces x code ls lines dropped type n l k o pl {told = told} on site typed
