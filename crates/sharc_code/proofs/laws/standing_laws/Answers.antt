use Rattle.sharc_code.proofs.{Imports.place_after, Idling.idles, Standing.{sound, started_stays, started_before, started_then}}
use Rattle.sharc_code.proofs.laws.standing_laws.Goals as goal

pub returns : goal.returns
returns c = record {
  numbers = λ code s turns t. (sound code s turns).numbers t;
  stages = λ code s turns t. (sound code s turns).shapes t;
  started = λ code s turns t e. (sound code s turns).started t e;
  stays = λ code s turns turn t may ne e. started_stays code s (place_after code s turns) turn t (sound code s turns) may ne e;
  spawns = λ code s turns turn t may no e. started_before code s (place_after code s turns) turn t (sound code s turns) may no e;
  told = λ code s earlier later run own t. started_then code s (place_after code s earlier) (sound code s earlier) later run own t;
  idle = λ code s from turns run none. idles code s from turns run none;
}
