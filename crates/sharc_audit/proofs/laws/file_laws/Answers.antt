use Rattle.sharc_audit.proofs.{Imports.{refl, ◌++◌, ◌∷◌}, Filing.line_cut, OneFile.{one_file, no_fault, one_fault}}
use Rattle.sharc_audit.proofs.laws.file_laws.Goals as goal

pub returns : goal.returns
returns c = record {
  file = λ texts source other fuel more events others f g. one_file texts source other fuel more events others f g;
  faultless = λ texts source fuel events n f b. no_fault texts source fuel events n f b;
  fault = λ texts n m a b. one_fault texts n m a b;
  lines = λ line behind free. (line_cut (line ++ 10 ∷ behind) line behind (record { is = refl; free = free })).lines;
}
