use Rattle.sharc_code.proofs.Ranging.{one_global, counts_fit}
use Rattle.sharc_code.proofs.laws.range_laws.Goals as goal

pub returns : goal.returns
returns c = record {
  globals = λ globals granules g h place fit at_g at_h. one_global globals granules g h place fit at_g at_h;
  counts = λ code s fit fits. counts_fit code s fit fits;
}
