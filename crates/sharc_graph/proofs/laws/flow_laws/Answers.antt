use Rattle.sharc_graph.proofs.{Imports.{◌≡◌, true}, Closed.{enough, among, agree, told}}
use Rattle.sharc_graph.proofs.laws.flow_laws.Goals as goal

pub returns : goal.returns
returns c = record {
  enough = λ f. enough f;
  least = λ f dynamic closed p has. among f (λ position. dynamic position ≡ true) closed p has;
  agree = λ f a b there back left right. (agree f a b there left right, agree f b a back right left);
  told = λ f findings are p unwritten. told f findings are p unwritten;
}
