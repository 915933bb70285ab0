use Rattle.sharc_threads.proofs.{Beginning.{table_begins, as_many_left, same_started}, Listing.are_started, Sitting.{numbers, enabled_is, there}}
use Rattle.sharc_threads.proofs.laws.table_laws.Goals as goal

pub returns : goal.returns
returns c = record {
  numbers = λ code s threads made started seats are t. numbers code s threads made started seats are t;
  enabled = λ code s limit g words seats of t. enabled_is code s g words seats of limit t;
  present = λ code s g words seats fits of. are_started code s g words seats fits of;
  begin = λ code s threads made started words old new are count has.
      (table_begins code s threads made started words old new are count has, λ limit. as_many_left code s words limit old new are.count count has);
  there = λ code s threads made started seats are t. there code s threads made started seats are t;
  same = λ code s threads made started other seats agree are. same_started code s threads made started other seats agree are;
}
