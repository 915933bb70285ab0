use Rattle.sharc_mode.proofs.{Imports.entities_in, LeastLemmas.{settled_size, itself_enough, below_dynamic, equated_agree, least_of_all}, PairLemmas.{below_from, below_to, equal_from, equal_to}, WithinLemmas.links_within}
use Rattle.sharc_mode.proofs.laws.link_laws.Goals as goal

pub returns : goal.returns
returns c =
    let laws = c.flow_laws.ensures in
    record {
      are = λ r x y. ((λ h. below_from r x y h, λ h. below_to r x y h), (λ h. equal_from r x y h, λ h. equal_to r x y h));
      within = λ r. links_within r;
      counted = λ r. settled_size (entities_in r.program.items);
      agree = λ m least x y are left right. equated_agree laws m least x y are left right;
      below = λ m least x y is shared none. below_dynamic laws m least x y is shared none;
      enough = λ m least. itself_enough laws m least;
      least = λ m least dynamic enough p none is. least_of_all laws m least dynamic enough p none is;
    }
