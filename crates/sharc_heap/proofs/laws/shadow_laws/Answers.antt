use Rattle.sharc_heap.proofs.{Sets.{word_is_its_sets, blank}, Computed.{bits_are_of_access, or_adds_access, or_leaves_others, or_sets_own_bit, withdrawn_withdraws, withdrawn_leaves_others, cleared_clears}, Lowest.{decides, first_in_is_first, no_first_without_conflict}}
use Rattle.sharc_heap.proofs.laws.shadow_laws.Goals as goal

pub returns : goal.returns
returns c = record {
  sets = word_is_its_sets;
  empty = blank;
  bits = bits_are_of_access;
  or_adds = or_adds_access;
  or_leaves = or_leaves_others;
  or_sets = or_sets_own_bit;
  withdraws = withdrawn_withdraws;
  withdrawn_leaves = withdrawn_leaves_others;
  clears = cleared_clears;
  conflicts = λ old thread kind wrote. ((decides old thread kind wrote).0, (decides old thread kind wrote).1);
  first = first_in_is_first;
  no_first = no_first_without_conflict;
}
