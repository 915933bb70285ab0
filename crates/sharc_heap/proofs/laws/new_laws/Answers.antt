use Rattle.sharc_heap.proofs.{OneTurn.{asks_one_turn, heap_is_full_without_room, top_moves_by_one_block, own_list_ends, top_ends, made_is_its_block}, Aims.{steps_are_of_words, blocks_have_their_words, granules_stay, steps_are_own, steps_keep_top}, Least.{block_of_is_block, one_block}, Turns.{new_begins, new_goes_on, new_stays}, Handing.{top_hands_out_apart, cas_hands_out, handed_apart}}
use Rattle.sharc_heap.proofs.laws.new_laws.Goals as goal

pub returns : goal.returns
returns c = record {
  one_turn = asks_one_turn;
  full = heap_is_full_without_room;
  top = top_moves_by_one_block;
  words = steps_are_of_words;
  own_ends = own_list_ends;
  top_ends = top_ends;
  begins = new_begins;
  goes_on = new_goes_on;
  stays = new_stays;
  block = block_of_is_block;
  one_block = one_block;
  made = made_is_its_block;
  block_words = blocks_have_their_words;
  granules = granules_stay;
  own_steps = steps_are_own;
  keep_top = steps_keep_top;
  in_order = top_hands_out_apart;
  cas = cas_hands_out;
  apart = handed_apart;
}
