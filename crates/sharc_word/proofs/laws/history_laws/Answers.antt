use Rattle.std.proofs.Common.{[], ◌∷◌}
use Rattle.sharc_word.proofs.Histories.{length-words_after, words_after-append, legal_none, legal_earlier, legal_later, legal_append, legal_push, legal_last, same_results, same_words, words_stay, results_are_words}
use Rattle.sharc_word.proofs.laws.history_laws.Goals as goal

pub returns : goal.returns
returns c = record {
  goes_on = λ opening events event. ((λ h. (legal_earlier opening events (event ∷ []) h, legal_last opening events event h)), (λ h. legal_push opening events event h.0 h.1));
  join = λ opening earlier later. ((λ h. (legal_earlier opening earlier later h, legal_later opening earlier later h)), (λ h. legal_append opening earlier later h.0 h.1));
  nothing = legal_none;
  is_determined = λ opening one other h k same. (same_results opening one other h k same, same_words opening one other same);
  count = length-words_after;
  parts = words_after-append;
  words = words_stay;
  results = results_are_words;
}
