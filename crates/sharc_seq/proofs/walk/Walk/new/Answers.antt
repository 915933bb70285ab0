use Rattle.sharc_seq.proofs.Imports.{◌≡◌, ℕ, List, length, ap, ◌∙◌, subst, length-map-range_with_len, words_of, opens_with, opening_words, begun, is_started, bounds, AreSeats}
use Rattle.sharc_seq.proofs.walk.Walk.new.Goals as goal

pub list_started-requires : goal.list_started-requires
list_started-requires c = c.in_ok-threads.ensures.count

pub returns : goal.returns
returns c =
    let code = c.args.code.now in
    let s = c.args.shape.now in
    let words : c.new-port.result ≡ opening_words code s = c.new-port.ensures ∙ c.in_ok-opening.ensures in
    record {
      count = ap (λ (ws : List ℕ). length ws) words ∙ length-map-range_with_len (opens_with code s) 0 (words_of s);
      run = tt;
      words = words;
      seats = subst (λ (ws : List ℕ). AreSeats code s (begun code s) (λ t. 0) (is_started bounds ws) c.in_ok-threads.threads.seats.items) (c.words-words.ensures ∙ words) c.in_ok-threads.ensures;
      numbers = c.in_ok-list_started.ensures;
    }
