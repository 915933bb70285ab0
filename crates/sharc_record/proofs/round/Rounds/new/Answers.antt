use Rattle.sharc_record.proofs.Imports.{◌≡◌, ℕ, List, [], length, refl, sym, ap, ◌∙◌, subst, arith, length-map-range_with_len, words_of, opens_with, opening_words, begun, is_started, bounds, place_after, AreSeats}
use Rattle.sharc_record.proofs.round.Rounds.new.Goals as goal

pub returns : goal.returns
returns c =
    let code = c.args.code.now in
    let s = c.args.shape.now in
    let words : c.new-port.result ≡ opening_words code s = c.new-port.ensures ∙ c.in_ok-opening.ensures in
    record {
      turns = [];
      count = ap (λ (ws : List ℕ). length ws) words ∙ length-map-range_with_len (opens_with code s) 0 (words_of s);
      run = tt;
      few = λ t. let e : (place_after code s []).made t ≡ 0 = refl in omega (arith, e);
      words = words;
      journal = sym c.new.ensures.items;
      seats = subst (λ (ws : List ℕ). AreSeats code s (begun code s) (λ t. 0) (is_started bounds ws) c.in_ok-threads.threads.seats.items) (c.words-words.ensures ∙ words) c.in_ok-threads.ensures;
    }
