use Rattle.std.proofs.{Common.{◌≡◌, ℕ, List, [], length, refl, ap, ◌∙◌, subst, arith}, lemmas.List.FromFn.length-map-range_with_len}
use Rattle.sharc_code.specs.{Layout.words_of, Opening.{opens_with, opening_words}, Path.begun, Runs.is_started, Whole.{bounds, place_after}}
use Rattle.sharc_threads.specs.Seats.{AreSeats}
use Rattle.sharc_rounds.specs.declared.words.Words.{Words}
use Rattle.sharc_rounds.proofs.round.Rounds.new.Goals as goal

pub returns : goal.returns
returns c =
    let code = c.args.code.now in
    let s = c.args.shape.now in
    let opened : Words = c.in_ok-words.words in
    let words : opened.rest.words ≡ opening_words code s = c.in_ok-words.ensures.rest ∙ c.in_ok-opening.ensures in
    let seen : opened.seen.items ≡ opening_words code s = c.in_ok-words.ensures.seen ∙ c.in_ok-opening.ensures in
    record {
      turns = [];
      kept = c.in_ok-words.ensures.words;
      count = ap (λ (ws : List ℕ). length ws) words ∙ length-map-range_with_len (opens_with code s) 0 (words_of s);
      run = tt;
      few = λ t. let e : (place_after code s []).made t ≡ 0 = refl in omega (arith, e);
      words = words;
      seats = subst (λ (ws : List ℕ). AreSeats code s (begun code s) (λ t. 0) (is_started bounds ws) c.in_ok-threads.threads.seats.items) (c.as_slice.ensures.value ∙ seen) c.in_ok-threads.ensures;
    }
