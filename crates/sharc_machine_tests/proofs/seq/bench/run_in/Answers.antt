use Rattle.std.proofs.{Common.{ℕ, List, length, ap, ◌∙◌, rules}, lemmas.List.FromFn.length-map-range_with_len}
use Rattle.sharc_code.specs.{Layout.words_of, Opening.opens_with}
use Rattle.sharc_machine_tests.proofs.seq.bench.run_in.Goals as goal

pub loop-turn-init : goal.loop-turn-init
loop-turn-init c = record {
  first = search rules;
  second = search rules;
  words = ap (λ (words : List ℕ). length words) (c.new-port.ensures ∙ c.in_ok-opening.ensures) ∙ length-map-range_with_len (opens_with c.args.code.now c.args.shape.now) 0 (words_of c.args.shape.now);
}
