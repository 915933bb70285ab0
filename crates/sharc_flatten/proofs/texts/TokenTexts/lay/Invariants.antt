use Rattle.sharc_flatten.proofs.Imports.{ℕ, List, ◌++◌, take, tokens_text, AreTold, Grows}
use Rattle.sharc_flatten.proofs.texts.TokenTexts.lay.Given as goal

abbrev pub invariant-loop-line : goal.invariant-loop-line
invariant-loop-line l = record {
  grows : Grows (tokens_text l.self.t.now.program.tokens.list) l.bytes.items;
  told : (more : List ℕ) → AreTold l.self.t.now (l.bytes.items ++ more) (take l.line l.lines) l.told.items;
}
