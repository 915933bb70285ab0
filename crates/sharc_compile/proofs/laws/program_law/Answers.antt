use Rattle.sharc_compile.proofs.laws.program_law.Goals as goal

pub returns : goal.returns
returns c = λ m suits flat made fits code is.
    let framed = c.made_is_framed.ensures m suits flat made fits in
    c.source_law.ensures m flat code (c.made_asks_the_same.ensures m suits flat made) framed.0 framed.1 is
