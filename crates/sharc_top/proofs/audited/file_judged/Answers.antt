use Rattle.sharc_top.proofs.{Imports.{arith, IfOk-weaker}, Judging.{replies_long_source, replies_judged}}
use Rattle.sharc_top.proofs.audited.file_judged.Goals as goal

pub returns-then-len-gt-SOURCE_LIMIT : goal.returns-then-len-gt-SOURCE_LIMIT
returns-then-len-gt-SOURCE_LIMIT c =
    let more = c.if-len-gt-SOURCE_LIMIT.true in
    let size = c.len.ensures in
    IfOk-weaker c.line_reply.result _ _ (λ reply is. replies_long_source _ _ _ _ _ _ c.requires (omega (arith, more, size)) is.0 is.1) c.line_reply.ensures

pub source_judged-requires-clause-few : goal.source_judged-requires-clause-few
source_judged-requires-clause-few c = c.requires.few

pub returns : goal.returns
returns c =
    let less = c.if-len-gt-SOURCE_LIMIT.false in
    let size = c.len.ensures in
    IfOk-weaker c.source_judged.result _ _ (λ reply is. replies_judged _ _ _ _ _ _ c.requires (omega (arith, less, size)) is) c.source_judged.ensures
