use Rattle.sharc_top.proofs.{Imports.{arith, IfOk-weaker, view_of}, Recording.{replies_long_source_in, replies_replayed}}
use Rattle.sharc_top.proofs.replayed.file_replayed.Goals as goal

pub returns-then-len-gt-SOURCE_LIMIT : goal.returns-then-len-gt-SOURCE_LIMIT
returns-then-len-gt-SOURCE_LIMIT c =
    let more = c.if-len-gt-SOURCE_LIMIT.true in
    let size = c.len.ensures in
    IfOk-weaker c.line_reply.result _ _ (λ reply is. replies_long_source_in _ (view_of c.args.file.now) _ _ c.requires.short c.requires.file (omega (arith, more, size)) is.0 is.1) c.line_reply.ensures

pub source_replayed-requires-clause-file : goal.source_replayed-requires-clause-file
source_replayed-requires-clause-file c =
    let few = c.file_laws.ensures.few c.args.bytes.now (view_of c.args.file.now) c.requires.file in
    let short = c.requires.short in
    record { numbers = c.requires.file.numbers; few = omega (arith, few, short) }

pub returns : goal.returns
returns c =
    let less = c.if-len-gt-SOURCE_LIMIT.false in
    let size = c.len.ensures in
    IfOk-weaker c.source_replayed.result _ _ (λ reply is. replies_replayed _ (view_of c.args.file.now) _ _ c.requires.short c.requires.file (omega (arith, less, size)) is) c.source_replayed.ensures
