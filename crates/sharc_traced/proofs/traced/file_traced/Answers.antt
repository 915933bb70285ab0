use Rattle.std.proofs.Common.{arith}
use Rattle.sharc_schedule.specs.Shown.{view_of}
use Rattle.sharc_traced.proofs.Replying.{reply_long_source, reply_recorded}
use Rattle.sharc_traced.proofs.traced.file_traced.Goals as goal

pub returns-then-len-gt-SOURCE_LIMIT : goal.returns-then-len-gt-SOURCE_LIMIT
returns-then-len-gt-SOURCE_LIMIT c =
    let more = c.if-len-gt-SOURCE_LIMIT.true in
    let size = c.len.ensures in
    reply_long_source c.args.form c.args.bytes.now (view_of c.args.file.now) c.too_long.result c.requires.file (omega (arith, more, size)) c.too_long.ensures

pub source_traced-requires-clause-file : goal.source_traced-requires-clause-file
source_traced-requires-clause-file c =
    let few = c.file_laws.ensures.few c.args.bytes.now (view_of c.args.file.now) c.requires.file in
    let short = c.requires.short in
    record { numbers = c.requires.file.numbers; few = omega (arith, few, short) }

pub returns : goal.returns
returns c = reply_recorded c.args.form c.args.bytes.now (view_of c.args.file.now) c.source_traced.result c.requires.file c.source_traced.ensures
