use Rattle.sharc_flatten.proofs.{Imports.tokens_text, LineLemmas.line_more, PlaceLemmas.grows_more}
use Rattle.sharc_flatten.proofs.texts.TokenTexts.lay.Goals as goal

pub loop-line-preserved : goal.loop-line-preserved
loop-line-preserved c =
    let lines = c.args.lines.now in
    let line = c.loop-line.line in
    let inv = c.loop-line.invariant in
    record {
      grows = grows_more (tokens_text c.args.self.now.t.now.program.tokens.list) c.loop-line.bytes.items c.told.new.bytes.items inv.grows c.in_ok-texts.ensures.grows;
      told = line_more c.args.self.now.t.now c.loop-line.bytes.items c.told.new.bytes.items lines c.loop-line.told.items c.push.new.self.items line _ c.in_ok-texts.texts c.loop-line-test.true c.in_ok-push.ensures.items c.in_ok-texts.ensures.grows inv.told c.in_ok-texts.ensures.told;
    }
