use Rattle.sharc_parse.proofs.{Imports.{rules, ◌≡◌, ◌<◌, length, sym, subst, Err, mark, Past, from, may_stand, ReadsType, Star}, TypeSteps.{levels_more, level_wrong}}
use Rattle.sharc_parse.proofs.types.written_type.Goals as goal

pub returns-in_err-above-clause-reads : goal.returns-in_err-above-clause-reads
returns-in_err-above-clause-reads c =
    let star : Past (mark Star) c.args.tokens.now c.loop-levels.at c.enter.new.at = search rules in
    let few : length c.loop-levels.levels.items < 9 = search rules in
    let is : c.from_residual-in_err-above.result ≡ Err c.in_err-above.field-0.0 = search rules in
    subst (λ r. ReadsType (may_stand c.args.modes) r (from c.args.tokens.now c.args.at.now) (from c.args.tokens.now c.level.new.at)) (sym is)
    (level_wrong (may_stand c.args.modes) c.args.tokens.now c.args.at.now c.loop-levels.at c.enter.new.at c.level.new.at c.in_ok-mode_first.field-0.mode_first _ c.in_ok-mode_first.field-0.place c.loop-levels.levels.items c.in_err-above.field-0.0 c.loop-levels.invariant.so_far star few c.in_err-above.ensures.reads)

pub loop-levels-preserved : goal.loop-levels-preserved
loop-levels-preserved c =
    let star : Past (mark Star) c.args.tokens.now c.loop-levels.at c.enter.new.at = search rules in
    let few : length c.loop-levels.levels.items < 9 = search rules in
    record {
      so_far =
          levels_more (may_stand c.args.modes) c.args.tokens.now c.args.at.now c.loop-levels.at c.enter.new.at c.level.new.at c.in_ok-mode_first.field-0.mode_first _ c.in_ok-mode_first.field-0.place c.loop-levels.levels.items _ c.in_ok-above.above
          c.in_ok-insert.ensures.items c.loop-levels.invariant.so_far star few c.in_ok-above.ensures.reads c.in_ok-above.ensures.placed;
      onward = search rules;
      within = search rules;
    }
