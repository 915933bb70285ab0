use Rattle.sharc_cli.proofs.{Imports.arith, Makes.{all_options, long_global, long_rule, one_option}}
use Rattle.sharc_cli.proofs.reader.subcommand.Goals as goal

pub loop-option-preserved : goal.loop-option-preserved
loop-option-preserved c =
    one_option c.loop-option.command c.in_ok-command-2.command _ _ c.args.options.now c.loop-option.option-index _ c.long.result c.in_ok-command-2.ensures
    (long_global c.new.result c.long.result _ c.long.ensures c.new.ensures.optional.1) (long_rule c.new.result c.long.result _ c.long.ensures c.new.ensures.rule)
    (omega arith) c.loop-option.invariant

pub returns : goal.returns
returns c =
    all_options c.loop-option.command _ _ c.args.options.now c.loop-option.option-index (omega arith) c.loop-option.invariant
