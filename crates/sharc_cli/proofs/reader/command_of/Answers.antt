use Rattle.sharc_cli.proofs.{Imports.{found_of, ◌∙◌}, Arms.{load_arm, record_arm, run_arm}}
use Rattle.sharc_cli.proofs.reader.command_of.Goals as goal

pub returns-in-run : goal.returns-in-run
returns-in-run c =
    c.run_of.ensures ∙ run_arm (found_of c.args.matches.now) c.args.name.now c.get_str-workers.result c.get_str-granules.result c.get_str-events.result c.get_str.result
    c.in-run.is c.get_str-workers.ensures c.get_str-granules.ensures c.get_str-events.ensures c.get_str.ensures

pub returns-in-load : goal.returns-in-load
returns-in-load c =
    c.load_of.ensures ∙ load_arm (found_of c.args.matches.now) c.args.name.now c.get_str-in-load.result c.get_str-workers.result
    c.in-load.is c.get_str-in-load.ensures c.get_str-workers.ensures

pub returns-in-record : goal.returns-in-record
returns-in-record c =
    c.record_of.ensures ∙ record_arm (found_of c.args.matches.now) c.args.name.now c.get_str-workers.result c.get_str-granules.result c.get_str-events.result
    c.in-record.is c.get_str-workers.ensures c.get_str-granules.ensures c.get_str-events.ensures
