use Rattle.sharc_parse.proofs.{Imports.{rules, Ok, None, OpensStruct}, ItemSteps.item_named}
use Rattle.sharc_parse.proofs.item.item.Goals as goal

pub returns-clause-reads : goal.returns-clause-reads
returns-clause-reads c =
    let none : OpensStruct (Ok None) c.in_ok-written.written c.args.tokens.now c.written_type.new.at c.opens_struct.new.at = search rules in
    item_named c.args.tokens.now c.args.at.now c.written_type.new.at c.opens_struct.new.at c.rest_of_named.new.at c.in_ok-written.written c.rest_of_named.result c.in_ok-written.ensures.reads c.in_ok-written.ensures.ends none c.rest_of_named.ensures.reads
