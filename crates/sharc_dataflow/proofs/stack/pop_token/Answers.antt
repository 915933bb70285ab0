use Rattle.sharc_dataflow.proofs.{Imports.{None, sym, ap, ◌∙◌, last_or, front}, Summed.{last_pushed, front_pushed}}
use Rattle.sharc_dataflow.proofs.stack.pop_token.Goals as goal

pub returns-in-Some-clause-last : goal.returns-in-Some-clause-last
returns-in-Some-clause-last c = sym (ap (last_or None) c.in-Some.ensures.items ∙ last_pushed None c.in-Some.last c.pop.new.self.items)

pub returns-in-Some-clause-front : goal.returns-in-Some-clause-front
returns-in-Some-clause-front c = sym (ap front c.in-Some.ensures.items ∙ front_pushed c.in-Some.last c.pop.new.self.items)
