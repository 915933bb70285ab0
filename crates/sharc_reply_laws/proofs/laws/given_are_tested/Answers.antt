use Rattle.sharc_reply_laws.proofs.{Imports.{◌∙◌}, Given.{given_is, is_test, same_object}}
use Rattle.sharc_reply_laws.proofs.laws.given_are_tested.Goals as goal

pub returns : goal.returns
returns c = λ m p flat flattens fits code is x s ls wt shape few run checked t site count wants_it finds.
    given_is m (c.functions_are_one_by_name.ensures m.typed p.typed.resolved p.typed.placed p.typed.low) code s run t site count wants_it (c.testers_give.ensures m p flat flattens fits code is) checked
    (c.paths_law.ensures x code s ls wt shape few run checked) (c.threads_have_begun.ensures m p.typed flat flattens fits code is x s ls wt shape few run checked t)
    finds.register (is_test c.refused_stay.ensures.tests x code s ls run checked t site count finds)
    ∙ same_object c.refused_stay.ensures.tests x code s ls run checked t site count finds
