use Rattle.sharc_seq.proofs.Imports.{List, refl, sym, ◌∙◌, subst, ThreadView, AreStarted}
use Rattle.sharc_seq.proofs.run.finish.Goals as goal

pub returns : goal.returns
returns c = λ code s g fits of. record {
  schedule_is = refl;
  words = c.into_words.ensures ∙ of.words_are;
  threads = subst (λ (threads : List ThreadView). AreStarted code s g threads) (sym c.in_ok-into_started.ensures) (c.table_laws.ensures.present code s g c.args.table.walk.port.port c.args.table.walk.threads.seats.items fits of);
  end_is = c.end-end.ensures code s g record { words_are = c.words.ensures ∙ of.words_are; are = of.are };
}
