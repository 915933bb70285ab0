use Rattle.sharc_compile.proofs.{Imports.{refl, ◌∙◌, ap, generated}, Numbers.numbers_fit}
use Rattle.sharc_compile.proofs.generating.generate.Goals as goal

pub returns-clause-numbers : goal.returns-clause-numbers
returns-clause-numbers c = λ good tables. numbers_fit c.args.guarded _ (record {
  instrs = c.in_ok-instrs.ensures ∙ ap (λ fs. generated fs c.deref.result.now) c.deref-2.ensures.value ∙ ap (generated c.args.guarded.functions.items) c.deref.ensures.value;
  functions = refl;
  main = refl;
  globals = refl;
  granules = refl;
  initial = refl;
  layouts = refl;
  pointers = refl;
  sites = refl;
  texts = refl;
  files = refl;
}) good tables c.args.guarded.few_granules
