use Rattle.sharc_lex.proofs.{Imports.{ap, ◌∙◌, with_file, place_of}, FileLemmas.{texts, texts-insert_key, position-texts}}
use Rattle.sharc_lex.proofs.files.Files.place.Goals as goal

pub returns-clause-files : goal.returns-clause-files
returns-clause-files c = ap texts c.in_ok-place.ensures.keys ∙ texts-insert_key c.args.name c.self.inside.names.keys ∙ ap (λ files. with_file files c.args.name.now) c.self.view_is

pub returns-clause-place : goal.returns-clause-place
returns-clause-place c = c.in_ok-place.ensures.index ∙ position-texts c.args.name c.self.inside.names.keys ∙ ap (λ files. place_of files c.args.name.now) c.self.view_is
