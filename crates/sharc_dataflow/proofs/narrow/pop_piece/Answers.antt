use Rattle.sharc_dataflow.proofs.{Imports.{[], ◌∷◌, sym, ap, ◌∙◌, map-append, last_or, front, nothing_kept, view_piece, view_pieces}, Summed.{last_pushed, front_pushed}}
use Rattle.sharc_dataflow.proofs.narrow.pop_piece.Goals as goal

pub returns-in-Some-clause-last : goal.returns-in-Some-clause-last
returns-in-Some-clause-last c = sym (ap (λ l. last_or nothing_kept (view_pieces l)) c.in-Some.ensures.items ∙ ap (last_or nothing_kept) (map-append view_piece c.pop.new.self.items (c.in-Some.last ∷ [])) ∙ last_pushed nothing_kept (view_piece c.in-Some.last) (view_pieces c.pop.new.self.items))

pub returns-in-Some-clause-front : goal.returns-in-Some-clause-front
returns-in-Some-clause-front c = sym (ap (λ l. front (view_pieces l)) c.in-Some.ensures.items ∙ ap front (map-append view_piece c.pop.new.self.items (c.in-Some.last ∷ [])) ∙ front_pushed (view_piece c.in-Some.last) (view_pieces c.pop.new.self.items))
