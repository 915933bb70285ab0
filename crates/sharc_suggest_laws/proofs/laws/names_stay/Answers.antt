use Rattle.sharc_suggest_laws.proofs.laws.names_stay.Goals as goal

pub returns : goal.returns
returns c = λ m e k resolved placed low whole written says. c.names_stay_where_typed.ensures m e k resolved placed low says (c.stays_typed.ensures m e k resolved placed low whole written says)
