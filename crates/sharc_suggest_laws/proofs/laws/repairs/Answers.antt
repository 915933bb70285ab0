use Rattle.sharc_suggest_laws.proofs.laws.repairs.Goals as goal

pub returns : goal.returns
returns c = λ m e k resolved placed low whole written says. c.repairs_where_typed.ensures m e k resolved placed low whole says (c.stays_typed.ensures m e k resolved placed low whole written says)
