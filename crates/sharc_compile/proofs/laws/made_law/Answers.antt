use Rattle.sharc_compile.proofs.{Imports.{flat_of, dropped}, Same.same}
use Rattle.sharc_compile.proofs.laws.made_law.Goals as goal

pub returns : goal.returns
returns c = λ flat code ok framed is s thread elements founds path cons.
    c.coded_law.ensures (flat_of flat) (dropped (flat_of flat)) is.g code ok framed (same (dropped (flat_of flat)) flat is.g is.made) is.generated s thread elements founds path cons
