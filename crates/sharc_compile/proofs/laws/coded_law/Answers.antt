use Rattle.sharc_compile.proofs.{Imports.{inl, inr, ⊎_elim, sym, subst, length, IsGuarded, begun, machine_after, paced_in, said_in, lowered_in, IsBeginning, HasCome, program_of}, Joined.joined}
use Rattle.sharc_compile.proofs.laws.coded_law.Goals as goal

pub returns : goal.returns
returns c = λ flat dropped g code ok framed same made s thread elements founds path cons.
    let good : IsGuarded (program_of g) = subst IsGuarded (sym same) (c.framed_law.ensures flat dropped framed) in
    let first = begun code s thread in
    let m = machine_after code s first founds in
    let said = said_in code s first elements founds in
    let lowered = lowered_in code s first elements founds in
    let paced = paced_in code s first founds in
    ⊎_elim
    (λ (h : IsBeginning m said paced). inl h)
    (λ (h : HasCome code s (program_of g) (elements (length founds)) thread m said lowered paced). inr (joined c.guarded_law.ensures flat dropped g code ok same made s (elements (length founds)) thread m said lowered paced h))
    (c.paths_law.ensures g code made good s thread elements founds path cons)
