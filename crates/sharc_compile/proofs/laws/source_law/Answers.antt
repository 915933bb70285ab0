use Rattle.sharc_compile.proofs.{Imports.{inl, inr, ⊎_elim, begun, machine_after, paced_in, flat_of, said_in, lowered_in, IsBeginning, FollowsFlat}, Sourced.follows}
use Rattle.sharc_compile.proofs.laws.source_law.Goals as goal

pub returns : goal.returns
returns c = λ m flat code same ok framed is s thread elements founds path consistent.
    let first = begun code s thread in
    let at = machine_after code s first founds in
    let said = said_in code s first elements founds in
    let lowered = lowered_in code s first elements founds in
    let paced = paced_in code s first founds in
    ⊎_elim
    (λ (h : IsBeginning at said paced). inl h)
    (λ (h : FollowsFlat code is.g (flat_of flat) thread at said lowered paced). inr (follows c.path_laws.ensures m (flat_of flat) same code is.g thread at said lowered paced h))
    (c.made_law.ensures flat code ok framed is s thread elements founds path consistent)
