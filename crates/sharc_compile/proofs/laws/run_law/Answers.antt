use Rattle.sharc_compile.proofs.Imports.{◌≡◌, ◌⊎◌, ◌∙◌, List, length, ap, reverse, subst, sym, reverse-reverse, SourceEvent, Machine, paced_in, begun, machine_after, turns_of, said_by, Erase, said_in, IsBeginning, program_of, lowered_in, elements_before, founds_of, told_in, FollowsSource}
use Rattle.sharc_compile.proofs.laws.run_law.Goals as goal

pub returns : goal.returns
returns c = λ m suits flat made fits code is s thread run checked consistent.
    let p = c.run_paths_law.ensures code s thread run checked in
    let founds = founds_of (turns_of thread run) in
    let elements = elements_before code s thread run in
    let first = begun code s thread in
    let lowered = lowered_in code s first elements founds in
    let paced = paced_in code s first founds in
    let told : said_in code s first elements founds ≡ reverse (told_in (said_by thread (Erase code s run))) = sym (ap reverse p.said ∙ reverse-reverse (said_in code s first elements founds)) in
    subst (λ (at : Machine). IsBeginning at (reverse (told_in (said_by thread (Erase code s run)))) paced
    ⊎ FollowsSource m code (program_of is.g) (length flat.functions.items) thread at (reverse (told_in (said_by thread (Erase code s run)))) lowered paced) (sym p.machine)
    (subst (λ (said : List SourceEvent). IsBeginning (machine_after code s first founds) said paced ⊎ FollowsSource m code (program_of is.g) (length flat.functions.items) thread (machine_after code s first founds) said lowered paced) told
    (c.program_law.ensures m suits flat made fits code is s thread elements founds p.path consistent))
