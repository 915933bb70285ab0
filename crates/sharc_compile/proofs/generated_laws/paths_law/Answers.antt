use Rattle.sharc_compile.proofs.{Imports.{◌≡◌, ◌⊎◌, List, length, ap, sym, ◌∙◌, subst, Code, Function, GlobalCells, SourcePlace, begun, machine_after, paced_in, Guarded, Program, IsGuarded, IsGenerated, generated, program_of, program_over, said_in, IsBeginning, HasCome, lowered_in}, Coming.comes}
use Rattle.sharc_compile.proofs.generated_laws.paths_law.Goals as goal

same_program : (g : Guarded) (code : Code) → IsGenerated g code → program_over code g.statements.items ≡ program_of g
same_program g code h =
    let F : List Function → List GlobalCells → List SourcePlace → Program = λ f c q. record { statements = g.statements.items; functions = f; globals = c; sites = q } in
    ap (λ v. F v.items code.globals.items code.sites.items) h.functions ∙ ap (λ v. F g.functions.items v.items code.sites.items) h.globals ∙ ap (λ v. F g.functions.items g.globals.items v.items) h.sites

pub returns : goal.returns
returns c = λ g code h good s thread elements founds path cons.
    let e = same_program g code h in
    let is : code.instrs.items ≡ generated code.functions.items g.statements.items = h.instrs ∙ ap (λ v. generated v.items g.statements.items) (sym h.functions) in
    let first = begun code s thread in
    let m = machine_after code s first founds in
    let said = said_in code s first elements founds in
    let lowered = lowered_in code s first elements founds in
    let paced = paced_in code s first founds in
    subst (λ p. IsBeginning m said paced ⊎ HasCome code s p (elements (length founds)) thread m said lowered paced) e
    (comes code s g.statements.items is (subst IsGuarded (sym e) good) c.thread_laws.ensures c.turns_law.ensures thread elements founds path cons)
