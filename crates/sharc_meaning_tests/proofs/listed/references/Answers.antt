use Rattle.sharc_meaning_tests.proofs.{Imports.{◌≡◌, ◌++◌, ap, sym, ◌∙◌, subst, IsResolved, FindsEntries, AreReferences, holders}, Answering.answers}
use Rattle.sharc_meaning_tests.proofs.listed.references.Goals as goal

pub returns : goal.returns
returns c run =
    let fuel = c.args.fuel in
    let m = c.args.program.now in
    let R = c.args.events.now in
    let n = c.args.number in
    let all : c.add_all.new.list.items ≡ holders fuel m R n = c.in_ok-add_all.ensures ∙ ap (λ l. l ++ holders fuel m R n) c.new-list.ensures.items in
    let resolved : IsResolved m.typed = subst IsResolved c.typed-2.ensures c.program.ensures.resolved in
    subst (AreReferences fuel m R n) (sym all) (answers fuel m R n c.same_laws.ensures c.meets_globals.ensures (subst FindsEntries c.typed.ensures c.in_ok-main.ensures.entries) resolved run)
