use Rattle.sharc_suggest_laws.proofs.Imports.{◌≡◌, ap, sym, subst, IsTyped, Resolution, IsResolved, Assignment, resolution_with, program_with, IsGone}
use Rattle.sharc_suggest_laws.proofs.answered.is_repaired.Goals as goal

-- src/answered.rt:15:1
pub returns : goal.returns
returns c = λ placed low suggested answered.
    let m = c.args.program.now in
    let e = c.args.error.now in
    let resolved : IsResolved m.typed = subst IsResolved c.typed.ensures c.program.ensures.resolved in
    let again : IsResolved c.args.repaired.now.typed = subst IsResolved c.typed-2.ensures c.program-2.ensures.resolved in
    let same : c.args.repaired.now.typed ≡ resolution_with c.args.cast.now m.typed = ap (λ (a : Assignment). a.typed) answered in
    let typed : IsTyped (program_with c.args.cast.now m.typed) = subst (λ (r : Resolution). IsTyped r.program) same again.typed in
    subst (λ (a : Assignment). IsGone a e.site.token) (sym answered)
    (c.repairs_where_typed.ensures m e c.args.cast.now resolved placed low c.position_count.ensures.whole suggested typed)
