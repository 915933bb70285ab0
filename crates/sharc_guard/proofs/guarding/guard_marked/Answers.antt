use Rattle.sharc_guard.proofs.{Imports.{◌≡◌, ◌+◌, length, ◌∷◌, map, ap, ◌∙◌, refl, place, expanded, entered_at, sites_of, among, marked, places, Instr}, Making.among_is}
use Rattle.sharc_guard.proofs.guarding.guard_marked.Goals as goal

pub returns : goal.returns
returns c =
    let d = marked c.args.dropped.now in
    let lines = c.args.flat.lines.items in
    let functions = c.args.flat.functions.items in
    let there : among c.in_ok-starts.starts.items ≡ place d lines = ap among (c.in_ok-starts.ensures ∙ ap (λ ls. places d ls (length ls + 1)) c.deref.ensures.value) ∙ among_is d lines in
    record {
      statements = c.in_ok-statements.ensures ∙ ap (λ ls. Instr.Start 0 ∷ Instr.Exit ∷ expanded (among c.deref-3.result.now) d 0 ls) c.deref-2.ensures.value ∙ ap (λ pl. Instr.Start 0 ∷ Instr.Exit ∷ expanded pl d 0 lines) (ap among c.deref-3.ensures.value ∙ there);
      functions = c.in_ok-functions.ensures ∙ ap (λ fs. map (entered_at (among c.deref-5.result.now)) fs) c.deref-4.ensures.value ∙ ap (λ pl. map (entered_at pl) functions) (ap among c.deref-5.ensures.value ∙ there);
      sites = c.in_ok-sites.ensures ∙ ap (λ ls. sites_of ls c.deref-7.result.now) c.deref-6.ensures.value ∙ ap (sites_of lines) c.deref-7.ensures.value;
      globals = refl;
      main = refl;
      granules = refl;
      initial = refl;
      layouts = refl;
      pointers = refl;
      texts = refl;
      files = refl;
    }
