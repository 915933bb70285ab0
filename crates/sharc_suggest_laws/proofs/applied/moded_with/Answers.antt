use Rattle.sharc_suggest_laws.proofs.Imports.{◌≡◌, ℕ, List, Option, None, length, map, replicate, ap, ◌∙◌, subst, IfOk, Mode, entity_at, Resolution, Reason, Assignment, targets, inserted, moved, first_of, first_new, resolution_with, assignment_with}
use Rattle.sharc_suggest_laws.proofs.applied.moded_with.Goals as goal

pub returns : goal.returns
returns c =
    let cast = c.args.cast.now in
    let old = c.args.program.now in
    let new : List Mode = targets cast.to.levels in
    let first : c.first_of-first.result ≡ first_new cast old.typed = c.first_of-first.ensures ∙ ap (λ (r : Resolution). first_of (entity_at r cast.from cast.until)) c.requires in
    let modes : c.in_ok-modes.modes.items ≡ (assignment_with cast old).modes = c.in_ok-modes.ensures.modes ∙ ap (λ (n : ℕ). inserted n new old.modes) first in
    let reasons : c.in_ok-modes.reasons.items ≡ (assignment_with cast old).reasons =
    c.in_ok-modes.ensures.reasons ∙ ap (λ (n : ℕ). map (moved n (length new)) (inserted n (replicate (length new) None) old.reasons)) first in
    let whole : record { typed = c.args.typed; modes = c.in_ok-modes.modes.items; reasons = c.in_ok-modes.reasons.items } ≡ assignment_with cast old =
    ap (λ (t : Resolution). record { typed = t; modes = c.in_ok-modes.modes.items; reasons = c.in_ok-modes.reasons.items }) c.requires
    ∙ ap (λ (l : List Mode). record { typed = resolution_with cast old.typed; modes = l; reasons = c.in_ok-modes.reasons.items }) modes
    ∙ ap (λ (l : List (Option Reason)). record { typed = resolution_with cast old.typed; modes = (assignment_with cast old).modes; reasons = l }) reasons in
    subst (λ (a : Assignment). IfOk c.assigned.result (λ (m : Assignment). m ≡ a)) whole c.assigned.ensures
