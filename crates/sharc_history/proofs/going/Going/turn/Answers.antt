use Rattle.std.proofs.Common.{ℕ, List, ◌∷◌, [], length, length-append, map, ap, sym, subst, ◌∙◌, arith}
use Rattle.std.specs.Prelude.{reverse}
use Rattle.sharc_code.specs.{Runs.{result_of, told_by}, Says.elements_in, Whole.{one_thread, Erase, place_after}}
use Rattle.sharc_history.specs.{Told.{spoken, told, told_of_event}, declared.event.Event.Event, Origins.origin_at, References.{deed_refers, next_refers, refers_at}, History.{told_events, origins_of, references_of}}
use Rattle.sharc_seq.specs.{declared.walk.Walk.Walk, Walk.StandsAt}
use Rattle.sharc_history.proofs.Telling.{what_comes, told_grown, events_more, elements_more, shown_more}
use Rattle.sharc_history.proofs.going.Going.turn.Goals as goal

pub returns-clause-went : goal.returns-clause-went
returns-clause-went c = λ turns goes.
    let code = c.args.code.now in
    let s = c.args.shape.now in
    let went = c.in_ok-turn.ensures.went turns goes.stands in
    let tells = c.in_ok-tell.ensures in
    let said = told_by (one_thread code s) (Erase code s turns) (place_after code s turns) went.one in
    let awaits = c.coming-coming.ensures turns goes in
    let same = tells.is code ∙ what_comes code s turns c.args.number c.coming-coming.result c.found-found.result _ went.one awaits went.own (c.found-found.ensures ∙ went.found_is) (goes.elements (spoken c.coming-coming.result.next c.found-found.result)) in
    let grown = told_grown went.one.thread said (Erase code s turns) in
    record {
      one = went.one;
      own = went.own;
      goes = record {
        stands = subst (λ (walk : Walk). StandsAt code s (went.one ∷ turns) walk) (sym tells.walk) went.stands;
        count = ap (λ v. length v.items) tells.schedule
            ∙ (let e = ap (λ (xs : List ℕ). length xs) c.in_ok-push.ensures.items in let f = goes.count in omega (arith, e, f, length-append c.args.self.now.schedule.items (c.args.number ∷ [])));
        events = ap (map (told code)) tells.events ∙ events_more code (told_events code s turns) c.args.self.now.events.items tells.event said same goes.events ∙ ap (λ l. map told_of_event (reverse l)) (sym grown);
        origins = ap (map (λ (e : Event). e.origin)) tells.events ∙ shown_more code (λ (e : Event). e.origin) (origins_of code s turns) c.args.self.now.events.items tells.event said c.coming-coming.result.origin (origin_at code ((place_after code s turns).threads went.one.thread)) same tells.origin (awaits.origin ∙ ap (λ t. origin_at code ((place_after code s turns).threads t)) (sym went.own)) goes.origins;
        references = ap (map (λ (e : Event). deed_refers e.deed)) tells.events ∙ shown_more code (λ (e : Event). deed_refers e.deed) (references_of code s turns) c.args.self.now.events.items tells.event said (next_refers c.coming-coming.result.next c.found-found.result) (refers_at code ((place_after code s turns).threads went.one.thread) (result_of went.one.event)) same tells.refers (awaits.refers c.found-found.result ∙ ap (λ k. refers_at code ((place_after code s turns).threads c.args.number) k) (c.found-found.ensures ∙ went.found_is) ∙ ap (λ t. refers_at code ((place_after code s turns).threads t) (result_of went.one.event)) (sym went.own)) goes.references;
        elements = λ number. tells.elements number ∙ elements_more code (told_events code s turns) tells.event said number _ same (goes.elements number) ∙ ap (λ l. elements_in l number) (sym grown);
      };
    }
