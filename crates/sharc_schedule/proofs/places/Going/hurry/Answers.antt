use Rattle.sharc_schedule.proofs.{Imports.{◌≡◌, ℕ, true, ◌≤◌, ◌<◌, List, ◌++◌, length, get_or, replicate, sym, ap, ◌∙◌, subst, arith, append-nil, place_after, is_enabled, counted_together, Going}, Hurrying.hurried, Turning.{enabled_too, room}}
use Rattle.sharc_schedule.proofs.places.Going.hurry.Goals as goal

pub count-requires : goal.count-requires
count-requires c =
    let code = c.args.code.now in
    let s = c.args.shape.now in
    let turns = c.requires.going.0 in
    let h = c.requires.going.1 in
    record {
      some = omega (arith, c.if-made-gt0.true);
      room = λ i d low.
          let few = room c.run_laws.ensures c.thread_laws.ensures code s c.args.limit c.requires.fits.threads c.requires.limit turns h.stands.run h.counts h.few i d (subst (λ (xs : List (ℕ × ℕ)). i < length xs) h.places_are low) in
          let small : (get_or c.args.self.now.places.items i d).1 ≤ 3100000000 = subst (λ (xs : List (ℕ × ℕ)). (get_or xs i d).1 ≤ 3100000000) (sym h.places_are) few in
          omega (arith, small, c.quiet_turns-made.ensures.few, c.requires.limit);
    }

pub returns-in_ok-count-clause-went : goal.returns-in_ok-count-clause-went
returns-in_ok-count-clause-went c = λ turns h.
    let code = c.args.code.now in
    let s = c.args.shape.now in
    let t : ℕ = c.args.t in
    let m = c.requires.may in
    let old : Going = c.args.self.now in
    let new : Going = record { walk = c.quiet_turns-made.new.self; places = c.count.new.places } in
    let on : is_enabled code s c.args.limit (place_after code s turns) t ≡ true = enabled_too c.table_laws.ensures code s c.args.limit m.0 turns old.walk t m.1 h.stands m.2 in
    hurried c.run_laws.ensures c.thread_laws.ensures code s c.args.limit t turns old new c.quiet_turns-made.result c.args.place h (c.quiet_turns-made.ensures.went turns h.stands) on (c.requires.place turns h.stands) c.in_ok-count.ensures

pub returns-else-made-gt0-clause-went : goal.returns-else-made-gt0-clause-went
returns-else-made-gt0-clause-went c = λ turns h.
    let code = c.args.code.now in
    let s = c.args.shape.now in
    let t : ℕ = c.args.t in
    let m = c.requires.may in
    let place : ℕ = c.args.place in
    let old : Going = c.args.self.now in
    let new : Going = record { walk = c.quiet_turns-made.new.self; places = old.places } in
    let none : c.quiet_turns-made.result ≡ 0 = omega (arith, c.if-made-gt0.false) in
    let on : is_enabled code s c.args.limit (place_after code s turns) t ≡ true = enabled_too c.table_laws.ensures code s c.args.limit m.0 turns old.walk t m.1 h.stands m.2 in
    hurried c.run_laws.ensures c.thread_laws.ensures code s c.args.limit t turns old new c.quiet_turns-made.result place h (c.quiet_turns-made.ensures.went turns h.stands) on (c.requires.place turns h.stands)
    (λ before is. is ∙ (ap counted_together (sym (append-nil before)) ∙ ap (λ n. counted_together (before ++ replicate n place)) (sym none)))
