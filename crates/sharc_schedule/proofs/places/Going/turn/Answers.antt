use Rattle.sharc_schedule.proofs.{Imports.{◌≡◌, ℕ, true, ◌<◌, ◌≤◌, List, length, get_or, sym, subst, arith, place_after, is_enabled, Going}, Turning.{enabled_too, room, one_more}}
use Rattle.sharc_schedule.proofs.places.Going.turn.Goals as goal

pub count-requires : goal.count-requires
count-requires c =
    let code = c.args.code.now in
    let s = c.args.shape.now in
    let turns = c.requires.going.0 in
    let h = c.requires.going.1 in
    record {
      some = omega arith;
      room = λ i d low.
          let few = room c.run_laws.ensures c.thread_laws.ensures code s c.args.limit c.requires.fits.threads c.requires.limit turns h.stands.run h.counts h.few i d (subst (λ (xs : List (ℕ × ℕ)). i < length xs) h.places_are low) in
          let small : (get_or c.args.self.now.places.items i d).1 ≤ 3100000000 = subst (λ (xs : List (ℕ × ℕ)). (get_or xs i d).1 ≤ 3100000000) (sym h.places_are) few in
          omega (arith, small);
    }

pub returns-clause-went : goal.returns-clause-went
returns-clause-went c = λ turns h.
    let code = c.args.code.now in
    let s = c.args.shape.now in
    let t : ℕ = c.args.t in
    let m = c.requires.may in
    let old : Going = c.args.self.now in
    let new : Going = record { walk = c.turn.new.self; places = c.count.new.places } in
    let on : is_enabled code s c.args.limit (place_after code s turns) t ≡ true = enabled_too c.table_laws.ensures code s c.args.limit m.0 turns old.walk t m.1 h.stands m.2 in
    one_more c.run_laws.ensures c.thread_laws.ensures code s c.args.limit t turns old new h c.in_ok-told.told c.args.place on (c.in_ok-told.ensures.went turns h.stands)
    (c.requires.place turns h.stands)
    c.in_ok-count.ensures

pub returns-clause-less : goal.returns-clause-less
returns-clause-less c = c.in_ok-told.ensures.less
