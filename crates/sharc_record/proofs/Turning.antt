-- At most one port has the turn: each that has it is the first of the queue.
use Rattle.sharc_record.proofs.Imports.{◌≡◌, inl, refl, sym, ap, ◌∙◌, subst, some-injective, Has, IsAmong, TurnIs, OneHasTheTurn}

pub one_has : OneHasTheTurn
one_has opened ports state kept one other v w a b there had there' had' =
    let first : TurnIs opened kept.history kept.served kept.queue state.homes v.parts (Has a) = subst (λ t. TurnIs opened kept.history kept.served kept.queue state.homes v.parts t) had (kept.turns_are one v there) in
    let second : TurnIs opened kept.history kept.served kept.queue state.homes w.parts (Has b) = subst (λ t. TurnIs opened kept.history kept.served kept.queue state.homes w.parts t) had' (kept.turns_are other w there') in
    let number : first.0.number ≡ second.0.number = some-injective first.0.number second.0.number (sym first.2 ∙ second.2) in
    let mine = kept.parts_are one v first.0 there (subst (λ ps. IsAmong first.0 ps) (sym first.1) (inl refl)) in
    let theirs = kept.parts_are other w second.0 there' (subst (λ ps. IsAmong second.0 ps) (sym second.1) (inl refl)) in
    sym mine.1 ∙ (ap kept.owner number ∙ theirs.1)
