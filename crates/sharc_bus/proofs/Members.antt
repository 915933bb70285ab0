-- Parts among parts.
use Rattle.sharc_bus.proofs.Imports.{◌≡◌, ◌⊎◌, inl, inr, ⊎_elim, List, [], ◌∷◌, ◌++◌, Part, IsAmong}

pub among_one : (part p : Part) → IsAmong part (p ∷ []) → part ≡ p
among_one part p h = ⊎_elim (λ e. e) (λ no. absurd no) h

pub among_append : (part : Part) (ps qs : List Part) → IsAmong part (ps ++ qs) → IsAmong part ps ⊎ IsAmong part qs
among_append part [] qs h = inr h
among_append part (p ∷ ps) qs h = ⊎_elim (λ e. inl (inl e)) (λ rest. ⊎_elim (λ l. inl (inr l)) (λ r. inr r) (among_append part ps qs rest)) h

pub among_left : (part : Part) (ps qs : List Part) → IsAmong part ps → IsAmong part (ps ++ qs)
among_left part [] qs h = absurd h
among_left part (p ∷ ps) qs h = ⊎_elim (λ e. inl e) (λ rest. inr (among_left part ps qs rest)) h

pub among_right : (part : Part) (ps qs : List Part) → IsAmong part qs → IsAmong part (ps ++ qs)
among_right part [] qs h = h
among_right part (p ∷ ps) qs h = inr (among_right part ps qs h)
