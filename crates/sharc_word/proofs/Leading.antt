-- Events lead ports from place to place in parts, and over words of one's own by a legal history.
use Rattle.std.proofs.{Common.{◌≡◌, List, [], ◌∷◌, ◌++◌, refl, sym, ap, ◌∙◌, subst, append_assoc}, lemmas.List.append-nil}
use Rattle.sharc_word.specs.{declared.step.WordEvent.WordEvent, Words.words_after, History.LegalHistory, Place.{PortState, Leads, LeadsInWords, LeadsInEvents}}
use Rattle.sharc_word.proofs.Histories.{legal_none, legal_first, legal_rest, legal_cons}

module _ (leads : PortState → WordEvent → PortState → Type 0) where
  pub leads_split : (from to : PortState) (earlier later : List WordEvent) → Leads leads from (earlier ++ later) to → (between : PortState) × Leads leads from earlier between × Leads leads between later to
  leads_split from to [] later h = (from, refl, h)
  leads_split from to (e ∷ es) later h = let rest = leads_split h.0 to es later h.2 in (rest.0, (h.0, h.1, rest.1), rest.2)

  pub leads_append : (from between to : PortState) (earlier later : List WordEvent) → Leads leads from earlier between → Leads leads between later to → Leads leads from (earlier ++ later) to
  leads_append from between to [] later h k = subst (λ place. Leads leads place later to) (sym h) k
  leads_append from between to (e ∷ es) later h k = (h.0, h.1, leads_append h.0 between to es later h.2 k)

-- the words after these events
abbrev moved : PortState → List WordEvent → PortState
moved from events = record { words = words_after from.words events; events = from.events }

pub leads_legal : (from to : PortState) (events : List WordEvent) → Leads LeadsInWords from events to → LegalHistory from.words events × (to ≡ moved from events)
leads_legal from to [] h = (legal_none from.words, sym h)
leads_legal from to (e ∷ es) h =
    let next : PortState = moved from (e ∷ []) in
    let rest : Leads LeadsInWords next es to = subst (λ place. Leads LeadsInWords place es to) h.1.to_is h.2 in
    let legal = leads_legal next to es rest in
    (legal_cons from.words e es h.1.may_follow legal.0, legal.1)

pub legal_leads : (from to : PortState) (events : List WordEvent) → LegalHistory from.words events → to ≡ moved from events → Leads LeadsInWords from events to
legal_leads from to [] h is = sym is
legal_leads from to (e ∷ es) h is =
    let next : PortState = moved from (e ∷ []) in
    (next, record { may_follow = legal_first from.words e es h; to_is = refl }, legal_leads next to es (legal_rest from.words e es h) is)

-- with these events at its end
abbrev longer : PortState → List WordEvent → PortState
longer from events = record { words = from.words; events = from.events ++ events }

pub leads_longer : (from to : PortState) (events : List WordEvent) → Leads LeadsInEvents from events to → to ≡ longer from events
leads_longer from to [] h = sym h ∙ ap (λ (es : List WordEvent). let p : PortState = record { words = from.words; events = es } in p) (sym (append-nil from.events))
leads_longer from to (e ∷ es) h =
    let next : PortState = longer from (e ∷ []) in
    let rest : Leads LeadsInEvents next es to = subst (λ place. Leads LeadsInEvents place es to) h.1 h.2 in
    leads_longer next to es rest ∙ ap (λ (all : List WordEvent). let p : PortState = record { words = from.words; events = all } in p) (append_assoc from.events (e ∷ []) es)

pub longer_leads : (from to : PortState) (events : List WordEvent) → to ≡ longer from events → Leads LeadsInEvents from events to
longer_leads from to [] is = sym (is ∙ ap (λ (es : List WordEvent). let p : PortState = record { words = from.words; events = es } in p) (append-nil from.events))
longer_leads from to (e ∷ es) is =
    let next : PortState = longer from (e ∷ []) in
    (next, refl, longer_leads next to es (is ∙ ap (λ (all : List WordEvent). let p : PortState = record { words = from.words; events = all } in p) (sym (append_assoc from.events (e ∷ []) es))))
