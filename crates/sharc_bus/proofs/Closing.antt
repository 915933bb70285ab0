-- What a seat knows that has the parts of all ports: a rest, a round, and the one legal history of a round that ends.
use Rattle.sharc_bus.proofs.{Imports.{TableId, round_view, ◌≡◌, ◌≢◌, ℕ, zero, suc, ◌+◌, ◌<◌, ◌≤◌, ◌⊎◌, ⊎_elim, inl, inr, List, [], ◌∷◌, ◌++◌, length, get_or, refl, sym, ap, ◌∙◌, subst, arith, All, get_or as slice_index_or, length-append, cases_lt, get_or_append_left, get_or_push, get_or-map, get_or_past, length-map, dite, some, some-injective, some-ne-none, ℕ_discrete, get_elem?, WordEvent, words_after, LegalHistory, events_of, Part, IsAmong, unbegun, words_known, Settled, BusView, SeatView, RestView, IsOf, AreSeatsOf, OneHistory, lists_of, HasPart, HasAll, ports_of_all, ports_of_last}, Members.{among_left, among_right}, Settling.{HasNumber, length-unbegun}}

module _ {X : Type 0} (P : X → Type 0) where
  pub all_left : (xs : List X) (x : X) → All P (xs ++ x ∷ []) → All P xs
  all_left xs x all k d lt = subst P (get_or_append_left xs (x ∷ []) d k lt) (all k d (omega (arith, length-append xs (x ∷ []))))

  pub all_last : (xs : List X) (x : X) → All P (xs ++ x ∷ []) → P x
  all_last xs x all = subst P (get_or_push xs x x (length xs) refl) (all (length xs) x (omega (arith, length-append xs (x ∷ []))))

pub part_left : (number : ℕ) (events : List WordEvent) (ps qs : List Part) → HasPart number events ps → HasPart number events (ps ++ qs)
part_left number events ps qs h = record { part = h.part; among = among_left h.part ps qs h.among; number_is = h.number_is; events_are = h.events_are }

pub part_right : (number : ℕ) (events : List WordEvent) (ps qs : List Part) → HasPart number events qs → HasPart number events (ps ++ qs)
part_right number events ps qs h = record { part = h.part; among = among_right h.part ps qs h.among; number_is = h.number_is; events_are = h.events_are }

pub has_more : (ss : List SeatView) (ps qs : List Part) → HasAll ss ps → HasAll ss (ps ++ qs)
has_more [] ps qs h = tt
has_more (s ∷ ss) ps qs h = (part_left s.number s.events ps qs h.0, has_more ss ps qs h.1)

has_at : (ss : List SeatView) (ps : List Part) (n : ℕ) (d : SeatView) → HasAll ss ps → n < length ss → HasPart (slice_index_or ss n d).number (slice_index_or ss n d).events ps
has_at [] ps n d h lt = absurd (omega arith)
has_at (s ∷ ss) ps zero d h lt = h.0
has_at (s ∷ ss) ps (suc n) d h lt = has_at ss ps n d h.1 (omega arith)

-- what an element that was read is at any default
pub index_at : (xs : List ℕ) (i x d : ℕ) → get_elem? xs i ≡ some x → get_or xs i d ≡ x
index_at [] i x d e = absurd (some-ne-none x (sym e))
index_at (y ∷ ys) zero x d e = some-injective y x e
index_at (y ∷ ys) (suc i) x d e = index_at ys i x d e

-- the parts of a rest
pub record RestOf (parts : List Part) (words : List ℕ) (ports : ℕ) : Type 0 where
  pub words_are : words_known parts ≡ words
  pub ports_are : ports_of_all parts ≡ ports
  pub is : parts ≡ unbegun (words_known parts) 0 (suc (ports_of_all parts))

pub rest_of : (parts : List Part) (words : List ℕ) (ports : ℕ) → parts ≡ unbegun words 0 (suc ports) → RestOf parts words ports
rest_of parts words ports e = subst (λ (ps : List Part). RestOf ps words ports) (sym e) (let here : RestOf (unbegun words 0 (suc ports)) words ports = record {
  words_are = refl;
  ports_are = length-unbegun words 1 ports;
  is = ap (λ n. unbegun words 0 (suc n)) (sym (length-unbegun words 1 ports));
} in here)

-- the part of a round
pub record RoundOf (parts : List Part) (words : List ℕ) (ports : ℕ) : Type 0 where
  pub words_are : words_known parts ≡ words
  pub ports_are : ports_of_last parts ≡ ports
  pub is : parts ≡ unbegun (words_known parts) (ports_of_last parts) 1

-- a round that ends: the seat of the last part took in those of all seats
module _ (bus seen : BusView) (view_is : bus ≡ seen) (round : RestView) (of_seen : IsOf seen round) (seats : List SeatView) (are_seen : AreSeatsOf seen seats) (id : TableId) (first parts : List Part)
    (round_is : round ≡ round_view id first) (alone : first ≡ unbegun (words_known first) (ports_of_last first) 1) (taken : (more : List Part) × (parts ≡ first ++ more)) (has : HasAll seats parts)
    (count : length parts ≡ length first + length seats) where
  of : IsOf bus round
  of = subst (λ (b : BusView). IsOf b round) (sym view_is) of_seen

  are : AreSeatsOf bus seats
  are = subst (λ (b : BusView). AreSeatsOf b seats) (sym view_is) are_seen

  nobody : SeatView
  nobody = record { bus = bus.id; number = 0; events = [] }

  abbrev last : Part
  last = record { number = ports_of_last first; words = words_known first; events = [] }

  last_among : IsAmong last parts
  last_among = subst (λ (ps : List Part). IsAmong last ps) (sym taken.1) (among_left last first taken.0 (subst (λ (ps : List Part). IsAmong last ps) (sym alone) (inl refl)))

  last_is : ports_of_last first ≡ bus.ports
  last_is = sym (ap (λ (r : RestView). r.ports) round_is) ∙ of.ports_are

  as_many : length parts ≡ suc bus.ports
  as_many = omega (arith, count, are.all, ap (λ (ps : List Part). length ps) alone)

  number_at : (n : ℕ) → n < suc bus.ports → (n < length seats) ⊎ (length seats ≤ n) → HasNumber parts n
  number_at n low (inl within) =
      let h = has_at seats parts n nobody has within in
      record { part = h.part; among = h.among; is = h.number_is ∙ are.number_is n nobody within }
  number_at n low (inr past) = record { part = last; among = last_among; is = last_is ∙ omega (arith, low, past, are.all) }

  -- all parts are together
  pub all_there : (0 < length parts) × ((n : ℕ) → n < suc bus.ports → HasNumber parts n) × (length parts ≡ suc bus.ports)
  all_there = (omega (arith, as_many), (λ n low. number_at n low (cases_lt n (length seats))), as_many)

  known_is : words_known parts ≡ round.words
  known_is = ap words_known (taken.1 ∙ ap (λ (ps : List Part). ps ++ taken.0) alone) ∙ sym (ap (λ (r : RestView). r.words) round_is)

  module _ (new : List Part) (s : Settled parts new) where
    pub rest_then : RestOf new s.now bus.ports
    rest_then = rest_of new s.now bus.ports (s.new_is ∙ ap (λ n. unbegun s.now 0 n) as_many)

    list_at : (thread : ℕ) → thread < length seats → events_of thread s.history ≡ slice_index_or (lists_of seats) thread []
    list_at thread lt =
        let h = has_at seats parts thread nobody has lt in
        let number : h.part.number ≡ thread = h.number_is ∙ are.number_is thread nobody lt in
        ap (λ n. events_of n s.history) (sym number) ∙ (sym (s.parts_are h.part h.among) ∙ (h.events_are ∙ sym (get_or-map (λ (z : SeatView). z.events) seats thread nobody [] lt)))

    none_past : (thread : ℕ) → (thread ≡ bus.ports) ⊎ (thread ≢ bus.ports) → length seats ≤ thread → events_of thread s.history ≡ []
    none_past thread (inl e) le = ap (λ n. events_of n s.history) (e ∙ sym last_is) ∙ sym (s.parts_are last last_among)
    none_past thread (inr ne) le = s.no_others thread (let far : suc bus.ports ≤ thread = omega (arith, ne, le, are.all) in omega (arith, as_many, far))

    list_past : (thread : ℕ) → length seats ≤ thread → events_of thread s.history ≡ slice_index_or (lists_of seats) thread []
    list_past thread le =
        let none : slice_index_or (lists_of seats) thread [] ≡ [] = get_or_past (lists_of seats) thread [] (omega (arith, length-map seats (λ (z : SeatView). z.events))) in
        none_past thread (dite (ℕ_discrete thread bus.ports) (λ e. inl e) (λ ne. inr ne)) le ∙ sym none

    pub one_history : OneHistory round.words (lists_of seats) (words_known new)
    one_history = record {
      history = s.history;
      legal = subst (λ (ws : List ℕ). LegalHistory ws s.history) known_is s.legal;
      parts = (λ thread. ⊎_elim (list_at thread) (list_past thread) (cases_lt thread (length seats)));
      words_are = rest_then.words_are ∙ s.now_is ∙ ap (λ (ws : List ℕ). words_after ws s.history) known_is;
    }
