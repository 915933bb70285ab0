-- One turn of an enabled thread is an event.
use Rattle.sharc_seq.proofs.Imports.{◌≡◌, ℕ, suc, ◌+◌, true, false, List, [], ◌∷◌, length, refl, sym, ap, ◌∙◌, subst, arith, PortState, Leads, LeadsInWords, place_of_words, Code, Shape, TurnState, Tries, Machine, Turn, Local, Asks, turn, after, events_of_turn, TurnLeads, may_go, counted, machine_after, events_of_path, ThreadLaws, found_now, behind, waits_now, ThreadView, GoesWhere}

-- ---- one turn
turn_led : (t : ℕ) (a : Turn) (found : ℕ) (from until : PortState) → Leads LeadsInWords from (events_of_turn t a found) until → TurnLeads LeadsInWords t a found from until
turn_led t (Local m) found from until h = h
turn_led t (Asks step go) found from until h = subst (λ place. TurnLeads LeadsInWords t (Asks step go) found from place) h.2 h.1

-- it found what the word held
as_behind : (t : ℕ) (a : Turn) (found : ℕ) (words now : List ℕ) → TurnLeads LeadsInWords t a found (place_of_words words) (place_of_words now) → after a found ≡ after a (found_now words a)
as_behind t (Local m) found words now h = refl
as_behind t (Asks step go) found words now h = ap go h.may_follow.result_is

no_try : (state : TurnState) → (state ≡ Tries → ⊥) → counted state ≡ 1
no_try TurnState.Tries ne = absurd (ne refl)
no_try _ ne = refl

-- ---- the turn of a thread that is enabled
pub record OneTurn (code : Code) (s : Shape) (words now : List ℕ) (old new : ThreadView) : Type 0 where
  pub found : ℕ
  pub machine : new.machine ≡ after (turn code s old.machine) found
  pub led : TurnLeads LeadsInWords old.machine.own.number (turn code s old.machine) found (place_of_words words) (place_of_words now)
  pub event : counted new.machine.at.state ≡ 1
  pub made : new.made ≡ old.made + 1

module _ (laws : ThreadLaws) (code : Code) (s : Shape) (words now : List ℕ) (old new : ThreadView) where
  by_founds : (q : GoesWhere (Unit {0}) LeadsInWords code s old.machine new.machine (place_of_words words) (place_of_words now) 1 (counted new.machine.at.state))
      → new.made ≡ old.made + counted new.machine.at.state → may_go old.machine.at.state ≡ true → waits_now code s words old.machine ≡ false
      → (founds : List ℕ) → q.founds ≡ founds → OneTurn code s words now old new
  by_founds q more may off [] e = absurd (let none : 1 ≡ 0 = q.turns_are ∙ ap (λ (xs : List ℕ). length xs) e in omega (arith, none))
  by_founds q more may off (found ∷ []) e =
      let machine : new.machine ≡ after (turn code s old.machine) found = q.machine ∙ ap (machine_after code s old.machine) e in
      let leads : Leads LeadsInWords (place_of_words words) (events_of_path code s old.machine (found ∷ [])) (place_of_words now) =
      subst (λ (xs : List ℕ). Leads LeadsInWords (place_of_words words) (events_of_path code s old.machine xs) (place_of_words now)) e (q.led tt) in
      let led = turn_led old.machine.own.number (turn code s old.machine) found (place_of_words words) (place_of_words now) leads in
      let same : after (turn code s old.machine) found ≡ behind code s words old.machine = as_behind old.machine.own.number (turn code s old.machine) found words now led in
      let event : counted new.machine.at.state ≡ 1 = no_try new.machine.at.state
      (λ tries. let waits : waits_now code s words old.machine ≡ true = (laws.waits code s words old.machine may).1 (ap (λ (m : Machine). m.at.state) (sym (machine ∙ same)) ∙ tries) in absurd (let x : true ≡ false = sym waits ∙ off in cc)) in
      record {
        found = found;
        machine = machine;
        led = led;
        event = event;
        made = more ∙ ap (λ n. old.made + n) event;
      }
  by_founds q more may off (one ∷ other ∷ rest) e =
      let many : 1 ≡ suc (suc (length rest)) = q.turns_are ∙ ap (λ (xs : List ℕ). length xs) e in
      absurd (omega (arith, many))

  pub one_turn : (q : GoesWhere (Unit {0}) LeadsInWords code s old.machine new.machine (place_of_words words) (place_of_words now) 1 (counted new.machine.at.state))
      → new.made ≡ old.made + counted new.machine.at.state → may_go old.machine.at.state ≡ true → waits_now code s words old.machine ≡ false → OneTurn code s words now old new
  one_turn q more may off = by_founds q more may off q.founds refl
