-- One turn over a port that reports whether it made a step, and what that found.
use Rattle.sharc_seq.proofs.Imports.{◌≡◌, ℕ, suc, Bool, true, false, List, [], ◌∷◌, length, refl, sym, ap, ◌∙◌, subst, arith, WordEvent, PortState, Leads, LeadsInWords, place_of_words, Code, Shape, Machine, Turn, Local, Asks, turn, asked_by, counted, events_of_turn, events_of_path, found_now, GoesWhere, as_number, place_told, told_in, found_in, words_in, LeadsTold, has_step}

leads_words : (events : List WordEvent) (from to : PortState) → Leads LeadsTold from events to → Leads LeadsInWords (place_of_words (words_in from.words)) events (place_of_words (words_in to.words))
leads_words [] from to h = ap (λ (p : PortState). place_of_words (words_in p.words)) h
leads_words (event ∷ events) from to h = (place_of_words (words_in h.0.words), h.1.leads, leads_words events h.0 to h.2)

number_is : (b c : Bool) → as_number b ≡ as_number c → b ≡ c
number_is true true e = refl
number_is false false e = refl
number_is true false e = absurd (omega (arith, e))
number_is false true e = absurd (omega (arith, e))

turn_told : (t : ℕ) (a : Turn) (result : ℕ) (told : Bool) (found : ℕ) (words now : List ℕ) → Leads LeadsTold (place_told false 0 words) (events_of_turn t a result) (place_told told found now) → told ≡ has_step (asked_by a)
turn_told t (Local m) result told found words now h = number_is told false (sym (ap (λ (p : PortState). told_in p.words) h))
turn_told t (Asks step go) result told found words now h = number_is told true (sym (ap (λ (p : PortState). told_in p.words) h.2) ∙ h.1.told)

-- it found what the word held
turn_found : (t : ℕ) (a : Turn) (result : ℕ) (told : Bool) (found : ℕ) (words now : List ℕ) → Leads LeadsTold (place_told false 0 words) (events_of_turn t a result) (place_told told found now) → found ≡ found_now words a
turn_found t (Local m) result told found words now h = sym (ap (λ (p : PortState). found_in p.words) h)
turn_found t (Asks step go) result told found words now h = sym (ap (λ (p : PortState). found_in p.words) h.2) ∙ h.1.found ∙ h.1.leads.may_follow.result_is

module _ (code : Code) (s : Shape) (words now : List ℕ) (told : Bool) (found : ℕ) (old new : Machine)
    (q : GoesWhere (Unit {0}) LeadsTold code s old new (place_told false 0 words) (place_told told found now) 1 (counted new.at.state)) where
  -- it is one over the words alone
  pub in_words : GoesWhere (Unit {0}) LeadsInWords code s old new (place_of_words words) (place_of_words now) 1 (counted new.at.state)
  in_words = record {
    founds = q.founds;
    path = q.path;
    machine = q.machine;
    led = λ u. leads_words (events_of_path code s old q.founds) (place_told false 0 words) (place_told told found now) (q.led u);
    turns_are = q.turns_are;
    made_are = q.made_are;
  }

  record Tells : Type 0 where
    step : told ≡ has_step (asked_by (turn code s old))
    finds : found ≡ found_now words (turn code s old)

  by_founds : (founds : List ℕ) → q.founds ≡ founds → Tells
  by_founds [] e = absurd (let none : 1 ≡ 0 = q.turns_are ∙ ap (λ (xs : List ℕ). length xs) e in omega (arith, none))
  by_founds (result ∷ []) e =
      let led = subst (λ (xs : List ℕ). Leads LeadsTold (place_told false 0 words) (events_of_path code s old xs) (place_told told found now)) e (q.led tt) in
      record {
        step = turn_told old.own.number (turn code s old) result told found words now led;
        finds = turn_found old.own.number (turn code s old) result told found words now led;
      }
  by_founds (one ∷ other ∷ rest) e =
      absurd (let many : 1 ≡ suc (suc (length rest)) = q.turns_are ∙ ap (λ (xs : List ℕ). length xs) e in omega (arith, many))

  -- it reports whether the turn asked for a step
  pub tells : told ≡ has_step (asked_by (turn code s old))
  tells = (by_founds q.founds refl).step

  -- and what that found
  pub finds : found ≡ found_now words (turn code s old)
  finds = (by_founds q.founds refl).finds
