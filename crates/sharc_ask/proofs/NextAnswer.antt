-- An event with the next answer of the list, as the code has it.
use Rattle.sharc_ask.proofs.{Imports.{◌≡◌, ◌<◌, List, [], ◌∷◌, ◌++◌, refl, sym, ap, ◌∙◌, subst, arith, length, slice_index_or, drop, take, ◌-◌, take_all, ℤ, pos, Act, CellAt, Site, State, answered, happens, answer_of, event_of, value_in, Known, known, Went, held_after}, Held.held_behind}

-- what is left after the first, as the code has it
pub all_left : (xs : List ℤ) → drop 1 xs ≡ take (length xs - 1) (drop 1 xs)
all_left [] = refl
all_left (x ∷ xs) = sym (take_all (length (x ∷ xs) - 1) xs (omega arith))

-- the state after the event
abbrev pub behind : Known → Site → Act → ℤ → List ℤ → Known
behind k site act answer rest = record k { answers = rest; events = k.events ++ event_of site act answer ∷ []; held = held_after act k.held; given_up = [] }

at_state : (s : State) (site : Site) (act : Act) (xs : List ℤ) → s.answers ≡ xs → 0 < length xs
    → Went (answer_of (value_in s.frame.variables) act (slice_index_or xs 0 (pos 0))) (behind (known s) site act (answer_of (value_in s.frame.variables) act (slice_index_or xs 0 (pos 0))) (drop 1 xs)) (answered site act s)
at_state s site act [] e h = absurd (omega arith)
at_state s site act (x ∷ rest) e h =
    let answer : ℤ = answer_of (value_in s.frame.variables) act x in
    let with_held : List CellAt → Known = λ l. record (known s) { answers = rest; events = s.events ++ event_of site act answer ∷ []; held = l; given_up = [] } in
    record { state = _; is = ap (λ l. happens l site act s) e; looks = ap with_held (held_behind s.events (event_of site act answer)) }

pub event_does : (s : State) (k : Known) (site : Site) (act : Act) (answer : ℤ) (rest : List ℤ) → known s ≡ k → 0 < length k.answers → answer ≡ answer_of (value_in k.variables) act (slice_index_or k.answers 0 (pos 0)) → rest ≡ drop 1 k.answers
    → Went answer (behind k site act answer rest) (answered site act s)
event_does s k site act answer rest h more is left =
    let some : 0 < length s.answers = subst (λ z. 0 < length z.answers) (sym h) more in
    let w = at_state s site act s.answers refl some in
    let same : answer_of (value_in s.frame.variables) act (slice_index_or s.answers 0 (pos 0)) ≡ answer = ap (λ z. answer_of (value_in z.variables) act (slice_index_or z.answers 0 (pos 0))) h ∙ sym is in
    let front : drop 1 s.answers ≡ rest = ap (λ z. drop 1 z.answers) h ∙ sym left in
    subst (λ z. Went answer (behind z site act answer rest) (answered site act s)) h
    (subst (λ l. Went answer (behind (known s) site act answer l) (answered site act s)) front
    (subst (λ v. Went v (behind (known s) site act v (drop 1 s.answers)) (answered site act s)) same w))
