-- Flat code asks for what the source asks for: what the parts of the meaning are to the machine.
use Rattle.sharc_flat.proofs.{Imports.{◌≡◌, ℕ, zero, suc, ◌+◌, ◌*◌, ◌≤◌, List, [], ◌∷◌, ◌++◌, length, take, drop, Some, refl, sym, ap, ◌∙◌, subst, arith, ℤ, pos, slice_get, Act, SourceEvent, Site, GivenUp, State, Outcome, wants, spent, Out, go, over, Run, then_on, enters_with, happens, answer_of, event_of, value_in, all_released, ends_temporaries, ends_variables, pointers_among, held_references, Op, Spot, Flat, At, goes, asks, halts, Came, exec, on_turn, on_answer, with_event, line_turn, op_turn}, Banks.Bank}

-- these statements are in the code at this place
abbrev pub HasAt : List Op → ℕ → List Op → Type 0
HasAt code pc [] = Unit {0}
HasAt code pc (o ∷ os) = (slice_get code pc ≡ Some o) × HasAt code (pc + 1) os

pub has_front : (code : List Op) (pc : ℕ) (a b : List Op) → HasAt code pc (a ++ b) → HasAt code pc a
has_front code pc [] b h = tt
has_front code pc (o ∷ a) b h = (h.0, has_front code (pc + 1) a b h.1)

pub has_back : (code : List Op) (pc : ℕ) (a b : List Op) → HasAt code pc (a ++ b) → HasAt code (pc + length a) b
has_back code pc [] b h = let e : pc ≡ pc + 0 = omega arith in subst (λ n. HasAt code n b) e h
has_back code pc (o ∷ a) b h =
    let e : pc + 1 + length a ≡ pc + length (o ∷ a) = omega arith in
    subst (λ n. HasAt code n b) e (has_back code (pc + 1) a b h.1)

-- how a run is over, with the fuel that is left
pub record Fin : Type 0 where
  pub events : List SourceEvent
  pub outcome : Outcome
  pub held : List ℤ
  pub given_up : List GivenUp
  pub left : ℕ

abbrev pub fin_of : Outcome → State → Fin
fin_of o s = record { events = s.events; outcome = o; held = held_references s; given_up = s.given_up; left = s.fuel }

abbrev pub fin_then : {A : Type 0} → Out A → (A → State → Fin) → Fin
fin_then (go x s) k = k x s
fin_then (over o s) k = fin_of o s

-- the same events, the same end, and each reference register has what lies at its place among what is held
pub record Tells (c : Came) (fin : Fin) : Type 0 where
  pub events : c.at.events ≡ fin.events
  pub outcome : c.outcome ≡ fin.outcome
  pub held : Bank c.at.refs fin.held
  pub given : c.at.given ≡ fin.given_up

-- From this place flat code asks for what the source asks for from here on: it makes at least as many turns as the source enters statements and expressions,
-- and at most eight for each, and c more.
pub record Same (flat : Flat) (fuel c : ℕ) (fin : Fin) (answers : List ℤ) (m : At) : Type 0 where
  pub turns : ℕ
  pub tells : Tells (exec flat turns answers m) fin
  pub low : fuel ≤ turns + fin.left
  pub high : turns + 8 * fin.left ≤ 8 * fuel + c

pub weaken : (flat : Flat) (fuel c d : ℕ) (fin : Fin) (answers : List ℤ) (m : At) → c ≤ d → Same flat fuel c fin answers m → Same flat fuel d fin answers m
weaken flat fuel c d fin answers m le h = record { turns = h.turns; tells = h.tells; low = h.low; high = omega (arith, h.high) }

-- one statement
pub step : (flat : Flat) (o : Op) (fuel c : ℕ) (fin : Fin) (answers : List ℤ) (m m' : At) → slice_get flat.lines m.pc ≡ Some o → op_turn flat o m ≡ goes m' → Same flat fuel c fin answers m' → Same flat fuel (c + 1) fin answers m
step flat o fuel c fin answers m m' at is h = record {
  turns = suc h.turns;
  tells = subst (λ (z : Came). Tells z fin)
      (sym (ap (λ t. on_turn (line_turn flat t m) answers m (exec flat h.turns)) at ∙ ap (λ t. on_turn t answers m (exec flat h.turns)) is)) h.tells;
  low = omega (arith, h.low);
  high = omega (arith, h.high);
}

-- what a thread holds is in its registers
abbrev pub Holds : (ℕ → ℤ) → State → Type 0
Holds refs s = Bank refs (held_references s)

-- an end
pub ends : (flat : Flat) (o : Op) (out : Outcome) (c : ℕ) (s : State) (m : At) → Holds m.refs s → m.events ≡ s.events → m.given ≡ s.given_up → slice_get flat.lines m.pc ≡ Some o → op_turn flat o m ≡ halts out → Same flat s.fuel (c + 1) (fin_of out s) s.answers m
ends flat o out c s m holds ev gi at is = record {
  turns = 1;
  tells = subst (λ (z : Came). Tells z (fin_of out s))
      (sym (ap (λ t. on_turn (line_turn flat t m) s.answers m (exec flat 0)) at ∙ ap (λ t. on_turn t s.answers m (exec flat 0)) is))
      (record { events = ev; outcome = refl; held = holds; given = gi });
  low = omega arith;
  high = omega arith;
}

-- the fuel is spent
pub is_spent : (flat : Flat) (c : ℕ) (s : State) (m : At) → s.fuel ≡ 0 → Holds m.refs s → m.events ≡ s.events → m.given ≡ s.given_up → Same flat 0 c (fin_of spent s) s.answers m
is_spent flat c s m e holds ev gi = record {
  turns = 0;
  tells = record { events = ev; outcome = refl; held = holds; given = gi };
  low = omega arith;
  high = omega (arith, e);
}

-- what a run does, and then the rest
pub bind : (flat : Flat) {A B : Type 0} (fuel c : ℕ) (answers : List ℤ) (o : Out A) (f : A → Run B) (k : B → State → Fin) (m : At) → Same flat fuel c (fin_then o (λ x s. fin_then (f x s) k)) answers m → Same flat fuel c (fin_then (then_on o f) k) answers m
bind flat fuel c answers (go x s) f k m h = h
bind flat fuel c answers (over o s) f k m h = h

-- the temporaries of a run end
abbrev pub without : ℕ → State → State
without n s = record s {
  frame = record s.frame { temporaries = take n s.frame.temporaries };
  given_up = s.given_up ++ all_released (drop n s.frame.temporaries);
}

pub unhold : (flat : Flat) {A : Type 0} (fuel c n : ℕ) (answers : List ℤ) (o : Out A) (k : A → State → Fin) (m : At) → Same flat fuel c (fin_then o (λ x s. k x (without n s))) answers m → Same flat fuel c (fin_then (ends_temporaries n o) k) answers m
unhold flat fuel c n answers (go x s) k m h = h
unhold flat fuel c n answers (over o s) k m h = h

-- the variables of a block end
abbrev pub without_variables : ℕ → State → State
without_variables n s = record s {
  frame = record s.frame { variables = take n s.frame.variables };
  given_up = s.given_up ++ all_released (pointers_among (drop n s.frame.variables));
}

pub unblock : (flat : Flat) {A : Type 0} (fuel c n : ℕ) (answers : List ℤ) (o : Out A) (k : A → State → Fin) (m : At) → Same flat fuel c (fin_then o (λ x s. k x (without_variables n s))) answers m → Same flat fuel c (fin_then (ends_variables n o) k) answers m
unblock flat fuel c n answers (go x s) k m h = h
unblock flat fuel c n answers (over o s) k m h = h

-- one more is entered
pub enters_at : (flat : Flat) {A : Type 0} (n c : ℕ) (a : Run A) (k : A → State → Fin) (s : State) (m m' : At) → s.fuel ≡ n → Holds m.refs s → m.events ≡ s.events → m.given ≡ s.given_up → slice_get flat.lines m.pc ≡ Some Op.Enter → op_turn flat Op.Enter m ≡ goes m'
    → ((f : ℕ) → Same flat f (c + 7) (fin_then (a (record s { fuel = f })) k) s.answers m') → Same flat n c (fin_then (then_on (enters_with n s) (λ _. a)) k) s.answers m
enters_at flat zero c a k s m m' e holds ev gi at is h = is_spent flat c s m e holds ev gi
enters_at flat (suc n) c a k s m m' e holds ev gi at is h =
    let r = h n in
    record {
      turns = suc r.turns;
      tells = subst (λ (z : Came). Tells z (fin_then (a (record s { fuel = n })) k))
          (sym (ap (λ t. on_turn (line_turn flat t m) s.answers m (exec flat r.turns)) at ∙ ap (λ t. on_turn t s.answers m (exec flat r.turns)) is)) r.tells;
      low = omega (arith, r.low);
      high = omega (arith, r.high);
    }

-- after an event
abbrev pub after_event : State → List ℤ → List SourceEvent → State
after_event s answers events = record s { answers = answers; events = events; given_up = [] }

pub asks_at : (flat : Flat) (o : Op) (site : Site) (act : Act) (held : ℤ) (f : ℤ → At → At) (c : ℕ) (answers : List ℤ) (s : State) (m m1 : At) (k : ℤ → State → Fin)
    → Holds m1.refs s → m1.events ≡ s.events → m1.given ≡ s.given_up → slice_get flat.lines m.pc ≡ Some o → op_turn flat o m ≡ asks m1 site act held f
    → ((x : ℤ) → answer_of (value_in s.frame.variables) act x ≡ answer_of (λ token. held) act x)
    → ((x : ℤ) (rest : List ℤ) → Same flat s.fuel c (k x (after_event s rest (s.events ++ event_of site act x ∷ []))) rest (f x (with_event (event_of site act x) m1)))
    → Same flat s.fuel (c + 1) (fin_then (happens answers site act s) k) answers m
asks_at flat o site act held f c [] s m m1 k holds ev gi at is same h = record {
  turns = 1;
  tells = subst (λ (z : Came). Tells z (fin_of (wants (event_of site act (pos 0))) s))
      (sym (ap (λ t. on_turn (line_turn flat t m) [] m (exec flat 0)) at ∙ ap (λ t. on_turn t [] m (exec flat 0)) is))
      (record { events = ev; outcome = refl; held = holds; given = gi });
  low = omega arith;
  high = omega arith;
}
asks_at flat o site act held f c (x ∷ rest) s m m1 k holds ev gi at is same h =
    let y = answer_of (value_in s.frame.variables) act x in
    let r = h y rest in
    let told : on_answer (x ∷ rest) m1 site act held f (exec flat r.turns) ≡ exec flat r.turns rest (f y (with_event (event_of site act y) m1)) =
    ap (λ z. exec flat r.turns rest (f z (with_event (event_of site act z) m1))) (sym (same x)) in
    record {
      turns = suc r.turns;
      tells = subst (λ (z : Came). Tells z (k y (after_event s rest (s.events ++ event_of site act y ∷ []))))
          (sym (ap (λ t. on_turn (line_turn flat t m) (x ∷ rest) m (exec flat r.turns)) at ∙ ap (λ t. on_turn t (x ∷ rest) m (exec flat r.turns)) is ∙ told)) r.tells;
      low = omega (arith, r.low);
      high = omega (arith, r.high);
    }
