-- No event is taken back, and nothing of the trace; nor is anything that was given up before the next event comes.
use Rattle.sharc_meaning.proofs.{Imports.{◌≡◌, ℕ, zero, suc, Bool, true, false, cond, List, [], ◌∷◌, ◌++◌, refl, sym, ap, ◌∙◌, append_assoc, append-nil, length, drop, ℤ, Act, SourceEvent, Site, GivenUp, IsPrefix, Frame, Traced, State, all_released, pointers_among, Out, go, over, Run, Step, then_on, give, enters_with, happens, answer_of, event_of, ends_temporaries, value_of, ends_variables, without_temporaries, Flow, next, broken, returned, on_turn, turns, back_in, with_frame}, Closed.Closed}

pub prefix_refl : {A : Type 0} (a : List A) → IsPrefix a a
prefix_refl a = ([], sym (append-nil a))

pub prefix_on : {A : Type 0} (a b c : List A) → IsPrefix a b → IsPrefix b c → IsPrefix a c
prefix_on a b c (h, e) (k, f) = (h ++ k, f ∙ ap (λ l. l ++ k) e ∙ append_assoc a h k)

added_nothing : {A : Type 0} (a l : List A) → a ++ l ≡ a → l ≡ []
added_nothing [] l h = h
added_nothing (x ∷ a) l h = added_nothing a l (cc)

pub first_nothing : {A : Type 0} (a b : List A) → a ++ b ≡ [] → a ≡ []
first_nothing [] b h = refl
first_nothing (x ∷ a) b h = absurd (cc)

-- what lies between two that are the same is the same
between : {A : Type 0} (a b c : List A) → IsPrefix a b → IsPrefix b c → c ≡ a → b ≡ a
between a b c (h, e) (k, f) is =
    let none : h ++ k ≡ [] = added_nothing a (h ++ k) (sym (append_assoc a h k) ∙ ap (λ l. l ++ k) (sym e) ∙ sym f ∙ is) in
    e ∙ ap (λ l. a ++ l) (first_nothing h k none) ∙ append-nil a

pub record GrowsBy (es es' : List SourceEvent) (us us' : List Traced) (gs gs' : List GivenUp) : Type 0 where
  pub events : IsPrefix es es'
  pub trace : IsPrefix us us'
  pub given : es' ≡ es → IsPrefix gs gs'

abbrev pub Grows : State → State → Type 0
Grows s t = GrowsBy s.events t.events s.trace t.trace s.given_up t.given_up

pub grows_refl : (s : State) → Grows s s
grows_refl s = record { events = prefix_refl s.events; trace = prefix_refl s.trace; given = λ _. prefix_refl s.given_up }

pub grows_on : (s t u : State) → Grows s t → Grows t u → Grows s u
grows_on s t u h k = record {
  events = prefix_on s.events t.events u.events h.events k.events;
  trace = prefix_on s.trace t.trace u.trace h.trace k.trace;
  given = λ e. let same = between s.events t.events u.events h.events k.events e in prefix_on s.given_up t.given_up u.given_up (h.given same) (k.given (e ∙ sym same));
}

-- where no event comes more is given up
pub gives_more : (s t u : State) (more : List GivenUp) → Grows s t → u.events ≡ t.events → u.trace ≡ t.trace → u.given_up ≡ t.given_up ++ more → Grows s u
gives_more s t u more h e r g = grows_on s t u h (record { events = ([], e ∙ sym (append-nil t.events)); trace = ([], r ∙ sym (append-nil t.trace)); given = λ _. (more, g) })

-- an event more
pub one_more : (e : SourceEvent) (s : State) (gs : List GivenUp) → GrowsBy s.events (s.events ++ e ∷ []) s.trace s.trace s.given_up gs
one_more e s gs = record { events = (e ∷ [], refl); trace = prefix_refl s.trace; given = λ h. absurd (let none = added_nothing s.events (e ∷ []) h in cc) }

abbrev pub state_of : {A : Type 0} → Out A → State
state_of (go x s) = s
state_of (over o s) = s

abbrev pub Growing : Bool → (A : Type 0) → Run A → Type 0
Growing b A m = (s : State) → Grows s (state_of (m s))

grows_entered : {A : Type 0} (n : ℕ) (m : Run A) (s : State) → Growing false A m → Grows s (state_of (then_on (enters_with n s) (λ _. m)))
grows_entered zero m s h = grows_refl s
grows_entered (suc n) m s h = h (record s { fuel = n })

pub grows_event : (xs : List ℤ) (site : Site) (act : Act) (s : State) → Grows s (state_of (happens xs site act s))
grows_event [] site act s = grows_refl s
grows_event (x ∷ xs) site act s = one_more (event_of site act (answer_of (value_of s) act x)) s []

pub grows_then : {A B : Type 0} (s : State) (o : Out A) (g : A → Run B) → Grows s (state_of o) → ((x : A) → Growing false B (g x)) → Grows s (state_of (then_on o g))
grows_then s (go x t) g h k = grows_on s t (state_of (g x t)) h (k x t)
grows_then s (over o t) g h k = h

pub grows_turn : (fl : Flow) (m : Run Flow) → Growing false Flow m → Growing false Flow (on_turn fl m)
grows_turn broken m h s = grows_refl s
grows_turn (returned site v) m h s = grows_refl s
grows_turn _ m h s = h s

pub grows_cond : {A : Type 0} (b : Bool) (m n : Run A) → Growing false A m → Growing false A n → Growing false A (cond b m n)
grows_cond true m n hm hn = hm
grows_cond false m n hm hn = hn

pub grows_turns : (n : ℕ) (test : Run Bool) (step : Step) (body : Run Flow) → Growing false Bool test → Growing false (Unit {0}) step → Growing false Flow body → Growing false Flow (turns n test step body)
grows_turns zero test step body ht hs hb s = grows_refl s
grows_turns (suc n) test step body ht hs hb s = grows_then s (test s) _ (ht s) (λ b. grows_cond b _ (give next)
    (λ t. grows_then t (body t) _ (hb t) (λ fl. grows_turn fl _ (λ u. grows_then u (step u) _ (hs u) (λ _. grows_turns n test step body ht hs hb))))
    (λ t. grows_refl t))

pub grows_temporaries : {A : Type 0} (s : State) (n : ℕ) (o : Out A) → Grows s (state_of o) → Grows s (state_of (ends_temporaries n o))
grows_temporaries s n (go x t) h = gives_more s t (state_of (ends_temporaries n (go x t))) (all_released (drop n t.frame.temporaries)) h refl refl refl
grows_temporaries s n (over o t) h = h

pub grows_variables : {A : Type 0} (s : State) (n : ℕ) (o : Out A) → Grows s (state_of o) → Grows s (state_of (ends_variables n o))
grows_variables s n (go x t) h = gives_more s t (state_of (ends_variables n (go x t))) (all_released (pointers_among (drop n t.frame.variables))) h refl refl refl
grows_variables s n (over o t) h = h

pub grows_back : {A : Type 0} (s : State) (caller : Frame) (others : List Frame) (o : Out A) → Grows s (state_of o) → Grows s (state_of (back_in caller others o))
grows_back s caller others (go x t) h = h
grows_back s caller others (over o t) h = h

pub growing : Closed false Growing
growing = record {
  eases = λ A m h. h;
  give = λ A x s. grows_refl s;
  stop = λ A trap site s. grows_refl s;
  enters = λ A m h s. grows_entered s.fuel m s h;
  event = λ site act _ s. grows_event s.answers site act s;
  events = λ s. grows_refl s;
  values = λ s. grows_refl s;
  trace = λ u token site s. record { events = prefix_refl s.events; trace = (record { use_made = u; variable = token; site = site; call = s.frame.call } ∷ [], refl); given = λ _. prefix_refl s.given_up };
  frame = λ f s. record { events = prefix_refl s.events; trace = prefix_refl s.trace; given = λ _. prefix_refl s.given_up };
  given = λ more _ s. record { events = prefix_refl s.events; trace = prefix_refl s.trace; given = λ _. (more, refl) };
  binds = λ A B m g hm hg s. grows_then s (m s) g (hm s) hg;
  scope = λ A m h s. grows_temporaries s (length s.frame.temporaries) (m s) (h s);
  block = λ A m h s. grows_variables s (length s.frame.variables) (m s) (h s);
  call = λ A n m h s. grows_back s (without_temporaries n s.frame) s.callers (m (with_frame (without_temporaries n s.frame) s)) (h (with_frame (without_temporaries n s.frame) s));
  loops = λ test step body ht hs hb s. grows_turns s.fuel test step body ht hs hb s;
  frees = λ apart m s a place _ _ t. absurd (cc);
}
