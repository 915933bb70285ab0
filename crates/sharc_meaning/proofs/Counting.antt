-- Each event uses up one answer, and an event is wanted where none is left.
use Rattle.sharc_meaning.proofs.{Imports.{◌≡◌, ℕ, zero, suc, ◌+◌, Bool, true, false, cond, List, [], ◌∷◌, ◌++◌, refl, sym, ap, arith, length, length-append, ℤ, Act, Site, Frame, State, Outcome, wants, Out, go, over, Run, Step, then_on, give, enters_with, happens, answer_of, value_of, event_of, ends_temporaries, ends_variables, without_temporaries, Flow, next, broken, returned, on_turn, turns, back_in, with_frame}, Closed.Closed}

-- the number of events and answers together
abbrev pub both : State → ℕ
both s = length s.events + length s.answers

abbrev pub NoneLeft : Outcome → List ℤ → Type 0
NoneLeft (wants e) answers = answers ≡ []
NoneLeft _ answers = Unit {0}

abbrev pub Counts : {A : Type 0} → ℕ → Out A → Type 0
Counts n (go x s) = both s ≡ n
Counts n (over o s) = (both s ≡ n) × NoneLeft o s.answers

abbrev pub Counting : Bool → (A : Type 0) → Run A → Type 0
Counting b A m = (s : State) → Counts (both s) (m s)

counts_entered : {A : Type 0} (k : ℕ) (m : Run A) (s : State) → Counting false A m → Counts (both s) (then_on (enters_with k s) (λ _. m))
counts_entered zero m s h = (refl, tt)
counts_entered (suc k) m s h = h (record s { fuel = k })

counts_event : (xs : List ℤ) (site : Site) (act : Act) (s : State) → s.answers ≡ xs → Counts (both s) (happens xs site act s)
counts_event [] site act s e = (refl, e)
counts_event (x ∷ xs) site act s e =
    let l : length s.answers ≡ suc (length xs) = ap length e in
    let a : length (s.events ++ event_of site act (answer_of (value_of s) act x) ∷ []) ≡ length s.events + 1 = length-append s.events (event_of site act (answer_of (value_of s) act x) ∷ []) in omega arith

counts_then : {A B : Type 0} (n : ℕ) (o : Out A) (g : A → Run B) → Counts n o → ((x : A) (s : State) → both s ≡ n → Counts n (g x s)) → Counts n (then_on o g)
counts_then n (go x t) g h k = k x t h
counts_then n (over o t) g h k = h

counts_at : {A : Type 0} (n : ℕ) (s : State) (m : Run A) → Counting false A m → both s ≡ n → Counts n (m s)
counts_at n s m h e = rw (sym e) (h s)

counts_turn : (n : ℕ) (fl : Flow) (m : Run Flow) (s : State) → both s ≡ n → Counts n (m s) → Counts n (on_turn fl m s)
counts_turn n broken m s e h = e
counts_turn n (returned site v) m s e h = e
counts_turn n _ m s e h = h

counts_cond : {A : Type 0} (n : ℕ) (b : Bool) (m k : Run A) (s : State) → Counts n (m s) → Counts n (k s) → Counts n (cond b m k s)
counts_cond n true m k s h l = h
counts_cond n false m k s h l = l

counts_turns : (k n : ℕ) (test : Run Bool) (step : Step) (body : Run Flow) → Counting false Bool test → Counting false (Unit {0}) step → Counting false Flow body → (s : State) → both s ≡ n → Counts n (turns k test step body s)
counts_turns zero n test step body ht hs hb s e = (e, tt)
counts_turns (suc k) n test step body ht hs hb s e = counts_then n (test s) _ (counts_at n s test ht e) (λ b t et. counts_cond n b _ (give next) t
    (counts_then n (body t) _ (counts_at n t body hb et) (λ fl u eu. counts_turn n fl _ u eu (counts_then n (step u) _ (counts_at n u step hs eu) (λ _ w ew. counts_turns k n test step body ht hs hb w ew)))) et)

counts_temporaries : {A : Type 0} (n k : ℕ) (o : Out A) → Counts n o → Counts n (ends_temporaries k o)
counts_temporaries n k (go x t) h = h
counts_temporaries n k (over o t) h = h

counts_variables : {A : Type 0} (n k : ℕ) (o : Out A) → Counts n o → Counts n (ends_variables k o)
counts_variables n k (go x t) h = h
counts_variables n k (over o t) h = h

counts_back : {A : Type 0} (n : ℕ) (caller : Frame) (others : List Frame) (o : Out A) → Counts n o → Counts n (back_in caller others o)
counts_back n caller others (go x t) h = h
counts_back n caller others (over o t) h = h

pub counting : Closed false Counting
counting = record {
  eases = λ A m h. h;
  give = λ A x s. refl;
  stop = λ A trap site s. (refl, tt);
  enters = λ A m h s. counts_entered s.fuel m s h;
  event = λ site act _ s. counts_event s.answers site act s refl;
  events = λ s. refl;
  values = λ s. refl;
  trace = λ u token site s. refl;
  frame = λ f s. refl;
  given = λ more _ s. refl;
  binds = λ A B m g hm hg s. counts_then (both s) (m s) g (hm s) (λ x t e. counts_at (both s) t (g x) (hg x) e);
  scope = λ A m h s. counts_temporaries (both s) (length s.frame.temporaries) (m s) (h s);
  block = λ A m h s. counts_variables (both s) (length s.frame.variables) (m s) (h s);
  call = λ A n m h s. counts_back (both s) (without_temporaries n s.frame) s.callers (m (with_frame (without_temporaries n s.frame) s)) (h (with_frame (without_temporaries n s.frame) s));
  loops = λ test step body ht hs hb s. counts_turns s.fuel (both s) test step body ht hs hb s refl;
  frees = λ apart m s a place _ _ t. absurd (cc);
}
