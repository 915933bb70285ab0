-- The fuel that a run leaves: none where it ends for want of it, and less than before where something was entered.
use Rattle.sharc_meaning.proofs.{Imports.{◌≡◌, ℕ, zero, suc, ◌<◌, ◌≤◌, Bool, true, false, cond, List, [], ◌∷◌, refl, sym, subst, arith, length, ℤ, Act, Site, Frame, State, spent, Out, go, over, Run, Step, then_on, ◌>>=◌, ◌>>◌, give, enters_with, happens, ends_temporaries, ends_variables, without_temporaries, Flow, next, broken, returned, on_turn, turns, SpentIsNone, back_in, with_frame, run_thread, start, function_at}, Closed.{Closed, thread_kept}}

abbrev pub Spends : {A : Type 0} → Bool → ℕ → Out A → Type 0
Spends true f (go x s) = s.fuel < f
Spends false f (go x s) = s.fuel ≤ f
Spends b f (over o s) = o ≡ spent → s.fuel ≡ 0

abbrev pub Spending : Bool → (A : Type 0) → Run A → Type 0
Spending b A m = (f : ℕ) (s : State) → s.fuel ≤ f → Spends b f (m s)

eased : {A : Type 0} (f : ℕ) (o : Out A) → Spends true f o → Spends false f o
eased f (go x s) h = omega arith
eased f (over o s) h = h

spends_then : {A B : Type 0} (f : ℕ) (o : Out A) (g : A → Run B) → Spends false f o → ((x : A) (s : State) → s.fuel ≤ f → Spends false f (g x s)) → Spends false f (then_on o g)
spends_then f (go x s) g h k = k x s h
spends_then f (over o s) g h k = h

less : {A : Type 0} (f n : ℕ) (o : Out A) → suc n ≤ f → Spends false n o → Spends true f o
less f n (go x s) le h = omega arith
less f n (over o s) le h = h

spends_entered : {A : Type 0} (n f : ℕ) (m : Run A) (s : State) → Spending false A m → n ≡ s.fuel → n ≤ f → Spends true f (then_on (enters_with n s) (λ _. m))
spends_entered zero f m s h e le = λ _. sym e
spends_entered (suc n) f m s h e le = less f n (m (record s { fuel = n })) le (h n (record s { fuel = n }) (omega arith))

spends_event : (xs : List ℤ) (site : Site) (act : Act) (f : ℕ) (s : State) → s.fuel ≤ f → Spends false f (happens xs site act s)
spends_event [] site act f s le = λ e. absurd (cc)
spends_event (x ∷ xs) site act f s le = le

spends_turn : (fl : Flow) (m : Run Flow) (f : ℕ) (s : State) → s.fuel ≤ f → Spends false f (m s) → Spends false f (on_turn fl m s)
spends_turn broken m f s le h = le
spends_turn (returned site v) m f s le h = le
spends_turn _ m f s le h = h

-- a loop is entered with no more fuel than it has turns, and each turn enters its body: so the turns are not used up before the fuel
spends_turns : (n f : ℕ) (test : Run Bool) (step : Step) (body : Run Flow) → Spending false Bool test → Spending false (Unit {0}) step → Spending true Flow body → (s : State) → s.fuel ≤ n → n ≤ f → Spends false f (turns n test step body s)
spends_turns zero f test step body ht hs hb s le lef = λ _. omega arith
spends_turns (suc n) f test step body ht hs hb s le lef = tested (λ s h. spends_turns n f test step body ht hs hb s h (omega arith)) (test s) (ht (suc n) s le)
  where
    stepped : ((s : State) → s.fuel ≤ n → Spends false f (turns n test step body s)) → (o : Out (Unit {0})) → Spends false n o → Spends false f (then_on o (λ _. turns n test step body))
    stepped ih (go x s2) h = ih s2 h
    stepped ih (over o s2) h = h

    bodied : ((s : State) → s.fuel ≤ n → Spends false f (turns n test step body s)) → (o : Out Flow) → Spends true (suc n) o → Spends false f (then_on o (λ fl. on_turn fl (step >> turns n test step body)))
    bodied ih (go fl s2) h = spends_turn fl (step >> turns n test step body) f s2 (omega arith) (stepped ih (step s2) (hs n s2 (omega arith)))
    bodied ih (over o s2) h = h

    either : ((s : State) → s.fuel ≤ n → Spends false f (turns n test step body s)) → (b : Bool) (s2 : State) → s2.fuel ≤ suc n → Spends false f (cond b (body >>= λ fl. on_turn fl (step >> turns n test step body)) (give next) s2)
    either ih true s2 h = bodied ih (body s2) (hb (suc n) s2 h)
    either ih false s2 h = omega arith

    tested : ((s : State) → s.fuel ≤ n → Spends false f (turns n test step body s)) → (o : Out Bool) → Spends false (suc n) o → Spends false f (then_on o (λ b. cond b (body >>= λ fl. on_turn fl (step >> turns n test step body)) (give next)))
    tested ih (go b s2) h = either ih b s2 h
    tested ih (over o s2) h = h

spends_temporaries : {A : Type 0} (f n : ℕ) (o : Out A) → Spends false f o → Spends false f (ends_temporaries n o)
spends_temporaries f n (go x s) h = h
spends_temporaries f n (over o s) h = h

spends_variables : {A : Type 0} (f n : ℕ) (o : Out A) → Spends false f o → Spends false f (ends_variables n o)
spends_variables f n (go x s) h = h
spends_variables f n (over o s) h = h

spends_back : {A : Type 0} (f : ℕ) (caller : Frame) (others : List Frame) (o : Out A) → Spends false f o → Spends false f (back_in caller others o)
spends_back f caller others (go x s) h = h
spends_back f caller others (over o s) h = h

pub spending : Closed false Spending
spending = record {
  eases = λ A m h f s le. eased f (m s) (h f s le);
  give = λ A x f s le. le;
  stop = λ A trap site f s le e. absurd (cc);
  enters = λ A m h f s le. spends_entered s.fuel f m s h refl le;
  event = λ site act _ f s le. spends_event s.answers site act f s le;
  events = λ f s le. le;
  values = λ f s le. le;
  trace = λ u token site f s le. le;
  frame = λ g f s le. le;
  given = λ more _ f s le. le;
  binds = λ A B m g hm hg f s le. spends_then f (m s) g (hm f s le) (λ x t lt. hg x f t lt);
  scope = λ A m h f s le. spends_temporaries f (length s.frame.temporaries) (m s) (h f s le);
  block = λ A m h f s le. spends_variables f (length s.frame.variables) (m s) (h f s le);
  call = λ A n m h f s le. spends_back f (without_temporaries n s.frame) s.callers (m (with_frame (without_temporaries n s.frame) s)) (h f (with_frame (without_temporaries n s.frame) s) le);
  loops = λ test step body ht hs hb f s le. spends_turns s.fuel f test step body ht hs hb s (omega arith) le;
  frees = λ apart m s a place _ _ f t le. absurd (cc);
}

ended_spent : {A : Type 0} (f : ℕ) (o : Out A) (s : State) → Spends false f o → o ≡ over spent s → s.fuel ≡ 0
ended_spent f (go x t) s h e = absurd (cc)
ended_spent f (over p t) s h e = let same : p ≡ spent = cc in let states : t ≡ s = cc in subst (λ z. z.fuel ≡ 0) states (h same)

pub spent_is_none : SpentIsNone
spent_is_none m f v answers fuel s e = ended_spent fuel (run_thread m (function_at m.typed f) v (start answers fuel)) s (thread_kept Spending spending m (function_at m.typed f) v fuel (start answers fuel) (omega arith)) e
