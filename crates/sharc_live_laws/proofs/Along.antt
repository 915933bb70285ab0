-- Runs along code: what a run does to its locals is a way through the code, and so is what each call does that it makes.
use Rattle.sharc_live_laws.proofs.{Imports.{◌≡◌, ◌≢◌, ℕ, ◌<◌, ◌≤◌, Bool, true, false, ◌==◌, List, [], ◌∷◌, ◌++◌, ◌⊎◌, inl, inr, Contains, refl, sym, ap, ◌∙◌, subst, arith, append_assoc, append-nil, length, Function, Resolution, functions_in, Act, Reads, Nulls, Writes, To, Next, Ends, Code, first_then, goes_on, function_flow, Use, reads, writes, nulls, Traced, State, Out, go, over, Run, then_on, ◌>>=◌, give, ends_temporaries, temporarily, ends_variables, in_block}, Ways.{Way, way_cut, way_then, way_leaves, idle_ends, idle_before, idle_behind}}

-- ---- what a trace shows of a variable in a call

abbrev pub act_of : ℕ → Use → ℕ → Act
act_of x reads token = Reads x token
act_of x writes token = Writes x
act_of x nulls token = Nulls x token

-- the one action, if the test is met
abbrev pub only_if : Bool → Act → List Act
only_if true a = a ∷ []
only_if false a = []

abbrev pub shown_if : Bool → List Act → List Act
shown_if true l = l
shown_if false l = []

abbrev pub shown_one : ℕ → ℕ → Traced → List Act
shown_one x call t = shown_if (t.call == call) (only_if (t.variable == x) (act_of x t.use_made t.site.token))

abbrev pub shown : ℕ → ℕ → List Traced → List Act
shown x call [] = []
shown x call (t ∷ rest) = shown_one x call t ++ shown x call rest

pub shown_both : (x call : ℕ) (a b : List Traced) → shown x call (a ++ b) ≡ shown x call a ++ shown x call b
shown_both x call [] b = refl
shown_both x call (t ∷ a) b = ap (λ z. shown_one x call t ++ z) (shown_both x call a b) ∙ sym (append_assoc (shown_one x call t) (shown x call a) (shown x call b))

-- whatever it goes on with
abbrev pub Any : {A : Type 0} → A → Type 0
Any v = Unit {0}

-- it goes on to what comes next
abbrev pub onward : {A : Type 0} → A → To
onward v = Next

module _ (r : Resolution) (x : ℕ) where
  -- what is shown of one of the calls from lo on, below hi: a way through its function
  pub record Travelled (lo hi call : ℕ) (us : List Act) : Type 0 where
    pub low : lo ≤ call
    pub high : call < hi
    pub function : Function
    pub among : Contains (functions_in r.program.items) function
    pub way : Way x (function_flow r function) Ends us

  abbrev pub Other : ℕ → ℕ → ℕ → List Act → Type 0
  Other lo hi call us = (us ≡ []) ⊎ Travelled lo hi call us

  -- What was done in this call is a way through the code to this exit. There were lo calls before and are hi now, and the trace has grown.
  pub record Moved (c : Code) (to : To) (call lo hi : ℕ) (before after : List Traced) : Type 0 where
    pub more : List Traced
    pub trace : after ≡ before ++ more
    pub calls : lo ≤ hi
    pub way : Way x c to (shown x call more)
    pub others : (j : ℕ) → j ≢ call → Other lo hi j (shown x j more)

  abbrev pub Went : Code → To → State → State → Type 0
  Went c to s t = Moved c to s.frame.call s.calls t.calls s.trace t.trace

  -- a run that goes on is in its frame again, with a value of which this is a fact
  abbrev pub Reached : {A : Type 0} → Code → (A → To) → (A → Type 0) → State → Out A → Type 0
  Reached c exit fact s (go v t) = (t.frame.call ≡ s.frame.call) × Went c (exit v) s t × fact v
  Reached c exit fact s (over o t) = Went c Ends s t

  pub record Along {A : Type 0} (c : Code) (exit : A → To) (fact : A → Type 0) (m : Run A) : Type 0 where
    pub from_state : (s : State) → s.frame.call < s.calls → Reached c exit fact s (m s)

  -- ---- calls in turn

  other_both : (lo mid hi j : ℕ) (us vs : List Act) → lo ≤ mid → mid ≤ hi → Other lo mid j us → Other mid hi j vs → Other lo hi j (us ++ vs)
  other_both lo mid hi j us vs l h (inl e) (inl f) = inl (ap (λ z. z ++ vs) e ∙ f)
  other_both lo mid hi j us vs l h (inl e) (inr t) = let low = t.low in
      inr (record { low = omega arith; high = t.high; function = t.function; among = t.among; way = subst (λ z. Way x (function_flow r t.function) Ends (z ++ vs)) (sym e) t.way })
  other_both lo mid hi j us vs l h (inr t) (inl f) = let high = t.high in
      inr (record { low = t.low; high = omega arith; function = t.function; among = t.among; way = subst (λ z. Way x (function_flow r t.function) Ends z) (sym (ap (λ z. us ++ z) f ∙ append-nil us)) t.way })
  other_both lo mid hi j us vs l h (inr t) (inr u) = let high = t.high in let low = u.low in absurd (omega arith)

  -- a way of the first and a way of the second make one of both
  abbrev pub Mix : Code → To → Code → Code → Type 0
  Mix a to b c = (t : To) (us vs : List Act) → Way x a to us → Way x b t vs → Way x c t (us ++ vs)

  pub moved_both : (a b c : Code) (to t : To) (call lo mid hi : ℕ) (l0 l1 l2 : List Traced) → Mix a to b c → Moved a to call lo mid l0 l1 → Moved b t call mid hi l1 l2 → Moved c t call lo hi l0 l2
  moved_both a b c to t call lo mid hi l0 l1 l2 mix p q = let first = p.calls in let second = q.calls in record {
    more = p.more ++ q.more;
    trace = q.trace ∙ ap (λ z. z ++ q.more) p.trace ∙ append_assoc l0 p.more q.more;
    calls = omega arith;
    way = subst (λ z. Way x c t z) (sym (shown_both x call p.more q.more)) (mix t (shown x call p.more) (shown x call q.more) p.way q.way);
    others = λ j n. subst (λ z. Other lo hi j z) (sym (shown_both x j p.more q.more)) (other_both lo mid hi j (shown x j p.more) (shown x j q.more) first second (p.others j n) (q.others j n));
  }

  pub moved_as : (a c : Code) (to t : To) (call lo hi : ℕ) (l0 l1 : List Traced) → ((us : List Act) → Way x a to us → Way x c t us) → Moved a to call lo hi l0 l1 → Moved c t call lo hi l0 l1
  moved_as a c to t call lo hi l0 l1 h p = record { more = p.more; trace = p.trace; calls = p.calls; way = h (shown x call p.more) p.way; others = p.others }

  pub moved_not : (c : Code) (to : To) (call lo hi : ℕ) (l0 l1 : List Traced) → l1 ≡ l0 → hi ≡ lo → Way x c to [] → Moved c to call lo hi l0 l1
  moved_not c to call lo hi l0 l1 same none way = record { more = []; trace = same ∙ sym (append-nil l0); calls = omega arith; way = way; others = λ j n. inl refl }

  -- ---- runs in turn

  -- what is reached after a first part
  pub reached_behind : {B : Type 0} (a b c : Code) (to : To) (exit : B → To) (fact : B → Type 0) (s t : State) (o : Out B) → Mix a to b c → t.frame.call ≡ s.frame.call → Went a to s t → Reached b exit fact t o → Reached c exit fact s o
  reached_behind a b c to exit fact s t (go v u) mix e p h =
      (h.0 ∙ e, moved_both a b c to (exit v) s.frame.call s.calls t.calls u.calls s.trace t.trace u.trace mix p (subst (λ z. Moved b (exit v) z t.calls u.calls t.trace u.trace) e h.1), h.2)
  reached_behind a b c to exit fact s t (over o u) mix e p h =
      moved_both a b c to Ends s.frame.call s.calls t.calls u.calls s.trace t.trace u.trace mix p (subst (λ z. Moved b Ends z t.calls u.calls t.trace u.trace) e h)

  pub still_ready : (s t : State) (c : Code) (to : To) → s.frame.call < s.calls → t.frame.call ≡ s.frame.call → Went c to s t → t.frame.call < t.calls
  still_ready s t c to ready e p = let more = p.calls in omega arith

  pub binds_by : {A B : Type 0} {a b c : Code} {to : To} {exit : B → To} {fact : A → Type 0} {fact2 : B → Type 0} {m : Run A} {f : A → Run B}
      → Mix a to b c → ((us : List Act) → Way x a Ends us → Way x c Ends us)
      → Along a (λ v. to) fact m → ((v : A) → fact v → Along b exit fact2 (f v)) → Along c exit fact2 (m >>= f)
  binds_by {A = A} {a = a} {b = b} {c = c} {to = to} {exit = exit} {fact = fact} {fact2 = fact2} {m = m} {f = f} mix ends hm hf = record { from_state = λ s ready. behind s ready (m s) (hm.from_state s ready) }
    where
      behind : (s : State) → s.frame.call < s.calls → (o : Out A) → Reached a (λ v. to) fact s o → Reached c exit fact2 s (then_on o f)
      behind s ready (go v t) h = reached_behind a b c to exit fact2 s t (f v t) mix h.0 h.1 ((hf v h.2).from_state t (still_ready s t a to ready h.0 h.1))
      behind s ready (over o t) h = moved_as a c Ends Ends s.frame.call s.calls t.calls s.trace t.trace ends h

  -- one piece and then another
  pub binds : {A B : Type 0} {a b : Code} {exit : B → To} {fact : A → Type 0} {fact2 : B → Type 0} {m : Run A} {f : A → Run B}
      → Along a onward fact m → ((v : A) → fact v → Along b exit fact2 (f v)) → Along (first_then a b) exit fact2 (m >>= f)
  binds {a = a} {b = b} hm hf = binds_by (λ t us vs p q. way_then x a b t us vs p q) (λ us p. way_leaves x a b Ends us tt p) hm hf

  -- a piece, with what is not seen after it or before it
  pub then_idle : {A B : Type 0} {a : Code} {exit : B → To} {fact : A → Type 0} {fact2 : B → Type 0} {m : Run A} {f : A → Run B}
      → Along a onward fact m → ((v : A) → fact v → Along goes_on exit fact2 (f v)) → Along a exit fact2 (m >>= f)
  then_idle {a = a} hm hf = binds_by (λ t us vs p q. idle_behind x a t us vs p q) (λ us p. p) hm hf

  pub idle_then : {A B : Type 0} {b : Code} {exit : B → To} {fact : A → Type 0} {fact2 : B → Type 0} {m : Run A} {f : A → Run B}
      → Along goes_on onward fact m → ((v : A) → fact v → Along b exit fact2 (f v)) → Along b exit fact2 (m >>= f)
  idle_then {b = b} hm hf = binds_by (λ t us vs p q. idle_before x b t us vs p q) (λ us p. idle_ends x b us p) hm hf

  -- ---- one run, otherwise seen

  -- other code that has the ways of the first
  pub along_as : {A : Type 0} {a c : Code} {exit exit2 : A → To} {fact fact2 : A → Type 0} {m : Run A}
      → ((v : A) (us : List Act) → Way x a (exit v) us → Way x c (exit2 v) us) → ((us : List Act) → Way x a Ends us → Way x c Ends us) → ((v : A) → fact v → fact2 v) → Along a exit fact m → Along c exit2 fact2 m
  along_as {A = A} {a = a} {c = c} {exit = exit} {exit2 = exit2} {fact = fact} {fact2 = fact2} {m = m} to_exit to_end facts h = record { from_state = λ s ready. seen s (m s) (h.from_state s ready) }
    where
      seen : (s : State) (o : Out A) → Reached a exit fact s o → Reached c exit2 fact2 s o
      seen s (go v t) k = (k.0, moved_as a c (exit v) (exit2 v) s.frame.call s.calls t.calls s.trace t.trace (to_exit v) k.1, facts v k.2)
      seen s (over o t) k = moved_as a c Ends Ends s.frame.call s.calls t.calls s.trace t.trace to_end k

  pub along_cut : {A : Type 0} {c : Code} {exit : A → To} {fact : A → Type 0} {m : Run A} → Along c exit fact m → Along c (λ v. Ends) fact m
  along_cut {c = c} {exit = exit} h = along_as (λ v us w. way_cut x c (exit v) us w) (λ us w. w) (λ v k. k) h

  pub gives : {A : Type 0} (c : Code) (exit : A → To) (fact : A → Type 0) (v : A) → Way x c (exit v) [] → fact v → Along c exit fact (give v)
  gives c exit fact v way is = record { from_state = λ s ready. (refl, moved_not c (exit v) s.frame.call s.calls s.calls s.trace s.trace refl refl way, is) }

  -- the ends of temporaries and of variables are not seen
  pub scoped : {A : Type 0} {c : Code} {exit : A → To} {fact : A → Type 0} {m : Run A} → Along c exit fact m → Along c exit fact (temporarily m)
  scoped {A = A} {c = c} {exit = exit} {fact = fact} {m = m} h = record { from_state = λ s ready. seen s (length s.frame.temporaries) (m s) (h.from_state s ready) }
    where
      seen : (s : State) (n : ℕ) (o : Out A) → Reached c exit fact s o → Reached c exit fact s (ends_temporaries n o)
      seen s n (go v t) k = k
      seen s n (over o t) k = k

  pub blocked : {A : Type 0} {c : Code} {exit : A → To} {fact : A → Type 0} {m : Run A} → Along c exit fact m → Along c exit fact (in_block m)
  blocked {A = A} {c = c} {exit = exit} {fact = fact} {m = m} h = record { from_state = λ s ready. seen s (length s.frame.variables) (m s) (h.from_state s ready) }
    where
      seen : (s : State) (n : ℕ) (o : Out A) → Reached c exit fact s o → Reached c exit fact s (ends_variables n o)
      seen s n (go v t) k = k
      seen s n (over o t) k = k
