-- Runs that free what they take: from events of which none waits to be freed they come to such events, or want the event that frees what was taken last.
use Rattle.sharc_meaning.proofs.{Imports.{◌≡◌, ◌⊎◌, inl, inr, ℕ, zero, suc, Bool, true, false, not, ◌&&◌, cond, List, [], ◌∷◌, ◌++◌, refl, sym, ap, ◌∙◌, subst, append_assoc, length, both_ways, AllByRecursion, ℤ, pos, drop, Act, CellAt, CellMode, Object, SourceEvent, ToFree, Site, Span, span_of, Expression, Resolution, cell_at, Assignment, Sharing, cell_of, is_null, number_of, taken_to_free, GivenUp, Emptied, Frame, State, Outcome, wants, Out, go, over, Run, Step, then_on, ◌>>◌, give, done, enters_with, happens, answered, answer_of, value_of, event_of, ends_temporaries, ends_variables, without_temporaries, all_released, pointers_among, StorePlace, variable, cell, access_mode, nulled, taken_from, freed, place_called, Flow, next, broken, returned, turns, back_in, with_frame, takes_something}, Closed.{NotEmptied, Closed}}
use Rattle.sharc_tree.specs.declared.tree.expression.PlaceCall.TheVariants.{Free}
use Rattle.sharc_tree.specs.declared.event.Taken.TheVariants as taken
use Rattle.sharc_meaning.specs.Statements.{on_turn}

-- ---- lists of events

-- what follows the event frees what it takes
abbrev pub Frees : SourceEvent → SourceEvent → Type 0
Frees e d = takes_something e ≡ true → d.act ≡ Act.Freed e.answer

-- each event that takes something is followed by the one that frees it, but for the last
abbrev pub Followed : List SourceEvent → Type 0
Followed [] = Unit {0}
Followed (e ∷ []) = Unit {0}
Followed (e ∷ d ∷ rest) = Frees e d × Followed (d ∷ rest)

-- and the last one takes nothing
abbrev pub Settled : List SourceEvent → Type 0
Settled [] = Unit {0}
Settled (e ∷ []) = takes_something e ≡ false
Settled (e ∷ d ∷ rest) = Frees e d × Settled (d ∷ rest)

no_take : (e d : SourceEvent) → takes_something e ≡ false → Frees e d
no_take e d h t = absurd (both_ways _ h t)

-- with one event more that takes nothing
settled_next : (l : List SourceEvent) (x : SourceEvent) → Settled l → takes_something x ≡ false → Settled (l ++ x ∷ [])
settled_next [] x h n = n
settled_next (e ∷ []) x h n = (no_take e x h, n)
settled_next (e ∷ d ∷ rest) x h n = (h.0, settled_next (d ∷ rest) x h.1 n)

-- with two events more, of which the second frees what the first takes
settled_freed : (l : List SourceEvent) (x y : SourceEvent) → Settled l → Frees x y → takes_something y ≡ false → Settled (l ++ x ∷ y ∷ [])
settled_freed [] x y h f n = (f, n)
settled_freed (e ∷ []) x y h f n = (no_take e x h, (f, n))
settled_freed (e ∷ d ∷ rest) x y h f n = (h.0, settled_freed (d ∷ rest) x y h.1 f n)

pub settled_followed : (l : List SourceEvent) → Settled l → Followed l
settled_followed [] h = tt
settled_followed (e ∷ []) h = tt
settled_followed (e ∷ d ∷ rest) h = (h.0, settled_followed (d ∷ rest) h.1)

pub pending_followed : (l : List SourceEvent) (x : SourceEvent) → Settled l → Followed (l ++ x ∷ [])
pending_followed [] x h = tt
pending_followed (e ∷ []) x h = (no_take e x h, tt)
pending_followed (e ∷ d ∷ rest) x h = (h.0, pending_followed (d ∷ rest) x h.1)

pub followed_there : (l before : List SourceEvent) (e d : SourceEvent) (after : List SourceEvent) → Followed l → l ≡ before ++ e ∷ d ∷ after → Frees e d
followed_there [] [] e d after h is = absurd (cc)
followed_there [] (b ∷ before) e d after h is = absurd (cc)
followed_there (x ∷ []) [] e d after h is = absurd (cc)
followed_there (x ∷ []) (b ∷ []) e d after h is = absurd (cc)
followed_there (x ∷ []) (b ∷ c ∷ before) e d after h is = absurd (cc)
followed_there (x ∷ y ∷ rest) [] e d after h is = let a : x ≡ e = cc in let b : y ≡ d = cc in subst (λ z. Frees z d) a (subst (λ z. Frees x z) b h.0)
followed_there (x ∷ y ∷ rest) (b ∷ before) e d after h is = let tails : y ∷ rest ≡ before ++ e ∷ d ∷ after = cc in followed_there (y ∷ rest) before e d after h.1 tails

-- the last of settled events takes nothing
pub settled_last : (l before : List SourceEvent) (e : SourceEvent) → Settled l → l ≡ before ++ e ∷ [] → takes_something e ≡ false
settled_last [] [] e h is = absurd (cc)
settled_last [] (b ∷ before) e h is = absurd (cc)
settled_last (x ∷ []) [] e h is = let a : x ≡ e = cc in subst (λ z. takes_something z ≡ false) a h
settled_last (x ∷ []) (b ∷ []) e h is = absurd (cc)
settled_last (x ∷ []) (b ∷ c ∷ before) e h is = absurd (cc)
settled_last (x ∷ y ∷ rest) [] e h is = absurd (cc)
settled_last (x ∷ y ∷ rest) (b ∷ before) e h is = let tails : y ∷ rest ≡ before ++ e ∷ [] = cc in settled_last (y ∷ rest) before e h.1 tails

-- ---- what is given up
plain_append : (a b : List GivenUp) → AllByRecursion NotEmptied a → AllByRecursion NotEmptied b → AllByRecursion NotEmptied (a ++ b)
plain_append [] b ha hb = hb
plain_append (g ∷ a) b ha hb = (ha.0, plain_append a b ha.1 hb)

released_plain : (vs : List ℤ) → AllByRecursion NotEmptied (all_released vs)
released_plain [] = tt
released_plain (v ∷ vs) = (tt, released_plain vs)

pub no_emptied : (before : List GivenUp) (n : ℕ) → AllByRecursion NotEmptied (before ++ Emptied n ∷ []) → ⊥
no_emptied [] n h = h.0
no_emptied (g ∷ before) n h = no_emptied before n h.1

-- ---- runs

-- nothing waits to be freed, and no cells of an object were given up since the last event
abbrev pub Still : State → Type 0
Still s = Settled s.events × AllByRecursion NotEmptied s.given_up

-- its last event takes this, and it is not freed yet
pub record Pending (v : ℤ) (s : State) : Type 0 where
  pub before : List SourceEvent
  pub event : SourceEvent
  pub stands : s.events ≡ before ++ event ∷ []
  pub settled : Settled before
  pub takes : takes_something event ≡ true
  pub answer : event.answer ≡ v

-- it wants the event that frees what its last event takes, holds that, and has given up what the cells of it hold
pub record Freeing (o : Outcome) (s : State) : Type 0 where
  pub reference : ℤ
  pub pending : Pending reference s
  pub event : SourceEvent
  pub wanted : o ≡ wants event
  pub act : event.act ≡ Act.Freed reference
  pub before : List GivenUp
  pub given_is : s.given_up ≡ before ++ Emptied (number_of reference) ∷ []
  pub held : (others : List ℤ) × (s.frame.temporaries ≡ others ++ reference ∷ [])

abbrev pub Ends : Outcome → State → Type 0
Ends o s = Still s ⊎ Freeing o s

abbrev pub Calm : {A : Type 0} → Out A → Type 0
Calm (go x s) = Still s
Calm (over o s) = Ends o s

abbrev pub Quiet : (A : Type 0) → Run A → Type 0
Quiet A m = (s : State) → Still s → Calm (m s)

calm_entered : {A : Type 0} (k : ℕ) (m : Run A) (s : State) → Quiet A m → Still s → Calm (then_on (enters_with k s) (λ _. m))
calm_entered zero m s q h = inl h
calm_entered (suc k) m s q h = q (record s { fuel = k }) h

other_take : (e : SourceEvent) → taken_to_free e.act ≡ false → takes_something e ≡ false
other_take e h = ap (λ b. b && not (is_null e.answer)) h

calm_event : (xs : List ℤ) (site : Site) (act : Act) (s : State) → taken_to_free act ≡ false → Still s → Calm (happens xs site act s)
calm_event [] site act s other h = inl h
calm_event (x ∷ xs) site act s other h = let e = event_of site act (answer_of (value_of s) act x) in (settled_next s.events e h.0 (other_take e other), tt)

calm_then : {A B : Type 0} (o : Out A) (g : A → Run B) → Calm o → ((x : A) → Quiet B (g x)) → Calm (then_on o g)
calm_then (go x s) g h k = k x s h
calm_then (over o s) g h k = h

calm_turn : (f : Flow) (m : Run Flow) (s : State) → Still s → Calm (m s) → Calm (on_turn f m s)
calm_turn broken m s h q = h
calm_turn (returned site v) m s h q = h
calm_turn _ m s h q = q

calm_cond : {A : Type 0} (b : Bool) (m k : Run A) (s : State) → Calm (m s) → Calm (k s) → Calm (cond b m k s)
calm_cond true m k s h l = h
calm_cond false m k s h l = l

calm_turns : (k : ℕ) (test : Run Bool) (step : Step) (body : Run Flow) → Quiet Bool test → Quiet (Unit {0}) step → Quiet Flow body → Quiet Flow (turns k test step body)
calm_turns zero test step body qt qs qb s h = inl h
calm_turns (suc k) test step body qt qs qb s h = calm_then (test s) _ (qt s h) (λ b t ht. calm_cond b _ (give next) t
    (calm_then (body t) _ (qb t ht) (λ f u hu. calm_turn f _ u hu (calm_then (step u) _ (qs u hu) (λ _ w hw. calm_turns k test step body qt qs qb w hw)))) ht)

calm_temporaries : {A : Type 0} (n : ℕ) (o : Out A) → Calm o → Calm (ends_temporaries n o)
calm_temporaries n (go x s) h = (h.0, plain_append s.given_up (all_released (drop n s.frame.temporaries)) h.1 (released_plain (drop n s.frame.temporaries)))
calm_temporaries n (over o s) h = h

calm_variables : {A : Type 0} (n : ℕ) (o : Out A) → Calm o → Calm (ends_variables n o)
calm_variables n (go x s) h = (h.0, plain_append s.given_up (all_released (pointers_among (drop n s.frame.variables))) h.1 (released_plain (pointers_among (drop n s.frame.variables))))
calm_variables n (over o s) h = h

calm_back : {A : Type 0} (caller : Frame) (others : List Frame) (o : Out A) → Calm o → Calm (back_in caller others o)
calm_back caller others (go x s) h = h
calm_back caller others (over o s) h = h

-- ---- a `free`

-- NULL was taken, or something that is not freed yet
record TookNull (v : ℤ) (s : State) : Type 0 where
  null : is_null v ≡ true
  still : Still s

abbrev Taken : Out ℤ → Type 0
Taken (go v s) = TookNull v s ⊎ Pending v s
Taken (over o s) = Ends o s

taken_then : {A : Type 0} (o : Out A) (g : A → Run ℤ) → Calm o → ((x : A) (s : State) → Still s → Taken (g x s)) → Taken (then_on o g)
taken_then (go x s) g h k = k x s h
taken_then (over o s) g h k = h

taken_temporaries : (n : ℕ) (o : Out ℤ) → Taken o → Taken (ends_temporaries n o)
taken_temporaries n (go v s) (inl h) = inl (record { null = h.null; still = calm_temporaries n (go v s) h.still })
taken_temporaries n (go v s) (inr p) = inr (record { before = p.before; event = p.event; stands = p.stands; settled = p.settled; takes = p.takes; answer = p.answer })
taken_temporaries n (over o s) h = h

-- of a variable that is not NULL
taken_held : (xs : List ℤ) (token site : Site) (x : ℕ) (s : State) → is_null (value_of s x) ≡ false → Still s
    → Taken (then_on (happens xs site (Act.Take (taken.Local x) ToFree) s) (λ _. nulled token x >> give (value_of s x)))
taken_held [] token site x s some h = inl h
taken_held (y ∷ ys) token site x s some h = inr (record {
  before = s.events;
  event = event_of site (Act.Take (taken.Local x) ToFree) (value_of s x);
  stands = refl;
  settled = h.0;
  takes = ap not some;
  answer = refl;
})

taken_local : (token site : Site) (x : ℕ) (s : State) → (b : Bool) → is_null (value_of s x) ≡ b → Still s
    → Taken (then_on (cond b (give (value_of s x)) (answered site (Act.Take (taken.Local x) ToFree)) s) (λ _. nulled token x >> give (value_of s x)))
taken_local token site x s true is h = inl (record { null = is; still = h })
taken_local token site x s false is h = taken_held s.answers token site x s is h

taken_answer : (xs : List ℤ) (site : Site) (c : CellAt) (mode : CellMode) (s : State) → Still s → Taken (happens xs site (Act.Take (taken.Cell c mode) ToFree) s)
taken_answer [] site c mode s h = inl h
taken_answer (x ∷ xs) site c mode s h = by (is_null x) refl
  where
    by : (b : Bool) → is_null x ≡ b → Taken (happens (x ∷ xs) site (Act.Take (taken.Cell c mode) ToFree) s)
    by true is = inl (record { null = is; still = (settled_next s.events (event_of site (Act.Take (taken.Cell c mode) ToFree) x) h.0 (ap not is), tt) })
    by false is = inr (record {
      before = s.events;
      event = event_of site (Act.Take (taken.Cell c mode) ToFree) x;
      stands = refl;
      settled = h.0;
      takes = ap not is;
      answer = refl;
    })

taken_there : (r : Resolution) (token site : Site) (mode : Sharing) (p : StorePlace) → ((o : Object) (first : ℕ) → Quiet CellMode (access_mode r site mode o first))
    → (s : State) → Still s → Taken (taken_from r token site mode ToFree p s)
taken_there r token site mode (variable x) q s h = taken_local token site x s (is_null (value_of s x)) refl h
taken_there r token site mode (cell o first c) q s h = taken_then (access_mode r site mode o first s) _ (q o first s h) (λ under t ht. taken_answer t.answers site (cell_of o c) under t ht)

pub pending_some : (v : ℤ) (s : State) → Pending v s → is_null v ≡ false
pending_some v s p = by (is_null v) refl (taken_to_free p.event.act) (subst (λ z. (taken_to_free p.event.act && not (is_null z)) ≡ true) p.answer p.takes)
  where
    by : (n : Bool) → is_null v ≡ n → (b : Bool) → (b && not (is_null v)) ≡ true → is_null v ≡ false
    by false is b h = is
    by true is true h = absurd (both_ways _ (ap not is) h)
    by true is false h = absurd (cc)

-- what is taken is freed
freed_next : (xs : List ℤ) (site : Site) (v : ℤ) (s : State) (before : List GivenUp) → s.given_up ≡ before ++ Emptied (number_of v) ∷ [] → (others : List ℤ) × (s.frame.temporaries ≡ others ++ v ∷ []) → Pending v s → Calm (happens xs site (Act.Freed v) s)
freed_next [] site v s before given held p = inr (record {
  reference = v;
  pending = p;
  event = event_of site (Act.Freed v) (pos 0);
  wanted = refl;
  act = refl;
  before = before;
  given_is = given;
  held = held;
})
freed_next (x ∷ xs) site v s before given held p =
    let e = event_of site (Act.Freed v) (pos 0) in
    (subst Settled (sym (ap (λ l. l ++ e ∷ []) p.stands ∙ append_assoc p.before (p.event ∷ []) (e ∷ []))) (settled_freed p.before p.event e p.settled (λ _. ap Act.Freed (sym p.answer)) refl), tt)

calm_freed : (o : Out ℤ) (site : Site) → Taken o → Calm (then_on o (λ v. cond (is_null v) done (freed site v)))
calm_freed (go v s) site (inl h) = rw h.null h.still
calm_freed (go v s) site (inr p) = rw (pending_some v s p) (calm_then _ _ (calm_then _ _
    (freed_next s.answers site v _ s.given_up refl (s.frame.temporaries, refl) (record { before = p.before; event = p.event; stands = p.stands; settled = p.settled; takes = p.takes; answer = p.answer }))
    (λ _ t ht. ht)) (λ _ t ht. ht))
calm_freed (over o s) site h = h

calm_free : (m : Assignment) (s : Span) (a : Expression) (place : Run StorePlace) → Quiet StorePlace place
    → ((o : Object) (first : ℕ) → Quiet CellMode (access_mode m.typed (span_of a).first (cell_at m a) o first)) → Quiet (Unit {0}) (place_called m s Free a place)
calm_free m s a place q access t h = calm_freed _ (span_of a).first (taken_temporaries _ _
    (taken_then (place t) _ (q t h) (λ p u hu. taken_there m.typed s.first (span_of a).first (cell_at m a) p access u hu)))

pub calm : Closed true (λ _. Quiet)
calm = record {
  eases = λ A m h. h;
  give = λ A x s h. h;
  stop = λ A trap site s h. inl h;
  enters = λ A m q s h. calm_entered s.fuel m s q h;
  event = λ site act other s h. calm_event s.answers site act s (other refl) h;
  events = λ s h. h;
  values = λ s h. h;
  trace = λ u token site s h. h;
  frame = λ f s h. h;
  given = λ more plain s h. (h.0, plain_append s.given_up more h.1 (plain refl));
  binds = λ A B m g qm qg s h. calm_then (m s) g (qm s h) qg;
  scope = λ A m q s h. calm_temporaries (length s.frame.temporaries) (m s) (q s h);
  block = λ A m q s h. calm_variables (length s.frame.variables) (m s) (q s h);
  call = λ A n m q s h. calm_back (without_temporaries n s.frame) s.callers (m (with_frame (without_temporaries n s.frame) s)) (q (with_frame (without_temporaries n s.frame) s) h);
  loops = λ test step body qt qs qb s h. calm_turns s.fuel test step body qt qs qb s h;
  frees = λ _. calm_free;
}
