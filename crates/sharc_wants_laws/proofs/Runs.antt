-- Runs that lose no reference, and that lose none with more fuel: how they are put together.
use Rattle.sharc_wants_laws.proofs.{Imports.{◌≡◌, ℕ, zero, suc, ◌+◌, ◌<◌, ◌≤◌, Bool, true, false, cond, List, [], ◌∷◌, ◌++◌, refl, sym, ap, ◌∙◌, subst, arith, length, take, drop, take_at, append-nil, AllByRecursion, ℤ, Resolution, Variable, Frame, State, Outcome, wants, spent, Out, go, over, Run, Step, then_on, ◌>>=◌, ◌>>◌, give, entered, enters_with, all_released, pointers_among, ends_temporaries, temporarily, ends_variables, in_block, Flow, next, broken, returned, turns, loop}, Counts.{Declared, total, cut_temporaries, cut_variables}}
use Rattle.sharc_meaning.specs.Statements.{on_turn}

abbrev pub state_of : {A : Type 0} → Out A → State
state_of (go x s) = s
state_of (over o s) = s

-- ---- the temporaries behind a run: these, or these and more

abbrev pub Same : {A : Type 0} → List ℤ → A → List ℤ → Type 0
Same ts x us = us ≡ ts

abbrev pub Starts : {A : Type 0} → List ℤ → A → List ℤ → Type 0
Starts ts x us = (ws : List ℤ) × (us ≡ ts ++ ws)

pub same_starts : {A : Type 0} (ts : List ℤ) (x : A) (us : List ℤ) → Same ts x us → Starts ts x us
same_starts ts x us h = ([], h ∙ sym (append-nil ts))

pub starts_on : {A : Type 0} (ts us : List ℤ) (x : A) (vs : List ℤ) → Starts ts x us → Same us x vs → Starts ts x vs
starts_on ts us x vs h same = (h.0, same ∙ h.1)

-- ---- where no event comes the total does not fall

pub record UpBy (e w f v : ℕ) : Type 0 where
  pub events : e ≤ f
  pub total : f ≤ e → w ≤ v

pub up_level : (e w v : ℕ) → w ≤ v → UpBy e w e v
up_level e w v h = record { events = omega arith; total = λ _. h }

pub up_event : (e w f v : ℕ) → e < f → UpBy e w f v
up_event e w f v h = record { events = omega arith; total = λ le. absurd (omega arith) }

pub up_on : (e w f v g u : ℕ) → UpBy e w f v → UpBy f v g u → UpBy e w g u
up_on e w f v g u h k =
    let a : e ≤ f = h.events in
    let b : f ≤ g = k.events in
    record {
      events = omega arith;
      total = λ le. let x : w ≤ v = h.total (omega arith) in let y : v ≤ u = k.total (omega arith) in omega arith;
    }

-- From before an event to before it, from before an event to behind it, and from behind it on: there the total may fall.
abbrev pub Moves : Bool → Bool → ℕ → ℕ → ℕ → ℕ → Type 0
Moves false false e w f v = UpBy e w f v
Moves false true e w f v = e < f
Moves true true e w f v = e ≤ f
Moves true false e w f v = ⊥

pub moves_level : (b : Bool) (e w v : ℕ) → w ≤ v → Moves b b e w e v
moves_level false e w v h = up_level e w v h
moves_level true e w v h = omega arith

moves_on : (a b c : Bool) (e w f v g u : ℕ) → Moves a b e w f v → Moves b c f v g u → Moves a c e w g u
moves_on false false false e w f v g u h k = up_on e w f v g u h k
moves_on false false true e w f v g u h k = let a : e ≤ f = h.events in omega arith
moves_on false true true e w f v g u h k = omega arith
moves_on true false c e w f v g u h k = absurd h
moves_on true true true e w f v g u h k = omega arith
moves_on _ true false e w f v g u h k = absurd k

-- it ends after such a move
moves_over : (a b : Bool) (e w f v g u : ℕ) → Moves a b e w f v → Moves b b f v g u → Moves a a e w g u
moves_over false false e w f v g u h k = up_on e w f v g u h k
moves_over false true e w f v g u h k = up_event e w g u (omega arith)
moves_over true false e w f v g u h k = absurd h
moves_over true true e w f v g u h k = omega arith

module _ (r : Resolution) (n : ℕ) where
  abbrev pub Up : State → State → Type 0
  Up s t = UpBy (length s.events) (total n s) (length t.events) (total n t)

  -- ---- one run: what it leaves where it goes on, and where it ends

  pub record Went {A : Type 0} (a b : Bool) (e w : ℕ) (callers : List Frame) (p : A → List ℤ → Type 0) (x : A) (t : State) : Type 0 where
    pub moves : Moves a b e w (length t.events) (total n t)
    pub callers_same : t.callers ≡ callers
    pub declared : AllByRecursion (Declared r) t.frame.variables
    pub after : p x t.frame.temporaries

  abbrev pub RanBy : {A : Type 0} → Bool → Bool → ℕ → ℕ → List Frame → (A → List ℤ → Type 0) → Out A → Type 0
  RanBy a b e w callers p (go x t) = Went a b e w callers p x t
  RanBy a b e w callers p (over o t) = Moves a a e w (length t.events) (total n t)

  abbrev pub Ran : {A : Type 0} → Bool → Bool → State → (A → List ℤ → Type 0) → Out A → Type 0
  Ran a b s p o = RanBy a b (length s.events) (total n s) s.callers p o

  -- these are the temporaries, and the variables are as declared
  abbrev pub At : List ℤ → State → Type 0
  At ts s = (s.frame.temporaries ≡ ts) × AllByRecursion (Declared r) s.frame.variables

  ran_on : {A : Type 0} (a b c : Bool) (e w : ℕ) (callers : List Frame) (t : State) (p : A → List ℤ → Type 0) (o : Out A) → Moves a b e w (length t.events) (total n t) → t.callers ≡ callers → Ran b c t p o → RanBy a c e w callers p o
  ran_on a b c e w callers t p (go x u) h same k = record {
    moves = moves_on a b c e w _ _ _ _ h k.moves;
    callers_same = k.callers_same ∙ same;
    declared = k.declared;
    after = k.after;
  }
  ran_on a b c e w callers t p (over o u) h same k = moves_over a b e w _ _ _ _ h k

  pub ran_then : {A B : Type 0} (a b c : Bool) (e w : ℕ) (callers : List Frame) (p : A → List ℤ → Type 0) (q : B → List ℤ → Type 0) (o : Out A) (f : A → Run B) → RanBy a b e w callers p o
      → ((x : A) (us : List ℤ) → p x us → (t : State) → At us t → Ran b c t q (f x t)) → RanBy a c e w callers q (then_on o f)
  ran_then a b c e w callers p q (go x t) f h k = ran_on a b c e w callers t q (f x t) h.moves h.callers_same (k x t.frame.temporaries h.after t (refl, h.declared))
  ran_then a b c e w callers p q (over o t) f h k = h

  pub ran_up : {A : Type 0} (e w : ℕ) (callers : List Frame) (p : A → List ℤ → Type 0) (o : Out A) → RanBy false false e w callers p o → UpBy e w (length (state_of o).events) (total n (state_of o))
  ran_up e w callers p (go x t) h = h.moves
  ran_up e w callers p (over o t) h = h

  pub ran_weak : {A : Type 0} (e w : ℕ) (callers : List Frame) (p : A → List ℤ → Type 0) (o : Out A) → RanBy false true e w callers p o → RanBy false false e w callers p o
  ran_weak e w callers p (go x t) h = record { moves = up_event e w _ _ h.moves; callers_same = h.callers_same; declared = h.declared; after = h.after }
  ran_weak e w callers p (over o t) h = h

  pub ran_as : {A : Type 0} (a b : Bool) (e w : ℕ) (callers : List Frame) (p q : A → List ℤ → Type 0) (o : Out A) → ((x : A) (us : List ℤ) → p x us → q x us) → RanBy a b e w callers p o → RanBy a b e w callers q o
  ran_as a b e w callers p q (go x t) f h = record { moves = h.moves; callers_same = h.callers_same; declared = h.declared; after = f x t.frame.temporaries h.after }
  ran_as a b e w callers p q (over o t) f h = h

  module _ (d : ℕ) where
    -- ---- the same run with more fuel

    abbrev pub more : State → State
    more s = record s { fuel = s.fuel + d }

    abbrev pub more_out : {A : Type 0} → Out A → Out A
    more_out (go x t) = go x (more t)
    more_out (over o t) = over o (more t)

    -- where the fuel was spent it goes on, and loses nothing
    abbrev pub Past : {A : Type 0} → Outcome → State → Out A → Type 0
    Past spent t o' = Up t (state_of o')
    Past k t o' = o' ≡ over k (more t)

    abbrev pub Goes : {A : Type 0} → Out A → Out A → Type 0
    Goes (go x t) o' = o' ≡ go x (more t)
    Goes (over o t) o' = Past o t o'

    past_steady : (A : Type 0) (o : Outcome) (t : State) → Past {A = A} o t (over o (more t))
    past_steady A spent t = up_level _ _ _ (omega arith)
    past_steady A _ t = refl

    pub goes_steady : {A : Type 0} (o o' : Out A) → o' ≡ more_out o → Goes o o'
    goes_steady (go x t) o' h = h
    goes_steady {A} (over o t) o' h = subst (λ z. Past {A = A} o t z) (sym h) (past_steady A o t)

    past_then : {A B : Type 0} (o : Outcome) (t : State) (o' : Out A) (f : A → Run B) (p : A → List ℤ → Type 0) (q : B → List ℤ → Type 0) (e w : ℕ) (callers : List Frame) → Past o t o' → RanBy false false e w callers p o'
        → ((x : A) (us : List ℤ) → p x us → (u : State) → At us u → Ran false false u q (f x u)) → Past o t (then_on o' f)
    past_then spent t (go x u) f p q e w callers h k l = up_on _ _ _ _ _ _ h (ran_up _ _ u.callers q (f x u) (l x u.frame.temporaries k.after u (refl, k.declared)))
    past_then spent t (over o2 u) f p q e w callers h k l = h
    past_then (wants z) t o' f p q e w callers h k l = ap (λ z. then_on z f) h
    past_then _ t o' f p q e w callers h k l = ap (λ z. then_on z f) h

    -- run by run, the second with more fuel
    pub goes_then : {A B : Type 0} (o o' : Out A) (f f' : A → Run B) (p : A → List ℤ → Type 0) (q : B → List ℤ → Type 0) (e w : ℕ) (callers : List Frame) → Goes o o' → RanBy false false e w callers p o → RanBy false false e w callers p o'
        → ((x : A) (us : List ℤ) → p x us → (t : State) → At us t → Goes (f x t) (f' x (more t))) → ((x : A) (us : List ℤ) → p x us → (t : State) → At us t → Ran false false t q (f' x t))
        → Goes (then_on o f) (then_on o' f')
    goes_then (go x t) o' f f' p q e w callers h k k' l l' = subst (λ z. Goes (f x t) (then_on z f')) (sym h) (l x t.frame.temporaries k.after t (refl, k.declared))
    goes_then (over o t) o' f f' p q e w callers h k k' l l' = past_then o t o' f' p q e w callers h k' l'

    pub record KeptAt {A : Type 0} (s : State) (m : Run A) (p : A → List ℤ → Type 0) : Type 0 where
      pub ran : Ran false false s p (m s)
      pub past : Goes (m s) (m (more s))

    pub record Kept {A : Type 0} (ts : List ℤ) (m : Run A) (p : A → List ℤ → Type 0) : Type 0 where
      pub runs : (s : State) → At ts s → KeptAt s m p

    pub then_at : {A B : Type 0} (s : State) (m : Run A) (f : A → Run B) (p : A → List ℤ → Type 0) (q : B → List ℤ → Type 0) → KeptAt s m p → KeptAt (more s) m p → ((x : A) (us : List ℤ) → p x us → Kept us (f x) q) → KeptAt s (m >>= f) q
    then_at s m f p q h h' k = record {
      ran = ran_then false false false _ _ _ p q (m s) f h.ran (λ x us y t at. ((k x us y).runs t at).ran);
      past = goes_then (m s) (m (more s)) f f p q (length s.events) (total n s) s.callers h.past h.ran h'.ran (λ x us y t at. ((k x us y).runs t at).past) (λ x us y t at. ((k x us y).runs t at).ran);
    }

    pub kept_then : {A B : Type 0} (ts : List ℤ) (m : Run A) (f : A → Run B) (p : A → List ℤ → Type 0) (q : B → List ℤ → Type 0) → Kept ts m p → ((x : A) (us : List ℤ) → p x us → Kept us (f x) q) → Kept ts (m >>= f) q
    kept_then ts m f p q h k = record { runs = λ s at. then_at s m f p q (h.runs s at) (h.runs (more s) at) k }

    pub kept_as : {A : Type 0} (ts : List ℤ) (m : Run A) (p q : A → List ℤ → Type 0) → ((x : A) (us : List ℤ) → p x us → q x us) → Kept ts m p → Kept ts m q
    kept_as ts m p q f h = record { runs = λ s at. record { ran = ran_as false false _ _ _ p q (m s) f (h.runs s at).ran; past = (h.runs s at).past } }

    pub kept_next : {A B : Type 0} (ts us : List ℤ) (m : Run A) (f : A → Run B) (q : B → List ℤ → Type 0) → Kept ts m (Same us) → ((x : A) → Kept us (f x) q) → Kept ts (m >>= f) q
    kept_next ts us m f q h k = kept_then ts m f (Same us) q h (λ x vs same. subst (λ z. Kept z (f x) q) (sym same) (k x))

    -- ---- one more statement or expression is entered

    entered_up : {A : Type 0} (ts : List ℤ) (m : Run A) (p : A → List ℤ → Type 0) → Kept ts m p → (k : ℕ) (s : State) → At ts s → Up s (state_of (then_on (enters_with k s) (λ _. m)))
    entered_up ts m p h zero s at = up_level _ _ _ (omega arith)
    entered_up ts m p h (suc k) s at = ran_up _ _ s.callers p (m (record s { fuel = k })) (h.runs (record s { fuel = k }) at).ran

    entered_ran : {A : Type 0} (ts : List ℤ) (m : Run A) (p : A → List ℤ → Type 0) → Kept ts m p → (k : ℕ) (s : State) → At ts s → Ran false false s p (then_on (enters_with k s) (λ _. m))
    entered_ran ts m p h zero s at = up_level _ _ _ (omega arith)
    entered_ran ts m p h (suc k) s at = (h.runs (record s { fuel = k }) at).ran

    entered_goes : {A : Type 0} (ts : List ℤ) (m : Run A) (p : A → List ℤ → Type 0) → Kept ts m p → (k : ℕ) (s : State) → At ts s → Goes (then_on (enters_with k s) (λ _. m)) (then_on (enters_with (k + d) (more s)) (λ _. m))
    entered_goes ts m p h zero s at = entered_up ts m p h (0 + d) (more s) at
    entered_goes ts m p h (suc k) s at = let z : suc k + d ≡ suc (k + d) = omega arith in rw z ((h.runs (record s { fuel = k }) at).past)

    pub kept_entered : {A : Type 0} (ts : List ℤ) (m : Run A) (p : A → List ℤ → Type 0) → Kept ts m p → Kept ts (entered m) p
    kept_entered ts m p h = record { runs = λ s at. record { ran = entered_ran ts m p h s.fuel s at; past = entered_goes ts m p h s.fuel s at } }

    -- ---- what is done to the state behind a run

    past_after : {A : Type 0} (W : Out A → Out A) (o : Outcome) (t : State) (o' : Out A) → ((o : Outcome) (s : State) → W (over o s) ≡ over o s) → Up (state_of o') (state_of (W o')) → Past o t o' → Past o t (W o')
    past_after W spent t o' ends up h = up_on _ _ _ _ _ _ h up
    past_after W k t o' ends up h = ap W h ∙ ends k (more t)

    pub goes_after : {A : Type 0} (W : Out A → Out A) (w : State → State) (o o' : Out A) → ((x : A) (s : State) → W (go x s) ≡ go x (w s)) → ((o : Outcome) (s : State) → W (over o s) ≡ over o s) → ((s : State) → w (more s) ≡ more (w s))
        → Up (state_of o') (state_of (W o')) → Goes o o' → Goes (W o) (W o')
    goes_after W w (go x s) o' goes ends commutes up h = subst (λ z. Goes z (W o')) (sym (goes x s)) (ap W h ∙ goes x (more s) ∙ ap (go x) (commutes s))
    goes_after W w (over o s) o' goes ends commutes up h = subst (λ z. Goes z (W o')) (sym (ends o s)) (past_after W o s o' ends up h)

    -- ---- temporaries end

    cut_up : {A : Type 0} (k : ℕ) (o : Out A) → Up (state_of o) (state_of (ends_temporaries k o))
    cut_up k (go x t) = up_level _ _ _ (let h = cut_temporaries n k t.frame.temporaries t.given_up in omega arith)
    cut_up k (over o t) = up_level _ _ _ (omega arith)

    cut_ran : {A : Type 0} (ts : List ℤ) (k : ℕ) → length ts ≡ k → (e w : ℕ) (callers : List Frame) (p : A → List ℤ → Type 0) → ((x : A) (us : List ℤ) → p x us → Starts ts x us) → (o : Out A) → RanBy false false e w callers p o → RanBy false false e w callers (Same ts) (ends_temporaries k o)
    cut_ran ts k long e w callers p begins (go x t) h = record {
      moves = up_on e w _ _ _ _ h.moves (cut_up k (go x t));
      callers_same = h.callers_same;
      declared = h.declared;
      after = let b = begins x t.frame.temporaries h.after in ap (take k) b.1 ∙ take_at ts b.0 k long;
    }
    cut_ran ts k long e w callers p begins (over o t) h = h

    pub kept_scope : {A : Type 0} (ts : List ℤ) (m : Run A) (p : A → List ℤ → Type 0) → ((x : A) (us : List ℤ) → p x us → Starts ts x us) → Kept ts m p → Kept ts (temporarily m) (Same ts)
    kept_scope ts m p begins h = record {
      runs = λ s at. record {
        ran = cut_ran ts (length s.frame.temporaries) (ap length (sym at.0)) _ _ s.callers p begins (m s) (h.runs s at).ran;
        past = goes_after (ends_temporaries (length s.frame.temporaries)) (λ t. record t { frame = record t.frame { temporaries = take (length s.frame.temporaries) t.frame.temporaries }; given_up = t.given_up ++ all_released (drop (length s.frame.temporaries) t.frame.temporaries) }) (m s) (m (more s)) (λ x t. refl) (λ o t. refl) (λ t. refl) (cut_up (length s.frame.temporaries) (m (more s))) (h.runs s at).past;
      };
    }

    -- ---- variables end

    take_declared : (k : ℕ) (xs : List Variable) → AllByRecursion (Declared r) xs → AllByRecursion (Declared r) (take k xs)
    take_declared zero xs h = tt
    take_declared (suc k) [] h = tt
    take_declared (suc k) (x ∷ xs) h = (h.0, take_declared k xs h.1)

    pub end_up : {A : Type 0} (k : ℕ) (o : Out A) → Up (state_of o) (state_of (ends_variables k o))
    end_up k (go x t) = up_level _ _ _ (let h = cut_variables n k t.frame.variables t.given_up in omega arith)
    end_up k (over o t) = up_level _ _ _ (omega arith)

    pub end_ran : {A : Type 0} (k : ℕ) (e w : ℕ) (callers : List Frame) (p : A → List ℤ → Type 0) (o : Out A) → RanBy false false e w callers p o → RanBy false false e w callers p (ends_variables k o)
    end_ran k e w callers p (go x t) h = record {
      moves = up_on e w _ _ _ _ h.moves (end_up k (go x t));
      callers_same = h.callers_same;
      declared = take_declared k t.frame.variables h.declared;
      after = h.after;
    }
    end_ran k e w callers p (over o t) h = h

    pub end_goes : {A : Type 0} (k : ℕ) (o o' : Out A) → Goes o o' → Goes (ends_variables k o) (ends_variables k o')
    end_goes k o o' h = goes_after (ends_variables k) (λ t. record t { frame = record t.frame { variables = take k t.frame.variables }; given_up = t.given_up ++ all_released (pointers_among (drop k t.frame.variables)) }) o o' (λ x t. refl) (λ o t. refl) (λ t. refl) (end_up k o') h

    pub kept_block : {A : Type 0} (ts : List ℤ) (m : Run A) (p : A → List ℤ → Type 0) → Kept ts m p → Kept ts (in_block m) p
    kept_block ts m p h = record {
      runs = λ s at. record {
        ran = end_ran (length s.frame.variables) _ _ s.callers p (m s) (h.runs s at).ran;
        past = end_goes (length s.frame.variables) (m s) (m (more s)) (h.runs s at).past;
      };
    }

    -- ---- loops

    ran_give : {A : Type 0} (ts : List ℤ) (x : A) (s : State) → At ts s → Ran false false s (Same ts) (give x s)
    ran_give ts x s at = record { moves = up_level _ _ _ (omega arith); callers_same = refl; declared = at.1; after = at.0 }

    ran_turn : (ts : List ℤ) (fl : Flow) (m : Run Flow) (s : State) → At ts s → Ran false false s (Same ts) (m s) → Ran false false s (Same ts) (on_turn fl m s)
    ran_turn ts broken m s at h = ran_give ts next s at
    ran_turn ts (returned site v) m s at h = ran_give ts (returned site v) s at
    ran_turn ts _ m s at h = h

    goes_turn : (fl : Flow) (m m' : Run Flow) (s : State) → Goes (m s) (m' (more s)) → Goes (on_turn fl m s) (on_turn fl m' (more s))
    goes_turn broken m m' s h = refl
    goes_turn (returned site v) m m' s h = refl
    goes_turn _ m m' s h = h

    ran_either : {A : Type 0} (b : Bool) (x y : Run A) (s : State) (p : A → List ℤ → Type 0) → Ran false false s p (x s) → Ran false false s p (y s) → Ran false false s p (cond b x y s)
    ran_either true x y s p hx hy = hx
    ran_either false x y s p hx hy = hy

    goes_either : {A : Type 0} (b : Bool) (x x' y y' : Run A) (s : State) → Goes (x s) (x' (more s)) → Goes (y s) (y' (more s)) → Goes (cond b x y s) (cond b x' y' (more s))
    goes_either true x x' y y' s hx hy = hx
    goes_either false x x' y y' s hx hy = hy

    module _ (ts : List ℤ) (test : Run Bool) (step : Step) (body : Run Flow) (ht : Kept ts test (Same ts)) (hs : Kept ts step (Same ts)) (hb : Kept ts body (Same ts)) where
      at_same : (t : State) (us : List ℤ) → us ≡ ts → At us t → At ts t
      at_same t us same at = (at.0 ∙ same, at.1)

      again_ran : (k : ℕ) → ((s : State) → At ts s → Ran false false s (Same ts) (turns k test step body s)) → (u : State) → At ts u → Ran false false u (Same ts) ((step >> turns k test step body) u)
      again_ran k ih u at = ran_then false false false _ _ u.callers (Same ts) (Same ts) (step u) (λ _. turns k test step body) (hs.runs u at).ran (λ x ws same v at. ih v (at_same v ws same at))

      body_ran : (k : ℕ) → ((s : State) → At ts s → Ran false false s (Same ts) (turns k test step body s)) → (t : State) → At ts t → Ran false false t (Same ts) ((body >>= λ fl. on_turn fl (step >> turns k test step body)) t)
      body_ran k ih t at = ran_then false false false _ _ t.callers (Same ts) (Same ts) (body t) (λ fl. on_turn fl (step >> turns k test step body)) (hb.runs t at).ran
          (λ fl vs same u at. ran_turn ts fl _ u (at_same u vs same at) (again_ran k ih u (at_same u vs same at)))

      turns_ran : (k : ℕ) (s : State) → At ts s → Ran false false s (Same ts) (turns k test step body s)
      turns_ran zero s at = up_level _ _ _ (omega arith)
      turns_ran (suc k) s at = ran_then false false false _ _ s.callers (Same ts) (Same ts) (test s) (λ b. cond b (body >>= λ fl. on_turn fl (step >> turns k test step body)) (give next)) (ht.runs s at).ran
          (λ b us same t at. ran_either b _ (give next) t (Same ts) (body_ran k (turns_ran k) t (at_same t us same at)) (ran_give ts next t (at_same t us same at)))

      again : (k : ℕ) → ((s : State) → At ts s → Goes (turns k test step body s) (turns (k + d) test step body (more s))) → (u : State) → At ts u → Goes ((step >> turns k test step body) u) ((step >> turns (k + d) test step body) (more u))
      again k ih u at = goes_then (step u) (step (more u)) (λ _. turns k test step body) (λ _. turns (k + d) test step body) (Same ts) (Same ts) (length u.events) (total n u) u.callers (hs.runs u at).past (hs.runs u at).ran (hs.runs (more u) at).ran
          (λ x ws same v at. ih v (at_same v ws same at)) (λ x ws same v at. turns_ran (k + d) v (at_same v ws same at))

      bodies : (k : ℕ) → ((s : State) → At ts s → Goes (turns k test step body s) (turns (k + d) test step body (more s))) → (t : State) → At ts t
          → Goes ((body >>= λ fl. on_turn fl (step >> turns k test step body)) t) ((body >>= λ fl. on_turn fl (step >> turns (k + d) test step body)) (more t))
      bodies k ih t at = goes_then (body t) (body (more t)) (λ fl. on_turn fl (step >> turns k test step body)) (λ fl. on_turn fl (step >> turns (k + d) test step body)) (Same ts) (Same ts) (length t.events) (total n t) t.callers
          (hb.runs t at).past (hb.runs t at).ran (hb.runs (more t) at).ran
          (λ fl vs same u at. goes_turn fl _ _ u (again k ih u (at_same u vs same at)))
          (λ fl vs same u at. ran_turn ts fl _ u (at_same u vs same at) (again_ran (k + d) (turns_ran (k + d)) u (at_same u vs same at)))

      turns_goes : (k : ℕ) (s : State) → At ts s → Goes (turns k test step body s) (turns (k + d) test step body (more s))
      turns_goes zero s at = ran_up _ _ s.callers (Same ts) (turns (0 + d) test step body (more s)) (turns_ran (0 + d) (more s) at)
      turns_goes (suc k) s at = let z : suc k + d ≡ suc (k + d) = omega arith in rw z
          (goes_then (test s) (test (more s)) (λ b. cond b (body >>= λ fl. on_turn fl (step >> turns k test step body)) (give next)) (λ b. cond b (body >>= λ fl. on_turn fl (step >> turns (k + d) test step body)) (give next))
          (Same ts) (Same ts) (length s.events) (total n s) s.callers (ht.runs s at).past (ht.runs s at).ran (ht.runs (more s) at).ran
          (λ b us same t at. goes_either b _ _ (give next) (give next) t (bodies k (turns_goes k) t (at_same t us same at)) refl)
          (λ b us same t at. ran_either b _ (give next) t (Same ts) (body_ran (k + d) (turns_ran (k + d)) t (at_same t us same at)) (ran_give ts next t (at_same t us same at))))

      pub kept_loop : Kept ts (loop test step body) (Same ts)
      kept_loop = record { runs = λ s at. record { ran = turns_ran s.fuel s at; past = turns_goes s.fuel s at } }

    -- ---- runs that enter nothing: with more fuel they do the same, and between their events and their ends the total may fall

    pub record Atom {A : Type 0} (a b : Bool) (ts : List ℤ) (m : Run A) (p : A → List ℤ → Type 0) : Type 0 where
      pub steady : (s : State) → m (more s) ≡ more_out (m s)
      pub runs : (s : State) → At ts s → Ran a b s p (m s)

    steady_then : {A B : Type 0} (o : Out A) (f : A → Run B) → ((x : A) (s : State) → f x (more s) ≡ more_out (f x s)) → then_on (more_out o) f ≡ more_out (then_on o f)
    steady_then (go x t) f h = h x t
    steady_then (over o t) f h = refl

    pub atom_then : {A B : Type 0} (a b c : Bool) (ts : List ℤ) (m : Run A) (f : A → Run B) (p : A → List ℤ → Type 0) (q : B → List ℤ → Type 0) → Atom a b ts m p → ((x : A) (s : State) → f x (more s) ≡ more_out (f x s)) → ((x : A) (us : List ℤ) → p x us → Atom b c us (f x) q) → Atom a c ts (m >>= f) q
    atom_then a b c ts m f p q h st k = record {
      steady = λ s. ap (λ z. then_on z f) (h.steady s) ∙ steady_then (m s) f st;
      runs = λ s at. ran_then a b c _ _ s.callers p q (m s) f (h.runs s at) (λ x us y t at. (k x us y).runs t at);
    }

    pub atom_next : {A B : Type 0} (a b c : Bool) (ts us : List ℤ) (m : Run A) (f : A → Run B) (q : B → List ℤ → Type 0) → Atom a b ts m (Same us) → ((x : A) → Atom b c us (f x) q) → Atom a c ts (m >>= f) q
    atom_next a b c ts us m f q h k = atom_then a b c ts m f (Same us) q h (λ x s. (k x).steady s) (λ x vs same. subst (λ z. Atom b c z (f x) q) (sym same) (k x))

    pub atom_weak : {A : Type 0} (ts : List ℤ) (m : Run A) (p : A → List ℤ → Type 0) → Atom false true ts m p → Atom false false ts m p
    atom_weak ts m p h = record { steady = h.steady; runs = λ s at. ran_weak _ _ s.callers p (m s) (h.runs s at) }

    pub kept_atom : {A : Type 0} (ts : List ℤ) (m : Run A) (p : A → List ℤ → Type 0) → Atom false false ts m p → Kept ts m p
    kept_atom ts m p h = record { runs = λ s at. record { ran = h.runs s at; past = goes_steady (m s) (m (more s)) (h.steady s) } }
