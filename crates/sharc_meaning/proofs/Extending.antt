-- Source runs grow by events that are asked for and may come.
use Rattle.sharc_meaning.proofs.{Imports.{◌≡◌, ◌⊎◌, inl, inr, ℕ, ◌≤◌, Bool, true, false, cond, List, [], ◌∷◌, ◌++◌, map, refl, sym, ap, ◌∙◌, subst, arith, append-nil, length, nat_tests, SourceEvent, Assignment, events_of, is_of, RunsGrow, RunsStart, asks, by, answers_of, Follows, same_thread, map_both, SourceRun, SourceRunWith, Starts, IsNext, AskedFor, RunsGrowWith, MayCome}, Asking.no_more_than_answers, Legal.stores_grow, Obeying.further, Running.events_append}

-- the events of a thread, with one more at the end of the list
module _ (e : SourceEvent) (u : ℕ) where
  pub one_own : is_of u e ≡ true → (l : List SourceEvent) → events_of u (l ++ e ∷ []) ≡ events_of u l ++ e ∷ []
  one_own h l = events_append u l (e ∷ []) ∙ ap (λ b. events_of u l ++ cond b (e ∷ []) []) h

  pub one_other : is_of u e ≡ false → (l : List SourceEvent) → events_of u (l ++ e ∷ []) ≡ events_of u l
  one_other h l = events_append u l (e ∷ []) ∙ ap (λ b. events_of u l ++ cond b (e ∷ []) []) h ∙ append-nil (events_of u l)

pub is_itself : (e : SourceEvent) → is_of e.thread e ≡ true
is_itself e = search (nat_tests, arith)

-- a list that is not longer than nothing
pub nothing_in : {A : Type 0} (a : List A) → length a ≤ 0 → a ≡ []
nothing_in [] h = refl
nothing_in (x ∷ a) h = absurd (omega arith)

module _ (m : Assignment) (R : List SourceEvent) (e : SourceEvent) where
  with_more : (fuel u : ℕ) (a : Follows m R fuel u) → map (by u) (asks m a.function a.argument (answers_of (events_of u (a.after ++ e ∷ []))) fuel).events ≡ events_of u (a.after ++ e ∷ []) → Follows m (R ++ e ∷ []) fuel u
  with_more fuel u a h = record {
    function = a.function;
    argument = a.argument;
    before = a.before;
    begins = a.begins;
    after = a.after ++ e ∷ [];
    stands = further R (e ∷ []) a.before a.begins a.after a.stands;
    own = a.own;
    first = a.first;
    act = a.act;
    answer = a.answer;
    site = a.site;
    by_right = a.by_right;
    asked = h;
  }

  -- its own thread asks for it
  started : (fuel : ℕ) → Starts m R e → Follows m (R ++ e ∷ []) fuel e.thread
  started fuel s = record {
    function = s.function;
    argument = s.argument;
    before = R;
    begins = e;
    after = [];
    stands = refl;
    own = refl;
    first = s.first;
    act = s.act;
    answer = s.answer;
    site = s.site;
    by_right = s.by_right;
    asked = ap (map (by e.thread)) (nothing_in (asks m s.function s.argument [] fuel).events (no_more_than_answers m s.function s.argument [] fuel));
  }

  own_asks : (fuel : ℕ) → IsNext m fuel R e → Follows m (R ++ e ∷ []) fuel e.thread
  own_asks fuel n =
      let a = n.own in
      let answers : answers_of (events_of e.thread (a.after ++ e ∷ [])) ≡ answers_of (events_of e.thread a.after) ++ e.answer ∷ [] = ap answers_of (one_own e e.thread (is_itself e) a.after) ∙ map_both (λ x. x.answer) (events_of e.thread a.after) (e ∷ []) in
      with_more fuel e.thread a (ap (λ l. map (by e.thread) (asks m a.function a.argument l fuel).events) answers ∙ n.comes ∙ sym (one_own e e.thread (is_itself e) a.after))

  goes_on : (fuel : ℕ) → AskedFor m fuel R e → Follows m (R ++ e ∷ []) fuel e.thread
  goes_on fuel (inl s) = started fuel s
  goes_on fuel (inr n) = own_asks fuel n

  -- the other threads ask for the same as before
  other_asks : (fuel u : ℕ) → is_of u e ≡ false → Follows m R fuel u → Follows m (R ++ e ∷ []) fuel u
  other_asks fuel u h a = with_more fuel u a (subst (λ l. map (by u) (asks m a.function a.argument (answers_of l) fuel).events ≡ l) (sym (one_other e u h a.after)) a.asked)

  -- so it is a source run again, where each thread has its own fuel, and where all have one
  grows : (fuel : ℕ) → SourceRun m R → MayCome m.typed R e e.act → AskedFor m fuel R e → SourceRun m (R ++ e ∷ [])
  grows fuel run may asked = record { legal = stores_grow m.typed R e run.legal may; threads = λ u. thread u (is_of u e) refl (run.threads u) }
    where
      thread : (u : ℕ) (b : Bool) → is_of u e ≡ b → (events_of u R ≡ []) ⊎ ((fuel : ℕ) × Follows m R fuel u) → (events_of u (R ++ e ∷ []) ≡ []) ⊎ ((fuel : ℕ) × Follows m (R ++ e ∷ []) fuel u)
      thread u true h _ = subst (λ t. (events_of t (R ++ e ∷ []) ≡ []) ⊎ ((fuel : ℕ) × Follows m (R ++ e ∷ []) fuel t)) (same_thread e.thread u h) (inr (fuel, goes_on fuel asked))
      thread u false h (inl none) = inl (one_other e u h R ∙ none)
      thread u false h (inr (k, a)) = inr (k, other_asks k u h a)

  grows_with : (fuel : ℕ) → SourceRunWith fuel m R → MayCome m.typed R e e.act → AskedFor m fuel R e → SourceRunWith fuel m (R ++ e ∷ [])
  grows_with fuel run may asked = record { legal = stores_grow m.typed R e run.legal may; threads = λ u. thread u (is_of u e) refl (run.threads u) }
    where
      thread : (u : ℕ) (b : Bool) → is_of u e ≡ b → (events_of u R ≡ []) ⊎ Follows m R fuel u → (events_of u (R ++ e ∷ []) ≡ []) ⊎ Follows m (R ++ e ∷ []) fuel u
      thread u true h _ = subst (λ t. (events_of t (R ++ e ∷ []) ≡ []) ⊎ Follows m (R ++ e ∷ []) fuel t) (same_thread e.thread u h) (inr (goes_on fuel asked))
      thread u false h (inl none) = inl (one_other e u h R ∙ none)
      thread u false h (inr a) = inr (other_asks fuel u h a)

pub runs_grow : RunsGrow
runs_grow m R e run may n = grows m R e n.fuel run may (inr (record { own = n.own; comes = n.comes }))

pub runs_start : RunsStart
runs_start m R e run may s = grows m R e 0 run may (inl s)

pub runs_grow_with : RunsGrowWith
runs_grow_with m fuel R e run may asked = grows_with m R e fuel run may asked
