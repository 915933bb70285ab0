-- What is computed of a line is what its thread asks for.
use Rattle.sharc_audit.proofs.{Imports.{◌≡◌, ◌⊎◌, inl, inr, ℕ, true, false, List, [], ◌∷◌, ◌++◌, length, map, Option, Some, None, refl, ap, sym, subst, ◌∙◌, append-nil, ℤ, pos, if◌then◌else◌, Act, Cell, Local, SourceEvent, Function, Resolution, function_at, Assignment, events_of, AskLaws, IsAnswer, Starts, IsNext, AskedFor, Asked, asks, by, answers_of, IsNamedAt, Follows, SourceRunWith, LegalStore, EventLine, LineAct, Wants, Spent, Nothing, IsSpent, entry, has_begun, start_at, start_of, is_spent, next_in, next_of, own_answers, next_told, next_asked, spawned_by, written, IsLine, told_by, told, FindsEntries, map_length, map_both}, Telling.{NextBy, comes, lacks, nothing, next_by, at_mapped}, Entries.{events_begun, own_told, follows_begun, follows_entry}}

-- ---- what a line reports is what its event answers

abbrev told_in : Option LineAct → ℤ
told_in None = pos 0
told_in (Some k) = told_by k

spawn_told : (o : Option Function) (v answer : ℤ) (k : LineAct) → spawned_by o v answer ≡ Some k → told_by k ≡ answer
spawn_told None v answer k h = absurd (cc)
spawn_told (Some f) v answer k h = sym (ap told_in h)

by_act : (r : Resolution) (a : Act) (x answer : ℤ) (k : LineAct) → written r a answer ≡ Some k → IsAnswer a x answer → told_by k ≡ answer
by_act r (Act.Read c mode) x answer k h i = sym (ap told_in h)
by_act r (Act.New cells elements mode) x answer k h i = sym (ap told_in h)
by_act r (Act.Take (Cell c mode) kind) x answer k h i = sym (ap told_in h)
by_act r (Act.Take (Local token) kind) x answer k h i = sym (ap told_in h)
by_act r (Act.Spawn f v) x answer k h i = spawn_told (function_at r f) v answer k h
by_act r (Act.Enter c) x answer k h i = absurd (cc)
by_act r (Act.Woken c) x answer k h i = absurd (cc)
by_act r (Act.Signal c) x answer k h i = absurd (cc)
by_act r (Act.Broadcast c) x answer k h i = absurd (cc)
by_act r _ x answer k h i = sym (ap told_in h) ∙ sym i

pub told_is : (r : Resolution) (l : EventLine) (e : SourceEvent) (x : ℤ) → IsLine r l e → IsAnswer e.act x e.answer → told l ≡ e.answer
told_is r l e x h i = by_act r e.act x e.answer l.act h.act i

-- ---- what is computed

module _ (laws : AskLaws) (m : Assignment) (one_main : FindsEntries m.typed) (fuel : ℕ) (R : List SourceEvent) (legal : LegalStore m.typed R) (t : ℕ) (one : ℤ) where
  abbrev own : (a : Follows m R fuel t) → List ℤ
  own a = answers_of (events_of t a.after)

  next_begun : (a : Follows m R fuel t) → next_told m fuel R t one ≡ next_in t (length (own a)) (asks m a.function a.argument (own a ++ one ∷ []) fuel)
  next_begun a =
      ap (λ b. if b then next_of m fuel t (own_answers R t) one (entry m.typed R t) else start_of m.typed t (entry m.typed R t)) (follows_begun m R fuel t a)
      ∙ ap (λ z. next_of m fuel t z one (entry m.typed R t)) (own_told m R fuel t a)
      ∙ ap (λ z. next_of m fuel t (own a) one z) (follows_entry m R fuel t a one_main legal)

  next_start : has_begun R t ≡ false → next_told m fuel R t one ≡ start_of m.typed t (entry m.typed R t)
  next_start h = ap (λ b. if b then next_of m fuel t (own_answers R t) one (entry m.typed R t) else start_of m.typed t (entry m.typed R t)) h

  next_by_told : (a : Follows m R fuel t) → NextBy t (asks m a.function a.argument (own a) fuel) (asks m a.function a.argument (own a ++ one ∷ []) fuel) one (next_told m fuel R t one)
  next_by_told a = subst (NextBy t (asks m a.function a.argument (own a) fuel) (asks m a.function a.argument (own a ++ one ∷ []) fuel) one) (sym (next_begun a))
      (next_by laws m a.function a.argument fuel t (own a) one (laws.events m a.function a.argument (own a) fuel))

  -- the fuel is spent

  pub spent_is : IsSpent m fuel R t → next_told m fuel R t one ≡ Spent
  spent_is s = by_next (next_by_told s.own)
    where
      by_next : NextBy t (asks m s.own.function s.own.argument (own s.own) fuel) (asks m s.own.function s.own.argument (own s.own ++ one ∷ []) fuel) one (next_told m fuel R t one) → next_told m fuel R t one ≡ Spent
      by_next (comes x is answer events o) = absurd (let z : true ≡ false = sym (ap is_spent s.is) ∙ o in cc)
      by_next (lacks is o) = is
      by_next (nothing is o) = absurd (let z : true ≡ false = sym (ap is_spent s.is) ∙ o in cc)

  starts_unspent : (o : Option (ℕ × ℤ)) → start_of m.typed t o ≡ Spent → ⊥
  starts_unspent None h = absurd (cc)
  starts_unspent (Some (f, v)) h = by_function (function_at m.typed f) h
    where
      by_function : (o : Option Function) → start_at t v o ≡ Spent → ⊥
      by_function None h = absurd (cc)
      by_function (Some d) h = absurd (cc)

  pub is_spent_at : SourceRunWith fuel m R → next_told m fuel R t one ≡ Spent → IsSpent m fuel R t
  is_spent_at run h = by_thread (run.threads t)
    where
      by_next : (a : Follows m R fuel t) → NextBy t (asks m a.function a.argument (own a) fuel) (asks m a.function a.argument (own a ++ one ∷ []) fuel) one (next_told m fuel R t one) → IsSpent m fuel R t
      by_next a (comes x is answer events o) = absurd (let z : Wants (by t x) ≡ Spent = sym is ∙ h in cc)
      by_next a (lacks is o) = record { own = a; is = o }
      by_next a (nothing is o) = absurd (let z : Nothing ≡ Spent = sym is ∙ h in cc)

      by_thread : (events_of t R ≡ []) ⊎ Follows m R fuel t → IsSpent m fuel R t
      by_thread (inl none) = absurd (starts_unspent (entry m.typed R t) (sym (next_start (events_begun R t none)) ∙ h))
      by_thread (inr a) = by_next a (next_by_told a)

  -- an event is asked for

  starts_by : (e : SourceEvent) → events_of t R ≡ [] → (o : Option (ℕ × ℤ)) → entry m.typed R t ≡ o → start_of m.typed t o ≡ Wants e → (t ≡ e.thread) × AskedFor m fuel R e
  starts_by e none None i h = absurd (cc)
  starts_by e none (Some (f, v)) i h = by_function (function_at m.typed f) refl h
    where
      by_function : (o : Option Function) → function_at m.typed f ≡ o → start_at t v o ≡ Wants e → (t ≡ e.thread) × AskedFor m fuel R e
      by_function None j h = absurd (cc)
      by_function (Some d) j h =
          let is : record { thread = t; site = d.name.site; answer = pos 0; act = Act.Started v } ≡ e = cc in
          subst (λ z. (t ≡ z.thread) × AskedFor m fuel R z) is (
            refl,
            inl (record {
              function = f;
              argument = v;
              first = none;
              act = refl;
              answer = refl;
              site = subst (λ z. IsNamedAt z d.name.site) (sym j) refl;
              by_right = one_main.right R t f v i;
            }),
          )

  goes_by : (a : Follows m R fuel t) (x : SourceEvent) → one ≡ x.answer → (asks m a.function a.argument (own a ++ one ∷ []) fuel).events ≡ (asks m a.function a.argument (own a) fuel).events ++ x ∷ [] → IsNext m fuel R (by t x)
  goes_by a x same events = record {
    own = a;
    comes =
        ap (λ z. map (by t) (asks m a.function a.argument (own a ++ z ∷ []) fuel).events) (sym same)
        ∙ ap (map (by t)) events
        ∙ map_both (by t) (asks m a.function a.argument (own a) fuel).events (x ∷ [])
        ∙ ap (λ z. z ++ by t x ∷ []) a.asked;
  }

  pub is_asked : SourceRunWith fuel m R → (e : SourceEvent) → ((x : ℤ) → IsAnswer e.act x e.answer → one ≡ e.answer) → next_told m fuel R t one ≡ Wants e → AskedFor m fuel R e
  is_asked run e told h = by_thread (run.threads t)
    where
      by_next : (a : Follows m R fuel t) → NextBy t (asks m a.function a.argument (own a) fuel) (asks m a.function a.argument (own a ++ one ∷ []) fuel) one (next_told m fuel R t one) → AskedFor m fuel R e
      by_next a (comes x is answer events o) =
          let same : by t x ≡ e = let z : Wants (by t x) ≡ Wants e = sym is ∙ h in cc in
          let right : one ≡ (by t x).answer = subst (λ z. ((y : ℤ) → IsAnswer z.act y z.answer → one ≡ z.answer)) (sym same) told one answer in
          subst (AskedFor m fuel R) same (inr (goes_by a x right events))
      by_next a (lacks is o) = absurd (let z : Spent ≡ Wants e = sym is ∙ h in cc)
      by_next a (nothing is o) = absurd (let z : Nothing ≡ Wants e = sym is ∙ h in cc)

      by_thread : (events_of t R ≡ []) ⊎ Follows m R fuel t → AskedFor m fuel R e
      by_thread (inl none) = (starts_by e none (entry m.typed R t) refl (sym (next_start (events_begun R t none)) ∙ h)).1
      by_thread (inr a) = by_next a (next_by_told a)

module _ (laws : AskLaws) (m : Assignment) (one_main : FindsEntries m.typed) (fuel : ℕ) (R : List SourceEvent) (legal : LegalStore m.typed R) where
  first_asked : (e : SourceEvent) (one : ℤ) → Starts m R e → next_told m fuel R e.thread one ≡ Wants e
  first_asked e one s =
      next_start laws m one_main fuel R legal e.thread one (events_begun R e.thread s.first)
      ∙ ap (start_of m.typed e.thread) (one_main.found R legal e.thread s.function s.argument R [] (sym (append-nil R)) s.by_right)
      ∙ by_function (function_at m.typed s.function) s.site
    where
      by_function : (o : Option Function) → IsNamedAt o e.site → start_at e.thread s.argument o ≡ Wants e
      by_function None h = absurd (h)
      by_function (Some d) h =
          ap (λ z. Wants (record { thread = e.thread; site = z; answer = pos 0; act = Act.Started s.argument })) (sym h)
          ∙ ap (λ z. Wants (record { thread = e.thread; site = e.site; answer = z; act = Act.Started s.argument })) (sym s.answer)
          ∙ ap (λ z. Wants (record { thread = e.thread; site = e.site; answer = e.answer; act = z })) (sym s.act)

  next_asked_for : (e : SourceEvent) (n : IsNext m fuel R e) → next_told m fuel R e.thread e.answer ≡ Wants e
  next_asked_for e n =
      let a = n.own in
      let A = answers_of (events_of e.thread a.after) in
      next_begun laws m one_main fuel R legal e.thread e.answer a
      ∙ ap (λ k. next_in e.thread k (asks m a.function a.argument (A ++ e.answer ∷ []) fuel)) (map_length (λ x. x.answer) (events_of e.thread a.after))
      ∙ at_mapped e.thread _ (asks m a.function a.argument (A ++ e.answer ∷ []) fuel).events (events_of e.thread a.after) e n.comes

  answers_so : (e : SourceEvent) (n : IsNext m fuel R e) → IsAnswer e.act e.answer e.answer
  answers_so e n = by_next (next_by_told laws m one_main fuel R legal e.thread e.answer n.own)
    where
      w : next_told m fuel R e.thread e.answer ≡ Wants e
      w = next_asked_for e n

      by_next : {a b : Asked} → NextBy e.thread a b e.answer (next_told m fuel R e.thread e.answer) → IsAnswer e.act e.answer e.answer
      by_next (comes x is answer events o) =
          let same : by e.thread x ≡ e = let z : Wants (by e.thread x) ≡ Wants e = sym is ∙ w in cc in
          subst (λ (z : SourceEvent). IsAnswer z.act e.answer z.answer) same answer
      by_next (lacks is o) = absurd (let z : Spent ≡ Wants e = sym is ∙ w in cc)
      by_next (nothing is o) = absurd (let z : Nothing ≡ Wants e = sym is ∙ w in cc)

  -- what is asked for and is that of the line is what is computed
  pub asked_is : (l : EventLine) (e : SourceEvent) → IsLine m.typed l e → AskedFor m fuel R e → next_asked m fuel R l ≡ Wants e
  asked_is l e line (inl s) = ap (λ z. next_told m fuel R z (told l)) line.thread ∙ first_asked e (told l) s
  asked_is l e line (inr n) =
      ap (λ z. next_told m fuel R z (told l)) line.thread
      ∙ ap (next_told m fuel R e.thread) (told_is m.typed l e e.answer line (answers_so e n))
      ∙ next_asked_for e n

  -- and what is computed is asked for, where it is that of the line
  pub computed_asked : SourceRunWith fuel m R → (l : EventLine) (e : SourceEvent) → next_asked m fuel R l ≡ Wants e → IsLine m.typed l e → AskedFor m fuel R e
  computed_asked run l e h line = is_asked laws m one_main fuel R legal l.thread (told l) run e (λ x answer. told_is m.typed l e x line answer) h

  starts_answer : (e : SourceEvent) (s : Starts m R e) → IsAnswer e.act e.answer e.answer
  starts_answer e s = subst (λ a. IsAnswer a e.answer e.answer) (sym s.act) s.answer

  -- a line reports what is answered
  pub told_asked : (l : EventLine) (e : SourceEvent) → IsLine m.typed l e → AskedFor m fuel R e → told l ≡ e.answer
  told_asked l e line (inl s) = told_is m.typed l e e.answer line (starts_answer e s)
  told_asked l e line (inr n) = told_is m.typed l e e.answer line (answers_so e n)
