-- In a stuck run no thread has an event that may come next.
use Rattle.sharc_sound_laws.proofs.{Imports.{◌≡◌, ◌≢◌, ℕ, zero, suc, pos, ◌<◌, ◌⊎◌, inl, inr, ⊎_elim, Bool, true, false, ◌||◌, ◌&&◌, cond, List, [], ◌∷◌, ◌++◌, length, Some, None, refl, sym, ap, ◌∙◌, subst, arith, or_right, get_or as slice_index_or, list_any, Act, SourceEvent, AreOneByName, Assignment, events_of, is_of, AskLaws, History, Follows, IsFirst, IsSpawned, SourceRun, Outcome, wants, ended, spent, event_of, MayCome, is_gone, is_natural, is_spawn, spawns, was_spawned, went, Code, Instr, Shape, TurnState, Stopped, Ended, Machine, instr_at, int, may_go, Turn, cell_at, place_at, asks_for, held_up, IsOn, Stuck, Waits, place_after, history_of, act_awaited, ThreadsAreTold, IsNotThere, WantsBy, IsPlaced, same_is, or_cases, yes}, Standing.{IsNextBy, behind_own, from_first, next_by}}

-- ---- tests over lists

and_right : (a b : Bool) → (a && b) ≡ true → b ≡ true
and_right true b e = e
and_right false b e = absurd (yes (sym e))

any_at : (test : SourceEvent → Bool) (xs : History) (k : ℕ) (x : SourceEvent) → k < length xs → slice_index_or xs k x ≡ x → test x ≡ true → list_any test xs ≡ true
any_at test [] k x lt at is = absurd (omega arith)
any_at test (y ∷ ys) zero x lt at is = ap (λ b. b || list_any test ys) (ap test at ∙ is)
any_at test (y ∷ ys) (suc k) x lt at is = or_right (test y) (list_any test ys) (any_at test ys k x (omega arith) at is)

any_left : (test : SourceEvent → Bool) (xs ys : History) → list_any test xs ≡ true → list_any test (xs ++ ys) ≡ true
any_left test [] ys e = absurd (yes (sym e))
any_left test (x ∷ xs) ys e = ⊎_elim
    (λ (now : test x ≡ true). ap (λ b. b || list_any test (xs ++ ys)) now)
    (λ (rest : list_any test xs ≡ true). or_right (test x) (list_any test (xs ++ ys)) (any_left test xs ys rest))
    (or_cases (test x) (list_any test xs) e)

any_last : (test : SourceEvent → Bool) (xs : History) (e : SourceEvent) → list_any test (xs ++ e ∷ []) ≡ true → (list_any test xs ≡ true) ⊎ (test e ≡ true)
any_last test [] e q = ⊎_elim (λ (now : test e ≡ true). inr now) (λ (none : false ≡ true). absurd (yes (sym none))) (or_cases (test e) false q)
any_last test (x ∷ xs) e q = ⊎_elim
    (λ (now : test x ≡ true). inl (ap (λ b. b || list_any test xs) now))
    (λ (rest : list_any test (xs ++ e ∷ []) ≡ true). ⊎_elim (λ (k : list_any test xs ≡ true). inl (or_right (test x) (list_any test xs) k)) (λ (k : test e ≡ true). inr k) (any_last test xs e rest))
    (or_cases (test x) (list_any test (xs ++ e ∷ [])) q)

-- a thread that is gone has an event
gone_tells : (t : ℕ) (R : History) → went R (pos t) ≡ true → events_of t R ≡ [] → ⊥
gone_tells t [] e none = yes (sym e)
gone_tells t (x ∷ R) e none = by_test (is_of t x) refl none (gone_tells t R)
  where
    by_test : (b : Bool) → is_of t x ≡ b → cond b (x ∷ events_of t R) (events_of t R) ≡ [] → (went R (pos t) ≡ true → events_of t R ≡ [] → ⊥) → ⊥
    by_test true is q rest_tells = cc
    by_test false is q rest_tells = ⊎_elim
        (λ (now : (is_gone x.act && is_natural x.thread (pos t)) ≡ true). yes (sym (and_right (is_gone x.act) (is_natural x.thread (pos t)) now) ∙ is))
        (λ (rest : went R (pos t) ≡ true). rest_tells rest q)
        (or_cases (is_gone x.act && is_natural x.thread (pos t)) (went R (pos t)) e)

-- ---- who began a thread
began : (m : Assignment) (R : History) (fuel t : ℕ) → Follows m R fuel t → (t ≡ 0) ⊎ (was_spawned R t ≡ true)
began m R fuel t f = ⊎_elim
    (λ (k : IsFirst m.typed t f.function f.argument). inl k.first)
    (λ (k : IsSpawned f.before t f.function f.argument).
    let any = k.spawned in
    let spawned : spawns t any.1 ≡ true = ap (λ a. is_spawn a && is_natural t any.1.answer) any.4.0 ∙ ap (is_natural t) any.4.1 ∙ same_is t in
    inr (ap (λ (R : History). was_spawned R t) f.stands ∙ any_left (spawns t) f.before (f.begins ∷ f.after) (any_at (spawns t) f.before any.0 any.1 any.2 any.3 spawned)))
    f.by_right

-- its first event is no Spawn
first_is_started : (m : Assignment) (R : History) (fuel : ℕ) (e : SourceEvent) → events_of e.thread R ≡ [] → Follows m (R ++ e ∷ []) fuel e.thread → spawns e.thread e ≡ false
first_is_started m R fuel e none f =
    let both : e ∷ [] ≡ f.begins ∷ events_of e.thread f.after =
    ap (λ es. es ++ e ∷ []) (sym none) ∙ sym (behind_own e.thread R e refl) ∙ from_first e.thread (R ++ e ∷ []) f.before f.after f.begins f.stands f.own f.first
    in
    let same : e ≡ f.begins = cc in
    ap (λ a. is_spawn a && is_natural e.thread e.answer) (ap (λ (d : SourceEvent). d.act) same ∙ f.act)

-- ---- a stuck run
module _ (ask : AskLaws) (m : Assignment) (names : AreOneByName m.typed) (code : Code) (starts : instr_at code 0 ≡ Instr.Start 0) (s : Shape) (run : List Turn) (told : ThreadsAreTold code s run)
    (placed : (t : ℕ) → IsNotThere (history_of code s run) t ((place_after code s run).threads t) ⊎ IsPlaced m code (history_of code s run) t ((place_after code s run).threads t))
    (may_not : (t : ℕ) → IsOn (place_after code s run) t → Waits code s (place_after code s run) t → (e : SourceEvent) → e.thread ≡ t
    → act_awaited code ((place_after code s run).threads t) (instr_at code ((place_after code s run).threads t).at.pc) ≡ Some e.act → MayCome m.typed (history_of code s run) e e.act → ⊥)
    (stuck : Stuck code s run) (e : SourceEvent) (whole : SourceRun m (history_of code s run ++ e ∷ [])) where
  abbrev R : History
  R = history_of code s run

  abbrev t : ℕ
  t = e.thread

  abbrev at : Machine
  at = (place_after code s run).threads e.thread

  abbrev number : ℕ
  number = ((place_after code s run).threads e.thread).own.number

  -- the thread was started
  from_event : events_of e.thread R ≡ [] → (place_after code s run).started e.thread ≡ true
  from_event none = ⊎_elim
      (λ (never : events_of t (R ++ e ∷ []) ≡ []). absurd (let q : e ∷ [] ≡ [] = ap (λ es. es ++ e ∷ []) (sym none) ∙ sym (behind_own t R e refl) ∙ never in cc))
      (λ (k : (fuel : ℕ) × Follows m (R ++ e ∷ []) fuel t). ⊎_elim
      (λ (z : t ≡ 0). subst (λ n. (place_after code s run).started n ≡ true) (sym z) told.first)
      (λ (spawned : was_spawned (R ++ e ∷ []) t ≡ true). ⊎_elim
      (λ (before : was_spawned R t ≡ true). told.spawned t before)
      (λ (now : spawns t e ≡ true). absurd (yes (sym now ∙ first_is_started m R k.0 e none k.1)))
      (any_last (spawns t) R e spawned))
      (began m (R ++ e ∷ []) k.0 t k.1))
      (whole.threads t)

  from_place : IsPlaced m code R e.thread ((place_after code s run).threads e.thread) → (place_after code s run).started e.thread ≡ true
  from_place p = ⊎_elim
      (λ (z : t ≡ 0). subst (λ n. (place_after code s run).started n ≡ true) (sym z) told.first)
      (told.spawned t)
      (began m R p.stands.fuel t p.stands.own)

  started : (place_after code s run).started e.thread ≡ true
  started = ⊎_elim (λ (n : IsNotThere R t at). from_event n.nothing) from_place (placed e.thread)

  -- what it wants comes next, if anything does
  not_spent : {d : SourceEvent} (o : Outcome) → o ≡ wants d → o ≢ spent
  not_spent o is q = cc

  next_wanted : (p : IsPlaced m code R e.thread ((place_after code s run).threads e.thread)) (d : SourceEvent) → p.come.outcome ≡ wants d → e.act ≡ d.act
  next_wanted p d is =
      let n : IsNextBy p.come e = next_by ask m names R t p.come p.stands (not_spent p.come.outcome is) e refl whole in
      let same : n.event ≡ d = let q : wants n.event ≡ wants d = sym n.is ∙ is in cc in
      n.same.act ∙ ap (λ (d : SourceEvent). d.act) same

  -- it has not ended
  no_more : ((place_after code s run).threads e.thread).at.state ≡ Ended → ⊥
  no_more is = ⊎_elim
      (λ (n : IsNotThere R t at). gone_tells t R (told.ended t is) n.nothing)
      (λ (p : IsPlaced m code R t at).
      let o = p.gone is in
      let n : IsNextBy p.come e = next_by ask m names R t p.come p.stands (λ q. let z : ended ≡ spent = sym o ∙ q in cc) e refl whole in
      let z : ended ≡ wants n.event = sym o ∙ n.is in
      absurd (cc))
      (placed e.thread)

  -- nor is it on: it waits then
  waiting : IsOn (place_after code s run) e.thread → ⊥
  waiting on = by_instr (instr_at code at.at.pc) refl
    where
      waits : Waits code s (place_after code s run) e.thread
      waits = stuck.all e.thread on

      up : (i : Instr) → instr_at code ((place_after code s run).threads e.thread).at.pc ≡ i → held_up (place_after code s run).words number (asks_for s i ((place_after code s run).threads e.thread)) ≡ true
      up i is = ap (λ j. held_up (place_after code s run).words number (asks_for s j at)) (sym is) ∙ sym (ap (λ b. held_up (place_after code s run).words number (cond b (asks_for s (instr_at code at.at.pc) at) None)) on.1) ∙ waits

      quiet : (i : Instr) → instr_at code ((place_after code s run).threads e.thread).at.pc ≡ i → asks_for s i ((place_after code s run).threads e.thread) ≡ None → ⊥
      quiet i is none = yes (sym (up i is) ∙ ap (held_up (place_after code s run).words number) none)

      -- the event that it waits for comes
      comes : (act : Act) (site : ℕ) → act_awaited code ((place_after code s run).threads e.thread) (instr_at code ((place_after code s run).threads e.thread).at.pc) ≡ Some act
          → (p : IsPlaced m code R e.thread ((place_after code s run).threads e.thread)) → p.come.outcome ≡ wants (event_of (place_at code site).site act (pos 0)) → ⊥
      comes act site awaited p is = may_not e.thread on waits e refl (awaited ∙ ap Some (sym (next_wanted p (event_of (place_at code site).site act (pos 0)) is))) (whole.legal R e [] refl)

      not_first : (i : Instr) → instr_at code ((place_after code s run).threads e.thread).at.pc ≡ i → IsNotThere R e.thread ((place_after code s run).threads e.thread) → ⊥
      not_first i is n = quiet (Instr.Start 0) (ap (instr_at code) n.first ∙ starts) refl

      there : (i : Instr) → instr_at code ((place_after code s run).threads e.thread).at.pc ≡ i → ((p : IsPlaced m code R e.thread ((place_after code s run).threads e.thread)) → WantsBy code at p.come.outcome i → ⊥) → ⊥
      there i is k = ⊎_elim (not_first i is) (λ (p : IsPlaced m code R t at). k p (subst (WantsBy code at p.come.outcome) is p.next)) (placed e.thread)

      by_instr : (i : Instr) → instr_at code ((place_after code s run).threads e.thread).at.pc ≡ i → ⊥
      by_instr (Instr.Lock c site) is = there (Instr.Lock c site) is (λ p w. comes (Act.Lock (cell_at code at c)) site (ap (act_awaited code at) is) p w)
      by_instr (Instr.Join r site) is = there (Instr.Join r site) is (λ p w. comes (Act.Join (int at r)) site (ap (act_awaited code at) is) p w)
      by_instr (Instr.CondWait c site) is = there (Instr.CondWait c site) is (λ p w. comes (Act.Woken (cell_at code at c)) site (ap (act_awaited code at) is) p w)
      by_instr _ is = quiet _ is refl

  pub deadlocked : ((place_after code s run).threads e.thread).at.state ≢ Stopped → ⊥
  deadlocked running = by_state at.at.state refl
    where
      by_state : (st : TurnState) → ((place_after code s run).threads e.thread).at.state ≡ st → ⊥
      by_state Stopped is = running is
      by_state Ended is = no_more is
      by_state _ is = waiting (started, ap may_go is)
