-- The source events of a run obey the sharing rules.
use Rattle.sharc_invariant.proofs.{Imports.{◌≡◌, ℕ, suc, ◌⊎◌, Bool, true, false, List, ◌∷◌, refl, sym, ap, ◌∙◌, subst, inl, inr, ⊎_elim, cases_eq, ◌++◌, put, put_same, put_other, GranuleState, Passed, cleared, withdrawn, ObjectType, nothing, CellMode, Dynamic, Locked, Sibling, TypeRules, TypedReference, Holder, RegisterOf, In, ObjectState, Base, Shut, Sole, World, put2, in_ref, Size, base_of, CanBy, Right, WorldInvariant, set_gran, set_mutex, give, make, freed, none, thread_of, retype, Event, Access, Freed, Return, IsInAccessSet, Held, NoConflict, Closing, Without, Tied, Silent, Effect, Silently, ClearsOf as Clears, Gives, Frees, MakesOf as Makes, Unlocks, Returns, WithdrawsOf as Withdraws, NoneOf, events_of}, Effects.{place_other, put2_all, base_other, sole_at, base_live}}
use Rattle.sharc_invariant.specs.{History.{New, Give, Lock, Unlock, mutex_of, Ok}, Effect.{Accesses, Locks}}

passed_read : (g : GranuleState) (t : ℕ) (k : Bool) → Passed g t k → Passed g t false
passed_read g t true h = inr h
passed_read g t false h = h

module _ (z : Size) (l : TypeRules) (f : ℕ → ObjectState) (w : World) (log : List Event) (inv : WorldInvariant z l w) (tied : Tied l f w log) where
  can_held : (t : ℕ) (k : Bool) (o i : ℕ) (m : CellMode) → CanBy l w t k o i m → Held w.mutex t o m
  can_held t k o i (Locked p j) h = h
  can_held t k o i (Sibling j) h = h
  can_held t k o i _ h = tt

  -- an access that a thread may make
  pub access_tied : (t : ℕ) (k : Bool) (b : Base) (i : ℕ) → Right l w t k b i → ((r : ℕ) → w.win t ≡ Sole r → ⊥) → Tied l f w (Access t (base_of w t b) i k (l.mode (w.obj (base_of w t b)).ty i) ∷ log)
  access_tied t k b i right open' =
      let o = base_of w t b in
      let m = l.mode (w.obj o).ty i in
      -- nobody has the object alone
      let not_closing : Closing w o → ⊥ = λ c. let u = c.0 in let r = c.1.0 in let so = sole_at z l w inv u r c.1.1.0 in
      let x = base_other z l w inv u t r b so.0 so.1 right.based (sym c.1.1.1) in open' r (subst (λ v. w.win v ≡ Sole r) (sym x.0) c.1.1.0) in
      let not_without : Without w o → ⊥ = ⊎_elim not_closing (λ dead. let alive = base_live z l w inv t b right.based in cc) in
      let here : m ≡ Dynamic → Passed (w.gran o (l.granule i)) t k = λ e. subst (CanBy l w t k o i) e right.can in
      let acc' : (p g u : ℕ) (j : Bool) → IsInAccessSet l (Access t o i k m ∷ log) p g u j → Passed (w.gran p g) u j ⊎ Without w p = λ p g u j. ⊎_elim
      (λ h. inl (let P : ℕ → ℕ → ℕ → Bool → Type 0 = λ p g u j. Passed (w.gran p g) u j in
      subst (λ p. P p g u j) h.1 (subst (λ g. P o g u j) h.2 (subst (λ u. P o (l.granule i) u j) h.3 (subst (P o (l.granule i) t) h.4 (here h.0))))))
      (λ h. tied.acc p g u j h) in
      let both : (p g a c : ℕ) (j : Bool) → p ≡ o → IsInAccessSet l (Access t o i k m ∷ log) p g a true → IsInAccessSet l (Access t o i k m ∷ log) p g c j → a ≡ c = λ p g a c j e ha hc. ⊎_elim
      (λ pa. ⊎_elim
      (λ pc. (inv.bits p g).alone a c pa (passed_read (w.gran p g) c j pc))
      (λ cl. absurd (not_without (subst (Without w) e cl)))
      (acc' p g c j hc))
      (λ cl. absurd (not_without (subst (Without w) e cl)))
      (acc' p g a true ha) in
      let clean' : NoConflict l (Access t o i k m ∷ log) = record {
        none = λ p g a c j ha hc. ⊎_elim
            (λ h. both p g a c j (sym h.1) ha hc)
            (λ oa. ⊎_elim
            (λ h. both p g a c j (sym h.1) ha hc)
            (λ oc. tied.clean.none p g a c j oa oc)
            hc)
            ha;
      } in
      let P : (ℕ → ObjectState) → Type 0 = λ obj. Ok l obj (mutex_of log) t o i k m in
      let Q : (ℕ → ℕ → ℕ) → Type 0 = λ mu. Ok l w.obj mu t o i k m in
      record {
        obj = tied.obj;
        mutex = tied.mutex;
        acc = acc';
        clean = clean';
        obeys = (
          subst P tied.obj (subst Q tied.mutex (record {
            live = base_live z l w inv t b right.based;
            mode = refl;
            own = λ e. subst (CanBy l w t k o i) e right.can;
            reads = λ e. subst (CanBy l w t k o i) e right.can;
            held = can_held t k o i m right.can;
          })),
          clean',
          tied.obeys,
        );
      }

  -- turns without an event, which lose nothing of the sets
  pub silent_tied : (w' : World) → w'.obj ≡ w.obj → w'.mutex ≡ w.mutex → ((o g t : ℕ) (k : Bool) → IsInAccessSet l log o g t k → Passed (w.gran o g) t k → Passed (w'.gran o g) t k ⊎ Without w' o) → ((u r : ℕ) → w.win u ≡ Sole r → (w'.win u ≡ Sole r) × (in_ref w' (RegisterOf u r) ≡ in_ref w (RegisterOf u r))) → Tied l f w' log
  silent_tied w' eo em sets kept = record {
    obj = eo ∙ tied.obj;
    mutex = em ∙ tied.mutex;
    acc = λ o g t k h. ⊎_elim (λ p. sets o g t k h p) (λ c. inr (⊎_elim (λ c. inl (let x = kept c.0 c.1.0 c.1.1.0 in (c.0, (c.1.0, (x.0, x.1 ∙ c.1.1.1))))) (λ d. inr (ap (λ (f : ℕ → ObjectState). (f o).live) eo ∙ d)) c)) (tied.acc o g t k h);
    clean = tied.clean;
    obeys = tied.obeys;
  }

  pub clear_tied : (t r g : ℕ) → w.win t ≡ Sole r → Tied l f (set_gran w (in_ref w (RegisterOf t r)) g (cleared (w.gran (in_ref w (RegisterOf t r)) g))) log
  clear_tied t r g e =
      let o = in_ref w (RegisterOf t r) in
      let w' = set_gran w o g (cleared (w.gran o g)) in
      silent_tied w' refl refl
      (λ p q u k _. put2_all (λ p q x. Passed (w.gran p q) u k → Passed x u k ⊎ Without w' p) w.gran o g (cleared (w.gran o g)) (λ _. inr (inl (t, (r, (e, refl))))) (λ p q h. inl h) p q)
      (λ u q h. (h, refl))

  -- Exit, after the Return
  pub withdraw_tied : (t o g : ℕ) → ((p q : ℕ) (k : Bool) → IsInAccessSet l log p q t k → ⊥) → Tied l f (set_gran w o g (withdrawn (w.gran o g) t)) log
  withdraw_tied t o g gone =
      let x = w.gran o g in
      let w' = set_gran w o g (withdrawn x t) in
      silent_tied w' refl refl
      (λ p q u k h. put2_all (λ p q y. (u ≡ t → ⊥) → Passed (w.gran p q) u k → Passed y u k ⊎ Without w' p) w.gran o g (withdrawn x t)
      (λ nu. elim k as (λ k. Passed x u k → Passed (withdrawn x t) u k ⊎ Without w' o) [
        | true ↦ λ h. inl (put_other x.write_note t u 0 nu ∙ h)
        | false ↦ ⊎_elim (λ i. inl (inl (put_other x.read_note t u 0 nu ∙ i))) (λ i. inl (inr (put_other x.write_note t u 0 nu ∙ i)))
      ])
      (λ p q _ h. inl h) p q (λ e. gone p q k (subst (λ v. IsInAccessSet l log p q v k) e h)))
      (λ u q h. (h, refl))

  -- Give ends the sets of its object
  pub give_tied : (t r : ℕ) (ty : ObjectType) → w.win t ≡ Sole r → Tied l f (give w t r ty) (Give (in_ref w (RegisterOf t r)) ty t ∷ log)
  give_tied t r ty e =
      let o = in_ref w (RegisterOf t r) in
      let w' = give w t r ty in
      let x : ObjectState = record { live = true; global = false; ty = ty; owner = t } in
      let h : TypedReference = record { ty = ty; reference = o } in
      record {
        obj = ap (λ (y : ℕ → ObjectState). put y o x) tied.obj;
        mutex = tied.mutex;
        acc = λ p g u k a. ⊎_elim (λ s. inl s)
            (⊎_elim (λ c. ⊎_elim
            (λ (q : c.0 ≡ t). absurd (a.0 (let P : ℕ → Type 0 = λ v. (w.win v ≡ Sole c.1.0) × (in_ref w (RegisterOf v c.1.0) ≡ p) in let y = subst P q c.1.1 in let er : Sole r ≡ Sole c.1.0 = sym e ∙ y.0 in let r' : r ≡ c.1.0 = cc in sym y.1 ∙ ap (λ r. in_ref w (RegisterOf t r)) (sym r'))))
            (λ (nu : c.0 ≡ t → ⊥). inr (inl (c.0, (c.1.0, (put_other w.win t c.0 Shut nu ∙ c.1.1.0, ap (λ (y : TypedReference). y.reference) (place_other w.slots (In (RegisterOf t r)) (In (RegisterOf c.0 c.1.0)) h (λ k. nu (cc))) ∙ c.1.1.1)))))
            (cases_eq c.0 t))
            (λ d. inr (inr (ap (λ (y : ObjectState). y.live) (put_other w.obj o p x a.0) ∙ d))))
            (tied.acc p g u k a.1);
        clean = record { none = λ p g a c j ha hc. tied.clean.none p g a c j ha.1 hc.1 };
        obeys = tied.obeys;
      }

  pub return_tied : (t : ℕ) → Tied l f w (Return t ∷ log)
  return_tied t = record {
    obj = tied.obj;
    mutex = tied.mutex;
    acc = λ p g u k a. tied.acc p g u k a.1;
    clean = record { none = λ p g a c j ha hc. tied.clean.none p g a c j ha.1 hc.1 };
    obeys = tied.obeys;
  }

  pub lock_tied : (t o j : ℕ) → Tied l f (set_mutex w o j (suc t)) (Lock t o j ∷ log)
  lock_tied t o j = record {
    obj = tied.obj;
    mutex = ap (λ (y : ℕ → ℕ → ℕ). put2 y o j (suc t)) tied.mutex;
    acc = tied.acc;
    clean = record { none = tied.clean.none };
    obeys = tied.obeys;
  }

  pub unlock_tied : (t o j : ℕ) → Tied l f (set_mutex w o j 0) (Unlock o j ∷ log)
  unlock_tied t o j = record {
    obj = tied.obj;
    mutex = ap (λ (y : ℕ → ℕ → ℕ). put2 y o j 0) tied.mutex;
    acc = tied.acc;
    clean = record { none = tied.clean.none };
    obeys = tied.obeys;
  }

  -- Freed leaves a dead object
  pub freed_tied : (t r : ℕ) → w.win t ≡ Sole r → Tied l f (freed w t r) (Freed (in_ref w (RegisterOf t r)) ∷ log)
  freed_tied t r e =
      let o = in_ref w (RegisterOf t r) in
      let w' = freed w t r in
      let x : ObjectState = record { live = false; global = false; ty = nothing; owner = 0 } in
      record {
        obj = ap (λ (y : ℕ → ObjectState). put y o x) tied.obj;
        mutex = tied.mutex;
        acc = λ p g u k a. ⊎_elim
            (λ (ep : p ≡ o). inr (inr (ap (λ p. (put w.obj o x p).live) ep ∙ ap (λ (y : ObjectState). y.live) (put_same w.obj o x))))
            (λ (np : p ≡ o → ⊥). ⊎_elim (λ s. inl s)
            (⊎_elim
            (λ c. ⊎_elim
            (λ (q : c.0 ≡ t). absurd (np (let P : ℕ → Type 0 = λ v. (w.win v ≡ Sole c.1.0) × (in_ref w (RegisterOf v c.1.0) ≡ p) in let y = subst P q c.1.1 in let er : Sole r ≡ Sole c.1.0 = sym e ∙ y.0 in let r' : r ≡ c.1.0 = cc in sym y.1 ∙ ap (λ r. in_ref w (RegisterOf t r)) (sym r'))))
            (λ (nu : c.0 ≡ t → ⊥). inr (inl (c.0, (c.1.0, (put_other w.win t c.0 Shut nu ∙ c.1.1.0, ap (λ (y : TypedReference). y.reference) (place_other w.slots (In (RegisterOf t r)) (In (RegisterOf c.0 c.1.0)) none (λ k. nu (cc))) ∙ c.1.1.1)))))
            (cases_eq c.0 t))
            (λ d. inr (inr (ap (λ (y : ObjectState). y.live) (put_other w.obj o p x np) ∙ d))))
            (tied.acc p g u k a))
            (cases_eq p o);
        clean = record { none = tied.clean.none };
        obeys = tied.obeys;
      }

  -- what another effect than these leaves
  pub silently_tied : (w' : World) → Silent w w' → Tied l f w' log
  silently_tied w' s = silent_tied w' s.obj s.mutex (λ o g t k _ h. inl (s.passed o g t k h)) s.sole

  -- an object comes
  pub made_tied : (a : Holder) (o : ℕ) (ty : ObjectType) (found : ℕ → GranuleState) → in_ref w a ≡ 0 → Tied l f (make l w a o ty found) (New o ty (thread_of a) ∷ log)
  made_tied a o ty found e =
      let w' = make l w a o ty found in
      let x : ObjectState = record { live = true; global = false; ty = ty; owner = thread_of a } in
      let h : TypedReference = record { ty = ty; reference = o } in
      record {
        obj = ap (λ (y : ℕ → ObjectState). put y o x) tied.obj;
        mutex = tied.mutex;
        acc = λ p g u k c. ⊎_elim (λ s. inl (subst (λ (h : ℕ → GranuleState). Passed (h g) u k) (sym (put_other w.gran o p found c.0)) s))
            (⊎_elim
            (λ d. let so = sole_at z l w inv d.0 d.1.0 d.1.1.0 in
            inr (inl (d.0, (d.1.0, (d.1.1.0, ap (λ (y : TypedReference). y.reference) (place_other (retype w.slots o (l.cell ty o)) (In a) (In (RegisterOf d.0 d.1.0)) h (λ q. so.0 (let i : RegisterOf d.0 d.1.0 ≡ a = cc in ap (in_ref w) i ∙ e))) ∙ d.1.1.1)))))
            (λ d. inr (inr (ap (λ (y : ObjectState). y.live) (put_other w.obj o p x c.0) ∙ d))))
            (tied.acc p g u k c.1);
        clean = record { none = λ p g a c j ha hc. tied.clean.none p g a c j ha.1 hc.1 };
        obeys = tied.obeys;
      }

-- an effect keeps the tie, with what the source sees of it
module _ (z : Size) (l : TypeRules) (f : ℕ → ObjectState) (w w' : World) (log : List Event) (inv : WorldInvariant z l w) (tied : Tied l f w log) where
  with_mutex : (mu : ℕ → ℕ → ℕ) → w'.mutex ≡ mu → Silent w (record w' { mutex = w.mutex }) → Silent (record w { mutex = mu }) w'
  with_mutex mu e s = record { obj = s.obj; mutex = e; passed = s.passed; sole = s.sole }

  -- the worlds of one history are as they are tied: only what the tie reads counts
  retied : (v : World) (log' : List Event) → Tied l f v log' → Silent v w' → Tied l f w' log'
  retied v log' t s = record {
    obj = s.obj ∙ t.obj;
    mutex = s.mutex ∙ t.mutex;
    acc = λ o g u k h. ⊎_elim (λ p. inl (s.passed o g u k p))
        (λ c. inr (⊎_elim (λ c. inl (let x = s.sole c.0 c.1.0 c.1.1.0 in (c.0, (c.1.0, (x.0, x.1 ∙ c.1.1.1))))) (λ d. inr (ap (λ (f : ℕ → ObjectState). (f o).live) s.obj ∙ d)) c))
        (t.acc o g u k h);
    clean = t.clean;
    obeys = t.obeys;
  }

  pub effect_tied : (t : ℕ) (returned changes : Bool) → (returned ≡ true → NoneOf l log t) → (e : Effect l t returned changes w w') → Tied l f w' (events_of l t returned changes w w' e ++ log)
  effect_tied t returned changes none' (Silently s) = silently_tied z l f w log inv tied w' s
  effect_tied t returned changes none' (Accesses write b i right alone s) = retied w (Access t (base_of w t b) i write (l.mode (w.obj (base_of w t b)).ty i) ∷ log) (access_tied z l f w log inv tied t write b i right alone) s
  effect_tied t returned changes none' (Clears r g e q) = subst (λ v. Tied l f v log) (sym q) (clear_tied z l f w log inv tied t r g e)
  effect_tied t returned changes none' (Gives r ty c e q) = subst (λ v. Tied l f v (Give (in_ref w (RegisterOf t r)) ty t ∷ log)) (sym q) (give_tied z l f w log inv tied t r ty e)
  effect_tied t returned changes none' (Frees r c e q) = subst (λ v. Tied l f v (Freed (in_ref w (RegisterOf t r)) ∷ log)) (sym q) (freed_tied z l f w log inv tied t r e)
  effect_tied t returned changes none' (Makes r o ty found c d n q) = subst (λ v. Tied l f v (New o ty t ∷ log)) (sym q) (made_tied z l f w log inv tied (RegisterOf t r) o ty found n)
  effect_tied t returned changes none' (Locks o j free q s) = retied (set_mutex w o j (suc t)) (Lock t o j ∷ log) (lock_tied z l f w log inv tied t o j) (with_mutex (put2 w.mutex o j (suc t)) q s)
  effect_tied t returned changes none' (Unlocks o j held q s) = retied (set_mutex w o j 0) (Unlock o j ∷ log) (unlock_tied z l f w log inv tied t o j) (with_mutex (put2 w.mutex o j 0) q s)
  effect_tied t returned changes none' (Returns s) = retied w (Return t ∷ log) (return_tied z l f w log inv tied t) s
  effect_tied t returned changes none' (Withdraws o g r q) = subst (λ v. Tied l f v log) (sym q) (withdraw_tied z l f w log inv tied t o g (none' r))
