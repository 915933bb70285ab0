-- What an effect on the world leaves of a passed check, or of an object that a thread has alone or that is gone.
use Rattle.sharc_history_laws.proofs.Imports.{◌≡◌, ℕ, suc, ◌≢◌, ◌⊎◌, inl, inr, Bool, true, false, ◌&&◌, if◌then◌else◌, refl, sym, ap, ◌∙◌, subst, ⊎_elim, cases_eq, nat_eq, put, GranuleState, Passed, cleared, withdrawn, ObjectType, TypeRules, Size, RegisterOf, Slot, In, TypedReference, ObjectState, Shut, IsSole as Sole, World, WorldInvariant, WinOk, in_ref, put2, none, retype, give, make, set_gran, Effect, Silent, Silently, Gives, Frees, Locks, Unlocks, Returns, Closing, Without, ne_eq, put_same, put_other}
use Rattle.sharc_invariant.specs.{World.{place, freed}, Effect.{Accesses, Clears, Makes, Withdraws}}

-- thread u has passed a check of granule j of object n, or the object is had alone, or gone
abbrev pub Stands : World → (n j u : ℕ) → Bool → Type 0
Stands w n j u write = Passed (w.gran n j) u write ⊎ Without w n

-- ---- changed functions
gran_other : (f : ℕ → ℕ → GranuleState) (o g n j : ℕ) (v : GranuleState) → (n ≡ o → ⊥) → put2 f o g v n j ≡ f n j
gran_other f o g n j v ne = ap (λ (h : ℕ → GranuleState). h j) (put_other f o n (put (f o) g v) ne)

gran_beside : (f : ℕ → ℕ → GranuleState) (o g n j : ℕ) (v : GranuleState) → n ≡ o → (j ≡ g → ⊥) → put2 f o g v n j ≡ f n j
gran_beside f o g n j v e ne = ap (λ n. put2 f o g v n j) e ∙ ap (λ (h : ℕ → GranuleState). h j) (put_same f o (put (f o) g v)) ∙ put_other (f o) g j v ne ∙ ap (λ n. f n j) (sym e)

gran_there : (f : ℕ → ℕ → GranuleState) (o g n j : ℕ) (v : GranuleState) → n ≡ o → j ≡ g → put2 f o g v n j ≡ v
gran_there f o g n j v e q = ap (λ n. put2 f o g v n j) e ∙ ap (λ (h : ℕ → GranuleState). h j) (put_same f o (put (f o) g v)) ∙ ap (put (f o) g v) q ∙ put_same (f o) g v

-- a register of another thread
other_slot : (f : Slot → TypedReference) (t r v q : ℕ) (h : TypedReference) → (v ≡ t → ⊥) → place f (In (RegisterOf t r)) h (In (RegisterOf v q)) ≡ f (In (RegisterOf v q))
other_slot f t r v q h ne = let e : nat_eq v t ≡ false = ne_eq v t ne in ap (λ b. if (b && nat_eq q r) then h else f (In (RegisterOf v q))) e

beside_slot : (f : Slot → TypedReference) (t r v q : ℕ) (h : TypedReference) → (q ≡ r → ⊥) → place f (In (RegisterOf t r)) h (In (RegisterOf v q)) ≡ f (In (RegisterOf v q))
beside_slot f t r v q h ne =
    let e : nat_eq q r ≡ false = ne_eq q r ne in
    elim (nat_eq v t) as (λ a. (if (a && nat_eq q r) then h else f (In (RegisterOf v q))) ≡ f (In (RegisterOf v q))) [
      | true ↦ ap (λ b. if b then h else f (In (RegisterOf v q))) e
      | false ↦ refl
    ]

withdrawn_keeps : (g : GranuleState) (t u : ℕ) (write : Bool) → (u ≡ t → ⊥) → Passed g u write → Passed (withdrawn g t) u write
withdrawn_keeps g t u true ne h = put_other g.write_note t u 0 ne ∙ h
withdrawn_keeps g t u false ne h = ⊎_elim (λ (r : g.read_note u ≡ suc g.epoch). inl (put_other g.read_note t u 0 ne ∙ r)) (λ (w : g.write_note u ≡ suc g.epoch). inr (put_other g.write_note t u 0 ne ∙ w)) h

module _ (z : Size) (l : TypeRules) (w : World) (inv : WorldInvariant z l w) (t : ℕ) (n j u : ℕ) (write : Bool) where
  silent : (w' : World) → Silent w w' → Stands w n j u write → Stands w' n j u write
  silent w' s h = ⊎_elim
      (λ (p : Passed (w.gran n j) u write). inl (s.passed n j u write p))
      (λ (k : Without w n). ⊎_elim
      (λ (c : Closing w n). let still = s.sole c.0 c.1.0 c.1.1.0 in inr (inl (c.0, (c.1.0, (still.0, still.1 ∙ c.1.1.1)))))
      (λ (dead : (w.obj n).live ≡ false). inr (inr (ap (λ (f : ℕ → ObjectState). (f n).live) s.obj ∙ dead)))
      k)
      h

  -- the window of what a thread has alone
  sole_some : (v r : ℕ) → w.win v ≡ Sole r → in_ref w (RegisterOf v r) ≢ 0
  sole_some v r e = (subst (WinOk l w v) e (inv.wins v)).0

  sole_one : (v r q : ℕ) → w.win v ≡ Sole r → w.win v ≡ Sole q → r ≡ q
  sole_one v r q a b = let e : Sole r ≡ Sole q = sym a ∙ b in cc

  at_clear : (r g : ℕ) → w.win t ≡ Sole r → Stands w n j u write → Stands (set_gran w (in_ref w (RegisterOf t r)) g (cleared (w.gran (in_ref w (RegisterOf t r)) g))) n j u write
  at_clear r g e h =
      let o = in_ref w (RegisterOf t r) in
      let v = cleared (w.gran o g) in
      ⊎_elim
      (λ (same : n ≡ o). inr (inl (t, (r, (e, sym same)))))
      (λ (ne : n ≡ o → ⊥). ⊎_elim
      (λ (p : Passed (w.gran n j) u write). inl (subst (λ y. Passed y u write) (sym (gran_other w.gran o g n j v ne)) p))
      (λ (k : Without w n). inr k)
      h)
      (cases_eq n o)

  -- another thread has it alone still, where this one had another
  others_closing : (w' : World) (r : ℕ) → w.win t ≡ Sole r → (n ≡ in_ref w (RegisterOf t r) → ⊥) → ((v : ℕ) → (v ≡ t → ⊥) → w'.win v ≡ w.win v) → ((v q : ℕ) → (v ≡ t → ⊥) → in_ref w' (RegisterOf v q) ≡ in_ref w (RegisterOf v q)) → Closing w n → Closing w' n
  others_closing w' r e ne win ref c = ⊎_elim
      (λ (mine : c.0 ≡ t). absurd (ne (let q : c.1.0 ≡ r = sole_one t c.1.0 r (ap w.win (sym mine) ∙ c.1.1.0) e in sym c.1.1.1 ∙ ap (λ v. in_ref w (RegisterOf v c.1.0)) mine ∙ ap (λ q. in_ref w (RegisterOf t q)) q)))
      (λ (other : c.0 ≡ t → ⊥). (c.0, (c.1.0, (win c.0 other ∙ c.1.1.0, ref c.0 c.1.0 other ∙ c.1.1.1))))
      (cases_eq c.0 t)

  at_give : (r : ℕ) (ty : ObjectType) → w.win t ≡ Sole r → ((n ≡ in_ref w (RegisterOf t r)) → ⊥) → Stands w n j u write → Stands (give w t r ty) n j u write
  at_give r ty e ne h =
      let o = in_ref w (RegisterOf t r) in
      let y : TypedReference = record { ty = ty; reference = o } in
      ⊎_elim
      (λ (p : Passed (w.gran n j) u write). inl p)
      (λ (k : Without w n). ⊎_elim
      (λ (c : Closing w n). inr (inl (others_closing (give w t r ty) r e ne (λ v other. put_other w.win t v Shut other) (λ v q other. ap (λ (h : TypedReference). h.reference) (other_slot w.slots t r v q y other)) c)))
      (λ (dead : (w.obj n).live ≡ false). inr (inr (ap (λ (y : ObjectState). y.live) (put_other w.obj o n (record { live = true; global = false; ty = ty; owner = t }) ne) ∙ dead)))
      k)
      h

  at_freed : (r : ℕ) → w.win t ≡ Sole r → Stands w n j u write → Stands (freed w t r) n j u write
  at_freed r e h =
      let o = in_ref w (RegisterOf t r) in
      let gone : ObjectState = record { live = false; global = false; ty = Rattle.sharc_invariant.specs.Types.nothing; owner = 0 } in
      ⊎_elim
      (λ (same : n ≡ o). inr (inr (ap (λ n. ((freed w t r).obj n).live) same ∙ ap (λ (y : ObjectState). y.live) (put_same w.obj o gone))))
      (λ (ne : n ≡ o → ⊥). ⊎_elim
      (λ (p : Passed (w.gran n j) u write). inl p)
      (λ (k : Without w n). ⊎_elim
      (λ (c : Closing w n). inr (inl (others_closing (freed w t r) r e ne (λ v other. put_other w.win t v Shut other) (λ v q other. ap (λ (h : TypedReference). h.reference) (other_slot w.slots t r v q none other)) c)))
      (λ (dead : (w.obj n).live ≡ false). inr (inr (ap (λ (y : ObjectState). y.live) (put_other w.obj o n gone ne) ∙ dead)))
      k)
      h)
      (cases_eq n o)

  at_make : (r o : ℕ) (ty : ObjectType) (found : ℕ → GranuleState) → in_ref w (RegisterOf t r) ≡ 0 → (n ≡ o → ⊥) → Stands w n j u write → Stands (make l w (RegisterOf t r) o ty found) n j u write
  at_make r o ty found empty ne h =
      let y : TypedReference = record { ty = ty; reference = o } in
      ⊎_elim
      (λ (p : Passed (w.gran n j) u write). inl (subst (λ (f : ℕ → GranuleState). Passed (f j) u write) (sym (put_other w.gran o n found ne)) p))
      (λ (k : Without w n). ⊎_elim
      (λ (c : Closing w n).
      let v = c.0 in let q = c.1.0 in
      let still : in_ref (make l w (RegisterOf t r) o ty found) (RegisterOf v q) ≡ in_ref w (RegisterOf v q) = ⊎_elim
      (λ (mine : v ≡ t). ⊎_elim
      (λ (same : q ≡ r). absurd (sole_some v q c.1.1.0 (ap (λ v. in_ref w (RegisterOf v q)) mine ∙ ap (λ q. in_ref w (RegisterOf t q)) same ∙ empty)))
      (λ (other : q ≡ r → ⊥). ap (λ (h : TypedReference). h.reference) (beside_slot (retype w.slots o (l.cell ty o)) t r v q y other))
      (cases_eq q r))
      (λ (other : v ≡ t → ⊥). ap (λ (h : TypedReference). h.reference) (other_slot (retype w.slots o (l.cell ty o)) t r v q y other))
      (cases_eq v t) in
      inr (inl (v, (q, (c.1.1.0, still ∙ c.1.1.1)))))
      (λ (dead : (w.obj n).live ≡ false). inr (inr (ap (λ (y : ObjectState). y.live) (put_other w.obj o n (record { live = true; global = false; ty = ty; owner = t }) ne) ∙ dead)))
      k)
      h

  at_withdraw : (o g : ℕ) → (u ≡ t → ⊥) → Stands w n j u write → Stands (set_gran w o g (withdrawn (w.gran o g) t)) n j u write
  at_withdraw o g ne h =
      let v = withdrawn (w.gran o g) t in
      ⊎_elim
      (λ (p : Passed (w.gran n j) u write). inl (⊎_elim
      (λ (same : n ≡ o). ⊎_elim
      (λ (here : j ≡ g). subst (λ y. Passed y u write) (sym (gran_there w.gran o g n j v same here)) (withdrawn_keeps (w.gran o g) t u write ne (subst (λ j. Passed (w.gran o j) u write) here (subst (λ n. Passed (w.gran n j) u write) same p))))
      (λ (beside : j ≡ g → ⊥). subst (λ y. Passed y u write) (sym (gran_beside w.gran o g n j v same beside)) p)
      (cases_eq j g))
      (λ (other : n ≡ o → ⊥). subst (λ y. Passed y u write) (sym (gran_other w.gran o g n j v other)) p)
      (cases_eq n o)))
      (λ (k : Without w n). inr k)
      h

  -- each effect but a Give or a New of the object, and a withdrawal of the thread
  pub carried : (returned changes : Bool) (w' : World) (e : Effect l t returned changes w w')
      → ((r : ℕ) → changes ≡ true → w.win t ≡ Sole r → (w'.obj n).live ≡ true → n ≡ in_ref w (RegisterOf t r) → ⊥)
      → (changes ≡ true → (w.obj n).live ≡ false → (w'.obj n).live ≡ true → ⊥)
      → (returned ≡ true → u ≡ t → ⊥)
      → Stands w n j u write → Stands w' n j u write
  carried returned changes w' (Silently s) give make back h = silent w' s h
  carried returned changes w' (Accesses k b i right alone s) give make back h = silent w' s h
  carried returned changes w' (Clears r g e q) give make back h = subst (λ w'. Stands w' n j u write) (sym q) (at_clear r g e h)
  carried returned changes w' (Gives r ty c e q) gave made back h =
      let o = in_ref w (RegisterOf t r) in
      let other : n ≡ o → ⊥ = λ same. gave r c e (ap (λ (w' : World). (w'.obj n).live) q ∙ ap (λ n. ((give w t r ty).obj n).live) same ∙ ap (λ (y : ObjectState). y.live) (put_same w.obj o (record { live = true; global = false; ty = ty; owner = t }))) same in
      subst (λ w'. Stands w' n j u write) (sym q) (at_give r ty e other h)
  carried returned changes w' (Frees r c e q) give make back h = subst (λ w'. Stands w' n j u write) (sym q) (at_freed r e h)
  carried returned changes w' (Makes r o ty found c dead empty q) gave made back h =
      let other : n ≡ o → ⊥ = λ same. made c (ap (λ n. (w.obj n).live) same ∙ dead)
      (ap (λ (w' : World). (w'.obj n).live) q ∙ ap (λ n. ((make l w (RegisterOf t r) o ty found).obj n).live) same ∙ ap (λ (y : ObjectState). y.live) (put_same w.obj o (record { live = true; global = false; ty = ty; owner = t }))) in
      subst (λ w'. Stands w' n j u write) (sym q) (at_make r o ty found empty other h)
  carried returned changes w' (Locks o i f q s) give make back h = silent (record w' { mutex = w.mutex }) s h
  carried returned changes w' (Unlocks o i f q s) give make back h = silent (record w' { mutex = w.mutex }) s h
  carried returned changes w' (Returns s) give make back h = silent w' s h
  carried returned changes w' (Withdraws o g r q) give make back h = subst (λ w'. Stands w' n j u write) (sym q) (at_withdraw o g (back r) h)

-- ---- an object that is had alone, or gone, stays so until it is given
module _ (z : Size) (l : TypeRules) (w : World) (inv : WorldInvariant z l w) (t n : ℕ) where
  closing_else : (w' : World) (r : ℕ) → w.win t ≡ Sole r → (n ≡ in_ref w (RegisterOf t r) → ⊥) → ((v : ℕ) → (v ≡ t → ⊥) → w'.win v ≡ w.win v) → ((v q : ℕ) → (v ≡ t → ⊥) → in_ref w' (RegisterOf v q) ≡ in_ref w (RegisterOf v q)) → Closing w n → Closing w' n
  closing_else w' r e ne win ref c = others_closing z l w inv t n 0 0 true w' r e ne win ref c

  without_silent : (w' : World) → Silent w w' → Without w n → Without w' n
  without_silent w' s k = ⊎_elim
      (λ (c : Closing w n). let still = s.sole c.0 c.1.0 c.1.1.0 in inl (c.0, (c.1.0, (still.0, still.1 ∙ c.1.1.1))))
      (λ (dead : (w.obj n).live ≡ false). inr (ap (λ (f : ℕ → ObjectState). (f n).live) s.obj ∙ dead))
      k

  without_give : (r : ℕ) (ty : ObjectType) → w.win t ≡ Sole r → (n ≡ in_ref w (RegisterOf t r) → ⊥) → Without w n → Without (give w t r ty) n
  without_give r ty e ne k =
      let o = in_ref w (RegisterOf t r) in
      let y : TypedReference = record { ty = ty; reference = o } in
      ⊎_elim
      (λ (c : Closing w n). inl (closing_else (give w t r ty) r e ne (λ v other. put_other w.win t v Shut other) (λ v q other. ap (λ (h : TypedReference). h.reference) (other_slot w.slots t r v q y other)) c))
      (λ (dead : (w.obj n).live ≡ false). inr (ap (λ (y : ObjectState). y.live) (put_other w.obj o n (record { live = true; global = false; ty = ty; owner = t }) ne) ∙ dead))
      k

  without_freed : (r : ℕ) → w.win t ≡ Sole r → Without w n → Without (freed w t r) n
  without_freed r e k =
      let o = in_ref w (RegisterOf t r) in
      let gone : ObjectState = record { live = false; global = false; ty = Rattle.sharc_invariant.specs.Types.nothing; owner = 0 } in
      ⊎_elim
      (λ (same : n ≡ o). inr (ap (λ n. ((freed w t r).obj n).live) same ∙ ap (λ (y : ObjectState). y.live) (put_same w.obj o gone)))
      (λ (ne : n ≡ o → ⊥). ⊎_elim
      (λ (c : Closing w n). inl (closing_else (freed w t r) r e ne (λ v other. put_other w.win t v Shut other) (λ v q other. ap (λ (h : TypedReference). h.reference) (other_slot w.slots t r v q none other)) c))
      (λ (dead : (w.obj n).live ≡ false). inr (ap (λ (y : ObjectState). y.live) (put_other w.obj o n gone ne) ∙ dead))
      k)
      (cases_eq n o)

  without_make : (r o : ℕ) (ty : ObjectType) (found : ℕ → GranuleState) → in_ref w (RegisterOf t r) ≡ 0 → (n ≡ o → ⊥) → Without w n → Without (make l w (RegisterOf t r) o ty found) n
  without_make r o ty found empty ne k =
      let y : TypedReference = record { ty = ty; reference = o } in
      ⊎_elim
      (λ (c : Closing w n).
      let v = c.0 in let q = c.1.0 in
      let still : in_ref (make l w (RegisterOf t r) o ty found) (RegisterOf v q) ≡ in_ref w (RegisterOf v q) = ⊎_elim
      (λ (mine : v ≡ t). ⊎_elim
      (λ (same : q ≡ r). absurd (sole_some z l w inv t n 0 0 true v q c.1.1.0 (ap (λ v. in_ref w (RegisterOf v q)) mine ∙ ap (λ q. in_ref w (RegisterOf t q)) same ∙ empty)))
      (λ (other : q ≡ r → ⊥). ap (λ (h : TypedReference). h.reference) (beside_slot (retype w.slots o (l.cell ty o)) t r v q y other))
      (cases_eq q r))
      (λ (other : v ≡ t → ⊥). ap (λ (h : TypedReference). h.reference) (other_slot (retype w.slots o (l.cell ty o)) t r v q y other))
      (cases_eq v t) in
      inl (v, (q, (c.1.1.0, still ∙ c.1.1.1))))
      (λ (dead : (w.obj n).live ≡ false). inr (ap (λ (y : ObjectState). y.live) (put_other w.obj o n (record { live = true; global = false; ty = ty; owner = t }) ne) ∙ dead))
      k

  pub without_carried : (returned changes : Bool) (w' : World) (e : Effect l t returned changes w w')
      → ((r : ℕ) → changes ≡ true → w.win t ≡ Sole r → (w'.obj n).live ≡ true → n ≡ in_ref w (RegisterOf t r) → ⊥)
      → (changes ≡ true → (w.obj n).live ≡ false → (w'.obj n).live ≡ true → ⊥)
      → Without w n → Without w' n
  without_carried returned changes w' (Silently s) gave made h = without_silent w' s h
  without_carried returned changes w' (Accesses k b i right alone s) gave made h = without_silent w' s h
  without_carried returned changes w' (Clears r g e q) gave made h = subst (λ w'. Without w' n) (sym q) h
  without_carried returned changes w' (Gives r ty c e q) gave made h =
      let o = in_ref w (RegisterOf t r) in
      let other : n ≡ o → ⊥ = λ same. gave r c e (ap (λ (w' : World). (w'.obj n).live) q ∙ ap (λ n. ((give w t r ty).obj n).live) same ∙ ap (λ (y : ObjectState). y.live) (put_same w.obj o (record { live = true; global = false; ty = ty; owner = t }))) same in
      subst (λ w'. Without w' n) (sym q) (without_give r ty e other h)
  without_carried returned changes w' (Frees r c e q) gave made h = subst (λ w'. Without w' n) (sym q) (without_freed r e h)
  without_carried returned changes w' (Makes r o ty found c dead empty q) gave made h =
      let other : n ≡ o → ⊥ = λ same. made c (ap (λ n. (w.obj n).live) same ∙ dead)
      (ap (λ (w' : World). (w'.obj n).live) q ∙ ap (λ n. ((make l w (RegisterOf t r) o ty found).obj n).live) same ∙ ap (λ (y : ObjectState). y.live) (put_same w.obj o (record { live = true; global = false; ty = ty; owner = t }))) in
      subst (λ w'. Without w' n) (sym q) (without_make r o ty found empty other h)
  without_carried returned changes w' (Locks o i f q s) gave made h = without_silent (record w' { mutex = w.mutex }) s h
  without_carried returned changes w' (Unlocks o i f q s) gave made h = without_silent (record w' { mutex = w.mutex }) s h
  without_carried returned changes w' (Returns s) gave made h = without_silent w' s h
  without_carried returned changes w' (Withdraws o g r q) gave made h = subst (λ w'. Without w' n) (sym q) h
