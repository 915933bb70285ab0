-- Each effect of a turn keeps the invariant of the world.
use Rattle.sharc_invariant.proofs.{Imports.{◌≡◌, ℕ, suc, ◌+◌, ◌-◌, ◌<◌, ◌≤◌, ◌⊎◌, ◌≢◌, Bool, true, false, refl, sym, ap, ◌∙◌, subst, inl, inr, ⊎_elim, arith, eqb-true, cases_eq, and_parts, nat_eq, put, put_same, put_other, put_all, GranuleState, Bits, one, sum_to, Passed, Clean, cleared, marked, passed, withdrawn, ObjectType, nothing, CellMode, Private, Readonly, Racy, Dynamic, Locked, Sibling, Behind, TypeRules, Laws, TypedReference, Holder, RegisterOf, ArgumentOf, LogOf, Staged, Slot, In, CellOf as Cell, ObjectState, Base, By, Window, Shut, May, IsLoaded as Loaded, Sole, World, put2, same_own, same_slot, place, none, null, thread_of, in_ref, Size, total, Inside, base_of, Based, CanBy, Can, Right, WinOk, Uses, Opens, who, FitsType as Fits, Words, WorldInvariant, set_slot, grow, drop, shift, set_win, swap, set_gran, set_mutex, give, retype, make, freed, eq_refl}, Sums.{sum_zero, sum_ext, sum_one, one_same, one_other}, Granules.{up, down, bits_cleared, bits_marked, bits_passed, bits_withdrawn}}
use Rattle.sharc_invariant.specs.World.{Global, Free}

own_eq : (a b : Holder) → same_own a b ≡ true → a ≡ b
own_eq (RegisterOf t r) (RegisterOf u q) h = let p = and_parts (nat_eq t u) (nat_eq r q) h in ap (λ x. RegisterOf x r) (eqb-true t u p.0) ∙ ap (λ x. RegisterOf u x) (eqb-true r q p.1)
own_eq (ArgumentOf t) (ArgumentOf u) h = ap ArgumentOf (eqb-true t u h)
own_eq (LogOf t r) (LogOf u q) h = let p = and_parts (nat_eq t u) (nat_eq r q) h in ap (λ x. LogOf x r) (eqb-true t u p.0) ∙ ap (λ x. LogOf u x) (eqb-true r q p.1)
own_eq (Staged t) (Staged u) h = ap Staged (eqb-true t u h)
own_eq _ _ h = absurd (cc)

own_refl : (a : Holder) → same_own a a ≡ true
own_refl (RegisterOf t r) = rw (eq_refl t, eq_refl r) refl
own_refl (ArgumentOf t) = eq_refl t
own_refl (LogOf t r) = rw (eq_refl t, eq_refl r) refl
own_refl (Staged t) = eq_refl t

slot_eq : (q s : Slot) → same_slot q s ≡ true → q ≡ s
slot_eq (In a) (In b) h = ap In (own_eq a b h)
slot_eq (In a) (Cell o i) h = absurd (cc)
slot_eq (Cell o i) (In a) h = absurd (cc)
slot_eq (Cell o i) (Cell p j) h = let q = and_parts (nat_eq o p) (nat_eq i j) h in ap (λ x. Cell x i) (eqb-true o p q.0) ∙ ap (λ x. Cell p x) (eqb-true i j q.1)

slot_refl : (s : Slot) → same_slot s s ≡ true
slot_refl (In a) = own_refl a
slot_refl (Cell o i) = rw (eq_refl o, eq_refl i) refl

pub slot_cases : (q s : Slot) → (q ≡ s) ⊎ (q ≡ s → ⊥)
slot_cases q s = elim (same_slot q s) as (λ b. same_slot q s ≡ b → (q ≡ s) ⊎ (q ≡ s → ⊥)) [
  | true ↦ λ e. inl (slot_eq q s e)
  | false ↦ λ e. inr (λ eq. let x : same_slot q s ≡ true = subst (λ y. same_slot q y ≡ true) eq (slot_refl q) in cc)
] refl

pub place_same : (f : Slot → TypedReference) (s : Slot) (v : TypedReference) → place f s v s ≡ v
place_same f s v = rw (slot_refl s) refl

slot_ne : (q s : Slot) → (q ≡ s → ⊥) → same_slot q s ≡ false
slot_ne q s ne = elim (same_slot q s) as (λ b. same_slot q s ≡ b → b ≡ false) [ true ↦ λ e. absurd (ne (slot_eq q s e)) | false ↦ λ e. refl ] refl

pub place_other : (f : Slot → TypedReference) (s q : Slot) (v : TypedReference) → (q ≡ s → ⊥) → place f s v q ≡ f q
place_other f s q v ne = rw (slot_ne q s ne) refl

pub place_all : (P : Slot → TypedReference → Type 0) (f : Slot → TypedReference) (s : Slot) (v : TypedReference) → P s v → ((q : Slot) → (q ≡ s → ⊥) → P q (f q)) → (q : Slot) → P q (place f s v q)
place_all P f s v here there q = ⊎_elim
    (λ (e : q ≡ s). subst (λ k. P k (place f s v k)) (sym e) (subst (P s) (sym (place_same f s v)) here))
    (λ (ne : q ≡ s → ⊥). subst (P q) (sym (place_other f s q v ne)) (there q ne))
    (slot_cases q s)

pub put2_all : {A : Type 0} (P : ℕ → ℕ → A → Type 0) (f : ℕ → ℕ → A) (o i : ℕ) (v : A) → P o i v → ((p j : ℕ) → P p j (f p j)) → (p j : ℕ) → P p j (put2 f o i v p j)
put2_all P f o i v here there = put_all (λ p h. (j : ℕ) → P p j (h j)) f o (put (f o) i v) (put_all (P o) (f o) i v here (λ j _. there o j)) (λ p _ j. there p j)

-- one slot changed: the four sums
module _ (z : Size) (f : Slot → TypedReference) (v : TypedReference) (o : ℕ) where
  abbrev n_of : TypedReference → ℕ
  n_of h = one h.reference o

  abbrev s_args : (Slot → TypedReference) → ℕ
  s_args g = sum_to z.threads (λ t. n_of (g (In (ArgumentOf t))))

  n_other : (s q : Slot) → (q ≡ s → ⊥) → n_of (place f s v q) ≡ n_of (f q)
  n_other s q ne = ap n_of (place_other f s q v ne)

  n_same : (s : Slot) → n_of (place f s v s) ≡ n_of v
  n_same s = ap n_of (place_same f s v)

  -- a sum of sums in which one slot changed
  two : (m n : ℕ) (at : ℕ → ℕ → Slot) (a b : ℕ) → a < m → b < n → ((p q : ℕ) → at p q ≡ at a b → p ≡ a) → ((q : ℕ) → at a q ≡ at a b → q ≡ b) → sum_to m (λ p. sum_to n (λ q. n_of (place f (at a b) v (at p q)))) + n_of (f (at a b)) ≡ sum_to m (λ p. sum_to n (λ q. n_of (f (at p q)))) + n_of v
  two m n at a b la lb ia ib =
      let s = at a b in
      let inner = sum_one n b (λ q. n_of (f (at a q))) (λ q. n_of (place f s v (at a q))) lb (λ q ne. n_other s (at a q) (λ e. ne (ib q e))) in
      let outer = sum_one m a (λ p. sum_to n (λ q. n_of (f (at p q)))) (λ p. sum_to n (λ q. n_of (place f s v (at p q)))) la (λ p ne. sum_ext n (λ q. n_of (f (at p q))) (λ q. n_of (place f s v (at p q))) (λ q _. n_other s (at p q) (λ e. ne (ia p q e)))) in
      let here = n_same s in
      omega arith

  -- a sum of sums in which none did
  same : (m n : ℕ) (at : ℕ → ℕ → Slot) (s : Slot) → ((p q : ℕ) → at p q ≡ s → ⊥) → sum_to m (λ p. sum_to n (λ q. n_of (place f s v (at p q)))) ≡ sum_to m (λ p. sum_to n (λ q. n_of (f (at p q))))
  same m n at s ne = sum_ext m (λ p. sum_to n (λ q. n_of (f (at p q)))) (λ p. sum_to n (λ q. n_of (place f s v (at p q)))) (λ p _. sum_ext n (λ q. n_of (f (at p q))) (λ q. n_of (place f s v (at p q))) (λ q _. n_other s (at p q) (ne p q)))

  same_staged : (s : Slot) → ((t : ℕ) → In (Staged t) ≡ s → ⊥) → sum_to z.threads (λ t. n_of (place f s v (In (Staged t)))) ≡ sum_to z.threads (λ t. n_of (f (In (Staged t))))
  same_staged s ne = sum_ext z.threads (λ t. n_of (f (In (Staged t)))) (λ t. n_of (place f s v (In (Staged t)))) (λ t _. n_other s (In (Staged t)) (ne t))

  same_args : (s : Slot) → ((t : ℕ) → In (ArgumentOf t) ≡ s → ⊥) → s_args (place f s v) ≡ s_args f
  same_args s ne = sum_ext z.threads (λ t. n_of (f (In (ArgumentOf t)))) (λ t. n_of (place f s v (In (ArgumentOf t)))) (λ t _. n_other s (In (ArgumentOf t)) (ne t))

  pub total_place : (s : Slot) → Inside z s → total z (place f s v) o + n_of (f s) ≡ total z f o + n_of v
  unfolding total
  total_place (In (RegisterOf t r)) i =
      let s = In (RegisterOf t r) in
      let a = two z.threads z.regs (λ p q. In (RegisterOf p q)) t r i.0 i.1 (λ p q e. cc) (λ q e. cc) in
      let b = same_args s (λ u e. absurd (cc)) in
      let c = same z.threads z.log (λ p q. In (LogOf p q)) s (λ p q e. absurd (cc)) in
      let d = same z.objects z.cells (λ p q. Cell p q) s (λ p q e. absurd (cc)) in
      let e = same_staged s (λ u e. absurd (cc)) in
      omega arith
  total_place (In (ArgumentOf t)) i =
      let s = In (ArgumentOf t) in
      let a = same z.threads z.regs (λ p q. In (RegisterOf p q)) s (λ p q e. absurd (cc)) in
      let b = sum_one z.threads t (λ t. n_of (f (In (ArgumentOf t)))) (λ t. n_of (place f s v (In (ArgumentOf t)))) i (λ u ne. n_other s (In (ArgumentOf u)) (λ e. ne (cc))) in
      let h = n_same s in
      let c = same z.threads z.log (λ p q. In (LogOf p q)) s (λ p q e. absurd (cc)) in
      let d = same z.objects z.cells (λ p q. Cell p q) s (λ p q e. absurd (cc)) in
      let e = same_staged s (λ u e. absurd (cc)) in
      omega arith
  total_place (In (LogOf t r)) i =
      let s = In (LogOf t r) in
      let a = same z.threads z.regs (λ p q. In (RegisterOf p q)) s (λ p q e. absurd (cc)) in
      let b = same_args s (λ u e. absurd (cc)) in
      let c = two z.threads z.log (λ p q. In (LogOf p q)) t r i.0 i.1 (λ p q e. cc) (λ q e. cc) in
      let d = same z.objects z.cells (λ p q. Cell p q) s (λ p q e. absurd (cc)) in
      let e = same_staged s (λ u e. absurd (cc)) in
      omega arith
  total_place (In (Staged t)) i =
      let s = In (Staged t) in
      let a = same z.threads z.regs (λ p q. In (RegisterOf p q)) s (λ p q e. absurd (cc)) in
      let b = same_args s (λ u e. absurd (cc)) in
      let e = sum_one z.threads t (λ t. n_of (f (In (Staged t)))) (λ t. n_of (place f s v (In (Staged t)))) i (λ u ne. n_other s (In (Staged u)) (λ e. ne (cc))) in
      let h = n_same s in
      let c = same z.threads z.log (λ p q. In (LogOf p q)) s (λ p q e. absurd (cc)) in
      let d = same z.objects z.cells (λ p q. Cell p q) s (λ p q e. absurd (cc)) in
      omega arith
  total_place (Cell p j) i =
      let s = Cell p j in
      let a = same z.threads z.regs (λ p q. In (RegisterOf p q)) s (λ p q e. absurd (cc)) in
      let b = same_args s (λ u e. absurd (cc)) in
      let c = same z.threads z.log (λ p q. In (LogOf p q)) s (λ p q e. absurd (cc)) in
      let d = two z.objects z.cells (λ p q. Cell p q) p j i.0 i.1 (λ p q e. cc) (λ q e. cc) in
      let e = same_staged s (λ u e. absurd (cc)) in
      omega arith

-- the same references are as many
pub total_ext : (z : Size) (f g : Slot → TypedReference) (o : ℕ) → ((s : Slot) → (g s).reference ≡ (f s).reference) → total z g o ≡ total z f o
unfolding total
total_ext z f g o h =
    let k : (s : Slot) → one (g s).reference o ≡ one (f s).reference o = λ s. ap (λ n. one n o) (h s) in
    let a = sum_ext z.threads (λ t. sum_to z.regs (λ r. one (f (In (RegisterOf t r))).reference o)) (λ t. sum_to z.regs (λ r. one (g (In (RegisterOf t r))).reference o)) (λ t _. sum_ext z.regs (λ r. one (f (In (RegisterOf t r))).reference o) (λ r. one (g (In (RegisterOf t r))).reference o) (λ r _. k (In (RegisterOf t r)))) in
    let b = sum_ext z.threads (λ t. one (f (In (ArgumentOf t))).reference o) (λ t. one (g (In (ArgumentOf t))).reference o) (λ t _. k (In (ArgumentOf t))) in
    let c = sum_ext z.threads (λ t. sum_to z.log (λ r. one (f (In (LogOf t r))).reference o)) (λ t. sum_to z.log (λ r. one (g (In (LogOf t r))).reference o)) (λ t _. sum_ext z.log (λ r. one (f (In (LogOf t r))).reference o) (λ r. one (g (In (LogOf t r))).reference o) (λ r _. k (In (LogOf t r)))) in
    let e = sum_ext z.threads (λ t. one (f (In (Staged t))).reference o) (λ t. one (g (In (Staged t))).reference o) (λ t _. k (In (Staged t))) in
    let d = sum_ext z.objects (λ t. sum_to z.cells (λ r. one (f (Cell t r)).reference o)) (λ t. sum_to z.cells (λ r. one (g (Cell t r)).reference o)) (λ t _. sum_ext z.cells (λ r. one (f (Cell t r)).reference o) (λ r. one (g (Cell t r)).reference o) (λ r _. k (Cell t r))) in
    omega arith

-- where no slot refers to it there are none
pub total_none : (z : Size) (f : Slot → TypedReference) (o : ℕ) → ((s : Slot) → (f s).reference ≡ o → ⊥) → total z f o ≡ 0
unfolding total
total_none z f o h =
    let k : (s : Slot) → one (f s).reference o ≡ 0 = λ s. one_other (f s).reference o (h s) in
    let a = sum_zero z.threads (λ t. sum_to z.regs (λ r. one (f (In (RegisterOf t r))).reference o)) (λ t. sum_zero z.regs (λ r. one (f (In (RegisterOf t r))).reference o) (λ r. k (In (RegisterOf t r)))) in
    let b = sum_zero z.threads (λ t. one (f (In (ArgumentOf t))).reference o) (λ t. k (In (ArgumentOf t))) in
    let c = sum_zero z.threads (λ t. sum_to z.log (λ r. one (f (In (LogOf t r))).reference o)) (λ t. sum_zero z.log (λ r. one (f (In (LogOf t r))).reference o) (λ r. k (In (LogOf t r)))) in
    let e = sum_zero z.threads (λ t. one (f (In (Staged t))).reference o) (λ t. k (In (Staged t))) in
    let d = sum_zero z.objects (λ t. sum_to z.cells (λ r. one (f (Cell t r)).reference o)) (λ t. sum_zero z.cells (λ r. one (f (Cell t r)).reference o) (λ r. k (Cell t r))) in
    omega arith

retype_all : (P : Slot → TypedReference → Type 0) (f : Slot → TypedReference) (o : ℕ) (ty : ℕ → ObjectType) → ((i : ℕ) → P (Cell o i) (null (ty i))) → ((s : Slot) → ((i : ℕ) → s ≡ Cell o i → ⊥) → P s (f s)) → (s : Slot) → P s (retype f o ty s)
retype_all P f o ty here there (In a) = there (In a) (λ i e. cc)
retype_all P f o ty here there (Cell p i) = put_all (λ p (g : ℕ → TypedReference). P (Cell p i) (g i)) (λ p i. f (Cell p i)) o (λ i. null (ty i)) (here i) (λ p ne. there (Cell p i) (λ j e. ne (cc))) p

pub total_two : (z : Size) (f : Slot → TypedReference) (a b : Slot) (v w : TypedReference) (o : ℕ) → (b ≡ a → ⊥) → Inside z a → Inside z b → total z (place (place f a v) b w) o + one (f a).reference o + one (f b).reference o ≡ total z f o + one v.reference o + one w.reference o
total_two z f a b v w o ne ia ib =
    let x = total_place z f v o a ia in
    let y = total_place z (place f a v) w o b ib in
    let e : one (place f a v b).reference o ≡ one (f b).reference o = ap (λ (h : TypedReference). one h.reference o) (place_other f a b v ne) in
    omega arith

pub sole_slot : (z : Size) (f : Slot → TypedReference) (a b : Slot) (o : ℕ) → Inside z a → Inside z b → total z f o ≡ 1 → (f a).reference ≡ o → (f b).reference ≡ o → b ≡ a
sole_slot z f a b o ia ib h ea eb = ⊎_elim (λ (e : b ≡ a). e)
    (λ (ne : b ≡ a → ⊥).
    let none' : TypedReference = record { ty = nothing; reference = suc o } in
    let x = total_two z f a b none' none' o ne ia ib in
    let p : one (f a).reference o ≡ 1 = ap (λ n. one n o) ea ∙ one_same o in
    let q : one (f b).reference o ≡ 1 = ap (λ n. one n o) eb ∙ one_same o in
    let r : one (suc o) o ≡ 0 = one_other (suc o) o (λ i. omega arith) in
    absurd (omega arith))
    (slot_cases b a)

-- what a turn keeps of a base that a window stands on
pub record Kept (l : TypeRules) (w w' : World) (t : ℕ) (b : Base) : Type 0 where
  pub regs : (r : ℕ) → b ≡ By r → w'.slots (In (RegisterOf t r)) ≡ w.slots (In (RegisterOf t r))
  pub obj : Based w t b → w'.obj (base_of w t b) ≡ w.obj (base_of w t b)
  pub sets : Based w t b → (k : Bool) (i : ℕ) → Passed (w.gran (base_of w t b) (l.granule i)) t k → Passed (w'.gran (base_of w t b) (l.granule i)) t k
  pub mutex : (p j : ℕ) → w.mutex p j ≡ suc t → w'.mutex p j ≡ suc t
  pub lock : Based w t b → (i j : ℕ) → l.mode (w.obj (base_of w t b)).ty i ≡ Behind j → (w'.slots (Cell (base_of w t b) j)).reference ≡ (w.slots (Cell (base_of w t b) j)).reference
  pub cell : Based w t b → (i : ℕ) → Can l w t false (base_of w t b) i → (w'.slots (Cell (base_of w t b) i)).reference ≡ (w.slots (Cell (base_of w t b) i)).reference

can_kept : (l : TypeRules) (w w' : World) (t : ℕ) (k : Bool) (o i : ℕ) (m : CellMode) → (w'.obj o).owner ≡ (w.obj o).owner → (Passed (w.gran o (l.granule i)) t k → Passed (w'.gran o (l.granule i)) t k) → ((p j : ℕ) → w.mutex p j ≡ suc t → w'.mutex p j ≡ suc t) → ((j : ℕ) → m ≡ Behind j → (w'.slots (Cell o j)).reference ≡ (w.slots (Cell o j)).reference) → CanBy l w t k o i m → CanBy l w' t k o i m
can_kept l w w' t k o i Private e p m b h = e ∙ h
can_kept l w w' t k o i Readonly e p m b h = h
can_kept l w w' t k o i Racy e p m b h = tt
can_kept l w w' t k o i Dynamic e p m b h = p h
can_kept l w w' t k o i (Locked q j) e p m b h = m q j h
can_kept l w w' t k o i (Sibling j) e p m b h = m o j h
can_kept l w w' t k o i (Behind j) e p m b h = let r = (w.slots (Cell o j)).reference in let P : ℕ → Type 0 = λ x. w'.mutex x 0 ≡ suc t in subst P (sym (b j refl)) (m r 0 h)

base_kept : (l : TypeRules) (w w' : World) (t : ℕ) (b : Base) → Kept l w w' t b → base_of w' t b ≡ base_of w t b
base_kept l w w' t (By r) f = ap (λ (h : TypedReference). h.reference) (f.regs r refl)
base_kept l w w' t (Global g) f = refl

based_kept : (l : TypeRules) (w w' : World) (t : ℕ) (b : Base) → Kept l w w' t b → Based w t b → Based w' t b
based_kept l w w' t (By r) f h = let P : ℕ → Type 0 = λ x. x ≢ 0 in subst P (sym (ap (λ (h : TypedReference). h.reference) (f.regs r refl))) h
based_kept l w w' t (Global g) f h = let e = f.obj h in (ap (λ (x : ObjectState). x.live) e ∙ h.0, ap (λ (x : ObjectState). x.global) e ∙ h.1)

right_kept : (l : TypeRules) (w w' : World) (t : ℕ) (k : Bool) (b : Base) (i : ℕ) → Kept l w w' t b → Right l w t k b i → Right l w' t k b i
right_kept l w w' t k b i f h =
    let o = base_of w t b in
    let e = f.obj h.based in
    let can1 : CanBy l w' t k o i (l.mode (w.obj o).ty i) = can_kept l w w' t k o i (l.mode (w.obj o).ty i) (ap (λ (x : ObjectState). x.owner) e) (f.sets h.based k i) f.mutex (f.lock h.based i) h.can in
    let can' : Can l w' t k o i = subst (λ ty. CanBy l w' t k o i (l.mode ty i)) (sym (ap (λ (x : ObjectState). x.ty) e)) can1 in
    record {
      based = based_kept l w w' t b f h.based;
      can = subst (λ p. Can l w' t k p i) (sym (base_kept l w w' t b f)) can';
    }

win_kept : (l : TypeRules) (w w' : World) (t : ℕ) (x : Window) → ((b : Base) → Opens x b → Kept l w w' t b) → ((r : ℕ) → x ≡ Sole r → in_ref w (RegisterOf t r) ≢ 0 → w.count (in_ref w (RegisterOf t r)) ≡ 1 → (w'.slots (In (RegisterOf t r)) ≡ w.slots (In (RegisterOf t r))) × (w'.count (in_ref w (RegisterOf t r)) ≡ 1)) → WinOk l w t x → WinOk l w' t x
win_kept l w w' t Shut f g h = tt
win_kept l w w' t (May k b i) f g h = right_kept l w w' t k b i (f b refl) h
win_kept l w w' t (Loaded b i v) f g h =
    let k = f b refl in
    let P : ℕ → Type 0 = λ o. (w'.slots (Cell o i)).reference ≡ v in
    (right_kept l w w' t false b i k h.0, subst P (sym (base_kept l w w' t b k)) (k.cell h.0.based i h.0.can ∙ h.1))
win_kept l w w' t (Sole r) f g h =
    let k = g r refl h.0 h.1 in
    let P : ℕ → Type 0 = λ o. (o ≢ 0) × (w'.count o ≡ 1) in
    subst P (sym (ap (λ (h : TypedReference). h.reference) k.0)) (h.0, k.1)

opens_uses : (x : Window) (b : Base) → Opens x b → Uses x b
opens_uses (Sole r) b h = absurd h
opens_uses _ b h = h

pub thread_ne : (a : Holder) (t u r : ℕ) → thread_of a ≡ t → (u ≡ t → ⊥) → a ≡ RegisterOf u r → ⊥
thread_ne (RegisterOf v q) t u r e ne h = let x : v ≡ u = cc in ne (sym x ∙ e)
thread_ne _ t u r e ne h = absurd (cc)

-- may two threads do this
exclusive_by : (l : TypeRules) (n : ℕ) (w : World) (t u o i : ℕ) (m : CellMode) → (m ≡ Racy → ⊥) → Bits n (w.gran o (l.granule i)) → CanBy l w t true o i m → CanBy l w u false o i m → t ≡ u
exclusive_by l n w t u o i Private r b h k = sym h ∙ k
exclusive_by l n w t u o i Readonly r b h k = absurd (cc)
exclusive_by l n w t u o i Racy r b h k = absurd (r refl)
exclusive_by l n w t u o i Dynamic r b h k = b.alone t u h k
exclusive_by l n w t u o i _ r b h k = let e : suc t ≡ suc u = sym h ∙ k in omega arith

-- the same slots and objects give the same bases
right_of : (l : TypeRules) (w w' : World) (t : ℕ) (k : Bool) (b : Base) (i : ℕ) → w'.slots ≡ w.slots → w'.obj ≡ w.obj → Based w t b → Can l w' t k (base_of w t b) i → Right l w' t k b i
right_of l w w' t k (By r) i es eo based can =
    let e : (w.slots (In (RegisterOf t r))).reference ≡ (w'.slots (In (RegisterOf t r))).reference = sym (ap (λ (f : Slot → TypedReference). (f (In (RegisterOf t r))).reference) es) in
    let P : ℕ → Type 0 = λ o. o ≢ 0 in
    record { based = subst P e based; can = subst (λ o. Can l w' t k o i) e can }
right_of l w w' t k (Global g) i es eo based can =
    record { based = subst (λ (f : ℕ → ObjectState). ((f g).live ≡ true) × ((f g).global ≡ true)) (sym eo) based; can = can }

pub keeps_passed : (g : GranuleState) (t u : ℕ) (k j : Bool) → (u ≡ t → ⊥) → Passed g u j → Passed (passed g t k) u j
keeps_passed g t u true true ne h = put_other g.write_note t u (suc g.epoch) ne ∙ h
keeps_passed g t u true false ne h = ⊎_elim (λ e. inl e) (λ e. inr (put_other g.write_note t u (suc g.epoch) ne ∙ e)) h
keeps_passed g t u false true ne h = h
keeps_passed g t u false false ne h = ⊎_elim (λ e. inl (put_other g.read_note t u (suc g.epoch) ne ∙ e)) (λ e. inr e) h

pub has_passed : (g : GranuleState) (t : ℕ) (k : Bool) → Passed (passed g t k) t k
has_passed g t true = put_same g.write_note t (suc g.epoch)
has_passed g t false = inl (put_same g.read_note t (suc g.epoch))

module _ (z : Size) (l : TypeRules) (w : World) (inv : WorldInvariant z l w) where
  pub others : (a b : Slot) → (w.slots a).reference ≢ 0 → w.count (w.slots a).reference ≡ 1 → (w.slots b).reference ≡ (w.slots a).reference → b ≡ a
  others a b ne one' e =
      let o = (w.slots a).reference in
      let f = inv.words.fits a ne in
      sole_slot z w.slots a b o (inv.words.inside a ne) (inv.words.inside b (subst (λ x. x ≢ 0) (sym e) ne)) (sym (inv.words.counts o ne f.live f.made) ∙ one') refl e

  pub count_pos : (s : Slot) → (w.slots s).reference ≢ 0 → 1 ≤ w.count (w.slots s).reference
  count_pos s ne =
      let o = (w.slots s).reference in
      let f = inv.words.fits s ne in
      let a = total_place z w.slots none o s (inv.words.inside s ne) in
      let b = inv.words.counts o ne f.live f.made in
      let c = one_same o in
      let d : one 0 o ≡ 0 = one_other 0 o (λ q. ne (sym q)) in
      omega arith

  -- a base that no other slot refers to is the base of that slot
  pub base_other : (t u r : ℕ) (b : Base) → in_ref w (RegisterOf t r) ≢ 0 → w.count (in_ref w (RegisterOf t r)) ≡ 1 → Based w u b → base_of w u b ≡ in_ref w (RegisterOf t r) → (u ≡ t) × (b ≡ By r)
  base_other t u r (By q) ne one' h e = let x : In (RegisterOf u q) ≡ In (RegisterOf t r) = others (In (RegisterOf t r)) (In (RegisterOf u q)) ne one' e in ((cc), ap By (cc))
  base_other t u r (Global g) ne one' h e =
      let m = (inv.words.fits (In (RegisterOf t r)) ne).made in
      let g' : (w.obj (in_ref w (RegisterOf t r))).global ≡ true = subst (λ o. (w.obj o).global ≡ true) e h.1 in
      absurd (cc)

  -- where only a slot outside of objects changes
  own_kept : (a : Holder) (h : TypedReference) (f : ℕ → ℕ) (u : ℕ) (b : Base) → ((r : ℕ) → b ≡ By r → a ≡ RegisterOf u r → ⊥) → Kept l w (record w { slots = place w.slots (In a) h; count = f }) u b
  own_kept a h f u b free = record {
    regs = λ r e. place_other w.slots (In a) (In (RegisterOf u r)) h (λ q. free r e (sym (cc)));
    obj = λ _. refl;
    sets = λ _ k i p. p;
    mutex = λ p j q. q;
    lock = λ _ i j e. refl;
    cell = λ _ i c. refl;
  }

  -- every window is kept where the slot is free
  own_wins : (a : Holder) (h : TypedReference) (f : ℕ → ℕ) → Free w a → ((u r : ℕ) → w.win u ≡ Sole r → in_ref w (RegisterOf u r) ≢ 0 → w.count (in_ref w (RegisterOf u r)) ≡ 1 → f (in_ref w (RegisterOf u r)) ≡ 1) → (u : ℕ) → WinOk l (record w { slots = place w.slots (In a) h; count = f }) u (w.win u)
  own_wins a h f free sole u =
      let w' : World = record w { slots = place w.slots (In a) h; count = f } in
      win_kept l w w' u (w.win u)
      (λ b us. own_kept a h f u b (λ r q. free u r (subst (Uses (w.win u)) q (opens_uses (w.win u) b us))))
      (λ r e ne one'. (place_other w.slots (In a) (In (RegisterOf u r)) h (λ q. free u r (let P : Window → Type 0 = λ x. Uses x (By r) in subst P (sym e) refl) (sym (cc))), sole u r e ne one'))
      (inv.wins u)

  own_ok : (a : Holder) (h : TypedReference) (f : ℕ → ℕ) → (h.reference ≢ 0 → Inside z (In a)) → Fits l w.obj (thread_of a) h → Free w a
      → ((o : ℕ) → o ≢ 0 → (w.obj o).live ≡ true → (w.obj o).global ≡ false → f o ≡ total z (place w.slots (In a) h) o)
      → ((u r : ℕ) → w.win u ≡ Sole r → in_ref w (RegisterOf u r) ≢ 0 → w.count (in_ref w (RegisterOf u r)) ≡ 1 → f (in_ref w (RegisterOf u r)) ≡ 1) → WorldInvariant z l (record w { slots = place w.slots (In a) h; count = f })
  own_ok a h f i fh free counts sole = record {
    words = record {
      counts = counts;
      inside = place_all (λ s (h : TypedReference). h.reference ≢ 0 → Inside z s) w.slots (In a) h i (λ s _. inv.words.inside s);
      fits = place_all (λ s h. Fits l w.obj (who w.obj s) h) w.slots (In a) h fh (λ s _. inv.words.fits s);
      cells = inv.words.cells;
      dead = inv.words.dead;
      kinds = inv.words.kinds;
    };
    bits = inv.bits;
    wins = own_wins a h f free sole;
  }

  pub set_slot_ok : (a : Holder) (ty : ObjectType) → Inside z (In a) → in_ref w a ≡ 0 → Free w a → WorldInvariant z l (set_slot w a (null ty))
  set_slot_ok a ty i e free = own_ok a (null ty) w.count (λ _. i) (λ ne. absurd (ne refl)) free
      (λ o nz live made. let x = total_place z w.slots (null ty) o (In a) i in let c = inv.words.counts o nz live made in let y : one (in_ref w a) o ≡ one 0 o = ap (λ n. one n o) e in omega arith)
      (λ u r _ _ o. o)

  -- one more reference to what slot s refers to
  pub grow_ok : (a : Holder) (h : TypedReference) (s : Slot) → Inside z (In a) → in_ref w a ≡ 0 → h.reference ≢ 0 → Fits l w.obj (thread_of a) h → (w.slots s).reference ≡ h.reference → ((u r : ℕ) → w.win u ≡ Sole r → s ≡ In (RegisterOf u r) → ⊥) → Free w a → WorldInvariant z l (grow w a h)
  grow_ok a h s i e ne fh es apart free = own_ok a h (grow w a h).count (λ _. i) fh free
      (λ o nz live made. let x = total_place z w.slots h o (In a) i in let c = inv.words.counts o nz live made in let b = up w.count h.reference o in let y : one (in_ref w a) o ≡ 0 = one_other (in_ref w a) o (λ q. nz (sym q ∙ e)) in omega arith)
      (λ u r e nr one'. put_other w.count h.reference (in_ref w (RegisterOf u r)) (w.count h.reference + 1) (λ q. apart u r e (others (In (RegisterOf u r)) s nr one' (es ∙ sym q))) ∙ one')

  pub drop_ok : (a : Holder) → in_ref w a ≢ 0 → Free w a → WorldInvariant z l (drop w a)
  drop_ok a ne free = own_ok a none (drop w a).count (λ n. absurd (n refl)) (λ n. absurd (n refl)) free
      (λ o nz live made. let x = total_place z w.slots none o (In a) (inv.words.inside (In a) ne) in let c = inv.words.counts o nz live made in let b = down w.count (in_ref w a) o (count_pos (In a) ne) in let y : one 0 o ≡ 0 = one_other 0 o (λ q. nz (sym q)) in omega arith)
      (λ u r e nr one'. put_other w.count (in_ref w a) (in_ref w (RegisterOf u r)) (w.count (in_ref w a) - 1) (λ q. free u r (let P : Window → Type 0 = λ x. Uses x (By r) in subst P (sym e) refl) (let y : In a ≡ In (RegisterOf u r) = others (In (RegisterOf u r)) (In a) nr one' (sym q) in cc)) ∙ one')

  pub shift_ok : (a b : Holder) → (b ≡ a → ⊥) → Inside z (In a) → Inside z (In b) → in_ref w b ≡ 0 → ((w.slots (In a)).reference ≢ 0 → l.private (w.slots (In a)).ty ≡ true → thread_of a ≡ thread_of b) → Free w a → Free w b → WorldInvariant z l (shift w a b)
  shift_ok a b ab ia ib e own fa fb =
      let w' = shift w a b in
      let mid = place w.slots (In a) none in
      let h = w.slots (In a) in
      let fh : Fits l w.obj (thread_of b) h = λ n. let f = inv.words.fits (In a) n in record { live = f.live; made = f.made; typed = f.typed; own = λ p. f.own p ∙ own n p } in
      record {
        words = record {
          counts = λ o nz live made. let x = total_two z w.slots (In a) (In b) none h o (λ q. ab (cc)) ia ib in let c = inv.words.counts o nz live made in let y : one (in_ref w b) o ≡ one 0 o = ap (λ n. one n o) e in omega arith;
          inside = place_all (λ s (h : TypedReference). h.reference ≢ 0 → Inside z s) mid (In b) h (λ _. ib) (λ s _. place_all (λ s (h : TypedReference). h.reference ≢ 0 → Inside z s) w.slots (In a) none (λ n. absurd (n refl)) (λ s _. inv.words.inside s) s);
          fits = place_all (λ s h. Fits l w.obj (who w.obj s) h) mid (In b) h fh (λ s _. place_all (λ s h. Fits l w.obj (who w.obj s) h) w.slots (In a) none (λ n. absurd (n refl)) (λ s _. inv.words.fits s) s);
          cells = inv.words.cells;
          dead = inv.words.dead;
          kinds = inv.words.kinds;
        };
        bits = inv.bits;
        wins = λ u.
            let same : (r : ℕ) → Uses (w.win u) (By r) → w'.slots (In (RegisterOf u r)) ≡ w.slots (In (RegisterOf u r)) = λ r us. place_other mid (In b) (In (RegisterOf u r)) h (λ q. fb u r us (sym (cc))) ∙ place_other w.slots (In a) (In (RegisterOf u r)) none (λ q. fa u r us (sym (cc))) in
            win_kept l w w' u (w.win u)
            (λ c us. record {
              regs = λ r q. same r (subst (Uses (w.win u)) q (opens_uses (w.win u) c us));
              obj = λ _. refl;
              sets = λ _ k i p. p;
              mutex = λ p j q. q;
              lock = λ _ i j q. refl;
              cell = λ _ i c. refl;
            })
            (λ r q nr one'. (same r (let P : Window → Type 0 = λ x. Uses x (By r) in subst P (sym q) refl), one'))
            (inv.wins u);
      }

  pub set_win_ok : (t : ℕ) (x : Window) → WinOk l w t x → WorldInvariant z l (set_win w t x)
  set_win_ok t x h =
      let w' = set_win w t x in
      let same : (u : ℕ) (y : Window) → WinOk l w u y → WinOk l w' u y = λ u y. win_kept l w w' u y
      (λ c us. record { regs = λ r q. refl; obj = λ _. refl; sets = λ _ k i p. p; mutex = λ p j q. q; lock = λ _ i j q. refl; cell = λ _ i c. refl })
      (λ r q nr one'. (refl, one')) in
      record { words = inv.words; bits = inv.bits; wins = put_all (λ u y. WinOk l w' u y) w.win t x (same t x h) (λ u _. same u (w.win u) (inv.wins u)) }

  -- a cell and a register change what they hold
  swap_words : (o i : ℕ) (a : Holder) → Inside z (Cell o i) → Inside z (In a) → (w.obj o).live ≡ true → (w.slots (In a)).ty ≡ l.cell (w.obj o).ty o i → Fits l w.obj (w.obj o).owner (w.slots (In a)) → Fits l w.obj (thread_of a) (w.slots (Cell o i)) → Words z l (swap w o i a).slots w.count w.obj
  swap_words o i a ic ia live ety fx fy =
      let x = w.slots (In a) in
      let y = w.slots (Cell o i) in
      let mid = place w.slots (In a) y in
      record {
        counts = λ q nz live made. let m = total_two z w.slots (In a) (Cell o i) y x q (λ e. cc) ia ic in let c = inv.words.counts q nz live made in omega arith;
        inside = place_all (λ s (h : TypedReference). h.reference ≢ 0 → Inside z s) mid (Cell o i) x (λ _. ic) (λ s _. place_all (λ s (h : TypedReference). h.reference ≢ 0 → Inside z s) w.slots (In a) y (λ _. ia) (λ s _. inv.words.inside s) s);
        fits = place_all (λ s h. Fits l w.obj (who w.obj s) h) mid (Cell o i) x fx (λ s _. place_all (λ s h. Fits l w.obj (who w.obj s) h) w.slots (In a) y fy (λ s _. inv.words.fits s) s);
        cells = λ p j lp. ⊎_elim
            (λ (e : Cell p j ≡ Cell o i). let eo : p ≡ o = cc in let ei : j ≡ i = cc in let P : ℕ → ℕ → Type 0 = λ p j. (swap w o i a).slots (Cell p j) ≡ x in
            ap (λ (h : TypedReference). h.ty) (ap (place mid (Cell o i) x) e ∙ place_same mid (Cell o i) x) ∙ ety ∙ ap (λ q. l.cell (w.obj q).ty q i) (sym eo) ∙ ap (λ k. l.cell (w.obj p).ty p k) (sym ei))
            (λ (ne : Cell p j ≡ Cell o i → ⊥). ap (λ (h : TypedReference). h.ty) (place_other mid (Cell o i) (Cell p j) x ne) ∙ inv.words.cells p j lp)
            (slot_cases (Cell p j) (Cell o i));
        dead = λ p j gone. ap (λ (h : TypedReference). h.reference) (place_other mid (Cell o i) (Cell p j) x (λ e. let eo : p ≡ o = cc in let g : (w.obj o).live ≡ false = subst (λ p. (w.obj p).live ≡ false) eo gone in cc)) ∙ inv.words.dead p j gone;
        kinds = inv.words.kinds;
      }

  pub base_live : (t : ℕ) (b : Base) → Based w t b → (w.obj (base_of w t b)).live ≡ true
  base_live t (By r) h = (inv.words.fits (In (RegisterOf t r)) h).live
  base_live t (Global g) h = h.0

  module _ (laws : Laws l) where
    -- what the cell of a base is to the thread with the base
    pub cell_fits : (t : ℕ) (b : Base) (i : ℕ) → Based w t b → (l.mode (w.obj (base_of w t b)).ty i ≡ Private → (w.obj (base_of w t b)).owner ≡ t) → Fits l w.obj t (w.slots (Cell (base_of w t b) i))
    cell_fits t b i based mine n =
        let o = base_of w t b in
        let g = inv.words.fits (Cell o i) n in
        record { live = g.live; made = g.made; typed = g.typed; own = λ p. g.own p ∙ mine (laws.private_cells (w.obj o).ty o i (subst (λ ty. l.private ty ≡ true) (inv.words.cells o i (base_live t b based)) p)) }

    pub exchange_ok : (t : ℕ) (b : Base) (i : ℕ) (a : Holder) → Right l w t true b i → thread_of a ≡ t → Inside z (Cell (base_of w t b) i) → Inside z (In a) → (w.slots (In a)).ty ≡ l.cell (w.obj (base_of w t b)).ty (base_of w t b) i → (l.mode (w.obj (base_of w t b)).ty i ≡ Racy → ⊥) → WorldInvariant z l (set_win (swap w (base_of w t b) i a) t Shut)
    exchange_ok t b i a right at ic ia ety not_racy =
        let o = base_of w t b in
        let x = w.slots (In a) in
        let y = w.slots (Cell o i) in
        let mid = place w.slots (In a) y in
        let w' = set_win (swap w o i a) t Shut in
        let fx : Fits l w.obj (w.obj o).owner x = λ n. let f = inv.words.fits (In a) n in record { live = f.live; made = f.made; typed = f.typed; own = λ p. f.own p ∙ at ∙ sym (subst (CanBy l w t true o i) (laws.private_cells (w.obj o).ty o i (subst (λ ty. l.private ty ≡ true) ety p)) right.can) } in
        let fy : Fits l w.obj (thread_of a) y = subst (λ u. Fits l w.obj u y) (sym at) (cell_fits t b i right.based (λ e. subst (CanBy l w t true o i) e right.can)) in
        -- another cell
        let cell_other : (p j : ℕ) → (Cell p j ≡ Cell o i → ⊥) → (w'.slots (Cell p j)).reference ≡ (w.slots (Cell p j)).reference = λ p j ne. ap (λ (h : TypedReference). h.reference) (place_other mid (Cell o i) (Cell p j) x ne) in
        let no_write : (u j : ℕ) → l.mode (w.obj o).ty j ≡ Behind i → ⊥ = λ u j m. let r : l.mode (w.obj o).ty i ≡ Readonly = laws.behind (w.obj o).ty j i m in let c : true ≡ false = subst (CanBy l w t true o i) r right.can in absurd (cc) in
        record {
          words = swap_words o i a ic ia (base_live t b right.based) ety fx fy;
          bits = inv.bits;
          wins = put_all (λ u v. WinOk l w' u v) w.win t Shut tt (λ u nu.
              let same : (r : ℕ) → w'.slots (In (RegisterOf u r)) ≡ w.slots (In (RegisterOf u r)) = λ r. place_other w.slots (In a) (In (RegisterOf u r)) y (λ q. thread_ne a t u r at nu (sym (cc))) in
              win_kept l w w' u (w.win u)
              (λ c us. record {
                regs = λ r q. same r;
                obj = λ _. refl;
                sets = λ _ k i p. p;
                mutex = λ p j q. q;
                lock = λ based k j m. cell_other (base_of w u c) j (λ e. let eo : base_of w u c ≡ o = cc in let ej : j ≡ i = cc in no_write u k (subst (λ p. l.mode (w.obj p).ty k ≡ Behind i) eo (m ∙ ap Behind ej)));
                cell = λ based j can. cell_other (base_of w u c) j (λ e. let eo : base_of w u c ≡ o = cc in let ej : j ≡ i = cc in
                    let can1 : Can l w u false o j = subst (λ p. Can l w u false p j) eo can in
                    nu (sym (exclusive_by l z.threads w t u o i (l.mode (w.obj o).ty i) not_racy (inv.bits o (l.granule i)) right.can (subst (λ j. Can l w u false o j) ej can1))));
              })
              (λ r q nr one'. (same r, one'))
              (inv.wins u));
        }

    -- Free: a cell of an object with a sole reference is emptied
    pub empty_ok : (t r i : ℕ) (a : Holder) → w.win t ≡ Sole r → thread_of a ≡ t → Free w a → Inside z (Cell (in_ref w (RegisterOf t r)) i) → Inside z (In a) → in_ref w a ≡ 0 → (w.slots (In a)).ty ≡ l.cell (w.obj (in_ref w (RegisterOf t r))).ty (in_ref w (RegisterOf t r)) i → WorldInvariant z l (swap w (in_ref w (RegisterOf t r)) i a)
    empty_ok t r i a wn at free ic ia e ety =
        let o = in_ref w (RegisterOf t r) in
        let x = w.slots (In a) in
        let y = w.slots (Cell o i) in
        let mid = place w.slots (In a) y in
        let w' = swap w o i a in
        let so = subst (WinOk l w t) wn (inv.wins t) in
        let f = inv.words.fits (In (RegisterOf t r)) so.0 in
        let mine : l.mode (w.obj o).ty i ≡ Private → (w.obj o).owner ≡ t = λ p. f.own (subst (λ ty. l.private ty ≡ true) f.typed (laws.whole (w.obj o).ty i p)) in
        let fy : Fits l w.obj (thread_of a) y = subst (λ u. Fits l w.obj u y) (sym at) (cell_fits t (By r) i so.0 mine) in
        let cell_other : (p j : ℕ) → (p ≡ o → ⊥) → (w'.slots (Cell p j)).reference ≡ (w.slots (Cell p j)).reference = λ p j ne. ap (λ (h : TypedReference). h.reference) (place_other mid (Cell o i) (Cell p j) x (λ q. ne (cc))) in
        record {
          words = swap_words o i a ic ia f.live ety (λ n. absurd (n e)) fy;
          bits = inv.bits;
          wins = λ u.
              let same : (q : ℕ) → Uses (w.win u) (By q) → w'.slots (In (RegisterOf u q)) ≡ w.slots (In (RegisterOf u q)) = λ q us. place_other w.slots (In a) (In (RegisterOf u q)) y (λ k. free u q us (sym (cc))) in
              win_kept l w w' u (w.win u)
              (λ c us.
              let apart : Based w u c → base_of w u c ≡ o → ⊥ = λ h q. let k = base_other t u r c so.0 so.1 h q in let P : Window → Type 0 = λ v. Opens v c in let us' : Opens (w.win t) c = subst (λ u. Opens (w.win u) c) k.0 us in absurd (subst P wn us') in
              record {
                regs = λ q k. same q (subst (Uses (w.win u)) k (opens_uses (w.win u) c us));
                obj = λ _. refl;
                sets = λ _ k i p. p;
                mutex = λ p j q. q;
                lock = λ h k j m. cell_other (base_of w u c) j (apart h);
                cell = λ h j can. cell_other (base_of w u c) j (apart h);
              })
              (λ q k nr one'. (same q (let P : Window → Type 0 = λ x. Uses x (By q) in subst P (sym k) refl), one'))
              (inv.wins u);
        }

  -- a granule changes, and for the others nothing is lost
  gran_ok : (t o g : ℕ) (x : GranuleState) (f : ℕ → Window) → Bits z.threads x → ((u : ℕ) → (u ≡ t → ⊥) → (b : Base) → Opens (w.win u) b → Based w u b → base_of w u b ≡ o → (k : Bool) → Passed (w.gran o g) u k → Passed x u k) → ((u : ℕ) → (u ≡ t → ⊥) → f u ≡ w.win u) → WinOk l (record w { gran = put2 w.gran o g x; win = f }) t (f t) → WorldInvariant z l (record w { gran = put2 w.gran o g x; win = f })
  gran_ok t o g x f bx keep same own =
      let w' : World = record w { gran = put2 w.gran o g x; win = f } in
      record {
        words = inv.words;
        bits = put2_all (λ _ _ y. Bits z.threads y) w.gran o g x bx inv.bits;
        wins = λ u. ⊎_elim
            (λ (e : u ≡ t). subst (λ v. WinOk l w' v (f v)) (sym e) own)
            (λ (nu : u ≡ t → ⊥). subst (WinOk l w' u) (sym (same u nu)) (win_kept l w w' u (w.win u)
            (λ b us. record {
              regs = λ r q. refl;
              obj = λ _. refl;
              sets = λ based k i. put2_all (λ p q y. base_of w u b ≡ p → l.granule i ≡ q → Passed (w.gran p q) u k → Passed y u k) w.gran o g x (λ e _. keep u nu b us based e k) (λ p q _ _ h. h) (base_of w u b) (l.granule i) refl refl;
              mutex = λ p j q. q;
              lock = λ _ i j q. refl;
              cell = λ _ i c. refl;
            })
            (λ r q nr one'. (refl, one'))
            (inv.wins u)))
            (cases_eq u t);
      }

  pub sole_at : (t r : ℕ) → w.win t ≡ Sole r → (in_ref w (RegisterOf t r) ≢ 0) × (w.count (in_ref w (RegisterOf t r)) ≡ 1)
  sole_at t r e = subst (WinOk l w t) e (inv.wins t)

  -- no other window stands on the object
  apart : (t r u : ℕ) (b : Base) → w.win t ≡ Sole r → Opens (w.win u) b → Based w u b → base_of w u b ≡ in_ref w (RegisterOf t r) → ⊥
  apart t r u b e us h q =
      let so = sole_at t r e in
      let P : Window → Type 0 = λ v. Opens v b in
      let us' : Opens (w.win t) b = subst (λ u. Opens (w.win u) b) (base_other t u r b so.0 so.1 h q).0 us in
      subst P e us'

  pub clear_ok : (t r g : ℕ) → w.win t ≡ Sole r → WorldInvariant z l (set_gran w (in_ref w (RegisterOf t r)) g (cleared (w.gran (in_ref w (RegisterOf t r)) g)))
  clear_ok t r g e =
      let o = in_ref w (RegisterOf t r) in
      let w' = set_gran w o g (cleared (w.gran o g)) in
      gran_ok t o g (cleared (w.gran o g)) w.win (bits_cleared z.threads (w.gran o g) (inv.bits o g))
      (λ u nu b us h q. absurd (apart t r u b e us h q))
      (λ u _. refl)
      (subst (WinOk l w' t) (sym e) (sole_at t r e))

  pub refuse_ok : (t : ℕ) (k : Bool) (o g : ℕ) → w.win t ≡ Shut → WorldInvariant z l (set_gran w o g (marked (w.gran o g) t k))
  refuse_ok t k o g sh =
      let w' = set_gran w o g (marked (w.gran o g) t k) in
      gran_ok t o g (marked (w.gran o g) t k) w.win (bits_marked z.threads (w.gran o g) t k (inv.bits o g))
      (λ u nu b us h q j. elim j as (λ j. Passed (w.gran o g) u j → Passed (marked (w.gran o g) t k) u j) [ true ↦ λ h. h | false ↦ λ h. h ])
      (λ u _. refl) (subst (WinOk l w' t) (sym sh) tt)

  pub withdraw_ok : (t o g : ℕ) → w.win t ≡ Shut → WorldInvariant z l (set_gran w o g (withdrawn (w.gran o g) t))
  withdraw_ok t o g sh =
      let x = w.gran o g in
      let w' = set_gran w o g (withdrawn x t) in
      gran_ok t o g (withdrawn x t) w.win (bits_withdrawn z.threads x t (inv.bits o g))
      (λ u nu b us h q j. elim j as (λ j. Passed x u j → Passed (withdrawn x t) u j) [
        | true ↦ λ h. put_other x.write_note t u 0 nu ∙ h
        | false ↦ ⊎_elim (λ i. inl (put_other x.read_note t u 0 nu ∙ i)) (λ i. inr (put_other x.write_note t u 0 nu ∙ i))
      ])
      (λ u _. refl) (subst (WinOk l w' t) (sym sh) tt)

  pub pass_ok : (t : ℕ) (k : Bool) (b : Base) (i : ℕ) → Based w t b → l.mode (w.obj (base_of w t b)).ty i ≡ Dynamic → t < z.threads → Clean z.threads (w.gran (base_of w t b) (l.granule i)) t k
      → WorldInvariant z l (set_win (set_gran w (base_of w t b) (l.granule i) (passed (w.gran (base_of w t b) (l.granule i)) t k)) t (May k b i))
  pass_ok t k b i based m lt c =
      let o = base_of w t b in
      let g = l.granule i in
      let x = passed (w.gran o g) t k in
      let w' = set_win (set_gran w o g x) t (May k b i) in
      let p : Passed (put2 w.gran o g x o g) t k = subst (λ y. Passed y t k) (sym (ap (λ (f : ℕ → GranuleState). f g) (put_same w.gran o (put (w.gran o) g x)) ∙ put_same (w.gran o) g x)) (has_passed (w.gran o g) t k) in
      let right : Right l w' t k b i = right_of l w w' t k b i refl refl based (subst (CanBy l w' t k o i) (sym m) p) in
      gran_ok t o g x (put w.win t (May k b i)) (bits_passed z.threads (w.gran o g) t k lt c (inv.bits o g))
      (λ u nu b us h q j. keeps_passed (w.gran o g) t u k j nu)
      (λ u nu. put_other w.win t u (May k b i) nu)
      (subst (WinOk l w' t) (sym (put_same w.win t (May k b i))) right)

  -- a mutex is taken or given back
  mutex_ok : (o j v : ℕ) → ((u : ℕ) (b : Base) → Opens (w.win u) b → w.mutex o j ≡ suc u → v ≡ suc u) → WorldInvariant z l (set_mutex w o j v)
  mutex_ok o j v keep =
      let w' = set_mutex w o j v in
      record {
        words = inv.words;
        bits = inv.bits;
        wins = λ u. win_kept l w w' u (w.win u)
            (λ b us. record {
              regs = λ r q. refl;
              obj = λ _. refl;
              sets = λ _ k i p. p;
              mutex = put2_all (λ p q n. w.mutex p q ≡ suc u → n ≡ suc u) w.mutex o j v (keep u b us) (λ p q h. h);
              lock = λ _ i j q. refl;
              cell = λ _ i c. refl;
            })
            (λ r q nr one'. (refl, one'))
            (inv.wins u);
      }

  pub lock_ok : (t o j : ℕ) → w.mutex o j ≡ 0 → WorldInvariant z l (set_mutex w o j (suc t))
  lock_ok t o j e = mutex_ok o j (suc t) (λ u b us h. absurd (omega arith))

  pub unlock_ok : (t o j : ℕ) → w.mutex o j ≡ suc t → w.win t ≡ Shut → WorldInvariant z l (set_mutex w o j 0)
  unlock_ok t o j e sh = mutex_ok o j 0 (λ u b us h.
      let y : u ≡ t = omega arith in
      let P : Window → Type 0 = λ v. Opens v b in
      absurd (subst P sh (subst (λ u. Opens (w.win u) b) y us)))

  -- no base is an object that is not there
  base_not : (o : ℕ) → (w.obj o).live ≡ false → (u : ℕ) (b : Base) → Based w u b → base_of w u b ≡ o → ⊥
  base_not o gone u b h q = let k : (w.obj o).live ≡ true = subst (λ p. (w.obj p).live ≡ true) q (base_live u b h) in absurd (cc)

  -- whose the references in a slot are, where one object changes
  who_kept : (o : ℕ) (x : ObjectState) (s : Slot) → ((i : ℕ) → s ≡ Cell o i → (w.obj o).owner ≡ x.owner) → who w.obj s ≡ who (put w.obj o x) s
  who_kept o x (In a) h = refl
  who_kept o x (Cell c i) h = put_all (λ c (y : ObjectState). ((j : ℕ) → Cell c i ≡ Cell o j → (w.obj o).owner ≡ x.owner) → (w.obj c).owner ≡ y.owner) w.obj o x (λ k. k i refl) (λ c _ _. refl) c h

  -- the other references where one object changes
  refers_kept : (o : ℕ) (x : ObjectState) (s : Slot) → ((w.slots s).reference ≡ o → ⊥) → (l.private (w.slots s).ty ≡ true → who w.obj s ≡ who (put w.obj o x) s) → Fits l (put w.obj o x) (who (put w.obj o x) s) (w.slots s)
  refers_kept o x s ne same n =
      let g = inv.words.fits s n in
      let q = put_other w.obj o (w.slots s).reference x ne in
      record {
        live = ap (λ (y : ObjectState). y.live) q ∙ g.live;
        made = ap (λ (y : ObjectState). y.global) q ∙ g.made;
        typed = ap (λ (y : ObjectState). y.ty) q ∙ g.typed;
        own = λ p. ap (λ (y : ObjectState). y.owner) q ∙ g.own p ∙ same p;
      }

  pub only_slot : (t r : ℕ) → w.win t ≡ Sole r → (s : Slot) → (s ≡ In (RegisterOf t r) → ⊥) → (w.slots s).reference ≡ in_ref w (RegisterOf t r) → ⊥
  only_slot t r e s ne h = let so = sole_at t r e in ne (others (In (RegisterOf t r)) s so.0 so.1 h)

  -- windows where one object changes that nobody else has
  obj_wins : (t : ℕ) (w' : World) (o : ℕ) (x : ObjectState) → w'.win t ≡ Shut → ((u : ℕ) → (u ≡ t → ⊥) → w'.win u ≡ w.win u) → w'.obj ≡ put w.obj o x → ((p : ℕ) → (p ≡ o → ⊥) → w'.gran p ≡ w.gran p) → w'.mutex ≡ w.mutex
      → ((u : ℕ) → (u ≡ t → ⊥) → (r : ℕ) → w'.slots (In (RegisterOf u r)) ≡ w.slots (In (RegisterOf u r)))
      → ((p i : ℕ) → (p ≡ o → ⊥) → (w'.slots (Cell p i)).reference ≡ (w.slots (Cell p i)).reference)
      → ((u : ℕ) → (u ≡ t → ⊥) → (b : Base) → Based w u b → base_of w u b ≡ o → ⊥)
      → ((u r : ℕ) → (u ≡ t → ⊥) → in_ref w (RegisterOf u r) ≢ 0 → w.count (in_ref w (RegisterOf u r)) ≡ 1 → w'.count (in_ref w (RegisterOf u r)) ≡ 1)
      → (u : ℕ) → WinOk l w' u (w'.win u)
  obj_wins t w' o x sh same eobj egran emut regs cells not_it sole u = ⊎_elim
      (λ (e : u ≡ t). subst (λ v. WinOk l w' v (w'.win v)) (sym e) (subst (WinOk l w' t) (sym sh) tt))
      (λ (nu : u ≡ t → ⊥). subst (WinOk l w' u) (sym (same u nu)) (win_kept l w w' u (w.win u)
      (λ b us. record {
        regs = λ r q. regs u nu r;
        obj = λ h. ap (λ (f : ℕ → ObjectState). f (base_of w u b)) eobj ∙ put_other w.obj o (base_of w u b) x (not_it u nu b h);
        sets = λ h k i p. subst (λ (f : ℕ → GranuleState). Passed (f (l.granule i)) u k) (sym (egran (base_of w u b) (not_it u nu b h))) p;
        mutex = λ p j q. ap (λ (f : ℕ → ℕ → ℕ). f p j) emut ∙ q;
        lock = λ h i j m. cells (base_of w u b) j (not_it u nu b h);
        cell = λ h i c. cells (base_of w u b) i (not_it u nu b h);
      })
      (λ r q nr one'. (regs u nu r, sole u r nu nr one'))
      (inv.wins u)))
      (cases_eq u t)

  pub give_ok : Laws l → (t r : ℕ) (ty : ObjectType) → w.win t ≡ Sole r → ty ≢ nothing → ((i : ℕ) → l.cell ty (in_ref w (RegisterOf t r)) i ≡ l.cell (w.slots (In (RegisterOf t r))).ty (in_ref w (RegisterOf t r)) i) → WorldInvariant z l (give w t r ty)
  give_ok laws t r ty e nty same_cells =
      let w' = give w t r ty in
      let o = in_ref w (RegisterOf t r) in
      let x : ObjectState = record { live = true; global = false; ty = ty; owner = t } in
      let h : TypedReference = record { ty = ty; reference = o } in
      let so = sole_at t r e in
      let f = inv.words.fits (In (RegisterOf t r)) so.0 in
      let cells_same : (i : ℕ) → l.cell (w.obj o).ty o i ≡ l.cell ty o i = λ i. ap (λ n. l.cell n o i) f.typed ∙ sym (same_cells i) in
      let owner_was : (s : Slot) → l.private (w.slots s).ty ≡ true → (i : ℕ) → s ≡ Cell o i → (w.obj o).owner ≡ t = λ s p i q.
      let p1 : l.private (w.slots (Cell o i)).ty ≡ true = subst (λ s. l.private (w.slots s).ty ≡ true) q p in
      let p2 : l.private (w.obj o).ty ≡ true = laws.whole (w.obj o).ty i (laws.private_cells (w.obj o).ty o i (subst (λ n. l.private n ≡ true) (inv.words.cells o i f.live) p1)) in
      f.own (subst (λ n. l.private n ≡ true) f.typed p2) in
      let old : (s : Slot) → (s ≡ In (RegisterOf t r) → ⊥) → Fits l w'.obj (who w'.obj s) (w.slots s) = λ s ns. refers_kept o x s (only_slot t r e s ns) (λ p. who_kept o x s (owner_was s p)) in
      let y : put w.obj o x o ≡ x = put_same w.obj o x in
      let here : Fits l w'.obj t h = λ n. record { live = ap (λ (y : ObjectState). y.live) y; made = ap (λ (y : ObjectState). y.global) y; typed = ap (λ (y : ObjectState). y.ty) y; own = λ p. ap (λ (y : ObjectState). y.owner) y } in
      let was : (p : ℕ) → (put w.obj o x p).live ≡ true → (w.obj p).live ≡ true = put_all (λ p (y : ObjectState). y.live ≡ true → (w.obj p).live ≡ true) w.obj o x (λ _. f.live) (λ p _ k. k) in
      let made_was : (p : ℕ) → (put w.obj o x p).global ≡ false → (w.obj p).global ≡ false = put_all (λ p (y : ObjectState). y.global ≡ false → (w.obj p).global ≡ false) w.obj o x (λ _. f.made) (λ p _ k. k) in
      record {
        words = record {
          counts = λ p nz live made. let a = total_place z w.slots h p (In (RegisterOf t r)) (inv.words.inside (In (RegisterOf t r)) so.0) in let c = inv.words.counts p nz (was p live) (made_was p made) in omega arith;
          inside = place_all (λ s (h : TypedReference). h.reference ≢ 0 → Inside z s) w.slots (In (RegisterOf t r)) h (λ n. inv.words.inside (In (RegisterOf t r)) n) (λ s _. inv.words.inside s);
          fits = place_all (λ s h. Fits l w'.obj (who w'.obj s) h) w.slots (In (RegisterOf t r)) h here old;
          cells = λ p i. put_all (λ p (y : ObjectState). y.live ≡ true → (w.slots (Cell p i)).ty ≡ l.cell y.ty p i) w.obj o x (λ _. inv.words.cells o i f.live ∙ cells_same i) (λ p _. inv.words.cells p i) p;
          dead = λ p i. put_all (λ p (y : ObjectState). y.live ≡ false → (w.slots (Cell p i)).reference ≡ 0) w.obj o x (λ k. absurd (cc)) (λ p _. inv.words.dead p i) p;
          kinds = put_all (λ p (y : ObjectState). y.live ≡ true → y.ty ≢ nothing) w.obj o x (λ _. nty) (λ p _. inv.words.kinds p);
        };
        bits = inv.bits;
        wins = obj_wins t w' o x (put_same w.win t Shut) (λ u nu. put_other w.win t u Shut nu) refl (λ _ _. refl) refl
            (λ u nu q. place_other w.slots (In (RegisterOf t r)) (In (RegisterOf u q)) h (λ k. nu (cc)))
            (λ p i _. refl)
            (λ u nu b hb q. nu (base_other t u r b so.0 so.1 hb q).0)
            (λ u q _ nr one'. one');
      }

  pub freed_ok : (t r : ℕ) → w.win t ≡ Sole r → ((i : ℕ) → (w.slots (Cell (in_ref w (RegisterOf t r)) i)).reference ≡ 0) → WorldInvariant z l (freed w t r)
  freed_ok t r e empty =
      let w' = freed w t r in
      let o = in_ref w (RegisterOf t r) in
      let x : ObjectState = record { live = false; global = false; ty = nothing; owner = 0 } in
      let so = sole_at t r e in
      let old : (s : Slot) → (s ≡ In (RegisterOf t r) → ⊥) → Fits l w'.obj (who w'.obj s) (w.slots s) = λ s ns n. refers_kept o x s (only_slot t r e s ns) (λ p. who_kept o x s (λ i q. absurd (n (ap (λ s. (w.slots s).reference) q ∙ empty i)))) n in
      let was : (p : ℕ) → (put w.obj o x p).live ≡ true → (p ≡ o → ⊥) × ((w.obj p).live ≡ true) = put_all (λ p (y : ObjectState). y.live ≡ true → (p ≡ o → ⊥) × ((w.obj p).live ≡ true)) w.obj o x (λ k. absurd (cc)) (λ p ne k. (ne, k)) in
      record {
        words = record {
          counts = λ p nz live made. let v = was p live in let a = total_place z w.slots none p (In (RegisterOf t r)) (inv.words.inside (In (RegisterOf t r)) so.0) in let c = inv.words.counts p nz v.1 (sym (ap (λ (y : ObjectState). y.global) (put_other w.obj o p x v.0)) ∙ made) in let d = one_other o p (λ i. v.0 (sym i)) in let k = one_other 0 p (λ i. nz (sym i)) in let m = put_other w.count o p 0 v.0 in omega arith;
          inside = place_all (λ s (h : TypedReference). h.reference ≢ 0 → Inside z s) w.slots (In (RegisterOf t r)) none (λ n. absurd (n refl)) (λ s _. inv.words.inside s);
          fits = place_all (λ s h. Fits l w'.obj (who w'.obj s) h) w.slots (In (RegisterOf t r)) none (λ n. absurd (n refl)) old;
          cells = λ p i. put_all (λ p (y : ObjectState). y.live ≡ true → (w.slots (Cell p i)).ty ≡ l.cell y.ty p i) w.obj o x (λ k. absurd (cc)) (λ p _. inv.words.cells p i) p;
          dead = λ p i. put_all (λ p (y : ObjectState). y.live ≡ false → (w.slots (Cell p i)).reference ≡ 0) w.obj o x (λ _. empty i) (λ p _. inv.words.dead p i) p;
          kinds = put_all (λ p (y : ObjectState). y.live ≡ true → y.ty ≢ nothing) w.obj o x (λ k. absurd (cc)) (λ p _. inv.words.kinds p);
        };
        bits = inv.bits;
        wins = obj_wins t w' o x (put_same w.win t Shut) (λ u nu. put_other w.win t u Shut nu) refl (λ _ _. refl) refl
            (λ u nu q. place_other w.slots (In (RegisterOf t r)) (In (RegisterOf u q)) none (λ k. nu (cc)))
            (λ p i _. refl)
            (λ u nu b hb q. nu (base_other t u r b so.0 so.1 hb q).0)
            (λ u q nu nr one'. put_other w.count o (in_ref w (RegisterOf u q)) 0 (only_slot t r e (In (RegisterOf u q)) (λ k. nu (cc))) ∙ one');
      }

  -- an object comes
  pub make_ok : (a : Holder) (o : ℕ) (ty : ObjectType) (found : ℕ → GranuleState) → ((g : ℕ) → Bits z.threads (found g)) → o ≢ 0 → (w.obj o).live ≡ false → ty ≢ nothing → Inside z (In a) → in_ref w a ≡ 0 → w.win (thread_of a) ≡ Shut → ((t r : ℕ) → a ≡ RegisterOf t r → thread_of a ≡ t) → WorldInvariant z l (make l w a o ty found)
  make_ok a o ty found sound nz0 gone nty ia e sh mine =
      let t = thread_of a in
      let w' = make l w a o ty found in
      let x : ObjectState = record { live = true; global = false; ty = ty; owner = t } in
      let h : TypedReference = record { ty = ty; reference = o } in
      let mid = retype w.slots o (l.cell ty o) in
      let not_it : (s : Slot) → (w.slots s).reference ≡ o → ⊥ = λ s q. let g = inv.words.fits s (λ c. nz0 (sym q ∙ c)) in let k : (w.obj o).live ≡ true = subst (λ p. (w.obj p).live ≡ true) q g.live in absurd (cc) in
      let mid_ref : (s : Slot) → (mid s).reference ≡ (w.slots s).reference = retype_all (λ s (h : TypedReference). h.reference ≡ (w.slots s).reference) w.slots o (l.cell ty o) (λ i. sym (inv.words.dead o i gone)) (λ s _. refl) in
      let y : put w.obj o x o ≡ x = put_same w.obj o x in
      let here : Fits l w'.obj t h = λ n. record { live = ap (λ (y : ObjectState). y.live) y; made = ap (λ (y : ObjectState). y.global) y; typed = ap (λ (y : ObjectState). y.ty) y; own = λ p. ap (λ (y : ObjectState). y.owner) y } in
      let old : (s : Slot) → ((i : ℕ) → s ≡ Cell o i → ⊥) → Fits l w'.obj (who w'.obj s) (w.slots s) = λ s ns. refers_kept o x s (not_it s) (λ p. who_kept o x s (λ i q. absurd (ns i q))) in
      let was : (p : ℕ) → (p ≡ o → ⊥) → put w.obj o x p ≡ w.obj p = λ p ne. put_other w.obj o p x ne in
      record {
        words = record {
          counts = λ p nz live made.
              let tot = total_place z mid h p (In a) ia in
              let ext = total_ext z w.slots mid p mid_ref in
              let r0 : one (in_ref w a) p ≡ one 0 p = ap (λ n. one n p) e in
              let k = one_other 0 p (λ i. nz (sym i)) in
              ⊎_elim
              (λ (q : p ≡ o). let m : put w.count o 1 p ≡ 1 = ap (put w.count o 1) q ∙ put_same w.count o 1 in let b = total_none z w.slots p (λ s i. not_it s (i ∙ q)) in let v : one o p ≡ 1 = ap (one o) q ∙ one_same o in omega arith)
              (λ (ne : p ≡ o → ⊥). let m = put_other w.count o p 1 ne in let c = inv.words.counts p nz (sym (ap (λ (y : ObjectState). y.live) (was p ne)) ∙ live) (sym (ap (λ (y : ObjectState). y.global) (was p ne)) ∙ made) in let v = one_other o p (λ i. ne (sym i)) in omega arith)
              (cases_eq p o);
          inside = place_all (λ s (h : TypedReference). h.reference ≢ 0 → Inside z s) mid (In a) h (λ _. ia) (λ s _ n. inv.words.inside s (subst (λ k. k ≢ 0) (mid_ref s) n));
          fits = place_all (λ s h. Fits l w'.obj (who w'.obj s) h) mid (In a) h here (λ s _. retype_all (λ s h. Fits l w'.obj (who w'.obj s) h) w.slots o (l.cell ty o) (λ i n. absurd (n refl)) old s);
          cells = λ p i. ⊎_elim
              (λ (q : p ≡ o). let P : ℕ → Type 0 = λ p. (put w.obj o x p).live ≡ true → (put {A = ℕ → TypedReference} (λ p i. w.slots (Cell p i)) o (λ i. null (l.cell ty o i)) p i).ty ≡ l.cell (put w.obj o x p).ty p i in
              subst P (sym q) (λ _. ap (λ (g : ℕ → TypedReference). (g i).ty) (put_same (λ p i. w.slots (Cell p i)) o (λ i. null (l.cell ty o i))) ∙ ap (λ (y : ObjectState). l.cell y.ty o i) (sym y)))
              (λ (ne : p ≡ o → ⊥) k. ap (λ (g : ℕ → TypedReference). (g i).ty) (put_other (λ p i. w.slots (Cell p i)) o p (λ i. null (l.cell ty o i)) ne) ∙ inv.words.cells p i (sym (ap (λ (y : ObjectState). y.live) (was p ne)) ∙ k) ∙ ap (λ (y : ObjectState). l.cell y.ty p i) (sym (was p ne)))
              (cases_eq p o);
          dead = λ p i k. mid_ref (Cell p i) ∙ ⊎_elim
              (λ (q : p ≡ o). let k' : (put w.obj o x o).live ≡ false = subst (λ p. (put w.obj o x p).live ≡ false) q k in let m : (put w.obj o x o).live ≡ true = ap (λ (y : ObjectState). y.live) y in absurd (cc))
              (λ (ne : p ≡ o → ⊥). inv.words.dead p i (sym (ap (λ (y : ObjectState). y.live) (was p ne)) ∙ k))
              (cases_eq p o);
          kinds = put_all (λ p (y : ObjectState). y.live ≡ true → y.ty ≢ nothing) w.obj o x (λ _. nty) (λ p _. inv.words.kinds p);
        };
        bits = λ p. put_all (λ p (h : ℕ → GranuleState). (g : ℕ) → Bits z.threads (h g)) w.gran o found sound (λ p _. inv.bits p) p;
        wins = obj_wins t w' o x sh (λ u _. refl) refl (λ p ne. put_other w.gran o p found ne) refl
            (λ u nu q. place_other mid (In a) (In (RegisterOf u q)) h (λ k. let i : RegisterOf u q ≡ a = cc in nu (sym (mine u q (sym i)))))
            (λ p i _. mid_ref (Cell p i))
            (λ u nu b hb q. base_not o gone u b hb q)
            (λ u q nu nr one'. put_other w.count o (in_ref w (RegisterOf u q)) 1 (not_it (In (RegisterOf u q))) ∙ one');
      }
