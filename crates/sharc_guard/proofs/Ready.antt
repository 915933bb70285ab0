-- What flat code that is level has at each place: it is one of its function, and the registers hold what they are said to hold.
use Rattle.sharc_guard.proofs.Imports.{fun_ext, ◌≡◌, ℕ, ℤ, pos, zero, ◌+◌, ◌-◌, ◌<◌, ◌≤◌, true, List, [], ◌∷◌, length, refl, sym, ap, ◌∙◌, subst, arith, ⊎_elim, cases_eq, cases_lt, is_zero, Flat, Caller, At, put, function_of, ref, called, Slot, free, full, Fits, Slots, with_slot, with_moved, result_slot, Enters, Calls, Resumes, Leaves, IsLevel, eqb_same, eqb_other}

pub put_at : (bank : ℕ → ℤ) (r k : ℕ) (v : ℤ) → k ≡ r → put bank r v k ≡ v
put_at bank r k v e = subst (λ n. put bank r v n ≡ v) (sym e) (rw (eqb_same r) refl)

pub put_other : (bank : ℕ → ℤ) (r : ℕ) (v : ℤ) (k : ℕ) → (k ≡ r → ⊥) → put bank r v k ≡ bank k
put_other bank r v k ne = rw (eqb_other k r ne) refl

slot_at : (s : Slots) (r k : ℕ) (x : Slot) → k ≡ r → with_slot s r x k ≡ x
slot_at s r k x e = subst (λ n. with_slot s r x n ≡ x) (sym e) (rw (eqb_same r) refl)

slot_other : (s : Slots) (r : ℕ) (x : Slot) (k : ℕ) → (k ≡ r → ⊥) → with_slot s r x k ≡ s k
slot_other s r x k ne = rw (eqb_other k r ne) refl

pub slot_same : (s : Slots) (r k : ℕ) → s r ≡ free → with_slot s r free k ≡ s k
slot_same s r k fr = ⊎_elim
    (λ (e : k ≡ r). slot_at s r k free e ∙ sym fr ∙ ap s (sym e))
    (λ (ne : k ≡ r → ⊥). slot_other s r free k ne)
    (cases_eq k r)

-- what moves to its own register stays
pub moved_same : (bank : ℕ → ℤ) (r from : ℕ) → r ≡ from → put (put bank from (pos 0)) r (bank from) ≡ bank
moved_same bank r from e = fun_ext (λ k. ⊎_elim
    (λ (q : k ≡ r). put_at (put bank from (pos 0)) r k (bank from) q ∙ ap bank (sym (q ∙ e)))
    (λ (ne : k ≡ r → ⊥). put_other (put bank from (pos 0)) r (bank from) k ne ∙ put_other bank from (pos 0) k (λ q. ne (q ∙ sym e)))
    (cases_eq k r))

-- a value is of a kind
abbrev pub Is : Slot → ℤ → Type 0
Is free v = v ≡ pos 0
Is full v = Unit {0}

pub fits_is : (a b : Slot) (v : ℤ) → Fits a b → Is a v → Is b v
fits_is free free v f h = h
fits_is full free v f h = absurd f
fits_is _ full v f h = tt

pub null_is : (a : Slot) (v : ℤ) → v ≡ pos 0 → Is a v
null_is free v e = e
null_is full v e = tt

abbrev pub Hold : Slots → ℕ → (ℕ → ℤ) → Type 0
Hold s base refs = (k : ℕ) → Is (s k) (refs (base + k))

pub hold_put : (s : Slots) (base : ℕ) (refs : ℕ → ℤ) (r : ℕ) (x : Slot) (v : ℤ) → Is x v → Hold s base refs → Hold (with_slot s r x) base (put refs (base + r) v)
hold_put s base refs r x v i h k = ⊎_elim
    (λ (e : k ≡ r). let e2 : base + k ≡ base + r = omega arith in subst (λ y. Is y (put refs (base + r) v (base + k))) (sym (slot_at s r k x e)) (subst (Is x) (sym (put_at refs (base + r) (base + k) v e2)) i))
    (λ (ne : k ≡ r → ⊥). subst (λ y. Is y (put refs (base + r) v (base + k))) (sym (slot_other s r x k ne)) (subst (Is (s k)) (sym (put_other refs (base + r) v (base + k) (λ e. ne (omega arith)))) (h k)))
    (cases_eq k r)

pub below_put : (base : ℕ) (refs : ℕ → ℤ) (r k : ℕ) (v : ℤ) → k < base → put refs (base + r) v k ≡ refs k
below_put base refs r k v lt = put_other refs (base + r) v k (λ e. omega arith)

-- another kind of the same register
pub hold_as : (s : Slots) (base : ℕ) (refs : ℕ → ℤ) (r : ℕ) (x : Slot) → Is x (refs (base + r)) → Hold s base refs → Hold (with_slot s r x) base refs
hold_as s base refs r x i h k = ⊎_elim
    (λ (e : k ≡ r). subst (λ y. Is y (refs (base + k))) (sym (slot_at s r k x e)) (subst (λ n. Is x (refs (base + n))) (sym e) i))
    (λ (ne : k ≡ r → ⊥). subst (λ y. Is y (refs (base + k))) (sym (slot_other s r x k ne)) (h k))
    (cases_eq k r)

module _ (flat : Flat) (level : IsLevel flat) where
  abbrev owner : ℕ → ℕ
  owner = level.owner

  abbrev slots : ℕ → Slots
  slots = level.slots

  -- a caller finds its frame as it left it
  pub record Returns (f base : ℕ) (refs : ℕ → ℤ) (c : Caller) : Type 0 where
    pub from : ℕ
    pub base_is : c.refs + from ≡ base
    pub inside : c.pc < length flat.lines
    pub below : (k : ℕ) → k < from → Is (slots c.pc k) (refs (c.refs + k))
    pub result : Fits (result_slot (level.gives f)) (slots c.pc from)

  abbrev pub Frames : ℕ → ℕ → (ℕ → ℤ) → List Caller → Type 0
  Frames f base refs [] = Unit {0}
  Frames f base refs (c ∷ rest) = Returns f base refs c × Frames (owner c.pc) c.refs refs rest

  pub frames_keep : (f base : ℕ) (refs refs2 : ℕ → ℤ) (cs : List Caller) → ((k : ℕ) → k < base → refs2 k ≡ refs k) → Frames f base refs cs → Frames f base refs2 cs
  frames_keep f base refs refs2 [] e h = tt
  frames_keep f base refs refs2 (c ∷ rest) e h =
      let r = h.0 in (
        record {
          from = r.from;
          base_is = r.base_is;
          inside = r.inside;
          below = λ k lt. subst (Is (slots c.pc k)) (sym (e (c.refs + k) (omega (arith, r.base_is)))) (r.below k lt);
          result = r.result;
        },
        frames_keep (owner c.pc) c.refs refs refs2 rest (λ k lt. e k (omega (arith, r.base_is))) h.1,
      )

  pub record Ready (m : At) : Type 0 where
    pub inside : m.pc < length flat.lines
    pub hold : Hold (slots m.pc) m.ref_base m.refs
    pub frames : Frames (owner m.pc) m.ref_base m.refs m.frames

  -- in the same frame
  pub enters : (m m2 : At) (s : Slots) → Frames (owner m.pc) m.ref_base m.refs m.frames → Enters flat owner level.gives slots (owner m.pc) s m2.pc → Hold s m.ref_base m2.refs → ((k : ℕ) → k < m.ref_base → m2.refs k ≡ m.refs k) → m2.ref_base ≡ m.ref_base → m2.frames ≡ m.frames → Ready m2
  enters m m2 s fr en h keep eb ef = record {
    inside = en.inside;
    hold = λ k. subst (λ b. Is (slots m2.pc k) (m2.refs (b + k))) (sym eb) (fits_is (s k) (slots m2.pc k) (m2.refs (m.ref_base + k)) (en.fits k) (h k));
    frames = subst (λ f. Frames f m2.ref_base m2.refs m2.frames) (sym en.owned)
        (subst (λ b. Frames (owner m.pc) b m2.refs m2.frames) (sym eb)
        (subst (λ cs. Frames (owner m.pc) m.ref_base m2.refs cs) (sym ef)
        (frames_keep (owner m.pc) m.ref_base m.refs m2.refs m.frames keep fr)));
  }

  -- ---- after a turn
  module _ (m : At) (rd : Ready m) where
    abbrev pub En : Slots → ℕ → Type 0
    En = Enters flat owner level.gives slots (owner m.pc)

    abbrev pub here : Slots
    here = slots m.pc

    pub keeps : (m2 : At) → En here m2.pc → m2.refs ≡ m.refs → m2.ref_base ≡ m.ref_base → m2.frames ≡ m.frames → Ready m2
    keeps m2 en e1 e2 e3 = enters m m2 here rd.frames en (λ k. subst (λ r. Is (here k) (r (m.ref_base + k))) (sym e1) (rd.hold k)) (λ k lt. ap (λ r. r k) e1) e2 e3

    pub puts : (m2 : At) (r : ℕ) (x : Slot) (v : ℤ) → Is x v → En (with_slot here r x) m2.pc → m2.refs ≡ put m.refs (m.ref_base + r) v → m2.ref_base ≡ m.ref_base → m2.frames ≡ m.frames → Ready m2
    puts m2 r x v i en e1 e2 e3 =
        enters m m2 (with_slot here r x) rd.frames en
        (λ k. subst (λ rs. Is (with_slot here r x k) (rs (m.ref_base + k))) (sym e1) (hold_put here m.ref_base m.refs r x v i rd.hold k))
        (λ k lt. ap (λ rs. rs k) e1 ∙ below_put m.ref_base m.refs r k v lt) e2 e3

    pub moves : (m2 : At) (r from : ℕ) → En (with_moved here r from) m2.pc → m2.refs ≡ put (put m.refs (m.ref_base + from) (pos 0)) (m.ref_base + r) (m.refs (m.ref_base + from)) → m2.ref_base ≡ m.ref_base → m2.frames ≡ m.frames → Ready m2
    moves m2 r from en e1 e2 e3 =
        let first = hold_put here m.ref_base m.refs from free (pos 0) refl rd.hold in
        let refs1 = put m.refs (m.ref_base + from) (pos 0) in
        enters m m2 (with_moved here r from) rd.frames en
        (λ k. subst (λ rs. Is (with_moved here r from k) (rs (m.ref_base + k))) (sym e1) (hold_put (with_slot here from free) m.ref_base refs1 r (here from) (m.refs (m.ref_base + from)) (rd.hold from) first k))
        (λ k lt. ap (λ rs. rs k) e1 ∙ below_put m.ref_base refs1 r k (m.refs (m.ref_base + from)) lt ∙ below_put m.ref_base m.refs from k (pos 0) lt) e2 e3

    pub call_ready : (f ints_at refs_at : ℕ) → Calls flat owner level.gives slots f here refs_at → Resumes flat owner level.gives slots (owner m.pc) here refs_at (m.pc + 1) f → Ready (called flat f ints_at refs_at m)
    call_ready f i r c back =
        let en = level.entries f c.known in
        record {
          inside = en.inside;
          hold = λ k. let z : m.ref_base + r + k ≡ m.ref_base + (r + k) = omega arith in
              subst (λ n. Is (slots (function_of flat f).entry k) (m.refs n)) (sym z) (fits_is (here (r + k)) (slots (function_of flat f).entry k) (m.refs (m.ref_base + (r + k))) (c.fits k) (rd.hold (r + k)));
          frames = (
            record {
              from = r;
              base_is = refl;
              inside = back.inside;
              below = λ k lt. fits_is (here k) (slots (m.pc + 1) k) (m.refs (m.ref_base + k)) (back.below k lt) (rd.hold k);
              result = subst (λ g. Fits (result_slot (level.gives g)) (slots (m.pc + 1) r)) (sym en.owned) back.result;
            },
            subst (λ g. Frames g m.ref_base m.refs m.frames) (sym back.owned) rd.frames,
          );
        }

    pub return_ready : (c : Caller) (rest : List Caller) → Frames (owner m.pc) m.ref_base m.refs (c ∷ rest) → Leaves flat owner level.gives slots (owner m.pc) here
        → Ready (record m { pc = c.pc; int_base = c.ints; ref_base = c.refs; frames = rest })
    return_ready c rest fr lv =
        let r = fr.0 in
        record {
          inside = r.inside;
          frames = fr.1;
          hold = λ k. ⊎_elim
              (λ (lt : k < r.from). r.below k lt)
              (λ (le : r.from ≤ k). ⊎_elim
              (λ (eq : k ≡ r.from).
              let z : m.ref_base + 0 ≡ c.refs + k = omega (arith, r.base_is) in
              let h : Is (here 0) (m.refs (c.refs + k)) = subst (λ n. Is (here 0) (m.refs n)) z (rd.hold 0) in
              let h2 = fits_is (here 0) (result_slot (level.gives (owner m.pc))) (m.refs (c.refs + k)) lv.result h in
              let h3 = fits_is (result_slot (level.gives (owner m.pc))) (slots c.pc r.from) (m.refs (c.refs + k)) r.result h2 in
              subst (λ n. Is (slots c.pc n) (m.refs (c.refs + k))) (sym eq) h3)
              (λ (ne : k ≡ r.from → ⊥).
              let lt : r.from < k = omega arith in
              let z : m.ref_base + (k - r.from) ≡ c.refs + k = omega (arith, r.base_is) in
              let more : 0 < k - r.from = omega arith in
              let h : Is free (m.refs (m.ref_base + (k - r.from))) = subst (λ x. Is x (m.refs (m.ref_base + (k - r.from)))) (lv.others (k - r.from) more) (rd.hold (k - r.from)) in
              null_is (slots c.pc k) (m.refs (c.refs + k)) (subst (λ n. m.refs n ≡ pos 0) z h))
              (cases_eq k r.from))
              (cases_lt k r.from);
        }

    pub null_here : (r : ℕ) → here r ≡ free → m.refs (m.ref_base + r) ≡ pos 0
    null_here r e = subst (λ x. Is x (m.refs (m.ref_base + r))) e (rd.hold r)

    pub is_free : (r : ℕ) → is_zero (ref m r) ≡ true → Is free (m.refs (m.ref_base + r))
    is_free r = by (ref m r)
      where
        by : (z : ℤ) → is_zero z ≡ true → z ≡ pos 0
        by (pos zero) e = refl
        by _ e = absurd (cc)
