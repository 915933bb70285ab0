-- What is done with condition variables, after what is handed to it.
use Rattle.sharc_typed_laws.proofs.{Imports.{◌≡◌, ◌≢◌, ℕ, ◌+◌, ◌<◌, ◌≤◌, ◌⊎◌, Bool, true, false, [], ◌∷◌, Some, refl, sym, ap, ◌∙◌, subst, inr, ⊎_elim, arith, false≢true, none-some, cases_eq, cases_lt, Cell, put, put_same, put_other, put_all, Op, Spot, Context, ref_count, first_cell_of, wait_code, StaticType, field_at, cells_of, MutexWord, Waiters, Empty, Refers, Gate, Closed, Holds, Label, Less, LessNumber, LessEntry, EntryMentions, IsScoped, fill, gated, knows, HasCell, ints_in, refs_in, less_refl, less_entry_refl, less_number_refl, scoped_fill, Mark, Setting, IsNamed, mark, Typing, HasMutex, HasWaiters, FirstCell}, Standing.{less_by, less_emptied_over, without_same, scoped_frame, unnamed}, Rules.on_check, Moves.{on_held, on_lock, on_unlock, on_cond_enter, on_cond_wait, on_wake}, Parts.{At, at_fill, does, told_same, same_number, check_at, pop_at, pops_two}, Accessed.Frame, Words.words}

module _ (around : Setting) (f : ℕ) (D : (ℕ → Mark) → Type 0) (y : Typing) (c : Context) (low : (p : ℕ) → y.named c p ≡ true → p < ref_count c.scope) (from : ℕ) where
  open words around f D (y.named c) (ref_count c.scope) low from use {named as N, top, Q, fr as refs, joins}

  abbrev Scoped : Label → Type 0
  Scoped = IsScoped (ints_in around.code (Some f)) refs

  -- ---- the first cell of what a register refers to, which is not NULL
  holds_first : (l : Label) (r : ℕ) (s : StaticType) → l.function ≡ Some f → r < refs → l.env r ≡ Refers s → l.known r ≡ true → 0 < cells_of around.targets s.target → HasCell around.targets around.code l (first_cell_of r) (field_at around.targets s.target 0)
  holds_first l r s owned ref is known some = record { field = (subst (λ o. r < refs_in around.code o) (sym owned) ref, (s, is, some, refl)); base = known }

  filled : (l : Label) (r : ℕ) (s : StaticType) → l.env r ≡ Refers s → Scoped l → r < refs
  filled l r s is h = ⊎_elim (λ (lt : r < refs). lt) (λ (ge : refs ≤ r). let z : Refers s ≡ Empty = sym is ∙ h.few r ge in absurd (cc)) (cases_lt r refs)

  gated_scoped : (l : Label) (g : Gate) → Scoped l → Scoped (gated l g)
  gated_scoped l g h = record { few = h.few; paths = h.paths; copies = h.copies; bases = h.bases; known = h.known; passes = h.passes; numbers = h.numbers }

  -- ---- to all that wait, or to one of them
  module _ (i r : ℕ) (l : Label) (fr : Frame around f D y c low from i r l) (s : StaticType) (v : ℕ) (fits : IsNamed N r s) (small : v ≤ r) (first : FirstCell around s Waiters) (spot : Spot) where
    abbrev seen : Label
    seen = fill l r (Refers s) v true

    waiters : Scoped seen → HasWaiters around seen (first_cell_of r)
    waiters h = record { field = field_at around.targets s.target 0; has = holds_first seen r s fr.at.owned (filled seen r s (put_same l.env r (Refers s)) h) (put_same l.env r (Refers s)) (put_same l.known r true) first.some; waiters = first.holds }

    waked : (o : Op) → Q (mark seen from i) (o ∷ []) (mark seen from i) → Q (mark (fill l r (Refers s) v false) from i) (Op.ChkNull r spot ∷ o ∷ Op.Pop r ∷ []) (mark l from i)
    waked o p = joins (mark (fill l r (Refers s) v false) from i) (mark seen from i) (mark l from i) (Op.ChkNull r spot ∷ []) (o ∷ Op.Pop r ∷ []) (check_at around f D N top low from i r l fr.at s v false fits small i spot)
        (joins (mark seen from i) (mark seen from i) (mark l from i) (o ∷ []) (Op.Pop r ∷ []) p (pop_at around f D N top low from i r l fr.at fr.high s v true fits i))

    pub signalled : Q (mark (fill l r (Refers s) v false) from i) (Op.ChkNull r spot ∷ Op.CondSignal (first_cell_of r) spot ∷ Op.Pop r ∷ []) (mark l from i)
    signalled = waked (Op.CondSignal (first_cell_of r) spot) (does around f D N top low from (mark seen from i) (Op.CondSignal (first_cell_of r) spot) (mark seen from i) (λ _ h. h)
        (λ table pc w h next. on_wake around f table pc (mark seen from i) (mark seen from i) next (record { owned = fr.at.owned; scoped = h }) (Op.CondSignal (first_cell_of r) spot) (first_cell_of r) spot (λ a z. absurd (none-some a z)) (λ t. t) refl (waiters h) (less_refl seen)
        (λ _ know t. told_same (Op.CondSignal (first_cell_of r) spot) (λ q. refl) (λ j. refl) around know (mark seen from i) (mark seen from i) (λ q. refl) (omega arith) (omega arith) (λ j n a b z. z) t)))

    pub broadcasted : Q (mark (fill l r (Refers s) v false) from i) (Op.ChkNull r spot ∷ Op.CondBroadcast (first_cell_of r) spot ∷ Op.Pop r ∷ []) (mark l from i)
    broadcasted = waked (Op.CondBroadcast (first_cell_of r) spot) (does around f D N top low from (mark seen from i) (Op.CondBroadcast (first_cell_of r) spot) (mark seen from i) (λ _ h. h)
        (λ table pc w h next. on_wake around f table pc (mark seen from i) (mark seen from i) next (record { owned = fr.at.owned; scoped = h }) (Op.CondBroadcast (first_cell_of r) spot) (first_cell_of r) spot (λ a z. absurd (none-some a z)) (λ t. t) refl (waiters h) (less_refl seen)
        (λ _ know t. told_same (Op.CondBroadcast (first_cell_of r) spot) (λ q. refl) (λ j. refl) around know (mark seen from i) (mark seen from i) (λ q. refl) (omega arith) (omega arith) (λ j n a b z. z) t)))

  -- ---- a thread waits: the mutex is given back meanwhile
  module _ (i r : ℕ) (l : Label) (fr : Frame around f D y c low from i r l) (s t : StaticType) (v w : ℕ) (fits : IsNamed N r s) (fits2 : IsNamed N r t) (small : v ≤ r) (other : (w ≡ r + 1) ⊎ (w < r)) (first : FirstCell around s Waiters) (second : FirstCell around t MutexWord) where
    abbrev X : Bool → Label
    X b = fill l r (Refers s) v b

    abbrev L : Bool → Bool → Label
    L a b = fill (X a) (r + 1) (Refers t) w b

    at_x : (b : Bool) → At around f D N top low from i (r + 1) (X b)
    at_x b = at_fill around f D N top low from i r l fr.at s v b fits small

    wider : IsNamed N (r + 1) t
    wider p m = let z = fits2 p m in let lt = z.0 in (omega (arith, lt), z.1)

    small2 : w ≤ r + 1
    small2 = ⊎_elim (λ (e : w ≡ r + 1). omega (arith, e)) (λ (lt : w < r). omega (arith, lt)) other

    at_l : (a b : Bool) → At around f D N top low from i (r + 1 + 1) (L a b)
    at_l a b = at_fill around f D N top low from i (r + 1) (X a) (at_x a) t w b wider small2

    abbrev M : Label
    M = L true true

    env_r : (a b : Bool) → (L a b).env r ≡ Refers s
    env_r a b = put_other (X a).env (r + 1) r (Refers t) (λ e. omega (arith, e)) ∙ put_same l.env r (Refers s)

    env_up : (a b : Bool) → (L a b).env (r + 1) ≡ Refers t
    env_up a b = put_same (X a).env (r + 1) (Refers t)

    known_r : M.known r ≡ true
    known_r = put_other (X true).known (r + 1) r true (λ e. omega (arith, e)) ∙ put_same l.known r true

    -- the lower one is no NULL
    lower_seen : (spot : Spot) → Q (mark (L false false) from i) (Op.ChkNull r spot ∷ []) (mark (L true false) from i)
    lower_seen spot = does around f D N top low from (mark (L false false) from i) (Op.ChkNull r spot) (mark (L true false) from i)
        (λ _ h. record { few = h.few; paths = h.paths; copies = h.copies; bases = h.bases; known = λ q e. known_full q e (h.known q); passes = h.passes; numbers = h.numbers })
        (λ table pc _ h next. on_check around f table pc (mark (L false false) from i) (mark (L true false) from i) next r spot (record { owned = fr.at.owned; scoped = h; closed = refl })
        (less_by (knows (L false false) r) (L true false) refl (λ q. less_entry_refl (knows (L false false) r) q ((L true false).env q)) (λ q. refl) (λ q e. known q e) (λ j. less_number_refl (l.ints j)) tt fr.at.stands.nothing_passed (λ e. e))
        (λ _ know t2. told_same (Op.ChkNull r spot) (λ q. refl) (λ j. refl) around know (mark (L false false) from i) (mark (L true false) from i) (λ q. refl) (omega arith) (omega arith) (λ j n a b z. same_number around f D N top low from (L false false) (L true false) n (l.ints j) (λ q _. refl) z) t2))
      where
        known : (q : ℕ) → (L true false).known q ≡ true → put (L false false).known r true q ≡ true
        known q e = ⊎_elim (λ (z : q ≡ r). ap (put (L false false).known r true) z ∙ put_same (L false false).known r true)
            (λ (ne : q ≡ r → ⊥). put_other (L false false).known r q true ne ∙ ⊎_elim (λ (z : q ≡ r + 1). absurd (false≢true (sym (ap (L true false).known z ∙ put_same (X true).known (r + 1) false) ∙ e)))
            (λ (no : q ≡ r + 1 → ⊥). put_other (X false).known (r + 1) q false no ∙ put_other l.known r q false ne ∙ sym (put_other (X true).known (r + 1) q false no ∙ put_other l.known r q true ne) ∙ e) (cases_eq q (r + 1))) (cases_eq q r)

        known_full : (q : ℕ) → (L true false).known q ≡ true → ((L false false).known q ≡ true → (L false false).env q ≢ Empty) → (L true false).env q ≢ Empty
        known_full q e h = ⊎_elim (λ (z : q ≡ r). λ y. let a : Refers s ≡ Empty = sym (ap (L true false).env z ∙ env_r true false) ∙ y in cc)
            (λ (ne : q ≡ r → ⊥). h (sym (put_other (L false false).known r q true ne) ∙ known q e)) (cases_eq q r)

    abbrev cell : Cell
    cell = first_cell_of (r + 1)

    abbrev H : Label
    H = gated M (Holds cell)

    mutex : (g : Gate) → Scoped (gated M g) → HasMutex around (gated M g) cell
    mutex g h = record { field = field_at around.targets t.target 0; has = holds_first (gated M g) (r + 1) t fr.at.owned (filled (gated M g) (r + 1) t (env_up true true) h) (env_up true true) (put_same (X true).known (r + 1) true) second.some; mutex = second.holds }

    waits : (k : Label) → k.function ≡ Some f → k.env r ≡ Refers s → k.known r ≡ true → Scoped k → HasWaiters around k (first_cell_of r)
    waits k owned is known h = record { field = field_at around.targets s.target 0; has = holds_first k r s owned (filled k r s is h) is known first.some; waiters = first.holds }

    -- the log's reference is at hand
    abbrev O : Label
    O = record (fill M (r + 1 + 1) (Refers t) w true) { room = true }

    O_scoped : Scoped M → r + 1 + 1 < refs → Scoped O
    O_scoped h lt =
        let z = scoped_fill (ints_in around.code (Some f)) refs M (r + 1 + 1) t w true lt (λ q m. (at_l true true).stands.full q (let y = (fits2 q m).0 in omega (arith, y)))
        (inr ((at_l true true).stands.full w (omega (arith, small2)))) h in
        record { few = z.few; paths = z.paths; copies = z.copies; bases = z.bases; known = z.known; passes = z.passes; numbers = z.numbers }

    pub waited : (spot a b : Spot) → Q (mark (L false false) from i) (wait_code r spot a b) (mark l from i)
    waited spot a b =
        let m = mark M from i in
        let high = fr.high in
        joins (mark (L false false) from i) (mark (L true false) from i) (mark l from i) (Op.ChkNull r spot ∷ []) _ (lower_seen spot)
        (joins (mark (L true false) from i) m (mark l from i) (Op.ChkNull (r + 1) spot ∷ []) _ (check_at around f D N top low from i (r + 1) (X true) (at_x true) t w false wider small2 i spot)
        (joins m (mark H from i) (mark l from i) (Op.ChkHeld cell spot ∷ []) _
        (does around f D N top low from m (Op.ChkHeld cell spot) (mark H from i) (λ _ h. gated_scoped M (Holds cell) h)
        (λ table pc _ h next. on_held around f table pc m (mark H from i) next (record { owned = fr.at.owned; scoped = h }) cell spot refl (mutex Closed h) (less_refl H)
        (λ _ know t2. told_same (Op.ChkHeld cell spot) (λ q. refl) (λ j. refl) around know m (mark H from i) (λ q. refl) (omega arith) (omega arith) (λ j n a b z. same_number around f D N top low from M H n (l.ints j) (λ q _. refl) z) t2)))
        (joins (mark H from i) (mark H from i) (mark l from i) (Op.CondEnter (first_cell_of r) spot ∷ []) _
        (does around f D N top low from (mark H from i) (Op.CondEnter (first_cell_of r) spot) (mark H from i) (λ _ h. h)
        (λ table pc _ h next. on_cond_enter around f table pc (mark H from i) (mark H from i) next (record { owned = fr.at.owned; scoped = h }) (first_cell_of r) spot (inr (cell, refl)) (waits H fr.at.owned (env_r true true) known_r h) (less_refl H)))
        (joins (mark H from i) (mark O from i) (mark l from i) (Op.Unlock (r + 2) cell spot ∷ []) _ (unlocks spot)
        (joins (mark O from i) (mark O from i) (mark l from i) (Op.CondWait (first_cell_of r) a ∷ []) _
        (does around f D N top low from (mark O from i) (Op.CondWait (first_cell_of r) a) (mark O from i) (λ _ h. h)
        (λ table pc _ h next. on_cond_wait around f table pc (mark O from i) (mark O from i) next (record { owned = fr.at.owned; scoped = h }) (first_cell_of r) a refl
        (waits O fr.at.owned (put_other M.env (r + 1 + 1) r (Refers t) (λ e. omega (arith, e)) ∙ env_r true true) (put_other M.known (r + 1 + 1) r true (λ e. omega (arith, e)) ∙ known_r) h) (less_refl O)))
        (joins (mark O from i) m (mark l from i) (Op.Lock (first_cell_of (r + 2)) b ∷ []) (Op.Pop r ∷ Op.Pop (r + 1) ∷ []) (locks b)
        (pops_two around f D N top low from i r l fr.at fr.high s t v w true true fits fits2 other i)))))))
      where
        same_cell : r + 2 ≡ r + 1 + 1
        same_cell = omega arith

        unlocks : (spot : Spot) → Q (mark H from i) (Op.Unlock (r + 2) cell spot ∷ []) (mark O from i)
        unlocks spot = subst (λ d. Q (mark H from i) (Op.Unlock d cell spot ∷ []) (mark O from i)) (sym same_cell)
            (does around f D N top low from (mark H from i) (Op.Unlock (r + 1 + 1) cell spot) (mark O from i) (λ in_it h. O_scoped (gated_scoped H Closed h) in_it)
            (λ table pc in_it h next. on_unlock around f table pc (mark H from i) (mark O from i) next (record { owned = fr.at.owned; scoped = h }) (r + 1 + 1) cell spot refl
            (record { is = subst (λ o. r + 1 + 1 < refs_in around.code o) (sym fr.at.owned) in_it; empty = (at_l true true).stands.free (r + 1 + 1) (omega arith) }) (mutex (Holds cell) h) less_unlocked))
          where
            less_unlocked : Less (record (fill H (r + 1 + 1) (H.env (r + 1)) (H.same (r + 1)) true) { room = true }) O
            less_unlocked =
                let k : Label = record (fill H (r + 1 + 1) (H.env (r + 1)) (H.same (r + 1)) true) { room = true } in
                less_by k O refl (λ q. subst (LessEntry k q (k.env q)) (ap (λ z. put M.env (r + 1 + 1) z q) (env_up true true)) (less_entry_refl k q (k.env q))) (λ q. ap (λ z. put M.same (r + 1 + 1) z q) (sym (put_same (X true).same (r + 1) w))) (λ q z. z)
                (λ j. less_number_refl (l.ints j)) tt fr.at.stands.nothing_passed (λ z. z)

        locks : (b : Spot) → Q (mark O from i) (Op.Lock (first_cell_of (r + 2)) b ∷ []) (mark M from i)
        locks b = subst (λ d. Q (mark O from i) (Op.Lock (first_cell_of d) b ∷ []) (mark M from i)) (sym same_cell)
            (does around f D N top low from (mark O from i) (Op.Lock (first_cell_of (r + 1 + 1)) b) (mark M from i)
            (λ in_it h. scoped_frame N i (r + 1 + 1) M (at_l true true).stands (ints_in around.code (Some f)) refs (λ q ge. let lt = in_it in sym (put_other M.env (r + 1 + 1) q (Refers t) (λ e. omega (arith, e, ge, lt))) ∙ h.few q ge) h.numbers)
            (λ table pc in_it h next. on_lock around f table pc (mark O from i) (mark M from i) next (record { owned = fr.at.owned; scoped = h }) (first_cell_of (r + 1 + 1)) b refl refl
            (record { field = field_at around.targets t.target 0; has = holds_first O (r + 1 + 1) t fr.at.owned in_it (put_same M.env (r + 1 + 1) (Refers t)) (put_same M.known (r + 1 + 1) true) second.some; mutex = second.holds })
            (record { paths = λ q ne m. put_all (λ q z. (q ≡ r + 1 + 1 → ⊥) → EntryMentions z (r + 1 + 1) → ⊥) M.env (r + 1 + 1) (Refers t) (λ no _. no refl) (λ q _ no m. let z = ((at_l true true).stands.paths q (r + 1 + 1) m).0 in omega (arith, z)) q ne m })
            (less_emptied_over M (r + 1 + 1) (unnamed N i (r + 1 + 1) M (at_l true true).stands (r + 1 + 1) (omega arith)) (Refers t) w true M.ints Closed true
            (λ j. subst (λ z. LessNumber z (l.ints j)) (sym (without_same (r + 1 + 1) (l.ints j) (λ base. let z = fr.at.stands.bases j (r + 1 + 1) base in omega (arith, z)))) (less_number_refl (l.ints j)))
            (λ z. false≢true (sym fr.at.stands.no_room ∙ z)))))
