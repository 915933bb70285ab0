-- Mutexes are taken and given back.
use Rattle.sharc_typed_laws.proofs.{Imports.{◌≡◌, ℕ, ◌+◌, ◌<◌, ◌≤◌, Bool, true, false, [], ◌∷◌, Some, None, refl, sym, ap, ◌∙◌, subst, inr, ⊎_elim, arith, false≢true, cases_eq, cases_lt, Cell, put, put_same, put_other, put_all, Op, Spot, Context, ref_count, Target, variable, in_global, in_global_at, in_object, in_object_at, has_base, base_width, cell_of, unlocked_code, is_cell, Empty, Refers, Element, Number, Anything, Gate, Closed, Holds, Label, Less, LessNumber, LessEntry, LessGate, EntryMentions, IsFree, fill, empty, without_index, IsBaseFree, ints_in, refs_in, without_base_of, unlocked_label, less_refl, less_entry_refl, less_number_refl, scoped_fill, Mark, Setting, IsNamed, mark, Typing, IsPointerCopy, HasBaseAt, HasMutex, Ground, MutexTyped}, Standing.{less_by, less_emptied_over, without_same, scoped_frame, unnamed}, Moves.{on_held, on_not_held, on_room, on_lock, on_unlock}, Parts.{does, none, told_same, same_number, pop_at}, Values.over, Accessed.{Frame, IsInFrame, placed, ints_of, ints_below, at_base, placed_by, framed, copy_base, env_base, same_base, is_base}, Words.words}

module _ (around : Setting) (f : ℕ) (D : (ℕ → Mark) → Type 0) (y : Typing) (c : Context) (low : (p : ℕ) → y.named c p ≡ true → p < ref_count c.scope) (from : ℕ) where
  open words around f D (y.named c) (ref_count c.scope) low from use {named as N, top, Q, Here, joins}

  abbrev roomy : Label → Label
  roomy l = record l { room = true }

  module _ (i r : ℕ) (l : Label) (at : Here i r l) (g : ℕ → Number) (below : (j : ℕ) → j < i → g j ≡ l.ints j) (until : ℕ) (le : i ≤ until) where
    abbrev k : Label
    k = over l g Closed

    forgotten : (j : ℕ) → LessNumber (g j) (l.ints j)
    forgotten j = ⊎_elim (λ (small : j < i). subst (LessNumber (g j)) (below j small) (less_number_refl (g j))) (λ (ge : i ≤ j). subst (LessNumber (g j)) (sym (at.stands.numbers j ge)) tt) (cases_lt j i)

    few_ints : ((j : ℕ) → ints_in around.code (Some f) ≤ j → g j ≡ Anything) → (j : ℕ) → ints_in around.code (Some f) ≤ j → l.ints j ≡ Anything
    few_ints h j ge = ⊎_elim (λ (small : j < i). sym (below j small) ∙ h j ge) (λ (le : i ≤ j). at.stands.numbers j le) (cases_lt j i)

    -- a cell of a mutex that is not held, and of which the log has room
    ready_at : (cell : Cell) (a b : Spot) → HasMutex around k cell → Q (mark k from until) (Op.ChkNotHeld cell a ∷ Op.ChkRoom b ∷ []) (mark (roomy k) from until)
    ready_at cell a b h = joins (mark k from until) (mark k from until) (mark (roomy k) from until) (Op.ChkNotHeld cell a ∷ []) (Op.ChkRoom b ∷ [])
        (does around f D N top low from (mark k from until) (Op.ChkNotHeld cell a) (mark k from until) (λ _ z. z) (λ table pc w z next. on_not_held around f table pc (mark k from until) (mark k from until) next (record { owned = at.owned; scoped = z }) cell a refl h (less_refl k)
        (λ _ know t. told_same (Op.ChkNotHeld cell a) (λ q. refl) (λ j. refl) around know (mark k from until) (mark k from until) (λ q. refl) (omega arith) (omega arith) (λ j n p q v. v) t)))
        (does around f D N top low from (mark k from until) (Op.ChkRoom b) (mark (roomy k) from until) (λ _ z. record { few = z.few; paths = z.paths; copies = z.copies; bases = z.bases; known = z.known; passes = z.passes; numbers = z.numbers })
        (λ table pc w z next. on_room around f table pc (mark k from until) (mark (roomy k) from until) next (record { owned = at.owned; scoped = z }) b refl (less_refl (roomy k))
        (λ _ know t. told_same (Op.ChkRoom b) (λ q. refl) (λ j. refl) around know (mark k from until) (mark (roomy k) from until) (λ q. refl) (omega arith) (omega arith)
        (λ j n p q v. same_number around f D N top low from k (roomy k) n (g j) (λ q _. refl) v) t)))

    has_room : (cell : Cell) → HasMutex around k cell → HasMutex around (roomy k) cell
    has_room (Cell.Global h p) m = record { field = m.field; has = record { field = m.has.field; base = m.has.base }; mutex = m.mutex }
    has_room _ m = record { field = m.field; has = record { field = m.has.field; base = m.has.base }; mutex = m.mutex }

    less_locked : Less (record k { room = false }) l
    less_locked = less_by (record k { room = false }) l refl (λ q. less_entry_refl (record k { room = false }) q (l.env q)) (λ q. refl) (λ q e. e) forgotten (subst (λ z. LessGate Closed z) (sym at.stands.closed) tt) at.stands.nothing_passed (λ e. absurd (false≢true (sym at.stands.no_room ∙ e)))

    -- of a mutex that has no base
    abbrev HasNoBase : Cell → Type 0
    HasNoBase (Cell.Object q n) = ⊥
    HasNoBase (Cell.ObjectAt q j) = ⊥
    HasNoBase _ = Unit {0}

    lock_global : (cell : Cell) (d : Spot) → HasNoBase cell → HasMutex around k cell → Q (mark (roomy k) from until) (Op.Lock cell d ∷ []) (mark l from i)
    lock_global cell d none h = does around f D N top low from (mark (roomy k) from until) (Op.Lock cell d) (mark l from i) (λ _ z. scoped_frame N i r l at.stands (ints_in around.code (Some f)) (refs_in around.code (Some f)) z.few (few_ints z.numbers))
        (λ table pc w z next. on_lock around f table pc (mark (roomy k) from until) (mark l from i) next (record { owned = at.owned; scoped = z }) cell d refl refl (has_room cell h) (free cell none) (less cell none))
      where
        free : (cell : Cell) → HasNoBase cell → IsBaseFree (roomy k) cell
        free (Cell.Object q n) none = absurd none
        free (Cell.ObjectAt q j) none = absurd none
        free _ none = tt

        less : (cell : Cell) → HasNoBase cell → Less (record (without_base_of (roomy k) cell) { room = false }) l
        less (Cell.Object q n) none = absurd none
        less (Cell.ObjectAt q j) none = absurd none
        less _ none = less_locked

    unlock_global : (cell : Cell) (b : Spot) (d : ℕ) → r ≤ d → HasNoBase cell → HasMutex around k cell → Q (mark (over l g (Holds cell)) from until) (Op.Unlock d cell b ∷ []) (mark l from i)
    unlock_global cell b d le none h = does around f D N top low from (mark (over l g (Holds cell)) from until) (Op.Unlock d cell b) (mark l from i) (λ _ z. scoped_frame N i r l at.stands (ints_in around.code (Some f)) (refs_in around.code (Some f)) z.few (few_ints z.numbers))
        (λ table pc w z next. on_unlock around f table pc (mark (over l g (Holds cell)) from until) (mark l from i) next (record { owned = at.owned; scoped = z }) d cell b refl
        (record { is = subst (λ o. d < refs_in around.code o) (sym at.owned) w; empty = at.stands.free d le }) (holds_too cell h) (less cell none))
      where
        holds_too : (cell : Cell) → HasMutex around k cell → HasMutex around (over l g (Holds cell)) cell
        holds_too (Cell.Global h p) m = record { field = m.field; has = record { field = m.has.field; base = m.has.base }; mutex = m.mutex }
        holds_too _ m = record { field = m.field; has = record { field = m.has.field; base = m.has.base }; mutex = m.mutex }

        less : (cell : Cell) → HasNoBase cell → Less (unlocked_label (over l g (Holds cell)) d cell) l
        less (Cell.Object q n) none = absurd none
        less (Cell.ObjectAt q j) none = absurd none
        less _ none = less_by (record k { room = true }) l refl (λ q. less_entry_refl (record k { room = true }) q (l.env q)) (λ q. refl) (λ q e. e) forgotten (subst (λ z. LessGate Closed z) (sym at.stands.closed) tt) at.stands.nothing_passed (λ e. refl)

    -- the gate of an unlock
    held_at : (cell : Cell) (a : Spot) → HasMutex around k cell → Q (mark k from until) (Op.ChkHeld cell a ∷ []) (mark (over l g (Holds cell)) from until)
    held_at cell a h = does around f D N top low from (mark k from until) (Op.ChkHeld cell a) (mark (over l g (Holds cell)) from until) (λ _ z. record { few = z.few; paths = z.paths; copies = z.copies; bases = z.bases; known = z.known; passes = z.passes; numbers = z.numbers })
        (λ table pc w z next. on_held around f table pc (mark k from until) (mark (over l g (Holds cell)) from until) next (record { owned = at.owned; scoped = z }) cell a refl h (less_refl (over l g (Holds cell)))
        (λ _ know t. told_same (Op.ChkHeld cell a) (λ q. refl) (λ j. refl) around know (mark k from until) (mark (over l g (Holds cell)) from until) (λ q. refl) (omega arith) (omega arith)
        (λ j n p q v. same_number around f D N top low from k (over l g (Holds cell)) n (g j) (λ q _. refl) v) t))

  holds_mutex : (l : Label) (g : ℕ → Number) (cell cell2 : Cell) → HasMutex around (over l g Closed) cell → HasMutex around (over l g (Holds cell2)) cell
  holds_mutex l g (Cell.Global h p) cell2 m = record { field = m.field; has = record { field = m.has.field; base = m.has.base }; mutex = m.mutex }
  holds_mutex l g _ cell2 m = record { field = m.field; has = record { field = m.has.field; base = m.has.base }; mutex = m.mutex }

  -- ---- a mutex with a base
  module _ (i r : ℕ) (l : Label) (fr : Frame around f D y c low from i r l) (ground : Ground) (e : Element) (v : ℕ) (base_fits : IsNamed N r ground.base) (copy : v ≤ r) (g : ℕ → Number) (below : (j : ℕ) → j < i → g j ≡ l.ints j) (until : ℕ) (le : i ≤ until) where
    abbrev X : Label
    X = fill l r (Refers ground.base) v true

    at_x : Here i (r + 1) X
    at_x = at_base around f D y c low from i r l fr None ground e v base_fits copy

    free_x : (room : Bool) (gate : Gate) → IsFree (record (over X g gate) { room = room }) r
    free_x room gate = let high = fr.high in record { paths = λ q ne m. put_all (λ q z. (q ≡ r → ⊥) → EntryMentions z r → ⊥) l.env r (Refers ground.base) (λ no _. no refl) (λ q _ no m. let z = low r (fr.at.stands.paths q r m).1 in omega (arith, z, high)) q ne m }

    ints_x : (j : ℕ) → LessNumber (without_index r (g j)) (l.ints j)
    ints_x j = ⊎_elim (λ (small : j < i). subst (λ n. LessNumber (without_index r n) (l.ints j)) (sym (below j small)) (subst (λ n. LessNumber n (l.ints j)) (sym (without_same r (l.ints j) (λ b. let z = fr.at.stands.bases j r b in omega (arith, z)))) (less_number_refl (l.ints j))))
        (λ (ge : i ≤ j). subst (LessNumber (without_index r (g j))) (sym (fr.at.stands.numbers j ge)) tt) (cases_lt j i)

    less_x : Less (record (empty (roomy (over X g Closed)) r) { room = false }) l
    less_x = less_emptied_over l r (unnamed N i r l fr.at.stands r (omega arith)) (Refers ground.base) v true g Closed true ints_x (λ z. absurd (false≢true (sym fr.at.stands.no_room ∙ z)))

    few_x : ((q : ℕ) → refs_in around.code (Some f) ≤ q → X.env q ≡ Empty) → (q : ℕ) → refs_in around.code (Some f) ≤ q → l.env q ≡ Empty
    few_x few q ge = ⊎_elim (λ (z : q ≡ r). fr.at.stands.free q (omega (arith, z))) (λ (ne : q ≡ r → ⊥). sym (put_other l.env r q (Refers ground.base) ne) ∙ few q ge) (cases_eq q r)

    -- the base of the cell
    abbrev HasThisBase : Cell → Type 0
    HasThisBase (Cell.Object q n) = q ≡ r
    HasThisBase (Cell.ObjectAt q j) = q ≡ r
    HasThisBase _ = ⊥

    lock_object : (cell : Cell) (d : Spot) → HasThisBase cell → HasMutex around (over X g Closed) cell → Q (mark (roomy (over X g Closed)) from until) (Op.Lock cell d ∷ []) (mark l from i)
    lock_object cell d base h = does around f D N top low from (mark (roomy (over X g Closed)) from until) (Op.Lock cell d) (mark l from i)
        (λ _ z. scoped_frame N i r l fr.at.stands (ints_in around.code (Some f)) (refs_in around.code (Some f)) (few_x z.few) (few_ints i (r + 1) X at_x g below until le z.numbers))
        (λ table pc w z next. on_lock around f table pc (mark (roomy (over X g Closed)) from until) (mark l from i) next (record { owned = fr.at.owned; scoped = z }) cell d refl refl (has_room i (r + 1) X at_x g below until le cell h) (free cell base) (less cell base))
      where
        free : (cell : Cell) → HasThisBase cell → IsBaseFree (roomy (over X g Closed)) cell
        free (Cell.Object q n) base = subst (IsFree (roomy (over X g Closed))) (sym base) (free_x true Closed)
        free (Cell.ObjectAt q j) base = subst (IsFree (roomy (over X g Closed))) (sym base) (free_x true Closed)
        free _ base = absurd base

        less : (cell : Cell) → HasThisBase cell → Less (record (without_base_of (roomy (over X g Closed)) cell) { room = false }) l
        less (Cell.Object q n) base = subst (λ r. Less (record (empty (roomy (over X g Closed)) r) { room = false }) l) (sym base) less_x
        less (Cell.ObjectAt q j) base = subst (λ r. Less (record (empty (roomy (over X g Closed)) r) { room = false }) l) (sym base) less_x
        less _ base = absurd base

    -- the log's reference comes back, and both are given up
    abbrev two : Label
    two = fill X (r + 1) (Refers ground.base) v true

    less_two : Less (record (fill (over X g Closed) (r + 1) (X.env r) (X.same r) true) { room = true }) two
    less_two =
        let a : Label = record (fill (over X g Closed) (r + 1) (X.env r) (X.same r) true) { room = true } in
        less_by a two refl (λ q. subst (LessEntry a q (a.env q)) (ap (λ z. put X.env (r + 1) z q) (put_same l.env r (Refers ground.base))) (less_entry_refl a q (a.env q)))
        (λ q. ap (λ z. put X.same (r + 1) z q) (sym (put_same l.same r v))) (λ q z. z) (λ j. forgotten i (r + 1) X at_x g below until le j) tt fr.at.stands.nothing_passed (λ _. refl)

    unlock_object : (cell : Cell) (b : Spot) → HasThisBase cell → HasMutex around (over X g Closed) cell → Q (mark (over X g (Holds cell)) from until) (Op.Unlock (r + 1) cell b ∷ Op.Pop (r + 1) ∷ Op.Pop r ∷ []) (mark l from i)
    unlock_object cell b base h =
        let high = fr.high in
        let fits2 : IsNamed N (r + 1) ground.base = λ p m. let z = base_fits p m in let lt = z.0 in (omega (arith, lt), z.1) in
        joins (mark (over X g (Holds cell)) from until) (mark two from i) (mark l from i) (Op.Unlock (r + 1) cell b ∷ []) (Op.Pop (r + 1) ∷ Op.Pop r ∷ [])
        (does around f D N top low from (mark (over X g (Holds cell)) from until) (Op.Unlock (r + 1) cell b) (mark two from i)
        (λ in_it z. scoped_fill (ints_in around.code (Some f)) (refs_in around.code (Some f)) X (r + 1) ground.base v true in_it (λ q m. at_x.stands.full q (fits2 q m).0) (inr (at_x.stands.full v (omega (arith, copy))))
        (scoped_frame N i (r + 1) X at_x.stands (ints_in around.code (Some f)) (refs_in around.code (Some f)) z.few (few_ints i (r + 1) X at_x g below until le z.numbers)))
        (λ table pc w z next. on_unlock around f table pc (mark (over X g (Holds cell)) from until) (mark two from i) next (record { owned = fr.at.owned; scoped = z }) (r + 1) cell b refl
        (record { is = subst (λ o. r + 1 < refs_in around.code o) (sym fr.at.owned) w; empty = at_x.stands.free (r + 1) (omega arith) }) (holds_mutex X g cell cell h) (less cell base)))
        (joins (mark two from i) (mark X from i) (mark l from i) (Op.Pop (r + 1) ∷ []) (Op.Pop r ∷ [])
        (pop_at around f D N top low from i (r + 1) X at_x (omega (arith, high)) ground.base v true fits2 i)
        (pop_at around f D N top low from i r l fr.at fr.high ground.base v true base_fits i))
      where
        less : (cell : Cell) → HasThisBase cell → Less (unlocked_label (over X g (Holds cell)) (r + 1) cell) two
        less (Cell.Object q n) base = subst (λ z. Less (record (fill (over X g Closed) (r + 1) (X.env z) (X.same z) true) { room = true }) two) (sym base) less_two
        less (Cell.ObjectAt q j) base = subst (λ z. Less (record (fill (over X g Closed) (r + 1) (X.env z) (X.same z) true) { room = true }) two) (sym base) less_two
        less _ base = absurd base

  -- ---- by what is named
  module _ (i r : ℕ) (l : Label) (fr : Frame around f D y c low from i r l) (ground : Ground) (e : Element) (v : ℕ) (base_fits : IsNamed N r ground.base) (copy : v ≤ r) (copies : IsPointerCopy y c ground.pointer v) where
    abbrev Start : Target → Mark
    Start t = placed around f D y c low from t None ground e i r v l

    abbrev ints_for : Target → ℕ → Number
    ints_for t = ints_of around f D y c low from t None ground e i r l.ints

    low_ints : (t : Target) (j : ℕ) → j < i → ints_for t j ≡ l.ints j
    low_ints t j lt = ints_below around f D y c low from t None ground e i r l.ints j lt

    abbrev InIt : Target → Type 0
    InIt t = IsInFrame around f D y c low from r t

    mutex_global : (t : Target) → InIt t → MutexTyped around y c f t None ground → HasBaseAt t ground r l → has_base t ≡ false → HasMutex around (over l (ints_for t) Closed) (cell_of c.globals i r t)
    mutex_global t in_it h base none = h e i r (over l (ints_for t) Closed)
        (placed_by around f D y c low from i r l fr None ground e v base_fits copy t l (λ q lt. refl) (λ q lt. refl) fr.at.owned base in_it (λ z. absurd (false≢true (sym none ∙ z))) (ints_for t) (λ j lt. refl))

    abbrev X2 : Label
    X2 = fill l r (Refers ground.base) v true

    mutex_object : (t : Target) → InIt t → MutexTyped around y c f t None ground → HasBaseAt t ground r X2 → HasMutex around (over X2 (ints_for t) Closed) (cell_of c.globals i r t)
    mutex_object t in_it h base = h e i r (over X2 (ints_for t) Closed) (placed_by around f D y c low from i r l fr None ground e v base_fits copy t X2 (env_base around f D y c low from i r l fr None ground e v base_fits copy) (same_base around f D y c low from i r l fr None ground e v base_fits copy) fr.at.owned base in_it
        (λ _. copy_base around f D y c low from i r l fr None ground e v base_fits copy copies) (ints_for t) (λ j lt. refl))

    base_is : (X2.env r ≡ Refers ground.base) × (X2.known r ≡ true)
    base_is = is_base around f D y c low from i r l fr None ground e v base_fits copy

    module _ (a b d : Spot) where
      locked_in : (t : Target) → InIt t → is_cell t ≡ true → MutexTyped around y c f t None ground → Q (Start t) (Op.ChkNotHeld (cell_of c.globals i r t) a ∷ Op.ChkRoom b ∷ Op.Lock (cell_of c.globals i r t) d ∷ []) (mark l from i)
      locked_in (variable x) in_it is h = absurd (false≢true is)
      locked_in (in_global g n) in_it is h =
          let m = mutex_global (in_global g n) in_it h tt refl in
          joins (Start (in_global g n)) (mark (roomy (over l l.ints Closed)) from (i + 0)) (mark l from i) (Op.ChkNotHeld _ a ∷ Op.ChkRoom b ∷ []) (Op.Lock _ d ∷ [])
          (ready_at i r l fr.at l.ints (λ j lt. refl) (i + 0) (omega arith) _ a b m) (lock_global i r l fr.at l.ints (λ j lt. refl) (i + 0) (omega arith) _ d tt m)
      locked_in (in_global_at g n) in_it is h =
          let t = in_global_at g n in
          let m = mutex_global t in_it h tt refl in
          joins (Start t) (mark (roomy (over l (ints_for t) Closed)) from (i + 1)) (mark l from i) (Op.ChkNotHeld _ a ∷ Op.ChkRoom b ∷ []) (Op.Lock _ d ∷ [])
          (ready_at i r l fr.at (ints_for t) (low_ints t) (i + 1) (omega arith) _ a b m) (lock_global i r l fr.at (ints_for t) (low_ints t) (i + 1) (omega arith) _ d tt m)
      locked_in (in_object n) in_it is h =
          let t = in_object n in
          let m = mutex_object t in_it h base_is in
          let at2 = at_base around f D y c low from i r l fr None ground e v base_fits copy in
          joins (Start t) (mark (roomy (over X2 l.ints Closed)) from (i + 0)) (mark l from i) (Op.ChkNotHeld _ a ∷ Op.ChkRoom b ∷ []) (Op.Lock _ d ∷ [])
          (ready_at i (r + 1) X2 at2 l.ints (λ j lt. refl) (i + 0) (omega arith) _ a b m) (lock_object i r l fr ground e v base_fits copy l.ints (λ j lt. refl) (i + 0) (omega arith) _ d refl m)
      locked_in (in_object_at n) in_it is h =
          let t = in_object_at n in
          let m = mutex_object t in_it h base_is in
          let at2 = at_base around f D y c low from i r l fr None ground e v base_fits copy in
          joins (Start t) (mark (roomy (over X2 (ints_for t) Closed)) from (i + 1)) (mark l from i) (Op.ChkNotHeld _ a ∷ Op.ChkRoom b ∷ []) (Op.Lock _ d ∷ [])
          (ready_at i (r + 1) X2 at2 (ints_for t) (low_ints t) (i + 1) (omega arith) _ a b m) (lock_object i r l fr ground e v base_fits copy (ints_for t) (low_ints t) (i + 1) (omega arith) _ d refl m)

      pub locked_at : (t : Target) → is_cell t ≡ true → MutexTyped around y c f t None ground → Q (Start t) (Op.ChkNotHeld (cell_of c.globals i r t) a ∷ Op.ChkRoom b ∷ Op.Lock (cell_of c.globals i r t) d ∷ []) (mark l from i)
      locked_at t is h = framed around f D y c low from i r l fr None ground e v base_fits copy t (Start t) (mark l from i) (Op.ChkNotHeld (cell_of c.globals i r t) a ∷ Op.ChkRoom b ∷ Op.Lock (cell_of c.globals i r t) d ∷ []) (λ q lt. refl) (λ k. locked_in t k is h)

      unlocked_in : (t : Target) → InIt t → is_cell t ≡ true → MutexTyped around y c f t None ground → Q (Start t) (Op.ChkHeld (cell_of c.globals i r t) a ∷ Op.Unlock (r + base_width t) (cell_of c.globals i r t) b ∷ unlocked_code r t) (mark l from i)
      unlocked_in (variable x) in_it is h = absurd (false≢true is)
      unlocked_in (in_global g n) in_it is h =
          let t = in_global g n in
          let m = mutex_global t in_it h tt refl in
          joins (Start t) (mark (over l l.ints (Holds (cell_of c.globals i r t))) from (i + 0)) (mark l from i) (Op.ChkHeld _ a ∷ []) (Op.Unlock (r + 0) _ b ∷ [])
          (held_at i r l fr.at l.ints (λ j lt. refl) (i + 0) (omega arith) _ a m) (unlock_global i r l fr.at l.ints (λ j lt. refl) (i + 0) (omega arith) _ b (r + 0) (omega arith) tt m)
      unlocked_in (in_global_at g n) in_it is h =
          let t = in_global_at g n in
          let m = mutex_global t in_it h tt refl in
          joins (Start t) (mark (over l (ints_for t) (Holds (cell_of c.globals i r t))) from (i + 1)) (mark l from i) (Op.ChkHeld _ a ∷ []) (Op.Unlock (r + 0) _ b ∷ [])
          (held_at i r l fr.at (ints_for t) (low_ints t) (i + 1) (omega arith) _ a m) (unlock_global i r l fr.at (ints_for t) (low_ints t) (i + 1) (omega arith) _ b (r + 0) (omega arith) tt m)
      unlocked_in (in_object n) in_it is h =
          let t = in_object n in
          let m = mutex_object t in_it h base_is in
          let at2 = at_base around f D y c low from i r l fr None ground e v base_fits copy in
          joins (Start t) (mark (over X2 l.ints (Holds (cell_of c.globals i r t))) from (i + 0)) (mark l from i) (Op.ChkHeld _ a ∷ []) (Op.Unlock (r + 1) _ b ∷ Op.Pop (r + 1) ∷ Op.Pop r ∷ [])
          (held_at i (r + 1) X2 at2 l.ints (λ j lt. refl) (i + 0) (omega arith) _ a m) (unlock_object i r l fr ground e v base_fits copy l.ints (λ j lt. refl) (i + 0) (omega arith) _ b refl m)
      unlocked_in (in_object_at n) in_it is h =
          let t = in_object_at n in
          let m = mutex_object t in_it h base_is in
          let at2 = at_base around f D y c low from i r l fr None ground e v base_fits copy in
          joins (Start t) (mark (over X2 (ints_for t) (Holds (cell_of c.globals i r t))) from (i + 1)) (mark l from i) (Op.ChkHeld _ a ∷ []) (Op.Unlock (r + 1) _ b ∷ Op.Pop (r + 1) ∷ Op.Pop r ∷ [])
          (held_at i (r + 1) X2 at2 (ints_for t) (low_ints t) (i + 1) (omega arith) _ a m) (unlock_object i r l fr ground e v base_fits copy (ints_for t) (low_ints t) (i + 1) (omega arith) _ b refl m)

      pub unlocked_at : (t : Target) → is_cell t ≡ true → MutexTyped around y c f t None ground → Q (Start t) (Op.ChkHeld (cell_of c.globals i r t) a ∷ Op.Unlock (r + base_width t) (cell_of c.globals i r t) b ∷ unlocked_code r t) (mark l from i)
      unlocked_at t is h = framed around f D y c low from i r l fr None ground e v base_fits copy t (Start t) (mark l from i) (Op.ChkHeld (cell_of c.globals i r t) a ∷ Op.Unlock (r + base_width t) (cell_of c.globals i r t) b ∷ unlocked_code r t) (λ q lt. refl) (λ k. unlocked_in t k is h)
