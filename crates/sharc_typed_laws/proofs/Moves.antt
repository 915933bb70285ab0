-- Operations that move references, and those of objects, locks, threads and calls, each by itself.
use Rattle.sharc_typed_laws.proofs.{Imports.{◌≡◌, ◌≢◌, ℕ, ◌+◌, ◌<◌, ◌≤◌, ◌⊎◌, Bool, true, false, List, [], ◌∷◌, length, refl, inl, inr, ⊎_elim, cond, none-some, not, Some, Cell, Op, Spot, Access, access, Know, know_next, is_straight, StaticType, Field, Mentions, cells_of, Refers, Closed, Holds, Pass, IsIn, Label, Less, EntryMentions, IsFree, fill, empty, forgets, gated, is_base, without_base, IsVacant, HasCell, IsBaseFree, IsLayout, Recasts, ints_in, refs_in, moved_copy, without_base_of, unlocked_label, PointersMadeAt, moved, with_passes, Mark, Setting, Tells, Fits, IsTypedAt, IsAtHand, IsLine, HasMutex, HasWaiters, never}, TypedAlike.{has_cell, recasts}, Preorder.less_through, Rules.{with_less, free_too}, Accesses.InFrame}

without_less : (r : ℕ) (ps : List Pass) (p : Pass) → IsIn p (without_base r ps) → IsIn p ps
without_less r [] p h = h
without_less r (q ∷ ps) p h = by (not (is_base r q.base)) (λ k. without_less r ps p k) h
  where
    by : (b : Bool) → (IsIn p (without_base r ps) → IsIn p ps) → IsIn p (cond b (q ∷ without_base r ps) (without_base r ps)) → IsIn p (q ∷ ps)
    by true next h = ⊎_elim (λ (e : q ≡ p). inl e) (λ k. inr (next k)) h
    by false next h = inr (next h)

module _ (around : Setting) (f : ℕ) (table : ℕ → Mark) (pc : ℕ) (s e : Mark) (next : Fits around.targets e (table (pc + 1))) (here : InFrame around f s) where
  abbrev t : Label
  t = (table (pc + 1)).label

  abbrev l : Label
  l = s.label

  abbrev refs : ℕ
  refs = refs_in around.code l.function

  abbrev ints : ℕ
  ints = ints_in around.code l.function

  abbrev Told : Op → Type 0
  Told o = is_straight o ≡ true → (k : Know) → Tells around.targets k s → Tells around.targets (know_next o k) e

  goes_on : (o : Op) → ((a : Access) → access o ≡ Some a → IsAtHand s a.cell) → Told o → IsTypedAt around table pc s o → IsLine around f table pc s o
  goes_on o cells told typed = record { owned = here.owned; scoped = here.scoped; typed = typed; cells = cells; tells = λ straight k h. next.tells (know_next o k) (told straight k h) }

  lesser : (a : Label) (ps qs : List Pass) → Less a e.label → ((p : Pass) → IsIn p qs → IsIn p ps) → Less (with_passes a ps) (with_passes t qs)
  lesser a ps qs h sub = with_less a t ps qs (less_through a e.label t h next.less) sub

  last : (a : Label) (ps qs : List Pass) → Less a e.label → ((p : Pass) → IsIn p qs → ⊥) → Less (with_passes a ps) (with_passes t qs)
  last a ps qs h sub = lesser a ps qs h (λ p k. absurd (sub p k))

  vacant_too : (r : ℕ) (ps : List Pass) → IsVacant around.code l r → IsVacant around.code (with_passes l ps) r
  vacant_too r ps h = record { is = h.is; empty = h.empty }

  cell_too : (c : Cell) (field : Field) (ps : List Pass) → HasCell around.targets around.code l c field → HasCell around.targets around.code (with_passes l ps) c field
  cell_too c field ps h = has_cell l l.known l.gate ps (λ r e. e) around.targets around.code c field h

  -- ---- references
  pub on_settle : (to from : ℕ) → l.gate ≡ Closed → to < refs → IsFree l to → from < refs → IsFree l from → (EntryMentions (l.env from) from → ⊥) → (to ≡ from → ⊥) → Less (moved (empty l to) to from) e.label → Told (Op.Settle to from) → IsLine around f table pc s (Op.Settle to from)
  on_settle to from closed target target_free source source_free plain apart less told = goes_on (Op.Settle to from) (λ a z. absurd (none-some a z)) told (λ dropped passes repeats jumps on. record {
    closed = closed;
    target = target;
    target_free = free_too l (passes pc) to target_free;
    source = source;
    source_free = free_too l (passes pc) from source_free;
    plain = plain;
    apart = apart;
    next = lesser (moved (empty l to) to from) (without_base from (without_base to (passes pc))) (passes (pc + 1)) less on;
  })

  pub on_move_reference : (to from : ℕ) → l.gate ≡ Closed → IsVacant around.code l to → from < refs → (to ≡ from → ⊥) → IsFree l from → (EntryMentions (l.env from) from → ⊥) → Less (fill (empty l from) to (l.env from) (moved_copy l to from) (l.known from)) e.label
      → Told (Op.MoveReference to from) → IsLine around f table pc s (Op.MoveReference to from)
  on_move_reference to from closed vacant source apart free plain less told = goes_on (Op.MoveReference to from) (λ a z. absurd (none-some a z)) told (λ dropped passes repeats jumps on.
      (closed, inr (vacant_too to (passes pc) vacant, source, apart, free_too l (passes pc) from free, plain, lesser (fill (empty l from) to (l.env from) (moved_copy l to from) (l.known from)) (without_base from (passes pc)) (passes (pc + 1)) less on)))

  -- there it is already
  pub on_stay : (r : ℕ) → l.gate ≡ Closed → Less l e.label → Told (Op.MoveReference r r) → IsLine around f table pc s (Op.MoveReference r r)
  on_stay r closed less told = goes_on (Op.MoveReference r r) (λ a z. absurd (none-some a z)) told (λ dropped passes repeats jumps on. (closed, inl (refl, lesser l (passes pc) (passes (pc + 1)) less (λ p h. without_less r (passes pc) p (on p h)))))

  pub on_take_local : (r from : ℕ) (spot : Spot) → l.gate ≡ Closed → IsVacant around.code l r → from < refs → (r ≡ from → ⊥) → IsFree l from → (EntryMentions (l.env from) from → ⊥) → Less (fill (empty l from) r (l.env from) (moved_copy l r from) (l.known from)) e.label
      → IsLine around f table pc s (Op.TakeLocal r from spot)
  on_take_local r from spot closed vacant source apart free plain less = goes_on (Op.TakeLocal r from spot) (λ a z. absurd (none-some a z)) (λ z. never z) (λ dropped passes repeats jumps on.
      (closed, vacant_too r (passes pc) vacant, source, apart, free_too l (passes pc) from free, plain, last (fill (empty l from) r (l.env from) (moved_copy l r from) (l.known from)) (without_base from (passes pc)) (passes (pc + 1)) less (λ p h. on p h)))

  -- what a block ends with: it is given up, and of what names it no type is known
  pub on_pop_named : (r : ℕ) → l.gate ≡ Closed → r < refs → Less (empty (forgets l r) r) e.label → Told (Op.Pop r) → IsLine around f table pc s (Op.Pop r)
  on_pop_named r closed ref less told = goes_on (Op.Pop r) (λ a z. absurd (none-some a z)) told (λ dropped passes repeats jumps on. (closed, ref, inr (lesser (empty (forgets l r) r) (without_base r (passes pc)) (passes (pc + 1)) less on)))

  -- ---- objects
  pub on_new : (r count size : ℕ) (spot : Spot) (type : StaticType) → l.gate ≡ Closed → IsVacant around.code l r → type.target ≢ 0 → type.target < length around.targets.rows → size ≡ cells_of around.targets type.target → 1 ≤ size → PointersMadeAt around.targets spot.site.token type.target → (Mentions type r → ⊥)
      → Less (fill l r (Refers type) r true) e.label → Told (Op.New r count size spot) → IsLine around f table pc s (Op.New r count size spot)
  on_new r count size spot type closed vacant some is_row cells few pointers other less told = goes_on (Op.New r count size spot) (λ a z. absurd (none-some a z)) told (λ dropped passes repeats jumps on.
      record {
        type = type;
        closed = closed;
        register = vacant_too r (passes pc) vacant;
        some = some;
        row = is_row;
        size = cells;
        few = few;
        pointers = pointers;
        other = other;
        next = lesser (fill l r (Refers type) r true) (passes pc) (passes (pc + 1)) less on;
      })

  pub on_free : (r layout : ℕ) (spot : Spot) (type : StaticType) → l.gate ≡ Closed → r < refs → l.known r ≡ true → IsFree l r → l.env r ≡ Refers type → IsLayout around.targets around.code layout type.target → Less (empty l r) e.label → IsLine around f table pc s (Op.Free r layout spot)
  on_free r layout spot type closed ref known free is laid less = goes_on (Op.Free r layout spot) (λ a z. absurd (none-some a z)) (λ z. never z) (λ dropped passes repeats jumps on. record {
    type = type;
    closed = closed;
    register = ref;
    known = known;
    free = free_too l (passes pc) r free;
    is = is;
    laid = laid;
    next = last (empty l r) (without_base r (without_base r (passes pc))) (passes (pc + 1)) less (λ p h. on p h);
  })

  pub on_give : (r size : ℕ) (spot : Spot) (before given : StaticType) → l.gate ≡ Closed → r < refs → l.known r ≡ true → IsFree l r → l.env r ≡ Refers before → size ≡ cells_of around.targets before.target → Recasts around.targets l r before given → (Mentions given r → ⊥)
      → Less (fill (empty l r) r (Refers given) r true) e.label → IsLine around f table pc s (Op.Give r size spot)
  on_give r size spot before given closed ref known free is cells recast other less = goes_on (Op.Give r size spot) (λ a z. absurd (none-some a z)) (λ z. never z) (λ dropped passes repeats jumps on. record {
    before = before;
    given = given;
    closed = closed;
    register = ref;
    known = known;
    free = free_too l (passes pc) r free;
    is = is;
    size = cells;
    recasts = recasts l l.known l.gate (passes pc) around.targets r before given recast;
    other = other;
    next = last (fill (empty l r) r (Refers given) r true) (without_base r (without_base r (passes pc))) (passes (pc + 1)) less (λ p h. on p h);
  })

  -- ---- locks
  pub on_held : (c : Cell) (spot : Spot) → l.gate ≡ Closed → HasMutex around l c → Less (gated l (Holds c)) e.label → Told (Op.ChkHeld c spot) → IsLine around f table pc s (Op.ChkHeld c spot)
  on_held c spot closed h less told = goes_on (Op.ChkHeld c spot) (λ a z. absurd (none-some a z)) told (λ dropped passes repeats jumps on. (closed, (h.field, cell_too c h.field (passes pc) h.has, h.mutex), lesser (gated l (Holds c)) (passes pc) (passes (pc + 1)) less on))

  pub on_not_held : (c : Cell) (spot : Spot) → l.gate ≡ Closed → HasMutex around l c → Less l e.label → Told (Op.ChkNotHeld c spot) → IsLine around f table pc s (Op.ChkNotHeld c spot)
  on_not_held c spot closed h less told = goes_on (Op.ChkNotHeld c spot) (λ a z. absurd (none-some a z)) told (λ dropped passes repeats jumps on. (closed, (h.field, cell_too c h.field (passes pc) h.has, h.mutex), lesser l (passes pc) (passes (pc + 1)) less on))

  pub on_room : (spot : Spot) → l.gate ≡ Closed → Less (record l { room = true }) e.label → Told (Op.ChkRoom spot) → IsLine around f table pc s (Op.ChkRoom spot)
  on_room spot closed less told = goes_on (Op.ChkRoom spot) (λ a z. absurd (none-some a z)) told (λ dropped passes repeats jumps on. (closed, lesser (record l { room = true }) (passes pc) (passes (pc + 1)) less on))

  base_free_too : (c : Cell) (ps : List Pass) → IsBaseFree l c → IsBaseFree (with_passes l ps) c
  base_free_too (Cell.Object r i) ps h = free_too l ps r h
  base_free_too (Cell.ObjectAt r i) ps h = free_too l ps r h
  base_free_too _ ps h = h

  pub on_lock : (c : Cell) (spot : Spot) → l.gate ≡ Closed → l.room ≡ true → HasMutex around l c → IsBaseFree l c → Less (record (without_base_of l c) { room = false }) e.label → IsLine around f table pc s (Op.Lock c spot)
  on_lock c spot closed room h free less = goes_on (Op.Lock c spot) (λ a z. absurd (none-some a z)) (λ z. never z) (λ dropped passes repeats jumps on.
      (closed, room, (h.field, cell_too c h.field (passes pc) h.has, h.mutex), base_free_too c (passes pc) free, locked c (passes pc) (passes (pc + 1)) less (λ p k. on p k)))
    where
      locked : (c : Cell) (ps qs : List Pass) → Less (record (without_base_of l c) { room = false }) e.label → ((p : Pass) → IsIn p qs → ⊥) → Less (record (without_base_of (with_passes l ps) c) { room = false }) (with_passes t qs)
      locked (Cell.Object r i) ps qs less sub = last (record (empty l r) { room = false }) (without_base r ps) qs less sub
      locked (Cell.ObjectAt r i) ps qs less sub = last (record (empty l r) { room = false }) (without_base r ps) qs less sub
      locked _ ps qs less sub = last (record l { gate = Closed; room = false }) ps qs less sub

  pub on_unlock : (r : ℕ) (c : Cell) (spot : Spot) → l.gate ≡ Holds c → IsVacant around.code l r → HasMutex around l c → Less (unlocked_label l r c) e.label → IsLine around f table pc s (Op.Unlock r c spot)
  on_unlock r c spot gate vacant h less = goes_on (Op.Unlock r c spot) (λ a z. absurd (none-some a z)) (λ z. never z) (λ dropped passes repeats jumps on.
      (gate, vacant_too r (passes pc) vacant, (h.field, cell_too c h.field (passes pc) h.has, h.mutex), unlocked c (passes pc) (passes (pc + 1)) less (λ p k. on p k)))
    where
      unlocked : (c : Cell) (ps qs : List Pass) → Less (unlocked_label l r c) e.label → ((p : Pass) → IsIn p qs → ⊥) → Less (unlocked_label (with_passes l ps) r c) (with_passes t qs)
      unlocked (Cell.Object b i) ps qs less sub = last (record (fill l r (l.env b) (l.same b) true) { room = true }) ps qs less sub
      unlocked (Cell.ObjectAt b i) ps qs less sub = last (record (fill l r (l.env b) (l.same b) true) { room = true }) ps qs less sub
      unlocked _ ps qs less sub = last (record l { gate = Closed; room = true }) ps qs less sub

  -- ---- condition variables
  pub on_cond_enter : (c : Cell) (spot : Spot) → (l.gate ≡ Closed) ⊎ ((m : Cell) × (l.gate ≡ Holds m)) → HasWaiters around l c → Less l e.label → IsLine around f table pc s (Op.CondEnter c spot)
  on_cond_enter c spot gate h less = goes_on (Op.CondEnter c spot) (λ a z. absurd (none-some a z)) (λ z. never z) (λ dropped passes repeats jumps on. (gate, (h.field, cell_too c h.field (passes pc) h.has, h.waiters), last l (passes pc) (passes (pc + 1)) less (λ p k. on p k)))

  pub on_cond_wait : (c : Cell) (spot : Spot) → l.gate ≡ Closed → HasWaiters around l c → Less l e.label → IsLine around f table pc s (Op.CondWait c spot)
  on_cond_wait c spot gate h less = goes_on (Op.CondWait c spot) (λ a z. absurd (none-some a z)) (λ z. never z) (λ dropped passes repeats jumps on. (gate, (h.field, cell_too c h.field (passes pc) h.has, h.waiters), last l (passes pc) (passes (pc + 1)) less (λ p k. on p k)))

  -- a wake of one that waits, or of all: what is asked of the two is the same
  pub on_wake : (o : Op) (c : Cell) (spot : Spot) → ((a : Access) → access o ≡ Some a → IsAtHand s a.cell) → (IsTypedAt around table pc s (Op.CondSignal c spot) → IsTypedAt around table pc s o) → l.gate ≡ Closed → HasWaiters around l c → Less l e.label → Told o → IsLine around f table pc s o
  on_wake o c spot cells same gate h less told = goes_on o cells told (same (λ dropped passes repeats jumps on. (gate, (h.field, cell_too c h.field (passes pc) h.has, h.waiters), lesser l (passes pc) (passes (pc + 1)) less on)))
