-- Which cell a place is, what a held log says of the mutexes that are held, and which registers hold the same.
use Rattle.sharc_history_laws.proofs.{Imports.{◌≡◌, ℕ, ℤ, pos, zero, suc, ◌+◌, ◌*◌, ◌<◌, ◌≤◌, ◌≢◌, ◌⊎◌, inl, inr, true, false, not, cond, List, [], ◌∷◌, ◌++◌, Option, Some, None, is_some, if◌then◌else◌, refl, sym, ap, ◌∙◌, subst, ⊎_elim, arith, eqb-true, cases_eq, cases_lt, nat_tests, nat_lt, ◌==◌, slice_index_or, All, CellAt, Object, CellMode, HeldMutex, without, object_of, Code, Cell, Shape, Fits, first_cell, words_of, cell_of, cell_word, Machine, ref, int, place, object, word, IsInGlobal, Global, cell_at, made_cell, no_global, IsThere, IsApart, Targets, cells_of, Element, Named, Nth, OfElementCell, OfGlobal, Labels, SameReference, Itself, IsCopy, HasCopy, Copies, Chained, IsWellTyped, RegisterOf, World, State, NumberStands, ElementStands, OnHold, types_at, IsOn, is_below, Contains, lt_of_le-ne}, TurnAt.thread_at, Stands.{top, reads_ref, rn}, Lists.Newest, Holding.holds_in}

-- ---- entries of a log
abbrev pub IsIn : HeldMutex → List HeldMutex → Type 0
IsIn h [] = ⊥
IsIn h (k ∷ log) = (k ≡ h) ⊎ IsIn h log

pub all_in : (P : HeldMutex → Type 0) (log : List HeldMutex) (h : HeldMutex) → All P log → IsIn h log → P h
all_in P [] h all is = absurd is
all_in P (k ∷ log) h all is = ⊎_elim
    (λ (e : k ≡ h). subst P e (all 0 k (omega arith)))
    (λ rest. all_in P log h (λ j d lt. all (suc j) d (omega arith)) rest)
    is

pub held_in : (log : List HeldMutex) (word : ℕ) → is_some (object_of log word) ≡ true → (h : HeldMutex) × IsIn h log × (h.word ≡ word)
held_in [] word e = absurd (let f : false ≡ true = e in cc)
held_in (k ∷ log) word e = elim (k.word == word) as (λ b. (k.word == word) ≡ b → is_some (if b then Some k.object else object_of log word) ≡ true → (h : HeldMutex) × IsIn h (k ∷ log) × (h.word ≡ word)) [
  | true ↦ λ q z. (k, inl refl, eqb-true k.word word q)
  | false ↦ λ q z. let r = held_in log word z in (r.0, inr r.1, r.2)
] refl e

pub in_append : (log : List HeldMutex) (k h : HeldMutex) → IsIn h (log ++ k ∷ []) → IsIn h log ⊎ (h ≡ k)
in_append [] k h is = ⊎_elim (λ (e : k ≡ h). inr (sym e)) (λ z. absurd z) is
in_append (y ∷ log) k h is = ⊎_elim (λ (e : y ≡ h). inl (inl e)) (λ rest. ⊎_elim (λ z. inl (inr z)) (λ z. inr z) (in_append log k h rest)) is

pub in_without : (log : List HeldMutex) (word : ℕ) (h : HeldMutex) → IsIn h (without log word) → IsIn h log × (h.word ≡ word → ⊥)
in_without [] word h is = absurd is
in_without (k ∷ log) word h is = elim (k.word == word) as (λ b. (k.word == word) ≡ b → IsIn h (cond (not b) (k ∷ without log word) (without log word)) → IsIn h (k ∷ log) × (h.word ≡ word → ⊥)) [
  | true ↦ λ q z. let r = in_without log word h z in (inr r.0, r.1)
  | false ↦ λ q z. ⊎_elim
      (λ (e : k ≡ h). (inl e, λ w. let f : (k.word == word) ≡ true = ap (λ (k : HeldMutex). k.word == word) e ∙ (let y : h.word ≡ word = w in (grind (arith, nat_tests))) in let g : true ≡ false = sym f ∙ q in cc))
      (λ rest. let r = in_without log word h rest in (inr r.0, r.1))
      z
] refl is

-- ---- cells as the log has them: the number of the object, and the place counted from granule 0
abbrev pub NamesIn : Code → Object → ℕ → ℕ → ℕ → Type 0
NamesIn code (Object.Made n) cell o at = (n ≡ o) × (o ≢ 0) × (at ≡ cell_of n cell)
NamesIn code (Object.Global g) cell o at = (o ≡ 0) × IsInGlobal code.globals.items g at × (at ≡ 2 * (slice_index_or code.globals.items g no_global).granule + cell)

abbrev pub Names : Code → CellAt → ℕ → ℕ → Type 0
Names code c o at = NamesIn code c.object c.cell o at

module _ (x : Targets) (code : Code) (ls : Labels) (wt : IsWellTyped x code ls) where
  one_global : (g h at : ℕ) → IsInGlobal code.globals.items g at → IsInGlobal code.globals.items h at → g ≡ h
  one_global g h at a b = ⊎_elim
      (λ (e : g ≡ h). e)
      (λ (ne : g ≡ h → ⊥). ⊎_elim
      (λ (lt : g < h). let z = wt.globals.apart g h lt b.known in let p = a.high in let q = b.low in absurd (omega arith))
      (λ (ge : h ≤ g). let z = wt.globals.apart h g (lt_of_le-ne ge (λ e. ne (sym e))) a.known in let p = b.high in let q = a.low in absurd (omega arith))
      (cases_lt g h))
      (cases_eq g h)

  -- no two cells are named so
  one_in : (a b : Object) (i j o at : ℕ) → NamesIn code a i o at → NamesIn code b j o at → (a ≡ b) × (i ≡ j)
  one_in (Object.Made n) (Object.Made k) i j o at p q = let e : n ≡ k = p.0 ∙ sym q.0 in let r = p.2 in let u = q.2 in (ap Object.Made e, omega arith)
  one_in (Object.Global g) (Object.Global h) i j o at p q =
      let e = one_global g h at p.1 q.1 in
      let r = p.2 in let u = q.2 in
      let same : (slice_index_or code.globals.items g no_global).granule ≡ (slice_index_or code.globals.items h no_global).granule = ap (λ g. (slice_index_or code.globals.items g no_global).granule) e in
      (ap Object.Global e, omega arith)
  one_in (Object.Made n) (Object.Global h) i j o at p q = absurd (p.1 q.0)
  one_in (Object.Global g) (Object.Made k) i j o at p q = absurd (q.1 p.0)

  pub names_one : (c d : CellAt) (o at : ℕ) → Names code c o at → Names code d o at → c ≡ d
  names_one c d o at p q = let e = one_in c.object d.object c.cell d.cell o at p q in let a = e.0 in let b = e.1 in λ i. record { object = a i; cell = b i }

-- a cell has one place
pub one_place : (code : Code) (a : Object) (i o p at from : ℕ) → NamesIn code a i o at → NamesIn code a i p from → at ≡ from
one_place code (Object.Made n) i o p at from h k = h.2 ∙ sym k.2
one_place code (Object.Global g) i o p at from h k = h.2 ∙ sym k.2

pub some_ref : (n : ℕ) → 0 < n → n ≢ 0
some_ref n lt e = omega arith

-- the cell that an instruction names
pub names_cell : (code : Code) (m : Machine) (c : Cell) → IsThere code m c → Names code (cell_at code m c) (object m c) (place m c)
names_cell code m (Cell.Global g p) there = (refl, there, (let low = there.low in omega arith))
names_cell code m (Cell.GlobalAt g r) there = (refl, there, (let low = there.low in omega arith))
names_cell code m (Cell.Object r p) there = (refl, some_ref (ref m r) there, refl)
names_cell code m (Cell.ObjectAt r i) there = (refl, some_ref (ref m r) there, refl)

pub contains : (log : List HeldMutex) (b : HeldMutex) → IsIn b log → Contains log b
contains [] b is = absurd is
contains (y ∷ log) b is = ⊎_elim (λ (e : y ≡ b). (0, omega arith, e)) (λ rest. let k = contains log b rest in let lt = k.1 in (suc k.0, omega arith, k.2)) is

-- ---- what the log says of the events
abbrev pub LogTold : Code → Shape → Newest → ℕ → List HeldMutex → Type 0
LogTold code s L t log = (h : HeldMutex) → IsIn h log → (c : CellAt) (at : ℕ) → h.word ≡ first_cell s + at → Names code c h.object at → holds_in L t c ≡ true

-- a mutex that the log has is held
pub held_told : (code : Code) (s : Shape) (L : Newest) (t : ℕ) (log : List HeldMutex) (o at : ℕ) (c : CellAt) → LogTold code s L t log → IsApart s log o at → is_some (object_of log (cell_word s at)) ≡ true → Names code c o at → holds_in L t c ≡ true
held_told code s L t log o at c told apart held names =
    let h = held_in log (cell_word s at) held in
    let e : nat_lt (first_cell s + at) (words_of s) ≡ true = is_below (first_cell s + at) (words_of s) apart.inside in
    let w : h.0.word ≡ first_cell s + at = h.2 ∙ ap (λ b. if b then first_cell s + at else 0) e in
    let same : h.0.object ≡ o = all_in (λ h. h.word ≡ first_cell s + at → h.object ≡ o) log h.0 apart.apart h.1 w in
    told h.0 h.1 c at w (subst (λ o. Names code c o at) (sym same) names)

-- ---- the mutex that a mode names
pub element_one : (names : ℕ → ℤ) (n k : ℕ) (e : Element) → ElementStands names n e → ElementStands names k e → n ≡ k
element_one names n k (Named name) a b = let e : pos n ≡ pos k = sym a ∙ b in cc
element_one names n k (Nth i) a b = a ∙ sym b

pub through_is : (n j : ℕ) (mutex : CellAt) → Rattle.sharc_code.specs.Says.lock_through n j ≡ Some mutex → (mutex ≡ made_cell n j) × (n ≢ 0)
through_is zero j mutex e = absurd (let f : None ≡ Some mutex = e in cc)
through_is (suc n) j mutex e = ((let f : made_cell (suc n) j ≡ mutex = cc in sym f), λ z. omega arith)

pub some_eq : (a b : CellAt) → CellMode.Locked (Some a) ≡ CellMode.Locked (Some b) → a ≡ b
some_eq a b e = cc

pub lock_eq : (a : Option CellAt) (b : CellAt) → CellMode.Locked a ≡ CellMode.Locked (Some b) → a ≡ Some b
lock_eq a b e = cc

module _ (x : Targets) (code : Code) (s : Shape) (ls : Labels) (wt : IsWellTyped x code ls) (fits : Fits code s) (g : Global Machine) (world : World) (st : State x code s ls g world) (t : ℕ) (on : IsOn g t) (hold : OnHold (g.threads t).own.stage) where
  open thread_at st t use {m, here, view, refs}

  copy_of : (r : ℕ) → refs (here.same r) ≡ refs r
  copy_of r = (top x code s ls wt fits g world st t on hold (suc r) 0).same r (omega arith)

  pub same_in : (a b : ℕ) → SameReference here a b → refs a ≡ refs b
  same_in a b (Itself e) = ap refs e
  same_in a b (IsCopy e) = sym (copy_of a) ∙ ap refs e
  same_in a b (HasCopy e) = sym (ap refs e) ∙ copy_of b
  same_in a b (Copies e) = sym (copy_of a) ∙ ap refs e ∙ copy_of b
  same_in a b (Chained c p q) = same_in a c p ∙ same_in c b q

  pub same_refs : (a b : ℕ) → SameReference here a b → ref (g.threads t) a ≡ ref (g.threads t) b
  same_refs a b h = reads_ref x code s ls wt fits g world st t on hold a ∙ same_in a b h ∙ sym (reads_ref x code s ls wt fits g world st t on hold b)

  -- what integer registers hold
  pub number_of_global : (i first count elements : ℕ) (e : Element) → here.ints i ≡ OfGlobal first count elements e → (n : ℕ) × (int (g.threads t) i ≡ pos (first + n * count)) × ElementStands (rn x code s ls wt fits g world st t on hold).names n e
  number_of_global i first count elements e q =
      let k : NumberStands x st.elements refs (types_at view m.at.refs) (rn x code s ls wt fits g world st t on hold).names (int m i) (OfGlobal first count elements e) =
      subst (NumberStands x st.elements refs (types_at view m.at.refs) (rn x code s ls wt fits g world st t on hold).names (int m i)) q ((top x code s ls wt fits g world st t on hold 0 (suc i)).numbers i (omega arith)) in
      (k.0, k.2, k.3)

  pub number_of_element : (i b field : ℕ) (e : Element) → here.ints i ≡ OfElementCell b field e → (n : ℕ) × (int (g.threads t) i ≡ pos (n * cells_of x (types_at view (g.threads t).at.refs b).target + field)) × ElementStands (rn x code s ls wt fits g world st t on hold).names n e
  number_of_element i b field e q =
      let k : NumberStands x st.elements refs (types_at view m.at.refs) (rn x code s ls wt fits g world st t on hold).names (int m i) (OfElementCell b field e) =
      subst (NumberStands x st.elements refs (types_at view m.at.refs) (rn x code s ls wt fits g world st t on hold).names (int m i)) q ((top x code s ls wt fits g world st t on hold 0 (suc i)).numbers i (omega arith)) in
      (k.0, k.2, k.3)

  -- two registers with one reference have its type
  pub same_type : (a b : ℕ) → ref (g.threads t) a ≢ 0 → ref (g.threads t) a ≡ ref (g.threads t) b → types_at view (g.threads t).at.refs a ≡ types_at view (g.threads t).at.refs b
  same_type a b nz e =
      let ra = reads_ref x code s ls wt fits g world st t on hold a in
      let rb = reads_ref x code s ls wt fits g world st t on hold b in
      let fa = st.inv.words.fits (Rattle.sharc_invariant.specs.World.In (RegisterOf t (m.at.refs + a))) (λ z. nz (ra ∙ z)) in
      let fb = st.inv.words.fits (Rattle.sharc_invariant.specs.World.In (RegisterOf t (m.at.refs + b))) (λ z. nz (e ∙ rb ∙ z)) in
      sym fa.typed ∙ ap (λ o. (world.obj o).ty) (sym ra ∙ e ∙ rb) ∙ fb.typed
