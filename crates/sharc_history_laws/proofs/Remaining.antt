-- What remains of checks in shadow words, access tables and stops: why a bit and the written bit stand.
use Rattle.sharc_history_laws.proofs.{Imports.{◌≡◌, ℕ, suc, ◌+◌, ◌*◌, ◌/◌, ◌<◌, ◌≤◌, ◌⊎◌, inl, inr, Bool, true, false, not, Option, Some, None, is_some, if◌then◌else◌, refl, sym, ap, ◌∙◌, subst, ⊎_elim, arith, cases_eq, or_right, not_true as unset, slice_index, ◌==◌, Kind, Read, Write, Note, note_of, site_at, conflicts_in, ShadowLaws, epoch_of, is_write, is_written, stands, AddsAccess, Conflicts, WithdrawsWord, Code, Cell, Instr, Shape, ConflictAt, Conflict, Fits, granules, first_shadow, granule_at, granule_of, Machine, instr_at, place, wrote, stopped, with_own, ThreadLaws, check_of, Turn, Global, MayTurn, after_turn, state_now, one_thread, bounds, Touch, Untouched, CheckOf, ClearOf, WithdrawOf, Passed, Labels, CellsAreThere, touch_at, State, StageStands, OnHold, object_of_cell, number_in, IsWellTyped, Fine, HasCell, Targets, Field, note_number, noted_by, World, same_is, ne_of, eq_of, and_left, or_split as or_cases, yes, and_right, and_from as and_both, not_from_false as not_no, not_yes, put_other, at_low}, TurnAt.{turn_at, turn_stands}, Doing.{Does, Plain, Passes, Refuses, IsCheckAt, IsNoCheck, site_still, site_new, note_from, does}, Shadows.{IsNext, WordBy, word_by}, Single.{rests_hold, single_check}, Stands.there, Withdrawing.{has_left, Noted, leaving}, Threaded.or_left}
use Rattle.sharc_heap.specs.ShadowWord.{is_of}
use Rattle.sharc_code.specs.Machine as machines

-- ---- what remains
abbrev pub word_at : Global Machine → ℕ → ℕ
word_at g p = slice_index g.words (first_shadow + p)

-- the site of the thread's note of this granule and kind, if it is of the word's epoch
abbrev pub site_now : Global Machine → (k p : ℕ) → Kind → Option ℕ
site_now g k p kind = site_at (note_of (g.threads k).own.table p kind) (epoch_of (word_at g p))

-- the thread was stopped at a check of the granule, in the word's epoch
pub record StoppedAt (g : Global Machine) (k p : ℕ) (d : ConflictAt) : Type 0 where
  pub is : (g.threads k).own.stop ≡ Some (Conflict d)
  pub granule : d.granule ≡ p
  pub epoch : d.epoch ≡ epoch_of (word_at g p)

-- why its bit stands
pub data Reason (g : Global Machine) (k p : ℕ) : Type 0 where
  ByNote : (kind : Kind) (z : ℕ) → site_now g k p kind ≡ Some z → Reason g k p
  ByStop : (d : ConflictAt) → StoppedAt g k p d → Reason g k p

-- a write that was refused where the written bit did not stand
pub record IsFirst (d : ConflictAt) : Type 0 where
  pub kind : d.kind ≡ Write
  pub old : is_written d.old ≡ false

-- why the written bit stands
pub data Writes (g : Global Machine) (k p : ℕ) : Type 0 where
  NotedWrite : (z : ℕ) → site_now g k p Write ≡ Some z → Writes g k p
  FirstRefused : (d : ConflictAt) → StoppedAt g k p d → IsFirst d → Writes g k p

pub record Written (g : Global Machine) (p : ℕ) : Type 0 where
  pub thread : ℕ
  pub bit : stands (word_at g p) thread ≡ true
  pub why : Writes g thread p

pub record Remains (s : Shape) (g : Global Machine) : Type 0 where
  pub low_note : (k p : ℕ) (kind : Kind) (n : Note) → p < granules s → note_of (g.threads k).own.table p kind ≡ Some n → n.epoch ≤ epoch_of (word_at g p)
  pub low_stop : (k : ℕ) (d : ConflictAt) → (g.threads k).own.stop ≡ Some (Conflict d) → (d.granule < granules s) × (d.epoch ≤ epoch_of (word_at g d.granule))
  pub stop_bit : (k p : ℕ) (d : ConflictAt) → StoppedAt g k p d → stands (word_at g p) k ≡ true
  pub reason : (k p : ℕ) → p < granules s → stands (word_at g p) k ≡ true → Reason g k p
  pub written : (p : ℕ) → p < granules s → is_written (word_at g p) ≡ true → Written g p
  -- after a first refused write the written bit stands on, and no thread that has passed a check of a write is there
  pub first : (k p : ℕ) (d : ConflictAt) → StoppedAt g k p d → IsFirst d → (is_written (word_at g p) ≡ true) × ((u : ℕ) → noted_by (g.threads u) Write p ≡ suc (epoch_of (word_at g p)) → ⊥)
  pub left : (k p : ℕ) → p < granules s → stands (word_at g p) k ≡ true → has_left (g.threads k) p ≡ false

-- ---- notes
pub some_site : (o : Option Note) (e z : ℕ) → site_at o e ≡ Some z → (n : Note) × (o ≡ Some n) × (n.epoch ≡ e)
some_site None e z h = absurd (let f : None ≡ Some z = h in cc)
some_site (Some n) e z h = elim (n.epoch == e) as (λ b. (n.epoch == e) ≡ b → (if b then Some n.site else None) ≡ Some z → (k : Note) × (Some n ≡ Some k) × (k.epoch ≡ e)) [
  | true ↦ λ q _. (n, refl, eq_of n.epoch e q)
  | false ↦ λ _ q. absurd (let f : None ≡ Some z = q in cc)
] refl h

number_some : (o : Option Note) (e : ℕ) → note_number o ≡ suc e → (n : Note) × (o ≡ Some n) × (n.epoch ≡ e)
number_some None e h = absurd (omega (arith, h))
number_some (Some n) e h = (n, refl, (let z : n.epoch ≡ e = omega (arith, h) in z))

pub wrote_is : (m : Machine) (p v z : ℕ) → site_at (note_of m.own.table p Write) (epoch_of v) ≡ Some z → is_of (wrote m p v) (epoch_of v) ≡ true
wrote_is m p v z e = ap (λ o. is_of (if is_some o then Some (epoch_of v) else None) (epoch_of v)) e ∙ same_is (epoch_of v)

wrote_site : (m : Machine) (p v : ℕ) → is_of (wrote m p v) (epoch_of v) ≡ true → (z : ℕ) × (site_at (note_of m.own.table p Write) (epoch_of v) ≡ Some z)
wrote_site m p v h = by (site_at (note_of m.own.table p Write) (epoch_of v)) refl
  where
    by : (o : Option ℕ) → site_at (note_of m.own.table p Write) (epoch_of v) ≡ o → (z : ℕ) × (site_at (note_of m.own.table p Write) (epoch_of v) ≡ Some z)
    by (Some z) e = (z, e)
    by None e = absurd (yes (sym h ∙ ap (λ o. is_of (if is_some o then Some (epoch_of v) else None) (epoch_of v)) e))

-- ---- one turn
-- what became of a word
data Became (touch : Touch) (t p old new : ℕ) (w : Option ℕ) : Type 0 where
  Same : new ≡ old → (touch ≡ WithdrawOf p → ⊥) → Became touch t p old new w
  Checked : (kind : Kind) (ok : Bool) → touch ≡ CheckOf kind p ok → AddsAccess old new t kind → Became touch t p old new w
  Cleared : IsNext old new → Became touch t p old new w
  Withdrew : touch ≡ WithdrawOf p → WithdrawsWord old new t w → Became touch t p old new w

became : (touch : Touch) (t p old new : ℕ) (w : Option ℕ) → WordBy touch t p old new w → Became touch t p old new w
became Untouched t p old new w h = Same h (λ e. cc)
became (CheckOf kind q ok) t p old new w h = ⊎_elim (λ (e : p ≡ q). Checked kind ok (ap (λ q. CheckOf kind q ok) (sym e)) (h.0 e)) (λ ne. Same (h.1 ne) (λ e. cc)) (cases_eq p q)
became (ClearOf q) t p old new w h = ⊎_elim (λ (e : p ≡ q). Cleared (h.0 e)) (λ ne. Same (h.1 ne) (λ e. cc)) (cases_eq p q)
became (WithdrawOf q) t p old new w h = ⊎_elim (λ (e : p ≡ q). Withdrew (ap WithdrawOf (sym e)) (h.0 e)) (λ ne. Same (h.1 ne) (λ e. ne (let f : q ≡ p = cc in sym f))) (cases_eq p q)

module _ (turns : ThreadLaws) (laws : ShadowLaws) (cell_laws : CellsAreThere) (x : Targets) (code : Code) (s : Shape) (ls : Labels) (wt : IsWellTyped x code ls) (fits : Fits code s) (g : Global Machine) (world : World) (st : State x code s ls g world) (tr : Turn)
    (may : MayTurn bounds (one_thread code s) g tr) (fresh : (g.threads tr.thread).own.stop ≡ None) (h : Remains s g) where
  open turn_at code s g tr use {t, m, i, g', m'}

  abbrev old_at : ℕ → ℕ
  old_at p = word_at g p

  abbrev new_at : ℕ → ℕ
  new_at p = word_at g' p

  abbrev touch : Touch
  touch = touch_at code s g tr

  abbrev DoesIt : Type 0
  DoesIt = Does s (λ q. slice_index g.words (first_shadow + q)) m i touch m'

  did : DoesIt
  did = does turns.outcomes code s g tr may fresh

  open turn_stands wt st tr may use {on, number}

  word : (p : ℕ) → p < granules s → Became touch tr.thread p (old_at p) (new_at p) (wrote (g.threads tr.thread) p (old_at p))
  word p lt = became touch t p (old_at p) (new_at p) (wrote m p (old_at p)) (word_by turns.aims laws x code s ls wt fits g world st tr may p lt)

  -- the other threads are as they were
  others : (k : ℕ) → (k ≡ tr.thread → ⊥) → g'.threads k ≡ g.threads k
  others k ne = put_other g.threads t k (state_now (one_thread code s) g tr) ne

  each : (P : ℕ → Machine → Type 0) → P tr.thread m' → ((k : ℕ) → (k ≡ tr.thread → ⊥) → P k (g.threads k)) → (k : ℕ) → P k (g'.threads k)
  each P here there k = ⊎_elim
      (λ (e : k ≡ t). subst (λ k. P k (g'.threads k)) (sym e) here)
      (λ (ne : k ≡ t → ⊥). subst (P k) (sym (others k ne)) (there k ne))
      (cases_eq k t)

  grows : (p : ℕ) → p < granules s → epoch_of (old_at p) ≤ epoch_of (new_at p)
  grows p lt = by (word p lt)
    where
      by : Became touch tr.thread p (old_at p) (new_at p) (wrote (g.threads tr.thread) p (old_at p)) → epoch_of (old_at p) ≤ epoch_of (new_at p)
      by (Same e ne) = let a = ap epoch_of e in omega (arith, a)
      by (Checked kind ok e a) = let b = a.epoch in omega (arith, b)
      by (Cleared a) = let b = a.epoch in omega (arith, b)
      by (Withdrew e a) = let b = a.epoch in omega (arith, b)

  -- ---- notes and stops
  pub stop_is : (d : ConflictAt) → m'.own.stop ≡ Some (Conflict d) → (kind : Kind) × (q : ℕ) × (site : ℕ) × IsCheckAt s m i kind q site × (touch ≡ CheckOf kind q false) × (d ≡ record { kind = kind; site = site; granule = q; epoch = epoch_of (old_at q); old = old_at q })
      × (conflicts_in (old_at q) m.own.number kind (wrote m q (old_at q)) ≡ true) × (m' ≡ stopped m (Conflict record { kind = kind; site = site; granule = q; epoch = epoch_of (old_at q); old = old_at q }))
  stop_is d e = by did
    where
      same : (c : ConflictAt) (y : Machine) → y.own.stop ≡ Some (Conflict c) → m' ≡ y → d ≡ c
      same c y a b = let f : Some (Conflict d) ≡ Some (Conflict c) = sym e ∙ ap (λ (y : Machine). y.own.stop) b ∙ a in cc

      none : (y : Machine) → y.own.stop ≡ None → m' ≡ y → ⊥
      none y a b = let f : Some (Conflict d) ≡ None = sym e ∙ ap (λ (y : Machine). y.own.stop) b ∙ a in cc

      by : DoesIt → (kind : Kind) × (q : ℕ) × (site : ℕ) × IsCheckAt s m i kind q site × (touch ≡ CheckOf kind q false) × (d ≡ record { kind = kind; site = site; granule = q; epoch = epoch_of (old_at q); old = old_at q })
          × (conflicts_in (old_at q) m.own.number kind (wrote m q (old_at q)) ≡ true) × (m' ≡ stopped m (Conflict record { kind = kind; site = site; granule = q; epoch = epoch_of (old_at q); old = old_at q }))
      by (Plain a b c) = absurd (c d e)
      by (Passes kind q site at a b c) = absurd (none (with_own m (machines.with_note m.own q kind (epoch_of (old_at q)) site)) (note_stop q kind (epoch_of (old_at q)) site) c)
        where
          note_stop : (q : ℕ) (kind : Kind) (e site : ℕ) → (machines.with_note (g.threads tr.thread).own q kind e site).stop ≡ None
          note_stop q kind e site = elim (is_some (site_at (note_of m.own.table q kind) e)) as (λ b. (if b then m.own else record m.own { table = Rattle.sharc_heap.specs.Functions.noted m.own.table q kind record { epoch = e; site = site } }).stop ≡ None) [ true ↦ fresh | false ↦ fresh ]
      by (Refuses kind q site at a b c) = (kind, q, site, at, a, same (record { kind = kind; site = site; granule = q; epoch = epoch_of (old_at q); old = old_at q }) _ refl c, b, c)

  -- a note of an epoch stays in it
  still : (p : ℕ) (kind : Kind) (z : ℕ) → site_now g tr.thread p kind ≡ Some z → site_at (note_of m'.own.table p kind) (epoch_of (old_at p)) ≡ Some z
  still p kind z e = by did
    where
      by : DoesIt → site_at (note_of m'.own.table p kind) (epoch_of (old_at p)) ≡ Some z
      by (Plain a b c) = ap (λ table. site_at (note_of table p kind) (epoch_of (old_at p))) b ∙ e
      by (Passes k q site at a b c) = ap (λ (y : Machine). site_at (note_of y.own.table p kind) (epoch_of (old_at p))) c
          ∙ site_still m.own q k (epoch_of (old_at q)) site p kind (epoch_of (old_at p)) z (λ same. ap (λ p. epoch_of (old_at p)) same) e
      by (Refuses k q site at a b c) = ap (λ (y : Machine). site_at (note_of y.own.table p kind) (epoch_of (old_at p))) c ∙ e

  pub still_now : (k p : ℕ) (kind : Kind) (z : ℕ) → epoch_of (new_at p) ≡ epoch_of (old_at p) → site_now g k p kind ≡ Some z → site_now g' k p kind ≡ Some z
  still_now k p kind z same e = ap (site_at (note_of (g'.threads k).own.table p kind)) same ∙ each (λ k (y : Machine). site_now g k p kind ≡ Some z → site_at (note_of y.own.table p kind) (epoch_of (old_at p)) ≡ Some z)
      (still p kind z) (λ k _ e. e) k e

  pub note_was : (p : ℕ) (kind : Kind) (n : Note) → note_of m'.own.table p kind ≡ Some n → (note_of m.own.table p kind ≡ Some n) ⊎ ((touch ≡ CheckOf kind p true) × (n.epoch ≡ epoch_of (old_at p)))
  note_was p kind n e = by did
    where
      by : DoesIt → (note_of m.own.table p kind ≡ Some n) ⊎ ((touch ≡ CheckOf kind p true) × (n.epoch ≡ epoch_of (old_at p)))
      by (Plain a b c) = inl (ap (λ table. note_of table p kind) (sym b) ∙ e)
      by (Passes k q site at a b c) = ⊎_elim
          (λ was. inl was)
          (λ now. inr (a ∙ ap (λ k. CheckOf k q true) (sym now.1.0) ∙ ap (λ q. CheckOf kind q true) (sym now.0), now.1.1 ∙ ap (λ q. epoch_of (old_at q)) (sym now.0)))
          (note_from m.own q k (epoch_of (old_at q)) site p kind n (ap (λ (y : Machine). note_of y.own.table p kind) (sym c) ∙ e))
      by (Refuses k q site at a b c) = inl (ap (λ (y : Machine). note_of y.own.table p kind) (sym c) ∙ e)

  low_note : (k p : ℕ) (kind : Kind) (n : Note) → p < granules s → note_of (g'.threads k).own.table p kind ≡ Some n → n.epoch ≤ epoch_of (new_at p)
  low_note k p kind n lt = each (λ k (y : Machine). note_of y.own.table p kind ≡ Some n → n.epoch ≤ epoch_of (new_at p))
      (λ e. let up = grows p lt in ⊎_elim
      (λ was. let a = h.low_note t p kind n lt was in omega (arith, a, up))
      (λ now. let a = now.1 in omega (arith, a, up))
      (note_was p kind n e))
      (λ k _ e. let up = grows p lt in let a = h.low_note k p kind n lt e in omega (arith, a, up)) k

  low_stop : (k : ℕ) (d : ConflictAt) → (g'.threads k).own.stop ≡ Some (Conflict d) → (d.granule < granules s) × (d.epoch ≤ epoch_of (new_at d.granule))
  low_stop k d = each (λ k (y : Machine). y.own.stop ≡ Some (Conflict d) → (d.granule < granules s) × (d.epoch ≤ epoch_of (new_at d.granule)))
      (λ e.
      let a = stop_is d e in
      let up = grows a.1 a.3.low in
      let q : d.granule ≡ a.1 = ap (λ (d : ConflictAt). d.granule) a.5 in
      let ep : d.epoch ≡ epoch_of (old_at a.1) = ap (λ (d : ConflictAt). d.epoch) a.5 in
      (subst (λ n. n < granules s) (sym q) a.3.low, subst (λ n. d.epoch ≤ epoch_of (new_at n)) (sym q) (let z : d.epoch ≤ epoch_of (new_at a.1) = omega (arith, up, ep) in z)))
      (λ k _ e. let a = h.low_stop k d e in let up = grows d.granule a.0 in let b = a.1 in (a.0, (let z : d.epoch ≤ epoch_of (new_at d.granule) = omega (arith, up, b) in z))) k

  -- a stop in the new epoch was one in the old one, or is that of this turn
  pub record StopNow (p : ℕ) (d : ConflictAt) : Type 0 where
    pub kind : Kind
    pub touched : touch ≡ CheckOf kind p false
    pub kind_is : d.kind ≡ kind
    pub old_is : d.old ≡ old_at p
    pub site : ℕ
    pub at : IsCheckAt s m i kind p site

  pub stop_was : (k p : ℕ) (d : ConflictAt) → StoppedAt g' k p d → ((k ≡ tr.thread → ⊥) × StoppedAt g k p d × (epoch_of (new_at p) ≡ epoch_of (old_at p))) ⊎ ((k ≡ tr.thread) × StopNow p d)
  stop_was k p d e = ⊎_elim
      (λ (mine : k ≡ t).
      let a = stop_is d (ap (λ k. (g'.threads k).own.stop) (sym mine) ∙ e.is) in
      let q : a.1 ≡ p = sym (ap (λ (d : ConflictAt). d.granule) a.5) ∙ e.granule in
      inr (
        mine,
        record {
          kind = a.0;
          touched = a.4 ∙ ap (λ q. CheckOf a.0 q false) q;
          kind_is = ap (λ (d : ConflictAt). d.kind) a.5;
          old_is = ap (λ (d : ConflictAt). d.old) a.5 ∙ ap old_at q;
          site = a.2;
          at = subst (λ q. IsCheckAt s m i a.0 q a.2) q a.3;
        },
      ))
      (λ (ne : k ≡ t → ⊥).
      let is : (g.threads k).own.stop ≡ Some (Conflict d) = ap (λ (y : Machine). y.own.stop) (sym (others k ne)) ∙ e.is in
      let low = h.low_stop k d is in
      let lt : p < granules s = subst (λ n. n < granules s) e.granule low.0 in
      let below : d.epoch ≤ epoch_of (old_at p) = subst (λ n. d.epoch ≤ epoch_of (old_at n)) e.granule low.1 in
      let up = grows p lt in
      let ep = e.epoch in
      let same : epoch_of (new_at p) ≡ epoch_of (old_at p) = omega (arith, below, up, ep) in
      inl (ne, record { is = is; granule = e.granule; epoch = e.epoch ∙ same }, same))
      (cases_eq k t)

  -- another thread's bit stays in the epoch
  bit_still : (k p : ℕ) → p < granules s → (k ≡ tr.thread → ⊥) → epoch_of (new_at p) ≡ epoch_of (old_at p) → stands (old_at p) k ≡ true → stands (new_at p) k ≡ true
  bit_still k p lt ne same e = by (word p lt)
    where
      by : Became touch tr.thread p (old_at p) (new_at p) (wrote (g.threads tr.thread) p (old_at p)) → stands (new_at p) k ≡ true
      by (Same q _) = ap (λ v. stands v k) q ∙ e
      by (Checked kind ok q a) = a.threads k ∙ or_left (stands (old_at p) k) (k == t) e
      by (Cleared a) = absurd (let b = a.epoch in omega (arith, b, same))
      by (Withdrew q a) = a.threads k ∙ and_both (stands (old_at p) k) (not (k == t)) e (not_no (k == t) (ne_of k t ne))

  granule_low : (k p : ℕ) (d : ConflictAt) → StoppedAt g' k p d → p < granules s
  granule_low k p d e = subst (λ n. n < granules s) e.granule ((low_stop k d e.is).0)

  pub check_bit : (kind : Kind) (p : ℕ) (ok : Bool) → p < granules s → touch ≡ CheckOf kind p ok → AddsAccess (old_at p) (new_at p) tr.thread kind
  check_bit kind p ok lt q = by (word p lt)
    where
      by : Became touch tr.thread p (old_at p) (new_at p) (wrote (g.threads tr.thread) p (old_at p)) → AddsAccess (old_at p) (new_at p) tr.thread kind
      by (Checked k b e a) = subst (AddsAccess (old_at p) (new_at p) t) (let same : k ≡ kind = cc in same) a
      by (Withdrew e a) = absurd (let f : WithdrawOf p ≡ CheckOf kind p ok = sym e ∙ q in cc)
      by (Same e ne) = again
        where
          again : AddsAccess (old_at p) (new_at p) tr.thread kind
          again = (subst (λ touch. WordBy touch t p (old_at p) (new_at p) (wrote m p (old_at p))) q (word_by turns.aims laws x code s ls wt fits g world st tr may p lt)).0 refl
      by (Cleared a) = (subst (λ touch. WordBy touch t p (old_at p) (new_at p) (wrote m p (old_at p))) q (word_by turns.aims laws x code s ls wt fits g world st tr may p lt)).0 refl

  stop_bit : (k p : ℕ) (d : ConflictAt) → StoppedAt g' k p d → stands (new_at p) k ≡ true
  stop_bit k p d e =
      let lt = granule_low k p d e in
      ⊎_elim
      (λ was. bit_still k p lt was.0 was.2 (h.stop_bit k p d was.1))
      (λ now.
      let a = check_bit now.1.kind p false lt now.1.touched in
      a.threads k ∙ or_right (stands (old_at p) k) (k == t) (ap (λ k. k == t) now.0 ∙ same_is t))
      (stop_was k p d e)

  -- ---- why bits stand
  reason_still : (k p : ℕ) → epoch_of (new_at p) ≡ epoch_of (old_at p) → Reason g k p → Reason g' k p
  reason_still k p same (ByNote kind z e) = ByNote kind z (still_now k p kind z same e)
  reason_still k p same (ByStop d e) = ⊎_elim
      (λ (mine : k ≡ t). absurd (let f : None ≡ Some (Conflict d) = sym fresh ∙ ap (λ k. (g.threads k).own.stop) (sym mine) ∙ e.is in cc))
      (λ (ne : k ≡ t → ⊥). ByStop d (record { is = ap (λ (y : Machine). y.own.stop) (others k ne) ∙ e.is; granule = e.granule; epoch = e.epoch ∙ sym same }))
      (cases_eq k t)

  -- of the thread that made the check
  mine_now : (kind : Kind) (p : ℕ) (ok : Bool) → touch ≡ CheckOf kind p ok → epoch_of (new_at p) ≡ epoch_of (old_at p) → Reason g' tr.thread p
  mine_now kind p ok q same = by did
    where
      by : DoesIt → Reason g' tr.thread p
      by (Plain a b c) = absurd (subst IsNoCheck q a)
      by (Passes k a site at b c d) =
          let e : a ≡ p = cc in
          let long : a < Rattle.std.specs.Prelude.length m.own.table.notes = subst (λ n. a < n) (sym (st.threads t).has.notes) at.low in
          let z = site_new m.own a k (epoch_of (old_at a)) site long in
          ByNote k z.0 (ap (site_at (note_of m'.own.table p k)) same ∙ ap (λ p. site_at (note_of m'.own.table p k) (epoch_of (old_at p))) (sym e) ∙ ap (λ (y : Machine). site_at (note_of y.own.table a k) (epoch_of (old_at a))) d ∙ z.1)
      by (Refuses k a site at b c d) =
          let e : a ≡ p = cc in
          ByStop (record { kind = k; site = site; granule = a; epoch = epoch_of (old_at a); old = old_at a })
          (record { is = ap (λ (y : Machine). y.own.stop) d; granule = e; epoch = ap (λ a. epoch_of (old_at a)) e ∙ sym same })

  reason : (k p : ℕ) → p < granules s → stands (new_at p) k ≡ true → Reason g' k p
  reason k p lt e = by (word p lt)
    where
      by : Became touch tr.thread p (old_at p) (new_at p) (wrote (g.threads tr.thread) p (old_at p)) → Reason g' k p
      by (Same q _) = reason_still k p (ap epoch_of q) (h.reason k p lt (ap (λ v. stands v k) (sym q) ∙ e))
      by (Checked kind ok q a) = ⊎_elim
          (λ was. reason_still k p a.epoch (h.reason k p lt was))
          (λ mine. subst (λ k. Reason g' k p) (sym (eq_of k t mine)) (mine_now kind p ok q a.epoch))
          (or_cases (stands (old_at p) k) (k == t) (sym (a.threads k) ∙ e))
      by (Cleared a) = absurd (yes (sym e ∙ a.threads k))
      by (Withdrew q a) = reason_still k p a.epoch (h.reason k p lt (and_left (stands (old_at p) k) (not (k == t)) (sym (a.threads k) ∙ e)))

  -- ---- why the written bit stands
  writes_still : (k p : ℕ) → epoch_of (new_at p) ≡ epoch_of (old_at p) → Writes g k p → Writes g' k p
  writes_still k p same (NotedWrite z e) = NotedWrite z (still_now k p Write z same e)
  writes_still k p same (FirstRefused d e f) = ⊎_elim
      (λ (mine : k ≡ t). absurd (let f : None ≡ Some (Conflict d) = sym fresh ∙ ap (λ k. (g.threads k).own.stop) (sym mine) ∙ e.is in cc))
      (λ (ne : k ≡ t → ⊥). FirstRefused d (record { is = ap (λ (y : Machine). y.own.stop) (others k ne) ∙ e.is; granule = e.granule; epoch = e.epoch ∙ sym same }) f)
      (cases_eq k t)

  written_still : (p : ℕ) → ((k : ℕ) → stands (old_at p) k ≡ true → stands (new_at p) k ≡ true) → epoch_of (new_at p) ≡ epoch_of (old_at p) → Written g p → Written g' p
  written_still p bits same w = record { thread = w.thread; bit = bits w.thread w.bit; why = writes_still w.thread p same w.why }

  same_check : (k kind : Kind) (a p : ℕ) (b ok : Bool) → CheckOf k a b ≡ CheckOf kind p ok → (k ≡ kind) × (a ≡ p)
  same_check k kind a p b ok e = ((let f : k ≡ kind = cc in f), (let f : a ≡ p = cc in f))

  -- a write check by the thread itself, which was passed or refused
  wrote_now : (p : ℕ) (ok : Bool) → p < granules s → touch ≡ CheckOf Write p ok → (a : AddsAccess (old_at p) (new_at p) tr.thread Write) → Written g' p
  wrote_now p ok lt q a = by did
    where
      bit : stands (new_at p) tr.thread ≡ true
      bit = a.threads t ∙ or_right (stands (old_at p) t) (t == t) (same_is t)

      keep : (v : ℕ) → stands (old_at p) v ≡ true → stands (new_at p) v ≡ true
      keep v e = a.threads v ∙ or_left (stands (old_at p) v) (v == t) e

      by : DoesIt → Written g' p
      by (Plain b c d) = absurd (subst IsNoCheck q b)
      by (Passes k b site at c d e) =
          let same = same_check k Write b p true ok (sym c ∙ q) in
          let long : b < Rattle.std.specs.Prelude.length m.own.table.notes = subst (λ n. b < n) (sym (st.threads t).has.notes) at.low in
          let z = site_new m.own b k (epoch_of (old_at b)) site long in
          record {
            thread = t;
            bit = bit;
            why = NotedWrite z.0 (ap (site_at (note_of m'.own.table p Write)) a.epoch ∙ ap (λ k. site_at (note_of m'.own.table p k) (epoch_of (old_at p))) (sym same.0) ∙ ap (λ p. site_at (note_of m'.own.table p k) (epoch_of (old_at p))) (sym same.1)
                ∙ ap (λ (y : Machine). site_at (note_of y.own.table b k) (epoch_of (old_at b))) e ∙ z.1);
          }
      by (Refuses k b site at c d e) =
          let same = same_check k Write b p false ok (sym c ∙ q) in
          elim (is_written (old_at p)) as (λ y. is_written (old_at p) ≡ y → Written g' p) [
            | true ↦ λ was. written_still p keep a.epoch (h.written p lt was)
            | false ↦ λ none. record {
              thread = t;
              bit = bit;
              why = FirstRefused (record { kind = k; site = site; granule = b; epoch = epoch_of (old_at b); old = old_at b })
                  (record { is = ap (λ (y : Machine). y.own.stop) e; granule = same.1; epoch = ap (λ b. epoch_of (old_at b)) same.1 ∙ sym a.epoch })
                  (record { kind = same.0; old = ap (λ b. is_written (old_at b)) same.1 ∙ none });
            }
          ] refl

  written : (p : ℕ) → p < granules s → is_written (new_at p) ≡ true → Written g' p
  written p lt e = by (word p lt)
    where
      of_kind : (kind : Kind) (ok : Bool) → touch ≡ CheckOf kind p ok → AddsAccess (old_at p) (new_at p) tr.thread kind → Written g' p
      of_kind Read ok q a = ⊎_elim
          (λ was. written_still p (λ v z. a.threads v ∙ or_left (stands (old_at p) v) (v == t) z) a.epoch (h.written p lt was))
          (λ z. absurd (yes (sym z)))
          (or_cases (is_written (old_at p)) false (sym a.written ∙ e))
      of_kind Write ok q a = wrote_now p ok lt q a

      -- the thread that withdraws had not written
      keeps : WithdrawsWord (old_at p) (new_at p) tr.thread (wrote (g.threads tr.thread) p (old_at p)) → Written g p → Written g' p
      keeps a w =
          let none : is_of (wrote m p (old_at p)) (epoch_of (old_at p)) ≡ false = not_yes (is_of (wrote m p (old_at p)) (epoch_of (old_at p))) (and_right (is_written (old_at p)) (not (is_of (wrote m p (old_at p)) (epoch_of (old_at p)))) (sym a.written ∙ e)) in
          let ne : w.thread ≡ t → ⊥ = λ mine. other mine none w.why in
          record {
            thread = w.thread;
            bit = a.threads w.thread ∙ and_both (stands (old_at p) w.thread) (not (w.thread == t)) w.bit (not_no (w.thread == t) (ne_of w.thread t ne));
            why = writes_still w.thread p a.epoch w.why;
          }
        where
          other : w.thread ≡ tr.thread → is_of (wrote (g.threads tr.thread) p (old_at p)) (epoch_of (old_at p)) ≡ false → Writes g w.thread p → ⊥
          other mine none (NotedWrite z q) = yes (sym (wrote_is m p (old_at p) z (ap (λ k. site_now g k p Write) (sym mine) ∙ q)) ∙ none)
          other mine none (FirstRefused d q f) = let y : None ≡ Some (Conflict d) = sym fresh ∙ ap (λ k. (g.threads k).own.stop) (sym mine) ∙ q.is in cc

      by : Became touch tr.thread p (old_at p) (new_at p) (wrote (g.threads tr.thread) p (old_at p)) → Written g' p
      by (Same q _) = written_still p (λ v z. ap (λ w. stands w v) q ∙ z) (ap epoch_of q) (h.written p lt (ap is_written (sym q) ∙ e))
      by (Checked kind ok q a) = of_kind kind ok q a
      by (Cleared a) = absurd (yes (sym e ∙ a.written))
      by (Withdrew q a) = keeps a (h.written p lt (and_left (is_written (old_at p)) (not (is_of (wrote m p (old_at p)) (epoch_of (old_at p)))) (sym a.written ∙ e)))

  -- ---- after a first refused write
  noted_was : (u p : ℕ) → (touch ≡ CheckOf Write p true → ⊥) → epoch_of (new_at p) ≡ epoch_of (old_at p) → noted_by (g'.threads u) Write p ≡ suc (epoch_of (new_at p)) → noted_by (g.threads u) Write p ≡ suc (epoch_of (old_at p))
  noted_was u p never same = each (λ u (y : Machine). noted_by y Write p ≡ suc (epoch_of (new_at p)) → noted_by (g.threads u) Write p ≡ suc (epoch_of (old_at p))) here (λ k _ e. e ∙ ap suc same) u
    where
      here : noted_by m' Write p ≡ suc (epoch_of (new_at p)) → noted_by m Write p ≡ suc (epoch_of (old_at p))
      here e = elim (has_left m' p) as (λ b. has_left m' p ≡ b → (if b then 0 else note_number (note_of m'.own.table p Write)) ≡ suc (epoch_of (new_at p)) → noted_by m Write p ≡ suc (epoch_of (old_at p))) [
        | true ↦ λ _ z. absurd (omega (arith, z))
        | false ↦ λ gone z.
            let n = number_some (note_of m'.own.table p Write) (epoch_of (new_at p)) z in
            let before : has_left m p ≡ false = unset (has_left m p) (λ q. yes (sym ((leaving turns.outcomes x code s ls g world st tr may).still p q) ∙ gone)) in
            ⊎_elim
            (λ (was : note_of m.own.table p Write ≡ Some n.0). ap (λ b. if b then 0 else note_number (note_of m.own.table p Write)) before ∙ ap note_number was ∙ ap suc (n.2 ∙ same))
            (λ now. absurd (never now.0))
            (note_was p Write n.0 n.1)
      ] refl e

  -- no write check passes where another thread's bit stands
  refused_write : (k p : ℕ) → (k ≡ tr.thread → ⊥) → stands (old_at p) k ≡ true → touch ≡ CheckOf Write p true → ⊥
  refused_write k p ne bit q = by did
    where
      by : DoesIt → ⊥
      by (Plain a b c) = subst IsNoCheck q a
      by (Passes kind a site at b c d) =
          let same = same_check kind Write a p true true (sym b ∙ q) in
          let free : conflicts_in (old_at p) t Write (wrote m p (old_at p)) ≡ false =
          sym (ap (λ n. conflicts_in (old_at p) n Write (wrote m p (old_at p))) number) ∙ ap (λ kind. conflicts_in (old_at p) m.own.number kind (wrote m p (old_at p))) (sym same.0) ∙ ap (λ a. conflicts_in (old_at a) m.own.number kind (wrote m a (old_at a))) (sym same.1) ∙ c in
          let other : Conflicts (old_at p) t Write (wrote m p (old_at p)) = (k, record { another = ne; stood = bit }) in
          yes (sym ((laws.conflicts (old_at p) t Write (wrote m p (old_at p))).1 other) ∙ free)
      by (Refuses kind a site at b c d) = let f : CheckOf kind a false ≡ CheckOf Write p true = sym b ∙ q in cc

  first_still : (k p : ℕ) (d : ConflictAt) → p < granules s → (k ≡ tr.thread → ⊥) → StoppedAt g k p d → IsFirst d → epoch_of (new_at p) ≡ epoch_of (old_at p) → (is_written (new_at p) ≡ true) × ((u : ℕ) → noted_by (g'.threads u) Write p ≡ suc (epoch_of (new_at p)) → ⊥)
  first_still k p d lt ne was is same =
      let f = h.first k p d was is in
      (by f.0 f.1 (word p lt), λ u e. f.1 u (noted_was u p (refused_write k p ne (h.stop_bit k p d was)) same e))
    where
      by : is_written (old_at p) ≡ true → ((u : ℕ) → noted_by (g.threads u) Write p ≡ suc (epoch_of (old_at p)) → ⊥) → Became touch tr.thread p (old_at p) (new_at p) (wrote (g.threads tr.thread) p (old_at p)) → is_written (new_at p) ≡ true
      by e none (Same q _) = ap is_written q ∙ e
      by e none (Checked kind ok q a) = a.written ∙ or_left (is_written (old_at p)) (is_write kind) e
      by e none (Cleared a) = absurd (let b = a.epoch in omega (arith, b, same))
      by e none (Withdrew q a) =
          let own : is_of (wrote m p (old_at p)) (epoch_of (old_at p)) ≡ false = unset (is_of (wrote m p (old_at p)) (epoch_of (old_at p))) (λ z.
          let site = wrote_site m p (old_at p) z in
          let n = some_site (note_of m.own.table p Write) (epoch_of (old_at p)) site.0 site.1 in
          let here : has_left m p ≡ false = (leaving turns.outcomes x code s ls g world st tr may).once p q in
          none t (ap (λ b. if b then 0 else note_number (note_of m.own.table p Write)) here ∙ ap note_number n.1 ∙ ap suc n.2)) in
          a.written ∙ and_both (is_written (old_at p)) (not (is_of (wrote m p (old_at p)) (epoch_of (old_at p)))) e (not_no (is_of (wrote m p (old_at p)) (epoch_of (old_at p))) own)

  -- the check of this turn is of a granule of a live object, whose notes are of threads that have passed checks there
  check_fine : (kind : Kind) (c : Cell) (site : ℕ) → i ≡ check_of kind c site → (f : Field) × HasCell x code (ls.at (g.threads tr.thread).at.pc) c f
  check_fine Read c site is = let f : Fine x code ls m.at.pc (ls.at m.at.pc) (Instr.ChkRead c site) = subst (Fine x code ls m.at.pc (ls.at m.at.pc)) is (wt.fine m.at.pc) in (f.1.0, f.1.1)
  check_fine Write c site is = let f : Fine x code ls m.at.pc (ls.at m.at.pc) (Instr.ChkWrite c site) = subst (Fine x code ls m.at.pc (ls.at m.at.pc)) is (wt.fine m.at.pc) in (f.1.0, f.1.1)

  check_hold : (kind : Kind) (c : Cell) (site : ℕ) → i ≡ check_of kind c site → OnHold (g.threads tr.thread).own.stage
  check_hold kind c site is = rests_hold code s st.elements world st.heap g.words t m (check_of kind c site) m.own.stage (single_check kind c site)
      (subst (λ i. StageStands code s st.elements world st.heap g.words t m i m.own.stage) is ((st.threads t).runs on.0 on.1).stage)

  pub record IsGranule (p : ℕ) : Type 0 where
    pub cell : Cell
    pub hold : OnHold (g.threads tr.thread).own.stage
    pub object : ℕ
    pub object_is : object ≡ object_of_cell (g.threads tr.thread) cell
    pub index : ℕ
    pub live : (world.obj object).live ≡ true
    pub inside : 2 * index < st.cells object
    pub is : p ≡ object + 1 + index

  pub checked_granule : (kind : Kind) (p site : ℕ) → IsCheckAt s (g.threads tr.thread) (instr_at code (g.threads tr.thread).at.pc) kind p site → IsGranule p
  checked_granule kind p site at =
      let c = at.cell in
      let f = check_fine kind c site at.is in
      let hold = check_hold kind c site at.is in
      let th = there x code s ls wt fits g world st t on hold cell_laws c f.0 f.1 in
      let o = object_of_cell m c in
      let n = number_in m c in
      let lt = th.number in
      let inside : 2 * (n / 2) < st.cells o = omega (arith, lt) in
      let within = st.apart.within o (n / 2) th.live inside in
      let half : granule_of (place m c) ≡ o + 1 + n / 2 = halves (place m c) o n th.place_is in
      record { cell = c; hold = hold; object = o; object_is = refl; index = n / 2; live = th.live; inside = inside; is = at.granule ∙ ap (granule_at s) half ∙ at_low s (o + 1 + n / 2) within }
    where
      halves : (p o n : ℕ) → p ≡ 2 * (o + 1) + n → p / 2 ≡ o + 1 + n / 2
      halves p o n e = omega arith

  noted_writes : (p : ℕ) → IsGranule p → (u : ℕ) → noted_by (g.threads u) Write p ≡ suc (epoch_of (old_at p)) → is_written (old_at p) ≡ true
  noted_writes p k u e =
      let r = st.sim.shadows k.object k.index k.live k.inside in
      let gr = world.gran k.object k.index in
      let q = k.object + 1 + k.index in
      let here : noted_by (g.threads u) Write q ≡ suc (epoch_of (old_at q)) = subst (λ p. noted_by (g.threads u) Write p ≡ suc (epoch_of (old_at p))) k.is e in
      let passed : Passed gr u true = r.write_note u ∙ here ∙ ap suc (sym r.epoch) in
      ap (λ p. is_written (old_at p)) k.is ∙ sym r.wrote ∙ (st.inv.bits k.object k.index).written u passed

  first : (k p : ℕ) (d : ConflictAt) → StoppedAt g' k p d → IsFirst d → (is_written (new_at p) ≡ true) × ((u : ℕ) → noted_by (g'.threads u) Write p ≡ suc (epoch_of (new_at p)) → ⊥)
  first k p d e is =
      let lt = granule_low k p d e in
      ⊎_elim
      (λ was. first_still k p d lt was.0 was.1 is was.2)
      (λ now.
      let kind : now.1.kind ≡ Write = sym now.1.kind_is ∙ is.kind in
      let touched : touch ≡ CheckOf Write p false = now.1.touched ∙ ap (λ k. CheckOf k p false) kind in
      let a = check_bit Write p false lt touched in
      let never : touch ≡ CheckOf Write p true → ⊥ = λ q. let f : CheckOf Write p false ≡ CheckOf Write p true = sym touched ∙ q in cc in (
        a.written ∙ or_right (is_written (old_at p)) (is_write Write) refl,
        λ u n. yes (sym (noted_writes p (checked_granule now.1.kind p now.1.site now.1.at) u (noted_was u p never a.epoch n)) ∙ ap is_written (sym now.1.old_is) ∙ is.old),
      ))
      (stop_was k p d e)

  -- ---- who has withdrawn
  noted_of : (p : ℕ) → Reason g tr.thread p → Noted turns.outcomes x code s ls g world st tr may p
  noted_of p (ByNote kind z e) = (kind, epoch_of (old_at p), z, e)
  noted_of p (ByStop d e) = absurd (let f : None ≡ Some (Conflict d) = sym fresh ∙ e.is in cc)

  left : (k p : ℕ) → p < granules s → stands (new_at p) k ≡ true → has_left (g'.threads k) p ≡ false
  left k p lt = each (λ k (y : Machine). stands (new_at p) k ≡ true → has_left y p ≡ false) (λ e. mine e (word p lt)) (λ k ne e. h.left k p lt (other k ne e (word p lt))) k
    where
      other : (k : ℕ) → (k ≡ tr.thread → ⊥) → stands (new_at p) k ≡ true → Became touch tr.thread p (old_at p) (new_at p) (wrote (g.threads tr.thread) p (old_at p)) → stands (old_at p) k ≡ true
      other k ne e (Same q _) = ap (λ v. stands v k) (sym q) ∙ e
      other k ne e (Checked kind ok q a) = ⊎_elim (λ was. was) (λ z. absurd (ne (eq_of k t z))) (or_cases (stands (old_at p) k) (k == t) (sym (a.threads k) ∙ e))
      other k ne e (Cleared a) = absurd (yes (sym e ∙ a.threads k))
      other k ne e (Withdrew q a) = and_left (stands (old_at p) k) (not (k == t)) (sym (a.threads k) ∙ e)

      mine : stands (new_at p) tr.thread ≡ true → Became touch tr.thread p (old_at p) (new_at p) (wrote (g.threads tr.thread) p (old_at p)) → has_left m' p ≡ false
      mine e (Same q ne) =
          let was : stands (old_at p) t ≡ true = ap (λ v. stands v t) (sym q) ∙ e in
          (leaving turns.outcomes x code s ls g world st tr may).others p ne (noted_of p (h.reason t p lt was)) (h.left t p lt was)
      mine e (Checked kind ok q a) = (leaving turns.outcomes x code s ls g world st tr may).checks kind p ok q p
      mine e (Cleared a) = absurd (yes (sym e ∙ a.threads t))
      mine e (Withdrew q a) = absurd (yes (sym (same_is t) ∙ not_yes (t == t) (and_right (stands (old_at p) t) (not (t == t)) (sym (a.threads t) ∙ e))))

  pub remains_then : Remains s (after_turn bounds (one_thread code s) g tr)
  remains_then = record { low_note = low_note; low_stop = low_stop; stop_bit = stop_bit; reason = reason; written = written; first = first; left = left }

  -- ---- what the turn leaves
  -- the epoch of a granule that it does not clear
  pub epoch_still : (p : ℕ) → p < granules s → (touch_at code s g tr ≡ ClearOf p → ⊥) → epoch_of (word_at (after_turn bounds (one_thread code s) g tr) p) ≡ epoch_of (word_at g p)
  epoch_still p lt ne = by (touch_at code s g tr) refl (word_by turns.aims laws x code s ls wt fits g world st tr may p lt)
    where
      by : (y : Touch) → touch_at code s g tr ≡ y → WordBy y tr.thread p (old_at p) (new_at p) (wrote (g.threads tr.thread) p (old_at p)) → epoch_of (new_at p) ≡ epoch_of (old_at p)
      by Untouched q w = ap epoch_of w
      by (CheckOf kind a ok) q w = ⊎_elim (λ (e : p ≡ a). (w.0 e).epoch) (λ d. ap epoch_of (w.1 d)) (cases_eq p a)
      by (ClearOf a) q w = ap epoch_of (w.1 (λ e. ne (q ∙ ap ClearOf (sym e))))
      by (WithdrawOf a) q w = ⊎_elim (λ (e : p ≡ a). (w.0 e).epoch) (λ d. ap epoch_of (w.1 d)) (cases_eq p a)

  pub epoch_grows : (p : ℕ) → p < granules s → epoch_of (word_at g p) ≤ epoch_of (word_at (after_turn bounds (one_thread code s) g tr) p)
  epoch_grows p lt = grows p lt

  pub epoch_cleared : (p : ℕ) → p < granules s → touch_at code s g tr ≡ ClearOf p → epoch_of (word_at (after_turn bounds (one_thread code s) g tr) p) ≡ suc (epoch_of (word_at g p))
  epoch_cleared p lt q = ((subst (λ y. WordBy y t p (old_at p) (new_at p) (wrote m p (old_at p))) q (word_by turns.aims laws x code s ls wt fits g world st tr may p lt)).0 refl).epoch

  -- a bit of a thread stays in the epoch, or the thread has withdrawn from there
  pub bit_or_left : (k p : ℕ) → p < granules s → epoch_of (word_at (after_turn bounds (one_thread code s) g tr) p) ≡ epoch_of (word_at g p) → stands (word_at g p) k ≡ true
      → (stands (word_at (after_turn bounds (one_thread code s) g tr) p) k ≡ true) ⊎ (has_left ((after_turn bounds (one_thread code s) g tr).threads k) p ≡ true)
  bit_or_left k p lt same e = by (word p lt)
    where
      by : Became touch tr.thread p (old_at p) (new_at p) (wrote (g.threads tr.thread) p (old_at p)) → (stands (new_at p) k ≡ true) ⊎ (has_left (g'.threads k) p ≡ true)
      by (Same q _) = inl (ap (λ v. stands v k) q ∙ e)
      by (Checked kind ok q a) = inl (a.threads k ∙ or_left (stands (old_at p) k) (k == t) e)
      by (Cleared a) = absurd (let b = a.epoch in omega (arith, b, same))
      by (Withdrew q a) = ⊎_elim
          (λ (mine : k ≡ t). inr (ap (λ k. has_left (g'.threads k) p) mine ∙ (leaving turns.outcomes x code s ls g world st tr may).then_ p q))
          (λ (ne : k ≡ t → ⊥). inl (a.threads k ∙ and_both (stands (old_at p) k) (not (k == t)) e (not_no (k == t) (ne_of k t ne))))
          (cases_eq k t)

  pub left_still : (k p : ℕ) → has_left (g.threads k) p ≡ true → has_left ((after_turn bounds (one_thread code s) g tr).threads k) p ≡ true
  left_still k p e = each (λ k (y : Machine). has_left (g.threads k) p ≡ true → has_left y p ≡ true) (λ e. (leaving turns.outcomes x code s ls g world st tr may).still p e) (λ k _ e. e) k e

  -- no write check passes where the bit of another thread stands
  pub refused : (k p : ℕ) → (k ≡ tr.thread → ⊥) → stands (word_at g p) k ≡ true → touch_at code s g tr ≡ CheckOf Write p true → ⊥
  refused k p ne bit q = refused_write k p ne bit q
