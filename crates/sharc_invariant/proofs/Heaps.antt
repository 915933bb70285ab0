-- Words of blocks that no object has, and the sizes of blocks.
use Rattle.sharc_invariant.proofs.{Imports.{◌≡◌, ℕ, ◌+◌, ◌*◌, ◌^◌, ◌<◌, ◌≤◌, ◌≢◌, true, sym, ap, ◌∙◌, subst, ⊎_elim, arith, cases_eq, cases_order, pow-lt, pow_pos, bit_at-pow_other, bit_at-trailing_zeros, w64, trailing_zeros, Shape, granules, first_cell, Machine, size_of, Global, put, put_other, Targets, field_in, World, ObjectState, Built, Listed, Heap, InBlock, MachineView, Shows, Apart, FitsContent, Reads, store, cell_at, count_at, length_at, shadow_at, HeapStands}, Stores.arena, Seen.stale_off}

-- ---- sizes
pub trailing_power : (p : ℕ) → p < 64 → trailing_zeros w64 (2 ^ p) ≡ p
trailing_power p lt =
    let n = 2 ^ p in
    let z = bit_at-trailing_zeros w64 n (pow_pos p) (pow-lt {i = p} {j = 64} lt) in
    ⊎_elim (λ (e : trailing_zeros w64 n ≡ p). e)
    (λ (ne : trailing_zeros w64 n ≡ p → ⊥). let a = bit_at-pow_other p (trailing_zeros w64 n) ne in let b = z.1 in absurd (let q : 0 ≡ 1 = sym a ∙ b in omega arith))
    (cases_eq (trailing_zeros w64 n) p)

pub size_power : (k : ℕ) → k < 63 → size_of (2 ^ (k + 1)) ≡ k
size_power k lt = let a = trailing_power (k + 1) (omega arith) in omega arith

pub same_power : (j k : ℕ) → j < 63 → k < 63 → 2 ^ (j + 1) ≡ 2 ^ (k + 1) → j ≡ k
same_power j k lj lk e = sym (size_power j lj) ∙ ap size_of e ∙ size_power k lk

-- ---- a word that is no word of a live object, and no shadow word
pub record IsApart (s : Shape) (obj : ℕ → ObjectState) (cells : ℕ → ℕ) (k : ℕ) : Type 0 where
  pub cell : (o i : ℕ) → (obj o).live ≡ true → i < cells o → cell_at s o i ≡ k → ⊥
  pub count : (o : ℕ) → o ≢ 0 → (obj o).live ≡ true → count_at s o ≡ k → ⊥
  pub length : (o : ℕ) → o ≢ 0 → (obj o).live ≡ true → length_at s o ≡ k → ⊥
  pub shadow : (p : ℕ) → p < granules s → shadow_at s p ≡ k → ⊥

pub apart_stored : (x : Targets) (s : Shape) (cells elements : ℕ → ℕ) (c : MachineView) (w : World) → Shows x s cells elements c w → Apart s w.obj cells → (k v : ℕ) → IsApart s w.obj cells k → Shows x s cells elements (store c k v) w
apart_stored x s cells elements c w sim lie k v a =
    let off : (j : ℕ) → (j ≡ k → ⊥) → c.words j ≡ put c.words k v j = λ j ne. sym (put_other c.words k j v ne) in
    record {
      regs = sim.regs;
      args = sim.args;
      logs = sim.logs;
      staged = sim.staged;
      others = sim.others;
      pointers = λ o i lo lt p. sim.pointers o i lo lt p ∙ off (cell_at s o i) (a.cell o i lo lt);
      integers = λ o i lo lt. subst (FitsContent (field_in x (w.obj o).ty i).holds) (off (cell_at s o i) (a.cell o i lo lt)) (sim.integers o i lo lt);
      counts = λ o nz lo. sim.counts o nz lo ∙ off (count_at s o) (a.count o nz lo);
      lengths = λ o nz lo. sim.lengths o nz lo ∙ off (length_at s o) (a.length o nz lo);
      mutexes = λ o j lo lt m. sim.mutexes o j lo lt m ∙ off (cell_at s o j) (a.cell o j lo lt);
      shadows = λ o p lo lt. subst (λ n. Reads n c.read_notes c.write_notes (o + 1 + p) (w.gran o p)) (off (shadow_at s (o + 1 + p)) (a.shadow (o + 1 + p) (lie.within o p lo lt))) (sim.shadows o p lo lt);
      stale = stale_off s w.obj cells c.words (put c.words k v) c.read_notes c.write_notes (λ p lt. off (shadow_at s p) (a.shadow p lt)) sim.stale;
    }

-- a word below the shadow words shows nothing of the world
pub low_stored : (x : Targets) (s : Shape) (cells elements : ℕ → ℕ) (c : MachineView) (w : World) (k v : ℕ) → k < 97 → Apart s w.obj cells → Shows x s cells elements c w → Shows x s cells elements (store c k v) w
low_stored x s cells elements c w k v low lie sim = apart_stored x s cells elements c w sim lie k v (record {
  cell = λ o i _ _ e. absurd (omega arith);
  count = λ o _ _ e. absurd (omega arith);
  length = λ o _ _ e. absurd (omega arith);
  shadow = λ p _ e. absurd (omega arith);
})

-- the words of a block that no object has
module _ (s : Shape) (cells : ℕ → ℕ) (g : Global Machine) (obj : ℕ → ObjectState) (heap : Heap) (h : HeapStands s cells g obj heap) (zero_cells : cells 0 ≡ 2 * s.globals) where
  pub built_size : (b u : ℕ) → heap.state b ≡ Built u → heap.size b ≢ 0
  built_size b u e z = let f = h.kept.blocks.known b z in cc

  pub listed_size : (b u d : ℕ) → heap.state b ≡ Listed u d → heap.size b ≢ 0
  listed_size b u d e z = let f = h.kept.blocks.known b z in cc

  pub built_dead : (b u : ℕ) → heap.state b ≡ Built u → (obj b).live ≡ true → b ≢ 0 → ⊥
  built_dead b u e l nz = let f = (h.live b nz).0 l in cc

  pub low_block : (b : ℕ) → heap.size b ≢ 0 → (b ≢ 0) × (b + heap.size b ≤ granules s)
  low_block b nz = let w = h.kept.blocks.within b nz in let t = h.within in let s1 = h.kept.blocks.some in ((λ e. absurd (omega arith)), omega arith)

  -- of another block
  block_apart : (b o k n : ℕ) → heap.size b ≢ 0 → o ≢ 0 → (obj o).live ≡ true → o ≢ b → InBlock (arena s) heap b k → n < 2 + cells o → first_cell s + 2 * o + n ≡ k → ⊥
  block_apart b o k n nz some live ne i lt e =
      let lv = (h.live o some).0 live in
      let so : heap.size o ≢ 0 = λ z. let f = h.kept.blocks.known o z in cc in
      let r = h.room o some live in
      let p = i.0 in
      let q = i.1 in
      ⊎_elim (λ (z : o ≡ b). ne z)
      (⊎_elim (λ (z : o < b). let a = h.kept.blocks.apart o b so nz z in omega arith) (λ (z : b < o). let a = h.kept.blocks.apart b o nz so z in omega arith))
      (cases_order o b)

  pub block_word : (b k : ℕ) → heap.size b ≢ 0 → ((obj b).live ≡ true → ⊥) → InBlock (arena s) heap b k → IsApart s obj cells k
  block_word b k nz dead i =
      let ne : (o : ℕ) → (obj o).live ≡ true → o ≢ b = λ o l e. dead (subst (λ o. (obj o).live ≡ true) e l) in
      record {
        cell = λ o j l lt e. ⊎_elim
            (λ (z : o ≡ 0). let c : cells o ≡ 2 * s.globals = ap cells z ∙ zero_cells in let p = i.0 in omega arith)
            (λ (some : o ≡ 0 → ⊥). block_apart b o k (2 + j) nz some l (ne o l) i (omega arith) (omega arith))
            (cases_eq o 0);
        count = λ o some l e. block_apart b o k 0 nz some l (ne o l) i (omega arith) (omega arith);
        length = λ o some l e. block_apart b o k 1 nz some l (ne o l) i (omega arith) (omega arith);
        shadow = λ p lt e. let q = i.0 in omega arith;
      }
