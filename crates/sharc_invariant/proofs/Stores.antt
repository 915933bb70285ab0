-- A turn that stores one word: a count, a cell or a shadow word.
use Rattle.sharc_invariant.proofs.{Imports.{◌≡◌, ℕ, ◌+◌, ◌*◌, ◌^◌, ◌<◌, ◌≤◌, ◌≢◌, true, List, refl, sym, ap, ◌∙◌, subst, ⊎_elim, arith, cases_eq, cases_order, get_or-set_same, get_or-set_other, length-set, fun_ext, length, slice_index, slice_set, epoch_of, Code, Shape, granules, first_cell, Machine, Global, put, put_other, put_all, Targets, Labels, World, Live, Built, Listed, Arena, Heap, Kept, InBlock, IsListed, link_at, shadow_at, count_at, cell_at, State}, Listed.{store_ok, within_block, in_use, below_blocks}, Quiet.KeepsWords}

pub index_put : (ws : List ℕ) (k v : ℕ) → k < length ws → (j : ℕ) → slice_index (slice_set ws k v) j ≡ put (λ i. slice_index ws i) k v j
index_put ws k v lt = put_all (λ j y. slice_index (slice_set ws k v) j ≡ y) (λ i. slice_index ws i) k v (get_or-set_same ws k v 0 lt) (λ j ne. get_or-set_other ws k j v 0 ne)

abbrev pub arena : Shape → Arena
arena s = record { first = 1 + s.globals; words = first_cell s }

-- a word that may be stored: no list leads through it, and it is in no block that is built
pub record MayStore (s : Shape) (heap : Heap) (k : ℕ) : Type 0 where
  pub high : 97 ≤ k
  pub below : k < first_cell s + 2 * heap.top
  pub listed : (p u d : ℕ) → heap.state p ≡ Listed u d → link_at (arena s) p ≡ k → ⊥
  pub built : (u h : ℕ) → heap.state h ≡ Built u → InBlock (arena s) heap h k → ⊥

module _ (x : Targets) (code : Code) (s : Shape) (ls : Labels) (g : Global Machine) (world : World) (st : State x code s ls g world) where
  live_state : (o : ℕ) → o ≢ 0 → (world.obj o).live ≡ true → (st.heap.state o ≡ Live) × (st.heap.size o ≢ 0)
  live_state o nz live =
      let e = (st.heap_stands.live o nz).0 live in
      (e, λ z. let f = st.heap_stands.kept.blocks.known o z in cc)

  -- a word in the block of a live object
  pub block_store : (o k : ℕ) → o ≢ 0 → (world.obj o).live ≡ true → InBlock (arena s) st.heap o k → MayStore s st.heap k
  block_store o k nz live inside =
      let l = live_state o nz live in
      let kept = st.heap_stands.kept in
      record {
        high = let a = inside.0 in omega arith;
        below = in_use (arena s) st.heap kept o k l.1 inside;
        listed = within_block (arena s) st.heap kept o k l.1 (λ h. subst IsListed l.0 h) inside;
        built = λ u h b ih.
            let nz' : st.heap.size h ≢ 0 = λ z. let f = kept.blocks.known h z in cc in
            ⊎_elim (λ (e : h ≡ o). let f : Live ≡ Built u = sym l.0 ∙ ap st.heap.state (sym e) ∙ b in cc)
            (⊎_elim (λ (lt : h < o). let a = kept.blocks.apart h o nz' l.1 lt in let p = ih.1 in let q = inside.0 in omega arith)
            (λ (lt : o < h). let a = kept.blocks.apart o h l.1 nz' lt in let p = ih.0 in let q = inside.1 in omega arith))
            (cases_order h o);
      }

  pub count_store : (o : ℕ) → o ≢ 0 → (world.obj o).live ≡ true → MayStore s st.heap (count_at s o)
  count_store o nz live = let r = st.heap_stands.room o nz live in block_store o (count_at s o) nz live (omega arith, omega arith)

  -- a word of the globals, and a shadow word
  pub low_store : (k : ℕ) → 97 ≤ k → k < first_cell s + 2 * (1 + s.globals) → MayStore s st.heap k
  low_store k hi lo =
      let kept = st.heap_stands.kept in
      let f = kept.blocks.low in
      record {
        high = hi;
        below = omega arith;
        listed = below_blocks (arena s) st.heap kept k lo;
        built = λ u h b ih. let nz : st.heap.size h ≢ 0 = λ z. let f = kept.blocks.known h z in cc in let w = kept.blocks.within h nz in let p = ih.0 in omega arith;
      }

  pub cell_store : (o i : ℕ) → (world.obj o).live ≡ true → i < st.cells o → MayStore s st.heap (cell_at s o i)
  cell_store o i live lt = ⊎_elim
      (λ (e : o ≡ 0). let c : i < 2 * s.globals = let q = ap st.cells e ∙ st.globals_cells in omega arith in low_store (cell_at s o i) (omega arith) (omega arith))
      (λ (nz : o ≡ 0 → ⊥). let r = st.heap_stands.room o nz live in block_store o (cell_at s o i) nz live (omega arith, omega arith))
      (cases_eq o 0)

  pub shadow_store : (p : ℕ) → p < granules s → MayStore s st.heap (shadow_at s p)
  shadow_store p lt = low_store (shadow_at s p) (omega arith) (omega arith)

  -- what the words keep
  pub stored_words : (k v : ℕ) → MayStore s st.heap k → k < length g.words → v < 2 ^ 64 → ((i : ℕ) → i < granules s → k ≡ 97 + i → epoch_of v ≡ epoch_of (slice_index g.words (97 + i))) → KeepsWords s st.heap g.words (slice_set g.words k v)
  stored_words k v may lt small epoch =
      let at = index_put g.words k v lt in
      let kept0 : Kept (arena s) (record st.heap { words = put st.heap.words k v }) = store_ok (arena s) st.heap st.heap_stands.kept k v may.below may.listed in
      let f : put st.heap.words k v ≡ (λ i. slice_index (slice_set g.words k v) i) = fun_ext (λ i. ap (λ (h : ℕ → ℕ). put h k v i) (fun_ext st.heap_stands.words) ∙ sym (at i)) in
      record {
        count = length-set g.words k v;
        low = λ j l _. at j ∙ put_other (λ i. slice_index g.words i) k j v (λ e. let h = may.high in omega arith);
        are_words = λ j. subst (λ n. n < 2 ^ 64) (sym (at j)) (put_all (λ j y. y < 2 ^ 64) (λ i. slice_index g.words i) k v small (λ j _. st.are_words j) j);
        epochs = λ i l. ap epoch_of (at (97 + i)) ∙ put_all (λ j y. j ≡ 97 + i → epoch_of y ≡ epoch_of (slice_index g.words (97 + i))) (λ i. slice_index g.words i) k v (λ e. epoch i l e) (λ j _ e. ap (λ j. epoch_of (slice_index g.words j)) e) (97 + i) refl;
        kept = subst (λ h. Kept (arena s) (record st.heap { words = h })) f kept0;
      }

  pub stored_within : (k v : ℕ) → MayStore s st.heap k → k < length g.words → (u h j : ℕ) → st.heap.state h ≡ Built u → InBlock (arena s) st.heap h j → slice_index (slice_set g.words k v) j ≡ slice_index g.words j
  stored_within k v may lt u h j b inside = index_put g.words k v lt j ∙ put_other (λ i. slice_index g.words i) k j v (λ e. may.built u h b (subst (InBlock (arena s) st.heap h) e inside))
