-- New and Free keep blocks apart and the lists of freed blocks threaded.
use Rattle.sharc_invariant.proofs.Imports.{◌≡◌, ℕ, suc, ◌+◌, ◌*◌, ◌<◌, ◌≤◌, ◌⊎◌, ◌≢◌, refl, sym, ap, ◌∙◌, subst, inl, inr, ⊎_elim, arith, cases_eq, cases_order, put, put2, BlockState as State, Unused, Built, Listed, Arena, Heap, link_at as length_at, Kept, popped, carved, stored, restated, pushed, IsListed, InBlock, put_same, put_other, put_all}
use Rattle.sharc_invariant.specs.Blocks.{Begins, Blocks}

-- a function of two numbers, changed at one place
pub put2_all : (P : ℕ → ℕ → ℕ → Type 0) (f : ℕ → ℕ → ℕ) (t i v : ℕ) → P t i v → ((u j : ℕ) → (u ≡ t → j ≡ i → ⊥) → P u j (f u j)) → (u j : ℕ) → P u j (put2 f t i v u j)
put2_all P f t i v here there u j = put_all (λ u (g : ℕ → ℕ). P u j (g j)) f t (put (f t) i v)
    (put_all (λ j n. P t j n) (f t) i v here (λ j ne. there t j (λ _ e. ne e)) j)
    (λ u ne. there u j (λ e _. ne e)) u

pub put2_same : (f : ℕ → ℕ → ℕ) (t i v : ℕ) → put2 f t i v t i ≡ v
put2_same f t i v = ap (λ (k : ℕ → ℕ). k i) (put_same f t (put (f t) i v)) ∙ put_same (f t) i v

pub put2_other : (f : ℕ → ℕ → ℕ) (t i v u j : ℕ) → (u ≡ t → j ≡ i → ⊥) → f u j ≡ put2 f t i v u j
put2_other f t i v u j n = put2_all (λ u' j' y. (u' ≡ t → j' ≡ i → ⊥) → f u' j' ≡ y) f t i v (λ n. absurd (n refl refl)) (λ _ _ _ _. refl) u j n

pub pair_cases : (u t j i : ℕ) → ((u ≡ t) × (j ≡ i)) ⊎ (u ≡ t → j ≡ i → ⊥)
pair_cases u t j i = ⊎_elim
    (λ (e : u ≡ t). ⊎_elim (λ (k : j ≡ i). inl (e, k)) (λ (n : j ≡ i → ⊥). inr (λ _ k. n k)) (cases_eq j i))
    (λ (n : u ≡ t → ⊥). inr (λ e _. n e))
    (cases_eq u t)

-- two functions changed at the same place
pub put2_both : (P : ℕ → ℕ → ℕ → ℕ → Type 0) (f g : ℕ → ℕ → ℕ) (t i v w : ℕ) → P t i v w → ((u j : ℕ) → (u ≡ t → j ≡ i → ⊥) → P u j (f u j) (g u j)) → (u j : ℕ) → P u j (put2 f t i v u j) (put2 g t i w u j)
put2_both P f g t i v w here there u j = ⊎_elim
    (λ q. subst (λ u. P u j (put2 f t i v u j) (put2 g t i w u j)) (sym q.0) (subst (λ j. P t j (put2 f t i v t j) (put2 g t i w t j)) (sym q.1)
    (subst (λ x. P t i x (put2 g t i w t i)) (sym (put2_same f t i v)) (subst (λ x. P t i v x) (sym (put2_same g t i w)) here))))
    (λ n. subst (λ x. P u j x (put2 g t i w u j)) (put2_other f t i v u j n) (subst (λ x. P u j (f u j) x) (put2_other g t i w u j n) (there u j n)))
    (pair_cases u t j i)

begins_move : (size size' : ℕ → ℕ) (state state' : ℕ → State) (t s d q : ℕ) → (state q ≡ Listed t d → size q ≡ s → (state' q ≡ Listed t d) × (size' q ≡ s)) → Begins size state t s d q → Begins size' state' t s d q
begins_move size size' state state' t s d q f = ⊎_elim (λ z. inl z) (λ x. inr (f x.0 x.1))

module _ (a : Arena) (h : Heap) (k : Kept a h) where
  -- a listed block is a block
  has_size : (p u d : ℕ) → h.state p ≡ Listed u d → h.size p ≢ 0
  has_size p u d e z = let f = k.blocks.known p z in cc

  -- the blocks are as before where one of them changes its state
  blocks_kept : (b : ℕ) (x : State) → h.size b ≢ 0 → Blocks a h.top h.size (put h.state b x)
  blocks_kept b x nz = record {
    some = k.blocks.some;
    apart = k.blocks.apart;
    within = k.blocks.within;
    known = put_all (λ p y. h.size p ≡ 0 → y ≡ Unused) h.state b x (λ z. absurd (nz z)) (λ p _. k.blocks.known p);
    low = k.blocks.low;
  }

  -- ---- a block that is not listed changes its state, and is not listed afterwards
  pub restate_ok : (b : ℕ) (x : State) → h.size b ≢ 0 → (IsListed (h.state b) → ⊥) → (IsListed x → ⊥) → Kept a (restated h b x)
  restate_ok b x nz old new =
      let state' = put h.state b x in
      let was : (p u d : ℕ) → state' p ≡ Listed u d → h.state p ≡ Listed u d = λ p u d. put_all (λ p y. y ≡ Listed u d → h.state p ≡ Listed u d) h.state b x (λ e. absurd (new (subst IsListed (sym e) tt))) (λ p _ e. e) p in
      let not_b : (q u d : ℕ) → h.state q ≡ Listed u d → q ≡ b → ⊥ = λ q u d e i. old (subst IsListed (sym e ∙ ap h.state i) tt) in
      let keeps : (u r d q : ℕ) → Begins h.size h.state u r d q → Begins h.size state' u r d q = λ u r d q.
      begins_move h.size h.size h.state state' u r d q (λ e z. (put_other h.state b q x (not_b q u d e) ∙ e, z)) in
      record {
        blocks = blocks_kept b x nz;
        lists = record {
          head = λ u r. keeps u r (h.deep u r) (h.heads u r) (k.lists.head u r);
          link = λ p u d e. let l = k.lists.link p u d (was p u d e) in (l.0, (l.1.0, keeps u (h.size p) l.0 (h.words (length_at a p)) l.1.1));
          low = λ p u d e. k.lists.low p u d (was p u d e);
          one = λ p q u d e f. k.lists.one p q u d (was p u d e) (was q u d f);
        };
        blank = k.blank;
      }

  -- ---- a word is written that is no link
  pub store_ok : (at v : ℕ) → at < a.words + 2 * h.top → ((p u d : ℕ) → h.state p ≡ Listed u d → length_at a p ≡ at → ⊥) → Kept a (stored h at v)
  store_ok at v lt ne = record {
    blocks = k.blocks;
    lists = record {
      head = k.lists.head;
      link = λ p u d e. let l = k.lists.link p u d e in (l.0, (l.1.0, subst (Begins h.size h.state u (h.size p) l.0) (sym (put_other h.words at (length_at a p) v (ne p u d e))) l.1.1));
      low = k.lists.low;
      one = k.lists.one;
    };
    blank = λ i le. put_other h.words at i v (λ e. omega arith) ∙ k.blank i le;
  }

  -- a word of a block that is not listed is none
  pub within_block : (b at : ℕ) → h.size b ≢ 0 → (IsListed (h.state b) → ⊥) → InBlock a h b at → (p u d : ℕ) → h.state p ≡ Listed u d → length_at a p ≡ at → ⊥
  within_block b at nz nl i p u d e q =
      let np = has_size p u d e in
      ⊎_elim
      (λ (j : p ≡ b). nl (subst IsListed (sym e ∙ ap h.state j) tt))
      (⊎_elim
      (λ (j : p < b). let x = k.blocks.apart p b np nz j in omega arith)
      (λ (j : b < p). let x = k.blocks.apart b p nz np j in omega arith))
      (cases_order p b)

  pub in_use : (b at : ℕ) → h.size b ≢ 0 → InBlock a h b at → at < a.words + 2 * h.top
  in_use b at nz i = let x = k.blocks.within b nz in omega arith

  -- nor is one below the blocks
  pub below_blocks : (at : ℕ) → at < a.words + 2 * a.first → (p u d : ℕ) → h.state p ≡ Listed u d → length_at a p ≡ at → ⊥
  below_blocks at lt p u d e q = let x = k.blocks.within p (has_size p u d e) in omega arith

  -- ---- New from the top
  pub carve_ok : (t s : ℕ) → s ≢ 0 → Kept a (carved h t s)
  carve_ok t s nz =
      let b = h.top in
      let x = Built t in
      let size' = put h.size b s in
      let state' = put h.state b x in
      -- no block begins at the top
      let not_top : (p : ℕ) → h.size p ≢ 0 → p ≡ b → ⊥ = λ p np e. let w = k.blocks.within p np in omega arith in
      let sized : (p : ℕ) → size' p ≢ 0 → ((p ≡ b) × (size' p ≡ s)) ⊎ ((h.size p ≢ 0) × (size' p ≡ h.size p)) = λ p. put_all (λ p n. n ≢ 0 → ((p ≡ b) × (n ≡ s)) ⊎ ((h.size p ≢ 0) × (n ≡ h.size p))) h.size b s (λ _. inl (refl, refl)) (λ p _ n. inr (n, refl)) p in
      let was : (p u d : ℕ) → state' p ≡ Listed u d → (h.state p ≡ Listed u d) × (size' p ≡ h.size p) = λ p u d. put_all (λ p y. y ≡ Listed u d → (h.state p ≡ Listed u d) × (size' p ≡ h.size p)) h.state b x (λ e. absurd (cc)) (λ p ne e. (e, put_other h.size b p s ne)) p in
      let keeps : (u r d q : ℕ) → Begins h.size h.state u r d q → Begins size' state' u r d q = λ u r d q.
      begins_move h.size size' h.state state' u r d q (λ e z. let ne = not_top q (has_size q u d e) in (put_other h.state b q x ne ∙ e, put_other h.size b q s ne ∙ z)) in
      record {
        blocks = record {
          some = k.blocks.some;
          apart = λ p q np nq lt. ⊎_elim
              (λ ep. ⊎_elim (λ eq. absurd (omega arith)) (λ eq. let w = k.blocks.within q eq.0 in absurd (omega arith)) (sized q nq))
              (λ ep. ⊎_elim (λ eq. let w = k.blocks.within p ep.0 in omega arith) (λ eq. let w = k.blocks.apart p q ep.0 eq.0 lt in omega arith) (sized q nq))
              (sized p np);
          within = λ p np. ⊎_elim (λ e. (omega arith, omega arith)) (λ e. let w = k.blocks.within p e.0 in (w.0, omega arith)) (sized p np);
          known = λ p z. ⊎_elim
              (λ (e : p ≡ b). let y : size' p ≡ s = ap size' e ∙ put_same h.size b s in absurd (nz (sym y ∙ z)))
              (λ (ne : p ≡ b → ⊥). put_other h.state b p x ne ∙ k.blocks.known p (sym (put_other h.size b p s ne) ∙ z))
              (cases_eq p b);
          low = omega arith;
        };
        lists = record {
          head = λ u r. keeps u r (h.deep u r) (h.heads u r) (k.lists.head u r);
          link = λ p u d e.
              let o = was p u d e in
              let l = k.lists.link p u d o.0 in
              (l.0, (l.1.0, subst (λ n. Begins size' state' u n l.0 (h.words (length_at a p))) (sym o.1) (keeps u (h.size p) l.0 (h.words (length_at a p)) l.1.1)));
          low = λ p u d e. let o = was p u d e in subst (λ n. d ≤ h.deep u n) (sym o.1) (k.lists.low p u d o.0);
          one = λ p q u d e f s. let o = was p u d e in let o' = was q u d f in k.lists.one p q u d o.0 o'.0 (sym o.1 ∙ s ∙ o'.1);
        };
        blank = λ i le. k.blank i (omega arith);
      }

  -- ---- New from the own list
  pub pop_ok : (t s : ℕ) → h.heads t s ≢ 0 → (e : ℕ) × ((h.state (h.heads t s) ≡ Listed t (suc e)) × ((h.size (h.heads t s) ≡ s) × Kept a (popped a h t s e)))
  pop_ok t s nz = ⊎_elim (λ z. absurd (nz z.1)) (λ x. pop x.0 x.1) (k.lists.head t s)
    where
      pop : h.state (h.heads t s) ≡ Listed t (h.deep t s) → h.size (h.heads t s) ≡ s → (e : ℕ) × ((h.state (h.heads t s) ≡ Listed t (suc e)) × ((h.size (h.heads t s) ≡ s) × Kept a (popped a h t s e)))
      pop st sz =
          let b = h.heads t s in
          let n = h.deep t s in
          let x = Built t in
          let l = k.lists.link b t n st in
          let e = l.0 in
          let link = h.words (length_at a b) in
          let state' = put h.state b x in
          let was : (p u d : ℕ) → state' p ≡ Listed u d → (p ≡ b → ⊥) × (h.state p ≡ Listed u d) = λ p u d. put_all (λ p y. y ≡ Listed u d → (p ≡ b → ⊥) × (h.state p ≡ Listed u d)) h.state b x (λ e. absurd (cc)) (λ p ne e. (ne, e)) p in
          let keeps : (u r d q : ℕ) → (u ≡ t → r ≡ s → d ≡ n → ⊥) → Begins h.size h.state u r d q → Begins h.size state' u r d q = λ u r d q no'.
          begins_move h.size h.size h.state state' u r d q (λ i z. (put_other h.state b q x (λ j. let y : Listed u d ≡ Listed t n = sym i ∙ ap h.state j ∙ st in no' (cc) (sym z ∙ ap h.size j ∙ sz) (cc)) ∙ i, z)) in
          let heads' = put2 h.heads t s link in
          let deep' = put2 h.deep t s e in
          let first : Begins h.size state' t s e link = keeps t s e link (λ _ _ i. let j = l.1.0 in omega arith) (subst (λ r. Begins h.size h.state t r e link) sz l.1.1) in (
            e,
            (
              st ∙ ap (Listed t) l.1.0,
              (
                sz,
                record {
                  blocks = blocks_kept b x (has_size b t n st);
                  lists = record {
                    head = put2_both (λ u r q d. Begins h.size state' u r d q) h.heads h.deep t s link e first (λ u r ne. keeps u r (h.deep u r) (h.heads u r) (λ i j _. ne i j) (k.lists.head u r));
                    link = λ p u d i.
                        let o = was p u d i in
                        let y = k.lists.link p u d o.1 in
                        let lo = k.lists.low p u d o.1 in (
                          y.0,
                          (
                            y.1.0,
                            keeps u (h.size p) y.0 (h.words (length_at a p))
                                (λ eu er ed. let m : h.deep u (h.size p) ≡ n = ap (λ u. h.deep u (h.size p)) eu ∙ ap (h.deep t) er in let f = y.1.0 in omega arith) y.1.1,
                          ),
                        );
                    low = λ p u d i.
                        let o = was p u d i in
                        put2_all (λ u r m. h.state p ≡ Listed u d → h.size p ≡ r → d ≤ m) h.deep t s e
                        (λ j er.
                        let lo = k.lists.low p t d j in
                        let m : h.deep t (h.size p) ≡ n = ap (h.deep t) er in
                        let ne : d ≡ n → ⊥ = λ q. o.0 (k.lists.one p b t n (j ∙ ap (Listed t) q) st (er ∙ sym sz)) in
                        let f = l.1.0 in
                        omega arith)
                        (λ u r ne j er. subst (λ r. d ≤ h.deep u r) er (k.lists.low p u d j)) u (h.size p) o.1 refl;
                    one = λ p q u d i j. k.lists.one p q u d (was p u d i).1 (was q u d j).1;
                  };
                  blank = k.blank;
                },
              ),
            ),
          )

  -- ---- the end of Free
  pub push_ok : (t b : ℕ) → h.size b ≢ 0 → h.state b ≡ Built t → Kept a (pushed a h t b)
  push_ok t b nz st =
      let s = h.size b in
      let n = h.deep t s in
      let x = Listed t (suc n) in
      let at = length_at a b in
      let old = h.heads t s in
      let words' = put h.words at old in
      let state' = put h.state b x in
      let not_b : (q u d : ℕ) → h.state q ≡ Listed u d → q ≡ b → ⊥ = λ q u d e i. let y : Listed u d ≡ Built t = sym e ∙ ap h.state i ∙ st in cc in
      let keeps : (u r d q : ℕ) → Begins h.size h.state u r d q → Begins h.size state' u r d q = λ u r d q.
      begins_move h.size h.size h.state state' u r d q (λ e z. (put_other h.state b q x (not_b q u d e) ∙ e, z)) in
      let is : (p u d : ℕ) → state' p ≡ Listed u d → ((p ≡ b) × (Listed u d ≡ x)) ⊎ ((p ≡ b → ⊥) × (h.state p ≡ Listed u d)) = λ p u d.
      put_all (λ p y. y ≡ Listed u d → ((p ≡ b) × (Listed u d ≡ x)) ⊎ ((p ≡ b → ⊥) × (h.state p ≡ Listed u d))) h.state b x (λ e. inl (refl, sym e)) (λ p ne e. inr (ne, e)) p in
      -- the others of this list lie below
      let deeper : (q : ℕ) → h.state q ≡ Listed t (suc n) → h.size q ≡ s → ⊥ = λ q e z. let lo = k.lists.low q t (suc n) e in let m : h.deep t (h.size q) ≡ n = ap (h.deep t) z in omega arith in
      record {
        blocks = blocks_kept b x nz;
        lists = record {
          head = put2_both (λ u r q d. Begins h.size state' u r d q) h.heads h.deep t s b (suc n) (inr (put_same h.state b x, refl)) (λ u r _. keeps u r (h.deep u r) (h.heads u r) (k.lists.head u r));
          link = λ p u d e. ⊎_elim
              (λ i.
              let ed : d ≡ suc n = cc (i.1) in
              let eu : u ≡ t = cc (i.1) in (
                n,
                (
                  ed,
                  subst (λ v. Begins h.size state' v (h.size p) n (words' (length_at a p))) (sym eu) (subst (λ p. Begins h.size state' t (h.size p) n (words' (length_at a p))) (sym i.0)
                      (subst (Begins h.size state' t s n) (sym (put_same h.words at old)) (keeps t s n old (k.lists.head t s)))),
                ),
              ))
              (λ i.
              let l = k.lists.link p u d i.1 in
              let ne : length_at a p ≡ at → ⊥ = λ j. i.0 (omega arith) in
              (l.0, (l.1.0, subst (Begins h.size state' u (h.size p) l.0) (sym (put_other h.words at (length_at a p) old ne)) (keeps u (h.size p) l.0 (h.words (length_at a p)) l.1.1))))
              (is p u d e);
          low = λ p u d e. ⊎_elim
              (λ i.
              let ed : d ≡ suc n = cc (i.1) in
              let eu : u ≡ t = cc (i.1) in
              let m : put2 h.deep t s (suc n) u (h.size p) ≡ suc n = ap (λ v. put2 h.deep t s (suc n) v (h.size p)) eu ∙ ap (λ p. put2 h.deep t s (suc n) t (h.size p)) i.0 ∙ put2_same h.deep t s (suc n) in
              omega arith)
              (λ i. put2_all (λ u r m. h.state p ≡ Listed u d → h.size p ≡ r → d ≤ m) h.deep t s (suc n)
              (λ j er. let lo = k.lists.low p t d j in let m : h.deep t (h.size p) ≡ n = ap (h.deep t) er in omega arith)
              (λ u r ne j er. subst (λ r. d ≤ h.deep u r) er (k.lists.low p u d j)) u (h.size p) i.1 refl)
              (is p u d e);
          one = λ p q u d e f z. ⊎_elim
              (λ i. ⊎_elim
              (λ j. i.0 ∙ sym j.0)
              (λ j. absurd (deeper q (j.1 ∙ i.1) (sym z ∙ ap h.size i.0)))
              (is q u d f))
              (λ i. ⊎_elim
              (λ j. absurd (deeper p (i.1 ∙ j.1) (z ∙ ap h.size j.0)))
              (λ j. k.lists.one p q u d i.1 j.1 z)
              (is q u d f))
              (is p u d e);
        };
        blank = λ i le. put_other h.words at i old (λ e. let w = k.blocks.within b nz in let nz' = nz in absurd (omega arith)) ∙ k.blank i le;
      }
