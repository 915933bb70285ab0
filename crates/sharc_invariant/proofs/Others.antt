-- A thread that does not make the turn stays as it stood.
use Rattle.sharc_invariant.proofs.Imports.{◌≡◌, ℕ, ◌+◌, ◌*◌, ◌<◌, ◌≤◌, ◌≢◌, List, Option, Some, None, refl, sym, ap, ◌∙◌, subst, arith, slice_index, NewView, NewArguments, NewStage, Code, Instr, Register, Shape, Stage, Rests, Looks, Clears, Makes, Empties, Lowers, FreeLooks, FreeClears, Uncounts, Links, Names, Hands, Begins, Enters, function_word, argument_word, first_cell, Machine, ref, pointer_cell, layout_at, GranuleState, Gate, Holds, Loaded, HoldsLoaded, RegisterOf, CellOf as Cell, Sole, Shut, IsLoaded, World, in_ref, Heap, Built, KeepsOthers, OnlyLoses, StopStands, GateStands, base_of_cell, number_in, StageStands, OnClear, OnNew, OnFree, OnSpawn, OnStart, AreCleared, Swapping, Emptying, Reserves, SpawnsNow, BuildsAt, all_pointers, granules_freed}
pub use Rattle.sharc_invariant.specs.State.{OnHold}

-- a granule that is as it was loses nothing
pub loses : {x y : GranuleState} → y ≡ x → OnlyLoses x y
loses {x} e = subst (OnlyLoses x) (sym e) (record { epoch = refl; passed = λ v p. p })

-- ---- a thread that has stopped
pub stop_kept : (w w' : World) (u : ℕ) (m : Machine) (gate : Gate) → w'.win u ≡ w.win u → StopStands w u m gate → StopStands w' u m gate
stop_kept w w' u m (Holds c) e h = e ∙ h
stop_kept w w' u m _ e h = e ∙ h

-- it stops where its window is shut, and so at a gate at which nothing was loaded
pub stop_at : (s : Shape) (w : World) (t : ℕ) (m m' : Machine) (gate : Gate) → GateStands s w t m gate → w.win t ≡ Shut → StopStands w t m' gate
stop_at s w t m m' (Loaded c) gate shut = absurd (let e : Shut ≡ IsLoaded (base_of_cell m c) (number_in m c) m.pending = sym shut ∙ gate in cc)
stop_at s w t m m' (HoldsLoaded c) gate shut = absurd (let e : Shut ≡ IsLoaded (base_of_cell m c) (number_in m c) m.pending = sym shut ∙ gate.0 in cc)
stop_at s w t m m' _ gate shut = shut

-- ---- an instruction of a kind
-- the register whose object it walks over
abbrev pub operand : Instr → Option ℕ
operand (Instr.Clear r count) = Some r
operand (Instr.Free r layout site) = Some r
operand _ = None

pub map_clear : (P Q : ℕ → ℕ → Type 0) (i : Instr) → ((r c : ℕ) → operand i ≡ Some r → P r c → Q r c) → OnClear P i → OnClear Q i
map_clear P Q (Instr.Clear r c) f h = f r c refl h
map_clear P Q _ f h = absurd h

pub map_new : (P Q : ℕ → ℕ → ℕ → Type 0) (i : Instr) → ((r c n : ℕ) → P r c n → Q r c n) → OnNew P i → OnNew Q i
map_new P Q (Instr.New r c n site) f h = f r c n h
map_new P Q _ f h = absurd h

pub map_free : (P Q : ℕ → ℕ → Type 0) (i : Instr) → ((r l : ℕ) → operand i ≡ Some r → P r l → Q r l) → OnFree P i → OnFree Q i
map_free P Q (Instr.Free r l site) f h = f r l refl h
map_free P Q _ f h = absurd h

pub map_spawn : (P Q : ℕ → Register → Type 0) (i : Instr) → ((f : ℕ) (from : Register) → P f from → Q f from) → OnSpawn P i → OnSpawn Q i
map_spawn P Q (Instr.Spawn r n from site) f h = f n from h
map_spawn P Q _ f h = absurd h

pub map_start : (P Q : Type 0) (i : Instr) → (P → Q) → OnStart P i → OnStart Q i
map_start P Q (Instr.Start site) f h = f h
map_start P Q _ f h = absurd h

module _ (code : Code) (s : Shape) (elements : ℕ → ℕ) (w w' : World) (heap heap' : Heap) (words words' : List ℕ) (t : ℕ) (k : KeepsOthers s w w' heap heap' words words' t) (u : ℕ) (ne : u ≢ t) (m : Machine) (i : Instr)
    (sole : (r : ℕ) → operand i ≡ Some r → OnHold m.own.stage → (q : ℕ) × ((w.win u ≡ Sole q) × (in_ref w (RegisterOf u q) ≡ ref m r)))
    (reserved : (n : ℕ) → SpawnsNow m.own.stage n → Reserves words u n → Reserves words' u n)
    (handed : (n : ℕ) → SpawnsNow m.own.stage n → Reserves words u n → (slice_index words' (function_word n) ≡ slice_index words (function_word n)) × (slice_index words' (argument_word n) ≡ slice_index words (argument_word n)))
    (own : slice_index words' (function_word u) ≡ slice_index words (function_word u)) where
  gran_same : (r : ℕ) → operand i ≡ Some r → OnHold m.own.stage → (g : ℕ) → OnlyLoses (w.gran (ref m r) g) (w'.gran (ref m r) g)
  gran_same r e h g = let so = sole r e h in let P : ℕ → Type 0 = λ o. OnlyLoses (w.gran o g) (w'.gran o g) in subst P so.1.1 (k.sole u ne so.0 so.1.0 g)

  cells_same : (r : ℕ) → operand i ≡ Some r → OnHold m.own.stage → (j : ℕ) → (w'.slots (Cell (ref m r) j)).reference ≡ (w.slots (Cell (ref m r) j)).reference
  cells_same r e h j = let so = sole r e h in let P : ℕ → Type 0 = λ o. (w'.slots (Cell o j)).reference ≡ (w.slots (Cell o j)).reference in subst P so.1.1 (k.cells u ne so.0 so.1.0 j)

  cleared_kept : (r n : ℕ) → operand i ≡ Some r → OnHold m.own.stage → AreCleared w (ref m r) n → AreCleared w' (ref m r) n
  cleared_kept r n e o h g lt v p = h g lt v ((gran_same r e o g).passed v p)

  swapping_kept : (r done all seen : ℕ) → operand i ≡ Some r → OnHold m.own.stage → Swapping w (ref m r) done all seen → Swapping w' (ref m r) done all seen
  swapping_kept r done all seen e o h = (h.0, cleared_kept r done e o h.1, h.2 ∙ sym (gran_same r e o done).epoch)

  emptying_kept : (r layout all n : ℕ) → operand i ≡ Some r → OnHold m.own.stage → Emptying code elements w (ref m r) layout all n → Emptying code elements w' (ref m r) layout all n
  emptying_kept r layout all n e o h = (h.0, h.1, λ j lt. cells_same r e o (pointer_cell code (layout_at code layout) j) ∙ h.2 j lt)

  built_words : (h j : ℕ) → heap.state h ≡ Built u → first_cell s + 2 * h ≤ j → j < first_cell s + 2 * (h + heap.size h) → slice_index words' j ≡ slice_index words j
  built_words h j b lo hi = k.within u ne h b j (lo, hi)

  builds_kept : (v : NewView) (x : NewStage) → v.arguments.first ≡ first_cell s → BuildsAt words heap u v x → BuildsAt words' heap' u v x
  builds_kept v (NewStage.Cell cell) e h =
      let b = k.built u ne v.arguments.head h.1 in
      let size = h.2 in
      (h.0, b.0, b.1 ∙ h.2, h.3, λ j lt. built_words v.arguments.head (v.arguments.first + 2 * v.arguments.head + 2 + j) h.1 (omega arith) (let r = h.0 in let c = h.3 in omega arith) ∙ h.4 j lt)
  builds_kept v (NewStage.Move top moved) e h = h
  builds_kept v (NewStage.Count b) e h =
      let x = k.built u ne b h.1 in
      let size = h.2 in
      (h.0, x.0, x.1 ∙ h.2, λ j lt. built_words b (v.arguments.first + 2 * b + 2 + j) h.1 (omega arith) (let r = h.0 in omega arith) ∙ h.3 j lt)
  builds_kept v (NewStage.Length b) e h =
      let x = k.built u ne b h.1 in
      let size = h.2 in
      let r = h.0 in
      (h.0, x.0, x.1 ∙ h.2, (λ j lt. built_words b (v.arguments.first + 2 * b + 2 + j) h.1 (omega arith) (omega arith) ∙ h.3 j lt), built_words b (v.arguments.first + 2 * b) h.1 (omega arith) (omega arith) ∙ h.4)
  builds_kept v _ e h = absurd h

  pub stage_kept : (x : Stage) → m.own.stage ≡ x → StageStands code s elements w heap words u m i x → StageStands code s elements w' heap' words' u m i x
  stage_kept Rests q = λ h. tt
  stage_kept (Looks done all) q = let o = subst OnHold (sym q) tt in map_clear _ _ i (λ r c e h. (h.0, (h.1.0, cleared_kept r done e o h.1.1)))
  stage_kept (Clears done all seen) q = let o = subst OnHold (sym q) tt in map_clear _ _ i (λ r c e h. (h.0, swapping_kept r done all seen e o h.1))
  stage_kept (Makes v) q = map_new _ _ i (λ r c n h. (h.0, builds_kept v v.stage (ap (λ (a : NewArguments). a.first) h.0) h.1))
  stage_kept (Empties j all) q = let o = subst OnHold (sym q) tt in map_free _ _ i (λ r l e h. (emptying_kept r l all j e o h.0, h.1))
  stage_kept (Lowers j all found) q = let o = subst OnHold (sym q) tt in map_free _ _ i (λ r l e h. (emptying_kept r l all (j + 1) e o h.0, h.1))
  stage_kept (FreeLooks done all) q = let o = subst OnHold (sym q) tt in map_free _ _ i (λ r l e h. (emptying_kept r l all (all_pointers code l all) e o h.0, (h.1.0, cleared_kept r done e o h.1.1)))
  stage_kept (FreeClears done all seen) q = let o = subst OnHold (sym q) tt in map_free _ _ i (λ r l e h. (emptying_kept r l all (all_pointers code l all) e o h.0, swapping_kept r done (granules_freed code l all) seen e o h.1))
  stage_kept (Uncounts all) q = let o = subst OnHold (sym q) tt in map_free _ _ i (λ r l e h. (emptying_kept r l all (all_pointers code l all) e o h.0, cleared_kept r (granules_freed code l all) e o h.1))
  stage_kept (Links all) q = map_free _ _ i (λ r l e h. let b = k.built u ne (ref m r) h.0 in (b.0, h.1, b.1 ∙ h.2))
  stage_kept (Names n) q = let sp = subst (λ y. SpawnsNow y n) (sym q) refl in map_spawn _ _ i (λ f from h. reserved n sp h)
  stage_kept (Hands n) q = let sp = subst (λ y. SpawnsNow y n) (sym q) refl in map_spawn _ _ i (λ f from h. (reserved n sp h.0, (handed n sp h.0).0 ∙ h.1))
  stage_kept (Begins n) q = let sp = subst (λ y. SpawnsNow y n) (sym q) refl in map_spawn _ _ i (λ f from h. (reserved n sp h.0, (handed n sp h.0).0 ∙ h.1, (handed n sp h.0).1 ∙ h.2))
  stage_kept (Enters f) q = map_start _ _ i (λ h. own ∙ h)
  stage_kept _ q = λ h. h
