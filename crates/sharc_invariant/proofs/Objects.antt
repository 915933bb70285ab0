-- An object comes: what its words and its granules are.
use Rattle.sharc_invariant.proofs.{Imports.{◌≡◌, ℕ, ◌+◌, ◌*◌, ◌^◌, ◌<◌, ◌≤◌, true, false, cond, refl, sym, ap, ◌∙◌, subst, ⊎_elim, arith, cases_eq, nat_tests, nat_lt, min, max, block_of, Char, Int, Long, Shape, put, put_same, put_other, GranuleState, Bits, Targets, ObjectType, Content, field_in, is_pointer, is_mutex, type_at, Integer, In, RegisterOf, CellOf, TypedReference, ObjectState, World, make, null, place, MachineView, Reads, FitsContent, lang_of, Shows, shown, cell_at, count_at, length_at, shadow_at, fresh_granule, block_for}}

-- ---- what zeros are
pub zero_fits : (h : Content) → FitsContent h 0
zero_fits (Integer Char) = refl
zero_fits (Integer Int) = refl
zero_fits (Integer Long) = refl
zero_fits _ = tt

-- the block is the one for the cells
pub block_is : (c : ℕ) → 1 ≤ c → c ≤ 2 ^ 32 → block_for c ≡ block_of c
unfolding block_for
block_is c lo hi = let e : min (max 1 c) (2 ^ 32) ≡ c = omega arith in ap block_of e

-- where nothing was noted in this epoch a granule is sound
pub stale_sound : (n : ℕ) (y : GranuleState) → ((t : ℕ) → (y.read_note t ≤ y.epoch) × (y.write_note t ≤ y.epoch)) → Bits n y
stale_sound n y h = record {
  low = λ t. ⊎_elim (λ e. let a = (h t).0 in absurd (omega arith)) (λ e. let a = (h t).1 in absurd (omega arith));
  read_low = λ t. let a = (h t).0 in omega arith;
  write_low = λ t. let a = (h t).1 in omega arith;
  bit = λ t. ⊎_elim (λ e. let a = (h t).0 in absurd (omega arith)) (λ e. let a = (h t).1 in absurd (omega arith));
  written = λ t e. let a = (h t).1 in absurd (omega arith);
  alone = λ t u e _. let a = (h t).1 in absurd (omega arith);
}

-- the granules of a new object, as they are found
abbrev pub found_granules : Shape → MachineView → ℕ → ℕ → ℕ → GranuleState
found_granules s c b cells j = cond (nat_lt (2 * j) cells) (shown s c (b + 1 + j)) fresh_granule

-- ---- numbers
pub positive : (e c : ℕ) → 1 ≤ e → 1 ≤ c → 1 ≤ e * c
positive e c p q = grind arith

pub factor_low : (e c : ℕ) → 1 ≤ c → e ≤ e * c
factor_low e c p = grind arith

-- ---- an object comes, with zeros in its cells
module _ (x : Targets) (s : Shape) (cells elements : ℕ → ℕ) (c : MachineView) (w : World) (t k b : ℕ) (ty : ObjectType) (size many : ℕ)
    (sim : Shows x s cells elements c (record w { slots = place w.slots (In (RegisterOf t k)) (record { ty = ty; reference = b }) })) (gone : (w.obj b).live ≡ false) (dead : (i : ℕ) → (w.slots (CellOf b i)).reference ≡ 0)
    (unlocked : (j : ℕ) → w.mutex b j ≡ 0) (zeros : (i : ℕ) → i < size → c.words (cell_at s b i) ≡ 0) (one' : c.words (count_at s b) ≡ 1) (len : c.words (length_at s b) ≡ many) where
  abbrev G : ℕ → GranuleState
  G = found_granules s c b size

  abbrev w' : World
  w' = make (lang_of x) w (RegisterOf t k) b ty G

  abbrev new : ObjectState
  new = record { live = true; global = false; ty = ty; owner = t }

  was : (p : ℕ) → (p ≡ b → ⊥) → put w.obj b new p ≡ w.obj p
  was p ne = put_other w.obj b p new ne

  cell_was : (p i : ℕ) → (p ≡ b → ⊥) → w'.slots (CellOf p i) ≡ w.slots (CellOf p i)
  cell_was p i ne = ap (λ (f : ℕ → TypedReference). f i) (put_other (λ p i. w.slots (CellOf p i)) b p (λ i. null (type_at x ty b i)) ne)

  cell_new : (i : ℕ) → (w'.slots (CellOf b i)).reference ≡ 0
  cell_new i = ap (λ (f : ℕ → TypedReference). (f i).reference) (put_same (λ p i. w.slots (CellOf p i)) b (λ i. null (type_at x ty b i)))

  not_b : (p : ℕ) → (w.obj p).live ≡ true → p ≡ b → ⊥
  not_b p e q = let z : (w.obj b).live ≡ true = subst (λ p. (w.obj p).live ≡ true) q e in cc

  pub made_sim : Shows x s (put cells b size) (put elements b many) c w'
  made_sim = record {
    regs = sim.regs;
    args = sim.args;
    logs = sim.logs;
    staged = sim.staged;
    pointers = λ p i lp lt pt. ⊎_elim
        (λ (e : p ≡ b).
        let lt' : i < size = subst (λ n. i < n) (ap (put cells b size) e ∙ put_same cells b size) lt in
        ap (λ p. (w'.slots (CellOf p i)).reference) e ∙ cell_new i ∙ sym (zeros i lt') ∙ ap (λ p. c.words (cell_at s p i)) (sym e))
        (λ (ne : p ≡ b → ⊥). ap (λ (h : TypedReference). h.reference) (cell_was p i ne) ∙ sim.pointers p i (old p ne lp) (subst (λ n. i < n) (put_other cells b p size ne) lt) (subst (λ (y : ObjectState). is_pointer (field_in x y.ty i).holds ≡ true) (was p ne) pt))
        (cases_eq p b);
    others = λ p i ne. ⊎_elim
        (λ (e : p ≡ b). absurd (ne (ap (λ p. (w'.slots (CellOf p i)).reference) e ∙ cell_new i)))
        (λ (nb : p ≡ b → ⊥).
        let z = sim.others p i (λ q. ne (ap (λ (h : TypedReference). h.reference) (cell_was p i nb) ∙ q)) in
        (subst (λ n. i < n) (sym (put_other cells b p size nb)) z.0, subst (λ (y : ObjectState). is_pointer (field_in x y.ty i).holds ≡ true) (sym (was p nb)) z.1))
        (cases_eq p b);
    integers = λ p i lp lt. ⊎_elim
        (λ (e : p ≡ b).
        let lt' : i < size = subst (λ n. i < n) (ap (put cells b size) e ∙ put_same cells b size) lt in
        subst (FitsContent (field_in x (put w.obj b new p).ty i).holds) (sym (ap (λ p. c.words (cell_at s p i)) e ∙ zeros i lt')) (zero_fits (field_in x (put w.obj b new p).ty i).holds))
        (λ (ne : p ≡ b → ⊥). subst (λ (y : ObjectState). FitsContent (field_in x y.ty i).holds (c.words (cell_at s p i))) (sym (was p ne)) (sim.integers p i (old p ne lp) (subst (λ n. i < n) (put_other cells b p size ne) lt)))
        (cases_eq p b);
    counts = λ p nz lp. ⊎_elim
        (λ (e : p ≡ b). ap (put w.count b 1) e ∙ put_same w.count b 1 ∙ sym one' ∙ ap (λ p. c.words (count_at s p)) (sym e))
        (λ (ne : p ≡ b → ⊥). put_other w.count b p 1 ne ∙ sim.counts p nz (old p ne lp))
        (cases_eq p b);
    lengths = λ p nz lp. ⊎_elim
        (λ (e : p ≡ b). ap (put elements b many) e ∙ put_same elements b many ∙ sym len ∙ ap (λ p. c.words (length_at s p)) (sym e))
        (λ (ne : p ≡ b → ⊥). put_other elements b p many ne ∙ sim.lengths p nz (old p ne lp))
        (cases_eq p b);
    mutexes = λ p i lp lt mx. ⊎_elim
        (λ (e : p ≡ b).
        let lt' : i < size = subst (λ n. i < n) (ap (put cells b size) e ∙ put_same cells b size) lt in
        ap (λ p. w.mutex p i) e ∙ unlocked i ∙ sym (zeros i lt') ∙ ap (λ p. c.words (cell_at s p i)) (sym e))
        (λ (ne : p ≡ b → ⊥). sim.mutexes p i (old p ne lp) (subst (λ n. i < n) (put_other cells b p size ne) lt) (subst (λ (y : ObjectState). is_mutex (field_in x y.ty i).holds ≡ true) (was p ne) mx))
        (cases_eq p b);
    shadows = λ p j lp lt. ⊎_elim
        (λ (e : p ≡ b).
        let lt' : 2 * j < size = subst (λ n. 2 * j < n) (ap (put cells b size) e ∙ put_same cells b size) lt in
        let P : ℕ → GranuleState → Type 0 = λ p y. Reads (c.words (shadow_at s (p + 1 + j))) c.read_notes c.write_notes (p + 1 + j) y in
        let here : P b (shown s c (b + 1 + j)) = record { epoch = refl; wrote = refl; has = λ u. refl; read_note = λ u. refl; write_note = λ u. refl } in
        let t1 : nat_lt (2 * j) size ≡ true = grind (arith, nat_tests) in
        let at : put w.gran b G p j ≡ shown s c (b + 1 + j) = ap (λ p. put w.gran b G p j) e ∙ ap (λ (f : ℕ → GranuleState). f j) (put_same w.gran b G) ∙ ap (λ q. cond q (shown s c (b + 1 + j)) fresh_granule) t1 in
        subst (P p) (sym at) (subst (λ p. P p (shown s c (b + 1 + j))) (sym e) here))
        (λ (ne : p ≡ b → ⊥). subst (λ (f : ℕ → GranuleState). Reads (c.words (shadow_at s (p + 1 + j))) c.read_notes c.write_notes (p + 1 + j) (f j)) (sym (put_other w.gran b p G ne)) (sim.shadows p j (old p ne lp) (subst (λ n. 2 * j < n) (put_other cells b p size ne) lt)))
        (cases_eq p b);
    stale = λ p lt none' u. sim.stale p lt (λ q j lq lj e. let ne = not_b q lq in none' q j (ap (λ (y : ObjectState). y.live) (was q ne) ∙ lq) (subst (λ n. 2 * j < n) (sym (put_other cells b q size ne)) lj) e) u;
  }
    where
      old : (p : ℕ) → (p ≡ b → ⊥) → (put w.obj b new p).live ≡ true → (w.obj p).live ≡ true
      old p ne e = sym (ap (λ (y : ObjectState). y.live) (was p ne)) ∙ e
