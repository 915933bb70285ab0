-- An object that a thread has alone is in no log of held mutexes.
use Rattle.sharc_invariant.proofs.{Imports.{◌≡◌, ℕ, zero, suc, ◌<◌, true, false, cond, List, [], ◌∷◌, Option, Some, refl, sym, ap, ◌∙◌, arith, eqb-true, length, slice_index_or, Contains, ◌==◌, is_some, HeldMutex, object_of, Code, Shape, Machine, reference_of, Global, Targets, Labels, RegisterOf, LogOf, In, World, Sole, in_ref, lang_of, conc_of, cell_at, State, size_of_run, eq_refl}, Effects.only_slot, Seen.cell_cell}

-- the entry that is found of a word that is there
abbrev Found : List HeldMutex → HeldMutex → Option ℕ → Type 0
Found log e o = (h : HeldMutex) × (Contains log h × ((h.word ≡ e.word) × (o ≡ Some h.object)))

found : (log : List HeldMutex) (e : HeldMutex) (k : ℕ) → k < length log → slice_index_or log k e ≡ e → Found log e (object_of log e.word)
found [] e k lt q = absurd (omega arith)
found (a ∷ log) e zero lt q =
    let w : a.word ≡ e.word = ap (λ (h : HeldMutex). h.word) q in
    let b : (a.word == e.word) ≡ true = ap (λ n. n == e.word) w ∙ eq_refl e.word in
    (a, ((0, omega arith, refl), (w, ap (λ b. cond b (Some a.object) (object_of log e.word)) b)))
found (a ∷ log) e (suc k) lt q =
    let r = found log e k (omega arith) q in
    let c = r.1.0 in
    elim (a.word == e.word) as (λ b. (a.word == e.word) ≡ b → Found (a ∷ log) e (cond b (Some a.object) (object_of log e.word))) [
      | true ↦ λ b. (a, ((0, omega arith, refl), (eqb-true a.word e.word b, refl)))
      | false ↦ λ b. (r.0, ((suc c.0, (let z = c.1 in omega arith), c.2), r.1.1))
    ] refl

-- a word that is found in a log is that of an entry
pub logged_entry : (log : List HeldMutex) (word : ℕ) → is_some (object_of log word) ≡ true → (h : HeldMutex) × (Contains log h × (h.word ≡ word))
logged_entry [] word e = absurd (cc)
logged_entry (a ∷ log) word e = elim (a.word == word) as (λ b. (a.word == word) ≡ b → is_some (cond b (Some a.object) (object_of log word)) ≡ true → (h : HeldMutex) × (Contains (a ∷ log) h × (h.word ≡ word))) [
  | true ↦ λ b _. (a, ((0, omega arith, refl), eqb-true a.word word b))
  | false ↦ λ b e. let r = logged_entry log word e in let c = r.1.0 in (r.0, ((suc c.0, (let z = c.1 in omega arith), c.2), r.1.1))
] refl e

pub unlogged : (x : Targets) (code : Code) (s : Shape) (ls : Labels) (g : Global Machine) (world : World) (st : State x code s ls g world) (t k : ℕ) → world.win t ≡ Sole k
    → (u : ℕ) (e : HeldMutex) → Contains (g.threads u).own.held e → e.object ≡ in_ref world (RegisterOf t k) → ⊥
unlogged x code s ls g world st t k win u e c eo =
    let f = found ((g.threads u).own.held) e c.0 c.1 c.2 in
    let h = f.0 in
    let a = st.locks.logged u e c in
    let b = st.locks.logged u h f.1.0 in
    let words : cell_at s h.object b.0 ≡ cell_at s e.object a.0 = sym b.1.0 ∙ f.1.1.0 ∙ a.1.0 in
    let same = cell_cell x s st.cells st.elements (conc_of code g) world st.sim st.apart e.object a.0 h.object b.0 a.1.1 b.1.1 a.1.2 b.1.2 words in
    let log : in_ref world (LogOf u e.word) ≡ h.object = st.sim.logs u e.word ∙ ap reference_of f.1.1.1 in
    only_slot (size_of_run code s) (lang_of x) world st.inv t k win (In (LogOf u e.word)) (λ z. cc) (log ∙ same.0 ∙ eo)
