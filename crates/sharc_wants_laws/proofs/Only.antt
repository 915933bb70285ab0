-- A thread that holds a reference has a register that refers to its object, which is live, and at a test that passed there
-- is only the one that is tested.
use Rattle.sharc_wants_laws.proofs.{Imports.{◌≡◌, ℕ, zero, suc, pos, ◌+◌, ◌<◌, ◌≤◌, ⊎_elim, Bool, true, false, cond, List, [], ◌∷◌, refl, sym, ap, ◌∙◌, subst, arith, get_or, cases_eq, sum_by-cons, count_by, slice_index, SourceEvent, Assignment, NameThemselves, function_at, events_of, Begun, asked_with, held_count, refers, IsNamedAt, Code, Cell, Instr, Free, RaiseLoaded, TestSole, Shape, Stage, Machine, instr_at, begun, Global, MayStart, Targets, Closed, Gate, Label, Labels, LessGate, Loaded, Fine, IsWellTyped, ObjectState, is_freed, label_now, number_in, object_of_cell, IsAlone, MachineInvariant, WindowStands, cell_refers, label_of, register_refers, HoldsRegistered, IsLoadedHere, IsRegistered, HaveBegun}, Seeing.{first_event, no_first, same_function, same_head}}

-- ---- which of a list
module _ {X : Type 0} (p : X → Bool) (d : X) where
  counts : (x : X) (xs : List X) (b : Bool) → p x ≡ b → count_by p (x ∷ xs) ≡ cond b 1 0 + count_by p xs
  counts x xs b e = sum_by-cons (λ x. cond (p x) 1 0) x xs ∙ ap (λ b. cond b 1 0 + count_by p xs) e

  pub one_of : (xs : List X) → 0 < count_by p xs → (j : ℕ) × (p (get_or xs j d) ≡ true)
  one_of [] some = absurd (omega (arith, some))
  one_of (x ∷ xs) some = by (p x) refl (one_of xs)
    where
      by : (b : Bool) → p x ≡ b → (0 < count_by p xs → (j : ℕ) × (p (get_or xs j d) ≡ true)) → (j : ℕ) × (p (get_or (x ∷ xs) j d) ≡ true)
      by true e rest = (0, e)
      by false e rest = let c = counts x xs false e in let r = rest (omega (arith, c, some)) in (suc r.0, r.1)

  pub two_of : (xs : List X) → 1 < count_by p xs → (i : ℕ) × (j : ℕ) × (i ≡ j → ⊥) × (p (get_or xs i d) ≡ true) × (p (get_or xs j d) ≡ true)
  two_of [] some = absurd (omega (arith, some))
  two_of (x ∷ xs) some = by (p x) refl (two_of xs)
    where
      apart : (n : ℕ) → 0 ≡ suc n → ⊥
      apart n e = cc

      by : (b : Bool) → p x ≡ b → (1 < count_by p xs → (i : ℕ) × (j : ℕ) × (i ≡ j → ⊥) × (p (get_or xs i d) ≡ true) × (p (get_or xs j d) ≡ true))
          → (i : ℕ) × (j : ℕ) × (i ≡ j → ⊥) × (p (get_or (x ∷ xs) i d) ≡ true) × (p (get_or (x ∷ xs) j d) ≡ true)
      by true e rest = let c = counts x xs true e in let r = one_of xs (omega (arith, c, some)) in (0, suc r.0, apart r.0, e, r.1)
      by false e rest = let c = counts x xs false e in let r = rest (omega (arith, c, some)) in (suc r.0, suc r.1, (λ q. r.2 (omega (arith, q))), r.3, r.4)

-- ---- labels
same_label : (l : Label) (i : Instr) (stage : Stage) (r : ℕ) → i ≡ RaiseLoaded r → label_now l i stage ≡ l
same_label l i stage r e = ap (λ i. label_now l i stage) e

not_closed : (a b : Gate) → a ≡ Closed → (c : Cell) → b ≡ Loaded c → LessGate a b → ⊥
not_closed a b closed c loaded less = let h : Loaded c ≡ Closed = subst (λ b. LessGate Closed b) loaded (subst (λ a. LessGate a b) closed less) in cc

-- ---- at a place of a run
module _ (x : Targets) (code : Code) (s : Shape) (ls : Labels) (wt : IsWellTyped x code ls) (g : Global Machine) (obj : ℕ → ObjectState) (inv : MachineInvariant x code s ls g obj)
    (unstarted : (u : ℕ) → g.started u ≡ false → g.threads u ≡ begun code s u) where
  raised_at : (u pc register : ℕ) → instr_at code pc ≡ RaiseLoaded register → Fine x code ls pc (ls.at pc) (RaiseLoaded register)
  raised_at u pc register is = subst (Fine x code ls pc (ls.at pc)) is (wt.fine pc)

  -- what is raised next is still in its cell
  pub loaded_there : (u n : ℕ) → (n ≡ 0 → ⊥) → IsLoadedHere code (g.threads u) n → (p : ℕ) × (i : ℕ) × (cell_refers x s g obj p i ≡ n)
  loaded_there u n some w = by (g.started u) refl
    where
      by : (b : Bool) → g.started u ≡ b → (p : ℕ) × (i : ℕ) × (cell_refers x s g obj p i ≡ n)
      by false e = absurd (some (sym w.loaded ∙ ap (λ (m : Machine). m.pending) (unstarted u e)))
      by true e = ⊎_elim here behind w.near
        where
          here : w.place ≡ (g.threads u).at.pc → (p : ℕ) × (i : ℕ) × (cell_refers x s g obj p i ≡ n)
          here place =
              let m = g.threads u in
              let is : instr_at code m.at.pc ≡ RaiseLoaded w.register = ap (instr_at code) (sym place) ∙ w.next in
              let fine = raised_at u m.at.pc w.register is in
              let gate : (label_of code ls m).gate ≡ Loaded fine.1.0 = ap (λ (l : Label). l.gate) (same_label (ls.at m.at.pc) (instr_at code m.at.pc) m.own.stage w.register is) ∙ fine.1.3 in
              let window = subst (WindowStands x code s g obj u m) gate (inv.windows u (e, w.on)) in
              (object_of_cell m fine.1.0, number_in m fine.1.0, window.1 ∙ w.loaded)

          behind : (w.place ≡ (g.threads u).at.pc + 1) × ((register : ℕ) × (layout : ℕ) × (site : ℕ) × (instr_at code (g.threads u).at.pc ≡ Free register layout site)) → (p : ℕ) × (i : ℕ) × (cell_refers x s g obj p i ≡ n)
          behind f =
              let pc = (g.threads u).at.pc in
              let fine : Fine x code ls pc (ls.at pc) (Free f.1.0 f.1.1 f.1.2) = subst (Fine x code ls pc (ls.at pc)) f.1.3 (wt.fine pc) in
              let raise = raised_at u (pc + 1) w.register (ap (instr_at code) (sym f.0) ∙ w.next) in
              absurd (not_closed Closed (ls.at (pc + 1)).gate refl raise.1.0 raise.1.3 fine.4.gate)

  -- what a thread has in a register, or has loaded, is live
  pub registered_live : (u n : ℕ) → (n ≡ 0 → ⊥) → IsRegistered code (g.threads u) n → (obj n).live ≡ true
  registered_live u n some = ⊎_elim
      (λ (r : (k : ℕ) × (register_refers code g u k ≡ n)). subst (λ o. (obj o).live ≡ true) r.1 (inv.registers u r.0 (λ z. some (sym r.1 ∙ z))).live)
      (λ (w : IsLoadedHere code (g.threads u) n).
      let c = loaded_there u n some w in
      subst (λ o. (obj o).live ≡ true) c.2 (inv.cells c.0 c.1 (λ z. some (sym c.2 ∙ z))).live)

-- ---- at the place of a test
module _ (x : Targets) (code : Code) (s : Shape) (ls : Labels) (wt : IsWellTyped x code ls) (g : Global Machine) (obj : ℕ → ObjectState) (inv : MachineInvariant x code s ls g obj)
    (unstarted : (u : ℕ) → g.started u ≡ false → g.threads u ≡ begun code s u) (t k n : ℕ) (alone : IsAlone x code s g obj t k n) where
  no_loaded : (u : ℕ) → IsLoadedHere code (g.threads u) n → ⊥
  no_loaded u w = let c = loaded_there x code s ls wt g obj inv unstarted u n alone.some w in alone.cells c.0 c.1 c.2

  module _ (m : Assignment) (R : List SourceEvent) (u : ℕ) (b : Begun m R u) (h : HoldsRegistered code (g.threads u) b) (from : ℕ) where
    abbrev later : ℕ
    later = h.fuel + from

    enough : h.fuel ≤ h.fuel + from
    enough = omega arith

    -- who holds one is the thread that tests
    is_tester : 0 < held_count (asked_with b (h.fuel + from)) n → u ≡ t
    is_tester some =
        let there = one_of (refers n) (pos 0) (asked_with b later).held some in
        ⊎_elim
        (λ (r : (k : ℕ) × (register_refers code g u k ≡ n)). (alone.registers u r.0 r.1).0)
        (λ (w : IsLoadedHere code (g.threads u) n). absurd (no_loaded u w))
        (h.held later enough there.0 n there.1)

    -- and it holds one alone
    is_one : (r site : ℕ) → instr_at code (g.threads u).at.pc ≡ TestSole r site → 1 < held_count (asked_with b (h.fuel + from)) n → ⊥
    is_one r site tests two =
        let at = g.threads u in
        let p = two_of (refers n) (pos 0) (asked_with b later).held two in
        let whole : (j : ℕ) → register_refers code g u j ≡ slice_index at.refs j = λ j. ap (λ i. cond (is_freed i at.own.stage at.at.refs j) 0 (slice_index at.refs j)) tests in
        let first = (alone.registers u p.0 (whole p.0 ∙ h.tested r site tests later enough p.0 n p.3)).1 in
        let second = (alone.registers u p.1 (whole p.1 ∙ h.tested r site tests later enough p.1 n p.4)).1 in
        p.2 (first ∙ sym second)

    pub held_once : (register site : ℕ) → instr_at code (g.threads t).at.pc ≡ TestSole register site → (which : ℕ) → ((fuel : ℕ) → from ≤ fuel → which < held_count (asked_with b fuel) n) → (u ≡ t) × (which ≡ 0)
    held_once register site tests which holds =
        let most = holds later (omega arith) in
        let same : u ≡ t = is_tester (omega (arith, most)) in (
          same,
          ⊎_elim
              (λ (e : which ≡ 0). e)
              (λ (ne : which ≡ 0 → ⊥). absurd (is_one register site (subst (λ v. instr_at code (g.threads v).at.pc ≡ TestSole register site) (sym same) tests) (above which (held_count (asked_with b later) n) ne most)))
              (cases_eq which 0),
        )
      where
        above : (w c : ℕ) → (w ≡ 0 → ⊥) → w < c → 1 < c
        above zero c ne lt = absurd (ne refl)
        above (suc w) c ne lt = omega (arith, lt)

-- ---- the function with which it was begun
pub may_start : (m : Assignment) → NameThemselves m.typed → (R : List SourceEvent) → HaveBegun m R → (u : ℕ) (b : Begun m R u) → MayStart m b.own.function
may_start m names R have u b = ⊎_elim
    (λ (none : events_of u R ≡ []). absurd (no_first b.own.begins (events_of u b.own.after) (sym (own b) ∙ none)))
    (λ (k : (c : Begun m R u) × MayStart m c.own.function).
    let begins : k.0.own.begins ≡ b.own.begins = same_head k.0.own.begins b.own.begins (events_of u k.0.own.after) (events_of u b.own.after) (sym (own k.0) ∙ own b) in
    subst (MayStart m) (same_function m.typed names k.0.own.function b.own.function b.own.begins.site (subst (λ (e : SourceEvent). IsNamedAt (function_at m.typed k.0.own.function) e.site) begins k.0.own.site) b.own.site) k.1)
    (have u)
  where
    own : (b : Begun m R u) → events_of u R ≡ b.own.begins ∷ events_of u b.own.after
    own b = first_event u R b.own.before b.own.begins b.own.after b.own.stands b.own.first b.own.own
