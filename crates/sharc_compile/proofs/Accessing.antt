-- From the checks of guarded code to those of its code.
use Rattle.sharc_compile.proofs.Imports.{◌≡◌, ℕ, zero, suc, ◌+◌, ◌-◌, ◌<◌, inl, inr, Bool, true, false, List, [], ◌∷◌, length, map, refl, sym, ap, ◌∙◌, subst, arith, Some, slice_get, get_or as slice_index_or, if◌then◌else◌, Code, Function, PlaceMode, Private, Readonly, Racy, Dynamic, LockedGlobal, LockedSibling, LockedThrough, LockedLoaded, SourcePlace, Instr, no_function, place_at, no_place, Guarded, Access, access_of, IsCheckOf, IsGenerated, program_of, instr_of, LeadsTo, IsNoTarget, IsAfterCheck, IsCheckedAt}
use Rattle.sharc_guard.specs.Checked as Guarded

-- the statement of an instruction
record Comes (fs : List Function) (ss : List Instr) (pc : ℕ) (i : Instr) : Type 0 where
  from : Instr
  stands : slice_get ss pc ≡ Some from
  becomes : instr_of fs from ≡ i

comes : (fs : List Function) (ss : List Instr) (pc : ℕ) (i : Instr) → slice_get (map (instr_of fs) ss) pc ≡ Some i → Comes fs ss pc i
comes fs [] pc i e = absurd (cc)
comes fs (s ∷ ss) zero i e = record { from = s; stands = refl; becomes = cc }
comes fs (s ∷ ss) (suc pc) i e = let h = comes fs ss pc i e in record { from = h.from; stands = h.stands; becomes = h.becomes }

goes_to : (fs : List Function) (ss : List Instr) (pc : ℕ) (s : Instr) → slice_get ss pc ≡ Some s → slice_get (map (instr_of fs) ss) pc ≡ Some (instr_of fs s)
goes_to fs [] pc s e = absurd (cc)
goes_to fs (x ∷ ss) zero s e = let h : x ≡ s = cc in ap (λ x. Some (instr_of fs x)) h
goes_to fs (x ∷ ss) (suc pc) s e = goes_to fs ss pc s e

same_access : (fs : List Function) (s : Instr) → access_of (instr_of fs s) ≡ access_of s
same_access fs (Instr.Call f ints refs site) = refl
same_access fs _ = refl

same_check : (fs : List Function) (mode : PlaceMode) (a : Access) (check : Instr) → IsCheckOf mode a check → IsCheckOf mode a (instr_of fs check)
same_check fs Dynamic a check h = ap (instr_of fs) h ∙ by a.is_write
  where
    by : (b : Bool) → instr_of fs (if b then Instr.ChkWrite a.cell a.site else Instr.ChkRead a.cell a.site) ≡ (if b then Instr.ChkWrite a.cell a.site else Instr.ChkRead a.cell a.site)
    by true = refl
    by false = refl
same_check fs (LockedGlobal g place) a check h = ap (instr_of fs) h
same_check fs (LockedThrough r place) a check h = ap (instr_of fs) h
same_check fs (LockedSibling field mutex) a check h = (h.0, ap (instr_of fs) h.1)
same_check fs LockedLoaded a check h = ap (instr_of fs) h
same_check fs Private a check h = absurd h
same_check fs Readonly a check h = absurd h
same_check fs Racy a check h = absurd h

-- a call past the last function leads to place 0
known : (fs : List Function) (f pc : ℕ) → (slice_index_or fs f no_function).entry ≡ pc + 1 → f < length fs
known [] f pc e = absurd (omega arith)
known (x ∷ fs) zero pc e = omega arith
known (x ∷ fs) (suc f) pc e = let h = known fs f pc e in omega arith

module _ (dropped : ℕ → Bool) (g : Guarded) (code : Code) (made : IsGenerated g code) (starts : (i : Instr) (a : Access) → slice_get g.statements.items 0 ≡ Some i → access_of i ≡ Some a → ⊥) where
  abbrev fs : List Function
  fs = g.functions.items

  abbrev ss : List Instr
  ss = g.statements.items

  functions_are : code.functions.items ≡ fs
  functions_are = λ i. (made.functions i).items

  leads : (pc : ℕ) (s : Instr) → LeadsTo (instr_of fs s) (pc + 1) → Guarded.IsNoTarget (program_of g) (pc + 1) → (q : ℕ) → slice_get ss q ≡ Some s → ⊥
  leads pc (Instr.Jump to) l none q e = none.jumps q (Instr.Jump to) e l
  leads pc (Instr.JumpIfZero r to) l none q e = none.jumps q (Instr.JumpIfZero r to) e l
  leads pc (Instr.JumpIfNull r to) l none q e = none.jumps q (Instr.JumpIfNull r to) e l
  leads pc (Instr.Call f ints refs site) l none q e = none.entries f (known fs f pc l) l
  leads pc _ l none q e = absurd l

  -- nothing leads to the place after one, in the code
  no_target : (before : ℕ) → Guarded.IsNoTarget (program_of g) (before + 1) → IsNoTarget code (before + 1)
  no_target before none = record {
    jumps = λ q i e l.
        let c = comes fs ss q i (sym (ap (λ is. slice_get is q) made.instrs) ∙ e) in
        leads before c.from (subst (λ i. LeadsTo i (before + 1)) (sym c.becomes) l) none q c.stands;
    entries = λ f lt e. none.entries f (subst (λ fs. f < length fs) functions_are lt) (sym (ap (λ fs. (slice_index_or fs f no_function).entry) functions_are) ∙ e);
  }

  after_check : (pc : ℕ) (mode : PlaceMode) (a : Access) → Guarded.IsAfterCheck (program_of g) pc mode a → IsAfterCheck code pc mode a
  after_check pc mode a h = record {
    before = h.before;
    before_is = h.before_is;
    check = instr_of fs h.check;
    stands = ap (λ is. slice_get is h.before) made.instrs ∙ goes_to fs ss h.before h.check h.stands;
    checks = same_check fs mode a h.check h.checks;
    no_target = subst (IsNoTarget code) h.before_is (no_target h.before (subst (Guarded.IsNoTarget (program_of g)) (sym h.before_is) h.no_target));
  }

  -- an access is not at place 0, where a call past the last function would lead
  not_first : (pc : ℕ) (i : Instr) (a : Access) → slice_get ss pc ≡ Some i → access_of i ≡ Some a → 0 < pc
  not_first zero i a e is = absurd (starts i a e is)
  not_first (suc pc) i a e is = omega arith

  under : (pc : ℕ) (mode : PlaceMode) (a : Access) → (dropped a.site ≡ true → IsNoTarget code pc) → Guarded.IsCheckedAt dropped (program_of g) pc mode a → IsCheckedAt dropped code pc mode a
  under pc Private a t h = tt
  under pc Readonly a t h = tt
  under pc Racy a t h = tt
  under pc Dynamic a t (inl h) = inl (h, t h)
  under pc Dynamic a t (inr h) = inr (after_check pc Dynamic a h)
  under pc (LockedGlobal m place) a t h = after_check pc (LockedGlobal m place) a h
  under pc (LockedSibling field mutex) a t h = after_check pc (LockedSibling field mutex) a h
  under pc (LockedThrough r place) a t h = after_check pc (LockedThrough r place) a h
  under pc LockedLoaded a t h = after_check pc LockedLoaded a h

  abbrev pub IsChecked : Type 0
  IsChecked = (pc : ℕ) (i : Instr) (a : Access) → slice_get ss pc ≡ Some i → access_of i ≡ Some a → Guarded.IsCheckedAt dropped (program_of g) pc (slice_index_or g.sites.items a.site no_place).mode a

  abbrev pub IsUntargeted : Type 0
  IsUntargeted = (pc : ℕ) (i : Instr) (a : Access) → slice_get ss pc ≡ Some i → access_of i ≡ Some a → dropped a.site ≡ true → Guarded.IsNoTarget (program_of g) pc

  pub checked : IsChecked → IsUntargeted → (pc : ℕ) (i : Instr) (a : Access) → slice_get code.instrs.items pc ≡ Some i → access_of i ≡ Some a → IsCheckedAt dropped code pc (place_at code a.site).mode a
  checked law free pc i a e is =
      let c = comes fs ss pc i (sym (ap (λ is. slice_get is pc) made.instrs) ∙ e) in
      let accesses : access_of c.from ≡ Some a = sym (same_access fs c.from) ∙ ap access_of c.becomes ∙ is in
      let low = not_first pc c.from a c.stands accesses in
      let z : pc - 1 + 1 ≡ pc = omega arith in
      let untargeted : dropped a.site ≡ true → IsNoTarget code pc = λ dr. subst (IsNoTarget code) z (no_target (pc - 1) (subst (Guarded.IsNoTarget (program_of g)) (sym z) (free pc c.from a c.stands accesses dr))) in
      subst (λ (p : SourcePlace). IsCheckedAt dropped code pc p.mode a) (sym (ap (λ (sites : List SourcePlace). slice_index_or sites a.site no_place) (λ i. (made.sites i).items))) (under pc _ a untargeted (law pc c.from a c.stands accesses))
