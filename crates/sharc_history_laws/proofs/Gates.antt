-- Where a reference was loaded and is not raised the place's gate says so, and a Free that is to put its block into a list goes on.
use Rattle.sharc_history_laws.proofs.{Imports.{◌≡◌, ℕ, zero, suc, ◌+◌, ◌⊎◌, inl, inr, Bool, true, false, List, refl, sym, ap, ◌∙◌, subst, ⊎_elim, ◌==◌, Code, Cell, Instr, Shape, Links, Rests, cell_of, cell_word, Machine, act, goes, accessed, set_ref, raise, is_held, lock_checked, free, layout_at, instr_at, TurnsComeOut, is_load, turn, after, may_go, Targets, Closed, Holds, Sole, Label, Labels, Fine, World, Heap, StageStands, OnFree, WasLoaded, yes}, Outcomes.{loaded_or_gone, links_on}}

-- ---- what was loaded
closed : (l : Label) → l.gate ≡ Closed → WasLoaded l.gate → ⊥
closed l e h = subst WasLoaded e h

held : (l : Label) (c : Cell) → l.gate ≡ Holds c → WasLoaded l.gate → ⊥
held l c e h = subst WasLoaded e h

sole : (l : Label) (r : ℕ) (cleared : Bool) → l.gate ≡ Sole r cleared → WasLoaded l.gate → ⊥
sole l r cleared e h = subst WasLoaded e h

-- instructions that may come where a reference was loaded
abbrev pub takes_loaded : Instr → Bool
takes_loaded (Instr.ChkLockLoaded site) = true
takes_loaded (Instr.Load r c site) = true
takes_loaded (Instr.Store r c site) = true
takes_loaded (Instr.LoadRef c site) = true
takes_loaded (Instr.Exchange r c site) = true
takes_loaded (Instr.RaiseLoaded r) = true
takes_loaded (Instr.TakeCell r c site) = true
takes_loaded _ = false

-- at the others none was
pub unloaded : (x : Targets) (code : Code) (ls : Labels) (pc : ℕ) (l : Label) (i : Instr) → takes_loaded i ≡ false → Fine x code ls pc l i → WasLoaded l.gate → ⊥
unloaded x code ls pc l (Instr.Move r from) e f = ⊎_elim (λ h. closed l h.0) (λ h. closed l h.3.0) f
unloaded x code ls pc l (Instr.ComputeInt operator r a b site) e f = closed l f.1.0
unloaded x code ls pc l (Instr.ComputeLong operator r a b site) e f = closed l f.1.0
unloaded x code ls pc l (Instr.Complement r a) e f = closed l f.2.0
unloaded x code ls pc l (Instr.ChkWidth width r site) e f = ⊎_elim (λ h. closed l h.0) (λ h. closed l h.0) f
unloaded x code ls pc l (Instr.ChkLockLoaded site) e f = absurd (yes e)
unloaded x code ls pc l (Instr.Load r c site) e f = absurd (yes e)
unloaded x code ls pc l (Instr.Store r c site) e f = absurd (yes e)
unloaded x code ls pc l (Instr.LoadRef c site) e f = absurd (yes e)
unloaded x code ls pc l (Instr.Exchange r c site) e f = absurd (yes e)
unloaded x code ls pc l (Instr.RaiseLoaded r) e f = absurd (yes e)
unloaded x code ls pc l (Instr.TakeCell r c site) e f = absurd (yes e)
unloaded x code ls pc l (Instr.Clear r cells) e f = sole l r false f.0
unloaded x code ls pc l (Instr.Give r site) e f = sole l r true f.0
unloaded x code ls pc l (Instr.Free r layout site) e f = sole l r f.0.0 f.0.1
unloaded x code ls pc l (Instr.Unlock r c site) e f = held l c f.0
unloaded x code ls pc l (Instr.CondEnter c site) e f = ⊎_elim (λ h. closed l h) (λ h. held l h.0 h.1) f.0
unloaded x code ls pc l _ e f = closed l f.0

-- what the thread has loaded is 0, or its place's gate says that it was loaded
abbrev pub LoadedStands : Labels → Machine → Type 0
LoadedStands ls m = (m.pending ≡ 0) ⊎ WasLoaded (ls.at m.at.pc).gate

module _ (x : Targets) (code : Code) (s : Shape) (ls : Labels) (m : Machine) where
  abbrev here : Label
  here = ls.at m.at.pc

  pub no_pending : (i : Instr) → takes_loaded i ≡ false → Fine x code ls m.at.pc here i → LoadedStands ls m → m.pending ≡ 0
  no_pending i e fine h = ⊎_elim (λ (z : m.pending ≡ 0). z) (λ was. absurd (unloaded x code ls m.at.pc here i e fine was)) h

  stands_on : TurnsComeOut → (i : Instr) (found : ℕ) → takes_loaded i ≡ false → is_load i ≡ false → Fine x code ls m.at.pc here i → LoadedStands ls m → LoadedStands ls (after (act code s i m) found)
  stands_on outs i found e other fine h =
      let y = after (act code s i m) found in
      let z = no_pending i e fine h in
      ⊎_elim (λ (q : y.pending ≡ m.pending). inl (q ∙ z)) (λ (q : y.pending ≡ 0). inl q) (loaded_or_gone s i found m y (outs code s i m found) other)

  raised : (h found : ℕ) (y : Machine) → y.pending ≡ 0 → (after (raise s h y) found).pending ≡ 0
  raised zero found y e = e
  raised (suc h) found y e = e

  if_checked : (null held : Bool) (mutex site : ℕ) → is_held m mutex ≡ held → WasLoaded (ls.at (m.at.pc + 1)).gate → LoadedStands ls m → LoadedStands ls (lock_checked m null mutex site)
  if_checked true held mutex site is next h = h
  if_checked false true mutex site is next h = rw (is, lock_checked) (inr next)
  if_checked false false mutex site is next h = rw (is, lock_checked) h

  pub loaded_still : TurnsComeOut → (i : Instr) (found : ℕ) → Fine x code ls m.at.pc here i → LoadedStands ls m → LoadedStands ls (after (act code s i m) found)
  loaded_still outs (Instr.ChkLockLoaded site) found fine h =
      let mutex = cell_word s (cell_of m.pending 0) in
      if_checked (m.pending == 0) (is_held m mutex) mutex site refl (subst WasLoaded (sym fine.5.gate) tt) h
  loaded_still outs (Instr.LoadRef c site) found fine h = inr (subst WasLoaded (sym fine.4.gate) tt)
  loaded_still outs (Instr.Load r c site) found fine h = inl refl
  loaded_still outs (Instr.Store r c site) found fine h = inl refl
  loaded_still outs (Instr.Exchange r c site) found fine h = inl refl
  loaded_still outs (Instr.TakeCell r c site) found fine h = inl refl
  loaded_still outs (Instr.RaiseLoaded r) found fine h = inl (raised m.pending found (goes (accessed (set_ref m r m.pending))) refl)
  loaded_still outs i found fine h = stands_on outs i found refl refl fine h

-- ---- the last turn of a Free
no_free : (P : ℕ → ℕ → Type 0) (i : Instr) → OnFree P i → (r : ℕ) × (layout : ℕ) × (site : ℕ) × (i ≡ Instr.Free r layout site)
no_free P (Instr.Free r layout site) h = (r, layout, site, refl)
no_free P _ h = absurd h

module _ (code : Code) (s : Shape) (m : Machine) where
  -- where the thread is not to link its block, or goes on
  abbrev pub LinksOn : Machine → Type 0
  LinksOn y = (e : ℕ) → y.own.stage ≡ Links e → may_go y.at.state ≡ true

  linked : TurnsComeOut → (i : Instr) (found e : ℕ) → (m.own.stage ≡ Links e → (r : ℕ) × (layout : ℕ) × (site : ℕ) × (i ≡ Instr.Free r layout site)) → (after (act code s i m) found).own.stage ≡ Links e → may_go (after (act code s i m) found).at.state ≡ true
  linked outs i found e free_at q = ⊎_elim
      (λ (z : m.own.stage ≡ Links e).
      let k = free_at z in
      let y : (after (act code s i m) found).own.stage ≡ (after (free code s m k.0 (layout_at code k.1) (Links e)) found).own.stage =
      ap (λ i. (after (act code s i m) found).own.stage) k.3 ∙ ap (λ stage. (after (free code s m k.0 (layout_at code k.1) stage) found).own.stage) z in
      absurd (let f : Links e ≡ Rests = sym q ∙ y in cc))
      (λ (go : may_go (after (act code s i m) found).at.state ≡ true). go)
      (links_on s i found m _ (outs code s i m found) e q)

  pub links_still : TurnsComeOut → (elements : ℕ → ℕ) (w : World) (heap : Heap) (words : List ℕ) (t found : ℕ) → StageStands code s elements w heap words t m (instr_at code m.at.pc) m.own.stage → LinksOn (after (turn code s m) found)
  links_still outs elements w heap words t found stands e q =
      let i = instr_at code m.at.pc in
      linked outs i found e (λ z. no_free _ i (subst (StageStands code s elements w heap words t m i) z stands)) q
