-- With an access that was refused a source run goes on, and obeys no more.
use Rattle.sharc_sound_laws.proofs.{Imports.{◌≡◌, ◌≢◌, ℕ, ◌+◌, ◌⊎◌, inl, inr, ⊎_elim, Bool, true, false, List, [], ◌∷◌, ◌++◌, Some, None, refl, sym, ap, ◌∙◌, subst, append_assoc, Act, CellAt, SourceEvent, CellMode, Taken, Assignment, Access, access_by, events_of, holds_mutex, AskLaws, Asked, AlwaysObeys, History, Obeys, until_gone, SourceRun, Outcome, wants, ended, stopped, Code, PlaceMode, Dynamic, Cell, Instr, Shape, TurnState, Stopped, Ended, NoLock, Machine, instr_at, may_go, Turn, cell_at, mode_of, place_at, place_after, IsUnder, BreaksRules, GoesOn, WasMade, IsNextOf, site_of_check, Accesses, ChecksAreFollowed, IsFollowed, access_of, access_to, history_of, IsLockCheck, LacksLock, IsNotThere, WantsAccess, WantsBy, StopsOrWantsUnder, access_tested, IsPlaced, StandsAt}, Standing.{grows, stays}}
use Rattle.sharc_meaning.specs.Laws.{RunLaws}

-- ---- what an instruction is about
-- the access that it makes
makes : (code : Code) (at : Machine) (o : Outcome) (b : Access) (i : Instr) → WantsBy code at o i → access_of code at i ≡ Some b → (site : ℕ) × WantsAccess code o site b
makes code at o b (Instr.Load r c site) w e = (site, (w.0, w.1, w.2 ∙ e))
makes code at o b (Instr.Store r c site) w e = (site, (w.0, w.1, w.2 ∙ e))
makes code at o b (Instr.LoadRef c site) w e = (site, (w.0, w.1, w.2 ∙ e))
makes code at o b (Instr.Exchange r c site) w e = (site, (w.0, w.1, w.2 ∙ e))
makes code at o b (Instr.TakeCell r c site) w e = (site, (w.0, w.1, w.2 ∙ e))
makes code at o b _ w e = cc

-- the access behind a check of it
behind : (code : Code) (at : Machine) (write : Bool) (c : Cell) (site : ℕ) (i : Instr) → (place_at code site).mode ≡ Dynamic → Accesses write c site i → access_of code at i ≡ Some (access_tested code at c write)
behind code at write c site i dynamic h = by_instr write i h
  where
    same : (w : Bool) (d : Cell) (site2 : ℕ) → (c ≡ d) × (site ≡ site2) → Some (access_to code at d site2 w) ≡ Some (access_tested code at c w)
    same w d site2 q =
        ap (λ d. Some (access_to code at d site2 w)) (sym q.0) ∙ ap (λ n. Some (access_to code at c n w)) (sym q.1)
        ∙ ap (λ (mode : PlaceMode). Some (record { cell = cell_at code at c; mode = mode_of code at (cell_at code at c) mode; is_write = w })) dynamic

    by_instr : (w : Bool) (i : Instr) → Accesses w c site i → access_of code at i ≡ Some (access_tested code at c w)
    by_instr false (Instr.Load r d site2) q = same false d site2 q
    by_instr false (Instr.LoadRef d site2) q = same false d site2 q
    by_instr true (Instr.Store r d site2) q = same true d site2 q
    by_instr true (Instr.Exchange r d site2) q = same true d site2 q
    by_instr true (Instr.TakeCell r d site2) q = same true d site2 q
    by_instr w _ q = absurd q

-- and the one that it checks
checks : (code : Code) (at : Machine) (o : Outcome) (a : Access) (site : ℕ) (i next : Instr) → IsFollowed code i next → access_of code at next ≡ Some a → site_of_check i ≡ Some site → WantsBy code at o i → (n : ℕ) × WantsAccess code o n a
checks code at o a site (Instr.ChkRead c n) next follows is at_site w = (n, (w.0, w.1, w.2 ∙ sym (behind code at false c n next follows.0 follows.1) ∙ is))
checks code at o a site (Instr.ChkWrite c n) next follows is at_site w = (n, (w.0, w.1, w.2 ∙ sym (behind code at true c n next follows.0 follows.1) ∙ is))
checks code at o a site _ next follows is at_site w = cc

-- a check is no access
no_both : (code : Code) (at : Machine) (b : Access) (site : ℕ) (i : Instr) → site_of_check i ≡ Some site → access_of code at i ≡ Some b → ⊥
no_both code at b site (Instr.ChkRead c n) e q = cc
no_both code at b site _ e q = cc

-- an access under a mutex
under : (mutex : CellAt) (act : Act) → IsUnder mutex act → (a : Access) × (access_by act ≡ Some a) × (a.mode ≡ CellMode.Locked (Some mutex))
under mutex (Act.Read c mode) h = (record { cell = c; mode = mode; is_write = false }, refl, h)
under mutex (Act.Write c mode v) h = (record { cell = c; mode = mode; is_write = true }, refl, h)
under mutex (Act.Take (Taken.Cell c mode) kind) h = (record { cell = c; mode = mode; is_write = true }, refl, h)
under mutex _ h = absurd h

-- a check of a lock has not ended
not_ended : (code : Code) (at : Machine) (o : Outcome) (site : ℕ) (mutex : CellAt) (i : Instr) → IsLockCheck code at i site mutex → WantsBy code at o i → o ≡ ended → ⊥
not_ended code at o site mutex i check w is = by_instr i check w
  where
    either : (n : ℕ) (c : CellAt) → StopsOrWantsUnder code o n c → ⊥
    either n c (inl q) = let z : ended ≡ stopped _ _ = sym is ∙ q in cc
    either n c (inr q) = let z : ended ≡ wants _ = sym is ∙ q.1 in cc

    by_instr : (i : Instr) → IsLockCheck code at i site mutex → WantsBy code at o i → ⊥
    by_instr (Instr.ChkLock c n) check w = either n (cell_at code at c) w
    by_instr (Instr.ChkLockLoaded n) check w = either n _ w
    by_instr _ check w = absurd check

module _ (ask : AskLaws) (laws : RunLaws) (m : Assignment) (always : AlwaysObeys m) (code : Code) (starts : instr_at code 0 ≡ Instr.Start 0) (s : Shape) where
  abbrev Placed : List Turn → ℕ → Type 0
  Placed run t = IsNotThere (history_of code s run) t ((place_after code s run).threads t) ⊎ IsPlaced m code (history_of code s run) t ((place_after code s run).threads t)

  -- ---- A1 and A2
  module _ (follows : ChecksAreFollowed code) (run : List Turn) (h : BreaksRules code s run) (placed : (t : ℕ) → Placed h.before t) (source : SourceRun m (history_of code s h.before)) where
    abbrev R : History
    R = history_of code s h.before

    abbrev t : ℕ
    t = h.report.thread

    abbrev at : Machine
    at = (place_after code s h.before).threads h.report.thread

    abbrev i : Instr
    i = instr_at code ((place_after code s h.before).threads h.report.thread).at.pc

    -- the thread that was refused wants the access
    wants_refused : IsPlaced m code R t at → (come : Asked) × StandsAt m R t come × ((n : ℕ) × WantsAccess code come.outcome n h.access)
    wants_refused p = (p.come, p.stands, checks code at p.come.outcome h.access h.conflict.site i (instr_at code (at.at.pc + 1)) (follows at.at.pc) h.is h.is_check.site_is p.next)

    refused_there : (k : IsPlaced m code R t at → ⊥) → ⊥
    refused_there k = ⊎_elim
        (λ (n : IsNotThere R t at). let q : None ≡ Some h.conflict.site = ap site_of_check (sym (ap (instr_at code) n.first ∙ starts)) ∙ h.is_check.site_is in cc)
        k
        (placed t)

    alone : IsPlaced m code R t at → ((e : SourceEvent) → e.thread ≡ t → access_by e.act ≡ Some h.access → Obeys (R ++ e ∷ []) until_gone → ⊥) → ⊥
    alone p breaks =
        let w = wants_refused p in
        let g = grows m R t w.0 w.1 ask laws source (place_at code w.2.0).site w.2.1.0 h.access w.2.1.1 w.2.1.2 in
        breaks g.0 g.1 (ap access_by g.2 ∙ w.2.1.2) (always (R ++ g.0 ∷ []) g.3)

    other : IsPlaced m code R t at → (j : ℕ) → (b : Access) → access_of code ((place_after code s h.before).threads j) (instr_at code ((place_after code s h.before).threads j).at.pc) ≡ Some b → IsPlaced m code R j ((place_after code s h.before).threads j)
        → ((d e : SourceEvent) → d.thread ≡ j → access_by d.act ≡ Some b → e.thread ≡ t → access_by e.act ≡ Some h.access → Obeys (R ++ d ∷ e ∷ []) until_gone → ⊥) → ⊥
    other p j b is q breaks =
        let w = wants_refused p in
        let v = makes code ((place_after code s h.before).threads j) q.come.outcome b (instr_at code ((place_after code s h.before).threads j).at.pc) q.next is in
        let first = grows m R j q.come q.stands ask laws source (place_at code v.0).site v.1.0 b v.1.1 v.1.2 in
        let d = first.0 in
        let apart : d.thread ≢ t = λ z.
        no_both code at b h.conflict.site i h.is_check.site_is (subst (λ (j : ℕ). access_of code ((place_after code s h.before).threads j) (instr_at code ((place_after code s h.before).threads j).at.pc) ≡ Some b) (sym first.1 ∙ z) is)
        in
        let second = grows m (R ++ d ∷ []) t w.0 (stays m R t w.0 w.1 d apart) ask laws first.3 (place_at code w.2.0).site w.2.1.0 h.access w.2.1.1 w.2.1.2 in
        let e = second.0 in
        let whole : SourceRun m (R ++ d ∷ e ∷ []) = subst (SourceRun m) (append_assoc R (d ∷ []) (e ∷ [])) second.3 in
        breaks d e first.1 (ap access_by first.2 ∙ v.1.2) second.1 (ap access_by second.2 ∙ w.2.1.2) (always (R ++ d ∷ e ∷ []) whole)

    pub unbroken : ⊥
    unbroken = refused_there (λ p. by_cause p h.breaks)
      where
        by_cause : IsPlaced m code R t at → GoesOn code s h.before t h.access → ⊥
        by_cause p (WasMade breaks) = alone p breaks
        by_cause p (IsNextOf j may b is breaks) = ⊎_elim
            (λ (n : IsNotThere R j ((place_after code s h.before).threads j)).
            let q : None ≡ Some b = ap (access_of code ((place_after code s h.before).threads j)) (sym (ap (instr_at code) n.first ∙ starts)) ∙ is in
            cc)
            (λ (q : IsPlaced m code R j ((place_after code s h.before).threads j)). other p j b is q breaks)
            (placed j)

  -- ---- A3
  module _ (run : List Turn) (t : ℕ) (site word : ℕ) (stop : ((place_after code s run).threads t).own.stop ≡ Some (NoLock site word)) (halts : may_go ((place_after code s run).threads t).at.state ≡ false)
      (lacks : LacksLock code (history_of code s run) t ((place_after code s run).threads t) site) (placed : Placed run t) (source : SourceRun m (history_of code s run)) where
    abbrev H : History
    H = history_of code s run

    abbrev here : Machine
    here = (place_after code s run).threads t

    refused : IsPlaced m code H t ((place_after code s run).threads t) → ((place_after code s run).threads t).at.state ≡ Stopped → ⊥
    refused p is =
        let r = p.refused is (NoLock site word) stop tt in
        let mutex = r.2.0 in
        let a = under mutex r.0 r.2.1 in
        let g = grows m H t p.come p.stands ask laws source (place_at code site).site r.0 a.0 r.1 a.1 in
        let e = g.0 in
        let held : holds_mutex (events_of e.thread H) mutex ≡ true = (always (H ++ e ∷ []) g.3).under_lock H e [] a.0 mutex refl (ap access_by g.2 ∙ a.1) a.2 in
        let unheld : holds_mutex (events_of e.thread H) mutex ≡ false = ap (λ u. holds_mutex (events_of u H) mutex) g.1 ∙ p.mutexes mutex ∙ r.2.2 in
        let z : true ≡ false = sym held ∙ unheld in
        cc

    pub unlocked : ⊥
    unlocked = ⊎_elim
        (λ (n : IsNotThere H t here). subst (λ i. IsLockCheck code here i site lacks.mutex) (ap (instr_at code) n.first ∙ starts) lacks.check)
        (λ (p : IsPlaced m code H t here). by_state p here.at.state refl)
        placed
      where
        by_state : IsPlaced m code H t ((place_after code s run).threads t) → (st : TurnState) → ((place_after code s run).threads t).at.state ≡ st → ⊥
        by_state p Stopped is = refused p is
        by_state p Ended is = not_ended code here p.come.outcome site lacks.mutex (instr_at code here.at.pc) lacks.check p.next (p.gone is)
        by_state p _ is = let z : true ≡ false = ap may_go (sym is) ∙ halts in cc
