-- What the source wants where a thread makes a check.
use Rattle.sharc_reply_laws.proofs.Imports.{◌≡◌, ℕ, ◌+◌, pos, ◌⊎◌, inl, inr, Bool, true, false, List, Some, None, sym, ap, ◌∙◌, subst, get_or as slice_index_or, Act, CellAt, SourceEvent, Site, Trap, Assignment, Access, access_by, History, Outcome, event_of, wants, Code, PlaceMode, Dynamic, Cell, Instr, Shape, Stopped, NoLock, Machine, instr_at, Turn, cell_at, made_cell, mode_of, place_at, place_after, FlatCode, generated, IsCodeOf, IsUnder, site_of_check, Accesses, IsFollowed, ShowsLock, access_of, access_to, history_of, IsLockCheck, IsNotThere, StopsOrWantsUnder, WantsAct, WantsBy, access_tested, IsPlaced, ThreadWantsAccess, ThreadWantsMutex, site_eq}
use Rattle.sharc_meaning.specs.State.{stopped}

-- ---- the first instruction
pub first_is : (flat : FlatCode) (code : Code) → IsCodeOf flat code → instr_at code 0 ≡ Instr.Start 0
first_is flat code is = ap (λ (is : List Instr). slice_index_or is 0 Instr.Exit) is.generated.instrs ∙ ap (λ (statements : List Instr). slice_index_or (generated is.g.functions.items statements) 0 Instr.Exit) is.made.statements

-- ---- the access behind a check
module _ (code : Code) (m : Machine) where
  abbrev access_with : Cell → Bool → PlaceMode → Access
  access_with c write mode = record { cell = cell_at code m c; mode = mode_of code m (cell_at code m c) mode; is_write = write }

  same_access : (c d : Cell) (site at : ℕ) (write : Bool) → c ≡ d → site ≡ at → (place_at code site).mode ≡ Dynamic → access_to code m d at write ≡ access_tested code m c write
  same_access c d site at write cells sites dynamic =
      ap (λ d. access_to code m d at write) (sym cells) ∙ ap (λ k. access_to code m c k write) (sym sites)
      ∙ ap (λ (mode : PlaceMode). access_with c write mode) dynamic

  some_eq : (a b : Access) → Some a ≡ Some b → a ≡ b
  some_eq a b e = cc

  -- of a read
  read_is : (c : Cell) (site : ℕ) (i : Instr) → (place_at code site).mode ≡ Dynamic → Accesses false c site i → (a : Access) → access_of code m i ≡ Some a → a ≡ access_tested code m c false
  read_is c site (Instr.Load r d at) dynamic h a e = sym (some_eq (access_to code m d at false) a e) ∙ same_access c d site at false h.0 h.1 dynamic
  read_is c site (Instr.LoadRef d at) dynamic h a e = sym (some_eq (access_to code m d at false) a e) ∙ same_access c d site at false h.0 h.1 dynamic
  read_is c site _ dynamic h a e = absurd h

  -- of a write
  write_is : (c : Cell) (site : ℕ) (i : Instr) → (place_at code site).mode ≡ Dynamic → Accesses true c site i → (a : Access) → access_of code m i ≡ Some a → a ≡ access_tested code m c true
  write_is c site (Instr.Store r d at) dynamic h a e = sym (some_eq (access_to code m d at true) a e) ∙ same_access c d site at true h.0 h.1 dynamic
  write_is c site (Instr.Exchange r d at) dynamic h a e = sym (some_eq (access_to code m d at true) a e) ∙ same_access c d site at true h.0 h.1 dynamic
  write_is c site (Instr.TakeCell r d at) dynamic h a e = sym (some_eq (access_to code m d at true) a e) ∙ same_access c d site at true h.0 h.1 dynamic
  write_is c site _ dynamic h a e = absurd h

  -- the outcome wants an access at a site of the code
  abbrev pub WantsThat : Outcome → ℕ → Access → Type 0
  WantsThat o site a = (act : Act) × WantsAct code o site act × (access_by act ≡ Some a)

  moved : (o : Outcome) (site at : ℕ) (a b : Access) → at ≡ site → a ≡ b → WantsThat o at b → WantsThat o site a
  moved o site at a b sites same w = subst (λ k. WantsThat o k a) sites (subst (WantsThat o at) (sym same) w)

  no_site : (site : ℕ) → None ≡ Some site → ⊥
  no_site site e = cc

  pub by_check : (o : Outcome) (i next : Instr) (site : ℕ) → site_of_check i ≡ Some site → IsFollowed code i next → WantsBy code m o i → (a : Access) → access_of code m next ≡ Some a → WantsThat o site a
  by_check o (Instr.ChkRead c at) next site is follows w a e = moved o site at a (access_tested code m c false) (site_eq at site is) (read_is c at next follows.0 follows.1 a e) w
  by_check o (Instr.ChkWrite c at) next site is follows w a e = moved o site at a (access_tested code m c true) (site_eq at site is) (write_is c at next follows.0 follows.1 a e) w
  by_check o _ next site is follows w a e = absurd (no_site site is)

module _ (m : Assignment) (code : Code) (starts : instr_at code 0 ≡ Instr.Start 0) (R : History) (thread : ℕ) (at : Machine) (placed : IsNotThere R thread at ⊎ IsPlaced m code R thread at) where
  pub wants_access : (site : ℕ) → site_of_check (instr_at code at.at.pc) ≡ Some site → IsFollowed code (instr_at code at.at.pc) (instr_at code (at.at.pc + 1))
      → (a : Access) → access_of code at (instr_at code (at.at.pc + 1)) ≡ Some a → ThreadWantsAccess m code R thread site a
  wants_access site is follows a e = by placed
    where
      by : IsNotThere R thread at ⊎ IsPlaced m code R thread at → ThreadWantsAccess m code R thread site a
      by (inl n) = absurd (no_site code at site (sym (ap site_of_check (ap (instr_at code) n.first ∙ starts)) ∙ is))
      by (inr p) =
          let w = by_check code at p.come.outcome (instr_at code at.at.pc) (instr_at code (at.at.pc + 1)) site is follows p.next a e in
          record { come = p.come; stands = p.stands; act = w.0; wanted = w.1; is = w.2 }

-- ---- under a mutex
module _ (code : Code) (m : Machine) where
  event_eq : (d e : SourceEvent) → wants d ≡ wants e → d ≡ e
  event_eq d e h = cc

  pub act_eq : (x y : Site) (a b : Act) → wants (event_of x a (pos 0)) ≡ wants (event_of y b (pos 0)) → a ≡ b
  act_eq x y a b e = ap (λ (d : SourceEvent). d.act) (event_eq (event_of x a (pos 0)) (event_of y b (pos 0)) e)

  not_both : (trap : Trap) (x y : Site) (a : Act) → wants (event_of x a (pos 0)) ≡ stopped trap y → ⊥
  not_both trap x y a e = cc

  under : (o : Outcome) (site at : ℕ) (mutex : CellAt) (act : Act) → WantsAct code o at act → StopsOrWantsUnder code o site mutex → IsUnder mutex act
  under o site at mutex act wanted (inl stops) = absurd (not_both Trap.NullPointer (place_at code at).site (place_at code site).site act (sym wanted ∙ stops))
  under o site at mutex act wanted (inr w) = subst (IsUnder mutex) (act_eq (place_at code site).site (place_at code at).site w.0 act (sym w.1 ∙ wanted)) w.2

  pub by_lock : (o : Outcome) (i : Instr) (site at : ℕ) (mutex : CellAt) (act : Act) → IsLockCheck code m i site mutex → WantsAct code o at act → WantsBy code m o i → IsUnder mutex act
  by_lock o (Instr.ChkLock c k) site at mutex act check wanted w = subst (λ (x : CellAt). IsUnder x act) (sym check.1) (under o k at (cell_at code m c) act wanted w)
  by_lock o (Instr.ChkLockLoaded k) site at mutex act check wanted w = subst (λ (x : CellAt). IsUnder x act) (sym check.1) (under o k at (made_cell m.pending 0) act wanted w)
  by_lock o _ site at mutex act check wanted w = absurd check

module _ (m : Assignment) (code : Code) (starts : instr_at code 0 ≡ Instr.Start 0) (s : Shape) (run : List Turn) (t site word : ℕ)
    (placed : IsNotThere (history_of code s run) t ((place_after code s run).threads t) ⊎ IsPlaced m code (history_of code s run) t ((place_after code s run).threads t))
    (stopped_is : ((place_after code s run).threads t).at.state ≡ Stopped) (is : ((place_after code s run).threads t).own.stop ≡ Some (NoLock site word))
    (shows : ShowsLock code (history_of code s run) t ((place_after code s run).threads t) site) where
  abbrev at : Machine
  at = (place_after code s run).threads t

  by_place : IsNotThere (history_of code s run) t at ⊎ IsPlaced m code (history_of code s run) t at → ThreadWantsMutex m code s run t site word shows
  by_place (inl n) = absurd (subst (λ i. IsLockCheck code at i site shows.mutex) (ap (instr_at code) n.first ∙ starts) shows.check)
  by_place (inr p) =
      let r = p.refused stopped_is (NoLock site word) is tt in
      record {
        wants_it = record { come = p.come; stands = p.stands; act = r.0; wanted = r.1; refused = r.2 };
        same = by_lock code at p.come.outcome (instr_at code at.at.pc) site site shows.mutex r.0 shows.check r.1 p.next;
      }

  pub lock_wanted : ThreadWantsMutex m code s run t site word shows
  lock_wanted = by_place placed
