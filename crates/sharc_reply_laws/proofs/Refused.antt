-- By the events of the whole run the source wants the access of a check that was refused: its thread stands there to the end.
use Rattle.sharc_reply_laws.proofs.{Imports.{◌≡◌, ℕ, ◌+◌, ◌⊎◌, inl, inr, Bool, true, false, List, ◌∷◌, Some, refl, sym, ap, ◌∙◌, subst, false≢true, CellAt, Kind, Assignment, Access, access_by, Code, PlaceMode, Cell, GlobalAt, Instr, Shape, ConflictAt, Stopped, Stop, Conflict, Machine, instr_at, stopped, may_go, Turn, cell_at, mode_of, place_at, CheckedRun, place_after, CheckOf, touch_of, ShowsCause, site_of_check, ChecksAreFollowed, access_of, access_to, history_of, IsNotThere, IsPlaced, ChecksStay, is_access_check, WantsRefusedAccess, access_refused, no_site}, Wanting.{act_eq, by_check}}

-- ---- a thread that is stopped would make the access that it would have made
module _ (code : Code) (m : Machine) (stop : Stop) where
  cell_same : (c : Cell) → cell_at code (stopped m stop) c ≡ cell_at code m c
  cell_same (GlobalAt g r) = refl
  cell_same _ = refl

  mode_same : (cell : CellAt) (mode : PlaceMode) → mode_of code (stopped m stop) cell mode ≡ mode_of code m cell mode
  mode_same cell (PlaceMode.LockedGlobal g place) = refl
  mode_same cell _ = refl

  abbrev with_mode : (write : Bool) (site : ℕ) → CellAt → Access
  with_mode write site cell = record { cell = cell; mode = mode_of code m cell (place_at code site).mode; is_write = write }

  to_same : (c : Cell) (site : ℕ) (write : Bool) → access_to code (stopped m stop) c site write ≡ access_to code m c site write
  to_same c site write =
      ap (λ mode. record { cell = cell_at code (stopped m stop) c; mode = mode; is_write = write }) (mode_same (cell_at code (stopped m stop) c) (place_at code site).mode)
      ∙ ap (with_mode write site) (cell_same c)

  pub access_same : (i : Instr) → access_of code (stopped m stop) i ≡ access_of code m i
  access_same (Instr.Load r c site) = ap Some (to_same c site false)
  access_same (Instr.Store r c site) = ap Some (to_same c site true)
  access_same (Instr.LoadRef c site) = ap Some (to_same c site false)
  access_same (Instr.Exchange r c site) = ap Some (to_same c site true)
  access_same (Instr.TakeCell r c site) = ap Some (to_same c site true)
  access_same _ = refl

-- ---- a refused check
check_has_site : (i : Instr) (site : ℕ) → site_of_check i ≡ Some site → is_access_check i ≡ true
check_has_site (Instr.ChkRead c at) site e = refl
check_has_site (Instr.ChkWrite c at) site e = refl
check_has_site _ site e = absurd (no_site site e)

did_not_pass : (a b : Kind) (p q : ℕ) (passed other : Bool) → CheckOf a p passed ≡ CheckOf b q other → passed ≡ other
did_not_pass a b p q passed other e = cc

refused_stops : (s : Shape) (i : Instr) (m after : Machine) (found : ℕ) (kind : Kind) (granule : ℕ) → touch_of s i m found after ≡ CheckOf kind granule false → is_access_check i ≡ true → may_go after.at.state ≡ false
refused_stops s (Instr.ChkRead c at) m after found kind granule e is = did_not_pass _ kind _ granule _ false e
refused_stops s (Instr.ChkWrite c at) m after found kind granule e is = did_not_pass _ kind _ granule _ false e
refused_stops s _ m after found kind granule e is = absurd (false≢true is)

module _ (stay : ChecksStay) (m : Assignment) (code : Code) (starts : instr_at code 0 ≡ Instr.Start 0) (followed : ChecksAreFollowed code) (s : Shape) (run : List Turn) (checked : CheckedRun code s run)
    (t : ℕ) (c : ConflictAt) (j : ℕ) (kind : Kind) (site : ℕ) (shown : ShowsCause code s run t c j kind site)
    (placed : IsNotThere (history_of code s run) t ((place_after code s run).threads t) ⊎ IsPlaced m code (history_of code s run) t ((place_after code s run).threads t)) where
  abbrev at : Machine
  at = (place_after code s run).threads t

  -- where it made the check
  abbrev checks : Machine
  checks = (place_after code s shown.before).threads shown.report.thread

  is_check : is_access_check (instr_at code ((place_after code s shown.before).threads shown.report.thread).at.pc) ≡ true
  is_check = check_has_site (instr_at code checks.at.pc) c.site shown.cause.is_report.site_is

  stands_there : (stop : Stop) × ((place_after code s run).threads t ≡ stopped ((place_after code s shown.before).threads shown.report.thread) stop)
  stands_there =
      let off : may_go ((place_after code s (shown.report ∷ shown.before)).threads shown.report.thread).at.state ≡ false =
      refused_stops s (instr_at code checks.at.pc) checks ((place_after code s (shown.report ∷ shown.before)).threads shown.report.thread) _ c.kind c.granule shown.cause.is_report.touch is_check in
      let k = stay code s shown.later shown.report shown.before (subst (CheckedRun code s) shown.parts checked) is_check off in (
        k.0,
        subst (λ u. (place_after code s run).threads u ≡ stopped checks k.0) shown.thread
            (subst (λ (l : List Turn). (place_after code s l).threads shown.report.thread ≡ stopped checks k.0) (sym shown.parts) k.1),
      )

  same_instr : instr_at code ((place_after code s run).threads t).at.pc ≡ instr_at code ((place_after code s shown.before).threads shown.report.thread).at.pc
  same_instr = ap (λ (y : Machine). instr_at code y.at.pc) stands_there.1

  at_site : site_of_check (instr_at code ((place_after code s run).threads t).at.pc) ≡ Some c.site
  at_site = ap site_of_check same_instr ∙ shown.cause.is_report.site_is

  at_access : access_of code ((place_after code s run).threads t) (instr_at code (((place_after code s run).threads t).at.pc + 1)) ≡ Some (access_refused shown)
  at_access =
      ap (λ (y : Machine). access_of code y (instr_at code (y.at.pc + 1))) stands_there.1
      ∙ access_same code checks stands_there.0 (instr_at code (checks.at.pc + 1)) ∙ shown.cause.refused.is

  by : IsNotThere (history_of code s run) t at ⊎ IsPlaced m code (history_of code s run) t at → at.at.state ≡ Stopped → at.own.stop ≡ Some (Conflict c) → WantsRefusedAccess m code s run t c (access_refused shown)
  by (inl n) halts is = absurd (no_site c.site (sym (ap site_of_check (ap (instr_at code) n.first ∙ starts)) ∙ at_site))
  by (inr p) halts is =
      let r = p.refused halts (Conflict c) is tt in
      let w = by_check code at p.come.outcome (instr_at code at.at.pc) (instr_at code (at.at.pc + 1)) c.site at_site (followed at.at.pc) p.next (access_refused shown) at_access in
      let same : w.0 ≡ r.0 = act_eq code at (place_at code c.site).site (place_at code c.site).site w.0 r.0 (sym w.1 ∙ r.1) in
      record {
        wants_it = record { come = p.come; stands = p.stands; act = r.0; wanted = r.1; refused = r.2 };
        same = ap access_by (sym same) ∙ w.2;
      }

  pub refused_wanted : ((place_after code s run).threads t).at.state ≡ Stopped → ((place_after code s run).threads t).own.stop ≡ Some (Conflict c) → WantsRefusedAccess m code s run t c (access_refused shown)
  refused_wanted halts is = by placed halts is
