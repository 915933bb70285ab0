-- What a thread that was stopped by a report wants.
use Rattle.sharc_sound_laws.proofs.{Imports.{◌≡◌, ℕ, ◌⊎◌, ⊎_elim, List, [], ◌∷◌, ◌++◌, reverse, Some, None, Option, refl, sym, ap, ◌∙◌, subst, reverse-append, filter-append, SourceEvent, Assignment, events_of, is_of, History, Code, Instr, Shape, Stopped, Stop, Conflict, NoLock, NotSole, Trap, RunLaws, Fits, opening_words, instr_at, IsRun, Said, Turn, opening_of, told_by, with_told, CheckedRun, Erase, bounds, one_thread, place_after, told_in, IsReport, Targets, Labels, IsWellTyped, IsSmall, NamesAreCauses, ReportsHaveNamed, AccessReportsShow, site_of_check, ChecksAreFollowed, LockReportsShowAccess, history_of, CastReportsShow, IsLockCheck, IsNotThere, IsReportOf, WantsReported, IsPlaced}, Standing.from_first}

-- ---- histories that grow
front_empty : (xs ys : History) → xs ++ ys ≡ [] → xs ≡ []
front_empty [] ys e = refl
front_empty (x ∷ xs) ys e = absurd (cc)

told_less : (t thread : ℕ) (e : Option SourceEvent) (says : List (Said SourceEvent)) → events_of t (reverse (told_in (with_told thread e says))) ≡ [] → events_of t (reverse (told_in says)) ≡ []
told_less t thread None says q = q
told_less t thread (Some e) says q =
    front_empty (events_of t (reverse (told_in says))) (events_of t (e ∷ []))
    (sym (ap (events_of t) (reverse-append (e ∷ []) (told_in says)) ∙ filter-append (is_of t) (reverse (told_in says)) (e ∷ [])) ∙ q)

module _ (code : Code) (s : Shape) (t : ℕ) where
  none_before : (later earlier : List Turn) → events_of t (history_of code s (later ++ earlier)) ≡ [] → events_of t (history_of code s earlier) ≡ []
  none_before [] earlier q = q
  none_before (one ∷ later) earlier q =
      none_before later earlier
      (told_less t one.thread (told_by (one_thread code s) (Erase code s (later ++ earlier)) (place_after code s (later ++ earlier)) one) (Erase code s (later ++ earlier)) q)

module _ (m : Assignment) (code : Code) (starts : instr_at code 0 ≡ Instr.Start 0) (s : Shape)
    (placed : (run : List Turn) → CheckedRun code s run → (t : ℕ) → IsNotThere (history_of code s run) t ((place_after code s run).threads t) ⊎ IsPlaced m code (history_of code s run) t ((place_after code s run).threads t))
    (run : List Turn) (checked : CheckedRun code s run) (t : ℕ) (stop : Stop) (stopped : ((place_after code s run).threads t).at.state ≡ Stopped) (is : ((place_after code s run).threads t).own.stop ≡ Some stop) (report : IsReport stop) where
  abbrev IsFirst : Type 0
  IsFirst = IsNotThere (history_of code s run) t ((place_after code s run).threads t)

  -- a thread that was at another instruction has made an event
  pub not_first : (later : List Turn) (one : Turn) (earlier : List Turn) → run ≡ later ++ one ∷ earlier → CheckedRun code s earlier
      → (instr_at code ((place_after code s earlier).threads t).at.pc ≡ Instr.Start 0 → ⊥) → IsNotThere (history_of code s run) t ((place_after code s run).threads t) → ⊥
  not_first later one earlier parts before other n = ⊎_elim
      (λ (k : IsNotThere (history_of code s earlier) t ((place_after code s earlier).threads t)). other (ap (instr_at code) k.first ∙ starts))
      (λ (p : IsPlaced m code (history_of code s earlier) t ((place_after code s earlier).threads t)).
      let none : events_of t (history_of code s earlier) ≡ [] =
      none_before code s t (one ∷ []) earlier (none_before code s t later (one ∷ earlier) (ap (λ (run : List Turn). events_of t (history_of code s run)) (sym parts) ∙ n.nothing))
      in
      let own = p.stands.own in
      let some = from_first t (history_of code s earlier) own.before own.after own.begins own.stands own.own own.first in
      let z : own.begins ∷ events_of t own.after ≡ [] = sym some ∙ none in
      absurd (cc))
      (placed earlier before t)

  pub wants_reported : (IsNotThere (history_of code s run) t ((place_after code s run).threads t) → ⊥) → WantsReported m code (history_of code s run) t stop
  wants_reported not = ⊎_elim
      (λ (n : IsFirst). absurd (not n))
      (λ (p : IsPlaced m code (history_of code s run) t ((place_after code s run).threads t)).
      let r = p.refused stopped stop is report in
      record { come = p.come; stands = p.stands; act = r.0; wanted = r.1; refused = r.2 })
      (placed run checked t)

-- ---- by the kind of the report
module _ (laws : RunLaws) (named : NamesAreCauses) (some : ReportsHaveNamed) (accesses : AccessReportsShow) (locks : LockReportsShowAccess) (casts : CastReportsShow) (m : Assignment) (x : Targets) (code : Code) (s : Shape) (ls : Labels)
    (wt : IsWellTyped x code ls) (fits : Fits code s) (few : IsSmall code s) (follows : ChecksAreFollowed code) (starts : instr_at code 0 ≡ Instr.Start 0)
    (placed : (run : List Turn) → CheckedRun code s run → (t : ℕ) → IsNotThere (history_of code s run) t ((place_after code s run).threads t) ⊎ IsPlaced m code (history_of code s run) t ((place_after code s run).threads t))
    (run : List Turn) (checked : CheckedRun code s run) (t : ℕ) where
  -- what comes before in a checked run is one
  before_checked : (later : List Turn) (one : Turn) (earlier : List Turn) → run ≡ later ++ one ∷ earlier → CheckedRun code s earlier
  before_checked later one earlier parts =
      let from = opening_of bounds (one_thread code s) (opening_words code s) in
      let all : IsRun bounds (one_thread code s) from (later ++ one ∷ earlier) = subst (IsRun bounds (one_thread code s) from) parts ((laws.checked code s run).0 checked) in
      (laws.checked code s earlier).1 ((laws.join bounds code s from later (one ∷ earlier)).0 all).0.0

  no_check : (site : ℕ) (i : Instr) → site_of_check i ≡ Some site → i ≡ Instr.Start 0 → ⊥
  no_check site i is z = let q : None ≡ Some site = ap site_of_check (sym z) ∙ is in cc

  no_test : (register site : ℕ) (i : Instr) → i ≡ Instr.TestSole register site → i ≡ Instr.Start 0 → ⊥
  no_test register site i is z = let q : Instr.TestSole register site ≡ Instr.Start 0 = sym is ∙ z in cc

  pub reported : (stop : Stop) → ((place_after code s run).threads t).at.state ≡ Stopped → ((place_after code s run).threads t).own.stop ≡ Some stop → IsReport stop → IsReportOf m x code s ls run t stop
  reported (Conflict c) stopped is report =
      let a = accesses x code s ls wt fits few run checked t c is in
      let site : site_of_check (instr_at code ((place_after code s a.earlier).threads t).at.pc) ≡ Some c.site =
      subst (λ u. site_of_check (instr_at code ((place_after code s a.earlier).threads u).at.pc) ≡ Some c.site) a.is_check.thread a.is_check.site_is
      in
      record {
        shows = (λ j kind site n. named x code s ls wt fits few follows run checked t c is j kind site n, some x code s ls wt fits few run checked t c is);
        wants_it = wants_reported m code starts s placed run checked t (Conflict c) stopped is report
            (not_first m code starts s placed run checked t (Conflict c) stopped is report a.later a.check a.earlier a.parts (before_checked a.later a.check a.earlier a.parts) (no_check c.site _ site));
      }
  reported (NoLock site word) stopped is report =
      let l = locks x code s ls wt fits few follows run checked t site word is in
      record {
        shows = l;
        wants_it = wants_reported m code starts s placed run checked t (NoLock site word) stopped is report
            (λ n. subst (λ i. IsLockCheck code ((place_after code s run).threads t) i site l.mutex) (ap (instr_at code) n.first ∙ starts) l.check);
      }
  reported (NotSole site count) stopped is report =
      let f = casts x code s ls wt fits few run checked t site count is in
      record {
        shows = f;
        wants_it = wants_reported m code starts s placed run checked t (NotSole site count) stopped is report
            (not_first m code starts s placed run checked t (NotSole site count) stopped is report f.later f.test f.earlier f.parts (before_checked f.later f.test f.earlier f.parts) (no_test f.register site _ f.is_test));
      }
  reported (Trap trap site) stopped is report = absurd report
