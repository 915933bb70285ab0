-- The reports of a checked run, each with its cause and with what the source wants.
use Rattle.sharc_reply_laws.proofs.Imports.{◌≡◌, ℕ, false, List, [], ◌∷◌, Some, subst, Kind, Assignment, Access, number_of, Code, Shape, ConflictAt, Stopped, Stop, Conflict, NoLock, NotSole, Turn, CheckedRun, place_after, ThreadView, AreStarted, IsReport, Labels, ShowsCause, IsCheck, ShowsLock, access_checked, history_of, FindsOthers, RunsBegin, targets_of, ShowsReference, IsReportOf, WantsReported, RunStands, ReportTells, ThreadWantsAccess, WantsRefusedAccess, ThreadWantsMutex, access_refused, object_tested}
use Rattle.sharc_code.specs.declared.state.Stop.TheVariants.{Trap}

module _ (begins : RunsBegin) (m : Assignment) (code : Code) (s : Shape) (ls : Labels) (run : List Turn) (checked : CheckedRun code s run) (stands : RunStands m (targets_of m) code s ls run)
    (wanted : (before : List Turn) → CheckedRun code s before → (check : Turn) (kind : Kind) (granule site : ℕ) → IsCheck code s before check check.thread kind granule site false
    → (a : Access) → access_checked code ((place_after code s before).threads check.thread) ≡ Some a → ThreadWantsAccess m code (history_of code s before) check.thread site a)
    (refused : (t : ℕ) (c : ConflictAt) → ((place_after code s run).threads t).at.state ≡ Stopped → ((place_after code s run).threads t).own.stop ≡ Some (Conflict c)
    → (j : ℕ) (kind : Kind) (site : ℕ) → (shown : ShowsCause code s run t c j kind site) → WantsRefusedAccess m code s run t c (access_refused shown))
    (under : (t site word : ℕ) → ((place_after code s run).threads t).at.state ≡ Stopped → ((place_after code s run).threads t).own.stop ≡ Some (NoLock site word)
    → (shows : ShowsLock code (history_of code s run) t ((place_after code s run).threads t) site) → ThreadWantsMutex m code s run t site word shows)
    (reports : (t : ℕ) (stop : Stop) → ((place_after code s run).threads t).at.state ≡ Stopped → ((place_after code s run).threads t).own.stop ≡ Some stop → IsReport stop → IsReportOf m (targets_of m) code s ls run t stop)
    (casts : (t site count : ℕ) → ((place_after code s run).threads t).own.stop ≡ Some (NotSole site count) → ShowsReference m code s ls run t site count)
    (given : (t site count : ℕ) → (wants_it : WantsReported m code (history_of code s run) t (NotSole site count)) → (finds : FindsOthers (targets_of m) code s ls run t site count)
    → number_of wants_it.refused.0 ≡ object_tested finds)
    (threads : List ThreadView) (are : AreStarted code s (place_after code s run) threads) (t : ℕ) where
  pub reported : (stop : Stop) → ((place_after code s run).threads t).at.state ≡ Stopped → ((place_after code s run).threads t).own.stop ≡ Some stop → IsReport stop → ReportTells m code s ls run threads t stop
  reported (Conflict c) stopped is report =
      let st = stands.conflicts t c is in
      let names = st.text threads are in
      let shown = names.cause in
      let cause = shown.cause in
      let was : CheckedRun code s (shown.report ∷ shown.before) = begins code s shown.later (shown.report ∷ shown.before) (subst (CheckedRun code s) shown.parts checked) in
      let w = wanted shown.before (begins code s (shown.report ∷ []) shown.before was) shown.report c.kind c.granule c.site cause.is_report cause.refused.access cause.refused.is in
      let ended = refused t c stopped is names.other.thread names.other.kind names.other.site shown in
      record {
        cause = record { names = names; all = st.causes };
        wants_it = ended.wants_it;
        is_that = record { at_check = subst (λ u. ThreadWantsAccess m code (history_of code s shown.before) u c.site cause.refused.access) shown.thread w; at_end = ended.same };
      }
  reported (NoLock site word) stopped is report =
      let shows = (stands.locks t site word is).shows in
      let w = under t site word stopped is shows in
      record { cause = shows; wants_it = w.wants_it; is_that = w.same }
  reported (NotSole site count) stopped is report =
      let shows = casts t site count is in
      let w = (reports t (NotSole site count) stopped is tt).wants_it in
      record { cause = shows; wants_it = w; is_that = given t site count w shows.finds }
  reported (Trap trap site) stopped is report = absurd report
