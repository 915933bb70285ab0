-- What stands of each checked run of typed code, by the laws of its threads, its places and its reports.
use Rattle.sharc_sound_laws.proofs.Imports.{◌≡◌, ℕ, List, [], ◌∷◌, ◌++◌, subst, Some, Assignment, Code, Shape, ConflictAt, Conflict, NoLock, RunLaws, Fits, OneThread, Bounds, Turn, Global, IsRun, CheckedRun, one_thread, bounds, place_after, ThreadsTellInRuns, Targets, Labels, IsWellTyped, RunsStand, RunsBits, first_place, IsSmall, AccessReportsBreakRules, NamesAreCauses, ReportsHaveNamed, AccessReportsShow, ChecksAreFollowed, LockReportsBreakRules, LockReportsShowAccess, PathsAreConsistent, OthersAreCauses, ThreadStands, PlaceStands, ConflictStands, LockStands}

-- a run begins with each of its first parts
first_part : {S E : Type 0} (b : Bounds) (m : OneThread S E) (from : Global S) (later earlier : List Turn) → IsRun b m from (later ++ earlier) → IsRun b m from earlier
first_part b m from [] earlier run = run
first_part b m from (turn ∷ later) earlier run = first_part b m from later earlier run.0

module _ (x : Targets) (code : Code) (s : Shape) (ls : Labels) (typed : IsWellTyped x code ls) (fits : Fits code s) (few : IsSmall code s) (run : List Turn) (checked : CheckedRun code s run) where
  pub threads_stand : (m : Assignment) → PathsAreConsistent → ThreadsTellInRuns m code → (thread : ℕ) → ThreadStands m code s run thread
  threads_stand m consistent tells thread =
      let own = consistent x code s ls typed fits few run checked thread in
      record { consistent = own; tells = tells s thread run checked own }

  pub places_stand : RunLaws → RunsStand → RunsBits → (later earlier : List Turn) → run ≡ later ++ earlier → PlaceStands x code s ls earlier
  places_stand laws stand bits later earlier parts =
      let whole : IsRun bounds (one_thread code s) (first_place code s) run = (laws.checked code s run).0 checked in
      let part : IsRun bounds (one_thread code s) (first_place code s) earlier = first_part bounds (one_thread code s) (first_place code s) later earlier (subst (λ turns. IsRun bounds (one_thread code s) (first_place code s) turns) parts whole) in
      record { invariant = stand x code s ls typed fits few earlier part; bits = bits x code s ls typed fits few earlier part }

  module _ (followed : ChecksAreFollowed code) where
    pub conflicts_stand : AccessReportsShow → NamesAreCauses → ReportsHaveNamed → OthersAreCauses → AccessReportsBreakRules → (t : ℕ) (c : ConflictAt) → ((place_after code s run).threads t).own.stop ≡ Some (Conflict c) → ConflictStands code s run t c
    conflicts_stand show causes named others rules t c stop = record {
      shows = show x code s ls typed fits few run checked t c stop;
      causes = causes x code s ls typed fits few followed run checked t c stop;
      named = named x code s ls typed fits few run checked t c stop;
      text = λ threads started. others x code s ls typed fits few followed run checked threads started t c stop;
      breaks = rules x code s ls typed fits few followed run checked t c stop;
    }

    pub locks_stand : LockReportsShowAccess → LockReportsBreakRules → (t site word : ℕ) → ((place_after code s run).threads t).own.stop ≡ Some (NoLock site word) → LockStands code s run t site
    locks_stand show rules t site word stop = record {
      shows = show x code s ls typed fits few followed run checked t site word stop;
      breaks = rules x code s ls typed fits few followed run checked t site word stop;
    }
