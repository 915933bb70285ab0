-- The source events of each run of typed code may come one after the other, but that nothing is said of those that tell who waits.
use Rattle.sharc_history_laws.proofs.{Imports.{◌≡◌, List, [], reverse, Option, Some, None, refl, sym, subst, SourceEvent, Resolution, Code, Shape, RunLaws, Fits, Turn, result_of, place_after, StatesAreTold, history_of, BeginsWith, said_now, table_of, History, Targets, Labels, IsWellTyped, IsSmall, Keeps, CodeBegins, CellsAreThere, PointersAreThere, AccessesAreAllowed, StateStands, yes}, TurnAt.RunOf, Consists.{Consists, consists_then, objects_then}, Legal.{IsLegal, Told, legal_now, may_mutex}, Lists.{Newest, Each, no_event}, Living.lives_told, Locking.logs_then, Logged.has_then, Mutual.{Mutual, MayMutex, mutual_then, nobody_holds}, Opening.contents_first, Rules.{over_runs, each_pushed, pushed, newest, about_now}, Threaded.{threads_then, nobody_yet}, Valued.contents_then}

-- it may come, if it does not tell who waits
abbrev pub MayComeNow : Resolution → History → SourceEvent → Type 0
MayComeNow r before e = IsLegal r before (Some e)

mutual_with : (ev : Option SourceEvent) (L : Newest) → Mutual L → ((e : SourceEvent) → ev ≡ Some e → MayMutex L e) → Mutual (pushed ev L)
mutual_with None L old may = old
mutual_with (Some e) L old may = mutual_then L old e (may e refl)

-- ---- runs
pub record Stored (r : Resolution) (x : Targets) (code : Code) (s : Shape) (ls : Labels) (run : List Turn) : Type 0 where
  pub consists : Consists x code s ls run
  pub told : Told r x code s ls run consists (newest code s run)
  pub legal : Each (MayComeNow r) (history_of code s run)

module _ (states : StatesAreTold) (state_law : StateStands) (cell_laws : CellsAreThere) (pointers : PointersAreThere) (rights : AccessesAreAllowed) (laws : RunLaws) (begins_law : CodeBegins) (keeps : Keeps) (x : Targets) (code : Code) (s : Shape) (ls : Labels) (wt : IsWellTyped x code ls) (fits : Fits code s) (few : IsSmall code s)
    (r : Resolution) (first : BeginsWith r code) where
  pub stored : (run : List Turn) → RunOf code s run → Stored r x code s ls run
  stored run is =
      let k = over_runs cell_laws pointers laws begins_law keeps x code s ls wt fits few
      (λ run h L. record { told : Told r x code s ls run h L; legal : Each (MayComeNow r) (reverse L) })
      (record {
        told = record {
          lives = λ n live. absurd (yes (sym live));
          logs = λ u k is. absurd is;
          has = λ u c is. absurd (yes (sym is));
          mutexes = nobody_holds;
          threads = nobody_yet (place_after code s []) (λ t is. yes (sym is));
          contents = contents_first begins_law x code s ls wt fits r first;
        };
        legal = no_event (MayComeNow r);
      })
      (λ one earlier h may run old.
      let ev = said_now code (table_of code s earlier) ((place_after code s earlier).threads one.thread) (result_of one.event) in
      let L = newest code s earlier in
      let state = states code s earlier ((laws.checked code s earlier).1 run) in
      let then' = consists_then laws keeps cell_laws pointers x code s ls wt fits few one earlier h may in
      record {
        told = record {
          lives = lives_told cell_laws pointers rights laws keeps x code s ls wt fits few one earlier h may then'.world.obj (objects_then laws keeps cell_laws pointers x code s ls wt fits few one earlier h may) L old.told.lives ev
              (about_now cell_laws pointers rights laws keeps x code s ls wt fits few one earlier h may);
          logs = logs_then cell_laws pointers rights laws keeps x code s ls wt fits few one earlier h may L old.told.logs ev refl;
          has = has_then cell_laws pointers rights laws keeps x code s ls wt fits few one earlier h may L old.told.has ev refl;
          mutexes = mutual_with ev L old.told.mutexes (λ e is. may_mutex state_law cell_laws pointers rights laws keeps x code s ls wt fits few one earlier h may r L old.told state e is);
          threads = threads_then cell_laws pointers rights laws keeps x code s ls wt fits few one earlier h may L old.told.threads;
          contents = contents_then cell_laws pointers rights laws keeps x code s ls wt fits few one earlier h may r L old.told.contents;
        };
        legal = each_pushed (MayComeNow r) ev L old.legal (λ e is. subst (IsLegal r (reverse L)) is (legal_now state_law cell_laws pointers rights laws keeps x code s ls wt fits few one earlier h may r L old.told state));
      }) run is in
      record { consists = k.0; told = k.1.told; legal = k.1.legal }
