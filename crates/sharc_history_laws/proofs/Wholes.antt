-- What holds behind each run of typed code, by all that is known of it.
use Rattle.sharc_history_laws.proofs.{Imports.{◌≡◌, ℕ, ◌+◌, ◌<◌, true, List, [], ◌∷◌, Some, None, refl, sym, ap, ◌∙◌, subst, slice_index, Kind, Note, of_kind, note_of, ShadowLaws, stands, Code, Shape, ConflictAt, Conflict, RunLaws, Fits, granules, first_shadow, Machine, Turn, Global, place_after, BitsStand, marks_after, Labels, Keeps, CodeBegins, CellsAreThere, PointersAreThere, AccessesAreAllowed, StateStands, RunsBits, first_place, RunsConflict, IsSmall, IsWellTyped, Targets, yes, at_low}, TurnAt.RunOf, Cleared.{AllCleared, cleared_then, first_cleared}, Consists.{Consists, consists_then, at_first}, Logged.lacking, Remaining.{word_at, Remains, remains_then}, Sole.{Halting, stop_none}, Noting.{blank_none, blank_at}}

-- the laws that it takes
pub record TheLaws : Type 0 where
  pub shadow : ShadowLaws
  pub state : StateStands
  pub cells : CellsAreThere
  pub pointers : PointersAreThere
  pub rights : AccessesAreAllowed
  pub run : RunLaws
  pub begins : CodeBegins
  pub keeps : Keeps
  pub bits : RunsBits
  pub conflicts : RunsConflict

pub record Whole (x : Targets) (code : Code) (s : Shape) (ls : Labels) (run : List Turn) : Type 0 where
  pub consists : Consists x code s ls run
  pub remains : Remains s (place_after code s run)
  pub cleared : AllCleared x code s ls (place_after code s run)
  pub halting : Halting code s run

-- what is known of a code
pub record Typed (x : Targets) (code : Code) (s : Shape) (ls : Labels) : Type 0 where
  pub wt : IsWellTyped x code ls
  pub fits : Fits code s
  pub few : IsSmall code s

module _ (laws : TheLaws) (x : Targets) (code : Code) (s : Shape) (ls : Labels) (typed : Typed x code s ls) where
  pub halting : (run : List Turn) → RunOf code s run → Halting code s run
  halting run is = record { halts = (lacking laws.cells laws.pointers laws.rights laws.run laws.begins laws.keeps x code s ls typed.wt typed.fits typed.few run is).1.halts }

  -- no thread that makes a turn has stopped
  pub fresh_of : (one : Turn) (earlier : List Turn) → RunOf code s (one ∷ earlier) → Halting code s earlier → ((place_after code s earlier).threads one.thread).own.stop ≡ None
  fresh_of one earlier run h = stop_none ((place_after code s earlier).threads one.thread).own.stop (λ z. yes (sym run.1.next.runs ∙ h.halts one.thread z))

  abbrev first : Global Machine
  first = place_after code s []

  no_note : (k p : ℕ) (kind : Kind) (n : Note) → note_of ((place_after code s []).threads k).own.table p kind ≡ Some n → ⊥
  no_note k p kind n is = blank_none kind n (ap (of_kind kind) (sym (blank_at (granules s) p)) ∙ is)

  no_stop : (k : ℕ) (d : ConflictAt) → ((place_after code s []).threads k).own.stop ≡ Some (Conflict d) → ⊥
  no_stop k d is = let f : None ≡ Some (Conflict d) = is in cc

  bits_at : (p : ℕ) → p < granules s → BitsStand (word_at (place_after code s []) p) (marks_after code s (first_place code s) [] p)
  bits_at p lt = subst (λ q. BitsStand (slice_index (place_after code s []).words (first_shadow + q)) (marks_after code s (first_place code s) [] p)) (at_low s p lt) (laws.bits x code s ls typed.wt typed.fits typed.few [] tt p lt)

  no_bit : (k p : ℕ) → p < granules s → stands (word_at (place_after code s []) p) k ≡ true → ⊥
  no_bit k p lt e = yes (sym ((bits_at p lt).made k e))

  first_remains : Remains s (place_after code s [])
  first_remains = record {
    low_note = λ k p kind n lt is. absurd (no_note k p kind n is);
    low_stop = λ k d is. absurd (no_stop k d is);
    stop_bit = λ k p d is. absurd (no_stop k d is.is);
    reason = λ k p lt e. absurd (no_bit k p lt e);
    written = λ p lt e. let w = (bits_at p lt).wrote e in absurd (no_bit w.0 p lt w.1);
    first = λ k p d is f. absurd (no_stop k d is.is);
    left = λ k p lt e. absurd (no_bit k p lt e);
  }

  -- behind one more turn
  module _ (one : Turn) (earlier : List Turn) (run : RunOf code s (one ∷ earlier)) (w : Whole x code s ls earlier) where
    abbrev fresh : ((place_after code s earlier).threads one.thread).own.stop ≡ None
    fresh = fresh_of one earlier run w.halting

    abbrev pub next_consists : Consists x code s ls (one ∷ earlier)
    next_consists = consists_then laws.run laws.keeps laws.cells laws.pointers x code s ls typed.wt typed.fits typed.few one earlier w.consists run.1

    pub next_whole : Whole x code s ls (one ∷ earlier)
    next_whole =
        let g = place_after code s earlier in
        let h = w.consists in
        record {
          consists = next_consists;
          remains = remains_then laws.run.turns laws.shadow laws.cells x code s ls typed.wt typed.fits g h.world h.state one run.1 fresh w.remains;
          cleared = cleared_then laws.run.turns laws.shadow laws.state laws.cells laws.pointers x code s ls typed.wt typed.fits g h.world h.state one run.1 fresh w.remains w.cleared;
          halting = halting (one ∷ earlier) run;
        }

    pub next_is : next_whole.consists ≡ next_consists
    unfolding next_whole
    next_is = refl

  pub whole : (run : List Turn) → RunOf code s run → Whole x code s ls run
  whole [] run = record { consists = at_first laws.begins x code s ls typed.wt typed.fits; remains = first_remains; cleared = first_cleared x code s ls typed.wt (place_after code s []) (λ u. refl); halting = halting [] run }
  whole (one ∷ earlier) run = next_whole one earlier run (whole earlier run.0)

  pub whole_next : (one : Turn) (earlier : List Turn) (run : RunOf code s (one ∷ earlier)) → (whole (one ∷ earlier) run).consists ≡ next_consists one earlier run (whole earlier run.0)
  unfolding whole next_whole
  whole_next one earlier run = refl
