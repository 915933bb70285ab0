-- Where the threads of a run are, among the events of all threads.
use Rattle.sharc_wants_laws.proofs.Imports.{◌≡◌, ℕ, ℤ, inl, inr, ⊎_elim, ◌⊎◌, List, [], ◌∷◌, map, reverse, refl, sym, ap, ◌∙◌, subst, reverse-reverse, SourceEvent, Assignment, answers_of, events_of, by, Code, Machine, paced_in, begun, machine_after, Shape, Turn, said_by, turns_of, CheckedRun, Erase, place_after, MayStart, said_in, IsBeginning, told_in, elements_before, founds_of, RunsHavePaths, IsNotThere, BeginsWithStarted, BeginsWithStartedIn}
use Rattle.sharc_meaning.specs.Meaning.{asks}
use Rattle.sharc_compile_laws.specs.Threads.{AreOfThread, OwnAreTold}

of_map : (t : ℕ) (es : List SourceEvent) → AreOfThread t (map (by t) es)
of_map t [] = tt
of_map t (e ∷ es) = (refl, of_map t es)

-- ---- a thread of a run
abbrev pub history_of : Code → Shape → List Turn → List SourceEvent
history_of code s run = reverse (told_in (Erase code s run))

abbrev pub machine_of : Code → Shape → List Turn → ℕ → Machine
machine_of code s run t = machine_after code s (begun code s t) (founds_of (turns_of t run))

abbrev pub said_of : Code → Shape → List Turn → ℕ → List SourceEvent
said_of code s run t = said_in code s (begun code s t) (elements_before code s t run) (founds_of (turns_of t run))

-- it has not begun
abbrev pub IsAtStart : Code → Shape → List Turn → ℕ → Type 0
IsAtStart code s run t = IsBeginning (machine_of code s run t) (said_of code s run t) (paced_in code s (begun code s t) (founds_of (turns_of t run)))

pub start_own : (code : Code) (s : Shape) (run : List Turn) (t : ℕ) → IsAtStart code s run t → AreOfThread t (said_of code s run t)
start_own code s run t b = subst (AreOfThread t) (sym b.nothing) tt

pub begun_own : (t : ℕ) (begins : SourceEvent) (after said : List SourceEvent) → said ≡ begins ∷ map (by t) after → begins.thread ≡ t → AreOfThread t said
begun_own t begins after said starts own = subst (AreOfThread t) (sym starts) (own, of_map t after)

-- where all that each thread says is its own, the events of a thread are what it says
pub own_events : OwnAreTold → RunsHavePaths → (code : Code) (s : Shape) (run : List Turn) → CheckedRun code s run → ((t : ℕ) → AreOfThread t (said_of code s run t)) → (t : ℕ) → events_of t (history_of code s run) ≡ said_of code s run t
own_events law paths code s run checked own t = law.own (Erase code s run) (λ u. subst (AreOfThread u) (sym (said u)) (own u)) t ∙ said t
  where
    said : (u : ℕ) → reverse (told_in (said_by u (Erase code s run))) ≡ said_of code s run u
    said u = ap reverse (paths code s u run checked).said ∙ reverse-reverse (said_of code s run u)

-- ---- all together
-- a thread that begins with the Started of a function has told so among the events of all threads, if the function asks for them where this holds
module _ (law : OwnAreTold) (paths : RunsHavePaths) (m : Assignment) (code : Code) (s : Shape) (run : List Turn) (checked : CheckedRun code s run) (Then : ℕ → Machine → ℕ → ℤ → List SourceEvent → Type 0)
    (asked : (t : ℕ) (at : Machine) (f : ℕ) (argument : ℤ) (told : List SourceEvent) → Then t at f argument told → (fuel : ℕ) × (map (by t) (asks m f argument (answers_of told) fuel).events ≡ told))
    (one : (t : ℕ) → IsAtStart code s run t ⊎ BeginsWithStarted m t (said_of code s run t) (Then t (machine_of code s run t))) where
  abbrev R : List SourceEvent
  R = history_of code s run

  pub events_are : (t : ℕ) → events_of t R ≡ said_of code s run t
  events_are = own_events law paths code s run checked
      (λ t. ⊎_elim (start_own code s run t) (λ (h : BeginsWithStarted m t (said_of code s run t) (Then t (machine_of code s run t))). begun_own t h.begins h.after (said_of code s run t) h.starts h.own) (one t))

  pub place_is : (t : ℕ) → (place_after code s run).threads t ≡ machine_of code s run t
  place_is t = (paths code s t run checked).machine

  there_in : (t : ℕ) → BeginsWithStarted m t (said_of code s run t) (Then t (machine_of code s run t)) → BeginsWithStartedIn m R t (Then t ((place_after code s run).threads t))
  there_in t h =
      let first = law.first t R h.begins (map (by t) h.after) (events_are t ∙ h.starts) in
      let stands : MayStart m h.function → Then t ((place_after code s run).threads t) h.function h.argument (events_of t first.after) = λ may.
      subst (λ at. Then t at h.function h.argument (events_of t first.after)) (sym (place_is t)) (subst (Then t (machine_of code s run t) h.function h.argument) (sym first.rest) (h.stands may))
      in
      record {
        tells = record {
          function = h.function;
          argument = h.argument;
          before = first.before;
          begins = h.begins;
          after = first.after;
          stands = first.stands;
          own = h.own;
          first = first.first;
          act = h.act;
          answer = h.answer;
          site = h.site;
          asked = λ may. asked t ((place_after code s run).threads t) h.function h.argument (events_of t first.after) (stands may);
        };
        stands = stands;
      }

  pub placed : (t : ℕ) → IsNotThere R t ((place_after code s run).threads t) ⊎ BeginsWithStartedIn m R t (Then t ((place_after code s run).threads t))
  placed t = ⊎_elim
      (λ (b : IsAtStart code s run t).
      inl (record { nothing = events_are t ∙ b.nothing; first = ap (λ (m : Machine). m.at.pc) (place_is t) ∙ b.pc_is }))
      (λ (h : BeginsWithStarted m t (said_of code s run t) (Then t (machine_of code s run t))). inr (there_in t h))
      (one t)
