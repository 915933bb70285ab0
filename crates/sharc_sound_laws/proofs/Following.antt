-- A thread of a checked run follows the source.
use Rattle.sharc_sound_laws.proofs.{Imports.{◌≡◌, ℕ, ℤ, ◌||◌, cond, List, [], ◌∷◌, map, Option, Some, None, refl, sym, ap, ◌∙◌, list_any, Started, CellAt, SourceEvent, Assignment, events_of, held_mutexes, locked_by, same_cell, unless_unlocked, unlocks, asks, History, Follows, answers_of, by, Code, Machine, TellsIn, IsWhere, IsPlaced, BeginsByRight, follows_with}, Standing.from_first}

-- ---- what is held by events of a thread
held_started : (e : SourceEvent) (v : ℤ) (later : List SourceEvent) → e.act ≡ Started v → held_mutexes (e ∷ later) ≡ held_mutexes later
held_started e v later is = ap (λ a. unless_unlocked later (locked_by a) (held_mutexes later)) is

unlocks_map : (t : ℕ) (c : CellAt) (es : List SourceEvent) → list_any (unlocks c) (map (by t) es) ≡ list_any (unlocks c) es
unlocks_map t c [] = refl
unlocks_map t c (e ∷ es) = ap (λ b. unlocks c e || b) (unlocks_map t c es)

held_map : (t : ℕ) (es : List SourceEvent) → held_mutexes (map (by t) es) ≡ held_mutexes es
held_map t [] = refl
held_map t (e ∷ es) = same_lock (locked_by e.act) ∙ ap (unless_unlocked es (locked_by e.act)) (held_map t es)
  where
    same_lock : (o : Option CellAt) → unless_unlocked (map (by t) es) o (held_mutexes (map (by t) es)) ≡ unless_unlocked es o (held_mutexes (map (by t) es))
    same_lock None = refl
    same_lock (Some c) = ap (λ b. cond b (held_mutexes (map (by t) es)) (c ∷ held_mutexes (map (by t) es))) (unlocks_map t c es)

-- ---- a thread that begins by right
module _ (m : Assignment) (code : Code) (R : History) (thread : ℕ) (tells : TellsIn m R thread) (begins : BeginsByRight m tells.before thread tells.function tells.argument) where
  -- where the code is placed
  pub placed : (at : Machine) → IsWhere m code thread tells.function tells.argument (events_of thread tells.after) at → IsPlaced m code R thread at
  placed at w =
      let come = asks m tells.function tells.argument (answers_of (events_of thread tells.after)) w.fuel in
      record {
        come = come;
        stands = record {
          fuel = w.fuel;
          own = follows_with m R thread tells begins w.fuel w.events;
          is = refl;
        };
        next = w.next;
        refused = w.refused;
        gone = w.gone;
        mutexes = λ mutex. ap (λ (held : List CellAt). list_any (same_cell mutex) held)
            (ap held_mutexes (from_first thread R tells.before tells.after tells.begins tells.stands tells.own tells.first) ∙ held_started tells.begins tells.argument (events_of thread tells.after) tells.act
            ∙ ap held_mutexes (sym w.events) ∙ held_map thread come.events);
      }

  pub follows : (fuel : ℕ) × Follows m R fuel thread
  follows = let asked = tells.asked begins.may in (asked.0, follows_with m R thread tells begins asked.0 asked.1)
