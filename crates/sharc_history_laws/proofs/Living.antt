-- An object that is live by the events of a run is live.
use Rattle.sharc_history_laws.proofs.{Imports.{◌≡◌, ℕ, Bool, true, false, ◌||◌, cond, List, ◌∷◌, Option, Some, None, refl, sym, ap, ◌∙◌, ⊎_elim, find, SourceEvent, Object, Code, Instr, Shape, RunLaws, Fits, Machine, Turn, MayTurn, after_turn, one_thread, bounds, place_after, makes, frees, is_number, made_by, meets, Targets, Labels, IsWellTyped, ObjectState, objects_behind, objects_now, IsSmall, Keeps, CellsAreThere, PointersAreThere, AccessesAreAllowed, yes}, TurnAt.turn_at, Acts.{given_at, freed_at, About}, Consists.Consists, Lists.{Newest, live_in, live_other}, Rules.{pushed, same_behind, decide, number_yes, number_not, made_owned, given_owned}, Tables.{header_of}}

-- an event that frees the object, and does not make it
live_freed : (e : SourceEvent) (L : Newest) (n : ℕ) → makes (Object.Made n) e ≡ false → frees (Object.Made n) e ≡ true → live_in (e ∷ L) n ≡ false
live_freed e L n a b =
    ap (λ b. meets (makes (Object.Made n)) (cond (b || frees (Object.Made n) e) (Some e) (find (λ e. makes (Object.Made n) e || frees (Object.Made n) e) L))) a
    ∙ ap (λ b. meets (makes (Object.Made n)) (cond b (Some e) (find (λ e. makes (Object.Made n) e || frees (Object.Made n) e) L))) b
    ∙ a

-- ---- objects after a turn
module _ (ls : Labels) (t : ℕ) (m m' : Machine) (f : ℕ → ObjectState) (n : ℕ) where
  pub made_live : (i : Instr) → header_of i m.own.stage ≡ Some n → (objects_behind ls t i m m' f n).live ≡ true
  made_live i e = ap (λ (o : ObjectState). o.live) (made_owned ls t m m' f n i e).1

  -- one that was there, and is not freed
  pub still_live : (i : Instr) → (f n).live ≡ true → (freed_at i m ≡ Some n → ⊥) → (objects_behind ls t i m m' f n).live ≡ true
  still_live i live kept = ⊎_elim
      (λ (made : header_of i m.own.stage ≡ Some n). made_live i made)
      (λ (never : header_of i m.own.stage ≡ Some n → ⊥). ⊎_elim
      (λ (gave : given_at i m ≡ Some n). ap (λ (o : ObjectState). o.live) (given_owned ls t m m' f n i gave).1)
      (λ (not : given_at i m ≡ Some n → ⊥). ap (λ (o : ObjectState). o.live) (same_behind ls t m m' f n i never not kept) ∙ live)
      (decide (given_at i m) n))
      (decide (header_of i m.own.stage) n)

-- ---- one turn
abbrev pub LivesTold : Newest → (ℕ → ObjectState) → Type 0
LivesTold L obj = (n : ℕ) → live_in L n ≡ true → (obj n).live ≡ true

module _ (cell_laws : CellsAreThere) (pointers : PointersAreThere) (rights : AccessesAreAllowed) (laws : RunLaws) (keeps : Keeps) (x : Targets) (code : Code) (s : Shape) (ls : Labels) (wt : IsWellTyped x code ls) (fits : Fits code s) (few : IsSmall code s)
    (one : Turn) (earlier : List Turn) (h : Consists x code s ls earlier) (may : MayTurn bounds (one_thread code s) (place_after code s earlier) one) where
  open turn_at code s (place_after code s earlier) one use {g, t, m, i}

  abbrev Tells : Option SourceEvent → Type 0
  Tells = About ((place_after code s earlier).threads one.thread).own.number (header_of i ((place_after code s earlier).threads one.thread).own.stage) (given_at i ((place_after code s earlier).threads one.thread)) (freed_at i ((place_after code s earlier).threads one.thread))

  module _ (obj : ℕ → ObjectState) (obj_is : obj ≡ objects_now code s ls (place_after code s earlier) one h.world.obj) (L : Newest) (old : LivesTold L h.world.obj) (n : ℕ) where
    abbrev m' : Machine
    m' = (after_turn bounds (one_thread code s) (place_after code s earlier) one).threads one.thread

    abbrev behind : ℕ → ObjectState
    behind = objects_behind ls one.thread i ((place_after code s earlier).threads one.thread) m' h.world.obj

    at_n : (behind n).live ≡ true → (obj n).live ≡ true
    at_n e = ap (λ (f : ℕ → ObjectState). (f n).live) obj_is ∙ e

    kept : live_in L n ≡ true → (freed_at i ((place_after code s earlier).threads one.thread) ≡ Some n → ⊥) → (obj n).live ≡ true
    kept live not = at_n (still_live ls t m m' h.world.obj n i (old n live) not)

    by_event : (e : SourceEvent) → Tells (Some e) → live_in (e ∷ L) n ≡ true → (a b : Bool) → makes (Object.Made n) e ≡ a → frees (Object.Made n) e ≡ b → (obj n).live ≡ true
    by_event e tells live true b p q = at_n (made_live ls t m m' h.world.obj n i (made_is (made_by e e.act) refl))
      where
        made_is : (o : Option ℕ) → made_by e e.act ≡ o → header_of i ((place_after code s earlier).threads one.thread).own.stage ≡ Some n
        made_is None z = absurd (yes (sym p ∙ ap (is_number n) z))
        made_is (Some k) z = sym tells.makes ∙ z ∙ ⊎_elim
            (λ (w : Some k ≡ Some n). w)
            (λ (ne : Some k ≡ Some n → ⊥). absurd (yes (sym p ∙ ap (is_number n) z ∙ number_not n (Some k) ne)))
            (decide (Some k) n)
    by_event e tells live false true p q = absurd (yes (sym live ∙ live_freed e L n p q))
    by_event e tells live false false p q = kept (sym (live_other e L n p q) ∙ live) (λ is. yes (sym (ap (is_number n) (tells.frees ∙ is) ∙ number_yes n) ∙ q))

    lives : (ev : Option SourceEvent) → Tells ev → live_in (pushed ev L) n ≡ true → (obj n).live ≡ true
    lives None tells live = kept live (λ is. let f : None ≡ Some n = tells.frees ∙ is in cc)
    lives (Some e) tells live = by_event e tells live (makes (Object.Made n) e) (frees (Object.Made n) e) refl refl

  pub lives_told : (obj : ℕ → ObjectState) → obj ≡ objects_now code s ls (place_after code s earlier) one h.world.obj → (L : Newest) → LivesTold L h.world.obj → (ev : Option SourceEvent) → Tells ev → LivesTold (pushed ev L) obj
  lives_told obj is L old ev tells n live = lives obj is L old n ev tells live
