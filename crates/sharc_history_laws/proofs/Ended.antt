-- A thread that is gone by the events has ended.
use Rattle.sharc_history_laws.proofs.{Imports.{◌≡◌, ℕ, pos, ◌⊎◌, ◌↔◌, Bool, true, false, ◌&&◌, List, [], ◌∷◌, Option, Some, None, refl, sym, ap, ◌∙◌, subst, ⊎_elim, arith, eqb-true, cases_eq, not_true as unset, not_false as some_true, slice_index, SourceEvent, Code, Instr, Shape, Ended, RunLaws, Fits, state_word, Machine, act, exit, is_exit, turn, after, may_go, Turn, result_of, state_now, said, one_thread, place_after, said_now, table_of, is_gone, is_natural, went, Labels, Keeps, CodeBegins, CellsAreThere, PointersAreThere, AccessesAreAllowed, IsSmall, IsWellTyped, Targets, history_of, yes, put_same, put_other}, TurnAt.{turn_at, RunOf}, Acts.thread_said, Broken.{AllOf, all_reverse, none_any}, Consists.consists, Leaving.{gone_said, not_gone, leaves_at}, Lists.Newest, Rules.{pushed, newest, newest_now, about_now, number_is}}

-- the event says that thread n is gone
abbrev GoneBy : ℕ → SourceEvent → Bool
GoneBy n e = is_gone e.act && is_natural e.thread (pos n)

both_of : (a : Bool) (t n : ℕ) → (a && is_natural t (pos n)) ≡ true → (a ≡ true) × (t ≡ n)
both_of true t n e = (refl, eqb-true t n e)
both_of false t n e = absurd (yes (sym e))

module _ (cell_laws : CellsAreThere) (pointers : PointersAreThere) (rights : AccessesAreAllowed) (laws : RunLaws) (begins_law : CodeBegins) (keeps : Keeps) (x : Targets) (code : Code) (s : Shape) (ls : Labels) (wt : IsWellTyped x code ls) (fits : Fits code s) (few : IsSmall code s) where
  abbrev Alive : List Turn → ℕ → Type 0
  Alive run n = ((place_after code s run).threads n).at.state ≡ Ended → ⊥

  module _ (one : Turn) (earlier : List Turn) (run : RunOf code s (one ∷ earlier)) (n : ℕ) (alive : Alive (one ∷ earlier) n) where
    open turn_at code s (place_after code s earlier) one use {g, m, i, found}

    abbrev event : Option SourceEvent
    event = said_now code (table_of code s earlier) ((place_after code s earlier).threads one.thread) (result_of one.event)

    -- it had not ended before
    before : Alive earlier n
    before ended = ⊎_elim
        (λ (same : n ≡ one.thread). yes (sym run.1.next.runs ∙ ap may_go (ap (λ u. (g.threads u).at.state) (sym same) ∙ ended)))
        (λ (ne : n ≡ one.thread → ⊥). alive (ap (λ (y : Machine). y.at.state) (put_other g.threads one.thread n (state_now (one_thread code s) g one) ne) ∙ ended))
        (cases_eq n one.thread)

    ends_now : (j : Instr) → i ≡ j → is_exit j ≡ true → (elements : ℕ) → gone_said (said code j ((place_after code s earlier).threads one.thread) found elements) ≡ true → (after (act code s j ((place_after code s earlier).threads one.thread)) found).at.state ≡ Ended
    ends_now Instr.Exit is e elements q = ap (λ y. (after (exit s m y) found).at.state) (leaves_at code m m.own.stage q)
    ends_now _ is e elements q = absurd (yes (sym e))

    calm : (e : SourceEvent) → event ≡ Some e → GoneBy n e ≡ false
    calm e is = unset (GoneBy n e) (λ z.
        let k = both_of (is_gone e.act) e.thread n z in
        let h = consists laws begins_law keeps cell_laws pointers x code s ls wt fits few earlier run.0 in
        let thread : e.thread ≡ one.thread = ap (thread_said m.own.number) (sym is) ∙ (about_now cell_laws pointers rights laws keeps x code s ls wt fits few one earlier h run.1).thread ∙ number_is cell_laws pointers rights laws keeps x code s ls wt fits few one earlier h run.1 in
        let q : gone_said event ≡ true = ap gone_said is ∙ k.0 in
        let exits : is_exit i ≡ true = some_true (is_exit i) (λ no. yes (sym q ∙ not_gone code m laws.turns.tells i found _ no)) in
        let now : (after (turn code s m) found).at.state ≡ Ended = ends_now i refl exits _ q in
        alive (ap (λ u. ((place_after code s (one ∷ earlier)).threads u).at.state) (sym k.1 ∙ thread) ∙ ap (λ (y : Machine). y.at.state) (put_same g.threads one.thread (state_now (one_thread code s) g one)) ∙ now))

    pushed_all : (ev : Option SourceEvent) → event ≡ ev → (L : Newest) → AllOf (λ e. GoneBy n e ≡ false) L → AllOf (λ e. GoneBy n e ≡ false) (pushed ev L)
    pushed_all None is L h = h
    pushed_all (Some e) is L h = (calm e is, h)

  none_gone : (run : List Turn) → RunOf code s run → (n : ℕ) → Alive run n → AllOf (λ e. GoneBy n e ≡ false) (newest code s run)
  none_gone [] run n alive = tt
  none_gone (one ∷ earlier) run n alive =
      subst (AllOf (λ e. GoneBy n e ≡ false)) (sym (newest_now code s one earlier))
      (pushed_all one earlier run n alive (event one earlier run n alive) refl (newest code s earlier) (none_gone earlier run.0 n (before one earlier run n alive)))

  pub not_went : (run : List Turn) → RunOf code s run → (n : ℕ) → (slice_index (place_after code s run).words (state_word n) ≡ 3) ↔ (((place_after code s run).threads n).at.state ≡ Ended)
      → (slice_index (place_after code s run).words (state_word n) ≡ 1) ⊎ (slice_index (place_after code s run).words (state_word n) ≡ 2) → went (history_of code s run) (pos n) ≡ false
  not_went run is n tells state =
      let alive : Alive run n = λ ended. let three = tells.1 ended in ⊎_elim (λ one. let e : 1 ≡ 3 = sym one ∙ three in omega (arith, e)) (λ two. let e : 2 ≡ 3 = sym two ∙ three in omega (arith, e)) state in
      none_any (GoneBy n) (history_of code s run) (all_reverse (λ e. GoneBy n e ≡ false) (newest code s run) (none_gone run is n alive))
