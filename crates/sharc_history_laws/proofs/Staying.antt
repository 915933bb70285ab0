-- An object in whose granules bits stand stays, and no event of a turn is about its beginning or its end.
use Rattle.sharc_history_laws.proofs.{Imports.{◌≡◌, ℕ, ◌+◌, ◌*◌, ◌<◌, ◌≢◌, true, false, List, ◌∷◌, Option, Some, None, refl, sym, ap, ◌∙◌, subst, ⊎_elim, cases_eq, or_no, Object, SourceEvent, stands, Code, Instr, Shape, Stage, Uncounts, Leaves as Leaving, granules, ref, is_exit, turn, Turn, result_of, paired, told_by, said, Erase, one_thread, place_after, begins, frees, is_number, made_by, given_by, is_gone, Built, Live, Labels, IsOn, Targets, cells_of, has_withdrawn, is_ended, ObjectState, yes, not_false}, TurnAt.{turn_at, RunOf}, Acts.{given_at, freed_in, freed_at, About, about}, Cleared.{given_cleared, freed_cleared}, Consists.{Consists, objects_then, header_built}, Leaving.{gone_said, not_gone, leaves_at}, Remaining.word_at, Rules.{same_behind, low_numbers, number_not as number_no}, Tables.{header_of, length_kept}, Wholes.{TheLaws, Typed, Whole, fresh_of, next_consists}, Withdrawing.has_left, Writes.writes}
use Rattle.sharc_meaning.specs.Events.{freed_by}

-- the object of this number, where it is one that was made
abbrev pub IsObject : Object → ℕ → Type 0
IsObject (Object.Global g) o = Unit {0}
IsObject (Object.Made n) o = (n ≡ o) × (o ≢ 0)

module _ (laws : TheLaws) (x : Targets) (code : Code) (s : Shape) (ls : Labels) (typed : Typed x code s ls) (one : Turn) (earlier : List Turn) (run : RunOf code s (one ∷ earlier)) (w : Whole x code s ls earlier)
    (o k : ℕ) (live : (w.consists.world.obj o).live ≡ true) (inside : 2 * k < w.consists.state.cells o) where
  open turn_at code s (place_after code s earlier) one use {g, t, m, i, m'}
  open w.consists use {world, state as st}

  on : IsOn (place_after code s earlier) one.thread
  on = (run.1.started, run.1.next.runs)

  fresh : ((place_after code s earlier).threads one.thread).own.stop ≡ None
  fresh = fresh_of laws x code s ls typed one earlier run w.halting

  abbrev next : Consists x code s ls (one ∷ earlier)
  next = next_consists laws x code s ls typed one earlier run w

  pub record StillThere : Type 0 where
    pub is_live : (next.world.obj o).live ≡ true
    pub is_inside : 2 * k < next.state.cells o

  -- it is not made anew
  unmade : o ≢ 0 → header_of i ((place_after code s earlier).threads one.thread).own.stage ≡ Some o → ⊥
  unmade nz e =
      let built : st.heap.state o ≡ Built t = header_built x code s ls typed.wt typed.fits g world st t on o e in
      let both : Built t ≡ Live = sym built ∙ (st.heap_stands.live o nz).0 live in cc

  -- where it is neither made, given nor freed it stays
  pub kept : o ≢ 0 → (given_at i ((place_after code s earlier).threads one.thread) ≡ Some o → ⊥) → (freed_at i ((place_after code s earlier).threads one.thread) ≡ Some o → ⊥) → StillThere
  kept nz ungiven unfreed =
      let objs = objects_then laws.run laws.keeps laws.cells laws.pointers x code s ls typed.wt typed.fits typed.few one earlier w.consists run.1 in
      let same : next.world.obj o ≡ world.obj o = ap (λ (f : ℕ → ObjectState). f o) objs ∙ same_behind ls t m m' world.obj o i (unmade nz) ungiven unfreed in
      let live' : (next.world.obj o).live ≡ true = ap (λ (y : ObjectState). y.live) same ∙ live in
      let words = length_kept x code s ls g world st t o nz live one.event (turn code s m) run.1.next.asks (writes laws.cells laws.pointers x code s ls typed.wt typed.fits g world st t on) in
      let elements : next.state.elements o ≡ st.elements o = next.state.sim.lengths o nz live' ∙ words ∙ sym (st.sim.lengths o nz live) in
      let cells : next.state.cells o ≡ st.cells o = (next.state.whole o nz live').1 ∙ ap (λ n. n * cells_of x (next.world.obj o).ty.target) elements ∙ ap (λ (y : ObjectState). st.elements o * cells_of x y.ty.target) same ∙ sym (st.whole o nz live).1 in
      record { is_live = live'; is_inside = subst (λ n. 2 * k < n) (sym cells) inside }

  -- the globals are there always
  pub kept_globals : o ≡ 0 → StillThere
  kept_globals z =
      let live0 : (next.world.obj 0).live ≡ true = ap (λ (y : ObjectState). y.live) next.state.globals in
      let cells : next.state.cells o ≡ st.cells o = ap next.state.cells z ∙ next.state.globals_cells ∙ sym st.globals_cells ∙ ap st.cells (sym z) in
      record { is_live = ap (λ o. (next.world.obj o).live) z ∙ live0; is_inside = subst (λ n. 2 * k < n) (sym cells) inside }

  -- where the instruction is one that changes no objects
  pub kept_calm : (header_of i ((place_after code s earlier).threads one.thread).own.stage ≡ None) → (given_at i ((place_after code s earlier).threads one.thread) ≡ None) → (freed_at i ((place_after code s earlier).threads one.thread) ≡ None) → StillThere
  kept_calm a b c = ⊎_elim kept_globals
      (λ nz. kept nz (λ e. let f : None ≡ Some o = sym b ∙ e in cc) (λ e. let f : None ≡ Some o = sym c ∙ e in cc))
      (cases_eq o 0)

  -- ---- where a bit stands
  module _ (u : ℕ) (bit : stands (word_at (place_after code s earlier) (o + 1 + k)) u ≡ true) where
    ungiven : (j : Instr) → i ≡ j → given_at j ((place_after code s earlier).threads one.thread) ≡ Some o → ⊥
    ungiven (Instr.Give r site) is e =
        let same : ref m r ≡ o = cc in
        let low : 2 * k < st.cells (ref m r) = subst (λ o. 2 * k < st.cells o) (sym same) inside in
        let none = given_cleared laws.run.turns laws.shadow laws.state laws.cells laws.pointers x code s ls typed.wt typed.fits g world st one run.1 fresh w.remains w.cleared r site is k low u in
        yes (sym bit ∙ ap (λ o. stands (word_at g (o + 1 + k)) u) (sym same) ∙ none)
    ungiven _ is e = let f : None ≡ Some o = e in cc

    unfreed_at : (r layout site : ℕ) → i ≡ Instr.Free r layout site → (y : Stage) → ((place_after code s earlier).threads one.thread).own.stage ≡ y → freed_in y (ref ((place_after code s earlier).threads one.thread) r) ≡ Some o → ⊥
    unfreed_at r layout site is (Uncounts all) at e =
        let same : ref m r ≡ o = cc in
        let low : 2 * k < st.cells (ref m r) = subst (λ o. 2 * k < st.cells o) (sym same) inside in
        let none = freed_cleared laws.run.turns laws.shadow laws.state laws.cells laws.pointers x code s ls typed.wt typed.fits g world st one run.1 fresh w.remains w.cleared r layout site all is at k low u in
        yes (sym bit ∙ ap (λ o. stands (word_at g (o + 1 + k)) u) (sym same) ∙ none)
    unfreed_at r layout site is _ at e = let f : None ≡ Some o = e in cc

    unfreed : (j : Instr) → i ≡ j → freed_at j ((place_after code s earlier).threads one.thread) ≡ Some o → ⊥
    unfreed (Instr.Free r layout site) is e = unfreed_at r layout site is m.own.stage refl e
    unfreed _ is e = let f : None ≡ Some o = e in cc

    pub stays : StillThere
    stays = ⊎_elim kept_globals (λ nz. kept nz (ungiven i refl) (unfreed i refl)) (cases_eq o 0)

    -- ---- the event of the turn
    module _ (e : SourceEvent) (told : told_by (one_thread code s) (Erase code s earlier) (place_after code s earlier) one ≡ Some e) where
      abbrev elements : ℕ
      elements = paired (one_thread code s) (Erase code s earlier) (place_after code s earlier) one

      abbrev tells : Option SourceEvent → Type 0
      tells = About ((place_after code s earlier).threads one.thread).own.number (header_of i ((place_after code s earlier).threads one.thread).own.stage) (given_at i ((place_after code s earlier).threads one.thread)) (freed_at i ((place_after code s earlier).threads one.thread))

      of : tells (Some e)
      of = subst tells told (about code m i (result_of one.event) elements (low_numbers laws.cells laws.pointers laws.rights laws.run laws.keeps x code s ls typed.wt typed.fits typed.few one earlier w.consists run.1))

      pub nothing : (object : Object) → IsObject object o → (begins object e ≡ false) × (frees object e ≡ false)
      nothing (Object.Global h) is = (refl, refl)
      nothing (Object.Made n) is = (
        or_no (is_number n (made_by e e.act)) (is_number n (given_by e.act))
            (number_no n (made_by e e.act) (λ q. unmade is.1 (sym of.makes ∙ q ∙ ap (λ j. Some j) is.0)))
            (number_no n (given_by e.act) (λ q. ungiven i refl (sym of.gives ∙ q ∙ ap (λ j. Some j) is.0))),
        number_no n (freed_by e.act) (λ q. unfreed i refl (sym of.frees ∙ q ∙ ap (λ j. Some j) is.0)),
      )

      -- the thread of the bit does not end
      leaving : (j : Instr) → i ≡ j → is_exit j ≡ true → gone_said (said code j ((place_after code s earlier).threads one.thread) (result_of one.event) elements) ≡ true → ((place_after code s earlier).threads one.thread).own.stage ≡ Leaving
      leaving Instr.Exit is e q = leaves_at code m m.own.stage q
      leaving _ is e q = absurd (yes (sym e))

      pub stays_on : o + 1 + k < granules s → is_gone e.act ≡ true → e.thread ≢ u
      stays_on lt gone mine =
          let q : gone_said (said code i m (result_of one.event) elements) ≡ true = ap gone_said told ∙ gone in
          let exit : is_exit i ≡ true = not_false (is_exit i) (λ no. yes (sym q ∙ not_gone code m laws.run.turns.tells i (result_of one.event) elements no)) in
          let at : m.own.stage ≡ Leaving = leaving i refl exit q in
          let left : has_left m (o + 1 + k) ≡ true = ap (λ y. has_withdrawn y m.own.table.order (is_ended m.at.state) (o + 1 + k)) at in
          let thread : u ≡ t = sym mine ∙ of.thread ∙ (st.threads t).has.number in
          yes (sym left ∙ ap (λ u. has_left (g.threads u) (o + 1 + k)) (sym thread) ∙ w.remains.left u (o + 1 + k) lt bit)
