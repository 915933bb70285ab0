-- The cells of an object that a turn makes are 0, and its type is the one that its New's place says.
use Rattle.sharc_history_laws.proofs.{Imports.{◌≡◌, ℕ, ◌+◌, ◌*◌, ◌/◌, ◌^◌, ◌<◌, ◌≢◌, min, max, Bool, true, false, nat_lt, List, ◌∷◌, Option, Some, None, if◌then◌else◌, refl, sym, ap, ◌∙◌, subst, arith, get_or-set_other, slice_index, WordOp, WordStep, WordEvent, word_after, NewView, word_number, turn_of_stage, NewArguments, NewStage, Code, Instr, Shape, Stage, Makes, RunLaws, Fits, first_cell, Machine, act, asks_new, elements_of, int, ref, new, all_cells, turn, after, asked_by, Turn, MayTurn, state_now, words_now, one_thread, bounds, place_after, Targets, StaticType, cells_of, Entry, Empty, Refers, Unknown, Label, Labels, LessEntry, Leads, fill, IsWellTyped, Fine, ObjectState, objects_behind, made_behind, new_behind, owned, type_held, entry_type, IsSmall, StageStands, BuildsAt, Keeps, CellsAreThere, PointersAreThere, put_same}, TurnAt.turn_at, Consists.{Consists, consists_then, objects_then, made_word}, Stands.granules_low, Tables.{header_at, header_in, header_of, elements_in_stage}}
use Rattle.sharc_code.specs.Runs.{step_of}
use Rattle.sharc_invariant.specs.Words.{cell_at}

-- ---- words
pub word_other : (words : List ℕ) (event : Option WordEvent) (step : WordStep) (w : ℕ) → step_of event ≡ Some step → (w ≡ step.word → ⊥) → slice_index (words_now words event) w ≡ slice_index words w
word_other words None step w q ne = refl
word_other words (Some e) step w q ne =
    let same : e.step ≡ step = cc in
    get_or-set_other words e.step.word w (word_after e.step.op (slice_index words e.step.word)) 0 (λ z. ne (z ∙ ap (λ (y : WordStep). y.word) same))

-- ---- the type that a place gives
pub held_target : (l : Label) (r : ℕ) (ty : StaticType) (new_ : Entry) (refs : ℕ → ℕ) (o : ℕ) → LessEntry l r (Refers ty) new_ → (entry_type refs o new_).target ≡ ty.target
held_target l r ty Empty refs o h = absurd (let f : Refers ty ≡ Empty = h in cc)
held_target l r ty Unknown refs o h = absurd (let f : Refers ty ≡ Unknown = h in cc)
held_target l r ty (Refers b) refs o h = sym h.target

-- after a turn that fills register r with a reference of this type
pub filled_target : (ls : Labels) (l : Label) (pc r : ℕ) (ty : StaticType) (same : ℕ) (known : Bool) (m' : Machine) → Leads ls pc (fill l r (Refers ty) same known) → m'.at.pc ≡ pc → (type_held ls m' r).target ≡ ty.target
filled_target ls l pc r ty same known m' leads e =
    let here : LessEntry (fill l r (Refers ty) same known) r (Refers ty) ((ls.at pc).env r) = subst (λ e. LessEntry (fill l r (Refers ty) same known) r e ((ls.at pc).env r)) (put_same l.env r (Refers ty)) (leads.env r) in
    held_target (fill l r (Refers ty) same known) r ty ((ls.at m'.at.pc).env r) (ref m') (ref m' r)
    (subst (λ pc. LessEntry (fill l r (Refers ty) same known) r (Refers ty) ((ls.at pc).env r)) (sym e) here)

-- ---- one turn
module _ (laws : RunLaws) (keeps : Keeps) (cells : CellsAreThere) (pointers : PointersAreThere) (x : Targets) (code : Code) (s : Shape) (ls : Labels) (wt : IsWellTyped x code ls) (fits : Fits code s) (few : IsSmall code s)
    (one : Turn) (earlier : List Turn) (h : Consists x code s ls earlier) (may : MayTurn bounds (one_thread code s) (place_after code s earlier) one) where
  open turn_at code s (place_after code s earlier) one use {g, t, m, i, found, m'}

  abbrev then_ : Consists x code s ls (one ∷ earlier)
  then_ = consists_then laws keeps cells pointers x code s ls wt fits few one earlier h may

  m_is : m' ≡ after (turn code s ((place_after code s earlier).threads one.thread)) found
  m_is = put_same g.threads t (state_now (one_thread code s) g one)

  -- the stage of a New that is to write the length of object o
  module _ (o : ℕ) (nz : o ≢ 0) (r count cells' site : ℕ) (v : NewView) (is : i ≡ Instr.New r count cells' site) (stage : ((place_after code s earlier).threads one.thread).own.stage ≡ Makes v) (length_is : v.stage ≡ NewStage.Length o) where
    stands : StageStands code s h.state.elements h.world h.state.heap (place_after code s earlier).words one.thread ((place_after code s earlier).threads one.thread) (Instr.New r count cells' site) (Makes v)
    stands = subst (StageStands code s h.state.elements h.world h.state.heap g.words t m (Instr.New r count cells' site)) stage
        (subst (λ j. StageStands code s h.state.elements h.world h.state.heap g.words t m j m.own.stage) is ((h.state.threads t).runs may.started may.next.runs).stage)

    builds : BuildsAt (place_after code s earlier).words h.state.heap one.thread v (NewStage.Length o)
    builds = subst (BuildsAt g.words h.state.heap t v) length_is stands.1

    first_is : v.arguments.first ≡ first_cell s
    first_is = ap (λ (a : NewArguments). a.first) stands.0

    -- the machine goes on behind the New
    pc_now : m'.at.pc ≡ ((place_after code s earlier).threads one.thread).at.pc + 1
    pc_now =
        ap (λ (y : Machine). y.at.pc) m_is
        ∙ ap (λ j. (after (act code s j m) found).at.pc) is
        ∙ ap (λ y. (after (new s m r (elements_of (int m count)) cells' site y) found).at.pc) stage
        ∙ ap (λ y. (after (asks_new m r site (record { arguments = v.arguments; stage = y; head = v.head }) (turn_of_stage v.arguments y)) found).at.pc) length_is

    asked : asked_by (turn code s ((place_after code s earlier).threads one.thread)) ≡ Some (Rattle.sharc_heap.specs.Asks.step_of (word_number v.arguments (v.arguments.first + 2 * o + 1)) (WordOp.Swap v.arguments.elements))
    asked =
        ap (λ j. asked_by (act code s j m)) is
        ∙ ap (λ y. asked_by (new s m r (elements_of (int m count)) cells' site y)) stage
        ∙ ap (λ y. asked_by (asks_new m r site v (turn_of_stage v.arguments y))) length_is

    other_word : (j : ℕ) → cell_at s o j ≡ word_number v.arguments (v.arguments.first + 2 * o + 1) → ⊥
    other_word j = elim (nat_lt (v.arguments.first + 2 * o + 1) (v.arguments.first + 2 * v.arguments.end)) as (λ b. cell_at s o j ≡ (if b then v.arguments.first + 2 * o + 1 else 0) → ⊥) [
      | true ↦ λ e. let f = first_is in omega arith
      | false ↦ λ e. omega arith
    ]

    pub fine : Fine x code ls ((place_after code s earlier).threads one.thread).at.pc (ls.at ((place_after code s earlier).threads one.thread).at.pc) (Instr.New r count cells' site)
    fine = subst (Fine x code ls m.at.pc (ls.at m.at.pc)) is (wt.fine m.at.pc)

    abbrev ty : StaticType
    ty = fine.2.0

    -- its type
    at_o : then_.world.obj o ≡ owned one.thread (type_held ls m' r)
    at_o =
        ap (λ (f : ℕ → ObjectState). f o) (objects_then laws keeps cells pointers x code s ls wt fits few one earlier h may)
        ∙ ap (λ j. objects_behind ls t j m m' h.world.obj o) is
        ∙ ap (λ y. made_behind ls t r m' y h.world.obj o) stage
        ∙ ap (λ y. new_behind ls t r m' y h.world.obj o) length_is
        ∙ put_same h.world.obj o (owned t (type_held ls m' r))

    pub live : (then_.world.obj o).live ≡ true
    live = ap (λ (y : ObjectState). y.live) at_o

    pub target_is : (then_.world.obj o).ty.target ≡ fine.2.0.target
    target_is = ap (λ (y : ObjectState). y.ty.target) at_o ∙ filled_target ls (ls.at m.at.pc) (m.at.pc + 1) r fine.2.0 r true m' fine.2.7 pc_now

    elements_is : then_.state.elements o ≡ v.arguments.elements
    elements_is =
        then_.state.sim.lengths o nz live
        ∙ made_word laws keeps cells pointers x code s ls wt fits few one earlier h may o nz (ap (λ j. header_of j m.own.stage) is ∙ ap header_in stage ∙ ap header_at length_is)
        ∙ ap elements_in_stage stage

    cells_are : v.arguments.cells ≡ all_cells v.arguments.elements cells'
    cells_are = ap (λ (a : NewArguments). a.cells) stands.0 ∙ ap (λ n. all_cells n cells') (sym (ap (λ (a : NewArguments). a.elements) stands.0))

    inside : (j : ℕ) → j < then_.state.cells o → j < v.arguments.cells
    inside j lt =
        let all : then_.state.cells o ≡ v.arguments.elements * cells' = (then_.state.whole o nz live).1 ∙ ap (λ n. n * cells_of x (then_.world.obj o).ty.target) elements_is ∙ ap (λ k. v.arguments.elements * cells_of x k) target_is ∙ ap (λ k. v.arguments.elements * k) (sym fine.2.3) in
        let low = granules_low x code s ls wt fits (place_after code s (one ∷ earlier)) then_.world then_.state in
        let within = then_.state.apart.within o (j / 2) live (omega arith) in
        let small : j < 2 ^ 32 = omega arith in
        bound j (v.arguments.elements * cells') v.arguments.cells cells_are (subst (λ n. j < n) all lt) small
      where
        bound : (j n k : ℕ) → k ≡ min (max 1 n) (2 ^ 32) → j < n → j < 2 ^ 32 → j < k
        bound j n k e lt small = omega arith

    zero_word : (j : ℕ) → j < then_.state.cells o → slice_index (words_now (place_after code s earlier).words one.event) (cell_at s o j) ≡ 0
    zero_word j lt =
        let k : slice_index g.words (v.arguments.first + 2 * o + 2 + j) ≡ 0 = builds.3 j (inside j lt) in
        let f = first_is in
        let at : cell_at s o j ≡ v.arguments.first + 2 * o + 2 + j = omega arith in
        word_other g.words one.event (Rattle.sharc_heap.specs.Asks.step_of (word_number v.arguments (v.arguments.first + 2 * o + 1)) (WordOp.Swap v.arguments.elements)) (cell_at s o j) (may.next.asks ∙ asked) (other_word j)
        ∙ ap (slice_index g.words) at ∙ k

  -- each cell of the object that the turn makes is 0
  pub born : (o : ℕ) → o ≢ 0 → header_of i ((place_after code s earlier).threads one.thread).own.stage ≡ Some o → (j : ℕ) → j < then_.state.cells o → slice_index (words_now (place_after code s earlier).words one.event) (cell_at s o j) ≡ 0
  born o nz made j lt = by i refl made
    where
      at_stage : (r count cells' site : ℕ) → i ≡ Instr.New r count cells' site → (v : NewView) → ((place_after code s earlier).threads one.thread).own.stage ≡ Makes v → (y : NewStage) → v.stage ≡ y → header_at y ≡ Some o → slice_index (words_now (place_after code s earlier).words one.event) (cell_at s o j) ≡ 0
      at_stage r count cells' site is v stage (NewStage.Length header) length_is q = let same : header ≡ o = cc in zero_word o nz r count cells' site v is stage (length_is ∙ ap NewStage.Length same) j lt
      at_stage r count cells' site is v stage _ length_is q = absurd (cc)

      at_new : (r count cells' site : ℕ) → i ≡ Instr.New r count cells' site → (stage : Stage) → ((place_after code s earlier).threads one.thread).own.stage ≡ stage → header_in stage ≡ Some o → slice_index (words_now (place_after code s earlier).words one.event) (cell_at s o j) ≡ 0
      at_new r count cells' site is (Makes v) stage q = at_stage r count cells' site is v stage v.stage refl q
      at_new r count cells' site is _ stage q = absurd (cc)

      by : (k : Instr) → i ≡ k → header_of k ((place_after code s earlier).threads one.thread).own.stage ≡ Some o → slice_index (words_now (place_after code s earlier).words one.event) (cell_at s o j) ≡ 0
      by (Instr.New r count cells' site) is q = at_new r count cells' site is m.own.stage refl q
      by _ is q = absurd (cc)
