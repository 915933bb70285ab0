-- Between two places of a run with the same epoch of a granule, at both of which the bit of a thread stands: the bit stands all along, the object stays,
-- and no event is about its beginning or its end, or that of the thread.
use Rattle.sharc_history_laws.proofs.{Imports.{◌≡◌, ℕ, ◌+◌, ◌*◌, ◌<◌, ◌≤◌, ◌≢◌, ◌⊎◌, inl, inr, true, false, List, [], ◌∷◌, ◌++◌, Some, None, sym, ◌∙◌, subst, ⊎_elim, arith, Object, SourceEvent, epoch_of, stands, Code, Shape, granules, Machine, Turn, Global, told_by, Erase, one_thread, place_after, begins, frees, is_gone, Labels, Targets, NothingBetween, yes}, TurnAt.RunOf, Consists.Consists, Remaining.{word_at, epoch_grows, bit_or_left, left_still}, Staying.{IsObject, stays, nothing, stays_on}, Wholes.{TheLaws, Typed, Whole, whole, whole_next, fresh_of}, Withdrawing.has_left}

none_there : (after : List Turn) (turn : Turn) (before : List Turn) → [] ≡ after ++ turn ∷ before → ⊥
none_there [] turn before e = cc
none_there (a ∷ after) turn before e = cc

module _ (laws : TheLaws) (x : Targets) (code : Code) (s : Shape) (ls : Labels) (typed : Typed x code s ls) where
  abbrev g_of : List Turn → Global Machine
  g_of run = place_after code s run

  -- one more turn
  module _ (one : Turn) (earlier : List Turn) (run : RunOf code s (one ∷ earlier)) where
    abbrev w : Whole x code s ls earlier
    w = whole laws x code s ls typed earlier run.0

    fresh : ((place_after code s earlier).threads one.thread).own.stop ≡ None
    fresh = fresh_of laws x code s ls typed one earlier run w.halting

    pub up : (p : ℕ) → p < granules s → epoch_of (word_at (place_after code s earlier) p) ≤ epoch_of (word_at (place_after code s (one ∷ earlier)) p)
    up p lt = epoch_grows laws.run.turns laws.shadow laws.cells x code s ls typed.wt typed.fits (g_of earlier) w.consists.world w.consists.state one run.1 fresh w.remains p lt

    pub bit_then : (u p : ℕ) → p < granules s → epoch_of (word_at (place_after code s (one ∷ earlier)) p) ≡ epoch_of (word_at (place_after code s earlier) p) → stands (word_at (place_after code s earlier) p) u ≡ true
        → (stands (word_at (place_after code s (one ∷ earlier)) p) u ≡ true) ⊎ (has_left ((place_after code s (one ∷ earlier)).threads u) p ≡ true)
    bit_then u p lt same e = bit_or_left laws.run.turns laws.shadow laws.cells x code s ls typed.wt typed.fits (g_of earlier) w.consists.world w.consists.state one run.1 fresh w.remains u p lt same e

    pub left_then : (u p : ℕ) → has_left ((place_after code s earlier).threads u) p ≡ true → has_left ((place_after code s (one ∷ earlier)).threads u) p ≡ true
    left_then u p e = left_still laws.run.turns laws.shadow laws.cells x code s ls typed.wt typed.fits (g_of earlier) w.consists.world w.consists.state one run.1 fresh w.remains u p e

  module _ (base : List Turn) (o k u : ℕ) (lt : o + 1 + k < granules s) where
    abbrev epoch_at : List Turn → ℕ
    epoch_at run = epoch_of (word_at (place_after code s run) (o + 1 + k))

    abbrev bit_at : List Turn → Type 0
    bit_at run = stands (word_at (place_after code s run) (o + 1 + k)) u ≡ true

    pub grows : (between : List Turn) → RunOf code s (between ++ base) → epoch_at base ≤ epoch_at (between ++ base)
    grows [] run = omega arith
    grows (one ∷ rest) run = let a = grows rest run.0 in let b = up one (rest ++ base) run (o + 1 + k) lt in omega (arith, a, b)

    -- where the epoch is the same it was the same before
    same_before : (one : Turn) (rest : List Turn) (run : RunOf code s (one ∷ (rest ++ base))) → epoch_at (one ∷ (rest ++ base)) ≡ epoch_at base → epoch_at (rest ++ base) ≡ epoch_at base
    same_before one rest run e = let a = grows rest run.0 in let b = up one (rest ++ base) run (o + 1 + k) lt in between (epoch_at base) (epoch_at (rest ++ base)) (epoch_at (one ∷ (rest ++ base))) a b e
      where
        between : (a b c : ℕ) → a ≤ b → b ≤ c → c ≡ a → b ≡ a
        between a b c p q e = omega (arith, p, q, e)

    pub bit_on : (between : List Turn) → RunOf code s (between ++ base) → epoch_at (between ++ base) ≡ epoch_at base → bit_at base → bit_at (between ++ base) ⊎ (has_left ((place_after code s (between ++ base)).threads u) (o + 1 + k) ≡ true)
    bit_on [] run e b = inl b
    bit_on (one ∷ rest) run e b =
        let before = same_before one rest run e in
        ⊎_elim
        (λ stood. bit_then one (rest ++ base) run u (o + 1 + k) lt (e ∙ sym before) stood)
        (λ gone. inr (left_then one (rest ++ base) run u (o + 1 + k) gone))
        (bit_on rest run.0 before b)

    module _ (object : Object) (is : IsObject object o) (live_base : (run : RunOf code s base) → ((whole laws x code s ls typed base run).consists.world.obj o).live ≡ true)
        (inside_base : (run : RunOf code s base) → 2 * k < (whole laws x code s ls typed base run).consists.state.cells o) where
      pub record Along (between : List Turn) (run : RunOf code s (between ++ base)) : Type 0 where
        pub is_live : ((whole laws x code s ls typed (between ++ base) run).consists.world.obj o).live ≡ true
        pub is_inside : 2 * k < (whole laws x code s ls typed (between ++ base) run).consists.state.cells o
        pub no_events : NothingBetween code s between base object u

      abbrev About : Turn → List Turn → Type 0
      About turn before = (e : SourceEvent) → told_by (one_thread code s) (Erase code s (before ++ base)) (place_after code s (before ++ base)) turn ≡ Some e
          → (begins object e ≡ false) × (frees object e ≡ false) × (is_gone e.act ≡ true → e.thread ≢ u)

      along_then : (one : Turn) (rest : List Turn) (run : RunOf code s (one ∷ (rest ++ base))) → bit_at (rest ++ base) → Along rest run.0 → Along (one ∷ rest) run
      along_then one rest run bit old =
          let w = whole laws x code s ls typed (rest ++ base) run.0 in
          let still = stays laws x code s ls typed one (rest ++ base) run w o k old.is_live old.is_inside u bit in
          let same = whole_next laws x code s ls typed one (rest ++ base) run in
          record {
            is_live = subst (λ (h : Consists x code s ls (one ∷ (rest ++ base))). (h.world.obj o).live ≡ true) (sym same) still.is_live;
            is_inside = subst (λ (h : Consists x code s ls (one ∷ (rest ++ base))). 2 * k < h.state.cells o) (sym same) still.is_inside;
            no_events = split;
          }
        where
          here : About one rest
          here e told =
              let w = whole laws x code s ls typed (rest ++ base) run.0 in
              let a = nothing laws x code s ls typed one (rest ++ base) run w o k old.is_live old.is_inside u bit e told object is in
              (a.0, a.1, stays_on laws x code s ls typed one (rest ++ base) run w o k old.is_live old.is_inside u bit e told lt)

          split : (after : List Turn) (turn : Turn) (before : List Turn) → one ∷ rest ≡ after ++ turn ∷ before → About turn before
          split [] turn before e = let a : one ≡ turn = cc in let b : rest ≡ before = cc in subst (λ turn. About turn before) a (subst (About one) b here)
          split (a ∷ after) turn before e = let b : rest ≡ after ++ turn ∷ before = cc in old.no_events after turn before b

      pub along : (between : List Turn) (run : RunOf code s (between ++ base)) → epoch_at (between ++ base) ≡ epoch_at base → bit_at base → bit_at (between ++ base) → Along between run
      along [] run e b now = record { is_live = live_base run; is_inside = inside_base run; no_events = λ after turn before q. absurd (none_there after turn before q) }
      along (one ∷ rest) run e b now =
          let before = same_before one rest run e in
          let stood : bit_at (rest ++ base) = ⊎_elim
          (λ stood. stood)
          (λ gone. absurd (yes (sym (left_then one (rest ++ base) run u (o + 1 + k) gone) ∙ (whole laws x code s ls typed (one ∷ (rest ++ base)) run).remains.left u (o + 1 + k) lt now)))
          (bit_on rest run.0 before b) in
          along_then one rest run stood (along rest run.0 before b stood)
