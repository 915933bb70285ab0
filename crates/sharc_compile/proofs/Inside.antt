-- A thread of well-formed guarded code stays within its functions, and its registers within the banks.
use Rattle.sharc_compile.proofs.Imports.{slice_get-get_or, get_or_from_slice_get, ◌≡◌, ℕ, ℤ, zero, suc, pos, negsuc, ◌+◌, ◌*◌, ◌<◌, ◌≤◌, ◌⊎◌, inl, inr, max, Bool, true, false, List, [], ◌∷◌, ◌++◌, length, fold, refl, sym, ap, ◌∙◌, subst, ⊎_elim, arith, Result, Ok, Err, nat_lt, get_or as slice_index_or, ltb-true, if◌then◌else◌, SourceEvent, CellAt, Trap, Act, Function, Parameter, Cell, Global, Register, Instr, Frame, is_zero, no_function, most_ints, most_refs, is_null, IsBody, IsAtPlace, IsGuarded, Program, Thread, turn, Phase, Running, Leaving, Left, Turn, Goes, Halts, function_at, statement_at, step, handed, without_base, to, source_at, event_of, argument, started, fresh, times_more, times_le}
use Rattle.sharc_guard.specs.{Machine.{int, ref, asserts, with_result, indexed, called, returned, lock_checked, exit, Stopped, back_to, next, set_int, cell_at}, Path.{after, with_parameter}}

-- ---- the largest function
fold_least : (g : Function → ℕ) (s : ℕ) (xs : List Function) → s ≤ fold (λ most f. max most (g f)) s xs
fold_least g s [] = omega arith
fold_least g s (x ∷ xs) = let h = fold_least g (max s (g x)) xs in omega arith

fold_each : (g : Function → ℕ) (s : ℕ) (xs : List Function) (n : ℕ) → g no_function ≡ 0 → g (slice_index_or xs n no_function) ≤ fold (λ most f. max most (g f)) s xs
fold_each g s [] n z = omega arith
fold_each g s (x ∷ xs) zero z = let h = fold_least g (max s (g x)) xs in omega arith
fold_each g s (x ∷ xs) (suc n) z = fold_each g (max s (g x)) xs n z

module _ (p : Program) (good : IsGuarded p) where
  abbrev pub most : ℕ
  most = most_ints p.functions

  abbrev pub most_of_refs : ℕ
  most_of_refs = most_refs p.functions

  pub ints_most : (f : ℕ) → (function_at p f).ints ≤ most
  ints_most f = fold_each (λ f. f.ints) 0 p.functions f refl

  pub refs_most : (f : ℕ) → (function_at p f).refs ≤ most_of_refs
  refs_most f = fold_each (λ f. f.refs) 0 p.functions f refl

  -- a caller's frame, with this many frames below it
  pub record IsReturn (f : Frame) (below : ℕ) : Type 0 where
    pub body : IsBody p good.owner (good.owner f.pc) f.pc
    pub ints : f.ints + most ≤ below * most
    pub refs : f.refs + most_of_refs ≤ below * most_of_refs

  abbrev pub Returns : List Frame → Type 0
  Returns [] = Unit {0}
  Returns (f ∷ []) = f.pc ≡ 1
  Returns (f ∷ g ∷ fs) = IsReturn f (length (g ∷ fs)) × Returns (g ∷ fs)

  pub record InBody (pc ints refs : ℕ) (frames : List Frame) : Type 0 where
    pub body : IsBody p good.owner (good.owner pc) pc
    pub some : 0 < length frames
    pub few : length frames ≤ 256
    pub ints_in : ints + most ≤ length frames * most
    pub refs_in : refs + most_of_refs ≤ length frames * most_of_refs
    pub returns : Returns frames

  pub record InExit (pc : ℕ) (frames : List Frame) : Type 0 where
    pub pc_is : pc ≡ 1
    pub none : frames ≡ []

  abbrev pub Within : Thread → Type 0
  Within a = InBody a.pc a.ints_from a.refs_from a.frames

  abbrev pub Inside : Thread → Type 0
  Inside a = Within a ⊎ InExit a.pc a.frames

  -- the registers of a frame are within the banks
  pub int_within : (a : Thread) (r : ℕ) → Within a → r < (function_at p (good.owner a.pc)).ints → a.ints_from + r < 256 * most
  int_within a r h lt =
      let m = ints_most (good.owner a.pc) in
      let l = times_le (length a.frames) 256 most h.few in
      let n = h.ints_in in
      omega arith

  pub ref_within : (a : Thread) (r : ℕ) → Within a → r < (function_at p (good.owner a.pc)).refs → a.refs_from + r < 256 * most_of_refs
  ref_within a r h lt =
      let m = refs_most (good.owner a.pc) in
      let l = times_le (length a.frames) 256 most_of_refs h.few in
      let n = h.refs_in in
      omega arith

  -- what is known of a place
  pub at_place : (a : Thread) → Within a → IsAtPlace p good.owner a.pc (statement_at p a.pc)
  at_place a h = good.each a.pc (statement_at p a.pc) h.body.behind (slice_get-get_or p.statements a.pc Instr.Exit h.body.inside)

  pub at_exit : (a : Thread) → InExit a.pc a.frames → statement_at p a.pc ≡ Instr.Exit
  at_exit a h = ap (statement_at p) h.pc_is ∙ get_or_from_slice_get p.statements 1 Instr.Exit Instr.Exit good.exits

  pub at_start : statement_at p 0 ≡ Instr.Start good.start
  at_start = get_or_from_slice_get p.statements 0 (Instr.Start good.start) Instr.Exit good.starts

  module _ (a : Thread) (h : Within a) where
    goes_to : (pc : ℕ) → IsBody p good.owner (good.owner a.pc) pc → InBody pc a.ints_from a.refs_from a.frames
    goes_to pc b = record {
      body = record { behind = b.behind; inside = b.inside; owned = refl };
      some = h.some;
      few = h.few;
      ints_in = h.ints_in;
      refs_in = h.refs_in;
      returns = h.returns;
    }

    returns_more : (f : Frame) (frames : List Frame) → 0 < length frames → IsReturn f (length frames) → Returns frames → Returns (f ∷ frames)
    returns_more f [] s r k = absurd (omega arith)
    returns_more f (g ∷ fs) s r k = (r, k)

    calls : (f ints refs site : ℕ) (x : ℤ) → ints ≤ (function_at p (good.owner a.pc)).ints → refs ≤ (function_at p (good.owner a.pc)).refs → f < length p.functions → IsBody p good.owner (good.owner a.pc) (a.pc + 1)
        → Inside (after a (called p a f ints refs site) x)
    calls f ints refs site x li lr lf b =
        elim (nat_lt (length a.frames) 256) as (λ t. nat_lt (length a.frames) 256 ≡ t → Inside (after a (if t then Goes (record a {
          pc = (function_at p f).entry;
          ints_from = a.ints_from + ints;
          refs_from = a.refs_from + refs;
          frames = record { pc = a.pc + 1; ints = a.ints_from; refs = a.refs_from } ∷ a.frames;
        }) else Halts (Stopped Trap.CallDepth site)) x)) [
          | true ↦ λ e.
              let few = ltb-true (length a.frames) 256 e in
              let en = (good.entries f lf).body in
              let m1 = ints_most (good.owner a.pc) in
              let m2 = refs_most (good.owner a.pc) in
              let t1 = times_more (length a.frames) most in
              let t2 = times_more (length a.frames) most_of_refs in
              let i1 = h.ints_in in
              let i2 = h.refs_in in
              inl (record {
                body = record { behind = en.behind; inside = en.inside; owned = refl };
                some = omega arith;
                few = omega arith;
                ints_in = omega arith;
                refs_in = omega arith;
                returns = returns_more record { pc = a.pc + 1; ints = a.ints_from; refs = a.refs_from } a.frames h.some (record {
                  body = record { behind = b.behind; inside = b.inside; owned = refl };
                  ints = h.ints_in;
                  refs = h.refs_in;
                }) h.returns;
              })
          | false ↦ λ e. inl h
        ] refl

    returning : (site : ℕ) (x : ℤ) (frames : List Frame) → length frames ≤ 256 → Returns frames → Inside (after a (returned p a site frames) x) ⊎ (frames ≡ [])
    returning site x [] few r = inr refl
    returning site x (f ∷ []) few r =
        inl (elim (nat_lt 0 (length a.held)) as (λ t. Inside (after a (if t then Halts (Stopped Trap.ReturnWithLockHeld site) else Goes (back_to a f [])) x)) [
          | true ↦ inl h
          | false ↦ inr (record { pc_is = r; none = refl })
        ])
    returning site x (f ∷ g ∷ fs) few r = inl (inl (record {
      body = r.0.body;
      some = omega arith;
      few = omega arith;
      ints_in = r.0.ints;
      refs_in = r.0.refs;
      returns = r.1;
    }))

    returns_inside : (site : ℕ) (x : ℤ) → Inside (after a (returned p a site a.frames) x)
    returns_inside site x = ⊎_elim (λ i. i) (λ (e : a.frames ≡ []). absurd (let n = ap length e in let s = h.some in omega arith)) (returning site x a.frames h.few h.returns)

    abbrev Next : Type 0
    Next = IsBody p good.owner (good.owner a.pc) (a.pc + 1)

    asserted : (b : Bool) (c : Trap) (site : ℕ) (x : ℤ) → Next → Inside (after a (asserts a b c site) x)
    asserted true c site x n = inl (goes_to (a.pc + 1) n)
    asserted false c site x n = inl h

    resulted : (r site : ℕ) (z : Result ℤ Trap) (x : ℤ) → Next → Inside (after a (with_result a r site z) x)
    resulted r site (Ok z) x n = inl (goes_to (a.pc + 1) n)
    resulted r site (Err c) x n = inl h

    index_inside : (r : ℕ) (z : ℤ) (cells field site elements : ℕ) (x : ℤ) → Next → Inside (after a (indexed a r z cells field site elements) x)
    index_inside r (pos i) cells field site elements x n =
        elim (nat_lt i elements) as (λ t. Inside (after a (if t then Goes (next (set_int a r (pos (i * cells + field)))) else Halts (Stopped Trap.IndexOutOfBounds site)) x)) [
          | true ↦ inl (goes_to (a.pc + 1) n)
          | false ↦ inl h
        ]
    index_inside r (negsuc i) cells field site elements x n = inl h

    lock_inside : (b : Bool) (c : CellAt) (site : ℕ) (x : ℤ) → Next → Inside (after a (lock_checked a b c site) x)
    lock_inside true c site x n = inl h
    lock_inside false c site x n = inl (goes_to (a.pc + 1) n)

    jumps : (b : Bool) (pc : ℕ) (x : ℤ) → IsBody p good.owner (good.owner a.pc) pc → Next → Inside (after a (if b then Goes (to a pc) else Goes (next a)) x)
    jumps true pc x b n = inl (goes_to pc b)
    jumps false pc x b n = inl (goes_to (a.pc + 1) n)

    takes : (b : Bool) (s t : Turn) (x : ℤ) → Inside (after a s x) → Inside (after a t x) → Inside (after a (if b then s else t) x)
    takes true s t x i k = i
    takes false s t x i k = k

    goes_next : Next → Inside record a { pc = a.pc + 1 }
    goes_next n = inl (goes_to (a.pc + 1) n)

    locks_inside : (cell : Cell) (held : List CellAt) (events : List SourceEvent) → Next
        → Inside (next (record (without_base (record a { events = events; lowered = [] }) cell) { held = held }))
    locks_inside (Global g c) held events n = inl (goes_to (a.pc + 1) n)
    locks_inside _ held events n = inl (goes_to (a.pc + 1) n)

    spawns_inside : (from : Register) (r : ℕ) (x : ℤ) (events : List SourceEvent) → Next
        → Inside (next (set_int (handed (record a { events = events; lowered = [] }) from) r x))
    spawns_inside (Register.Int s) r x events n = inl (goes_to (a.pc + 1) n)
    spawns_inside (Register.Reference s) r x events n = inl (goes_to (a.pc + 1) n)

    -- each statement of a body
    stays_inside : (i : Instr) → IsAtPlace p good.owner a.pc i → (x : ℤ) → Inside (after a (step p i a) x)
    stays_inside (Instr.ComputeInt operator r y z site) k x = resulted r site _ x k.leads
    stays_inside (Instr.ComputeLong operator r y z site) k x = resulted r site _ x k.leads
    stays_inside (Instr.NegateInt r y site) k x = resulted r site _ x k.leads
    stays_inside (Instr.NegateLong r y site) k x = resulted r site _ x k.leads
    stays_inside (Instr.ChkWidth width r site) k x = asserted _ Trap.OutOfRange site x k.leads
    stays_inside (Instr.Jump pc) k x = inl (goes_to pc k.leads)
    stays_inside (Instr.JumpIfZero r pc) k x = jumps (is_zero (int a r)) pc x k.leads.0 k.leads.1
    stays_inside (Instr.JumpIfNull r pc) k x = jumps (is_null (ref a r)) pc x k.leads.0 k.leads.1
    stays_inside (Instr.Call f ints refs site) k x = calls f ints refs site x k.writes.0 k.writes.1 k.leads.0 k.leads.1
    stays_inside (Instr.Return site) k x = returns_inside site x
    stays_inside (Instr.ChkNull r site) k x = asserted _ Trap.NullPointer site x k.leads
    stays_inside (Instr.ChkHeld cell site) k x = asserted _ Trap.MutexNotHeld site x k.leads
    stays_inside (Instr.ChkNotHeld cell site) k x = asserted _ Trap.MutexAlreadyHeld site x k.leads
    stays_inside (Instr.ChkPositive r site) k x = asserted _ Trap.SizeNotPositive site x k.leads
    stays_inside (Instr.ChkRoom site) k x = asserted _ Trap.TooManyLocks site x k.leads
    stays_inside (Instr.ChkLock cell site) k x = lock_inside _ _ site x k.leads
    stays_inside (Instr.ChkLockLoaded site) k x = lock_inside _ _ site x k.leads
    stays_inside (Instr.Bounds r base cells field site) k x = index_inside r (int a r) cells field site _ x k.leads
    stays_inside (Instr.GlobalBounds r elements cells field site) k x = index_inside r (int a r) cells field site _ x k.leads
    stays_inside (Instr.TakeLocal r from site) k x = takes (is_null (ref a from)) _ _ x (goes_next k.leads) (goes_next k.leads)
    stays_inside (Instr.Lock cell site) k x = locks_inside cell (a.held ++ cell_at p a cell ∷ []) (a.events ++ event_of (source_at p site).site (Act.Lock (cell_at p a cell)) (pos 0) ∷ []) k.leads
    stays_inside (Instr.Spawn r function from site) k x = spawns_inside from r x (a.events ++ event_of (source_at p site).site (Act.Spawn function (argument a from)) x ∷ []) k.leads
    stays_inside (Instr.Start site) k x = absurd k.leads
    stays_inside Instr.Exit k x = absurd k.leads
    stays_inside _ k x = goes_next k.leads

  exits_inside : (a : Thread) (phase : Phase) (x : ℤ) → InExit a.pc a.frames → Inside (after a (exit p a phase) x)
  exits_inside a Running x h = inr h
  exits_inside a Leaving x h = inr h
  exits_inside a Left x h = inr h

  -- each turn
  pub turned_inside : (a : Thread) (x : ℤ) → Inside a → Inside (after a (turn p a) x)
  turned_inside a x (inl h) = stays_inside a h (statement_at p a.pc) (at_place a h) x
  turned_inside a x (inr h) = subst (λ i. Inside (after a (step p i a) x)) (sym (at_exit a h)) (exits_inside a a.phase x h)

  -- and each path
  fresh_inside : (f : ℕ) → f < length p.functions → Within (fresh p f)
  fresh_inside f lf =
      let en = (good.entries f lf).body in
      record {
        body = record { behind = en.behind; inside = en.inside; owned = refl };
        some = omega arith;
        few = omega arith;
        ints_in = omega arith;
        refs_in = omega arith;
        returns = refl;
      }

  parameter_inside : (a : Thread) (v : ℤ) (q : Parameter) → Within a → Within (with_parameter a q v)
  parameter_inside a v Parameter.None h = h
  parameter_inside a v Parameter.Int h = h
  parameter_inside a v Parameter.Reference h = h

  pub started_inside : (f : ℕ) (v : ℤ) → f < length p.functions → Within (started p f v)
  started_inside f v lf = parameter_inside (fresh p f) v (function_at p f).parameter (fresh_inside f lf)
