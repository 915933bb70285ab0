-- The thread that makes the turn: where it stands, and where it comes to stand.
use Rattle.sharc_invariant.proofs.{Imports.{◌≡◌, ℕ, ℤ, zero, suc, ◌+◌, ◌*◌, ◌<◌, ◌≤◌, max, Bool, true, false, List, [], ◌∷◌, Option, Some, None, refl, sym, ap, ◌∙◌, subst, ⊎_elim, arith, mul-le-mul_left, mul_comm, length, slice_index_or, fold, ◌==◌, FRAMES, Code, Function, Instr, Shape, Frame, Stage, Rests, Machine, instr_at, function_of, no_function, most_ints, most_refs, may_go, Global, Targets, Gate, Closed, Label, Labels, LessGate, Fine, IsWellTyped, refs_in, ints_in, World, Heap, State, View, BelowStands, FramesStand, frame_at, StageStands, Runs, GateStands, TopStands, label_now, view_of, ne_eq, suc_times}, TurnAt.thread_at, Quiet.label_held, Others.OnHold}

-- ---- instructions of one turn
abbrev pub is_single : Instr → Bool
is_single (Instr.Clear r n) = false
is_single (Instr.New r c n site) = false
is_single (Instr.Free r l site) = false
is_single (Instr.Spawn r f from site) = false
is_single (Instr.Start site) = false
is_single Instr.Exit = false
is_single (Instr.CondSignal c site) = false
is_single _ = true

pub single_rests : (code : Code) (s : Shape) (elements : ℕ → ℕ) (w : World) (heap : Heap) (words : List ℕ) (t : ℕ) (m : Machine) (i : Instr) (stage : Stage) → is_single i ≡ true → StageStands code s elements w heap words t m i stage → stage ≡ Rests
single_rests code s elements w heap words t m i Rests e h = refl
single_rests code s elements w heap words t m (Instr.Clear r n) stage e h = absurd (cc)
single_rests code s elements w heap words t m (Instr.New r c n site) stage e h = absurd (cc)
single_rests code s elements w heap words t m (Instr.Free r l site) stage e h = absurd (cc)
single_rests code s elements w heap words t m (Instr.Spawn r f from site) stage e h = absurd (cc)
single_rests code s elements w heap words t m (Instr.Start site) stage e h = absurd (cc)
single_rests code s elements w heap words t m Instr.Exit stage e h = absurd (cc)
single_rests code s elements w heap words t m (Instr.CondSignal c site) stage e h = absurd (cc)
single_rests code s elements w heap words t m _ stage e h = absurd h

-- ---- registers are within their banks
most_ge : (f : Function → ℕ) (a : ℕ) (fs : List Function) → a ≤ fold (λ m g. max m (f g)) a fs
most_ge f a [] = omega arith
most_ge f a (x ∷ xs) = let r = most_ge f (max a (f x)) xs in omega arith

most_at : (f : Function → ℕ) (a : ℕ) (fs : List Function) (n : ℕ) → f no_function ≡ 0 → f (slice_index_or fs n no_function) ≤ fold (λ m g. max m (f g)) a fs
most_at f a [] n e = omega arith
most_at f a (x ∷ xs) zero e = let r = most_ge f (max a (f x)) xs in omega arith
most_at f a (x ∷ xs) (suc n) e = most_at f (max a (f x)) xs n e

pub refs_most : (code : Code) (f : ℕ) → (function_of code f).refs ≤ most_refs code.functions.items
refs_most code f = most_at (λ g. g.refs) 0 code.functions.items f refl

pub ints_most : (code : Code) (f : ℕ) → (function_of code f).ints ≤ most_ints code.functions.items
ints_most code f = most_at (λ g. g.ints) 0 code.functions.items f refl

pub bases_low : (x : Targets) (code : Code) (ls : Labels) (t : ℕ) (v : View) (frames : List Frame) (d base ints f : ℕ) → BelowStands x code ls t v frames d base ints f
    → (base + most_refs code.functions.items ≤ d * most_refs code.functions.items) × (ints + most_ints code.functions.items ≤ d * most_ints code.functions.items)
bases_low x code ls t v frames zero base ints f h = absurd h
bases_low x code ls t v frames (suc zero) base ints f h =
    let a = h.0.base_is in let b = h.0.ints_are in
    let p = suc_times 0 (most_refs code.functions.items) in let q = suc_times 0 (most_ints code.functions.items) in
    (omega arith, omega arith)
bases_low x code ls t v frames (suc (suc d)) base ints f h =
    let k = h.1 in
    let r = bases_low x code ls t v frames (suc d) (frame_at frames (suc d)).refs (frame_at frames (suc d)).ints h.0 h.2 in
    let a = k.base_is in let b = k.ints_are in
    let from : k.refs ≤ (function_of code h.0).refs = subst (λ o. k.refs ≤ refs_in code o) k.caller k.calls.from in
    let from_int : k.first ≤ (function_of code h.0).ints = subst (λ o. k.first ≤ ints_in code o) k.caller k.calls.from_int in
    let c = refs_most code h.0 in let e = ints_most code h.0 in
    let p = suc_times (suc d) (most_refs code.functions.items) in let q = suc_times (suc d) (most_ints code.functions.items) in
    (omega arith, omega arith)

times_low : (d m : ℕ) → d ≤ FRAMES → d * m ≤ FRAMES * m
times_low d m le = let a : m * d ≤ m * FRAMES = mul-le-mul_left m le in let b = mul_comm m d in let c = mul_comm m FRAMES in omega arith

-- a register of the frame on top is within its bank
pub ref_inside : (x : Targets) (code : Code) (ls : Labels) (t : ℕ) (v : View) (m : Machine) (f : Option ℕ) (r : ℕ) → FramesStand x code ls t v m f → r < refs_in code f → m.at.refs + r < FRAMES * most_refs code.functions.items
ref_inside x code ls t v m None r h lt = absurd (omega arith)
ref_inside x code ls t v m (Some f) r h lt =
    let b = (bases_low x code ls t v m.frames m.at.depth m.at.refs m.at.ints f h.0).0 in
    let c = refs_most code f in
    let d = times_low m.at.depth (most_refs code.functions.items) h.1 in
    omega arith

pub int_inside : (x : Targets) (code : Code) (ls : Labels) (t : ℕ) (v : View) (m : Machine) (f : Option ℕ) (r : ℕ) → FramesStand x code ls t v m f → r < ints_in code f → m.at.ints + r < FRAMES * most_ints code.functions.items
int_inside x code ls t v m None r h lt = absurd (omega arith)
int_inside x code ls t v m (Some f) r h lt =
    let b = (bases_low x code ls t v m.frames m.at.depth m.at.refs m.at.ints f h.0).1 in
    let c = ints_most code f in
    let d = times_low m.at.depth (most_ints code.functions.items) h.1 in
    omega arith

-- ---- the next place
pub closed_less : (new : Gate) → LessGate Closed new → new ≡ Closed
closed_less Closed h = refl
closed_less _ h = h

pub runs_at : (x : Targets) (code : Code) (s : Shape) (ls : Labels) (elements : ℕ → ℕ) (w : World) (heap : Heap) (g : Global Machine) (t : ℕ) (m : Machine) (names : ℕ → ℤ) → m.own.stage ≡ Rests
    → TopStands x t (view_of elements w t m) m.at.refs m.at.ints names (ls.at m.at.pc) → FramesStand x code ls t (view_of elements w t m) m (ls.at m.at.pc).function → GateStands s w t m (ls.at m.at.pc).gate
    → ((ls.at m.at.pc).room ≡ true → length m.own.held < 16) → Runs x code s ls elements w heap g t m
runs_at x code s ls elements w heap g t m names rest top below gate room =
    let e : label_now (ls.at m.at.pc) (instr_at code m.at.pc) m.own.stage ≡ ls.at m.at.pc = label_held (ls.at m.at.pc) (instr_at code m.at.pc) m.own.stage (subst OnHold (sym rest) tt) in
    record {
      names = names;
      top = subst (TopStands x t (view_of elements w t m) m.at.refs m.at.ints names) (sym e) top;
      below = below;
      gate = subst (λ (l : Label). GateStands s w t m l.gate) (sym e) gate;
      stage = subst (StageStands code s elements w heap g.words t m (instr_at code m.at.pc)) (sym rest) tt;
      room = room;
    }

-- where a thread runs an instruction of one turn: its label stands as it is
-- where an instruction is that neither starts a thread nor ends it, a function is: so its place is not 0
pub begun_in : (x : Targets) (code : Code) (ls : Labels) → IsWellTyped x code ls → (pc : ℕ) → ((site : ℕ) → instr_at code pc ≡ Instr.Start site → ⊥) → (instr_at code pc ≡ Instr.Exit → ⊥)
    → (n : ℕ) → (ls.at n).function ≡ (ls.at pc).function → (n == 0) ≡ false
begun_in x code ls wt pc no_start no_exit n e = ne_eq n 0 (λ z. ⊎_elim
    (λ (z : pc ≡ 0). no_start wt.begin.0 (ap (instr_at code) z ∙ wt.begin.1))
    no_exit
    (wt.placed pc (sym e ∙ ap (λ p. (ls.at p).function) z ∙ wt.first.0)))

module _ (x : Targets) (code : Code) (s : Shape) (ls : Labels) (wt : IsWellTyped x code ls) (g : Global Machine) (world : World) (st : State x code s ls g world) (t : ℕ) (on : g.started t ≡ true) (go : may_go (g.threads t).at.state ≡ true)
    (i : Instr) (is : instr_at code (g.threads t).at.pc ≡ i) (single : is_single i ≡ true) where
  open thread_at st t use {m, here}

  pub runs : Runs x code s ls st.elements world st.heap g t (g.threads t)
  runs = (st.threads t).runs on go

  pub rests : (g.threads t).own.stage ≡ Rests
  rests = single_rests code s st.elements world st.heap g.words t m (instr_at code m.at.pc) m.own.stage (ap is_single is ∙ single) runs.stage

  now_here : label_now here (instr_at code m.at.pc) m.own.stage ≡ here
  now_here = label_held here (instr_at code m.at.pc) m.own.stage (subst OnHold (sym rests) tt)

  pub top : TopStands x t (view_of st.elements world t m) m.at.refs m.at.ints runs.names here
  top = subst (TopStands x t (view_of st.elements world t m) m.at.refs m.at.ints runs.names) now_here runs.top

  pub gate : GateStands s world t m here.gate
  gate = subst (λ (l : Label). GateStands s world t m l.gate) now_here runs.gate

  pub fine : Fine x code ls m.at.pc here i
  fine = subst (Fine x code ls m.at.pc here) is (wt.fine m.at.pc)

  start_not_single : (site : ℕ) → i ≡ Instr.Start site → ⊥
  start_not_single site e = let q : is_single i ≡ false = ap is_single e in cc

  exit_not_single : i ≡ Instr.Exit → ⊥
  exit_not_single e = let q : is_single i ≡ false = ap is_single e in cc

  pub not_begun : (pc : ℕ) → (ls.at pc).function ≡ here.function → (pc == 0) ≡ false
  not_begun = begun_in x code ls wt m.at.pc (λ site z. start_not_single site (sym is ∙ z)) (λ z. exit_not_single (sym is ∙ z))

  pub begun_before : (m.at.pc == 0) ≡ false
  begun_before = not_begun m.at.pc refl
