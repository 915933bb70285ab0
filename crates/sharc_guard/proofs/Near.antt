-- Where guarded code is after one turn of flat code.
use Rattle.sharc_guard.proofs.{Imports.{◌≡◌, ℕ, ℤ, zero, suc, ◌+◌, ◌≤◌, ◌⊎◌, inl, Bool, List, [], ◌∷◌, length, refl, ap, ◌∙◌, arith, CellAt, Instr, Replaced, held_mutexes, event_of, answer_of, Flat, At, Turn, goes, asks, halts, with_event, Program, Thread, Phase, Running, Leaving, Left, place, guarded, IsLevel, IsEnd, IsSettling, AreLowered, OverwritesNone}, Beside.beside, Ready.Ready}
use Rattle.sharc_guard.specs.Machine as Form

-- what the statement does that settles the counts
abbrev pub quiet : Instr → Thread → Thread
quiet (Instr.RaiseLoaded r) a = Form.next (Form.accessed (Form.set_ref a r a.pending))
quiet (Instr.Lower r) a = Form.next (Form.lowered a r)
quiet (Instr.MoveReference r from) a = Form.next (Form.move_ref a r from)
quiet _ a = a

abbrev pub settled : List Instr → Thread → Thread
settled [] a = a
settled (i ∷ is) a = quiet i a

abbrev pub IsQuiet : List Instr → Type 0
IsQuiet [] = Unit {0}
IsQuiet (Instr.RaiseLoaded r ∷ is) = is ≡ []
IsQuiet (Instr.Lower r ∷ is) = is ≡ []
IsQuiet (Instr.MoveReference r from ∷ is) = is ≡ []
IsQuiet (_ ∷ is) = ⊥

abbrev pub SettlingBy : List Instr → Thread → At → ℕ → Type 0
SettlingBy [] a m k = ⊥
SettlingBy (i ∷ is) a m k = IsSettling i a m k

abbrev pub IsLowering : List Instr → Type 0
IsLowering (Instr.Lower r ∷ is) = Unit {0}
IsLowering _ = ⊥

abbrev pub ClearBy : List Instr → Thread → Type 0
ClearBy [] a = Unit {0}
ClearBy (i ∷ is) a = OverwritesNone i a

abbrev pub Lowers : At → Thread → Type 0
Lowers m a = AreLowered m.given a.lowered ⊎ ((c : CellAt) × (m.given ≡ Replaced c ∷ []) × (a.lowered ≡ []))

-- how far a thread is on its way out
abbrev pub leaving : ℕ → Phase
leaving zero = Running
leaving (suc zero) = Leaving
leaving (suc (suc n)) = Left

module _ (dropped : ℕ → Bool) (flat : Flat) (level : IsLevel flat) where
  abbrev pl : ℕ → ℕ
  pl = place dropped flat.lines

  abbrev p : Program
  p = guarded dropped flat

  -- with these statements the counts are settled, and then guarded code is where flat code is
  pub record Near (m : At) (a : Thread) (rest : List Instr) : Type 0 where
    pub ready : Ready flat level m
    pub few : IsQuiet rest
    pub pc_is : a.pc + length rest ≡ pl m.pc
    pub low : List ℕ
    pub is : settled rest a ≡ beside pl m (pl m.pc) (held_mutexes m.events) low
    pub lows : AreLowered m.given low
    pub events : a.events ≡ m.events
    pub function : a.function ≡ m.function
    pub counted : (k : ℕ) → (a.refs k ≡ m.refs k) ⊎ SettlingBy rest a m k
    pub lowers : Lowers m a
    pub clear : ClearBy rest a
    pub replaced : IsLowering rest → (c : CellAt) × (m.given ≡ Replaced c ∷ []) × (a.lowered ≡ [])

  -- after its last return
  pub record Ending (m : At) (a : Thread) : Type 0 where
    pub steps : ℕ
    pub few : steps ≤ 2
    pub pc_is : m.pc ≡ length flat.lines + steps
    pub at_exit : a.pc ≡ 1
    pub phase_is : a.phase ≡ leaving steps
    pub refs : a.refs ≡ m.refs
    pub events : a.events ≡ m.events
    pub function : a.function ≡ m.function
    pub lows : AreLowered m.given a.lowered

  -- one turn of guarded code does what one of flat code does, but for the statements that are left
  abbrev pub Follow : List Instr → Turn → Form.Turn → Type 0
  Follow rest (goes m) (Form.Goes a) = Near m a rest ⊎ Ending m a
  Follow rest (asks m site act held f) (Form.Asks site2 act2 go) = (site2 ≡ site) × (act2 ≡ act)
      × ((x : ℤ) → Near (f (answer_of (λ token. held) act x) (with_event (event_of site act (answer_of (λ token. held) act x)) m)) (go x) rest)
  Follow rest (halts o) (Form.Halts o2) = IsEnd p o2 o
  Follow rest _ _ = ⊥

  -- nothing is left to settle
  pub lands : (m : At) (q : ℕ) (log : List CellAt) (low : List ℕ) → q ≡ pl m.pc → Ready flat level m → log ≡ held_mutexes m.events → AreLowered m.given low → Near m (beside pl m q log low) []
  lands m q log low e r eh el = record {
    ready = r;
    few = tt;
    pc_is = omega arith;
    low = low;
    is = ap (λ z. beside pl m z log low) e ∙ ap (λ z. beside pl m (pl m.pc) z low) eh;
    lows = el;
    events = refl;
    function = refl;
    counted = λ k. inl refl;
    lowers = inl el;
    clear = tt;
    replaced = λ z. absurd z;
  }
