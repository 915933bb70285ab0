-- What the stage of typed code says of the word that a turn asks for.
use Rattle.sharc_history_laws.proofs.Imports.{◌≡◌, ℕ, ◌<◌, List, Some, ap, subst, slice_index, THREADS, NewArguments, Code, Instr, Shape, Stage, Makes, Names, Hands, Begins, state_word, function_word, argument_word, Machine, act, argument, World, Heap, StageStands, Reserves, drawn_of, BuildsIn, TurnAim, TurnsAim, from_spawn}

-- the thread that a Spawn is about to start is one of the threads, and was not started
abbrev pub Reserved : List ℕ → ℕ → Type 0
Reserved words n = (n < THREADS) × (slice_index words (state_word n) ≡ 0)

module _ (code : Code) (s : Shape) (elements : ℕ → ℕ) (w : World) (heap : Heap) (words : List ℕ) (t : ℕ) (m : Machine) where
  builds : (i : Instr) (stage : Stage) → StageStands code s elements w heap words t m i stage → BuildsIn s stage
  builds (Instr.New r count cells site) (Makes v) h = ap (λ (a : NewArguments). a.first) h.0
  builds _ (Makes v) h = absurd h
  builds i _ h = tt

  reserved : (i : Instr) (stage : Stage) (n : ℕ) → StageStands code s elements w heap words t m i stage → drawn_of stage ≡ Some n → Reserved words n
  reserved i (Names k) n h e = let same : k ≡ n = cc in subst (Reserved words) same (from_spawn (λ f from. Reserves words t k) (Reserved words k) i (λ f from r. (r.few, r.state)) h)
  reserved i (Hands k) n h e = let same : k ≡ n = cc in subst (Reserved words) same (from_spawn (λ f from. Reserves words t k × (slice_index words (function_word k) ≡ f)) (Reserved words k) i (λ f from r. (r.0.few, r.0.state)) h)
  reserved i (Begins k) n h e = let same : k ≡ n = cc in subst (Reserved words) same (from_spawn (λ f from. Reserves words t k × (slice_index words (function_word k) ≡ f) × (slice_index words (argument_word k) ≡ argument m from)) (Reserved words k) i (λ f from r. (r.0.few, r.0.state)) h)
  reserved i _ n h e = absurd (cc)

  pub drawn_is : (i : Instr) (stage : Stage) (n : ℕ) → StageStands code s elements w heap words t m i m.own.stage → m.own.stage ≡ stage → drawn_of stage ≡ Some n → Reserved words n
  drawn_is i stage n h at e = reserved i stage n (subst (StageStands code s elements w heap words t m i) at h) e

  pub typed_aim : TurnsAim → (i : Instr) → StageStands code s elements w heap words t m i m.own.stage → TurnAim s i m (act code s i m)
  typed_aim aims i h = aims code s i m (builds i m.own.stage h)
