-- A granule as a check sees it: who has passed a check on it, whose bits stand, and the written bit.
use Rattle.std.specs.Prelude.{ℕ, zero, suc, ◌+◌, ◌≡◌, ◌<◌, ◌≤◌, ◌⊎◌, Bool, true, false, nat_eq, if◌then◌else◌}
use Rattle.sharc_code.specs.Runs.{put}

-- a granule: its shadow word, and by thread the epoch of the note of its checks, plus 1, or 0
pub record GranuleState : Type 0 where
  pub epoch : ℕ
  pub wrote : Bool
  pub has : ℕ → Bool
  pub read_note : ℕ → ℕ
  pub write_note : ℕ → ℕ

-- the number of references
abbrev pub one : ℕ → ℕ → ℕ
one x o = if nat_eq x o then 1 else 0

abbrev pub sum_to : ℕ → (ℕ → ℕ) → ℕ
sum_to zero f = 0
sum_to (suc n) f = f n + sum_to n f

abbrev pub Passed : GranuleState → ℕ → Bool → Type 0
Passed g t true = g.write_note t ≡ suc g.epoch
Passed g t false = (g.read_note t ≡ suc g.epoch) ⊎ (g.write_note t ≡ suc g.epoch)

pub record Bits (n : ℕ) (g : GranuleState) : Type 0 where
  pub low : (t : ℕ) → Passed g t false → t < n
  pub read_low : (t : ℕ) → g.read_note t ≤ suc g.epoch
  pub write_low : (t : ℕ) → g.write_note t ≤ suc g.epoch
  pub bit : (t : ℕ) → Passed g t false → g.has t ≡ true
  pub written : (t : ℕ) → Passed g t true → g.wrote ≡ true
  pub alone : (t u : ℕ) → Passed g t true → Passed g u false → t ≡ u

abbrev pub cleared : GranuleState → GranuleState
cleared g = record g { epoch = suc g.epoch; wrote = false; has = λ t. false }

abbrev pub marked : GranuleState → ℕ → Bool → GranuleState
marked g t k = record g { wrote = if k then true else g.wrote; has = put g.has t true }

abbrev pub passed : GranuleState → ℕ → Bool → GranuleState
passed g t true = record g { wrote = true; has = put g.has t true; write_note = put g.write_note t (suc g.epoch) }
passed g t false = record g { has = put g.has t true; read_note = put g.read_note t (suc g.epoch) }

abbrev pub withdrawn : GranuleState → ℕ → GranuleState
withdrawn g t = record g {
  wrote = if nat_eq (g.write_note t) (suc g.epoch) then false else g.wrote;
  has = put g.has t false;
  read_note = put g.read_note t 0;
  write_note = put g.write_note t 0;
}

-- where it may pass
abbrev pub Alone : ℕ → GranuleState → ℕ → Type 0
Alone n g t = (u : ℕ) → u < n → (u ≡ t → ⊥) → g.has u ≡ false

abbrev pub Clean : ℕ → GranuleState → ℕ → Bool → Type 0
Clean n g t true = Alone n g t
Clean n g t false = (g.wrote ≡ false) ⊎ (Alone n g t ⊎ (g.write_note t ≡ suc g.epoch))
