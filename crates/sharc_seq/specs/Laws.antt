-- Laws of the threads that are enabled, for the crates above.
use Rattle.std.specs.Prelude.{ℕ, ◌≡◌, ◌<◌, true, false, [], length, slice_index}
use Rattle.sharc_word.specs.declared.step.TheConstants.{THREADS}
use Rattle.sharc_code.specs.{declared.code.Code.Code, declared.shape.Shape.Shape}
use Rattle.sharc_threads.specs.Ends.{Standing, is_enabled}
use Rattle.sharc_seq.specs.Run.{enabled}

-- where none is listed none is enabled
abbrev pub NoneIsEnabled : Type 0
NoneIsEnabled = (code : Code) (s : Shape) (limit : ℕ) (g : Standing) → s.threads ≡ THREADS
    → ((t : ℕ) → g.started t ≡ true → t < THREADS) → enabled code s limit g ≡ []
    → (t : ℕ) → is_enabled code s limit g t ≡ false

-- each that is listed is enabled, and has a number that threads have
pub record IsEnabledThread (code : Code) (s : Shape) (limit : ℕ) (g : Standing) (t : ℕ) : Type 0 where
  pub low : t < s.threads
  pub yes : is_enabled code s limit g t ≡ true

abbrev pub ListedAreEnabled : Type 0
ListedAreEnabled = (code : Code) (s : Shape) (limit : ℕ) (g : Standing) (place : ℕ)
    → place < length (enabled code s limit g)
    → IsEnabledThread code s limit g (slice_index (enabled code s limit g) place)

pub record EnabledLaws : Type 0 where
  pub none : NoneIsEnabled
  pub listed : ListedAreEnabled
