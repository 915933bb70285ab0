-- The bits of the other threads of a shadow word.
use Rattle.std.specs.{Prelude.{◌≡◌, ℕ, ◌+◌, ◌==◌, ◌&&◌, not}, Int.bit_at}
use Rattle.sharc_heap.specs.ShadowWord.{stands}

-- the bits that stand for other threads are set, and no more
pub record AreOthers (word thread bits : ℕ) : Type 0 where
  pub lowest : bit_at bits 0 ≡ 0
  pub threads : (k : ℕ) → (bit_at bits (1 + k) == 1) ≡ (stands word k && not (k == thread))
