-- Whether a mutex is held, as a test.
use Rattle.sharc_cpu.proofs.Imports.{◌≡◌, ℕ, zero, suc, ◌<◌, Bool, true, false, List, [], ◌∷◌, ◌==◌, Some, length, get_or, refl, sym, ap, ◌∙◌, Decides, eqb-true, eq-eqb, arith, false≢true, same_from_decides, IsTrue, ◌↔◌, is_some, if◌then◌else◌, HeldMutex, Holds, object_of}

at_first : (held : HeldMutex) (log : List HeldMutex) (word : ℕ) → held.word ≡ word → Holds (held ∷ log) word
at_first held log word e = (zero, held, omega arith, refl, e)

behind : (held : HeldMutex) (log : List HeldMutex) (word : ℕ) → Holds log word → Holds (held ∷ log) word
behind held log word h = (suc h.0, h.1, omega (arith, h.2), h.3, h.4)

-- it is the first, or one after it
first_or_behind : (held : HeldMutex) (log : List HeldMutex) (word k : ℕ) (x : HeldMutex) → k < suc (length log) → get_or (held ∷ log) k x ≡ x → x.word ≡ word → (held.word == word) ≡ false → Holds log word
first_or_behind held log word zero x low at is off = absurd (false≢true (sym off ∙ eq-eqb held.word word (ap (λ (h : HeldMutex). h.word) at ∙ is)))
first_or_behind held log word (suc k) x low at is off = (k, x, omega arith, at, is)

decides : (log : List HeldMutex) (word : ℕ) → Decides (is_some (object_of log word)) (Holds log word)
decides [] word = (λ e. absurd (false≢true e), λ h. absurd (omega (arith, h.2)))
decides (held ∷ log) word = by (decides log word) (held.word == word) refl
  where
    by : Decides (is_some (object_of log word)) (Holds log word) → (b : Bool) → (held.word == word) ≡ b → Decides (is_some (if b then Some held.object else object_of log word)) (Holds (held ∷ log) word)
    by later true e = (λ t. at_first held log word (eqb-true held.word word e), λ h. refl)
    by later false e = (λ t. behind held log word (later.0 t), λ h. later.1 (first_or_behind held log word h.0 h.1 h.2 h.3 h.4 e))

pub is_held_is : (log : List HeldMutex) (word : ℕ) (r : Bool) → (IsTrue r ↔ Holds log word) → r ≡ is_some (object_of log word)
is_held_is log word r h = same_from_decides r (is_some (object_of log word)) (h.0, h.1) (decides log word)
