-- A thread that made no turn, field by field.
use Rattle.sharc_cpu.proofs.Imports.{◌≡◌, ℕ, ℤ, List, None, HeldMutex, Accesses, At, Frame, Print, Rests, Machine}

abbrev pub fresh : At → List ℤ → List ℕ → List Frame → ℕ → ℕ → Accesses → List HeldMutex → List ℕ → List Print → Machine
fresh at ints refs frames number function table held heads prints = record {
  at = at;
  ints = ints;
  refs = refs;
  pending = 0;
  frames = frames;
  own = record { number = number; function = function; table = table; held = held; heads = heads; prints = prints; stage = Rests; stop = None };
}

pub same_fresh : (at : At) (i i' : List ℤ) (r r' : List ℕ) (f f' : List Frame) (number k k' : ℕ) (t t' : Accesses) (h h' : List HeldMutex) (b b' : List ℕ) (p p' : List Print) → i ≡ i' → r ≡ r' → f ≡ f' → k ≡ k' → t ≡ t' → h ≡ h' → b ≡ b' → p ≡ p' → fresh at i r f number k t h b p ≡ fresh at i' r' f' number k' t' h' b' p'
same_fresh at i i' r r' f f' number k k' t t' h h' b b' p p' ei er ef ek et eh eb ep = cc
