-- The frame of a function has room for its code.
use Rattle.sharc_typed_laws.proofs.Imports.{◌≡◌, ℕ, zero, suc, ◌+◌, ◌*◌, ◌^◌, ◌<◌, ◌≤◌, List, [], ◌∷◌, Some, refl, arith, slice_get, Cell, Register, Op, Spot, BaseWithin, HandedWithin, OpWrites, int_need, ref_need, base_need, handed_need, ints_needed as ints_in, refs_needed as refs_in, AreWithin}

-- indexes of globals have few cells
abbrev pub IsFew : Op → Type 0
IsFew o = (i elements cells field : ℕ) (spot : Spot) → o ≡ Op.GlobalBounds i elements cells field spot → elements * cells + field < 2 ^ 63

abbrev pub AreFew : List Op → Type 0
AreFew os = (n : ℕ) (o : Op) → slice_get os n ≡ Some o → IsFew o

base_within : (refs : ℕ) (cell : Cell) → base_need cell ≤ refs → BaseWithin refs cell
base_within refs (Cell.Object r n) le = omega (arith, le)
base_within refs (Cell.ObjectAt r i) le = omega (arith, le)
base_within refs _ le = tt

handed_within : (refs : ℕ) (from : Register) → handed_need from ≤ refs → HandedWithin refs from
handed_within refs (Register.Int i) le = tt
handed_within refs (Register.Reference r) le = omega (arith, le)

writes : (I R : ℕ) (o : Op) → int_need o ≤ I → ref_need o ≤ R → IsFew o → OpWrites I R o
writes I R (Op.Constant a b) p q few = omega (arith, p)
writes I R (Op.Move a b) p q few = omega (arith, p)
writes I R (Op.Compute a b c d e f) p q few = omega (arith, p)
writes I R (Op.Negate a b c d) p q few = omega (arith, p)
writes I R (Op.Complement a b) p q few = omega (arith, p)
writes I R (Op.IsFalse a b) p q few = omega (arith, p)
writes I R (Op.SameReference a b c) p q few = omega (arith, p)
writes I R (Op.Call a b c d) p q few = (omega (arith, p), omega (arith, q))
writes I R (Op.Null a) p q few = omega (arith, q)
writes I R (Op.Local a b) p q few = omega (arith, q)
writes I R (Op.MoveReference a b) p q few = (omega (arith, q), omega (arith, q))
writes I R (Op.Pop a) p q few = omega (arith, q)
writes I R (Op.Settle a b) p q few = (omega (arith, q), omega (arith, q))
writes I R (Op.Bounds a b c d e) p q few = omega (arith, p)
writes I R (Op.GlobalBounds a b c d e) p q few = (omega (arith, p), few a b c d e refl)
writes I R (Op.Load a b c) p q few = omega (arith, p)
writes I R (Op.LoadRef a b c) p q few = omega (arith, q)
writes I R (Op.StoreRef a b c) p q few = omega (arith, q)
writes I R (Op.New a b c d) p q few = omega (arith, q)
writes I R (Op.TakeCell a b c) p q few = omega (arith, q)
writes I R (Op.TakeLocal a b c) p q few = (omega (arith, q), omega (arith, q))
writes I R (Op.Free a b c) p q few = omega (arith, q)
writes I R (Op.Lock a b) p q few = base_within R a q
writes I R (Op.Unlock a b c) p q few = omega (arith, q)
writes I R (Op.Spawn a b c d) p q few = (omega (arith, p), handed_within R c q)
writes I R o p q few = tt

pub are_within : (I R : ℕ) (os : List Op) → ints_in os ≤ I → refs_in os ≤ R → AreFew os → AreWithin I R os
are_within I R [] p q few = tt
are_within I R (o ∷ os) p q few =
    (writes I R o (omega (arith, p)) (omega (arith, q)) (few zero o refl), are_within I R os (omega (arith, p)) (omega (arith, q)) (λ n x at. few (suc n) x at))
