-- Numbered entities, and the positions that each has.
use Rattle.sharc_report.proofs.Imports.{◌≡◌, ℕ, zero, suc, ◌+◌, ◌<◌, ◌≤◌, List, [], ◌∷◌, length, get_or, ap, arith, numbered, numbered_from, positions_of, positions_in, Entity, Numbered}

-- the positions of each are positions of the program
numbered_within : (k : ℕ) (list : List Entity) (i : ℕ) (n : Numbered) → i < length (numbered_from k list) → n ≡ get_or (numbered_from k list) i n → n.first + positions_of n.entity ≤ k + positions_in list
numbered_within k [] i n below is = absurd (omega arith)
numbered_within k (e ∷ rest) zero n below is =
    let here : n.first + positions_of n.entity ≡ k + positions_of e = ap (λ (m : Numbered). m.first + positions_of m.entity) is in
    omega arith
numbered_within k (e ∷ rest) (suc i) n below is = let behind = numbered_within (k + positions_of e) rest i n (omega arith) is in omega arith

pub numbered_ends : (list : List Entity) (i : ℕ) (n : Numbered) → i < length (numbered list) → n ≡ get_or (numbered list) i n → n.first + positions_of n.entity ≤ positions_in list
numbered_ends list i n below is = let within : n.first + positions_of n.entity ≤ 0 + positions_in list = numbered_within 0 list i n below is in omega arith
