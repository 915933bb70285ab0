-- The positions of an entity are positions of the program.
use Rattle.sharc_mode.proofs.Imports.{◌≡◌, ℕ, ◌+◌, ◌≤◌, Bool, true, false, List, [], ◌∷◌, Option, Some, None, sym, subst, cond, arith, find, Resolution, Entity, Numbered, entities_in, entity_at, numbered_from, positions_of, positions_in, is_told_by, position_count}

-- what was found ends by this position
abbrev pub EndsBy : ℕ → Option Numbered → Type 0
EndsBy limit None = Unit {0}
EndsBy limit (Some n) = n.first + positions_of n.entity ≤ limit

raised : (low high : ℕ) (found : Option Numbered) → low ≤ high → EndsBy low found → EndsBy high found
raised low high None h e = tt
raised low high (Some n) h e = omega arith

either : (limit : ℕ) (b : Bool) (x y : Option Numbered) → EndsBy limit x → EndsBy limit y → EndsBy limit (cond b x y)
either limit true x y p q = p
either limit false x y p q = q

pub ends_by : (test : Numbered → Bool) (k : ℕ) (list : List Entity) → EndsBy (k + positions_in list) (find test (numbered_from k list))
ends_by test k [] = tt
ends_by test k (e ∷ rest) =
    either (k + (positions_of e + positions_in rest)) (test (record { entity = e; first = k })) (Some (record { entity = e; first = k })) (find test (numbered_from (k + positions_of e) rest))
    (omega arith)
    (raised (k + positions_of e + positions_in rest) (k + (positions_of e + positions_in rest)) (find test (numbered_from (k + positions_of e) rest)) (omega arith) (ends_by test (k + positions_of e) rest))

found_by : (limit : ℕ) (x : Option Numbered) (n : Numbered) → EndsBy limit x → Some n ≡ x → n.first + positions_of n.entity ≤ limit
found_by limit x n h is = let P : Option Numbered → Type 0 = EndsBy limit in subst P (sym is) h

-- the positions of an entity that is found are positions of the program
pub within : (r : Resolution) (token last : ℕ) (n : Numbered) → Some n ≡ entity_at r token last → n.first + positions_of n.entity ≤ position_count r
within r token last n is =
    let h : n.first + positions_of n.entity ≤ 0 + positions_in (entities_in r.program.items) =
    found_by (0 + positions_in (entities_in r.program.items)) (entity_at r token last) n (ends_by (is_told_by token last) 0 (entities_in r.program.items)) is
    in omega arith
