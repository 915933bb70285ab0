-- The levels of a type, from the top down; and the positions of an entity that is listed.
use Rattle.sharc_check.proofs.Imports.{◌≡◌, ℕ, zero, suc, ◌+◌, ◌<◌, ◌≤◌, Bool, true, false, ◌&&◌, ◌||◌, not, List, [], ◌∷◌, ◌++◌, length, take, drop, map, Option, Some, get_or, refl, ap, sym, ◌∙◌, subst, add-one, drop-cons, append_assoc, arith, get_or-drop, get_or-take, length-map, length-drop, length-take-le, get_or-map, get_or as slice_index_or, Mode, Private, Entity, Numbered, entities_in, numbered, numbered_from, positions_of, positions_in, Resolution, Assignment, position_count, position_levels, is_private_mode, holds_below}

-- the level at a position
level_at : (modes : List Mode) (first count i : ℕ) → i < count → first + count ≤ length modes
    → drop i (map (λ mode. Some mode) (take count (drop first modes))) ≡ Some (slice_index_or modes (first + i) Private) ∷ drop (i + 1) (map (λ mode. Some mode) (take count (drop first modes)))
level_at modes first count i below ends =
    let some : Mode → Option Mode = λ mode. Some mode in
    let list = take count (drop first modes) in
    let room = length-drop first modes in
    let size : length list ≡ count = length-take-le count (drop first modes) (omega (arith, room, ends)) in
    let same = length-map list some in
    let within : i < length (map some list) = omega (arith, same, size, below) in
    drop-cons (map some list) i (some Private) within
    ∙ ap (λ x. x ∷ drop (suc i) (map some list)) (get_or-map some list i Private ∙ ap some (get_or-take count (drop first modes) i Private below ∙ get_or-drop first modes i Private))
    ∙ ap (λ n. some (slice_index_or modes (first + i) Private) ∷ drop n (map some list)) (sym (add-one i))

one_level : (above : Bool) (mode : Mode) (rest : List (Option Mode)) → holds_below above (Some mode ∷ rest) ≡ ((above && is_private_mode mode) || holds_below (not (is_private_mode mode)) rest)
one_level above mode rest = refl

pub next_level : (m : Assignment) (n : Numbered) (i : ℕ) (above private : Bool) → i < positions_of n.entity → n.first + positions_of n.entity ≤ length m.modes
    → private ≡ is_private_mode (slice_index_or m.modes (n.first + i) Private) → (above && private) ≡ false
    → holds_below (not private) (drop (i + 1) (position_levels m n)) ≡ holds_below above (drop i (position_levels m n))
next_level m n i above private below ends private_is none =
    let mode = slice_index_or m.modes (n.first + i) Private in
    let rest = drop (i + 1) (position_levels m n) in
    ap (λ b. holds_below (not b) rest) private_is
    ∙ ap (λ b. b || holds_below (not (is_private_mode mode)) rest) (sym none ∙ ap (λ b. above && b) private_is)
    ∙ sym (one_level above mode rest)
    ∙ ap (holds_below above) (sym (level_at m.modes n.first (positions_of n.entity) i below ends))

pub found_level : (m : Assignment) (n : Numbered) (i : ℕ) (above private : Bool) → i < positions_of n.entity → n.first + positions_of n.entity ≤ length m.modes
    → private ≡ is_private_mode (slice_index_or m.modes (n.first + i) Private) → above ≡ true → private ≡ true
    → holds_below above (drop i (position_levels m n)) ≡ true
found_level m n i above private below ends private_is shared is =
    let mode = slice_index_or m.modes (n.first + i) Private in
    let rest = drop (i + 1) (position_levels m n) in
    ap (holds_below above) (level_at m.modes n.first (positions_of n.entity) i below ends)
    ∙ ap (λ b. (b && is_private_mode mode) || holds_below (not (is_private_mode mode)) rest) shared
    ∙ ap (λ b. b || holds_below (not (is_private_mode mode)) rest) (sym private_is ∙ is)

-- ---- the entities of a program

ends : (k : ℕ) (list : List Entity) (i : ℕ) (n : Numbered) → i < length (numbered_from k list) → n ≡ get_or (numbered_from k list) i n → n.first + positions_of n.entity ≤ k + positions_in list
ends k [] i n below is = absurd (omega arith)
ends k (e ∷ rest) zero n below is =
    let first : n.first ≡ k = ap (λ (x : Numbered). x.first) is in
    let same : positions_of n.entity ≡ positions_of e = ap (λ (x : Numbered). positions_of x.entity) is in
    omega (arith, first, same)
ends k (e ∷ rest) (suc i) n below is =
    let h : n.first + positions_of n.entity ≤ k + positions_of e + positions_in rest = ends (k + positions_of e) rest i n (omega (arith, below)) is in
    omega (arith, h)

-- the positions of an entity of the program are positions of it
pub entity_ends : (r : Resolution) (i : ℕ) (n : Numbered) → i < length (numbered (entities_in r.program.items)) → n ≡ get_or (numbered (entities_in r.program.items)) i n → n.first + positions_of n.entity ≤ position_count r
entity_ends r i n below is = let h : n.first + positions_of n.entity ≤ 0 + positions_in (entities_in r.program.items) = ends 0 (entities_in r.program.items) i n below is in omega (arith, h)

pub entity_ends_in : (r : Resolution) (list : List Numbered) (i : ℕ) (n : Numbered) → list ≡ numbered (entities_in r.program.items) → i < length list → n ≡ get_or list i n → n.first + positions_of n.entity ≤ position_count r
entity_ends_in r list i n is below at = entity_ends r i n (subst (λ (l : List Numbered). i < length l) is below) (subst (λ (l : List Numbered). n ≡ get_or l i n) is at)

-- ---- five lists one after another

pub five : {A : Type 0} (n0 n1 n2 n3 n4 a b c d e : List A) → n1 ≡ n0 ++ a → n2 ≡ n1 ++ b → n3 ≡ n2 ++ c → n4 ≡ n3 ++ d → n4 ++ e ≡ n0 ++ (a ++ b ++ c ++ d ++ e)
five n0 n1 n2 n3 n4 a b c d e one two three four =
    ap (λ l. l ++ e) (four ∙ ap (λ l. l ++ d) (three ∙ ap (λ l. l ++ c) (two ∙ ap (λ l. l ++ b) one)))
    ∙ ap (λ l. ((l ++ c) ++ d) ++ e) (append_assoc n0 a b)
    ∙ ap (λ l. (l ++ d) ++ e) (append_assoc n0 (a ++ b) c)
    ∙ ap (λ l. l ++ e) (append_assoc n0 (a ++ b ++ c) d)
    ∙ append_assoc n0 (a ++ b ++ c ++ d) e
