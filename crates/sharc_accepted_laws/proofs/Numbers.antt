-- The numbers of shapes, and the rows that have them.
use Rattle.sharc_accepted_laws.proofs.{Imports.{◌≡◌, ⊎_elim, ℕ, zero, suc, ◌+◌, ◌<◌, Bool, true, false, cond, List, [], ◌∷◌, length, map, get_or as slice_index_or, refl, ap, sym, ◌∙◌, subst, arith, Contains, true≢false, Base, Numbered, entities_in, numbered, Assignment, no_target, row_of, Form, Shape, known_condition, known_mutex, shapes_down, entity_shapes, shapes_of, shapes, same_shape, number_from, number, shape_row, targets_of, NumbersFound, ShapesClosed, map_length, head_there, head_or_tail, tail_there, none_there, left_there, right_there, either_there}, Alike.{shape_itself, shape_is}, TargetLists.map_at}

-- ---- the first that is the same
record IsAt (n : ℕ) (list : List Shape) (s : Shape) : Type 0 where
  place : ℕ
  number : number_from n list s ≡ n + place
  inside : place < length list
  is : (d : Shape) → slice_index_or list place d ≡ s

here_at : (n : ℕ) (x : Shape) (rest : List Shape) (s : Shape) → same_shape s x ≡ true → IsAt n (x ∷ rest) s
here_at n x rest s is = record {
  place = zero;
  number = let e : n ≡ n + zero = omega arith in ap (λ b. cond b n (number_from (n + 1) rest s)) is ∙ e;
  inside = omega arith;
  is = λ d. sym (shape_is s x is);
}

later_at : (n : ℕ) (x : Shape) (rest : List Shape) (s : Shape) → same_shape s x ≡ false → IsAt (n + 1) rest s → IsAt n (x ∷ rest) s
later_at n x rest s is w = let number = w.number in let low = w.inside in record {
  place = suc w.place;
  number = let e : number_from (n + 1) rest s ≡ n + suc w.place = omega (arith, number) in ap (λ b. cond b n (number_from (n + 1) rest s)) is ∙ e;
  inside = omega (arith, low);
  is = λ d. w.is d;
}

found_at : (n : ℕ) (list : List Shape) (s : Shape) → Contains list s → IsAt n list s
found_at n [] s has = absurd (none_there s has)
found_at n (x ∷ rest) s has = by (same_shape s x) refl (λ is. found_at (n + 1) rest s (rest_there is))
  where
    rest_there : same_shape s x ≡ false → Contains rest s
    rest_there is = ⊎_elim (λ same. absurd (true≢false (sym (subst (λ z. same_shape s z ≡ true) (sym same) (shape_itself s)) ∙ is))) (λ later. later) (head_or_tail x s rest has)

    by : (b : Bool) → same_shape s x ≡ b → (same_shape s x ≡ false → IsAt (n + 1) rest s) → IsAt n (x ∷ rest) s
    by true is more = here_at n x rest s is
    by false is more = later_at n x rest s is (more is)

row_at : (m : Assignment) (list : List Shape) (place : ℕ) → slice_index_or (map (shape_row m) list) place no_target ≡ shape_row m (slice_index_or list place (record { base = Base.Void; forms = [] }))
row_at m list place = map_at (shape_row m) list (record { base = Base.Void; forms = [] }) place

row_numbered : (m : Assignment) (n place : ℕ) → n ≡ suc place → row_of (targets_of m) n ≡ slice_index_or (map (shape_row m) (shapes m)) place no_target
row_numbered m n place is = ap (λ k. slice_index_or (no_target ∷ map (shape_row m) (shapes m)) k no_target) is

pub numbers_found : NumbersFound
numbers_found m s has =
    let w = found_at 1 (shapes m) s has in
    let size = map_length (shape_row m) (shapes m) in
    let next : number m s ≡ suc w.place = omega (arith, w.number) in
    record {
      row = row_numbered m (number m s) w.place next ∙ row_at m (shapes m) w.place ∙ ap (shape_row m) (w.is (record { base = Base.Void; forms = [] }));
      some = λ none. omega (arith, none, next);
      inside = omega (arith, next, w.inside, size);
    }

-- ---- what stands below a shape is one
abbrev made : Base → List Form → Shape
made b forms = record { base = b; forms = forms }

part_base : (b c : Base) (fs gs : List Form) → made b fs ≡ made c gs → b ≡ c
part_base b c fs gs e = ap (λ (s : Shape). s.base) e

part_forms : (b c : Base) (fs gs : List Form) → made b fs ≡ made c gs → fs ≡ gs
part_forms b c fs gs e = ap (λ (s : Shape). s.forms) e

below_down : (b : Base) (fs : List Form) (c : Base) (f g : Form) (below : List Form) → Contains (shapes_down b fs) (made c (f ∷ g ∷ below)) → Contains (shapes_down b fs) (made c (g ∷ below))
below_down b [] c f g below has = absurd (none_there _ has)
below_down b (x ∷ rest) c f g below has =
    ⊎_elim (λ same. tail_there _ _ (shapes_down b rest) (here (part_base b c (x ∷ rest) (f ∷ g ∷ below) same) rest (cc (part_forms b c (x ∷ rest) (f ∷ g ∷ below) same))))
    (λ later. tail_there _ _ (shapes_down b rest) (below_down b rest c f g below later)) (head_or_tail _ _ (shapes_down b rest) has)
  where
    here : b ≡ c → (fs : List Form) → fs ≡ g ∷ below → Contains (shapes_down b fs) (made c (g ∷ below))
    here e fs is = subst (λ l. Contains (shapes_down b l) (made c (g ∷ below))) (sym is)
        (subst (λ z. Contains (shapes_down b (g ∷ below)) (made z (g ∷ below))) e (head_there (made b (g ∷ below)) (shapes_down b below)))

below_of : (m : Assignment) (list : List Numbered) (c : Base) (f g : Form) (below : List Form) → Contains (shapes_of m list) (made c (f ∷ g ∷ below)) → Contains (shapes_of m list) (made c (g ∷ below))
below_of m [] c f g below has =
    ⊎_elim (λ is. absurd (cc (ap (λ (s : Shape). s.forms) is)))
    (λ later. ⊎_elim (λ is. absurd (cc (ap (λ (s : Shape). s.forms) is))) (λ more. absurd (none_there _ more)) (head_or_tail known_mutex (made c (f ∷ g ∷ below)) [] later))
    (head_or_tail known_condition (made c (f ∷ g ∷ below)) (known_mutex ∷ []) has)
below_of m (n ∷ rest) c f g below has =
    ⊎_elim (λ l. left_there (entity_shapes m n) (shapes_of m rest) _ (below_down n.entity.written.ctype.base _ c f g below l)) (λ r. right_there (entity_shapes m n) (shapes_of m rest) _ (below_of m rest c f g below r))
    (either_there (entity_shapes m n) (shapes_of m rest) _ has)

pub shapes_closed : ShapesClosed
shapes_closed m b f g below has = below_of m (numbered (entities_in m.typed.program.items)) b f g below has
