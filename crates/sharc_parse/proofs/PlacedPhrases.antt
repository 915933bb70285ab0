-- The tree of an expression lies at its tokens.
use Rattle.sharc_parse.proofs.{Imports.{◌≡◌, ℕ, ◌+◌, ◌≤◌, ◌<◌, List, [], ◌∷◌, length, Option, Some, None, IfSome, refl, arith, Bool, true, false, span_of, name_marks, type_marks, declaration_marks, declarations_marks, marks, arguments_marks, option_marks, AreMarks, point, option_spans, argument_spans, declaration_spans, PlacedType, PlacedDeclaration, PlacedDeclarations, Placed, AllPlaced, Site, Span, Token, Base, Sharing, Typing, Declaring, Front, of_spawn, of_cast, Phrase, identifier, constant, enclosed, call, index, field, unary, binary, Phrases, none, more, FitsList, FitsType, FitsFront, Fits, FitAll, FitsOption, FitAllDeclaring, span_at, name_at, level_size, base_size, levels_size, type_size, declaring_size, front_size, size, sizes, rest_size, option_size, fields_size, base_name, base_place, type_at, declaration_at, front_at, expression_at, arguments_at, option_at, declarations_at}, Marks.{left, right}, Standing.{Standing, Lies, lies, lies_point, Row, part, last, whole}}
use Rattle.sharc_tree.specs.Tree as tree

-- types

base_some : (b : Base) (n : ℕ) → (n ≤ base_name b n) × (base_name b n + 1 ≤ n + base_size b)
base_some (Base.Struct x) n = (omega arith, omega arith)
base_some _ n = (omega arith, omega arith)

-- the name of the base is in the type
base_within : (first : Bool) (b : Base) (n : ℕ) (all : List (Option Sharing)) → FitsList first all → (n ≤ base_place first b all n) × (base_place first b all n + 1 ≤ n + levels_size b all)
base_within first b n [] f = absurd f
base_within true b n (m ∷ []) f = let e = base_some b (n + level_size m) in (omega (arith, e.0), omega (arith, e.1))
base_within false b n (m ∷ []) f = let e = base_some b n in (e.0, omega (arith, e.1))
base_within first b n (m ∷ (k ∷ below)) f = let e = base_within first b n (k ∷ below) f in (e.0, omega (arith, e.1))

type_some : (t : Typing) → FitsType t → 0 < type_size t
type_some t f = let e = base_within t.mode_first t.base 0 t.levels f in omega (arith, e.0, e.1)

pub lies_type : (s : ℕ → Site) (n : ℕ) (t : Typing) → FitsType t → Lies s n (type_size t) (type_at s n t).span
lies_type s n t f = lies s n (type_size t) (type_some t f)

pub placed_type : (all : List Token) (s : ℕ → Site) (h : Standing all s) (n : ℕ) (t : Typing) → FitsType t → n + type_size t ≤ length all → AreMarks all (type_marks (type_at s n t)) → PlacedType all (type_at s n t)
placed_type all s h n t f q w =
    let e = base_within t.mode_first t.base n t.levels f in
    let at = base_place t.mode_first t.base t.levels n in (
      whole all s h n (type_size t) (point (s at) ∷ []) (type_some t f) q (last all s h n at 1 (n + type_size t) (point (s at)) (lies_point s at) e.0 e.1 q),
      w,
    )

pub lies_declaration : (s : ℕ → Site) (n : ℕ) (d : Declaring) → Lies s n (declaring_size d) (declaration_at s n d).span
lies_declaration s n d = lies s n (declaring_size d) (omega arith)

pub placed_declaration : (all : List Token) (s : ℕ → Site) (h : Standing all s) (n : ℕ) (d : Declaring) → FitsType d.typing → n + declaring_size d ≤ length all → AreMarks all (declaration_marks (declaration_at s n d)) → PlacedDeclaration all (declaration_at s n d)
placed_declaration all s h n d f q w =
    let k = type_size d.typing in
    let inner = type_marks (type_at s n d.typing) in
    let name = name_marks (name_at s (n + k) d.named) in (
      whole all s h n (k + 1) _ (omega arith) q
          (part all s h n n k (n + (k + 1)) _ _ (lies_type s n d.typing f) (omega arith) (omega arith) q (last all s h (n + k) (n + k) 1 (n + (k + 1)) _ (lies_point s (n + k)) (omega arith) (omega arith) q)),
      placed_type all s h n d.typing f (omega (arith, q)) (left all inner name w),
      (right all inner name w).0,
    )

-- declarations with one token after each
pub follow_declarations : (all : List Token) (s : ℕ → Site) (h : Standing all s) (from n until : ℕ) (given : List Declaring) → from ≤ n → n + fields_size given ≤ until + 1 → until ≤ length all → Row all from until (declaration_spans (declarations_at s n given))
follow_declarations all s h from n until [] a b c = record { follow = tt }
follow_declarations all s h from n until (d ∷ rest) a b c =
    part all s h from n (declaring_size d) until _ _ (lies_declaration s n d) a (omega (arith, b)) c
    (follow_declarations all s h (n + declaring_size d) (n + declaring_size d + 1) until rest (omega arith) (omega (arith, b)) c)

pub placed_declarations : (all : List Token) (s : ℕ → Site) (h : Standing all s) (n : ℕ) (given : List Declaring) → FitAllDeclaring given → n + fields_size given ≤ length all + 1 → AreMarks all (declarations_marks (declarations_at s n given)) → PlacedDeclarations all (declarations_at s n given)
placed_declarations all s h n [] f q w = tt
placed_declarations all s h n (d ∷ rest) f q w =
    let first = declaration_marks (declaration_at s n d) in
    let others = declarations_marks (declarations_at s (n + declaring_size d + 1) rest) in
    (placed_declaration all s h n d f.0 (omega (arith, q)) (left all first others w), placed_declarations all s h (n + declaring_size d + 1) rest f.1 (omega (arith, q)) (right all first others w))

-- expressions

front_span : (s : ℕ → Site) (n : ℕ) (span : Span) (f : Front) (a : tree.Expression) → span_of (front_at s n span f a) ≡ span
front_span s n span (of_cast t) a = refl
front_span s n span _ a = refl

pub lies_expression : (s : ℕ → Site) (n : ℕ) (x : Phrase) → Lies s n (size x) (span_of (expression_at s n x))
lies_expression s n (identifier x) = lies s n 1 (omega arith)
lies_expression s n (constant c) = lies s n 1 (omega arith)
lies_expression s n (enclosed f a) = record { there = front_span s n _ f _; some = omega arith }
lies_expression s n k = lies s n (size k) (omega arith)

-- the last part of a whole, and the one before it
last_part : (all : List Token) (s : ℕ → Site) (h : Standing all s) (from n until : ℕ) (x : Phrase) → from ≤ n → n + size x ≤ until → until ≤ length all → Row all from until (span_of (expression_at s n x) ∷ [])
last_part all s h from n until x a b c = last all s h from n (size x) until _ (lies_expression s n x) a b c

last_point : (all : List Token) (s : ℕ → Site) (h : Standing all s) (from n until : ℕ) → from ≤ n → n + 1 ≤ until → until ≤ length all → Row all from until (point (s n) ∷ [])
last_point all s h from n until a b c = last all s h from n 1 until _ (lies_point s n) a b c

behind_front : (all : List Token) (s : ℕ → Site) (n : ℕ) (span : Span) (f : Front) (e : tree.Expression) → AreMarks all (marks (front_at s n span f e)) → AreMarks all (marks e)
behind_front all s n span (of_spawn x) e w = w.1
behind_front all s n span (of_cast t) e w = right all (type_marks (type_at s (n + 2) t)) (marks e) w.1
behind_front all s n span _ e w = w

placed_front : (all : List Token) (s : ℕ → Site) (h : Standing all s) (n : ℕ) (f : Front) (a : Phrase) → FitsFront f → n + size (enclosed f a) ≤ length all → AreMarks all (marks (expression_at s n (enclosed f a))) → Placed all (expression_at s (n + front_size f) a) → Placed all (expression_at s n (enclosed f a))
placed_front all s h n (of_spawn x) a f q w p =
    let k = 4 + size a + 1 in (
      whole all s h n k _ (omega arith) q
          (part all s h n (n + 2) 1 (n + k) _ _ (lies_point s (n + 2)) (omega arith) (omega arith) q
          (last_part all s h (n + 2 + 1) (n + 4) (n + k) a (omega arith) (omega arith) q)),
      w.0,
      p,
    )
placed_front all s h n (of_cast t) a f q w p =
    let k = type_size t + 3 + size a + 1 in (
      whole all s h n k _ (omega arith) q
          (part all s h n (n + 2) (type_size t) (n + k) _ _ (lies_type s (n + 2) t f) (omega arith) (omega arith) q
          (last_part all s h (n + 2 + type_size t) (n + (type_size t + 3)) (n + k) a (omega arith) (omega arith) q)),
      placed_type all s h (n + 2) t f (omega (arith, q)) (left all (type_marks (type_at s (n + 2) t)) (marks (expression_at s (n + (type_size t + 3)) a)) w.1),
      p,
    )
placed_front all s h n v a f q w p =
    let k = front_size v + size a + 1 in
    (whole all s h n k _ (omega arith) q (last_part all s h n (n + front_size v) (n + k) a (omega arith) (omega arith) q), p)

few_rest : (all : Phrases) → rest_size all ≤ sizes all + 1
few_rest none = omega arith
few_rest (more a rest) = omega arith

follow_arguments : (all : List Token) (s : ℕ → Site) (h : Standing all s) (from n until : ℕ) (given : Phrases) → from ≤ n → n + rest_size given ≤ until + 1 → until ≤ length all → Row all from until (argument_spans (arguments_at s n given))
follow_arguments all s h from n until none a b c = record { follow = tt }
follow_arguments all s h from n until (more x rest) a b c =
    part all s h from n (size x) until _ _ (lies_expression s n x) a (omega (arith, b)) c
    (follow_arguments all s h (n + size x) (n + size x + 1) until rest (omega arith) (omega (arith, b)) c)

mutual
  pub placed_expression : (all : List Token) (s : ℕ → Site) (h : Standing all s) (n : ℕ) (x : Phrase) → Fits x → n + size x ≤ length all → AreMarks all (marks (expression_at s n x)) → Placed all (expression_at s n x)
  placed_expression all s h n (identifier x) f q w = (whole all s h n 1 _ (omega arith) q (last_point all s h n n (n + 1) (omega arith) (omega arith) q), w.0)
  placed_expression all s h n (constant c) f q w = whole all s h n 1 [] (omega arith) q (record { follow = tt })
  placed_expression all s h n (enclosed v a) f q w =
      placed_front all s h n v a f.0 q w
      (placed_expression all s h (n + front_size v) a f.2 (omega (arith, q)) (behind_front all s n (span_at s n (size (enclosed v a))) v (expression_at s (n + front_size v) a) w))
  placed_expression all s h n (call x given) f q w =
      let k = sizes given + 3 in (
        whole all s h n k _ (omega arith) q
            (part all s h n n 1 (n + k) _ _ (lies_point s n) (omega arith) (omega arith) q
            (follow_arguments all s h (n + 1) (n + 2) (n + k) given (omega arith) (omega (arith, few_rest given)) q)),
        w.0,
        placed_arguments all s h (n + 2) given f (omega (arith, q, few_rest given)) w.1,
      )
  placed_expression all s h n (index a i) f q w =
      let k = size a + size i + 2 in
      let one = marks (expression_at s n a) in
      let other = marks (expression_at s (n + size a + 1) i) in (
        whole all s h n k _ (omega arith) q
            (part all s h n n (size a) (n + k) _ _ (lies_expression s n a) (omega arith) (omega arith) q (last_part all s h (n + size a) (n + size a + 1) (n + k) i (omega arith) (omega arith) q)),
        placed_expression all s h n a f.1 (omega (arith, q)) (left all one other w),
        placed_expression all s h (n + size a + 1) i f.2 (omega (arith, q)) (right all one other w),
      )
  placed_expression all s h n (field a v x) f q w =
      let k = size a + 2 in
      let one = marks (expression_at s n a) in
      let name = name_marks (name_at s (n + size a + 1) x) in (
        whole all s h n k _ (omega arith) q
            (part all s h n n (size a) (n + k) _ _ (lies_expression s n a) (omega arith) (omega arith) q (last_point all s h (n + size a) (n + size a + 1) (n + k) (omega arith) (omega arith) q)),
        placed_expression all s h n a f.1 (omega (arith, q)) (left all one name w),
        (right all one name w).0,
      )
  placed_expression all s h n (unary o a) f q w =
      let k = size a + 1 in
      (whole all s h n k _ (omega arith) q (last_part all s h n (n + 1) (n + k) a (omega arith) (omega arith) q), placed_expression all s h (n + 1) a f.1 (omega (arith, q)) w)
  placed_expression all s h n (binary o a b) f q w =
      let k = size a + size b + 1 in
      let one = marks (expression_at s n a) in
      let other = marks (expression_at s (n + size a + 1) b) in (
        whole all s h n k _ (omega arith) q
            (part all s h n n (size a) (n + k) _ _ (lies_expression s n a) (omega arith) (omega arith) q
            (part all s h (n + size a) (n + size a) 1 (n + k) _ _ (lies_point s (n + size a)) (omega arith) (omega arith) q
            (last_part all s h (n + size a + 1) (n + size a + 1) (n + k) b (omega arith) (omega arith) q))),
        placed_expression all s h n a f.2 (omega (arith, q)) (left all one other w),
        placed_expression all s h (n + size a + 1) b f.3 (omega (arith, q)) (right all one other w),
      )

  placed_arguments : (all : List Token) (s : ℕ → Site) (h : Standing all s) (n : ℕ) (given : Phrases) → FitAll given → n + rest_size given ≤ length all + 1 → AreMarks all (arguments_marks (arguments_at s n given)) → AllPlaced all (arguments_at s n given)
  placed_arguments all s h n none f q w = tt
  placed_arguments all s h n (more a rest) f q w =
      let one = marks (expression_at s n a) in
      let others = arguments_marks (arguments_at s (n + size a + 1) rest) in
      (placed_expression all s h n a f.0 (omega (arith, q)) (left all one others w), placed_arguments all s h (n + size a + 1) rest f.1 (omega (arith, q)) (right all one others w))

pub follow_option : (all : List Token) (s : ℕ → Site) (h : Standing all s) (from n until : ℕ) (e : Option Phrase) → from ≤ n → n + option_size e ≤ until → until ≤ length all → Row all from until (option_spans span_of (option_at s n e))
follow_option all s h from n until None a b c = record { follow = tt }
follow_option all s h from n until (Some e) a b c = last_part all s h from n until e a b c

pub placed_option : (all : List Token) (s : ℕ → Site) (h : Standing all s) (n : ℕ) (e : Option Phrase) → FitsOption e → n + option_size e ≤ length all → AreMarks all (option_marks marks (option_at s n e)) → IfSome (option_at s n e) (Placed all)
placed_option all s h n None f q w = tt
placed_option all s h n (Some e) f q w = placed_expression all s h n e f q w
