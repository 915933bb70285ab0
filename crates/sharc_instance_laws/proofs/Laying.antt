-- Texts laid one behind the other: of the lines and the functions of flat code, and that each lies where it is said to lie.
use Rattle.sharc_instance_laws.proofs.Imports.{◌≡◌, ℕ, ◌+◌, ◌-◌, List, [], ◌∷◌, ◌++◌, length, take, drop, refl, sym, ap, ◌∙◌, append_assoc, append-nil, length-append, arith, Function, Row, GlobalCells, Text, Resolution, Assignment, LineTexts, Op, function_code, rows_of, names_of, AreTold, AreNamed, lies_at, lock_bytes, lvalue_bytes, spot_in}

-- ---- one text among others
drops : (pre y : List ℕ) → drop (length pre) (pre ++ y) ≡ y
drops [] y = refl
drops (p ∷ pre) y = drops pre y

takes : (x y : List ℕ) → take (length x) (x ++ y) ≡ x
takes [] y = refl
takes (a ∷ x) y = ap (λ (l : List ℕ). a ∷ l) (takes x y)

abbrev pub text_behind : List ℕ → List ℕ → Text
text_behind pre x = record { from = length pre; until = length (pre ++ x) }

apart : (a b c : ℕ) → c ≡ a + b → c - a ≡ b
apart a b c e = omega (arith, e)

lies : (bytes pre x post : List ℕ) → bytes ≡ pre ++ (x ++ post) → lies_at bytes (text_behind pre x) ≡ x
lies bytes pre x post is =
    ap (λ (l : List ℕ). take (length (pre ++ x) - length pre) (drop (length pre) l)) is
    ∙ ap (λ (l : List ℕ). take (length (pre ++ x) - length pre) l) (drops pre (x ++ post))
    ∙ ap (λ (n : ℕ). take n (x ++ post)) (apart (length pre) (length x) (length (pre ++ x)) (length-append pre x))
    ∙ takes x post

-- ---- lines
module _ (r : Resolution) where
  abbrev pub behind_line : List ℕ → Op → List ℕ
  behind_line pre o = (pre ++ lvalue_bytes r (spot_in o)) ++ lock_bytes r (spot_in o)

  abbrev pub laid : List ℕ → List Op → List LineTexts
  laid pre [] = []
  laid pre (o ∷ os) = record { lvalue = text_behind pre (lvalue_bytes r (spot_in o)); lock = text_behind (pre ++ lvalue_bytes r (spot_in o)) (lock_bytes r (spot_in o)) } ∷ laid (behind_line pre o) os

  abbrev pub behind_lines : List ℕ → List Op → List ℕ
  behind_lines pre [] = pre
  behind_lines pre (o ∷ os) = behind_lines (behind_line pre o) os

  further : (pre : List ℕ) (os : List Op) → (post : List ℕ) × (behind_lines pre os ≡ pre ++ post)
  further pre [] = ([], sym (append-nil pre))
  further pre (o ∷ os) =
      let w = further (behind_line pre o) os in
      let x = lvalue_bytes r (spot_in o) in
      let y = lock_bytes r (spot_in o) in
      (x ++ (y ++ w.0), w.1 ∙ append_assoc (pre ++ x) y w.0 ∙ append_assoc pre x (y ++ w.0))

  pub are_laid : (bytes pre : List ℕ) (os : List Op) (post : List ℕ) → bytes ≡ behind_lines pre os ++ post → AreTold r bytes os (laid pre os)
  are_laid bytes pre [] post is = tt
  are_laid bytes pre (o ∷ os) post is =
      let x = lvalue_bytes r (spot_in o) in
      let y = lock_bytes r (spot_in o) in
      let w = further (behind_line pre o) os in
      let all : bytes ≡ (pre ++ x) ++ (y ++ (w.0 ++ post)) = is ∙ ap (λ (l : List ℕ). l ++ post) w.1 ∙ append_assoc ((pre ++ x) ++ y) w.0 post ∙ append_assoc (pre ++ x) y (w.0 ++ post) in (
        record {
          lvalue = lies bytes pre x (y ++ (w.0 ++ post)) (all ∙ append_assoc pre x (y ++ (w.0 ++ post)));
          lock = lies bytes (pre ++ x) y (w.0 ++ post) all;
        },
        are_laid bytes (behind_line pre o) os post is,
      )

-- ---- functions
abbrev pub named : List ℕ → List Row → List (List ℕ) → List Row
named pre [] names = []
named pre (x ∷ rows) [] = []
named pre (x ∷ rows) (n ∷ names) = record x { name = text_behind pre n } ∷ named (pre ++ n) rows names

abbrev pub behind_names : List ℕ → List (List ℕ) → List ℕ
behind_names pre [] = pre
behind_names pre (n ∷ names) = behind_names (pre ++ n) names

pub further_names : (pre : List ℕ) (names : List (List ℕ)) → (post : List ℕ) × (behind_names pre names ≡ pre ++ post)
further_names pre [] = ([], sym (append-nil pre))
further_names pre (n ∷ names) = let w = further_names (pre ++ n) names in (n ++ w.0, w.1 ∙ append_assoc pre n w.0)

pub are_named : (m : Assignment) (globals : List GlobalCells) (bytes pre : List ℕ) (pc : ℕ) (fs : List Function) → bytes ≡ behind_names pre (names_of fs)
    → AreNamed bytes (rows_of m globals pc fs) (names_of fs) (named pre (rows_of m globals pc fs) (names_of fs))
are_named m globals bytes pre pc [] is = tt
are_named m globals bytes pre pc (f ∷ fs) is =
    let w = further_names (pre ++ f.name.text) (names_of fs) in (
      record {
        name_at = text_behind pre f.name.text;
        is = refl;
        lies = lies bytes pre f.name.text w.0 (is ∙ w.1 ∙ append_assoc pre f.name.text w.0);
      },
      are_named m globals bytes (pre ++ f.name.text) (pc + length (function_code m globals pc f)) fs is,
    )
