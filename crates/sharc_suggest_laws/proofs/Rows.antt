-- The modes of what is where it was, or that many positions further on.
use Rattle.sharc_suggest_laws.proofs.{Imports.{◌≡◌, ℕ, ◌+◌, ◌-◌, ◌≤◌, ◌==◌, Bool, true, false, cond, ◌⊎◌, inl, inr, List, [], ◌∷◌, map, length, take, drop, Option, Some, None, refl, ap, ap₂, sym, ◌∙◌, arith, eqb-false, Mode, Role, Resolution, Entity, Numbered, positions_of, Assignment, Targets, written, read, targets_from, entity_row, modes_of, Sharing, locked, sharing_of, inserted}, Found.{IsMoved, AreMoved}, Inserted.{stretch_before, stretch_behind}}

-- ---- a row that is read as it is written

abbrev pub row_of : ℕ → ℕ → Targets
row_of first count = record { first = first; count = count; reading = written }

read_written : (r : Resolution) (s : Sharing) → read r written s ≡ s
read_written r (locked l) = refl
read_written r _ = refl

pub all_read : (r : Resolution) (modes : List Mode) → map (λ mode. read r written (sharing_of mode)) modes ≡ map sharing_of modes
all_read r [] = refl
all_read r (m ∷ rest) = ap₂ (λ (s : Sharing) (l : List Sharing). s ∷ l) (read_written r (sharing_of m)) (all_read r rest)

row_modes : (m : Assignment) (first count : ℕ) → modes_of m (row_of first count) ≡ map sharing_of (take count (drop first m.modes))
row_modes m first count = all_read m.typed (take count (drop first m.modes))

-- ---- it has the modes that it had

-- this many positions from p on now lie from q on
abbrev pub IsShifted : ℕ → ℕ → ℕ → ℕ → ℕ → Type 0
IsShifted first count p q n = ((p + n ≤ first) × (q ≡ p)) ⊎ ((first ≤ p) × (q ≡ p + count))

pub same_stretch : (first : ℕ) (new old : List Mode) (p q n : ℕ) → first ≤ length old → IsShifted first (length new) p q n → take n (drop q (inserted first new old)) ≡ take n (drop p old)
same_stretch first new old p q n within (inl w) = ap (λ (k : ℕ). take n (drop k (inserted first new old))) w.1 ∙ stretch_before first new old p n within w.0
same_stretch first new old p q n within (inr w) = ap (λ (k : ℕ). take n (drop k (inserted first new old))) w.1 ∙ stretch_behind first new old p n within w.0

-- these modes are those of the other with some among them
record HasInserted (first : ℕ) (new : List Mode) (m now : Assignment) : Type 0 where
  modes : now.modes ≡ inserted first new m.modes
  within : first ≤ length m.modes

row_same : (first : ℕ) (new : List Mode) (m now : Assignment) → HasInserted first new m now → (p q n : ℕ) → IsShifted first (length new) p q n → modes_of now (row_of q n) ≡ modes_of m (row_of p n)
row_same first new m now has p q n place =
    row_modes now q n ∙ ap (λ (l : List Mode). map sharing_of (take n (drop q l))) has.modes ∙ ap (map sharing_of) (same_stretch first new m.modes p q n has.within place) ∙ sym (row_modes m p n)

pub shifted_deeper : (first count p q n : ℕ) → (n ≡ 0 → ⊥) → IsShifted first count p q n → IsShifted first count (p + 1) (q + 1) (n - 1)
shifted_deeper first count p q n some (inl (ends, same)) = inl (omega (arith, some, ends), omega (arith, same))
shifted_deeper first count p q n some (inr (low, same)) = inr (omega (arith, low), omega (arith, same))

deeper_by : (first : ℕ) (new : List Mode) (m now : Assignment) → HasInserted first new m now → (p q n : ℕ) → IsShifted first (length new) p q n → (b : Bool) → (n == 0) ≡ b
    → modes_of now (cond b (row_of q n) (row_of (q + 1) (n - 1))) ≡ modes_of m (cond b (row_of p n) (row_of (p + 1) (n - 1)))
deeper_by first new m now has p q n place true is = row_same first new m now has p q n place
deeper_by first new m now has p q n place false is = row_same first new m now has (p + 1) (q + 1) (n - 1) (shifted_deeper first (length new) p q n (eqb-false n 0 is) place)

role_same : (what : Role) (first : ℕ) (new : List Mode) (m now : Assignment) → HasInserted first new m now → (p q n : ℕ) → IsShifted first (length new) p q n
    → modes_of now (targets_from what (row_of q n)) ≡ modes_of m (targets_from what (row_of p n))
role_same Role.Global first new m now has p q n place = deeper_by first new m now has p q n place (n == 0) refl
role_same _ first new m now has p q n place = row_same first new m now has p q n place

moved_same : (first : ℕ) (new : List Mode) (m now : Assignment) → HasInserted first new m now → (o n : Numbered) → IsMoved first (length new) o n → modes_of now (entity_row written (Some n)) ≡ modes_of m (entity_row written (Some o))
moved_same first new m now has o n is =
    ap (λ (e : Entity). modes_of now (targets_from e.role (row_of n.first (positions_of e)))) is.entity
    ∙ role_same o.entity.role first new m now has o.first n.first (positions_of o.entity) is.place

pub entity_same : (first : ℕ) (new : List Mode) (m now : Assignment) → now.modes ≡ inserted first new m.modes → first ≤ length m.modes → (old later : Option Numbered) → AreMoved first (length new) old later
    → modes_of now (entity_row written later) ≡ modes_of m (entity_row written old)
entity_same first new m now modes within None None are = refl
entity_same first new m now modes within None (Some n) are = absurd are
entity_same first new m now modes within (Some o) None are = absurd are
entity_same first new m now modes within (Some o) (Some n) are = moved_same first new m now (record { modes = modes; within = within }) o n are
