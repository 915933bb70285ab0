-- The forms of the modes of rows: those of the positions, whatever the reading.
use Rattle.sharc_accepted_laws.proofs.{Imports.{◌≡◌, ℕ, zero, suc, ◌+◌, ◌-◌, ◌<◌, ◌≤◌, ◌==◌, eqb-true, Bool, true, false, cond, List, [], ◌∷◌, length, map, take, drop, refl, ap, sym, ◌∙◌, arith, Some, eqb-false, slice_get, Mode, Role, Numbered, positions_of, Resolution, Assignment, PathReading, written, Targets, targets_from, entity_row, read, modes_of, sharing_of, Form, form_of, same_some}, Passed.{form_read as read_form}}

abbrev pub mode_form : Mode → Form
mode_form mode = form_of (sharing_of mode)

forms_read : (r : Resolution) (how : PathReading) (list : List Mode) → map form_of (map (λ mode. read r how (sharing_of mode)) list) ≡ map mode_form list
forms_read r how [] = refl
forms_read r how (x ∷ rest) = cc (read_form r how (sharing_of x), forms_read r how rest)

-- so the forms of a row are those of its positions
pub row_forms : (m : Assignment) (row : Targets) → map form_of (modes_of m row) ≡ map mode_form (take row.count (drop row.first m.modes))
row_forms m row = forms_read m.typed row.reading (take row.count (drop row.first m.modes))

pub same_forms : (m : Assignment) (first count : ℕ) (a b : PathReading) → map form_of (modes_of m (record { first = first; count = count; reading = a })) ≡ map form_of (modes_of m (record { first = first; count = count; reading = b }))
same_forms m first count a b = forms_read m.typed a (take count (drop first m.modes)) ∙ sym (forms_read m.typed b (take count (drop first m.modes)))

-- ---- one level
pub record IsModeAt (m : Assignment) (position : ℕ) (f : Form) : Type 0 where
  pub mode : Mode
  pub at : slice_get m.modes position ≡ Some mode
  pub form : mode_form mode ≡ f

record FormAt (count first : ℕ) (modes : List Mode) (k : ℕ) (f : Form) : Type 0 where
  inside : k < count
  mode : Mode
  at : slice_get modes (first + k) ≡ Some mode
  form : mode_form mode ≡ f

form_there : (count first : ℕ) (modes : List Mode) (k : ℕ) (f : Form) → slice_get (map mode_form (take count (drop first modes))) k ≡ Some f → FormAt count first modes k f
form_there zero zero [] k f is = absurd (cc)
form_there (suc c) zero (x ∷ rest) zero f is = record { inside = omega arith; mode = x; at = refl; form = same_some _ _ is }
form_there (suc c) zero (x ∷ rest) (suc k) f is =
    let w = form_there c zero rest k f is in
    record { inside = omega (arith, w.inside); mode = w.mode; at = let e : zero + suc k ≡ suc (zero + k) = omega arith in ap (slice_get (x ∷ rest)) e ∙ w.at; form = w.form }
form_there count (suc n) (x ∷ rest) k f is =
    let w = form_there count n rest k f is in
    record { inside = w.inside; mode = w.mode; at = let e : suc n + k ≡ suc (n + k) = omega arith in ap (slice_get (x ∷ rest)) e ∙ w.at; form = w.form }
form_there _ _ _ k f is = absurd (cc)

-- how many levels of a type come before its targets among its positions
abbrev pub skipped : Role → ℕ
skipped Role.Global = 1
skipped _ = 0

-- a target of an entity's type is at a position
pub record IsLevel (m : Assignment) (n : Numbered) (k : ℕ) (f : Form) : Type 0 where
  pub inside : skipped n.entity.role + k < positions_of n.entity
  pub at : IsModeAt m (n.first + (skipped n.entity.role + k)) f

level_by : (m : Assignment) (first count k : ℕ) (f : Form) → (what : Role)
    → slice_get (map form_of (modes_of m (targets_from what (record { first = first; count = count; reading = written })))) k ≡ Some f → (skipped what + k < count) × IsModeAt m (first + (skipped what + k)) f
level_by m first count k f what is = by what is
  where
    plain : slice_get (map form_of (modes_of m (record { first = first; count = count; reading = written }))) k ≡ Some f → (0 + k < count) × IsModeAt m (first + (0 + k)) f
    plain is =
        let w = form_there count first m.modes k f (sym (ap (λ l. slice_get l k) (row_forms m (record { first = first; count = count; reading = written }))) ∙ is) in
        let e : first + (0 + k) ≡ first + k = omega arith in
        (omega (arith, w.inside), record { mode = w.mode; at = ap (slice_get m.modes) e ∙ w.at; form = w.form })

    below : (b : Bool) → (count == 0) ≡ b → slice_get (map form_of (modes_of m (cond b (record { first = first; count = count; reading = written }) (record { first = first + 1; count = count - 1; reading = written })))) k ≡ Some f
        → (1 + k < count) × IsModeAt m (first + (1 + k)) f
    below true none is = let p = plain is in let low = p.0 in let z = eqb-true count 0 none in absurd (omega (arith, low, z))
    below false some is =
        let w = form_there (count - 1) (first + 1) m.modes k f (sym (ap (λ l. slice_get l k) (row_forms m (record { first = first + 1; count = count - 1; reading = written }))) ∙ is) in
        let e : first + (1 + k) ≡ first + 1 + k = omega arith in
        (omega (arith, w.inside), record { mode = w.mode; at = ap (slice_get m.modes) e ∙ w.at; form = w.form })

    by : (x : Role) → slice_get (map form_of (modes_of m (targets_from x (record { first = first; count = count; reading = written })))) k ≡ Some f → (skipped x + k < count) × IsModeAt m (first + (skipped x + k)) f
    by Role.Global is = below (count == 0) refl is
    by _ is = plain is

pub level_of : (m : Assignment) (n : Numbered) (k : ℕ) (f : Form) → slice_get (map form_of (modes_of m (entity_row written (Some n)))) k ≡ Some f → IsLevel m n k f
level_of m n k f is = let w = level_by m n.first (positions_of n.entity) k f n.entity.role is in record { inside = w.0; at = w.1 }

-- ---- how many
taken_length : (count first : ℕ) (modes : List Mode) → first + count ≤ length modes → length (map mode_form (take count (drop first modes))) ≡ count
taken_length zero zero [] low = refl
taken_length zero (suc n) [] low = refl
taken_length zero zero (x ∷ rest) low = refl
taken_length (suc c) zero (x ∷ rest) low = ap suc (taken_length c zero rest (omega (arith, low)))
taken_length count (suc n) (x ∷ rest) low = taken_length count n rest (omega (arith, low))
taken_length (suc c) _ [] low = absurd (omega (arith, low))

pub row_length : (m : Assignment) (row : Targets) → row.first + row.count ≤ length m.modes → length (map form_of (modes_of m row)) ≡ row.count
row_length m row low = ap length (row_forms m row) ∙ taken_length row.count row.first m.modes low

entity_length_by : (m : Assignment) (first count : ℕ) (what : Role) → first + count ≤ length m.modes → length (map form_of (modes_of m (targets_from what (record { first = first; count = count; reading = written })))) ≡ count - skipped what
entity_length_by m first count what low = by what
  where
    plain : length (map form_of (modes_of m (record { first = first; count = count; reading = written }))) ≡ count - 0
    plain = let e = row_length m (record { first = first; count = count; reading = written }) low in omega (arith, e)

    below : (b : Bool) → (count == 0) ≡ b → length (map form_of (modes_of m (cond b (record { first = first; count = count; reading = written }) (record { first = first + 1; count = count - 1; reading = written })))) ≡ count - 1
    below true none = let z = eqb-true count 0 none in let e = plain in omega (arith, e, z)
    below false some = let z = eqb-false count 0 some in row_length m (record { first = first + 1; count = count - 1; reading = written }) (omega (arith, low, z))

    by : (x : Role) → length (map form_of (modes_of m (targets_from x (record { first = first; count = count; reading = written })))) ≡ count - skipped x
    by Role.Global = below (count == 0) refl
    by _ = plain

pub entity_length : (m : Assignment) (n : Numbered) → n.first + positions_of n.entity ≤ length m.modes → length (map form_of (modes_of m (entity_row written (Some n)))) ≡ positions_of n.entity - skipped n.entity.role
entity_length m n low = entity_length_by m n.first (positions_of n.entity) n.entity.role low
