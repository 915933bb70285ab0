-- The machine's steps over declarations.
use Rattle.sharc_parse.proofs.{Imports.{◌≡◌, ℕ, ◌+◌, List, [], ◌∷◌, Option, None, refl, ap, ◌∙◌, Bool, true, false, map, Ok, Site, Span, Assign, Star, Comma, CloseParenthesis, OpenBrace, Base, WrittenType, Declaration, Word, name, mark, Sharing, Typing, Part, Outer, LinePlace, NamePlace, on_top, parameter_of, local, naming, of_local, part, valued, Want, Named, At, close_type, open_type, declaring_of, StuckAt, next_within, reads_within, span_at, type_size, type_at, declaring_size, declaration_at, bare_level, bare_type, bare_declaration, NoName, EndsLevels, EndsType, typed_levels, typed_state, void_type, struct_type, IsPlainAt, IsPlainPlace}, TypeSteps.{no_level, typing_with}}

name_levels : (p : NamePlace) (first : Bool) (b : Base) (levels : List (Option Sharing)) (n : List ℕ) (y all : List Word) → EndsLevels true levels all → reads_within (name n ∷ y) (typed_levels (naming p) first b levels) ≡ reads_within y (At [] (Named p (typing_with first b levels) n))
name_levels p first b [] n y all e = absurd e
name_levels p first b (m ∷ below) n y all e = refl

-- the name after a type
pub named_goes : (p : NamePlace) (t : WrittenType) (n : List ℕ) (y all : List Word) → EndsType true (Ok t) all → reads_within (name n ∷ y) (typed_state (naming p) (bare_type t)) ≡ reads_within y (At [] (Named p (bare_type t) n))
named_goes p t n y all e = name_levels p t.mode_first t.ctype.base (map bare_level t.ctype.levels) n y all e

no_close : (all : List Part) (r : Typing) (f : List ℕ) (first : Bool) (b : Base) (m : Option Sharing) (below : List (Option Sharing)) → (typing_with first b (m ∷ below) ≡ void_type → ⊥) → close_type (naming (parameter_of all r f [])) first b m below ≡ None
no_close all r f false Base.Void None [] n = absurd (n refl)
no_close all r f _ _ _ _ n = refl

no_open : (all : List Part) (first : Bool) (b : Base) (m : Option Sharing) (below : List (Option Sharing)) → ((x : List ℕ) → typing_with first b (m ∷ below) ≡ struct_type x → ⊥) → open_type (naming (on_top all)) first b m below ≡ None
no_open all false (Base.Struct x) None [] n = absurd (n x refl)
no_open all _ _ _ _ n = refl

close_none : (p : NamePlace) (first : Bool) (b : Base) (m : Option Sharing) (below : List (Option Sharing)) (y : List Word) → IsPlainAt p (typing_with first b (m ∷ below)) (mark CloseParenthesis ∷ y) → close_type (naming p) first b m below ≡ None
close_none (parameter_of all r f []) first b m below y h = no_close all r f first b m below (λ e. h e refl)
close_none _ first b m below y h = refl

open_none : (p : NamePlace) (first : Bool) (b : Base) (m : Option Sharing) (below : List (Option Sharing)) (y : List Word) → IsPlainAt p (typing_with first b (m ∷ below)) (mark OpenBrace ∷ y) → open_type (naming p) first b m below ≡ None
open_none (on_top all) first b m below y h = no_open all first b m below (λ x e. h x e refl)
open_none _ first b m below y h = refl

stuck_levels : (p : NamePlace) (first : Bool) (b : Base) (levels : List (Option Sharing)) (ts : List Word) → EndsLevels true levels ts → NoName ts → IsPlainAt p (typing_with first b levels) ts → reads_within ts (typed_levels (naming p) first b levels) ≡ StuckAt ts
stuck_levels p first b [] ts e n h = absurd e
stuck_levels p first b (m ∷ below) [] e n h = refl
stuck_levels p first b (m ∷ below) (mark Star ∷ y) e n h = absurd (e.1 refl)
stuck_levels p first b (m ∷ below) (name x ∷ y) e n h = absurd n
stuck_levels p first b (m ∷ below) (mark Comma ∷ y) e n h = refl
stuck_levels p first b (m ∷ below) (mark CloseParenthesis ∷ y) e n h = ap (λ o. next_within o (λ s. reads_within y s) (mark CloseParenthesis ∷ y)) (close_none p first b m below y h)
stuck_levels p first b (m ∷ below) (mark OpenBrace ∷ y) e n h = ap (λ o. next_within o (λ s. reads_within y s) (mark OpenBrace ∷ y)) (open_none p first b m below y h)
stuck_levels p first b (m ∷ below) (t ∷ y) e n h = ap (λ o. next_within o (λ s. reads_within y s) (t ∷ y)) (no_level (naming p) first b m below t y refl e.0)

-- the name is missing
pub no_name_there : (p : NamePlace) (t : WrittenType) (ts : List Word) → EndsType true (Ok t) ts → NoName ts → IsPlainAt p (bare_type t) ts → reads_within ts (typed_state (naming p) (bare_type t)) ≡ StuckAt ts
no_name_there p t ts e n h = stuck_levels p t.mode_first t.ctype.base (map bare_level t.ctype.levels) ts e n h

pub plain_there : (p : NamePlace) (t : Typing) (ts : List Word) → IsPlainPlace p → IsPlainAt p t ts
plain_there (on_top all) t ts h = absurd h
plain_there (parameter_of all r f []) t ts h = absurd h
plain_there _ t ts h = tt

pub initial_goes : (p : LinePlace) (o : Outer) (t : Typing) (n : List ℕ) (y : List Word) → reads_within (mark Assign ∷ y) (At [] (Named (local p o) t n)) ≡ reads_within y (At [] (Want (part (valued (of_local p (declaring_of t n))) o)))
initial_goes p o t n y = refl

-- a declaration at its tokens

abbrev made_declaration : Span → WrittenType → Site → List ℕ → Declaration
made_declaration s w i text = record { span = s; written = w; name = record { site = i; text = text } }

pub declaration_stands : (s : ℕ → Site) (n mid new : ℕ) (d : Declaration) → d.span ≡ span_at s n (declaring_size (bare_declaration d)) → d.written ≡ type_at s n (bare_type d.written) → mid ≡ n + type_size (bare_type d.written) → d.name.site ≡ s mid → d ≡ declaration_at s n (bare_declaration d)
declaration_stands s n mid new d a b e c =
    ap (λ z. made_declaration z d.written d.name.site d.name.text) a
    ∙ ap (λ z. made_declaration (span_at s n (declaring_size (bare_declaration d))) z d.name.site d.name.text) b
    ∙ ap (λ z. made_declaration (span_at s n (declaring_size (bare_declaration d))) (type_at s n (bare_type d.written)) z d.name.text) (c ∙ ap s e)
