-- The names of lists of marks, one after the other, and of the levels of a type.
use Rattle.sharc_reach.proofs.Imports.{◌≡◌, ℕ, ◌+◌, ◌<◌, Bool, true, false, Option, length, drop, get_or, arith, List, [], ◌∷◌, ◌++◌, refl, ap, sym, ◌∙◌, append_assoc, drop_more, length-drop, Mode, Declaration, Mark, a_name, a_cast, level_marks, levels_marks, declaration_marks, declarations_marks, Mention, mention, names}
use Rattle.sharc_reach.specs.declared.mention.NameUse.TheVariants.{Named}

pub names_append : (n : ℕ) (a b : List Mark) → names n (a ++ b) ≡ names n a ++ names n b
names_append n [] b = refl
names_append n (a_name token text ∷ a) b = ap (λ l. mention n token Named ∷ l) (names_append n a b)
names_append n (a_cast token ∷ a) b = names_append n a b

pub names_both : (n : ℕ) (a b : List Mark) (old mid new : List Mention) → mid ≡ old ++ names n a → new ≡ mid ++ names n b → new ≡ old ++ names n (a ++ b)
names_both n a b old mid new one two = two ∙ ap (λ l. l ++ names n b) one ∙ append_assoc old (names n a) (names n b) ∙ ap (λ l. old ++ l) (sym (names_append n a b))

at_above : (first : Bool) (base : List Mark) (m : Option Mode) (rest : List (Option Mode)) → 0 < length rest → levels_marks first base (m ∷ rest) ≡ levels_marks first base rest ++ level_marks m
at_above first base m [] some = absurd (omega arith)
at_above true base m (x ∷ rest) some = refl
at_above false base m (x ∷ rest) some = refl

from_level : (levels : List (Option Mode)) (k : ℕ) (m : Option Mode) → k < length levels → m ≡ get_or levels k m → drop k levels ≡ m ∷ drop (k + 1) levels
from_level levels k m below is = drop_more levels k m below ∙ ap (λ x. x ∷ drop (k + 1) levels) (sym is)

-- one level more, above the others or the lowest
pub names_higher : (n : ℕ) (first : Bool) (base : List Mark) (levels : List (Option Mode)) (k above : ℕ) (m : Option Mode) (old mid new : List Mention) → k + 1 ≡ above → above < length levels → m ≡ get_or levels k m
    → mid ≡ old ++ names n (levels_marks first base (drop above levels)) → new ≡ mid ++ names n (level_marks m) → new ≡ old ++ names n (levels_marks first base (drop k levels))
names_higher n first base levels k above m old mid new next within is one two =
    names_both n (levels_marks first base (drop above levels)) (level_marks m) old mid new one two
    ∙ ap (λ i. old ++ names n (levels_marks first base (drop i levels) ++ level_marks m)) (sym next)
    ∙ ap (λ l. old ++ names n l) (sym (at_above first base m (drop (k + 1) levels) (let size = length-drop (k + 1) levels in omega arith)))
    ∙ ap (λ l. old ++ names n (levels_marks first base l)) (sym (from_level levels k m (omega arith) is))

-- one declaration more
pub names_declared : (n : ℕ) (all : List Declaration) (i : ℕ) (d : Declaration) (old new start : List Mention) → i < length all → d ≡ get_or all i d → new ≡ old ++ names n (declaration_marks d)
    → old ++ names n (declarations_marks (drop i all)) ≡ start → new ++ names n (declarations_marks (drop (i + 1) all)) ≡ start
names_declared n all i d old new start below is one had =
    names_both n (declaration_marks d) (declarations_marks (drop (i + 1) all)) old new (new ++ names n (declarations_marks (drop (i + 1) all))) one refl
    ∙ ap (λ x. old ++ names n (declarations_marks (x ∷ drop (i + 1) all))) is
    ∙ ap (λ l. old ++ names n (declarations_marks l)) (sym (drop_more all i d below))
    ∙ had
