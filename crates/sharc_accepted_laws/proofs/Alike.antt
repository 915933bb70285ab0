-- Shapes that are the same are equal.
use Rattle.sharc_accepted_laws.proofs.Imports.{◌≡◌, true, List, [], ◌∷◌, refl, ap, ◌∙◌, false≢true, and_parts, and_from, bytes_eq-Decides, Base, same_base, Form, private_form, racy_form, Shape, same_form, same_forms, same_shape}

base_itself : (b : Base) → same_base b b ≡ true
base_itself (Base.Struct name) = (bytes_eq-Decides name name).1 refl
base_itself _ = refl

pub base_is : (a b : Base) → same_base a b ≡ true → a ≡ b
base_is (Base.Struct x) (Base.Struct y) h = ap (λ z. Base.Struct z) ((bytes_eq-Decides x y).0 h)
base_is _ Base.Int h = cc
base_is _ _ h = cc

form_itself : (f : Form) → same_form f f ≡ true
form_itself racy_form = refl
form_itself _ = refl

form_is : (a b : Form) → same_form a b ≡ true → a ≡ b
form_is private_form private_form h = refl
form_is _ private_form h = cc
form_is _ _ h = cc

forms_themselves : (fs : List Form) → same_forms fs fs ≡ true
forms_themselves [] = refl
forms_themselves (f ∷ rest) = and_from (same_form f f) (same_forms rest rest) (form_itself f) (forms_themselves rest)

forms_are : (xs bs : List Form) → same_forms xs bs ≡ true → xs ≡ bs
forms_are [] [] h = refl
forms_are [] (b ∷ bs) h = absurd (false≢true h)
forms_are (a ∷ xs) [] h = absurd (false≢true h)
forms_are (a ∷ xs) (b ∷ bs) h = let p = and_parts (same_form a b) (same_forms xs bs) h in cc (form_is a b p.0, forms_are xs bs p.1)

pub shape_itself : (s : Shape) → same_shape s s ≡ true
shape_itself s = and_from (same_base s.base s.base) (same_forms s.forms s.forms) (base_itself s.base) (forms_themselves s.forms)

pub shape_is : (s t : Shape) → same_shape s t ≡ true → s ≡ t
shape_is s t h =
    let p = and_parts (same_base s.base t.base) (same_forms s.forms t.forms) h in
    ap (λ b. record { base = b; forms = s.forms }) (base_is s.base t.base p.0) ∙ ap (λ fs. record { base = t.base; forms = fs }) (forms_are s.forms t.forms p.1)
