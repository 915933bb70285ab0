-- Modes that are the same, target by target, make one static type.
use Rattle.sharc_accepted_laws.proofs.Imports.{◌≡◌, ℕ, true, List, [], ◌∷◌, map, refl, ap, ◌∙◌, Option, Some, None, eqb-true, false≢true, and_parts, bytes_eq-Decides, Named, Kind, named_at, base_of, Lock, Sharing, private, readonly, locked, racy, dynamic, same_named, same_second, same_first, same_lock, same, same_all, Context, form_of, shape_of, number, lock_named, lock_at, locks_at, static_of}

-- ---- paths
same_what : (a b : Named) → same_named a b ≡ true → a ≡ b
same_what (Named.Struct n) (Named.Struct k) h = ap Named.Struct (eqb-true n k h)
same_what (Named.Global n) (Named.Global k) h = ap Named.Global (eqb-true n k h)
same_what (Named.Function n) (Named.Function k) h = ap Named.Function (eqb-true n k h)
same_what (Named.Variable n) (Named.Variable k) h = ap Named.Variable (eqb-true n k h)
same_what (Named.Field n) (Named.Field k) h = ap Named.Field (eqb-true n k h)
same_what Named.Known Named.Known h = refl
same_what _ _ h = absurd (false≢true h)

same_name : (a b : Option (List ℕ)) → same_second a b ≡ true → a ≡ b
same_name None None h = refl
same_name None (Some n) h = absurd (false≢true h)
same_name (Some m) None h = absurd (false≢true h)
same_name (Some m) (Some n) h = ap Some ((bytes_eq-Decides m n).0 h)

pub lock_of_same : (c : Context) (a b : Lock) → same_lock c.program.typed a b ≡ true → lock_at c a ≡ lock_at c b
lock_of_same c a b h =
    let parts = and_parts (same_first c.program.typed a.first b.first) (same_second a.second b.second) h in
    let what = same_what (named_at c.program.typed a.first) (named_at c.program.typed b.first) (and_parts _ _ parts.0).0 in
    ap (λ w. lock_named c w a.second) what ∙ ap (lock_named c (named_at c.program.typed b.first)) (same_name a.second b.second parts.1)

-- ---- modes
-- one mode, up to the path of its lock, with what the path leads to
pub data OneMode (c : Context) : Sharing → Sharing → Type 0 where
  itself : {a : Sharing} → OneMode c a a
  both_locked : {a b : Lock} → lock_at c a ≡ lock_at c b → OneMode c (locked a) (locked b)

one_mode : (c : Context) (a b : Sharing) → same c.program.typed a b ≡ true → OneMode c a b
one_mode c private private h = itself
one_mode c readonly readonly h = itself
one_mode c (locked l) (locked k) h = both_locked (lock_of_same c l k h)
one_mode c racy racy h = itself
one_mode c dynamic dynamic h = itself
one_mode c _ _ h = absurd (false≢true h)

one_form : (c : Context) (a b : Sharing) → OneMode c a b → form_of a ≡ form_of b
one_form c a _ itself = refl
one_form c _ _ (both_locked e) = refl

one_more : (c : Context) (s : Sharing) (xs ys : List Sharing) → locks_at c xs ≡ locks_at c ys → locks_at c (s ∷ xs) ≡ locks_at c (s ∷ ys)
one_more c (locked l) xs ys e = ap (λ ls. lock_at c l ∷ ls) e
one_more c _ xs ys e = e

one_lock : (c : Context) (a b : Sharing) (xs ys : List Sharing) → OneMode c a b → locks_at c xs ≡ locks_at c ys → locks_at c (a ∷ xs) ≡ locks_at c (b ∷ ys)
one_lock c a _ xs ys itself e = one_more c a xs ys e
one_lock c _ _ xs ys (both_locked {a = a} {b = b} l) e = ap (λ x. x ∷ locks_at c xs) l ∙ ap (λ ls. lock_at c b ∷ ls) e

pub forms_of_same : (c : Context) (a b : List Sharing) → same_all c.program.typed a b ≡ true → map form_of a ≡ map form_of b
forms_of_same c [] [] h = refl
forms_of_same c [] (b ∷ ys) h = absurd (false≢true h)
forms_of_same c (a ∷ xs) [] h = absurd (false≢true h)
forms_of_same c (a ∷ xs) (b ∷ ys) h =
    let parts = and_parts (same c.program.typed a b) (same_all c.program.typed xs ys) h in
    ap (λ f. f ∷ map form_of xs) (one_form c a b (one_mode c a b parts.0)) ∙ ap (λ fs. form_of b ∷ fs) (forms_of_same c xs ys parts.1)

pub locks_of_same : (c : Context) (a b : List Sharing) → same_all c.program.typed a b ≡ true → locks_at c a ≡ locks_at c b
locks_of_same c [] [] h = refl
locks_of_same c [] (b ∷ ys) h = absurd (false≢true h)
locks_of_same c (a ∷ xs) [] h = absurd (false≢true h)
locks_of_same c (a ∷ xs) (b ∷ ys) h =
    let parts = and_parts (same c.program.typed a b) (same_all c.program.typed xs ys) h in
    one_lock c a b xs ys (one_mode c a b parts.0) (locks_of_same c xs ys parts.1)

pub type_of_same : (c : Context) (j k : Kind) → base_of j ≡ base_of k → (a b : List Sharing) → same_all c.program.typed a b ≡ true → static_of c j a ≡ static_of c k b
type_of_same c j k one a b h =
    ap (λ x. record { target = number c.program (shape_of x a); locks = locks_at c a }) one
    ∙ ap (λ fs. record { target = number c.program (record { base = base_of k; forms = fs }); locks = locks_at c a }) (forms_of_same c a b h)
    ∙ ap (λ ls. record { target = number c.program (shape_of (base_of k) b); locks = ls }) (locks_of_same c a b h)
