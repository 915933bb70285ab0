-- How often notes refer to a token, and how often a tree has a name there.
use Rattle.sharc_ctype_laws.proofs.Imports.{◌≡◌, ℕ, ◌+◌, ◌==◌, Bool, true, false, cond, List, [], ◌∷◌, ◌++◌, refl, arith, Option, Some, None, Mark, a_name, a_cast, Expression, Base, FaultCode, Named, Need, Kind, object, called, used_call, misfit_of, misfit, fits, unmet, unagreed, Note, fault, refers, yields, fault_unless, fault_where}

unfoldable pub one : ℕ → ℕ → ℕ
one token n = cond (n == token) 1 0

unfoldable pub told : ℕ → List Note → ℕ
told token [] = 0
told token (fault place code ∷ rest) = told token rest
told token (refers n what ∷ rest) = one token n + told token rest
told token (yields n what ∷ rest) = one token n + told token rest

unfoldable pub written : ℕ → List Mark → ℕ
written token [] = 0
written token (a_name n text ∷ rest) = one token n + written token rest
written token (a_cast n ∷ rest) = written token rest

pub told-append : (t : ℕ) (a b : List Note) → told t (a ++ b) ≡ told t a + told t b
unfolding told
told-append t [] b = omega arith
told-append t (fault place code ∷ rest) b = told-append t rest b
told-append t (refers n what ∷ rest) b = let e = told-append t rest b in omega (arith, e)
told-append t (yields n what ∷ rest) b = let e = told-append t rest b in omega (arith, e)

pub written-append : (t : ℕ) (a b : List Mark) → written t (a ++ b) ≡ written t a + written t b
unfolding written
written-append t [] b = omega arith
written-append t (a_name n text ∷ rest) b = let e = written-append t rest b in omega (arith, e)
written-append t (a_cast n ∷ rest) b = written-append t rest b

pub told_refers : (t n : ℕ) (what : Named) (rest : List Note) → told t (refers n what ∷ rest) ≡ one t n + told t rest
unfolding told
told_refers t n what rest = refl

pub told_yields : (t n : ℕ) (what : Named) (rest : List Note) → told t (yields n what ∷ rest) ≡ one t n + told t rest
unfolding told
told_yields t n what rest = refl

pub told_second : (t n : ℕ) (what : Named) → told t (yields n what ∷ []) ≡ one t n
unfolding told
told_second t n what = omega arith

pub told_one : (t n : ℕ) (what : Named) → told t (refers n what ∷ []) ≡ one t n
unfolding told
told_one t n what = omega arith

pub told_none : (t : ℕ) → told t [] ≡ 0
unfolding told
told_none t = refl

pub told_fault : (t place : ℕ) (code : FaultCode) (rest : List Note) → told t (fault place code ∷ rest) ≡ told t rest
unfolding told
told_fault t place code rest = refl

pub written_one : (t n : ℕ) (text : List ℕ) → written t (a_name n text ∷ []) ≡ one t n
unfolding written
written_one t n text = omega arith

pub written_name : (t n : ℕ) (text : List ℕ) (rest : List Mark) → written t (a_name n text ∷ rest) ≡ one t n + written t rest
unfolding written
written_name t n text rest = refl

pub written_cast : (t n : ℕ) (rest : List Mark) → written t (a_cast n ∷ rest) ≡ written t rest
unfolding written
written_cast t n rest = refl

pub written_none : (t : ℕ) → written t [] ≡ 0
unfolding written
written_none t = refl

-- notes that refer to nothing

pub quiet_fault : (t place : ℕ) (code : FaultCode) → told t (fault place code ∷ []) ≡ 0
unfolding told
quiet_fault t place code = refl

pub quiet_unless : (t : ℕ) (b : Bool) (place : ℕ) (code : FaultCode) → told t (fault_unless b place code) ≡ 0
unfolding told
quiet_unless t true place code = refl
quiet_unless t false place code = refl

pub quiet_where : (t : ℕ) (b : Bool) (place : ℕ) (code : FaultCode) → told t (fault_where b place code) ≡ 0
unfolding told
quiet_where t true place code = refl
quiet_where t false place code = refl

quiet_used : (t : ℕ) (o : Option ℕ) → told t (used_call o) ≡ 0
quiet_used t None = told_none t
quiet_used t (Some word) = quiet_fault t _ _

quiet_misfit_of : (t : ℕ) (b : Base) (e : Expression) → told t (misfit_of b e) ≡ 0
quiet_misfit_of t Base.Void e = quiet_used t (called e)
quiet_misfit_of t _ e = quiet_fault t _ _

pub quiet_if : (t : ℕ) (b : Bool) (x y : List Note) → told t x ≡ 0 → told t y ≡ 0 → told t (cond b x y) ≡ 0
quiet_if t true x y h k = h
quiet_if t false x y h k = k

quiet_misfit : (t : ℕ) (k : Kind) (e : Expression) → told t (misfit k e) ≡ 0
quiet_misfit t (object b stars) e = quiet_if t (stars == 0) (misfit_of b e) _ (quiet_misfit_of t b e) (quiet_fault t _ _)
quiet_misfit t _ e = quiet_fault t _ _

pub quiet_unmet : (t : ℕ) (n : Need) (e : Expression) (k : Option Kind) → told t (unmet n e k) ≡ 0
quiet_unmet t n e None = told_none t
quiet_unmet t n e (Some k) = quiet_if t (fits n k) [] (misfit k e) (told_none t) (quiet_misfit t k e)

pub quiet_unagreed : (t : ℕ) (want : Option Kind) (e : Expression) (k : Option Kind) → told t (unagreed want e k) ≡ 0
quiet_unagreed t want e k = quiet_unless t _ _ _

pub quiet_both : (t : ℕ) (a b : List Note) → told t a ≡ 0 → told t b ≡ 0 → told t (a ++ b) ≡ 0
quiet_both t a b h k = let e = told-append t a b in omega (arith, e, h, k)
