-- The first function called main, one function after the other.
use Rattle.std.proofs.{Common.{◌≡◌, ℕ, zero, suc, ◌+◌, true, false, List, [], ◌∷◌, drop, Option, Some, None, refl, ap, sym, ◌∙◌, add-one}, lemmas.Slice.Eq.bytes_eq-Decides}
use Rattle.std.specs.{Prelude.{IsTrue, codes, if◌then◌else◌, slice_get}, Str.bytes_eq}
use Rattle.sharc_tree.specs.Tree.{Function}
use Rattle.sharc_ctype.specs.Resolved.{IsResolved, Resolution, function_at}
use Rattle.sharc_ctype_laws.specs.Laws.{OneFunctionOfName}
use Rattle.sharc_meaning.specs.Runs.{is_named_main}
use Rattle.sharc_judge.specs.Starting.{main_from}

-- one function at most is called main
abbrev pub OneMain : Resolution → Type 0
OneMain r = (f g : ℕ) → IsTrue (is_named_main (function_at r f)) → IsTrue (is_named_main (function_at r g)) → f ≡ g

pub main_end : (k n : ℕ) (fs : List Function) → slice_get fs n ≡ None → main_from k (drop n fs) ≡ None
main_end k zero (f ∷ fs) h = absurd (cc)
main_end k (suc n) (f ∷ fs) h = main_end k n fs h
main_end k zero [] h = refl
main_end k (suc n) [] h = refl

pub main_here : (k n : ℕ) (fs : List Function) (f : Function) → slice_get fs n ≡ Some f → (a b : List ℕ) → a ≡ f.name.text → b ≡ codes "main" → bytes_eq a b ≡ true → main_from k (drop n fs) ≡ Some k
main_here k zero (g ∷ fs) f h a b i j e =
    let same : g ≡ f = cc in
    ap (λ z. if z then Some k else main_from (k + 1) fs) (ap (λ (z : Function). bytes_eq z.name.text (codes "main")) same ∙ ap (λ z. bytes_eq z (codes "main")) (sym i) ∙ ap (bytes_eq a) (sym j) ∙ e)
main_here k (suc n) (g ∷ fs) f h a b i j e = main_here k n fs f h a b i j e
main_here k zero [] f h a b i j e = absurd (cc)
main_here k (suc n) [] f h a b i j e = absurd (cc)

pub main_on : (k n : ℕ) (fs : List Function) (f : Function) → slice_get fs n ≡ Some f → (a b : List ℕ) → a ≡ f.name.text → b ≡ codes "main" → bytes_eq a b ≡ false → main_from k (drop n fs) ≡ main_from (k + 1) (drop (n + 1) fs)
main_on k zero (g ∷ fs) f h a b i j e =
    let same : g ≡ f = cc in
    ap (λ z. if z then Some k else main_from (k + 1) fs) (ap (λ (z : Function). bytes_eq z.name.text (codes "main")) same ∙ ap (λ z. bytes_eq z (codes "main")) (sym i) ∙ ap (bytes_eq a) (sym j) ∙ e)
main_on k (suc n) (g ∷ fs) f h a b i j e = main_on k n fs f h a b i j e ∙ ap (λ z. main_from (k + 1) z) (further n)
  where
    further : (n : ℕ) → drop (n + 1) fs ≡ drop (suc n + 1) (g ∷ fs)
    further n = rw (add-one, add-one) refl
main_on k zero [] f h a b i j e = absurd (cc)
main_on k (suc n) [] f h a b i j e = absurd (cc)

-- a typed program has one
called_main : (f : Function) → bytes_eq f.name.text (codes "main") ≡ true → f.name.text ≡ codes "main"
called_main f h = (bytes_eq-Decides f.name.text (codes "main")).0 h

pub one_main : OneFunctionOfName → (r : Resolution) → IsResolved r → OneMain r
one_main law r h f g a b = by_case (function_at r f) refl (function_at r g) refl a b
  where
    by_case : (o : Option Function) → function_at r f ≡ o → (q : Option Function) → function_at r g ≡ q → IsTrue (is_named_main o) → IsTrue (is_named_main q) → f ≡ g
    by_case None i q j a b = absurd (cc)
    by_case (Some x) i None j a b = absurd (cc)
    by_case (Some x) i (Some y) j a b = law r h f g x y i j (called_main x a ∙ sym (called_main y b))
