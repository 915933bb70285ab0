-- A call's parameters and arguments, side by side.
use Rattle.sharc_mode.proofs.Imports.{◌≡◌, ◌≢◌, ℕ, ◌+◌, ◌<◌, ◌≤◌, ◌==◌, false, subst, arith, List, [], ◌∷◌, length, drop, get_or, refl, ap, sym, ◌∙◌, None, if◌then◌else◌, drop_all, nat_tests, Declaration, Expr, Expression, argument, no_arguments, view_arguments, Resolution, constant_use, argument_use}

no_arguments_left : (r : Resolution) (ds : List Declaration) (x : ℕ) → argument_use r ds (view_arguments []) x ≡ None
no_arguments_left r [] x = refl
no_arguments_left r (d ∷ ds) x = refl

-- none where the arguments, or the parameters, are used up
pub arguments_end : (r : Resolution) (ds : List Declaration) (list : List Expr) (i x : ℕ) → length list ≤ i → argument_use r ds (view_arguments (drop i list)) x ≡ None
arguments_end r ds list i x past = ap (λ l. argument_use r ds (view_arguments l) x) (drop_all i list past) ∙ no_arguments_left r ds x

-- a spawn has one argument
tail_none : (r : Resolution) (ds : List Declaration) (x : ℕ) → argument_use r ds no_arguments x ≡ None
tail_none r [] x = refl
tail_none r (d ∷ ds) x = refl

pub spawn_end : (r : Resolution) (ds : List Declaration) (d : Declaration) (v : Expression) (x : ℕ) → d ≡ get_or ds 0 d → d.name.site.token ≢ x → None ≡ argument_use r ds (argument v no_arguments) x
spawn_end r [] d v x is other = refl
spawn_end r (e ∷ rest) d v x is other =
    let P : Declaration → Type 0 = λ k. k.name.site.token ≢ x in
    let h : e.name.site.token ≢ x = subst P is other in
    let f : (e.name.site.token == x) ≡ false = grind (arith, nat_tests) in
    sym (ap (λ b. if b then constant_use r v else argument_use r rest no_arguments x) f ∙ tail_none r rest x)
