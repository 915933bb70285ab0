-- What the functions of a program name as a global is one of it.
use Rattle.sharc_accepted_laws.proofs.{Imports.{◌≡◌, ℕ, ◌<◌, length, sym, ◌∙◌, subst, AllByRecursion, Span, Identifier, in_function, identifier, Named, Kind, Resolution, globals_in, functions_in, kind_at, named_at, HasType, a_variable, a_global, a_function, MeetsConstraints, GlobalsAreNamed, of_each, below_there}, Alone.{no_callee, number_of as same_global}}

global_low : (r : Resolution) (s : Span) (i : Identifier) (k : Kind) → HasType r (identifier s i) k → (g : ℕ) → named_at r i.site.token ≡ Named.Global g → g < length (globals_in r.program.items)
global_low r s i _ (a_variable {token = token} is at spelled) g names = absurd (cc (sym is ∙ names))
global_low r s i _ (a_global {n = n} {g = d} is at spelled) g names = subst (λ k. k < length (globals_in r.program.items)) (same_global n g (sym is ∙ names)) (below_there (globals_in r.program.items) n d at)
global_low r s i _ (a_function q) g names = absurd (no_callee r i _ _ g q names)

pub globals_named : MeetsConstraints → GlobalsAreNamed
globals_named constraints m a s i x g names =
    global_low m.typed s i (kind_at m.typed (identifier s i))
    (of_each (λ e. HasType m.typed e (kind_at m.typed e)) (in_function x.owner) (identifier s i)
    (of_each (λ f. AllByRecursion (λ e. HasType m.typed e (kind_at m.typed e)) (in_function f)) (functions_in m.typed.program.items) x.owner (constraints m.typed a.resolved a.placed a.low) x.stands) x.inside) g names
