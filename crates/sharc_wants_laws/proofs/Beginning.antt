-- A thread of a checked run begins with the function that its name says, which is main or one that some function spawns.
use Rattle.sharc_wants_laws.proofs.{Imports.{◌≡◌, ℕ, ◌<◌, inl, inr, List, Option, refl, sym, ◌∙◌, subst, ⊎_elim, IsTrue, codes, length, bytes_eq, Function, Spawns, function_at, NameThemselves, Assignment, History, Begun, IsNamedAt, IsSpawned, is_named_main, Code, function_of, MayStart, IsMainOf, HasThread, TellsIn, IsOfMain, IsSpawnedByCode, IsStartedBy, BeginsByRight, follows_with}, Seeing.same_function}

main_is : (m : Assignment) (n : ℕ) → IsMainOf m n → IsTrue (is_named_main (function_at m.typed n))
main_is m n is = subst (λ (o : Option Function). IsTrue (is_named_main o)) (sym is.1) (subst (λ (text : List ℕ). IsTrue (bytes_eq text (codes "main"))) (sym is.2) refl)

module _ (m : Assignment) (code : Code) (names : NameThemselves m.typed) (main : IsMainOf m code.main)
    (named_code : (f : ℕ) → f < length code.functions.items → IsNamedAt (function_at m.typed f) (function_of code f).site)
    (spawned : (f : ℕ) → IsSpawnedByCode code f → (n : ℕ) × Spawns m.typed n f) (may_start : (f : ℕ) → HasThread m f → MayStart m f)
    (R : History) (thread : ℕ) (tells : TellsIn m R thread) (started : IsStartedBy code tells.before tells.begins tells.argument) where
  -- the function of the code is that of the source
  same : started.function ≡ tells.function
  same = same_function m.typed names started.function tells.function (function_of code started.function).site (named_code started.function started.known) (subst (IsNamedAt (function_at m.typed tells.function)) started.site tells.site)

  pub begins_by_right : BeginsByRight m tells.before thread tells.function tells.argument
  begins_by_right = record {
    may = subst (MayStart m) same (may_start started.function (⊎_elim
        (λ (e : started.function ≡ code.main). inl (subst (IsMainOf m) (sym e) main))
        (λ (k : IsSpawnedByCode code started.function). inr (spawned started.function k))
        started.begins));
    right = ⊎_elim
        (λ (k : IsOfMain code tells.begins.thread started.function tells.argument). inl (record {
          first = sym tells.own ∙ k.first;
          main = main_is m tells.function (subst (IsMainOf m) (sym k.main ∙ same) main);
          nothing = k.nothing;
        }))
        (λ (k : IsSpawned tells.before tells.begins.thread started.function tells.argument).
        inr (subst (λ f. IsSpawned tells.before thread f tells.argument) same (subst (λ t. IsSpawned tells.before t started.function tells.argument) tells.own k)))
        started.right;
  }

pub has_begun : (m : Assignment) (R : History) (thread : ℕ) (tells : TellsIn m R thread) → BeginsByRight m tells.before thread tells.function tells.argument → (b : Begun m R thread) × MayStart m b.own.function
has_begun m R thread tells begins = let asked = tells.asked begins.may in (record { fuel = asked.0; own = follows_with m R thread tells begins asked.0 asked.1 }, begins.may)
