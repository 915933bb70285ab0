-- From run to run.
use Rattle.sharc_schedule.proofs.Imports.{◌≡◌, ℕ, suc, ◌+◌, List, ◌++◌, refl, subst, arith, Code, Shape, Turn, Going, Reached, Stepped, Followed}

pub stepped : (code : Code) (s : Shape) (limit t u : ℕ) (turns : List Turn) (going : Going) → t ≡ u → (r : Reached code s limit t turns going) → Stepped code s limit u turns (r.more ++ turns)
stepped code s limit t u turns going e r = subst (λ v. Stepped code s limit v turns (r.more ++ turns)) e record { more = r.more; own = r.own; is = refl; ends = r.ends }

pub once_more : (code : Code) (s : Shape) (limit : ℕ) (pick : ℕ → ℕ) (first before turns : List Turn) (n : ℕ) → Followed code s limit pick first n before → Stepped code s limit (pick n) before turns → Followed code s limit pick first (n + 1) turns
once_more code s limit pick first before turns n f g = subst (λ k. Followed code s limit pick first k turns) (let e : suc n ≡ n + 1 = omega arith in e) (before, f, g)
