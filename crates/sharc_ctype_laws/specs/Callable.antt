-- What may be called and what may be spawned.
use Rattle.std.specs.Prelude.{◌≡◌, ℕ, [], ◌∷◌, Some, codes}
use Rattle.sharc_tree.specs.{declared.tree.declaration.Declaration.Declaration, Tree.Function}
use Rattle.sharc_names.specs.Kinds.{void, declared_kind}
use Rattle.sharc_ctype.specs.Resolved.{Resolution, function_at}

-- a function of the program that is not `main`: what may be called, and so what is reached
pub record IsCallable (r : Resolution) (n : ℕ) (f : Function) : Type 0 where
  pub at : function_at r n ≡ Some f
  pub not_main : f.name.text ≡ codes "main" → ⊥

-- what may be spawned: it gives nothing and has one parameter
pub record IsThread (r : Resolution) (n : ℕ) (f : Function) : Type 0 where
  pub callable : IsCallable r n f
  pub result : declared_kind f.result ≡ void
  pub parameter : Declaration
  pub parameters : f.parameters ≡ parameter ∷ []
