-- What a new thread is handed.
use Rattle.sharc_accepted_laws.proofs.Imports.{◌≡◌, inl, inr, ℕ, zero, ◌==◌, Bool, true, false, cond, List, [], ◌∷◌, slice_get, refl, ap, sym, ◌∙◌, subst, arith, Option, Some, None, Contains, Declaration, Expression, argument, no_arguments, value, Named, Resolution, named_at, variable, passed, constant_use, argument_use, written, declared_row, modes_of, Sharing, locked, parameters_scope, context_in as in_function, Context, TypeLock, SomeNames, Global, Refers, Label, EntryMentions, HasCopy, AllSame, PassesLock, Passes, argument_type, AreCopies, ArgumentsFit, SpawnedBegin, register, lock_named, locks_at, variable_type, pointers, entry_named, ThreadsPass, none_some}
use Rattle.sharc_invariant.specs.Types.{Names}

-- ---- locks that name nothing of a frame
module _ (one other : Label) (k a r q : ℕ) where
  -- a lock of the source
  abbrev Stays : TypeLock → Type 0
  Stays y = ((p : ℕ) → Names p y → ⊥) → (x : TypeLock) → PassesLock one k a x y → PassesLock other r q x y

  global_stays : (j : ℕ) → Stays (Global j)
  global_stays j none (Global i) h = h
  global_stays j none _ h = absurd h

  lock_stays : (c : Context) (n : Named) (second : Option (List ℕ)) → Stays (lock_named c n second)
  lock_stays c (Named.Global g) second = global_stays _
  lock_stays c (Named.Variable x) (Some name) = λ none y h. absurd (none (register c x) refl)
  lock_stays c _ _ = global_stays 0

  all_stay : (c : Context) (modes : List Sharing) → ((p : ℕ) → SomeNames p (locks_at c modes) → ⊥) → (xs : List TypeLock) → AllSame (PassesLock one k a) xs (locks_at c modes) → AllSame (PassesLock other r q) xs (locks_at c modes)
  all_stay c [] none [] h = tt
  all_stay c [] none (x ∷ xs) h = absurd h
  all_stay c (locked l ∷ rest) none [] h = absurd h
  all_stay c (locked l ∷ rest) none (x ∷ xs) h = (lock_stays c (named_at c.program.typed l.first) l.second (λ p is. none p (inl is)) x h.0, all_stay c rest (λ p is. none p (inr is)) xs h.1)
  all_stay c (_ ∷ rest) none xs h = all_stay c rest none xs h

-- ---- the variable of the argument
abbrev variable_number : Named → ℕ
variable_number (Named.Variable y) = y
variable_number _ = 0

abbrev variable_at : Resolution → Option ℕ → ℕ
variable_at r None = 0
variable_at r (Some at) = variable_number (named_at r at)

only_use : (r : Resolution) (d : Declaration) (a : Expression) (x at : ℕ) → argument_use r (d ∷ []) (argument a no_arguments) x ≡ Some at → constant_use r a ≡ Some at
only_use r d a x at h = by (d.name.site.token == x) h
  where
    by : (b : Bool) → cond b (constant_use r a) None ≡ Some at → constant_use r a ≡ Some at
    by true h = h
    by false h = absurd (none_some at h)

-- a label where each register holds a copy of it
abbrev copied : Context → Expression → Label → Label
copied c a l = record l { same = λ q. register c (variable_at c.program.typed (constant_use c.program.typed a)) }

copies : (c : Context) (d : Declaration) (a : Expression) (l : Label) → AreCopies c (d ∷ []) (argument a no_arguments) (copied c a l) 0
copies c d a l x at y pointer used names held =
    let is : variable_at c.program.typed (constant_use c.program.typed a) ≡ y = ap (variable_at c.program.typed) (only_use c.program.typed d a x at used) ∙ ap variable_number names in
    HasCopy (ap (register c) is)

pub threads_pass : ArgumentsFit → SpawnedBegin → ThreadsPass
threads_pass arguments_fit spawned_begin c accepted n k g spawned at closed d one a call pointer l r q =
    subst (λ o. Passes l r q (Refers (argument_type c g.parameters (argument a no_arguments) d)) (entry_named inner o)) (sym first) (given.0, all_stay (copied c a l) l 0 0 r q inner modes nothing (argument_type c g.parameters (argument a no_arguments) d).locks given.1)
  where
    inner : Context
    inner = in_function c.program c.globals g

    modes : List Sharing
    modes = modes_of c.program (declared_row c.program.typed written d.name.site.token)

    first : slice_get (pointers (parameters_scope g.parameters)) 0 ≡ Some d.name.site.token
    first = ap (λ ds. slice_get (pointers (parameters_scope ds)) 0) one ∙ ap (λ b. slice_get (cond b (d.name.site.token ∷ []) []) 0) pointer

    nothing : (p : ℕ) → SomeNames p (locks_at inner modes) → ⊥
    nothing p is = (spawned_begin c.program accepted c.globals n k g spawned at closed).closed p (subst (λ o. EntryMentions (entry_named inner o) p) (sym first) is)

    has : Contains (passed g.parameters (argument a no_arguments)) record { receiver = variable d; source = value a }
    has = subst (λ ds. Contains (passed ds (argument a no_arguments)) record { receiver = variable d; source = value a }) (sym one) (zero, omega arith, refl)

    given : Passes (copied c a l) 0 0 (Refers (argument_type c g.parameters (argument a no_arguments) d)) (Refers (variable_type inner d.name.site.token))
    given =
        (arguments_fit c accepted g.parameters (argument a no_arguments) d a call has pointer).passes (copied c a l) 0 0
        (subst (λ ds. AreCopies c ds (argument a no_arguments) (copied c a l) 0) (sym one) (copies c d a l))
