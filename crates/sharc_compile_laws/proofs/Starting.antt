-- `main` and what is spawned may be started: they have one parameter at most, and their results are no references.
use Rattle.sharc_compile_laws.proofs.Imports.{◌≡◌, ℕ, ⊎_elim, length, sym, ap, ◌∙◌, subst, arith, Function, Spawns, HasMain, OneFunctionOfName, SpawnsThreads, Assignment, is_reference, MayStart, IsMainOf, ThreadsMayStart, ◌≤◌, Some, false, function_at, declared_kind}

may_by : (m : Assignment) (n : ℕ) (f : Function) → function_at m.typed n ≡ Some f → length f.parameters ≤ 1 → is_reference (declared_kind f.result) ≡ false → MayStart m n
may_by m n f at few plain = record { function = f; at = at; parameters = few; result = plain }

pub may_start : HasMain → OneFunctionOfName → SpawnsThreads → ThreadsMayStart
may_start main one spawned m resolved placed low f has =
    ⊎_elim
    (λ (named : IsMainOf m f).
    let k = main m.typed resolved placed low in
    let same : k.0 ≡ f = one m.typed resolved k.0 f k.1 named.0 k.2.at named.1 (k.2.name ∙ sym named.2) in
    let none = ap length k.2.parameters in
    subst (MayStart m) same (may_by m k.0 k.1 k.2.at (omega (arith, none)) (ap is_reference k.2.result)))
    (λ (s : (n : ℕ) × Spawns m.typed n f).
    let k = spawned m.typed resolved placed low s.0 f s.1 in
    let one = ap length k.1.parameters in
    may_by m f k.0 k.1.callable.at (omega (arith, one)) (ap is_reference k.1.result))
    has
