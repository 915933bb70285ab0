-- The list is that of the references, each once.
use Rattle.sharc_meaning_tests.proofs.{Imports.{◌≡◌, ◌↔◌, ℕ, true, List, Option, Some, None, refl, sym, ◌∙◌, rules, bytes_eq-Decides, IsTrue, codes, AllByRecursion, SourceEvent, Function, Resolution, IsResolved, globals_in, function_at, MeetsGlobal, MeetsGlobals, Assignment, ReferencesWith, SourceRun, SameLaws, FindsEntries, Holder, InCell, InArgument, InMutex, InThread, view_holder, IsListed, AreReferences, holders}, Complete.{cell_listed, mutex_listed, argument_listed, thread_listed}, Distinct.all_distinct, Sound.all_sound}

module _ (fuel : ℕ) (m : Assignment) (R : List SourceEvent) (n : ℕ) (same : SameLaws) (run : SourceRun m R) (one : FindsEntries m.typed) (each : AllByRecursion MeetsGlobal (globals_in m.typed.program.items)) where
  listed : (h : Holder) → ReferencesWith fuel m R n (view_holder h) → IsListed h (holders fuel m R n)
  listed (InCell c) h = cell_listed fuel m R n same each c h
  listed (InArgument thread) h = argument_listed fuel m R n same thread h
  listed (InMutex c) h = mutex_listed fuel m R n same c h.0 h.1
  listed (InThread thread which) h = thread_listed fuel m R n same run one thread which h

pub answers : (fuel : ℕ) (m : Assignment) (R : List SourceEvent) (n : ℕ) → SameLaws → MeetsGlobals → FindsEntries m.typed → IsResolved m.typed → SourceRun m R → AreReferences fuel m R n (holders fuel m R n)
answers fuel m R n same globals one resolved run =
    let each = globals m.typed.program resolved.typed in
    record { each = λ h. (all_sound fuel m R n run one same h, listed fuel m R n same run one each h); once = all_distinct fuel m R n same }
