-- Another register with a reference that is tested is another thread's, or a second one of the thread that tests.
use Rattle.sharc_wants_laws.proofs.Imports.{◌≡◌, ℕ, ◌+◌, ◌<◌, ◌⊎◌, inl, inr, Bool, true, false, List, [], reverse, if◌then◌else◌, refl, sym, ap, ◌∙◌, subst, arith, eq-eqb, eqb-true, ◌==◌, slice_index, SourceEvent, Assignment, events_of, Begun, in_thread, Code, TestSole, Shape, Machine, instr_at, ref, begun, Global, Turn, turns_of, CheckedRun, Erase, place_after, MayStart, IsConsistent, elements_before, founds_of, told_in, register_refers, is_freed, register_of, CastersHold, ThreadsSee, AreQuiet, HaveBegun, IsSeen, NoneIsInFlight, yes}

same_thread : (u t i j : ℕ) → in_thread u i ≡ in_thread t j → u ≡ t
same_thread u t i j h = cc

same_which : (u t i j : ℕ) → in_thread u i ≡ in_thread t j → i ≡ j
same_which u t i j h = cc

at_test : (code : Code) (at : Machine) (register site i : ℕ) → instr_at code at.at.pc ≡ TestSole register site → register_of code at i ≡ slice_index at.refs i
at_test code at register site i is = ap (λ j. if is_freed j at.own.stage at.at.refs i then 0 else slice_index at.refs i) is

module _ (m : Assignment) (code : Code) (see : ThreadsSee m code) (hold : CastersHold m code) (s : Shape) (run : List Turn) (checked : CheckedRun code s run)
    (consistent : (thread : ℕ) → IsConsistent code s (begun code s thread) (elements_before code s thread run) (founds_of (turns_of thread run)))
    (have : HaveBegun m (reverse (told_in (Erase code s run)))) (quiet : AreQuiet code (reverse (told_in (Erase code s run))) (place_after code s run)) where
  abbrev R : List SourceEvent
  R = reverse (told_in (Erase code s run))

  abbrev g : Global Machine
  g = place_after code s run

  module _ (t register site : ℕ) (tests : instr_at code (g.threads t).at.pc ≡ TestSole register site) (n : ℕ) (tested : ref (g.threads t) register ≡ n) (some : 0 < n)
      (rests : NoneIsInFlight m code s run R t n) (u i : ℕ) (apart : (u ≡ t) × (i ≡ (g.threads t).at.refs + register) → ⊥) (here : register_refers code g u i ≡ n) where
    nothing : events_of u R ≡ [] → ⊥
    nothing e = let none : 0 ≡ n = sym (quiet.registers u i e) ∙ here in omega (arith, none, some)

    others : (u ≡ t → ⊥) → (b : Begun m R u) × MayStart m b.own.function → IsSeen m R t n
    others ne b = record { holder = in_thread u 0; other = λ h. ne (same_thread u t 0 0 h); refers_there = see s run checked consistent u b.0 b.1 i n here some (rests u ne b.0) }

    own : (same : u ≡ t) → (b : Begun m R t) × MayStart m b.own.function → IsSeen m R t n
    own same b =
        let there : slice_index (g.threads t).refs i ≡ n = sym (at_test code (g.threads t) register site i tests) ∙ subst (λ v. register_refers code g v i ≡ n) same here in
        record {
          holder = in_thread t 1;
          other = λ h. let e : 1 ≡ 0 = same_which t t 1 0 h in omega (arith, e);
          refers_there = hold s run checked consistent t b.0 b.1 register site tests i ((g.threads t).at.refs + register) n (λ e. apart (same, e)) there tested some;
        }

    pub register_seen : IsSeen m R t n
    register_seen = by (u == t) refl (have u)
      where
        by : (b : Bool) → (u == t) ≡ b → (events_of u R ≡ []) ⊎ ((b : Begun m R u) × MayStart m b.own.function) → IsSeen m R t n
        by b e (inl none) = absurd (nothing none)
        by true e (inr k) = let same : u ≡ t = eqb-true u t e in own same (subst (λ v. (b : Begun m R v) × MayStart m b.own.function) same k)
        by false e (inr k) = others (λ same. yes (sym (eq-eqb u t same) ∙ e)) k
