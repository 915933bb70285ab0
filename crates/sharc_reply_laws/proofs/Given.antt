-- Where a test of a sole reference was refused, the source wants to give or to free the object that was tested.
use Rattle.sharc_reply_laws.proofs.{Imports.{◌≡◌, ℕ, ◌⊎◌, inl, inr, List, [], ◌∷◌, sym, ap, ◌∙◌, subst, arith, slice_index, SourceEvent, AreOneByName, function_at, Assignment, events_of, History, number_of, Begun, IsNamedAt, Code, Instr, Shape, NotSole, count_word, Machine, instr_at, ref, stopped, begun, Turn, turns_of, CheckedRun, place_after, MayStart, IsConsistent, elements_before, founds_of, Targets, Labels, history_of, FindsOthers, TestersGive, WantsReported, TestsStay, count_found, object_tested}, Telling.{from_first, head_eq, some}}

-- ---- the thread stands at its test to the end
module _ (tests : TestsStay) (x : Targets) (code : Code) (s : Shape) (ls : Labels) (run : List Turn) (checked : CheckedRun code s run) (t site count : ℕ) (f : FindsOthers x code s ls run t site count) where
  abbrev before : Machine
  before = (place_after code s f.earlier).threads t

  two : (found : ℕ) → found ≡ count → found ≡ 1 → ⊥
  two found is one = let some = f.counts.some in omega (arith, is, one, some)

  -- of the thread of the turn
  of_turn : (u : ℕ) → f.test.thread ≡ u → instr_at code ((place_after code s f.earlier).threads u).at.pc ≡ Instr.TestSole f.register site
      → slice_index (place_after code s f.earlier).words (count_word s (ref ((place_after code s f.earlier).threads u) f.register)) ≡ count
      → (found : ℕ) × ((place_after code s run).threads u ≡ stopped ((place_after code s f.earlier).threads u) (NotSole site found))
  of_turn u own is word =
      let here = subst (λ v. instr_at code ((place_after code s f.earlier).threads v).at.pc ≡ Instr.TestSole f.register site) (sym own) is in
      let found : count_found code s f.test f.earlier f.register ≡ count = subst (λ v. slice_index (place_after code s f.earlier).words (count_word s (ref ((place_after code s f.earlier).threads v) f.register)) ≡ count) (sym own) word in
      let stays = tests code s f.later f.test f.earlier (subst (CheckedRun code s) f.parts checked) f.register site here (two (count_found code s f.test f.earlier f.register) found) in
      let at_end = subst (λ (l : List Turn). (place_after code s l).threads f.test.thread ≡ stopped ((place_after code s f.earlier).threads f.test.thread) (NotSole site (count_found code s f.test f.earlier f.register))) (sym f.parts) stays in
      (count_found code s f.test f.earlier f.register, subst (λ v. (place_after code s run).threads v ≡ stopped ((place_after code s f.earlier).threads v) (NotSole site (count_found code s f.test f.earlier f.register))) own at_end)

  stands : (found : ℕ) × ((place_after code s run).threads t ≡ stopped before (NotSole site found))
  stands = of_turn t f.thread f.is_test f.counts.word

  pub is_test : instr_at code ((place_after code s run).threads t).at.pc ≡ Instr.TestSole f.register site
  is_test = ap (λ (y : Machine). instr_at code y.at.pc) stands.1 ∙ f.is_test

  pub same_object : ref ((place_after code s run).threads t) f.register ≡ object_tested f
  same_object = ap (λ (y : Machine). ref y f.register) stands.1

-- ---- what the source wants there
module _ (m : Assignment) (names : AreOneByName m.typed) (code : Code) (s : Shape) (run : List Turn) (t site count : ℕ) (w : WantsReported m code (history_of code s run) t (NotSole site count)) where
  abbrev R : History
  R = history_of code s run

  abbrev b : Begun m R t
  b = record { fuel = w.stands.fuel; own = w.stands.own }

  -- its function may be started
  may_start : (events_of t R ≡ []) ⊎ ((k : Begun m R t) × MayStart m k.own.function) → MayStart m w.stands.own.function
  may_start (inl none) =
      let own = w.stands.own in
      absurd (some own.begins (events_of t own.after) (sym none ∙ from_first t R own.before own.after own.begins own.stands own.own own.first))
  may_start (inr k) =
      let own = w.stands.own in
      let other = k.0.own in
      let both : own.begins ∷ events_of t own.after ≡ other.begins ∷ events_of t other.after = sym (from_first t R own.before own.after own.begins own.stands own.own own.first)
      ∙ from_first t R other.before other.after other.begins other.stands other.own other.first in
      let begins : own.begins ≡ other.begins = head_eq own.begins other.begins (events_of t own.after) (events_of t other.after) both in
      let function : own.function ≡ other.function =
      names own.function other.function own.begins.site own.site (subst (λ (d : SourceEvent). IsNamedAt (function_at m.typed other.function) d.site) (sym begins) other.site)
      in
      subst (MayStart m) (sym function) k.1

  pub given_is : TestersGive m code → CheckedRun code s run
      → ((thread : ℕ) → IsConsistent code s (begun code s thread) (elements_before code s thread run) (founds_of (turns_of thread run)))
      → (events_of t R ≡ []) ⊎ ((k : Begun m R t) × MayStart m k.own.function)
      → (register : ℕ) → instr_at code ((place_after code s run).threads t).at.pc ≡ Instr.TestSole register site → number_of w.refused.0 ≡ ref ((place_after code s run).threads t) register
  given_is gives checked consistent have register is =
      gives s run checked consistent t b (may_start have) register site is w.stands.fuel _ w.refused.0 (ap (λ a. a.outcome) w.stands.is ∙ w.wanted) w.refused.1
