-- A thread that was refused at the check of an access, or at a test of a sole reference, stands there to the end of the
-- run.
use Rattle.std.specs.Prelude.{◌≡◌, ◌≢◌, ℕ, Bool, true, false, List, ◌∷◌, ◌++◌, slice_index}
use Rattle.sharc_code.specs.{declared.code.Code.Code, declared.instr.Instr.Instr}
use Rattle.sharc_code.specs.{declared.instr.Instr.TheVariants.{ChkRead, ChkWrite, TestSole}, declared.shape.Shape.Shape}
use Rattle.sharc_code.specs.{declared.state.Stop.Stop, declared.state.Stop.TheVariants.NotSole, Layout.count_word}
use Rattle.sharc_code.specs.{Machine.{Machine, instr_at, ref, stopped}, Path.may_go, Runs.Turn}
use Rattle.sharc_code.specs.Whole.{CheckedRun, place_after}

-- the thread of this turn, as it was before it
abbrev pub tester : Code → Shape → Turn → List Turn → Machine
tester code s test earlier = (place_after code s earlier).threads test.thread

-- ---- the check of an access
abbrev pub is_access_check : Instr → Bool
is_access_check (ChkRead cell site) = true
is_access_check (ChkWrite cell site) = true
is_access_check _ = false

-- where it stops the thread, nothing else of that changes, then and later
abbrev pub ChecksStay : Type 0
ChecksStay = (code : Code) (s : Shape) (later : List Turn) (check : Turn) (earlier : List Turn)
    → CheckedRun code s (later ++ check ∷ earlier)
    → is_access_check (instr_at code (tester code s check earlier).at.pc) ≡ true
    → may_go ((place_after code s (check ∷ earlier)).threads check.thread).at.state ≡ false
    → (stop : Stop) × ((place_after code s (later ++ check ∷ earlier)).threads check.thread
    ≡ stopped (tester code s check earlier) stop)

-- ---- the test of a sole reference
-- what the test of this register finds
abbrev pub count_found : Code → Shape → Turn → List Turn → ℕ → ℕ
count_found code s test earlier register =
    slice_index (place_after code s earlier).words (count_word s (ref (tester code s test earlier) register))

-- where that is not 1, so it is
abbrev pub TestsStay : Type 0
TestsStay = (code : Code) (s : Shape) (later : List Turn) (test : Turn) (earlier : List Turn)
    → CheckedRun code s (later ++ test ∷ earlier)
    → (register site : ℕ) → instr_at code (tester code s test earlier).at.pc ≡ TestSole register site
    → count_found code s test earlier register ≢ 1
    → (place_after code s (later ++ test ∷ earlier)).threads test.thread
    ≡ stopped (tester code s test earlier) (NotSole site (count_found code s test earlier register))
