-- Where the mismatch is gone for which a cast was suggested, in the program with the cast written in it.
use Rattle.std.specs.{Prelude.{◌≡◌, ℕ, List, [], ◌∷◌, ◌++◌, Some}, List.filter}
use Rattle.sharc_tree.specs.Placed.{IsPlaced}
use Rattle.sharc_mode.specs.{declared.error.Cast.Cast, declared.error.ModeError.ModeError, Moded.{Assignment, IsWhole}}
use Rattle.sharc_mode.specs.{Sharings.Sharing, WellModed.AreModeErrors}
use Rattle.sharc_suggest_laws.specs.{Applied.{recast_of, assignment_with}, Givings.receiver_with}
use Rattle.sharc_suggest_laws.specs.Mismatches.{is_mismatch_at}
use Rattle.sharc_suggest.specs.{Casts.IsSuggested, Repairs.cast_to, Givings.{Giving, items_givings, wanted}}

-- no M1 is at this place
abbrev pub IsGone : Assignment → ℕ → Type 0
IsGone m token = (errors : List ModeError) → AreModeErrors m errors → filter (is_mismatch_at token) errors ≡ []

-- what a cast was suggested for: a giving of the program of which these modes are expected, and not found
pub record IsSuggestedFor (m : Assignment) (c : Cast) (g : Giving) (expected : List Sharing) : Type 0 where
  pub before : List Giving
  pub behind : List Giving
  pub given : items_givings m.typed.program.items ≡ before ++ g ∷ behind
  pub wants : wanted m g.receiver ≡ Some expected
  pub is : cast_to m g.given expected ≡ c

-- the same modes are expected of it with the cast written
abbrev pub IsExpectedAgain : Assignment → Cast → Giving → List Sharing → Type 0
IsExpectedAgain m c g expected =
    wanted (assignment_with c m) (receiver_with (recast_of m.typed c) g.receiver) ≡ Some expected

-- so it is gone where the same is expected
abbrev pub GoneWhereExpected : Type 0
GoneWhereExpected = (m : Assignment) (e : ModeError) (c : Cast) → IsWhole m → IsPlaced m.typed.program
    → IsSuggested m e (Some c)
    → (g : Giving) × (expected : List Sharing) × IsSuggestedFor m c g expected
    × (IsExpectedAgain m c g expected → IsGone (assignment_with c m) e.site.token)
