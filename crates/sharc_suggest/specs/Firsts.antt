-- A table of the first cast at each token. It retraces the code.
use Rattle.std.specs.{Prelude.{◌≡◌, ℕ, ◌==◌, List, Option, Some, None, if◌then◌else◌}, Borrow.Bor, Map.lookup}
use Rattle.sharc_mode.specs.{declared.error.Cast.Cast, Errors.is_mismatch, declared.error.ModeError.ModeError}
use Rattle.sharc_suggest.specs.Casts.{cast_at}

abbrev pub CastRows : Type 0
CastRows = List (ℕ × Bor Cast)

abbrev pub seen : Option (Bor Cast) → Option Cast
seen None = None
seen (Some c) = Some c.now

abbrev pub row_at : CastRows → ℕ → Option Cast
row_at rows token = seen (lookup (λ k. token == k) rows)

abbrev pub HasFirst : List Cast → CastRows → Type 0
HasFirst casts rows = (token : ℕ) → row_at rows token ≡ cast_at casts token

abbrev pub row_for : CastRows → ModeError → Option Cast
row_for rows e = if is_mismatch e.code then row_at rows e.site.token else None
