-- The source that `make` writes, by its lines.
use Rattle.std.specs.{Prelude.{ℕ, List, [], ◌∷◌, ◌++◌, map, codes, decimal}, List.{flat_map, range_with_len}}

-- the text of these lines: each is ended by a newline
unfoldable pub text_of : List (List ℕ) → List ℕ
text_of lines = flat_map (λ line. line ++ codes "\n") lines

-- function i adds its number
unfoldable pub step_line : ℕ → List ℕ
step_line i = codes "int step" ++ decimal i ++ codes "(int v) { return v + " ++ decimal i ++ codes "; }"

-- the worker passes its value through function i
unfoldable pub call_line : ℕ → List ℕ
call_line i = codes "v = step" ++ decimal i ++ codes "(v);"

-- `main` starts thread k, which is given its number
unfoldable pub spawn_line : ℕ → List ℕ
spawn_line k = codes "int t" ++ decimal k ++ codes " = spawn(work, " ++ decimal k ++ codes ");"

-- `main` waits for thread k
unfoldable pub join_line : ℕ → List ℕ
join_line k = codes "join(t" ++ decimal k ++ codes ");"

-- 0 to n - 1, and 1 to 8
unfoldable pub step_numbers : ℕ → List ℕ
step_numbers n = range_with_len 0 n

unfoldable pub thread_numbers : List ℕ
thread_numbers = range_with_len 1 8

unfoldable pub globals : List (List ℕ)
globals = codes "mutex m;" ∷ codes "int locked(m) total;" ∷ []

unfoldable pub worker : ℕ → List (List ℕ)
worker n =
    codes "void work(int v) {" ∷ map call_line (step_numbers n)
    ++ codes "lock(&m);" ∷ codes "total = total + v;" ∷ codes "unlock(&m);" ∷ codes "}" ∷ []

unfoldable pub main_function : List (List ℕ)
main_function =
    codes "int main(void) {" ∷ map spawn_line thread_numbers ++ map join_line thread_numbers
    ++ codes "lock(&m);" ∷ codes "print(total);" ∷ codes "unlock(&m);" ∷ codes "return 0;" ∷ codes "}" ∷ []

-- the program with n functions
unfoldable pub source_of : ℕ → List ℕ
source_of n = text_of (globals ++ map step_line (step_numbers n) ++ worker n ++ main_function)
