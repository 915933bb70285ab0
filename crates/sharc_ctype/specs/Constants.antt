-- Constant variables: parameters and initialised locals that are never assigned.
use Rattle.std.specs.{Prelude.{◌≡◌, ℕ, ◌==◌, Bool, false, ◌&&◌, not, List}, List.list_any}
use Rattle.sharc_tree.specs.{Forms.without_parentheses, Tree.{Function, Item}}
use Rattle.sharc_names.specs.declared.fault.Named.{Named}
use Rattle.sharc_ctype.specs.Resolved.{Resolution, functions_in}
use Rattle.sharc_ctype.specs.Transfers.{Receiver, lvalue, variable, result, Transfer, function_transfers}
use Rattle.sharc_ctype.specs.Variables.{variable_of, all_with_value, all_assigned}

abbrev pub is_among : ℕ → List ℕ → Bool
is_among token = list_any (λ x. token == x)

-- whether the variable that this token declares is on the left of the `=` of an assignment, in parentheses or not
abbrev pub stands_left : Resolution → ℕ → Receiver → Bool
stands_left r token (lvalue u) = is_among token (variable_of r.named (without_parentheses u))
stands_left r token (variable d) = false
stands_left r token (result w) = false

abbrev pub is_assigned_by : Resolution → ℕ → Transfer → Bool
is_assigned_by r token t = stands_left r token t.receiver

abbrev pub is_assigned_in : Resolution → ℕ → Function → Bool
is_assigned_in r token f = list_any (is_assigned_by r token) (function_transfers r f)

abbrev pub is_assigned : Resolution → ℕ → Bool
is_assigned r token = list_any (is_assigned_in r token) (functions_in r.program.items)

-- whether that variable is constant: it begins with a value, and nothing assigns it another
abbrev pub is_constant : Resolution → ℕ → Bool
is_constant r token = is_among token (all_with_value r.program.items) && not (is_assigned r token)

-- a table of the variables that begin with a value and are not assigned
abbrev pub HasConstants : List Named → List Item → List ℕ → Type 0
HasConstants names items tokens = (token : ℕ)
    → is_among token tokens ≡ (is_among token (all_with_value items) && not (is_among token (all_assigned names items)))
