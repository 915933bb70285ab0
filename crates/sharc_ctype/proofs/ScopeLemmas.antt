-- What a statement declares lies above the names that were in scope before it.
use Rattle.sharc_ctype.proofs.Imports.{◌≡◌, ℕ, ◌-◌, ◌≤◌, Bool, true, false, cond, List, [], ◌∷◌, ◌++◌, length, drop, refl, ap, sym, ◌∙◌, arith, append_assoc, length-append, common_steps, Declaration, First, nothing, declares, does, Statement, empty, block, declare, simple, jump, return, if_then, if_then_else, while, for, Statements, no_statements, statement, Entry, variable, Around, is_here, behind_first, after, after_all, with_parameters}
use Rattle.sharc_ctype.specs.Statements.{declared}

record Grows (new old : List Entry) : Type 0 where
  above : List Entry
  is : new ≡ above ++ old

same : (scope : List Entry) → Grows scope scope
same scope = record { above = []; is = refl }

through : (a b c : List Entry) → Grows a b → Grows b c → Grows a c
through a b c ab bc = record { above = ab.above ++ bc.above; is = ab.is ∙ ap (λ l. ab.above ++ l) bc.is ∙ sym (append_assoc ab.above bc.above c) }

either : (b : Bool) (e : Entry) (scope : List Entry) → Grows (cond b scope (e ∷ scope)) scope
either true e scope = same scope
either false e scope = record { above = e ∷ []; is = refl }

grows_declared : (n : ℕ) (d : Declaration) (scope : List Entry) → Grows (declared n d scope) scope
grows_declared n d scope = either (is_here n scope d) (record { name = d.name.text; block = n; meaning = variable d }) scope

grows_first : (around : Around) (scope : List Entry) (first : First) → Grows (behind_first around scope first) scope
grows_first around scope nothing = same scope
grows_first around scope (declares l) = grows_declared around.block l.declaration scope
grows_first around scope (does x) = same scope

grows_after : (around : Around) (scope : List Entry) (a : Statement) → Grows (after around scope a) scope
grows_after around scope (empty s) = same scope
grows_after around scope (block s all) = same scope
grows_after around scope (declare s l) = grows_declared around.block l.declaration scope
grows_after around scope (simple s x) = same scope
grows_after around scope (jump s j) = same scope
grows_after around scope (return s e) = same scope
grows_after around scope (if_then s e a) = same scope
grows_after around scope (if_then_else s e a b) = same scope
grows_after around scope (while s e a) = same scope
grows_after around scope (for s h a) = same scope

grows_all : (around : Around) (scope : List Entry) (all : Statements) → Grows (after_all around scope all) scope
grows_all around scope no_statements = same scope
grows_all around scope (statement a rest) = through (after_all around (after around scope a) rest) (after around scope a) scope (grows_all around (after around scope a) rest) (grows_after around scope a)

grows_parameters : (n : ℕ) (scope : List Entry) (list : List Declaration) → Grows (with_parameters n scope list) scope
grows_parameters n scope [] = same scope
grows_parameters n scope (d ∷ rest) = through (with_parameters n (declared n d scope) rest) (declared n d scope) scope (grows_parameters n (declared n d scope) rest) (grows_declared n d scope)

drop_above : (above old : List Entry) → drop (length (above ++ old) - length old) (above ++ old) ≡ old
drop_above above old = grind (arith, common_steps)

longer : (new old : List Entry) → Grows new old → length old ≤ length new
longer new old g = omega (arith, ap length g.is, length-append g.above old)

left : (new old : List Entry) → Grows new old → drop (length new - length old) new ≡ old
left new old g = ap (λ l. drop (length l - length old) l) g.is ∙ drop_above g.above old

pub longer_first : (around : Around) (scope : List Entry) (first : First) → length scope ≤ length (behind_first around scope first)
longer_first around scope first = longer (behind_first around scope first) scope (grows_first around scope first)

pub left_first : (around : Around) (scope : List Entry) (first : First) (mark : ℕ) → mark ≡ length scope → drop (length (behind_first around scope first) - mark) (behind_first around scope first) ≡ scope
left_first around scope first mark is = ap (λ m. drop (length (behind_first around scope first) - m) (behind_first around scope first)) is ∙ left (behind_first around scope first) scope (grows_first around scope first)

pub longer_after : (around : Around) (scope : List Entry) (a : Statement) → length scope ≤ length (after around scope a)
longer_after around scope a = longer (after around scope a) scope (grows_after around scope a)

pub longer_all : (around : Around) (scope : List Entry) (all : Statements) → length scope ≤ length (after_all around scope all)
longer_all around scope all = longer (after_all around scope all) scope (grows_all around scope all)

pub left_after : (around : Around) (scope : List Entry) (a : Statement) (mark : ℕ) → mark ≡ length scope → drop (length (after around scope a) - mark) (after around scope a) ≡ scope
left_after around scope a mark is = ap (λ m. drop (length (after around scope a) - m) (after around scope a)) is ∙ left (after around scope a) scope (grows_after around scope a)

pub left_all : (around : Around) (scope : List Entry) (all : Statements) (mark : ℕ) → mark ≡ length scope → drop (length (after_all around scope all) - mark) (after_all around scope all) ≡ scope
left_all around scope all mark is = ap (λ m. drop (length (after_all around scope all) - m) (after_all around scope all)) is ∙ left (after_all around scope all) scope (grows_all around scope all)

grows_body : (around : Around) (n : ℕ) (scope : List Entry) (list : List Declaration) (all : Statements) → Grows (after_all around (with_parameters n scope list) all) scope
grows_body around n scope list all =
    through (after_all around (with_parameters n scope list) all) (with_parameters n scope list) scope (grows_all around (with_parameters n scope list) all) (grows_parameters n scope list)

pub longer_body : (around : Around) (n : ℕ) (scope : List Entry) (list : List Declaration) (all : Statements) → length scope ≤ length (after_all around (with_parameters n scope list) all)
longer_body around n scope list all = longer (after_all around (with_parameters n scope list) all) scope (grows_body around n scope list all)

pub left_body : (around : Around) (n : ℕ) (scope : List Entry) (list : List Declaration) (all : Statements) (mark : ℕ) → mark ≡ length scope → drop (length (after_all around (with_parameters n scope list) all) - mark) (after_all around (with_parameters n scope list) all) ≡ scope
left_body around n scope list all mark is = ap (λ m. drop (length (after_all around (with_parameters n scope list) all) - m) (after_all around (with_parameters n scope list) all)) is ∙ left (after_all around (with_parameters n scope list) all) scope (grows_body around n scope list all)
