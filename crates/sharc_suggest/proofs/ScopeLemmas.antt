-- What a statement declares lies above the variables that were in scope before it.
use Rattle.sharc_suggest.proofs.Imports.{◌≡◌, ℕ, ◌-◌, ◌≤◌, List, [], ◌∷◌, ◌++◌, length, drop, refl, ap, sym, ◌∙◌, arith, append_assoc, length-append, common_steps, Declaration, First, nothing, declares, does, Statement, empty, block, declare, simple, jump, return, if_then, if_then_else, while, for, Statements, no_statements, statement, Entry, behind_first, after, after_all, entry_of}

record Grows (new old : List Entry) : Type 0 where
  above : List Entry
  is : new ≡ above ++ old

same : (scope : List Entry) → Grows scope scope
same scope = record { above = []; is = refl }

one : (d : Declaration) (scope : List Entry) → Grows (entry_of d ∷ scope) scope
one d scope = record { above = entry_of d ∷ []; is = refl }

through : (a b c : List Entry) → Grows a b → Grows b c → Grows a c
through a b c ab bc = record { above = ab.above ++ bc.above; is = ab.is ∙ ap (λ l. ab.above ++ l) bc.is ∙ sym (append_assoc ab.above bc.above c) }

grows_first : (scope : List Entry) (first : First) → Grows (behind_first scope first) scope
grows_first scope nothing = same scope
grows_first scope (declares l) = one l.declaration scope
grows_first scope (does x) = same scope

grows_after : (scope : List Entry) (a : Statement) → Grows (after scope a) scope
grows_after scope (empty s) = same scope
grows_after scope (block s all) = same scope
grows_after scope (declare s l) = one l.declaration scope
grows_after scope (simple s x) = same scope
grows_after scope (jump s j) = same scope
grows_after scope (return s e) = same scope
grows_after scope (if_then s e a) = same scope
grows_after scope (if_then_else s e a b) = same scope
grows_after scope (while s e a) = same scope
grows_after scope (for s h a) = same scope

grows_all : (scope : List Entry) (all : Statements) → Grows (after_all scope all) scope
grows_all scope no_statements = same scope
grows_all scope (statement a rest) = through (after_all (after scope a) rest) (after scope a) scope (grows_all (after scope a) rest) (grows_after scope a)

drop_above : (above old : List Entry) → drop (length (above ++ old) - length old) (above ++ old) ≡ old
drop_above above old = grind (arith, common_steps)

longer : (new old : List Entry) → Grows new old → length old ≤ length new
longer new old g = omega (arith, ap length g.is, length-append g.above old)

left : (new old : List Entry) → Grows new old → drop (length new - length old) new ≡ old
left new old g = ap (λ l. drop (length l - length old) l) g.is ∙ drop_above g.above old

pub longer_first : (scope : List Entry) (first : First) → length scope ≤ length (behind_first scope first)
longer_first scope first = longer (behind_first scope first) scope (grows_first scope first)

pub left_first : (scope : List Entry) (first : First) (mark : ℕ) → mark ≡ length scope → drop (length (behind_first scope first) - mark) (behind_first scope first) ≡ scope
left_first scope first mark is = ap (λ m. drop (length (behind_first scope first) - m) (behind_first scope first)) is ∙ left (behind_first scope first) scope (grows_first scope first)

pub longer_after : (scope : List Entry) (a : Statement) → length scope ≤ length (after scope a)
longer_after scope a = longer (after scope a) scope (grows_after scope a)

pub longer_all : (scope : List Entry) (all : Statements) → length scope ≤ length (after_all scope all)
longer_all scope all = longer (after_all scope all) scope (grows_all scope all)

pub left_after : (scope : List Entry) (a : Statement) (mark : ℕ) → mark ≡ length scope → drop (length (after scope a) - mark) (after scope a) ≡ scope
left_after scope a mark is = ap (λ m. drop (length (after scope a) - m) (after scope a)) is ∙ left (after scope a) scope (grows_after scope a)

pub left_all : (scope : List Entry) (all : Statements) (mark : ℕ) → mark ≡ length scope → drop (length (after_all scope all) - mark) (after_all scope all) ≡ scope
left_all scope all mark is = ap (λ m. drop (length (after_all scope all) - m) (after_all scope all)) is ∙ left (after_all scope all) scope (grows_all scope all)
