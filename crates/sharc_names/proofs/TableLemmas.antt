-- The table of names agrees with its log.
use Rattle.sharc_names.proofs.Imports.{◌≡◌, ℕ, ◌-◌, ◌<◌, ◌≤◌, suc, length, drop, arith, Bool, true, false, cond, List, [], ◌∷◌, ◌++◌, reverse, refl, ap, sym, subst, ◌∙◌, Option, Some, reverse-append, Bor, lookup, bytes_eq, Binding, Shadow, Entry, look_up, view_bound, view_bounds, entries, in_scope, newest_of, table_at, HidesOlder, IsKept, same_name}

abbrev Table : Type 0
Table = List (Bor (List ℕ) × Option Binding)

reverse_push : (log : List Shadow) (s : Shadow) → reverse (log ++ s ∷ []) ≡ s ∷ reverse log
reverse_push log s = reverse-append log (s ∷ [])

pub in_scope_push : (log : List Shadow) (s : Shadow) → in_scope (log ++ s ∷ []) ≡ view_bound s.bound ∷ in_scope log
in_scope_push log s = ap entries (reverse_push log s)

newest_of_cond : (b : Bool) (w x : Option (Option Binding)) → newest_of (cond b w x) ≡ cond b (newest_of w) (newest_of x)
newest_of_cond true w x = refl
newest_of_cond false w x = refl

-- a table after a write: what `insert` ensures, read by bytes
abbrev pub Writes : List ℕ → Option Binding → Table → Table → Type 0
Writes name bound old new = (q : List ℕ) → lookup (λ k. bytes_eq q k.now) new ≡ cond (bytes_eq name q) (Some bound) (lookup (λ k. bytes_eq q k.now) old)

table_written : (name : List ℕ) (bound : Option Binding) (old new : Table) → Writes name bound old new → (q : List ℕ) → table_at new q ≡ cond (bytes_eq name q) (view_bounds bound) (table_at old q)
table_written name bound old new writes q = ap newest_of (writes q) ∙ newest_of_cond (bytes_eq name q) (Some bound) (lookup (λ k. bytes_eq q k.now) old)

pub kept_push : (log : List Shadow) (s : Shadow) (old new : Table) → IsKept log old → Writes s.bound.name.now (Some s.bound) old new → view_bounds s.hidden ≡ look_up (in_scope log) s.bound.name.now → IsKept (log ++ s ∷ []) new
kept_push log s old new kept writes hidden = record {
  newest = λ q.
      table_written s.bound.name.now (Some s.bound) old new writes q
      ∙ ap (cond (bytes_eq s.bound.name.now q) (Some (view_bound s.bound))) (kept.newest q)
      ∙ sym (ap (λ l. look_up l q) (in_scope_push log s));
  hides = subst HidesOlder (sym (reverse_push log s)) (hidden, kept.hides);
}

unwritten : (b : Bool) (e : Entry) (h x t : Option Entry) → (b ≡ true → h ≡ x) → t ≡ cond b (Some e) x → cond b h t ≡ x
unwritten true e h x t same is = same refl
unwritten false e h x t same is = is

pub kept_pop : (log : List Shadow) (s : Shadow) (old new : Table) → IsKept (log ++ s ∷ []) old → Writes s.bound.name.now s.hidden old new → IsKept log new
kept_pop log s old new kept writes =
    let hides : HidesOlder (s ∷ reverse log) = subst HidesOlder (reverse_push log s) kept.hides in
    record {
      newest = λ q.
          table_written s.bound.name.now s.hidden old new writes q
          ∙ unwritten (bytes_eq s.bound.name.now q) (view_bound s.bound) (view_bounds s.hidden) (look_up (in_scope log) q) (table_at old q)
          (λ e. hides.0 ∙ ap (look_up (in_scope log)) (same_name s.bound.name.now q e))
          (kept.newest q ∙ ap (λ l. look_up l q) (in_scope_push log s));
      hides = hides.1;
    }

dropped : (names : List Entry) (mark : ℕ) → mark < length names → (mark ≤ length (drop 1 names)) × (drop (length (drop 1 names) - mark) (drop 1 names) ≡ drop (length names - mark) names)
dropped [] mark below = absurd (omega arith)
dropped (e ∷ rest) mark below =
    let n : suc (length rest - mark) ≡ suc (length rest) - mark = omega arith in
    (omega arith, ap (λ k. drop k (e ∷ rest)) n)

-- one name less at the end of a block
pub one_dropped : (names left : List Entry) (mark : ℕ) → left ≡ drop 1 names → mark < length names → (mark ≤ length left) × (drop (length left - mark) left ≡ drop (length names - mark) names)
one_dropped names left mark is below = subst (λ l. (mark ≤ length l) × (drop (length l - mark) l ≡ drop (length names - mark) names)) (sym is) (dropped names mark below)
