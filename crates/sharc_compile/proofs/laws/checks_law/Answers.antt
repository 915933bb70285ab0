use Rattle.sharc_compile.proofs.{Imports.{◌≡◌, ◌∙◌, ap, subst, sym, ℕ, Bool, slice_get, Some, None, true, Instr, flat_of, Program, source_at, Access, access_of, dropped}, Accessing.checked, Same.same}
use Rattle.sharc_guard.specs.Checked.{IsCheckedAt, IsNoTarget}
use Rattle.sharc_compile.proofs.laws.checks_law.Goals as goal

abbrev Each : (ℕ → Bool) → Program → Type 0
Each d p = (pc : ℕ) (i : Instr) (a : Access) → slice_get p.statements pc ≡ Some i → access_of i ≡ Some a → IsCheckedAt d p pc (source_at p a.site).mode a

abbrev Free : (ℕ → Bool) → Program → Type 0
Free d p = (pc : ℕ) (i : Instr) (a : Access) → slice_get p.statements pc ≡ Some i → access_of i ≡ Some a → d a.site ≡ true → IsNoTarget p pc

-- the first statement accesses nothing
abbrev First : Program → Type 0
First p = (i : Instr) (a : Access) → slice_get p.statements 0 ≡ Some i → access_of i ≡ Some a → ⊥

first : (i : Instr) (a : Access) → Some (Instr.Start 0) ≡ Some i → access_of i ≡ Some a → ⊥
first i a e is = let s : Instr.Start 0 ≡ i = cc in let z : None ≡ Some a = ap access_of s ∙ is in absurd (cc)

pub returns : goal.returns
returns c = λ flat code is.
    let d = dropped (flat_of flat) in
    let back = sym (same d flat is.g is.made) in
    checked d is.g code is.generated (subst First back first) (subst (Each d) back (c.checked_law.ensures.checked (flat_of flat) d)) (subst (Free d) back (c.checked_law.ensures.dropped (flat_of flat)))
