use Rattle.sharc_flatten.proofs.Imports.{◌≡◌, ℕ, List, ◌++◌, length, take, drop, functions_in, names_of, AreNamed, Grows}
use Rattle.sharc_flatten.proofs.texts.lay_names.Given as goal

abbrev pub invariant-loop-number : goal.invariant-loop-number
invariant-loop-number l = record {
  grows : Grows l.initial.bytes.items l.bytes.items;
  size : length l.rows.items ≡ length l.initial.rows.items;
  left : drop l.number l.rows.items ≡ drop l.number l.initial.rows.items;
  named : (more : List ℕ) → AreNamed (l.bytes.items ++ more) (take l.number l.initial.rows.items) (take l.number (names_of (functions_in l.typed.program.items))) (take l.number l.rows.items);
}
