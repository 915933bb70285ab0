-- What is said before lines as a kind of knowledge.
use Rattle.sharc_typed_laws.proofs.{Imports.{ℕ, ◌≤◌, Less, Knowledge, Mark, Setting, Fits, IsLine}, Fitting.{fits_same, fits_through}, Preorder.less_through, Rules.{Plain, PlainNull, cleared, noted, on_skip, on_zero, on_null}}

abbrev pub marked : Setting → ℕ → Knowledge
marked z f = record {
  St = Mark;
  Fit = Fits z.targets;
  same = fits_same z.targets;
  through = fits_through z.targets;
  Own = λ q. q ≤ z.lines;
  Needs = IsLine z f;
  Far = λ s t. Less s.label t.label;
  far = λ s t h. h.less;
  far_through = λ s t u a b. less_through s.label t.label u.label a b.less;
  Plain = Plain z f;
  PlainNull = PlainNull z f;
  cleared = cleared;
  noted = noted;
  on_zero = on_zero z f;
  on_null = on_null z f;
  on_skip = on_skip z f;
}
