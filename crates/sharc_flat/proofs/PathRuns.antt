-- A path of flat code is the beginning of what it makes of a list of answers.
use Rattle.sharc_flat.proofs.Imports.{◌≡◌, ℕ, ℤ, suc, ◌+◌, true, List, [], ◌∷◌, ◌++◌, length, refl, ap, ◌∙◌, arith, append_assoc, Flat, At, Turn, halts, turn, on_turn, exec, after, IsPath, may_go, at_after, asked_by, asked, PathsAreRuns}

one : (flat : Flat) (m : At) (t : Turn) (x : ℤ) (more : ℕ) (rest : List ℤ) → may_go t ≡ true → on_turn t (asked_by t x ++ rest) m (exec flat more) ≡ exec flat more rest (after m t x)
one flat m (halts o) x more rest e = absurd (cc)
one flat m _ x more rest e = refl

pub runs : PathsAreRuns
runs flat m [] path more rest = let e : 0 + more ≡ more = omega arith in ap (λ n. exec flat n rest m) e
runs flat m (x ∷ earlier) path more rest =
    let now = at_after flat m earlier in
    let t = turn flat now in
    let e : length (x ∷ earlier) + more ≡ length earlier + suc more = omega arith in
    ap (λ n. exec flat n ((asked flat m earlier ++ asked_by t x) ++ rest) m) e
    ∙ ap (λ l. exec flat (length earlier + suc more) l m) (append_assoc (asked flat m earlier) (asked_by t x) rest)
    ∙ runs flat m earlier path.0 (suc more) (asked_by t x ++ rest) ∙ one flat now t x more rest path.1
