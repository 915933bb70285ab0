-- The text of lines, line after line.
use Rattle.sharc_load.proofs.Imports.{◌≡◌, ℕ, ◌+◌, List, [], ◌∷◌, ◌++◌, map, codes, decimal, refl, sym, ap, ◌∙◌, append_assoc, append-nil, flat_map-append, map-range_with_len_more, range_with_len, text_of, step_line, call_line, spawn_line, join_line, step_numbers, thread_numbers, globals, worker, main_function, source_of}

text_of-append : (a b : List (List ℕ)) → text_of (a ++ b) ≡ text_of a ++ text_of b
unfolding text_of
text_of-append a b = flat_map-append (λ line. line ++ codes "\n") a b

text_of-cons : (line : List ℕ) (lines : List (List ℕ)) → text_of (line ∷ lines) ≡ (line ++ codes "\n") ++ text_of lines
unfolding text_of
text_of-cons line lines = refl

text_of-nil : text_of [] ≡ []
unfolding text_of
text_of-nil = refl

-- one line more
text_of_numbered_more : (f : ℕ → List ℕ) (from n k : ℕ) → from + n ≡ k → text_of (map f (range_with_len from (n + 1))) ≡ text_of (map f (range_with_len from n)) ++ (f k ++ codes "\n")
text_of_numbered_more f from n k is =
    ap text_of (map-range_with_len_more f from n k is) ∙ text_of-append (map f (range_with_len from n)) (f k ∷ [])
    ∙ ap (λ t. text_of (map f (range_with_len from n)) ++ t) (text_of-cons (f k) [] ∙ ap (λ t. (f k ++ codes "\n") ++ t) text_of-nil ∙ append-nil (f k ++ codes "\n"))

-- a loop that writes one numbered line after another
pub next_line : (f : ℕ → List ℕ) (from n m k : ℕ) (old now next line : List ℕ) → from + n ≡ k → m ≡ n + 1 → now ≡ old ++ text_of (map f (range_with_len from n)) → next ≡ now ++ line → line ≡ f k ++ codes "\n" → next ≡ old ++ text_of (map f (range_with_len from m))
next_line f from n m k old now next line number count so_far written is =
    written ∙ ap (λ t. t ++ line) so_far ∙ append_assoc old (text_of (map f (range_with_len from n))) line
    ∙ ap (λ t. old ++ t) (ap (λ t. text_of (map f (range_with_len from n)) ++ t) is ∙ sym (text_of_numbered_more f from n k number) ∙ ap (λ j. text_of (map f (range_with_len from j))) (sym count))

-- each line as one write gives it
pub step_line_is : (i : ℕ) → codes "int step" ++ (decimal i ++ (codes "(int v) { return v + " ++ (decimal i ++ codes "; }\n"))) ≡ step_line i ++ codes "\n"
unfolding step_line
step_line_is i = simp append_assoc

pub call_line_is : (i : ℕ) → codes "v = step" ++ (decimal i ++ codes "(v);\n") ≡ call_line i ++ codes "\n"
unfolding call_line
call_line_is i = simp append_assoc

pub spawn_line_is : (k : ℕ) → codes "int t" ++ (decimal k ++ (codes " = spawn(work, " ++ (decimal k ++ codes ");\n"))) ≡ spawn_line k ++ codes "\n"
unfolding spawn_line
spawn_line_is k = simp append_assoc

pub join_line_is : (k : ℕ) → codes "join(t" ++ (decimal k ++ codes ");\n") ≡ join_line k ++ codes "\n"
unfolding join_line
join_line_is k = simp append_assoc

-- nothing is written yet
pub no_line : (f : ℕ → List ℕ) (from : ℕ) (old : List ℕ) → old ≡ old ++ text_of (map f (range_with_len from 0))
no_line f from old = sym (ap (λ t. old ++ t) text_of-nil ∙ append-nil old)

three : (a b c : List (List ℕ)) → text_of (a ++ b ++ c) ≡ text_of a ++ (text_of b ++ text_of c)
three a b c = text_of-append (a ++ b) c ∙ ap (λ t. t ++ text_of c) (text_of-append a b) ∙ append_assoc (text_of a) (text_of b) (text_of c)

four : (a b c d : List (List ℕ)) → text_of (a ++ b ++ c ++ d) ≡ text_of a ++ (text_of b ++ (text_of c ++ text_of d))
four a b c d = three (a ++ b) c d ∙ ap (λ t. t ++ (text_of c ++ text_of d)) (text_of-append a b) ∙ append_assoc (text_of a) (text_of b) (text_of c ++ text_of d)

regroup : (a b c rest : List ℕ) → (a ++ (b ++ c)) ++ rest ≡ a ++ (b ++ (c ++ rest))
regroup a b c rest = simp append_assoc

-- how the worker and `main` end
worker_end : List (List ℕ)
worker_end = codes "lock(&m);" ∷ codes "total = total + v;" ∷ codes "unlock(&m);" ∷ codes "}" ∷ []

main_end : List (List ℕ)
main_end = codes "lock(&m);" ∷ codes "print(total);" ∷ codes "unlock(&m);" ∷ codes "return 0;" ∷ codes "}" ∷ []

parts : (steps calls spawns joins : List (List ℕ)) → text_of (globals ++ steps ++ (codes "void work(int v) {" ∷ calls ++ worker_end) ++ (codes "int main(void) {" ∷ spawns ++ joins ++ main_end)) ≡ text_of globals ++ (text_of steps ++ (text_of (codes "void work(int v) {" ∷ []) ++ (text_of calls ++ (text_of worker_end ++ (text_of (codes "int main(void) {" ∷ []) ++ (text_of spawns ++ (text_of joins ++ text_of main_end)))))))
parts steps calls spawns joins =
    four globals steps (codes "void work(int v) {" ∷ calls ++ worker_end) (codes "int main(void) {" ∷ spawns ++ joins ++ main_end)
    ∙ ap (λ t. text_of globals ++ (text_of steps ++ (t ++ text_of (codes "int main(void) {" ∷ spawns ++ joins ++ main_end)))) (three (codes "void work(int v) {" ∷ []) calls worker_end)
    ∙ ap (λ t. text_of globals ++ (text_of steps ++ t)) (regroup (text_of (codes "void work(int v) {" ∷ [])) (text_of calls) (text_of worker_end) (text_of (codes "int main(void) {" ∷ spawns ++ joins ++ main_end)))
    ∙ ap (λ t. text_of globals ++ (text_of steps ++ (text_of (codes "void work(int v) {" ∷ []) ++ (text_of calls ++ (text_of worker_end ++ t))))) (four (codes "int main(void) {" ∷ []) spawns joins main_end)

-- the program in pieces, as it is written
pub source_of_pieces : (n : ℕ) → source_of n ≡ codes "mutex m;\nint locked(m) total;\n" ++ (text_of (map step_line (range_with_len 0 n)) ++ (codes "void work(int v) {\n" ++ (text_of (map call_line (range_with_len 0 n)) ++ (codes "lock(&m);\ntotal = total + v;\nunlock(&m);\n}\nint main(void) {\n" ++ (text_of (map spawn_line (range_with_len 1 8)) ++ (text_of (map join_line (range_with_len 1 8)) ++ codes "lock(&m);\nprint(total);\nunlock(&m);\nreturn 0;\n}\n"))))))
unfolding source_of text_of globals worker main_function step_numbers thread_numbers worker_end main_end
source_of_pieces n = parts (map step_line (range_with_len 0 n)) (map call_line (range_with_len 0 n)) (map spawn_line (range_with_len 1 8)) (map join_line (range_with_len 1 8))

-- one piece written after another
pub written : (a b c d e f g h s0 s1 s2 s3 s4 s5 s6 s7 s8 : List ℕ) → s0 ≡ [] → s1 ≡ s0 ++ a → s2 ≡ s1 ++ b → s3 ≡ s2 ++ c → s4 ≡ s3 ++ d → s5 ≡ s4 ++ e → s6 ≡ s5 ++ f → s7 ≡ s6 ++ g → s8 ≡ s7 ++ h → s8 ≡ a ++ (b ++ (c ++ (d ++ (e ++ (f ++ (g ++ h))))))
written a b c d e f g h s0 s1 s2 s3 s4 s5 s6 s7 s8 p0 p1 p2 p3 p4 p5 p6 p7 p8 =
    let q1 = p1 ∙ ap (λ t. t ++ a) p0 in
    let q2 = p2 ∙ ap (λ t. t ++ b) q1 in
    let q3 = p3 ∙ ap (λ t. t ++ c) q2 in
    let q4 = p4 ∙ ap (λ t. t ++ d) q3 in
    let q5 = p5 ∙ ap (λ t. t ++ e) q4 in
    let q6 = p6 ∙ ap (λ t. t ++ f) q5 in
    let q7 = p7 ∙ ap (λ t. t ++ g) q6 in
    p8 ∙ ap (λ t. t ++ h) q7 ∙ simp append_assoc
