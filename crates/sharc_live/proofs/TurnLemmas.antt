-- The steps of a loop, piece by piece.
use Rattle.sharc_live.proofs.Imports.{◌≡◌, List, [], ◌∷◌, ◌++◌, Option, Some, None, refl, ap, ◌∙◌, append_assoc, Step, Code, repeats, listing, Expression, Resolution, of_option, simple_flow, first_flow, test_flow, turn_flow, for_flow, turn_begins, turn_ends}
use Rattle.sharc_tree.specs.Tree.{Head}

pub turn_listing : (o : Option Code) (body step : Code) → Step.Head ∷ (turn_begins o ++ (listing body ++ Step.Caught ∷ (listing step ++ turn_ends o))) ≡ listing (repeats (turn_flow o body step))
turn_listing None body step = simp append_assoc
turn_listing (Some test) body step = simp append_assoc

pub turn_whole : (o : Option Code) (body step : Code) (s0 s1 s2 s3 s4 s5 s6 : List Step) → s1 ≡ s0 ++ Step.Head ∷ [] → s2 ≡ s1 ++ turn_begins o → s3 ≡ s2 ++ listing body → s4 ≡ s3 ++ Step.Caught ∷ [] → s5 ≡ s4 ++ listing step → s6 ≡ s5 ++ turn_ends o
    → s6 ≡ s0 ++ listing (repeats (turn_flow o body step))
turn_whole o body step s0 s1 s2 s3 s4 s5 s6 e1 e2 e3 e4 e5 e6 =
    let flat : (((((s0 ++ Step.Head ∷ []) ++ turn_begins o) ++ listing body) ++ Step.Caught ∷ []) ++ listing step) ++ turn_ends o ≡ s0 ++ (Step.Head ∷ (turn_begins o ++ (listing body ++ Step.Caught ∷ (listing step ++ turn_ends o)))) = simp append_assoc in
    e6 ∙ ap (λ z. z ++ turn_ends o) (e5 ∙ ap (λ z. z ++ listing step) (e4 ∙ ap (λ z. z ++ Step.Caught ∷ []) (e3 ∙ ap (λ z. z ++ listing body) (e2 ∙ ap (λ z. z ++ turn_begins o) e1))))
    ∙ flat ∙ ap (λ z. s0 ++ z) (turn_listing o body step)

pub ends_same : (r : Resolution) (o : Option Expression) → turn_ends o ≡ turn_ends (test_flow r o)
ends_same r None = refl
ends_same r (Some e) = refl

pub for_whole : (r : Resolution) (h : Head) (body : Code) (s s0 s1 s2 s3 s4 s5 s6 : List Step) → s0 ≡ s ++ listing (first_flow r h.first) → s1 ≡ s0 ++ Step.Head ∷ [] → s2 ≡ s1 ++ turn_begins (test_flow r h.test) → s3 ≡ s2 ++ listing body
    → s4 ≡ s3 ++ Step.Caught ∷ [] → s5 ≡ s4 ++ listing (of_option (simple_flow r) h.step) → s6 ≡ s5 ++ turn_ends h.test → s6 ≡ s ++ listing (for_flow r h body)
for_whole r h body s s0 s1 s2 s3 s4 s5 s6 e0 e1 e2 e3 e4 e5 e6 =
    let turns = repeats (turn_flow (test_flow r h.test) body (of_option (simple_flow r) h.step)) in
    turn_whole (test_flow r h.test) body (of_option (simple_flow r) h.step) s0 s1 s2 s3 s4 s5 s6 e1 e2 e3 e4 e5 (e6 ∙ ap (λ z. s5 ++ z) (ends_same r h.test))
    ∙ ap (λ z. z ++ listing turns) e0 ∙ append_assoc s (listing (first_flow r h.first)) (listing turns)
