-- Functions and globals, one by one.
use Rattle.sharc_check.proofs.Imports.{◌≡◌, ℕ, zero, suc, ◌+◌, ◌<◌, Bool, List, [], ◌∷◌, ◌++◌, length, drop, Some, refl, ap, sym, ◌∙◌, add-one, append_assoc, cond, arith, flat_map, GlobalDefinition, Function, Finding, Assignment, is_spawned, parameter_notes, spawned_notes, touched_notes, function_notes, global_notes}
use Rattle.std.specs.List.{slice_get}

at_place : {X : Type 0} (xs : List X) (n : ℕ) → n < length xs → (x : X) × (slice_get xs n ≡ Some x) × (drop n xs ≡ x ∷ drop (suc n) xs)
at_place [] n below = absurd (omega arith)
at_place (x ∷ xs) zero below = (x, refl, refl)
at_place (x ∷ xs) (suc n) below = at_place xs n (omega arith)

pub spawned_one : (m : Assignment) (fs : List Function) (n : ℕ) (spawned : Bool) (before after whole : List Finding) → n < length fs → spawned ≡ is_spawned m.typed n
    → after ≡ before ++ function_notes m spawned (slice_get fs n) → before ++ spawned_notes m n (drop n fs) ≡ whole → after ++ spawned_notes m (n + 1) (drop (n + 1) fs) ≡ whole
spawned_one m fs n spawned before after whole below spawned_is after_is were =
    let at = at_place fs n below in
    let f = at.0 in
    let rest = spawned_notes m (n + 1) (drop (n + 1) fs) in
    let said : Bool → List Finding = λ b. cond b (flat_map (parameter_notes m f.name.text) f.parameters) [] in
    ap (λ l. l ++ rest) (after_is ∙ ap (λ x. before ++ function_notes m spawned x) at.1 ∙ ap (λ b. before ++ said b) spawned_is)
    ∙ append_assoc before (said (is_spawned m.typed n)) rest
    ∙ ap (λ k. before ++ (said (is_spawned m.typed n) ++ spawned_notes m (n + 1) (drop k fs))) (add-one n)
    ∙ ap (λ l. before ++ spawned_notes m n l) (sym at.2)
    ∙ were

pub touched_one : (touched : ℕ → Bool) (gs : List GlobalDefinition) (n : ℕ) (is : Bool) (before after whole : List Finding) → n < length gs → is ≡ touched n
    → after ≡ before ++ global_notes is (slice_get gs n) → before ++ touched_notes touched n (drop n gs) ≡ whole → after ++ touched_notes touched (n + 1) (drop (n + 1) gs) ≡ whole
touched_one touched gs n is before after whole below is_it after_is were =
    let at = at_place gs n below in
    let g = at.0 in
    let rest = touched_notes touched (n + 1) (drop (n + 1) gs) in
    let said : Bool → List Finding = λ b. global_notes b (Some g) in
    ap (λ l. l ++ rest) (after_is ∙ ap (λ x. before ++ global_notes is x) at.1 ∙ ap (λ b. before ++ said b) is_it)
    ∙ append_assoc before (said (touched n)) rest
    ∙ ap (λ k. before ++ (said (touched n) ++ touched_notes touched (n + 1) (drop k gs))) (add-one n)
    ∙ ap (λ l. before ++ touched_notes touched n l) (sym at.2)
    ∙ were
