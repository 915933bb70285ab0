use Rattle.sharc_cpu.proofs.{Imports.{ℕ, pos, ◌*◌, ap, ◌∙◌, [], replicate, Accesses, blank}, Begun.same_fresh}
use Rattle.sharc_cpu.proofs.begin.begun.Goals as goal

abbrev rows : ℕ → Accesses
rows n = record { notes = replicate n blank; order = [] }

pub returns : goal.returns
returns c = same_fresh _ _ _ _ _ _ _ _ _ _ _ _ _ _ _ _ _ _
    (c.in_ok-ints.ensures.items_if_clones_equal (λ y e. e) ∙ ap (λ (n : ℕ). replicate (256 * n) (pos 0)) c.most_ints.ensures)
    (c.in_ok-refs.ensures.items_if_clones_equal (λ y e. e) ∙ ap (λ (n : ℕ). replicate (256 * n) 0) c.most_refs.ensures)
    (c.in_ok-frames.ensures.items_if_clones_equal (λ y e. e))
    c.from.ensures
    (c.in_ok-table.ensures ∙ ap rows c.granules.ensures)
    c.new-2.ensures
    (c.in_ok-heads.ensures.items_if_clones_equal (λ y e. e))
    c.new-3.ensures.items
