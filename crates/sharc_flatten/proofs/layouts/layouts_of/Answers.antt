use Rattle.sharc_flatten.proofs.{Imports.{◌≡◌, ◌++◌, ◌∷◌, [], List, length, Some, ap, sym, ◌∙◌, slice_get, Declaration, structs_in, pointers_among, layouts_of, pointers_of}, LayoutLemmas.{layouts_more, pointers_more}}
use Rattle.sharc_flatten.proofs.layouts.layouts_of.Goals as goal

pub loop-number-preserved : goal.loop-number-preserved
loop-number-preserved c =
    let t = c.args.typed.now in
    let old = c.loop-number.all in
    let new = c.add.new.self in
    let of = c.in-Some.definition.now in
    let at : slice_get (structs_in t.program.items) c.loop-number.number ≡ Some of = sym c.in-Some.ensures.definition in
    let next : new.pointers.items ≡ old.pointers.items ++ pointers_among 0 of.fields = c.in_ok-add-in-Some.ensures.pointers ∙ ap (λ (l : List Declaration). old.pointers.items ++ pointers_among 0 l) c.as_slice.ensures in
    let made : new.list.items ≡ old.list.items ++ record { cells = length of.fields; from = length old.pointers.items; until = length new.pointers.items } ∷ [] =
    c.in_ok-add-in-Some.ensures.list ∙ ap (λ (l : List Declaration). old.list.items ++ record { cells = length l; from = length old.pointers.items; until = length new.pointers.items } ∷ []) c.as_slice.ensures in
    record {
      list = layouts_more (structs_in t.program.items) c.loop-number.number of old.pointers.items new.pointers.items old.list.items new.list.items (layouts_of t) at next made c.loop-number.invariant.list;
      pointers = pointers_more (structs_in t.program.items) c.loop-number.number of old.pointers.items new.pointers.items (pointers_of t) at next c.loop-number.invariant.pointers;
    }
