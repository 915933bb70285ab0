use Rattle.sharc_flatten.proofs.{Imports.{◌<◌, sym, subst, arith, structs_in, HasPlaces}, StructLemmas.fields_more}
use Rattle.sharc_flatten.proofs.source.places_of.Goals as goal

pub loop-left-preserved : goal.loop-left-preserved
loop-left-preserved c =
    let all = structs_in c.args.typed.now.program.items in
    let some : 0 < c.loop-left.left = omega arith in
    record {
      few = omega arith;
      fields = fields_more all c.loop-left.left c.in-Some.definition.now c.loop-left.places c.enter_fields.new.places some (sym c.in-Some.ensures.definition)
          (subst (λ l. HasPlaces l c.loop-left.places c.enter_fields.new.places) c.as_slice.ensures c.in_ok-enter_fields-in-Some.ensures) c.loop-left.invariant.fields;
    }
