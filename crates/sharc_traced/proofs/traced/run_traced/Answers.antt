use Rattle.sharc_schedule.specs.Shown.{view_of}
use Rattle.sharc_traced.proofs.Replying.{file_traced, places_traced}
use Rattle.sharc_traced.proofs.traced.run_traced.Goals as goal

pub returns-in-File : goal.returns-in-File
returns-in-File c =
    let shape = c.shape_of-shape in
    file_traced c.args.form (view_of c.args.file.now) c.args.built.now shape.result _ _ c.in_ok-run.run' c.file_reply.result c.in-File.is shape.ensures.fits shape.ensures.heap c.as_slice.ensures c.deref.ensures.value c.in_ok-run.ensures c.file_reply.ensures

pub returns : goal.returns
returns c =
    let shape = c.shape_of-shape in
    places_traced c.args.form (view_of c.args.file.now) c.args.built.now shape.result _ c.in_ok-run.run' c.places_reply.result c.in-Places.is shape.ensures.fits shape.ensures.heap c.as_slice.ensures c.in_ok-run.ensures c.places_reply.ensures
