use Rattle.sharc_top.proofs.Imports.{subst, IsScheduledRun, made}
use Rattle.sharc_top.proofs.replayed.run_of_file.Goals as goal

pub returns : goal.returns
returns c = λ m meets is fit.
    let shape = c.shape_of-shape.result in
    rw c.status_of.ensures (made c.args.code.now c.in_ok-ran.ran meets is fit
    record {
      shape = shape;
      fits = c.shape_of-shape.ensures.fits;
      heap_is = c.shape_of-shape.ensures.heap;
      run = subst (λ ps. IsScheduledRun c.args.code.now shape ps c.args.file.now.limit c.in_ok-ran.ran) c.as_slice.ensures c.in_ok-ran.ensures;
    })
