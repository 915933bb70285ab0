use Rattle.sharc_top.proofs.Imports.{made}
use Rattle.sharc_top.proofs.recorded.file_of_run.Goals as goal

pub returns : goal.returns
returns g c = λ m meets is fit.
    rw c.status_of.ensures (made c.args.code.now c.in_ok-ran.ran meets is fit
    record { shape = c.shape_of-shape.result; fits = c.shape_of-shape.ensures.fits; heap_is = c.shape_of-shape.ensures.heap; record_is = c.in_ok-ran.ensures })
