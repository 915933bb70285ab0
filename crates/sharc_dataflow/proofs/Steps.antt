-- One step more of a pass.
use Rattle.sharc_dataflow.proofs.Imports.{◌≡◌, ◌+◌, ◌<◌, ◌∷◌, ◌∙◌}
