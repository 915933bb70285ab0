-- The first cast at each token, written from the last to the first.
use Rattle.sharc_suggest.proofs.Imports.{◌≡◌, ◌==◌, ◌∷◌, ◌∙◌}
