-- What comes before in a run that obeys obeys.
use Rattle.sharc_meaning.proofs.Imports.{◌≡◌, List, ◌∷◌, ◌++◌, ap, ◌∙◌, append_assoc, SourceEvent, ObeyingPrefixes}

pub further : (R S before : List SourceEvent) (e : SourceEvent) (after : List SourceEvent) → R ≡ before ++ e ∷ after → R ++ S ≡ before ++ e ∷ (after ++ S)
further R S before e after h = ap (λ l. l ++ S) h ∙ append_assoc before (e ∷ after) S

pub obeying_prefixes : ObeyingPrefixes
obeying_prefixes until R S o = record {
  live = λ before e after a h. o.live before e (after ++ S) a (further R S before e after h);
  one_mode = λ before d between e after a b h. o.one_mode before d between e (after ++ S) a b (further R S before d (between ++ e ∷ after) h ∙ ap (λ l. before ++ d ∷ l) (append_assoc between (e ∷ after) S));
  owner = λ before e after a h. o.owner before e (after ++ S) a (further R S before e after h);
  unwritten = λ before e after a h. o.unwritten before e (after ++ S) a (further R S before e after h);
  under_lock = λ before e after a mutex h. o.under_lock before e (after ++ S) a mutex (further R S before e after h);
  shared = λ earlier later object granule d e a b h. o.shared earlier (later ++ S) object granule d e a b (ap (λ l. l ++ S) h ∙ append_assoc earlier later S);
}
