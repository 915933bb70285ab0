-- Lists of events, one event more at a time.
use Rattle.std.proofs.{Common.{◌≡◌, ℕ, ◌+◌, ◌<◌, List, [], ◌∷◌, ◌++◌, take, length, slice_index_or, sym, subst, add-one}, Math.Seq.take-suc}
use Rattle.sharc_tree.specs.declared.event.SourceEvent.{SourceEvent}
use Rattle.sharc_ctype.specs.Resolved.{Resolution}
use Rattle.sharc_meaning.specs.{Laws.StoresGrow, Store.{MayCome, LegalStore}}

pub legal_next : (r : Resolution) (R : List SourceEvent) (i : ℕ) (d : SourceEvent) → StoresGrow → i < length R → LegalStore r (take i R) → MayCome r (take i R) (slice_index_or R i d) (slice_index_or R i d).act
    → LegalStore r (take (i + 1) R)
legal_next r R i d grow h legal may =
    let next : take (i + 1) R ≡ take i R ++ slice_index_or R i d ∷ [] = rw (add-one) (take-suc R i d h) in
    subst (LegalStore r) (sym next) (grow r (take i R) (slice_index_or R i d) legal may)
