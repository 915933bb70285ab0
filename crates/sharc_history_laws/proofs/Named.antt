-- The other access that a report names is a check that its thread made in the run.
use Rattle.sharc_history_laws.proofs.Imports.{◌≡◌, ℕ, true, false, List, Option, Some, None, if◌then◌else◌, refl, ap, ◌∙◌, subst, eqb-true, ◌==◌, Kind, Note, note_of, site_at, epoch_of, Code, Shape, ConflictAt, Conflict, Turn, place_after, ShowsConflict, IsNoted, ByNote, ByStop, CheckedThere}
use Rattle.sharc_history_laws.specs.Conflicts.{Names}

-- a note with that epoch
note_at : (o : Option Note) (epoch site : ℕ) → site_at o epoch ≡ Some site → (note : Note) × ((o ≡ Some note) × ((note.epoch ≡ epoch) × (note.site ≡ site)))
note_at None epoch site e = absurd (let f : None ≡ Some site = e in cc)
note_at (Some note) epoch site e = elim (note.epoch == epoch) as (λ b. (note.epoch == epoch) ≡ b → (if b then Some note.site else None) ≡ Some site → (n : Note) × ((Some note ≡ Some n) × ((n.epoch ≡ epoch) × (n.site ≡ site)))) [
  | true ↦ λ q z. (note, (refl, (eqb-true note.epoch epoch q, (let f : Some note.site ≡ Some site = z in cc))))
  | false ↦ λ q z. absurd (let f : None ≡ Some site = z in cc)
] refl e

module _ (code : Code) (s : Shape) (run : List Turn) (j : ℕ) (c : ConflictAt) (kind : Kind) (site : ℕ)
    (conflict : (d : ConflictAt) → ((place_after code s run).threads j).own.stop ≡ Some (Conflict d) → ShowsConflict code s run j d)
    (notes : (p : ℕ) (kind : Kind) (note : Note) → note_of ((place_after code s run).threads j).own.table p kind ≡ Some note → IsNoted code s run j p kind note) where
  of_note : (note : Note) → note.epoch ≡ c.epoch → note.site ≡ site → IsNoted code s run j c.granule kind note → CheckedThere code s run j c.granule c.epoch kind site
  of_note note epoch at k = record {
    later = k.later;
    check = k.check;
    earlier = k.earlier;
    parts = k.parts;
    passed = true;
    is_check = record { thread = k.is_check.thread; touch = k.is_check.touch; site_is = k.is_check.site_is ∙ ap (λ n. Some n) at };
    epoch_is = k.epoch ∙ epoch;
  }

  of_stop : (d : ConflictAt) → ShowsConflict code s run j d → CheckedThere code s run j d.granule d.epoch d.kind d.site
  of_stop d k = record {
    later = k.later;
    check = k.check;
    earlier = k.earlier;
    parts = k.parts;
    passed = false;
    is_check = k.is_check;
    epoch_is = ap epoch_of k.word ∙ k.epoch;
  }

  pub named : Names ((place_after code s run).threads j) c kind site → CheckedThere code s run j c.granule c.epoch kind site
  named (ByNote e) = let k = note_at (note_of ((place_after code s run).threads j).own.table c.granule kind) c.epoch site e in of_note k.0 k.1.1.0 k.1.1.1 (notes c.granule kind k.0 k.1.0)
  named (ByStop d stop granule epoch kind_is at) =
      subst (λ site. CheckedThere code s run j c.granule c.epoch kind site) at
      (subst (λ kind. CheckedThere code s run j c.granule c.epoch kind d.site) kind_is
      (subst (λ epoch. CheckedThere code s run j c.granule epoch d.kind d.site) epoch
      (subst (λ p. CheckedThere code s run j p d.epoch d.kind d.site) granule (of_stop d (conflict d stop)))))
