-- The locking source is that program, with its least modes.
use Rattle.sharc_instance_laws.proofs.{Imports.{◌≡◌, ℕ, suc, ◌<◌, [], ◌∷◌, refl, arith, Apart, finding_at, IsInferred, IsUnwritten, flow_of, place_at, PositionKind, reading, keywords, Reads, IsLeastAssignment, IsPlaceFor, IsReasonFor, links_of, mode_found, reason_at, settled_at, Private, Ok, slice_index_or, IsFront, locking_source, clash}, Locking.{phrases, program, resolution, locking, modes, tokens}, SharedFront.beyond}

read : reading locking_source ≡ Ok tokens
unfolding reading keywords
read = refl

reads : Reads tokens program
reads = record { phrases = phrases; is_program = search arith; within = search arith; spelled = refl; placed = refl; keeps_tokens = refl; keeps_files = refl }

-- each position has its mode written, or is that of a mutex
places_are : (position : ℕ) → IsPlaceFor resolution position (settled_at resolution position) (place_at (PositionKind.Other ∷ PositionKind.Other ∷ []) position)
places_are (suc (suc n)) = refl
places_are _ = refl

none_unwritten : (position : ℕ) → IsUnwritten (flow_of (PositionKind.Other ∷ PositionKind.Other ∷ []) (links_of resolution)) position
    → IsInferred (flow_of (PositionKind.Other ∷ PositionKind.Other ∷ []) (links_of resolution)) position (finding_at (Apart ∷ Apart ∷ []) position)
none_unwritten (suc (suc n)) e = absurd (clash e)
none_unwritten _ e = absurd (clash e)

modes_are : (position : ℕ) → position < 2 → slice_index_or modes position Private ≡ mode_found (settled_at resolution position) (finding_at (Apart ∷ Apart ∷ []) position)
modes_are (suc (suc n)) less = beyond n less
modes_are _ less = refl

reasons_are : (position : ℕ) → position < 2 → IsReasonFor resolution position (settled_at resolution position) (finding_at (Apart ∷ Apart ∷ []) position) (reason_at locking position)
reasons_are (suc (suc n)) less = beyond n less
reasons_are _ less = refl

least : IsLeastAssignment locking
least = record {
  places = PositionKind.Other ∷ PositionKind.Other ∷ [];
  are_places = record {
    size = refl;
    each = places_are;
  };
  findings = Apart ∷ Apart ∷ [];
  are_inferred = record { size = refl; each = none_unwritten };
  modes = refl;
  mode = modes_are;
  reasons = refl;
  reason = reasons_are;
}

pub front : IsFront locking_source locking
front = record { typed = record { tokens = tokens; read = read; reads = reads; resolved = record { typed = refl; named = refl } }; least = least }
