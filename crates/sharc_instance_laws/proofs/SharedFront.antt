-- The sharing source is that program, with its least modes.
use Rattle.sharc_instance_laws.proofs.{Imports.{◌≡◌, ℕ, zero, suc, ◌<◌, false, [], ◌∷◌, refl, arith, Apart, finding_at, IsInferred, IsUnwritten, flow_of, place_at, PositionKind, reading, keywords, Reads, Spawns, IsLeastAssignment, IsPlaceFor, IsReasonFor, links_of, mode_found, reason_at, settled_at, TellsTouched, WellModed, Private, Ok, slice_index_or, IsFront, sharing_source, clash}, Sharing.{phrases, program, resolution, sharing, modes, tokens}}

read : reading sharing_source ≡ Ok tokens
unfolding reading keywords
read = refl

reads : Reads tokens program
reads = record { phrases = phrases; is_program = search arith; within = search arith; spelled = refl; placed = refl; keeps_tokens = refl; keeps_files = refl }

-- each position has its mode written, or is that of a mutex
places_are : (position : ℕ) → IsPlaceFor resolution position (settled_at resolution position) (place_at (PositionKind.Private ∷ PositionKind.Private ∷ []) position)
places_are (suc (suc n)) = refl
places_are _ = refl

none_unwritten : (position : ℕ) → IsUnwritten (flow_of (PositionKind.Private ∷ PositionKind.Private ∷ []) (links_of resolution)) position
    → IsInferred (flow_of (PositionKind.Private ∷ PositionKind.Private ∷ []) (links_of resolution)) position (finding_at (Apart ∷ Apart ∷ []) position)
none_unwritten (suc (suc n)) e = absurd (clash e)
none_unwritten _ e = absurd (clash e)

pub beyond : {P : Type 0} (n : ℕ) → suc (suc n) < 2 → P
beyond n less = absurd (omega (arith, less))

modes_are : (position : ℕ) → position < 2 → slice_index_or modes position Private ≡ mode_found (settled_at resolution position) (finding_at (Apart ∷ Apart ∷ []) position)
modes_are (suc (suc n)) less = beyond n less
modes_are _ less = refl

reasons_are : (position : ℕ) → position < 2 → IsReasonFor resolution position (settled_at resolution position) (finding_at (Apart ∷ Apart ∷ []) position) (reason_at sharing position)
reasons_are (suc (suc n)) less = beyond n less
reasons_are _ less = refl

least : IsLeastAssignment sharing
least = record {
  places = PositionKind.Private ∷ PositionKind.Private ∷ [];
  are_places = record {
    size = refl;
    each = places_are;
  };
  findings = Apart ∷ Apart ∷ [];
  are_inferred = record { size = refl; each = none_unwritten };
  modes = refl;
  mode = modes_are;
  reasons = refl;
  reason = reasons_are;
}

-- ---- no thread is spawned, so none touches a global
none_spawned : (spawner f : ℕ) → Spawns resolution spawner f → ⊥
none_spawned zero f w = absurd (omega (arith, w.1.1))
none_spawned (suc n) f w = w

tells : TellsTouched resolution (λ g. false)
tells g = (λ e. absurd (clash e), λ t. absurd (none_spawned t.reached.spawner t.reached.first t.reached.spawned))

pub well_moded : WellModed sharing
well_moded = record { touched = λ g. false; tells = tells; are = refl }

pub front : IsFront sharing_source sharing
front = record { typed = record { tokens = tokens; read = read; reads = reads; resolved = record { typed = refl; named = refl } }; least = least }
