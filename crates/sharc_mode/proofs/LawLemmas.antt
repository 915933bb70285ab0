-- The proofs of the laws.
use Rattle.sharc_mode.proofs.Imports.{◌≡◌, ◌⊎◌, ℕ, ◌+◌, ◌<◌, Bool, ◌&&◌, List, [], ◌∷◌, ◌++◌, Option, Some, None, refl, ap, sym, ◌∙◌, subst, inl, inr, get_or as slice_index_or, flat_map, NodeFinding, Apart, Source, Behind, finding_at, Mode, Private, Dynamic, GlobalDefinition, entities_in, numbered, globals_in, functions_in, PrivateReachesThread, ModeError, top_of, items_notes, IsLeastAssignment, IsReasonFor, mode_found, inferred_mode, Assignment, position_count, reason_at, error_where, type_notes, errors_of, is_private_level, settled_at, AreModeErrors, mode_errors, touched_notes, spawned_notes, same_test}

-- the least assignment leaves what is settled
pub settled_mode : (m : Assignment) → IsLeastAssignment m → (position : ℕ) → position < position_count m.typed → (mode : Mode) → settled_at m.typed position ≡ Some mode → slice_index_or m.modes position Private ≡ mode
settled_mode m least position within mode is = least.mode position within ∙ ap (λ s. mode_found s (finding_at least.findings position)) is

-- and gives no reason for it
pub settled_reason : (m : Assignment) → IsLeastAssignment m → (position : ℕ) → position < position_count m.typed → (mode : Mode) → settled_at m.typed position ≡ Some mode → reason_at m position ≡ None
settled_reason m least position within mode is =
    let P : Option Mode → Type 0 = λ s. IsReasonFor m.typed position s (finding_at least.findings position) (reason_at m position) in
    subst P is (least.reason position within)

by_finding : (mode : Mode) (finding : NodeFinding) → mode ≡ inferred_mode finding → (mode ≡ Private) ⊎ (mode ≡ Dynamic)
by_finding mode Apart is = inl is
by_finding mode Source is = inr is
by_finding mode (Behind rank reason) is = inr is

pub inferred : (m : Assignment) → IsLeastAssignment m → (position : ℕ) → position < position_count m.typed → settled_at m.typed position ≡ None
    → (slice_index_or m.modes position Private ≡ Private) ⊎ (slice_index_or m.modes position Private ≡ Dynamic)
inferred m least position within is = by_finding (slice_index_or m.modes position Private) (finding_at least.findings position) (least.mode position within ∙ ap (λ s. mode_found s (finding_at least.findings position)) is)

same_notes : (s t : ℕ → Bool) → ((g : ℕ) → s g ≡ t g) → (n : ℕ) (list : List GlobalDefinition) → touched_notes s n list ≡ touched_notes t n list
same_notes s t same n [] = refl
same_notes s t same n (g ∷ rest) =
    ap (λ b. error_where (b && is_private_level (top_of g.declaration.written.ctype.levels)) PrivateReachesThread g.declaration.written.span g.declaration.name.text ++ touched_notes s (n + 1) rest) (same n)
    ∙ ap (λ x. error_where (t n && is_private_level (top_of g.declaration.written.ctype.levels)) PrivateReachesThread g.declaration.written.span g.declaration.name.text ++ x) (same_notes s t same (n + 1) rest)

same_errors : (m : Assignment) (s t : ℕ → Bool) → ((g : ℕ) → s g ≡ t g) → mode_errors m s ≡ mode_errors m t
same_errors m s t same =
    ap (λ x. errors_of m.typed (flat_map (type_notes m) (numbered (entities_in m.typed.program.items)) ++ spawned_notes m 0 (functions_in m.typed.program.items) ++ x ++ items_notes m m.typed.program.items))
    (same_notes s t same 0 (globals_in m.typed.program.items))

pub one : (m : Assignment) (a b : List ModeError) → AreModeErrors m a → AreModeErrors m b → a ≡ b
one m a b are others =
    are.are
    ∙ same_errors m are.touched others.touched (λ g. same_test (are.touched g) (others.touched g) (λ h. (others.tells g).1 ((are.tells g).0 h)) (λ h. (are.tells g).1 ((others.tells g).0 h)))
    ∙ sym others.are
