-- Notes without a fault, each of which says what its token names.
use Rattle.sharc_ctype_laws.proofs.Imports.{◌≡◌, ℕ, Bool, true, false, List, [], ◌∷◌, ◌++◌, Option, Some, refl, Fault, FaultCode, Named, Note, fault, refers, yields, fault_unless, fault_where, faults, field_notes, second_notes, Declaration, Resolution, named_at}

-- without a fault, where P holds of what each says of its token
unfoldable pub Kept : (ℕ → Named → Type 0) → List Note → Type 0
Kept P [] = Unit {0}
Kept P (fault place code ∷ rest) = ⊥
Kept P (refers token what ∷ rest) = P token what × Kept P rest
Kept P (yields token what ∷ rest) = P token what × Kept P rest

abbrev pub Held : Resolution → List Note → Type 0
Held r list = Kept (λ token what. named_at r token ≡ what) list

-- whatever they say of names
abbrev pub Clean : List Note → Type 0
Clean list = Kept (λ token what. Unit {0}) list

pub left : (P : ℕ → Named → Type 0) (a b : List Note) → Kept P (a ++ b) → Kept P a
unfolding Kept
left P [] b h = tt
left P (fault place code ∷ rest) b h = h
left P (refers token what ∷ rest) b h = (h.0, left P rest b h.1)
left P (yields token what ∷ rest) b h = (h.0, left P rest b h.1)

pub right : (P : ℕ → Named → Type 0) (a b : List Note) → Kept P (a ++ b) → Kept P b
unfolding Kept
right P [] b h = h
right P (fault place code ∷ rest) b h = absurd h
right P (refers token what ∷ rest) b h = right P rest b h.1
right P (yields token what ∷ rest) b h = right P rest b h.1

pub no_fault : (P : ℕ → Named → Type 0) (place : ℕ) (code : FaultCode) (rest : List Note) → Kept P (fault place code ∷ rest) → ⊥
unfolding Kept
no_fault P place code rest h = h

pub head_named : (P : ℕ → Named → Type 0) (token : ℕ) (what : Named) (rest : List Note) → Kept P (refers token what ∷ rest) → P token what
unfolding Kept
head_named P token what rest h = h.0

-- where nothing else is said of its token, the second name of a lock path is held as the name of a field
pub second_held : (P : ℕ → Named → Type 0) (token : ℕ) (o : Option (Option Declaration)) → Kept P (second_notes token o) → Kept P (field_notes token o)
unfolding Kept
second_held P token (Some (Some d)) h = h
second_held P token _ h = h

pub yielded : (P : ℕ → Named → Type 0) (token : ℕ) (what : Named) (rest : List Note) → Kept P (yields token what ∷ rest) → P token what
unfolding Kept
yielded P token what rest h = h.0

pub behind_yielded : (P : ℕ → Named → Type 0) (token : ℕ) (what : Named) (rest : List Note) → Kept P (yields token what ∷ rest) → Kept P rest
unfolding Kept
behind_yielded P token what rest h = h.1

pub behind_head : (P : ℕ → Named → Type 0) (token : ℕ) (what : Named) (rest : List Note) → Kept P (refers token what ∷ rest) → Kept P rest
unfolding Kept
behind_head P token what rest h = h.1

pub well : (P : ℕ → Named → Type 0) (b : Bool) (place : ℕ) (code : FaultCode) → Kept P (fault_unless b place code) → b ≡ true
unfolding Kept
well P true place code h = refl
well P false place code h = absurd h

pub not_wrong : (P : ℕ → Named → Type 0) (b : Bool) (place : ℕ) (code : FaultCode) → Kept P (fault_where b place code) → b ≡ false
unfolding Kept
not_wrong P true place code h = absurd h
not_wrong P false place code h = refl

pub no_faults : (f : Fault) (rest : List Fault) → f ∷ rest ≡ [] → ⊥
no_faults f rest h = cc

pub clean : (list : List Note) → faults list ≡ [] → Clean list
unfolding Kept
clean [] h = tt
clean (fault place code ∷ rest) h = absurd (no_faults _ _ h)
clean (refers token what ∷ rest) h = (tt, clean rest h)
clean (yields token what ∷ rest) h = (tt, clean rest h)
