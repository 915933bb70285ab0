-- Where the pieces of guarded code lie, and what the site of a line says.
use Rattle.sharc_guard.proofs.{Imports.{◌≡◌, ℕ, Bool, ◌+◌, List, ◌++◌, length, Option, Some, sym, ap, ◌∙◌, subst, append_assoc, slice_get, SourcePlace, Instr, Op, Spot, Flat, source_at, spot_of, source_by, place, guarded, head, own, body, tail, expand}, Placing.{HasAt, stands as stands_at, place_next as next_at, source_is as source_of_line}}

-- ---- sites
pub record IsPlaceOf (s : Spot) (p : SourcePlace) : Type 0 where
  pub site : p.site ≡ s.site
  pub mode : p.mode ≡ s.mode
  pub at : p.at ≡ s.at

source_is : (o : Option Spot) (s : Spot) → o ≡ Some s → IsPlaceOf s (source_by o)
source_is o s e = let at = ap source_by e in record { site = ap (λ p. p.site) at; mode = ap (λ p. p.mode) at; at = ap (λ p. p.at) at }

-- the statements of a line
abbrev pub pieces : (ℕ → ℕ) → Bool → ℕ → Op → List Instr
pieces pl dropped n o = head dropped n o ++ (own (body pl n o) ++ tail o)

module _ (dropped : ℕ → Bool) (flat : Flat) where
  abbrev pub pl : ℕ → ℕ
  pl = place dropped flat.lines

  same : (pc : ℕ) (o : Op) → expand pl (dropped pc) pc o ≡ pieces pl (dropped pc) pc o
  same pc o = append_assoc (head (dropped pc) pc o) (own (body pl pc o)) (tail o)

  pub stands : (pc : ℕ) (o : Op) → slice_get flat.lines pc ≡ Some o → HasAt (guarded dropped flat).statements (pl pc) (pieces pl (dropped pc) pc o)
  stands pc o h = subst (HasAt (guarded dropped flat).statements (pl pc)) (same pc o) (stands_at dropped flat pc o h)

  pub place_next : (pc : ℕ) (o : Op) → slice_get flat.lines pc ≡ Some o → pl (pc + 1) ≡ pl pc + length (pieces pl (dropped pc) pc o)
  place_next pc o h = sym (next_at dropped flat pc o h) ∙ ap (λ l. pl pc + length l) (same pc o)

  pub place_of : (pc : ℕ) (o : Op) (s : Spot) → slice_get flat.lines pc ≡ Some o → spot_of o ≡ Some s → IsPlaceOf s (source_at (guarded dropped flat) pc)
  place_of pc o s h e =
      let w = source_is (spot_of o) s e in
      subst (IsPlaceOf s) (sym (source_of_line dropped flat pc o h)) (record { site = w.site; mode = w.mode; at = w.at })
