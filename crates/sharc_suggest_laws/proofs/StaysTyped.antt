-- The program with a suggested cast is typed, where the cast's lock paths name what is there and what is given is a
-- pointer with a star for each mode.
use Rattle.sharc_suggest_laws.proofs.{Imports.{◌≡◌, ℕ, Bool, List, ◌∷◌, sym, subst, IsLow, IsPlaced, Recast, is_there, program_with_cast, recast_of, program_with, IsTyped, notes_about, Resolution, IsResolved, Cast, Assignment, SameKinds, Giving, items_givings, joint}, Counted.counted, Noted.{Clean, clean_from, faultless}, ReadWith.in_program, ReadySite.{PathsRead, IsPointed, site_ready}, Reread.setting_of, Retyped.Setting, Site.IsFor, Stay.{IsAlone, alone, none_there}, TypedWith.{IsReady, AreReady}}

-- the cast is written at its own giving alone
all_ready : (m : Assignment) (c : Cast) (named : ℕ → Bool) → IsPlaced m.typed.program → (site : IsFor m named c (items_givings m.typed.program.items)) → IsReady (setting_of m.typed (recast_of m.typed c)) site.giving
    → AreReady (setting_of m.typed (recast_of m.typed c)) (items_givings m.typed.program.items)
all_ready m c named placed site ready =
    let w : Setting = setting_of m.typed (recast_of m.typed c) in
    let one : IsAlone m c site.before site.behind = alone m c named placed site in
    subst (AreReady w) (sym site.split) (joint (IsReady w) site.before (site.giving ∷ site.behind) (elsewhere site.before one.before_none) (ready, elsewhere site.behind one.behind_none))
  where
    elsewhere : (gs : List Giving) → counted (is_there (recast_of m.typed c)) gs ≡ 0 → AreReady (setting_of m.typed (recast_of m.typed c)) gs
    elsewhere gs none = none_there (is_there (recast_of m.typed c)) (IsReady (setting_of m.typed (recast_of m.typed c))) (λ g never there. absurd (never there)) gs none

pub typed_with : SameKinds → (m : Assignment) (c : Cast) (named : ℕ → Bool) → IsResolved m.typed → IsPlaced m.typed.program → IsLow m.typed.program → (site : IsFor m named c (items_givings m.typed.program.items))
    → PathsRead m c site.giving → IsPointed m site.giving.given site.expected → IsTyped (program_with c m.typed)
typed_with same_kinds m c named resolved placed low site paths pointed =
    let r : Resolution = m.typed in
    let rc : Recast = recast_of r c in
    let clean : Clean (notes_about r.program) = clean_from (notes_about r.program) resolved.typed in
    faultless (notes_about (program_with_cast rc r.program))
    (in_program r rc (all_ready m c named placed site (site_ready m c named clean site paths pointed)) (same_kinds r resolved placed low) clean)
