-- The program with a suggested cast is typed, where the lock paths of the modes are written ones.
use Rattle.sharc_suggest_laws.proofs.{Imports.{ℕ, Bool, SameKinds, items_givings, StaysTyped}, Paths.{is_pointed, paths_read}, Site.{IsFor, has_site}, StaysTyped.typed_with, World.TypedLaws}

pub stays_typed : SameKinds → TypedLaws → StaysTyped
stays_typed same_kinds laws m e c resolved placed low whole locks says =
    let tells : ℕ → Bool = says.are.named in
    let site : IsFor m tells c (items_givings m.typed.program.items) = (has_site m e c says).for in
    typed_with same_kinds m c tells resolved placed low site (paths_read laws m c tells resolved placed low whole locks site) (is_pointed laws m c tells resolved placed low whole locks site)
