-- The globals of the code of a typed program hold at first what their definitions say.
use Rattle.std.specs.Prelude.{◌≡◌, ℕ, pos, Some, Bool}
use Rattle.sharc_tree.specs.{declared.token.Number.Number, declared.token.Span.Span}
use Rattle.sharc_tree.specs.declared.tree.item.GlobalDefinition.{GlobalDefinition}
use Rattle.sharc_tree.specs.declared.tree.item.GlobalForm.TheVariants.{Initial}
use Rattle.sharc_tree.specs.declared.tree.expression.Constant.TheVariants as constants
use Rattle.sharc_ctype.specs.Resolved.{Resolution, IsResolved, global_at}
use Rattle.sharc_mode.specs.Moded.{Assignment}
use Rattle.sharc_code.specs.declared.code.Code.{Code}
use Rattle.sharc_flat.specs.{declared.flat.Flat.{Flat as FlatCode}, Flattens.Flattens}
use Rattle.sharc_compile.specs.Made.{IsCodeOf}
use Rattle.sharc_history_laws.specs.Stores.{BeginsWith}

-- a number in a token has no sign, so no global begins at one that has
abbrev pub AreUnsigned : Resolution → Type 0
AreUnsigned r = (g : ℕ) (d : GlobalDefinition) → global_at r g ≡ Some d → (span : Span) (minus : Bool) (k : Number)
    → d.form ≡ Initial span minus (constants.Number k) → (n : ℕ) × (k.value ≡ pos n)

abbrev pub MadeCodeBegins : Type 0
MadeCodeBegins = (m : Assignment) → IsResolved m.typed → AreUnsigned m.typed → (flat : FlatCode) → Flattens m flat
    → (code : Code) → IsCodeOf flat code → BeginsWith m.typed code
