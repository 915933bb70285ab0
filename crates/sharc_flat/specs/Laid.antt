-- Texts where they lie: the texts of lines and the names of functions among the bytes of all texts.
use Rattle.std.specs.Prelude.{◌≡◌, ℕ, ◌+◌, ◌-◌, ◌<◌, ◌≤◌, List, [], ◌∷◌, ◌++◌, length, slice_get, slice_range, Option}
use Rattle.std.specs.Prelude.{Some, None, codes}
use Rattle.sharc_tree.specs.{declared.tree.declaration.Declaration.Declaration, Texts.tokens_text}
use Rattle.sharc_code.specs.{declared.code.Function.{Function as Row}, declared.code.PlaceMode.PlaceMode}
use Rattle.sharc_code.specs.declared.code.PlaceMode.TheVariants.{LockedGlobal, LockedSibling, LockedThrough}
use Rattle.sharc_code.specs.declared.code.PlaceMode.TheVariants.{LockedLoaded}
use Rattle.sharc_code.specs.declared.code.Text.{Text}
use Rattle.sharc_names.specs.declared.fault.Named.{Named}
use Rattle.sharc_names.specs.declared.fault.Named.TheVariants as named
use Rattle.sharc_ctype.specs.Resolved.{Resolution, named_at, declaration_at}
use Rattle.sharc_mode.specs.{Sharings.text_at, WellFormed.fields_behind}
use Rattle.sharc_flat.specs.{declared.flat.LineTexts.LineTexts, declared.op.Op.Op, declared.op.Spot.Spot}
use Rattle.sharc_flat.specs.declared.op.Op.TheVariants as op

-- ---- what an operation is in the source, if it has a spot
abbrev pub spot_in : Op → Option Spot
spot_in op.Enter = None
spot_in (op.Constant i v) = None
spot_in (op.Move i from) = None
spot_in (op.Compute width o i a b spot) = Some spot
spot_in (op.Negate width i a spot) = Some spot
spot_in (op.Complement i a) = None
spot_in (op.IsFalse i a) = None
spot_in (op.SameReference i a b) = None
spot_in (op.ChkWidth width i spot) = Some spot
spot_in (op.Skip n) = None
spot_in (op.SkipIfZero i n) = None
spot_in (op.SkipIfNull r n) = None
spot_in (op.Jump to) = None
spot_in (op.Call f ints refs spot) = Some spot
spot_in (op.Return spot) = Some spot
spot_in op.BlockEnd = None
spot_in (op.Null r) = None
spot_in (op.Local r x) = None
spot_in (op.MoveReference r from) = None
spot_in (op.Pop r) = None
spot_in (op.Settle x from) = None
spot_in (op.ChkNull r spot) = Some spot
spot_in (op.ChkPositive i spot) = Some spot
spot_in (op.ChkHeld cell spot) = Some spot
spot_in (op.ChkNotHeld cell spot) = Some spot
spot_in (op.ChkRoom spot) = Some spot
spot_in (op.Bounds i r cells field spot) = Some spot
spot_in (op.GlobalBounds i elements cells field spot) = Some spot
spot_in (op.Load i cell spot) = Some spot
spot_in (op.Store i cell spot) = Some spot
spot_in (op.LoadRef r cell spot) = Some spot
spot_in (op.StoreRef r cell spot) = Some spot
spot_in (op.LoadGuard cell spot) = Some spot
spot_in (op.New r count cells spot) = Some spot
spot_in (op.TakeCell r cell spot) = Some spot
spot_in (op.TakeLocal r x spot) = Some spot
spot_in (op.Give r cells spot) = Some spot
spot_in (op.Free r layout spot) = Some spot
spot_in (op.Lock cell spot) = Some spot
spot_in (op.Unlock r cell spot) = Some spot
spot_in (op.CondEnter cell spot) = Some spot
spot_in (op.CondWait cell spot) = Some spot
spot_in (op.CondSignal cell spot) = Some spot
spot_in (op.CondBroadcast cell spot) = Some spot
spot_in (op.Spawn i f from spot) = Some spot
spot_in (op.Join i spot) = Some spot
spot_in (op.Print i spot) = Some spot

-- ---- what the texts say
-- tokens from the first number up to the second
abbrev pub words_of : Resolution → ℕ → ℕ → List ℕ
words_of r from until = tokens_text (slice_range r.program.tokens.list from until)

abbrev pub name_of : Option Declaration → List ℕ
name_of None = []
name_of (Some d) = d.name.text

-- the name of this field of what a variable points to
abbrev pub field_behind : Resolution → Named → ℕ → List ℕ
field_behind r (named.Variable x) n = name_of (slice_get (fields_behind r (declaration_at r x)) n)
field_behind r _ n = []

-- The path of a lock, as reports print it: its names where it is one of the global or through a variable; where it is
-- that of a sibling, the lvalue without the parentheses around it, with its last token replaced by the mutex's name;
-- and with a `*` before, where that is a pointer to the mutex. The lock is given by the first token of that lvalue and
-- by the token of the path's first name.
abbrev pub beside_words : Resolution → Text → Text → List ℕ
beside_words r lvalue lock = words_of r lock.from (lvalue.until - 1 - (lock.from - lvalue.from)) ++ text_at r lock.until

abbrev pub lock_text_of : Resolution → PlaceMode → Text → Text → List ℕ
lock_text_of r (LockedGlobal g place) lvalue lock = text_at r lock.until
lock_text_of r (LockedThrough register place) lvalue lock =
    text_at r lock.until ++ (codes "->" ++ field_behind r (named_at r lock.until) place)
lock_text_of r (LockedSibling field mutex) lvalue lock = beside_words r lvalue lock
lock_text_of r LockedLoaded lvalue lock = codes "*" ++ beside_words r lvalue lock
lock_text_of r _ lvalue lock = []

abbrev pub lies_at : List ℕ → Text → List ℕ
lies_at bytes text = slice_range bytes text.from text.until

-- the texts of an operation, by its spot; of one without a spot they are empty
abbrev pub lvalue_bytes : Resolution → Option Spot → List ℕ
lvalue_bytes r None = []
lvalue_bytes r (Some spot) = words_of r spot.lvalue.from spot.lvalue.until

abbrev pub lock_bytes : Resolution → Option Spot → List ℕ
lock_bytes r None = []
lock_bytes r (Some spot) = lock_text_of r spot.mode spot.lvalue spot.lock_text

-- they lie where these say
pub record AreTexts (r : Resolution) (bytes : List ℕ) (spot : Option Spot) (told : LineTexts) : Type 0 where
  pub lvalue : lies_at bytes told.lvalue ≡ lvalue_bytes r spot
  pub lock : lies_at bytes told.lock ≡ lock_bytes r spot

-- those of each line
abbrev pub AreTold : Resolution → List ℕ → List Op → List LineTexts → Type 0
AreTold r bytes [] [] = Unit {0}
AreTold r bytes (o ∷ os) (t ∷ ts) = AreTexts r bytes (spot_in o) t × AreTold r bytes os ts
AreTold r bytes _ _ = ⊥

-- the functions with their names where they lie
pub record IsNamed (bytes : List ℕ) (told made : Row) (name : List ℕ) : Type 0 where
  pub name_at : Text
  pub is : made ≡ record told { name = name_at }
  pub lies : lies_at bytes name_at ≡ name

abbrev pub AreNamed : List ℕ → List Row → List (List ℕ) → List Row → Type 0
AreNamed bytes [] [] [] = Unit {0}
AreNamed bytes (x ∷ xs) (n ∷ ns) (y ∷ ys) = IsNamed bytes x y n × AreNamed bytes xs ns ys
AreNamed bytes _ _ _ = ⊥
