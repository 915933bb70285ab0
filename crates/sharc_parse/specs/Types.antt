-- What the functions that read types promise.
use Rattle.std.specs.Prelude.{◌≡◌, ℕ, ◌+◌, ◌≤◌, ◌<◌, Bool, true, false, List, [], ◌∷◌, length, Option, Some, None}
use Rattle.std.specs.Prelude.{Result, Ok, Err, IfOk}
use Rattle.sharc_tree.specs.{declared.token.Token.Token, declared.token.Site.Site}
use Rattle.sharc_tree.specs.{declared.token.Punctuator.TheVariants.Star, declared.ctype.Base.Base}
use Rattle.sharc_tree.specs.{declared.ctype.Mode.Mode, declared.ctype.Path.Path}
use Rattle.sharc_tree.specs.declared.tree.declaration.WrittenType.{WrittenType}
use Rattle.sharc_tree.specs.declared.token.Keyword.TheVariants as key
use Rattle.sharc_tree.specs.declared.ctype.Mode.TheVariants as mode
use Rattle.sharc_parse.specs.Grammar.{Word, keyword, mark, Sharing, private, readonly, racy, dynamic, Typing, of_cast}
use Rattle.sharc_parse.specs.Machine.{ModePlace, before_base, at_level, moded, TypePlace, takes_modes, TypeWant, Typed}
use Rattle.sharc_parse.specs.Machine.{PathWant, an_open, State, At, mode_step, base_step, based, casting, Cont, Want}
use Rattle.sharc_parse.specs.Machine.{fronted}
use Rattle.sharc_parse.specs.Limits.{Limited, StuckAt, Over, next_within, reads_within, depth, crowded}
use Rattle.sharc_parse.specs.Places.{site_in, sharing_size, level_size, base_size, base_name, type_size, mode_at}
use Rattle.sharc_parse.specs.Places.{level_at, bottom_at, base_place, type_at}
use Rattle.sharc_parse.specs.declared.token.ReadingFault.{ReadingFault}
use Rattle.sharc_parse.specs.declared.token.ReadingFault.TheVariants.{Memory, Wrong, Deep}
use Rattle.sharc_parse.specs.{declared.types.ModePermission.ModePermission, declared.types.ModeWord.ModeWord}
use Rattle.sharc_parse.specs.{declared.types.BaseWord.BaseWord, declared.types.Bottom.Bottom}
use Rattle.sharc_parse.specs.{View.{bare_path, bare_mode, bare_level, bare_type}, Goes.{from, Past, NotAt, Goes}}
use Rattle.sharc_parse.specs.declared.types.ModePermission.TheVariants as allowed
use Rattle.sharc_parse.specs.declared.types.ModeWord.TheVariants as modes
use Rattle.sharc_parse.specs.declared.types.BaseWord.TheVariants as bases

-- sharing modes

abbrev pub mode_word : ModeWord → Word
mode_word modes.Private = keyword key.Private
mode_word modes.Readonly = keyword key.Readonly
mode_word modes.Racy = keyword key.Racy
mode_word modes.Dynamic = keyword key.Dynamic
mode_word modes.Locked = keyword key.Locked

abbrev pub NoMode : List Word → Type 0
NoMode [] = Unit {0}
NoMode (t ∷ rest) = (w : ModeWord) → t ≡ mode_word w → ⊥

abbrev pub HasMode : List Word → Type 0
HasMode [] = ⊥
HasMode (t ∷ rest) = (w : ModeWord) × (t ≡ mode_word w)

abbrev pub TakesMode : Option ModeWord → List Token → ℕ → ℕ → Type 0
TakesMode (Some w) tokens old new = Past (mode_word w) tokens old new
TakesMode None tokens old new = (new ≡ old) × NoMode (from tokens new)

-- there is a level for the mode
abbrev pub IsOpen : ModePlace → Type 0
IsOpen (before_base p) = Unit {0}
IsOpen (at_level p first b below) = length below ≤ 8

-- the words read where a mode comes first
abbrev pub mode_within : ModePlace → List Word → Limited
mode_within p [] = StuckAt []
mode_within p (t ∷ y) = next_within (mode_step p t) (λ n. reads_within y n) (t ∷ y)

abbrev pub after_mode : ModeWord → ModePlace → State
after_mode modes.Private p = At [] (moded p private)
after_mode modes.Readonly p = At [] (moded p readonly)
after_mode modes.Racy p = At [] (moded p racy)
after_mode modes.Dynamic p = At [] (moded p dynamic)
after_mode modes.Locked p = At (an_open ∷ []) (PathWant p)

abbrev pub ReadsPath : Result Path ReadingFault → List Word → List Word → Type 0
ReadsPath result old new = (p : ModePlace) → IsOpen p → Goes bare_path result
    (reads_within old (At (an_open ∷ []) (PathWant p))) (λ s. reads_within new (At [] (moded p s))) new

-- `locked` comes before it
abbrev pub IsPathPlaced : Result Path ReadingFault → List Token → ℕ → ℕ → Type 0
IsPathPlaced result tokens old new = IfOk result (λ q. (n : ℕ) → n + 1 ≡ old
    → (mode.Locked q ≡ mode_at (site_in tokens) n (bare_path q)) × (new ≡ n + sharing_size (bare_path q)))

abbrev pub ReadsModeRest : Result Mode ReadingFault → ModeWord → List Word → List Word → Type 0
ReadsModeRest result w old new = (p : ModePlace) → IsOpen p
    → Goes bare_mode result (reads_within old (after_mode w p)) (λ s. reads_within new (At [] (moded p s))) new

abbrev pub IsModeRestPlaced : Result Mode ReadingFault → ModeWord → List Token → ℕ → ℕ → Type 0
IsModeRestPlaced result w tokens old new = IfOk result (λ m. (n : ℕ) → n + 1 ≡ old
    → (m ≡ mode_at (site_in tokens) n (bare_mode m)) × (new ≡ n + sharing_size (bare_mode m)))

abbrev pub ReadsMode : Result (Option Mode) ReadingFault → List Word → List Word → Type 0
ReadsMode (Ok None) old new = (old ≡ new) × NoMode new
ReadsMode (Ok (Some m)) old new =
    HasMode old × ((p : ModePlace) → IsOpen p → mode_within p old ≡ reads_within new (At [] (moded p (bare_mode m))))
ReadsMode (Err Wrong) old new = HasMode old × ((p : ModePlace) → IsOpen p → mode_within p old ≡ StuckAt new)
ReadsMode (Err Deep) old new = HasMode old × ((p : ModePlace) → IsOpen p → mode_within p old ≡ Over new)
ReadsMode (Err Memory) old new = Unit {0}

abbrev pub IsModePlaced : Result (Option Mode) ReadingFault → List Token → ℕ → ℕ → Type 0
IsModePlaced result tokens old new =
    IfOk result (λ m. (m ≡ level_at (site_in tokens) old (bare_level m)) × (new ≡ old + level_size (bare_level m)))

abbrev pub ReadsLevel : Bool → Result (Option Mode) ReadingFault → List Word → List Word → Type 0
ReadsLevel true result old new = ReadsMode result old new
ReadsLevel false (Ok None) old new = old ≡ new
ReadsLevel false _ old new = ⊥

-- whether modes may be written there
abbrev pub may_stand : ModePermission → Bool
may_stand allowed.Allowed = true
may_stand allowed.LeftOut = false

-- bases

abbrev pub base_word : BaseWord → Word
base_word bases.Int = keyword key.Int
base_word bases.Char = keyword key.Char
base_word bases.Long = keyword key.Long
base_word bases.Mutex = keyword key.Mutex
base_word bases.Void = keyword key.Void
base_word bases.Struct = keyword key.Struct

abbrev pub NoBase : List Word → Type 0
NoBase [] = Unit {0}
NoBase (t ∷ rest) = (w : BaseWord) → t ≡ base_word w → ⊥

abbrev pub TakesBase : Option BaseWord → List Token → ℕ → ℕ → Type 0
TakesBase (Some w) tokens old new = Past (base_word w) tokens old new
TakesBase None tokens old new = (new ≡ old) × NoBase (from tokens new)

-- the words read where a base comes first, after that mode
abbrev pub base_within : TypePlace → Option Sharing → List Word → Limited
base_within p m [] = StuckAt []
base_within p m (t ∷ y) = next_within (base_step p m t) (λ n. reads_within y n) (t ∷ y)

abbrev pub ReadsBase : Result (Base × Site) ReadingFault → List Word → List Word → Type 0
ReadsBase result old new = (p : TypePlace) (m : Option Sharing)
    → Goes (λ r. r.0) result (base_within p m old) (λ b. reads_within new (At [] (based p m b))) new

abbrev pub IsBasePlaced : Result (Base × Site) ReadingFault → List Token → ℕ → ℕ → Type 0
IsBasePlaced result tokens old new =
    IfOk result (λ r. (r.1 ≡ site_in tokens (base_name r.0 old)) × (new ≡ old + base_size r.0))

-- the base with its mode

abbrev pub typed_bottom : TypePlace → Bottom → State
typed_bottom p b = At [] (Typed p b.mode_first b.base (bare_level b.mode) [])

-- where modes may be written, there is none after a level without one; and there is no star there
abbrev pub EndsLevel : Bool → Option Sharing → List Word → Type 0
EndsLevel true None all = NoMode all
EndsLevel _ _ all = Unit {0}

abbrev pub ReadsBottom : Bool → Result Bottom ReadingFault → List Word → List Word → Type 0
ReadsBottom modes result old new = (p : TypePlace) → takes_modes p ≡ modes
    → Goes (λ b. b) result (reads_within old (At [] (TypeWant p))) (λ b. reads_within new (typed_bottom p b)) new

abbrev pub EndsBottom : Bool → Result Bottom ReadingFault → List Word → Type 0
EndsBottom modes result new = IfOk result (λ b. EndsLevel modes (bare_level b.mode) new)

abbrev pub StandsBottom : Bottom → List Token → ℕ → Type 0
StandsBottom b tokens n = (b.mode ≡ bottom_at (site_in tokens) n b.mode_first b.base (bare_level b.mode))
    × (b.place ≡ site_in tokens (base_place b.mode_first b.base (bare_level b.mode ∷ []) n))

abbrev pub IsBottomPlaced : Result Bottom ReadingFault → List Token → ℕ → ℕ → Type 0
IsBottomPlaced result tokens old new =
    IfOk result (λ b. StandsBottom b tokens old × (new ≡ old + base_size b.base + level_size (bare_level b.mode)))

-- whole types

abbrev pub typed_levels : TypePlace → Bool → Base → List (Option Sharing) → State
typed_levels p first b [] = At [] (TypeWant p)
typed_levels p first b (m ∷ below) = At [] (Typed p first b m below)

-- the type is read, and may go on
abbrev pub typed_state : TypePlace → Typing → State
typed_state p t = typed_levels p t.mode_first t.base t.levels

abbrev pub ReadsType : Bool → Result WrittenType ReadingFault → List Word → List Word → Type 0
ReadsType modes result old new = (p : TypePlace) → takes_modes p ≡ modes
    → Goes bare_type result (reads_within old (At [] (TypeWant p))) (λ t. reads_within new (typed_state p t)) new

abbrev pub EndsLevels : Bool → List (Option Sharing) → List Word → Type 0
EndsLevels modes [] all = ⊥
EndsLevels modes (m ∷ below) all = EndsLevel modes m all × NotAt (mark Star) all

-- there is a level, and the type goes on no further
abbrev pub EndsType : Bool → Result WrittenType ReadingFault → List Word → Type 0
EndsType modes result new = IfOk result (λ t. EndsLevels modes (bare_type t).levels new)

abbrev pub IsTypePlaced : Result WrittenType ReadingFault → List Token → ℕ → ℕ → Type 0
IsTypePlaced result tokens old new =
    IfOk result (λ t. (t ≡ type_at (site_in tokens) old (bare_type t)) × (new ≡ old + type_size (bare_type t)))

-- the type has no star and no mode
abbrev pub IsBare : Bool → Typing → Type 0
IsBare true t = (t.mode_first ≡ false) × (t.levels ≡ None ∷ [])
IsBare false t = t.mode_first ≡ false → t.levels ≡ None ∷ [] → ⊥

-- the type of a cast, with the `(` before it and the `,` after it
abbrev pub ReadsCast : Result WrittenType ReadingFault → List Word → List Word → Type 0
ReadsCast result old new = (k : Cont) → depth k < 64 → crowded k ≡ false
    → Goes bare_type result (reads_within old (At (an_open ∷ []) (TypeWant (casting k))))
    (λ t. reads_within new (At [] (Want (fronted (of_cast t) k)))) new

abbrev pub IsCastPlaced : Result WrittenType ReadingFault → List Token → ℕ → ℕ → Type 0
IsCastPlaced result tokens old new = IfOk result (λ t. (t ≡ type_at (site_in tokens) (old + 1) (bare_type t))
    × (new ≡ old + type_size (bare_type t) + 2))
