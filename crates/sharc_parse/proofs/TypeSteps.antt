-- The machine's steps over types.
use Rattle.sharc_parse.proofs.{Imports.{◌≡◌, ℕ, suc, ◌+◌, ◌≤◌, ◌<◌, List, [], ◌∷◌, length, Option, Some, None, refl, sym, ap, ◌∙◌, arith, subst, Bool, true, false, cond, le-leb, lt-leb, Keyword, OpenParenthesis, CloseParenthesis, Comma, Arrow, Star, Base, Token, Site, Span, Mode, WrittenType, Word, name, keyword, mark, Sharing, locked, locked_through, Typing, of_cast, Cont, Want, fronted, ModePlace, before_base, at_level, moded, TypePlace, casting, takes_modes, TypeWant, ModeFirst, StructWant, Typed, PathWant, PathNamed, PathThrough, an_open, a_close, At, or_else, mode_step, base_step, begin_type, typed, level_step, StuckAt, Over, next_within, reads_within, over_core, over, depth, crowded, site_in, level_size, levels_size, levels_at, level_at, base_place, span_at, type_size, ModeWord, BaseWord, NotAt, IsAt, NoName, from, Past, ReadingFault, Memory, Wrong, Bottom, bare_level, bare_type, typed_levels, typed_state, ReadsLevel, IsModeRestPlaced, IsModePlaced, ReadsBottom, EndsBottom, IsBottomPlaced, ReadsType, EndsType, IsTypePlaced, ReadsCast, mode_word, NoMode, HasMode, mode_within, after_mode, base_word, NoBase, base_within, EndsLevel, EndsLevels, map, insert, Ok, Err, based, type_at, OpenBrace}, Steps.{passes, fixed_goes, fine, deep}, Complete.idle as cond_none}
use Rattle.sharc_parse.specs.Types.{IsOpen}

-- there is a level, and so the mode passes no limit
pub moded_fine : (p : ModePlace) (s : Sharing) → IsOpen p → over_core (moded p s) ≡ false
moded_fine (before_base p) s h = refl
moded_fine (at_level p first b below) s h = lt-leb 9 (length below) (omega (arith, h))

-- paths

pub open_path : (p : ModePlace) (y : List Word) → reads_within (mark OpenParenthesis ∷ y) (At (an_open ∷ []) (PathWant p)) ≡ reads_within y (At [] (PathWant p))
open_path p y = refl

pub path_name : (p : ModePlace) (n : List ℕ) (y : List Word) → reads_within (name n ∷ y) (At [] (PathWant p)) ≡ reads_within y (At [] (PathNamed p n))
path_name p n y = refl

pub no_path_name : (p : ModePlace) (ts : List Word) → NoName ts → reads_within ts (At [] (PathWant p)) ≡ StuckAt ts
no_path_name p (name n ∷ y) h = absurd h
no_path_name p _ h = refl

pub path_arrow : (p : ModePlace) (n : List ℕ) (y : List Word) → reads_within (mark Arrow ∷ y) (At [] (PathNamed p n)) ≡ reads_within y (At [] (PathThrough p n))
path_arrow p n y = refl

pub path_ends : (p : ModePlace) (n : List ℕ) (y : List Word) → IsOpen p → reads_within (mark CloseParenthesis ∷ y) (At [] (PathNamed p n)) ≡ reads_within y (At [] (moded p (locked n)))
path_ends p n y h = passes (At [] (moded p (locked n))) y (mark CloseParenthesis ∷ y) (moded_fine p (locked n) h)

pub path_ends_not : (p : ModePlace) (n : List ℕ) (ts : List Word) → NotAt (mark Arrow) ts → NotAt (mark CloseParenthesis) ts → reads_within ts (At [] (PathNamed p n)) ≡ StuckAt ts
path_ends_not p n (mark CloseParenthesis ∷ y) a c = absurd (c refl)
path_ends_not p n (mark Arrow ∷ y) a c = absurd (a refl)
path_ends_not p n _ a c = refl

pub path_second : (p : ModePlace) (x m : List ℕ) (y : List Word) → IsOpen p → reads_within (name m ∷ y) (At [] (PathThrough p x)) ≡ reads_within y (At (a_close ∷ []) (moded p (locked_through x m)))
path_second p x m y h = passes (At (a_close ∷ []) (moded p (locked_through x m))) y (name m ∷ y) (moded_fine p (locked_through x m) h)

pub no_path_second : (p : ModePlace) (x : List ℕ) (ts : List Word) → NoName ts → reads_within ts (At [] (PathThrough p x)) ≡ StuckAt ts
no_path_second p x (name n ∷ y) h = absurd h
no_path_second p x _ h = refl

pub path_closes : (p : ModePlace) (s : Sharing) (y : List Word) → IsOpen p → reads_within (mark CloseParenthesis ∷ y) (At (a_close ∷ []) (moded p s)) ≡ reads_within y (At [] (moded p s))
path_closes p s y h = fixed_goes a_close [] (moded p s) y (moded_fine p s h)

-- modes

mode_steps : (w : ModeWord) (p : ModePlace) → mode_step p (mode_word w) ≡ Some (after_mode w p)
mode_steps ModeWord.Racy p = refl
mode_steps _ p = refl

after_fine : (w : ModeWord) (p : ModePlace) → IsOpen p → over (after_mode w p) ≡ false
after_fine ModeWord.Locked p h = refl
after_fine _ p h = moded_fine p _ h

pub mode_goes : (w : ModeWord) (p : ModePlace) (y : List Word) → IsOpen p → mode_within p (mode_word w ∷ y) ≡ reads_within y (after_mode w p)
mode_goes w p y h = ap (λ o. next_within o (λ s. reads_within y s) (mode_word w ∷ y)) (mode_steps w p) ∙ passes (after_mode w p) y (mode_word w ∷ y) (after_fine w p h)

pub mode_meets : (w : ModeWord) (ts y : List Word) → ts ≡ mode_word w ∷ y → HasMode ts
mode_meets w ts y e = subst HasMode (sym e) (w, refl)

pub mode_read : (w : ModeWord) (ts y : List Word) → ts ≡ mode_word w ∷ y → (p : ModePlace) → IsOpen p → mode_within p ts ≡ reads_within y (after_mode w p)
mode_read w ts y e p h = ap (mode_within p) e ∙ mode_goes w p y h

no_mode_step : (p : ModePlace) (t : Word) → ((w : ModeWord) → t ≡ mode_word w → ⊥) → mode_step p t ≡ None
no_mode_step p (keyword Keyword.Private) h = absurd (h ModeWord.Private refl)
no_mode_step p (keyword Keyword.Readonly) h = absurd (h ModeWord.Readonly refl)
no_mode_step p (keyword Keyword.Racy) h = absurd (h ModeWord.Racy refl)
no_mode_step p (keyword Keyword.Dynamic) h = absurd (h ModeWord.Dynamic refl)
no_mode_step p (keyword Keyword.Locked) h = absurd (h ModeWord.Locked refl)
no_mode_step p _ h = refl

-- bases

based_fine : (p : TypePlace) (m : Option Sharing) (b : Base) → over_core (based p m b) ≡ false
based_fine p None b = refl
based_fine p (Some s) b = refl

pub base_int : (p : TypePlace) (m : Option Sharing) (y : List Word) → base_within p m (keyword Keyword.Int ∷ y) ≡ reads_within y (At [] (based p m Base.Int))
base_int p m y = passes (At [] (based p m Base.Int)) y (keyword Keyword.Int ∷ y) (based_fine p m Base.Int)

pub base_char : (p : TypePlace) (m : Option Sharing) (y : List Word) → base_within p m (keyword Keyword.Char ∷ y) ≡ reads_within y (At [] (based p m Base.Char))
base_char p m y = passes (At [] (based p m Base.Char)) y (keyword Keyword.Char ∷ y) (based_fine p m Base.Char)

pub base_long : (p : TypePlace) (m : Option Sharing) (y : List Word) → base_within p m (keyword Keyword.Long ∷ y) ≡ reads_within y (At [] (based p m Base.Long))
base_long p m y = passes (At [] (based p m Base.Long)) y (keyword Keyword.Long ∷ y) (based_fine p m Base.Long)

pub base_mutex : (p : TypePlace) (m : Option Sharing) (y : List Word) → base_within p m (keyword Keyword.Mutex ∷ y) ≡ reads_within y (At [] (based p m Base.Mutex))
base_mutex p m y = passes (At [] (based p m Base.Mutex)) y (keyword Keyword.Mutex ∷ y) (based_fine p m Base.Mutex)

pub base_void : (p : TypePlace) (m : Option Sharing) (y : List Word) → base_within p m (keyword Keyword.Void ∷ y) ≡ reads_within y (At [] (based p m Base.Void))
base_void p m y = passes (At [] (based p m Base.Void)) y (keyword Keyword.Void ∷ y) (based_fine p m Base.Void)

pub base_struct : (p : TypePlace) (m : Option Sharing) (y : List Word) → base_within p m (keyword Keyword.Struct ∷ y) ≡ reads_within y (At [] (StructWant p m))
base_struct p m y = refl

pub struct_named : (p : TypePlace) (m : Option Sharing) (n : List ℕ) (y : List Word) → reads_within (name n ∷ y) (At [] (StructWant p m)) ≡ reads_within y (At [] (based p m (Base.Struct n)))
struct_named p m n y = passes (At [] (based p m (Base.Struct n))) y (name n ∷ y) (based_fine p m (Base.Struct n))

pub no_struct : (p : TypePlace) (m : Option Sharing) (ts : List Word) → NoName ts → reads_within ts (At [] (StructWant p m)) ≡ StuckAt ts
no_struct p m (name n ∷ y) h = absurd h
no_struct p m _ h = refl

pub no_base_step : (p : TypePlace) (m : Option Sharing) (t : Word) → ((w : BaseWord) → t ≡ base_word w → ⊥) → base_step p m t ≡ None
no_base_step p m (keyword Keyword.Int) h = absurd (h BaseWord.Int refl)
no_base_step p m (keyword Keyword.Char) h = absurd (h BaseWord.Char refl)
no_base_step p m (keyword Keyword.Long) h = absurd (h BaseWord.Long refl)
no_base_step p m (keyword Keyword.Mutex) h = absurd (h BaseWord.Mutex refl)
no_base_step p m (keyword Keyword.Void) h = absurd (h BaseWord.Void refl)
no_base_step p m (keyword Keyword.Struct) h = absurd (h BaseWord.Struct refl)
no_base_step p m _ h = refl

pub no_base : (p : TypePlace) (m : Option Sharing) (ts : List Word) → NoBase ts → base_within p m ts ≡ StuckAt ts
no_base p m [] h = refl
no_base p m (t ∷ y) h = ap (λ o. next_within o (λ s. reads_within y s) (t ∷ y)) (no_base_step p m t h)

-- the bottom

begin_some : (w : ModeWord) (p : TypePlace) → or_else (mode_step (before_base p) (mode_word w)) (base_step p None (mode_word w)) ≡ mode_step (before_base p) (mode_word w)
begin_some ModeWord.Racy p = refl
begin_some _ p = refl

begin_mode : (p : TypePlace) (w : ModeWord) → takes_modes p ≡ true → begin_type p (mode_word w) ≡ mode_step (before_base p) (mode_word w)
begin_mode p w e = ap (λ b. or_else (cond b (mode_step (before_base p) (mode_word w)) None) (base_step p None (mode_word w))) e ∙ begin_some w p

pub begin_bare : (p : TypePlace) (t : Word) → ((w : ModeWord) → t ≡ mode_word w → ⊥) → begin_type p t ≡ base_step p None t
begin_bare p t h = ap (λ o. or_else (cond (takes_modes p) o None) (base_step p None t)) (no_mode_step (before_base p) t h) ∙ cond_none (takes_modes p) (base_step p None t)

-- a mode is looked for where modes may be written
pub begins_moded : (p : TypePlace) (ts : List Word) → takes_modes p ≡ true → HasMode ts → reads_within ts (At [] (TypeWant p)) ≡ mode_within (before_base p) ts
begins_moded p [] e h = absurd h
begins_moded p (t ∷ y) e h =
    ap (λ u. reads_within (u ∷ y) (At [] (TypeWant p))) h.1
    ∙ ap (λ o. next_within o (λ s. reads_within y s) (mode_word h.0 ∷ y)) (begin_mode p h.0 e)
    ∙ ap (λ u. mode_within (before_base p) (u ∷ y)) (sym h.1)

pub begins_bare : (p : TypePlace) (ts : List Word) → NoMode ts → reads_within ts (At [] (TypeWant p)) ≡ base_within p None ts
begins_bare p [] h = refl
begins_bare p (t ∷ y) h = ap (λ o. next_within o (λ s. reads_within y s) (t ∷ y)) (begin_bare p t h)

pub begins_plain : (p : TypePlace) (ts : List Word) → takes_modes p ≡ false → reads_within ts (At [] (TypeWant p)) ≡ base_within p None ts
begins_plain p [] e = refl
begins_plain p (t ∷ y) e = ap (λ b. next_within (or_else (cond b (mode_step (before_base p) t) None) (base_step p None t)) (λ s. reads_within y s) (t ∷ y)) e

pub mode_first : (p : TypePlace) (s : Sharing) (ts : List Word) → reads_within ts (At [] (ModeFirst p s)) ≡ base_within p (Some s) ts
mode_first p s [] = refl
mode_first p s (t ∷ y) = refl

level_mode : (p : TypePlace) (first : Bool) (b : Base) (below : List (Option Sharing)) (w : ModeWord) → takes_modes p ≡ true → typed p first b None below (mode_word w) ≡ mode_step (at_level p first b below) (mode_word w)
level_mode p first b below ModeWord.Racy e = rw e refl
level_mode p first b below _ e = rw e refl

-- a mode after the base or a star
pub mode_behind : (p : TypePlace) (first : Bool) (b : Base) (below : List (Option Sharing)) (ts : List Word) → takes_modes p ≡ true → HasMode ts → reads_within ts (At [] (Typed p first b None below)) ≡ mode_within (at_level p first b below) ts
mode_behind p first b below [] e h = absurd h
mode_behind p first b below (t ∷ y) e h =
    ap (λ u. reads_within (u ∷ y) (At [] (Typed p first b None below))) h.1
    ∙ ap (λ o. next_within o (λ s. reads_within y s) (mode_word h.0 ∷ y)) (level_mode p first b below h.0 e)
    ∙ ap (λ u. mode_within (at_level p first b below) (u ∷ y)) (sym h.1)

-- stars

pub star_goes : (p : TypePlace) (first : Bool) (b : Base) (m : Option Sharing) (below : List (Option Sharing)) (y : List Word) → length below + 1 < 9 → reads_within (mark Star ∷ y) (At [] (Typed p first b m below)) ≡ reads_within y (At [] (Typed p first b None (m ∷ below)))
star_goes p first b m below y h = passes (At [] (Typed p first b None (m ∷ below))) y (mark Star ∷ y) (lt-leb 9 (length (m ∷ below)) (omega (arith, h)))

pub star_deep : (p : TypePlace) (first : Bool) (b : Base) (m : Option Sharing) (below : List (Option Sharing)) (ts : List Word) → IsAt (mark Star) ts → 9 ≤ length below + 1 → reads_within ts (At [] (Typed p first b m below)) ≡ Over ts
star_deep p first b m below ts a h = deep (Typed p first b m below) (mark Star) (At [] (Typed p first b None (m ∷ below))) ts a refl (le-leb 9 (length (m ∷ below)) (omega (arith, h)))

-- a whole type

pub mode_stands : (m : Mode) (w : ModeWord) (tokens : List Token) (n old new : ℕ) → old ≡ n + 1 → IsModeRestPlaced (Ok m) w tokens old new → IsModePlaced (Ok (Some m)) tokens n new
mode_stands m w tokens n old new e h = let z = h n (sym e) in (ap Some z.0, z.1)

level_reads : (modes : Bool) (p : TypePlace) (first : Bool) (b : Base) (below : List (Option Sharing)) (m : Option Mode) (old new : List Word) → takes_modes p ≡ modes → ReadsLevel modes (Ok m) old new → length below ≤ 8 → reads_within old (At [] (Typed p first b None below)) ≡ reads_within new (At [] (Typed p first b (bare_level m) below))
level_reads true p first b below None old new e r h = ap (λ ts. reads_within ts (At [] (Typed p first b None below))) r.0
level_reads true p first b below (Some m) old new e r h = mode_behind p first b below old e r.0 ∙ r.1 (at_level p first b below) h
level_reads false p first b below None old new e r h = ap (λ ts. reads_within ts (At [] (Typed p first b None below))) r
level_reads false p first b below (Some m) old new e r h = absurd r

level_ends : (modes : Bool) (m : Option Mode) (old new : List Word) → ReadsLevel modes (Ok m) old new → EndsLevel modes (bare_level m) new
level_ends true None old new r = r.1
level_ends true (Some m) old new r = tt
level_ends false None old new r = tt
level_ends false (Some m) old new r = absurd r

count_map : (list : List (Option Mode)) → length (map bare_level list) ≡ length list
count_map [] = refl
count_map (m ∷ rest) = ap suc (count_map rest)

abbrev pub EndsTop : Bool → List (Option Sharing) → List Word → Type 0
EndsTop modes [] all = ⊥
EndsTop modes (m ∷ below) all = EndsLevel modes m all

-- the levels that were read so far
pub record SoFar (modes : Bool) (tokens : List Token) (n at : ℕ) (first : Bool) (b : Base) (place : Site) (levels : List (Option Mode)) : Type 0 where
  pub reads : (p : TypePlace) → takes_modes p ≡ modes → reads_within (from tokens n) (At [] (TypeWant p)) ≡ reads_within (from tokens at) (typed_levels p first b (map bare_level levels))
  pub ends : EndsTop modes (map bare_level levels) (from tokens at)
  pub stands : levels ≡ levels_at (site_in tokens) n first b (map bare_level levels)
  pub based : place ≡ site_in tokens (base_place first b (map bare_level levels) n)
  pub at_is : at ≡ n + levels_size b (map bare_level levels)
  pub few : length levels ≤ 9

pub first_level : (modes : Bool) (tokens : List Token) (n at : ℕ) (b : Bottom) → ReadsBottom modes (Ok b) (from tokens n) (from tokens at) → EndsBottom modes (Ok b) (from tokens at) → IsBottomPlaced (Ok b) tokens n at → SoFar modes tokens n at b.mode_first b.base b.place (b.mode ∷ [])
first_level modes tokens n at b r e p = record {
  reads = r;
  ends = e;
  stands = ap (λ m. m ∷ []) p.0.0;
  based = p.0.1;
  at_is = omega (arith, p.1);
  few = omega arith;
}

base_place_more : (first : Bool) (b : Base) (m k : Option Sharing) (below : List (Option Sharing)) (n : ℕ) → base_place first b (k ∷ below) n ≡ base_place first b (m ∷ (k ∷ below)) n
base_place_more true b m k below n = refl
base_place_more false b m k below n = refl

after_star : (modes : Bool) (tokens : List Token) (n old mid : ℕ) (first : Bool) (b : Base) (place : Site) (levels : List (Option Mode)) → SoFar modes tokens n old first b place levels → Past (mark Star) tokens old mid → length levels < 9 → (p : TypePlace) → takes_modes p ≡ modes → reads_within (from tokens n) (At [] (TypeWant p)) ≡ reads_within (from tokens mid) (At [] (Typed p first b None (map bare_level levels)))
after_star modes tokens n old mid first b place [] z s h p e = absurd z.ends
after_star modes tokens n old mid first b place (l ∷ levels) z s h p e =
    z.reads p e
    ∙ ap (λ ts. reads_within ts (At [] (Typed p first b (bare_level l) (map bare_level levels)))) s.0
    ∙ star_goes p first b (bare_level l) (map bare_level levels) (from tokens mid) (omega (arith, h, count_map levels))

stands_more : (tokens : List Token) (n mid : ℕ) (first : Bool) (b : Base) (levels : List (Option Mode)) (m : Option Mode) (modes : Bool) (all : List Word) → EndsTop modes (map bare_level levels) all → levels ≡ levels_at (site_in tokens) n first b (map bare_level levels) → m ≡ level_at (site_in tokens) mid (bare_level m) → mid ≡ n + levels_size b (map bare_level levels) + 1 → m ∷ levels ≡ levels_at (site_in tokens) n first b (map bare_level (m ∷ levels))
stands_more tokens n mid first b [] m modes all t z p e = absurd t
stands_more tokens n mid first b (l ∷ levels) m modes all t z p e =
    ap (λ x. x ∷ (l ∷ levels)) (p ∙ ap (λ i. level_at (site_in tokens) i (bare_level m)) e)
    ∙ ap (λ x. level_at (site_in tokens) (n + levels_size b (map bare_level (l ∷ levels)) + 1) (bare_level m) ∷ x) z

based_more : (tokens : List Token) (n : ℕ) (first : Bool) (b : Base) (place : Site) (levels : List (Option Mode)) (m : Option Mode) (modes : Bool) (all : List Word) → EndsTop modes (map bare_level levels) all → place ≡ site_in tokens (base_place first b (map bare_level levels) n) → place ≡ site_in tokens (base_place first b (map bare_level (m ∷ levels)) n)
based_more tokens n first b place [] m modes all t h = absurd t
based_more tokens n first b place (l ∷ levels) m modes all t h = h ∙ ap (site_in tokens) (base_place_more first b (bare_level m) (bare_level l) (map bare_level levels) n)

size_more : (b : Base) (levels : List (Option Mode)) (m : Option Mode) (modes : Bool) (all : List Word) → EndsTop modes (map bare_level levels) all → levels_size b (map bare_level (m ∷ levels)) ≡ levels_size b (map bare_level levels) + 1 + level_size (bare_level m)
size_more b [] m modes all t = absurd t
size_more b (l ∷ levels) m modes all t = refl

longer_levels : (modes : Bool) (tokens : List Token) (n old mid new : ℕ) (first : Bool) (b : Base) (place : Site) (levels : List (Option Mode)) (m : Option Mode) → SoFar modes tokens n old first b place levels → Past (mark Star) tokens old mid → length levels < 9 → ReadsLevel modes (Ok m) (from tokens mid) (from tokens new) → IsModePlaced (Ok m) tokens mid new → SoFar modes tokens n new first b place (insert levels 0 m)
longer_levels modes tokens n old mid new first b place levels m z s h r q = record {
  reads = λ p e. after_star modes tokens n old mid first b place levels z s h p e ∙ level_reads modes p first b (map bare_level levels) m (from tokens mid) (from tokens new) e r (omega (arith, h, count_map levels));
  ends = level_ends modes m (from tokens mid) (from tokens new) r;
  stands = stands_more tokens n mid first b levels m modes (from tokens old) z.ends z.stands q.0 (omega (arith, s.1, z.at_is));
  based = based_more tokens n first b place levels m modes (from tokens old) z.ends z.based;
  at_is = omega (arith, q.1, s.1, z.at_is, size_more b levels m modes (from tokens old) z.ends);
  few = omega (arith, h);
}

pub levels_more : (modes : Bool) (tokens : List Token) (n old mid new : ℕ) (first : Bool) (b : Base) (place : Site) (levels all : List (Option Mode)) (m : Option Mode) → all ≡ insert levels 0 m → SoFar modes tokens n old first b place levels → Past (mark Star) tokens old mid → length levels < 9 → ReadsLevel modes (Ok m) (from tokens mid) (from tokens new) → IsModePlaced (Ok m) tokens mid new → SoFar modes tokens n new first b place all
levels_more modes tokens n old mid new first b place levels all m is z s h r q = subst (SoFar modes tokens n new first b place) (sym is) (longer_levels modes tokens n old mid new first b place levels m z s h r q)

pub levels_deep : (modes : Bool) (tokens : List Token) (n at : ℕ) (first : Bool) (b : Base) (place : Site) (levels : List (Option Mode)) → SoFar modes tokens n at first b place levels → IsAt (mark Star) (from tokens at) → 9 ≤ length levels → (p : TypePlace) → takes_modes p ≡ modes → reads_within (from tokens n) (At [] (TypeWant p)) ≡ Over (from tokens at)
levels_deep modes tokens n at first b place [] z a h p e = absurd z.ends
levels_deep modes tokens n at first b place (l ∷ levels) z a h p e = z.reads p e ∙ star_deep p first b (bare_level l) (map bare_level levels) (from tokens at) a (omega (arith, h, count_map levels))

-- the mode after a star is not one
pub level_wrong : (modes : Bool) (tokens : List Token) (n old mid new : ℕ) (first : Bool) (b : Base) (place : Site) (levels : List (Option Mode)) (e : ReadingFault) → SoFar modes tokens n old first b place levels → Past (mark Star) tokens old mid → length levels < 9 → ReadsLevel modes (Err e) (from tokens mid) (from tokens new) → ReadsType modes (Err e) (from tokens n) (from tokens new)
level_wrong true tokens n old mid new first b place levels Memory z s h r p t = tt
level_wrong false tokens n old mid new first b place levels e z s h r p t = absurd r
level_wrong true tokens n old mid new first b place levels _ z s h r p t =
    after_star true tokens n old mid first b place levels z s h p t
    ∙ mode_behind p first b (map bare_level levels) (from tokens mid) t r.0
    ∙ r.1 (at_level p first b (map bare_level levels)) (omega (arith, h, count_map levels))

pub type_reads : (modes : Bool) (tokens : List Token) (n at : ℕ) (t : WrittenType) → SoFar modes tokens n at t.mode_first t.ctype.base t.base t.ctype.levels → ReadsType modes (Ok t) (from tokens n) (from tokens at)
type_reads modes tokens n at t z = z.reads

ends_all : (modes : Bool) (list : List (Option Sharing)) (all : List Word) → EndsTop modes list all → NotAt (mark Star) all → EndsLevels modes list all
ends_all modes [] all t s = absurd t
ends_all modes (m ∷ below) all t s = (t, s)

pub type_ends : (modes : Bool) (tokens : List Token) (n at : ℕ) (t : WrittenType) → SoFar modes tokens n at t.mode_first t.ctype.base t.base t.ctype.levels → NotAt (mark Star) (from tokens at) → EndsType modes (Ok t) (from tokens at)
type_ends modes tokens n at t z s = ends_all modes (map bare_level t.ctype.levels) (from tokens at) z.ends s

abbrev made_type : Span → Bool → Site → Base → List (Option Mode) → WrittenType
made_type sp first place b levels = record { span = sp; mode_first = first; base = place; ctype = record { base = b; levels = levels } }

pub type_stands : (modes : Bool) (tokens : List Token) (n at : ℕ) (t : WrittenType) → SoFar modes tokens n at t.mode_first t.ctype.base t.base t.ctype.levels → t.span ≡ span_at (site_in tokens) n (type_size (bare_type t)) → IsTypePlaced (Ok t) tokens n at
type_stands modes tokens n at t z h = (
  let is : made_type t.span t.mode_first t.base t.ctype.base t.ctype.levels ≡ type_at (site_in tokens) n (bare_type t) = cc (h, z.based, z.stands) in is,
  z.at_is,
)

-- the type of a cast

pub cast_opens : (k : Cont) (y : List Word) → crowded k ≡ false → depth k < 64 → reads_within (mark OpenParenthesis ∷ y) (At (an_open ∷ []) (TypeWant (casting k))) ≡ reads_within y (At [] (TypeWant (casting k)))
cast_opens k y c d = fixed_goes an_open [] (TypeWant (casting k)) y (fine k (depth k) c d)

abbrev pub typing_with : Bool → Base → List (Option Sharing) → Typing
typing_with first b levels = record { mode_first = first; base = b; levels = levels }

comma_goes : (k : Cont) (first : Bool) (b : Base) (levels : List (Option Sharing)) (y all : List Word) → EndsLevels true levels all → crowded k ≡ false → depth k < 64 → reads_within (mark Comma ∷ y) (typed_levels (casting k) first b levels) ≡ reads_within y (At [] (Want (fronted (of_cast (typing_with first b levels)) k)))
comma_goes k first b [] y all e c d = absurd e
comma_goes k first b (m ∷ below) y all e c d = passes (At [] (Want (fronted (of_cast (typing_with first b (m ∷ below))) k))) y (mark Comma ∷ y) (fine k (depth k) c d)

pub cast_comma : (k : Cont) (t : WrittenType) (y all : List Word) → EndsType true (Ok t) all → crowded k ≡ false → depth k < 64 → reads_within (mark Comma ∷ y) (typed_state (casting k) (bare_type t)) ≡ reads_within y (At [] (Want (fronted (of_cast (bare_type t)) k)))
cast_comma k t y all e c d = comma_goes k t.mode_first t.ctype.base (map bare_level t.ctype.levels) y all e c d

-- no level goes on there
pub no_level : (p : TypePlace) (first : Bool) (b : Base) (m : Option Sharing) (below : List (Option Sharing)) (t : Word) (y : List Word) → takes_modes p ≡ true → EndsLevel true m (t ∷ y) → level_step p first b m below t ≡ None
no_level p first b None below t y e h = ap (λ c. cond c (mode_step (at_level p first b below) t) None) e ∙ no_mode_step (at_level p first b below) t h
no_level p first b (Some s) below t y e h = refl

stuck_levels : (k : Cont) (first : Bool) (b : Base) (levels : List (Option Sharing)) (ts : List Word) → EndsLevels true levels ts → NotAt (mark Comma) ts → reads_within ts (typed_levels (casting k) first b levels) ≡ StuckAt ts
stuck_levels k first b [] ts e c = absurd e
stuck_levels k first b (m ∷ below) [] e c = refl
stuck_levels k first b (m ∷ below) (mark Star ∷ y) e c = absurd (e.1 refl)
stuck_levels k first b (m ∷ below) (name n ∷ y) e c = refl
stuck_levels k first b (m ∷ below) (mark Comma ∷ y) e c = absurd (c refl)
stuck_levels k first b (m ∷ below) (mark CloseParenthesis ∷ y) e c = refl
stuck_levels k first b (m ∷ below) (mark OpenBrace ∷ y) e c = refl
stuck_levels k first b (m ∷ below) (t ∷ y) e c = ap (λ o. next_within o (λ s. reads_within y s) (t ∷ y)) (no_level (casting k) first b m below t y refl e.0)

pub cast_stuck : (k : Cont) (t : WrittenType) (ts : List Word) → EndsType true (Ok t) ts → NotAt (mark Comma) ts → reads_within ts (typed_state (casting k) (bare_type t)) ≡ StuckAt ts
cast_stuck k t ts e c = stuck_levels k t.mode_first t.ctype.base (map bare_level t.ctype.levels) ts e c

-- the `,` is missing
pub cast_missed : (tokens : List Token) (old next mid new : ℕ) (t : WrittenType) → Past (mark OpenParenthesis) tokens old next → ReadsType true (Ok t) (from tokens next) (from tokens mid) → EndsType true (Ok t) (from tokens mid) → new ≡ mid → NotAt (mark Comma) (from tokens new) → ReadsCast (Err Wrong) (from tokens old) (from tokens new)
cast_missed tokens old next mid new t s r h e n k d c =
    ap (λ ts. reads_within ts (At (an_open ∷ []) (TypeWant (casting k)))) s.0
    ∙ cast_opens k (from tokens next) c d
    ∙ r (casting k) refl
    ∙ ap (λ i. reads_within (from tokens i) (typed_state (casting k) (bare_type t))) (sym e)
    ∙ cast_stuck k t (from tokens new) (subst (λ i. EndsType true (Ok t) (from tokens i)) (sym e) h) n
