-- What the instructions of code spawn is what the program spawns.
use Rattle.sharc_compile_laws.proofs.Imports.{◌≡◌, ℕ, zero, suc, ◌+◌, Bool, false, List, [], ◌∷◌, ◌++◌, map, sym, ap, ◌∙◌, subst, slice_index_or, AllByRecursion, Row, PlaceMode, Char, Instr, Register, Op, Spot, flat_of, SpawnMeets, IsSpawned, MadeSpawns, check_under, head, own, body, tail, expand, expanded, place, dropped, instr_of, SpawnedAreThreads}

-- ---- instructions
module _ (Q : ℕ → Type 0) where
  abbrev SpawnsIn : Instr → Type 0
  SpawnsIn (Instr.Spawn to function from site) = Q function
  SpawnsIn _ = Unit {0}

  abbrev AllSpawn : List Instr → Type 0
  AllSpawn [] = Unit {0}
  AllSpawn (i ∷ is) = SpawnsIn i × AllSpawn is

  append : (xs ys : List Instr) → AllSpawn xs → AllSpawn ys → AllSpawn (xs ++ ys)
  append [] ys h k = k
  append (x ∷ xs) ys h k = (h.0, append xs ys h.1 k)

  -- a check spawns nothing
  checks : (drop : Bool) (dynamic : Instr) (spot : Spot) (n : ℕ) (mode : PlaceMode) → SpawnsIn dynamic → AllSpawn (check_under drop dynamic spot n mode)
  checks false dynamic spot n PlaceMode.Dynamic h = (h, tt)
  checks drop dynamic spot n (PlaceMode.LockedGlobal g p) h = (tt, tt)
  checks drop dynamic spot n (PlaceMode.LockedSibling f p) h = (tt, tt)
  checks drop dynamic spot n (PlaceMode.LockedThrough r p) h = (tt, tt)
  checks drop dynamic spot n PlaceMode.LockedLoaded h = (tt, tt)
  checks _ dynamic spot n _ h = tt

  heads : (drop : Bool) (n : ℕ) (o : Op) → AllSpawn (head drop n o)
  heads drop n (Op.Load i cell spot) = checks drop (Instr.ChkRead cell n) spot n spot.mode tt
  heads drop n (Op.Store i cell spot) = checks drop (Instr.ChkWrite cell n) spot n spot.mode tt
  heads drop n (Op.LoadRef r cell spot) = checks false (Instr.ChkRead cell n) spot n spot.mode tt
  heads drop n (Op.StoreRef r cell spot) = checks false (Instr.ChkWrite cell n) spot n spot.mode tt
  heads drop n (Op.TakeCell r cell spot) = checks false (Instr.ChkWrite cell n) spot n spot.mode tt
  heads drop n (Op.Give r cells spot) = (tt, (tt, tt))
  heads drop n (Op.Free r layout spot) = (tt, tt)
  heads drop n _ = tt

  owns : (pl : ℕ → ℕ) (n : ℕ) (o : Op) → SpawnMeets Q o → AllSpawn (own (body pl n o))
  owns pl n Op.Enter h = tt
  owns pl n Op.BlockEnd h = tt
  owns pl n (Op.Compute Char operator i a b spot) h = (tt, tt)
  owns pl n (Op.Negate Char i a spot) h = (tt, tt)
  owns pl n (Op.Spawn to function from spot) h = (h, tt)
  owns pl n _ h = (tt, tt)

  tails : (o : Op) → AllSpawn (tail o)
  tails (Op.LoadRef r cell spot) = (tt, tt)
  tails (Op.StoreRef r cell spot) = (tt, tt)
  tails (Op.Settle x from) = (tt, tt)
  tails _ = tt

  all_lines : (pl : ℕ → ℕ) (drop : ℕ → Bool) (k : ℕ) (lines : List Op) → AllByRecursion (SpawnMeets Q) lines → AllSpawn (expanded pl drop k lines)
  all_lines pl drop k [] h = tt
  all_lines pl drop k (o ∷ os) h =
      append (expand pl (drop k) k o) (expanded pl drop (k + 1) os)
      (append (head (drop k) k o ++ own (body pl k o)) (tail o) (append (head (drop k) k o) (own (body pl k o)) (heads (drop k) k o) (owns pl k o h.0)) (tails o))
      (all_lines pl drop (k + 1) os h.1)

  -- the instruction of a statement
  of_statement : (fs : List Row) (i : Instr) (to function site : ℕ) (from : Register) → SpawnsIn i → instr_of fs i ≡ Instr.Spawn to function from site → Q function
  of_statement fs (Instr.Spawn to' f' from' site') to function site from h e = let same : f' ≡ function = cc in subst Q same h
  of_statement fs _ to function site from h e = absurd (cc)

  at_place : (fs : List Row) (ss : List Instr) (pc to function site : ℕ) (from : Register) → AllSpawn ss → slice_index_or (map (instr_of fs) ss) pc Instr.Exit ≡ Instr.Spawn to function from site → Q function
  at_place fs [] pc to function site from h e = absurd (cc)
  at_place fs (i ∷ is) zero to function site from h e = of_statement fs i to function site from h.0 e
  at_place fs (i ∷ is) (suc pc) to function site from h e = at_place fs is pc to function site from h.1 e

pub spawners : MadeSpawns → SpawnedAreThreads
spawners law m resolved placed low flat made code is pc to function site from e =
    let Q = IsSpawned m.typed in
    let pl = place (dropped (flat_of flat)) flat.lines.items in
    let statements : AllSpawn Q is.g.statements.items = subst (AllSpawn Q) (sym is.made.statements) (tt, (tt, all_lines Q pl (dropped (flat_of flat)) 0 flat.lines.items (law m resolved placed low flat made))) in
    at_place Q is.g.functions.items is.g.statements.items pc to function site from statements (sym (ap (λ (ss : List Instr). slice_index_or ss pc Instr.Exit) is.generated.instrs) ∙ e)
