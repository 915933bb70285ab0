-- The functions that guarded code spawns are those that flat code spawns.
use Rattle.sharc_guard.proofs.{Imports.{◌≡◌, ℕ, suc, ◌+◌, ◌<◌, ◌^◌, Bool, List, [], ◌∷◌, ◌++◌, length, refl, sym, ap, ◌∙◌, subst, arith, Some, slice_get, length-map, slice_index, GlobalCells, Char, Instr, GlobalsFit, FlatCode, Op, flat_of, Guarded, TablesFit, head, own, body, tail, expand, expanded, guarded, entered_at, place, IsMade, FlatTablesFit}, Framing.{AllIn, all_append, all_at, head_all}}

-- what a statement spawns is one of this many functions
abbrev Spawns : ℕ → Instr → Type 0
Spawns count (Instr.Spawn to function from site) = function < count
Spawns count _ = Unit {0}

abbrev OpSpawns : ℕ → Op → Type 0
OpSpawns count (Op.Spawn to function from spot) = function < count
OpSpawns count _ = Unit {0}

own_spawns : (pl : ℕ → ℕ) (n count : ℕ) (o : Op) → OpSpawns count o → AllIn (Spawns count) (own (body pl n o))
own_spawns pl n count Op.Enter h = tt
own_spawns pl n count Op.BlockEnd h = tt
own_spawns pl n count (Op.Compute Char operator i a b spot) h = (tt, tt)
own_spawns pl n count (Op.Negate Char i a spot) h = (tt, tt)
own_spawns pl n count (Op.Spawn to function from spot) h = (h, tt)
own_spawns pl n count _ h = (tt, tt)

tail_spawns : (count : ℕ) (o : Op) → AllIn (Spawns count) (tail o)
tail_spawns count (Op.LoadRef r cell spot) = (tt, tt)
tail_spawns count (Op.StoreRef r cell spot) = (tt, tt)
tail_spawns count (Op.Settle x from) = (tt, tt)
tail_spawns count _ = tt

line_spawns : (pl : ℕ → ℕ) (drop : Bool) (n count : ℕ) (o : Op) → OpSpawns count o → AllIn (Spawns count) (expand pl drop n o)
line_spawns pl drop n count o h =
    all_append (Spawns count) (head drop n o ++ own (body pl n o)) (tail o)
    (all_append (Spawns count) (head drop n o) (own (body pl n o)) (head_all (Spawns count) drop n o (λ c. tt) (λ c. tt) (λ c. tt) tt (λ r. tt) (λ r c. tt)) (own_spawns pl n count o h))
    (tail_spawns count o)

lines_spawn : (pl : ℕ → ℕ) (dropped : ℕ → Bool) (k count : ℕ) (lines : List Op) → ((n : ℕ) (o : Op) → slice_get lines n ≡ Some o → OpSpawns count o) → AllIn (Spawns count) (expanded pl dropped k lines)
lines_spawn pl dropped k count [] h = tt
lines_spawn pl dropped k count (o ∷ os) h =
    all_append (Spawns count) (expand pl (dropped k) k o) (expanded pl dropped (k + 1) os) (line_spawns pl (dropped k) k count o (h 0 o refl)) (lines_spawn pl dropped (k + 1) count os (λ n. h (suc n)))

each_op : (f : FlatCode) → FlatTablesFit f → (n : ℕ) (o : Op) → slice_get f.lines.items n ≡ Some o → OpSpawns (length f.functions.items) o
each_op f h n (Op.Spawn to function from spot) e = h.spawned n to function from spot e
each_op f h n _ e = tt

pub tables : (dropped : ℕ → Bool) (f : FlatCode) (g : Guarded) → IsMade dropped f g → FlatTablesFit f → TablesFit g
tables dropped f g made h =
    let pl = place dropped f.lines.items in
    let count : length g.functions.items ≡ length f.functions.items = ap length made.functions ∙ length-map f.functions.items (entered_at pl) in
    let fine = h.functions in
    let main = h.main in
    let main_is = made.main in
    record {
      functions = omega arith;
      main = omega arith;
      globals = subst (λ (gs : List GlobalCells). GlobalsFit gs g.granules) (sym (ap (λ v. v.items) made.globals)) (subst (λ n. GlobalsFit f.globals.items n) (sym made.granules) h.globals);
      words = λ j. subst (λ (ws : List ℕ). slice_index ws j < 2 ^ 64) (sym (ap (λ v. v.items) made.initial)) (h.words j);
      spawned = λ pc to function site from e.
          let all : AllIn (Spawns (length f.functions.items)) (guarded dropped (flat_of f)).statements = (tt, (tt, lines_spawn pl dropped 0 (length f.functions.items) f.lines.items (each_op f h))) in
          subst (λ n. function < n) (sym count) (all_at (Spawns (length f.functions.items)) (guarded dropped (flat_of f)).statements pc (Instr.Spawn to function from site) all (sym (ap (λ is. slice_get is pc) made.statements) ∙ e));
    }
