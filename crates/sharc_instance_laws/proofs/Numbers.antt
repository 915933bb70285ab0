-- The numbers of a code fit: by tests of its tables that compute.
use Rattle.sharc_instance_laws.proofs.{Imports.{◌≡◌, ℕ, zero, suc, ◌+◌, ◌*◌, ◌^◌, ◌<◌, Bool, true, List, [], ◌∷◌, length, None, Some, refl, subst, Option, nat_lt, nat_le, slice_get, slice_index, slice_index_or, Code, Instr, FRAMES, most_ints, most_refs, GlobalsFit, NumbersFit, Op, Flat, FitsMade, left, right, below, within}, Testing.all_pass}

-- ---- each of a list, by its place
module _ {X : Type 0} (test : X → Bool) where
  pub at_each : (xs : List X) (d : X) → all_pass test xs ≡ true → test d ≡ true → (k : ℕ) → test (slice_index_or xs k d) ≡ true
  at_each [] d e f k = f
  at_each (x ∷ xs) d e f zero = left (test x) (all_pass test xs) e
  at_each (x ∷ xs) d e f (suc k) = at_each xs d (right (test x) (all_pass test xs) e) f k

  abbrev pub passes : Option X → Bool
  passes None = true
  passes (Some x) = test x

  pub got : (xs : List X) → all_pass test xs ≡ true → (k : ℕ) → passes (slice_get xs k) ≡ true
  got [] e k = refl
  got (x ∷ xs) e zero = left (test x) (all_pass test xs) e
  got (x ∷ xs) e (suc k) = got xs (right (test x) (all_pass test xs) e) k

pub words_small : (words : List ℕ) → all_pass (λ w. nat_lt w (2 ^ 64)) words ≡ true → (j : ℕ) → slice_index words j < 2 ^ 64
words_small [] e j = below 0 (2 ^ 64) refl
words_small (w ∷ words) e zero = below w (2 ^ 64) (left (nat_lt w (2 ^ 64)) _ e)
words_small (w ∷ words) e (suc j) = words_small words (right (nat_lt w (2 ^ 64)) _ e) j

-- ---- instructions
abbrev pub spawns_known : ℕ → Instr → Bool
spawns_known n (Instr.Spawn to function from site) = nat_lt function n
spawns_known n _ = true

abbrev pub has_small_index : Instr → Bool
has_small_index (Instr.GlobalBounds to elements cells field site) = nat_lt (elements * cells + field) (2 ^ 63)
has_small_index _ = true

abbrev pub has_small_line : Op → Bool
has_small_line (Op.GlobalBounds i elements cells field spot) = nat_lt (elements * cells + field) (2 ^ 63)
has_small_line _ = true

pub record Tests (code : Code) : Type 0 where
  pub ints : nat_lt (FRAMES * most_ints code.functions.items) (2 ^ 32) ≡ true
  pub refs : nat_lt (FRAMES * most_refs code.functions.items) (2 ^ 32) ≡ true
  pub functions : nat_lt (length code.functions.items) (2 ^ 32) ≡ true
  pub main : nat_lt code.main (length code.functions.items) ≡ true
  pub few : nat_le code.granules 65536 ≡ true
  pub words : all_pass (λ w. nat_lt w (2 ^ 64)) code.initial.items ≡ true
  pub spawned : all_pass (spawns_known (length code.functions.items)) code.instrs.items ≡ true
  pub indexes : all_pass has_small_index code.instrs.items ≡ true

pub numbers_fit : (code : Code) → Tests code → GlobalsFit code.globals.items code.granules → NumbersFit code
numbers_fit code t globals = record {
  frames = record { ints = below _ (2 ^ 32) t.ints; refs = below _ (2 ^ 32) t.refs };
  functions = below _ (2 ^ 32) t.functions;
  main = below code.main (length code.functions.items) t.main;
  few = within code.granules 65536 t.few;
  globals = globals;
  words = words_small code.initial.items t.words;
  spawned = λ pc to function site from is. below function (length code.functions.items)
      (subst (λ (i : Instr). spawns_known (length code.functions.items) i ≡ true) is (at_each (spawns_known (length code.functions.items)) code.instrs.items Instr.Exit t.spawned refl pc));
  indexes = λ pc to elements cells field site is. below (elements * cells + field) (2 ^ 63)
      (subst (λ (i : Instr). has_small_index i ≡ true) is (at_each has_small_index code.instrs.items Instr.Exit t.indexes refl pc));
}

-- ---- flat code
pub record FlatTests (flat : Flat) : Type 0 where
  pub ints : nat_lt (256 * most_ints flat.functions) (2 ^ 32) ≡ true
  pub refs : nat_lt (256 * most_refs flat.functions) (2 ^ 32) ≡ true
  pub indexes : all_pass has_small_line flat.lines ≡ true

pub fits_made : (flat : Flat) → FlatTests flat → FitsMade flat
fits_made flat t = record {
  few_ints = below _ (2 ^ 32) t.ints;
  few_refs = below _ (2 ^ 32) t.refs;
  few_cells = λ n i elements cells field spot is. below (elements * cells + field) (2 ^ 63)
      (subst (λ (o : Option Op). passes has_small_line o ≡ true) is (got has_small_line flat.lines t.indexes n));
}
