-- The numbers of generated code are in the ranges of those of its guarded code.
use Rattle.sharc_compile.proofs.Imports.{◌≡◌, ℕ, zero, suc, ◌+◌, ◌*◌, ◌^◌, ◌<◌, ◌≤◌, List, [], ◌∷◌, length, map, sym, ap, ◌∙◌, subst, arith, Some, slice_get, get_or as slice_index_or, slice_index, Code, Function, Instr, Register, instr_at, most_ints, most_refs, GlobalsFit, NumbersFit, Guarded, IsGuarded, TablesFit, IsGenerated, instr_of, program_of}

-- an instruction that is no call is where its statement is
module _ (fs : List Function) where
  spawn_is : (i : Instr) (to function site : ℕ) (from : Register) → instr_of fs i ≡ Instr.Spawn to function from site → i ≡ Instr.Spawn to function from site
  spawn_is (Instr.Call f ints refs at) to function site from e = absurd (cc)
  spawn_is _ to function site from e = e

  bounds_is : (i : Instr) (of elements cells field site : ℕ) → instr_of fs i ≡ Instr.GlobalBounds of elements cells field site → i ≡ Instr.GlobalBounds of elements cells field site
  bounds_is (Instr.Call f ints refs at) of elements cells field site e = absurd (cc)
  bounds_is _ of elements cells field site e = e

  spawn_there : (ss : List Instr) (pc to function site : ℕ) (from : Register) → slice_index_or (map (instr_of fs) ss) pc Instr.Exit ≡ Instr.Spawn to function from site → slice_get ss pc ≡ Some (Instr.Spawn to function from site)
  spawn_there [] pc to function site from e = absurd (cc)
  spawn_there (s ∷ ss) zero to function site from e = ap Some (spawn_is s to function site from e)
  spawn_there (s ∷ ss) (suc pc) to function site from e = spawn_there ss pc to function site from e

  bounds_there : (ss : List Instr) (pc of elements cells field site : ℕ) → slice_index_or (map (instr_of fs) ss) pc Instr.Exit ≡ Instr.GlobalBounds of elements cells field site → slice_get ss pc ≡ Some (Instr.GlobalBounds of elements cells field site)
  bounds_there [] pc of elements cells field site e = absurd (cc)
  bounds_there (s ∷ ss) zero of elements cells field site e = ap Some (bounds_is s of elements cells field site e)
  bounds_there (s ∷ ss) (suc pc) of elements cells field site e = bounds_there ss pc of elements cells field site e

module _ (g : Guarded) (code : Code) (made : IsGenerated g code) (good : IsGuarded (program_of g)) (tables : TablesFit g) where
  abbrev fs : List Function
  fs = g.functions.items

  abbrev ss : List Instr
  ss = g.statements.items

  there : (pc : ℕ) → instr_at code pc ≡ slice_index_or (map (instr_of fs) ss) pc Instr.Exit
  there pc = ap (λ is. slice_index_or is pc Instr.Exit) made.instrs

  functions_are : code.functions.items ≡ fs
  functions_are = λ i. (made.functions i).items

  few : (pc of elements cells field site : ℕ) → slice_get ss pc ≡ Some (Instr.GlobalBounds of elements cells field site) → elements * cells + field < 2 ^ 63
  few zero of elements cells field site e = let z : Instr.Start good.start ≡ Instr.GlobalBounds of elements cells field site = some_is (sym good.starts ∙ e) in absurd (cc)
    where
      some_is : {a b : Instr} → Some a ≡ Some b → a ≡ b
      some_is e = cc
  few (suc zero) of elements cells field site e = let z : Instr.Exit ≡ Instr.GlobalBounds of elements cells field site = some_is (sym good.exits ∙ e) in absurd (cc)
    where
      some_is : {a b : Instr} → Some a ≡ Some b → a ≡ b
      some_is e = cc
  few (suc (suc pc)) of elements cells field site e = (good.each (suc (suc pc)) (Instr.GlobalBounds of elements cells field site) (omega arith) e).few

  pub numbers_fit : code.granules ≤ 65536 → NumbersFit code
  numbers_fit granules = record {
    frames = record {
      ints = subst (λ fs. 256 * most_ints fs < 2 ^ 32) (sym functions_are) good.frames.ints;
      refs = subst (λ fs. 256 * most_refs fs < 2 ^ 32) (sym functions_are) good.frames.refs;
    };
    functions = subst (λ (fs : List Function). length fs < 2 ^ 32) (sym functions_are) tables.functions;
    main = subst (λ (fs : List Function). code.main < length fs) (sym functions_are) (subst (λ m. m < length fs) (sym made.main) tables.main);
    few = granules;
    globals = subst (λ gs. GlobalsFit gs code.granules) (sym (λ i. (made.globals i).items)) (subst (GlobalsFit g.globals.items) (sym made.granules) tables.globals);
    words = λ j. subst (λ (xs : List ℕ). slice_index xs j < 2 ^ 64) (sym (λ i. (made.initial i).items)) (tables.words j);
    spawned = λ pc to function site from e. subst (λ (fs : List Function). function < length fs) (sym functions_are) (tables.spawned pc to function site from (spawn_there fs ss pc to function site from (sym (there pc) ∙ e)));
    indexes = λ pc of elements cells field site e. few pc of elements cells field site (bounds_there fs ss pc of elements cells field site (sym (there pc) ∙ e));
  }
