-- The turns of one machine by codes that are alike, and its path.
use Rattle.sharc_sound_laws.proofs.{Imports.{◌≡◌, ℕ, ◌*◌, ◌+◌, ◌-◌, ◌/◌, ◌%◌, ◌&&◌, ◌==◌, not, pos, max, true, cond, List, [], ◌∷◌, length, get_or, replicate, nat_lt, nat_le, slice_index, ℤ, Some, None, refl, sym, ap, ◌∙◌, subst, range_with_len, WordOp, Code, Function, Layout, Instr, Shape, Stage, Rests, Empties, Enters, Runs, FRAMES, granules, words_of, cell_word, cell_of, function_word, top_word, next_thread_word, state_word, Machine, act, instr_at, step_of, returned, goes_to, holds_none, trapped, back_to, no_frame, free, pointer_cell, fields, field_of, layout_at, no_layout, ref, start, entered, called, with_parameter, function_of, no_function, at_stage, first_global, first_heap, opening_words, opens_with, most_ints, most_refs, begun, turn, after, asked_by, may_go, counted, machine_after, IsPath, CodePath, made_in, asks_for, wait_of, blank, unnamed, AreAlike}, Lists.{ap2, map_same, length_of, element_of, fold_same}}
use Rattle.sharc_tree.specs.declared.trap.Trap.{Trap}
use Rattle.sharc_code.specs.{Layout.function_at, Machine.Turn}

-- one turn asks for what the other asks for, and leads where that leads
pub record IsSameTurn (t u : Turn) : Type 0 where
  pub asked : asked_by t ≡ asked_by u
  pub leads : (found : ℕ) → after t found ≡ after u found

itself : (t : Turn) → IsSameTurn t t
itself t = record { asked = refl; leads = λ found. refl }

module _ (a b : Code) (alike : AreAlike a b) where
  -- ---- functions
  -- what is made of one without its name
  pub by_function : {A : Type 0} (f : Function → A) → ((g : Function) → f g ≡ f (unnamed g)) → (n : ℕ) → f (function_of a n) ≡ f (function_of b n)
  by_function f without n = without (function_of a n) ∙ ap f (element_of unnamed a.functions.items b.functions.items n no_function alike.functions) ∙ sym (without (function_of b n))

  pub function_at_same : (n : ℕ) → function_at a n ≡ function_at b n
  function_at_same n = ap2 (λ k m. cond (nat_lt n k) n m) (length_of unnamed a.functions.items b.functions.items alike.functions) alike.main

  -- ---- one turn
  module _ (s : Shape) where
    returned_same : (m : Machine) (site : ℕ) → returned a m site ≡ returned b m site
    returned_same m site = ap (λ (is : List Instr). cond (m.at.depth == 0) (goes_to m (length is))
        (cond (m.at.depth == 1 && not (holds_none m.own.held)) (trapped m Trap.ReturnWithLockHeld site) (back_to m (m.at.depth - 1) (get_or m.frames (m.at.depth - 1) no_frame)))) alike.instrs

    pointer_same : (l : Layout) (i : ℕ) → pointer_cell a l i ≡ pointer_cell b l i
    pointer_same l i = ap (λ (ps : List ℕ). field_of (i / fields l) l.cells (slice_index ps (l.from + i % fields l))) alike.pointers

    free_same : (m : Machine) (r : ℕ) (l : Layout) (stage : Stage) → IsSameTurn (free a s m r l stage) (free b s m r l stage)
    free_same m r l (Empties i elements) = record { asked = ap (λ n. Some (step_of (cell_word s (cell_of (ref m r) n)) (WordOp.Swap 0))) (pointer_same l i); leads = λ found. refl }
    free_same m r l stage = itself (free a s m r l stage)

    entered_same : (m : Machine) (n site argument : ℕ) → entered a m n site argument ≡ entered b m n site argument
    entered_same m n site argument = by_function (λ f. called (with_parameter (record m { own = record m.own { stage = Rests; function = n } }) f.parameter argument) f.entry 0 0 site) (λ g. refl) n

    start_same : (m : Machine) (site : ℕ) (stage : Stage) → IsSameTurn (start a m site stage) (start b m site stage)
    start_same m site (Enters n) = record { asked = refl; leads = λ found. entered_same m n site found }
    start_same m site stage = record { asked = refl; leads = λ found. ap (λ n. at_stage m (Enters n)) (function_at_same found) }

    act_same : (i : Instr) (m : Machine) → IsSameTurn (act a s i m) (act b s i m)
    act_same (Instr.Return site) m = record { asked = refl; leads = λ found. returned_same m site }
    act_same (Instr.Free r layout site) m = subst (λ l. IsSameTurn (free a s m r (layout_at a layout) m.own.stage) (free b s m r l m.own.stage))
        (ap (λ (ls : List Layout). get_or ls layout no_layout) alike.layouts) (free_same m r (layout_at a layout) m.own.stage)
    act_same (Instr.Start site) m = start_same m site m.own.stage
    act_same i m = itself (act a s i m)

    pub instr_same : (pc : ℕ) → instr_at a pc ≡ instr_at b pc
    instr_same pc = ap (λ (is : List Instr). get_or is pc Instr.Exit) alike.instrs

    pub turn_same : (m : Machine) → IsSameTurn (turn a s m) (turn b s m)
    turn_same m = subst (λ i. IsSameTurn (turn a s m) (act b s i m)) (instr_same m.at.pc) (act_same (instr_at a m.at.pc) m)

    -- ---- the beginning
    abbrev with_registers : ℕ → List ℤ → List ℕ → ℕ → Machine
    with_registers thread is rs main = record {
      at = record { pc = 0; ints = 0; refs = 0; depth = 0; state = Runs };
      ints = is;
      refs = rs;
      pending = 0;
      frames = replicate FRAMES no_frame;
      own = record {
        number = thread;
        function = main;
        table = record { notes = replicate (granules s) blank; order = [] };
        held = [];
        heads = replicate 16 0;
        prints = [];
        stage = Rests;
        stop = None;
      };
    }

    pub begun_same : (thread : ℕ) → begun a s thread ≡ begun b s thread
    begun_same thread =
        ap (λ is. with_registers thread (replicate (FRAMES * is) (pos 0)) (replicate (FRAMES * most_refs a.functions.items) 0) a.main) (fold_same unnamed (λ most f. max most f.ints) a.functions.items b.functions.items 0 alike.functions)
        ∙ ap (λ rs. with_registers thread (replicate (FRAMES * most_ints b.functions.items) (pos 0)) (replicate (FRAMES * rs) 0) a.main) (fold_same unnamed (λ most f. max most f.refs) a.functions.items b.functions.items 0 alike.functions)
        ∙ ap (with_registers thread (replicate (FRAMES * most_ints b.functions.items) (pos 0)) (replicate (FRAMES * most_refs b.functions.items) 0)) alike.main

    opens_same : (word : ℕ) → opens_with a s word ≡ opens_with b s word
    opens_same word = ap2 (λ (main : ℕ) (cells : List ℕ). cond (word == top_word) (1 + s.globals) (cond (word == next_thread_word) 1 (cond (word == state_word 0) 1 (cond (word == function_word 0) main
        (cond (nat_le (first_global s) word && nat_lt word (first_heap s)) (slice_index cells (word - first_global s)) 0))))) alike.main alike.initial

    pub opening_same : opening_words a s ≡ opening_words b s
    opening_same = map_same (opens_with a s) (opens_with b s) opens_same (range_with_len 0 (words_of s))

    -- ---- paths
    pub machine_same : (m : Machine) (founds : List ℕ) → machine_after a s m founds ≡ machine_after b s m founds
    machine_same m [] = refl
    machine_same m (found ∷ earlier) = (turn_same (machine_after a s m earlier)).leads found ∙ ap (λ k. after (turn b s k) found) (machine_same m earlier)

    pub path_same : (m : Machine) (founds : List ℕ) → IsPath a s m founds → IsPath b s m founds
    path_same m [] path = tt
    path_same m (found ∷ earlier) path = (path_same m earlier path.0, subst (λ (k : Machine). may_go k.at.state ≡ true) (machine_same m earlier) path.1)

    pub made_same : (m : Machine) (founds : List ℕ) → made_in a s m founds ≡ made_in b s m founds
    made_same m [] = refl
    made_same m (found ∷ earlier) = ap2 (λ n (k : Machine). n + counted k.at.state) (made_same m earlier) (machine_same m (found ∷ earlier))

    pub code_path_same : (thread : ℕ) (founds : List ℕ) → CodePath a s thread founds → CodePath b s thread founds
    code_path_same thread founds path = subst (λ m. IsPath b s m founds) (begun_same thread) (path_same (begun a s thread) founds path)

    -- ---- waiting
    pub wait_same : (m : Machine) → wait_of a s m ≡ wait_of b s m
    wait_same m = ap (λ i. cond (may_go m.at.state) (asks_for s i m) None) (instr_same m.at.pc)
