-- Calls and returns: the frames of code beside those of guarded code.
use Rattle.sharc_compile.proofs.{Imports.{◌≡◌, ℕ, suc, ◌+◌, ◌-◌, ◌^◌, ◌<◌, ◌≤◌, Bool, true, false, not, ◌&&◌, List, [], ◌∷◌, length, refl, sym, ap, ◌∙◌, subst, arith, get_or as slice_index_or, slice_set, ◌==◌, nat_lt, None, lt-ltb, ltb-true, ne_eqb, length-set, get_or-set_same, get_or-set_other, append-nil, if◌then◌else◌, CellAt, Trap, HeldMutex, Code, Instr, Shape, Frame, Runs, Rests, first_cell, Machine, goes_to, trapped, called, has_room, returned, back_to, no_frame, holds_none, Program, Thread, Turn, Goes, Halts, Running, turn, function_at, program_over, Elements, Same, AreFrames, AreHeld}, Turns.{Turned, goes_on, trapped_now}}
use Rattle.sharc_guard.specs.Machine as Form

depth_is : (fs : List Frame) (d : ℕ) (slots : List Frame) → AreFrames fs d slots → d ≡ length fs
depth_is [] d slots h = h
depth_is (f ∷ fs) d slots h = let e = h.0 in omega arith

-- a write at or above the depth changes none of them
frames_kept : (fs : List Frame) (d : ℕ) (slots : List Frame) (k : ℕ) (f : Frame) → d ≤ k → AreFrames fs d slots → AreFrames fs d (slice_set slots k f)
frames_kept [] d slots k f le h = h
frames_kept (g ∷ fs) d slots k f le h =
    let e = h.0 in
    (h.0, get_or-set_other slots k (length fs) f no_frame (λ (q : length fs ≡ k). omega arith) ∙ h.1, frames_kept fs (length fs) slots k f (omega arith) h.2)

both_true : (x y z w : Bool) → y ≡ true → z ≡ true → w ≡ true → ((x && y) && (z && w)) ≡ x
both_true true y z w ey ez ew = rw (ey, ez, ew) refl
both_true false y z w ey ez ew = refl

module _ (code : Code) (s : Shape) (statements : List Instr) (T : Elements) (m : Machine) (a : Thread) (cost : ℕ) (one : cost ≤ 1) (rest : m.own.stage ≡ Rests)
    (same : Same code s T m a) (pc : a.pc ≡ m.at.pc) (running : a.phase ≡ Running) where
  abbrev p : Program
  p = program_over code statements

  abbrev Done : Turn → Machine → Type 0
  Done t m' = Turned code s statements T m a cost t 1 m' None

  room_is : (ints refs : ℕ) → length a.frames ≤ 256 → a.ints_from + ints < 2 ^ 32 → a.refs_from + refs < 2 ^ 32 → has_room m ints refs ≡ nat_lt (length a.frames) 256
  room_is ints refs few li lr =
      let d = depth_is a.frames m.at.depth m.frames same.in_frames in
      let ei = same.from_ints in
      let er = same.from_refs in
      both_true (nat_lt m.at.depth (length m.frames)) (nat_lt (m.at.depth + 1) (2 ^ 32)) (nat_lt (m.at.ints + ints) (2 ^ 32)) (nat_lt (m.at.refs + refs) (2 ^ 32))
      (lt-ltb (m.at.depth + 1) (2 ^ 32) (omega arith)) (lt-ltb (m.at.ints + ints) (2 ^ 32) (omega arith)) (lt-ltb (m.at.refs + refs) (2 ^ 32) (omega arith))
      ∙ ap (λ n. nat_lt m.at.depth n) same.slot_count ∙ ap (λ n. nat_lt n 256) d

  abbrev inner : (f ints refs : ℕ) → Thread
  inner f ints refs = record a {
    pc = (function_at p f).entry;
    ints_from = a.ints_from + ints;
    refs_from = a.refs_from + refs;
    frames = record { pc = a.pc + 1; ints = a.ints_from; refs = a.refs_from } ∷ a.frames;
  }

  abbrev callee : (f ints refs : ℕ) → Machine
  callee f ints refs = record m {
    at = record { pc = (function_at p f).entry; ints = m.at.ints + ints; refs = m.at.refs + refs; depth = m.at.depth + 1; state = Runs };
    frames = slice_set m.frames m.at.depth record { pc = m.at.pc + 1; ints = m.at.ints; refs = m.at.refs };
  }

  pub calls : (f ints refs site : ℕ) → length a.frames ≤ 256 → a.ints_from + ints < 2 ^ 32 → a.refs_from + refs < 2 ^ 32 → turn p a ≡ Form.called p a f ints refs site
      → Done (Form.called p a f ints refs site) (called m (function_at p f).entry ints refs site)
  calls f ints refs site few li lr is = each (nat_lt (length a.frames) 256) (has_room m ints refs) (room_is ints refs few li lr) refl is
    where
      F : ℕ → ℕ → ℕ → Frame
      F x y z = record { pc = x + 1; ints = y; refs = z }

      frame_is : F a.pc a.ints_from a.refs_from ≡ F m.at.pc m.at.ints m.at.refs
      frame_is = ap (λ x. F x a.ints_from a.refs_from) pc ∙ ap (λ y. F m.at.pc y a.refs_from) same.from_ints ∙ ap (F m.at.pc m.at.ints) same.from_refs

      callee_same : length a.frames < 256 → Same code s T (callee f ints refs) (inner f ints refs)
      callee_same lt =
          let d = depth_is a.frames m.at.depth m.frames same.in_frames in
          let c = same.slot_count in
          record {
            from_ints = ap (λ k. k + ints) same.from_ints;
            from_refs = ap (λ k. k + refs) same.from_refs;
            in_ints = same.in_ints;
            in_refs = same.in_refs;
            loaded = same.loaded;
            slot_count = length-set m.frames m.at.depth _ ∙ same.slot_count;
            in_frames = (
              ap (λ n. n + 1) d,
              ap (λ n. slice_index_or (slice_set m.frames m.at.depth record { pc = m.at.pc + 1; ints = m.at.ints; refs = m.at.refs }) n no_frame) (sym d) ∙ get_or-set_same m.frames m.at.depth _ no_frame (omega arith) ∙ sym frame_is,
              subst (λ n. AreFrames a.frames n (slice_set m.frames m.at.depth record { pc = m.at.pc + 1; ints = m.at.ints; refs = m.at.refs })) d (frames_kept a.frames m.at.depth m.frames m.at.depth _ (omega arith) same.in_frames),
            );
            in_log = same.in_log;
            function_is = same.function_is;
          }

      each : (b c : Bool) → c ≡ b → nat_lt (length a.frames) 256 ≡ b → turn p a ≡ (if b then Goes (inner f ints refs) else Halts (Form.Stopped Trap.CallDepth site))
          → Done (if b then Goes (inner f ints refs) else Halts (Form.Stopped Trap.CallDepth site)) (if c then callee f ints refs else trapped m Trap.CallDepth site)
      each true true e q is = goes_on code s statements T m a cost one rest 1 (omega arith) (callee f ints refs) (inner f ints refs) (callee_same (ltb-true (length a.frames) 256 q)) refl (sym (append-nil a.events)) running refl rest
      each false false e q is = trapped_now code s statements T m a cost one rest same pc running Trap.CallDepth site 1 is
      each true false e q is = absurd (cc)
      each false true e q is = absurd (cc)

  back_same : (f : Frame) (fs : List Frame) (d : ℕ) → AreFrames fs d m.frames → Same code s T (back_to m d f) (Form.back_to a f fs)
  back_same f fs d k = record {
    from_ints = refl;
    from_refs = refl;
    in_ints = same.in_ints;
    in_refs = same.in_refs;
    loaded = same.loaded;
    slot_count = same.slot_count;
    in_frames = k;
    in_log = same.in_log;
    function_is = same.function_is;
  }

  goes_back : (f : Frame) (fs : List Frame) (d : ℕ) → AreFrames fs d m.frames → Done (Goes (Form.back_to a f fs)) (back_to m d f)
  goes_back f fs d k = goes_on code s statements T m a cost one rest 1 (omega arith) (back_to m d f) (Form.back_to a f fs) (back_same f fs d k) refl (sym (append-nil a.events)) running refl rest

  abbrev Returned : ℕ → ℕ → Machine
  Returned site d =
      if d == 0 then goes_to m (length code.instrs.items)
      else (if d == 1 && not (holds_none m.own.held) then trapped m Trap.ReturnWithLockHeld site
      else back_to m (d - 1) (slice_index_or m.frames (d - 1) no_frame))

  some_held : (hs : List CellAt) (es : List HeldMutex) → AreHeld code.globals.items (first_cell s) hs es → nat_lt 0 (length hs) ≡ not (holds_none es)
  some_held [] [] h = refl
  some_held [] (e ∷ es) h = absurd h
  some_held (x ∷ hs) [] h = absurd h
  some_held (x ∷ hs) (e ∷ es) h = lt-ltb 0 (suc (length hs)) (omega arith)

  returns_at : (site : ℕ) (fs : List Frame) (d : ℕ) → 0 < length fs → AreFrames fs d m.frames → turn p a ≡ Form.returned p a site fs → Done (Form.returned p a site fs) (Returned site d)
  returns_at site [] d some h is = absurd (omega arith)
  returns_at site (f ∷ []) d some h is =
      let e : d ≡ 1 = h.0 in
      subst (λ d. Done (Form.returned p a site (f ∷ [])) (Returned site d)) (sym e)
      (each (nat_lt 0 (length a.held)) (not (holds_none m.own.held)) (some_held a.held m.own.held same.in_log) is)
    where
      each : (b c : Bool) → b ≡ c → turn p a ≡ (if b then Halts (Form.Stopped Trap.ReturnWithLockHeld site) else Goes (Form.back_to a f []))
          → Done (if b then Halts (Form.Stopped Trap.ReturnWithLockHeld site) else Goes (Form.back_to a f [])) (if c then trapped m Trap.ReturnWithLockHeld site else back_to m 0 (slice_index_or m.frames 0 no_frame))
      each true true e is = trapped_now code s statements T m a cost one rest same pc running Trap.ReturnWithLockHeld site 1 is
      each false false e is = subst (λ g. Done (Goes (Form.back_to a f [])) (back_to m 0 g)) (sym h.1) (goes_back f [] 0 refl)
      each true false e is = absurd (cc)
      each false true e is = absurd (cc)
  returns_at site (f ∷ g ∷ fs) d some h is =
      let e0 : d ≡ suc (length fs) + 1 = h.0 in
      let e : d - 1 ≡ suc (length fs) = omega arith in
      let n0 : (d == 0) ≡ false = ne_eqb d 0 (λ q. omega arith) in
      let n1 : (d == 1) ≡ false = ne_eqb d 1 (λ q. omega arith) in
      rw (n0, n1) (subst (λ n. Done (Goes (Form.back_to a f (g ∷ fs))) (back_to m n (slice_index_or m.frames n no_frame))) (sym e)
      (subst (λ x. Done (Goes (Form.back_to a f (g ∷ fs))) (back_to m (suc (length fs)) x)) (sym h.1) (goes_back f (g ∷ fs) (suc (length fs)) h.2)))

  pub returns : (site : ℕ) → 0 < length a.frames → turn p a ≡ Form.returned p a site a.frames → Done (Form.returned p a site a.frames) (returned code m site)
  returns site some is = returns_at site a.frames m.at.depth some same.in_frames is
