-- A path of guarded code comes to where a path of flat code is.
use Rattle.sharc_guard.proofs.{Imports.{slice_get_past, slice_get-get_or, ◌≡◌, ℕ, ℤ, zero, suc, pos, ◌+◌, ◌-◌, ◌*◌, ◌<◌, ◌≤◌, ◌⊎◌, inl, inr, Bool, true, false, List, [], ◌∷◌, ◌++◌, length, refl, sym, ap, ◌∙◌, subst, arith, Some, None, Option, slice_get, append-nil, append_assoc, length-append, Act, Site, Trap, Function, Parameter, PlaceMode, Dynamic, SourcePlace, Char, Instr, NULL, stopped, event_of, Op, Spot, goes, asks, halts, op_turn, at_after, IsFlat, Leads, Thread, Phase, Running, Leaving, Left, Goes, Asks, Checks, Halts, Stopped, Ended, step, source_at, statement_at, weight, started, thread_after, weight_in, source_of, head, body, tail, own, expand, entered_at, check_under, Resolved, bottom, image, Wants, IsBeside}, Placing.{HasAt, entered_is, part_is, stands, place_next, statement_is, source_is}, Follows.{g, at, Callers, Is, Trailing, AtEnd, Near, Follow, follows, Bodied, Unlocked, leaving}, Heads.{IsPass, Asking, IsHead, AreHeads, heads}}
use Rattle.sharc_flat.specs.Machine as Flat
use Rattle.sharc_guard.specs.Machine as Form
use Rattle.sharc_guard.specs.Machine.{Turn}
use Rattle.sharc_guard.specs.Path as Guarded
use Rattle.sharc_flat.specs.Path as Flow

-- ---- how many statements a line is
one_check : (drop : Bool) (dynamic : Instr) (spot : Spot) (n : ℕ) (mode : PlaceMode) → length (check_under drop dynamic spot n mode) ≤ 1
one_check true dynamic spot n Dynamic = omega arith
one_check false dynamic spot n Dynamic = omega arith
one_check drop dynamic spot n _ = omega arith

abbrev Few : Bool → ℕ → Op → Option Instr → Type 0
Few drop n o None = Unit {0}
Few drop n o (Some i) = (length (head drop n o) + weight i + length (tail o) ≤ 4) × (length (head drop n o) ≤ 2)

few : (pl : ℕ → ℕ) (drop : Bool) (n : ℕ) (o : Op) → Few drop n o (body pl n o)
few pl drop n Op.Enter = tt
few pl drop n Op.BlockEnd = tt
few pl drop n (Op.Compute Char operator i a b spot) = (omega arith, omega arith)
few pl drop n (Op.Negate Char i a spot) = (omega arith, omega arith)
few pl drop n (Op.Load i cell spot) = let h = one_check drop (Instr.ChkRead cell n) spot n spot.mode in (omega arith, omega arith)
few pl drop n (Op.Store i cell spot) = let h = one_check drop (Instr.ChkWrite cell n) spot n spot.mode in (omega arith, omega arith)
few pl drop n (Op.LoadRef r cell spot) = let h = one_check false (Instr.ChkRead cell n) spot n spot.mode in (omega arith, omega arith)
few pl drop n (Op.StoreRef r cell spot) = let h = one_check false (Instr.ChkWrite cell n) spot n spot.mode in (omega arith, omega arith)
few pl drop n (Op.TakeCell r cell spot) = let h = one_check false (Instr.ChkWrite cell n) spot n spot.mode in (omega arith, omega arith)
few pl drop n _ = (omega arith, omega arith)

-- it has no statement of its own
abbrev pub IsIdle : Op → Type 0
IsIdle Op.Enter = Unit {0}
IsIdle Op.BlockEnd = Unit {0}
IsIdle _ = ⊥

pub idle_length : (pl : ℕ → ℕ) (drop : Bool) (n : ℕ) (o : Op) → IsIdle o → length (expand pl drop n o) ≡ 0
idle_length pl drop n Op.Enter h = refl
idle_length pl drop n Op.BlockEnd h = refl
idle_length pl drop n _ h = absurd h

idle_turn : (flat : Flat.Flat) (m : Flat.At) (o : Op) → IsIdle o → op_turn flat o m ≡ goes (Flat.next m)
idle_turn flat m Op.Enter h = refl
idle_turn flat m Op.BlockEnd h = refl
idle_turn flat m _ h = absurd h

idle_next : (flat : Flat.Flat) (n : ℕ) (o : Op) → IsIdle o → Leads flat n o → n + 1 < length flat.lines
idle_next flat n Op.Enter h l = l
idle_next flat n Op.BlockEnd h l = l
idle_next flat n _ h l = absurd h

pub bodied : (pl : ℕ → ℕ) (n : ℕ) (o : Op) → IsIdle o ⊎ ((i : Instr) × (body pl n o ≡ Some i))
bodied pl n Op.Enter = inl tt
bodied pl n Op.BlockEnd = inl tt
bodied pl n _ = inr (_, refl)

after_pass : (site : ℕ) (a : Thread) (t : Turn) (b : Thread) (x : ℤ) → IsPass site t b → Guarded.after a t x ≡ b
after_pass site a (Goes c) b x h = h
after_pass site a (Checks check n c) b x h = h.1
after_pass site a _ b x h = absurd h

module _ (dropped : ℕ → Bool) (flat : Flat.Flat) (ok : IsFlat flat) where
  abbrev p : Form.Program
  p = g dropped flat

  abbrev pl : ℕ → ℕ
  pl = at dropped flat

  -- the next statements are those that come before a line's own, and that
  record InHead (m : Flat.At) (a : Thread) : Type 0 where
    line : Op
    stands_there : slice_get flat.lines m.pc ≡ Some line
    own_is : Instr
    body_is : body pl m.pc line ≡ Some own_is
    lowered : List ℕ
    is : a ≡ image pl m a.pc lowered
    resolved : Resolved m.given lowered
    callers : Callers dropped flat m.frames
    hs : List Instr
    are_heads : AreHeads dropped flat m line hs
    has : HasAt p.statements a.pc (hs ++ own_is ∷ tail line)
    to : a.pc + (length hs + (1 + length (tail line))) ≡ pl (m.pc + 1)
    made : ℕ
    light : made + length hs + weight own_is + length (tail line) ≤ 4
    counted : made + length hs ≤ 2

  abbrev Where : Flat.At → Thread → Type 0
  Where m a = Is dropped flat m a ⊎ (InHead m a ⊎ (Trailing dropped flat m a ⊎ AtEnd dropped flat m a))

  -- how much may have been made, of so much for each line
  abbrev Slack : (m : Flat.At) (a : Thread) → Where m a → ℕ → ℕ → Type 0
  Slack m a (inr (inl h)) done all = done ≤ all + h.made
  Slack m a (inr (inr (inl h))) done all = done + 1 ≤ all
  Slack m a _ done all = done ≤ all

  abbrev near_where : (m : Flat.At) (a : Thread) → Near dropped flat m a → Where m a
  near_where m a (inl h) = inl h
  near_where m a (inr h) = inr (inr h)

  near_slack : (m : Flat.At) (a : Thread) (h : Near dropped flat m a) (done all : ℕ) → done + 1 ≤ all → Slack m a (near_where m a h) done all
  near_slack m a (inr (inl h)) done all le = le
  near_slack m a _ done all le = omega arith

  module _ (m0 : Flat.At) where
    -- ---- over the entries
    record Ahead (a : Thread) (answers : List ℤ) : Type 0 where
      later : List ℤ
      path : Flow.IsPath flat m0 later
      in_head : InHead (at_after flat m0 later) a
      fresh : in_head.made ≡ 0
      more : length answers ≤ length later

    turn_there : (m : Flat.At) (o : Op) → slice_get flat.lines m.pc ≡ Some o → Flat.turn flat m ≡ op_turn flat o m
    turn_there m o e = ap (λ l. Flat.line_turn flat l m) e

    skip_line : (fuel : ℕ) (answers : List ℤ) (a : Thread) → Flow.IsPath flat m0 answers → Is dropped flat (at_after flat m0 answers) a → length flat.lines ≤ (at_after flat m0 answers).pc + suc fuel
        → (Flow.IsPath flat m0 (pos 0 ∷ answers) → Is dropped flat (at_after flat m0 (pos 0 ∷ answers)) a → length flat.lines ≤ (at_after flat m0 (pos 0 ∷ answers)).pc + fuel → Ahead a (pos 0 ∷ answers))
        → Ahead a answers
    skip_line fuel answers a path h le rec = by_line (_, slice_get-get_or flat.lines (at_after flat m0 answers).pc Op.Enter h.inside)
      where
        enters : (o : Op) → slice_get flat.lines (at_after flat m0 answers).pc ≡ Some o → IsIdle o → Ahead a answers
        enters o s e =
            let m = at_after flat m0 answers in
            let t : Flat.turn flat m ≡ goes (Flat.next m) = turn_there m o s ∙ idle_turn flat m o e in
            let to : at_after flat m0 (pos 0 ∷ answers) ≡ Flat.next m = ap (λ t. Flow.after m t (pos 0)) t in
            let lt : m.pc + 1 < length flat.lines = idle_next flat m.pc o e (ok.each m.pc o s) in
            let w = place_next dropped flat m.pc o s in
            let w1 = idle_length pl (dropped m.pc) m.pc o e in
            let w2 : pl m.pc ≡ pl (m.pc + 1) = omega arith in
            let there : Is dropped flat (Flat.next m) a = record { lowered = h.lowered; is = h.is ∙ ap (λ q. image pl m q h.lowered) w2; resolved = h.resolved; inside = lt; callers = h.callers } in
            let r = rec (path, ap Flow.may_go t) (subst (λ m. Is dropped flat m a) (sym to) there) (subst (λ (m : Flat.At). length flat.lines ≤ m.pc + fuel) (sym to) (omega arith)) in
            record { later = r.later; path = r.path; in_head = r.in_head; fresh = r.fresh; more = let q = r.more in omega arith }

        stays : (o : Op) → slice_get flat.lines (at_after flat m0 answers).pc ≡ Some o → (i : Instr) → body pl (at_after flat m0 answers).pc o ≡ Some i → Ahead a answers
        stays o s i e =
            let m = at_after flat m0 answers in
            let whole : expand pl (dropped m.pc) m.pc o ≡ head (dropped m.pc) m.pc o ++ i ∷ tail o =
            ap (λ b. head (dropped m.pc) m.pc o ++ own b ++ tail o) e ∙ append_assoc (head (dropped m.pc) m.pc o) (i ∷ []) (tail o) in
            let f : Few (dropped m.pc) m.pc o (Some i) = subst (Few (dropped m.pc) m.pc o) e (few pl (dropped m.pc) m.pc o) in
            let f0 = f.0 in
            let f1 = f.1 in
            let pc_is : a.pc ≡ pl m.pc = ap (λ (a : Thread). a.pc) h.is in
            let n = place_next dropped flat m.pc o s in
            let n2 = ap length whole ∙ length-append (head (dropped m.pc) m.pc o) (i ∷ tail o) in
            record {
              later = answers;
              path = path;
              in_head = record {
                line = o;
                stands_there = s;
                own_is = i;
                body_is = e;
                lowered = h.lowered;
                is = h.is ∙ ap (λ q. image pl m q h.lowered) (sym pc_is);
                resolved = h.resolved;
                callers = h.callers;
                hs = head (dropped m.pc) m.pc o;
                are_heads = heads dropped flat m (dropped m.pc) o;
                has = subst (λ q. HasAt p.statements q (head (dropped m.pc) m.pc o ++ i ∷ tail o)) (sym pc_is) (subst (HasAt p.statements (pl m.pc)) whole (stands dropped flat m.pc o s));
                to = omega arith;
                made = 0;
                light = omega arith;
                counted = omega arith;
              };
              fresh = refl;
              more = omega arith;
            }

        by_body : (o : Op) → slice_get flat.lines (at_after flat m0 answers).pc ≡ Some o → IsIdle o ⊎ ((i : Instr) × (body pl (at_after flat m0 answers).pc o ≡ Some i)) → Ahead a answers
        by_body o s (inl e) = enters o s e
        by_body o s (inr e) = stays o s e.0 e.1

        by_line : (o : Op) × (slice_get flat.lines (at_after flat m0 answers).pc ≡ Some o) → Ahead a answers
        by_line s = by_body s.0 s.1 (bodied pl (at_after flat m0 answers).pc s.0)

    skips : (fuel : ℕ) (answers : List ℤ) (a : Thread) → Flow.IsPath flat m0 answers → Is dropped flat (at_after flat m0 answers) a → length flat.lines ≤ (at_after flat m0 answers).pc + fuel → Ahead a answers
    skips zero answers a path h le = let i = h.inside in absurd (omega arith)
    skips (suc fuel) answers a path h le = skip_line fuel answers a path h le (λ path2 h2 le2. skips fuel (pos 0 ∷ answers) a path2 h2 le2)

    -- ---- where a path comes
    record Come (a : Thread) (turns weighed : ℕ) : Type 0 where
      answers : List ℤ
      path : Flow.IsPath flat m0 answers
      stands_at : Where (at_after flat m0 answers) a
      count : Slack (at_after flat m0 answers) a stands_at turns (4 * length answers)
      pace : Slack (at_after flat m0 answers) a stands_at weighed (5 * length answers)

    -- a turn of each
    record Made (m : Flat.At) (t : Flat.Turn) (a : Thread) (u : Turn) (x : ℤ) : Type 0 where
      answer : ℤ
      go : Flow.may_go t ≡ true
      near : Near dropped flat (Flow.after m t answer) (Guarded.after a u x)

    made_of : (m : Flat.At) (a : Thread) (x : ℤ) (t : Flat.Turn) (u : Turn) → Follow dropped flat t u → Guarded.may_go u ≡ true → Made m t a u x
    made_of m a x (goes m2) (Goes b) h k = record { answer = pos 0; go = refl; near = h }
    made_of m a x (asks m2 site act held f) (Asks site' act' go) h k = let r = h.2 x in record { answer = r.0; go = refl; near = r.1 }
    made_of m a x (halts o) (Halts (Stopped c s)) h k = absurd (cc)
    made_of m a x (halts o) (Halts Ended) h k = absurd (cc)
    made_of m a x _ _ h k = absurd h

    module _ (a : Thread) (x : ℤ) (go : Guarded.may_go (Form.turn p a) ≡ true) (turns weighed : ℕ) where
      abbrev next_a : Thread
      next_a = Guarded.after a (Form.turn p a) x

      abbrev w : ℕ
      w = weight (statement_at p a.pc)

      abbrev Next : Type 0
      Next = Come next_a (turns + 1) (weighed + w)

      -- a line's own statement
      own_turn : (answers : List ℤ) → Flow.IsPath flat m0 answers → (h : InHead (at_after flat m0 answers) a) → h.hs ≡ [] → turns ≤ 4 * length answers + h.made → weighed ≤ 5 * length answers + h.made → Next
      own_turn answers path h e count pace =
          let m = at_after flat m0 answers in
          let q = a.pc in
          let has : HasAt p.statements q (h.own_is ∷ tail h.line) = subst (λ hs. HasAt p.statements q (hs ++ h.own_is ∷ tail h.line)) e h.has in
          let n : length h.hs ≡ 0 = ap length e in
          let to = h.to in
          let un : Unlocked m h.line = subst (AreHeads dropped flat m h.line) e h.are_heads in
          let s = source_is dropped flat m.pc h.line h.stands_there in
          let b : Bodied dropped flat m q h.lowered h.resolved h.callers h.line (Some h.own_is) =
          subst (Bodied dropped flat m q h.lowered h.resolved h.callers h.line) h.body_is (follows dropped flat m q h.lowered h.resolved h.callers ok h.line s (ok.each m.pc h.line h.stands_there) (omega arith) has.1 un) in
          let here : statement_at p q ≡ h.own_is = statement_is dropped flat q h.own_is has.0 in
          let t = turn_there m h.line h.stands_there in
          let u : Form.turn p a ≡ step p h.own_is (image pl m q h.lowered) = ap (λ i. step p i a) here ∙ ap (step p h.own_is) h.is in
          let f : Follow dropped flat (Flat.turn flat m) (Form.turn p a) = subst (λ t. Follow dropped flat t (Form.turn p a)) (sym t) (subst (Follow dropped flat (op_turn flat h.line m)) (sym u) b) in
          let r = made_of m a x (Flat.turn flat m) (Form.turn p a) f go in
          let l = h.light in
          let c = h.counted in
          let wi = ap weight here in
          record {
            answers = r.answer ∷ answers;
            path = (path, r.go);
            stands_at = near_where (Flow.after m (Flat.turn flat m) r.answer) next_a r.near;
            count = near_slack (Flow.after m (Flat.turn flat m) r.answer) next_a r.near (turns + 1) (4 * suc (length answers)) (omega arith);
            pace = near_slack (Flow.after m (Flat.turn flat m) r.answer) next_a r.near (weighed + w) (5 * suc (length answers)) (omega arith);
          }

      -- a statement before it
      head_turn : (answers : List ℤ) → Flow.IsPath flat m0 answers → (h : InHead (at_after flat m0 answers) a) (i : Instr) (rest : List Instr) → h.hs ≡ i ∷ rest → turns ≤ 4 * length answers + h.made → weighed ≤ 5 * length answers + h.made → Next
      head_turn answers path h i rest e count pace = by_test (subst (AreHeads dropped flat (at_after flat m0 answers) h.line) e h.are_heads).blocked refl
        where
          by_test : (b : Bool) → (subst (AreHeads dropped flat (at_after flat m0 answers) h.line) e h.are_heads).blocked ≡ b → Next
          by_test true f =
              let kk : IsHead dropped flat (at_after flat m0 answers) h.line i (AreHeads dropped flat (at_after flat m0 answers) h.line rest) = subst (AreHeads dropped flat (at_after flat m0 answers) h.line) e h.are_heads in
              let uu : Form.turn p a ≡ step p i (image pl (at_after flat m0 answers) a.pc h.lowered) = ap (λ i. step p i a) (statement_is dropped flat a.pc i (subst (λ hs. HasAt p.statements a.pc (hs ++ h.own_is ∷ tail h.line)) e h.has).0) ∙ ap (step p i) h.is in
              let q = ap Guarded.may_go (uu ∙ kk.stops a.pc h.lowered f) in
              let z : false ≡ true = sym q ∙ go in absurd (cc)
          by_test false f =
              let m = at_after flat m0 answers in
              let kk : IsHead dropped flat m h.line i (AreHeads dropped flat m h.line rest) = subst (AreHeads dropped flat m h.line) e h.are_heads in
              let hh : HasAt p.statements a.pc (i ∷ (rest ++ h.own_is ∷ tail h.line)) = subst (λ hs. HasAt p.statements a.pc (hs ++ h.own_is ∷ tail h.line)) e h.has in
              let st : statement_at p a.pc ≡ i = statement_is dropped flat a.pc i hh.0 in
              let uu : Form.turn p a ≡ step p i (image pl m a.pc h.lowered) = ap (λ i. step p i a) st ∙ ap (step p i) h.is in
              let to : next_a ≡ image pl m (a.pc + 1) h.lowered = ap (λ t. Guarded.after a t x) uu ∙ after_pass m.pc a (step p i (image pl m a.pc h.lowered)) (image pl m (a.pc + 1) h.lowered) x (kk.passes a.pc h.lowered f) in
              let pc_to : next_a.pc ≡ a.pc + 1 = ap (λ (a : Thread). a.pc) to in
              let n : length h.hs ≡ suc (length rest) = ap length e in
              let t = h.to in
              let l = h.light in
              let c = h.counted in
              let wi : w ≡ 1 = ap weight st ∙ kk.light in
              record {
                answers = answers;
                path = path;
                stands_at = inr (inl (record {
                  line = h.line;
                  stands_there = h.stands_there;
                  own_is = h.own_is;
                  body_is = h.body_is;
                  lowered = h.lowered;
                  is = to ∙ ap (λ q. image pl m q h.lowered) (sym pc_to);
                  resolved = h.resolved;
                  callers = h.callers;
                  hs = rest;
                  are_heads = kk.then_ f;
                  has = subst (λ q. HasAt p.statements q (rest ++ h.own_is ∷ tail h.line)) (sym pc_to) hh.1;
                  to = omega arith;
                  made = suc h.made;
                  light = omega arith;
                  counted = omega arith;
                }));
                count = omega arith;
                pace = omega arith;
              }

      line_turn : (answers : List ℤ) → Flow.IsPath flat m0 answers → (h : InHead (at_after flat m0 answers) a) (hs : List Instr) → h.hs ≡ hs → turns ≤ 4 * length answers + h.made → weighed ≤ 5 * length answers + h.made → Next
      line_turn answers path h [] e count pace = own_turn answers path h e count pace
      line_turn answers path h (i ∷ rest) e count pace = head_turn answers path h i rest e count pace

      -- the statement after it
      trailing_turn : (answers : List ℤ) → Flow.IsPath flat m0 answers → (h : Trailing dropped flat (at_after flat m0 answers) a) → turns + 1 ≤ 4 * length answers → weighed + 1 ≤ 5 * length answers → Next
      trailing_turn answers path h count pace =
          let m = at_after flat m0 answers in
          let st : statement_at p a.pc ≡ h.statement = statement_is dropped flat a.pc h.statement h.stands in
          let uu : Form.turn p a ≡ Goes h.later = ap (λ i. step p i a) st ∙ h.goes_there in
          let to : next_a ≡ h.later = ap (λ t. Guarded.after a t x) uu in
          let wi : w ≡ 1 = ap weight st ∙ h.light in
          record {
            answers = answers;
            path = path;
            stands_at = inl (subst (Is dropped flat m) (sym to) h.there);
            count = count;
            pace = omega arith;
          }

      -- after the last return
      end_at : (answers : List ℤ) (h : AtEnd dropped flat (at_after flat m0 answers) a) → Flat.turn flat (at_after flat m0 answers) ≡ Flat.end_turn flat (at_after flat m0 answers) h.steps
      end_at answers h =
          let m = at_after flat m0 answers in
          let e = h.pc_is in
          let k : m.pc - length flat.lines ≡ h.steps = omega arith in
          ap (λ l. Flat.line_turn flat l m) (slice_get_past flat.lines m.pc (omega arith)) ∙ ap (Flat.end_turn flat m) k

      site_same : (f : ℕ) → (Form.function_at p f).site ≡ (Flat.function_of flat f).site
      site_same = part_is dropped flat (λ (g : Function). g.site) (λ g. refl)

      -- its Return or its Gone
      leaves : (act : Act) (phase : Phase) (k : ℕ) (answers : List ℤ) → Flow.IsPath flat m0 answers → (h : AtEnd dropped flat (at_after flat m0 answers) a) → h.steps ≡ k → phase ≡ leaving dropped flat (suc k)
          → let m = at_after flat m0 answers in let told = record (Form.told a (Form.function_at p a.function).site act (pos 0)) { phase = phase } in Guarded.after a (Form.exit p a (leaving dropped flat k)) x ≡ told
          → Flow.after m (Flat.end_turn flat m k) (pos 0) ≡ Flat.next (Flat.with_event (event_of (Flat.function_of flat m.function).site act (pos 0)) m)
          → Flow.may_go (Flat.end_turn flat m k) ≡ true → turns ≤ 4 * length answers → weighed ≤ 5 * length answers → Next
      leaves act phase k answers path h e ph after_form after_flat may count pace =
          let m = at_after flat m0 answers in
          let t = end_at answers h ∙ ap (Flat.end_turn flat m) e in
          let uu : Form.turn p a ≡ Form.exit p a (leaving dropped flat k) = ap (λ i. step p i a) h.statement ∙ ap (Form.exit p a) (h.phase_is ∙ ap (leaving dropped flat) e) in
          let site = site_same a.function ∙ ap (λ f. (Flat.function_of flat f).site) h.function_is in
          let to : next_a ≡ record (Form.told a (Form.function_at p a.function).site act (pos 0)) { phase = phase } = ap (λ t. Guarded.after a t x) uu ∙ after_form in
          let mto : at_after flat m0 (pos 0 ∷ answers) ≡ Flat.next (Flat.with_event (event_of (Flat.function_of flat m.function).site act (pos 0)) m) = ap (λ t. Flow.after m t (pos 0)) t ∙ after_flat in
          let wi : w ≡ 1 = ap weight h.statement in
          let hp = h.pc_is in
          record {
            answers = pos 0 ∷ answers;
            path = (path, ap Flow.may_go t ∙ may);
            stands_at = inr (inr (inr (subst (λ m. AtEnd dropped flat m next_a) (sym mto) (subst (AtEnd dropped flat (Flat.next (Flat.with_event (event_of (Flat.function_of flat m.function).site act (pos 0)) m))) (sym to) (record {
              steps = suc k;
              pc_is = omega arith;
              statement = h.statement;
              phase_is = ph;
              function_is = h.function_is;
              events = ap (λ es. es ++ event_of (Form.function_at p a.function).site act (pos 0) ∷ []) h.events ∙ ap (λ s. m.events ++ event_of s act (pos 0) ∷ []) site;
              resolved = tt;
            })))));
            count = omega arith;
            pace = omega arith;
          }

      end_turn : (answers : List ℤ) → Flow.IsPath flat m0 answers → (h : AtEnd dropped flat (at_after flat m0 answers) a) (k : ℕ) → h.steps ≡ k → turns ≤ 4 * length answers → weighed ≤ 5 * length answers → Next
      end_turn answers path h zero e count pace = leaves Act.Return Leaving 0 answers path h e refl refl refl refl count pace
      end_turn answers path h (suc zero) e count pace = leaves Act.Gone Left 1 answers path h e refl refl refl refl count pace
      end_turn answers path h (suc (suc n)) e count pace =
          let uu : Form.turn p a ≡ Halts Ended = ap (λ i. step p i a) h.statement ∙ ap (Form.exit p a) (h.phase_is ∙ ap (leaving dropped flat) e) in
          let z : false ≡ true = sym (ap Guarded.may_go uu) ∙ go in
          absurd (cc)

      one_more : Come a turns weighed → Next
      one_more c = by_place c.stands_at c.count c.pace
        where
          by_place : (s : Where (at_after flat m0 c.answers) a) → Slack (at_after flat m0 c.answers) a s turns (4 * length c.answers) → Slack (at_after flat m0 c.answers) a s weighed (5 * length c.answers) → Next
          by_place (inl h) count pace =
              let r = skips (length flat.lines) c.answers a c.path h (omega arith) in
              let q = r.more in
              line_turn r.later r.path r.in_head r.in_head.hs refl (omega arith) (omega arith)
          by_place (inr (inl h)) count pace = line_turn c.answers c.path h h.hs refl count pace
          by_place (inr (inr (inl h))) count pace = trailing_turn c.answers c.path h count pace
          by_place (inr (inr (inr h))) count pace = end_turn c.answers c.path h h.steps refl count pace

  -- ---- the beginning
  module _ (f : ℕ) (v : ℤ) (lf : f < length flat.functions) where
    function_is : Form.function_at p f ≡ entered_at pl (Flat.function_of flat f)
    function_is = entered_is dropped flat f lf

    abbrev first_with : Function → Thread
    first_with fn = Guarded.with_parameter (record {
      pc = fn.entry;
      ints_from = 0;
      refs_from = 0;
      ints = λ i. pos 0;
      refs = λ i. NULL;
      pending = NULL;
      frames = bottom ∷ [];
      held = [];
      function = f;
      lowered = [];
      events = [];
      phase = Running;
    }) fn.parameter v

    abbrev starts : Flat.At
    starts = Flat.start flat f v

    parameter_is : (q : Parameter) → Guarded.with_parameter (image pl (Flat.first_at flat f) (pl (Flat.function_of flat f).entry) []) q v ≡ image pl (Flat.begun q v (Flat.first_at flat f)) (pl (Flat.function_of flat f).entry) []
    parameter_is Parameter.Int = refl
    parameter_is _ = refl

    pc_is : (q : Parameter) → (Flat.begun q v (Flat.first_at flat f)).pc ≡ (Flat.function_of flat f).entry
    pc_is Parameter.Int = refl
    pc_is _ = refl

    given_is : (q : Parameter) → Resolved (Flat.begun q v (Flat.first_at flat f)).given []
    given_is Parameter.Int = tt
    given_is _ = tt

    callers_are : (q : Parameter) → Callers dropped flat (Flat.begun q v (Flat.first_at flat f)).frames
    callers_are Parameter.Int = tt
    callers_are _ = tt

    begins : Is dropped flat starts (started p f v)
    begins =
        let q = (Flat.function_of flat f).parameter in
        record {
          lowered = [];
          is = ap first_with function_is ∙ parameter_is q ∙ ap (λ n. image pl starts (pl n) []) (sym (pc_is q));
          resolved = given_is q;
          inside = subst (λ n. n < length flat.lines) (sym (pc_is q)) (ok.entries f lf);
          callers = callers_are q;
        }

    all_of : (answers : List ℤ) → Guarded.IsPath p (started p f v) answers → Come starts (thread_after p (started p f v) answers) (length answers) (weight_in p (started p f v) answers)
    all_of [] path = record { answers = []; path = tt; stands_at = inl begins; count = omega arith; pace = omega arith }
    all_of (x ∷ earlier) path =
        subst (λ n. Come starts (thread_after p (started p f v) (x ∷ earlier)) n (weight_in p (started p f v) (x ∷ earlier))) (omega arith)
        (one_more starts (thread_after p (started p f v) earlier) x path.1 (length earlier) (weight_in p (started p f v) earlier) (all_of earlier path.0))

  -- ---- what guarded code is about to do
  wants_of : (m : Flat.At) (t : Flat.Turn) (u : Turn) → Flat.turn flat m ≡ t → Follow dropped flat t u → Wants flat p m u
  wants_of m (goes m2) (Goes b) e h = record { halts = λ c s q. absurd (cc); ends = λ q. absurd (cc); asks = λ s act go q. absurd (cc); checks = λ c s b q. absurd (cc) }
  wants_of m (asks m2 site act held f) (Asks site' act' go) e h = record {
    halts = λ c s q. absurd (cc);
    ends = λ q. absurd (cc);
    checks = λ c s b q. absurd (cc);
    asks = λ s a2 g2 q.
        let e1 : site' ≡ s = cc in
        let e2 : act' ≡ a2 = cc in
        (m2, held, f, e ∙ ap (λ z. asks m2 z act held f) (sym h.0 ∙ e1) ∙ ap (λ z. asks m2 s z held f) (sym h.1 ∙ e2));
  }
  wants_of m (halts o) (Halts (Stopped c s)) e h = record {
    halts = λ c2 s2 q.
        let e1 : c ≡ c2 = cc in
        let e2 : s ≡ s2 = cc in
        e ∙ ap halts h ∙ ap (λ z. halts (stopped z (source_at p s).site)) e1 ∙ ap (λ z. halts (stopped c2 (source_at p z).site)) e2;
    ends = λ q. absurd (cc);
    asks = λ s act go q. absurd (cc);
    checks = λ c s b q. absurd (cc);
  }
  wants_of m (halts o) (Halts Ended) e h = record { halts = λ c s q. absurd (cc); ends = λ q. e ∙ ap halts h; asks = λ s act go q. absurd (cc); checks = λ c s b q. absurd (cc) }
  wants_of m _ _ e h = absurd h

  goes_wants : (m : Flat.At) (u : Turn) (b : Thread) → u ≡ Goes b → Wants flat p m u
  goes_wants m u b e = record { halts = λ c s q. absurd (cc); ends = λ q. absurd (cc); asks = λ s act go q. absurd (cc); checks = λ c s b q. absurd (cc) }

  asking_wants : (m : Flat.At) (u : Turn) (b : Thread) (o : Op) → slice_get flat.lines m.pc ≡ Some o → Asking dropped flat m o → Flat.turn flat m ≡ op_turn flat o m → IsPass m.pc u b → Wants flat p m u
  asking_wants m (Goes c) b o s k t h = goes_wants m (Goes c) c refl
  asking_wants m (Checks check n c) b o s k t h = record {
    halts = λ c s q. absurd (cc);
    ends = λ q. absurd (cc);
    asks = λ s act go q. absurd (cc);
    checks = λ c2 n2 b2 q.
        let e1 : n ≡ n2 = cc in
        let site : (source_of o).site ≡ (source_at p n2).site = sym (ap (λ (sp : SourcePlace). sp.site) (source_is dropped flat m.pc o s)) ∙ ap (λ n. (source_at p n).site) (sym h.0 ∙ e1) in
        (k.from, k.act, k.held, k.go, t ∙ k.asks_it ∙ ap (λ z. asks k.from z k.act k.held k.go) site);
  }
  asking_wants m _ b o s k t h = absurd h

  stopping_wants : (m : Flat.At) (u : Turn) (c : Trap) (n : ℕ) → u ≡ Halts (Stopped c n) → Flat.turn flat m ≡ halts (stopped c (source_at p n).site) → Wants flat p m u
  stopping_wants m u c n e t = record {
    halts = λ c2 s2 q.
        let e0 : Halts (Stopped c n) ≡ Halts (Stopped c2 s2) = sym e ∙ q in
        let e1 : c ≡ c2 = cc in
        let e2 : n ≡ s2 = cc in
        t ∙ ap (λ z. halts (stopped z (source_at p n).site)) e1 ∙ ap (λ z. halts (stopped c2 (source_at p z).site)) e2;
    ends = λ q. absurd (cc);
    asks = λ s act go q. absurd (cc);
    checks = λ c s b q. absurd (cc);
  }

  in_head_wants : (m : Flat.At) (a : Thread) (h : InHead m a) (hs : List Instr) → h.hs ≡ hs → Wants flat p m (Form.turn p a)
  in_head_wants m a h [] e =
      let q = a.pc in
      let has : HasAt p.statements q (h.own_is ∷ tail h.line) = subst (λ hs. HasAt p.statements q (hs ++ h.own_is ∷ tail h.line)) e h.has in
      let n : length h.hs ≡ 0 = ap length e in
      let to = h.to in
      let un : Unlocked m h.line = subst (AreHeads dropped flat m h.line) e h.are_heads in
      let s = source_is dropped flat m.pc h.line h.stands_there in
      let b : Bodied dropped flat m q h.lowered h.resolved h.callers h.line (Some h.own_is) =
      subst (Bodied dropped flat m q h.lowered h.resolved h.callers h.line) h.body_is (follows dropped flat m q h.lowered h.resolved h.callers ok h.line s (ok.each m.pc h.line h.stands_there) (omega arith) has.1 un) in
      let here : statement_at p q ≡ h.own_is = statement_is dropped flat q h.own_is has.0 in
      let t : Flat.turn flat m ≡ op_turn flat h.line m = ap (λ l. Flat.line_turn flat l m) h.stands_there in
      let u : Form.turn p a ≡ step p h.own_is (image pl m q h.lowered) = ap (λ i. step p i a) here ∙ ap (step p h.own_is) h.is in
      wants_of m (op_turn flat h.line m) (Form.turn p a) t (subst (Follow dropped flat (op_turn flat h.line m)) (sym u) b)
  in_head_wants m a h (i ∷ rest) e =
      let kk : IsHead dropped flat m h.line i (AreHeads dropped flat m h.line rest) = subst (AreHeads dropped flat m h.line) e h.are_heads in
      let hh : HasAt p.statements a.pc (i ∷ (rest ++ h.own_is ∷ tail h.line)) = subst (λ hs. HasAt p.statements a.pc (hs ++ h.own_is ∷ tail h.line)) e h.has in
      let uu : Form.turn p a ≡ step p i (image pl m a.pc h.lowered) = ap (λ i. step p i a) (statement_is dropped flat a.pc i hh.0) ∙ ap (step p i) h.is in
      let t : Flat.turn flat m ≡ op_turn flat h.line m = ap (λ l. Flat.line_turn flat l m) h.stands_there in
      head_wants m a h i rest kk uu t kk.blocked refl
    where
      head_wants : (m : Flat.At) (a : Thread) (h : InHead m a) (i : Instr) (rest : List Instr) (kk : IsHead dropped flat m h.line i (AreHeads dropped flat m h.line rest)) → Form.turn p a ≡ step p i (image pl m a.pc h.lowered) → Flat.turn flat m ≡ op_turn flat h.line m
          → (b : Bool) → kk.blocked ≡ b → Wants flat p m (Form.turn p a)
      head_wants m a h i rest kk uu t true f =
          let site : (source_of h.line).site ≡ (source_at p m.pc).site = sym (ap (λ (sp : SourcePlace). sp.site) (source_is dropped flat m.pc h.line h.stands_there)) in
          stopping_wants m (Form.turn p a) Trap.NullPointer m.pc (uu ∙ kk.stops a.pc h.lowered f) (t ∙ kk.flat_stops f ∙ ap (λ s. halts (stopped Trap.NullPointer s)) site)
      head_wants m a h i rest kk uu t false f =
          subst (Wants flat p m) (sym uu) (asking_wants m (step p i (image pl m a.pc h.lowered)) (image pl m (a.pc + 1) h.lowered) h.line h.stands_there (kk.wants f) t (kk.passes a.pc h.lowered f))

  asked_wants : (m : Flat.At) (a : Thread) (site site' : Site) (act : Act) (f : ℤ → Flat.At → Flat.At) (go : ℤ → Thread) → Flat.turn flat m ≡ asks m site act (pos 0) f → Form.turn p a ≡ Asks site' act go → site' ≡ site → Wants flat p m (Form.turn p a)
  asked_wants m a site site' act f go t u same = subst (Wants flat p m) (sym u) (record {
    halts = λ c s q. absurd (cc);
    ends = λ q. absurd (cc);
    checks = λ c s b q. absurd (cc);
    asks = λ s a2 g2 q.
        let e1 : site' ≡ s = cc in
        let e2 : act ≡ a2 = cc in
        (m, pos 0, f, t ∙ ap (λ z. asks m z act (pos 0) f) (sym same ∙ e1) ∙ ap (λ z. asks m s z (pos 0) f) e2);
  })

  end_wants : (m : Flat.At) (a : Thread) (h : AtEnd dropped flat m a) (k : ℕ) → h.steps ≡ k → Wants flat p m (Form.turn p a)
  end_wants m a h k e = by_steps k (turns k e) (uu k e)
    where
      turns : (k : ℕ) → h.steps ≡ k → Flat.turn flat m ≡ Flat.end_turn flat m k
      turns k e =
          let e1 = h.pc_is in
          let z : m.pc - length flat.lines ≡ k = omega arith in
          ap (λ l. Flat.line_turn flat l m) (slice_get_past flat.lines m.pc (omega arith)) ∙ ap (Flat.end_turn flat m) z

      uu : (k : ℕ) → h.steps ≡ k → Form.turn p a ≡ Form.exit p a (leaving dropped flat k)
      uu k e = ap (λ i. step p i a) h.statement ∙ ap (Form.exit p a) (h.phase_is ∙ ap (leaving dropped flat) e)

      site : (Form.function_at p a.function).site ≡ (Flat.function_of flat m.function).site
      site = part_is dropped flat (λ (g : Function). g.site) (λ g. refl) a.function ∙ ap (λ f. (Flat.function_of flat f).site) h.function_is

      by_steps : (k : ℕ) → Flat.turn flat m ≡ Flat.end_turn flat m k → Form.turn p a ≡ Form.exit p a (leaving dropped flat k) → Wants flat p m (Form.turn p a)
      by_steps zero t u = asked_wants m a (Flat.function_of flat m.function).site (Form.function_at p a.function).site Act.Return (λ v n. Flat.next n) (λ x. record (Form.told a (Form.function_at p a.function).site Act.Return (pos 0)) { phase = Leaving }) t u site
      by_steps (suc zero) t u = asked_wants m a (Flat.function_of flat m.function).site (Form.function_at p a.function).site Act.Gone (λ v n. Flat.next n) (λ x. record (Form.told a (Form.function_at p a.function).site Act.Gone (pos 0)) { phase = Left }) t u site
      by_steps (suc (suc n)) t u = subst (Wants flat p m) (sym u) (record { halts = λ c s q. absurd (cc); ends = λ q. t; asks = λ s act go q. absurd (cc); checks = λ c s b q. absurd (cc) })

  -- ---- the whole
  module _ (f : ℕ) (v : ℤ) (lf : f < length flat.functions) where
    abbrev origin : Flat.At
    origin = Flat.start flat f v

    beside : (a : Thread) (turns weighed : ℕ) → Come origin a turns weighed → IsBeside pl flat p f v a turns weighed
    beside a turns weighed c = by_place c.stands_at c.count c.pace
      where
        in_head : (answers : List ℤ) → Flow.IsPath flat origin answers → (h : InHead (at_after flat origin answers) a) → turns ≤ 4 * length answers + h.made → weighed ≤ 5 * length answers + h.made → IsBeside pl flat p f v a turns weighed
        in_head answers path h count pace =
            let c = h.counted in
            let pc_is = h.is in
            record {
              answers = answers;
              path = path;
              events = ap (λ (a : Thread). a.events) h.is;
              given = ([], subst (Resolved (at_after flat origin answers).given) (sym (append-nil a.lowered)) (subst (Resolved (at_after flat origin answers).given) (sym (ap (λ (a : Thread). a.lowered) h.is)) h.resolved));
              image_is = inl (record { lowered = h.lowered; is = h.is });
              wants = in_head_wants (at_after flat origin answers) a h h.hs refl;
              count = omega arith;
              pace = omega arith;
            }

        by_place : (s : Where (at_after flat origin c.answers) a) → Slack (at_after flat origin c.answers) a s turns (4 * length c.answers) → Slack (at_after flat origin c.answers) a s weighed (5 * length c.answers) → IsBeside pl flat p f v a turns weighed
        by_place (inl h) count pace =
            let r = skips origin (length flat.lines) c.answers a c.path h (omega arith) in
            let q = r.more in
            in_head r.later r.path r.in_head (omega arith) (omega arith)
        by_place (inr (inl h)) count pace = in_head c.answers c.path h count pace
        by_place (inr (inr (inl h))) count pace = record {
          answers = c.answers;
          path = c.path;
          events = h.events;
          given = (h.more, h.resolved);
          image_is = inr (inl (record {
            later = h.later;
            goes_there = ap (λ i. step p i a) (statement_is dropped flat a.pc h.statement h.stands) ∙ h.goes_there;
            there = record { lowered = h.there.lowered; is = h.there.is ∙ ap (λ q. image pl (at_after flat origin c.answers) q h.there.lowered) (sym (ap (λ (b : Thread). b.pc) h.there.is)) };
          }));
          wants = goes_wants (at_after flat origin c.answers) (Form.turn p a) h.later (ap (λ i. step p i a) (statement_is dropped flat a.pc h.statement h.stands) ∙ h.goes_there);
          count = omega arith;
          pace = omega arith;
        }
        by_place (inr (inr (inr h))) count pace = record {
          answers = c.answers;
          path = c.path;
          events = h.events;
          given = ([], subst (Resolved (at_after flat origin c.answers).given) (sym (append-nil a.lowered)) h.resolved);
          image_is = inr (inr (record { behind = let e = h.pc_is in omega arith; function_is = h.function_is }));
          wants = end_wants (at_after flat origin c.answers) a h h.steps refl;
          count = omega arith;
          pace = omega arith;
        }

    pub keeps : (answers : List ℤ) → Guarded.IsPath p (started p f v) answers → IsBeside pl flat p f v (thread_after p (started p f v) answers) (length answers) (weight_in p (started p f v) answers)
    keeps answers path = beside (thread_after p (started p f v) answers) (length answers) (weight_in p (started p f v) answers) (all_of f v lf answers path)
