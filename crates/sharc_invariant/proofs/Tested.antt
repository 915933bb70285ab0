-- What a test of a sole reference finds.
use Rattle.sharc_invariant.proofs.{Imports.{◌≡◌, ℕ, zero, suc, ◌+◌, ◌≤◌, ◌≢◌, Bool, true, false, refl, sym, ap, ◌∙◌, subst, arith, slice_index, ◌==◌, if◌then◌else◌, test_of, Code, Instr, Shape, Stop, NotSole, count_word, Machine, act, instr_at, goes, stopped, tested, ref, may_go, Turn, Global, at, MayTurn, after_turn, result_of, one_thread, bounds, put_same, Targets, Labels, IsWellTyped, World, RegisterOf, In, in_ref, lang_of, first_place, State, size_of_run, references_to, TestStands, RunsTest, RunsFromTheBeginning, eq_refl}, Effects.count_pos, Own.{rests, top, fine}, Plain.register_plain, Counts.count_is, Turns.asks_turn, BitTurns.found_at, Stands.count_stands}

more_than_one : (n : ℕ) → 1 ≤ n → n ≢ 1 → 2 ≤ n
more_than_one zero le ne = absurd (omega (arith, le))
more_than_one (suc zero) le ne = absurd (ne refl)
more_than_one (suc (suc n)) le ne = omega arith

goes_at_one : (m : Machine) (stop : Stop) (b : Bool) → may_go (if b then goes m else stopped m stop).at.state ≡ b
goes_at_one m stop true = refl
goes_at_one m stop false = refl

test_stands : (x : Targets) (code : Code) (s : Shape) (ls : Labels) (wt : IsWellTyped x code ls) (g : Global Machine) (world : World) (st : State x code s ls g world) (tr : Turn) (may : MayTurn bounds (one_thread code s) g tr)
    (r site : ℕ) → instr_at code (g.threads tr.thread).at.pc ≡ Instr.TestSole r site
    → TestStands (result_of tr.event) (references_to x code s g world.obj (ref (g.threads tr.thread) r)) (may_go ((after_turn bounds (one_thread code s) g tr).threads tr.thread).at.state)
test_stands x code s ls wt g world st tr may r site is =
    let t = tr.thread in
    let m = g.threads t in
    let i = Instr.TestSole r site in
    let k = m.at.refs + r in
    let f = fine x code s ls wt g world st t may.started may.next.runs i is refl in
    let tp = top x code s ls wt g world st t may.started may.next.runs i is refl in
    let reads : ref m r ≡ in_ref world (RegisterOf t k) = sym (st.sim.regs t k ∙ register_plain code m (rests x code s ls wt g world st t may.started may.next.runs i is refl) k) in
    let nz : in_ref world (RegisterOf t k) ≢ 0 = (tp (suc r) 0).known r (omega arith) f.2 in
    let nzm : ref m r ≢ 0 = λ z. nz (sym reads ∙ z) in
    let live : (world.obj (ref m r)).live ≡ true = subst (λ o. (world.obj o).live ≡ true) (sym reads) (st.inv.words.fits (In (RegisterOf t k)) nz).live in
    let w = count_word s (ref m r) in
    let found = slice_index g.words w in
    let act_is = ap (λ i. act code s i m) is in
    let number : found ≡ references_to x code s g world.obj (ref m r) = count_stands x code s ls wt g world st (ref m r) nzm live in
    let counted : world.count (ref m r) ≡ found = st.sim.counts (ref m r) nzm live ∙ ap (slice_index g.words) (sym (count_is s (ref m r) (st.apart.headers (ref m r) live))) in
    let some : 1 ≤ found = subst (λ n. 1 ≤ n) (ap world.count (sym reads) ∙ counted) (count_pos (size_of_run code s) (lang_of x) world st.inv (In (RegisterOf t k)) nz) in
    let done = asks_turn code s g tr may (test_of w) (tested m site) act_is in
    let goes_is : may_go ((after_turn bounds (one_thread code s) g tr).threads t).at.state ≡ (found == 1) =
    ap (λ (y : Global Machine). may_go (y.threads t).at.state) done.0 ∙ ap (λ (n : Machine). may_go n.at.state) (put_same g.threads t (tested m site found)) ∙ goes_at_one m (NotSole site found) (found == 1) in
    record {
      number = (found_at code s g tr may (test_of w) (tested m site) act_is) ∙ number;
      refused = λ z. subst (λ n. 2 ≤ n) number (more_than_one found some (λ e. let one' : (found == 1) ≡ true = ap (λ n. n == 1) e ∙ eq_refl 1 in let none = sym goes_is ∙ z in absurd (cc)));
    }

pub runs_test : RunsFromTheBeginning → RunsTest
runs_test runs x code s ls wt fits small turns tr run r site is =
    let z = runs x code s ls wt fits small turns run.0 in
    let g = at bounds (one_thread code s) (first_place code s) turns in
    subst (λ obj. TestStands (result_of tr.event) (references_to x code s g obj (ref (g.threads tr.thread) r)) (may_go ((after_turn bounds (one_thread code s) g tr).threads tr.thread).at.state)) z.objects
    (test_stands x code s ls wt g z.stands.world z.stands.state tr run.1 r site is)
