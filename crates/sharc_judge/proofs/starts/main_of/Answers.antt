use Rattle.std.proofs.Common.{◌≡◌, sym, ◌∙◌, refl, Some, None}
use Rattle.sharc_tree.specs.View.{view_function}
use Rattle.sharc_ctype.specs.Resolved.{functions_in, function_at}
use Rattle.sharc_judge.proofs.Mains.{main_end, main_here, main_on}
use Rattle.sharc_judge.proofs.starts.main_of.Goals as goal

pub loop-n-init : goal.loop-n-init
loop-n-init c = refl

pub returns-in-None : goal.returns-in-None
returns-in-None c =
    let at : function_at c.args.typed.now c.loop-n.n ≡ None = sym c.in-None.ensures in
    record { main = sym (main_end c.loop-n.n c.loop-n.n (functions_in c.args.typed.now.program.items) at) ∙ c.loop-n.invariant; entries = c.entry_laws.ensures c.args.typed.now c.program.ensures.resolved }

pub returns-then-eq : goal.returns-then-eq
returns-then-eq c =
    let at : function_at c.args.typed.now c.loop-n.n ≡ Some (view_function c.in-Some.f.now) = sym c.in-Some.ensures in
    record { main = sym (main_here c.loop-n.n c.loop-n.n (functions_in c.args.typed.now.program.items) (view_function c.in-Some.f.now) at _ _ c.as_slice.ensures c.as_slice-in-Some.ensures (sym c.eq.ensures ∙ c.if-eq.true)) ∙ c.loop-n.invariant; entries = c.entry_laws.ensures c.args.typed.now c.program.ensures.resolved }

pub loop-n-preserved : goal.loop-n-preserved
loop-n-preserved c =
    let at : function_at c.args.typed.now c.loop-n.n ≡ Some (view_function c.in-Some.f.now) = sym c.in-Some.ensures in
    sym (main_on c.loop-n.n c.loop-n.n (functions_in c.args.typed.now.program.items) (view_function c.in-Some.f.now) at _ _ c.as_slice.ensures c.as_slice-in-Some.ensures (sym c.eq.ensures ∙ c.if-eq.false)) ∙ c.loop-n.invariant
