use Rattle.std.proofs.{Common.{◌≡◌, false, ◌&&◌, ◌||◌, ap, sym, ◌∙◌}, lemmas.Bool.or_left}
use Rattle.sharc_judge.specs.declared.rule.Rule.TheVariants as rule
use Rattle.sharc_judge.specs.Reads.{against_write, against_reads}
use Rattle.sharc_judge.proofs.Sharing.{beside_is}
use Rattle.sharc_judge.proofs.past.Past.is_beside.Goals as goal

pub returns-then-against_write : goal.returns-then-against_write
returns-then-against_write c =
    c.if-against_write.true
    ∙ sym (or_left (against_write c.args.thread c.args.a c.args.self.now) (c.args.a.is_write && against_reads c.args.thread c.args.a c.args.self.now) (sym c.against_write.ensures ∙ c.if-against_write.true))
    ∙ beside_is c.same_laws.ensures c.args.thread c.args.a c.args.self.now (c.requires rule.ReadSharedOrOneThread)

pub returns-then-a : goal.returns-then-a
returns-then-a c =
    let reads = against_reads c.args.thread c.args.a c.args.self.now in
    let none : against_write c.args.thread c.args.a c.args.self.now ≡ false = sym c.against_write.ensures ∙ c.if-against_write.false in
    c.against_reads.ensures
    ∙ sym (ap (λ b. b || (c.args.a.is_write && reads)) none ∙ ap (λ w. w && reads) c.if-a.true)
    ∙ beside_is c.same_laws.ensures c.args.thread c.args.a c.args.self.now (c.requires rule.ReadSharedOrOneThread)

pub returns-else-a : goal.returns-else-a
returns-else-a c =
    let reads = against_reads c.args.thread c.args.a c.args.self.now in
    let none : against_write c.args.thread c.args.a c.args.self.now ≡ false = sym c.against_write.ensures ∙ c.if-against_write.false in
    c.if-a.false
    ∙ sym (ap (λ b. b || (c.args.a.is_write && reads)) none ∙ ap (λ w. w && reads) c.if-a.false)
    ∙ beside_is c.same_laws.ensures c.args.thread c.args.a c.args.self.now (c.requires rule.ReadSharedOrOneThread)
