use Rattle.std.proofs.Common.{refl}
use Rattle.sharc_history.proofs.Naming.{noted_global, noted_made}
use Rattle.sharc_history.proofs.places.names.LastOrigins.put.Goals as goal

pub returns-in_ok-insert-in-Global : goal.returns-in_ok-insert-in-Global
returns-in_ok-insert-in-Global c =
    noted_global c.args.self.now record { globals = c.insert.new.self; made = c.args.self.now.made } c.args.cell c.in-Global.number c.in-Global.cell c.args.origin c.in-Global.is
    c.in_ok-insert-in-Global.ensures.updates.0 refl

pub returns-in_ok-insert-in-Made : goal.returns-in_ok-insert-in-Made
returns-in_ok-insert-in-Made c =
    noted_made c.args.self.now record { globals = c.args.self.now.globals; made = c.insert-in-Made.new.self } c.args.cell c.in-Made.number c.in-Made.cell c.args.origin c.in-Made.is
    c.in_ok-insert-in-Made.ensures.updates.0 refl
