-- Where a statement is, as the definitions see it.
use Rattle.sharc_names.specs.View.{view_kind}
use Rattle.sharc_ctype.specs.{declared.statement.Around.{Around as RustAround}, Statements.Around}

abbrev pub view_around : RustAround → Around
view_around i = record { result = view_kind i.result; in_loop = i.in_loop; block = i.block }
