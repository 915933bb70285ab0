-- What the lexer has read so far, without where it lies in memory.
use Rattle.sharc_lex.specs.{Grammar.Read, declared.reading.Reading.Reading}

abbrev pub read_of : Reading → Read
read_of r = record { tokens = r.tokens.items; files = r.files; here = r.here; next = r.next }
