-- The code of guarded code: each statement is one instruction, and a call leads to the entry of its function.
use Rattle.std.specs.Prelude.{◌≡◌, List, map, slice_index_or}
use Rattle.sharc_code.specs.{declared.code.Code.Code, declared.code.Function.Function, declared.instr.Instr.Instr}
use Rattle.sharc_code.specs.{declared.instr.Instr.TheVariants.Call, Machine.no_function}
use Rattle.sharc_guard.specs.{declared.guarded.Guarded.Guarded, Machine.Program}

abbrev pub instr_of : List Function → Instr → Instr
instr_of functions (Call f ints refs site) = Call (slice_index_or functions f no_function).entry ints refs site
instr_of functions i = i

abbrev pub generated : List Function → List Instr → List Instr
generated functions statements = map (instr_of functions) statements

-- the code of guarded code
pub record IsGenerated (g : Guarded) (code : Code) : Type 0 where
  pub instrs : code.instrs.items ≡ generated g.functions.items g.statements.items
  pub functions : code.functions ≡ g.functions
  pub main : code.main ≡ g.main
  pub globals : code.globals ≡ g.globals
  pub granules : code.granules ≡ g.granules
  pub initial : code.initial ≡ g.initial
  pub layouts : code.layouts ≡ g.layouts
  pub pointers : code.pointers ≡ g.pointers
  pub sites : code.sites ≡ g.sites
  pub texts : code.texts ≡ g.texts
  pub files : code.files ≡ g.files

-- what the machine of guarded code looks at
abbrev pub program_of : Guarded → Program
program_of g = record {
  statements = g.statements.items;
  functions = g.functions.items;
  globals = g.globals.items;
  sites = g.sites.items;
}

-- the same of these statements over the tables of code
abbrev pub program_over : Code → List Instr → Program
program_over code statements = record {
  statements = statements;
  functions = code.functions.items;
  globals = code.globals.items;
  sites = code.sites.items;
}
