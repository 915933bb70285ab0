-- The variables in scope where casts are suggested, beside all names in scope where C typing looks.
use Rattle.sharc_suggest_laws.proofs.{Imports.{◌≡◌, ℕ, Bool, true, false, cond, List, [], ◌∷◌, Option, Some, None, refl, bytes_eq, Declaration, Entry, Meaning, look_up, DefinedTwice, is_here, declared_notes, entry_of, true_no}, Noted.{Clean, behind_head, not_wrong}}
use Rattle.sharc_names.specs.Names as meaning
use Rattle.sharc_ctype.specs.Statements.{declared}

-- a variable is the same, and what is not one is what the file has of that name
abbrev pub IsFoundAs : Option Entry → Option Entry → Option Entry → Type 0
IsFoundAs None found file = found ≡ file
IsFoundAs (Some e) found file = (x : Entry) × (found ≡ Some x) × (x.meaning ≡ e.meaning)

abbrev pub Scoped : List Entry → List Entry → List Entry → Type 0
Scoped file names scope = (text : List ℕ) → IsFoundAs (look_up scope text) (look_up names text) (look_up file text)

pub scoped_file : (file : List Entry) → Scoped file file []
scoped_file file text = refl

found_behind : (file : Option Entry) (d : Declaration) (from : ℕ) (b : Bool) (scope names : Option Entry) → IsFoundAs scope names file
    → IsFoundAs (cond b (Some (entry_of d)) scope) (cond b (Some (record { name = d.name.text; block = from; meaning = meaning.variable d })) names) file
found_behind file d from true scope names is = (record { name = d.name.text; block = from; meaning = meaning.variable d }, refl, refl)
found_behind file d from false scope names is = is

scoped_by : (file names scope : List Entry) (d : Declaration) (from : ℕ) → Scoped file names scope → (b : Bool) → b ≡ false
    → Scoped file (cond b names (record { name = d.name.text; block = from; meaning = meaning.variable d } ∷ names)) (entry_of d ∷ scope)
scoped_by file names scope d from is true not_so text = absurd (true_no not_so)
scoped_by file names scope d from is false not_so text = found_behind (look_up file text) d from (bytes_eq d.name.text text) (look_up scope text) (look_up names text) (is text)

-- after a declaration of which no fault is reported
pub scoped_with : (file names scope : List Entry) (d : Declaration) (from : ℕ) → Scoped file names scope → Clean (declared_notes from d names) → Scoped file (declared from d names) (entry_of d ∷ scope)
scoped_with file names scope d from is clean = scoped_by file names scope d from is (is_here from names d) (not_wrong (is_here from names d) d.name.site.token DefinedTwice (behind_head _ _ _ clean))
