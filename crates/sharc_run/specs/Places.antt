-- The texts of a code's sites.
use Rattle.std.specs.Prelude.{ℕ, List, [], ◌++◌, codes, decimal, slice_index_or, slice_range}
use Rattle.sharc_tree.specs.declared.token.Site.{Site}
use Rattle.sharc_code.specs.{declared.code.Code.Code, declared.code.Text.Text, Says.place_at}

-- the bytes of a text
abbrev pub text_of : Code → Text → List ℕ
text_of code t = slice_range code.texts.items t.from t.until

-- F:N, file and line
abbrev pub site_text : Code → Site → List ℕ
site_text code s = slice_index_or code.files s.file [] ++ codes ":" ++ decimal s.line

-- how its lvalue is written
abbrev pub lvalue : Code → ℕ → List ℕ
lvalue code site = text_of code (place_at code site).lvalue

-- how the lock of its mode is written
abbrev pub lock_path : Code → ℕ → List ℕ
lock_path code site = text_of code (place_at code site).lock

abbrev pub at_site : Code → ℕ → List ℕ
at_site code site = codes " at " ++ site_text code (place_at code site).site

-- LV at F:N
abbrev pub lvalue_at : Code → ℕ → List ℕ
lvalue_at code site = lvalue code site ++ at_site code site
