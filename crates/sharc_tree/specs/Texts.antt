-- The texts of types and of spans of tokens, as lists of bytes.
use Rattle.std.specs.Prelude.{◌≡◌, ℕ, Bool, false, ◌&&◌, ◌||◌, cond, nat_le, ◌==◌, List, [], ◌∷◌, ◌++◌, Option, Some}
use Rattle.std.specs.Prelude.{None, Result, OnOk, codes}
use Rattle.sharc_tree.specs.{declared.ctype.Path.Path, declared.ctype.Path.TheVariants.{One, Through}}
use Rattle.sharc_tree.specs.declared.ctype.Mode.{Mode}
use Rattle.sharc_tree.specs.declared.ctype.Mode.TheVariants.{Private, Readonly, Locked, Racy, Dynamic}
use Rattle.sharc_tree.specs.declared.ctype.Base.{Base}
use Rattle.sharc_tree.specs.declared.ctype.Base.TheVariants.{Int, Char, Long, Mutex, Void, Struct}
use Rattle.sharc_tree.specs.{declared.ctype.CType.CType, declared.token.Token.Token}

abbrev pub base_text : Base → List ℕ
base_text Int = codes "int"
base_text Char = codes "char"
base_text Long = codes "long"
base_text Mutex = codes "mutex"
base_text Void = codes "void"
base_text (Struct name) = codes "struct " ++ name

abbrev pub path_text : Path → List ℕ
path_text (One mutex token) = mutex
path_text (Through variable token mutex) = variable ++ codes "->" ++ mutex

abbrev pub mode_text : Mode → List ℕ
mode_text Private = codes "private"
mode_text Readonly = codes "readonly"
mode_text (Locked path) = codes "locked(" ++ path_text path ++ codes ")"
mode_text Racy = codes "racy"
mode_text Dynamic = codes "dynamic"

-- a mode that is known, with a blank before it
abbrev pub level_text : Option Mode → List ℕ
level_text None = []
level_text (Some mode) = codes " " ++ mode_text mode

-- a level above others is a star
abbrev pub star_above : List (Option Mode) → List ℕ
star_above [] = []
star_above (_ ∷ _) = codes " *"

-- the levels go from the top down, and are written from the base up
abbrev pub levels_text : List (Option Mode) → List ℕ
levels_text [] = []
levels_text (level ∷ below) = levels_text below ++ star_above below ++ level_text level

abbrev pub type_text : CType → List ℕ
type_text t = base_text t.base ++ levels_text t.levels

abbrev pub is_between : ℕ → ℕ → ℕ → Bool
is_between low high b = nat_le low b && nat_le b high

-- a word or a number begins with a letter, a digit or `_`
abbrev pub is_word : List ℕ → Bool
is_word [] = false
is_word (b ∷ _) = is_between 97 122 b || is_between 65 90 b || is_between 48 57 b || b == 95

abbrev pub blank_between : Token → List Token → List ℕ
blank_between t [] = []
blank_between t (next ∷ _) = cond (is_word t.text && is_word next.text) (codes " ") []

abbrev pub tokens_text : List Token → List ℕ
tokens_text [] = []
tokens_text (t ∷ rest) = t.text ++ blank_between t rest ++ tokens_text rest

-- this text came after the old one
abbrev pub Appends : {A E : Type 0} → Result A E → List ℕ → List ℕ → List ℕ → Type 0
Appends result more old new = OnOk result (new ≡ old ++ more)
