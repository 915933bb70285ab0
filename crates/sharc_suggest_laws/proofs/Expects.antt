-- What is expected of a value that is given in a typed program: as many modes as the receiver has stars, whose lock
-- paths lead to something.
use Rattle.sharc_suggest_laws.proofs.{Imports.{◌≡◌, ℕ, zero, suc, ◌+◌, ◌==◌, Bool, true, false, cond, List, [], ◌∷◌, drop, Option, Some, None, option_map, refl, ap, sym, subst, ◌∙◌, eqb-true, arith, false≢true, and_parts, AllByRecursion, Base, Declaration, Identifier, WrittenType, Expression, identifier, Arguments, no_arguments, argument, Function, Named, Kind, object, null, agrees, is_integer, is_integral, is_null, is_pointer, same_kind, stars_of, declared_kind, Entity, declared, entity_at, Resolution, functions_in, declaration_at, function_at, named_at, named_kind, variable_kind, kind_at, IsFair, parameters_of, parameters_named, passed, IsItself, HasWrittenLocks, expected, Assignment, IsWhole, written, at_call, Targets, argument_use, constant_use, declared_row, entity_row, is_constant_named, modes_of, row_at, Sharing, beyond, Receiver, of_declared, of_left, of_parameter, wanted, at_place, one_some, none_some}, Given.{Declares, FirstFits, Receives, IsWellFunction}, Leads.{ArgumentsFit, IsVariableAt}, ModesKept.{HasModes, modes_of_row}, Retyped.one_kind, Targets.{IsRow, IsRowOf, IsKnownProgram, own_row, targets_of}}

-- ---- what agrees with what (6.5.16.1)

-- what receives a value is an object
pub receiver_object : (want k : Kind) → agrees want k ≡ true → (b : Base) × (n : ℕ) × (want ≡ object b n)
receiver_object (object b n) k is = (b, n, refl)
receiver_object j k is = absurd (false≢true (by (is_null k) (is_integer k) is))
  where
    by : (x y : Bool) → cond x (is_pointer j) (cond y (is_integer j) (same_kind j k)) ≡ true → false ≡ true
    by true y h = h
    by false true h = h
    by false false h = h

-- it has the type that is received, or both are integers
pub data Agreed (b : Base) (n : ℕ) (k : Kind) : Type 0 where
  same : k ≡ object b n → Agreed b n k
  integers : (c : Base) → n ≡ 0 → k ≡ object c 0 → Agreed b n k

object_agreed : (b c : Base) (n j : ℕ) (z : Bool) → is_integer (object c j) ≡ z → cond z (is_integer (object b n)) (same_kind (object b n) (object c j)) ≡ true → Agreed b n (object c j)
object_agreed b c n j true integer is =
    let no_star : j ≡ 0 = eqb-true j 0 (and_parts (j == 0) (is_integral c) integer).0 in
    integers c (eqb-true n 0 (and_parts (n == 0) (is_integral b) is).0) (ap (object c) no_star)
object_agreed b c n j false integer is = same (sym (one_kind (object b n) (object c j) is))

pub agreed : (b : Base) (n : ℕ) (k : Kind) → is_null k ≡ false → agrees (object b n) k ≡ true → Agreed b n k
agreed b n (object c j) other is = object_agreed b c n j (is_integer (object c j)) refl is
agreed b n null other is = absurd (false≢true (sym other))
agreed b n _ other is = absurd (false≢true is)

-- ---- arguments that are constant variables

variable_not_null : (o : Option Declaration) → is_null (variable_kind o) ≡ false
variable_not_null None = refl
variable_not_null (Some d) = refl

pub no_star_less : (n : ℕ) → n + 1 ≡ 0 → ⊥
no_star_less n is = omega (arith, is)

pointer_agreed : (b : Base) (n : ℕ) (k : Kind) → Agreed b (n + 1) k → k ≡ object b (n + 1)
pointer_agreed b n k (same is) = is
pointer_agreed b n k (integers c none is) = absurd (no_star_less n none)

-- one that is used as such
use_fits : (r : Resolution) (i : Identifier) (v : Named) → named_at r i.site.token ≡ v → (y : ℕ) → cond (is_constant_named r v) (Some i.site.token) None ≡ Some y → (b : Base) (n : ℕ) → agrees (object b (n + 1)) (named_kind r v) ≡ true
    → IsVariableAt r y × (named_kind r (named_at r y) ≡ object b (n + 1))
use_fits r i (Named.Variable x) at y is b n fit = by (is_constant_named r (Named.Variable x)) is
  where
    by : (z : Bool) → cond z (Some i.site.token) None ≡ Some y → IsVariableAt r y × (named_kind r (named_at r y) ≡ object b (n + 1))
    by true h =
        let there : i.site.token ≡ y = one_some i.site.token y h in
        let name : named_at r y ≡ Named.Variable x = ap (named_at r) (sym there) ∙ at in
        ((x, name), ap (named_kind r) name ∙ pointer_agreed b n (named_kind r (Named.Variable x)) (agreed b (n + 1) (named_kind r (Named.Variable x)) (variable_not_null (declaration_at r x)) fit))
    by false h = absurd (none_some y h)
use_fits r i _ at y is b n fit = absurd (none_some y is)

argument_fits : (r : Resolution) (a : Expression) (y : ℕ) → constant_use r a ≡ Some y → (b : Base) (n : ℕ) → agrees (object b (n + 1)) (kind_at r a) ≡ true → IsVariableAt r y × (named_kind r (named_at r y) ≡ object b (n + 1))
argument_fits r (identifier s i) y is b n fit = use_fits r i (named_at r i.site.token) refl y is b n fit
argument_fits r _ y is b n fit = absurd (cc)

pub arguments_fit : (r : Resolution) (ds : List Declaration) (all : Arguments) → AllByRecursion (IsItself r Named.Variable) ds → AllByRecursion (IsFair r) (passed ds all) → ArgumentsFit r ds all
arguments_fit r [] all own fair = λ t y is b n kind. absurd (none_some y is)
arguments_fit r (d ∷ rest) no_arguments own fair = λ t y is b n kind. absurd (none_some y is)
arguments_fit r (d ∷ rest) (argument a more) own fair = λ t y is b n kind. by t y (d.name.site.token == t) refl is (arguments_fit r rest more own.1 fair.1 t y) b n kind
  where
    by : (t y : ℕ) (z : Bool) → d.name.site.token == t ≡ z → cond z (constant_use r a) (argument_use r rest more t) ≡ Some y
        → (argument_use r rest more t ≡ Some y → (b : Base) (n : ℕ) → named_kind r (Named.Variable t) ≡ object b (n + 1) → IsVariableAt r y × (named_kind r (named_at r y) ≡ object b (n + 1)))
        → (b : Base) (n : ℕ) → named_kind r (Named.Variable t) ≡ object b (n + 1) → IsVariableAt r y × (named_kind r (named_at r y) ≡ object b (n + 1))
    by t y true this is later b n kind =
        let there : d.name.site.token ≡ t = eqb-true d.name.site.token t this in
        let declared_so : declared_kind d.written ≡ object b (n + 1) = ap variable_kind (sym own.0.1) ∙ ap (λ (k : ℕ). variable_kind (declaration_at r k)) there ∙ kind in
        argument_fits r a y is b n (ap (λ (k : Kind). agrees k (kind_at r a)) (sym declared_so) ∙ fair.0)
    by t y false other is later b n kind = later is b n kind

-- ---- parameters

parameters_own : (r : Resolution) → AllByRecursion (IsWellFunction r) (functions_in r.program.items) → (v : Named) → AllByRecursion (IsItself r Named.Variable) (parameters_named r v)
parameters_own r all (Named.Function n) = by (function_at r n) refl
  where
    by : (o : Option Function) → function_at r n ≡ o → AllByRecursion (IsItself r Named.Variable) (parameters_of o)
    by None is = tt
    by (Some f) is = (at_place (IsWellFunction r) (functions_in r.program.items) n f all is).parameters
parameters_own r all _ = tt

beyond_own : (r : Resolution) (k : ℕ) (ds : List Declaration) → AllByRecursion (IsItself r Named.Variable) ds → AllByRecursion (IsItself r Named.Variable) (beyond k ds)
beyond_own r zero ds own = own
beyond_own r (suc k) ds own = by (beyond k ds) (beyond_own r k ds own)
  where
    by : (l : List Declaration) → AllByRecursion (IsItself r Named.Variable) l → AllByRecursion (IsItself r Named.Variable) (drop 1 l)
    by [] h = tt
    by (d ∷ rest) h = h.1

-- ---- what is expected

pub record IsExpected (m : Assignment) (e : Expression) (modes : List Sharing) : Type 0 where
  pub base : Base
  pub stars : ℕ
  pub fits : agrees (object base stars) (kind_at m.typed e) ≡ true
  pub has : HasModes m stars modes

of_row : (m : Assignment) → IsWhole m → HasWrittenLocks m → (e : Expression) (b : Base) (n : ℕ) → agrees (object b n) (kind_at m.typed e) ≡ true → (row : Targets) → IsRow m.typed n row → (modes : List Sharing) → Some (modes_of m row) ≡ Some modes
    → IsExpected m e modes
of_row m whole locks e b n fit row is modes wants =
    record { base = b; stars = n; fits = fit; has = subst (HasModes m n) (one_some (modes_of m row) modes wants) (modes_of_row m whole locks n row is) }

left_expected : (m : Assignment) → IsWhole m → HasWrittenLocks m → (e : Expression) (k : Kind) → agrees k (kind_at m.typed e) ≡ true → (o : Option Targets) → IsRowOf m.typed k o → (modes : List Sharing) → option_map (modes_of m) o ≡ Some modes → IsExpected m e modes
left_expected m whole locks e k fit o is modes wants =
    let kind = receiver_object k (kind_at m.typed e) fit in
    by kind.0 kind.1 o (subst (λ (x : Kind). IsRowOf m.typed x o) kind.2 is) (ap (λ (x : Kind). agrees x (kind_at m.typed e)) (sym kind.2) ∙ fit) wants
  where
    by : (b : Base) (n : ℕ) (o : Option Targets) → IsRowOf m.typed (object b n) o → agrees (object b n) (kind_at m.typed e) ≡ true → option_map (modes_of m) o ≡ Some modes → IsExpected m e modes
    by b n None row agree want = absurd row
    by b n (Some row) is_row agree want = of_row m whole locks e b n agree row is_row modes want

parameter_expected : (m : Assignment) → IsWhole m → HasWrittenLocks m → IsKnownProgram m.typed → (ds : List Declaration) (all : Arguments) → ArgumentsFit m.typed ds all → (left : List Declaration) → AllByRecursion (IsItself m.typed Named.Variable) left → (e : Expression)
    → FirstFits m.typed left e → (modes : List Sharing) → expected m ds all left ≡ Some modes → IsExpected m e modes
parameter_expected m whole locks known ds all fit [] own e first modes wants = absurd (none_some modes wants)
parameter_expected m whole locks known ds all fit (d ∷ rest) own e first modes wants =
    let found = known.declarations d.name.site.token d own.0.1 in
    of_row m whole locks e d.written.ctype.base (stars_of d.written) first (declared_row m.typed (at_call ds all) d.name.site.token) (own_row m.typed (declared found.0 d) found.1 found.3 (at_call ds all) fit) modes wants

declared_expected : (m : Assignment) → IsWhole m → HasWrittenLocks m → (token : ℕ) (w : WrittenType) → Declares m.typed token w → (e : Expression) → agrees (declared_kind w) (kind_at m.typed e) ≡ true → (modes : List Sharing)
    → Some (modes_of m (declared_row m.typed written token)) ≡ Some modes → IsExpected m e modes
declared_expected m whole locks token w it e fit modes wants =
    let x : Entity = it.0 in
    let own : IsRow m.typed (stars_of x.written) (entity_row written (entity_at m.typed x.token x.last)) = own_row m.typed x it.4 it.5 written tt in
    let here : IsRow m.typed (stars_of w) (entity_row written (entity_at m.typed token token)) =
    subst (λ (t : WrittenType). IsRow m.typed (stars_of t) (entity_row written (entity_at m.typed token token))) it.3
    (subst (λ (t : ℕ). IsRow m.typed (stars_of x.written) (entity_row written (entity_at m.typed token t))) it.2
    (subst (λ (t : ℕ). IsRow m.typed (stars_of x.written) (entity_row written (entity_at m.typed t x.last))) it.1 own)) in
    of_row m whole locks e w.ctype.base (stars_of w) fit (declared_row m.typed written token) here modes wants

pub expected_of : (m : Assignment) → IsWhole m → HasWrittenLocks m → IsKnownProgram m.typed → AllByRecursion (IsWellFunction m.typed) (functions_in m.typed.program.items) → (to : Receiver) (e : Expression) → Receives m.typed to e → (modes : List Sharing)
    → wanted m to ≡ Some modes → IsExpected m e modes
expected_of m whole locks known functions (of_declared token) e receives modes wants = declared_expected m whole locks token receives.0 receives.1 e receives.2 modes wants
expected_of m whole locks known functions (of_left u) e receives modes wants =
    left_expected m whole locks e (kind_at m.typed u) receives.1 (row_at m.typed u) (targets_of m.typed known u receives.0) modes wants
expected_of m whole locks known functions (of_parameter token all k) e receives modes wants =
    let ds : List Declaration = parameters_named m.typed (named_at m.typed token) in
    let own : AllByRecursion (IsItself m.typed Named.Variable) ds = parameters_own m.typed functions (named_at m.typed token) in
    parameter_expected m whole locks known ds all (arguments_fit m.typed ds all own receives.1) (beyond k ds) (beyond_own m.typed k ds own) e receives.0 modes wants
