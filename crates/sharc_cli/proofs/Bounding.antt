-- The numbers of a command are within their bounds.
use Rattle.sharc_cli.proofs.Imports.{◌≡◌, ℕ, ◌≤◌, Bool, true, false, List, [], ◌∷◌, find, Option, Some, None, refl, subst, arith, ◌&&◌, nat_le, codes, option_map, option_and_then, IfSome, if◌then◌else◌, bytes_eq, digits_value, IsWithin, AreWithin, Word, Values, forms, is_number, number_in, number_or, workers_of, granules_of, seed_of, run_of, load_of, record_of, command_of, command_behind, commands, entries_of, values_of, and_first, and_second, le_true}
use Rattle.sharc_cli.specs.declared.command.Command.{Command}

-- ---- numbers
within_when : (low high n : ℕ) (b : Bool) → (b ≡ true → IsWithin low high n) → IfSome (if b then Some n else None) (IsWithin low high)
within_when low high n true h = h refl
within_when low high n false h = tt

within : (low high : ℕ) (w : Word) → IfSome (number_in low high w) (IsWithin low high)
within low high w =
    let n = digits_value 10 w in
    within_when low high n (is_number w && (nat_le low n && nat_le n high))
    (λ e.
    let bounds = and_second (is_number w) (nat_le low n && nat_le n high) e in
    record { least = le_true low n (and_first (nat_le low n) (nat_le n high) bounds); most = le_true n high (and_second (nat_le low n) (nat_le n high) bounds) })

within_or : (default low high : ℕ) (w : Option Word) → low ≤ default → default ≤ high → IfSome (number_or default low high w) (IsWithin low high)
within_or default low high None least most = record { least = least; most = most }
within_or default low high (Some w) least most = within low high w

-- ---- commands
abbrev Bounded : Option Command → Type 0
Bounded o = IfSome o AreWithin

then_bounded : {X : Type 0} (P : X → Type 0) (o : Option X) (f : X → Option Command) → IfSome o P → ((x : X) → P x → Bounded (f x)) → Bounded (option_and_then f o)
then_bounded P None f h k = tt
then_bounded P (Some x) f h k = k x h

map_bounded : {X : Type 0} (P : X → Type 0) (o : Option X) (f : X → Command) → IfSome o P → ((x : X) → P x → AreWithin (f x)) → Bounded (option_map f o)
map_bounded P None f h k = tt
map_bounded P (Some x) f h k = k x h

any_bounded : {X : Type 0} (o : Option X) (f : X → Command) → ((x : X) → AreWithin (f x)) → Bounded (option_map f o)
any_bounded None f k = tt
any_bounded (Some x) f k = k x

run_bounded : (v : Values) → Bounded (run_of v)
run_bounded v =
    then_bounded (IsWithin 1 16) (workers_of v) _ (within_or 4 1 16 v.workers (omega arith) (omega arith))
    (λ workers w. then_bounded (IsWithin 16 65536) (granules_of v) _ (within_or 4096 16 65536 v.granules (omega arith) (omega arith))
    (λ granules g. then_bounded (IsWithin 1 100000000) (number_or 1000000 1 100000000 v.events) _ (within_or 1000000 1 100000000 v.events (omega arith) (omega arith))
    (λ events e. any_bounded (seed_of v.seed) (λ seed. Command.Run workers granules events seed) (λ seed. record { few_workers = w; some_granules = g; few_events = e }))))

record_bounded : (v : Values) → Bounded (record_of v)
record_bounded v =
    then_bounded (IsWithin 1 16) (workers_of v) _ (within_or 4 1 16 v.workers (omega arith) (omega arith))
    (λ workers w. then_bounded (IsWithin 16 65536) (granules_of v) _ (within_or 4096 16 65536 v.granules (omega arith) (omega arith))
    (λ granules g. map_bounded (IsWithin 1 200000) (number_or 100000 1 200000 v.events) (λ events. Command.Record workers granules events) (within_or 100000 1 200000 v.events (omega arith) (omega arith))
    (λ events e. record { few_workers = w; some_granules = g; few_events = e })))

number_within : (o : Option Word) → IfSome (option_and_then (number_in 1 10000) o) (IsWithin 1 10000)
number_within None = tt
number_within (Some w) = within 1 10000 w

load_bounded : (v : Values) → Bounded (load_of v)
load_bounded v =
    then_bounded (IsWithin 1 10000) (option_and_then (number_in 1 10000) v.number) _ (number_within v.number)
    (λ n h. map_bounded (IsWithin 1 16) (workers_of v) (λ workers. Command.Load n workers) (within_or 4 1 16 v.workers (omega arith) (omega arith)) (λ workers w. record { numbered = h; few_workers = w }))

either : (b : Bool) (x y : Option Command) → Bounded x → Bounded y → Bounded (if b then x else y)
either true x y h k = h
either false x y h k = k

command_bounded : (name : Word) (v : Values) → Bounded (command_of name v)
command_bounded name v =
    either (bytes_eq name (codes "check")) _ _ tt
    (either (bytes_eq name (codes "explain")) _ _ tt
    (either (bytes_eq name (codes "run")) _ _ (run_bounded v)
    (either (bytes_eq name (codes "load")) _ _ (load_bounded v)
    (either (bytes_eq name (codes "record")) _ _ (record_bounded v)
    (either (bytes_eq name (codes "replay")) _ _ tt
    (either (bytes_eq name (codes "audit")) _ _ tt tt))))))

abbrev IsAny : {X : Type 0} → X → Type 0
IsAny x = Unit {0}

any : {X : Type 0} (o : Option X) → IfSome o IsAny
any None = tt
any (Some x) = tt

all_bounded : (words : List Word) → Bounded (commands words)
all_bounded [] = tt
all_bounded (w ∷ words) =
    then_bounded IsAny (find (λ f. bytes_eq f.name w) forms) (command_behind words) (any _)
    (λ f h. then_bounded IsAny (entries_of f words) _ (any _) (λ entries k. command_bounded f.name (values_of entries)))

pub are_within : (words : List Word) (c : Command) → commands words ≡ Some c → AreWithin c
are_within words c e = let h = all_bounded words in subst (λ o. IfSome o AreWithin) e h
