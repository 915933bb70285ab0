-- The other access of a conflict: which one a report names.
use Rattle.std.specs.Prelude.{ℕ, ◌<◌, ◌==◌, ◌&&◌, Bool, true, false, not, List, All, find, Option, Some, None, is_some}
use Rattle.std.specs.Prelude.{if◌then◌else◌}
use Rattle.sharc_word.specs.declared.step.TheConstants.{THREADS}
use Rattle.sharc_heap.specs.{declared.shadow_word.Kind.Kind, declared.shadow_word.Kind.TheVariants.{Read, Write}}
use Rattle.sharc_heap.specs.{Accesses.{note_of, site_at}, Functions.lowest_other, ShadowWord.{stands, is_written}}
use Rattle.sharc_code.specs.{declared.state.ConflictAt.ConflictAt, declared.state.Stop.Stop}
use Rattle.sharc_code.specs.declared.state.Stop.TheVariants.{Conflict, NoLock, NotSole, Trap}
use Rattle.sharc_cpu.specs.Thread.{ThreadView}
use Rattle.sharc_run.specs.declared.other.NotedCheck.{NotedCheck}

abbrev pub number_of : ThreadView → ℕ
number_of t = t.machine.own.number

-- ---- what a thread did to the granule of a conflict, in its epoch
-- the site of its check of this kind that passed
abbrev pub noted : ConflictAt → Kind → ThreadView → Option ℕ
noted c kind t = site_at (note_of t.machine.own.table c.granule kind) c.epoch

abbrev pub has_written : ConflictAt → ThreadView → Bool
has_written c t = is_some (noted c Write t)

-- two checks of one granule in one epoch
abbrev pub is_same_place : ConflictAt → ConflictAt → Bool
is_same_place c d = d.granule == c.granule && d.epoch == c.epoch

-- its check that was refused there
abbrev pub refused_by : ConflictAt → Option Stop → Option ConflictAt
refused_by c (Some (Conflict d)) = if is_same_place c d then Some d else None
refused_by c (Some (NoLock site word)) = None
refused_by c (Some (NotSole site count)) = None
refused_by c (Some (Trap trap site)) = None
refused_by c None = None

abbrev pub refused : ConflictAt → ThreadView → Option ConflictAt
refused c t = refused_by c t.machine.own.stop

abbrev pub check_by : Kind → ThreadView → ℕ → NotedCheck
check_by kind t site = record { kind = kind; site = site; thread = number_of t }

abbrev pub or_refused : ThreadView → Option ConflictAt → Option NotedCheck
or_refused t None = None
or_refused t (Some d) = Some (check_by d.kind t d.site)

abbrev pub or_read : ConflictAt → ThreadView → Option ℕ → Option NotedCheck
or_read c t None = or_refused t (refused c t)
or_read c t (Some site) = Some (check_by Read t site)

abbrev pub or_later : ConflictAt → ThreadView → Option ℕ → Option NotedCheck
or_later c t None = or_read c t (noted c Read t)
or_later c t (Some site) = Some (check_by Write t site)

-- its write there, else its read, else its refused check
abbrev pub access_of : ConflictAt → ThreadView → Option NotedCheck
access_of c t = or_later c t (noted c Write t)

abbrev pub access_of_any : ConflictAt → Option ThreadView → Option NotedCheck
access_of_any c None = None
access_of_any c (Some t) = access_of c t

-- ---- of a refused write: the access of the lowest-numbered other thread whose bit was set
abbrev pub has_number : ℕ → ThreadView → Bool
has_number n t = number_of t == n

abbrev pub access_of_number : ConflictAt → List ThreadView → Option ℕ → Option NotedCheck
access_of_number c threads None = None
access_of_number c threads (Some n) = access_of_any c (find (has_number n) threads)

abbrev pub against_write : ConflictAt → List ThreadView → ℕ → Option NotedCheck
against_write c threads thread = access_of_number c threads (lowest_other c.old thread)

-- ---- of a refused read: the write of the lowest-numbered other thread whose bit was set and which has one, else the
-- write that was
-- refused where the written bit was not set
abbrev pub wrote_before : ConflictAt → ℕ → ThreadView → Bool
wrote_before c thread t = not (number_of t == thread) && (stands c.old (number_of t) && has_written c t)

abbrev pub is_write : Kind → Bool
is_write Write = true
is_write Read = false

abbrev pub is_first_write : Option ConflictAt → Bool
is_first_write None = false
is_first_write (Some d) = is_write d.kind && not (is_written d.old)

abbrev pub was_refused_first : ConflictAt → ThreadView → Bool
was_refused_first c t = is_first_write (refused c t)

abbrev pub refused_access : ConflictAt → Option ThreadView → Option NotedCheck
refused_access c None = None
refused_access c (Some t) = or_refused t (refused c t)

abbrev pub or_first_refused : ConflictAt → List ThreadView → Option ThreadView → Option NotedCheck
or_first_refused c threads None = refused_access c (find (was_refused_first c) threads)
or_first_refused c threads (Some t) = access_of c t

abbrev pub against_read : ConflictAt → List ThreadView → ℕ → Option NotedCheck
against_read c threads thread = or_first_refused c threads (find (wrote_before c thread) threads)

-- ---- the other access of a conflict of this thread, in these threads, which are in the order of their numbers
abbrev pub against : Kind → ConflictAt → List ThreadView → ℕ → Option NotedCheck
against Write c threads thread = against_write c threads thread
against Read c threads thread = against_read c threads thread

abbrev pub other_access : ConflictAt → List ThreadView → ℕ → Option NotedCheck
other_access c threads thread = against c.kind c threads thread

-- ---- threads whose numbers are allowed
abbrev pub IsAllowed : ThreadView → Type 0
IsAllowed t = number_of t < THREADS

abbrev pub AreAllowed : List ThreadView → Type 0
AreAllowed = All IsAllowed
