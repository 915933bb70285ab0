use Rattle.sharc_schedule.proofs.Imports.{List, [], length, opening_words, Turn, IsRun, opening_of, one_thread, bounds, AllCount, GoesAt, Followed, thread_at}
use Rattle.sharc_schedule.proofs.places.make_places.Given as goal

abbrev pub invariant-loop-i : goal.invariant-loop-i
invariant-loop-i l = record {
  turns : List Turn;
  goes : GoesAt l.code l.shape l.limit turns l.going;
  by_journal : Followed l.code l.shape l.limit (thread_at l.journal) [] l.i turns;
}

abbrev pub invariant-loop-t : goal.invariant-loop-t
invariant-loop-t l = record {
  turns : List Turn;
  goes : GoesAt l.code l.shape l.limit turns l.going;
  firm : List Turn;
  run : IsRun bounds (one_thread l.code l.shape) (opening_of bounds (one_thread l.code l.shape) (opening_words l.code l.shape)) firm;
  counts : AllCount l.code l.shape firm;
  by_journal : Followed l.code l.shape l.limit (thread_at l.journal) [] (length l.journal) firm;
  by_number : Followed l.code l.shape l.limit (λ t. t) firm l.t turns;
}
