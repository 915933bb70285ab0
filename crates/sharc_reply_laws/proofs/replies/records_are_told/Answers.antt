use Rattle.sharc_reply_laws.proofs.{Imports.{RecordsAreOnly, ReplaysAreOnly}, Again.says_again, Recorded.{replay_only, record_only}}
use Rattle.sharc_reply_laws.proofs.replies.records_are_told.Goals as goal

pub returns : goal.returns
returns c =
    let records : RecordsAreOnly = record_only c.sources_are_one.ensures c.replay_laws.ensures c.programs_hold_no_schedule.ensures c.numbers_are_within.ensures in
    let replays : ReplaysAreOnly = replay_only c.sources_are_one.ensures c.file_laws.ensures in
    record {
      records = records;
      replays = replays;
      again = says_again c.compiled_are_alike.ensures c.runs_are_alike.ensures records replays;
    }
