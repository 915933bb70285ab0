use Rattle.sharc_meaning.proofs.{Asking.{more_fuel, more_fuel_same, more_given_up, more_answers, more_answers_same, no_more_than_answers, wants_behind_answers, one_answer_more}, Spending.spent_is_none}
use Rattle.sharc_meaning.proofs.laws.ask_laws.Goals as goal

pub returns : goal.returns
returns c = record {
  fuel = more_fuel;
  fuel_same = more_fuel_same;
  given_up = more_given_up;
  answers = more_answers;
  answers_same = more_answers_same;
  spent_is_none = spent_is_none;
  events = no_more_than_answers;
  wanted = wants_behind_answers;
  comes = one_answer_more;
}
