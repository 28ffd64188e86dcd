use Rattle.basics.specs.Choice.{cases}
use Rattle.reply.specs.Message.{next_message, next_from}
use Rattle.reply.proofs.next_message.Goals as goal

pub returns-then-begins : goal.returns-then-begins
unfolding next_message next_from
returns-then-begins c = record {
  bytes = search cases;
  place = search cases;
}

pub returns-then-begins-2 : goal.returns-then-begins-2
unfolding next_message next_from
returns-then-begins-2 c = record {
  bytes = search cases;
  place = search cases;
}

pub returns-then-begins-3 : goal.returns-then-begins-3
unfolding next_message next_from
returns-then-begins-3 c = record {
  bytes = search cases;
  place = search cases;
}

pub returns : goal.returns
unfolding next_message next_from
returns c = record {
  bytes = search cases;
  place = search cases;
}
