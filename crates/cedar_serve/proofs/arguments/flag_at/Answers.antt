use Rattle.cedar_serve.proofs.arguments.flag_at.Goals as goal

pub returns : goal.returns
returns c = record {
  absent = c.get_flag.ensures.none;
  given = c.get_flag.ensures.value;
  not_given = c.get_flag.ensures.other;
}
