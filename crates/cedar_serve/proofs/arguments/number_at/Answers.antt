use Rattle.cedar_serve.proofs.arguments.number_at.Goals as goal

pub returns-in-Some : goal.returns-in-Some
returns-in-Some c = record {
  absent = c.in-Some.ensures.none;
  given = λ t is. (c.in-Some.ensures.value t is).0;
}

pub returns-in-None : goal.returns-in-None
returns-in-None c = record {
  absent = c.in-None.ensures.none;
  given = λ t is. (c.in-None.ensures.value t is).1.0;
}
