use Rattle.std.proofs.Common.{sym, ◌∙◌}
use Rattle.cedar_text_syntax.specs.Reading.{behind}
use Rattle.cedar_text_syntax.proofs.machine.work.Work.operator.Goals as goal

pub returns-in_ok-relate-in-Has-clause-ok : goal.returns-in_ok-relate-in-Has-clause-ok
returns-in_ok-relate-in-Has-clause-ok c =
    record {
      read = behind c.in_ok-relate-in-Has.ensures.reads (sym c.kind_at.ensures ∙ c.in-Has.is);
      low = c.in_ok-relate-in-Has.ensures.low;
      awaited_below = c.in_ok-relate-in-Has.ensures.awaits;
    }

pub returns-in_ok-relate-in-Like-clause-ok : goal.returns-in_ok-relate-in-Like-clause-ok
returns-in_ok-relate-in-Like-clause-ok c =
    record {
      read = behind c.in_ok-relate-in-Like.ensures.reads (sym c.kind_at.ensures ∙ c.in-Like.is);
      low = c.in_ok-relate-in-Like.ensures.low;
      awaited_below = c.in_ok-relate-in-Like.ensures.awaits;
    }

pub returns-in_ok-relate-in-Is-clause-ok : goal.returns-in_ok-relate-in-Is-clause-ok
returns-in_ok-relate-in-Is-clause-ok c =
    record {
      read = behind c.in_ok-relate-in-Is.ensures.reads (sym c.kind_at.ensures ∙ c.in-Is.is);
      low = c.in_ok-relate-in-Is.ensures.low;
      awaited_below = c.in_ok-relate-in-Is.ensures.awaits;
    }
