use Rattle.cedar_log.proofs.logged.LoggedService.call.Goals as goal

pub returns-clause-ok : goal.returns-clause-ok
returns-clause-ok g c = record {
  due = c.call.new.response;
  answered = c.in_ok-call.ensures.ok;
  lacks_memory = c.hand_out-lacks_memory.result;
  handed_out = c.hand_out-lacks_memory.ensures;
  noted = c.either-self.ensures;
}
