use Rattle.std.proofs.Common.{sym, append-nil}
use Rattle.cedar_explain_json.specs.Operands.{terms_seen}
use Rattle.cedar_explain_json.proofs.operands.put_none.Goals as goal

pub returns : goal.returns
returns c = sym (append-nil (terms_seen c.args.found.now.items))
