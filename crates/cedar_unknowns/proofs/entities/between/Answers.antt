use Rattle.std.proofs.Common.{option_copied}
use Rattle.cedar_unknowns.proofs.Quoted.{is_between, not_between}
use Rattle.cedar_unknowns.proofs.entities.between.Goals as goal

pub returns-in-Some : goal.returns-in-Some
returns-in-Some c =
    is_between c.args.prefix.now c.args.suffix.now c.args.text.now c.in-Some.behind.now (option_copied c.without_suffix.result) c.in-Some.ensures c.without_suffix.ensures

pub returns-in-None : goal.returns-in-None
returns-in-None c = not_between c.args.prefix.now c.args.suffix.now c.args.text.now c.in-None.ensures
