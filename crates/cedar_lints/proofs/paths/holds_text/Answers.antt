use Rattle.cedar_lints.proofs.Members.{text_found, no_text}
use Rattle.cedar_lints.proofs.paths.holds_text.Goals as goal

pub returns-in-Some : goal.returns-in-Some
returns-in-Some c =
    text_found c.args.name.now c.args.pairs.now.entries c.in-Some.value c.text_in.result c.is_some.result
    c.in-Some.ensures.value c.text_in.ensures c.is_some.ensures

pub returns-in-None : goal.returns-in-None
returns-in-None c = no_text c.args.name.now c.args.pairs.now.entries c.in-None.ensures.value
