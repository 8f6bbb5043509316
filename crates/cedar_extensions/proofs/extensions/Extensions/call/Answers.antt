use Rattle.std.proofs.Common.{sym, ◌∙◌}
use Rattle.cedar_names.specs.Names.{name_text}
use Rattle.cedar_values.specs.Sound.{whats}
use Rattle.cedar_errors.specs.Answers.{partial_answer}
use Rattle.cedar_extensions.specs.CallLaws.{looks_up_found, looks_up_standard}
use Rattle.cedar_extensions.proofs.extensions.Extensions.call.Goals as goal

pub returns-in-Some : goal.returns-in-Some
returns-in-Some g c = λ ok.
    looks_up_standard c.args.self.now (name_text c.args.name.now) c.in-Some.function (whats c.args.args.now)
    (partial_answer c.call_standard.result) (sym c.standard.ensures ∙ c.in-Some.is) (c.call_standard.ensures ok)

pub returns-in-Ok : goal.returns-in-Ok
returns-in-Ok g c = λ ok.
    looks_up_found c.args.self.now (name_text c.args.name.now) c.in-Ok.function.now (whats c.args.args.now)
    (partial_answer c.call.result) (sym c.standard.ensures ∙ c.in-None.is) c.in-Ok.ensures.found (c.call.ensures ok)
