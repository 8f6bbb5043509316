use Rattle.cedar_cli_tests.proofs.texts.texts_of.Goals as goal

pub returns : goal.returns
returns c = record { request_is = c.in_ok-request.ensures; entities_are = c.in_ok-entities.ensures }
