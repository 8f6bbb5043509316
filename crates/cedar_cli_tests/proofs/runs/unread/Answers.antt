use Rattle.std.proofs.Common.{subst}
use Rattle.cedar_policy_tests.specs.Texts.{IsUnread}
use Rattle.cedar_cli_tests.specs.Tested.{AreNoTests, no_json, key_twice}
use Rattle.cedar_cli_tests.proofs.Judging.{told_as}
use Rattle.cedar_cli_tests.proofs.runs.unread.Goals as goal

pub returns-in-Syntax : goal.returns-in-Syntax
returns-in-Syntax c =
    told_as (AreNoTests c.args.tests.text.now) c.unread_json.result
    (no_json (subst (λ e. IsUnread c.args.tests.text.now e) c.in-Syntax.is c.requires))

pub returns-in-DuplicateKey : goal.returns-in-DuplicateKey
returns-in-DuplicateKey c =
    told_as (AreNoTests c.args.tests.text.now) c.unread_json-in-DuplicateKey.result
    (key_twice (subst (λ e. IsUnread c.args.tests.text.now e) c.in-DuplicateKey.is c.requires))
