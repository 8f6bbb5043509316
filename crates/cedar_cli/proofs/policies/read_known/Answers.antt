use Rattle.cedar_functions.specs.Functions.{these, signatures_of}
use Rattle.cedar_text_parser.specs.PolicyReading.{AreAllRead}
use Rattle.cedar_cli.specs.Questions.{levels, ArePoliciesOf}
use Rattle.cedar_cli.specs.Reasons.{IsToldFor, ArePoliciesUnread, AreUnread}
use Rattle.cedar_cli.proofs.Composed.{of_ok, of_err}
use Rattle.cedar_cli.proofs.Reasoned.{because}
use Rattle.cedar_cli.proofs.policies.read_known.Goals as goal

pub returns-clause-read : goal.returns-clause-read
returns-clause-read g c =
    let k = these (signatures_of c.args.extensions.now) in
    of_ok (AreAllRead k c.args.source.text.now levels) (ArePoliciesOf c.args.source.text.now)
    (λ p h. record { known = k; read = h }) c.read_over.result c.read_over.ensures.read

pub returns-clause-refused : goal.returns-clause-refused
returns-clause-refused g c =
    let k = these (signatures_of c.args.extensions.now) in
    let text = c.args.source.text.now in
    of_err (IsToldFor (ArePoliciesUnread k text)) (IsToldFor (AreUnread text))
    (λ r. because (ArePoliciesUnread k text) (AreUnread text) (λ h. record { known = k; unread = h }) r)
    c.read_over.result c.read_over.ensures.refused
