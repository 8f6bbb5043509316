use Rattle.std.proofs.Common.{ap, codes}
use Rattle.http_header.specs.FieldValue.{FieldValue}
use Rattle.http_server.specs.Response.{fields_of}
use Rattle.cedar_endpoints.proofs.Fields.{same_field}
use Rattle.cedar_endpoints.proofs.answers.add_copy.Goals as goal

pub returns-clause-fields : goal.returns-clause-fields
returns-clause-fields c =
    same_field c.add_header.result (fields_of c.add_header.new.self) (fields_of c.args.response.now) c.from_static.result
    (codes "x-request-id") c.in_ok-copy.copy.bytes c.args.id.now.bytes c.from_static.ensures
    (ap (λ (v : FieldValue). v.bytes) c.in_ok-copy.ensures.cases) c.add_header.ensures.headers
