use Rattle.std.proofs.Common.{ap, refl, codes}
use Rattle.http_header.specs.FieldValue.{FieldValue}
use Rattle.http_server.specs.Response.{fields_of}
use Rattle.cedar_endpoints.proofs.Fields.{same_field}
use Rattle.cedar_endpoints.proofs.answers.add_shown.Goals as goal

pub returns-clause-fields : goal.returns-clause-fields
returns-clause-fields c =
    same_field c.add_header.result (fields_of c.add_header.new.self) (fields_of c.args.response.now) (codes "allow")
    (codes "allow") c.from_static.result.bytes (codes "GET, HEAD") refl
    (ap (λ (v : FieldValue). v.bytes) c.from_static.ensures) c.add_header.ensures.headers
