use Rattle.std.proofs.Common.{refl, codes}
use Rattle.http_server.specs.Response.{fields_of}
use Rattle.cedar_endpoints.proofs.Fields.{same_field}
use Rattle.cedar_endpoints.proofs.answers.put_version.Goals as goal

pub returns-clause-fields : goal.returns-clause-fields
returns-clause-fields c =
    same_field c.add_header.result (fields_of c.add_header.new.self) (fields_of c.args.response.now) c.from_static.result
    (codes "cedar-version") c.args.version.bytes c.args.version.bytes c.from_static.ensures refl
    c.add_header.ensures.headers
