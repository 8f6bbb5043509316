use Rattle.std.proofs.Common.{refl, Err}
use Rattle.http_server.specs.Response.{fields_of}
use Rattle.cedar_endpoints.proofs.Versions.{adds_named, adds_none_for}
use Rattle.cedar_endpoints.proofs.answers.add_version.Goals as goal

pub returns-in-Ok-clause-fields : goal.returns-in-Ok-clause-fields
returns-in-Ok-clause-fields c =
    adds_named c.args.version.now c.in-Ok.value c.put_version.result (fields_of c.args.response.now)
    (fields_of c.put_version.new.response) c.in-Ok.ensures.ok c.put_version.ensures.fields

pub returns-in-Err-clause-fields : goal.returns-in-Err-clause-fields
returns-in-Err-clause-fields c =
    adds_none_for c.args.version.now (fields_of c.args.response.now) c.in-Err.error (Err c.in-Err.error)
    c.unnamed.result refl c.in-Err.ensures.invalid.0 c.unnamed.ensures
