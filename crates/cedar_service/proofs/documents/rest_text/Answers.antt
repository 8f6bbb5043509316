use Rattle.std.proofs.Common.{IfOk, sym, subst, string_bytes}
use Rattle.json.specs.Json.{Json}
use Rattle.json.specs.Value.{value_view}
use Rattle.cedar_service.specs.Documents.{IsWritable, IsTextFor}
use Rattle.cedar_service.proofs.Without.{writable_without}
use Rattle.cedar_service.proofs.documents.rest_text.Goals as goal

pub text_of-text-requires : goal.text_of-text-requires
text_of-text-requires c =
    subst IsWritable (sym c.in_ok-rest.ensures) (writable_without (value_view c.args.value) c.requires)

pub returns : goal.returns
returns c =
    subst (λ (j : Json). IfOk c.text_of-text.result (λ s. IsTextFor j (string_bytes s))) c.in_ok-rest.ensures
    c.text_of-text.ensures
