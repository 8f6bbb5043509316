use Rattle.std.proofs.Common.{◌≡◌, rules, sym, subst}
use Rattle.std.specs.Fmt.{signed_decimal}
use Rattle.json.specs.Json.{number}
use Rattle.json.specs.Print.{IsNumber}
use Rattle.json.specs.Tree.{HasNumbers}
use Rattle.json.proofs.Printed.Decimals.{IsNumber-signed_decimal}
use Rattle.cedar_json_writer.specs.Trees.{json_view}
use Rattle.cedar_json_writer.proofs.Trees.{trees, on_ok}
use Rattle.cedar_json_writer.proofs.writing.+write.Goals as goal

pub write_value-returns-in-Long-clause-numbers : goal.write_value-returns-in-Long-clause-numbers
write_value-returns-in-Long-clause-numbers t c =
    let n = c.in-Long.long in
    let seen : json_view c.args.value.now ≡ number (signed_decimal n) = search (rules, trees) in
    let written : IsNumber (signed_decimal n) = search (rules, IsNumber-signed_decimal) in
    on_ok (HasNumbers (json_view c.args.value.now)) c.i64.result (subst HasNumbers (sym seen) written)
