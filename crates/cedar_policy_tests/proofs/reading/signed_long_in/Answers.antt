use Rattle.json.specs.Find.{as_number}
use Rattle.json.specs.Value.{value_view}
use Rattle.cedar_json_reader.proofs.Longs.{long_parsed}
use Rattle.cedar_policy_tests.proofs.reading.signed_long_in.Goals as goal

pub returns : goal.returns
returns c = long_parsed (as_number (value_view c.args.number.now)) c.as_i64.result c.as_i64.ensures
