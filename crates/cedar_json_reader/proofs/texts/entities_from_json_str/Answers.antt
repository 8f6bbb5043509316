use Rattle.cedar_extensions.specs.Extensions.{extensions_view, calls_of}
use Rattle.cedar_json_reader.specs.StatedEntities.{stated_views}
use Rattle.cedar_json_reader.proofs.Failed.{text_failed, text_unsaid}
use Rattle.cedar_json_reader.proofs.texts.entities_from_json_str.Goals as goal

pub returns-in-Ok-clause-refused : goal.returns-in-Ok-clause-refused
returns-in-Ok-clause-refused g c =
    text_failed (extensions_view c.args.extensions.now) (calls_of c.args.extensions.now) c.args.limit c.args.text.now (stated_views c.in-Ok.stated.items) c.evaluated_entities.result
    c.in-Ok.ensures.said c.evaluated_entities.ensures.failed

pub returns-in-Err-clause-refused : goal.returns-in-Err-clause-refused
returns-in-Err-clause-refused g c =
    text_unsaid (extensions_view c.args.extensions.now) (calls_of c.args.extensions.now) c.args.limit c.args.text.now c.in-Err.error c.in-Err.ensures.refused
