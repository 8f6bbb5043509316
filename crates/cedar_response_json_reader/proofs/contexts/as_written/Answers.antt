use Rattle.std.proofs.Common.{sym, ◌∙◌}
use Rattle.cedar_extensions.specs.Extensions.{extensions_view, calls_of}
use Rattle.cedar_restricted.specs.Views.{restricted_term}
use Rattle.cedar_response_json_reader.proofs.Contexted.{is_record, written_otherwise}
use Rattle.cedar_response_json_reader.proofs.contexts.as_written.Goals as goal

pub returns-in-Ok-true-clause-said : goal.returns-in-Ok-true-clause-said
returns-in-Ok-true-clause-said g c =
    let x = c.args.extensions.now in
    is_record (extensions_view x) (calls_of x) c.args.limit (restricted_term c.args.expr) c.args.context c.requires
    (sym c.in-Ok-true.field-0-test ∙ c.in-Ok-true.ensures)

pub returns-in-Ok-false-clause-refused : goal.returns-in-Ok-false-clause-refused
returns-in-Ok-false-clause-refused g c =
    let x = c.args.extensions.now in
    written_otherwise (extensions_view x) (calls_of x) c.args.limit (restricted_term c.args.expr) c.args.context c.requires
    (sym c.in-Ok-false.field-0-test ∙ c.in-Ok-false.ensures) c.no_context.result c.no_context.ensures
