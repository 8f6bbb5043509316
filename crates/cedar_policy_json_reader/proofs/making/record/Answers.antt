use Rattle.std.proofs.Common.{◌≡◌, Option, None, Some, Ok, sym, ap, ◌∙◌}
use Rattle.cedar_expressions.specs.Records.{fields_in_order, pairs_view}
use Rattle.cedar_model.specs.Terms.{record_of}
use Rattle.cedar_policy_json_reader.specs.Expressions.{unique_said, keys_of_pairs}
use Rattle.cedar_policy_json_reader.proofs.Lists.{keys_read, unrecorded}
use Rattle.cedar_policy_json_reader.proofs.Refused.{refused_same}
use Rattle.cedar_model.specs.Refusals.{first_repeated}
use Rattle.cedar_expressions.specs.Records.{keys_view}
use Rattle.cedar_model.specs.Terms.{Text}
use Rattle.std.proofs.Common.{List}
use Rattle.cedar_policy_json_reader.proofs.making.record.Goals as goal

pub returns-in-Ok-clause-said : goal.returns-in-Ok-clause-said
returns-in-Ok-clause-said c =
    let ps = pairs_view c.args.pairs.items in
    let unique : first_repeated (keys_of_pairs ps) ≡ None = ap first_repeated (keys_read c.args.pairs.items) ∙ c.in-Ok.ensures.distinct in
    ap (λ o. unique_said o ps) unique ∙ ap Ok (sym c.in-Ok.ensures.view)

pub returns-in-Err-clause-refused : goal.returns-in-Err-clause-refused
returns-in-Err-clause-refused c =
    let ps = pairs_view c.args.pairs.items in
    refused_same _ (unique_said (first_repeated (keys_view c.args.pairs.items)) ps) _ (ap (λ (ks : List Text). unique_said (first_repeated ks) ps) (keys_read c.args.pairs.items))
    (unrecorded _ _ ps c.in-Err.error _ c.in-Err.ensures.refused c.refuse_record.ensures)
