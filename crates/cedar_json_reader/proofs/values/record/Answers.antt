use Rattle.std.proofs.Common.{◌≡◌, None, Ok, sym, ap, ◌∙◌, List}
use Rattle.cedar_model.specs.Terms.{Text, Term, record_of}
use Rattle.cedar_model.specs.Refusals.{first_repeated}
use Rattle.cedar_expressions.specs.Records.{fields_in_order, keys_view}
use Rattle.cedar_restricted.specs.Views.{pairs_in}
use Rattle.cedar_json_reader.specs.Said.{unique_said, keys_of_pairs}
use Rattle.cedar_json_reader.specs.Lists.{pairs_said}
use Rattle.cedar_json_reader.proofs.Refused.{refused_same}
use Rattle.cedar_json_reader.proofs.Reading.{keys_read, pairs_read, unrecorded}
use Rattle.cedar_json_reader.proofs.values.record.Goals as goal

pub returns-in-Ok-clause-said : goal.returns-in-Ok-clause-said
returns-in-Ok-clause-said c =
    let ps = pairs_said c.args.pairs.items in
    let unique : first_repeated (keys_of_pairs ps) ≡ None = ap first_repeated (keys_read c.args.pairs.items) ∙ c.in-Ok.ensures.distinct in
    ap (λ o. unique_said o ps) unique ∙ ap (λ (qs : List (Text × Term)). Ok (record_of (fields_in_order qs))) (pairs_read c.args.pairs.items) ∙ ap Ok (sym c.in-Ok.ensures.view)

pub returns-in-Err-clause-refused : goal.returns-in-Err-clause-refused
returns-in-Err-clause-refused c =
    let ps = pairs_said c.args.pairs.items in
    refused_same _ (unique_said (first_repeated (keys_view (pairs_in c.args.pairs.items))) ps) _ (ap (λ (ks : List Text). unique_said (first_repeated ks) ps) (keys_read c.args.pairs.items))
    (unrecorded _ _ ps c.in-Err.error _ c.in-Err.ensures.refused c.refuse_record.ensures)
