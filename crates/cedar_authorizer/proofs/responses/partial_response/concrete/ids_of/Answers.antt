use Rattle.std.proofs.Common.{ap, ◌∙◌}
use Rattle.std.proofs.lemmas.Result.{IfOk-weaker}
use Rattle.std.specs.Map.{keys_of}
use Rattle.cedar_authorizer.specs.responses.Kept.{is_same_id}
use Rattle.std.specs.List.{list_any}
use Rattle.cedar_authorizer.proofs.Naming.{same_texts, among_entries}
use Rattle.cedar_authorizer.proofs.responses.partial_response.concrete.ids_of.Goals as goal

pub returns : goal.returns
returns c =
    IfOk-weaker c.collect.result _ _ (λ s h.
    let run = h tt in
    λ i t. (same_texts s.keys (keys_of c.args.entries.entries) (λ q.
    run.3.0 q ∙ ap (λ ks. list_any (is_same_id q) ks) ((c.into_keys.ensures.runs run.0 run.0.seen).4 run.2 ∙ (run.1 ∙ c.into_keys.ensures.rest))) t
    ∙ among_entries t c.args.entries.entries) i) c.collect.ensures.runs
