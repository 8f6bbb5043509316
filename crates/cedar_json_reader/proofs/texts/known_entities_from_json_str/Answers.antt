use Rattle.std.proofs.Common.{List, subst}
use Rattle.cedar_extensions.specs.Extensions.{extensions_view, calls_of}
use Rattle.cedar_layers.specs.declared.policies.entities.Entity.{Entity}
use Rattle.cedar_json_reader.specs.SaidEntities.{entities_said}
use Rattle.cedar_json_reader.specs.Evaluated.{AreEntitiesOf}
use Rattle.cedar_json_reader.specs.FailedEntities.{IsEntitiesError}
use Rattle.cedar_json_reader.specs.NothingUnknown.{unknown_from, IsUnknownAt, IsKnownEntitiesError, no_entities, unknown_entities}
use Rattle.cedar_json_reader.proofs.UnknownLemmas.{text_of_entities, text_still}
use Rattle.cedar_json_reader.proofs.texts.known_entities_from_json_str.Goals as goal

pub returns-in-Err-refuse_unknown_entities-clause-refused : goal.returns-in-Err-refuse_unknown_entities-clause-refused
returns-in-Err-refuse_unknown_entities-clause-refused g c =
    let x = c.args.extensions.now in
    let es = c.in-Ok.entities.items in
    let e = c.in-Err-refuse_unknown_entities.error in
    let there : IsUnknownAt (unknown_from 0 es) e =
    subst (λ (ds : List Entity). IsUnknownAt (unknown_from 0 ds) e) c.as_slice.ensures.value
    c.in-Err-refuse_unknown_entities.ensures.refused in
    text_of_entities c.args.text.now (λ j. AreEntitiesOf (extensions_view x) (calls_of x) c.args.limit (entities_said j) es)
    (λ j e. IsKnownEntitiesError (extensions_view x) (calls_of x) c.args.limit (entities_said j) e)
    (unknown_from 0 es) e there (λ j of. unknown_entities es of there) c.in-Ok.ensures.made

pub returns-in-Err-clause-refused : goal.returns-in-Err-clause-refused
returns-in-Err-clause-refused g c =
    let x = c.args.extensions.now in
    text_still c.args.text.now
    (λ j e. IsEntitiesError (extensions_view x) (calls_of x) c.args.limit (entities_said j) e)
    (λ j e. IsKnownEntitiesError (extensions_view x) (calls_of x) c.args.limit (entities_said j) e)
    c.in-Err.error (λ j d h. no_entities h) c.in-Err.ensures.refused
