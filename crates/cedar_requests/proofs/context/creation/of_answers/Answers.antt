use Rattle.std.proofs.Common.{◌≡◌, ◌∙◌, ap, sym, subst}
use Rattle.std.specs.BTreeMap.{IsFromIterResult}
use Rattle.std.specs.List.{zip}
use Rattle.cedar_model.specs.Settings.{known_context}
use Rattle.cedar_expressions.specs.Nodes.{key_order}
use Rattle.cedar_values.specs.Sound.{whats_at}
use Rattle.cedar_restricted.specs.declared.whole.Whole.TheVariants as wholes
use Rattle.cedar_restricted.specs.Parts.{HasKeys, count, answered_locs}
use Rattle.cedar_requests.specs.Contexts.{ValueMap, ExprMap, value_locs, context_locs}
use Rattle.cedar_requests.specs.Substitutions.{IsRecordOf, IsRestrictedRecord}
use Rattle.cedar_requests.proofs.ByParts.{values_made, exprs_made, exprs_restricted, exprs_unknown, values_placed}
use Rattle.cedar_requests.proofs.ByParts.{exprs_placed}
use Rattle.cedar_requests.proofs.context.creation.of_answers.Goals as goal

pub new-requires-in-Mixed-clause-restricted : goal.new-requires-in-Mixed-clause-restricted
new-requires-in-Mixed-clause-restricted c =
    let ks = c.args.keys in
    let m = c.in_ok-pairs-in-Mixed.pairs in
    exprs_restricted ks c.in-Mixed.mixed m (subst (λ a. HasKeys (wholes.Record ks) (count a)) c.in-Mixed.is c.requires.keys)
    (subst (λ v. IsFromIterResult key_order (zip ks.items v.items) m) c.into_exprs.ensures.exprs
    c.in_ok-pairs-in-Mixed.ensures) (subst (IsRestrictedRecord ks) c.in-Mixed.is c.requires.restricted)

pub new-requires-in-Mixed-clause-unknown : goal.new-requires-in-Mixed-clause-unknown
new-requires-in-Mixed-clause-unknown c =
    let ks = c.args.keys in
    let m = c.in_ok-pairs-in-Mixed.pairs in
    exprs_unknown ks c.in-Mixed.mixed m (subst (λ a. HasKeys (wholes.Record ks) (count a)) c.in-Mixed.is c.requires.keys)
    (subst (λ v. IsFromIterResult key_order (zip ks.items v.items) m) c.into_exprs.ensures.exprs
    c.in_ok-pairs-in-Mixed.ensures)

pub returns-in_ok-new-in-Values-clause-view : goal.returns-in_ok-new-in-Values-clause-view
returns-in_ok-new-in-Values-clause-view c =
    let ks = c.args.keys in
    let r = c.from_shared_values.result in
    subst (λ a. IsRecordOf ks a r) (sym c.in-Values.is)
    (values_made ks c.in-Values.values c.in_ok-values-in-Values.values r
    (subst (λ a. HasKeys (wholes.Record ks) (count a)) c.in-Values.is c.requires.keys) c.in_ok-values-in-Values.ensures
    (c.from_shared_values.ensures.view
    ∙ ap (λ (m : ValueMap). known_context (whats_at m.entries)) c.in_ok-new-in-Values.ensures.ok))

pub returns-in_ok-new-in-Values-clause-places : goal.returns-in_ok-new-in-Values-clause-places
returns-in_ok-new-in-Values-clause-places c =
    let ks = c.args.keys in
    subst (λ a. context_locs c.from_shared_values.result ≡ answered_locs a) (sym c.in-Values.is)
    (c.from_shared_values.ensures.places ∙ ap value_locs c.in_ok-new-in-Values.ensures.ok
    ∙ values_placed ks c.in-Values.values c.in_ok-values-in-Values.values
    (subst (λ a. HasKeys (wholes.Record ks) (count a)) c.in-Values.is c.requires.keys) c.in_ok-values-in-Values.ensures)

pub returns-in_ok-pairs-in-Mixed-clause-view : goal.returns-in_ok-pairs-in-Mixed-clause-view
returns-in_ok-pairs-in-Mixed-clause-view c =
    let ks = c.args.keys in
    let x = c.in-Mixed.mixed in
    subst (λ a. IsRecordOf ks a c.of_residual.result) (sym c.in-Mixed.is)
    (exprs_made ks x c.new-in-Mixed.result c.of_residual.result
    (subst (λ a. HasKeys (wholes.Record ks) (count a)) c.in-Mixed.is c.requires.keys)
    (subst (λ (m : ExprMap). IsFromIterResult key_order (zip ks.items x.exprs.items) m) (sym c.new-in-Mixed.ensures)
    (subst (λ v. IsFromIterResult key_order (zip ks.items v.items) c.in_ok-pairs-in-Mixed.pairs)
    c.into_exprs.ensures.exprs c.in_ok-pairs-in-Mixed.ensures)) c.of_residual.ensures)

pub returns-in_ok-pairs-in-Mixed-clause-places : goal.returns-in_ok-pairs-in-Mixed-clause-places
returns-in_ok-pairs-in-Mixed-clause-places c =
    let ks = c.args.keys in
    let x = c.in-Mixed.mixed in
    subst (λ a. context_locs c.of_residual.result ≡ answered_locs a) (sym c.in-Mixed.is)
    (exprs_placed ks x c.new-in-Mixed.result c.of_residual.result
    (subst (λ a. HasKeys (wholes.Record ks) (count a)) c.in-Mixed.is c.requires.keys)
    (subst (λ (m : ExprMap). IsFromIterResult key_order (zip ks.items x.exprs.items) m) (sym c.new-in-Mixed.ensures)
    (subst (λ v. IsFromIterResult key_order (zip ks.items v.items) c.in_ok-pairs-in-Mixed.pairs)
    c.into_exprs.ensures.exprs c.in_ok-pairs-in-Mixed.ensures)) c.of_residual.ensures)
