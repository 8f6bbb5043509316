use Rattle.std.proofs.Common.{◌∙◌, sym}
use Rattle.cedar_model.specs.Terms.{record_of}
use Rattle.cedar_model.specs.Settings.{context_value}
use Rattle.cedar_model.specs.Values.{record_represented}
use Rattle.cedar_names.specs.Equality.{term_eq}
use Rattle.cedar_expressions.specs.View.{fields_view}
use Rattle.cedar_values.specs.Compared.{represented_eq, partial_eq}
use Rattle.cedar_values.specs.Sound.{whats_at}
use Rattle.cedar_requests.specs.Contexts.{ValueMap, ExprMap, context_pairs_view}
use Rattle.cedar_requests.proofs.Equality.{values_eq, exprs_eq}
use Rattle.cedar_requests.proofs.Opened.{opened}
use Rattle.cedar_requests.proofs.context.equality.ContextPartialEq.eq.Goals as goal

pub returns-in-Values-pairs : goal.returns-in-Values-pairs
unfolding context_value
returns-in-Values-pairs c =
    let m = c.as_map.result.now in
    let n = c.as_map-in-Values-pairs.result.now in
    let record_of_map = λ (m : ValueMap). record_represented (whats_at m.entries) in
    let seen = λ (m n : ValueMap). represented_eq (record_of_map m) (record_of_map n) in
    c.eq.ensures ∙ values_eq m.entries n.entries
    ∙ (λ i. seen (c.as_map.ensures i) (c.as_map-in-Values-pairs.ensures i))
    ∙ sym (λ i. partial_eq (context_value (context_pairs_view ((opened c.self.view_is c.in-Values.is) i)))
    (context_value (context_pairs_view ((opened c.other.view_is c.in-Values-pairs.is) i))))

pub returns-in-Residual-pairs : goal.returns-in-Residual-pairs
unfolding context_value
returns-in-Residual-pairs c =
    sym (λ i. partial_eq (context_value (context_pairs_view ((opened c.self.view_is c.in-Values.is) i)))
    (context_value (context_pairs_view ((opened c.other.view_is c.in-Residual-pairs.is) i))))

pub returns-in-Values-pairs-2 : goal.returns-in-Values-pairs-2
unfolding context_value
returns-in-Values-pairs-2 c =
    sym (λ i. partial_eq (context_value (context_pairs_view ((opened c.self.view_is c.in-Residual.is) i)))
    (context_value (context_pairs_view ((opened c.other.view_is c.in-Values-pairs-2.is) i))))

pub returns-in-Residual-pairs-2 : goal.returns-in-Residual-pairs-2
unfolding context_value
returns-in-Residual-pairs-2 c =
    let m = c.as_map-in-Residual-pairs-2.result.now in
    let n = c.as_map-in-Residual-pairs-2-2.result.now in
    let seen = λ (m n : ExprMap). term_eq (record_of (fields_view m.entries)) (record_of (fields_view n.entries)) in
    c.eq-in-Residual-pairs-2.ensures ∙ exprs_eq m.entries n.entries
    ∙ (λ i. seen (c.as_map-in-Residual-pairs-2.ensures.map i) (c.as_map-in-Residual-pairs-2-2.ensures.map i))
    ∙ sym (λ i. partial_eq (context_value (context_pairs_view ((opened c.self.view_is c.in-Residual.is) i)))
    (context_value (context_pairs_view ((opened c.other.view_is c.in-Residual-pairs-2.is) i))))
