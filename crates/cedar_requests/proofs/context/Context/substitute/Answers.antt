use Rattle.std.proofs.Common.{◌≡◌, ◌≤◌, ◌∙◌, IfOk, refl, ap, sym, subst}
use Rattle.cedar_model.specs.Chains.{without_map}
use Rattle.cedar_model.specs.Depth.{substituted_height}
use Rattle.cedar_model.specs.Settings.{context_value}
use Rattle.cedar_extensions.specs.Extensions.{extensions_view, calls_of}
use Rattle.cedar_extensions.specs.StoredLaws.{calls_functional, calls_meet_no_limit}
use Rattle.cedar_requests.specs.Contexts.{context_view, context_pairs_view, context_locs, pairs_locs, residual_locs}
use Rattle.cedar_requests.specs.Contexts.{residual_fields}
use Rattle.cedar_requests.specs.Substitutions.{values_for, record_with, context_answer, IsSubstitutedWithin}
use Rattle.cedar_requests.specs.Substitutions.{KeepsCompletions}
use Rattle.cedar_requests.proofs.Keeping.{kept}
use Rattle.cedar_requests.proofs.Substituting.{step_answer, residual_height, low_error, record_restricted}
use Rattle.cedar_requests.proofs.ByParts.{AnswersAgain, within, never_met}
use Rattle.cedar_requests.proofs.Opened.{opened}
use Rattle.cedar_requests.proofs.context.Context.substitute.Goals as goal

pub returns-in-Residual-clause-substituted : goal.returns-in-Residual-clause-substituted
returns-in-Residual-clause-substituted g c = λ s has.
    let x = extensions_view c.args.extensions.now in
    let calls = calls_of c.args.extensions.now in
    let m = values_for c.args.map.now.entries in
    let r = c.evaluated_again.result in
    let again : AnswersAgain x calls c.args.limit m r c.in-Residual.residual =
    subst (AnswersAgain x calls c.args.limit m r) c.in-Residual.residual-is c.evaluated_again.ensures.answer in
    step_answer s calls c.args.limit m (context_view c.args.self) r
    (subst (λ p. IsSubstitutedWithin (without_map s) calls c.args.limit m (context_pairs_view p) r)
    (sym (opened c.self.view_is c.in-Residual.is))
    (within x calls c.args.limit (record_with m c.in-Residual.residual) (context_answer r) again
    (calls_functional c.args.extensions.now) (without_map s) record { no_map = refl; has_extensions = has }))

pub returns-in-Residual-clause-answer : goal.returns-in-Residual-clause-answer
returns-in-Residual-clause-answer g c = λ s is_bare.
    let x = extensions_view c.args.extensions.now in
    let calls = calls_of c.args.extensions.now in
    let m = values_for c.args.map.now.entries in
    let r = c.evaluated_again.result in
    let again : AnswersAgain x calls c.args.limit m r c.in-Residual.residual =
    subst (AnswersAgain x calls c.args.limit m r) c.in-Residual.residual-is c.evaluated_again.ensures.answer in
    subst (λ p. IsSubstitutedWithin s calls c.args.limit m (context_pairs_view p) r)
    (sym (opened c.self.view_is c.in-Residual.is))
    (within x calls c.args.limit (record_with m c.in-Residual.residual) (context_answer r) again
    (calls_functional c.args.extensions.now) s is_bare)

pub returns-in-Residual-clause-low : goal.returns-in-Residual-clause-low
returns-in-Residual-clause-low g c = λ low.
    let x = extensions_view c.args.extensions.now in
    let calls = calls_of c.args.extensions.now in
    let es = c.args.map.now.entries in
    let m = values_for es in
    let left = c.in-Residual.residual in
    let r = c.evaluated_again.result in
    let again : AnswersAgain x calls c.args.limit m r c.in-Residual.residual =
    subst (AnswersAgain x calls c.args.limit m r) c.in-Residual.residual-is c.evaluated_again.ensures.answer in
    low_error r
    (never_met x calls c.args.limit (record_with m left) (context_answer r) again
    (calls_meet_no_limit c.args.extensions.now) (record_restricted es (residual_fields left) left.restricted)
    (subst (λ n. n ≤ c.args.limit)
    (ap (λ p. substituted_height m (context_value (context_pairs_view p))) (opened c.self.view_is c.in-Residual.is)
    ∙ residual_height m left) low))

pub returns-in-Residual-clause-completions : goal.returns-in-Residual-clause-completions
returns-in-Residual-clause-completions g c =
    let x = extensions_view c.args.extensions.now in
    let calls = calls_of c.args.extensions.now in
    let m = values_for c.args.map.now.entries in
    let left = c.in-Residual.residual in
    let r = c.evaluated_again.result in
    let again : AnswersAgain x calls c.args.limit m r c.in-Residual.residual =
    subst (AnswersAgain x calls c.args.limit m r) c.in-Residual.residual-is c.evaluated_again.ensures.answer in
    subst (λ p. KeepsCompletions x calls m (context_pairs_view p) r) (sym (opened c.self.view_is c.in-Residual.is))
    (kept x calls c.args.limit m left r
    (within x calls c.args.limit (record_with m left) (context_answer r) again
    (calls_functional c.args.extensions.now)))

pub returns-in-Residual-clause-places : goal.returns-in-Residual-clause-places
returns-in-Residual-clause-places g c =
    subst (λ p. IfOk c.evaluated_again.result (λ d. context_locs d ≡ pairs_locs p))
    (sym (opened c.self.view_is c.in-Residual.is))
    (subst (λ l. IfOk c.evaluated_again.result (λ d. context_locs d ≡ residual_locs l)) c.in-Residual.residual-is
    c.evaluated_again.ensures.places)
