use Rattle.std.proofs.Common.{subst}
use Rattle.cedar_model.specs.Agreement.{AgreesWithFunctions}
use Rattle.cedar_extensions.specs.Extensions.{extensions_view, calls_of}
use Rattle.cedar_text_parser.specs.PolicyReading.{AreAllRead}
use Rattle.cedar_standard_functions.specs.Standard.{standard_answers}
use Rattle.cedar_cli.specs.Batch.{asking}
use Rattle.cedar_cli.specs.Questions.{levels}
use Rattle.cedar_cli.specs.Reasons.{IsToldFor, IsKnownStoreUnread, IsRequestUnread, ArePoliciesUnread}
use Rattle.cedar_cli.specs.Standard.{standard_extensions, standard_calls, standard_knowledge}
use Rattle.cedar_cli.proofs.Alone.{calls_alone, view_alone, known_alone}
use Rattle.cedar_cli.proofs.Composed.{of_ok, of_err}
use Rattle.cedar_cli.proofs.Reasoned.{because}
use Rattle.cedar_regression.specs.Answered.{IsAnswerOver, IsAnswerOf}
use Rattle.cedar_regression.specs.Compared.{asked_lines, AreComparedBy, AreCompared, AreUncompared, old_unread, new_unread, entities_unread}
use Rattle.cedar_regression.proofs.Lines.{answered_alone, lines_as}
use Rattle.cedar_regression.proofs.comparisons.compare_policies.Goals as goal

pub returns-clause-compared : goal.returns-clause-compared
returns-clause-compared c =
    let x = c.all_available-extensions.result in
    let none = c.all_available-extensions.ensures.extensions in
    let there = c.all_available-extensions.ensures.standard in
    let old = c.in_ok-old_parsed.old_parsed in
    let new = c.in_ok-new_parsed.new_parsed in
    let old_text = c.args.old.text.now in
    let new_text = c.args.new.text.now in
    let q = c.args.asked.now in
    let requests = c.args.requests.now in
    let w = c.args.way in
    let agree : AgreesWithFunctions standard_answers standard_calls =
    subst (λ calls. AgreesWithFunctions standard_answers calls) (calls_alone x none there)
    c.all_available-extensions.ensures.agrees in
    let old_read : AreAllRead standard_knowledge old_text levels old =
    subst (λ k. AreAllRead k old_text levels old) (known_alone x none there) c.in_ok-old_parsed.ensures.read in
    let new_read : AreAllRead standard_knowledge new_text levels new =
    subst (λ k. AreAllRead k new_text levels new) (known_alone x none there) c.in_ok-new_parsed.ensures.read in
    let calls = c.known_calls_of_policies.ensures.policies in
    let ask = c.functions_are_computed.ensures.nothing_asked in
    of_ok (AreComparedBy (extensions_view x) (calls_of x) old.policies new.policies q requests w)
    (AreCompared old_text new_text q requests w)
    (λ p h.
    let viewed = subst (λ v. AreComparedBy v (calls_of x) old.policies new.policies q requests w p)
    (view_alone x none there) h in
    let by = subst (λ f. AreComparedBy standard_extensions f old.policies new.policies q requests w p)
    (calls_alone x none there) viewed in
    let s = by.entities in
    record {
      comparisons = by.compared.comparisons;
      each = lines_as (IsAnswerOver standard_extensions standard_calls old.policies s w)
          (IsAnswerOver standard_extensions standard_calls new.policies s w) (IsAnswerOf old_text w)
          (IsAnswerOf new_text w) (IsRequestUnread standard_extensions standard_calls) q
          (λ r a is. answered_alone calls ask agree old_text old old_read c.in_ok-old_parsed.ensures.low s w (asking q r) a
          by.store_is is)
          (λ r a is. answered_alone calls ask agree new_text new new_read c.in_ok-new_parsed.ensures.low s w (asking q r) a
          by.store_is is)
          1 (asked_lines requests) by.compared.comparisons by.compared.each;
      output_is = by.compared.output_is;
      status_is = by.compared.status_is;
    })
    c.compare_read-printed.result c.compare_read-printed.ensures.compared

pub returns-clause-refused : goal.returns-clause-refused
returns-clause-refused c =
    let x = c.all_available-extensions.result in
    let none = c.all_available-extensions.ensures.extensions in
    let there = c.all_available-extensions.ensures.standard in
    let q = c.args.asked.now in
    let old = c.args.old.text.now in
    let new = c.args.new.text.now in
    of_err (IsToldFor (IsKnownStoreUnread (extensions_view x) (calls_of x) q.entities q.max_ancestors))
    (IsToldFor (AreUncompared old new q))
    (λ r. because (IsKnownStoreUnread (extensions_view x) (calls_of x) q.entities q.max_ancestors) (AreUncompared old new q)
    (λ h. entities_unread
    (subst (λ calls. IsKnownStoreUnread standard_extensions calls q.entities q.max_ancestors) (calls_alone x none there)
    (subst (λ v. IsKnownStoreUnread v (calls_of x) q.entities q.max_ancestors) (view_alone x none there) h))) r)
    c.compare_read-printed.result c.compare_read-printed.ensures.refused
