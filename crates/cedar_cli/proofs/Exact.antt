-- Without a limit that is set, what is answered is exact: what is read of a text has no unknown, and is low enough.
use Rattle.std.proofs.Common.{◌≡◌, sym, ap, subst, List, Option, None, Some}
use Rattle.std.specs.Prelude.{◌≢◌}
use Rattle.std.specs.Option.{unwrap_or}
use Rattle.cedar_model.specs.Terms.{Text, ValueType}
use Rattle.cedar_model.specs.Values.{AbstractValue}
use Rattle.cedar_model.specs.World.{function_asks}
use Rattle.cedar_model.specs.World as world
use Rattle.cedar_model.specs.Rules.{StoredCalls}
use Rattle.cedar_model.specs.Agreement.{AgreesWithFunctions, HasNothingUnknown}
use Rattle.cedar_model.specs.Authorizations.{Authorized, AreNoHigher}
use Rattle.cedar_decisions.specs.Decisions.{mode_view}
use Rattle.cedar_functions.specs.Functions.{Knowledge}
use Rattle.cedar_layers.specs.declared.policies.entities.Entities.{Entities}
use Rattle.cedar_requests.specs.declared.request.Request.{Request}
use Rattle.cedar_text_parser.specs.PolicyHeights.{with_scope, AreAllNoHigher}
use Rattle.cedar_text_parser.specs.PolicyReading.{AreAllRead}
use Rattle.cedar_text_parser.specs.PolicyTermCalls.{ReadPoliciesCallKnown}
use Rattle.cedar_text_parser.specs.declared.policies.ParsedPolicies.{ParsedPolicies}
use Rattle.cedar_standard_functions.specs.Laws.{AskNothing}
use Rattle.cedar_standard_functions.specs.Standard.{made_by, standard_named, standard_answers}
use Rattle.cedar_standard_functions.specs.declared.function.StandardFunction.{StandardFunction}
use Rattle.cedar_authorizer.specs.Responding.{considered}
use Rattle.cedar_cli.specs.declared.asked.Asked.{Asked}
use Rattle.cedar_cli.specs.declared.asked.Way.{Way}
use Rattle.cedar_cli.specs.Questions.{levels, IsKnownStore, IsWholeRequest}
use Rattle.cedar_cli.specs.Standard.{standard_extensions, standard_calls}
use Rattle.cedar_cli.specs.Authorized.{limit_in, setting_of, IsResponseTo, IsExact}
use Rattle.cedar_cli.proofs.Known.{NoneAsks, all_known}

made_asks_nothing : AskNothing → (o : Option StandardFunction) (vs : List AbstractValue) (n : Text)
    (t : Option ValueType) → made_by o vs ≢ function_asks n t
made_asks_nothing ask None vs n t e = cc
made_asks_nothing ask (Some f) vs n t e = ask f vs n t e

-- no standard function answers an unknown
abbrev none_asks : AskNothing → NoneAsks
none_asks ask = record {
  ans = standard_answers;
  never = λ f vs n t e. made_asks_nothing ask (standard_named f) vs n t e;
}

-- nothing is unknown in what is decided
pub none_unknown : (X : world.Extensions) (calls : StoredCalls) (q : Asked) (s : Entities) (r : Request)
    → IsKnownStore X calls q s → IsWholeRequest X calls q r → HasNothingUnknown (setting_of X r s)
none_unknown X calls q s r store request = record {
  principal_known = request.known.principal;
  action_known = request.known.action;
  resource_known = request.known.resource;
  context_known = request.known.context;
  store_concrete = store.whole;
  store_known = store.known;
}

module _ (calls : ReadPoliciesCallKnown) (ask : AskNothing) (agree : AgreesWithFunctions standard_answers standard_calls) where
  pub exactly : (k : Knowledge) (text : Text) (parsed : ParsedPolicies) → AreAllRead k text levels parsed
      → AreAllNoHigher (with_scope levels) parsed → (s : Entities) (r : Request) (w : Way) (a : Authorized)
      → IsResponseTo standard_extensions standard_calls parsed.policies s r w a
      → HasNothingUnknown (setting_of standard_extensions r s) → w.limit ≡ None
      → IsExact (mode_view w.error_handling) parsed.policies s r a
  exactly k text parsed read low s r w a is nothing unlimited sigma =
      let known = all_known calls (none_asks ask) parsed read in
      let within : AreNoHigher (considered parsed.policies) (limit_in w.limit) =
      subst (λ n. AreNoHigher (considered parsed.policies) n) (sym (ap (λ o. unwrap_or o 4001) unlimited))
      low.policies in
      is.by_meaning nothing standard_answers agree known sigma
      (is.within_limit nothing standard_answers agree known within)
