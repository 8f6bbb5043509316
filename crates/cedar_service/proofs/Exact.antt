-- What is answered is exact: what is read of a text has no unknown, and is low enough.
use Rattle.std.proofs.Common.{List, Option, None, Some}
use Rattle.std.specs.Prelude.{◌≢◌}
use Rattle.cedar_model.specs.Terms.{Text, ValueType}
use Rattle.cedar_model.specs.Values.{AbstractValue}
use Rattle.cedar_model.specs.World.{function_asks}
use Rattle.cedar_model.specs.Agreement.{AgreesWithFunctions}
use Rattle.cedar_functions.specs.Functions.{Knowledge}
use Rattle.cedar_text_parser.specs.PolicyTermCalls.{ReadPoliciesCallKnown}
use Rattle.cedar_standard_functions.specs.Laws.{AskNothing}
use Rattle.cedar_standard_functions.specs.Standard.{made_by, standard_named, standard_answers}
use Rattle.cedar_standard_functions.specs.declared.function.StandardFunction.{StandardFunction}
use Rattle.cedar_service.specs.declared.engine.Engine.{Engine}
use Rattle.cedar_service.specs.Standard.{standard_extensions, standard_calls}
use Rattle.cedar_service.specs.Engines.{read_policies, entities_of}
use Rattle.cedar_service.specs.Started.{IsEngineWith, AnswersExactly, SearchesTheKnown}
use Rattle.cedar_service.proofs.Known.{NoneAsks, all_known}
use Rattle.cedar_service.proofs.KnownStores.{IsKnown, none_unknown, none_else_unknown}

made_asks_nothing : AskNothing → (o : Option StandardFunction) (vs : List AbstractValue) (n : Text)
    (t : Option ValueType) → made_by o vs ≢ function_asks n t
made_asks_nothing ask None vs n t e = cc
made_asks_nothing ask (Some f) vs n t e = ask f vs n t e

-- no standard function answers an unknown
abbrev none_asks : AskNothing → NoneAsks
none_asks ask = record {
  ans = standard_answers;
  never = λ f vs n t e. made_asks_nothing ask (standard_named f) vs n t e;
}

module _ (calls : ReadPoliciesCallKnown) (ask : AskNothing) (agree : AgreesWithFunctions standard_answers standard_calls) where
  pub exactly : (k : Knowledge) (policies entities : Text) (e : Engine)
      → IsEngineWith k standard_extensions standard_calls policies entities e → AnswersExactly e
  exactly k policies entities e has s r a store request whole is =
      let known = all_known calls (none_asks ask) (read_policies e) has.policies_are in
      let engine : IsKnown (entities_of e) = record { known = has.store_is.known; whole = has.store_is.closed.whole } in
      let nothing = none_unknown e s r engine store request whole in
      record {
        nothing_unknown = nothing;
        exact = λ sigma. is.by_meaning nothing standard_answers agree known sigma
            (is.within_limit nothing standard_answers agree known has.low.policies);
      }

pub searched : (k : Knowledge) (policies entities : Text) (e : Engine)
    → IsEngineWith k standard_extensions standard_calls policies entities e → SearchesTheKnown e
searched k policies entities e has s r part store request whole =
    none_else_unknown e s r part record { known = has.store_is.known; whole = has.store_is.closed.whole } store request whole
