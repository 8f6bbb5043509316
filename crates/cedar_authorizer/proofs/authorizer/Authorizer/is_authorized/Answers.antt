use Rattle.std.proofs.Common.{refl}
use Rattle.std.proofs.lemmas.Result.{IfOk-weaker}
use Rattle.cedar_extensions.specs.Extensions.{calls_of}
use Rattle.cedar_authorizer.specs.responses.Responses.{response_view}
use Rattle.cedar_authorizer.specs.Configured.{extensions_of, limit_of, mode_of, asked}
use Rattle.cedar_authorizer.specs.Responding.{considered}
use Rattle.cedar_authorizer.proofs.Deciding.{known_response, no_limit, own_world_completes_call}
use Rattle.cedar_authorizer.proofs.Telling.{told_concrete}
use Rattle.cedar_authorizer.proofs.authorizer.Authorizer.is_authorized.Goals as goal

pub returns-in_err-response-clause-own_world : goal.returns-in_err-response-clause-own_world
returns-in_err-response-clause-own_world g c = own_world_completes_call (asked c.args.self.now c.args.request c.args.entities.now) _ (λ n. refl)

pub returns-in_err-sheet-clause-own_world : goal.returns-in_err-sheet-clause-own_world
returns-in_err-sheet-clause-own_world g c = own_world_completes_call (asked c.args.self.now c.args.request c.args.entities.now) _ (λ n. refl)

pub returns-in_err-shared-clause-own_world : goal.returns-in_err-shared-clause-own_world
returns-in_err-shared-clause-own_world g c = own_world_completes_call (asked c.args.self.now c.args.request c.args.entities.now) _ (λ n. refl)

pub returns-clause-own_world : goal.returns-clause-own_world
returns-clause-own_world g c = own_world_completes_call (asked c.args.self.now c.args.request c.args.entities.now) _ (λ n. refl)

pub returns-clause-response : goal.returns-clause-response
returns-clause-response g c =
    let mode = mode_of c.args.self.now in
    let calls = calls_of (extensions_of c.args.self.now) in
    let levels = limit_of c.args.self.now in
    let s = asked c.args.self.now c.args.request c.args.entities.now in
    let ps = considered c.args.policies.now in
    IfOk-weaker c.concretize.result _ _ (λ r e. told_concrete mode s calls levels c.args.policies.now c.in_ok-sheet.sheet c.in_ok-response.response (response_view r) c.in_ok-sheet.ensures c.in_ok-response.ensures.mode c.in_ok-response.ensures.kept e) c.concretize.ensures.response

pub returns-clause-known : goal.returns-clause-known
returns-clause-known g c =
    let mode = mode_of c.args.self.now in
    let calls = calls_of (extensions_of c.args.self.now) in
    let levels = limit_of c.args.self.now in
    let s = asked c.args.self.now c.args.request c.args.entities.now in
    let ps = considered c.args.policies.now in
    IfOk-weaker c.concretize.result _ _ (λ r e. known_response mode s calls levels ps (response_view r) (told_concrete mode s calls levels c.args.policies.now c.in_ok-sheet.sheet c.in_ok-response.response (response_view r) c.in_ok-sheet.ensures c.in_ok-response.ensures.mode c.in_ok-response.ensures.kept e)) c.concretize.ensures.response

pub returns-clause-limit : goal.returns-clause-limit
returns-clause-limit g c =
    let mode = mode_of c.args.self.now in
    let calls = calls_of (extensions_of c.args.self.now) in
    let levels = limit_of c.args.self.now in
    let s = asked c.args.self.now c.args.request c.args.entities.now in
    let ps = considered c.args.policies.now in
    IfOk-weaker c.concretize.result _ _ (λ r e. no_limit mode s calls levels ps (response_view r) (told_concrete mode s calls levels c.args.policies.now c.in_ok-sheet.sheet c.in_ok-response.response (response_view r) c.in_ok-sheet.ensures c.in_ok-response.ensures.mode c.in_ok-response.ensures.kept e)) c.concretize.ensures.response
