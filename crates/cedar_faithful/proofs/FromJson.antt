-- What is made of restricted expressions, and what is read from JSON, is such where each restricted expression answers
-- such a part.
use Rattle.std.specs.Prelude.{◌≡◌, ℕ, true, List, [], ◌∷◌, Option, Some, None, Ok, Err, IsSomeAnd, codes}
use Rattle.std.specs.declared.alloc.Global.{Global}
use Rattle.std.specs.declared.rc.RcStr.{RcStr}
use Rattle.json.specs.Json.{Json}
use Rattle.json.specs.Find.{get}
use Rattle.cedar_model.specs.Terms.{Term}
use Rattle.cedar_model.specs.World as model
use Rattle.cedar_model.specs.Shapes.{is_restricted}
use Rattle.cedar_model.specs.Failures.{PartialValue}
use Rattle.cedar_model.specs.Settings.{context_value}
use Rattle.cedar_model.specs.Rules.{StoredCalls}
use Rattle.cedar_expressions.specs.Records.{fields_in_order, pairs_view}
use Rattle.cedar_layers.specs.declared.policies.entities.Entity.{Entity}
use Rattle.cedar_layers.specs.Stores.{entity_view}
use Rattle.cedar_restricted.specs.Evaluations.{bare_setting}
use Rattle.cedar_restricted.specs.Views.{pairs_in}
use Rattle.cedar_restricted.specs.declared.restricted_expr.RestrictedExpr.{RestrictedExpr}
use Rattle.cedar_requests.specs.declared.context.Context.{Context}
use Rattle.cedar_requests.specs.declared.request.Request.{Request}
use Rattle.cedar_requests.specs.Contexts.{context_view, context_part_value}
use Rattle.cedar_requests.specs.Creations.{IsCreated, IsCreatedOfPairs, record_of_pairs}
use Rattle.cedar_requests.specs.Requests.{context_given, request_view}
use Rattle.cedar_json_reader.specs.Refusals.{Said}
use Rattle.cedar_json_reader.specs.SaidContexts.{context_said, IsContextOf}
use Rattle.cedar_json_reader.specs.SaidRequests.{context_at, IsGivenContext, IsRequestOf}
use Rattle.cedar_json_reader.specs.SaidEntities.{SaidEntity, entities_said, member_says}
use Rattle.cedar_json_reader.specs.Evaluated.{AreEvaluated, AreEntitiesOf}
use Rattle.cedar_faithful.specs.Held.{EachHas}
use Rattle.cedar_faithful.proofs.Restricted.{SaysSuch, EachSuch, under_such, IsRestricted, IsRestrictedPair}
use Rattle.cedar_faithful.proofs.Restricted.{fields_restricted, in_order_restricted, context_restricted}
use Rattle.cedar_faithful.proofs.RestrictedEntities.{IsRestrictedEntity, entities_restricted}
use Rattle.cedar_faithful.proofs.Evaluated.{bare, EachAnswerIs, facts_such}

-- what follows of a text's value follows of the text
pub of_some : {T : Type 0} (o : Option T) (P : T → Type 0) (Q : Type 0) → IsSomeAnd o P → ((t : T) → P t → Q) → Q
of_some None P Q h k = absurd h
of_some (Some t) P Q h k = k t h

-- the record of pairs of a key and a restricted expression is restricted
each_pair_restricted : (ps : List (RcStr Global × RestrictedExpr))
    → EachSuch IsRestrictedPair (pairs_view (pairs_in ps))
each_pair_restricted [] = tt
each_pair_restricted (p ∷ ps) = (p.1.restricted, each_pair_restricted ps)

pairs_restricted : (ps : List (RcStr Global × RestrictedExpr)) → IsRestricted (record_of_pairs (pairs_in ps))
pairs_restricted ps =
    fields_restricted (fields_in_order (pairs_view (pairs_in ps))) (in_order_restricted _ (each_pair_restricted ps))

module _ (Such : PartialValue → Type 0) (x : model.Extensions) (calls : StoredCalls) (n : ℕ)
    (answered : EachAnswerIs Such x calls n) where
  pub created_such : (t : Term) (c : Context) → is_restricted t ≡ true → IsCreated x calls n t (Ok c)
      → Such (context_value (context_view c))
  created_such t c r h = answered t (context_part_value c) r (h (bare_setting x) (bare x)).1

  pub created_of_pairs_such : (ps : List (RcStr Global × RestrictedExpr)) (c : Context)
      → IsCreatedOfPairs x calls n (pairs_in ps) (Ok c) → Such (context_value (context_view c))
  created_of_pairs_such ps c h =
      answered (record_of_pairs (pairs_in ps)) (context_part_value c) (pairs_restricted ps)
      (h (bare_setting x) (bare x)).1

  said_such : (s : Said Term) (c : Context) → SaysSuch IsRestricted s → IsContextOf x calls n s c
      → Such (context_value (context_view c))
  said_such (Ok t) c r h = created_such t c r h
  said_such (Err e) c r h = absurd h

  pub context_read : (j : Json) (c : Context) → IsContextOf x calls n (context_said j) c
      → Such (context_value (context_view c))
  context_read j c h = said_such (context_said j) c (context_restricted j) h

  given_such : (s : Said Term) (o : Option Context) → SaysSuch IsRestricted s → IsGivenContext x calls n s o
      → Such (context_value (context_given o))
  given_such s None r h = absurd h
  given_such s (Some c) r h = said_such s c r h

  member_restricted : (o : Option Json) → SaysSuch IsRestricted (member_says (codes "context") context_said o)
  member_restricted None = tt
  member_restricted (Some j) = under_such IsRestricted _ (context_said j) (context_restricted j)

  pub request_read : (j : Json) (r : Request) → IsRequestOf x calls n j r
      → Such (context_value (request_view r).context_part)
  request_read j r h = given_such (context_at j) r.context (member_restricted (get (codes "context") j)) h.context

  each_such : (es : List SaidEntity) (ds : List Entity) → EachSuch IsRestrictedEntity es → AreEvaluated x calls n es ds
      → EachHas Such ds
  each_such [] [] r h = tt
  each_such [] (d ∷ ds) r h = absurd h
  each_such (e ∷ es) [] r h = absurd h
  each_such (e ∷ es) (d ∷ ds) r h =
      (facts_such Such x calls n answered e (entity_view d) r.0 h.0.1, each_such es ds r.1 h.1)

  entities_such : (s : Said (List SaidEntity)) (ds : List Entity) → SaysSuch (EachSuch IsRestrictedEntity) s
      → AreEntitiesOf x calls n s ds → EachHas Such ds
  entities_such (Ok es) ds r h = each_such es ds r h
  entities_such (Err e) ds r h = absurd h

  pub entities_read : (j : Json) (ds : List Entity) → AreEntitiesOf x calls n (entities_said j) ds
      → EachHas Such ds
  entities_read j ds h = entities_such (entities_said j) ds (entities_restricted j) h
