-- Entities of a type and an id, as the reader of JSON reads them.
use Rattle.std.proofs.Common.{◌≡◌, refl, sym, ap, ◌∙◌, subst, true, Option, Some, None, Result, Ok, Err, codes, is_some}
use Rattle.json.specs.Json.{Json}
use Rattle.cedar_model.specs.Terms.{Text, EntityName, Term}
use Rattle.cedar_restricted.specs.Readers.{entity_in}
use Rattle.cedar_json_reader.specs.declared.errors.JsonError.{JsonError}
use Rattle.cedar_json_reader.specs.declared.errors.JsonError.TheVariants as errors
use Rattle.cedar_json_reader.specs.Refusals.{Said, Refusal, under, made_of, IsRefusal}
use Rattle.cedar_json_reader.specs.Paths.{Step, at_key, path_view}
use Rattle.cedar_json_reader.specs.Said.{said, entity_term}
use Rattle.cedar_endpoints.specs.Asked.{Named}
use Rattle.cedar_service.specs.Faults.{IsOfJson}
use Rattle.cedar_service.specs.Asked.{entity_said, IsUnnamed, uid_json}

abbrev term_of : Said EntityName → Said Term
term_of s = under (at_key (codes "__entity")) (made_of entity_term s)

said_uid : (n : Named) → said (uid_json n) ≡ term_of (entity_said n)
said_uid n = refl

-- an entity is said, if anything is
abbrev HasEntity : Said Term → Type 0
HasEntity (Ok t) = is_some (entity_in t) ≡ true
HasEntity (Err r) = Unit {0}

-- and it is this one
abbrev Finds : EntityName → Said Term → Type 0
Finds e (Ok t) = entity_in t ≡ Some e
Finds e (Err r) = Unit {0}

is_entity : (s : Said EntityName) (t : Term) → term_of s ≡ Ok t → is_some (entity_in t) ≡ true
is_entity (Ok e) t is = subst HasEntity is refl
is_entity (Err r) t is = absurd (cc)

same_name : (x e : EntityName) → Some x ≡ Some e → x ≡ e
same_name x e h = cc

entity_is : (s : Said EntityName) (t : Term) (e : EntityName) → term_of s ≡ Ok t → entity_in t ≡ Some e → s ≡ Ok e
entity_is (Ok x) t e is found =
    let here : entity_in t ≡ Some x = subst (Finds x) is refl in
    ap Ok (same_name x e (sym here ∙ found))
entity_is (Err r) t e is found = absurd (cc)

unnamed : (s : Said EntityName) (r : Refusal) → term_of s ≡ Err r → (q : Refusal) × (s ≡ Err q)
unnamed (Ok x) r is = absurd (cc)
unnamed (Err q) r is = (q, refl)

module _ (j : Json) (n : Named) (same : j ≡ uid_json n) where
  as_said : said j ≡ term_of (entity_said n)
  as_said = ap said same ∙ said_uid n

  pub named_entity : (t : Term) → said j ≡ Ok t → is_some (entity_in t) ≡ true
  named_entity t is = is_entity (entity_said n) t (sym as_said ∙ is)

  pub named_as : (t : Term) (e : EntityName) → said j ≡ Ok t → entity_in t ≡ Some e → entity_said n ≡ Ok e
  named_as t e is found = entity_is (entity_said n) t e (sym as_said ∙ is) found

  pub not_named : (e : JsonError) → IsRefusal (said j) e → IsOfJson e → IsUnnamed n
  not_named errors.Syntax h of = absurd h
  not_named errors.DuplicateKey h of = absurd h
  not_named (errors.Refused p r) h of = unnamed (entity_said n) _ (sym as_said ∙ h)
  not_named (errors.Evaluation p e) h of = absurd h
  not_named (errors.Memory e) h of = absurd of
