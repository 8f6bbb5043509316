-- Lists that are read.
use Rattle.std.proofs.Common.{◌≡◌, List, [], ◌∷◌, ◌++◌, map, Option, Some, refl, sym, ap, ◌∙◌}
use Rattle.std.proofs.lemmas.List.{map-append}
use Rattle.std.specs.Rc.{rc_str_bytes}
use Rattle.std.specs.declared.alloc.Global.{Global}
use Rattle.std.specs.declared.rc.RcStr.{RcStr}
use Rattle.cedar_model.specs.Terms.{Text, Term}
use Rattle.cedar_expressions.specs.declared.errors.ExpressionConstructionError.{ExpressionConstructionError}
use Rattle.cedar_expressions.specs.declared.errors.ExpressionConstructionError.TheVariants as constructions
use Rattle.cedar_expressions.specs.declared.expr.Expr.{Expr}
use Rattle.cedar_expressions.specs.Errors.{IsRefusalOf}
use Rattle.cedar_expressions.specs.Records.{pairs_view, keys_view}
use Rattle.cedar_policy_json_reader.specs.declared.errors.PolicyJsonError.{PolicyJsonError}
use Rattle.cedar_policy_json_reader.specs.declared.errors.RefusalReason.TheVariants as reasons
use Rattle.cedar_policy_json_reader.specs.Expressions.{unique_said, keys_of_pairs}
use Rattle.cedar_policy_json_reader.specs.Lists.{IsUnrecorded}
use Rattle.cedar_policy_json_reader.specs.Paths.{at_key}
use Rattle.cedar_policy_json_reader.specs.Refusals.{Said, made_of, IsRefusal}
use Rattle.cedar_policy_json_reader.proofs.Refused.{none_done, refused_at, refused_same, memory_refused}

-- one more at the end, seen by `view`
pub one_mapped : {T U : Type 0} (view : T → U) (old new : List T) (t : T) → new ≡ old ++ t ∷ [] → map view new ≡ map view old ++ view t ∷ []
one_mapped view old new t h = ap (map view) h ∙ map-append view old (t ∷ [])

-- nothing is read yet
pub nothing_read : {T U : Type 0} (view : T → U) (xs : List T) (s : Said (List U)) → xs ≡ [] → s ≡ made_of (λ us. map view xs ++ us) s
nothing_read view xs s h = none_done s ∙ ap (λ (ts : List _). made_of (λ us. map view ts ++ us) s) (sym h)

pub keys_read : (ps : List (RcStr Global × Expr)) → keys_of_pairs (pairs_view ps) ≡ keys_view ps
keys_read [] = refl
keys_read (p ∷ ps) = ap (λ (ks : List Text). rc_str_bytes p.0 ∷ ks) (keys_read ps)

-- no record is made of pairs among which a key is a duplicate
pub unrecorded : (o : Option Text) (place : Text) (ps : List (Text × Term)) (x : ExpressionConstructionError) (e : PolicyJsonError)
    → IsRefusalOf o place x → IsUnrecorded x e → IsRefusal (unique_said o ps) e
unrecorded o place ps (constructions.DuplicateKey key context) e h u =
    refused_same (unique_said o ps) (unique_said (Some (rc_str_bytes key)) ps) e (ap (λ k. unique_said k ps) h.0) (refused_at _ (at_key (rc_str_bytes key) ∷ []) reasons.RepeatedKey e u)
unrecorded o place ps (constructions.Memory error) e h u = memory_refused (unique_said o ps) e u

pub ruleset lists = (one_mapped)
