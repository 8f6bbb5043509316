-- What objects say, and lists that are read.
use Rattle.std.proofs.Common.{◌≡◌, Bool, true, false, cond, List, [], ◌∷◌, ◌++◌, map, Option, Some, None, refl, sym, ap, ◌∙◌}
use Rattle.std.proofs.lemmas.List.{map-append}
use Rattle.std.specs.Prelude.{bytes_eq, codes}
use Rattle.std.specs.declared.alloc.Global.{Global}
use Rattle.std.specs.declared.rc.RcStr.{RcStr}
use Rattle.json.specs.Json.{Json, null, boolean, number, string, array, object, Members, no_members, member}
use Rattle.cedar_model.specs.Terms.{Text, Term, one_term, terms_of}
use Rattle.cedar_expressions.specs.View.{terms_view}
use Rattle.cedar_expressions.specs.Records.{pairs_view, keys_view}
use Rattle.cedar_restricted.specs.declared.restricted_expr.RestrictedExpr.{RestrictedExpr}
use Rattle.cedar_restricted.specs.Views.{restricted_term, exprs_in, pairs_in}
use Rattle.cedar_json_reader.specs.declared.errors.RefusalReason.TheVariants as reasons
use Rattle.cedar_json_reader.specs.Refusals.{Said, refused, made_of}
use Rattle.cedar_json_reader.specs.Shapes.{Member, Parts, sole, call_shape}
use Rattle.cedar_json_reader.specs.Said.{said, said_members, said_call, entity_said, sole_said, record_said, keys_of_pairs}
use Rattle.cedar_json_reader.specs.Lists.{shape_said, pair_said, pairs_said, IsUnrecorded}
use Rattle.std.specs.Rc.{rc_str_bytes}
use Rattle.cedar_expressions.specs.declared.errors.ExpressionConstructionError.{ExpressionConstructionError}
use Rattle.cedar_expressions.specs.declared.errors.ExpressionConstructionError.TheVariants as constructions
use Rattle.cedar_expressions.specs.Errors.{IsRefusalOf}
use Rattle.cedar_json_reader.specs.declared.errors.JsonError.{JsonError}
use Rattle.cedar_json_reader.specs.Paths.{at_key}
use Rattle.cedar_json_reader.specs.Said.{unique_said}
use Rattle.cedar_json_reader.specs.Refusals.{IsRefusal}
use Rattle.cedar_json_reader.proofs.Refused.{refused_at, refused_same, memory_refused, none_done}

-- ---- objects

abbrev key_or : Text → Option Member → Text
key_or k None = k
key_or k (Some m) = m.0

abbrev value_or : Json → Option Member → Json
value_or j None = j
value_or j (Some m) = m.1

pub sole_object : (ms : Members) (k : Text) (j : Json) → Some (k, j) ≡ sole ms
    → said (object ms) ≡ sole_said k (entity_said j) (said_call j) (record_said (said_members ms))
sole_object no_members k j h = absurd (cc)
sole_object (member l i no_members) k j h =
    let keys : k ≡ l = ap (λ (o : Option Member). key_or k o) h in
    let same : j ≡ i = ap (λ (o : Option Member). value_or j o) h in
    λ n. sole_said (sym keys n) (entity_said (sym same n)) (said_call (sym same n)) (record_said (said_members (member l i no_members)))
sole_object (member l i (member m x ms)) k j h = absurd (cc)

-- ---- calls

abbrev pub by_shape : Option Parts → Said Term
by_shape None = refused reasons.NotACall
by_shape (Some p) = shape_said p

choice : (b c : Bool) (x y : Parts) → cond b (shape_said x) (cond c (shape_said y) (refused reasons.NotACall)) ≡ by_shape (cond b (Some x) (cond c (Some y) None))
choice true c x y = refl
choice false true x y = refl
choice false false x y = refl

pub call_by_shape : (j : Json) → said_call j ≡ by_shape (call_shape j)
call_by_shape null = refl
call_by_shape (boolean b) = refl
call_by_shape (number t) = refl
call_by_shape (string t) = refl
call_by_shape (array js) = refl
call_by_shape (object no_members) = refl
call_by_shape (object (member k a no_members)) = refl
call_by_shape (object (member k a (member l b no_members))) = choice (bytes_eq k (codes "fn")) (bytes_eq l (codes "fn")) _ _
call_by_shape (object (member k a (member l b (member m c ms)))) = refl

-- ---- lists

pub terms_read : (rs : List RestrictedExpr) → terms_of (map restricted_term rs) ≡ terms_view (exprs_in rs)
terms_read [] = refl
terms_read (r ∷ rs) = ap (one_term (restricted_term r)) (terms_read rs)

pub keys_read : (ps : List (RcStr Global × RestrictedExpr)) → keys_of_pairs (pairs_said ps) ≡ keys_view (pairs_in ps)
keys_read [] = refl
keys_read (p ∷ ps) = ap (λ (ks : List Text). (pair_said p).0 ∷ ks) (keys_read ps)

pub pairs_read : (ps : List (RcStr Global × RestrictedExpr)) → pairs_said ps ≡ pairs_view (pairs_in ps)
pairs_read [] = refl
pairs_read (p ∷ ps) = ap (λ (qs : List (Text × Term)). pair_said p ∷ qs) (pairs_read ps)

pub one_read : (old new : List RestrictedExpr) (r : RestrictedExpr) → new ≡ old ++ r ∷ [] → map restricted_term new ≡ map restricted_term old ++ restricted_term r ∷ []
one_read old new r h = ap (map restricted_term) h ∙ map-append restricted_term old (r ∷ [])

pub pair_read : (old new : List (RcStr Global × RestrictedExpr)) (p : RcStr Global × RestrictedExpr) → new ≡ old ++ p ∷ [] → pairs_said new ≡ pairs_said old ++ pair_said p ∷ []
pair_read old new p h = ap (map pair_said) h ∙ map-append pair_said old (p ∷ [])

-- no record is made of pairs among which a key is a duplicate
pub unrecorded : (o : Option Text) (place : Text) (ps : List (Text × Term)) (x : ExpressionConstructionError) (e : JsonError) → IsRefusalOf o place x → IsUnrecorded x e → IsRefusal (unique_said o ps) e
unrecorded o place ps (constructions.DuplicateKey key context) e h u =
    refused_same (unique_said o ps) (unique_said (Some (rc_str_bytes key)) ps) e (ap (λ k. unique_said k ps) h.0) (refused_at _ (at_key (rc_str_bytes key) ∷ []) reasons.RepeatedKey e u)
unrecorded o place ps (constructions.Memory error) e h u = memory_refused (unique_said o ps) e u

-- nothing is read yet
pub none_read : (rs : List RestrictedExpr) (s : Said (List Term)) → rs ≡ [] → s ≡ made_of (λ ts. map restricted_term rs ++ ts) s
none_read rs s h = none_done s ∙ ap (λ (ts : List RestrictedExpr). made_of (λ us. map restricted_term ts ++ us) s) (sym h)

pub ruleset reading = (one_read, pair_read)
