-- How refusals are passed on.
use Rattle.std.proofs.Common.{◌≡◌, List, [], ◌∷◌, ◌++◌, Ok, Err, refl, sym, ap, ◌∙◌, subst, append_assoc, append-nil}
use Rattle.cedar_response_json_reader.specs.declared.errors.ResponseJsonError.{ResponseJsonError}
use Rattle.cedar_response_json_reader.specs.declared.errors.ResponseJsonError.TheVariants as errors
use Rattle.cedar_response_json_reader.specs.declared.errors.ResponseRefusal.{ResponseRefusal}
use Rattle.cedar_response_json_reader.specs.declared.errors.ResponseRefusal.TheVariants as reasons
use Rattle.cedar_policy_json_reader.specs.declared.errors.PolicyJsonError.{PolicyJsonError}
use Rattle.cedar_policy_json_reader.specs.declared.errors.PolicyJsonError.TheVariants as policies
use Rattle.cedar_policy_json_reader.specs.declared.errors.RefusalReason.{RefusalReason}
use Rattle.cedar_policy_json_reader.specs.declared.paths.JsonPath.{JsonPath}
use Rattle.cedar_policy_json_reader.specs.Paths.{Step, path_view}
use Rattle.cedar_policy_json_reader.specs.Refusals as json
use Rattle.cedar_response_json_reader.specs.Refusals.{Said, under, before, both_said, made_of, and_then, of_policies}
use Rattle.cedar_response_json_reader.specs.Refusals.{IsRefusal, IsRefusedAt, IsUnder, IsMemory, IsOfPolicies}

pub refused_at : (T : Type 0) (path : List Step) (r : ResponseRefusal) (e : ResponseJsonError) → IsRefusedAt path r e → IsRefusal {T = T} (Err (record { path = path; reason = r })) e
refused_at T path r errors.Syntax h = h
refused_at T path r (errors.Refused p t) h = λ i. Err (record { path = sym h.0 i; reason = sym h.1 i })
refused_at T path r (errors.Memory m) h = tt

pub memory_refused : {T : Type 0} (said : Said T) (e : ResponseJsonError) → IsMemory e → IsRefusal said e
memory_refused said errors.Syntax h = h
memory_refused said (errors.Refused p t) h = absurd h
memory_refused said (errors.Memory m) h = tt

pub refused_under : {T : Type 0} (s : Step) (said : Said T) (d e : ResponseJsonError) → IsRefusal said d → IsUnder s d e → IsRefusal (under s said) e
refused_under s said d errors.Syntax h u = subst (λ (x : ResponseJsonError). IsRefusal said x) u h
refused_under s said errors.Syntax (errors.Refused q t) h u = absurd u
refused_under s said (errors.Refused p r) (errors.Refused q t) h u = ap (under s) h ∙ (λ i. Err (record { path = sym u.0 i; reason = sym u.1 i }))
refused_under s said (errors.Memory m) (errors.Refused q t) h u = absurd u
refused_under s said d (errors.Memory m) h u = tt

pub refused_made : {T U : Type 0} (f : T → U) (said : Said T) (e : ResponseJsonError) → IsRefusal said e → IsRefusal (made_of f said) e
refused_made f said errors.Syntax h = h
refused_made f said (errors.Refused p t) h = ap (made_of f) h
refused_made f said (errors.Memory m) h = tt

pub refused_then : {T U : Type 0} (f : T → Said U) (said : Said T) (e : ResponseJsonError) → IsRefusal said e → IsRefusal (and_then f said) e
refused_then f said errors.Syntax h = h
refused_then f said (errors.Refused p t) h = ap (and_then f) h
refused_then f said (errors.Memory m) h = tt

pub refused_first : {T U : Type 0} (a : Said T) (b : Said U) (e : ResponseJsonError) → IsRefusal a e → IsRefusal (both_said a b) e
refused_first a b errors.Syntax h = h
refused_first a b (errors.Refused p t) h = ap (λ (s : Said _). both_said s b) h
refused_first a b (errors.Memory m) h = tt

pub refused_second : {T U : Type 0} (t : T) (b : Said U) (e : ResponseJsonError) → IsRefusal b e → IsRefusal (both_said (Ok t) b) e
refused_second t b errors.Syntax h = h
refused_second t b (errors.Refused p r) h = ap (λ (s : Said _). both_said (Ok t) s) h
refused_second t b (errors.Memory m) h = tt

-- what is said is the same
pub refused_same : {T : Type 0} (a b : Said T) (e : ResponseJsonError) → a ≡ b → IsRefusal b e → IsRefusal a e
refused_same a b e is h = subst (λ (s : Said _). IsRefusal s e) (sym is) h

one_done : {T : Type 0} (done : List T) (t : T) (others : Said (List T)) → made_of (λ ts. done ++ ts) (before (Ok t) others) ≡ made_of (λ ts. (done ++ t ∷ []) ++ ts) others
one_done done t (Ok ts) = ap Ok (sym (append_assoc done (t ∷ []) ts))
one_done done t (Err r) = refl

pub one_more_done : {T : Type 0} (all : Said (List T)) (done : List T) (first : Said T) (others : Said (List T)) (new : List T)
    → all ≡ made_of (λ ts. done ++ ts) (before first others) → made_of (λ t. done ++ t ∷ []) first ≡ Ok new → all ≡ made_of (λ ts. new ++ ts) others
one_more_done all done (Ok t) others new is h =
    let same : done ++ t ∷ [] ≡ new = cc in
    is ∙ one_done done t others ∙ ap (λ (ts : List _). made_of (λ us. ts ++ us) others) same
one_more_done all done (Err r) others new is h = absurd (cc)

all_done : {T : Type 0} (done : List T) → made_of (λ ts. done ++ ts) (Ok []) ≡ Ok done
all_done done = ap Ok (append-nil done)

pub none_left : {T : Type 0} (all : Said (List T)) (done : List T) → all ≡ made_of (λ ts. done ++ ts) (Ok []) → all ≡ Ok done
none_left all done is = is ∙ all_done done

pub none_done : {T : Type 0} (s : Said (List T)) → s ≡ made_of (λ ts. [] ++ ts) s
none_done (Ok ts) = refl
none_done (Err r) = refl

-- of Cedar's JSON of policies
at_policies : {T : Type 0} (said : json.Said T) (p : JsonPath) (r : RefusalReason) (e : ResponseJsonError) → said ≡ Err (record { path = path_view p; reason = r }) → IsRefusedAt (path_view p) (reasons.InPolicy r) e → IsRefusal (of_policies said) e
at_policies said p r errors.Syntax h of = of
at_policies said p r (errors.Refused q t) h of = ap of_policies h ∙ (λ i. Err (record { path = sym of.0 i; reason = sym of.1 i }))
at_policies said p r (errors.Memory m) h of = tt

pub refused_of_policies : {T : Type 0} (said : json.Said T) (d : PolicyJsonError) (e : ResponseJsonError) → json.IsRefusal said d → IsOfPolicies d e → IsRefusal (of_policies said) e
refused_of_policies said policies.Syntax e h of = absurd h
refused_of_policies said policies.DuplicateKey e h of = absurd h
refused_of_policies said (policies.Refused p r) e h of = at_policies said p r e h of
refused_of_policies said (policies.Memory m) e h of = memory_refused (of_policies said) e of

pub said_of_policies : {T : Type 0} (said : json.Said T) (t : T) → said ≡ Ok t → of_policies said ≡ Ok t
said_of_policies said t is = ap of_policies is

pub ruleset refusals = (refused_at, memory_refused, refused_under, refused_made, refused_then, refused_first, refused_second, refused_of_policies, said_of_policies)
