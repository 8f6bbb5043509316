-- The unknowns of a request and of its context.
use Rattle.std.proofs.Common.{◌≡◌, Option, None, Some, List, [], ◌++◌, codes, Result, Ok, Err, OnOk, refl, sym, ap, ◌∙◌}
use Rattle.cedar_model.specs.Settings.{Entry, ContextPart, RequestPart, variable_part, entry_part, context_value}
use Rattle.cedar_expressions.specs.View.{fields_view}
use Rattle.cedar_requests.specs.declared.context.Context.{Context}
use Rattle.cedar_requests.specs.declared.context.pairs.ContextPairs.{ContextPairs}
use Rattle.cedar_requests.specs.declared.context.pairs.ContextPairs.TheVariants as kinds
use Rattle.cedar_requests.specs.Contexts.{ExprMap, context_pairs_view, pairs_residual, context_view, context_residual}
use Rattle.cedar_unknowns.specs.Occurrences.{Asked, part_occurrences, occurrences_at, request_occurrences, noted_each}
use Rattle.cedar_unknowns.proofs.Noted.{noted_each-append}

-- those of a residual's map, where there is one
abbrev pub map_occurrences : Option ExprMap → List Asked
map_occurrences None = []
map_occurrences (Some m) = occurrences_at (fields_view m.entries)

pairs_occurrences : (p : ContextPairs) → part_occurrences (context_value (context_pairs_view p)) ≡ map_occurrences (pairs_residual p)
unfolding context_value
pairs_occurrences (kinds.Values m) = refl
pairs_occurrences (kinds.Residual r) = refl

pub context_occurrences : (c : Context) (o : Option ExprMap) → o ≡ context_residual c → part_occurrences (context_value (context_view c)) ≡ map_occurrences o
context_occurrences c o is = pairs_occurrences c.pairs ∙ ap map_occurrences (sym is)

-- what each variable answers
pub variable_occurrences : (r : RequestPart) → request_occurrences r
    ≡ part_occurrences (entry_part r.principal_entry (codes "principal")) ++ (part_occurrences (entry_part r.action_entry (codes "action"))
    ++ (part_occurrences (entry_part r.resource_entry (codes "resource")) ++ part_occurrences (context_value r.context_part)))
unfolding variable_part
variable_occurrences r = refl

-- those of the four variables, noted one after another, are those of the request
pub four_noted : (r : RequestPart) (p a s : Entry) (x : ContextPart) (none one two three all : List Asked)
    → p ≡ r.principal_entry → a ≡ r.action_entry → s ≡ r.resource_entry → x ≡ r.context_part
    → one ≡ noted_each (part_occurrences (entry_part p (codes "principal"))) none
    → two ≡ noted_each (part_occurrences (entry_part a (codes "action"))) one
    → three ≡ noted_each (part_occurrences (entry_part s (codes "resource"))) two
    → all ≡ noted_each (part_occurrences (context_value x)) three
    → all ≡ noted_each (request_occurrences r) none
four_noted r p a s x none one two three all is_p is_a is_s is_x h1 h2 h3 h4 =
    let ps : List Asked = part_occurrences (entry_part r.principal_entry (codes "principal")) in
    let acts : List Asked = part_occurrences (entry_part r.action_entry (codes "action")) in
    let rs : List Asked = part_occurrences (entry_part r.resource_entry (codes "resource")) in
    let cs : List Asked = part_occurrences (context_value r.context_part) in
    let k1 : one ≡ noted_each ps none = h1 ∙ ap (λ (e : Entry). noted_each (part_occurrences (entry_part e (codes "principal"))) none) is_p in
    let k2 : two ≡ noted_each acts (noted_each ps none) = h2 ∙ (λ i. noted_each (part_occurrences (entry_part (is_a i) (codes "action"))) (k1 i)) in
    let k3 : three ≡ noted_each rs (noted_each acts (noted_each ps none)) = h3 ∙ (λ i. noted_each (part_occurrences (entry_part (is_s i) (codes "resource"))) (k2 i)) in
    let k4 : all ≡ noted_each cs (noted_each rs (noted_each acts (noted_each ps none))) = h4 ∙ (λ i. noted_each (part_occurrences (context_value (is_x i))) (k3 i)) in
    let joined : noted_each (ps ++ (acts ++ (rs ++ cs))) none ≡ noted_each cs (noted_each rs (noted_each acts (noted_each ps none))) =
    noted_each-append ps (acts ++ (rs ++ cs)) none ∙ noted_each-append acts (rs ++ cs) (noted_each ps none) ∙ noted_each-append rs cs (noted_each acts (noted_each ps none)) in
    k4 ∙ sym joined ∙ sym (ap (λ (o : List Asked). noted_each o none) (variable_occurrences r))

-- a context that is no residual has none
pub context_known : (c : Context) (found all : List Asked) → None ≡ context_residual c → found ≡ all → found ≡ noted_each (part_occurrences (context_value (context_view c))) all
context_known c found all is same = same ∙ ap (λ (o : List Asked). noted_each o all) (sym (context_occurrences c None is))

-- a residual one has those of its map
pub context_left : {U E : Type 0} (c : Context) (m : ExprMap) (r : Result U E) (found all : List Asked) → Some m ≡ context_residual c
    → OnOk r (found ≡ noted_each (occurrences_at (fields_view m.entries)) all)
    → OnOk r (found ≡ noted_each (part_occurrences (context_value (context_view c))) all)
context_left c m (Ok u) found all is h = h ∙ ap (λ (o : List Asked). noted_each o all) (sym (context_occurrences c (Some m) is))
context_left c m (Err x) found all is h = h

pub ruleset variables = (variable_occurrences)
