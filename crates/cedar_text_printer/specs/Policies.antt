-- Policies in Cedar's syntax, in bytes of UTF-8.
use Rattle.std.specs.Prelude.{Bool, false, ◌&&◌, List, [], ◌∷◌, ◌++◌, if◌then◌else◌, codes, flat_map}
use Rattle.cedar_model.specs.Terms.{Text, Variable, principal, action, resource, Term}
use Rattle.cedar_model.specs.World.{Slots}
use Rattle.cedar_model.specs.Policies.{Effect, permit, forbid}
use Rattle.cedar_names.specs.Texts.{variable_text}
use Rattle.cedar_layers.specs.Policies.{PolicyView}
use Rattle.cedar_text_printer.specs.Escapes.{written_quoted}
use Rattle.cedar_text_printer.specs.Texts.{written}
use Rattle.cedar_text_printer.specs.Scopes.{is_true, is_scope, scope_text}

-- `@key("value")`, and the end of its line
abbrev pub annotation_text : Text × Text → Text
annotation_text a = codes "@" ++ (a.0 ++ (codes "(" ++ (written_quoted a.1 ++ codes ")\n")))

abbrev pub effect_text : Effect → Text
effect_text permit = codes "permit"
effect_text forbid = codes "forbid"

-- ---- which constraints stand in the scope: all before the first that can't, so that they are tested in their order

abbrev pub principal_stands : PolicyView → Bool
principal_stands p = is_scope p.slots principal p.principal_constraint

abbrev pub action_stands : PolicyView → Bool
action_stands p = principal_stands p && is_scope p.slots action p.action_constraint

abbrev pub resource_stands : PolicyView → Bool
resource_stands p = action_stands p && is_scope p.slots resource p.resource_constraint

-- ---- the text

-- the place of a variable in the scope: with the constraint on it where that stands there
abbrev pub place_text : Bool → Slots → Variable → Term → Text
place_text stands s v t = if stands then scope_text s v t else variable_text v

-- a clause, on a line of its own
abbrev pub when_text : Slots → Term → Text
when_text s t = codes "\nwhen { " ++ (written s t ++ codes " }")

-- the clause of what does not stand in the scope; `true` has none
abbrev pub clause_text : Bool → Slots → Term → Text
clause_text stands s t = if stands then [] else (if is_true t then [] else when_text s t)

abbrev pub principal_text : PolicyView → Text
principal_text p = place_text (principal_stands p) p.slots principal p.principal_constraint

abbrev pub action_text : PolicyView → Text
action_text p = place_text (action_stands p) p.slots action p.action_constraint

abbrev pub resource_text : PolicyView → Text
resource_text p = place_text (resource_stands p) p.slots resource p.resource_constraint

-- `(principal, action, resource)`
abbrev pub head_text : PolicyView → Text
head_text p =
    codes "(" ++ (principal_text p ++ (codes ", " ++ (action_text p ++ (codes ", " ++ (resource_text p ++ codes ")")))))

abbrev pub principal_clause : PolicyView → Text
principal_clause p = clause_text (principal_stands p) p.slots p.principal_constraint

abbrev pub action_clause : PolicyView → Text
action_clause p = clause_text (action_stands p) p.slots p.action_constraint

abbrev pub resource_clause : PolicyView → Text
resource_clause p = clause_text (resource_stands p) p.slots p.resource_constraint

abbrev pub own_clause : PolicyView → Text
own_clause p = clause_text false p.slots p.when_clause

-- what does not stand in the scope, and then the policy's own condition
abbrev pub clauses_text : PolicyView → Text
clauses_text p = principal_clause p ++ (action_clause p ++ (resource_clause p ++ own_clause p))

-- a policy
abbrev pub policy_text : PolicyView → Text
policy_text p =
    flat_map annotation_text p.annotations
    ++ (effect_text p.effect ++ (head_text p ++ (clauses_text p ++ codes ";")))

-- what stands before a policy: a line's end and an empty line, but for the first
abbrev pub separator : Bool → Text
separator first = if first then [] else codes "\n\n"

-- policies in order
abbrev pub policies_text : Bool → List PolicyView → Text
policies_text first [] = []
policies_text first (p ∷ ps) = separator first ++ (policy_text p ++ policies_text false ps)
