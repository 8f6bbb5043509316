-- What is read into lists, for private clauses.
use Rattle.std.specs.Prelude.{◌≡◌, List, [], ◌∷◌, ◌++◌, map, Ok}
use Rattle.std.specs.Rc.{rc_str_bytes}
use Rattle.cedar_names.specs.Leaves.{texts_view}
use Rattle.cedar_expressions.specs.declared.errors.ExpressionConstructionError.{ExpressionConstructionError}
use Rattle.cedar_expressions.specs.declared.errors.ExpressionConstructionError.TheVariants as constructions
use Rattle.cedar_policy_json_reader.specs.declared.attributes.Attributes.{Attributes as Read}
use Rattle.cedar_policy_json_reader.specs.declared.attributes.Attributes.TheVariants as reads
use Rattle.cedar_policy_json_reader.specs.declared.errors.PolicyJsonError.{PolicyJsonError}
use Rattle.cedar_policy_json_reader.specs.declared.errors.RefusalReason.TheVariants as reasons
use Rattle.cedar_policy_json_reader.specs.Leaves.{Attributes, one_attribute, attributes_from}
use Rattle.cedar_policy_json_reader.specs.Paths.{at_key}
use Rattle.cedar_policy_json_reader.specs.Refusals.{Said, made_of, IsRefusedAt, IsMemory}

-- the new list has one more at its end, which is what was said
abbrev pub IsOneMore : {T : Type 0} → List T → Said T → List T → Type 0
IsOneMore old s new = made_of (λ t. old ++ t ∷ []) s ≡ Ok new

-- the new list has those more at its end that were said
abbrev pub AreMore : {T : Type 0} → List T → Said (List T) → List T → Type 0
AreMore old s new = made_of (λ ts. old ++ ts) s ≡ Ok new

abbrev pub attributes_view : Read → Attributes
attributes_view (reads.One k) = one_attribute (rc_str_bytes k)
attributes_view (reads.From p) = attributes_from (rc_str_bytes p.first) (texts_view p.rest.items)

-- the key is a duplicate, or memory ran out
abbrev pub IsUnrecorded : ExpressionConstructionError → PolicyJsonError → Type 0
IsUnrecorded (constructions.DuplicateKey key context) e = IsRefusedAt (at_key (rc_str_bytes key) ∷ []) reasons.RepeatedKey e
IsUnrecorded (constructions.Memory error) e = IsMemory e
