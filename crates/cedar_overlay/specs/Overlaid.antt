-- What a store and the attributes that a request brings are together, on plain data.
use Rattle.std.specs.Prelude.{◌≡◌, ⊤, Bool, true, false, List, [], ◌∷◌, Option, None, Some, option_map, IfSome}
use Rattle.std.specs.Cmp.Lexicographic.{slice_cmp}
use Rattle.std.specs.BTreeMap.{BTreeMap}
use Rattle.std.specs.List.{list_any}
use Rattle.std.specs.Map.{lookup}
use Rattle.std.specs.Option.{is_some}
use Rattle.std.specs.Ordering.{nat_cmp, match_ordering}
use Rattle.std.specs.Rc.{rc_str_bytes}
use Rattle.std.specs.declared.alloc.Global.{Global}
use Rattle.std.specs.declared.rc.RcStr.{RcStr}
use Rattle.cedar_model.specs.Terms.{Text, EntityName}
use Rattle.cedar_model.specs.Outcomes.{entity_eq}
use Rattle.cedar_model.specs.Failures.{PartialValue}
use Rattle.cedar_model.specs.Settings.{StoredEntity, Store, part_at, names_of}
use Rattle.cedar_names.specs.declared.names.EntityUID.{EntityUID}
use Rattle.cedar_names.specs.Names.{uid_name}
use Rattle.cedar_values.specs.Sound.{Placed}
use Rattle.cedar_layers.specs.Parts.{parts_view, values_as_parts}
use Rattle.cedar_overlay.specs.declared.error.AttributesError.{AttributesError}
use Rattle.cedar_overlay.specs.declared.error.AttributesError.TheVariants.{Memory, NotStored, HasAttribute}

-- parts under their names, in the order of names
abbrev pub Parts : Type 0
Parts = List (Text × PartialValue)

-- the part in its place, in the order of names, instead of one of its name
abbrev pub put_at : Text → PartialValue → Parts → Parts
put_at k p [] = (k, p) ∷ []
put_at k p (q ∷ qs) =
    match_ordering (slice_cmp nat_cmp k q.0) ((k, p) ∷ q ∷ qs) ((q.0, p) ∷ qs) (q ∷ put_at k p qs)

-- each of the first beside, or instead of, the second
abbrev pub put_each : Parts → Parts → Parts
put_each [] qs = qs
put_each (p ∷ ps) qs = put_each ps (put_at p.0 p.1 qs)

-- the attributes that are brought, under the uids of their entities
abbrev pub Brought : Type 0
Brought = List (EntityUID × BTreeMap (RcStr Global) Placed)

abbrev pub values_view : BTreeMap (RcStr Global) Placed → Parts
values_view m = parts_view (values_as_parts m.entries)

-- those of the entity of this name, if there are any
abbrev pub brought_for : Brought → EntityName → Option (BTreeMap (RcStr Global) Placed)
brought_for gs n = lookup (λ (u : EntityUID). entity_eq n (uid_name u)) gs

-- an entity with these attributes beside its own, its tags and its ancestors
abbrev pub with_parts : Parts → StoredEntity → StoredEntity
with_parts ps d = record { attributes = put_each ps d.attributes; tags = d.tags; ancestors = d.ancestors }

abbrev pub overlaid_entity : Option (BTreeMap (RcStr Global) Placed) → Option StoredEntity → Option StoredEntity
overlaid_entity None d = d
overlaid_entity (Some m) d = option_map (with_parts (values_view m)) d

-- the store of both
abbrev pub overlaid : Store → Brought → Store
overlaid s gs = record { entity = λ n. overlaid_entity (brought_for gs n) (s.entity n); is_partial = s.is_partial }

-- whether one of the first has the name of one of the second
abbrev pub share_a_name : Parts → Parts → Bool
share_a_name ps qs = list_any (λ k. is_some (part_at k qs)) (names_of ps)

-- the entity is stored and, unless the request wins, has none of these attributes
abbrev pub IsFree : Bool → Parts → Option StoredEntity → Type 0
IsFree request_wins ps None = ⊥
IsFree request_wins ps (Some d) = request_wins ≡ false → share_a_name ps d.attributes ≡ false

-- so is each of which attributes are brought
abbrev pub AreFree : Store → Brought → Bool → Type 0
AreFree s gs request_wins = (n : EntityName) → IfSome (brought_for gs n) (λ m. IsFree request_wins (values_view m) (s.entity n))

abbrev pub HasAttributeNamed : Text → Option StoredEntity → Type 0
HasAttributeNamed k None = ⊥
HasAttributeNamed k (Some d) = is_some (part_at k d.attributes) ≡ true

-- why nothing was laid over the store: what is named is so
abbrev pub IsRefused : Store → Brought → Bool → AttributesError → Type 0
IsRefused s gs request_wins (Memory e) = ⊤
IsRefused s gs request_wins (NotStored u) = (is_some (brought_for gs (uid_name u)) ≡ true) × (s.entity (uid_name u) ≡ None)
IsRefused s gs request_wins (HasAttribute u k) =
    (request_wins ≡ false)
    × IfSome (brought_for gs (uid_name u)) (λ m. is_some (part_at (rc_str_bytes k) (values_view m)) ≡ true)
    × HasAttributeNamed (rc_str_bytes k) (s.entity (uid_name u))
