-- What helpers answer while attributes are laid over a store.
use Rattle.std.specs.Prelude.{◌≡◌, ⊤, Bool, true, false, Option, None, Some}
use Rattle.std.specs.Option.{is_some}
use Rattle.std.specs.Rc.{rc_str_bytes}
use Rattle.std.specs.declared.alloc.Global.{Global}
use Rattle.std.specs.declared.rc.RcStr.{RcStr}
use Rattle.cedar_model.specs.Terms.{Text, EntityName}
use Rattle.cedar_model.specs.Failures.{PartialValue}
use Rattle.cedar_model.specs.Settings.{StoredEntity, part_at}
use Rattle.cedar_names.specs.Names.{uid_name}
use Rattle.cedar_overlay.specs.declared.error.AttributesError.{AttributesError}
use Rattle.cedar_overlay.specs.declared.error.AttributesError.TheVariants.{Memory, NotStored, HasAttribute}
use Rattle.cedar_overlay.specs.Overlaid.{Parts, put_at, share_a_name}

-- the part that was found under the name, if one was
abbrev pub put_found : Text → Option PartialValue → Parts → Parts
put_found k None ps = ps
put_found k (Some p) ps = put_at k p ps

-- both have a part of this name
pub record BothHave (ps qs : Parts) (k : Text) : Type 0 where
  pub first : is_some (part_at k ps) ≡ true
  pub second : is_some (part_at k qs) ≡ true

-- a name of both, if there is one
abbrev pub IsSharedName : Parts → Parts → Option (RcStr Global) → Type 0
IsSharedName ps qs None = share_a_name ps qs ≡ false
IsSharedName ps qs (Some k) = BothHave ps qs (rc_str_bytes k)

-- the same, unless the request wins
abbrev pub IsTaken : Bool → Parts → Parts → Option (RcStr Global) → Type 0
IsTaken request_wins ps qs None = request_wins ≡ false → share_a_name ps qs ≡ false
IsTaken request_wins ps qs (Some k) = (request_wins ≡ false) × BothHave ps qs (rc_str_bytes k)

-- an error of these, or of memory
abbrev pub HasName : EntityName → Text → AttributesError → Type 0
HasName n k (Memory e) = ⊤
HasName n k (NotStored u) = ⊥
HasName n k (HasAttribute u l) = (uid_name u ≡ n) × (rc_str_bytes l ≡ k)

-- why attributes are refused of this entity
abbrev pub IsRefusedOfStored : EntityName → Parts → Bool → StoredEntity → AttributesError → Type 0
IsRefusedOfStored n ps request_wins d (Memory e) = ⊤
IsRefusedOfStored n ps request_wins d (NotStored u) = ⊥
IsRefusedOfStored n ps request_wins d (HasAttribute u k) =
    (uid_name u ≡ n) × (request_wins ≡ false) × BothHave ps d.attributes (rc_str_bytes k)

abbrev pub IsRefusedFor : EntityName → Parts → Bool → Option StoredEntity → AttributesError → Type 0
IsRefusedFor n ps request_wins None (Memory e) = ⊤
IsRefusedFor n ps request_wins None (NotStored u) = uid_name u ≡ n
IsRefusedFor n ps request_wins None (HasAttribute u k) = ⊥
IsRefusedFor n ps request_wins (Some d) e = IsRefusedOfStored n ps request_wins d e
