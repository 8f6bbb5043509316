-- What the parts of a value are seen as.
use Rattle.std.specs.Prelude.{List, [], Option}
use Rattle.cedar_model.specs.Values.{Represented, plain_represented, set_represented, record_represented}
use Rattle.cedar_names.specs.declared.names.Loc.{Loc}
use Rattle.cedar_values.specs.declared.value.ValueKind.{ValueKind}
use Rattle.cedar_values.specs.declared.value.ValueKind.TheVariants as kinds
use Rattle.cedar_names.specs.Leaves.{literal_view}
use Rattle.cedar_values.specs.Representations.{extension_what}
use Rattle.cedar_values.specs.Sound.{IsSound, Placed, whats_at, AreSoundAt-whats_at, inside_each, inside_at}

-- the value of a kind with its parts
abbrev pub kind_what : ValueKind → Represented
kind_what (kinds.Lit l) = plain_represented (literal_view l)
kind_what (kinds.Set s) = set_represented s.all
kind_what (kinds.Record m) = record_represented (whats_at m.value.entries)
kind_what (kinds.ExtensionValue e) = extension_what e.value

-- where the values inside it stand
abbrev pub kind_inside : ValueKind → List (Option Loc)
kind_inside (kinds.Lit l) = []
kind_inside (kinds.Set s) = inside_each s.members
kind_inside (kinds.Record m) = inside_at m.value.entries
kind_inside (kinds.ExtensionValue e) = []

pub IsSound-kind_what : (k : ValueKind) → IsSound (kind_what k)
IsSound-kind_what (kinds.Lit l) = tt
IsSound-kind_what (kinds.Set s) = (s.in_order, s.sound)
IsSound-kind_what (kinds.Record m) = AreSoundAt-whats_at m.value.entries
IsSound-kind_what (kinds.ExtensionValue e) = (e.value.representation.restricted, e.value.representation.known)

-- a kind at a place
abbrev pub placed : ValueKind → Option Loc → Placed
placed k loc = record { what = kind_what k; loc = loc; inside = kind_inside k; sound = IsSound-kind_what k }
