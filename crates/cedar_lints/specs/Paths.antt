-- Where records stand in a value that look like an entity: their members are exactly `type` and `id`, both texts.
use Rattle.std.specs.Prelude.{ℕ, ◌+◌, ◌==◌, Bool, false, cond, ◌&&◌, List, [], ◌∷◌, ◌++◌, map, Option, None, Some, is_some, codes}
use Rattle.std.specs.Borrow.{Bor}
use Rattle.std.specs.Rc.{rc_str_bytes}
use Rattle.std.specs.declared.alloc.Global.{Global}
use Rattle.std.specs.declared.rc.RcStr.{RcStr}
use Rattle.std.specs.declared.vec.Vec.{Vec}
use Rattle.cedar_model.specs.Terms.{Text}
use Rattle.cedar_model.specs.Operators.{represented_at}
use Rattle.cedar_model.specs.Outcomes.{text_of}
use Rattle.cedar_model.specs.Values.{Represented, plain_represented, set_represented, record_represented}
use Rattle.cedar_model.specs.Values.{extension_represented, RepresentedValues, no_represented, one_represented}
use Rattle.cedar_model.specs.Values.{RepresentedFields, no_represented_at, one_represented_at, abstract_value}
use Rattle.cedar_names.specs.Leaves.{texts_view}

-- the names of members, each in the record that the one before leads to
abbrev pub Path : Type 0
Path = List Text

abbrev pub members_count : RepresentedFields → ℕ
members_count no_represented_at = 0
members_count (one_represented_at k v fs) = members_count fs + 1

-- a text stands there
abbrev pub holds_text : Option Represented → Bool
holds_text None = false
holds_text (Some v) = is_some (text_of (abstract_value v))

-- the members are exactly `id` and `type`, and both are texts
abbrev pub is_alike : RepresentedFields → Bool
is_alike fs =
    members_count fs == 2
    && (holds_text (represented_at (codes "id") fs) && holds_text (represented_at (codes "type") fs))

-- the paths at which such records stand in a value, each after this path: what stands in a set stands at its path
abbrev mutual
  pub alike_below : Path → Represented → List Path
  alike_below p (plain_represented l) = []
  alike_below p (set_represented vs) = alike_each p vs
  alike_below p (record_represented fs) = cond (is_alike fs) (p ∷ []) (alike_at p fs)
  alike_below p (extension_represented t k f ts) = []

  pub alike_each : Path → RepresentedValues → List Path
  alike_each p no_represented = []
  alike_each p (one_represented v vs) = alike_below p v ++ alike_each p vs

  pub alike_at : Path → RepresentedFields → List Path
  alike_at p no_represented_at = []
  alike_at p (one_represented_at k v fs) = alike_below (p ++ k ∷ []) v ++ alike_at p fs

-- ---- for private clauses

abbrev pub alike_record : Path → RepresentedFields → List Path
alike_record p fs = cond (is_alike fs) (p ∷ []) (alike_at p fs)

abbrev pub names_seen : List (Bor (RcStr Global)) → Path
names_seen = map (λ n. rc_str_bytes n.now)

abbrev pub paths_view : List (Vec (RcStr Global) Global) → List Path
paths_view = map (λ v. texts_view v.items)
