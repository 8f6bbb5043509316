-- The order of names of entities against their types and ids, for the crates above.
use Rattle.std.specs.Prelude.{◌≡◌, Bool}
use Rattle.std.specs.Ordering.{eq_by_cmp}
use mathlib.Core.Path.{sym}
use Rattle.cedar_model.specs.Outcomes.{entity_eq}
use Rattle.cedar_names.specs.declared.names.EntityUID.{EntityUID}
use Rattle.cedar_names.specs.contracts.names.EntityUIDOrd.TheImpl.{cmp-value}
use Rattle.cedar_names.specs.contracts.names.EntityUIDOrd.TheImpl.Laws.{matches_eq-law}
use Rattle.cedar_names.specs.Names.{uid_name}

-- whether the order does not tell two names of entities apart
abbrev pub is_tied : EntityUID → EntityUID → Bool
is_tied = eq_by_cmp cmp-value.it

-- that is where they name one entity
pub is_tied-by_name : (u v : EntityUID) → is_tied u v ≡ entity_eq (uid_name u) (uid_name v)
is_tied-by_name u v = sym (matches_eq-law u v)
