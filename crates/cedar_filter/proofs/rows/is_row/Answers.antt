use Rattle.std.proofs.Common.{◌∙◌, ap, Some}
use Rattle.cedar_names.specs.declared.names.EntityUID.{EntityUID}
use Rattle.cedar_names.specs.Names.{uid_name}
use Rattle.cedar_filter.proofs.Found.{is_that_uid}
use Rattle.cedar_filter.proofs.rows.is_row.Goals as goal

pub returns-in-Some : goal.returns-in-Some
returns-in-Some c =
    is_that_uid _ _ _ _ _ c.same_uid.ensures c.uid.ensures.name
    (ap (λ (u : EntityUID). Some (uid_name u)) c.deref.ensures ∙ c.in-Some.ensures)
