use Rattle.cedar_model.proofs.Resolved
use Rattle.cedar_model.proofs.resolutions.attributes_resolve.Goals as goal

pub returns-clause-attribute : goal.returns-clause-attribute
returns-clause-attribute g = Resolved.attribute_resolves

pub returns-clause-attribute_stays : goal.returns-clause-attribute_stays
returns-clause-attribute_stays g = Resolved.attribute_stays

pub returns-clause-attribute_errs : goal.returns-clause-attribute_errs
returns-clause-attribute_errs g = Resolved.attribute_errs

pub returns-clause-tag : goal.returns-clause-tag
returns-clause-tag g = Resolved.tag_resolves

pub returns-clause-presence : goal.returns-clause-presence
returns-clause-presence g = Resolved.presence_reads_none

pub returns-clause-missing : goal.returns-clause-missing
returns-clause-missing g = Resolved.missing_stays

pub returns-clause-unknown : goal.returns-clause-unknown
returns-clause-unknown g = Resolved.unknown_resolves
