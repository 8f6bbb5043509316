use Rattle.std.proofs.Common.{◌≡◌, ◌++◌, drop}
use Rattle.cedar_requests.specs.Requests.{request_view}
use Rattle.cedar_reasons.specs.Facts.{facts_view, facts_of_each, every_fact, lent}
use Rattle.cedar_reasons.proofs.facts.all_facts.Given as goal

-- those that are there, and those that are left
abbrev pub invariant-entities : goal.invariant-entities
invariant-entities l = facts_view l.facts.items ++ facts_of_each (lent (drop l.entity-index l.entities)) ≡ every_fact (request_view l.fn.request).context_part (lent l.entities)
