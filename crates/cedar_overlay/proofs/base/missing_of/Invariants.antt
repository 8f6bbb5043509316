use Rattle.cedar_layers.specs.Stores.{stored_entity}
use Rattle.cedar_overlay.proofs.Noted.{AreNoted}
use Rattle.cedar_overlay.proofs.base.missing_of.Given as goal

abbrev pub invariant-entities : goal.invariant-entities
invariant-entities l = AreNoted (stored_entity l.entities) l.missing.entries l.uid-iterator
