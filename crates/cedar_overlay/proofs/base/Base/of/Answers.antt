use Rattle.std.proofs.Common.{sym, subst}
use Rattle.cedar_layers.specs.declared.policies.entities.Entities.{Entities}
use Rattle.cedar_layers.specs.Stores.{stored_entity}
use Rattle.cedar_overlay.specs.Recorded.{AreAllMissing, AreRecorded}
use Rattle.cedar_overlay.proofs.Results.{ok_is}
use Rattle.cedar_overlay.proofs.base.Base.of.Goals as goal

pub invariant_of-result : goal.invariant_of-result
invariant_of-result c =
    let made = c.in_ok-entities in record {
      every =
          subst (λ (s : Entities). AreAllMissing (stored_entity s) made.missing.entries) (sym made.ensures.held)
          (ok_is c.missing_of-missing.result made.missing (λ m. AreAllMissing (stored_entity c.args.entities) m.entries) made.ensures.answer c.missing_of-missing.ensures.all);
      right =
          subst (λ (s : Entities). AreRecorded (stored_entity s) made.missing.entries) (sym made.ensures.held)
          (ok_is c.missing_of-missing.result made.missing (λ m. AreRecorded (stored_entity c.args.entities) m.entries) made.ensures.answer c.missing_of-missing.ensures.recorded);
    }
