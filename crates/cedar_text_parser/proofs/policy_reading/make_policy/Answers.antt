use Rattle.cedar_text_parser.proofs.Read.{made_whole}
use Rattle.cedar_text_parser.proofs.policy_reading.make_policy.Goals as goal

pub returns : goal.returns
returns c =
    record {
      ok = made_whole c.in_ok-policy.policy c.effect-effect.result c.new-env.result c.in_ok-policy.ensures.view
          c.in_ok-policy.ensures.parts
          c.with_maybe_source_loc.ensures.view c.with_maybe_source_loc.ensures.parts c.with_maybe_source_loc.ensures.loc
          c.effect-effect.ensures c.new-env.ensures.empty;
    }
