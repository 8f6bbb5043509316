use Rattle.std.proofs.Common.{◌-◌, refl, arith}
use Rattle.json.proofs.Unique.Keys.{AreDistinct-from_places, DifferAt-from_distinct, DifferAt-from_sorted}
use Rattle.cedar_policy_json_reader.proofs.unique.neighbours_differ.Goals as goal

pub returns-then-eq : goal.returns-then-eq
returns-then-eq c = (λ never. absurd (cc), λ h. let differ = DifferAt-from_distinct c.args.keys.now (c.loop-later.later - 1) c.loop-later.later h (omega arith) c.loop-later-test.true in grind arith)

pub returns : goal.returns
returns c = (λ _. AreDistinct-from_places c.args.keys.now (DifferAt-from_sorted c.args.keys.now c.requires (λ k h. c.loop-later.invariant k (omega arith))), λ _. refl)
