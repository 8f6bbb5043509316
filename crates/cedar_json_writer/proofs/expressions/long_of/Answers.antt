use Rattle.cedar_model.specs.lemmas.Longs.{fits_long}
use Rattle.cedar_json_writer.proofs.expressions.long_of.Goals as goal

pub returns-clause-kept : goal.returns-clause-kept
returns-clause-kept c = fits_long c.args.long c.ranges.long
