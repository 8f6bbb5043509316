use Rattle.std.proofs.Common.{length}
use Rattle.cedar_response_json_reader.proofs.extensions.+are_texts.Given as goal

abbrev pub decreases-are_texts : goal.decreases-are_texts
decreases-are_texts l = length l.items.now
