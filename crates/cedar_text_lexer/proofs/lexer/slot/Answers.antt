use Rattle.cedar_text_lexer.proofs.Fronts.{slot_cut, slot_boundary}
use Rattle.cedar_text_lexer.proofs.lexer.slot.Goals as goal

pub range-requires-clause-end_boundary : goal.range-requires-clause-end_boundary
range-requires-clause-end_boundary c = slot_boundary c.args.rest.now c.word_end-len.result (rw c.as_bytes-bytes.ensures.value at c.word_end-len.ensures) c.requires c.utf8.rest

pub returns-clause-within : goal.returns-clause-within
returns-clause-within c = slot_boundary c.args.rest.now c.word_end-len.result (rw c.as_bytes-bytes.ensures.value at c.word_end-len.ensures) c.requires c.utf8.rest

pub returns-clause-front : goal.returns-clause-front
returns-clause-front c = rw (c.slot_kind.ensures, c.range.ensures.value) (slot_cut c.args.rest.now c.word_end-len.result (rw c.as_bytes-bytes.ensures.value at c.word_end-len.ensures) c.requires)
