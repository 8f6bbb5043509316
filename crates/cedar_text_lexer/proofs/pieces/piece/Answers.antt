use Rattle.std.proofs.Common.{sym, ◌∙◌, arith}
use Rattle.cedar_text_lexer.specs.Values.{itself, escape, bare_return}
use Rattle.cedar_text_lexer.proofs.Fronts.{character_boundary}
use Rattle.cedar_text_lexer.proofs.Ends.{escape_in_ends, whole_is, escape_boundary, unknown_at, alone_at}
use Rattle.cedar_text_lexer.proofs.pieces.piece.Goals as goal

pub returns-then-first-ne92-clause-within : goal.returns-then-first-ne92-clause-within
returns-then-first-ne92-clause-within c = character_boundary c.args.rest.now c.args.after.now c.args.first c.len_utf8.result c.requires c.len_utf8.ensures.len c.utf8.rest

pub returns-then-first-ne92-clause-piece : goal.returns-then-first-ne92-clause-piece
returns-then-first-ne92-clause-piece c = rw (c.requires, c.len_utf8.ensures.len) (itself c.args.first c.args.after.now c.if-first-ne92.true (rw c.requires at (sym c.begins_bare_return.ensures ∙ c.if-begins_bare_return.false)))

pub overflow_add-result : goal.overflow_add-result
overflow_add-result c =
    let r = escape_in_ends c.args.in_pattern c.args.after.now c.in-Some.escape (sym (rw c.as_bytes.ensures.value at c.in-Some.ensures)) in
    omega (arith, r.is_last, r.within)

pub returns-in-Some-clause-within : goal.returns-in-Some-clause-within
returns-in-Some-clause-within c =
    let r = escape_in_ends c.args.in_pattern c.args.after.now c.in-Some.escape (sym (rw c.as_bytes.ensures.value at c.in-Some.ensures)) in
    escape_boundary c.args.rest.now c.args.after.now c.in-Some.escape.len (whole_is c.args.rest.now c.args.after.now c.args.first c.requires c.if-first-ne92.false) r c.utf8.rest

pub returns-in-Some-clause-piece : goal.returns-in-Some-clause-piece
returns-in-Some-clause-piece c = rw (whole_is c.args.rest.now c.args.after.now c.args.first c.requires c.if-first-ne92.false) (escape (sym (rw c.as_bytes.ensures.value at c.in-Some.ensures)))

pub returns-in-Some-split_first-clause-none : goal.returns-in-Some-split_first-clause-none
returns-in-Some-split_first-clause-none c =
    unknown_at c.args.in_pattern c.args.rest.now c.args.after.now _ c.in-Some-split_first.next c.len_utf8-in-Some-split_first.result (whole_is c.args.rest.now c.args.after.now c.args.first c.requires c.if-first-ne92.false) c.in-Some-split_first.ensures c.len_utf8-in-Some-split_first.ensures.len (sym (rw c.as_bytes.ensures.value at c.in-None.ensures))

pub returns-in-None-split_first-clause-none : goal.returns-in-None-split_first-clause-none
returns-in-None-split_first-clause-none c =
    alone_at c.args.in_pattern c.args.rest.now c.args.after.now (whole_is c.args.rest.now c.args.after.now c.args.first c.requires c.if-first-ne92.false) c.in-None-split_first.ensures (sym (rw c.as_bytes.ensures.value at c.in-None.ensures))

pub returns-then-begins_bare_return-clause-none : goal.returns-then-begins_bare_return-clause-none
returns-then-begins_bare_return-clause-none c = bare_return (sym c.begins_bare_return.ensures ∙ c.if-begins_bare_return.true)
