use Rattle.std.proofs.Common.{sym, ◌∙◌, ◌≡◌, ◌++◌, encode_utf8}
use Rattle.cedar_text_lexer.proofs.Fronts.{blank_cut, unreadable_cut, character_boundary}
use Rattle.cedar_text_lexer.proofs.lexer.character.Goals.{then-is_blank, else-is_blank}
use Rattle.cedar_text_lexer.proofs.lexer.character.Goals as goal

pub returns-clause-within : goal.returns-clause-within
returns-clause-within c = character_boundary c.args.rest.now _ c.in-Some.c c.len_utf8.result (sym c.chars.ensures.rest ∙ c.in-Some.ensures.steps.0) c.len_utf8.ensures.len c.utf8.rest

pub returns-clause-front : goal.returns-clause-front
returns-clause-front c =
    let whole : c.args.rest.now ≡ encode_utf8 c.in-Some.c ++ c.next.new.self.rest.now = sym c.chars.ensures.rest ∙ c.in-Some.ensures.steps.0 in
    elim c.if-is_blank.branch [
      | then-is_blank w ↦ rw w.result-is (blank_cut c.args.rest.now _ c.in-Some.c c.len_utf8.result whole c.len_utf8.ensures.len (sym c.is_blank.ensures ∙ w.if-is_blank.true))
      | else-is_blank w ↦ rw w.result-is (unreadable_cut c.args.rest.now _ c.in-Some.c c.len_utf8.result whole c.len_utf8.ensures.len (sym c.is_blank.ensures ∙ w.if-is_blank.false) c.requires.none)
    ]
