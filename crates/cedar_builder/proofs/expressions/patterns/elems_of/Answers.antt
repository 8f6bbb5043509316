use Rattle.std.proofs.Common.{◌≡◌, List, [], ◌++◌, map, append-nil, ap, sym, ◌∙◌, subst, rules}
use Rattle.std.proofs.lemmas.List.{nil_from_length}
use Rattle.std.proofs.lemmas.Str.{IsUtf8-past_char, chars_past_char, chars-nil}
use Rattle.std.specs.Str.{chars, IsUtf8}
use Rattle.cedar_names.specs.Leaves.{part_view}
use Rattle.cedar_names.specs.declared.pattern.PatternElem.{PatternElem}
use Rattle.cedar_builder.specs.Patterns.{pattern_behind, pattern_said}
use Rattle.cedar_builder.proofs.Patterns.{pattern_behind-nil}
use Rattle.cedar_builder.proofs.expressions.patterns.elems_of.Goals as goal

pub characters-init : goal.characters-init
characters-init c =
    let start : c.into_iter-character-iterator.result.rest.now ≡ c.args.pattern.now = search rules in
    record {
      utf8 = subst IsUtf8 (sym start) c.utf8.pattern;
      same = ap (λ (es : List PatternElem). map part_view es ++ pattern_said (chars c.into_iter-character-iterator.result.rest.now)) c.new-elems.ensures.items
          ∙ ap (λ t. pattern_said (chars t)) start;
    }

pub characters-preserved : goal.characters-preserved
characters-preserved c =
    let u = c.characters.invariant.utf8 in
    let e = c.in-Some.ensures.steps.0 in
    let left = c.characters.character-iterator.rest.now in
    let more = c.next.new.self.rest.now in
    record {
      utf8 = IsUtf8-past_char left more c.in-Some.character u e;
      same = c.in_ok-is_escaped.ensures (chars more)
          ∙ ap (λ cs. map part_view c.characters.elems.items ++ pattern_behind c.characters.is_escaped cs) (sym (chars_past_char left more c.in-Some.character u e))
          ∙ c.characters.invariant.same;
    }

pub returns : goal.returns
returns c =
    let end : c.characters.character-iterator.rest.now ≡ [] = nil_from_length _ c.in-None.ensures.steps.0.0 in
    sym (append-nil (map part_view c.characters.elems.items))
    ∙ ap (λ ps. map part_view c.characters.elems.items ++ ps) (sym (pattern_behind-nil c.characters.is_escaped))
    ∙ ap (λ cs. map part_view c.characters.elems.items ++ pattern_behind c.characters.is_escaped cs) (sym chars-nil)
    ∙ ap (λ t. map part_view c.characters.elems.items ++ pattern_behind c.characters.is_escaped (chars t)) (sym end)
    ∙ c.characters.invariant.same
