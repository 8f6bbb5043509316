use Rattle.std.proofs.Common.{◌≡◌, List, [], ◌∷◌, ◌++◌, map, append_assoc, append-nil, ap, sym, ◌∙◌, subst, rules}
use Rattle.std.proofs.lemmas.List.{nil_from_length}
use Rattle.std.proofs.lemmas.Str.{IsUtf8-past_char, chars_past_char, chars-nil}
use Rattle.std.specs.Str.{chars, IsUtf8}
use Rattle.cedar_model.specs.Terms.{character}
use Rattle.cedar_names.specs.Leaves.{part_view}
use Rattle.cedar_policy_json_reader.specs.Leaves.{characters_of}
use Rattle.cedar_policy_json_reader.proofs.attributes.put_characters.Goals as goal

pub characters-init : goal.characters-init
characters-init c =
    let start : c.into_iter-character-iterator.result.rest.now ≡ c.args.text.now = search rules in
    record {
      utf8 = subst IsUtf8 (sym start) c.utf8.text;
      same = ap (λ t. map part_view c.args.elems.now.items ++ characters_of t) start;
    }

pub characters-preserved : goal.characters-preserved
characters-preserved c =
    let u = c.characters.invariant.utf8 in
    let e = c.in-Some.ensures.steps.0 in
    let left = c.characters.character-iterator.rest.now in
    let more = c.next.new.self.rest.now in
    let done = map part_view c.characters.elems.items in
    record {
      utf8 = IsUtf8-past_char left more c.in-Some.character u e;
      same = ap (λ ps. ps ++ characters_of more) c.in_ok-push_part.ensures.said
          ∙ append_assoc done (character c.in-Some.character ∷ []) (characters_of more)
          ∙ ap (λ cs. done ++ map character cs) (sym (chars_past_char left more c.in-Some.character u e))
          ∙ c.characters.invariant.same;
    }

pub returns-clause-said : goal.returns-clause-said
returns-clause-said c =
    let end : c.characters.character-iterator.rest.now ≡ [] = nil_from_length _ c.in-None.ensures.steps.0.0 in
    let done = map part_view c.characters.elems.items in
    sym (append-nil done)
    ∙ ap (λ cs. done ++ map character cs) (sym chars-nil)
    ∙ ap (λ t. done ++ characters_of t) (sym end)
    ∙ c.characters.invariant.same
