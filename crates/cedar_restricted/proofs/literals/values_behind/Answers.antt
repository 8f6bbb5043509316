use Rattle.std.proofs.Common.{◌∷◌, ◌++◌, [], ap, sym, ◌∙◌, ◌+◌, append_assoc}
use Rattle.std.proofs.lemmas.List.{length_push}
use Rattle.cedar_names.specs.Leaves.{literal_view}
use Rattle.cedar_restricted.specs.Literals.{IsOfLiteral, literals_with}
use Rattle.cedar_restricted.proofs.literals.values_behind.Goals as goal

pub literals-preserved : goal.literals-preserved
literals-preserved c =
    let (vs, all, each, many) = c.literals.invariant in
    let made = c.in_ok-value_at-in-Some in
    let v = made.field-0 in
    let e = c.part-item.result in
    let of : IsOfLiteral e v = record {
      of = literal_view c.in-Some.literal.now;
      seen = c.in-Some.ensures;
      what = made.ensures.what;
      place = made.ensures.place;
    } in (
      vs ++ v ∷ [],
      c.in_ok-push-in-Some.ensures.items ∙ ap (λ l. l ++ v ∷ []) all ∙ append_assoc c.args.values.items vs (v ∷ []),
      literals_with c.args.parts.now vs e v c.literals.part-index each many c.literals-test.true c.part-item.is of,
      ap (λ n. n + 1) many ∙ sym (length_push vs v),
    )
