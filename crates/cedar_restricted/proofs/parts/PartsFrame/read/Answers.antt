use Rattle.std.proofs.Common.{◌≡◌, subst, refl, sym, ap, ◌∙◌, suc, drop, length, get_or, ◌<◌, IfOk, arith}
use Rattle.std.proofs.lemmas.Grind.{common_steps}
use Rattle.cedar_model.specs.Terms.{one_term}
use Rattle.cedar_expressions.specs.View.{terms_view}
use Rattle.cedar_restricted.specs.Parts.{count}
use Rattle.cedar_values.specs.Residuals.{IfValue}
use Rattle.cedar_restricted.specs.Elements.{IsMadeOf, part_copied, set_placed}
use Rattle.cedar_restricted.specs.Steps.{next_is}
use Rattle.cedar_restricted.proofs.parts.PartsFrame.read.Goals as goal

pub returns-in-Ok-clause-reads : goal.returns-in-Ok-clause-reads
returns-in-Ok-clause-reads g c =
    let items = c.args.parts.value.items in
    let n = count c.args.answers in
    let below : n < length items = grind (arith, common_steps) in
    let here : c.index.result.now ≡ get_or items n c.index.result.now = c.index.ensures ∙
    ap (λ v. get_or v.items c.len-done.result c.index.result.now) c.deref-then-done-len.ensures ∙
    ap (λ i. get_or items i c.index.result.now) c.len-done.ensures in (
      refl,
      refl,
      refl,
      refl,
      (
        terms_view (drop (suc n) items),
        next_is items n c.index.result.now below here ∙
            ap (λ t. one_term t (terms_view (drop (suc n) items))) (sym c.in-Ok.ensures.cases.0),
      ),
    )

pub returns-in-Ok-clause-elements : goal.returns-in-Ok-clause-elements
returns-in-Ok-clause-elements g c is first =
    let items = c.args.parts.value.items in
    let n = count c.args.answers in
    let below : n < length items = grind (arith, common_steps) in
    let here : c.index.result.now ≡ get_or items n c.index.result.now = c.index.ensures ∙
    ap (λ v. get_or v.items c.len-done.result c.index.result.now) c.deref-then-done-len.ensures ∙
    ap (λ i. get_or items i c.index.result.now) c.len-done.ensures in
    let copied = c.in-Ok.ensures.cases in record {
      whole = is;
      parts = refl;
      next = part_copied items n c.index.result.now c.in-Ok.part below here copied.0 copied.1 copied.2;
      first = first;
    }

pub returns-in-Ok-whole_of-clause-elements : goal.returns-in-Ok-whole_of-clause-elements
returns-in-Ok-whole_of-clause-elements g c is first =
    let items = c.args.parts.value.items in
    let a = c.args.answers in
    let counted : count a ≡ length items = grind (arith, common_steps) in
    let put = c.with_maybe_source_loc in
    let made = subst (λ r. IfOk r (λ p. IfValue p (IsMadeOf a))) c.in-Ok-whole_of.is (c.whole_of.ensures.elements is) in
    set_placed items a c.in-Ok-whole_of.answer put.result first counted made put.ensures.view put.ensures.inside
