use Rattle.std.proofs.Common.{◌≡◌, ℕ, ◌+◌, ◌∷◌, List, [], drop, sym, ap, ◌∙◌, subst, arith}
use Rattle.std.proofs.lemmas.List.{drop_more, drop_all}
use Rattle.cedar_layers.specs.declared.policies.entities.Entity.{Entity}
use Rattle.cedar_json_reader.specs.NothingUnknown.{unknown_from, IsUnknownAt}
use Rattle.cedar_json_reader.proofs.UnknownLemmas.{next_known, first_unknown, known_from}
use Rattle.cedar_json_reader.proofs.unknowns.refuse_unknown_entities.Goals as goal

pub returns-in-Err-clause-refused : goal.returns-in-Err-clause-refused
returns-in-Err-clause-refused c =
    let l = c.entities in
    let es = c.args.entities.now in
    let e = c.entity-item.result in
    let here : drop l.entity-index es ≡ e ∷ drop (l.entity-index + 1) es =
    drop_more es l.entity-index e (omega arith) ∙ ap (λ y. y ∷ drop (l.entity-index + 1) es) (sym c.entity-item.is) in
    let same : unknown_from l.index (e ∷ drop (l.entity-index + 1) es) ≡ unknown_from 0 es =
    ap (unknown_from l.index) (sym here) ∙ l.invariant.1 in
    subst (λ o. IsUnknownAt o c.under_index.result) same
    (first_unknown l.index e (drop (l.entity-index + 1) es) c.in-Err.error c.under_index.result c.in-Err.ensures.refused
    c.under_index.ensures)

pub entities-preserved : goal.entities-preserved
entities-preserved c =
    let l = c.entities in
    let es = c.args.entities.now in
    let e = c.entity-item.result in
    let here : drop l.entity-index es ≡ e ∷ drop (l.entity-index + 1) es =
    drop_more es l.entity-index e (omega arith) ∙ ap (λ y. y ∷ drop (l.entity-index + 1) es) (sym c.entity-item.is) in (
      ap (λ (n : ℕ). n + 1) l.invariant.0,
      sym (next_known l.index e (drop (l.entity-index + 1) es) c.in-Ok.ensures.known) ∙ ap (unknown_from l.index) (sym here)
          ∙ l.invariant.1,
    )

pub returns-clause-known : goal.returns-clause-known
returns-clause-known c =
    let l = c.entities in
    let es = c.args.entities.now in
    let none : drop l.entity-index es ≡ [] = drop_all l.entity-index es (omega arith) in
    known_from 0 es (sym l.invariant.1 ∙ ap (unknown_from l.index) none)
