use Rattle.std.proofs.Common.{◌≡◌, [], ◌∷◌, ◌++◌, List, sym, ap, ◌∙◌, subst, append_assoc, append-nil, map}
use Rattle.cedar_model.specs.Terms.{EntityName}
use Rattle.cedar_names.specs.Names.{uid_name}
use Rattle.cedar_names.proofs.Among.{is_among-none}
use Rattle.cedar_layers.specs.Stores.{stored_entity}
use Rattle.cedar_overlay.specs.Recorded.{Notes}
use Rattle.cedar_overlay.proofs.Noted.{nothing_noted, noted_more}
use Rattle.cedar_overlay.proofs.base.note_each.Goals as goal

pub ancestors-init : goal.ancestors-init
ancestors-init c = (
  [],
  sym (ap (map uid_name) c.into_iter-ancestor-iterator.ensures.into_iter_gives.0),
  nothing_noted (stored_entity c.args.entities.now) c.args.missing.now.entries [] (uid_name c.args.of.now) (λ n h. absurd (is_among-none n h)),
)

pub ancestors-preserved : goal.ancestors-preserved
ancestors-preserved c =
    let done = c.ancestors.invariant.0 in
    let n = uid_name c.in-Some.ancestor.now in
    let rest = map uid_name c.next.new.self in (
      done ++ n ∷ [],
      c.ancestors.invariant.1 ∙ ap (λ us. done ++ map uid_name us) c.in-Some.ensures.steps ∙ sym (append_assoc done (n ∷ []) rest),
      noted_more (stored_entity c.args.entities.now) c.args.missing.now.entries c.ancestors.missing.entries c.note.new.missing.entries done n (uid_name c.args.of.now) c.ancestors.invariant.2 c.in_ok-note.ensures,
    )

pub returns : goal.returns
returns c =
    let done = c.ancestors.invariant.0 in
    let all : map uid_name c.args.ancestors.now.keys ≡ done = c.ancestors.invariant.1 ∙ ap (λ us. done ++ map uid_name us) c.in-None.ensures.steps.0 ∙ append-nil done in
    subst (λ (ns : List EntityName). Notes (stored_entity c.args.entities.now) c.args.missing.now.entries c.ancestors.missing.entries ns (uid_name c.args.of.now)) (sym all) c.ancestors.invariant.2
