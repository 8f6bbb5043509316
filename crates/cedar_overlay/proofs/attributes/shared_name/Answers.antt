use Rattle.std.proofs.Common.{◌≡◌, false, [], ◌∷◌, ◌++◌, ◌||◌, Some, None, map, sym, ap, ◌∙◌, refl, append_assoc}
use Rattle.std.proofs.lemmas.List.Folds.{list_any-append}
use Rattle.std.specs.List.{list_any}
use Rattle.std.specs.Option.{is_some}
use Rattle.std.specs.Rc.{rc_str_bytes}
use Rattle.cedar_model.specs.Settings.{part_at, names_of}
use Rattle.cedar_layers.specs.Parts.{found_part}
use Rattle.cedar_layers.specs.Stores.{entity_view}
use Rattle.cedar_overlay.specs.Overlaid.{values_view}
use Rattle.cedar_overlay.proofs.Parts.{names_of_values, part_there, append_nil_texts}
use Rattle.cedar_overlay.proofs.attributes.shared_name.Goals as goal

pub names-init : goal.names-init
names-init c = (
  [],
  sym (names_of_values c.args.attributes.now.entries) ∙ ap (map rc_str_bytes) (sym (c.into_iter-name-iterator.ensures.into_iter_gives ∙ c.keys-name-items.ensures.rest)),
  refl,
)

pub names-preserved : goal.names-preserved
names-preserved c =
    let done = c.names.invariant.0 in
    let k = rc_str_bytes c.in-Some.name.now in
    let rest = map rc_str_bytes c.next.new.self in
    let own = (entity_view c.args.stored.now).attributes in
    let none : part_at k own ≡ None = sym (ap (λ t. part_at t own) c.as_str.ensures.value) ∙ sym c.in-None-get.ensures.value in (
      done ++ k ∷ [],
      c.names.invariant.1 ∙ ap (λ ks. done ++ map rc_str_bytes ks) c.in-Some.ensures.steps ∙ sym (append_assoc done (k ∷ []) rest),
      list_any-append (λ l. is_some (part_at l own)) done (k ∷ []) ∙ (λ i. c.names.invariant.2 i || (is_some (none i) || false)),
    )

pub returns-in-Some-get : goal.returns-in-Some-get
returns-in-Some-get c =
    let done = c.names.invariant.0 in
    let k = rc_str_bytes c.in-Some.name.now in
    let rest = map rc_str_bytes c.next.new.self in
    let own = (entity_view c.args.stored.now).attributes in
    let found : found_part (Some c.in-Some-get.field-0.now) ≡ part_at k own = c.in-Some-get.ensures.value ∙ ap (λ t. part_at t own) c.as_str.ensures.value in
    record {
      first = part_there (values_view c.args.attributes.now) done k rest (c.names.invariant.1 ∙ ap (λ ks. done ++ map rc_str_bytes ks) c.in-Some.ensures.steps);
      second = ap is_some (sym found);
    }

pub returns : goal.returns
returns c =
    let own = (entity_view c.args.stored.now).attributes in
    let done = c.names.invariant.0 in
    let all : names_of (values_view c.args.attributes.now) ≡ done = c.names.invariant.1 ∙ ap (λ ks. done ++ map rc_str_bytes ks) c.in-None.ensures.steps.0 ∙ append_nil_texts done in
    ap (list_any (λ l. is_some (part_at l own))) all ∙ c.names.invariant.2
