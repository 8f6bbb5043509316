use Rattle.std.proofs.Common.{sym, ap, ◌∙◌, map}
use Rattle.std.proofs.lemmas.List.{map-append}
use Rattle.cedar_names.specs.Names.{uid_name}
use Rattle.cedar_layers.specs.Stores.{store_view, entity_view, found_view}
use Rattle.cedar_authorizer.proofs.Reaching.{covers_found, covers_alone}
use Rattle.cedar_authorizer.proofs.authorizer.reaching.add_entity.Goals as goal

pub returns-in_ok-add_ancestors-in-Data : goal.returns-in_ok-add_ancestors-in-Data
returns-in_ok-add_ancestors-in-Data c =
    covers_found (uid_name c.args.uid.now) (store_view c.args.entities.now) (entity_view c.in-Data.entity.now) _ (map (λ u. uid_name u.now) c.push.new.self.items) _
    (sym (ap found_view c.in-Data.is) ∙ c.in_ok-entity.ensures.found)
    (ap (map (λ u. uid_name u.now)) c.in_ok-push-in-Data.ensures.items ∙ map-append (λ u. uid_name u.now) _ _)
    c.in_ok-add_ancestors-in-Data.ensures

pub returns-in_ok-push-in-NoSuchEntity : goal.returns-in_ok-push-in-NoSuchEntity
returns-in_ok-push-in-NoSuchEntity c =
    covers_alone (uid_name c.args.uid.now) (store_view c.args.entities.now) _ _
    (sym (ap found_view c.in-NoSuchEntity.is) ∙ c.in_ok-entity.ensures.found)
    (ap (map (λ u. uid_name u.now)) c.in_ok-push-in-NoSuchEntity.ensures.items ∙ map-append (λ u. uid_name u.now) _ _)
