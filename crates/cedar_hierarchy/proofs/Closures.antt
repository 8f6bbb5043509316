-- The store of closed entities against what was handed in.
use Rattle.std.proofs.Common.{◌≡◌, refl, sym, ap, ◌∙◌, subst, Bool, true, false, ◌↔◌, List, [], ◌∷◌, ◌++◌, append_assoc, append-nil, map, Option, None, Some, if◌then◌else◌}
use Rattle.std.proofs.lemmas.Bool.{both_ways}
use Rattle.std.specs.List.{AllZip, list_any}
use Rattle.std.specs.Prelude.{⊤, IfOk, Result}
use Rattle.std.specs.declared.alloc.Global.{Global}
use Rattle.std.specs.declared.vec.Vec.{Vec}
use Rattle.cedar_model.specs.Terms.{EntityName}
use Rattle.cedar_model.specs.Outcomes.{entity_eq}
use Rattle.cedar_model.specs.Settings.{is_among}
use Rattle.cedar_names.specs.declared.names.EntityUID.{EntityUID}
use Rattle.cedar_names.specs.Names.{uid_name}
use Rattle.cedar_names.specs.Order.{is_tied}
use Rattle.cedar_layers.specs.declared.policies.entities.Entity.{Entity}
use Rattle.cedar_layers.specs.Stores.{Standing, none_stands, standing_with, standing_with_each, last_of_each_name, entity_name, entity_ancestors}
use Rattle.cedar_layers.proofs.Stores.{last_is_named, list_any-uids}
use Rattle.cedar_names.proofs.Among.{is_among-none}
use Rattle.cedar_hierarchy.specs.declared.error.ClosureError.{ClosureError}
use Rattle.cedar_hierarchy.specs.Paths.{Parentage, Leads, AreLedTo}
use Rattle.cedar_hierarchy.specs.Ancestry.{recorded, parents_of, KeepsParts, AreAlike, IsClosed}
use Rattle.cedar_hierarchy.proofs.Walking.{leads_nowhere}

-- the second is the first closed, or there is neither
abbrev AreClosed : Parentage → Option Entity → Option Entity → Type 0
AreClosed parents None None = ⊤
AreClosed parents None (Some f) = ⊥
AreClosed parents (Some e) None = ⊥
AreClosed parents (Some e) (Some f) = IsClosed parents e f

closed-if : (parents : Parentage) (b : Bool) (e f : Entity) (o p : Option Entity) → IsClosed parents e f → AreClosed parents o p → AreClosed parents (if b then Some e else o) (if b then Some f else p)
closed-if parents true e f o p here before = here
closed-if parents false e f o p here before = before

closed_with : (parents : Parentage) (f g : Standing) → ((n : EntityName) → AreClosed parents (f n) (g n)) → (d e : Entity) → IsClosed parents d e → (n : EntityName) → AreClosed parents (standing_with f d n) (standing_with g e n)
closed_with parents f g before d e here n =
    let name : entity_name d ≡ entity_name e = sym (ap uid_name here.parts.uid) in
    let claim : EntityName → Type 0 = λ m. AreClosed parents (if entity_eq n (entity_name d) then Some d else f n) (if entity_eq n m then Some e else g n) in
    subst claim name (closed-if parents (entity_eq n (entity_name d)) d e (f n) (g n) here (before n))

closed_with_each : (parents : Parentage) (f g : Standing) → ((n : EntityName) → AreClosed parents (f n) (g n)) → (ds es : List Entity) → AllZip (IsClosed parents) ds es → (n : EntityName) → AreClosed parents (standing_with_each f ds n) (standing_with_each g es n)
closed_with_each parents f g before [] [] h n = before n
closed_with_each parents f g before [] (e ∷ es) h n = absurd h
closed_with_each parents f g before (d ∷ ds) [] h n = absurd h
closed_with_each parents f g before (d ∷ ds) (e ∷ es) h n =
    closed_with_each parents (standing_with f d) (standing_with g e) (closed_with parents f g before d e h.0) ds es h.1 n

-- ---- one entity

-- an entity that is among what its parents lead to is on a cycle
pub cycle_found : (parents : Parentage) (d u v w : EntityUID) (us : List EntityUID) (b : Bool) → uid_name u ≡ uid_name d → uid_name v ≡ uid_name d → uid_name w ≡ uid_name d → AreLedTo parents (uid_name u) (map uid_name us) → b ≡ list_any (is_tied v) us → b ≡ true → Leads parents (uid_name w) (uid_name w)
cycle_found parents d u v w us b of_u of_v of_w led tested h =
    let among : is_among (uid_name d) (map uid_name us) ≡ true = ap (λ (n : EntityName). is_among n (map uid_name us)) (sym of_v) ∙ sym (list_any-uids v us) ∙ sym tested ∙ h in
    let leads : EntityName → Type 0 = λ n. Leads parents n n in
    let are_led : EntityName → Type 0 = λ n. AreLedTo parents n (map uid_name us) in
    subst leads (sym of_w) ((subst are_led of_u led (uid_name d)).0 among)

-- an entity that isn't, with these ancestors, is closed
pub is_closed : (parents : Parentage) (e f : Entity) (u v : EntityUID) (us : List EntityUID) (b : Bool) → uid_name u ≡ entity_name e → uid_name v ≡ entity_name e → AreLedTo parents (uid_name u) (map uid_name us) → b ≡ list_any (is_tied v) us → b ≡ false → KeepsParts e f → entity_ancestors f ≡ us → IsClosed parents e f
is_closed parents e f u v us b of_u of_v led tested h parts own =
    let apart : is_among (entity_name e) (map uid_name us) ≡ false = ap (λ (n : EntityName). is_among n (map uid_name us)) (sym of_v) ∙ sym (list_any-uids v us) ∙ sym tested ∙ h in
    let are_led : EntityName → Type 0 = λ n. AreLedTo parents n (map uid_name us) in
    let all_led : AreLedTo parents (entity_name e) (map uid_name us) = subst are_led of_u led in
    let of_these : List EntityUID → Type 0 = λ vs. AreLedTo parents (entity_name e) (map uid_name vs) in
    record {
      parts = parts;
      ancestors = subst of_these (sym own) all_led;
      acyclic = λ l. both_ways (is_among (entity_name e) (map uid_name us)) apart ((all_led (entity_name e)).1 l);
    }

-- ---- a turn of the loop over the entities

pub one_more_closed : (parents : Parentage) (all left each more rest : List Entity) (e f : Entity) (before : List Entity) → before ≡ e ∷ left → more ≡ each ++ f ∷ [] → IsClosed parents e f → ((others : List Entity) → AllZip (IsClosed parents) before others → AllZip (IsClosed parents) all (each ++ others)) → AllZip (IsClosed parents) left rest → AllZip (IsClosed parents) all (more ++ rest)
one_more_closed parents all left each more rest e f before first added closed so_far h =
    let here : AllZip (IsClosed parents) (e ∷ left) (f ∷ rest) = (closed, h) in
    let from : List Entity → Type 0 = λ ds. AllZip (IsClosed parents) ds (f ∷ rest) in
    let claim : List Entity → Type 0 = λ es. AllZip (IsClosed parents) all es in
    let joined : more ++ rest ≡ each ++ f ∷ rest = ap (λ (es : List Entity). es ++ rest) added ∙ append_assoc each (f ∷ []) rest in
    subst claim (sym joined) (so_far (f ∷ rest) (subst from (sym first) here))

pub all_closed : (parents : Parentage) (all left each : List Entity) → left ≡ [] → ((others : List Entity) → AllZip (IsClosed parents) left others → AllZip (IsClosed parents) all (each ++ others)) → AllZip (IsClosed parents) all each
all_closed parents all left each none so_far =
    let from : List Entity → Type 0 = λ ds. AllZip (IsClosed parents) ds [] in
    let claim : List Entity → Type 0 = λ es. AllZip (IsClosed parents) all es in
    subst claim (append-nil each) (so_far [] (subst from (sym none) tt))

-- ---- the store

-- what the store has of one name
record HasClosed (parents : Parentage) (n : EntityName) (o p : Option Entity) : Type 0 where
  alike : AreAlike o p
  ancestors : (m : EntityName) → (is_among m (recorded p) ≡ true) ↔ Leads parents n m
  acyclic : ¬ Leads parents n n

has_closed : (parents : Parentage) (n : EntityName) (o p : Option Entity) → parents n ≡ recorded o → ((e : Entity) → o ≡ Some e → entity_name e ≡ n) → AreClosed parents o p → HasClosed parents n o p
has_closed parents n None None none named h = record {
  alike = tt;
  ancestors = λ m. (λ k. absurd (is_among-none m k), λ l. absurd (leads_nowhere parents n m none l));
  acyclic = leads_nowhere parents n n none;
}
has_closed parents n None (Some f) own named h = absurd h
has_closed parents n (Some e) None own named h = absurd h
has_closed parents n (Some e) (Some f) own named h =
    let name : entity_name e ≡ n = named e refl in
    let led : EntityName → Type 0 = λ k. AreLedTo parents k (recorded (Some f)) in
    let free : EntityName → Type 0 = λ k. ¬ Leads parents k k in
    record {
      alike = h.parts;
      ancestors = subst led name h.ancestors;
      acyclic = subst free name h.acyclic;
    }

-- the store of closed entities, and of what was handed in, by the parents that a map lists
module _ (listed : Parentage) (ds es : List Entity) (stored : Standing) (recorded_so : listed ≡ parents_of ds) (closed : AllZip (IsClosed listed) ds es) (stands : stored ≡ last_of_each_name es) where
  has_each : (n : EntityName) → HasClosed (parents_of ds) n (last_of_each_name ds n) (stored n)
  has_each n =
      let each : Parentage → Type 0 = λ parents. AllZip (IsClosed parents) ds es in
      let claim : Standing → Type 0 = λ f. HasClosed (parents_of ds) n (last_of_each_name ds n) (f n) in
      subst claim (sym stands) (has_closed (parents_of ds) n (last_of_each_name ds n) (last_of_each_name es n) refl (last_is_named ds n) (closed_with_each (parents_of ds) none_stands none_stands (λ m. tt) ds es (subst each recorded_so closed) n))

  pub has_alike : (n : EntityName) → AreAlike (last_of_each_name ds n) (stored n)
  has_alike n = (has_each n).alike

  pub has_ancestors : (n m : EntityName) → (is_among m (recorded (stored n)) ≡ true) ↔ Leads (parents_of ds) n m
  has_ancestors n = (has_each n).ancestors

  pub has_no_cycle : (n : EntityName) → ¬ Leads (parents_of ds) n n
  has_no_cycle n = (has_each n).acyclic

-- the same of entities that are closed by the parents that a map lists, where there is no refusal
pub closed_by_own : (listed : Parentage) (ds : List Entity) (r : Result (Vec Entity Global) ClosureError) → listed ≡ parents_of ds → IfOk r (λ v. AllZip (IsClosed listed) ds v.items) → IfOk r (λ v. AllZip (IsClosed (parents_of ds)) ds v.items)
closed_by_own listed ds r recorded_so closed =
    let each : Parentage → Type 0 = λ parents. IfOk r (λ v. AllZip (IsClosed parents) ds v.items) in
    subst each recorded_so closed
