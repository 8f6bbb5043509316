-- Items, one after another.
use Rattle.std.proofs.Common.{◌≡◌, List, ℕ, [], ◌∷◌, ◌++◌, ◌+◌, ◌<◌, Bool, true, false, length, drop, get_or, sym, ap, subst, ◌∙◌, append_assoc}
use Rattle.std.proofs.lemmas.List.{drop_more}
use Rattle.json.specs.Json.{Json, Items, item}
use Rattle.json.specs.Value.{value_view, items_view}
use Rattle.json.specs.declared.value.Value.{Value}
use Rattle.cedar_endpoints.specs.Asked.{Text}
use Rattle.cedar_endpoints.specs.Several.{AreItems, goes_on, stops_at}

pub items_drop : {A : Type 0} (vs : List (Value A)) (i : ℕ) (v : Value A) → i < length vs → v ≡ get_or vs i v
    → items_view (drop i vs) ≡ item (value_view v) (items_view (drop (i + 1) vs))
items_drop vs i v h is = rw (drop_more vs i v h, ← is)

module _ (stop : Bool → Bool) (Is : Json → Bool → Text → Type 0) (all left rest : Items) (j : Json) (b : Bool) (t : Text)
    (done after : List Text) (is : left ≡ item j rest) (one : Is j b t) (more : after ≡ done ++ t ∷ [])
    (leads : (ts : List Text) → AreItems stop Is left ts → AreItems stop Is all (done ++ ts)) where
  -- those that are left, with one more
  pub item_left : stop b ≡ false → (ts : List Text) → AreItems stop Is rest ts → AreItems stop Is all (after ++ ts)
  item_left goes ts others =
      let each : AreItems stop Is left (t ∷ ts) =
      subst (λ (x : Items). AreItems stop Is x (t ∷ ts)) (sym is) (goes_on one goes others) in
      let same : done ++ t ∷ ts ≡ after ++ ts =
      sym (append_assoc done (t ∷ []) ts) ∙ ap (λ (a : List Text). a ++ ts) (sym more) in
      subst (λ (x : List Text). AreItems stop Is all x) same (leads (t ∷ ts) each)

  -- the one at which it stops
  pub item_last : stop b ≡ true → AreItems stop Is all after
  item_last goes =
      let each : AreItems stop Is left (t ∷ []) =
      subst (λ (x : Items). AreItems stop Is x (t ∷ [])) (sym is) (stops_at one goes) in
      subst (λ (x : List Text). AreItems stop Is all x) (sym more) (leads (t ∷ []) each)
