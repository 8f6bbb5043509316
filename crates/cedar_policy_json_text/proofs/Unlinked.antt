-- Templates without links, one by one.
use Rattle.std.proofs.Common.{◌≡◌, refl, sym, ap, ◌∙◌, Bool, true, false, if◌then◌else◌, List, [], ◌∷◌, ◌++◌, append_assoc, append-nil}
use Rattle.cedar_layers.specs.Policies.{PolicyView}
use Rattle.cedar_template_links.specs.Links.{LinkView}
use Rattle.cedar_policy_json_text.specs.Placed.{has_link, unlinked}

step : (b : Bool) (done : List PolicyView) (t : PolicyView) (rest : List PolicyView)
    → done ++ (if b then rest else t ∷ rest) ≡ (if b then done else done ++ t ∷ []) ++ rest
step true done t rest = refl
step false done t rest = sym (append_assoc done (t ∷ []) rest)

-- one more that was looked at
pub looked_at : (ls : List LinkView) (all done new : List PolicyView) (t : PolicyView) (rest : List PolicyView)
    → done ++ unlinked ls (t ∷ rest) ≡ all → new ≡ (if has_link t.id ls then done else done ++ t ∷ []) → new ++ unlinked ls rest ≡ all
looked_at ls all done new t rest whole is =
    ap (λ (us : List PolicyView). us ++ unlinked ls rest) is ∙ sym (step (has_link t.id ls) done t (unlinked ls rest)) ∙ whole

-- none is left
pub all_looked_at : (ls : List LinkView) (all done left : List PolicyView) → left ≡ [] → done ++ unlinked ls left ≡ all → done ≡ all
all_looked_at ls all done left none whole = sym (append-nil done) ∙ ap (λ (us : List PolicyView). done ++ unlinked ls us) (sym none) ∙ whole
