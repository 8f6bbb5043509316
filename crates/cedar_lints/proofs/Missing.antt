-- What is absent of policies and then of others.
use Rattle.std.proofs.Common.{◌≡◌, ◌∙◌, ap, sym, refl, List, [], ◌∷◌, ◌++◌, append_assoc}
use Rattle.cedar_layers.specs.declared.policies.policy.Policy.{Policy}
use Rattle.cedar_lints.specs.Absent.{Extent, absent_each, absent_in, mention_key}
use Rattle.cedar_lints.specs.Keys.{Sheet, noted_each, nothing}
use Rattle.cedar_lints.specs.Knowing.{Known}
use Rattle.cedar_lints.specs.Mentions.{Mention}
use Rattle.cedar_lints.proofs.Noting.{noted_each-append}

absent_each-append : (x : Extent) (k : Known) (ps qs : List Policy) → absent_each x k (ps ++ qs)
    ≡ absent_each x k ps ++ absent_each x k qs
absent_each-append x k [] qs = refl
absent_each-append x k (p ∷ ps) qs =
    ap (λ ms. absent_in x k p ++ ms) (absent_each-append x k ps qs)
    ∙ sym (append_assoc (absent_in x k p) (absent_each x k ps) (absent_each x k qs))

pub both_noted : (x : Extent) (k : Known) (ps qs : List Policy) (fresh one both : Sheet Mention) → fresh
    ≡ nothing Mention
    → one ≡ noted_each mention_key fresh (absent_each x k ps) → both ≡ noted_each mention_key one (absent_each x k qs)
    → both ≡ noted_each mention_key (nothing Mention) (absent_each x k (ps ++ qs))
both_noted x k ps qs fresh one both none first second =
    second
    ∙ ap (λ s. noted_each mention_key s (absent_each x k qs))
    (first ∙ ap (λ s. noted_each mention_key s (absent_each x k ps)) none)
    ∙ sym (noted_each-append mention_key (nothing Mention) (absent_each x k ps) (absent_each x k qs))
    ∙ ap (noted_each mention_key (nothing Mention)) (sym (absent_each-append x k ps qs))
