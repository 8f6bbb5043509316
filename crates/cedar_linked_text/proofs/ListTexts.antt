-- What a text lists is what its JSON value says.
use Rattle.std.proofs.Common.{◌≡◌, Some, List, sym, subst, Option}
use Rattle.std.specs.Prelude.{IsSomeAnd}
use Rattle.json.specs.Json.{Json, document}
use Rattle.json.specs.Strict.{HasUniqueKeys}
use Rattle.cedar_model.specs.Terms.{Text}
use Rattle.cedar_policy_json_reader.specs.declared.errors.PolicyJsonError.{PolicyJsonError}
use Rattle.cedar_policy_json_reader.specs.declared.errors.PolicyJsonError.TheVariants as errors
use Rattle.cedar_policy_json_reader.specs.JsonTexts.{IsUnread}
use Rattle.cedar_template_links.specs.Links.{LinkView}
use Rattle.cedar_template_links.specs.LinkFiles.{IsSaidBy, IsUnsaid, unwritten, unread}
use Rattle.cedar_linked_text.specs.LinkedTexts.{IsListOf, IsNoList}

pub text_lists : (text : Text) (j : Json) (ls : List LinkView) → document text ≡ Some j → HasUniqueKeys j → IsSaidBy j ls → IsListOf text ls
text_lists text j ls is unique h = subst (λ (o : Option Json). IsSomeAnd o (λ i. HasUniqueKeys i × IsSaidBy i ls)) (sym is) (unique, h)

pub list_unread : (text : Text) (e : PolicyJsonError) → IsUnread text e → IsNoList text e
list_unread text errors.Syntax h = h
list_unread text errors.DuplicateKey h = h
list_unread text (errors.Refused p r) h = absurd h
list_unread text (errors.Memory m) h = tt

never_unread : (j : Json) → IsUnsaid j errors.Syntax → ⊥
never_unread j (unwritten h) = h
never_unread j (unread said h) = h

never_unique : (j : Json) → IsUnsaid j errors.DuplicateKey → ⊥
never_unique j (unwritten h) = h
never_unique j (unread said h) = h

pub list_refused : (text : Text) (j : Json) (e : PolicyJsonError) → document text ≡ Some j → IsUnsaid j e → IsNoList text e
list_refused text j errors.Syntax is h = absurd (never_unread j h)
list_refused text j errors.DuplicateKey is h = absurd (never_unique j h)
list_refused text j (errors.Refused p r) is h = subst (λ (o : Option Json). IsSomeAnd o (λ i. IsUnsaid i (errors.Refused p r))) (sym is) h
list_refused text j (errors.Memory m) is h = tt

pub ruleset lists = (text_lists, list_unread, list_refused)
