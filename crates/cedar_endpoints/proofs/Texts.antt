-- What is replied to a body, by what was read of it.
use Rattle.std.proofs.Common.{Result, Ok, Err, codes, IfOk}
use Rattle.std.specs.Str.{IsUtf8}
use Rattle.std.specs.declared.alloc.AllocError.{AllocError}
use Rattle.json.specs.Json.{Json}
use Rattle.cedar_endpoints.specs.declared.replies.Reply.{Reply}
use Rattle.cedar_endpoints.specs.declared.documents.Unread.{Unread}
use Rattle.cedar_endpoints.specs.declared.documents.Unread.TheVariants as unreads
use Rattle.cedar_endpoints.specs.declared.answers.Status.TheVariants as statuses
use Rattle.cedar_endpoints.specs.Asked.{Text}
use Rattle.cedar_endpoints.specs.Replies.{IsFault}
use Rattle.cedar_endpoints.specs.Documents.{IsDocument, IsRepliedTo, no_text, no_json, twice, of_document, whole, IsUnread, IsReplyUnread}

-- what holds of each answer holds of the one that is given
pub of_ok : {A E : Type 0} (P Q : A → Type 0) → ((a : A) → P a → Q a) → (r : Result A E) → IfOk r P → IfOk r Q
of_ok P Q f (Ok a) h = f a h
of_ok P Q f (Err e) h = tt

module _ (P : Json → Reply → Type 0) (body : Text) (o : Result Reply AllocError) where
  pub as_no_text : ¬ IsUtf8 body → IfOk o (IsFault statuses.BadRequest (whole (codes "not UTF-8"))) → IfOk o (IsRepliedTo P body)
  as_no_text is h = of_ok _ _ (λ r k. no_text is k) o h

  pub as_document : (j : Json) → IsDocument body j → IfOk o (P j) → IfOk o (IsRepliedTo P body)
  as_document j is h = of_ok _ _ (λ r k. of_document is k) o h

  unread_as : (u : Unread) → IsUnread body u → (r : Reply) → IsReplyUnread u r → IsRepliedTo P body r
  unread_as unreads.Syntax is r h = no_json is h
  unread_as unreads.DuplicateKey is r h = twice is h
  unread_as unreads.Memory is r h = absurd h

  pub as_unread : (u : Unread) → IsUnread body u → IfOk o (IsReplyUnread u) → IfOk o (IsRepliedTo P body)
  as_unread u is h = of_ok _ _ (unread_as u is) o h

pub ruleset texts = (as_no_text, as_document, as_unread)
