-- What a body is: a JSON document, or none.
use Rattle.std.specs.Prelude.{◌≡◌, ⊤, [], None, Some, IsSomeAnd, codes}
use Rattle.std.specs.Str.{IsUtf8}
use Rattle.json.specs.Json.{Json, document}
use Rattle.json.specs.Strict.{HasUniqueKeys}
use Rattle.cedar_endpoints.specs.declared.replies.Reply.{Reply}
use Rattle.cedar_endpoints.specs.declared.documents.Unread.{Unread}
use Rattle.cedar_endpoints.specs.declared.documents.Unread.TheVariants as unreads
use Rattle.cedar_endpoints.specs.declared.answers.Status.TheVariants as statuses
use Rattle.cedar_endpoints.specs.Asked.{Text, Fault}
use Rattle.cedar_endpoints.specs.Replies.{IsFault}

-- the text is this JSON, in which no object has a key twice
pub record IsDocument (text : Text) (j : Json) : Type 0 where
  pub is_json : document text ≡ Some j
  pub unique : HasUniqueKeys j

-- the whole body is wrong, for this reason
abbrev pub whole : Text → Fault
whole reason = record { part = []; member = []; reason = reason }

-- what is replied to a body: what is due to the document that it is, or 400 since it is none
pub data IsRepliedTo (P : Json → Reply → Type 0) (body : Text) (r : Reply) : Type 0 where
  no_text : ¬ IsUtf8 body → IsFault statuses.BadRequest (whole (codes "not UTF-8")) r → IsRepliedTo P body r
  no_json : document body ≡ None → IsFault statuses.BadRequest (whole (codes "not JSON")) r → IsRepliedTo P body r
  twice : IsSomeAnd (document body) (λ j. ¬ HasUniqueKeys j)
      → IsFault statuses.BadRequest (whole (codes "a key comes twice in an object")) r → IsRepliedTo P body r
  of_document : {j : Json} → IsDocument body j → P j r → IsRepliedTo P body r

-- why a text was not read, for private clauses
abbrev pub IsUnread : Text → Unread → Type 0
IsUnread text unreads.Syntax = document text ≡ None
IsUnread text unreads.DuplicateKey = IsSomeAnd (document text) (λ j. ¬ HasUniqueKeys j)
IsUnread text unreads.Memory = ⊤

abbrev pub IsReplyUnread : Unread → Reply → Type 0
IsReplyUnread unreads.Syntax r = IsFault statuses.BadRequest (whole (codes "not JSON")) r
IsReplyUnread unreads.DuplicateKey r = IsFault statuses.BadRequest (whole (codes "a key comes twice in an object")) r
IsReplyUnread unreads.Memory r = ⊥
