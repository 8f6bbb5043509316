-- The id that one of Cedar's own requests may have, which is handed back.
use Rattle.std.specs.Prelude.{◌≡◌, ◌==◌, ⊤, [], ◌∷◌, ◌++◌, Option, None, Some, IsSomeAnd, if◌then◌else◌, option_map, codes, string_bytes}
use Rattle.json.specs.Json.{Json, document}
use Rattle.json.specs.Find.{get}
use Rattle.json.specs.Print.{print}
use Rattle.json.specs.Strict.{HasUniqueKeys}
use Rattle.json.specs.Tree.{json_tokens, HasNumbers}
use Rattle.cedar_endpoints.specs.declared.documents.Unread.{Unread}
use Rattle.cedar_endpoints.specs.declared.documents.Unread.TheVariants as unreads
use Rattle.cedar_endpoints.specs.declared.replies.Reply.{Reply}
use Rattle.cedar_endpoints.specs.Asked.{Text}
use Rattle.cedar_endpoints.specs.Documents.{IsDocument}
use Rattle.cedar_endpoints.specs.Replies.{Replies}

-- ---- the id of a request

-- a value as text, on one line and without a space
abbrev pub json_text : Json → Text
json_text j = print (json_tokens j)

abbrev pub id_text : Option Json → Option Text
id_text o = option_map json_text o

-- the id of a request, as text, if it has one: any value
abbrev pub given_id : Json → Option Text
given_id j = id_text (get (codes "id") j)

-- the same of the request that a text is; none of one that is no JSON, or in which an object has a key twice
pub data IsIdIn (text : Text) (id : Option Text) : Type 0 where
  is_unread : document text ≡ None → id ≡ None → IsIdIn text id
  is_repeated : IsSomeAnd (document text) (λ j. ¬ HasUniqueKeys j) → id ≡ None → IsIdIn text id
  is_said : {j : Json} → IsDocument text j → id ≡ given_id j → IsIdIn text id

-- ---- in a reply

-- what stands behind the opening of the object that a text is
abbrev pub inside : Text → Option Text
inside [] = None
inside (c ∷ rest) = if c == 123 then Some rest else None

-- the id first of all in an object; a text that is none stays
abbrev pub put_first : Text → Text → Option Text → Text
put_first id t None = t
put_first id t (Some rest) = codes "{\"id\":" ++ (id ++ (codes "," ++ rest))

abbrev pub with_id : Option Text → Text → Text
with_id None t = t
with_id (Some id) t = put_first id t (inside t)

-- the reply is what is due without the id, with the id put in
pub record HandsBack (id : Option Text) (IsDue : Reply → Type 0) (r : Reply) : Type 0 where
  pub due : Reply
  pub is_due : IsDue due
  pub is_put : Replies due.status (with_id id (string_bytes due.body)) r

-- ---- for private clauses

-- the numbers of what there is are numbers, so that it can be written
abbrev pub HaveNumbers : Option Json → Type 0
HaveNumbers None = ⊤
HaveNumbers (Some j) = HasNumbers j

-- what was not read has no id
abbrev pub IsIdUnread : Unread → Option Text → Type 0
IsIdUnread unreads.Syntax id = id ≡ None
IsIdUnread unreads.DuplicateKey id = id ≡ None
IsIdUnread unreads.Memory id = ⊥
